-- A load of a sealed word keeps the invariant: it reads what is known, and what it names is then known.
use Rattle.std.proofs.Common.{◌≡◌, ◌≢◌, ◌⊎◌, inl, inr, ⊎_elim, ℕ, List, [], ◌∷◌, get_or, set, nat_eq, cond, Bool, true, false, if◌then◌else◌, refl, sym, ap, ◌∙◌, subst, arith, Option, Some, None, All}
use mathlib.Core.Option.{some}
use lib.ListN.{get_elem?}
use native.Mathlib.Decide.{ℕ_discrete}
use Rattle.std.proofs.lemmas.List.Elements.{All-cons, All-nil, All-append, All-contains}
use Rattle.std.proofs.lemmas.Bool.Decides.{nat_tests}
use Rattle.atomic_table.specs.Table.{Step as TableStep}
use Rattle.set_model.specs.declared.entry.Entry.{Entry}
use Rattle.step_core.specs.States.{RoundState, IsGeneration}
use Rattle.step_core.specs.declared.kinds.Step.TheVariants.{LoadSealed}
use Rattle.step_core.specs.declared.published.Published.{Published}
use Rattle.step_core.specs.declared.published.Published.TheVariants.{Generation, Row, Op}
use Rattle.step_core.specs.declared.views.Known.{Known}
use Rattle.step_core.specs.declared.views.PassView.{PassView}
use Rattle.step_core.specs.declared.views.RoundFacts.{RoundFacts}
use Rattle.cells.specs.Invariant.{HoldsRound}
use Rattle.cells.specs.Known.{known_block, KnowsSealed, link_of, IsSealedWord}
use Rattle.cells.specs.Sound.{IsSound}
use Rattle.cells.specs.Lone.{head_at, first_generation, head_generation}
use Rattle.cells.specs.Moves.{Moved, Moves, load_sealed_tells}
use Rattle.cells.specs.Paid.{wins_of}
use Rattle.cells.specs.Steps.{LoadsSealed, ReadsSealed, LearnsOp, LearnsPredecessor, LearnsNothing, view_after_load_sealed}
use Rattle.step_core.specs.Fits.{IsPublished}
use Rattle.cells.proofs.keeps.MarkSealed.{Reach, one_word, reach}
use Rattle.cells.proofs.laws.LoneRound.{lone_front}
use Rattle.cells.proofs.parts.PutView.{Goes, stays_whole}
use Rattle.cells.proofs.parts.NoWord.{load_moved}
use Rattle.cells.proofs.parts.SameTurns.{sees_goes}
use Rattle.cells.proofs.laws.Lone.{generation_in-stays, is_untouched-same, same_ledger}
use Rattle.cells.specs.Past.{IsGivenBlock}
use Rattle.cells.proofs.laws.Sound.{sound_view}

-- what word `k` of a block names
abbrev named_by : Published → ℕ → ℕ
named_by block k = if nat_eq k 1 then link_of block else 0

-- the block there, if one is
abbrev learned_there : Option Published → ℕ → List Known
learned_there None named = []
learned_there (Some block) named = known_block named block ∷ []

-- what is known by the word: the block that it names, if it names one
abbrev learned_from : (ℕ → Option Published) → ℕ → List Known
learned_from blocks named = if nat_eq named 0 then [] else learned_there (blocks named) named

-- it is published
known_there : (blocks : ℕ → Option Published) (named : ℕ) (there : Option Published) → blocks named ≡ there
    → All (IsPublished blocks) (learned_there there named)
known_there blocks named None is = All-nil (IsPublished blocks)
known_there blocks named (Some block) is =
    All-cons (IsPublished blocks) (known_block named block) [] is
    (All-nil (IsPublished blocks))

-- all that is known by the word is published
learned_known : (blocks : ℕ → Option Published) (named : ℕ)
    → All (IsPublished blocks) (learned_from blocks named)
learned_known blocks named =
    elim (nat_eq named 0) as (λ b. All (IsPublished blocks) (cond b [] (learned_there (blocks named) named))) [
      | true ↦ All-nil (IsPublished blocks)
      | false ↦ known_there blocks named (blocks named) refl
    ]

-- a block that is published where the word names one is known by it
learned_is : (blocks : ℕ → Option Published) (named : ℕ) (block : Published) → named ≢ 0 → blocks named ≡ Some block
    → learned_from blocks named ≡ known_block named block ∷ []
learned_is blocks named block some_word there =
    let test : nat_eq named 0 ≡ false = grind (arith, nat_tests, some_word) in
    ap (λ (b : Bool). cond b [] (learned_there (blocks named) named)) test
    ∙ ap (λ (o : Option Published). learned_there o named) there

-- a word other than the second, or of a block without a link, names nothing
names_nothing : (k : ℕ) (block : Published) → (k ≢ 1) ⊎ (link_of block ≡ 0) → named_by block k ≡ 0
names_nothing k block none = elim (ℕ_discrete k 1) [
  | yes second ↦ ⊎_elim (λ (apart : k ≢ 1). absurd (apart second))
      (λ (zero_link : link_of block ≡ 0). elim (nat_eq k 1) as (λ b. (if b then link_of block else 0) ≡ 0) [
        | true ↦ zero_link
        | false ↦ refl
      ]) none
  | no apart ↦ let test : nat_eq k 1 ≡ false = grind (arith, nat_tests, apart) in
      ap (λ (b : Bool). if b then link_of block else 0) test
]

module _ {facts : RoundFacts} {words : List ℕ} {state : RoundState} {history : List Entry} (round : HoldsRound facts words state history)
    (old : PassView) (there : get_elem? state.views old.number ≡ some old) (place at k : ℕ) (block : Published)
    (sealed : IsSealedWord old place at k block) where
  -- the pass's view is sound
  sound : IsSound old
  sound = sound_view round old.number old there

  -- the word is as every known block has it
  reads : ReadsSealed old place (get_or words place 0)
  reads other other_k other_block word =
      let published = All-contains (IsPublished state.blocks) old.known (known_block other other_block)
      (round.fits.known old.number old there) word.known in
      ap (λ (a : ℕ). get_or words a 0) word.here
      ∙ (round.fits.holds.laid.blocks other other_block published).sealed_part.shown other_k word.sealed

  -- what is known by the word
  abbrev learned : List Known
  learned = learned_from state.blocks (named_by block k)

  -- the second word of any known block at the place names what this one does
  names : (other : ℕ) (other_block : Published) → IsSealedWord old place other 1 other_block → named_by block k ≡ link_of other_block
  names other other_block word =
      let same = one_word old place at k other 1 block other_block sound sealed word in
      λ i. named_by (same.1 i) (same.0 i)

  -- so an operation that it names is known,
  learns_op : LearnsOp old place learned
  learns_op other row word some_op =
      let published = All-contains (IsPublished state.blocks) old.known (known_block other (Row row))
      (round.fits.known old.number old there) word.known in
      let op = (round.fits.holds.homes other row published).op some_op in (
        op.op,
        subst (λ (n : ℕ). learned_from state.blocks n ≡ known_block row.op (Op op.op) ∷ []) (sym (names other (Row row) word))
            (learned_is state.blocks row.op (Op op.op) some_op op.there),
      )

  -- and so is a predecessor;
  learns_predecessor : LearnsPredecessor old place learned
  learns_predecessor other generation word some_word =
      let published = All-contains (IsPublished state.blocks) old.known
      (known_block other (Generation generation)) (round.fits.known old.number old there) word.known in
      let before = round.fits.holds.chain.follows other generation published some_word in (
        before.other,
        subst (λ (n : ℕ). learned_from state.blocks n ≡ known_block generation.predecessor (Generation before.other) ∷ [])
            (sym (names other (Generation generation) word))
            (learned_is state.blocks generation.predecessor (Generation before.other) some_word before.there),
      )

  -- any other word makes nothing known
  learns_nothing : LearnsNothing old place learned
  learns_nothing other other_k other_block word none =
      let same = one_word old place at k other other_k block other_block sound sealed word in
      ap (learned_from state.blocks) (names_nothing k block (⊎_elim
      (λ (apart : other_k ≢ 1). inl (λ (e : k ≡ 1). apart (sym same.0 ∙ e)))
      (λ (zero_link : link_of other_block ≡ 0). inr (ap link_of same.1 ∙ zero_link)) none))

  -- the front that it reaches, and the marks that it leaves
  reached : Reach round old there place at learned
  reached = reach round old there place at learned k block sealed

  -- the view after the load
  abbrev new_view : PassView
  new_view = view_after_load_sealed learned reached.front reached.marks old

  -- all that became known is published
  learned_published : All (IsPublished state.blocks) learned
  learned_published = learned_known state.blocks (named_by block k)

  -- where the word names nothing, no row became known,
  nothing_given : (k ≢ 1) ⊎ (link_of block ≡ 0) → All (IsGivenBlock facts.keys old.horizon) learned
  nothing_given none = subst (All (IsGivenBlock facts.keys old.horizon))
      (ap (learned_from state.blocks) (sym (names_nothing k block none))) (All-nil (IsGivenBlock facts.keys old.horizon))

  -- nor where it names a predecessor, and so far it names no operation
  second_given : (other : Published) → IsSealedWord old place at 1 other → link_of other ≡ link_of block
      → All (IsGivenBlock facts.keys old.horizon) learned
  second_given (Generation generation) word same = elim (ℕ_discrete generation.predecessor 0) [
    | yes none ↦ nothing_given (inr (sym same ∙ none))
    | no some_word ↦
        let before = learns_predecessor at generation word some_word in
        subst (All (IsGivenBlock facts.keys old.horizon)) (sym before.1)
        (All-cons (IsGivenBlock facts.keys old.horizon) (known_block generation.predecessor (Generation before.0)) []
        (λ row is. absurd (cc)) (All-nil (IsGivenBlock facts.keys old.horizon)))
  ]
  second_given (Row row) word same = nothing_given (inr (sym same ∙ sound.no_op at row word.known))
  second_given (Op op) word same = nothing_given (inr (sym same))

  learned_given : All (IsGivenBlock facts.keys old.horizon) learned
  learned_given = elim (ℕ_discrete k 1) [
    | yes second ↦ second_given block (subst (λ (n : ℕ). IsSealedWord old place at n block) second sealed) refl
    | no apart ↦ nothing_given (inl apart)
  ]

  -- the only pass finds the head's generation still
  same_generation : facts.seats ≡ 1 → head_generation new_view ≡ head_generation old
  same_generation alone =
      let table = round.alone old.number old there alone in
      generation_in-stays state.blocks learned old.known (head_at old) (first_generation old.facts) (head_generation old)
      learned_published
      (subst (λ (a : ℕ). IsGeneration state.blocks a (head_generation old)) (sym table.head_is) table.generation) refl

  -- and has seen no more, as it had seen all
  same_front : facts.seats ≡ 1 → reached.front ≡ old.front
  same_front alone =
      let whole = lone_front round old.number old there alone in
      stays_whole old.front reached.front history whole reached.grows reached.begins ∙ sym whole

  -- the view owes nothing
  goes : Goes facts state.head state.blocks state.cells history (wins_of state.views) old new_view
  goes =
      let begun = round.past.begun old.number old there in
      sees_goes round old new_view there refl reached.grows reached.begins begun.heard
      (All-append (IsPublished state.blocks) learned old.known learned_published (round.fits.known old.number old there))
      (All-append (IsGivenBlock facts.keys old.horizon) learned old.known learned_given (round.past.given old.number old there))
      reached.stood same_generation

  -- so the load moves the round
  moved : Moved facts (set words place (get_or words place 0)) state history old (LoadsSealed place old (get_or words place 0))
  moved = load_moved round old new_view there goes refl refl refl place (LoadsSealed place old (get_or words place 0)) (record {
    learned = learned;
    front = reached.front;
    marks = reached.marks;
    reads = reads;
    op = learns_op;
    predecessor = learns_predecessor;
    nothing = learns_nothing;
    stays = reached.stays;
    grows = reached.grows;
    agrees = reached.agrees;
    view = refl;
    alone = λ alone.
        let seats : facts.seats ≡ 1 =
        ap (λ (facts : RoundFacts). facts.seats) (sym (round.fits.numbered old.number old there).same_round) ∙ alone in
        same_ledger old new_view refl (same_generation seats)
        (is_untouched-same old new_view refl (same_generation seats) refl) (same_front seats) refl refl;
  })

-- whatever the round is, the pass may load a sealed word that it knows
pub load_sealed_moves : (facts : RoundFacts) (old : PassView) (step : TableStep ℕ) → KnowsSealed old step.word
    → Moves facts old (LoadSealed step.word) (load_sealed_tells old step)
load_sealed_moves facts old step knows words state history round there small =
    moved round old there step.word knows.0 knows.1 knows.2 knows.3
