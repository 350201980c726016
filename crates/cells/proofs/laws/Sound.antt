-- Where the invariant holds, each pass's view is sound: what it says of itself, of known blocks and of blocks in hand is so.
use Rattle.std.proofs.Common.{All, [], ◌∷◌, ◌++◌, ◌≡◌, ℕ, ◌+◌, ◌-◌, ◌<◌, ◌⊎◌, List, length, Some, refl, ap, sym, ◌∙◌, subst, arith}
use Rattle.std.proofs.lemmas.List.Elements.{All-nil, All-cons, All-head, All-tail, All-contains}
use mathlib.Core.Option.{some}
use lib.ListN.{get_elem?}
use native.Mathlib.Decide.{ℕ_discrete}
use Rattle.set_model.specs.History.{IsLegal}
use Rattle.set_model.specs.Keys.{is_in}
use Rattle.set_model.specs.declared.entry.Entry.{Entry}
use Rattle.set_model.proofs.LawHistory.{IsLegal-prefix}
use Rattle.arena.specs.Laws.{IsPublishedWord, IsWordInHand, IsDrawn}
use Rattle.arena.proofs.laws.Apart.{blocks_lie_inside, hands_lie_inside, blocks_are_apart, hands_are_apart, hands_are_unpublished}
use Rattle.step_core.specs.Fits.{HoldsClass, IsPublished}
use Rattle.step_core.specs.Format.{sealed_words, open_words, block_len}
use Rattle.step_core.proofs.seen.Shown.{some_word}
use Rattle.step_core.specs.States.{RoundState, hands_of}
use Rattle.step_core.specs.declared.published.Published.{Published}
use Rattle.step_core.specs.declared.published.Published.TheVariants.{Generation, Row}
use Rattle.step_core.specs.declared.published.GenerationBlock.{GenerationBlock}
use Rattle.step_core.specs.declared.published.RowBlock.{RowBlock}
use Rattle.step_core.specs.declared.views.PassView.{PassView}
use Rattle.step_core.specs.declared.views.RoundFacts.{RoundFacts}
use Rattle.cells.specs.Invariant.{HoldsRound}
use Rattle.cells.specs.Known.{known_block, KnowsBlock, KnowsGeneration, KnowsRow}
use Rattle.cells.specs.Past.{HasGivenKeys, IsGivenBlock, flying_entry}
use Rattle.cells.specs.SoFar.{KnowsNoOp}
use Rattle.cells.specs.Sound.{IsInArena, IsInHand, IsInBlock, AreFacts, IsSound}
use Rattle.cells.proofs.laws.LoneRound.{lone_lost}
use Rattle.cells.proofs.parts.PutState.{there_inside}

-- what holds of all of a list holds of its front
All-front : {A : Type 0} (P : A → Type 0) (front behind : List A) → All P (front ++ behind) → All P front
All-front P [] behind all = All-nil P
All-front P (first ∷ front) behind all =
    All-cons P first front (All-head P first (front ++ behind) all) (All-front P front behind (All-tail P first (front ++ behind) all))

module _ {facts : RoundFacts} {words : List ℕ} {state : RoundState} {history : List Entry}
    (round : HoldsRound facts words state history) (number : ℕ) (view : PassView)
    (is_view : get_elem? state.views number ≡ some view) where
  -- the view is of the round
  same_round : view.facts ≡ facts
  same_round = (round.fits.numbered number view is_view).same_round

  -- what the pass knows is published
  pub is_published : (at : ℕ) (block : Published) → KnowsBlock view at block → state.blocks at ≡ Some block
  is_published at block known =
      All-contains (IsPublished state.blocks) view.known (known_block at block)
      (round.fits.known number view is_view) known

  -- a word of a known block is one of a published block
  pub block_word : (at place : ℕ) → IsInBlock view at place → IsPublishedWord sealed_words open_words state.blocks at place
  block_word at place word = record {
    block = word.block;
    is_block = is_published at word.block word.known;
    begun = word.begun;
    within = word.within;
  }

  -- a word of a block in hand, as the memory layer sees it
  pub hand_word : (at place : ℕ) → IsInHand view at place → IsWordInHand hands_of state.views number at place
  hand_word at place word = record { view = view; is_view = is_view; begun = word.begun; within = word.within }

  -- which is small
  is_small : AreFacts view.facts
  is_small = subst (λ (facts : RoundFacts). AreFacts facts) (sym same_round) round.small

  -- its number is below that of the passes
  has_seat : view.number < view.facts.seats
  has_seat =
      let pass : view.number ≡ number = (round.fits.numbered number view is_view).is_pass in
      let seats : view.facts.seats ≡ facts.seats = ap (λ (facts : RoundFacts). facts.seats) same_round in
      let below : number < length state.views = there_inside state.views number view is_view in
      let all : length state.views ≡ facts.seats = round.fits.passes in
      omega arith

  -- its front is legal, as the history that it begins is
  is_legal : IsLegal (is_in view.facts.keys) view.front
  is_legal = subst (λ (facts : RoundFacts). IsLegal (is_in facts.keys) view.front) (sym same_round)
      (IsLegal-prefix (is_in facts.keys) view.front history (round.past.begun number view is_view).front round.past.legal)

  -- what lies from a drawn word to a drawn word lies in the arena
  in_arena : (at place count : ℕ) → IsDrawn (length words) facts.seats state.next at
      → IsDrawn (length words) facts.seats state.next place → at + count ≡ place + 1 → IsInArena facts at count
  in_arena at place count first last here = record {
    behind_base = first.behind_base;
    within = let size : length words ≡ facts.cap = round.fits.size in omega (arith, last.within);
  }

  -- so does a known block,
  block_inside : (at : ℕ) (block : Published) → KnowsBlock view at block → IsInArena view.facts at (block_len block)
  block_inside at block known =
      let some = some_word block in
      let drawn = blocks_lie_inside sealed_words open_words hands_of round.fits.holds.laid at in
      let last : ℕ = at + block_len block - 1 in
      let here = is_published at block known in
      subst (λ (facts : RoundFacts). IsInArena facts at (block_len block)) (sym same_round)
      (in_arena at last (block_len block)
      (drawn at (record { block = block; is_block = here; begun = omega arith; within = omega arith }))
      (drawn last (record { block = block; is_block = here; begun = omega arith; within = omega arith }))
      (omega arith))

  -- of two known generations that follow each other the one has one bucket bit more
  next_sizes : (at : ℕ) (generation other : GenerationBlock) → KnowsGeneration view at generation
      → KnowsGeneration view generation.predecessor other
      → (generation.exponent ≡ other.exponent + 1) ⊎ (other.exponent ≡ generation.exponent + 1)
  next_sizes at generation other known before =
      let inside = block_inside generation.predecessor (Generation other) before in
      let follows = round.fits.holds.chain.follows at generation (is_published at (Generation generation) known)
      (λ none. absurd (omega (arith, inside.behind_base, none))) in
      let there : state.blocks generation.predecessor ≡ Some (Generation other) =
      is_published generation.predecessor (Generation other) before in
      let named : state.blocks generation.predecessor ≡ Some (Generation follows.other) = follows.there in
      let same : follows.other ≡ other = cc in
      subst (λ (other : GenerationBlock). (generation.exponent ≡ other.exponent + 1) ⊎ (other.exponent ≡ generation.exponent + 1)) same
      follows.next

  -- and a word of a block in hand
  hand_inside : (at place : ℕ) → IsInHand view at place → IsInArena view.facts place 1
  hand_inside at place word =
      let drawn = hands_lie_inside sealed_words open_words hands_of round.fits.holds.laid number at place (hand_word at place word) in
      subst (λ (facts : RoundFacts). IsInArena facts place 1) (sym same_round) (in_arena place place 1 drawn drawn (omega arith))

  -- a known row holds its class
  row_holds : (at : ℕ) (row : RowBlock) → KnowsRow view at row → HoldsClass row
  row_holds at row known =
      (round.fits.holds.homes at row (is_published at (Row row) known)).holds

  -- a known row has no operation, as none is published
  row_plain : KnowsNoOp view
  row_plain at row known = elim (ℕ_discrete row.op 0) [
    | yes plain ↦ plain
    | no named ↦
        let op = (round.fits.holds.homes at row (is_published at (Row row) known)).op named in
        absurd (round.no_op row.op op.op op.there)
  ]

  -- the pass's entries in the history are those of its answered calls, and maybe one more, so their serials are used
  mine_used : All (λ entry. entry.serial < view.used) view.mine
  mine_used = All-front (λ (entry : Entry). entry.serial < view.used) view.mine (flying_entry state.blocks state.cells view.flight)
      (subst (λ (list : List Entry). All (λ entry. entry.serial < view.used) list) (round.past.own number view is_view)
      (round.past.used number view is_view))

  -- at one address one block is known
  one_there : (at : ℕ) (block other : Published) → KnowsBlock view at block → KnowsBlock view at other → block ≡ other
  one_there at block other known too =
      let first : state.blocks at ≡ Some block = is_published at block known in
      let second : state.blocks at ≡ Some other = is_published at other too in
      cc

  -- the view is sound
  pub sound_view : IsSound view
  sound_view =
      let laid = round.fits.holds.laid in
      record {
        facts = is_small;
        seat = has_seat;
        legal = is_legal;
        used = mine_used;
        blocks = block_inside;
        one = one_there;
        apart = λ at other place word too. blocks_are_apart sealed_words open_words hands_of laid at other place
            (block_word at place word) (block_word other place too);
        rows = row_holds;
        given = λ at row known. subst (λ (facts : RoundFacts). HasGivenKeys facts.keys view.horizon row) (sym same_round)
            (All-contains (IsGivenBlock facts.keys view.horizon) view.known (known_block at (Row row))
            (round.past.given number view is_view) known row refl);
        generations = λ at generation known. round.fits.holds.chain.small at generation
            (is_published at (Generation generation) known);
        nexts = next_sizes;
        hands = hand_inside;
        hands_apart = λ at other place word too. (hands_are_apart sealed_words open_words hands_of laid number at number other place
            (hand_word at place word) (hand_word other place too)).1;
        hands_unknown = λ at other place word too. hands_are_unpublished sealed_words open_words hands_of laid number at other place
            (hand_word at place word) (block_word other place too);
        lone = λ alone. lone_lost round number view is_view (ap (λ (facts : RoundFacts). facts.seats) (sym same_round) ∙ alone);
        no_op = row_plain;
      }
