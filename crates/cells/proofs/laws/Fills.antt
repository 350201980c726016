-- What it means that a nil bucket may be filled: its sources are closed, and the row in hand has of the bucket's class what they have.
use Rattle.std.proofs.Common.{◌≡◌, ◌≢◌, ℕ, ◌&&◌, inl, inr, Bool, cond, nat_eq, List, [], ◌∷◌, ◌++◌, get_or, Option, Some, All, refl, sym, ap, ap₂, ◌∙◌, subst, arith}
use mathlib.Core.Option.{some}
use lib.ListN.{get_elem?}
use Rattle.std.proofs.lemmas.Bool.{cases_Bool}
use Rattle.std.proofs.lemmas.List.Elements.{All-head, All-tail, All-contains}
use Rattle.std.specs.List.Sorted.{IsStrictlyIncreasing}
use Rattle.set_model.specs.Keys.{is_in}
use Rattle.set_model.specs.declared.entry.Entry.{Entry}
use Rattle.step_core.specs.Content.{bucket_of, spot_of, InClass}
use Rattle.step_core.specs.Fits.{IsClosed, HoldsClass}
use Rattle.step_core.specs.Format.{IsFrozen, row_address}
use Rattle.step_core.specs.Members.{row_content}
use Rattle.step_core.specs.States.{RoundState, IsGeneration, IsRow}
use Rattle.step_core.specs.declared.published.Published.{Published}
use Rattle.step_core.specs.declared.published.Published.TheVariants.{Generation, Row}
use Rattle.step_core.specs.declared.published.GenerationBlock.{GenerationBlock}
use Rattle.step_core.specs.declared.published.RowBlock.{RowBlock}
use Rattle.step_core.specs.declared.views.FixedCell.{FixedCell}
use Rattle.step_core.specs.declared.views.PassView.{PassView}
use Rattle.step_core.specs.declared.views.RoundFacts.{RoundFacts}
use Rattle.step_core.proofs.changes.Filled.{HasContent}
use Rattle.step_core.proofs.changes.Named.{HasSources}
use Rattle.step_core.proofs.seen.Held.{row_content-plain}
use Rattle.cells.specs.Exchanges.{fixed_at}
use Rattle.cells.specs.Filling.{source_row, filling_row, MayFill}
use Rattle.cells.specs.Invariant.{HoldsRound, IsFrozenCell}
use Rattle.cells.specs.Known.{known_block}
use Rattle.cells.specs.Lone.{generation_in, first_generation}
use Rattle.cells.specs.Past.{inserted_keys, IsGivenBlock, HasGivenKeys}
use Rattle.cells.specs.Sound.{IsSound}
use Rattle.cells.proofs.laws.AfterSwaps.{inside_of}
use Rattle.cells.proofs.laws.BuiltRow.{built_keys}
use Rattle.cells.proofs.laws.Given.{each_in}
use Rattle.cells.proofs.laws.Known.{generation_at-known, generation_in-known}
use Rattle.cells.proofs.laws.Paid.{both_true, same_numbers}
use Rattle.cells.proofs.laws.Sound.{sound_view, is_published}
use Rattle.cells.proofs.laws.Swaps.{content_keys-plain}

-- the word that a cell is known to keep is the cell's, unless it is 0
fixed_at-known : (blocks : ℕ → Option Published) (cells : ℕ → ℕ → ℕ) (fixed : List FixedCell) (at place : ℕ)
    → All (IsFrozenCell blocks cells) fixed → fixed_at fixed at place ≢ 0 → cells at place ≡ fixed_at fixed at place
fixed_at-known blocks cells [] at place all some_word = absurd (some_word refl)
fixed_at-known blocks cells (cell ∷ others) at place all some_word = elim (cases_Bool (nat_eq cell.at at && nat_eq cell.place place)) [
  | inl here ↦
      let both = both_true (nat_eq cell.at at) (nat_eq cell.place place) here in
      ap₂ cells (sym (same_numbers cell.at at both.0)) (sym (same_numbers cell.place place both.1))
      ∙ (All-head (IsFrozenCell blocks cells) cell others all).word
      ∙ sym (ap (λ (b : Bool). cond b cell.word (fixed_at others at place)) here)
  | inr other ↦
      let rest : fixed_at (cell ∷ others) at place ≡ fixed_at others at place =
      ap (λ (b : Bool). cond b cell.word (fixed_at others at place)) other in
      fixed_at-known blocks cells others at place (All-tail (IsFrozenCell blocks cells) cell others all)
      (λ none. some_word (rest ∙ none)) ∙ sym rest
]

module _ {facts : RoundFacts} {words : List ℕ} {state : RoundState} {history : List Entry} (round : HoldsRound facts words state history)
    (old : PassView) (there : get_elem? state.views old.number ≡ some old) (place at : ℕ) (may : MayFill old place at) where
  -- the pass's view is sound
  sound : IsSound old
  sound = sound_view round old.number old there

  -- the row in hand, once it is published
  abbrev row : RowBlock
  row = filling_row old place at

  -- its keys are those that were written,
  keys_are : row.keys ≡ may.keys
  keys_are = built_keys old at may.keys may.built

  -- and it is of the bucket
  pub at_home : (row.exponent ≡ may.generation.exponent) × (row.bucket ≡ may.bucket)
  at_home =
      let lookup = generation_at-known old place may.head may.bucket may.generation sound may.is_word in (
        ap (λ (from : ℕ). (generation_in old.known from (first_generation old.facts)).exponent) lookup.0
            ∙ ap (λ (g : GenerationBlock). g.exponent)
            (generation_in-known old may.head (first_generation old.facts) may.generation sound may.is_word.known),
        lookup.1,
      )

  -- whose class it holds
  pub fill_holds : HoldsClass row
  fill_holds = record {
    rising = subst IsStrictlyIncreasing (sym keys_are) may.rising;
    class = subst (All (InClass row.exponent row.bucket)) (sym keys_are)
        (subst (λ (home : ℕ × ℕ). All (InClass home.0 home.1) may.keys) (λ i. (sym at_home.0 i, sym at_home.1 i)) may.class);
  }

  -- the address of the generation before
  abbrev before : ℕ
  before = may.generation.predecessor

  -- it is published there
  source_is : (other : GenerationBlock) → IsGeneration state.blocks before other → may.source ≡ other
  source_is other here =
      let known = is_published round old.number old there before (Generation may.source) may.before in
      let both : Some (Generation may.source) ≡ Some (Generation other) = sym known ∙ here in cc

  module _ (spot : ℕ) (in_bucket : bucket_of may.generation.exponent spot ≡ may.bucket) where
    -- the source of the spot
    abbrev source : ℕ
    source = bucket_of may.source.exponent spot

    -- the row that the pass knows there
    abbrev known_row : RowBlock
    known_row = source_row old before source

    -- its cell has the word that it is known to keep
    cell_is : state.cells before source ≡ fixed_at old.fixed before source
    cell_is =
        let odd = (may.closed spot in_bucket).frozen in
        fixed_at-known state.blocks state.cells old.fixed before source (round.fixed old.number old there) (λ none. absurd (omega arith))

    -- which names the row
    row_is : IsRow state.blocks (row_address (state.cells before source)) known_row
    row_is = subst (λ (w : ℕ). IsRow state.blocks (row_address w) known_row) (sym cell_is)
        (is_published round old.number old there (row_address (fixed_at old.fixed before source)) (Row known_row)
        (may.closed spot in_bucket).known)

    -- that has no operation
    plain : known_row.op ≡ 0
    plain = sound.no_op (row_address (fixed_at old.fixed before source)) known_row (may.closed spot in_bucket).known

    -- so the source is closed
    source_closed : IsClosed state.blocks state.cells (state.cells before source)
    source_closed = record {
      frozen = subst IsFrozen (sym cell_is) (may.closed spot in_bucket).frozen;
      settled = λ found here some_op.
          let op = (round.fits.holds.homes (row_address (state.cells before source)) found here).op some_op in
          absurd (round.no_op found.op op.op op.there);
    }

  -- The sources of the bucket are closed.
  pub fill_sources : HasSources state.blocks state.cells may.generation may.bucket
  fill_sources other spot here in_bucket =
      subst (λ (g : GenerationBlock). IsClosed state.blocks state.cells (state.cells before (bucket_of g.exponent spot)))
      (source_is other here) (source_closed spot in_bucket)

  -- a key of the class is in the row where the source's row has it
  in_source : (key : ℕ) → (class : InClass may.generation.exponent may.bucket key)
      → is_in row.keys key ≡ is_in (known_row (spot_of key) class).keys key
  in_source key class =
      ap (λ (keys : List ℕ). is_in keys key) keys_are
      ∙ may.content key class
      ∙ ap (λ (keys : List ℕ). is_in keys key) (content_keys-plain old (known_row (spot_of key) class) (plain (spot_of key) class))

  -- The row has of the class what they have.
  pub fill_content : HasContent state.blocks state.cells may.generation may.bucket row
  fill_content other found key here class named =
      let cell : state.cells before (bucket_of other.exponent (spot_of key)) ≡ state.cells before (source (spot_of key) class) =
      ap (λ (g : GenerationBlock). state.cells before (bucket_of g.exponent (spot_of key))) (sym (source_is other here)) in
      let both : Some (Row (known_row (spot_of key) class)) ≡ Some (Row found) =
      sym (row_is (spot_of key) class) ∙ ap (λ (w : ℕ). state.blocks (row_address w)) (sym cell) ∙ named in
      let same : known_row (spot_of key) class ≡ found = cc in
      in_source key class
      ∙ sym (row_content-plain state.head state.blocks state.cells (known_row (spot_of key) class) key (plain (spot_of key) class))
      ∙ ap (λ (r : RowBlock). row_content state.blocks state.cells r key) same

  -- Its keys are given by what the pass's steps met, since those of the sources are.
  pub fill_given : HasGivenKeys facts.keys old.horizon row
  fill_given k default lt =
      let key : ℕ = get_or row.keys k default in
      let class : InClass may.generation.exponent may.bucket key =
      subst (λ (home : ℕ × ℕ). InClass home.0 home.1 key) (λ i. (at_home.0 i, at_home.1 i)) (fill_holds.class k default lt) in
      let from = known_row (spot_of key) class in
      let address : ℕ = row_address (fixed_at old.fixed before (source (spot_of key) class)) in
      let given : HasGivenKeys facts.keys old.horizon from =
      All-contains (IsGivenBlock facts.keys old.horizon) old.known (known_block address (Row from))
      (round.past.given old.number old there) (may.closed (spot_of key) class).known from refl in
      inside_of from.keys (facts.keys ++ inserted_keys old.horizon) given key
      (sym (in_source key class) ∙ each_in row.keys k default lt)
