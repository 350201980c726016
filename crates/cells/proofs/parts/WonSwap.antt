-- What stands after an exchange that found its word: the row is published in the place of the other, and the history has its entry.
use Rattle.std.proofs.Common.{◌≡◌, ⊎_elim, ℕ, ◌<◌, ◌≤◌, List, [], ◌∷◌, ◌++◌, length, get_or, set, map, Some, All, refl, sym, ap, ◌∙◌, subst, arith, length-set}
use mathlib.Core.Option.{some}
use lib.ListN.{get_elem?}
use native.Mathlib.Decide.{ℕ_discrete}
use Rattle.std.proofs.Math.Nat.{mod-eq_of_lt}
use Rattle.std.proofs.lemmas.List.Elements.{All-nil, All-cons, All-append, All-contains, All-weaker}
use Rattle.std.specs.List.Sorted.{IsStrictlyIncreasing}
use Rattle.set_model.specs.Call.{answer_where}
use Rattle.set_model.specs.History.{members_after}
use Rattle.set_model.specs.Keys.{is_in}
use Rattle.set_model.specs.declared.entry.Entry.{Entry}
use Rattle.set_model.proofs.LawHistory.{IsLegal-push}
use Rattle.arena.proofs.laws.Hands.{KeepsFronts-refl}
use Rattle.step_core.specs.Content.{InClass}
use Rattle.step_core.specs.Fits.{IsPublished, HoldsClass}
use Rattle.step_core.specs.Format.{IsNil, IsMutable, row_address, mutable_word}
use Rattle.step_core.specs.Members.{row_content}
use Rattle.step_core.specs.Rising.{IsChange}
use Rattle.step_core.specs.States.{RoundState, AreLaidOut, IsRow}
use Rattle.step_core.specs.declared.published.Published.TheVariants.{Row}
use Rattle.step_core.specs.declared.published.RowBlock.{RowBlock}
use Rattle.step_core.specs.declared.views.PassView.{PassView}
use Rattle.step_core.specs.declared.views.RoundFacts.{RoundFacts}
use Rattle.step_core.proofs.changes.Members.{changes_members, members_changed}
use Rattle.step_core.proofs.changes.Named.{Names, homes_stay, announces_stay, row_was, op_was}
use Rattle.step_core.proofs.changes.Replaced.{Replaces, replacing, chain_replaced}
use Rattle.step_core.proofs.seen.Held.{row_content-plain}
use Rattle.cells.specs.Exchanges.{named_row, swap_entry, swapped_row, MaySwapRow, view_after_swap_row}
use Rattle.cells.specs.Invariant.{HoldsRound}
use Rattle.cells.specs.Known.{known_block}
use Rattle.cells.specs.Past.{IsGiven, HasGivenKeys, IsOfPasses, IsInOrder, entries_by}
use Rattle.cells.specs.Sound.{IsSound}
use Rattle.cells.proofs.laws.Entries.{entries_by-own, entries_by-other, in_order-push}
use Rattle.cells.proofs.laws.FoundBucket.{published, word_is, row_there}
use Rattle.cells.proofs.laws.Given.{given_row, given_inserted}
use Rattle.cells.proofs.laws.Sound.{sound_view}
use Rattle.cells.proofs.laws.Swaps.{hand_row, entry_is, is_change, all_hand, swapped_holds}
use Rattle.cells.proofs.parts.PublishRow.{hand_unpublished, hand_place, with_hand_row, hand_row_laid}
use Rattle.cells.proofs.parts.PutState.{Stands, there_inside}

-- an exchange that finds its word, in a round of which the invariant holds
pub record WonSwap (facts : RoundFacts) (words : List ℕ) (state : RoundState) (history : List Entry) : Type 0 where
  pub round : HoldsRound facts words state history
  pub old : PassView
  pub there : get_elem? state.views old.number ≡ some old
  pub place : ℕ
  pub word : ℕ
  pub at : ℕ
  pub may : MaySwapRow old place word at
  pub found : get_or words place 0 ≡ word
  pub serial : ℕ
  pub unused : old.used ≤ serial

module _ {facts : RoundFacts} {words : List ℕ} {state : RoundState} {history : List Entry} (s : WonSwap facts words state history) where
  -- its fields
  abbrev round : HoldsRound facts words state history
  round = s.round

  abbrev old : PassView
  old = s.old

  abbrev there : get_elem? state.views old.number ≡ some old
  there = s.there

  abbrev place : ℕ
  place = s.place

  abbrev word : ℕ
  word = s.word

  abbrev at : ℕ
  at = s.at

  abbrev may : MaySwapRow old place word at
  may = s.may

  -- the pass's view is sound
  sound : IsSound old
  sound = sound_view round old.number old there

  -- the rows that the word names before and after
  abbrev pub before : RowBlock
  before = named_row old word

  abbrev pub row : RowBlock
  row = swapped_row old word at

  -- the entry of the call
  abbrev pub entry : Entry
  entry = swap_entry old s.serial word at

  abbrev pub new_history : List Entry
  new_history = history ++ entry ∷ []

  -- the row before is published, and has no operation
  before_here : IsRow state.blocks (row_address word) before
  before_here = All-contains (IsPublished state.blocks) old.known (known_block (row_address word) (Row before))
      (round.fits.known old.number old there) may.known

  before_plain : before.op ≡ 0
  before_plain = sound.no_op (row_address word) before may.known

  before_holds : HoldsClass before
  before_holds = sound.rows (row_address word) before may.known

  -- the bucket has the word
  cell_is : state.cells may.turn.head may.bucket ≡ word
  cell_is = sym (word_is round old there place may.turn.head may.bucket may.generation may.is_word) ∙ s.found

  -- so its home is the bucket
  before_home : (before.exponent ≡ may.generation.exponent) × (before.bucket ≡ may.bucket)
  before_home =
      let home = row_there round old there place may.turn.head may.bucket may.generation may.is_word
      (subst (λ (w : ℕ). ¬ IsNil w) (sym s.found) may.some_row) in
      let both : Some (Row home.row) ≡ Some (Row before) = sym home.here ∙ ap (λ (w : ℕ). state.blocks (row_address w)) s.found ∙ before_here in
      let same : home.row ≡ before = cc in (
        ap (λ (row : RowBlock). row.exponent) (sym same) ∙ home.exponent,
        ap (λ (row : RowBlock). row.bucket) (sym same) ∙ home.bucket ∙ mod-eq_of_lt may.is_word.within,
      )

  -- the row may take the place of the other
  pub replaces : Replaces state.blocks state.cells may.turn.head may.bucket may.generation at row
  replaces = record {
    unpublished = hand_unpublished round old there at row (hand_row old place word at may);
    some_place = hand_place round old there at row (hand_row old place word at may);
    here = published round old there place may.turn.head may.bucket may.generation may.is_word;
    spot = mod-eq_of_lt may.is_word.within;
    filled = subst (λ (w : ℕ). ¬ IsNil w) (sym cell_is) may.some_row;
    mutable = subst IsMutable (sym cell_is) may.mutable;
    exponent = before_home.0;
    number = before_home.1;
    plain = refl;
    holds = swapped_holds old place word at may before_plain before_holds before_home.0 before_home.1;
  }

  -- so the bucket names it then
  pub names : Names state.blocks state.cells may.turn.head may.bucket may.generation at row
  names = replacing replaces

  -- the view and the state after the exchange
  abbrev pub new_view : PassView
  new_view = view_after_swap_row history s.serial word at old

  abbrev pub after : RoundState
  after = with_hand_row round old there at row (hand_row old place word at may) names may.is_word.within new_view (KeepsFronts-refl new_view.hands)

  abbrev pub new_words : List ℕ
  new_words = set words place (mutable_word at)

  -- the words show the state
  laid : AreLaidOut (length words) facts.seats new_words after
  laid = subst (λ (p : ℕ). AreLaidOut (length words) facts.seats (set words p (mutable_word at)) after) (sym may.is_word.here)
      (hand_row_laid round old there at row (hand_row old place word at may) names may.is_word.within new_view (KeepsFronts-refl new_view.hands))

  -- the call is a change, and its entry tells it
  change : IsChange before.keys row.keys entry.call entry.key
  change = subst (λ (e : Entry). IsChange before.keys row.keys e.call e.key) (sym (entry_is old place word at may s.serial))
      (is_change old place word at may before_plain before_holds)

  in_class : InClass may.generation.exponent may.bucket entry.key
  in_class = subst (λ (e : Entry). InClass may.generation.exponent may.bucket e.key) (sym (entry_is old place word at may s.serial)) may.class

  content : (key : ℕ) → row_content state.blocks state.cells before key ≡ is_in before.keys key
  content key = row_content-plain state.head state.blocks state.cells before key before_plain

  before_named : IsRow state.blocks (row_address (state.cells may.turn.head may.bucket)) before
  before_named = subst (λ (w : ℕ). IsRow state.blocks (row_address w) before) (sym cell_is) before_here

  -- which a plain set answers true
  answer_is : entry.answer ≡ answer_where entry.call (members_after (is_in facts.keys) history entry.key)
  answer_is = ap (λ (e : Entry). e.answer) (entry_is old place word at may s.serial)
      ∙ changes_members round.fits.holds.chain replaces facts.keys before.keys history entry before before_named
      content before_holds.rising change in_class round.members

  -- it is an entry of the pass
  pub own : entry.who ≡ old.number
  own = ap (λ (e : Entry). e.who) (entry_is old place word at may s.serial)

  pub serial_is : entry.serial ≡ s.serial
  serial_is = ap (λ (e : Entry). e.serial) (entry_is old place word at may s.serial)

  -- the pass's entries before have lower serials
  pub below : All (λ (e : Entry). e.serial < entry.serial) (entries_by old.number history)
  below = All-weaker (λ (e : Entry). e.serial < old.used) (λ (e : Entry). e.serial < entry.serial)
      (λ e lt. omega (arith, lt, s.unused, serial_is)) (entries_by old.number history) (round.past.used old.number old there)

  -- each pass's entries stand in the order of its calls
  ordered : (pass : ℕ) → IsInOrder new_history pass
  ordered pass = elim (ℕ_discrete pass old.number) [
    | yes same ↦
        subst (λ (p : ℕ). IsInOrder new_history p) (sym same)
        (subst (λ (list : List Entry). IsStrictlyIncreasing (map (λ (e : Entry). e.serial) list))
        (sym (entries_by-own old.number history entry own))
        (in_order-push (entries_by old.number history) entry (round.past.ordered old.number) below))
    | no apart ↦
        subst (λ (list : List Entry). IsStrictlyIncreasing (map (λ (e : Entry). e.serial) list))
        (sym (entries_by-other pass history entry (λ same. apart (sym same ∙ own)))) (round.past.ordered pass)
  ]

  -- the row's keys are given: those that it had before, and the one inserted
  row_given : HasGivenKeys facts.keys new_history row
  row_given = all_hand old place word at may before_plain before_holds before_home.0 before_home.1 (IsGiven facts.keys new_history)
      (λ inserts. given_inserted facts.keys history entry may.change.key
      (ap (λ (e : Entry). e.call) (entry_is old place word at may s.serial) ∙ inserts) (ap (λ (e : Entry). e.key) (entry_is old place word at may s.serial)))
      (given_row facts.keys history new_history before (entry ∷ [], refl) (round.given (row_address word) before before_here))

  -- what the invariant says without a view
  pub stands : Stands facts new_words after new_history
  stands = record {
    size = length-set words place (mutable_word at) ∙ round.fits.size;
    holds = record {
      laid = subst (λ (cap : ℕ). AreLaidOut cap facts.seats new_words after) (sym (length-set words place (mutable_word at))) laid;
      chain = chain_replaced replaces round.fits.holds.chain;
      homes = homes_stay names round.fits.holds.homes;
    };
    announces = announces_stay names facts.seats state.announced round.fits.announces;
    given = λ from other here. ⊎_elim
        (λ (same : (from ≡ at) × (row ≡ other)). subst (HasGivenKeys facts.keys new_history) same.1 row_given)
        (λ (was : IsRow state.blocks from other).
        given_row facts.keys history new_history other (entry ∷ [], refl) (round.given from other was))
        (row_was names from other here);
    members = members_changed round.fits.holds.chain replaces facts.keys before.keys history entry before before_named
        content before_holds.rising change in_class round.members;
    legal = (IsLegal-push (is_in facts.keys) history entry).1 (round.past.legal, answer_is);
    who = All-append (IsOfPasses facts.seats) history (entry ∷ []) round.past.who
        (All-cons (IsOfPasses facts.seats) entry []
        (omega (arith, own, there_inside state.views old.number old there, round.fits.passes)) (All-nil (IsOfPasses facts.seats)));
    ordered = ordered;
    no_op = λ from op here. round.no_op from op (op_was names from op here);
  }
