-- What stands after an exchange that found a nil bucket: the row is published, the bucket names it, and the set is as it was.
use Rattle.std.proofs.Common.{◌≡◌, ⊎_elim, inl, ℕ, ◌+◌, List, length, get_or, set, refl, sym, ap, ◌∙◌, subst, length-set}
use mathlib.Core.Option.{some}
use lib.ListN.{get_elem?}
use native.Mathlib.Decide.{ℕ_discrete}
use Rattle.std.proofs.Math.Nat.{mod-eq_of_lt}
use Rattle.set_model.specs.declared.entry.Entry.{Entry}
use Rattle.arena.proofs.laws.Hands.{KeepsFronts-refl}
use Rattle.step_core.specs.Format.{IsNil, mutable_word}
use Rattle.step_core.specs.States.{RoundState, AreLaidOut, IsGeneration, IsRow}
use Rattle.step_core.specs.declared.format.TheConstants.{FIRST_BUCKET}
use Rattle.step_core.specs.declared.published.RowBlock.{RowBlock}
use Rattle.step_core.specs.declared.views.PassView.{PassView}
use Rattle.step_core.specs.declared.views.RoundFacts.{RoundFacts}
use Rattle.step_core.proofs.changes.Filled.{Fills, filling, chain_filled, members_filled}
use Rattle.step_core.proofs.changes.Named.{Names, homes_stay, announces_stay, row_was, op_was}
use Rattle.cells.specs.Filling.{MayFill, filling_row, view_after_fill}
use Rattle.cells.specs.Invariant.{HoldsRound}
use Rattle.cells.specs.Past.{HasGivenKeys}
use Rattle.cells.proofs.laws.BuiltRow.{built_row}
use Rattle.cells.proofs.laws.Fills.{at_home, fill_holds, fill_sources, fill_content, fill_given}
use Rattle.cells.proofs.laws.FoundBucket.{published, word_is}
use Rattle.cells.proofs.laws.Given.{given_row}
use Rattle.cells.proofs.parts.PublishRow.{hand_unpublished, hand_place, with_hand_row, hand_row_laid}
use Rattle.cells.proofs.parts.PutState.{Stands}

-- an exchange that finds a nil bucket, in a round of which the invariant holds
pub record WonFill (facts : RoundFacts) (words : List ℕ) (state : RoundState) (history : List Entry) : Type 0 where
  pub round : HoldsRound facts words state history
  pub old : PassView
  pub there : get_elem? state.views old.number ≡ some old
  pub place : ℕ
  pub at : ℕ
  pub may : MayFill old place at
  pub found : IsNil (get_or words place 0)

module _ {facts : RoundFacts} {words : List ℕ} {state : RoundState} {history : List Entry} (s : WonFill facts words state history) where
  -- its fields
  abbrev round : HoldsRound facts words state history
  round = s.round

  abbrev old : PassView
  old = s.old

  abbrev there : get_elem? state.views old.number ≡ some old
  there = s.there

  abbrev place : ℕ
  place = s.place

  abbrev at : ℕ
  at = s.at

  abbrev may : MayFill old place at
  may = s.may

  -- the row that the bucket names then
  abbrev pub row : RowBlock
  row = filling_row old place at

  -- the bucket is nil,
  cell_is : IsNil (state.cells may.head may.bucket)
  cell_is = sym (word_is round old there place may.head may.bucket may.generation may.is_word) ∙ s.found

  -- so it is one of the head
  pub is_head : may.head ≡ state.head
  is_head = elim (ℕ_discrete may.head state.head) [
    | yes same ↦ same
    | no apart ↦ absurd (round.fits.holds.chain.filled may.head may.generation may.bucket
        (published round old there place may.head may.bucket may.generation may.is_word) (inl apart)
        (ap (state.cells may.head) (mod-eq_of_lt may.is_word.within) ∙ cell_is))
  ]

  -- the row may fill the bucket
  pub fills : Fills state.head state.blocks state.cells may.bucket may.generation at row
  fills = record {
    unpublished = hand_unpublished round old there at row (built_row old at may.keys may.built);
    some_place = hand_place round old there at row (built_row old at may.keys may.built);
    here = subst (λ (a : ℕ). IsGeneration state.blocks a may.generation) is_head
        (published round old there place may.head may.bucket may.generation may.is_word);
    spot = mod-eq_of_lt may.is_word.within;
    nil = subst (λ (a : ℕ). IsNil (state.cells a may.bucket)) is_head cell_is;
    exponent = (at_home round old there place at may).0;
    number = (at_home round old there place at may).1;
    plain = refl;
    holds = fill_holds round old there place at may;
    sources = fill_sources round old there place at may;
    content = fill_content round old there place at may;
  }

  -- so the bucket names it then
  pub names : Names state.blocks state.cells state.head may.bucket may.generation at row
  names = filling fills

  -- the view and the state after the exchange
  abbrev pub new_view : PassView
  new_view = view_after_fill place at old

  abbrev pub after : RoundState
  after = with_hand_row round old there at row (built_row old at may.keys may.built) names may.is_word.within new_view
      (KeepsFronts-refl new_view.hands)

  abbrev pub new_words : List ℕ
  new_words = set words place (mutable_word at)

  -- the words show the state
  laid : AreLaidOut (length words) facts.seats new_words after
  laid = subst (λ (p : ℕ). AreLaidOut (length words) facts.seats (set words p (mutable_word at)) after)
      (sym (may.is_word.here ∙ ap (λ (a : ℕ). a + FIRST_BUCKET + may.bucket) is_head))
      (hand_row_laid round old there at row (built_row old at may.keys may.built) names may.is_word.within new_view
      (KeepsFronts-refl new_view.hands))

  -- the row's keys are given
  row_given : HasGivenKeys facts.keys history row
  row_given = given_row facts.keys old.horizon history row (round.past.begun old.number old there).horizon
      (fill_given round old there place at may)

  -- what the invariant says without a view
  pub stands : Stands facts new_words after history
  stands = record {
    size = length-set words place (mutable_word at) ∙ round.fits.size;
    holds = record {
      laid = subst (λ (cap : ℕ). AreLaidOut cap facts.seats new_words after) (sym (length-set words place (mutable_word at))) laid;
      chain = chain_filled fills round.fits.holds.chain;
      homes = homes_stay names round.fits.holds.homes;
    };
    announces = announces_stay names facts.seats state.announced round.fits.announces;
    given = λ from other here. ⊎_elim
        (λ (same : (from ≡ at) × (row ≡ other)). subst (HasGivenKeys facts.keys history) same.1 row_given)
        (λ (was : IsRow state.blocks from other). round.given from other was)
        (row_was names from other here);
    members = members_filled fills round.fits.holds.chain facts.keys history round.members;
    legal = round.past.legal;
    who = round.past.who;
    ordered = round.past.ordered;
    no_op = λ from op here. round.no_op from op (op_was names from op here);
  }
