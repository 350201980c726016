-- What a load of a sealed word makes of the front and of the marks: where it shows that the marked row has no operation, the front reaches
-- the time at which the row stood.
use Rattle.std.proofs.Common.{◌≡◌, ◌≢◌, ⊎_elim, ℕ, List, [], ◌∷◌, length, true, false, Some, All, refl, sym, ap, ◌∙◌, subst, eq-eqb, arith}
use mathlib.Core.List.{IsPrefix}
use mathlib.Core.Option.{some}
use lib.ListN.{get_elem?}
use native.Mathlib.Decide.{ℕ_discrete}
use base.Growing.{prefix_refl, prefix_trans}
use Rattle.std.proofs.lemmas.List.Elements.{All-cons, All-contains, All-head}
use Rattle.set_model.specs.History.{members_after}
use Rattle.set_model.specs.Keys.{is_in}
use Rattle.set_model.specs.declared.entry.Entry.{Entry}
use Rattle.step_core.specs.Fits.{IsPublished}
use Rattle.step_core.specs.Members.{row_content}
use Rattle.step_core.specs.States.{RoundState, IsRow}
use Rattle.step_core.specs.declared.published.Published.{Published}
use Rattle.step_core.specs.declared.published.Published.TheVariants.{Generation, Row, Op}
use Rattle.step_core.specs.declared.published.RowBlock.{RowBlock}
use Rattle.step_core.specs.declared.views.Known.{Known}
use Rattle.step_core.specs.declared.views.Mark.{Mark}
use Rattle.step_core.specs.declared.views.PassView.{PassView}
use Rattle.step_core.specs.declared.views.RoundFacts.{RoundFacts}
use Rattle.step_core.proofs.seen.Held.{row_content-plain}
use Rattle.cells.specs.Hindsight.{InMark, HasStood}
use Rattle.cells.specs.Invariant.{HoldsRound}
use Rattle.cells.specs.Known.{known_block, KnowsBlock, IsSealedWord}
use Rattle.cells.specs.Marks.{IsMarkedFor}
use Rattle.cells.specs.Sound.{IsInBlock, IsSound}
use Rattle.cells.specs.Steps.{AgreesAtFront, StaysAtFront, is_plain_row, view_after_load_sealed}
use Rattle.cells.proofs.laws.Hindsight.{same_fronts}
use Rattle.cells.proofs.laws.Sound.{sound_view}

-- a place is one word of one known block
pub one_word : (view : PassView) (place at k other other_k : ℕ) (block other_block : Published) → IsSound view
    → IsSealedWord view place at k block → IsSealedWord view place other other_k other_block
    → (k ≡ other_k) × (block ≡ other_block) × (at ≡ other)
one_word view place at k other other_k block other_block sound one two =
    let low = one.sealed in
    let other_low = two.sealed in
    let here = one.here in
    let there = two.here in
    let in_one : IsInBlock view at place = record { block = block; known = one.known; begun = omega arith; within = omega arith } in
    let in_other : IsInBlock view other place =
    record { block = other_block; known = two.known; begun = omega arith; within = omega arith } in
    let same : at ≡ other = sound.apart at other place in_one in_other in
    (omega arith, sound.one other block other_block (subst (λ (a : ℕ). KnowsBlock view a block) same one.known) two.known, same)

module _ {facts : RoundFacts} {words : List ℕ} {state : RoundState} {history : List Entry} (round : HoldsRound facts words state history)
    (old : PassView) (there : get_elem? state.views old.number ≡ some old) (place at : ℕ) (learned : List Known) where
  -- that a marked row stood
  abbrev Stood : Mark → Type 0
  Stood = HasStood facts.keys state.blocks state.cells history

  -- the view after the load, with this front and these marks
  abbrev reached_view : List Entry → List Mark → PassView
  reached_view front marks = view_after_load_sealed learned front marks old

  -- a front that the load may reach, and the marks that it may leave
  pub record Reach : Type 0 where
    pub front : List Entry
    pub marks : List Mark
    pub grows : IsPrefix old.front front
    pub begins : IsPrefix front history
    pub stood : All Stood marks
    pub stays : StaysAtFront old place front marks
    pub agrees : (other : ℕ) (row : RowBlock) → IsSealedWord old place other 1 (Row row) → row.op ≡ 0 → (key : ℕ)
        → IsMarkedFor old other key → AgreesAtFront (reached_view front marks) row key × IsMarkedFor (reached_view front marks) other key

  -- the pass's view is sound
  sound : IsSound old
  sound = sound_view round old.number old there

  -- the front and the marks may stay where no marked row turns out to have no operation
  still : ((other : ℕ) (row : RowBlock) → IsSealedWord old place other 1 (Row row) → row.op ≡ 0 → (key : ℕ)
      → IsMarkedFor old other key → ⊥) → Reach
  still none = record {
    front = old.front;
    marks = old.marks;
    grows = prefix_refl old.front;
    begins = (round.past.begun old.number old there).front;
    stood = (round.hindsight old.number old there).marks;
    stays = λ other k block word reason. (refl, refl);
    agrees = λ other row word plain key marked. absurd (none other row word plain key marked);
  }

  module _ (row : RowBlock) (sealed : IsSealedWord old place at 1 (Row row)) (plain : row.op ≡ 0) where
    -- the row is published
    here : IsRow state.blocks at row
    here = All-contains (IsPublished state.blocks) old.known (known_block at (Row row)) (round.fits.known old.number old there) sealed.known

    -- the place is that word of that row alone
    only_row : (other : ℕ) (other_row : RowBlock) → IsSealedWord old place other 1 (Row other_row) → (row ≡ other_row) × (at ≡ other)
    only_row other other_row word =
        let same = one_word old place at 1 other 1 (Row row) (Row other_row) sound sealed word in
        let rows : Row row ≡ Row other_row = same.1 in (cc, same.2)

    module _ (mark : Mark) (others : List Mark) (is_list : old.marks ≡ mark ∷ others) (on_row : mark.row ≡ at) (stood : Stood mark)
        (long : length mark.front ≡ length old.front) where
      -- the mark is from the front of now
      now : mark.front ≡ old.front
      now = same_fronts mark.front old.front history (prefix_trans mark.front stood.past history stood.further stood.begins)
          (round.past.begun old.number old there).front long

      -- the marked row is the one that is read
      is_row : stood.row ≡ row
      is_row =
          let there : state.blocks at ≡ Some (Row stood.row) = ap state.blocks (sym on_row) ∙ stood.here in
          let both : Some (Row stood.row) ≡ Some (Row row) = sym there ∙ here in cc

      -- the mark from the time at which the row stood
      abbrev later : Mark
      later = record mark { front = stood.past }

      later_stood : Stood later
      later_stood = record {
        row = stood.row;
        here = stood.here;
        home = λ key of. stood.home key (record { first = of.first; second = of.second });
        past = stood.past;
        further = prefix_refl stood.past;
        begins = stood.begins;
        held = λ key of. stood.held key (record { first = of.first; second = of.second });
      }

      -- there it has the keys that the set had
      agrees_there : (key : ℕ) → InMark mark key → AgreesAtFront (reached_view stood.past (later ∷ old.marks)) row key
      agrees_there key of =
          sym (row_content-plain state.head state.blocks state.cells row key plain)
          ∙ ap (λ (r : RowBlock). row_content state.blocks state.cells r key) (sym is_row)
          ∙ stood.held key of
          ∙ ap (λ (f : RoundFacts). members_after (is_in f.keys) stood.past key)
          (sym (round.fits.numbered old.number old there).same_round)

      reached : Reach
      reached = record {
        front = stood.past;
        marks = later ∷ old.marks;
        grows = subst (λ (front : List Entry). IsPrefix front stood.past) now stood.further;
        begins = stood.begins;
        stood = All-cons Stood later old.marks later_stood (round.hindsight old.number old there).marks;
        stays = λ other k block word reason.
            let same = one_word old place at 1 other k (Row row) block sound sealed word in
            absurd (⊎_elim (λ (apart : k ≢ 1). apart (sym same.0))
            (λ (named : is_plain_row block ≡ false).
            let clash : true ≡ false = sym (eq-eqb row.op 0 plain) ∙ ap is_plain_row same.1 ∙ named in cc) reason);
        agrees = λ other other_row word none key marked.
            let same = only_row other other_row word in
            let latest : mark ≡ marked.mark = let both = sym is_list ∙ marked.latest in cc in
            let of : InMark mark key = subst (λ (m : Mark). InMark m key) (sym latest) marked.of_key in (
              subst (λ (r : RowBlock). AgreesAtFront (reached_view stood.past (later ∷ old.marks)) r key) same.0 (agrees_there key of),
              record {
                mark = later;
                others = old.marks;
                latest = refl;
                row = on_row ∙ same.1;
                now = refl;
                of_key = record { first = of.first; second = of.second };
              },
            );
      }

    -- the latest mark decides
    by_mark : (marks : List Mark) → old.marks ≡ marks → All Stood marks → Reach
    by_mark [] none stood = still (λ other other_row word plain key marked. let clash = sym none ∙ marked.latest in absurd (cc))
    by_mark (mark ∷ others) is_list stood = elim (ℕ_discrete mark.row at) [
      | yes on_row ↦ elim (ℕ_discrete (length mark.front) (length old.front)) [
        | yes long ↦ reached mark others is_list on_row (All-head Stood mark others stood) long
        | no apart ↦ still (λ other other_row word plain key marked.
            let latest : mark ≡ marked.mark = let both = sym is_list ∙ marked.latest in cc in
            apart (ap (λ (m : Mark). length m.front) latest ∙ ap length marked.now))
      ]
      | no elsewhere ↦ still (λ other other_row word plain key marked.
          let latest : mark ≡ marked.mark = let both = sym is_list ∙ marked.latest in cc in
          elsewhere (ap (λ (m : Mark). m.row) latest ∙ marked.row ∙ sym (only_row other other_row word).1))
    ]

  -- The load may reach this front.
  pub reach : (k : ℕ) (block : Published) → IsSealedWord old place at k block → Reach
  reach k (Generation generation) sealed = still (λ other row word plain key marked.
      let same = (one_word old place at k other 1 (Generation generation) (Row row) sound sealed word).1 in absurd (cc))
  reach k (Op op) sealed = still (λ other row word plain key marked.
      let same = (one_word old place at k other 1 (Op op) (Row row) sound sealed word).1 in absurd (cc))
  reach k (Row row) sealed = elim (ℕ_discrete k 1) [
    | yes second ↦
        let word : IsSealedWord old place at 1 (Row row) = subst (λ (n : ℕ). IsSealedWord old place at n (Row row)) second sealed in
        elim (ℕ_discrete row.op 0) [
          | yes plain ↦ by_mark row word plain old.marks refl (round.hindsight old.number old there).marks
          | no some_op ↦ still (λ other other_row also none key marked.
              let same : Row row ≡ Row other_row = (one_word old place at 1 other 1 (Row row) (Row other_row) sound word also).1 in
              let rows : row ≡ other_row = cc in some_op (ap (λ (r : RowBlock). r.op) rows ∙ none))
        ]
    | no apart ↦ still (λ other other_row also none key marked.
        apart (one_word old place at k other 1 (Row row) (Row other_row) sound sealed also).0)
  ]
