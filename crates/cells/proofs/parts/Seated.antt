-- No pass has two table seats, also after a table seat is cut in two or took in another.
use Rattle.std.proofs.Common.{◌≡◌, ◌≢◌, ℕ, zero, suc, Bool, true, false, cond, nat_eq, List, [], ◌∷◌, ◌++◌, length, slice_set, refl, sym, ap, ◌∙◌, subst, arith, length-set, inl, inr, ◌⊎◌, ⊎_elim, All}
use mathlib.Core.List.{IsPrefix}
use mathlib.Core.Option.{some, some-injective, some-ne-none}
use lib.ListN.{get_elem?}
use Rattle.std.proofs.lemmas.Bool.Decides.{nat_tests}
use Rattle.std.proofs.lemmas.List.Elements.{All-nil, All-cons, All-append, All-head, All-tail, All-weaker}
use Rattle.atomic_table.proofs.Lists.{at_set, set_again}
use Rattle.set_model.specs.declared.entry.Entry.{Entry}
use Rattle.step_core.specs.declared.views.PassView.{PassView}
use Rattle.cells.specs.Seats.{IsSeat, AreSeated, SpeaksFor, pass_seat, note_seat, spent_seat, pass_of, other_passes}
use Rattle.cells.specs.declared.rule.SeatView.{SeatView}

-- an element of a list with one more at the end is of the list, or the last
at_more : {A : Type 0} (list : List A) (last item : A) (place : ℕ) → get_elem? (list ++ last ∷ []) place ≡ some item
    → (get_elem? list place ≡ some item) ⊎ ((place ≡ length list) × (last ≡ item))
at_more [] last item zero is = inr (refl, some-injective last item is)
at_more [] last item (suc place) is = absurd (some-ne-none item (sym is))
at_more (first ∷ others) last item zero is = inl is
at_more (first ∷ others) last item (suc place) is =
    ⊎_elim (λ t. inl t) (λ (t : (place ≡ length others) × (last ≡ item)). inr (ap suc t.0, t.1)) (at_more others last item place is)

-- the owner after one pass got another table seat
abbrev handed : (ℕ → ℕ) → ℕ → ℕ → ℕ → ℕ
handed owner pass seat number = cond (nat_eq number pass) seat (owner number)

-- the owner after one table seat took in what another had
abbrev taken : (ℕ → ℕ) → ℕ → ℕ → ℕ → ℕ
taken owner from to number = cond (nat_eq (owner number) from) to (owner number)

-- the pass has the table seat that it got
handed_same : (owner : ℕ → ℕ) (pass seat number : ℕ) → number ≡ pass → handed owner pass seat number ≡ seat
handed_same owner pass seat number same =
    let test : nat_eq number pass ≡ true = grind (arith, nat_tests) in
    ap (λ (b : Bool). cond b seat (owner number)) test

-- and the others have theirs
handed_other : (owner : ℕ → ℕ) (pass seat number : ℕ) → number ≢ pass → handed owner pass seat number ≡ owner number
handed_other owner pass seat number other =
    let test : nat_eq number pass ≡ false = grind (arith, nat_tests) in
    ap (λ (b : Bool). cond b seat (owner number)) test

-- what the other table seat had is the table seat's
taken_from : (owner : ℕ → ℕ) (from to number : ℕ) → owner number ≡ from → taken owner from to number ≡ to
taken_from owner from to number same =
    let own : ℕ = owner number in
    let is : own ≡ from = same in
    let test : nat_eq own from ≡ true = grind (arith, nat_tests) in
    ap (λ (b : Bool). cond b to (owner number)) test

-- and what a third had it has still
taken_other : (owner : ℕ → ℕ) (from to number : ℕ) → owner number ≢ from → taken owner from to number ≡ owner number
taken_other owner from to number other =
    let own : ℕ = owner number in
    let not : own ≢ from = other in
    let test : nat_eq own from ≡ false = grind (arith, nat_tests) in
    ap (λ (b : Bool). cond b to (owner number)) test

module _ (views : List PassView) (history : List Entry) where
  -- a table seat is one under another owner where that leaves it its passes
  still_seat : (owner other : ℕ → ℕ) (number : ℕ) (seat : SeatView)
      → ((view : PassView) → SpeaksFor views owner number view → other view.number ≡ number)
      → IsSeat views history owner number seat → IsSeat views history other number seat
  still_seat owner other number seat same is = record {
    front = is.front;
    rights = All-weaker (SpeaksFor views owner number) (SpeaksFor views other number)
        (λ view speaks. record { is_view = speaks.is_view; only = same view speaks }) seat.rights is.rights;
  }

  module _ (seats : List SeatView) (seated : AreSeated views history seats) (id : ℕ) (seat : SeatView)
      (there : get_elem? seats id ≡ some seat) where
    -- who speaks for which pass
    abbrev owner : ℕ → ℕ
    owner = seated.owner

    -- the table seat is one
    own : IsSeat views history owner id seat
    own = seated.each id seat there

    module _ (one : seat.rights ≡ pass_of seat ∷ other_passes seat.rights)
        (apart : All (λ view. view.number ≢ (pass_of seat).number) (other_passes seat.rights)) where
      -- the pass that is cut off
      abbrev first : PassView
      first = pass_of seat

      -- those that stay
      abbrev others : List PassView
      others = other_passes seat.rights

      -- their table seat
      abbrev rest : SeatView
      rest = record { front = seat.front; rights = others }

      -- the owner after the cut
      abbrev cut_owner : ℕ → ℕ
      cut_owner = handed owner first.number (length seats)

      -- the table seat speaks for all of its passes,
      speak_all : All (SpeaksFor views owner id) (first ∷ others)
      speak_all = subst (All (SpeaksFor views owner id)) one own.rights

      -- the first among them
      first_speaks : SpeaksFor views owner id first
      first_speaks = All-head (SpeaksFor views owner id) first others speak_all

      -- after the cut it speaks for the rest,
      rest_seated : IsSeat views history cut_owner id rest
      rest_seated =
          let speaks = All-tail (SpeaksFor views owner id) first others speak_all in
          record {
            front = own.front;
            rights = λ k d lt. record {
              is_view = (speaks k d lt).is_view;
              only = handed_other owner first.number (length seats) _ (apart k d lt) ∙ (speaks k d lt).only;
            };
          }

      -- each other table seat for its own,
      other_seated : (number : ℕ) (other : SeatView) → number ≢ id → get_elem? seats number ≡ some other
          → IsSeat views history cut_owner number other
      other_seated number other not at =
          still_seat owner cut_owner number other (λ view speaks.
          handed_other owner first.number (length seats) view.number
          (λ same. not (sym speaks.only ∙ ap owner same ∙ first_speaks.only)) ∙ speaks.only) (seated.each number other at)

      -- and the new one for the first
      new_seated : IsSeat views history cut_owner (length seats) (pass_seat first)
      new_seated = record {
        front = (history, refl);
        rights = All-cons (SpeaksFor views cut_owner (length seats)) first [] (record {
          is_view = first_speaks.is_view;
          only = handed_same owner first.number (length seats) first.number refl;
        }) (All-nil (SpeaksFor views cut_owner (length seats)));
      }

      -- so it is with every table seat
      cut_each : (number : ℕ) (other : SeatView) → get_elem? (slice_set seats id rest ++ pass_seat first ∷ []) number ≡ some other
          → IsSeat views history cut_owner number other
      cut_each number other at =
          elim (at_more (slice_set seats id rest) (pass_seat first) other number at) [
            | inl before ↦ elim (at_set seats id number rest other before) [
              | inl here ↦
                  subst (λ (z : ℕ × SeatView). IsSeat views history cut_owner z.0 z.1) (λ i. (sym here.0 i, here.1 i)) rest_seated
              | inr beside ↦ other_seated number other beside.0 beside.1
            ]
            | inr last ↦
                subst (λ (z : ℕ × SeatView). IsSeat views history cut_owner z.0 z.1)
                (λ i. (sym (last.0 ∙ length-set seats id rest) i, last.1 i)) new_seated
          ]

      -- the first pass of a table seat may get a table seat of its own
      pub cut_seated : AreSeated views history (slice_set seats id rest ++ pass_seat first ∷ [])
      cut_seated = record { owner = cut_owner; each = cut_each }

    -- a note's table seat may stand beside it, and the passes stay where they were
    pub beside_seated : (front : List Entry) → IsPrefix front history
        → AreSeated views history (slice_set seats id seat ++ note_seat front ∷ [])
    beside_seated front begins = record {
      owner = owner;
      each = λ number other at. elim (at_more (slice_set seats id seat) (note_seat front) other number at) [
        | inl before ↦
            seated.each number other
            (subst (λ (l : List SeatView). get_elem? l number ≡ some other) (set_again seats id seat there) before)
        | inr last ↦
            subst (IsSeat views history owner number) last.1 (record {
              front = begins;
              rights = All-nil (SpeaksFor views owner number);
            })
      ];
    }

    module _ (other_id : ℕ) (other : SeatView) (apart : ¬ (other_id ≡ id)) (at : get_elem? seats other_id ≡ some other) where
      -- the table seat with the other's passes
      abbrev both : SeatView
      both = record { front = seat.front; rights = other.rights ++ seat.rights }

      -- the owner after it took them
      abbrev join_owner : ℕ → ℕ
      join_owner = taken owner other_id id

      -- it then speaks for the passes of both,
      both_seated : IsSeat views history join_owner id both
      both_seated = record {
        front = own.front;
        rights = All-append (SpeaksFor views join_owner id) other.rights seat.rights
            (All-weaker (SpeaksFor views owner other_id) (SpeaksFor views join_owner id) (λ view speaks. record {
              is_view = speaks.is_view;
              only = taken_from owner other_id id view.number speaks.only;
            }) other.rights (seated.each other_id other at).rights)
            (still_seat owner join_owner id seat (λ view speaks.
            taken_other owner other_id id view.number (λ same. apart (sym same ∙ speaks.only)) ∙ speaks.only) own).rights;
      }

      -- a third table seat for its own,
      third_seated : (number : ℕ) (third : SeatView) → number ≢ other_id → get_elem? seats number ≡ some third
          → IsSeat views history join_owner number third
      third_seated number third not there_too =
          still_seat owner join_owner number third (λ view speaks.
          taken_other owner other_id id view.number (λ same. not (sym speaks.only ∙ same)) ∙ speaks.only)
          (seated.each number third there_too)

      -- and the other for none
      spent_seated : IsSeat views history join_owner other_id spent_seat
      spent_seated = record { front = (history, refl); rights = All-nil (SpeaksFor views join_owner other_id) }

      -- so it is with every table seat
      join_each : (number : ℕ) (third : SeatView)
          → get_elem? (slice_set (slice_set seats id both) other_id spent_seat) number ≡ some third
          → IsSeat views history join_owner number third
      join_each number third there_too =
          elim (at_set (slice_set seats id both) other_id number spent_seat third there_too) [
            | inl spent ↦
                subst (λ (z : ℕ × SeatView). IsSeat views history join_owner z.0 z.1) (λ i. (sym spent.0 i, spent.1 i)) spent_seated
            | inr beside ↦ elim (at_set seats id number both third beside.1) [
              | inl here ↦
                  subst (λ (z : ℕ × SeatView). IsSeat views history join_owner z.0 z.1) (λ i. (sym here.0 i, here.1 i)) both_seated
              | inr further ↦ third_seated number third beside.0 further.1
            ]
          ]

      -- a table seat may take in the passes of another
      pub joined_seated : AreSeated views history (slice_set (slice_set seats id both) other_id spent_seat)
      joined_seated = record { owner = join_owner; each = join_each }
