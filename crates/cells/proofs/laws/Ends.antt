-- With all passes in one table seat, the words at the end and the longest front are those of the round.
use Rattle.std.proofs.Common.{◌≡◌, ℕ, zero, suc, ◌+◌, ◌<◌, ◌≤◌, List, [], ◌∷◌, ◌++◌, append_assoc, get_or, length, length-append, map, take, refl, sym, ap, ◌∙◌, subst, arith, add-one, All}
use mathlib.Core.List.{IsPrefix}
use mathlib.Core.Option.{some, some-injective, some-ne-none}
use lib.ListN.{get_elem?}
use Rattle.std.specs.List.{range_with_len}
use Rattle.std.specs.List.Sorted.{IsPermutation}
use Rattle.std.proofs.lemmas.List.Elements.{All-nil, All-cons, All-head, All-tail, All-weaker}
use Rattle.std.proofs.lemmas.List.FromFn.{length-range_with_len, get_or-range_with_len}
use Rattle.std.proofs.Math.Seq.{get_or-append_seam}
use Rattle.std.proofs.lemmas.List.Sorted.{All-permutation, IsPermutation-map, length_permutation}
use Rattle.atomic_table.specs.Table.{Final, Seen}
use Rattle.set_model.specs.declared.entry.Entry.{Entry}
use Rattle.std.specs.FinSet.{contains-from_list_nat}
use Rattle.set_model.specs.History.{set_after}
use Rattle.set_model.specs.Keys.{keys_set, is_in, IsTestOf}
use Rattle.set_model.proofs.LawHistory.{sets_and_tests_agree}
use Rattle.step_core.specs.Content.{HasMembers}
use Rattle.step_core.specs.Fits.{IsWellFormed}
use Rattle.step_core.proofs.seen.Members.{is_member-held, plain_rows}
use Rattle.step_core.proofs.seen.Shown.{well_formed_from_fits}
use Rattle.cells.proofs.laws.LoneRound.{lone_front}
use Rattle.step_core.specs.States.{RoundState}
use Rattle.step_core.specs.declared.views.PassView.{PassView}
use Rattle.step_core.specs.declared.views.RoundFacts.{RoundFacts}
use Rattle.cells.specs.Ends.{EndsRound, HasView}
use Rattle.cells.specs.Invariant.{HoldsRound}
use Rattle.cells.specs.Past.{longest_front}
use Rattle.cells.specs.Seats.{IsRuled, SpeaksFor, gathered_seat, no_pass}
use Rattle.cells.specs.Tokens.{PassValue, HasBegunCalls}
use Rattle.cells.specs.declared.rule.SeatView.{SeatView}
use Rattle.cells.proofs.laws.Fronts.{longest_front-whole}
use Rattle.cells.proofs.laws.Gathering.{views_of}
use Rattle.cells.proofs.parts.PutState.{there_inside}

-- one element more, where the count is a successor
take-suc_at : {A : Type 0} (list : List A) (place : ℕ) (item : A) → get_elem? list place ≡ some item
    → take (suc place) list ≡ take place list ++ item ∷ []
take-suc_at {A} [] place item is = absurd (some-ne-none item (sym is))
take-suc_at {A} (first ∷ others) zero item is = ap (λ (y : A). y ∷ []) (some-injective first item is)
take-suc_at {A} (first ∷ others) (suc place) item is = ap (λ (list : List A). first ∷ list) (take-suc_at others place item is)

-- one element more of a list
pub take-more_at : {A : Type 0} (list : List A) (place : ℕ) (item : A) → get_elem? list place ≡ some item
    → take (place + 1) list ≡ take place list ++ item ∷ []
take-more_at {A} list place item is = ap (λ (n : ℕ). take n list) (add-one place) ∙ take-suc_at list place item is

-- what holds of all holds of the one at a place
all_at : {A : Type 0} (Fact : A → Type 0) (list : List A) (place : ℕ) (item : A) → All Fact list
    → get_elem? list place ≡ some item → Fact item
all_at Fact [] place item holds is = absurd (some-ne-none item (sym is))
all_at Fact (first ∷ others) zero item holds is = subst Fact (some-injective first item is) (All-head Fact first others holds)
all_at Fact (first ∷ others) (suc place) item holds is = all_at Fact others place item (All-tail Fact first others holds) is

-- a pass with the number is among them
pub record IsAmong (passes : List PassValue) (number : ℕ) : Type 0 where
  pub place : ℕ
  pub view : PassView
  pub there : get_elem? (views_of passes) place ≡ some view
  pub is_number : view.number ≡ number

-- the numbers of passes
abbrev pub numbers_of : List PassValue → List ℕ
numbers_of passes = map (λ pass. pass.view.number) passes

-- each of their numbers is that of one of them
numbers_among : (passes : List PassValue) → All (IsAmong passes) (numbers_of passes)
numbers_among [] = All-nil (IsAmong [])
numbers_among (pass ∷ passes) =
    All-cons (IsAmong (pass ∷ passes)) pass.view.number (numbers_of passes)
    (record { place = 0; view = pass.view; there = refl; is_number = refl })
    (All-weaker (IsAmong passes) (IsAmong (pass ∷ passes)) (λ number among. record {
      place = suc among.place;
      view = among.view;
      there = among.there;
      is_number = among.is_number;
    }) (numbers_of passes) (numbers_among passes))

-- and so is each number of the round
all_among : (passes : List PassValue) (seats number : ℕ) → IsPermutation (numbers_of passes) (range_with_len 0 seats)
    → number < seats → IsAmong passes number
all_among passes seats number once lt =
    let all = All-permutation (IsAmong passes) (numbers_of passes) (range_with_len 0 seats) once (numbers_among passes) in
    subst (IsAmong passes) (get_or-range_with_len 0 seats number 0 lt ∙ omega arith)
    (all number 0 (omega (arith, length-range_with_len 0 seats)))

-- a round has a pass
pub some_passes : (passes : List PassValue) (seats : ℕ) → IsPermutation (numbers_of passes) (range_with_len 0 seats)
    → 1 ≤ seats → passes ≡ [] → ⊥
some_passes passes seats once one none =
    let count = length_permutation (numbers_of passes) (range_with_len 0 seats) once in
    omega (arith, count, length-range_with_len 0 seats, ap (λ (list : List PassValue). length (numbers_of list)) none)

-- what holds of the view of each pass
All-views : (Fact : PassView → Type 0) (passes : List PassValue) → All Fact (views_of passes) → All (λ pass. Fact pass.view) passes
All-views Fact [] holds = All-nil (λ (pass : PassValue). Fact pass.view)
All-views Fact (pass ∷ passes) holds =
    All-cons (λ (pass : PassValue). Fact pass.view) pass passes (All-head Fact pass.view (views_of passes) holds)
    (All-views Fact passes (All-tail Fact pass.view (views_of passes) holds))

-- what stands at a place is found there
get_or-there : (views : List PassView) (place : ℕ) (view none : PassView) → get_elem? views place ≡ some view → get_or views place none ≡ view
get_or-there [] place view none there = absurd (some-ne-none view (sym there))
get_or-there (first ∷ views) zero view none there = some-injective first view there
get_or-there (first ∷ views) (suc place) view none there = get_or-there views place view none there

-- the views found at all places of a list, behind others, are the list
map-places : (before views : List PassView) (none : PassView)
    → map (λ place. get_or (before ++ views) place none) (range_with_len (length before) (length views)) ≡ views
map-places before [] none = refl
map-places before (view ∷ views) none =
    let found : List PassView → ℕ → PassView = λ list place. get_or list place none in
    let more = map-places (before ++ view ∷ []) views none in
    let list : (before ++ view ∷ []) ++ views ≡ before ++ view ∷ views = append_assoc before (view ∷ []) views in
    let start : length (before ++ view ∷ []) ≡ length before + 1 = omega (arith, length-append before (view ∷ [])) in
    λ i. get_or-append_seam before view views none i
    ∷ ((λ j. map (found (sym list j)) (range_with_len (sym start j) (length views))) ∙ more) i

-- the views found at the numbers of passes are theirs
map-numbers : (views : List PassView) (none : PassView) (passes : List PassValue)
    → All (λ pass. get_elem? views pass.view.number ≡ some pass.view) passes
    → map (λ place. get_or views place none) (numbers_of passes) ≡ views_of passes
map-numbers views none [] all = refl
map-numbers views none (pass ∷ passes) all =
    let Here : PassValue → Type 0 = λ pass. get_elem? views pass.view.number ≡ some pass.view in
    λ i. get_or-there views pass.view.number pass.view none (All-head Here pass passes all) i
    ∷ map-numbers views none passes (All-tail Here pass passes all) i

-- so where each has a number of its own, they are the round's views in some order
all_views : (views : List PassView) (passes : List PassValue) (seats : ℕ) → length views ≡ seats
    → All (λ pass. get_elem? views pass.view.number ≡ some pass.view) passes
    → IsPermutation (numbers_of passes) (range_with_len 0 seats) → IsPermutation (views_of passes) views
all_views views passes seats long all once =
    let found : ℕ → PassView = λ place. get_or views place no_pass in
    subst (λ (z : List PassView × List PassView). IsPermutation z.0 z.1)
    (λ i. (
      map-numbers views no_pass passes all i,
      (ap (λ (n : ℕ). map found (range_with_len 0 n)) (sym long)
          ∙ map-places [] views no_pass) i,
    ))
    (IsPermutation-map found (numbers_of passes) (range_with_len 0 seats) once)

-- the members of a round's words are the set after its history
pub round_members : {facts : RoundFacts} {words : List ℕ} {state : RoundState} {history : List Entry}
    → HoldsRound facts words state history → HasMembers words (set_after (keys_set facts.keys) history)
round_members {facts} {words} {state} {history} round key =
    let opening : IsTestOf (is_in facts.keys) (keys_set facts.keys) = λ key. contains-from_list_nat facts.keys key in
    (sets_and_tests_agree (is_in facts.keys) (keys_set facts.keys) history opening).0 key
    ∙ sym (round.members key)
    ∙ sym (is_member-held round.fits.holds key)

-- a pass that is the only one has seen the whole history at the end
pub end_front : (facts : RoundFacts) (passes : List PassValue) (words : List ℕ) (history : List Entry)
    → EndsRound facts passes words history → facts.seats ≡ 1 → All (λ pass. pass.view.front ≡ history) passes
end_front facts passes words history ends alone =
    All-weaker (HasView ends.state) (λ pass. pass.view.front ≡ history)
    (λ pass there. lone_front ends.holds pass.view.number pass.view there alone) passes ends.views

-- the last words of a round are well formed
pub end_words : (facts : RoundFacts) (passes : List PassValue) (words : List ℕ) (history : List Entry)
    → EndsRound facts passes words history → IsWellFormed words
end_words facts passes words history ends = well_formed_from_fits facts words ends.state ends.holds.fits

-- the words and the longest front at the end of a round are its last words and its history
pub ends_round : (facts : RoundFacts) (passes : List PassValue) (id : ℕ) (seat : SeatView) (words slots : List ℕ)
    → seat ≡ gathered_seat (views_of passes) → IsPermutation (numbers_of passes) (range_with_len 0 facts.seats)
    → All HasBegunCalls passes → Final (Seen (IsRuled facts) id seat) words slots
    → EndsRound facts passes words (longest_front (views_of passes))
ends_round facts passes id seat words slots is_seat once begun_calls final =
    let ruled = final.1.0 in
    let views = ruled.state.views in
    let history = ruled.history in
    let holds = ruled.holds in
    let owner = ruled.seated.owner in
    let gathered = views_of passes in
    let speaks : All (SpeaksFor views owner id) gathered =
    subst (λ (s : SeatView). All (SpeaksFor views owner id) s.rights) is_seat (ruled.seated.each id seat final.1.1).rights in
    let begun : All (λ view. IsPrefix view.front history) gathered =
    All-weaker (SpeaksFor views owner id) (λ view. IsPrefix view.front history)
    (λ view is. (holds.past.begun view.number view is.is_view).front) gathered speaks in
    let seen = holds.past.whole in
    let low : seen.pass < facts.seats = omega (arith, there_inside views seen.pass seen.view seen.is_view, holds.fits.passes) in
    let among = all_among passes facts.seats seen.pass once low in
    let at_pass = (all_at (SpeaksFor views owner id) gathered among.place among.view speaks among.there).is_view in
    let same : among.view ≡ seen.view = some-injective among.view seen.view
    (sym at_pass ∙ ap (get_elem? views) among.is_number ∙ seen.is_view) in
    let whole = longest_front-whole gathered history begun among.place among.view among.there
    (ap (λ (view : PassView). view.front) same ∙ seen.all) in
    let there : All (HasView ruled.state) passes = All-views (λ view. get_elem? views view.number ≡ some view) passes
    (All-weaker (SpeaksFor views owner id) (λ view. get_elem? views view.number ≡ some view) (λ view is. is.is_view)
    gathered speaks) in
    let ended : HoldsRound facts words ruled.state (longest_front gathered) =
    subst (λ (z : List ℕ × List Entry). HoldsRound facts z.0 ruled.state z.1) (λ i. (final.2 i, sym whole i)) holds in
    record {
      state = ruled.state;
      holds = ended;
      views = there;
      all = all_views views passes facts.seats holds.fits.passes there once;
      serials = begun_calls;
      members = round_members ended;
      plain = plain_rows ended.fits.holds ended.no_op;
    }
