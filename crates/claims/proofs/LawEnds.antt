-- With all parts in one seat, the claims of the workers are all there are.
use Rattle.std.proofs.Common.{◌≡◌, ℕ, ◌*◌, ◌<◌, ◌≤◌, List, [], length, min, refl, sym, ap, ◌∙◌, arith, get_or, lt-ltb, le-ltb, sum_by, Any, IsSome, Option, Some, None}
use mathlib.Core.Option.{some, some-injective}
use lib.ListN.{get_elem?}
use Rattle.std.specs.List.{range_with_len}
use Rattle.std.specs.List.Sorted.{IsPermutation}
use Rattle.std.proofs.lemmas.List.Sums.{get_or-le-sum_by}
use Rattle.atomic_table.specs.Table.{Me, Final, Seen}
use Rattle.claims.specs.declared.rule.SeatView.{SeatView}
use Rattle.claims.specs.declared.rule.Setup.{Setup}
use Rattle.claims.specs.Divided.{Divides, claimed_once}
use Rattle.claims.specs.Gathering.{HasGathered}
use Rattle.claims.specs.Places.{holders_of}
use Rattle.claims.specs.Tokens.{SeatValue, draws_of, holders_in, misses_in, places_in}
use Rattle.claims.specs.Views.{draws_in, misses_of}
use Rattle.claims.proofs.LawPermutation.{all_places}
use Rattle.claims.proofs.LawTotals.{total-alone}

-- the counter is at the word, and the seats made all draws
pub record EndsAt (setup : Setup) (seats : List SeatValue) (word : ℕ) : Type 0 where
  pub drawn : word ≡ setup.chunk * draws_of seats
  pub once : (place : ℕ) → holders_in place seats ≡ claimed_once setup word place
  pub missed : 0 < misses_in seats → setup.len ≤ word

-- the last word of the table is where the counter ends
pub ends_at : (setup : Setup) (seats : List SeatValue) (id : ℕ) (me : Me ℕ SeatView) (words slots : List ℕ) (word : ℕ)
    → HasGathered seats me → length seats ≡ setup.seats → Final (Seen (Divides setup) id me.0) words slots
    → get_elem? words 0 ≡ some word → EndsAt setup seats word
ends_at setup seats id me words slots word gathered whole final at =
    let table = final.0 in
    let divides = final.1.0 in
    let there = final.1.1 in
    let same : divides.word ≡ word =
    some-injective divides.word word (ap (λ (ws : List ℕ). get_elem? ws 0) (sym divides.words ∙ final.2) ∙ at) in
    let parts : sum_by (λ view. view.parts) table.views ≡ me.0.parts = divides.parts ∙ sym (gathered.parts ∙ whole) in
    let all : (f : SeatView → ℕ) → ((view : SeatView) → view.claims ≡ [] → length view.misses ≡ 0 → f view ≡ 0)
    → sum_by f table.views ≡ f me.0 =
    λ f none. total-alone f (λ view. view.parts) table.views id me.0 there parts
    (λ number view is idle. let sound = divides.sound number view is in
    none view (sound.idle idle) (omega (arith, sound.missed_once))) in
    record {
      drawn = sym same ∙ divides.drawn ∙ ap (λ (n : ℕ). setup.chunk * n)
          (all draws_in (λ view none no_miss. omega (arith, ap length none)) ∙ gathered.draws);
      once = λ place. sym (gathered.holders place)
          ∙ sym (all (λ view. holders_of place view.claims) (λ view none no_miss. ap (holders_of place) none))
          ∙ divides.once place
          ∙ ap (λ (n : ℕ). claimed_once setup n place) same;
      missed = λ missed. omega (arith, same, (divides.sound id me.0 there).missed_past (omega (arith, gathered.misses)));
    }

-- each place below it is claimed once
pub ends_claimed : (setup : Setup) (seats : List SeatValue) (word place : ℕ) → EndsAt setup seats word
    → place < min word setup.len → holders_in place seats ≡ 1
ends_claimed setup seats word place ends lt = ends.once place ∙ rw (lt-ltb place (min word setup.len) lt) refl

-- and no other
pub ends_free : (setup : Setup) (seats : List SeatValue) (word place : ℕ) → EndsAt setup seats word
    → min word setup.len ≤ place → holders_in place seats ≡ 0
ends_free setup seats word place ends past = ends.once place ∙ rw (le-ltb place (min word setup.len) past) refl

-- a spent seat missed
one_miss : (spent : Option ℕ) → IsSome spent → 0 < length (misses_of spent)
one_miss None is = cc
one_miss (Some place) is = omega arith

-- where a seat is spent, the counter has passed the length
pub ends_covered : (setup : Setup) (seats : List SeatValue) (word : ℕ) → EndsAt setup seats word
    → Any (λ seat. IsSome seat.spent) seats → min word setup.len ≡ setup.len
ends_covered setup seats word ends (place, seat, lt, is, spent) =
    let misses : SeatValue → ℕ = λ s. length (misses_of s.spent) in
    let own : misses (get_or seats place seat) ≤ sum_by misses seats = get_or-le-sum_by misses seats place seat lt in
    let one = one_miss seat.spent spent in
    omega (arith, ends.missed (omega (arith, ap misses is)))

-- the places of all claims are those below it
pub ends_places : (setup : Setup) (seats : List SeatValue) (word : ℕ) → EndsAt setup seats word
    → IsPermutation (range_with_len 0 (min word setup.len)) (places_in seats)
ends_places setup seats word ends = all_places setup seats word ends.once
