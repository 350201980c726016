-- A draw keeps the rule, and tells how far the counter was.
use Rattle.std.proofs.Common.{◌≡◌, ℕ, ◌+◌, ◌*◌, ◌%◌, ◌^◌, ◌<◌, ◌≤◌, List, [], ◌∷◌, ◌++◌, length, set, refl, sym, ap, ◌∙◌, subst, arith, length-append, sum_by, None, Some, slice_index, lt-ltb, le-ltb, mul-le-mul_right}
use Rattle.std.proofs.Math.Nat.{mul-le-mul_left, mod-eq_of_lt}
use Rattle.std.proofs.lemmas.Bool.{cases_lt}
use mathlib.Core.Logic.{⊎_elim}
use mathlib.Core.Option.{some}
use lib.ListN.{get_elem?}
use Rattle.atomic_table.specs.Table.{State, Step, Allows, keeps}
use Rattle.atomic_table.proofs.Lists.{at_set}
use Rattle.claims.specs.declared.claim.Claim.{Claim}
use Rattle.claims.specs.declared.rule.SeatView.{SeatView}
use Rattle.claims.specs.declared.rule.Setup.{Setup}
use Rattle.claims.specs.declared.rule.TheConstants.{MAX_CHUNK}
use Rattle.claims.specs.Divided.{Divides, IsSound, IsSetup, claimed_once}
use Rattle.claims.specs.Moves.{DrawTells, view_after_draw}
use Rattle.claims.specs.Places.{holders_of, claim_at}
use Rattle.claims.specs.Views.{worker_view, draws_in}
use Rattle.claims.proofs.LawPlaces.{holders_of-more, claimed_once-more, claimed_once-past}
use Rattle.claims.proofs.LawTotals.{total-set, total-le-total, total-alone, own-le-total}

-- how often the seats missed
abbrev pub total_misses : List SeatView → ℕ
total_misses views = sum_by (λ view. length view.misses) views

-- so few misses leave the counter far from wrapping
small_word : (setup : Setup) (word misses : ℕ) → IsSetup setup → misses ≤ setup.seats
    → word ≤ setup.len + setup.chunk * (1 + misses) → word + setup.chunk < 2 ^ 64
small_word setup word misses small few room =
    let few_places = small.few_places in
    let small_chunk = small.small_chunk in
    let few_seats = small.few_seats in
    let product : setup.chunk * (1 + misses) ≤ MAX_CHUNK * (1 + misses) = mul-le-mul_right (1 + misses) small_chunk in
    omega arith

-- what one seat's draw changes: its count of draws, which places are claimed, and what holds of it
record DrawsOne (setup : Setup) (word : ℕ) (views : List SeatView) (id : ℕ) (view new : SeatView) : Type 0 where
  pub same_parts : new.parts ≡ view.parts
  pub one_draw : draws_in new ≡ draws_in view + 1
  pub claims : (place : ℕ) → holders_of place new.claims + claimed_once setup word place
      ≡ holders_of place view.claims + claimed_once setup (word + setup.chunk) place
  pub room : word + setup.chunk ≤ setup.len + setup.chunk * (1 + total_misses (set views id new))
  pub sound : IsSound setup (word + setup.chunk) new

-- the rule holds after it
draw_divides : (setup : Setup) (table : State ℕ SeatView) (divides : Divides setup table) (id : ℕ) (view new : SeatView) (after : ℕ)
    → get_elem? table.views id ≡ some view → after ≡ divides.word + setup.chunk
    → DrawsOne setup divides.word table.views id view new
    → Divides setup (record { words = set table.words 0 after; homes = table.homes; views = set table.views id new })
draw_divides setup table divides id view new after is after_is draws =
    let word = divides.word in
    let views = table.views in
    let total : (f : SeatView → ℕ) → sum_by f (set views id new) + f view ≡ sum_by f views + f new =
    λ f. total-set f views id view new is in
    let parts : sum_by (λ view. view.parts) (set views id new) ≡ setup.seats =
    omega (arith, total (λ v. v.parts), divides.parts, draws.same_parts) in
    let sound : (number : ℕ) (any : SeatView) → get_elem? (set views id new) number ≡ some any
    → IsSound setup (word + setup.chunk) any =
    λ number any there. ⊎_elim
    (λ same. subst (IsSound setup (word + setup.chunk)) same.1 draws.sound)
    (λ else. let old = divides.sound number any else.1 in record {
      missed_once = old.missed_once;
      missed_past = λ missed. omega (arith, old.missed_past missed);
      idle = old.idle;
    })
    (at_set views id number new any there) in
    let few : total_misses (set views id new) ≤ setup.seats =
    omega (
      arith,
      parts,
      total-le-total (λ v. length v.misses) (λ v. v.parts) (set views id new)
          (λ number any there. (sound number any there).missed_once),
    ) in
    let drawn : sum_by draws_in (set views id new) ≡ sum_by draws_in views + 1 = omega (arith, total draws_in, draws.one_draw) in
    record {
      word = word + setup.chunk;
      words = λ i. set (divides.words i) 0 (after_is i);
      small = divides.small;
      parts = parts;
      once = λ place.
          omega (arith, total (λ v. holders_of place v.claims), divides.once place, draws.claims place);
      drawn = subst (λ (n : ℕ). word + setup.chunk ≡ setup.chunk * n) (sym drawn) (omega (arith, divides.drawn));
      room = draws.room;
      unwrapped = small_word setup (word + setup.chunk) (total_misses (set views id new)) divides.small few draws.room;
      sound = sound;
    }

module _ (setup : Setup) (claims : List Claim) where
  -- the seat before the draw
  abbrev view : SeatView
  view = worker_view setup claims None

  -- a draw below the length
  found_draws : (table : State ℕ SeatView) (divides : Divides setup table) (id : ℕ) → get_elem? table.views id ≡ some view
      → divides.word < setup.len
      → DrawsOne setup divides.word table.views id view (worker_view setup (claims ++ claim_at setup divides.word ∷ []) None)
  found_draws table divides id is lt =
      let claim = claim_at setup divides.word in
      let new = worker_view setup (claims ++ claim ∷ []) None in
      let misses = total-set (λ v. length v.misses) table.views id view new is in
      record {
        same_parts = refl;
        one_draw = omega (arith, length-append claims (claim ∷ []));
        claims = λ place.
            omega (arith, holders_of-more place claims claim, claimed_once-more setup divides.word place lt);
        room = omega arith;
        sound = record {
          missed_once = omega arith;
          missed_past = λ missed. absurd (omega arith);
          idle = λ none. absurd (omega arith);
        };
      }

  -- a draw past it
  missed_draws : (table : State ℕ SeatView) (divides : Divides setup table) (id : ℕ) → get_elem? table.views id ≡ some view
      → setup.len ≤ divides.word
      → DrawsOne setup divides.word table.views id view (worker_view setup claims (Some divides.word))
  missed_draws table divides id is past =
      let new = worker_view setup claims (Some divides.word) in
      let misses = total-set (λ v. length v.misses) table.views id view new is in
      let more : total_misses (set table.views id new) ≡ total_misses table.views + 1 = omega arith in
      record {
        same_parts = refl;
        one_draw = omega arith;
        claims = λ place. ap (λ (n : ℕ). holders_of place claims + n) (claimed_once-past setup divides.word place past);
        room = subst (λ (n : ℕ). divides.word + setup.chunk ≤ setup.len + setup.chunk * (1 + n)) (sym more) (omega arith);
        sound = record {
          missed_once = omega arith;
          missed_past = λ missed. omega arith;
          idle = λ none. absurd (omega arith);
        };
      }

  -- what the seat knows after a draw below the length, and after one past it
  pub after_found : (place : ℕ) → place < setup.len
      → view_after_draw place view ≡ worker_view setup (claims ++ claim_at setup place ∷ []) None
  after_found place lt = rw (lt-ltb place setup.len lt) refl

  pub after_missed : (place : ℕ) → setup.len ≤ place → view_after_draw place view ≡ worker_view setup claims (Some place)
  after_missed place past = rw (le-ltb place setup.len past) refl

  -- so the draw keeps the rule
  draw_keeps : (table : State ℕ SeatView) (divides : Divides setup table) (id after : ℕ) → get_elem? table.views id ≡ some view
      → after ≡ divides.word + setup.chunk
      → Divides setup (record {
        words = set table.words 0 after;
        homes = table.homes;
        views = set table.views id (view_after_draw divides.word view);
      })
  draw_keeps table divides id after is after_is =
      let Keeps : SeatView → Type 0 = λ new. Divides setup
      (record { words = set table.words 0 after; homes = table.homes; views = set table.views id new }) in
      ⊎_elim
      (λ lt. subst Keeps (sym (after_found divides.word lt))
      (draw_divides setup table divides id view _ after is after_is (found_draws table divides id is lt)))
      (λ past. subst Keeps (sym (after_missed divides.word past))
      (draw_divides setup table divides id view _ after is after_is (missed_draws table divides id is past)))
      (cases_lt divides.word setup.len)

  -- and tells how far the counter was
  draw_tells : (table : State ℕ SeatView) (divides : Divides setup table) (id : ℕ) → get_elem? table.views id ≡ some view
      → (made : Step ℕ) → DrawTells made (view, []) divides.word (view_after_draw divides.word view, [])
  draw_tells table divides id is made =
      let all = sum_by draws_in table.views in
      let own = own-le-total draws_in table.views id view is in
      let product : setup.chunk * draws_in view ≤ setup.chunk * all = mul-le-mul_left setup.chunk own in
      record {
        seat = refl;
        room = divides.unwrapped;
        ahead = omega (arith, divides.drawn);
        alone = λ one. divides.drawn ∙ ap (λ (n : ℕ). setup.chunk * n)
            (total-alone draws_in (λ v. v.parts) table.views id view is (divides.parts ∙ one)
            (λ number any there none. let sound = divides.sound number any there in
            omega (arith, ap length (sound.idle none), sound.missed_once)));
      }

  -- whatever the table is, a worker's seat that isn't spent may draw
  pub draw_allows : (slots id : ℕ) (made : Step ℕ)
      → Allows (Divides setup) slots id (view, []) 0 (λ word. (word + setup.chunk) % 2 ^ 64) (DrawTells made (view, []))
  draw_allows slots id made table divides homes is small =
      let found : ℕ = slice_index table.words 0 in
      let same : found ≡ divides.word = ap (λ (words : List ℕ). slice_index words 0) divides.words in
      let new = view_after_draw found view in
      let lt : divides.word + setup.chunk < 2 ^ 64 = divides.unwrapped in
      let after : (found + setup.chunk) % 2 ^ 64 ≡ divides.word + setup.chunk =
      ap (λ (word : ℕ). (word + setup.chunk) % 2 ^ 64) same ∙ mod-eq_of_lt lt in
      let Keeps : ℕ → Type 0 = λ place. Divides setup (record {
        words = set table.words 0 ((found + setup.chunk) % 2 ^ 64);
        homes = table.homes;
        views = set table.views id (view_after_draw place view);
      }) in
      let Tells : ℕ → Type 0 = λ place. DrawTells made (view, []) place (view_after_draw place view, []) in (
        new,
        keeps,
        tt,
        subst Keeps (sym same) (draw_keeps table divides id _ is after),
        subst Tells (sym same) (draw_tells table divides id is made),
      )
