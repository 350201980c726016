-- What a worker knows before a draw, and after it.
use Rattle.std.proofs.Common.{◌≡◌, ℕ, ◌+◌, ◌*◌, ◌%◌, ◌^◌, ◌<◌, List, [], ◌∷◌, ◌++◌, length, min, refl, sym, ap, ◌∙◌, subst, arith, Option, None, length-append}
use Rattle.atomic_table.specs.Table.{Me, Step, Allows}
use Rattle.atomic_table.specs.declared.shared.Seat.{Seat as CounterSeat}
use Rattle.claims.specs.declared.claim.Claim.{Claim}
use Rattle.claims.specs.declared.rule.SeatView.{SeatView}
use Rattle.claims.specs.declared.rule.Setup.{Setup}
use Rattle.claims.specs.declared.seat.ClaimSeat.TheInside as seat
use Rattle.claims.specs.Divided.{Divides}
use Rattle.claims.specs.Modeled.{IsWhole}
use Rattle.claims.specs.Moves.{DrawTells, view_after_draw}
use Rattle.claims.specs.Places.{claim_at, EndsLone}
use Rattle.claims.specs.Views.{worker_view, draws_in}
use Rattle.claims.proofs.KeepsDraw.{draw_allows, after_found}
use Rattle.claims.proofs.LawPlaces.{end_of-more}

-- whatever the table is, a worker that isn't spent may draw
pub take_allows : (key setup : Setup) (slots id : ℕ) (me : Me ℕ SeatView) (claims : List Claim) (made : Step ℕ) → key ≡ setup
    → me ≡ (worker_view setup claims None, [])
    → Allows (Divides key) slots id me 0 (λ word. (word + setup.chunk) % 2 ^ 64) (DrawTells made me)
take_allows key setup slots id me claims made same is =
    subst (λ (z : Setup × Me ℕ SeatView). Allows (Divides z.0) slots id z.1 0 (λ word. (word + setup.chunk) % 2 ^ 64) (DrawTells made z.1))
    (λ i. (sym same i, sym is i)) (draw_allows setup claims slots id made)

-- what the seat of a worker is
pub worker_is : (inside : seat.Inside) (setup : Setup) (spent : Option ℕ) → IsWhole inside → inside.seat.me.0.setup ≡ setup
    → inside.spent ≡ spent → inside.seat.me ≡ (worker_view setup inside.seat.me.0.claims spent, [])
worker_is inside setup spent whole is unspent =
    whole.one ∙ (λ i. (worker_view (is i) inside.seat.me.0.claims (unspent i), []))

-- a lone seat's claims end where its draws say with one claim more too
lone_more : (setup : Setup) (claims : List Claim) (place : ℕ) → place < setup.len
    → (setup.seats ≡ 1 → place ≡ setup.chunk * length claims) → EndsLone setup (claims ++ claim_at setup place ∷ [])
lone_more setup claims place lt alone one =
    end_of-more claims (claim_at setup place)
    ∙ ap (λ (n : ℕ). min n setup.len)
    (omega (arith, alone one) ∙ ap (λ (n : ℕ). setup.chunk * n) (sym (length-append claims (claim_at setup place ∷ []))))

-- the seat of a worker after a draw below the length
pub found_is : (setup : Setup) (claims : List Claim) (made : Step ℕ) (me after : Me ℕ SeatView) (place : ℕ)
    → me ≡ (worker_view setup claims None, []) → DrawTells made me place after → place < setup.len
    → after ≡ (worker_view setup (claims ++ claim_at setup place ∷ []) None, [])
found_is setup claims made me after place is tells lt =
    tells.seat ∙ ap (λ (m : Me ℕ SeatView). (view_after_draw place m.0, m.1)) is
    ∙ ap (λ (v : SeatView). (v, [])) (after_found setup claims place lt)

-- is whole
pub found_whole : (inside : seat.Inside) (setup : Setup) (new : CounterSeat ℕ SeatView) (place : ℕ) (made : Step ℕ) → IsWhole inside
    → inside.seat.me.0.setup ≡ setup → inside.spent ≡ None → DrawTells made inside.seat.me place new.me → place < setup.len
    → IsWhole (record { seat = new; spent = None })
found_whole inside setup new place made whole same unspent tells lt =
    let claims = inside.seat.me.0.claims in
    let before = worker_is inside setup None whole same unspent in
    let is = found_is setup claims made inside.seat.me new.me place before tells lt in
    let Whole : Me ℕ SeatView → Type 0 = λ me.
    (me ≡ (worker_view me.0.setup me.0.claims None, [])) × EndsLone me.0.setup me.0.claims in
    let alone : setup.seats ≡ 1 → place ≡ setup.chunk * length claims =
    λ one. let drawn = subst (λ (m : Me ℕ SeatView). m.0.setup.seats ≡ 1 → place ≡ m.0.setup.chunk * draws_in m.0)
    before tells.alone one in omega arith in
    let facts = subst Whole (sym is) (refl, lone_more setup claims place lt alone) in
    record { one = facts.0; lone = facts.1 }
