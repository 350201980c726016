-- Which buckets a ledger has as untouched once some were filled, and where that ends.
use Rattle.std.proofs.Common.{◌≡◌, ◌≢◌, ℕ, zero, suc, ◌+◌, ◌<◌, ◌≤◌, ◌&&◌, not, Bool, true, false, refl, sym, ap, ◌∙◌, subst, arith, add-one, eq-eqb, ne_eqb, inl, inr}
use native.Mathlib.Decide.{ℕ_discrete}
use Rattle.std.proofs.lemmas.Bool.{cases_Bool}
use Rattle.step_core.specs.Ledger.{Ledger, Outcome, and_then, and_then_where, bucket_keys, done, draw_row, fill, row_len, touch, touch_first, touch_where, touched}
use Rattle.step_core.proofs.ledgers.Kept.{drawing-untouched}

-- What was Full is all of a call,
pub and_then-full : (first : Outcome) (next : Ledger → Outcome) → first.full ≡ true → and_then first next ≡ first
and_then-full first next full = ap (λ (b : Bool). and_then_where b first (next first.ledger)) full

-- and of two parts that weren't neither was.
pub and_then-unfull : (first : Outcome) (next : Ledger → Outcome) → (and_then first next).full ≡ false → first.full ≡ false
and_then-unfull first next unfull = elim (cases_Bool first.full) [
  | inl full ↦
      let both : first.full ≡ false = ap (λ (o : Outcome). o.full) (sym (and_then-full first next full)) ∙ unfull in
      both
  | inr other ↦ other
]

module _ (bucket : ℕ) (ledger : Ledger) where
  -- An untouched bucket is filled,
  pub touch-untouched : ledger.untouched bucket ≡ true → touch bucket ledger ≡ fill bucket ledger
  touch-untouched untouched = ap (λ (b : Bool). touch_where b bucket ledger) untouched

  -- and with another nothing is done.
  pub touch-filled : ledger.untouched bucket ≡ false → touch bucket ledger ≡ done ledger
  touch-filled filled = ap (λ (b : Bool). touch_where b bucket ledger) filled

  -- the row that it is filled with is drawn
  abbrev drawn : Outcome
  drawn = draw_row bucket ledger

  -- the fill, where it is known whether that draw was Full
  abbrev filling : Bool → Outcome
  filling full = and_then_where full drawn (done (touched bucket drawn.ledger))

  -- a draw leaves the untouched buckets
  drawn_same : (other : ℕ) → drawn.ledger.untouched other ≡ ledger.untouched other
  drawn_same other = ap (λ (untouched : ℕ → Bool). untouched other) (drawing-untouched (row_len (bucket_keys bucket ledger)) ledger)

  -- a fill leaves the others as they were,
  fill_others : (full : Bool) (other : ℕ) → other ≢ bucket → (filling full).ledger.untouched other ≡ ledger.untouched other
  fill_others true other apart = drawn_same other
  fill_others false other apart =
      ap (λ (b : Bool). not b && drawn.ledger.untouched other) (ne_eqb bucket other (λ same. apart (sym same))) ∙ drawn_same other

  -- and where it isn't Full the bucket isn't untouched
  fill_own : (full : Bool) → full ≡ drawn.full → (filling full).full ≡ false → (filling full).ledger.untouched bucket ≡ false
  fill_own true is unfull = absurd (let clash : true ≡ false = is ∙ unfull in cc)
  fill_own false is unfull = ap (λ (b : Bool). not b && drawn.ledger.untouched bucket) (eq-eqb bucket bucket refl)

  -- A touch leaves the other buckets as they were,
  pub touch-other : (other : ℕ) → other ≢ bucket → (touch bucket ledger).ledger.untouched other ≡ ledger.untouched other
  touch-other other apart = elim (cases_Bool (ledger.untouched bucket)) [
    | inl untouched ↦ ap (λ (o : Outcome). o.ledger.untouched other) (touch-untouched untouched) ∙ fill_others drawn.full other apart
    | inr filled ↦ ap (λ (o : Outcome). o.ledger.untouched other) (touch-filled filled)
  ]

  -- and where it isn't Full the bucket isn't untouched then.
  pub touch-own : (touch bucket ledger).full ≡ false → (touch bucket ledger).ledger.untouched bucket ≡ false
  touch-own unfull = elim (cases_Bool (ledger.untouched bucket)) [
    | inl untouched ↦
        ap (λ (o : Outcome). o.ledger.untouched bucket) (touch-untouched untouched)
        ∙ fill_own drawn.full refl (sym (ap (λ (o : Outcome). o.full) (touch-untouched untouched)) ∙ unfull)
    | inr filled ↦ ap (λ (o : Outcome). o.ledger.untouched bucket) (touch-filled filled) ∙ filled
  ]

module _ (ledger : Ledger) where
  -- To touch no bucket does nothing.
  pub touch_first-none : touch_first 0 ledger ≡ done ledger
  unfolding touch_first
  touch_first-none = refl

  -- One bucket more is touched behind the others.
  pub touch_first-next : (bucket : ℕ) → touch_first (bucket + 1) ledger ≡ and_then (touch_first bucket ledger) (touch bucket)
  unfolding touch_first
  touch_first-next bucket = ap (λ (n : ℕ). touch_first n ledger) (add-one bucket)

  -- A Full touch is all there is.
  pub touch_first-full : (count less : ℕ) → less ≤ count → (touch_first less ledger).full ≡ true
      → touch_first count ledger ≡ touch_first less ledger
  unfolding touch_first
  touch_first-full zero less within full =
      let same : zero ≡ less = omega arith in
      ap (λ (n : ℕ). touch_first n ledger) same
  touch_first-full (suc count) less within full = elim (ℕ_discrete less (suc count)) [
    | yes same ↦ ap (λ (n : ℕ). touch_first n ledger) (sym same)
    | no apart ↦
        let before = touch_first-full count less (omega arith) full in
        and_then-full (touch_first count ledger) (touch count) (ap (λ (o : Outcome). o.full) before ∙ full) ∙ before
  ]

  -- The buckets from the count on are as they were,
  pub touch_first-behind : (count other : ℕ) → count ≤ other
      → (touch_first count ledger).ledger.untouched other ≡ ledger.untouched other
  unfolding touch_first
  touch_first-behind zero other behind = refl
  touch_first-behind (suc count) other behind =
      let before : Outcome = touch_first count ledger in
      let same = touch_first-behind count other (omega arith) in
      elim (cases_Bool before.full) [
        | inl full ↦ ap (λ (o : Outcome). o.ledger.untouched other) (and_then-full before (touch count) full) ∙ same
        | inr unfull ↦
            ap (λ (b : Bool). (and_then_where b before (touch count before.ledger)).ledger.untouched other) unfull
            ∙ touch-other count before.ledger other (λ is. absurd (omega arith))
            ∙ same
      ]

  -- and where it wasn't Full, none below the count is untouched.
  pub touch_first-below : (count other : ℕ) → other < count → (touch_first count ledger).full ≡ false
      → (touch_first count ledger).ledger.untouched other ≡ false
  unfolding touch_first
  touch_first-below zero other below unfull = absurd (omega arith)
  touch_first-below (suc count) other below unfull =
      let before : Outcome = touch_first count ledger in
      let first : before.full ≡ false = and_then-unfull before (touch count) unfull in
      let second : (touch count before.ledger).full ≡ false =
      sym (ap (λ (b : Bool). (and_then_where b before (touch count before.ledger)).full) first) ∙ unfull in
      ap (λ (b : Bool). (and_then_where b before (touch count before.ledger)).ledger.untouched other) first
      ∙ elim (ℕ_discrete other count) [
        | yes same ↦ subst (λ (k : ℕ). (touch count before.ledger).ledger.untouched k ≡ false) (sym same)
            (touch-own count before.ledger second)
        | no apart ↦ touch-other count before.ledger other apart ∙ touch_first-below count other (omega arith) first
      ]
