-- What the ledger of a round's only worker comes to, with one insert more.
use Rattle.std.proofs.Common.{◌≡◌, ℕ, ◌+◌, ◌<◌, Bool, true, false, List, [], ◌∷◌, ◌++◌, refl, sym, ap, ◌∙◌, arith}
use Rattle.set_model.specs.declared.call.Call.TheVariants.{Insert}
use Rattle.step_core.specs.Ledger.{Outcome, width_of, write}
use Rattle.step_core.specs.declared.views.PassView.{PassView}
use Rattle.cells.specs.Lone.{EndsAs, ledger_of}
use Rattle.fset.specs.Alone.{AnswersAlone}
use Rattle.fset.specs.declared.outcomes.Answered.{Answered}
use Rattle.dedup.specs.LoneRun.{Serving, after_insert, serve, serve_where, served, serving_after}

-- the inserts of two lists, one behind the other
pub served-append : (room : ℕ) (keys others : List ℕ) (serving : Serving)
    → served room (keys ++ others) serving ≡ served room others (served room keys serving)
unfolding served
served-append room [] others serving = refl
served-append room (key ∷ keys) others serving = served-append room keys others (serve room key serving)

-- one insert more
pub served-push : (room : ℕ) (keys : List ℕ) (key : ℕ) (serving : Serving)
    → served room (keys ++ key ∷ []) serving ≡ serve room key (served room keys serving)
unfolding served
served-push room keys key serving = served-append room keys (key ∷ []) serving

-- no insert leaves the ledger
pub served-none : (room : ℕ) (serving : Serving) → served room [] serving ≡ serving
unfolding served
served-none room serving = refl

-- none is begun once one was refused
pub served-refused : (room : ℕ) (keys : List ℕ) (serving : Serving) → serving.refused ≡ true → served room keys serving ≡ serving
unfolding served
served-refused room [] serving refused = refl
served-refused room (key ∷ keys) serving refused =
    ap (served room keys) (ap (λ (was : Bool). serve_where was room key serving) refused) ∙ served-refused room keys serving refused

module _ (room key begun : ℕ) (old new : PassView) where
  abbrev pub before : Serving
  before = record { ledger = ledger_of old; begun = begun; refused = false }

  -- an insert was answered, and then the table grew or not
  pub serve_answered : (answered : Answered) (mid : PassView) → AnswersAlone Insert key answered old mid
      → ledger_of new ≡ after_insert room answered.changed answered.width (ledger_of mid)
      → serve room key before ≡ record { ledger = ledger_of new; begun = begun + 1; refused = false }
  serve_answered answered mid answers grown =
      let outcome : Outcome = write Insert key (ledger_of old) in
      ap (λ (full : Bool). serving_after full room key before outcome) (sym answers.ends.is_full)
      ∙ (λ i. record {
        ledger = after_insert room (sym answers.changed i) (width_of key (sym answers.ends.ledger i)) (sym answers.ends.ledger i);
        begun = begun + 1;
        refused = false;
      })
      ∙ (λ i. record {
        ledger = after_insert room answered.changed (sym answers.width i) (ledger_of mid);
        begun = begun + 1;
        refused = false;
      })
      ∙ (λ i. record { ledger = sym grown i; begun = begun + 1; refused = false })

  -- or refused
  pub serve_refused : EndsAs (write Insert key (ledger_of old)) true new
      → serve room key before ≡ record { ledger = ledger_of new; begun = begun + 1; refused = true }
  serve_refused ends =
      let outcome : Outcome = write Insert key (ledger_of old) in
      ap (λ (full : Bool). serving_after full room key before outcome) (sym ends.is_full)
      ∙ (λ i. record { ledger = sym ends.ledger i; begun = begun + 1; refused = true })
