use Rattle.std.proofs.Common.{◌≡◌, ◌∙◌, true, refl, sym, ap, subst}
use Rattle.clap.proofs.OnLiterals.{clap_on_literals}
use Rattle.clap.specs.Words.{fault_of, is_simple, is_simple_and_free, matches_of}
use Rattle.dedup.proofs.LawKinds.{error_refuses}
use Rattle.dedup.specs.Words.{dedup_app, fault_of_kind, is_faultless, is_read, MayRefuse, rows_in, texts}
use Rattle.dedup.proofs.words.parsed.Goals as goal

simple_and_free : is_simple_and_free dedup_app ≡ true
unfolding clap_on_literals dedup_app
simple_and_free = refl

simple : is_simple dedup_app ≡ true
unfolding clap_on_literals dedup_app
simple = refl

-- where `clap` finds no fault there is none
pub returns-in-Ok-clause-read : goal.returns-in-Ok-clause-read
unfolding is_read
returns-in-Ok-clause-read c =
    let shape = c.in_ok-command.ensures in
    let none = c.in-Ok.ensures.kinds (ap is_simple_and_free shape ∙ simple_and_free) in
    ap (λ app. is_faultless (fault_of app (texts c.args.words.now))) (sym shape) ∙ ap is_faultless none

-- its matches are what the words give
pub returns-in-Ok-clause-rows : goal.returns-in-Ok-clause-rows
unfolding rows_in
returns-in-Ok-clause-rows c =
    let shape = c.in_ok-command.ensures in
    (c.in-Ok.ensures.matches (ap is_simple shape ∙ simple)).0 ∙ ap (λ app. matches_of app (texts c.args.words.now)) shape

-- its error refuses only words with a fault, but for want of memory
pub returns-in-Err-clause-refused : goal.returns-in-Err-clause-refused
unfolding is_read
returns-in-Err-clause-refused c =
    let shape = c.in_ok-command.ensures in
    let error = c.in-Err.error in
    let kinds = c.in-Err.ensures.kinds (ap is_simple_and_free shape ∙ simple_and_free) in
    let refuses = error_refuses _ error.kind kinds in
    let at_kind : c.fault_of.result ≡ fault_of_kind error.kind = c.fault_of.ensures ∙ ap fault_of_kind c.kind.ensures in
    subst (MayRefuse (is_faultless (fault_of dedup_app (texts c.args.words.now)))) (sym at_kind)
    (subst (λ app. MayRefuse (is_faultless (fault_of app (texts c.args.words.now))) (fault_of_kind error.kind)) shape refuses)
