use Rattle.std.proofs.Common.{◌↔◌, ◌≡◌, ℕ, List, IfOk, Result, Ok, Err}
use Rattle.set_model.specs.declared.no_memory.NoMemory.{NoMemory}
use Rattle.certify.specs.Order.{IsLegalOrder, IsVerdict}
use Rattle.certify.specs.declared.claimed.Claimed.{Claimed}
use Rattle.certify.specs.declared.verdict.Verdict.{Verdict}
use Rattle.certify.specs.declared.verdict.Verdict.TheVariants.{Legal}
use Rattle.certify.proofs.LawLegal.{legal_exactly}
use Rattle.certify.proofs.order.check_order.Goals as goal

if_ok : (calls : List Claimed) (order : List ℕ) (r : Result Verdict NoMemory) → IfOk r (IsVerdict calls order)
    → IfOk r (λ v. (v ≡ Legal) ↔ IsLegalOrder calls order)
if_ok calls order (Ok v) is = legal_exactly calls order v is
if_ok calls order (Err e) is = tt

-- the law of a legal verdict
pub returns-clause-legal : goal.returns-clause-legal
returns-clause-legal c = if_ok c.args.calls.now c.args.order.now c.first_wrong.result c.first_wrong.ensures
