-- The fault of a `clap` error of one of these kinds refuses only words that have a fault.
use Rattle.std.proofs.Common.{◌≡◌, ◌⊎◌, false, [], ◌∷◌, refl, sym, subst, inl, inr}
use Rattle.clap.specs.Kinds.{IsAmong, Kinds}
use Rattle.clap.specs.declared.error.kind.ErrorKind.{ErrorKind}
use Rattle.clap.specs.declared.error.kind.ErrorKind.TheVariants.{OutOfMemory}
use Rattle.dedup.specs.Words.{MayRefuse, fault_of_kind, is_faultless}

may_refuse : (kind : ErrorKind) → MayRefuse false (fault_of_kind kind)
may_refuse OutOfMemory = tt
may_refuse other = refl

-- memory may have run out, or the kind is among the faults, of which there is then one
pub error_refuses : (kinds : Kinds) (kind : ErrorKind) → (kind ≡ OutOfMemory) ⊎ IsAmong kind kinds
    → MayRefuse (is_faultless kinds) (fault_of_kind kind)
error_refuses kinds kind (inl e) = subst (λ k. MayRefuse (is_faultless kinds) (fault_of_kind k)) (sym e) tt
error_refuses [] kind (inr among) = absurd among
error_refuses (first ∷ rest) kind (inr among) = may_refuse kind
