use Rattle.std.proofs.Common.{◌≡◌, take}
use Rattle.std.specs.Str.Parse.{digits_value}
use Rattle.idfiles.proofs.digits.value_of.Given as goal

-- the digits so far were read
abbrev pub invariant-loop-digit : goal.invariant-loop-digit
invariant-loop-digit l = l.value ≡ digits_value 10 (take l.digit-index l.digits)
