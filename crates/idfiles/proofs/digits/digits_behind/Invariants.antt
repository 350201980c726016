use Rattle.std.proofs.Common.{◌≡◌, ◌-◌, ◌≤◌, true, length, take}
use Rattle.std.specs.List.{list_all}
use Rattle.std.specs.Char.{is_ascii_digit}
use Rattle.std.specs.Str.Parse.{digits_value}
use Rattle.idfiles.proofs.digits.digits_behind.Given as goal

-- the bytes so far are digits with this value
abbrev pub invariant-loop-count : goal.invariant-loop-count
invariant-loop-count l = record {
  known : l.fn.known.count ≤ l.count;
  within : l.count ≤ length l.front;
  digits : list_all is_ascii_digit (take l.count l.front) ≡ true;
  value : l.value ≡ digits_value 10 (take l.count l.front);
}

abbrev pub decreases-loop-count : goal.decreases-loop-count
decreases-loop-count l = length l.front - l.count
