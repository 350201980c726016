use Rattle.std.proofs.Common.{◌≡◌, ◌∙◌, ◌<◌, ◌^◌, true, length, sym, arith}
use Rattle.std.specs.Char.{is_ascii_digit}
use Rattle.std.specs.List.{list_all}
use Rattle.std.specs.Str.Parse.{digits_value}
use Rattle.std.proofs.lemmas.Bool.Decides.{nat_tests}
use Rattle.std.proofs.lemmas.Str.Parse.{parse_digits}
use Rattle.idfiles.proofs.LawDigits.{numerals}
use Rattle.dedup.proofs.words.number_in.Goals as goal

-- digits that aren't read write a number past any limit
pub returns-in_default-3-clause-value : goal.returns-in_default-3-clause-value
returns-in_default-3-clause-value c =
    let value = c.args.value.now in
    let digits : list_all is_ascii_digit value ≡ true = sym c.has_digits_alone.ensures ∙ c.if-not-has_digits_alone.false in
    let refused = rw c.in_default.is at (parse_digits numerals 64 value c.parse.result c.parse.ensures.value.0 digits) in
    let some : 0 < length value = grind (arith, nat_tests) in
    let large : digits_value 10 value < 2 ^ 64 → ⊥ = λ small. refused (some, small) in
    let past : c.args.most < digits_value 10 value = omega (arith, c.ranges.most.fits, large) in
    grind (arith, nat_tests, past)
