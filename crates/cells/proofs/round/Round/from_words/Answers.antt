use Rattle.std.proofs.Common.{[], List, ℕ, length, sym, ap, ◌∙◌, subst}
use Rattle.atomic_table.specs.Table.{opening}
use Rattle.cells.specs.Seats.{IsRuled, facts_of, first_seat}
use Rattle.cells.specs.declared.rule.Setup.{Setup}
use Rattle.cells.proofs.laws.Opens.{begins_ruled, begins_round, setup_facts}
use Rattle.cells.proofs.round.Round.from_words.Goals as goal

-- the rule holds of the table that the round begins with
pub of_words-requires : goal.of_words-requires
of_words-requires c =
    let setup : Setup = record { seats = c.from.result; words = c.of.result } in
    subst (λ (words : List ℕ). IsRuled (facts_of setup) (opening words [] (first_seat setup))) (sym c.as_slice.ensures)
    (begins_ruled c.requires.opening setup c.from.ensures c.of.ensures)

-- the round is one before its passes are cut off
pub invariant_of-round : goal.invariant_of-round
invariant_of-round c =
    let is = c.in_ok-table.ensures in
    let setup : Setup = record { seats = c.from.result; words = c.of.result } in
    begins_round _ setup c.requires.opening c.from.ensures c.of.ensures is.5 (is.0 ∙ ap length c.as_slice.ensures) is.1

-- and after
pub invariant_of-round-2 : goal.invariant_of-round-2
invariant_of-round-2 c =
    let is = c.in_ok-table.ensures in
    let setup : Setup = record { seats = c.from.result; words = c.of.result } in
    begins_round _ setup c.requires.opening c.from.ensures c.of.ensures is.5 (is.0 ∙ ap length c.as_slice.ensures) is.1

-- its facts are the opening's
pub returns-clause-facts : goal.returns-clause-facts
returns-clause-facts c keys is =
    let setup : Setup = record { seats = c.from.result; words = c.of.result } in
    ap facts_of c.in_ok-table.ensures.5 ∙ setup_facts setup c.from.ensures c.of.ensures keys is
