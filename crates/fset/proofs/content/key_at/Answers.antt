use Rattle.std.proofs.Common.{ℕ, sym, subst, arith}
use Rattle.cells.specs.Known.{KnowsSealed, row_at}
use Rattle.cells.specs.Steps.{LoadsSealed}
use Rattle.cells.proofs.laws.Sealed.{knows_key, sealed_key}
use Rattle.cells.proofs.laws.Within.{row_within}
use Rattle.fset.proofs.laws.Reading.{key_keeps}
use Rattle.fset.proofs.content.key_at.Goals as goal

-- a known row lies in the arena, with its keys
pub key_place-requires : goal.key_place-requires
key_place-requires c =
    let view = c.args.pass.now.view in
    let inside = row_within view c.sound.ensures.view c.args.at (row_at view.known c.args.at) c.requires.knows in
    omega (arith, inside.small, c.requires.fits)

-- its keys may be loaded
pub load_sealed-requires-clause-knows : goal.load_sealed-requires-clause-knows
load_sealed-requires-clause-knows c =
    let view = c.args.pass.now.view in
    subst (λ (place : ℕ). KnowsSealed view place) (sym c.key_place.ensures)
    (knows_key view c.args.at (row_at view.known c.args.at) c.requires.knows c.args.i c.requires.fits)

-- the word there is the key
pub returns-clause-answer : goal.returns-clause-answer
returns-clause-answer c =
    let view = c.args.pass.now.view in
    let loads = subst (λ (place : ℕ). LoadsSealed place view c.load_sealed.result c.load_sealed.new.pass.view) c.key_place.ensures
    c.load_sealed.ensures.answer in
    sealed_key view c.args.at (row_at view.known c.args.at) c.requires.knows c.args.i c.load_sealed.result c.requires.fits loads.reads

-- it names nothing
pub returns-clause-view : goal.returns-clause-view
returns-clause-view c =
    let view = c.args.pass.now.view in
    key_keeps c.args.at view c.requires.knows c.load_sealed.result c.load_sealed.new.pass.view c.args.i c.requires.fits
    (subst (λ (place : ℕ). LoadsSealed place view c.load_sealed.result c.load_sealed.new.pass.view) c.key_place.ensures
    c.load_sealed.ensures.answer)
