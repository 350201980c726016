use Rattle.std.proofs.Common.{rules, sym, ◌∙◌}
use Rattle.cells.specs.Tokens.{IsSamePass}
use Rattle.fset.specs.Taking.{row_left}
use Rattle.fset.proofs.laws.Splitting.{class_keys-skips}
use Rattle.fset.proofs.laws.Taking.{loads_then}
use Rattle.fset.proofs.splitting.ClassKeysKeySource.take_first.Goals as goal

-- loads alone were made
pub returns-then-bucket_of-self-clause-view : goal.returns-then-bucket_of-self-clause-view
returns-then-bucket_of-self-clause-view c =
    loads_then c.args.pass.now.view c.loop-key.pass.view c.take_first.new.pass.view c.loop-key.invariant.loads c.take_first.ensures.view

-- a key of another class was passed over
pub loop-key-preserved : goal.loop-key-preserved
loop-key-preserved c =
    let before = c.loop-key.invariant in
    let keys = c.loop-key.self in
    let old = c.args.pass.now.view in
    let v1 = c.loop-key.pass.view in
    let v2 = c.take_first.new.pass.view in
    let same : IsSamePass c.args.pass.now c.take_first.new.pass = search rules in
    record {
      same = same;
      knows = record { row = c.take_first.ensures.knows; small = before.knows.small };
      left = sym (class_keys-skips keys.exponent keys.bucket c.in-Some.key (row_left v1.known keys.row) (row_left v2.known c.take_first.new.self)
          c.in-Some.ensures.first (λ here. c.if-bucket_of-self.false (c.bucket_of.ensures ∙ here)))
          ∙ before.left;
      loads = loads_then old v1 v2 before.loads c.take_first.ensures.view;
    }

pub returns-clause-view : goal.returns-clause-view
returns-clause-view c =
    loads_then c.args.pass.now.view c.loop-key.pass.view c.take_first.new.pass.view c.loop-key.invariant.loads c.take_first.ensures.view
