use Rattle.std.proofs.Common.{◌-◌, List, ℕ, length, take, drop, subst, ◌∙◌}
use Rattle.std.specs.Io.KnownBytes.{Appends}
use Rattle.std.proofs.KnownBytes.{Appends-trans}
use Rattle.outside.proofs.LawPieces.{take-add_range}
use Rattle.outside.proofs.whole.write_whole.Goals as goal

pub loop-taken-preserved : goal.loop-taken-preserved
loop-taken-preserved g c =
    let before = c.loop-taken.invariant in
    let write = c.in_ok-taken.ensures in
    let bytes = c.args.bytes.now in
    let taken = c.loop-taken.taken in
    let count = c.in_ok-taken.field-0 in
    let written = g.O.Sink.written in
    let front = take-add_range bytes taken count write.bound.0 before.within in
    let both =
    Appends-trans (written c.args.out.now) (written c.loop-taken.out) (written c.write.new.self) (take taken bytes)
    (take count (take (length bytes - taken) (drop taken bytes))) before.appended write.written in
    record {
      within = front.0;
      appended = subst (λ (l : List ℕ). Appends (written c.args.out.now) (written c.write.new.self) l) front.1 both;
      kept = write.cause.kept ∙ before.kept;
    }
