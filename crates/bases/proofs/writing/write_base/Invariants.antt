use Rattle.std.proofs.Common.{◌-◌, ◌≤◌}
use Rattle.bases.proofs.Turns.{Writing}
use Rattle.bases.proofs.writing.write_base.Given as goal

abbrev pub invariant-loop-asked : goal.invariant-loop-asked
invariant-loop-asked g l = (l.count ≤ 4096) × Writing (g.F.Forces.width l.forces) (g.F.HasContext.objects l.forces) l.initial.part l.part l.count l.from.bits

abbrev pub decreases-loop-asked : goal.decreases-loop-asked
decreases-loop-asked g l = 4096 - l.count
