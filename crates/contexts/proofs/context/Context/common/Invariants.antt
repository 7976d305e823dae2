use Rattle.std.proofs.Common.{◌^◌, ◌<◌, ◌≤◌, length}
use Rattle.attributes.specs.Numbers.{set_in}
use Rattle.contexts.proofs.Walks.{Shared}
use Rattle.contexts.proofs.context.Context.common.Given as goal

abbrev pub invariant-loop-place : goal.invariant-loop-place
invariant-loop-place l =
    (l.end ≤ length l.self.objects.now) × (l.shared.bits < 2 ^ l.self.n.value) × Shared l.self.n.value l.self.objects.now (set_in l.self.n.value l.asked.bits) l.shared.bits l.end

abbrev pub decreases-loop-place : goal.decreases-loop-place
decreases-loop-place l = l.end
