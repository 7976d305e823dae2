use Rattle.std.proofs.Common.{◌≡◌, ◌+◌, ◌^◌, ◌<◌, length, None}
use Rattle.attributes.specs.Numbers.{set_in}
use Rattle.attributes.specs.Sets.{missing}
use Rattle.contexts.specs.Values.{implication_at}
use Rattle.implications.specs.Values.{implications_in}
use Rattle.comparisons.proofs.Apart.{Reaching, Turn}
use Rattle.comparisons.proofs.first_difference.Given as goal

abbrev pub invariant-loop-implication : goal.invariant-loop-implication
invariant-loop-implication l =
    (l.found ≡ None) × (l.reached.bits < 2 ^ l.fn.n.value)
    × Reaching l.fn.n.value (implications_in l.fn.n.value l.fn.other) (implication_at l.fn.n.value l.implication) (set_in l.fn.n.value l.reached.bits)

abbrev pub decreases-loop-implication : goal.decreases-loop-implication
decreases-loop-implication l = missing (set_in l.fn.n.value l.reached.bits)

abbrev pub invariant-implications : goal.invariant-implications
invariant-implications l =
    (l.place + length l.implication-iterator.rest.now < 2 ^ 64) × (l.found ≡ None)
    × Turn l.fn.n.value (implications_in l.fn.n.value l.fn.one) (implications_in l.fn.n.value l.fn.other) l.place l.implication-iterator.n.value l.implication-iterator.rest.now
