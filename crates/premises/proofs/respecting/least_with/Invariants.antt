use Rattle.std.proofs.Common.{◌^◌, ◌<◌}
use Rattle.attributes.specs.Numbers.{set_in}
use Rattle.attributes.specs.Sets.{missing}
use Rattle.implications.specs.Values.{implications_in}
use Rattle.premises.proofs.Stepping.{Growing}
use Rattle.premises.proofs.respecting.least_with.Given as goal

abbrev pub invariant-loop-more : goal.invariant-loop-more
invariant-loop-more l =
    (l.least.bits < 2 ^ l.list.n.value)
    × Growing l.list.n.value (implications_in l.list.n.value l.list.numbers.now) (set_in l.list.n.value l.fn.s.bits) l.attribute (set_in l.list.n.value l.least.bits)

abbrev pub decreases-loop-more : goal.decreases-loop-more
decreases-loop-more l = missing (set_in l.list.n.value l.least.bits)
