use Rattle.std.proofs.Common.{◌^◌, ◌<◌, true, set}
use Rattle.attributes.specs.Numbers.{set_in}
use Rattle.attributes.specs.Sets.{missing}
use Rattle.implications.specs.Values.{implications_in}
use Rattle.premises.specs.Respecting.{Agree}
use Rattle.premises.proofs.Branching.{Closing}
use Rattle.premises.proofs.search.Search.closed_with.Given as goal

abbrev pub invariant-loop-more : goal.invariant-loop-more
invariant-loop-more g l =
    (l.with.bits < 2 ^ l.self.confirmed.n.value)
    × Agree l.attribute (set_in l.self.confirmed.n.value l.fn.s.bits) (set_in l.self.confirmed.n.value l.with.bits)
    × Closing l.self.confirmed.n.value (implications_in l.self.confirmed.n.value l.self.confirmed.numbers.now)
    (set (set_in l.self.confirmed.n.value l.fn.s.bits) l.attribute true) (set_in l.self.confirmed.n.value l.with.bits)

abbrev pub decreases-loop-more : goal.decreases-loop-more
decreases-loop-more g l = missing (set_in l.self.confirmed.n.value l.with.bits)
