use Rattle.attributes.specs.Numbers.{set_in}
use Rattle.attributes.specs.Sets.{missing}
use Rattle.implications.proofs.list.Implications.+grow.Given as goal

abbrev pub decreases-grow : goal.decreases-grow
decreases-grow l = missing (set_in l.self.now.n.value l.s.bits)
