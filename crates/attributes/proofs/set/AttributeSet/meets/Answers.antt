use Rattle.std.proofs.Common.{not, ap}
use Rattle.attributes.proofs.Numbers.{disjoint_bits}
use Rattle.attributes.proofs.set.AttributeSet.meets.Goals as goal

pub returns : goal.returns
returns c n h = ap not (disjoint_bits n c.args.self.bits c.args.other.bits h)
