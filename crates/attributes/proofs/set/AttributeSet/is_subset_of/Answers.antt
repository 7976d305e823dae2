use Rattle.attributes.proofs.Numbers.{subset_bits}
use Rattle.attributes.proofs.set.AttributeSet.is_subset_of.Goals as goal

pub returns : goal.returns
returns c n h = subset_bits n c.args.self.bits c.args.other.bits h
