use lib.Bits.{or_lt}
use Rattle.attributes.proofs.Numbers.{join_bits}
use Rattle.attributes.proofs.set.AttributeSet.join.Goals as goal

pub returns : goal.returns
returns c = record {
  value = λ n. join_bits n c.args.self.bits c.args.other.bits;
  bound = λ n h k. or_lt n c.args.self.bits c.args.other.bits h k;
}
