use Rattle.std.proofs.Common.{lt_of_le_of_lt}
use lib.Bits.{and_le_l}
use Rattle.attributes.proofs.Numbers.{meet_bits}
use Rattle.attributes.proofs.set.AttributeSet.meet.Goals as goal

pub returns : goal.returns
returns c = record {
  value = λ n. meet_bits n c.args.self.bits c.args.other.bits;
  bound = λ n h. lt_of_le_of_lt (and_le_l c.args.self.bits c.args.other.bits) h;
}
