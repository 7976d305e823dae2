use Rattle.std.proofs.Common.{arith}
use Rattle.implications.proofs.Repairs.{implications_length}
use Rattle.implications.proofs.list.Implications.broken.Goals as goal

pub implication_at-requires : goal.implication_at-requires
implication_at-requires c = omega (arith, c.in_ok-place.ensures.inside, implications_length c.args.self.now.n.value c.args.self.now.numbers.now)

pub returns : goal.returns
returns c = record { place = c.in_ok-place.place; broken = c.in_ok-place.ensures; value = c.implication_at.ensures.value; conclusion = c.implication_at.ensures.conclusion }
