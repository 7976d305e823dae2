use Rattle.std.proofs.Common.{rules, ℕ, ◌<◌}
use Rattle.attributes.specs.Numbers.{set_in}
use Rattle.attributes.specs.Sets.{missing}
use Rattle.attributes.proofs.Numbers.{length_set_in}
use Rattle.implications.specs.Values.{implications_in}
use Rattle.implications.proofs.Repairs.{respecting_closure, repaired_less, repaired_closure}
use Rattle.implications.proofs.list.Implications.+grow.Goals as goal

pub returns-in_default-clause-value : goal.returns-in_default-clause-value
returns-in_default-clause-value t c =
    let n : ℕ = c.args.self.now.n.value in
    respecting_closure n (implications_in n c.args.self.now.numbers.now) (set_in n c.args.s.bits) (length_set_in n c.args.s.bits) c.in_default.ensures.value

pub grow-requires : goal.grow-requires
grow-requires t c =
    let n : ℕ = c.args.self.now.n.value in
    let fewer : missing (set_in n c.in-Some.more.bits) < missing (set_in n c.args.s.bits) =
    repaired_less n c.args.self.now.numbers.now (set_in n c.args.s.bits) (set_in n c.in-Some.more.bits) (length_set_in n c.args.s.bits) c.in-Some.ensures.value
    in
    (search rules, c.in-Some.ensures.bound)

pub returns : goal.returns
returns t c =
    let n : ℕ = c.args.self.now.n.value in
    record {
      value =
          repaired_closure n c.args.self.now.numbers.now (set_in n c.args.s.bits) (set_in n c.in-Some.more.bits) (length_set_in n c.args.s.bits) c.in-Some.ensures.value (set_in n c.grow.result.bits) c.grow.ensures.value;
      bound = c.grow.ensures.bound;
    }
