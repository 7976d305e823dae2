use Rattle.std.proofs.Common.{ℕ, ◌-◌, ap, ◌∙◌, arith}
use Rattle.attributes.specs.Sets.{complement}
use Rattle.attributes.proofs.Numbers.{number_of_everything, complement_bits}
use Rattle.attributes.proofs.set.AttributeSet.outside.Goals as goal

pub overflow_sub-result : goal.overflow_sub-result
overflow_sub-result c = omega (arith, c.everything.ensures, number_of_everything c.args.n.value, c.within.ensures.bound)

pub returns : goal.returns
returns c =
    let n : ℕ = c.args.n.value in
    let m : ℕ = c.within.result.bits in
    record {
      value =
          complement_bits n m (c.everything.result.bits - m) (omega (arith, c.everything.ensures, number_of_everything n, c.within.ensures.bound))
          ∙ ap complement c.within.ensures.value;
      bound = omega (arith, c.everything.ensures, number_of_everything n);
    }
