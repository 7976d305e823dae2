use Rattle.std.proofs.Common.{◌≡◌, ℕ, ◌+◌, ◌%◌, ◌^◌, ap, ◌∙◌, arith}
use lib.Bits.{bit_and}
use lib.Count.{ones}
use Rattle.std.proofs.lemmas.Nat.{mod_below, pow_pos}
use Rattle.attributes.specs.Numbers.{set_in}
use Rattle.attributes.specs.Sets.{missing}
use Rattle.attributes.proofs.Numbers.{everything_mask, missing_bits, set_in_mod}
use Rattle.attributes.proofs.set.AttributeSet.missing.Goals as goal

-- the attributes that are there and those that are missing make n
all : (c : goal.After-from) → ones (bit_and c.args.self.bits c.everything.result.bits) + missing (set_in c.args.n.value c.args.self.bits) ≡ c.args.n.value
all c =
    let m : ℕ = c.args.self.bits in
    let n : ℕ = c.args.n.value in
    let masked : bit_and m c.everything.result.bits ≡ m % 2 ^ n = ap (bit_and m) c.everything.ensures ∙ everything_mask m n in
    omega (arith, ap ones masked, ap missing (set_in_mod n m), missing_bits n (m % 2 ^ n) (mod_below m (2 ^ n) (pow_pos n)))

pub overflow_sub-result : goal.overflow_sub-result
overflow_sub-result c = omega (arith, all c, c.from.ensures, c.get.ensures.value)

pub returns : goal.returns
returns c = omega (arith, all c, c.from.ensures, c.get.ensures.value)
