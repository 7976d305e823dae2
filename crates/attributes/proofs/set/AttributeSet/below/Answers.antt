use Rattle.std.proofs.Common.{◌≡◌, ℕ, ◌-◌, ◌*◌, ◌%◌, ◌^◌, ◌<◌, refl, ap, ◌∙◌, lt_of_lt_of_le, arith, pow_mono, rules}
use lib.Bits.{bit_and}
use Rattle.std.proofs.lemmas.Nat.{mod_below, pow_pos}
use Rattle.attributes.specs.Numbers.{set_in}
use Rattle.attributes.proofs.Numbers.{low_mask, set_in_mod}
use Rattle.attributes.proofs.set.AttributeSet.below.Goals as goal

pub returns-then-attribute-gt15 : goal.returns-then-attribute-gt15
returns-then-attribute-gt15 c =
    let small : c.args.self.bits < 2 ^ 16 = search rules in
    record { value = refl; bound = lt_of_lt_of_le small (pow_mono c.if-attribute-gt15.true) }

pub returns : goal.returns
returns c =
    let m : ℕ = c.args.self.bits in
    let i : ℕ = c.args.attribute in
    let masked : bit_and m ((1 * 2 ^ i) % 2 ^ 16 - 1) ≡ m % 2 ^ i = low_mask m i 16 (omega (arith, c.if-attribute-gt15.false)) in
    record { value = ap (set_in i) masked ∙ set_in_mod i m; bound = omega (arith, masked, mod_below m (2 ^ i) (pow_pos i)) }
