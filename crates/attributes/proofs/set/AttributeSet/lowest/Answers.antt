use Rattle.std.proofs.Common.{◌≡◌, ℕ, ◌-◌, ◌%◌, ◌^◌, ap, ◌∙◌, arith}
use lib.Bits.{bit_and, and_mask}
use Rattle.std.proofs.lemmas.Nat.{mod_below, pow_pos}
use Rattle.attributes.specs.Numbers.{set_in}
use Rattle.attributes.proofs.Numbers.{set_in_mod}
use Rattle.attributes.proofs.set.AttributeSet.lowest.Goals as goal

pub returns : goal.returns
returns c =
    let m : ℕ = c.args.number in
    let n : ℕ = c.args.n.value in
    let masked : bit_and m (c.limit.result - 1) ≡ m % 2 ^ n = ap (λ (x : ℕ). bit_and m (x - 1)) c.limit.ensures ∙ and_mask m n in
    record { value = ap (set_in n) masked ∙ set_in_mod n m; bound = omega (arith, masked, mod_below m (2 ^ n) (pow_pos n)) }
