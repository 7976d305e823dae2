use Rattle.std.proofs.Common.{◌≡◌, ℕ, ◌+◌, ◌-◌, ◌%◌, ◌^◌, sym, ap, ◌∙◌, arith}
use lib.Bits.{and_mask}
use lib.Pow.{mod-mod-pow}
use Rattle.attributes.specs.Numbers.{set_in}
use Rattle.attributes.proofs.Numbers.{set_in_mod}
use Rattle.attributes.proofs.set.AttributeSet.of_number.Goals as goal

pub returns : goal.returns
returns c n h =
    let m : ℕ = c.args.number in
    let parts : 16 ≡ (16 - n) + n = omega arith in
    ap (set_in n) (and_mask m 16 ∙ ap (λ (k : ℕ). m % 2 ^ k) parts)
    ∙ sym (set_in_mod n (m % 2 ^ ((16 - n) + n)))
    ∙ ap (set_in n) (mod-mod-pow m (16 - n) n)
    ∙ set_in_mod n m
