use Rattle.std.proofs.Common.{ℕ, ◌/◌, ◌^◌, ◌<◌, eqb, sym, ap, ◌∙◌, lt_of_lt_of_le, pow_mono, rules}
use lib.Bits.{and_mask}
use Rattle.std.proofs.lemmas.Bool.{le-ltb}
use Rattle.attributes.proofs.Numbers.{has_bit, has_past}
use Rattle.attributes.proofs.set.AttributeSet.contains.Goals as goal

pub returns-then-attribute-lt16 : goal.returns-then-attribute-lt16
returns-then-attribute-lt16 c n h =
    ap (λ (x : ℕ). eqb x 1) (and_mask (c.args.self.bits / 2 ^ c.args.attribute) 1) ∙ has_bit n c.args.self.bits c.args.attribute h

pub returns-else-attribute-lt16 : goal.returns-else-attribute-lt16
returns-else-attribute-lt16 c n h =
    let m : ℕ = c.args.self.bits in
    let small : m < 2 ^ 16 = search rules in
    le-ltb c.args.attribute 16 c.if-attribute-lt16.false
    ∙ sym (has_past n m c.args.attribute h (lt_of_lt_of_le small (pow_mono c.if-attribute-lt16.false)))
