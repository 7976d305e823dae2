use Rattle.std.proofs.Common.{◌≡◌, ℕ, ◌*◌, ◌%◌, ◌^◌, ◌<◌, true, sym, ap, ◌∙◌, subst, arith}
use lib.Bits.{bit_or, or_lt}
use lib.Pow.{pow-lt}
use Rattle.std.proofs.lemmas.Nat.{one_shl}
use Rattle.std.proofs.lemmas.List.{set_past}
use Rattle.attributes.specs.Numbers.{set_in}
use Rattle.attributes.proofs.Numbers.{length_set_in, with_bit}
use Rattle.attributes.proofs.set.AttributeSet.with.Goals as goal

pub returns-then-attribute-gt15 : goal.returns-then-attribute-gt15
returns-then-attribute-gt15 c = record {
  value = λ n h. sym (set_past (set_in n c.args.self.bits) c.args.attribute true (omega (arith, length_set_in n c.args.self.bits, c.if-attribute-gt15.true)));
  bound = λ n h k. h;
}

pub returns : goal.returns
returns c =
    let m : ℕ = c.args.self.bits in
    let bit : (1 * 2 ^ c.args.attribute) % 2 ^ 16 ≡ 2 ^ c.args.attribute = one_shl c.args.attribute 16 (omega (arith, c.if-attribute-gt15.false)) in
    record {
      value = λ n h. ap (λ (x : ℕ). set_in n (bit_or m x)) bit ∙ with_bit n m c.args.attribute;
      bound = λ n h k. subst (λ (x : ℕ). bit_or m x < 2 ^ n) (sym bit) (or_lt n m (2 ^ c.args.attribute) h (pow-lt k));
    }
