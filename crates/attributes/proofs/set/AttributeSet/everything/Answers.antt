use Rattle.std.proofs.Common.{◌≡◌, ℕ, ◌^◌, ◌<◌, ap, arith}
use Rattle.std.proofs.lemmas.Nat.{one_shl}
use Rattle.attributes.proofs.Numbers.{number_of_everything}
use Rattle.attributes.proofs.set.AttributeSet.everything.Goals as goal

pub returns : goal.returns
returns c =
    let n : ℕ = c.args.n.value in
    let power : 2 ^ c.get.result ≡ 2 ^ n = ap (λ (k : ℕ). 2 ^ k) c.get.ensures.value in
    let small : c.get.result < 16 = omega (arith, c.get.ensures.few) in
    omega (arith, number_of_everything n, power, one_shl c.get.result 16 small)
