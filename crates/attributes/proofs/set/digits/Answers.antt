use Rattle.std.proofs.Common.{ℕ, ◌<◌, List, Bor, decimal, ap, ◌∙◌, arith}
use Rattle.std.proofs.Math.ListN.{get_or-map}
use Rattle.std.specs.Fmt.{digits}
use Rattle.attributes.proofs.Text.{decimal_at}
use Rattle.attributes.proofs.set.digits.Goals as goal

pub returns : goal.returns
unfolding digits
returns c = let small : c.from.result < 16 = omega arith in rw (← (get_or-map (λ (t : Bor (List ℕ)). t.now))) (decimal_at c.from.result small ∙ ap decimal c.from.ensures)
