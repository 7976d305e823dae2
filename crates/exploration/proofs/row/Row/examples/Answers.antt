use Rattle.std.proofs.Common.{◌≡◌, ℕ, ◌+◌, ◌-◌, List, get_or, take, drop, ap, arith}
use Rattle.exploration.proofs.Rows.{counted}
use Rattle.exploration.proofs.row.Row.examples.Goals as goal

pub returns : goal.returns
returns c =
    let row : List ℕ = c.args.self.now.numbers.now in
    let h = counted row c.args.self.now.counts c.args.self.now.checked in
    let many : 8195 + c.args.self.now.counts.examples - 8195 ≡ get_or row 2 0 = omega (arith, h.examples) in
    ap (λ (k : ℕ). take k (drop 8195 row)) many
