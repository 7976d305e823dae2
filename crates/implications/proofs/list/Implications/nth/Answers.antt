use Rattle.std.proofs.Common.{◌≡◌, ◌/◌, ◌<◌, ℕ, List, [], length, get_or, ap, ◌∙◌, arith}
use Rattle.implications.proofs.Turns.{pairs_in, read_at}
use Rattle.implications.proofs.list.Implications.nth.Goals as goal

pub returns-clause-value : goal.returns-clause-value
returns-clause-value c =
    let row : List ℕ = c.args.self.now.numbers.now in
    let k : ℕ = c.args.place in
    let found = c.in_ok-pair.ensures.lookup.3 in
    let inside : k < length row / 2 = omega (arith, found.0, c.as_chunks.ensures.front_len) in
    let pair : c.in_ok-pair.pair.now ≡ get_or (pairs_in row) k [] = found.1 [] ∙ ap (λ (pairs : List (List ℕ)). get_or pairs k []) c.as_chunks.ensures.front in
    read_at c.args.self.now.n.value _ row _ _ k inside (c.as_slice.ensures ∙ pair) c.next.result c.next.ensures.steps
