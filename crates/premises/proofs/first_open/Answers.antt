use Rattle.std.proofs.Common.{ℕ, List, ap, ◌∙◌}
use Rattle.attributes.specs.Numbers.{set_in}
use Rattle.attributes.specs.Sets.{Set}
use Rattle.contexts.specs.Contexts.{Implication}
use Rattle.implications.specs.Values.{implications_in}
use Rattle.premises.specs.Open.{first_open_from}
use Rattle.premises.proofs.From.{from_empty}
use Rattle.premises.proofs.first_open.Goals as goal

pub returns-clause-value : goal.returns-clause-value
returns-clause-value g c =
    let n : ℕ = g.F.Forces.width c.args.forces.now in
    let forced : Set → Set = g.F.Forces.forced c.args.forces.now in
    let is : List Implication = implications_in n c.args.confirmed.now in
    c.first_open_from.ensures.value ∙ ap (λ (m : ℕ). first_open_from n forced is (set_in n m)) c.empty.ensures ∙ from_empty n forced is
