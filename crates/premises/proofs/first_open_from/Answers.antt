use Rattle.std.proofs.Common.{◌≡◌, ℕ, List, ap, ◌∙◌, subst}
use Rattle.std.specs.Option.{option_map}
use Rattle.attributes.specs.Numbers.{set_in}
use Rattle.attributes.specs.Sets.{Set}
use Rattle.attributes.specs.declared.set.AttributeSet.{AttributeSet}
use Rattle.contexts.specs.Contexts.{Implication}
use Rattle.implications.specs.Implications.{Closure}
use Rattle.implications.specs.Values.{implications_in}
use Rattle.premises.specs.Open.{first_open_from}
use Rattle.premises.proofs.From.{found_from}
use Rattle.premises.proofs.first_open_from.Goals as goal

pub returns : goal.returns
returns g c =
    let n : ℕ = g.F.Forces.width c.args.forces.now in
    let width : c.count.result.value ≡ n = c.count.ensures in
    let is : List Implication = implications_in c.count.result.value c.args.confirmed.now in
    let forced : Set → Set = g.F.Forces.forced c.args.forces.now in
    let least : Set = set_in c.count.result.value c.close-least.result.bits in
    let closed : Closure c.count.result.value is (set_in c.count.result.value 0) least = subst (λ (m : ℕ). Closure c.count.result.value is (set_in c.count.result.value m) least) c.empty.ensures c.close-least.ensures.value in
    rw (← width) (record {
      value =
          found_from c.count.result.value forced is (set_in c.count.result.value c.within.result.bits) least closed (option_map (λ (q : AttributeSet). set_in c.count.result.value q.bits) c.first_in_branch.result) c.first_in_branch.ensures.found
          ∙ ap (first_open_from c.count.result.value forced is) c.within.ensures.value;
      bound = c.first_in_branch.ensures.bound;
    })
