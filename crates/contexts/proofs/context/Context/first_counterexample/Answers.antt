use Rattle.std.proofs.Common.{◌≡◌, ℕ, true, false, rules}
use Rattle.std.proofs.lemmas.Iterator.{IsFirst-from_position, YieldsList-from_slice}
use borrow.Author.Tests.{tests}
use Rattle.attributes.specs.Numbers.{set_in}
use Rattle.contexts.specs.Contexts.{Implication, respects}
use Rattle.contexts.specs.Values.{implication_at}
use Rattle.contexts.proofs.Walks.{first_breaking}
use Rattle.contexts.proofs.context.Context.first_counterexample.Goals as goal

pub returns : goal.returns
returns c =
    let n : ℕ = c.args.self.now.n.value in
    let asked : Implication = implication_at n c.within-asked.result in
    first_breaking n c.args.self.now.objects.now (implication_at n c.args.implication) c.position.result
    (rw (← c.within-asked.ensures.value) (IsFirst-from_position _ _ _ (λ (m : ℕ). respects (set_in n m) asked ≡ false) (λ (m : ℕ). respects (set_in n m) asked ≡ true) c.position.ensures.ran (YieldsList-from_slice c.args.self.now.objects.now c.iter.ensures.rest)
    (λ x q k. search (rules, tests)) (λ x q k. search (rules, tests))))
