use Rattle.std.proofs.Common.{◌≡◌, ℕ, List, sym, ◌∙◌, subst, rules}
use Rattle.attributes.specs.Numbers.{set_in}
use Rattle.attributes.specs.Sets.{Set}
use Rattle.attributes.proofs.Numbers.{length_set_in}
use Rattle.contexts.specs.Contexts.{Implication}
use Rattle.contexts.specs.Values.{implication_at}
use Rattle.implications.specs.Values.{implications_in}
use Rattle.implications.proofs.Passes.{Passing, passing_none, passing_taken, passing_passed}
use Rattle.implications.proofs.Turns.{turn}
use Rattle.implications.proofs.list.Implications.pass.Goals as goal

pub loop-implication-init : goal.loop-implication-init
loop-implication-init c =
    let n : ℕ = c.args.self.now.n.value in
    let width : c.into_iter-implication-iterator.result.n.value ≡ n = search rules in
    let all : c.args.self.now.numbers.now ≡ c.into_iter-implication-iterator.result.rest.now = search rules in
    let grown : Set = set_in n c.within-grown.result.bits in (
      c.within-grown.ensures.bound,
      width,
      subst (λ (row : List ℕ). Passing n (implications_in n c.args.self.now.numbers.now) grown grown (implications_in n row)) all (passing_none n (implications_in n c.args.self.now.numbers.now) grown),
    )

pub loop-implication-preserved-then-is_subset_of : goal.loop-implication-preserved-then-is_subset_of
loop-implication-preserved-then-is_subset_of c =
    let n : ℕ = c.args.self.now.n.value in
    let is : List Implication = implications_in n c.args.self.now.numbers.now in
    let first = turn _ n _ _ _ c.in-Some.implication c.loop-implication.invariant.1 c.in-Some.ensures.steps in (
      c.join-grown.ensures.bound n c.loop-implication.invariant.0 first.1.conclusion,
      first.0,
      rw (c.join-grown.ensures.value n)
          (passing_taken n is (set_in n c.within-grown.result.bits) (set_in n c.loop-implication.grown.bits) _ _ (implication_at n c.in-Some.implication) first.1.first c.loop-implication.invariant.2
          (length_set_in n c.loop-implication.grown.bits ∙ sym (length_set_in n c.in-Some.implication.conclusion.bits)) (sym (c.is_subset_of.ensures n first.1.premise) ∙ c.if-is_subset_of.true)),
    )

pub loop-implication-preserved : goal.loop-implication-preserved
loop-implication-preserved c =
    let n : ℕ = c.args.self.now.n.value in
    let is : List Implication = implications_in n c.args.self.now.numbers.now in
    let first = turn _ n _ _ _ c.in-Some.implication c.loop-implication.invariant.1 c.in-Some.ensures.steps in (
      c.loop-implication.invariant.0,
      first.0,
      passing_passed n is (set_in n c.within-grown.result.bits) (set_in n c.loop-implication.grown.bits) _ _ (implication_at n c.in-Some.implication) first.1.first c.loop-implication.invariant.2
          (sym (c.is_subset_of.ensures n first.1.premise) ∙ c.if-is_subset_of.false),
    )
