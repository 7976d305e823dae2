use Rattle.std.proofs.Common.{◌≡◌, ◌==◌, ℕ, true, false, List, set, sym, ◌∙◌, subst, arith}
use Rattle.std.proofs.lemmas.Bool.{both_ways, not-true, not-false, eq-eqb, eqb-true}
use Rattle.std.proofs.lemmas.List.{get_or-set_other}
use Rattle.attributes.specs.Numbers.{set_in}
use Rattle.attributes.specs.Sets.{Set}
use Rattle.attributes.proofs.Numbers.{length_set_in}
use Rattle.contexts.specs.Contexts.{Implication}
use Rattle.implications.specs.Values.{implications_in}
use Rattle.implications.proofs.Repairs.{repaired_less}
use Rattle.premises.specs.Respecting.{Agree}
use Rattle.premises.proofs.Branching.{Closing, closing_none, closing_more, closing_all, closing_agrees}
use Rattle.premises.proofs.Stepping.{same_agree, agree_same}
use Rattle.premises.proofs.search.Search.closed_with.Goals as goal

pub loop-more-init : goal.loop-more-init
loop-more-init g c =
    let n : ℕ = c.args.self.now.confirmed.n.value in
    let i : ℕ = c.args.attribute in
    let is : List Implication = implications_in n c.args.self.now.confirmed.numbers.now in
    let s : Set = set_in n c.args.s.bits in
    let added : set_in n c.within-with.result.bits ≡ set s i true = c.within-with.ensures.value ∙ c.with.ensures.value n (omega (arith, c.args.self.now.confirmed.n.few)) in (
      c.within-with.ensures.bound,
      subst (Agree i s) (sym added) (λ d h. sym (get_or-set_other s i d true false (λ e. absurd (omega (arith, h, e))))),
      subst (Closing n is (set s i true)) (sym added) (closing_none n is (set s i true)),
    )

pub returns-then-ne-clause-cases : goal.returns-then-ne-clause-cases
returns-then-ne-clause-cases g c m closed =
    let n : ℕ = c.args.self.now.confirmed.n.value in
    let row : List ℕ = c.args.self.now.confirmed.numbers.now in
    let agrees = closing_agrees (closing_more row c.loop-more.invariant.2 (length_set_in n c.loop-more.with.bits) c.in-Some.ensures.value) closed in
    let same : c.below-in-Some.result.bits ≡ c.below.result.bits =
    agree_same c.args.s.bits c.in-Some.more.bits c.requires.there c.below-in-Some.ensures.bound c.below.ensures.bound c.below-in-Some.ensures.value c.below.ensures.value agrees
    in
    both_ways (c.below.result.bits == c.below-in-Some.result.bits) (not-true (c.below.result.bits == c.below-in-Some.result.bits) (sym c.ne.ensures ∙ c.if-ne.true))
    (eq-eqb c.below.result.bits c.below-in-Some.result.bits (sym same))

pub loop-more-smaller : goal.loop-more-smaller
loop-more-smaller g c =
    let n : ℕ = c.args.self.now.confirmed.n.value in
    let with : ℕ = c.loop-more.with.bits in
    repaired_less n c.args.self.now.confirmed.numbers.now (set_in n with) (set_in n c.in-Some.more.bits) (length_set_in n with) c.in-Some.ensures.value

pub loop-more-preserved : goal.loop-more-preserved
loop-more-preserved g c =
    let n : ℕ = c.args.self.now.confirmed.n.value in
    let row : List ℕ = c.args.self.now.confirmed.numbers.now in
    let same : c.below.result.bits ≡ c.below-in-Some.result.bits =
    eqb-true c.below.result.bits c.below-in-Some.result.bits (not-false (c.below.result.bits == c.below-in-Some.result.bits) (sym c.ne.ensures ∙ c.if-ne.false))
    in (
      c.in-Some.ensures.bound,
      same_agree c.args.s.bits c.in-Some.more.bits c.requires.there c.below-in-Some.ensures.bound c.below.ensures.bound c.below-in-Some.ensures.value c.below.ensures.value (sym same),
      closing_more row c.loop-more.invariant.2 (length_set_in n c.loop-more.with.bits) c.in-Some.ensures.value,
    )

pub returns-clause-cases : goal.returns-clause-cases
returns-clause-cases g c =
    let n : ℕ = c.args.self.now.confirmed.n.value in
    record {
      closed = closing_all c.args.self.now.confirmed.numbers.now c.loop-more.invariant.2 (length_set_in n c.loop-more.with.bits) c.in_default.ensures.value;
      agrees = c.loop-more.invariant.1;
    }
