use Rattle.std.proofs.Common.{◌==◌, ◌≡◌, ℕ, sym, ◌∙◌, lt_of_lt_of_le, arith, pow_mono}
use Rattle.std.proofs.lemmas.Bool.{both_ways, not-true, not-false, eq-eqb, eqb-true}
use Rattle.attributes.specs.Numbers.{set_in}
use Rattle.attributes.proofs.Numbers.{length_set_in}
use Rattle.implications.proofs.Repairs.{repaired_less}
use Rattle.premises.proofs.Stepping.{growing_start, growing_more, growing_agrees, growing_all, same_agree, agree_same}
use Rattle.premises.proofs.respecting.least_with.Goals as goal

pub loop-more-init : goal.loop-more-init
loop-more-init c =
    let n : ℕ = c.args.list.now.n.value in
    let below = c.below-below in (
      c.with-least.ensures.bound n (lt_of_lt_of_le below.ensures.bound (pow_mono (omega (arith, c.requires)))) c.requires,
      rw (c.with-least.ensures.value n (omega (arith, c.args.list.now.n.few)))
          (growing_start n c.args.list.now.numbers.now c.args.s.bits c.args.attribute below.result.bits c.requires below.ensures.bound below.ensures.value),
    )

pub returns-then-ne-clause-value : goal.returns-then-ne-clause-value
returns-then-ne-clause-value c t m =
    let n : ℕ = c.args.list.now.n.value in
    let below = c.below-below in
    let more = c.below in
    let agrees = growing_agrees c.args.list.now.numbers.now c.loop-more.invariant.1 (length_set_in n c.loop-more.least.bits) c.in-Some.ensures.value t m in
    let same =
    agree_same c.args.s.bits c.in-Some.more.bits (omega (arith, c.requires)) below.ensures.bound more.ensures.bound below.ensures.value more.ensures.value agrees
    in
    both_ways (more.result.bits == below.result.bits) (not-true (more.result.bits == below.result.bits) (sym c.ne.ensures ∙ c.if-ne.true))
    (eq-eqb more.result.bits below.result.bits (sym same))

pub loop-more-smaller : goal.loop-more-smaller
loop-more-smaller c =
    let n : ℕ = c.args.list.now.n.value in
    let least : ℕ = c.loop-more.least.bits in
    repaired_less n c.args.list.now.numbers.now (set_in n least) (set_in n c.in-Some.more.bits) (length_set_in n least) c.in-Some.ensures.value

pub loop-more-preserved : goal.loop-more-preserved
loop-more-preserved c =
    let n : ℕ = c.args.list.now.n.value in
    let below = c.below-below in
    let more = c.below in
    let same : more.result.bits ≡ below.result.bits =
    eqb-true more.result.bits below.result.bits (not-false (more.result.bits == below.result.bits) (sym c.ne.ensures ∙ c.if-ne.false))
    in
    let agrees =
    same_agree c.args.s.bits c.in-Some.more.bits (omega (arith, c.requires)) below.ensures.bound more.ensures.bound below.ensures.value more.ensures.value (sym same)
    in
    (c.in-Some.ensures.bound, growing_more c.args.list.now.numbers.now c.loop-more.invariant.1 (length_set_in n c.loop-more.least.bits) c.in-Some.ensures.value agrees)

pub returns-clause-value : goal.returns-clause-value
returns-clause-value c =
    growing_all c.args.list.now.numbers.now c.loop-more.invariant.1 (length_set_in c.args.list.now.n.value c.loop-more.least.bits) c.in_default.ensures.value
