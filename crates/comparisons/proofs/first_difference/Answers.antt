use Rattle.std.proofs.Common.{◌≡◌, ℕ, false, List, length, sym, rules, ◌∙◌}
use Rattle.attributes.specs.Numbers.{set_in}
use Rattle.attributes.specs.Sets.{Set, subset}
use Rattle.attributes.proofs.Numbers.{length_set_in}
use Rattle.contexts.specs.Contexts.{Implication}
use Rattle.contexts.specs.Values.{implication_at}
use Rattle.implications.specs.Values.{implications_in}
use Rattle.implications.proofs.Repairs.{repaired_contains, repaired_inside, repaired_less}
use Rattle.comparisons.proofs.Apart.{reaching_start, reaching_more, reaching_follows, reaching_fails, reaching_first, turn_first, turn_at, turn_more, turn_end}
use Rattle.comparisons.proofs.first_difference.Goals as goal

pub loop-implication-init : goal.loop-implication-init
loop-implication-init c =
    let n : ℕ = c.args.n.value in
    let first = turn_first c.implications.invariant.2 c.in-Some.ensures.steps in
    (c.implications.invariant.1, first.premise, reaching_start n (implications_in n c.args.other.now) (implication_at n c.in-Some.implication))

pub loop-implication-smaller : goal.loop-implication-smaller
loop-implication-smaller c =
    let n : ℕ = c.args.n.value in
    repaired_less n c.args.other.now (set_in n c.loop-implication.reached.bits) (set_in n c.in-Some-repair.grown.bits) (length_set_in n c.loop-implication.reached.bits) c.in-Some-repair.ensures.value

pub loop-implication-preserved : goal.loop-implication-preserved
loop-implication-preserved c =
    let n : ℕ = c.args.n.value in
    let r : Set = set_in n c.loop-implication.reached.bits in
    let g : Set = set_in n c.in-Some-repair.grown.bits in
    let wide : length r ≡ n = length_set_in n c.loop-implication.reached.bits in (
      c.loop-implication.invariant.0,
      c.in-Some-repair.ensures.bound,
      reaching_more n (implications_in n c.args.other.now) (implication_at n c.in-Some.implication) r c.loop-implication.invariant.2 g
          (repaired_contains n c.args.other.now r g wide c.in-Some-repair.ensures.value) (repaired_inside n c.args.other.now r g wide c.in-Some-repair.ensures.value),
    )

pub implications-preserved : goal.implications-preserved
implications-preserved c =
    let n : ℕ = c.args.n.value in
    let is : List Implication = implications_in n c.args.other.now in
    let i : Implication = implication_at n c.in-Some.implication in
    let first = turn_first c.implications.invariant.2 c.in-Some.ensures.steps in (
      search rules,
      c.loop-implication.invariant.0,
      turn_more c.implications.invariant.2 c.in-Some.ensures.steps
          (reaching_follows n is i (set_in n c.loop-implication.reached.bits) c.loop-implication.invariant.2 (sym (c.is_subset_of.ensures n first.conclusion) ∙ c.loop-implication-test.false)),
    )

pub returns-in_default : goal.returns-in_default
returns-in_default c =
    let n : ℕ = c.args.n.value in
    let is : List Implication = implications_in n c.args.other.now in
    let i : Implication = implication_at n c.in-Some.implication in
    let r : Set = set_in n c.loop-implication.reached.bits in
    let wide : length r ≡ n = length_set_in n c.loop-implication.reached.bits in
    let first = turn_first c.implications.invariant.2 c.in-Some.ensures.steps in
    let stands = turn_at c.implications.invariant.2 c.in-Some.ensures.steps in
    let lacks : subset i.conclusion r ≡ false = sym (c.is_subset_of.ensures n first.conclusion) ∙ c.loop-implication-test.true in
    record {
      difference =
          record {
            inside = stands.0;
            there = stands.1;
            before = c.implications.invariant.2.before;
            fails = reaching_fails n is i r c.loop-implication.invariant.2 wide c.in_default.ensures.value lacks;
            first = reaching_first n is i r c.loop-implication.invariant.2 wide c.in_default.ensures.value lacks;
          };
      premise = first.premise;
      conclusion = first.conclusion;
      witness = c.loop-implication.invariant.1;
    }

pub returns-in-None : goal.returns-in-None
returns-in-None c = rw c.implications.invariant.1 (turn_end c.implications.invariant.2 c.in-None.ensures.steps)
