use Rattle.std.proofs.Common.{◌≡◌, ℕ, ◌≤◌, not, List, length, get_or, ap, ◌∙◌, arith, below_more}
use Rattle.std.proofs.lemmas.Bool.{both_ways}
use Rattle.attributes.specs.Numbers.{set_in}
use Rattle.attributes.specs.Sets.{Set, subset}
use Rattle.attributes.proofs.Numbers.{length_set_in}
use Rattle.contexts.specs.Contexts.{Implication}
use Rattle.contexts.proofs.Holding.{respects_from}
use Rattle.implications.specs.Lists.{said_by}
use Rattle.implications.specs.Places.{no_implication}
use Rattle.implications.proofs.Repairs.{implications_length, respects_places, side_inside, breaks_from}
use Rattle.implications.proofs.list.Implications.first_broken.Goals as goal
use Rattle.implications.proofs.list.Implications.first_broken.Goals.{else-not-meets-via-then-not-meets+else-meets, else-not-meets-via-else-not-meets}

pub returns-then-meets : goal.returns-then-meets
returns-then-meets c =
    let n : ℕ = c.args.self.now.n.value in
    let row : List ℕ = c.args.self.now.numbers.now in
    let s : Set = set_in n c.args.s.bits in
    let k : ℕ = c.loop-place.place in
    let few : n ≤ 16 = omega (arith, c.args.self.now.n.few) in
    let wide : length s ≡ n = length_set_in n c.args.s.bits in
    let small = c.outside-outside.ensures.bound in
    let outside = c.outside-outside.ensures.value in
    let there = c.loop-place-test.true in
    let premise = side_inside n row k s _ _ _ (λ (i : Implication). i.premise) there wide outside (c.meets.ensures n small) (c.of_number.ensures n few) in
    let conclusion = side_inside n row k s _ _ _ (λ (i : Implication). i.conclusion) there wide outside (c.meets-then-not-meets.ensures n small) (c.of_number-then-not-meets.ensures n few) in
    record {
      inside = omega (arith, implications_length n row, there);
      breaks = breaks_from s (get_or (said_by c.args.self.now) k no_implication) (premise ∙ ap not c.if-not-meets.true) (conclusion ∙ ap not c.if-meets.true);
      before = c.loop-place.invariant;
    }

pub loop-place-preserved : goal.loop-place-preserved
loop-place-preserved c =
    let n : ℕ = c.args.self.now.n.value in
    let row : List ℕ = c.args.self.now.numbers.now in
    let s : Set = set_in n c.args.s.bits in
    let k : ℕ = c.loop-place.place in
    let i : Implication = get_or (said_by c.args.self.now) k no_implication in
    let few : n ≤ 16 = omega (arith, c.args.self.now.n.few) in
    let wide : length s ≡ n = length_set_in n c.args.s.bits in
    let small = c.outside-outside.ensures.bound in
    let outside = c.outside-outside.ensures.value in
    let there = c.loop-place-test.true in
    let premise = side_inside n row k s _ _ _ (λ (i : Implication). i.premise) there wide outside (c.meets.ensures n small) (c.of_number.ensures n few) in
    below_more _ k c.loop-place.invariant
    (elim c.else-not-meets.branch [
      | else-not-meets-via-then-not-meets+else-meets w ↦
          respects_from s i
          (λ _. side_inside n row k s _ _ _ (λ (i : Implication). i.conclusion) there wide outside (w.meets-then-not-meets.ensures n small) (w.of_number-then-not-meets.ensures n few) ∙ ap not w.if-meets.false)
      | else-not-meets-via-else-not-meets w ↦ respects_from s i (λ p. absurd (both_ways (subset i.premise s) (premise ∙ ap not w.if-not-meets.false) p))
    ])

pub returns : goal.returns
returns c =
    let n : ℕ = c.args.self.now.n.value in
    respects_places (set_in n c.args.s.bits) (said_by c.args.self.now) c.loop-place.place
    (omega (arith, implications_length n c.args.self.now.numbers.now, c.loop-place-test.false)) c.loop-place.invariant
