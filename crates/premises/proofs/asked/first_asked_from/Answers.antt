use Rattle.std.proofs.Common.{◌≡◌, ℕ, List, sym, ap, ◌∙◌, Some}
use Rattle.std.specs.Option.{option_map}
use Rattle.std.proofs.lemmas.Bool.{both_ways}
use Rattle.attributes.specs.Numbers.{set_in}
use Rattle.attributes.specs.Sets.{Set}
use Rattle.attributes.specs.declared.set.AttributeSet.{AttributeSet}
use Rattle.attributes.proofs.Numbers.{length_set_in}
use Rattle.contexts.specs.Contexts.{Implication}
use Rattle.implications.specs.Implications.{respects_all}
use Rattle.implications.specs.Values.{implications_in}
use Rattle.implications.proofs.Repairs.{respects_if_none}
use Rattle.premises.specs.Open.{about}
use Rattle.premises.proofs.Onward.{StandsAt, next_less, stands_first, searching_on, searching_open, searching_none}
use Rattle.premises.proofs.Open.{shut_from}
use Rattle.premises.proofs.asked.first_asked_from.Goals as goal
use Rattle.premises.proofs.asked.first_asked_from.Goals.{then-is_none, else-is_none}

pub loop-reached-init : goal.loop-reached-init
loop-reached-init g c =
    let n : ℕ = c.count.result.value in
    let is : List Implication = implications_in n c.args.confirmed.now in
    let forced : Set → Set = g.F.Forces.forced c.args.forces.now in
    let q : Set = set_in n c.within-from.result.bits in
    let tested : respects_all q is ≡ c.is_none.result = respects_if_none is q c.first_broken.result c.is_none.result c.first_broken.ensures c.is_none.ensures in
    let at : StandsAt n forced is (set_in n c.args.from.bits) q = rw c.within-from.ensures.value (stands_first (length_set_in n c.args.from.bits)) in
    elim c.if-is_none.branch [
      | then-is_none w ↦ rw w.reached-is (record { bound = c.within-from.ensures.bound; respected = tested ∙ w.if-is_none.true; stands = at })
      | else-is_none w ↦
          rw w.reached-is
          (searching_on at (shut_from forced is q (λ h. absurd (both_ways (respects_all q is) (tested ∙ w.if-is_none.false) h)))
          w.next_respecting-reached.result w.next_respecting-reached.ensures.value w.next_respecting-reached.ensures.bound)
    ]

pub returns-then-not-is_subset_of : goal.returns-then-not-is_subset_of
returns-then-not-is_subset_of g c =
    let n : ℕ = g.F.Forces.width c.args.forces.now in
    let forced : Set → Set = g.F.Forces.forced c.args.forces.now in
    let forces = c.forced_by-conclusion.ensures in
    let at = rw c.count.ensures at (rw c.in-Some.is at c.loop-reached.invariant) in
    let lacks = sym (rw forces.value at (c.is_subset_of.ensures n forces.bound)) ∙ c.if-not-is_subset_of.true in
    record {
      value =
          ap (λ (t : Set). Some (record { premise = set_in n c.in-Some.premise.bits; conclusion = t })) forces.value
          ∙ ap (option_map (about forced)) (searching_open at lacks);
      bound = (at.bound, forces.bound);
    }

pub loop-reached-smaller : goal.loop-reached-smaller
loop-reached-smaller g c =
    let n : ℕ = c.count.result.value in
    let next = c.next_respecting-reached-in-Some in
    rw c.in-Some.is
    (next_less n (implications_in n c.args.confirmed.now) (set_in n c.in-Some.premise.bits) (length_set_in n c.in-Some.premise.bits)
    (option_map (λ (q : AttributeSet). set_in n q.bits) next.result) next.ensures.value)

pub loop-reached-preserved : goal.loop-reached-preserved
loop-reached-preserved g c =
    let n : ℕ = c.count.result.value in
    let next = c.next_respecting-reached-in-Some in
    let forces = rw (sym c.count.ensures) at c.forced_by-conclusion.ensures in
    let at = rw c.in-Some.is at c.loop-reached.invariant in
    let has = sym (rw forces.value at (c.is_subset_of.ensures n forces.bound)) ∙ c.if-not-is_subset_of.false in
    searching_on at.stands
    (shut_from (g.F.Forces.forced c.args.forces.now) (implications_in n c.args.confirmed.now) (set_in n c.in-Some.premise.bits) (λ _. has))
    next.result next.ensures.value next.ensures.bound

pub returns-clause-value : goal.returns-clause-value
returns-clause-value g c =
    ap (option_map (about (g.F.Forces.forced c.args.forces.now))) (searching_none (rw c.count.ensures at (rw c.in_default.is at c.loop-reached.invariant)))
