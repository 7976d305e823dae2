use Rattle.std.proofs.Common.{ℕ}
use Rattle.std.specs.Option.{option_map}
use Rattle.attributes.specs.Numbers.{set_in}
use Rattle.attributes.specs.declared.set.AttributeSet.{AttributeSet}
use Rattle.implications.specs.Values.{implications_in}
use Rattle.premises.proofs.Onward.{Searching, left}
use Rattle.premises.proofs.asked.first_asked_from.Given as goal

abbrev pub invariant-loop-reached : goal.invariant-loop-reached
invariant-loop-reached g l =
    let n : ℕ = l.confirmed.n.value in
    Searching n (g.F.Forces.forced l.forces) (implications_in n l.confirmed.numbers.now) (set_in n l.fn.from.bits) l.reached

abbrev pub decreases-loop-reached : goal.decreases-loop-reached
decreases-loop-reached g l = left (option_map (λ (q : AttributeSet). set_in l.confirmed.n.value q.bits) l.reached)
