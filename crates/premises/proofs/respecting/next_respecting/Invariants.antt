use Rattle.std.proofs.Common.{◌≤◌}
use Rattle.attributes.specs.Numbers.{set_in}
use Rattle.implications.specs.Values.{implications_in}
use Rattle.premises.proofs.Stepping.{NoneFrom}
use Rattle.premises.proofs.respecting.next_respecting.Given as goal

abbrev pub invariant-loop-attribute : goal.invariant-loop-attribute
invariant-loop-attribute l =
    (l.attribute ≤ l.list.n.value) × NoneFrom l.list.n.value (implications_in l.list.n.value l.list.numbers.now) (set_in l.list.n.value l.s.bits) l.attribute
