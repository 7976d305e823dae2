use Rattle.std.proofs.Common.{◌≡◌, ◌^◌, ◌<◌}
use Rattle.attributes.specs.Numbers.{set_in}
use Rattle.implications.specs.Values.{implications_in}
use Rattle.implications.proofs.Passes.{Passing}
use Rattle.implications.proofs.list.Implications.pass.Given as goal

abbrev pub invariant-loop-implication : goal.invariant-loop-implication
invariant-loop-implication l =
    (l.grown.bits < 2 ^ l.self.n.value)
    × (l.implication-iterator.n.value ≡ l.self.n.value)
    × Passing l.self.n.value (implications_in l.self.n.value l.self.numbers.now) (set_in l.self.n.value l.initial.grown.bits) (set_in l.self.n.value l.grown.bits)
    (implications_in l.self.n.value l.implication-iterator.rest.now)
