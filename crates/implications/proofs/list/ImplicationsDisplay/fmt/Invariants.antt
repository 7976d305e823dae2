use Rattle.std.proofs.Common.{◌≡◌}
use Rattle.implications.specs.Values.{implications_in}
use Rattle.implications.proofs.Lines.{Lines}
use Rattle.implications.proofs.list.ImplicationsDisplay.fmt.Given as goal

abbrev pub invariant-loop-line : goal.invariant-loop-line
invariant-loop-line g l =
    (l.line-iterator.n.value ≡ l.self.n.value)
    × Lines g.W.Write.write_str_gives (implications_in l.self.n.value l.self.numbers.now) l.initial.f l.f (implications_in l.self.n.value l.line-iterator.rest.now)
