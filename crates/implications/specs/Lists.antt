-- The implications of a list of the code. Definitions only.
use Rattle.std.specs.Prelude.{List}
use Rattle.contexts.specs.Contexts.{Implication}
use Rattle.implications.specs.Values.{implications_in}
use Rattle.implications.specs.declared.list.Implications.{Implications}

abbrev pub said_by : Implications → List Implication
said_by l = implications_in l.n.value l.numbers.now
