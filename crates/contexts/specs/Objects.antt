-- The objects of a context of the code. Definitions only.
use Rattle.contexts.specs.Contexts.{Context}
use Rattle.contexts.specs.Values.{objects_in}
use Rattle.contexts.specs.declared.context.Context.{Context as Lent}

abbrev pub objects_of : Lent → Context
objects_of t = objects_in t.n.value t.objects.now
