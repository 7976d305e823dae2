-- Implications of the code, and objects in a row of numbers, as the definitions have them. Definitions only.
use Rattle.std.specs.Prelude.{ℕ, List, map}
use Rattle.attributes.specs.Numbers.{number_of, set_in}
use Rattle.contexts.specs.Contexts.{Context, Implication}
use Rattle.contexts.specs.declared.implication.Implication.{Implication as Pair}

-- what an implication of the code says of the first n attributes
abbrev pub implication_at : ℕ → Pair → Implication
implication_at n i = record { premise = set_in n i.premise.bits; conclusion = set_in n i.conclusion.bits }

-- an implication as the code has it
abbrev pub pair_of : Implication → Pair
pair_of q = record { premise = record { bits = number_of q.premise }; conclusion = record { bits = number_of q.conclusion } }

-- the objects that the numbers of a row stand for
abbrev pub objects_in : ℕ → List ℕ → Context
objects_in n row = map (set_in n) row
