-- Implications in a row of numbers: a premise and a conclusion in turn. Definitions only.
use Rattle.std.specs.Prelude.{ℕ, List, [], ◌∷◌}
use Rattle.attributes.specs.Numbers.{set_in}
use Rattle.contexts.specs.Contexts.{Implication}

-- what the numbers of a row say of the first n attributes; a last number without another is no implication
unfoldable pub implications_in : ℕ → List ℕ → List Implication
implications_in n [] = []
implications_in n (p ∷ []) = []
implications_in n (p ∷ (c ∷ row)) = record { premise = set_in n p; conclusion = set_in n c } ∷ implications_in n row
