-- The text of a list of implications. Definitions only.
use Rattle.std.specs.Prelude.{ℕ, List, [], ◌∷◌, ◌++◌, codes}
use Rattle.attributes.specs.Text.{written}
use Rattle.contexts.specs.Contexts.{Implication}

-- the premise, a colon and the conclusion, in a line of its own
abbrev pub line : Implication → List ℕ
line i = (written i.premise ++ (codes ": " ++ written i.conclusion)) ++ codes "\n"

unfoldable pub lines : List Implication → List ℕ
lines [] = []
lines (i ∷ is) = line i ++ lines is
