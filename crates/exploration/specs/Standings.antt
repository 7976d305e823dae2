-- Where an exploration stands. Definitions only.
use Rattle.std.specs.Prelude.{◌≡◌, ℕ, List, None, Ok}
use Rattle.exploration.specs.Row.{asked_in, attribute_fault, attributes_in, checked_row}
use Rattle.exploration.specs.declared.standing.Standing.{Standing}

-- what was read from a row that passes all checks, and what is asked next
pub record Stands (row : List ℕ) (standing : Standing) : Type 0 where
  pub width : standing.n.value ≡ attributes_in row
  pub counts : checked_row row ≡ Ok standing.counts
  pub clean : attribute_fault row ≡ None
  pub asked : standing.asked ≡ asked_in row
