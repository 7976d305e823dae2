-- The number and the place by which each refusal is told, and refusals as text. Definitions only.
use Rattle.std.specs.Prelude.{ℕ, List, ◌++◌, codes, decimal}
use Rattle.bases.specs.declared.refusal.Refusal.{Refusal}
use Rattle.bases.specs.declared.refusal.Refusal.TheVariants.{OutputTooShort, TooManyAttributes, RowAtFault}

abbrev pub refusal_number : Refusal → ℕ
refusal_number (OutputTooShort length) = 1
refusal_number TooManyAttributes = 2
refusal_number (RowAtFault row) = 8

abbrev pub refusal_place : Refusal → ℕ
refusal_place (OutputTooShort length) = length
refusal_place TooManyAttributes = 0
refusal_place (RowAtFault row) = row

abbrev pub refusal_text : Refusal → List ℕ
refusal_text r = codes "refused " ++ (decimal (refusal_number r) ++ (codes " at " ++ decimal (refusal_place r)))
