-- Differences and comparisons as text. Definitions only.
use Rattle.std.specs.Prelude.{ℕ, List, ◌++◌, codes}
use Rattle.attributes.specs.Numbers.{set_in}
use Rattle.attributes.specs.Text.{written}
use Rattle.comparisons.specs.declared.Comparison.{Comparison}
use Rattle.comparisons.specs.declared.Comparison.TheVariants.{Same, OneSaysMore, OtherSaysMore, EachSaysMore}
use Rattle.comparisons.specs.declared.Difference.{Difference}

-- the premise, the conclusion, and the set that has the one and not all of the other
abbrev pub difference_text : Difference → List ℕ
difference_text d =
    (written (set_in 16 d.implication.premise.bits) ++ (codes ": " ++ written (set_in 16 d.implication.conclusion.bits))) ++ (codes ", as " ++ written (set_in 16 d.witness.bits))

abbrev pub comparison_text : Comparison → List ℕ
comparison_text Same = codes "same"
comparison_text (OneSaysMore d) = codes "not in the second: " ++ difference_text d
comparison_text (OtherSaysMore d) = codes "not in the first: " ++ difference_text d
comparison_text (EachSaysMore d e) = codes "not in the second: " ++ (difference_text d ++ (codes "\nnot in the first: " ++ difference_text e))
