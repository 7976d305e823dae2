use Rattle.std.proofs.Common.{◌≡◌, Bool, true, false, not, ◌||◌}
use Rattle.contexts.specs.Contexts.{respects}
use Rattle.contexts.proofs.implication.Implication.is_respected_by.Goals as goal

-- of two tests the second counts if the first is true
first_fails : (r p q : Bool) → r ≡ p → r ≡ false → not r ≡ (not p || q)
first_fails r true q e f = cc
first_fails r false q e f = cc

second_counts : (r p t q : Bool) → r ≡ p → r ≡ true → t ≡ q → t ≡ (not p || q)
second_counts r true t q e f g = g
second_counts r false t q e f g = cc

pub returns-then-not-is_subset_of : goal.returns-then-not-is_subset_of
unfolding respects
returns-then-not-is_subset_of c n p q = first_fails c.is_subset_of.result _ _ (c.is_subset_of.ensures n p) c.if-not-is_subset_of.true

pub returns-else-not-is_subset_of : goal.returns-else-not-is_subset_of
unfolding respects
returns-else-not-is_subset_of c n p q =
    second_counts c.is_subset_of.result _ c.is_subset_of-else-not-is_subset_of.result _ (c.is_subset_of.ensures n p) c.if-not-is_subset_of.false
    (c.is_subset_of-else-not-is_subset_of.ensures n q)
