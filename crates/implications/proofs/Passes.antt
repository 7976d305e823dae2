-- A pass over a list of implications. Assumes nothing.
use Rattle.std.proofs.Common.{◌≡◌, ℕ, true, false, List, [], ◌∷◌, ◌++◌, length, append_assoc, sym, refl, ap, ◌∙◌, subst, inl, inr, arith}
use Rattle.std.proofs.ByRecursion.{has_append_right, has_push_cases}
use Rattle.std.proofs.lemmas.Bool.{both_ways}
use Rattle.std.specs.List.{ContainsAt}
use Rattle.attributes.specs.Sets.{Set, subset, join}
use Rattle.attributes.proofs.Members.{has_here}
use Rattle.attributes.proofs.Sets.{subset_refl, subset_trans, join_left, join_right, join_least}
use Rattle.contexts.specs.Contexts.{Implication}
use Rattle.contexts.proofs.Holding.{respects_apply}
use Rattle.implications.specs.Implications.{respects_all}
use Rattle.implications.proofs.Respects.{respects_has}

-- a pass over the implications before those left made g of s
pub record Passing (n : ℕ) (is : List Implication) (s g : Set) (left : List Implication) : Type 0 where
  pub done : List Implication
  pub whole : is ≡ done ++ left
  pub contains : subset s g ≡ true
  pub inside : (t : Set) → length t ≡ n → subset s t ≡ true → respects_all t is ≡ true → subset g t ≡ true
  pub applied : (i : Implication) → ContainsAt done i → subset i.premise s ≡ true → subset i.conclusion g ≡ true

module _ (n : ℕ) (is : List Implication) (s : Set) where
  pub passing_none : Passing n is s s is
  passing_none = record { done = []; whole = refl; contains = subset_refl s; inside = λ t e h r. h; applied = λ i m. absurd (omega (arith, m.1)) }

  module _ (g : Set) (left rest : List Implication) (i : Implication) (first : left ≡ i ∷ rest) (before : Passing n is s g left) where
    whole : is ≡ (before.done ++ i ∷ []) ++ rest
    whole = before.whole ∙ ap (λ (l : List Implication). before.done ++ l) first ∙ sym (append_assoc before.done (i ∷ []) rest)

    there : ContainsAt is i
    there = subst (λ (l : List Implication). ContainsAt l i) (sym (before.whole ∙ ap (λ (l : List Implication). before.done ++ l) first)) (has_append_right before.done (i ∷ rest) i (has_here i rest))

    pub passing_taken : length g ≡ length i.conclusion → subset i.premise g ≡ true → Passing n is s (join g i.conclusion) rest
    passing_taken same h =
        let g' : Set = join g i.conclusion in
        let larger : subset g g' ≡ true = join_left g i.conclusion same in
        record {
          done = before.done ++ i ∷ [];
          whole = whole;
          contains = subset_trans s g g' before.contains larger;
          inside = λ t e p r.
              let q : subset g t ≡ true = before.inside t e p r in
              join_least g i.conclusion same t q (respects_apply t i (respects_has t is r i there) (subset_trans i.premise g t h q));
          applied = λ j m p.
              elim (has_push_cases before.done i j m) [
                | inl m ↦ subset_trans j.conclusion g g' (before.applied j m p) larger
                | inr e ↦ subst (λ (j : Implication). subset j.conclusion g' ≡ true) e (join_right g i.conclusion same)
              ];
        }

    pub passing_passed : subset i.premise g ≡ false → Passing n is s g rest
    passing_passed h =
        record {
          done = before.done ++ i ∷ [];
          whole = whole;
          contains = before.contains;
          inside = before.inside;
          applied = λ j m p.
              elim (has_push_cases before.done i j m) [
                | inl m ↦ before.applied j m p
                | inr e ↦ absurd (both_ways (subset i.premise g) h (subset_trans i.premise s g (subst (λ (j : Implication). subset j.premise s ≡ true) (sym e) p) before.contains))
              ];
        }
