-- Walks over a row of objects. Assumes nothing.
use Rattle.std.proofs.Common.{◌≡◌, ℕ, zero, suc, ◌+◌, ◌<◌, ◌≤◌, Bool, true, false, cond, not, List, [], ◌∷◌, length, get_or, drop, is_some, Some, None, Option, sym, refl, ap, ◌∙◌, subst, inl, inr, arith, MatchOption}
use Rattle.std.proofs.ByRecursion.{has_get_or}
use Rattle.std.specs.List.{AllWithin, HoldsAt}
use Rattle.std.proofs.lemmas.List.{at_drop_more, at_drop_all, get_or-map, length-map}
use Rattle.std.proofs.lemmas.Bool.{both_ways, cases_eq}
use Rattle.attributes.specs.Numbers.{set_in}
use Rattle.attributes.specs.Sets.{Set, subset, meet, everything}
use Rattle.attributes.proofs.Numbers.{length_set_in}
use Rattle.contexts.specs.Contexts.{Context, OfWidth, common, Implication, respects, holds}
use Rattle.contexts.specs.Places.{FirstBreaking, NoneWith}
use Rattle.contexts.specs.Values.{objects_in}
use Rattle.attributes.proofs.Sets.{subset_refl, subset_trans, subset_antisym}
use Rattle.contexts.proofs.CommonAttributes.{length_common, common_less, common_contains}
use Rattle.contexts.proofs.Holding.{holds_has, has_holds}

-- more objects have no more in common
common_drop : (n : ℕ) (row : List ℕ) (s : Set) (i : ℕ) → subset (common n (objects_in n row) s) (common n (objects_in n (drop i row)) s) ≡ true
common_drop n row s zero = subset_refl (common n (objects_in n row) s)
common_drop n [] s (suc i) = subset_refl (common n [] s)
common_drop n (m ∷ row) s (suc i) =
    subset_trans (common n (objects_in n (m ∷ row)) s) (common n (objects_in n row) s) (common n (objects_in n (drop i row)) s)
    (common_less n (set_in n m) (objects_in n row) s) (common_drop n row s i)

pub objects_width : (n : ℕ) (row : List ℕ) → OfWidth n (objects_in n row)
objects_width n [] = tt
objects_width n (m ∷ row) = (length_set_in n m, objects_width n row)

object_at : (n : ℕ) (row : List ℕ) (k : ℕ) → k < length row → get_or (objects_in n row) k [] ≡ set_in n (get_or row k 0)
object_at n row k h = get_or-map (set_in n) row k 0 [] h

-- the test whether the object at place k has all attributes of s
pub tested_at : (n : ℕ) (row : List ℕ) (k m : ℕ) (s : Set) (r : Bool) → k < length row → set_in n m ≡ set_in n (get_or row k 0) → r ≡ subset s (set_in n m) → subset s (get_or (objects_in n row) k []) ≡ r
tested_at n row k m s r h e f = ap (subset s) (object_at n row k h ∙ sym e) ∙ sym f

-- what the objects from place i on have in common
abbrev pub Shared : ℕ → List ℕ → Set → ℕ → ℕ → Type 0
Shared n row s so_far i = set_in n so_far ≡ common n (objects_in n (drop i row)) s

module _ (n : ℕ) (row : List ℕ) (s : Set) where
  pub shared_none : (i so_far : ℕ) → length row ≤ i → set_in n so_far ≡ everything n → Shared n row s so_far i
  unfolding common
  shared_none i so_far h e = e ∙ sym (at_drop_all (λ (rest : List ℕ). common n (objects_in n rest) s) row i h)

  -- the object at place k is tested, and either joins or not
  module _ (k so_far : ℕ) (inside : k < length row) (before : Shared n row s so_far (suc k)) where
    step : (b : Bool) → subset s (get_or (objects_in n row) k []) ≡ b
        → cond b (meet (set_in n (get_or row k 0)) (set_in n so_far)) (set_in n so_far) ≡ common n (objects_in n (drop k row)) s
    unfolding common
    step b e =
        let object : Set = set_in n (get_or row k 0) in
        let next : suc k ≡ k + 1 = omega arith in
        ap (λ (x : Bool). cond x (meet object (set_in n so_far)) (set_in n so_far)) (sym e ∙ ap (subset s) (object_at n row k inside))
        ∙ ap (λ (c : Set). cond (subset s object) (meet object c) c) (before ∙ ap (λ (i : ℕ). common n (objects_in n (drop i row)) s) next)
        ∙ sym (at_drop_more (λ (rest : List ℕ). common n (objects_in n rest) s) row k 0 inside)

    pub shared_taken : (next : ℕ) → set_in n next ≡ meet (set_in n (get_or row k 0)) (set_in n so_far) → subset s (get_or (objects_in n row) k []) ≡ true → Shared n row s next k
    shared_taken next e h = e ∙ step true h

    shared_passed : subset s (get_or (objects_in n row) k []) ≡ false → Shared n row s so_far k
    shared_passed h = step false h

  -- objects that lack an attribute of s change nothing
  pub shared_skipped : (i end so_far : ℕ) → i ≤ end → end ≤ length row → NoneWith (objects_in n row) s i end → Shared n row s so_far end → Shared n row s so_far i
  shared_skipped i zero so_far p q none at = let same : zero ≡ i = omega arith in subst (Shared n row s so_far) same at
  shared_skipped i (suc end) so_far p q none at =
      elim (cases_eq (suc end) i) [
        | inl e ↦ subst (Shared n row s so_far) e at
        | inr e ↦
            shared_skipped i end so_far (omega arith) (omega arith) (λ j a b. none j a (omega arith))
            (shared_passed end so_far (omega arith) at (none end (omega arith) (omega arith)))
      ]

  -- what is left when s alone is shared is s, since all objects tested have it
  pub shared_least : length s ≡ n → (i : ℕ) → s ≡ common n (objects_in n (drop i row)) s → s ≡ common n (objects_in n row) s
  shared_least w i e =
      subset_antisym s (common n (objects_in n row) s) (w ∙ sym (length_common n (objects_in n row) s (objects_width n row))) (common_contains n (objects_in n row) s w)
      (ap (λ (c : Set). subset (common n (objects_in n row) s) c) e ∙ common_drop n row s i)

-- an implication that the object at each place respects holds
pub holds_places : (t : Context) (i : Implication) (k : ℕ) → length t ≤ k → ((j : ℕ) → j < k → respects (get_or t j []) i ≡ true) → holds t i ≡ true
holds_places t i k h all = has_holds t i (λ o m. ap (λ (s : Set). respects s i) (sym (m.2 [])) ∙ all m.0 (omega (arith, m.1)))

-- what a walk over the numbers of a row finds: no object that breaks an implication, or the first
pub first_breaking : (n : ℕ) (row : List ℕ) (i : Implication) (found : Option ℕ)
    → MatchOption found (AllWithin (λ (m : ℕ). respects (set_in n m) i ≡ true) row 0 (length row)) (λ k. (k < length row) × HoldsAt (λ (m : ℕ). respects (set_in n m) i ≡ false) row k × AllWithin (λ (m : ℕ). respects (set_in n m) i ≡ true) row 0 k)
    → MatchOption found (holds (objects_in n row) i ≡ true) (FirstBreaking (objects_in n row) i)
first_breaking n row i None all = holds_places (objects_in n row) i (length row) (omega (arith, length-map row (set_in n))) (λ j p. ap (λ (s : Set). respects s i) (object_at n row j p) ∙ all j 0 (omega arith) p)
first_breaking n row i (Some k) found =
    record {
      inside = omega (arith, found.0, length-map row (set_in n));
      breaks = ap (λ (s : Set). respects s i) (object_at n row k found.0) ∙ found.1 0;
      before = λ j p. ap (λ (s : Set). respects s i) (object_at n row j (omega (arith, p, found.0))) ∙ found.2 j 0 (omega arith) p;
    }

-- and one that some object breaks does not
breaking_place : (t : Context) (i : Implication) (k : ℕ) → FirstBreaking t i k → holds t i ≡ false
breaking_place t i k b =
    not_true_false (holds t i) (λ h. both_ways (respects (get_or t k []) i) b.breaks (holds_has t i h (get_or t k []) (has_get_or t k [] b.inside)))
  where
    not_true_false : (b : Bool) → (b ≡ true → ⊥) → b ≡ false
    not_true_false true f = absurd (f refl)
    not_true_false false f = refl

-- an implication holds if no place was found
pub holds_if_none : (t : Context) (i : Implication) (found : Option ℕ) (r : Bool) → MatchOption found (holds t i ≡ true) (FirstBreaking t i) → is_some found ≡ not r → r ≡ holds t i
holds_if_none t i None true h e = sym h
holds_if_none t i None false h e = cc
holds_if_none t i (Some k) true h e = cc
holds_if_none t i (Some k) false h e = sym (breaking_place t i k h)
