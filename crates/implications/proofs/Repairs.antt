-- Walks over a row of implications, and closing a set by repairing what it breaks. Assumes nothing.
use Rattle.std.proofs.Common.{◌≡◌, ℕ, zero, suc, ◌+◌, ◌*◌, ◌/◌, ◌<◌, ◌≤◌, Bool, true, false, not, ◌||◌, List, [], ◌∷◌, length, get_or, is_some, Some, None, Option, sym, refl, ap, ◌∙◌, inl, inr, arith, MatchOption}
use Rattle.std.proofs.ByRecursion.{has_get_or}
use Rattle.std.proofs.lemmas.Bool.{both_ways, cases_Bool}
use Rattle.std.specs.List.{ContainsAt}
use Rattle.attributes.specs.Numbers.{set_in}
use Rattle.attributes.specs.Sets.{Set, complement, subset, missing}
use Rattle.attributes.proofs.Numbers.{length_set_in}
use Rattle.attributes.proofs.Sets.{subset_refl, subset_trans, join_left, join_right, join_least, length_join, missing_less}
use Rattle.contexts.specs.Contexts.{Implication, respects}
use Rattle.contexts.proofs.Holding.{breaks, inside_test, respects_apply}
use Rattle.implications.specs.Implications.{respects_all, Closure}
use Rattle.implications.specs.Places.{no_implication, FirstBroken, Repaired}
use Rattle.implications.specs.Values.{implications_in}
use Rattle.implications.proofs.Respects.{respects_has, has_respects}

pub implications_length : (n : ℕ) (row : List ℕ) → length (implications_in n row) ≡ length row / 2
unfolding implications_in
implications_length n [] = refl
implications_length n (p ∷ []) = refl
implications_length n (p ∷ (c ∷ row)) = omega (arith, implications_length n row)

pub implication_is : (n : ℕ) (row : List ℕ) (k : ℕ) → k < length row / 2
    → get_or (implications_in n row) k no_implication ≡ record { premise = set_in n (get_or row (2 * k) 0); conclusion = set_in n (get_or row (2 * k + 1) 0) }
unfolding implications_in
implication_is n [] k h = absurd (omega arith)
implication_is n (p ∷ []) k h = absurd (omega arith)
implication_is n (p ∷ (c ∷ row)) zero h = refl
implication_is n (p ∷ (c ∷ row)) (suc k) h =
    let even : 2 * suc k ≡ suc (suc (2 * k)) = omega arith in
    let odd : 2 * suc k + 1 ≡ suc (suc (2 * k + 1)) = omega arith in
    implication_is n row k (omega arith)
    ∙ (λ j. record { premise = set_in n (get_or (p ∷ (c ∷ row)) (sym even j) 0); conclusion = set_in n (get_or (p ∷ (c ∷ row)) (sym odd j) 0) })

-- a set that respects the implication at each place respects all
pub respects_places : (s : Set) (is : List Implication) (k : ℕ) → length is ≤ k → ((j : ℕ) → j < k → respects s (get_or is j no_implication) ≡ true) → respects_all s is ≡ true
respects_places s is k h all = has_respects s is (λ i m. ap (respects s) (sym (m.2 no_implication)) ∙ all m.0 (omega (arith, m.1)))

-- a set has a side of the implication at a place if nothing of the number that stands for it is outside
pub side_inside : (n : ℕ) (row : List ℕ) (k : ℕ) (s : Set) (o p : ℕ) (meets : Bool) (side : Implication → Set) → k < length row / 2 → length s ≡ n → set_in n o ≡ complement s
    → meets ≡ not (subset (set_in n o) (complement (set_in n p)))
    → set_in n p ≡ side (record { premise = set_in n (get_or row (2 * k) 0); conclusion = set_in n (get_or row (2 * k + 1) 0) })
    → subset (side (get_or (implications_in n row) k no_implication)) s ≡ not meets
side_inside n row k s o p meets side there wide outside told is =
    ap (λ (i : Implication). subset (side i) s) (implication_is n row k there) ∙ ap (λ (q : Set). subset q s) (sym is) ∙ inside_test n s o p meets wide outside told

-- a set breaks an implication whose premise it has and whose conclusion it lacks
pub breaks_from : (s : Set) (i : Implication) → subset i.premise s ≡ true → subset i.conclusion s ≡ false → respects s i ≡ false
unfolding respects
breaks_from s i p c = λ j. not (p j) || c j

-- what a search for a broken implication says of the set
pub respects_if_none : (is : List Implication) (s : Set) (found : Option ℕ) (none : Bool) → MatchOption found (respects_all s is ≡ true) (FirstBroken is s) → is_some found ≡ not none → respects_all s is ≡ none
respects_if_none is s None true h e = h
respects_if_none is s None false h e = cc
respects_if_none is s (Some k) true h e = cc
respects_if_none is s (Some k) false b e =
    elim (cases_Bool (respects_all s is)) [
      | inl r ↦ absurd (both_ways (respects s (get_or is k no_implication)) b.breaks (respects_has s is r (get_or is k no_implication) (has_get_or is k no_implication b.inside)))
      | inr r ↦ r
    ]

-- a set that breaks no implication is its own closure
pub respecting_closure : (n : ℕ) (is : List Implication) (s : Set) → length s ≡ n → respects_all s is ≡ true → Closure n is s s
respecting_closure n is s w r = record { width = w; contains = subset_refl s; respected = r; least = λ t e h q. h }

-- and one that breaks some, with the conclusion of the first added
module _ (n : ℕ) (row : List ℕ) (s g : Set) (wide : length s ≡ n) (r : Repaired (implications_in n row) s g) where
  i : Implication
  i = get_or (implications_in n row) r.place no_implication

  same_width : length s ≡ length i.conclusion
  unfolding i
  same_width =
      let at : r.place < length row / 2 = omega (arith, r.broken.inside, implications_length n row) in
      wide ∙ sym (length_set_in n (get_or row (2 * r.place + 1) 0)) ∙ ap (λ (i : Implication). length i.conclusion) (sym (implication_is n row r.place at))

  pub repaired_contains : subset s g ≡ true
  unfolding i
  repaired_contains = rw r.added (join_left s i.conclusion same_width)

  pub repaired_inside : (t : Set) → subset s t ≡ true → respects_all t (implications_in n row) ≡ true → subset g t ≡ true
  unfolding i
  repaired_inside t h q =
      let there : ContainsAt (implications_in n row) i = has_get_or (implications_in n row) r.place no_implication r.broken.inside in
      let inside : subset i.premise t ≡ true = subset_trans i.premise s t (breaks s i r.broken.breaks).0 h in
      rw r.added (join_least s i.conclusion same_width t h (respects_apply t i (respects_has t (implications_in n row) q i there) inside))

  pub repaired_less : missing g < missing s
  unfolding i
  repaired_less =
      let more : subset i.conclusion g ≡ true = rw r.added (join_right s i.conclusion same_width) in
      let other : s ≡ g → ⊥ = λ e. both_ways (subset i.conclusion s) (breaks s i r.broken.breaks).1 (ap (subset i.conclusion) e ∙ more) in
      let width : length g ≡ length s = rw r.added (length_join (length s) s i.conclusion refl (sym same_width)) in
      missing_less s g (sym width) repaired_contains other

  -- the closure is still the same
  pub repaired_closure : (c : Set) → Closure n (implications_in n row) g c → Closure n (implications_in n row) s c
  repaired_closure c h =
      record {
        width = h.width;
        contains = subset_trans s g c repaired_contains h.contains;
        respected = h.respected;
        least = λ t w p q. h.least t w (repaired_inside t p q) q;
      }
