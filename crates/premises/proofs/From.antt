-- The first open set from a given one on, and from the start. Assumes nothing.
use Rattle.std.proofs.Common.{◌≡◌, ℕ, zero, suc, Bool, true, false, not, ◌&&◌, List, [], ◌∷◌, ◌++◌, length, Some, None, Option, sym, refl, ap, ◌∙◌, inl, inr, arith, pow_pos}
use mathlib.Core.Path.{fun_ext}
use Rattle.std.proofs.ByRecursion.{has_append_left}
use Rattle.std.proofs.lemmas.Bool.{both_ways, cases_Bool, and_parts, and_from, not-true, not_from_false}
use Rattle.std.specs.List.{ContainsAt}
use Rattle.attributes.specs.Lectic.{precedes, sets}
use Rattle.attributes.specs.Numbers.{set_in}
use Rattle.attributes.specs.Sets.{Set, subset, has}
use Rattle.attributes.proofs.Numbers.{has_past}
use Rattle.attributes.proofs.Sets.{has_subset}
use Rattle.contexts.specs.Contexts.{Implication, common}
use Rattle.contexts.proofs.CommonAttributes.{common_fewer}
use Rattle.implications.specs.Implications.{Closure}
use Rattle.premises.specs.Branches.{InBranch, FoundInBranch}
use Rattle.premises.specs.Laws.{IsFirst, OpennessMonotone, SearchMayBegin}
use Rattle.premises.specs.Open.{is_open, first, first_open, first_open_from}
use Rattle.premises.proofs.First.{first_laws}
use Rattle.premises.proofs.Open.{open_parts, stays_shut}

empty_inside : (n : ℕ) (t : Set) → subset (set_in n 0) t ≡ true
empty_inside n t = has_subset (set_in n 0) t (λ c h. absurd (both_ways (has (set_in n 0) c) (has_past n 0 c (pow_pos n) (pow_pos c)) h))

-- the test by which the search from a given set goes
module _ (n : ℕ) (forced : Set → Set) (is : List Implication) (from : Set) where
  test : Set → Bool
  test s = not (precedes s from) && is_open forced is s

  passed : (t : Set) → test t ≡ true → (precedes t from ≡ false) × (is_open forced is t ≡ true)
  unfolding test
  passed t h = let p = and_parts (not (precedes t from)) (is_open forced is t) h in (not-true (precedes t from) p.0, p.1)

  passes : (t : Set) → precedes t from ≡ false → is_open forced is t ≡ true → test t ≡ true
  unfolding test
  passes t p o = and_from (not (precedes t from)) (is_open forced is t) (not_from_false (precedes t from) p) o

  -- a set fails if passing it leads to a set that is not open
  fails : (t : Set) → (test t ≡ true → is_open forced is t ≡ false) → test t ≡ false
  fails t f = elim (cases_Bool (test t)) [ inl h ↦ absurd (both_ways (is_open forced is t) (f h) (passed t h).1) | inr h ↦ h ]

  -- the branch of all sets that contain the least set that respects the list
  module _ (s : Set) (closed : Closure n is (set_in n 0) s) where
    inside : (t : Set) → length t ≡ n → test t ≡ true → InBranch n 0 s from false t
    inside t w h =
        record {
          wide = w;
          agrees = λ c l. absurd (omega arith);
          contains = closed.least t w (empty_inside n t) (open_parts forced is t (passed t h).1).0;
          reached = λ e. (passed t h).0;
        }

    pub found_from : (r : Option Set) → FoundInBranch n 0 s from false (is_open forced is) r → r ≡ first_open_from n forced is from
    unfolding first_open_from test
    found_from None f = sym ((first_laws n test).nothing (λ t w. fails t (λ h. f t (inside t w h))))
    found_from (Some q) f =
        let at : IsFirst n test q =
        record {
          wide = f.inside.wide;
          passes = passes q (f.inside.reached refl) f.passes;
          earlier = λ t w p. fails t (λ h. f.before t (inside t w h) p);
        }
        in
        sym ((first_laws n test).only q at)

-- no set precedes the empty one
precedes_empty : (n : ℕ) (s : Set) → precedes s (set_in n 0) ≡ false
unfolding precedes set_in
precedes_empty n [] = refl
precedes_empty zero (x ∷ s) = refl
precedes_empty (suc n) (true ∷ s) = refl
precedes_empty (suc n) (false ∷ s) = precedes_empty n s

pub from_empty : (n : ℕ) (forced : Set → Set) (is : List Implication) → first_open_from n forced is (set_in n 0) ≡ first_open n forced is
unfolding first_open_from first_open
from_empty n forced is = ap (λ (p : Set → Bool). first p (sets n)) (fun_ext (λ s. ap (λ (b : Bool). not b && is_open forced is s) (precedes_empty n s)))

pub openness_monotone : OpennessMonotone
openness_monotone n t u is more s w h =
    stays_shut (common n t) (common n (t ++ u)) is (is ++ more) s (λ i m. has_append_left is more i m) (common_fewer n t (t ++ u) s w (λ o m. has_append_left t u o m)) h

-- two tests that agree on the sets of n attributes find the same
same_tests : (n : ℕ) (p q : Set → Bool) → ((s : Set) → length s ≡ n → p s ≡ q s) → first p (sets n) ≡ first q (sets n)
same_tests n p q same = go (first p (sets n)) refl
  where
    go : (r : Option Set) → first p (sets n) ≡ r → r ≡ first q (sets n)
    go None e = sym ((first_laws n q).nothing (λ s w. sym (same s w) ∙ (first_laws n p).none e s w))
    go (Some s) e =
        let f = (first_laws n p).found s e in
        let at : IsFirst n q s =
        record { wide = f.wide; passes = sym (same s f.wide) ∙ f.passes; earlier = λ t w l. sym (same t w) ∙ f.earlier t w l }
        in
        sym ((first_laws n q).only s at)

-- a search may begin at the set that was open first, once more is confirmed and no more is forced
pub begin_at : (n : ℕ) (forced less : Set → Set) (is more : List Implication) (p : Set) → ((i : Implication) → ContainsAt is i → ContainsAt more i) → ((s : Set) → subset (less s) (forced s) ≡ true)
    → first_open n forced is ≡ Some p → first_open n less more ≡ first_open_from n less more p
unfolding first_open first_open_from
begin_at n forced less is more p add fewer e =
    let now : Set → Bool = is_open less more in
    let before = (first_laws n (is_open forced is)).found p e in
    same_tests n now (λ s. not (precedes s p) && now s)
    (λ s wide. elim (cases_Bool (precedes s p)) [
      | inl b ↦ stays_shut forced less is more s add (fewer s) (before.earlier s wide b) ∙ sym (ap (λ (x : Bool). not x && now s) b)
      | inr b ↦ sym (ap (λ (x : Bool). not x && now s) b)
    ])

pub search_may_begin : SearchMayBegin
search_may_begin n t u is more p w =
    begin_at n (common n t) (common n (t ++ u)) is (is ++ more) p (λ i m. has_append_left is more i m) (λ s. common_fewer n t (t ++ u) s w (λ o m. has_append_left t u o m))
