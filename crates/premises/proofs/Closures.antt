-- The closure under a list of implications is what the sets that respect the list have in common. Assumes nothing.
use Rattle.std.proofs.Common.{◌≡◌, ℕ, Bool, true, false, cond, ◌⊎◌, List, [], ◌∷◌, length, filter, sym, refl, ap, ◌∙◌, inl, inr, arith}
use Rattle.std.specs.List.{ContainsAt, AllByRecursion}
use Rattle.std.proofs.ByRecursion.{All-from_get_or, all_kept_by, all-has, kept_by_passes, has_get_or}
use Rattle.std.proofs.lemmas.Bool.{both_ways}
use Rattle.attributes.specs.Lectic.{sets}
use Rattle.attributes.specs.Sets.{Set, subset, meet, everything}
use Rattle.attributes.proofs.Lectic.{lectic_agrees}
use Rattle.attributes.proofs.Members.{has_there, has_cases}
use Rattle.attributes.proofs.Numbers.{length_set_in}
use Rattle.attributes.proofs.Sets.{inside_everything}
use Rattle.contexts.specs.Contexts.{Context, OfWidth, Implication, common}
use Rattle.contexts.proofs.CommonAttributes.{length_common, common_contains, common_inside}
use Rattle.contexts.proofs.Holding.{respects_from}
use Rattle.implications.specs.Implications.{Over, respects_all, Closure}
use Rattle.implications.specs.Values.{implications_in}
use Rattle.implications.proofs.Respects.{has_respects, meet_respects}
use Rattle.premises.specs.Forced.{respecting, closure}

pub implications_over : (n : ℕ) (row : List ℕ) → AllByRecursion (Over n) (implications_in n row)
unfolding implications_in
implications_over n [] = tt
implications_over n (p ∷ []) = tt
implications_over n (p ∷ (c ∷ row)) = ((length_set_in n p, length_set_in n c), implications_over n row)

-- a member that passes is kept
has_kept : {X : Type 0} (test : X → Bool) (xs : List X) (x : X) → ContainsAt xs x → test x ≡ true → ContainsAt (filter test xs) x
has_kept test [] x h p = h
has_kept {X} test (y ∷ xs) x h p = go (test y) refl (has_cases y xs x h) (λ m. has_kept test xs x m p)
  where
    go : (b : Bool) → test y ≡ b → (y ≡ x) ⊎ ContainsAt xs x → (ContainsAt xs x → ContainsAt (filter test xs) x) → ContainsAt (cond b (y ∷ filter test xs) (filter test xs)) x
    go true e (inl same) later = (0, omega arith, λ _. same)
    go true e (inr m) later = has_there y (filter test xs) x (later m)
    go false e (inl same) later = absurd (both_ways (test x) (sym (ap test same) ∙ e) p)
    go false e (inr m) later = later m

module _ (n : ℕ) (is : List Implication) where
  pub respecting_width : OfWidth n (respecting n is)
  respecting_width = all_kept_by (λ (s : Set). respects_all s is) (λ (s : Set). length s ≡ n) (sets n)
      (All-from_get_or (λ (s : Set). length s ≡ n) (sets n) [] (λ i h. (lectic_agrees n).wide i (omega (arith, (lectic_agrees n).count))))

  -- each set that respects the list is among them
  pub has_respecting : (t : Set) → length t ≡ n → respects_all t is ≡ true → ContainsAt (respecting n is) t
  has_respecting t w r =
      let at = (lectic_agrees n).listed t w in
      let among : ContainsAt (sets n) t = rw at.2 at (has_get_or (sets n) at.0 [] (omega (arith, at.1, (lectic_agrees n).count))) in
      has_kept (λ (t : Set). respects_all t is) (sets n) t among r

  -- what sets that respect a list have in common respects it
  common_respects : AllByRecursion (Over n) is → (t : Context) (s : Set) → AllByRecursion (λ (o : Set). respects_all o is ≡ true) t → respects_all (common n t s) is ≡ true
  unfolding common
  common_respects over [] s h = has_respects (everything n) is (λ i m. respects_from (everything n) i (λ _. inside_everything n i.conclusion (all-has (Over n) is i over m).1))
  common_respects over (o ∷ os) s h = go (subset s o) (common_respects over os s h.1)
    where
      go : (b : Bool) → respects_all (common n os s) is ≡ true → respects_all (cond b (meet o (common n os s)) (common n os s)) is ≡ true
      go true later = meet_respects is o (common n os s) h.0 later
      go false later = later

  pub closure_is_common : AllByRecursion (Over n) is → (s : Set) → length s ≡ n → Closure n is s (closure n is s)
  closure_is_common over s e =
      record {
        width = length_common n (respecting n is) s respecting_width;
        contains = common_contains n (respecting n is) s e;
        respected = common_respects over (respecting n is) s (kept_by_passes (λ (t : Set). respects_all t is) (sets n));
        least = λ t w h r. common_inside n (respecting n is) s t (has_respecting t w r) h;
      }
