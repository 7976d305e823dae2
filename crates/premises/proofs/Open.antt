-- Open sets, by their two parts, and that a set that is not open stays so as more is known. Assumes nothing.
use Rattle.std.proofs.Common.{◌≡◌, Bool, true, false, not, ◌&&◌, List, sym, refl}
use Rattle.std.specs.List.{ContainsAt}
use Rattle.std.proofs.lemmas.Bool.{and_parts, and_from, not-true, not_from_false}
use Rattle.attributes.specs.Sets.{Set, subset}
use Rattle.attributes.proofs.Sets.{subset_trans}
use Rattle.contexts.specs.Contexts.{Implication}
use Rattle.implications.specs.Implications.{respects_all}
use Rattle.implications.proofs.Respects.{respects_fewer}
use Rattle.premises.specs.Open.{is_open}

module _ (forced : Set → Set) (is : List Implication) (s : Set) where
  pub open_parts : is_open forced is s ≡ true → (respects_all s is ≡ true) × (subset (forced s) s ≡ false)
  unfolding is_open
  open_parts e = let p = and_parts (respects_all s is) (not (subset (forced s) s)) e in (p.0, not-true (subset (forced s) s) p.1)

  pub open_from : respects_all s is ≡ true → subset (forced s) s ≡ false → is_open forced is s ≡ true
  unfolding is_open
  open_from p q = and_from (respects_all s is) (not (subset (forced s) s)) p (not_from_false (subset (forced s) s) q)

  pub shut : is_open forced is s ≡ false → respects_all s is ≡ true → subset (forced s) s ≡ true
  unfolding is_open
  shut = go (respects_all s is) (subset (forced s) s)
    where
      go : (r c : Bool) → (r && not c) ≡ false → r ≡ true → c ≡ true
      go true true e f = refl
      go true false e f = cc
      go false c e f = cc

  pub shut_from : (respects_all s is ≡ true → subset (forced s) s ≡ true) → is_open forced is s ≡ false
  unfolding is_open
  shut_from = go (respects_all s is) (subset (forced s) s)
    where
      go : (r c : Bool) → (r ≡ true → c ≡ true) → (r && not c) ≡ false
      go true true f = refl
      go true false f = sym (f refl)
      go false c f = refl

-- more implications are confirmed, and no more is forced
pub stays_shut : (forced less : Set → Set) (is more : List Implication) (s : Set) → ((i : Implication) → ContainsAt is i → ContainsAt more i) → subset (less s) (forced s) ≡ true
    → is_open forced is s ≡ false → is_open less more s ≡ false
stays_shut forced less is more s add l e = shut_from less more s (λ h. subset_trans (less s) (forced s) s l (shut forced is s e (respects_fewer s is more add h)))
