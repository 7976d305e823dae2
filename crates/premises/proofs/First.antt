-- The first set of a list, or of the enumeration, that passes a test. Assumes nothing.
use Rattle.std.proofs.Common.{◌≡◌, ℕ, zero, suc, ◌^◌, ◌<◌, Bool, true, false, cond, ltb, List, [], ◌∷◌, length, get_or, Some, None, Option, sym, refl, ap, ◌∙◌, inl, inr, arith}
use Rattle.std.specs.List.{AllByRecursion}
use Rattle.std.proofs.ByRecursion.{All-get_or}
use Rattle.std.proofs.lemmas.Option.{none-some}
use Rattle.std.proofs.lemmas.Bool.{both_ways, ltb-true}
use Rattle.attributes.specs.Sets.{Set}
use Rattle.attributes.specs.Lectic.{precedes, sets}
use Rattle.attributes.proofs.Lectic.{lectic_agrees, order_laws}
use Rattle.premises.specs.Open.{first}
use Rattle.premises.specs.Laws.{IsFirst, FirstLaws}

-- the place at which a search finds a set: it passes, and none before it does
record Found (test : Set → Bool) (ss : List Set) (s : Set) : Type 0 where
  place : ℕ
  within : place < length ss
  there : get_or ss place [] ≡ s
  passes : test s ≡ true
  before : (j : ℕ) → j < place → test (get_or ss j []) ≡ false

first_found : (test : Set → Bool) (ss : List Set) (s : Set) → first test ss ≡ Some s → Found test ss s
unfolding first
first_found test [] s e = absurd (none-some _ e)
first_found test (t ∷ ss) s e = go (test t) refl (first_found test ss s) e
  where
    go : (b : Bool) → test t ≡ b → (first test ss ≡ Some s → Found test ss s) → cond b (Some t) (first test ss) ≡ Some s → Found test (t ∷ ss) s
    go true h later found =
        let same : t ≡ s = cc in
        record { place = 0; within = omega arith; there = same; passes = rw same at h; before = λ j l. absurd (omega arith) }
    go false h later found =
        let f = later found in
        record {
          place = suc f.place;
          within = omega (arith, f.within);
          there = f.there;
          passes = f.passes;
          before = elim [ zero ↦ λ l. h | suc j ↦ λ l. f.before j (omega arith) ];
        }

first_none : (test : Set → Bool) (ss : List Set) → first test ss ≡ None → AllByRecursion (λ (s : Set). test s ≡ false) ss
unfolding first
first_none test [] e = tt
first_none test (t ∷ ss) e = go (test t) refl (first_none test ss) e
  where
    go : (b : Bool) → test t ≡ b → (first test ss ≡ None → AllByRecursion (λ (s : Set). test s ≡ false) ss) → cond b (Some t) (first test ss) ≡ None → AllByRecursion (λ (s : Set). test s ≡ false) (t ∷ ss)
    go true h later found = absurd (none-some _ (sym found))
    go false h later found = (h, later found)

module _ (n : ℕ) (test : Set → Bool) where
  is_first : (s : Set) → first test (sets n) ≡ Some s → IsFirst n test s
  is_first s e =
      let f = first_found test (sets n) s e in
      let laws = lectic_agrees n in
      let within : f.place < 2 ^ n = omega (arith, f.within, laws.count) in
      record {
        wide = sym (ap length f.there) ∙ laws.wide f.place within;
        passes = f.passes;
        earlier = λ t w p.
            let at = laws.listed t w in
            let order : precedes t s ≡ ltb at.0 f.place = rw (at.2, f.there) at (laws.ordered at.0 f.place at.1 within) in
            rw at.2 at (f.before at.0 (ltb-true at.0 f.place (sym order ∙ p)));
      }

  none_passes : first test (sets n) ≡ None → (s : Set) → length s ≡ n → test s ≡ false
  none_passes e s w =
      let at = (lectic_agrees n).listed s w in
      rw at.2 at (All-get_or (λ (s : Set). test s ≡ false) (sets n) at.0 [] (omega (arith, at.1, (lectic_agrees n).count)) (first_none test (sets n) e))

  -- two sets that pass, none before either, are one
  same_first : (s t : Set) → IsFirst n test s → IsFirst n test t → s ≡ t
  same_first s t f g =
      elim ((order_laws n).total s t f.wide g.wide) [
        | inl e ↦ e
        | inr p ↦ elim p [
          | inl b ↦ absurd (both_ways (test s) (g.earlier s f.wide b) f.passes)
          | inr b ↦ absurd (both_ways (test t) (f.earlier t g.wide b) g.passes)
        ]
      ]

  pub first_laws : FirstLaws n test
  first_laws =
      record {
        found = is_first;
        only = λ s f. go s f (first test (sets n)) refl;
        none = none_passes;
        nothing = λ h. fails h (first test (sets n)) refl;
      }
    where
      go : (s : Set) → IsFirst n test s → (o : Option Set) → first test (sets n) ≡ o → o ≡ Some s
      go s f None e = absurd (both_ways (test s) (none_passes e s f.wide) f.passes)
      go s f (Some t) e = ap Some (same_first t s (is_first t e) f)

      fails : ((s : Set) → length s ≡ n → test s ≡ false) → (o : Option Set) → first test (sets n) ≡ o → o ≡ None
      fails h None e = refl
      fails h (Some t) e = let f = is_first t e in absurd (both_ways (test t) (h t f.wide) f.passes)
