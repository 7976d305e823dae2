-- How the next set that respects a list is sought: attribute by attribute, in branches. Assumes nothing.
use Rattle.std.proofs.Common.{◌≡◌, ℕ, zero, suc, ◌^◌, ◌<◌, ◌≤◌, Bool, true, false, ◌&&◌, List, [], ◌∷◌, length, set, Some, None, sym, refl, ap, ◌∙◌, inl, inr, lt_of_lt_of_le, arith, pow_mono}
use Rattle.std.specs.Cmp.{both_ways as equal_tests}
use Rattle.std.proofs.lemmas.List.{ext_get_or, get_or-set_same, get_or-set_other}
use Rattle.std.proofs.lemmas.Bool.{both_ways, true≢false, cases_eq, cases_lt, false_from_ne_true, and_parts, and_from}
use Rattle.attributes.specs.Lectic.{precedes}
use Rattle.attributes.specs.Numbers.{number_of, set_in}
use Rattle.attributes.specs.Sets.{Set, subset, has}
use Rattle.attributes.proofs.Lectic.{order_laws, subset_first}
use Rattle.attributes.proofs.Numbers.{has_narrow, has_past, length_set_in, number_of_set_in}
use Rattle.attributes.proofs.Sets.{subset_has, has_subset}
use Rattle.contexts.specs.Contexts.{Implication}
use Rattle.implications.specs.Implications.{respects_all}
use Rattle.implications.specs.Places.{Repaired}
use Rattle.implications.specs.Values.{implications_in}
use Rattle.implications.proofs.Repairs.{repaired_contains, repaired_inside}
use Rattle.premises.specs.Respecting.{Agree, LeastInBranch, NextBranch, next_respecting}
use Rattle.premises.specs.Laws.{IsFirst}
use Rattle.premises.proofs.First.{first_laws}

-- of two sets that agree below attribute i that comes first that lacks it
pub precedes_at : (i : ℕ) (t u : Set) → length t ≡ length u → Agree i t u → has t i ≡ false → has u i ≡ true → precedes t u ≡ true
unfolding precedes
precedes_at i [] [] e a p q = cc
precedes_at i [] (y ∷ u) e a p q = absurd (omega arith)
precedes_at i (x ∷ t) [] e a p q = absurd (omega arith)
precedes_at zero (true ∷ t) (y ∷ u) e a p q = cc
precedes_at zero (false ∷ t) (true ∷ u) e a p q = refl
precedes_at zero (false ∷ t) (false ∷ u) e a p q = cc
precedes_at (suc i) (true ∷ t) (true ∷ u) e a p q = precedes_at i t u (omega arith) (λ c h. a (suc c) (omega arith)) p q
precedes_at (suc i) (true ∷ t) (false ∷ u) e a p q = let z = a 0 (omega arith) in cc
precedes_at (suc i) (false ∷ t) (true ∷ u) e a p q = refl
precedes_at (suc i) (false ∷ t) (false ∷ u) e a p q = precedes_at i t u (omega arith) (λ c h. a (suc c) (omega arith)) p q

-- where two sets first differ
record FirstDifference (s t : Set) : Type 0 where
  at : ℕ
  inside : at < length s
  agrees : Agree at s t
  lacks : has s at ≡ false
  there : has t at ≡ true

one_on : (x : Bool) (s t : Set) → FirstDifference s t → FirstDifference (x ∷ s) (x ∷ t)
one_on x s t d =
    record {
      at = suc d.at;
      inside = omega (arith, d.inside);
      agrees = elim [ zero ↦ λ h. refl | suc c ↦ λ h. d.agrees c (omega arith) ];
      lacks = d.lacks;
      there = d.there;
    }

first_difference : (s t : Set) → precedes s t ≡ true → FirstDifference s t
unfolding precedes
first_difference [] t e = absurd (true≢false (sym e))
first_difference (x ∷ s) [] e = absurd (true≢false (sym e))
first_difference (false ∷ s) (false ∷ t) e = one_on false s t (first_difference s t e)
first_difference (false ∷ s) (true ∷ t) e = record { at = 0; inside = omega arith; agrees = λ c h. absurd (omega arith); lacks = refl; there = refl }
first_difference (true ∷ s) (false ∷ t) e = absurd (true≢false (sym e))
first_difference (true ∷ s) (true ∷ t) e = one_on true s t (first_difference s t e)

-- a set on the way to the least set of a branch: it has what the branch has below i, and i, and is inside all sets of the branch
pub record Growing (n : ℕ) (is : List Implication) (s : Set) (i : ℕ) (r : Set) : Type 0 where
  pub agrees : Agree i s r
  pub there : has r i ≡ true
  pub inside : (t : Set) → NextBranch n is s i t → subset r t ≡ true

-- numbers p and q hold what a and b have below attribute i: they are the same if and only if a and b agree there
module _ {n i p q : ℕ} (a b : ℕ) (low : i ≤ n) (small : p < 2 ^ i) (few : q < 2 ^ i) (one : set_in i p ≡ set_in i a) (other : set_in i q ≡ set_in i b) where
  pub same_agree : p ≡ q → Agree i (set_in n a) (set_in n b)
  same_agree e c l = has_narrow i n a c l low ∙ ap (λ (s : Set). has s c) (sym one ∙ ap (set_in i) e ∙ other) ∙ sym (has_narrow i n b c l low)

  pub agree_same : Agree i (set_in n a) (set_in n b) → p ≡ q
  agree_same agree =
      let same : set_in i a ≡ set_in i b =
      ext_get_or false (set_in i a) (set_in i b) (length_set_in i a ∙ sym (length_set_in i b))
      (λ c h. let less : c < i = omega (arith, length_set_in i a) in sym (has_narrow i n a c less low) ∙ agree c less ∙ has_narrow i n b c less low)
      in
      sym (number_of_set_in i p small) ∙ ap number_of (one ∙ same ∙ sym other) ∙ number_of_set_in i q few

-- it starts with the attributes of s below i, and i
pub growing_start : (n : ℕ) (row : List ℕ) (s i b : ℕ) → i < n → b < 2 ^ i → set_in i b ≡ set_in i s
    → Growing n (implications_in n row) (set_in n s) i (set (set_in n b) i true)
growing_start n row s i b l small same =
    let start : Set = set (set_in n b) i true in
    let agrees : Agree i (set_in n s) (set_in n b) = same_agree s b (omega (arith, l)) small small same refl refl in
    let past : (c : ℕ) → i ≤ c → has (set_in n b) c ≡ false =
    λ c h. has_past n b c (lt_of_lt_of_le small (pow_mono (omega (arith, l)))) (lt_of_lt_of_le small (pow_mono h))
    in
    record {
      agrees = λ c h. agrees c h ∙ sym (get_or-set_other (set_in n b) i c true false (λ e. absurd (omega arith)));
      there = get_or-set_same (set_in n b) i true false (omega (arith, length_set_in n b));
      inside = λ t m. has_subset start t (λ c h. elim (cases_eq c i) [
        | inl e ↦ ap (has t) e ∙ m.there
        | inr e ↦
            let old : has (set_in n b) c ≡ true = sym (get_or-set_other (set_in n b) i c true false e) ∙ h in
            elim (cases_lt c i) [
              | inl less ↦ sym (m.agrees c less) ∙ agrees c less ∙ old
              | inr more ↦ absurd (both_ways (has (set_in n b) c) (past c more) old)
            ]
      ]);
    }

module _ {n : ℕ} (row : List ℕ) {s : Set} {i : ℕ} {r : Set} (growing : Growing n (implications_in n row) s i r) (wide : length r ≡ n) where
  pub growing_all : respects_all r (implications_in n row) ≡ true → LeastInBranch n (implications_in n row) s i r
  growing_all respected = record { inside = record { wide = wide; agrees = growing.agrees; there = growing.there; respected = respected }; least = growing.inside }

  module _ {g : Set} (repaired : Repaired (implications_in n row) r g) where
    inside_more : (t : Set) → NextBranch n (implications_in n row) s i t → subset g t ≡ true
    inside_more t m = repaired_inside n row r g wide repaired t (growing.inside t m) m.respected

    more_has : (c : ℕ) → has r c ≡ true → has g c ≡ true
    more_has = subset_has r g (repaired_contains n row r g wide repaired)

    pub growing_more : Agree i s g → Growing n (implications_in n row) s i g
    growing_more same = record { agrees = same; there = more_has i growing.there; inside = inside_more }

    -- if there is a set in the branch, nothing was added below i
    pub growing_agrees : (t : Set) → NextBranch n (implications_in n row) s i t → Agree i s g
    growing_agrees t m c h = equal_tests (has s c) (has g c) (λ x. more_has c (sym (growing.agrees c h) ∙ x)) (λ x. m.agrees c h ∙ subset_has g t (inside_more t m) c x)

-- from attribute a on there is no set that respects the list and differs from s first in an attribute that s lacks
abbrev pub NoneFrom : ℕ → List Implication → Set → ℕ → Type 0
NoneFrom n is s a = (j : ℕ) → a ≤ j → j < n → has s j ≡ false → (t : Set) → NextBranch n is s j t → ⊥

module _ (n : ℕ) (is : List Implication) (s : Set) where
  module _ (wide : length s ≡ n) where
    -- a set behind s that respects the list lies in the branch at which it first differs
    branch_of : (t : Set) → length t ≡ n → (precedes s t && respects_all t is) ≡ true → (d : FirstDifference s t) × NextBranch n is s d.at t
    branch_of t w h =
        let p = and_parts (precedes s t) (respects_all t is) h in
        let d = first_difference s t p.0 in
        (d, record { wide = w; agrees = d.agrees; there = d.there; respected = p.1 })

    pub next_none : NoneFrom n is s 0 → None ≡ next_respecting n is s
    unfolding next_respecting
    next_none none =
        sym ((first_laws n (λ (t : Set). precedes s t && respects_all t is)).nothing
        (λ t w. false_from_ne_true (precedes s t && respects_all t is) (λ h. let b = branch_of t w h in none b.0.at (omega arith) (omega (arith, b.0.inside)) b.0.lacks t b.1)))

    module _ (a : ℕ) (m : Set) (least : LeastInBranch n is s a m) (lacks : has s a ≡ false) where
      -- a set of the branch, or of one below, does not precede its least set
      not_before : (t : Set) (d : FirstDifference s t) → NextBranch n is s d.at t → d.at ≤ a → precedes t m ≡ true → ⊥
      not_before t d b h p =
          elim (cases_eq d.at a) [
            | inl e ↦
                elim (subset_first m t (least.inside.wide ∙ sym b.wide) (least.least t (rw e at b))) [
                  | inl same ↦ both_ways (precedes t m) (ap (precedes t) same ∙ (order_laws n).irreflexive t) p
                  | inr before ↦ both_ways (precedes t m) ((order_laws n).asymmetric m t before) p
                ]
            | inr e ↦
                let below : d.at < a = omega arith in
                both_ways (precedes t m)
                ((order_laws n).asymmetric m t
                (precedes_at d.at m t (least.inside.wide ∙ sym b.wide) (λ c l. sym (least.inside.agrees c (omega arith)) ∙ b.agrees c l)
                (sym (least.inside.agrees d.at below) ∙ d.lacks) d.there))
                p
          ]

      pub next_found : (later : NoneFrom n is s (suc a)) → Some m ≡ next_respecting n is s
      unfolding next_respecting
      next_found later =
          let first : IsFirst n (λ (t : Set). precedes s t && respects_all t is) m =
          record {
            wide = least.inside.wide;
            passes = and_from (precedes s m) (respects_all m is) (precedes_at a s m (wide ∙ sym least.inside.wide) least.inside.agrees lacks least.inside.there) least.inside.respected;
            earlier = λ t w p. false_from_ne_true (precedes s t && respects_all t is) (λ h.
                let b = branch_of t w h in
                elim (cases_lt a b.0.at) [
                  | inl more ↦ later b.0.at (omega arith) (omega (arith, b.0.inside)) b.0.lacks t b.1
                  | inr less ↦ not_before t b.0 b.1 less p
                ]);
          }
          in
          sym ((first_laws n (λ (t : Set). precedes s t && respects_all t is)).only m first)
