-- How the search for the first open set branches at an attribute. Assumes nothing.
use Rattle.std.proofs.Common.{◌≡◌, ℕ, ◌+◌, ◌<◌, Bool, true, false, not, ◌||◌, List, length, set, is_some, Some, None, Option, sym, refl, ap, ◌∙◌, inl, inr, arith, below_more}
use Rattle.std.specs.Cmp.{both_ways as equal_tests}
use Rattle.std.proofs.lemmas.List.{ext_get_or, get_or-set_same, get_or-set_other, set_past}
use Rattle.std.proofs.lemmas.Bool.{both_ways, cases_Bool, cases_eq, cases_lt}
use Rattle.attributes.specs.Lectic.{precedes}
use Rattle.attributes.specs.Sets.{Set, subset, has}
use Rattle.attributes.proofs.Lectic.{order_laws}
use Rattle.attributes.proofs.Sets.{subset_has, has_subset, subset_refl, subset_trans}
use Rattle.contexts.specs.Contexts.{Implication}
use Rattle.implications.specs.Implications.{Closure, respects_all}
use Rattle.implications.specs.Places.{Repaired}
use Rattle.implications.specs.Values.{implications_in}
use Rattle.implications.proofs.Repairs.{repaired_contains, repaired_inside}
use Rattle.premises.specs.Branches.{ClosedWith, InBranch, FirstInBranch, FoundInBranch}
use Rattle.premises.specs.Open.{is_open}
use Rattle.premises.specs.Respecting.{Agree}
use Rattle.premises.proofs.Open.{open_parts}
use Rattle.premises.proofs.Stepping.{precedes_at}

-- so it does not come after
not_after : (n i : ℕ) (t u : Set) → length t ≡ n → length u ≡ n → Agree i t u → has t i ≡ false → has u i ≡ true → precedes u t ≡ false
not_after n i t u p q a x y = (order_laws n).asymmetric t u (precedes_at i t u (p ∙ sym q) a x y)

agree_sym : (i : ℕ) (s t : Set) → Agree i s t → Agree i t s
agree_sym i s t a c h = sym (a c h)

agree_trans : (i : ℕ) (s t u : Set) → Agree i s t → Agree i t u → Agree i s u
agree_trans i s t u a b c h = a c h ∙ b c h

agree_fewer : (i : ℕ) (s t : Set) → Agree (i + 1) s t → Agree i s t
agree_fewer i s t a c h = a c (omega arith)

-- one attribute more
grown : (s : Set) (i : ℕ) → subset s (set s i true) ≡ true
grown s i = has_subset s (set s i true) (λ c h. elim (cases_eq c i) [
  | inl e ↦ elim (cases_lt i (length s)) [
    | inl l ↦ ap (has (set s i true)) e ∙ get_or-set_same s i true false l
    | inr l ↦ ap (λ (t : Set). has t c) (set_past s i true l) ∙ h
  ]
  | inr e ↦ get_or-set_other s i c true false e ∙ h
])

grown_inside : (s : Set) (i : ℕ) (t : Set) → subset s t ≡ true → has t i ≡ true → subset (set s i true) t ≡ true
grown_inside s i t h x = has_subset (set s i true) t (λ c p. elim (cases_eq c i) [
  | inl e ↦ ap (has t) e ∙ x
  | inr e ↦ subset_has s t h c (sym (get_or-set_other s i c true false e) ∙ p)
])

-- at the last attribute the branch is the set itself
module _ (n : ℕ) (s from : Set) (past : Bool) (wide : length s ≡ n) where
  pub last_is : (t : Set) → InBranch n n s from past t → t ≡ s
  last_is t b = ext_get_or false t s (b.wide ∙ sym wide) (λ c h. sym (b.agrees c (omega (arith, b.wide))))

  pub last_inside : length from ≡ n → (past ≡ false → Agree n s from) → InBranch n n s from past s
  last_inside w even =
      record {
        wide = wide;
        agrees = λ c h. refl;
        contains = subset_refl s;
        reached = λ e. ap (precedes s) (sym (ext_get_or false s from (wide ∙ sym w) (λ c h. even e c (omega arith)))) ∙ (order_laws n).irreflexive s;
      }

  pub last_found : (test : Set → Bool) → length from ≡ n → (past ≡ false → Agree n s from) → test s ≡ true → FirstInBranch n n s from past test s
  last_found test w even h =
      record {
        inside = last_inside w even;
        passes = h;
        before = λ t b p. absurd (both_ways (precedes s s) ((order_laws n).irreflexive s) (sym (ap (λ (u : Set). precedes u s) (last_is t b)) ∙ p));
      }

  pub last_none : (test : Set → Bool) → test s ≡ false → FoundInBranch n n s from past test None
  last_none test h t b = ap test (last_is t b) ∙ h

-- at an earlier attribute i: past tells whether the branch is past `from` below i, and beyond whether it is once it has attribute i
module _ (n i : ℕ) (s from : Set) (past beyond : Bool) (wide : length from ≡ n) (even : past ≡ false → Agree i s from) (beyond_is : beyond ≡ (past || not (has from i))) where
  was_even : beyond ≡ false → past ≡ false
  was_even e = go past (has from i) (sym beyond_is ∙ e)
    where
      go : (p f : Bool) → (p || not f) ≡ false → p ≡ false
      go true f h = h
      go false f h = refl

  from_has : beyond ≡ false → has from i ≡ true
  from_has e = go past (has from i) (sym beyond_is ∙ e)
    where
      go : (p f : Bool) → (p || not f) ≡ false → f ≡ true
      go true f h = cc
      go false true h = refl
      go false false h = cc

  from_lacks : beyond ≡ true → past ≡ false → has from i ≡ false
  from_lacks e h = go past (has from i) (sym beyond_is ∙ e) h
    where
      go : (p f : Bool) → (p || not f) ≡ true → p ≡ false → f ≡ false
      go true f x y = cc
      go false true x y = sym x
      go false false x y = refl

  -- a set with attribute i that agrees below it does not precede `from` once the branch is beyond
  reaches : (t : Set) → length t ≡ n → Agree i s t → has t i ≡ true → (beyond ≡ false → precedes t from ≡ false) → past ≡ false → precedes t from ≡ false
  reaches t w a x later e =
      elim (cases_Bool beyond) [
        | inl b ↦ not_after n i from t wide w (agree_trans i from s t (agree_sym i s from (even e)) a) (from_lacks b e) x
        | inr b ↦ later b
      ]

  -- a set that has attribute i keeps it: the branch goes on
  module _ (is_in : has s i ≡ true) where
    has_it : (t : Set) → subset s t ≡ true → has t i ≡ true
    has_it t h = subset_has s t h i is_in

    kept_on : (t : Set) → InBranch n i s from past t → InBranch n (i + 1) s from beyond t
    kept_on t b =
        record {
          wide = b.wide;
          agrees = below_more _ i b.agrees (is_in ∙ sym (has_it t b.contains));
          contains = b.contains;
          reached = λ e. b.reached (was_even e);
        }

    kept_back : (t : Set) → InBranch n (i + 1) s from beyond t → InBranch n i s from past t
    kept_back t b =
        record {
          wide = b.wide;
          agrees = agree_fewer i s t b.agrees;
          contains = b.contains;
          reached = reaches t b.wide (agree_fewer i s t b.agrees) (has_it t b.contains) b.reached;
        }

    pub kept_found : (test : Set → Bool) (r : Option Set) → FoundInBranch n (i + 1) s from beyond test r → FoundInBranch n i s from past test r
    kept_found test None f = λ t b. f t (kept_on t b)
    kept_found test (Some q) f =
        record { inside = kept_back q f.inside; passes = f.passes; before = λ t b p. f.before t (kept_on t b) p }

    pub kept_even : beyond ≡ false → Agree (i + 1) s from
    kept_even e = below_more _ i (even (was_even e)) (is_in ∙ sym (from_has e))

  -- a set that lacks attribute i: first the sets without it, then those with it
  module _ (is_out : has s i ≡ false) where
    out_on : (t : Set) → InBranch n i s from past t → has t i ≡ false → InBranch n (i + 1) s from past t
    out_on t b x = record { wide = b.wide; agrees = below_more _ i b.agrees (is_out ∙ sym x); contains = b.contains; reached = b.reached }

    out_back : (t : Set) → InBranch n (i + 1) s from past t → InBranch n i s from past t
    out_back t b = record { wide = b.wide; agrees = agree_fewer i s t b.agrees; contains = b.contains; reached = b.reached }

    -- no set of the branch that lacks attribute i passes
    abbrev pub NoneWithout : (Set → Bool) → Type 0
    NoneWithout test = (t : Set) → InBranch n i s from past t → has t i ≡ false → test t ≡ false

    without_found : (test : Set → Bool) (q : Set) → FirstInBranch n (i + 1) s from past test q → FirstInBranch n i s from past test q
    without_found test q f =
        record {
          inside = out_back q f.inside;
          passes = f.passes;
          before = λ t b p.
              let at : has q i ≡ false = sym (f.inside.agrees i (omega arith)) ∙ is_out in
              elim (cases_Bool (has t i)) [
                | inl x ↦ absurd (both_ways (precedes t q) (not_after n i q t f.inside.wide b.wide (agree_trans i q s t (agree_sym i s q (agree_fewer i s q f.inside.agrees)) b.agrees) at x) p)
                | inr x ↦ f.before t (out_on t b x) p
              ];
        }

    pub without_some : (test : Set → Bool) (r : Option Set) → is_some r ≡ true → FoundInBranch n (i + 1) s from past test r → FoundInBranch n i s from past test r
    without_some test None h f = λ t b. cc
    without_some test (Some q) h f = without_found test q f

    pub without_none : (test : Set → Bool) (r : Option Set) → is_some r ≡ false → FoundInBranch n (i + 1) s from past test r → NoneWithout test
    without_none test None h f = λ t b x. f t (out_on t b x)
    without_none test (Some q) h f = λ t b x. cc

    pub without_before : (test : Set → Bool) → beyond ≡ false → NoneWithout test
    without_before test e t b x =
        let h : past ≡ false = was_even e in
        absurd (both_ways (precedes t from) (b.reached h)
        (precedes_at i t from (b.wide ∙ sym wide) (agree_trans i t s from (agree_sym i s t b.agrees) (even h)) x (from_has e)))

    pub out_even : past ≡ false → beyond ≡ true → Agree (i + 1) s from
    out_even e b = below_more _ i (even e) (is_out ∙ sym (from_lacks b e))

    -- more is the closure of the set with attribute i added: what passes with attribute i contains it
    module _ (is : List Implication) (forced : Set → Set) (more : Set) (less : i < length s) (closed : Closure n is (set s i true) more) where
      more_contains : subset s more ≡ true
      more_contains = subset_trans s (set s i true) more (grown s i) closed.contains

      more_has : has more i ≡ true
      more_has = subset_has (set s i true) more closed.contains i (get_or-set_same s i true false less)

      inside_more : (t : Set) → InBranch n i s from past t → has t i ≡ true → is_open forced is t ≡ true → subset more t ≡ true
      inside_more t b x o = closed.least t b.wide (grown_inside s i t b.contains x) (open_parts forced is t o).0

      -- then it agrees below attribute i
      agrees_below : (t : Set) → Agree i s t → subset more t ≡ true → Agree i s more
      agrees_below t a h c l = go (has s c) (has more c) (subset_has s more more_contains c) (λ e. a c l ∙ subset_has more t h c e)
        where
          go : (x y : Bool) → (x ≡ true → y ≡ true) → (y ≡ true → x ≡ true) → x ≡ y
          go true y f g = sym (f refl)
          go false true f g = g refl
          go false false f g = refl

      with_back : Agree i s more → (t : Set) → InBranch n (i + 1) more from beyond t → InBranch n i s from past t
      with_back a t b =
          let below : Agree i s t = agree_trans i s more t a (agree_fewer i more t b.agrees) in
          record {
            wide = b.wide;
            agrees = below;
            contains = subset_trans s more t more_contains b.contains;
            reached = reaches t b.wide below (sym (b.agrees i (omega arith)) ∙ more_has) b.reached;
          }

      with_on : Agree i s more → (t : Set) → InBranch n i s from past t → has t i ≡ true → is_open forced is t ≡ true → InBranch n (i + 1) more from beyond t
      with_on a t b x o =
          record {
            wide = b.wide;
            agrees = below_more _ i (agree_trans i more s t (agree_sym i s more a) b.agrees) (more_has ∙ sym x);
            contains = inside_more t b x o;
            reached = λ e. b.reached (was_even e);
          }

      -- what is not open unless it is not open
      by_cases : (t : Set) → InBranch n i s from past t → NoneWithout (is_open forced is) → (has t i ≡ true → is_open forced is t ≡ true → ⊥) → is_open forced is t ≡ false
      by_cases t b none f =
          elim (cases_Bool (has t i)) [
            | inl x ↦ elim (cases_Bool (is_open forced is t)) [ inl o ↦ absurd (f x o) | inr o ↦ o ]
            | inr x ↦ none t b x
          ]

      pub with_found : Agree i s more → NoneWithout (is_open forced is) → (r : Option Set)
          → FoundInBranch n (i + 1) more from beyond (is_open forced is) r → FoundInBranch n i s from past (is_open forced is) r
      with_found a none None f = λ t b. by_cases t b none (λ x o. both_ways (is_open forced is t) (f t (with_on a t b x o)) o)
      with_found a none (Some q) f =
          record {
            inside = with_back a q f.inside;
            passes = f.passes;
            before = λ t b p. by_cases t b none (λ x o. both_ways (is_open forced is t) (f.before t (with_on a t b x o) p) o);
          }

      pub with_none : (Agree i s more → ⊥) → NoneWithout (is_open forced is) → FoundInBranch n i s from past (is_open forced is) None
      with_none other none t b = by_cases t b none (λ x o. other (agrees_below t b.agrees (inside_more t b x o)))

      pub with_even : Agree i s more → beyond ≡ false → Agree (i + 1) more from
      with_even a e = below_more _ i (agree_trans i more s from (agree_sym i s more a) (even (was_even e))) (more_has ∙ sym (from_has e))

-- r is on the way from a set to its closure
pub record Closing (n : ℕ) (is : List Implication) (s r : Set) : Type 0 where
  pub contains : subset s r ≡ true
  pub inside : (t : Set) → subset s t ≡ true → respects_all t is ≡ true → subset r t ≡ true

pub closing_none : (n : ℕ) (is : List Implication) (s : Set) → Closing n is s s
closing_none n is s = record { contains = subset_refl s; inside = λ t p q. p }

module _ {n : ℕ} (row : List ℕ) {s r : Set} (closing : Closing n (implications_in n row) s r) (wide : length r ≡ n) where
  pub closing_all : respects_all r (implications_in n row) ≡ true → Closure n (implications_in n row) s r
  closing_all respected = record { width = wide; contains = closing.contains; respected = respected; least = λ t w p q. closing.inside t p q }

  pub closing_more : {g : Set} → Repaired (implications_in n row) r g → Closing n (implications_in n row) s g
  closing_more {g} repaired =
      record {
        contains = subset_trans s r g closing.contains (repaired_contains n row r g wide repaired);
        inside = λ t p q. repaired_inside n row r g wide repaired t (closing.inside t p q) q;
      }

-- if the closure of a set with attribute i added agrees with the set below i, so does all on the way to it
pub closing_agrees : {n i : ℕ} {is : List Implication} {s g m : Set} → Closing n is (set s i true) g → ClosedWith n is s i m → Agree i s g
closing_agrees {n} {i} {is} {s} {g} {m} closing closed c h =
    equal_tests (has s c) (has g c)
    (λ x. subset_has s g (subset_trans s (set s i true) g (grown s i) closing.contains) c x)
    (λ x. closed.agrees c h ∙ subset_has g m (closing.inside m closed.closed.contains closed.closed.respected) c x)
