-- The lectic order of two numbers that stand for sets, and its laws, which the comparison of sets in the code owes. The laws are proved here, since
-- of its own crate the code may cite only what stands in `specs/`.
use Rattle.std.specs.Prelude.{◌≡◌, ℕ, zero, suc, ◌+◌, ◌/◌, ◌%◌, ◌^◌, ◌<◌, ◌≤◌, true, false, refl, nat_eq, slice_index_or, drop}
use Rattle.std.proofs.Common.{sym, ap, ◌∙◌, pow-suc, pow_mono, lt_of_lt_of_le, eqb, arith}
use Rattle.std.specs.declared.cmp.Ordering.{Ordering}
use Rattle.std.specs.Ordering.{bool_cmp, ordering_reverse, ordering_then, is_eq, eq_by_cmp, as_partial_cmp}
use Rattle.std.specs.Cmp.{IsTotalOrder, IsPartialOrder, po, bool_cmp_total, tied_itself, both_ways, Equal-is}
use Rattle.std.specs.Cmp.Lexicographic.{slice_cmp, lists_total}
use Rattle.std.proofs.lemmas.Bool.{eq-eqb, eqb-true}
use Rattle.std.proofs.lemmas.Bool.Decides.{nat_tests}
use Rattle.std.specs.FinMap.{IsAntisymmetric, slice_cmp-IsAntisymmetric}
use Rattle.attributes.specs.Sets.{Set}
use Rattle.attributes.specs.Numbers.{set_in}

-- of the first attribute in which two sets differ, the set that lacks it comes first; at a width at which both have all their attributes
abbrev pub lectic_cmp : ℕ → ℕ → Ordering
lectic_cmp a b = slice_cmp bool_cmp (set_in (a + b) a) (set_in (a + b) b)

pub set_cmp_total : IsTotalOrder (slice_cmp bool_cmp)
set_cmp_total = lists_total bool_cmp_total

bool_same : IsAntisymmetric bool_cmp
bool_same true true e = refl
bool_same false false e = refl
bool_same true false e = cc
bool_same false true e = cc

-- attributes that neither set has change nothing
widened : (n m a b : ℕ) → n ≤ m → a < 2 ^ n → b < 2 ^ n → slice_cmp bool_cmp (set_in m a) (set_in m b) ≡ slice_cmp bool_cmp (set_in n a) (set_in n b)
unfolding set_in
widened zero m a b h p q =
    let first : a ≡ 0 = omega arith in
    let second : b ≡ 0 = omega arith in
    (λ j. slice_cmp bool_cmp (set_in m (first j)) (set_in m (second j))) ∙ tied_itself set_cmp_total (set_in m 0)
widened (suc n) zero a b h p q = absurd (omega arith)
widened (suc n) (suc m) a b h p q =
    ap (ordering_then (bool_cmp (eqb (a % 2) 1) (eqb (b % 2) 1)))
    (widened n m (a / 2) (b / 2) (omega arith) (omega (arith, pow-suc 2 n)) (omega (arith, pow-suc 2 n)))

small : (m : ℕ) → m < 2 ^ m
small zero = omega arith
small (suc m) = omega (arith, pow-suc 2 m, small m)

-- a set has no attribute that its number is not above
fits : (m n : ℕ) → m ≤ n → m < 2 ^ n
fits m n h = lt_of_lt_of_le (small m) (pow_mono h)

-- any width at which both sets have all their attributes gives the same
pub lectic_cmp_at : (n a b : ℕ) → a < 2 ^ n → b < 2 ^ n → lectic_cmp a b ≡ slice_cmp bool_cmp (set_in n a) (set_in n b)
lectic_cmp_at n a b p q =
    sym (widened (a + b) (a + b + n) a b (omega arith) (fits a (a + b) (omega arith)) (fits b (a + b) (omega arith)))
    ∙ widened n (a + b + n) a b (omega arith) p q

-- so does one that neither number is above
at_sum : (n a b : ℕ) → a ≤ n → b ≤ n → lectic_cmp a b ≡ slice_cmp bool_cmp (set_in n a) (set_in n b)
at_sum n a b p q = lectic_cmp_at n a b (fits a n p) (fits b n q)

pub lectic_cmp_total : IsTotalOrder lectic_cmp
lectic_cmp_total =
    record {
      antisymm = λ a b.
          set_cmp_total.antisymm (set_in (a + b) a) (set_in (a + b) b)
          ∙ ap ordering_reverse (sym (at_sum (a + b) b a (omega arith) (omega arith)));
      trans = λ a b c p q.
          let n : ℕ = a + b + c in
          at_sum n a c (omega arith) (omega arith)
          ∙ set_cmp_total.trans (set_in n a) (set_in n b) (set_in n c)
          (sym (at_sum n a b (omega arith) (omega arith)) ∙ p) (sym (at_sum n b c (omega arith) (omega arith)) ∙ q);
      congr = λ a b c p.
          let n : ℕ = a + b + c in
          at_sum n a c (omega arith) (omega arith)
          ∙ set_cmp_total.congr (set_in n a) (set_in n b) (set_in n c) (sym (at_sum n a b (omega arith) (omega arith)) ∙ p)
          ∙ sym (at_sum n b c (omega arith) (omega arith));
    }

-- sets that compare as equal have the same number
same_number : (n a b : ℕ) → a < 2 ^ n → b < 2 ^ n → set_in n a ≡ set_in n b → a ≡ b
unfolding set_in
same_number zero a b p q e = omega arith
same_number (suc n) a b p q e =
    let low : eqb (a % 2) 1 ≡ eqb (b % 2) 1 = ap (λ (s : Set). slice_index_or s 0 false) e in
    let half : a / 2 ≡ b / 2 = same_number n (a / 2) (b / 2) (omega (arith, pow-suc 2 n)) (omega (arith, pow-suc 2 n)) (ap (drop 1) e) in
    grind (arith, nat_tests)

pub lectic_cmp_ties : (a b : ℕ) → nat_eq a b ≡ eq_by_cmp lectic_cmp a b
lectic_cmp_ties a b =
    both_ways (nat_eq a b) (is_eq (lectic_cmp a b))
    (λ e. ap is_eq (ap (lectic_cmp a) (sym (eqb-true a b e)) ∙ tied_itself lectic_cmp_total a))
    (λ e. eq-eqb a b
    (same_number (a + b) a b (fits a (a + b) (omega arith)) (fits b (a + b) (omega arith))
    (slice_cmp-IsAntisymmetric bool_same (set_in (a + b) a) (set_in (a + b) b) ((Equal-is (lectic_cmp a b)).0 e))))

pub lectic_cmp_partial : IsPartialOrder nat_eq (as_partial_cmp lectic_cmp)
lectic_cmp_partial = po lectic_cmp_total lectic_cmp_ties
