-- Numbers as attribute sets: the operations on masks are those on sets. Assumes nothing.
use Rattle.std.proofs.Common.{◌≡◌, ℕ, zero, suc, ◌+◌, ◌-◌, ◌*◌, ◌/◌, ◌%◌, ◌^◌, ◌<◌, ◌≤◌, min, Bool, true, false, cond, not, ◌&&◌, ◌||◌, eqb, [], ◌∷◌, length, set, sym, refl, ap, ◌∙◌, ap₂, inl, inr, pow-suc, div-one, add-one, one-add, arith}
use native.Mathlib.Nat.{zero-div, div-eq_of_lt}
use lib.Bits.{bit_and, bit_or, bit_xor, differ, and_step, or_step, xor_step, and_zero_l, or_zero_r, and_mask}
use lib.Count.{count_trailing_zeros, under, ones, ones_step, ones-le}
use Rattle.std.proofs.lemmas.Nat.{mod-pow-add, shr-shr, one_shl}
use Rattle.std.proofs.lemmas.Bool.{cases_eq, eq-eqb, ne_eqb}
use Rattle.std.proofs.lemmas.Bool.Decides.{nat_tests}
use Rattle.std.specs.Ordering.{bool_cmp}
use Rattle.std.specs.Cmp.{bool_cmp_total, tied_itself}
use Rattle.std.specs.Cmp.Lexicographic.{slice_cmp}
use Rattle.attributes.specs.LecticOrder.{set_cmp_total}
use Rattle.attributes.specs.Sets.{Set, complement, everything, has, meet, missing, join, subset}
use Rattle.attributes.specs.Numbers.{set_in, number_of}
use Rattle.attributes.proofs.Sets.{length_everything}

number_cons : (b : Bool) (s : Set) → number_of (b ∷ s) ≡ cond b 1 0 + 2 * number_of s
unfolding number_of
number_cons true s = refl
number_cons false s = omega arith

-- the lowest bit as a test, and the number that it stands for
low_bit : (m : ℕ) → cond (eqb (m % 2) 1) 1 0 ≡ m % 2
low_bit m =
    elim (cases_eq (m % 2) 1) [
      | inl e ↦ ap (λ (b : Bool). cond b 1 0) (eq-eqb (m % 2) 1 e) ∙ sym e
      | inr e ↦ ap (λ (b : Bool). cond b 1 0) (ne_eqb (m % 2) 1 e) ∙ omega arith
    ]

pub number_of_set_in : (n m : ℕ) → m < 2 ^ n → number_of (set_in n m) ≡ m
unfolding set_in number_of
number_of_set_in zero m h = omega arith
number_of_set_in (suc n) m h =
    number_cons (eqb (m % 2) 1) (set_in n (m / 2))
    ∙ omega (arith, low_bit m, number_of_set_in n (m / 2) (omega (arith, pow-suc 2 n)))

pub number_of_everything : (n : ℕ) → number_of (everything n) + 1 ≡ 2 ^ n
unfolding number_of everything
number_of_everything zero = refl
number_of_everything (suc n) = omega (arith, number_of_everything n, pow-suc 2 n)

pub length_set_in : (n m : ℕ) → length (set_in n m) ≡ n
unfolding set_in
length_set_in zero m = refl
length_set_in (suc n) m = ap suc (length_set_in n (m / 2))

pub number_of_below : (s : Set) → number_of s < 2 ^ length s
unfolding number_of
number_of_below [] = omega arith
number_of_below (true ∷ s) = omega (arith, number_of_below s, pow-suc 2 (length s))
number_of_below (false ∷ s) = omega (arith, number_of_below s, pow-suc 2 (length s))

pub set_in_number_of : (s : Set) → set_in (length s) (number_of s) ≡ s
unfolding set_in number_of
set_in_number_of [] = refl
set_in_number_of (true ∷ s) =
    let odd : (1 + 2 * number_of s) % 2 ≡ 1 = omega arith in
    let half : (1 + 2 * number_of s) / 2 ≡ number_of s = omega arith in
    λ j. eq-eqb ((1 + 2 * number_of s) % 2) 1 odd j ∷ (ap (set_in (length s)) half ∙ set_in_number_of s) j
set_in_number_of (false ∷ s) =
    let even : (2 * number_of s) % 2 ≡ 1 → ⊥ = λ e. omega arith in
    let half : (2 * number_of s) / 2 ≡ number_of s = omega arith in
    λ j. ne_eqb ((2 * number_of s) % 2) 1 even j ∷ (ap (set_in (length s)) half ∙ set_in_number_of s) j

-- the same, where n is that length
pub set_in_back : (n : ℕ) (s : Set) → length s ≡ n → set_in n (number_of s) ≡ s
set_in_back n s e = ap (λ (k : ℕ). set_in k (number_of s)) (sym e) ∙ set_in_number_of s

-- the first n attributes are those of the remainder
pub set_in_mod : (n m : ℕ) → set_in n (m % 2 ^ n) ≡ set_in n m
unfolding set_in
set_in_mod zero m = refl
set_in_mod (suc n) m =
    let split : m % 2 ^ (n + 1) ≡ (m / 2 % 2 ^ n) * 2 + m % 2 = mod-pow-add m n 1 in
    let whole : m % 2 ^ suc n ≡ (m / 2 % 2 ^ n) * 2 + m % 2 = ap (λ (k : ℕ). m % 2 ^ k) (sym (add-one n)) ∙ split in
    let low : m % 2 ^ suc n % 2 ≡ m % 2 = omega arith in
    let half : m % 2 ^ suc n / 2 ≡ m / 2 % 2 ^ n = omega arith in
    λ j. eqb (low j) 1 ∷ (ap (set_in n) half ∙ set_in_mod n (m / 2)) j

and_low : (a b : ℕ) → eqb (bit_and a b % 2) 1 ≡ (eqb (a % 2) 1 && eqb (b % 2) 1)
and_low a b = let h = and_step a b in grind (arith, nat_tests)

or_low : (a b : ℕ) → eqb (bit_or a b % 2) 1 ≡ (eqb (a % 2) 1 || eqb (b % 2) 1)
or_low a b = let h = or_step a b in grind (arith, nat_tests)

and_half : (a b : ℕ) → bit_and a b / 2 ≡ bit_and (a / 2) (b / 2)
and_half a b = omega (arith, and_step a b)

or_half : (a b : ℕ) → bit_or a b / 2 ≡ bit_or (a / 2) (b / 2)
or_half a b = omega (arith, or_step a b)

pub meet_bits : (n a b : ℕ) → set_in n (bit_and a b) ≡ meet (set_in n a) (set_in n b)
unfolding set_in meet
meet_bits zero a b = refl
meet_bits (suc n) a b = λ j. and_low a b j ∷ (ap (set_in n) (and_half a b) ∙ meet_bits n (a / 2) (b / 2)) j

pub join_bits : (n a b : ℕ) → set_in n (bit_or a b) ≡ join (set_in n a) (set_in n b)
unfolding set_in join
join_bits zero a b = refl
join_bits (suc n) a b = λ j. or_low a b j ∷ (ap (set_in n) (or_half a b) ∙ join_bits n (a / 2) (b / 2)) j

subset_step : (a b u m : ℕ) → m ≡ u * 2 + min (a % 2) (b % 2) → ((not (eqb (a % 2) 1) || eqb (b % 2) 1) && eqb u (a / 2)) ≡ eqb m a
subset_step a b u m h = grind (arith, nat_tests)

pub subset_bits : (n a b : ℕ) → a < 2 ^ n → eqb (bit_and a b) a ≡ subset (set_in n a) (set_in n b)
unfolding set_in subset
subset_bits zero a b h =
    let none : a ≡ 0 = omega arith in
    eq-eqb (bit_and a b) a (ap (λ (x : ℕ). bit_and x b) none ∙ and_zero_l b ∙ sym none)
subset_bits (suc n) a b h =
    sym (subset_step a b (bit_and (a / 2) (b / 2)) (bit_and a b) (and_step a b))
    ∙ ap (λ (x : Bool). (not (eqb (a % 2) 1) || eqb (b % 2) 1) && x) (subset_bits n (a / 2) (b / 2) (omega (arith, pow-suc 2 n)))

-- what is not in a set: the number is what is left of that of all attributes
pub complement_bits : (n m k : ℕ) → m + k + 1 ≡ 2 ^ n → set_in n k ≡ complement (set_in n m)
unfolding set_in complement
complement_bits zero m k e = refl
complement_bits (suc n) m k e =
    let half : m / 2 + k / 2 + 1 ≡ 2 ^ n = omega (arith, pow-suc 2 n) in
    let other : eqb (k % 2) 1 ≡ not (eqb (m % 2) 1) = let h = pow-suc 2 n in let odd : k % 2 + m % 2 ≡ 1 = omega arith in grind (arith, nat_tests) in
    λ j. other j ∷ complement_bits n (m / 2) (k / 2) half j

disjoint_step : (a b u m : ℕ) → m ≡ u * 2 + min (a % 2) (b % 2) → ((not (eqb (a % 2) 1) || not (eqb (b % 2) 1)) && eqb u 0) ≡ eqb m 0
disjoint_step a b u m h = grind (arith, nat_tests)

pub disjoint_bits : (n a b : ℕ) → a < 2 ^ n → eqb (bit_and a b) 0 ≡ subset (set_in n a) (complement (set_in n b))
unfolding set_in subset complement
disjoint_bits zero a b h =
    let none : a ≡ 0 = omega arith in
    eq-eqb (bit_and a b) 0 (ap (λ (x : ℕ). bit_and x b) none ∙ and_zero_l b)
disjoint_bits (suc n) a b h =
    sym (disjoint_step a b (bit_and (a / 2) (b / 2)) (bit_and a b) (and_step a b))
    ∙ ap (λ (x : Bool). (not (eqb (a % 2) 1) || not (eqb (b % 2) 1)) && x) (disjoint_bits n (a / 2) (b / 2) (omega (arith, pow-suc 2 n)))

-- one attribute more is one bit more
pub with_bit : (n m c : ℕ) → set_in n (bit_or m (2 ^ c)) ≡ set (set_in n m) c true
unfolding set_in
with_bit zero m c = refl
with_bit (suc n) m zero =
    let odd : bit_or m 1 % 2 ≡ 1 = omega (arith, or_step m 1) in
    let half : bit_or m 1 / 2 ≡ m / 2 = or_half m 1 ∙ or_zero_r (m / 2) in
    λ j. eq-eqb (bit_or m 1 % 2) 1 odd j ∷ set_in n (half j)
with_bit (suc n) m (suc c) =
    let even : 2 ^ suc c ≡ 2 ^ c * 2 = pow-suc 2 c in
    let low : bit_or m (2 ^ suc c) % 2 ≡ m % 2 = omega (arith, or_step m (2 ^ suc c)) in
    let down : 2 ^ suc c / 2 ≡ 2 ^ c = omega arith in
    let half : bit_or m (2 ^ suc c) / 2 ≡ bit_or (m / 2) (2 ^ c) = or_half m (2 ^ suc c) ∙ ap (bit_or (m / 2)) down in
    λ j. eqb (low j) 1 ∷ (ap (set_in n) half ∙ with_bit n (m / 2) c) j

-- whether an attribute is in the set is a bit of the number
pub has_bit : (n m c : ℕ) → m < 2 ^ n → eqb (m / 2 ^ c % 2) 1 ≡ has (set_in n m) c
unfolding set_in
has_bit zero m c h =
    let none : m ≡ 0 = omega arith in
    let at : m / 2 ^ c ≡ 0 = ap (λ (x : ℕ). x / 2 ^ c) none ∙ zero-div (2 ^ c) in
    ap (λ (x : ℕ). eqb (x % 2) 1) at
has_bit (suc n) m zero h = ap (λ (x : ℕ). eqb (x % 2) 1) (div-one m)
has_bit (suc n) m (suc c) h =
    let step : m / 2 ^ suc c ≡ m / 2 / 2 ^ c = ap (λ (k : ℕ). m / 2 ^ k) (sym (one-add c)) ∙ sym (shr-shr m 1 c) in
    ap (λ (x : ℕ). eqb (x % 2) 1) step ∙ has_bit n (m / 2) c (omega (arith, pow-suc 2 n))

-- no attribute is in the set that is beyond the number
pub has_past : (n m c : ℕ) → m < 2 ^ n → m < 2 ^ c → has (set_in n m) c ≡ false
has_past n m c h k = sym (has_bit n m c h) ∙ ap (λ (x : ℕ). eqb (x % 2) 1) (div-eq_of_lt k)

-- the lowest attribute in which two sets differ, found as the lowest bit of the two numbers' difference
cmp_step : (x y t : ℕ) (a b : Set) → x < 2 → y < 2 → bool_cmp (has a t) (has b t) ≡ slice_cmp bool_cmp a b
    → bool_cmp (has (eqb x 1 ∷ a) (under (differ x y) t)) (has (eqb y 1 ∷ b) (under (differ x y) t)) ≡ slice_cmp bool_cmp (eqb x 1 ∷ a) (eqb y 1 ∷ b)
cmp_step zero zero t a b p q e = e
cmp_step zero (suc zero) t a b p q e = refl
cmp_step zero (suc (suc y)) t a b p q e = absurd (omega arith)
cmp_step (suc zero) zero t a b p q e = refl
cmp_step (suc zero) (suc zero) t a b p q e = e
cmp_step (suc zero) (suc (suc y)) t a b p q e = absurd (omega arith)
cmp_step (suc (suc x)) y t a b p q e = absurd (omega arith)

pub differ_small : (x y : ℕ) → x < 2 → y < 2 → differ x y < 2
differ_small zero y p q = q
differ_small (suc zero) zero p q = omega arith
differ_small (suc zero) (suc y) p q = omega arith
differ_small (suc (suc x)) y p q = absurd (omega arith)

pub cmp_bits : (k n a b : ℕ) → a < 2 ^ k → b < 2 ^ k
    → bool_cmp (has (set_in n a) (count_trailing_zeros k (bit_xor a b))) (has (set_in n b) (count_trailing_zeros k (bit_xor a b))) ≡ slice_cmp bool_cmp (set_in n a) (set_in n b)
unfolding set_in count_trailing_zeros
cmp_bits k zero a b p q = refl
cmp_bits zero (suc n) a b p q =
    let same : a ≡ b = omega arith in
    let x : ℕ = count_trailing_zeros zero (bit_xor a b) in
    (λ j. bool_cmp (has (set_in (suc n) (same j)) x) (has (set_in (suc n) b) x))
    ∙ tied_itself bool_cmp_total (has (set_in (suc n) b) x)
    ∙ sym ((λ j. slice_cmp bool_cmp (set_in (suc n) (same j)) (set_in (suc n) b)) ∙ tied_itself set_cmp_total (set_in (suc n) b))
cmp_bits (suc k) (suc n) a b p q =
    let small : differ (a % 2) (b % 2) < 2 = differ_small (a % 2) (b % 2) (omega arith) (omega arith) in
    let low : bit_xor a b % 2 ≡ differ (a % 2) (b % 2) = omega (arith, xor_step a b) in
    let half : bit_xor a b / 2 ≡ bit_xor (a / 2) (b / 2) = omega (arith, xor_step a b) in
    ap₂ (λ (d t : ℕ). bool_cmp (has (set_in (suc n) a) (under d t)) (has (set_in (suc n) b) (under d t))) low (ap (count_trailing_zeros k) half)
    ∙ cmp_step (a % 2) (b % 2) (count_trailing_zeros k (bit_xor (a / 2) (b / 2))) (set_in n (a / 2)) (set_in n (b / 2)) (omega arith) (omega arith)
    (cmp_bits k n (a / 2) (b / 2) (omega (arith, pow-suc 2 k)) (omega (arith, pow-suc 2 k)))

missing_cons : (b : Bool) (s : Set) (k : ℕ) → k + missing (b ∷ s) ≡ k + (1 - cond b 1 0) + missing s
unfolding missing
missing_cons true s k = omega arith
missing_cons false s k = omega arith

pub missing_bits : (n m : ℕ) → m < 2 ^ n → ones m + missing (set_in n m) ≡ n
unfolding set_in missing
missing_bits zero m h = omega (arith, ones-le 0 m h)
missing_bits (suc n) m h =
    missing_cons (eqb (m % 2) 1) (set_in n (m / 2)) (ones m)
    ∙ omega (arith, ones_step m, low_bit m, missing_bits n (m / 2) (omega (arith, pow-suc 2 n)))

-- the mask of the lowest k bits, as code makes it at a width of w
pub low_mask : (m k w : ℕ) → k < w → bit_and m ((1 * 2 ^ k) % 2 ^ w - 1) ≡ m % 2 ^ k
low_mask m k w h = ap (λ (x : ℕ). bit_and m (x - 1)) (one_shl k w h) ∙ and_mask m k

pub everything_mask : (m n : ℕ) → bit_and m (number_of (everything n)) ≡ m % 2 ^ n
everything_mask m n =
    let ones_below : number_of (everything n) ≡ 2 ^ n - 1 = omega (arith, number_of_everything n) in
    ap (bit_and m) ones_below ∙ and_mask m n

pub set_in_everything : (n : ℕ) → set_in n (number_of (everything n)) ≡ everything n
set_in_everything n = ap (λ (k : ℕ). set_in k (number_of (everything n))) (sym (length_everything n)) ∙ set_in_number_of (everything n)

-- an attribute below both widths is in the set at one exactly if it is at the other
has_digit : (n m c : ℕ) → c < n → has (set_in n m) c ≡ eqb (m / 2 ^ c % 2) 1
unfolding set_in
has_digit zero m c h = absurd (omega arith)
has_digit (suc n) m zero h = ap (λ (x : ℕ). eqb (x % 2) 1) (sym (div-one m))
has_digit (suc n) m (suc c) h =
    let step : m / 2 ^ suc c ≡ m / 2 / 2 ^ c = ap (λ (k : ℕ). m / 2 ^ k) (sym (one-add c)) ∙ sym (shr-shr m 1 c) in
    has_digit n (m / 2) c (omega arith) ∙ ap (λ (x : ℕ). eqb (x % 2) 1) (sym step)

pub has_narrow : (i n m c : ℕ) → c < i → i ≤ n → has (set_in n m) c ≡ has (set_in i m) c
has_narrow i n m c h l = has_digit n m c (omega arith) ∙ sym (has_digit i m c h)
