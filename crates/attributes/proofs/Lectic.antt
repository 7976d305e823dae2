-- The enumeration of all sets and the lectic test agree. Assumes nothing.
use Rattle.std.proofs.Common.{◌≡◌, ℕ, zero, suc, ◌+◌, ◌-◌, ◌/◌, ◌%◌, ◌^◌, ◌<◌, ◌≤◌, Bool, true, false, cond, eqb, ltb, ◌⊎◌, [], ◌∷◌, map, length, get_or, sym, refl, ap, ap₂, ◌∙◌, inl, inr, le_antisymm, pow-suc, arith, Less, Greater, Equal}
use lib.Bits.{bit_xor, differ, xor_step}
use lib.Count.{count_trailing_zeros, under}
use Rattle.std.proofs.lemmas.List.{length-append, length-map, get_or_append_left, get_or-append_right, get_or-map}
use Rattle.std.proofs.lemmas.Bool.{cases_lt, lt-ltb, le-ltb, ltb-false, ne_eqb}
use Rattle.std.proofs.lemmas.Bool.Decides.{nat_tests}
use Rattle.attributes.specs.Sets.{Set, has, subset}
use Rattle.std.specs.Ordering.{bool_cmp, is_lt}
use Rattle.std.specs.Cmp.Lexicographic.{slice_cmp}
use Rattle.attributes.specs.Numbers.{set_in}
use Rattle.attributes.specs.Lectic.{precedes, sets}
use Rattle.attributes.specs.LecticOrder.{lectic_cmp, lectic_cmp_at}
use Rattle.attributes.specs.Laws.{LecticAgrees, OrderLaws}
use Rattle.attributes.proofs.Numbers.{cmp_bits, differ_small, length_set_in}

twice : (n : ℕ) → 2 ^ suc n ≡ 2 ^ n + 2 ^ n
twice n = omega (arith, pow-suc 2 n)

pub sets_count : (n : ℕ) → length (sets n) ≡ 2 ^ n
unfolding sets
sets_count zero = refl
sets_count (suc n) =
    length-append (map (λ (s : Set). false ∷ s) (sets n)) (map (λ (s : Set). true ∷ s) (sets n))
    ∙ omega (arith, twice n, sets_count n, length-map (sets n) (λ (s : Set). false ∷ s), length-map (sets n) (λ (s : Set). true ∷ s))

-- the first half of the enumeration lacks attribute 0, and the second has it
low : (n i : ℕ) → i < 2 ^ n → get_or (sets (suc n)) i [] ≡ false ∷ get_or (sets n) i []
unfolding sets
low n i h =
    get_or_append_left (map (λ (s : Set). false ∷ s) (sets n)) (map (λ (s : Set). true ∷ s) (sets n)) [] i
    (omega (arith, sets_count n, length-map (sets n) (λ (s : Set). false ∷ s)))
    ∙ get_or-map (λ (s : Set). false ∷ s) (sets n) i [] [] (omega (arith, sets_count n))

high : (n i : ℕ) → 2 ^ n ≤ i → i < 2 ^ suc n → get_or (sets (suc n)) i [] ≡ true ∷ get_or (sets n) (i - 2 ^ n) []
unfolding sets
high n i low h =
    get_or-append_right (map (λ (s : Set). false ∷ s) (sets n)) (map (λ (s : Set). true ∷ s) (sets n)) (2 ^ n) i []
    (length-map (sets n) (λ (s : Set). false ∷ s) ∙ sets_count n) low
    ∙ get_or-map (λ (s : Set). true ∷ s) (sets n) (i - 2 ^ n) [] [] (omega (arith, sets_count n, twice n))

wide : (n i : ℕ) → i < 2 ^ n → length (get_or (sets n) i []) ≡ n
unfolding sets
wide zero zero h = refl
wide zero (suc i) h = absurd (omega arith)
wide (suc n) i h =
    elim (cases_lt i (2 ^ n)) [
      | inl l ↦ ap length (low n i l) ∙ ap suc (wide n i l)
      | inr l ↦ ap length (high n i l h) ∙ ap suc (wide n (i - 2 ^ n) (omega (arith, twice n)))
    ]

listed : (n : ℕ) (s : Set) → length s ≡ n → (i : ℕ) × (i < 2 ^ n) × (get_or (sets n) i [] ≡ s)
unfolding sets
listed zero [] e = (0, omega arith, refl)
listed zero (x ∷ s) e = absurd (omega arith)
listed (suc n) [] e = absurd (omega arith)
listed (suc n) (false ∷ s) e =
    let p = listed n s (omega arith) in
    (p.0, omega (arith, twice n, p.1), low n p.0 p.1 ∙ ap (λ (t : Set). false ∷ t) p.2)
listed (suc n) (true ∷ s) e =
    let p = listed n s (omega arith) in
    let i : ℕ = 2 ^ n + p.0 in
    let back : i - 2 ^ n ≡ p.0 = omega arith in
    (i, omega (arith, twice n, p.1), high n i (omega arith) (omega (arith, twice n, p.1)) ∙ ap (λ (k : ℕ). true ∷ get_or (sets n) k []) back ∙ ap (λ (t : Set). true ∷ t) p.2)

-- the order of two sets is that of their places
Ordered : ℕ → ℕ → ℕ → Type 0
Ordered n i j = precedes (get_or (sets n) i []) (get_or (sets n) j []) ≡ ltb i j

-- it is decided by the sets that stand at the two places
by_sets : (n i j : ℕ) (s t : Set) → get_or (sets n) i [] ≡ s → get_or (sets n) j [] ≡ t → precedes s t ≡ ltb i j → Ordered n i j
unfolding Ordered
by_sets n i j s t p q e = rw (p, q) e

same_shift : (m i j : ℕ) → m ≤ i → m ≤ j → ltb (i - m) (j - m) ≡ ltb i j
same_shift m i j p q = grind (arith, nat_tests)

ordered : (n i j : ℕ) → i < 2 ^ n → j < 2 ^ n → Ordered n i j
unfolding sets precedes Ordered
ordered zero zero zero p q = refl
ordered zero zero (suc j) p q = absurd (omega arith)
ordered zero (suc i) j p q = absurd (omega arith)
ordered (suc n) i j p q =
    elim (cases_lt i (2 ^ n)) [
      | inl a ↦ elim (cases_lt j (2 ^ n)) [
        | inl b ↦ by_sets (suc n) i j _ _ (low n i a) (low n j b) (ordered n i j a b)
        | inr b ↦ by_sets (suc n) i j _ _ (low n i a) (high n j b q) (sym (lt-ltb i j (omega arith)))
      ]
      | inr a ↦ elim (cases_lt j (2 ^ n)) [
        | inl b ↦ by_sets (suc n) i j _ _ (high n i a p) (low n j b) (sym (le-ltb i j (omega arith)))
        | inr b ↦
            by_sets (suc n) i j _ _ (high n i a p) (high n j b q)
            (ordered n (i - 2 ^ n) (j - 2 ^ n) (omega (arith, twice n)) (omega (arith, twice n)) ∙ same_shift (2 ^ n) i j a b)
      ]
    ]

pub precedes_irreflexive : (s : Set) → precedes s s ≡ false
unfolding precedes
precedes_irreflexive [] = refl
precedes_irreflexive (true ∷ s) = precedes_irreflexive s
precedes_irreflexive (false ∷ s) = precedes_irreflexive s

precedes_asymmetric : (s t : Set) → precedes s t ≡ true → precedes t s ≡ false
unfolding precedes
precedes_asymmetric [] t e = cc
precedes_asymmetric (x ∷ s) [] e = cc
precedes_asymmetric (true ∷ s) (true ∷ t) e = precedes_asymmetric s t e
precedes_asymmetric (true ∷ s) (false ∷ t) e = cc
precedes_asymmetric (false ∷ s) (true ∷ t) e = refl
precedes_asymmetric (false ∷ s) (false ∷ t) e = precedes_asymmetric s t e

precedes_transitive : (s t u : Set) → precedes s t ≡ true → precedes t u ≡ true → precedes s u ≡ true
unfolding precedes
precedes_transitive [] t u p q = p
precedes_transitive (x ∷ s) [] u p q = cc
precedes_transitive (x ∷ s) (y ∷ t) [] p q = cc
precedes_transitive (true ∷ s) (true ∷ t) (true ∷ u) p q = precedes_transitive s t u p q
precedes_transitive (true ∷ s) (true ∷ t) (false ∷ u) p q = q
precedes_transitive (true ∷ s) (false ∷ t) (z ∷ u) p q = cc
precedes_transitive (false ∷ s) (true ∷ t) (true ∷ u) p q = refl
precedes_transitive (false ∷ s) (true ∷ t) (false ∷ u) p q = cc
precedes_transitive (false ∷ s) (false ∷ t) (true ∷ u) p q = refl
precedes_transitive (false ∷ s) (false ∷ t) (false ∷ u) p q = precedes_transitive s t u p q

-- two sets of one length are equal, or one precedes the other
Compared : Set → Set → Type 0
Compared s t = (s ≡ t) ⊎ ((precedes s t ≡ true) ⊎ (precedes t s ≡ true))

precedes_total : (s t : Set) → length s ≡ length t → Compared s t
unfolding precedes Compared
precedes_total [] [] e = inl refl
precedes_total [] (y ∷ t) e = absurd (omega arith)
precedes_total (x ∷ s) [] e = absurd (omega arith)
precedes_total (true ∷ s) (true ∷ t) e = elim (precedes_total s t (omega arith)) [ inl p ↦ inl (ap (λ (u : Set). true ∷ u) p) | inr p ↦ inr p ]
precedes_total (true ∷ s) (false ∷ t) e = inr (inr refl)
precedes_total (false ∷ s) (true ∷ t) e = inr (inl refl)
precedes_total (false ∷ s) (false ∷ t) e = elim (precedes_total s t (omega arith)) [ inl p ↦ inl (ap (λ (u : Set). false ∷ u) p) | inr p ↦ inr p ]

-- a subset precedes, unless it is the set itself
pub subset_first : (s t : Set) → length s ≡ length t → subset s t ≡ true → (s ≡ t) ⊎ (precedes s t ≡ true)
unfolding subset precedes
subset_first [] [] e h = inl refl
subset_first [] (y ∷ t) e h = absurd (omega arith)
subset_first (x ∷ s) [] e h = absurd (omega arith)
subset_first (true ∷ s) (true ∷ t) e h = elim (subset_first s t (omega arith) h) [ inl p ↦ inl (ap (λ (u : Set). true ∷ u) p) | inr p ↦ inr p ]
subset_first (true ∷ s) (false ∷ t) e h = inr h
subset_first (false ∷ s) (true ∷ t) e h = inr refl
subset_first (false ∷ s) (false ∷ t) e h = elim (subset_first s t (omega arith) h) [ inl p ↦ inl (ap (λ (u : Set). false ∷ u) p) | inr p ↦ inr p ]

pub order_laws : (n : ℕ) → OrderLaws n
unfolding Compared
order_laws n =
    record {
      irreflexive = precedes_irreflexive;
      asymmetric = precedes_asymmetric;
      transitive = precedes_transitive;
      total = λ s t p q. precedes_total s t (p ∙ sym q);
      subset_first = λ s t p q h ne. elim (subset_first s t (p ∙ sym q) h) [ inl e ↦ absurd (ne e) | inr e ↦ e ];
    }

-- of two places at which one set stands neither is before the other
not_before : (n i j : ℕ) → i < 2 ^ n → j < 2 ^ n → get_or (sets n) i [] ≡ get_or (sets n) j [] → j ≤ i
unfolding Ordered
not_before n i j p q e =
    ltb-false i j (sym (ordered n i j p q) ∙ ap (λ (s : Set). precedes (get_or (sets n) i []) s) (sym e) ∙ precedes_irreflexive (get_or (sets n) i []))

pub lectic_agrees : (n : ℕ) → LecticAgrees n
unfolding Ordered
lectic_agrees n = record { count = sets_count n; wide = wide n; listed = listed n; once = λ i j p q e. le_antisymm (not_before n j i q p (sym e)) (not_before n i j p q e); ordered = ordered n }

cmp_precedes : (s t : Set) → length s ≡ length t → is_lt (slice_cmp bool_cmp s t) ≡ precedes s t
unfolding precedes
cmp_precedes [] [] e = refl
cmp_precedes [] (y ∷ t) e = absurd (omega arith)
cmp_precedes (x ∷ s) [] e = refl
cmp_precedes (true ∷ s) (true ∷ t) e = cmp_precedes s t (omega arith)
cmp_precedes (true ∷ s) (false ∷ t) e = refl
cmp_precedes (false ∷ s) (true ∷ t) e = refl
cmp_precedes (false ∷ s) (false ∷ t) e = cmp_precedes s t (omega arith)

-- what `<` answers of two sets in the code
pub less_precedes : (n a b : ℕ) → a < 2 ^ n → b < 2 ^ n → is_lt (lectic_cmp a b) ≡ precedes (set_in n a) (set_in n b)
less_precedes n a b p q = ap is_lt (lectic_cmp_at n a b p q) ∙ cmp_precedes (set_in n a) (set_in n b) (length_set_in n a ∙ sym (length_set_in n b))

order_step : (x y t : ℕ) (a b : Set) → x < 2 → y < 2 → has b t ≡ precedes a b → has (eqb y 1 ∷ b) (under (differ x y) t) ≡ precedes (eqb x 1 ∷ a) (eqb y 1 ∷ b)
unfolding precedes
order_step zero zero t a b p q e = e
order_step zero (suc zero) t a b p q e = refl
order_step zero (suc (suc y)) t a b p q e = absurd (omega arith)
order_step (suc zero) zero t a b p q e = refl
order_step (suc zero) (suc zero) t a b p q e = e
order_step (suc zero) (suc (suc y)) t a b p q e = absurd (omega arith)
order_step (suc (suc x)) y t a b p q e = absurd (omega arith)

-- a set precedes another if that has the lowest attribute in which they differ
pub precedes_bits : (k n a b : ℕ) → a < 2 ^ k → b < 2 ^ k → has (set_in n b) (count_trailing_zeros k (bit_xor a b)) ≡ precedes (set_in n a) (set_in n b)
unfolding set_in count_trailing_zeros precedes
precedes_bits k zero a b p q = refl
precedes_bits zero (suc n) a b p q =
    let same : a ≡ b = omega arith in
    let even : b % 2 ≡ 1 → ⊥ = λ e. omega arith in
    ne_eqb (b % 2) 1 even ∙ sym (ap (λ (x : ℕ). precedes (set_in (suc n) x) (set_in (suc n) b)) same ∙ precedes_irreflexive (set_in (suc n) b))
precedes_bits (suc k) (suc n) a b p q =
    let small : differ (a % 2) (b % 2) < 2 = differ_small (a % 2) (b % 2) (omega arith) (omega arith) in
    let low : bit_xor a b % 2 ≡ differ (a % 2) (b % 2) = omega (arith, xor_step a b) in
    let half : bit_xor a b / 2 ≡ bit_xor (a / 2) (b / 2) = omega (arith, xor_step a b) in
    ap₂ (λ (d t : ℕ). has (set_in (suc n) b) (under d t)) low (ap (count_trailing_zeros k) half)
    ∙ order_step (a % 2) (b % 2) (count_trailing_zeros k (bit_xor (a / 2) (b / 2))) (set_in n (a / 2)) (set_in n (b / 2)) (omega arith) (omega arith)
    (precedes_bits k n (a / 2) (b / 2) (omega (arith, pow-suc 2 k)) (omega (arith, pow-suc 2 k)))

-- how two sets compare, by that attribute: if the other has it, that alone decides
module _ (k a b : ℕ) (p : a < 2 ^ k) (q : b < 2 ^ k) where
  lowest : ℕ
  lowest = count_trailing_zeros k (bit_xor a b)

  decided : is_lt (bool_cmp (has (set_in k a) lowest) (has (set_in k b) lowest)) ≡ has (set_in k b) lowest
  unfolding lowest
  decided =
      ap is_lt (cmp_bits k k a b p q)
      ∙ cmp_precedes (set_in k a) (set_in k b) (length_set_in k a ∙ sym (length_set_in k b))
      ∙ sym (precedes_bits k k a b p q)

  pub compared : (x y : Bool) → has (set_in k a) (count_trailing_zeros k (bit_xor a b)) ≡ x → has (set_in k b) (count_trailing_zeros k (bit_xor a b)) ≡ y
      → cond y Less (cond x Greater Equal) ≡ lectic_cmp a b
  unfolding lowest
  compared x y f g = go x y f g ∙ cmp_bits k k a b p q ∙ sym (lectic_cmp_at k a b p q)
    where
      go : (x y : Bool) → has (set_in k a) (count_trailing_zeros k (bit_xor a b)) ≡ x → has (set_in k b) (count_trailing_zeros k (bit_xor a b)) ≡ y
          → cond y Less (cond x Greater Equal) ≡ bool_cmp (has (set_in k a) (count_trailing_zeros k (bit_xor a b))) (has (set_in k b) (count_trailing_zeros k (bit_xor a b)))
      go true true f g = let both : is_lt (bool_cmp true true) ≡ true = ap₂ (λ (x y : Bool). is_lt (bool_cmp x y)) (sym f) (sym g) ∙ decided ∙ g in cc
      go false true f g = ap₂ bool_cmp (sym f) (sym g)
      go true false f g = ap₂ bool_cmp (sym f) (sym g)
      go false false f g = ap₂ bool_cmp (sym f) (sym g)
