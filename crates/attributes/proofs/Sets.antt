-- Laws of attribute sets: subsets by their attributes, what two sets share, what they have together, all attributes. Assumes nothing.
use Rattle.std.proofs.Common.{◌≡◌, ℕ, zero, suc, ◌<◌, ◌≤◌, Bool, true, false, ◌&&◌, ◌||◌, [], ◌∷◌, length, sym, refl, ap, ◌∙◌, inl, inr, arith}
use Rattle.std.proofs.lemmas.List.{ext_get_or}
use Rattle.std.proofs.lemmas.Bool.{true≢false, and_parts, and_from, and_right, or_cases, or_left, or_right}
use Rattle.attributes.specs.Sets.{Set, subset, meet, join, complement, has, missing, everything}

-- a subset has no attribute that the set lacks
pub subset_has : (s t : Set) → subset s t ≡ true → (c : ℕ) → has s c ≡ true → has t c ≡ true
unfolding subset
subset_has [] t e c h = cc
subset_has (true ∷ s) [] e c h = cc
subset_has (false ∷ s) [] e zero h = cc
subset_has (false ∷ s) [] e (suc c) h = subset_has s [] e c h
subset_has (true ∷ s) (true ∷ t) e zero h = refl
subset_has (true ∷ s) (true ∷ t) e (suc c) h = subset_has s t e c h
subset_has (true ∷ s) (false ∷ t) e c h = cc
subset_has (false ∷ s) (y ∷ t) e zero h = cc
subset_has (false ∷ s) (y ∷ t) e (suc c) h = subset_has s t e c h

pub has_subset : (s t : Set) → ((c : ℕ) → has s c ≡ true → has t c ≡ true) → subset s t ≡ true
unfolding subset
has_subset [] t h = refl
has_subset (true ∷ s) [] h = h 0 refl
has_subset (false ∷ s) [] h = has_subset s [] (λ c. h (suc c))
has_subset (true ∷ s) (true ∷ t) h = has_subset s t (λ c. h (suc c))
has_subset (true ∷ s) (false ∷ t) h = h 0 refl
has_subset (false ∷ s) (y ∷ t) h = has_subset s t (λ c. h (suc c))

pub subset_refl : (s : Set) → subset s s ≡ true
subset_refl s = has_subset s s (λ c h. h)

pub subset_trans : (s t u : Set) → subset s t ≡ true → subset t u ≡ true → subset s u ≡ true
subset_trans s t u p q = has_subset s u (λ c h. subset_has t u q c (subset_has s t p c h))

same_attribute : (s t : Set) (c : ℕ) → (has s c ≡ true → has t c ≡ true) → (has t c ≡ true → has s c ≡ true) → has s c ≡ has t c
same_attribute s t c p q = go (has s c) (has t c) p q
  where
    go : (x y : Bool) → (x ≡ true → y ≡ true) → (y ≡ true → x ≡ true) → x ≡ y
    go true y f g = sym (f refl)
    go false true f g = g refl
    go false false f g = refl

pub subset_antisym : (s t : Set) → length s ≡ length t → subset s t ≡ true → subset t s ≡ true → s ≡ t
subset_antisym s t e p q = ext_get_or false s t e (λ c h. same_attribute s t c (subset_has s t p c) (subset_has t s q c))

meet_has : (s t : Set) (c : ℕ) → has (meet s t) c ≡ (has s c && has t c)
unfolding meet
meet_has [] t c = refl
meet_has (x ∷ s) [] c = sym (and_right (has (x ∷ s) c) false refl)
meet_has (x ∷ s) (y ∷ t) zero = refl
meet_has (x ∷ s) (y ∷ t) (suc c) = meet_has s t c

pub meet_left : (s t : Set) → subset (meet s t) s ≡ true
meet_left s t = has_subset (meet s t) s (λ c h. (and_parts (has s c) (has t c) (sym (meet_has s t c) ∙ h)).0)

pub meet_right : (s t : Set) → subset (meet s t) t ≡ true
meet_right s t = has_subset (meet s t) t (λ c h. (and_parts (has s c) (has t c) (sym (meet_has s t c) ∙ h)).1)

-- what is inside both is inside what they share
pub meet_greatest : (r s t : Set) → subset r s ≡ true → subset r t ≡ true → subset r (meet s t) ≡ true
meet_greatest r s t p q = has_subset r (meet s t) (λ c h. meet_has s t c ∙ and_from (has s c) (has t c) (subset_has r s p c h) (subset_has r t q c h))

pub length_meet : (n : ℕ) (s t : Set) → length s ≡ n → length t ≡ n → length (meet s t) ≡ n
unfolding meet
length_meet n [] t p q = p
length_meet n (x ∷ s) [] p q = q
length_meet zero (x ∷ s) (y ∷ t) p q = absurd (omega arith)
length_meet (suc n) (x ∷ s) (y ∷ t) p q = ap suc (length_meet n s t (omega arith) (omega arith))

join_has : (s t : Set) → length s ≡ length t → (c : ℕ) → has (join s t) c ≡ (has s c || has t c)
unfolding join
join_has [] [] e c = refl
join_has [] (y ∷ t) e c = absurd (omega arith)
join_has (x ∷ s) [] e c = absurd (omega arith)
join_has (x ∷ s) (y ∷ t) e zero = refl
join_has (x ∷ s) (y ∷ t) e (suc c) = join_has s t (omega arith) c

module _ (s t : Set) (same : length s ≡ length t) where
  pub join_left : subset s (join s t) ≡ true
  join_left = has_subset s (join s t) (λ c h. join_has s t same c ∙ or_left (has s c) (has t c) h)

  pub join_right : subset t (join s t) ≡ true
  join_right = has_subset t (join s t) (λ c h. join_has s t same c ∙ or_right (has s c) (has t c) h)

  -- what contains both contains what they have together
  pub join_least : (u : Set) → subset s u ≡ true → subset t u ≡ true → subset (join s t) u ≡ true
  join_least u p q =
      has_subset (join s t) u (λ c h. elim (or_cases (has s c) (has t c) (sym (join_has s t same c) ∙ h)) [ inl e ↦ subset_has s u p c e | inr e ↦ subset_has t u q c e ])

pub length_join : (n : ℕ) (s t : Set) → length s ≡ n → length t ≡ n → length (join s t) ≡ n
unfolding join
length_join n [] t p q = p
length_join n (x ∷ s) [] p q = q
length_join zero (x ∷ s) (y ∷ t) p q = absurd (omega arith)
length_join (suc n) (x ∷ s) (y ∷ t) p q = ap suc (length_join n s t (omega arith) (omega arith))

pub length_everything : (n : ℕ) → length (everything n) ≡ n
unfolding everything
length_everything zero = refl
length_everything (suc n) = ap suc (length_everything n)

-- every set of n attributes is inside all of them
pub inside_everything : (n : ℕ) (s : Set) → length s ≡ n → subset s (everything n) ≡ true
unfolding subset everything
inside_everything n [] e = refl
inside_everything zero (x ∷ s) e = absurd (omega arith)
inside_everything (suc n) (true ∷ s) e = inside_everything n s (omega arith)
inside_everything (suc n) (false ∷ s) e = inside_everything n s (omega arith)

-- a set lacks no more than its subsets do, and less unless it is the same
missing_le : (s t : Set) → length s ≡ length t → subset s t ≡ true → missing t ≤ missing s
unfolding subset missing
missing_le [] [] e h = omega arith
missing_le [] (y ∷ t) e h = absurd (omega arith)
missing_le (x ∷ s) [] e h = absurd (omega arith)
missing_le (true ∷ s) (true ∷ t) e h = missing_le s t (omega arith) h
missing_le (true ∷ s) (false ∷ t) e h = absurd (true≢false (sym h))
missing_le (false ∷ s) (true ∷ t) e h = omega (arith, missing_le s t (omega arith) h)
missing_le (false ∷ s) (false ∷ t) e h = omega (arith, missing_le s t (omega arith) h)

pub missing_less : (s t : Set) → length s ≡ length t → subset s t ≡ true → (s ≡ t → ⊥) → missing t < missing s
unfolding subset missing
missing_less [] [] e h other = absurd (other refl)
missing_less [] (y ∷ t) e h other = absurd (omega arith)
missing_less (x ∷ s) [] e h other = absurd (omega arith)
missing_less (true ∷ s) (true ∷ t) e h other = missing_less s t (omega arith) h (λ p. other (ap (λ (r : Set). true ∷ r) p))
missing_less (true ∷ s) (false ∷ t) e h other = absurd (true≢false (sym h))
missing_less (false ∷ s) (true ∷ t) e h other = omega (arith, missing_le s t (omega arith) h)
missing_less (false ∷ s) (false ∷ t) e h other = omega (arith, missing_less s t (omega arith) h (λ p. other (ap (λ (r : Set). false ∷ r) p)))

-- what a set lacks is inside what a subset lacks, and only then
pub subset_complement : (s t : Set) → length s ≡ length t → subset (complement s) (complement t) ≡ subset t s
unfolding subset complement
subset_complement [] [] e = refl
subset_complement [] (y ∷ t) e = absurd (omega arith)
subset_complement (x ∷ s) [] e = absurd (omega arith)
subset_complement (true ∷ s) (true ∷ t) e = subset_complement s t (omega arith)
subset_complement (true ∷ s) (false ∷ t) e = subset_complement s t (omega arith)
subset_complement (false ∷ s) (true ∷ t) e = refl
subset_complement (false ∷ s) (false ∷ t) e = subset_complement s t (omega arith)
