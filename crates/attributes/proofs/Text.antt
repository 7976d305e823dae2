-- The text of an attribute set, written attribute by attribute. Assumes nothing.
use Rattle.std.proofs.Common.{◌≡◌, ℕ, zero, suc, ◌+◌, ◌/◌, ◌%◌, ◌^◌, ◌<◌, ◌≤◌, Bool, true, false, cond, eqb, List, [], ◌∷◌, ◌++◌, map, length, get_or, drop, codes, decimal, sym, refl, ap, zero-add, ◌∙◌, append_assoc, append-nil, lt_of_lt_of_le, pow-suc, add-one, arith, pow_mono, rules}
use Rattle.std.proofs.lemmas.Bool.{ne_eqb}
use Rattle.std.proofs.Math.Seq.{drop-cons}
use Rattle.std.proofs.lemmas.List.{drop_all}
use Rattle.attributes.specs.Sets.{Set, has}
use Rattle.std.proofs.lemmas.List.FromFn.{get_or-map-range_with_len}
use Rattle.std.specs.List.{range_with_len}
use Rattle.std.proofs.Output.{has_written_append, has_written_of_eq}
use Rattle.std.specs.Fmt.{IsPlainFormatter, HasWritten}
use Rattle.std.specs.declared.fmt.Formatter.{Formatter}
use Rattle.attributes.specs.Numbers.{set_in, number_of}
use Rattle.attributes.specs.Text.{listed, written}
use Rattle.attributes.proofs.Numbers.{number_of_set_in}

-- what is left to write at attribute i, by whether it is in the set
left : (first b : Bool) (i : ℕ) (s : Set) → i < length s → has s i ≡ b → listed first i (drop i s) ≡ listed first i (b ∷ drop (suc i) s)
left first b i s h e = ap (listed first i) (drop-cons s i false h ∙ ap (λ (x : Bool). x ∷ drop (suc i) s) e)

pub written_none : written (set_in 16 0) ≡ codes "-"
unfolding written set_in number_of
written_none = refl

pub written_some : (m : ℕ) → m < 2 ^ 16 → (m ≡ 0 → ⊥) → written (set_in 16 m) ≡ listed true 0 (set_in 16 m)
unfolding written
written_some m h ne = ap (λ (b : Bool). cond b (codes "-") (listed true 0 (set_in 16 m))) (ne_eqb (number_of (set_in 16 m)) 0 (λ e. ne (sym (number_of_set_in 16 m h) ∙ e)))

-- where nothing stands between, nothing has to be written for it
pub nothing_between : {W : Type 0} (took : W → List ℕ → W → Type 0) (f : Formatter W) (between : List ℕ) → length between ≡ 0 → IsPlainFormatter f → HasWritten took f between f
nothing_between took f [] e plain = search rules
nothing_between took f (x ∷ xs) e plain = absurd (omega arith)

-- what was written of a set's attributes before attribute i, and what is left to write; between stands before the next one
abbrev pub SoFar : {W : Type 0} → (W → List ℕ → W → Type 0) → Set → Formatter W → Formatter W → List ℕ → ℕ → Type 0
SoFar took s f₀ f between i =
    (first : Bool) × (between ≡ cond first [] (codes " ")) × (done : List ℕ) × (IsPlainFormatter f₀ → HasWritten took f₀ done f) ×
    (done ++ listed first i (drop i s) ≡ listed true 0 s)

module _ {W : Type 0} (took : W → List ℕ → W → Type 0) (s : Set) (f₀ f : Formatter W) (between : List ℕ) (i : ℕ) (so_far : SoFar took s f₀ f between i) where
  pub so_far_in : (m g : Formatter W) → i < length s → has s i ≡ true → (IsPlainFormatter f → HasWritten took f between m) →
      (IsPlainFormatter m → HasWritten took m (decimal i) g) → SoFar took s f₀ g (codes " ") (i + 1)
  unfolding listed
  so_far_in m g h e put_between put =
      let (first, is, done, before, whole) = so_far in
      let rest : List ℕ = listed false (suc i) (drop (suc i) s) in (
        false,
        refl,
        (done ++ between) ++ decimal i,
        λ plain.
            let old = before plain in
            let parted = put_between old.plain in
            has_written_append took f₀ (done ++ between) m (decimal i) g (has_written_append took f₀ done f between m old parted) (put parted.plain),
        rw add-one (append_assoc (done ++ between) (decimal i) rest ∙ append_assoc done between (decimal i ++ rest) ∙
            ap (λ (l : List ℕ). done ++ l) (ap (λ (l : List ℕ). l ++ (decimal i ++ rest)) is ∙ sym (left first true i s h e)) ∙ whole),
      )

  pub so_far_out : i < length s → has s i ≡ false → SoFar took s f₀ f between (i + 1)
  unfolding listed
  so_far_out h e =
      let (first, is, done, before, whole) = so_far in
      (first, is, done, before, rw add-one (ap (λ (l : List ℕ). done ++ l) (sym (left first false i s h e)) ∙ whole))

  pub so_far_all : length s ≤ i → IsPlainFormatter f₀ → HasWritten took f₀ (listed true 0 s) f
  unfolding listed
  so_far_all h plain =
      let (first, is, done, before, whole) = so_far in
      has_written_of_eq took f₀ done (listed true 0 s) f
      (sym (append-nil done) ∙ ap (λ (l : Set). done ++ listed first i l) (sym (drop_all i s h)) ∙ whole)
      (before plain)

-- attributes past those that a number has add nothing to the text
listed_none : (w c : ℕ) (first : Bool) → listed first c (set_in w 0) ≡ []
unfolding listed set_in
listed_none zero c first = refl
listed_none (suc w) c first = listed_none w (suc c) first

listed_wide : (n w m c : ℕ) (first : Bool) → n ≤ w → m < 2 ^ n → listed first c (set_in w m) ≡ listed first c (set_in n m)
unfolding listed set_in
listed_wide zero w m c first h small =
    let none : m ≡ 0 = omega arith in
    ap (λ (k : ℕ). listed first c (set_in w k)) none ∙ listed_none w c first
listed_wide (suc n) zero m c first h small = absurd (omega arith)
listed_wide (suc n) (suc w) m c first h small =
    go (eqb (m % 2) 1) (λ second. listed_wide n w (m / 2) (suc c) second (omega arith) (omega (arith, pow-suc 2 n)))
  where
    go : (b : Bool) → ((second : Bool) → listed second (suc c) (set_in w (m / 2)) ≡ listed second (suc c) (set_in n (m / 2))) → listed first c (b ∷ set_in w (m / 2)) ≡ listed first c (b ∷ set_in n (m / 2))
    go true later = ap (λ (text : List ℕ). cond first [] (codes " ") ++ (decimal c ++ text)) (later false)
    go false later = later first

pub written_wide : (n w m : ℕ) → n ≤ w → m < 2 ^ n → written (set_in w m) ≡ written (set_in n m)
unfolding written
written_wide n w m h small =
    let same : number_of (set_in w m) ≡ number_of (set_in n m) = number_of_set_in w m (lt_of_lt_of_le small (pow_mono h)) ∙ sym (number_of_set_in n m small) in
    λ j. cond (eqb (same j) 0) (codes "-") (listed_wide n w m 0 true h small j)

-- a table of the first sixteen numbers
pub decimal_at : (i : ℕ) → i < 16 → get_or (map decimal (range_with_len 0 16)) i [] ≡ decimal i
decimal_at i h = get_or-map-range_with_len decimal 0 16 i i [] h (zero-add i)
