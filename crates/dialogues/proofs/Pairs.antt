-- Pairs of members of a list, and counting by them: members that share no partner are at most as many as the partners. Assumes nothing.
use Rattle.std.proofs.Common.{◌≡◌, ℕ, suc, ◌^◌, ◌≤◌, ◌≢◌, ◌⊎◌, List, [], ◌∷◌, ◌++◌, length, sym, refl, ap, ◌∙◌, subst, inl, inr, arith}
use Rattle.std.specs.List.{ContainsAt, AllByRecursion}
use Rattle.std.proofs.ByRecursion.{all-has, All-push, All-weaker, has_append_right, has_get_or}
use Rattle.attributes.specs.Sets.{Set}
use Rattle.attributes.specs.Lectic.{sets}
use Rattle.attributes.proofs.Lectic.{lectic_agrees}
use Rattle.attributes.proofs.Members.{all_from_has, has_here, has_there, has_cases}
use Rattle.dialogues.specs.Promise.{Pairwise}

pub pairwise_weaker : {X : Type 0} (R S : X → X → Type 0) (P : X → Type 0) → ((x y : X) → P x → P y → R x y → S x y) → (xs : List X) → AllByRecursion P xs → Pairwise R xs → Pairwise S xs
pairwise_weaker R S P f [] a p = tt
pairwise_weaker R S P f (x ∷ xs) a p = (
  all_from_has (S x) xs (λ y m. f x y a.0 (all-has P xs y a.1 m) (all-has (R x) xs y p.0 m)),
  pairwise_weaker R S P f xs a.1 p.1,
)

pub pairwise_push : {X : Type 0} (R : X → X → Type 0) (xs : List X) (y : X) → Pairwise R xs → AllByRecursion (λ x. R x y) xs → Pairwise R (xs ++ y ∷ [])
pairwise_push R [] y p a = (tt, tt)
pairwise_push R (x ∷ xs) y p a = (All-push (R x) xs y p.0 a.0, pairwise_push R xs y p.1 a.1)

module _ {X : Type 0} (R : X → X → Type 0) (symmetric : (x y : X) → R x y → R y x) where
  -- two members are one, or related
  pub pairwise_has : (xs : List X) → Pairwise R xs → (x y : X) → ContainsAt xs x → ContainsAt xs y → (x ≡ y) ⊎ R x y
  pairwise_has [] p x y h k = absurd (omega (arith, h.1))
  pairwise_has (z ∷ xs) p x y h k =
      let later = pairwise_has xs p.1 x y in
      elim (has_cases z xs x h) [
        | inl e ↦ elim (has_cases z xs y k) [
          | inl f ↦ inl (sym e ∙ f)
          | inr f ↦ inr (rw e at (all-has (R z) xs y p.0 f))
        ]
        | inr e ↦ elim (has_cases z xs y k) [
          | inl f ↦ inr (symmetric y x (rw f at (all-has (R z) xs x p.0 e)))
          | inr f ↦ later e f
        ]
      ]

  -- a member is related to all before and behind it
  pub pairwise_around : (xs : List X) (x : X) (ys : List X) → Pairwise R (xs ++ x ∷ ys) → AllByRecursion (R x) (xs ++ ys)
  pairwise_around [] x ys p = p.0
  pairwise_around (z ∷ xs) x ys p =
      (symmetric z x (all-has (R z) (xs ++ x ∷ ys) x p.0 (has_append_right xs (x ∷ ys) x (has_here x ys))), pairwise_around xs x ys p.1)

-- a list without one of its members
abbrev Without : {X : Type 0} → List X → X → Type 0
Without {X} xs x = (ys : List X) × (length xs ≡ suc (length ys)) × ((y : X) → ContainsAt xs y → (x ≡ y) ⊎ ContainsAt ys y)

without : {X : Type 0} (xs : List X) (x : X) → ContainsAt xs x → Without xs x
without [] x h = absurd (omega (arith, h.1))
without (z ∷ xs) x h =
    elim (has_cases z xs x h) [
      | inl e ↦ (xs, refl, λ y k. elim (has_cases z xs y k) [ inl f ↦ inl (sym e ∙ f) | inr m ↦ inr m ])
      | inr h ↦
          let w = without xs x h in (
            z ∷ w.0,
            ap suc w.1,
            λ y k. elim (has_cases z xs y k) [
              | inl e ↦ inr (subst (ContainsAt (z ∷ w.0)) e (has_here z w.0))
              | inr m ↦ elim (w.2 y m) [ inl e ↦ inl e | inr m ↦ inr (has_there z w.0 y m) ]
            ],
          )
    ]

-- if each member of xs has a partner in ys, and no two members share one, then xs is no longer than ys
pub at_most : {X Y : Type 0} (W : X → Y → Type 0) (xs : List X) (ys : List Y) → AllByRecursion (λ x. (y : Y) × ContainsAt ys y × W x y) xs → Pairwise (λ x z. (y : Y) → W x y → W z y → ⊥) xs → length xs ≤ length ys
at_most W [] ys h p = omega arith
at_most {X} {Y} W (x ∷ xs) ys h p =
    let later = at_most W xs rest.0 (all_from_has (λ z. (v : Y) × ContainsAt rest.0 v × W z v) xs partner) p.1 in
    omega (arith, later, rest.1)
  where
    -- the partners of the others
    rest : Without ys h.0.0
    rest = without ys h.0.0 h.0.1

    partner : (z : X) → ContainsAt xs z → (v : Y) × ContainsAt rest.0 v × W z v
    partner z k =
        let g = all-has (λ z. (v : Y) × ContainsAt ys v × W z v) xs z h.1 k in
        elim (rest.2 g.0 g.1) [
          | inl e ↦ absurd (all-has (λ z. (v : Y) → W x v → W z v → ⊥) xs z p.0 k h.0.0 h.0.2 (rw (← e) at g.2))
          | inr r ↦ (g.0, r, g.2)
        ]

-- pairwise different sets of n attributes are at most 2 ^ n
pub at_most_sets : {X : Type 0} (n : ℕ) (f : X → Set) (xs : List X) → AllByRecursion (λ x. length (f x) ≡ n) xs → Pairwise (λ x y. f x ≢ f y) xs → length xs ≤ 2 ^ n
at_most_sets {X} n f xs w p =
    let each = All-weaker (λ x. length (f x) ≡ n) (λ x. (s : Set) × ContainsAt (sets n) s × (f x ≡ s)) listed xs w in
    let apart = pairwise_weaker (λ x y. f x ≢ f y) (λ x y. (s : Set) → f x ≡ s → f y ≡ s → ⊥) (λ x. length (f x) ≡ n) (λ x y _ _ ne s e g. ne (e ∙ sym g)) xs w p in
    omega (arith, at_most (λ x s. f x ≡ s) xs (sets n) each apart, (lectic_agrees n).count)
  where
    listed : (x : X) → length (f x) ≡ n → (s : Set) × ContainsAt (sets n) s × (f x ≡ s)
    listed x e =
        let at = (lectic_agrees n).listed (f x) e in
        (f x, rw at.2 at (has_get_or (sets n) at.0 [] (omega (arith, at.1, (lectic_agrees n).count))), refl)
