-- Truthful dialogues: a true answer is taken, what is known fits the yard, and what was said fits every yard that what is known fits. Assumes nothing.
use Rattle.std.proofs.Common.{◌≡◌, ℕ, suc, ◌+◌, true, not, ◌&&◌, eqb, List, [], ◌∷◌, length, Some, None, Option, refl, subst, inl, inr, arith}
use Rattle.std.specs.List.{ContainsAt}
use Rattle.std.proofs.ByRecursion.{all-has, has_append_left, has_push, has_push_cases}
use Rattle.std.proofs.lemmas.List.{length_push}
use Rattle.std.proofs.lemmas.Bool.{and_from, cond_both, cond-true, eq-eqb, not_from_false}
use Rattle.attributes.specs.Sets.{Set}
use Rattle.contexts.specs.Contexts.{Context, OfWidth, Implication, respects}
use Rattle.implications.specs.Implications.{respects_all, all_hold}
use Rattle.implications.proofs.Respects.{all_hold_has, all_hold_push, object_respects}
use Rattle.dialogues.specs.Dialogue.{Knowledge, question, Answer, always, object, taken, with_answer, after, after_all, TrueAnswer, Truthful}

-- l has all that is known in k
pub record Grows (k l : Knowledge) : Type 0 where
  pub confirmed : (i : Implication) → ContainsAt k.confirmed i → ContainsAt l.confirmed i
  pub examples : (s : Set) → ContainsAt k.examples s → ContainsAt l.examples s

same_known : (k : Knowledge) → Grows k k
same_known k = record { confirmed = λ i m. m; examples = λ s m. m }

grows_with : (k : Knowledge) (o : Option Implication) (a : Answer) → Grows k (with_answer k o a)
grows_with k None a = same_known k
grows_with k (Some q) always = record { confirmed = λ i m. has_append_left k.confirmed (q ∷ []) i m; examples = λ s m. m }
grows_with k (Some q) (object s) = record { confirmed = λ i m. m; examples = λ o m. has_append_left k.examples (s ∷ []) o m }

-- nothing is forgotten, whatever is answered
pub grows_after : (n : ℕ) (k : Knowledge) (a : Answer) → Grows k (after n k a)
unfolding after
grows_after n k a = cond_both (taken n k (question n k) a) (with_answer k (question n k) a) k (Grows k) (λ _. grows_with k (question n k) a) (λ _. same_known k)

grows_all : (n : ℕ) (k : Knowledge) (answers : List Answer) → Grows k (after_all n k answers)
unfolding after_all
grows_all n k [] = same_known k
grows_all n k (a ∷ answers) =
    let once = grows_after n k a in
    let later = grows_all n (after n k a) answers in
    record { confirmed = λ i m. later.confirmed i (once.confirmed i m); examples = λ s m. later.examples s (once.examples s m) }

-- what is confirmed holds for the yard, and the examples stand there
pub record Fits (yard : Context) (k : Knowledge) : Type 0 where
  pub hold : all_hold yard k.confirmed ≡ true
  pub stand : (s : Set) → ContainsAt k.examples s → ContainsAt yard s

module _ (n : ℕ) (yard : Context) (wide : OfWidth n yard) where
  pub takes : (k : Knowledge) → Fits yard k → (o : Option Implication) (a : Answer) → TrueAnswer yard o a → taken n k o a ≡ true
  takes k fits None a t = absurd t
  takes k fits (Some q) always t = refl
  takes k fits (Some q) (object s) t =
      and_from (eqb (length s) n) (not (respects s q) && respects_all s k.confirmed) (eq-eqb (length s) n (all-has (λ (o : Set). length o ≡ n) yard s wide t.0))
      (and_from (not (respects s q)) (respects_all s k.confirmed) (not_from_false (respects s q) t.1) (object_respects yard k.confirmed fits.hold s t.0))

  pub after_true : (k : Knowledge) → Fits yard k → (a : Answer) → TrueAnswer yard (question n k) a → after n k a ≡ with_answer k (question n k) a
  unfolding after
  after_true k fits a t = cond-true (taken n k (question n k) a) (with_answer k (question n k) a) k (takes k fits (question n k) a t)

  fits_with : (k : Knowledge) → Fits yard k → (o : Option Implication) (a : Answer) → TrueAnswer yard o a → Fits yard (with_answer k o a)
  fits_with k fits None a t = absurd t
  fits_with k fits (Some q) always t = record { hold = all_hold_push yard k.confirmed q fits.hold t; stand = fits.stand }
  fits_with k fits (Some q) (object s) t =
      record { hold = fits.hold; stand = λ o m. elim (has_push_cases k.examples s o m) [ inl h ↦ fits.stand o h | inr e ↦ subst (ContainsAt yard) e t.0 ] }

  pub fits_after : (k : Knowledge) → Fits yard k → (a : Answer) → TrueAnswer yard (question n k) a → Fits yard (after n k a)
  fits_after k fits a t = rw (after_true k fits a t) (fits_with k fits (question n k) a t)

  pub fits_all : (k : Knowledge) → Fits yard k → (answers : List Answer) → Truthful n yard k answers → Fits yard (after_all n k answers)
  unfolding after_all Truthful
  fits_all k fits [] t = fits
  fits_all k fits (a ∷ answers) t = fits_all (after n k a) (fits_after k fits a t.0) answers t.1

  counted_with : (k : Knowledge) (o : Option Implication) (a : Answer) → TrueAnswer yard o a → length (with_answer k o a).confirmed + length (with_answer k o a).examples ≡ suc (length k.confirmed + length k.examples)
  counted_with k None a t = absurd t
  counted_with k (Some q) always t = omega (arith, length_push k.confirmed q)
  counted_with k (Some q) (object s) t = omega (arith, length_push k.examples s)

  -- each true answer adds an implication or an example
  pub counted : (k : Knowledge) → Fits yard k → (answers : List Answer) → Truthful n yard k answers → length (after_all n k answers).confirmed + length (after_all n k answers).examples ≡ length k.confirmed + length k.examples + length answers
  unfolding after_all Truthful
  counted k fits [] t = omega arith
  counted k fits (a ∷ answers) t =
      let one : length (after n k a).confirmed + length (after n k a).examples ≡ suc (length k.confirmed + length k.examples) = rw (after_true k fits a t.0) (counted_with k (question n k) a t.0) in
      omega (arith, one, counted (after n k a) (fits_after k fits a t.0) answers t.1)

  true_there : (t : Context) (k l : Knowledge) → Fits t l → (o : Option Implication) (a : Answer) → Grows (with_answer k o a) l → TrueAnswer yard o a → TrueAnswer t o a
  true_there t k l fits None a g h = absurd h
  true_there t k l fits (Some q) always g h = all_hold_has t l.confirmed fits.hold q (g.confirmed q (has_push k.confirmed q))
  true_there t k l fits (Some q) (object s) g h = (fits.stand s (g.examples s (has_push k.examples s)), h.1)

  -- answers are truthful for every context that fits what is known after them
  pub retold : (k : Knowledge) → Fits yard k → (answers : List Answer) → Truthful n yard k answers → (t : Context) → Fits t (after_all n k answers) → Truthful n t k answers
  unfolding after_all Truthful
  retold k fits [] h t f = tt
  retold k fits (a ∷ answers) h t f = (
    true_there t k (after_all n (after n k a) answers) f (question n k) a (subst (λ (l : Knowledge). Grows l (after_all n (after n k a) answers)) (after_true k fits a h.0) (grows_all n (after n k a) answers)) h.0,
    retold (after n k a) (fits_after k fits a h.0) answers h.1 t f,
  )
