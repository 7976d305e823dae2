-- The attributes that objects have in common. Assumes nothing.
use Rattle.std.proofs.Common.{◌≡◌, ℕ, true, [], ◌∷◌, length, sym, ◌∙◌}
use Rattle.std.specs.List.{ContainsAt, AllByRecursion}
use Rattle.std.proofs.ByRecursion.{all-has, All-weaker}
use Rattle.std.proofs.lemmas.Bool.{cond_both}
use Rattle.std.proofs.lemmas.Bool.Decides.{same_from_decides}
use Rattle.attributes.specs.Sets.{Set, subset, meet}
use Rattle.attributes.proofs.Members.{all_from_has}
use Rattle.attributes.proofs.Sets.{subset_refl, subset_trans, subset_antisym, meet_left, meet_right, meet_greatest, length_meet, length_everything, inside_everything}
use Rattle.contexts.specs.Contexts.{Context, OfWidth, common, holds}
use Rattle.contexts.specs.Laws.{CommonLaws, HoldsByCommon}
use Rattle.contexts.proofs.Holding.{respects_apply, respects_from, holds_has, has_holds}

pub length_common : (n : ℕ) (t : Context) (s : Set) → OfWidth n t → length (common n t s) ≡ n
unfolding common
length_common n [] s w = length_everything n
length_common n (o ∷ os) s w =
    let later = length_common n os s w.1 in
    cond_both (subset s o) (meet o (common n os s)) (common n os s) (λ (r : Set). length r ≡ n) (λ _. length_meet n o (common n os s) w.0 later) (λ _. later)

-- one object more, and less is common
pub common_less : (n : ℕ) (o : Set) (os : Context) (s : Set) → subset (common n (o ∷ os) s) (common n os s) ≡ true
unfolding common
common_less n o os s =
    cond_both (subset s o) (meet o (common n os s)) (common n os s) (λ (r : Set). subset r (common n os s) ≡ true) (λ _. meet_right o (common n os s)) (λ _. subset_refl (common n os s))

common_inside_all : (n : ℕ) (t : Context) (s : Set) → AllByRecursion (λ (o : Set). subset s o ≡ true → subset (common n t s) o ≡ true) t
unfolding common
common_inside_all n [] s = tt
common_inside_all n (o ∷ os) s = (
  λ h. rw h (meet_left o (common n os s)),
  All-weaker (λ (p : Set). subset s p ≡ true → subset (common n os s) p ≡ true) (λ (p : Set). subset s p ≡ true → subset (common n (o ∷ os) s) p ≡ true)
      (λ p f h. subset_trans (common n (o ∷ os) s) (common n os s) p (common_less n o os s) (f h)) os (common_inside_all n os s),
)

common_greatest_all : (n : ℕ) (t : Context) (s r : Set) → length r ≡ n → AllByRecursion (λ (o : Set). subset s o ≡ true → subset r o ≡ true) t → subset r (common n t s) ≡ true
unfolding common
common_greatest_all n [] s r e h = inside_everything n r e
common_greatest_all n (o ∷ os) s r e h =
    let later = common_greatest_all n os s r e h.1 in
    cond_both (subset s o) (meet o (common n os s)) (common n os s) (λ (q : Set). subset r q ≡ true) (λ p. meet_greatest r o (common n os s) (h.0 p) later) (λ _. later)

module _ (n : ℕ) (t : Context) (s : Set) where
  -- what is common is inside each object asked with
  pub common_inside : (o : Set) → ContainsAt t o → subset s o ≡ true → subset (common n t s) o ≡ true
  common_inside o = all-has (λ (o : Set). subset s o ≡ true → subset (common n t s) o ≡ true) t o (common_inside_all n t s)

  -- and it is the greatest such set
  pub common_greatest : (r : Set) → length r ≡ n → ((o : Set) → ContainsAt t o → subset s o ≡ true → subset r o ≡ true) → subset r (common n t s) ≡ true
  common_greatest r e h = common_greatest_all n t s r e (all_from_has (λ (o : Set). subset s o ≡ true → subset r o ≡ true) t h)

  pub common_contains : length s ≡ n → subset s (common n t s) ≡ true
  common_contains e = common_greatest s e (λ o m h. h)

-- a context with all these objects has no more in common
pub common_fewer : (n : ℕ) (t u : Context) (s : Set) → OfWidth n u → ((o : Set) → ContainsAt t o → ContainsAt u o) → subset (common n u s) (common n t s) ≡ true
common_fewer n t u s w h = common_greatest n t s (common n u s) (length_common n u s w) (λ o m. common_inside n u s o (h o m))

module _ (n : ℕ) (t : Context) (w : OfWidth n t) where
  pub common_monotone : (s r : Set) → subset s r ≡ true → subset (common n t s) (common n t r) ≡ true
  common_monotone s r h = common_greatest n t r (common n t s) (length_common n t s w) (λ o m p. common_inside n t s o m (subset_trans s r o h p))

  common_idempotent : (s : Set) → length s ≡ n → common n t (common n t s) ≡ common n t s
  common_idempotent s e =
      let c : Set = common n t s in
      let wide : length c ≡ n = length_common n t s w in
      subset_antisym (common n t c) c (length_common n t c w ∙ sym wide)
      (common_greatest n t s (common n t c) (length_common n t c w) (λ o m h. common_inside n t c o m (common_inside n t s o m h)))
      (common_contains n t c wide)

  pub common_laws : CommonLaws n t
  common_laws = record { contains = λ s e. common_contains n t s e; idempotent = common_idempotent; monotone = λ s r p q h. common_monotone s r h }

pub holds_by_common : (n : ℕ) (t : Context) → HoldsByCommon n t
holds_by_common n t i e =
    same_from_decides (holds t i) (subset i.conclusion (common n t i.premise)) (
      λ h. common_greatest n t i.premise i.conclusion e (λ o m. respects_apply o i (holds_has t i h o m)),
      λ h. has_holds t i (λ o m. respects_from o i (λ p. subset_trans i.conclusion (common n t i.premise) o h (common_inside n t i.premise o m p))),
    )
    (λ h. h, λ h. h)
