-- Two lists are reported the same exactly if the same sets are closed under both. Assumes nothing.
use Rattle.std.proofs.Common.{◌≡◌, ℕ, true, false, not, List, length, Decides, sym, refl, ◌∙◌}
use Rattle.std.specs.List.{ContainsAt, AllByRecursion}
use Rattle.std.proofs.ByRecursion.{all-has, has_get_or}
use Rattle.std.proofs.lemmas.Bool.{and_parts, both_ways, not-true}
use Rattle.std.proofs.lemmas.Bool.Decides.{same_from_decides}
use Rattle.attributes.specs.Sets.{Set}
use Rattle.contexts.specs.Contexts.{Implication, respects}
use Rattle.implications.specs.Implications.{respects_all, Follows}
use Rattle.implications.specs.Places.{no_implication}
use Rattle.implications.proofs.Respects.{has_respects, respects_has, one_set_decides}
use Rattle.comparisons.specs.Compared.{FirstDifference, Differs, SameClosed}
use Rattle.comparisons.specs.declared.Difference.{Difference}

-- a set that respects a list respects what follows from it
respects_what_follows : (n : ℕ) (is js : List Implication) → AllByRecursion (Follows n is) js → (s : Set) → length s ≡ n → respects_all s is ≡ true → respects_all s js ≡ true
respects_what_follows n is js f s w h = has_respects s js (λ i m. (one_set_decides n is i).each (all-has (Follows n is) js i f m) s w h)

-- the witness is closed under one list and not under the other
different : (n : ℕ) (one other : List Implication) (place : ℕ) (i : Implication) (w : Set) → FirstDifference n one other place i w → SameClosed n one other → ⊥
different n one other place i w d same =
    let parts = and_parts (respects_all w other) (not (respects w i)) d.first.passes in
    let member : ContainsAt one i = rw d.there (has_get_or one place no_implication d.inside) in
    both_ways (respects w i) (not-true (respects w i) parts.1) (respects_has w one (same w d.first.wide ∙ parts.0) i member)

module _ (n : ℕ) (one other : List Implication) where
  pub same_closed : AllByRecursion (Follows n other) one → AllByRecursion (Follows n one) other → Decides true (SameClosed n one other)
  same_closed there back = (
    λ _ s w. same_from_decides (respects_all s one) (respects_all s other) (respects_what_follows n one other back s w, respects_what_follows n other one there s w) (λ h. h, λ h. h),
    λ _. refl,
  )

  pub differs_there : (d : Difference) → Differs n one other d → Decides false (SameClosed n one other)
  differs_there d h = (λ e. absurd (both_ways false refl e), λ same. absurd (different n one other _ _ _ h.difference same))

  pub differs_back : (d : Difference) → Differs n other one d → Decides false (SameClosed n one other)
  differs_back d h = (λ e. absurd (both_ways false refl e), λ same. absurd (different n other one _ _ _ h.difference (λ s w. sym (same s w))))
