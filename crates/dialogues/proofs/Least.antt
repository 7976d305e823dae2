-- A run that asks until nothing is left is complete, and no complete list is shorter; no member follows from the others. Assumes nothing.
use Rattle.std.proofs.Common.{◌≡◌, ℕ, ◌≤◌, true, false, List, ◌∷◌, ◌++◌, length, sym, ◌∙◌, subst, inl, inr}
use Rattle.std.specs.List.{ContainsAt, AllByRecursion}
use Rattle.std.proofs.ByRecursion.{all-has, all_has_itself, has_append_right}
use Rattle.std.proofs.lemmas.Bool.{both_ways, cases_Bool}
use Rattle.attributes.specs.Sets.{Set, subset, meet}
use Rattle.attributes.proofs.Members.{all_from_has, has_here}
use Rattle.attributes.proofs.Sets.{subset_trans, meet_left, meet_right, meet_greatest, length_meet}
use Rattle.contexts.specs.Contexts.{Context, OfWidth, Implication, common, respects, holds}
use Rattle.contexts.proofs.Holding.{respects_apply, respects_from, breaks}
use Rattle.contexts.proofs.CommonAttributes.{common_monotone, holds_by_common}
use Rattle.implications.specs.Implications.{Over, respects_all, Follows, Complete}
use Rattle.implications.proofs.Respects.{has_respects, respects_fewer, respects_append, breaks_member, all_hold_has, one_set_decides, meet_respects, meet_respects_one}
use Rattle.dialogues.specs.Promise.{Pairwise}
use Rattle.dialogues.proofs.Pairs.{pairwise_has, pairwise_around, pairwise_weaker, at_most}
use Rattle.dialogues.proofs.Asked.{Shut, asks_concluded, asks_holds}
use Rattle.dialogues.proofs.Run.{Run, Later, Independent, run_later, run_independent, breaks_itself}

turned : (r q : Implication) → Independent r q → Independent q r
turned r q b = (b.1, b.0)

module _ (n : ℕ) (u : Context) (wide : OfWidth n u) where
  -- what holds for the yard forces its conclusion on each set that contains its premise
  forces : (i : Implication) → length i.conclusion ≡ n → holds u i ≡ true → (s : Set) → subset i.premise s ≡ true → subset i.conclusion (common n u s) ≡ true
  forces i e h s p = subset_trans i.conclusion (common n u i.premise) (common n u s) (sym (holds_by_common n u i e) ∙ h) (common_monotone n u wide i.premise s p)

  -- where each set that respects a list is closed, all that holds follows from it
  pub shut_follows : (is : List Implication) → Shut n is u → (i : Implication) → length i.conclusion ≡ n → holds u i ≡ true → Follows n is i
  shut_follows is shut i e h =
      (one_set_decides n is i).all (λ s w r. respects_from s i (λ p. subset_trans i.conclusion (common n u s) s (forces i e h s p) (shut s w r)))

  module _ (is rs : List Implication) (run : Run n u is rs) where
    later : (r : Implication) → ContainsAt rs r → Later n u is r
    later r m = all-has (Later n u is) rs r (run_later n u is rs run) m

    before : (r : Implication) → ContainsAt rs r → respects_all r.premise is ≡ true
    before r m = let l = later r m in respects_fewer r.premise is l.0 l.1 l.2.respected

    apart : Pairwise Independent rs
    apart = run_independent n u is rs run

    -- no member follows from the others
    pub none_spare : (xs ys : List Implication) (r : Implication) → rs ≡ xs ++ r ∷ ys → Follows n (is ++ (xs ++ ys)) r → ⊥
    none_spare xs ys r e f =
        let m : ContainsAt rs r = subst (λ (l : List Implication). ContainsAt l r) (sym e) (has_append_right xs (r ∷ ys) r (has_here r ys)) in
        let l = later r m in
        let around = pairwise_around Independent turned xs r ys (subst (Pairwise Independent) e apart) in
        let others = has_respects r.premise (xs ++ ys) (λ q k. (all-has (Independent r) (xs ++ ys) q around k).1) in
        breaks_itself n u l.0 r l.2 ((one_set_decides n (is ++ (xs ++ ys)) r).each f r.premise l.2.wide (respects_append r.premise is (xs ++ ys) (before r m) others))

    -- an implication that holds for the yard and that the premise of r breaks
    record Hit (r q : Implication) : Type 0 where
      broken : respects r.premise q ≡ false
      true_there : holds u q ≡ true
      concluded : length q.conclusion ≡ n

    -- a set that contains a broken premise, and whose common attributes are inside the premise that breaks, cannot be
    hit_escapes : (r q : Implication) → Hit r q → (s : Set) → subset q.premise s ≡ true → subset (common n u s) r.premise ≡ true → ⊥
    hit_escapes r q h s a c =
        both_ways (subset q.conclusion r.premise) (breaks r.premise q h.broken).1
        (subset_trans q.conclusion (common n u s) r.premise (forces q h.concluded h.true_there s a) c)

    not_inside : (r p : Implication) → ContainsAt rs r → respects p.premise r ≡ true → (q : Implication) → Hit r q → Hit p q → subset r.premise p.premise ≡ true → ⊥
    not_inside r p m resp q h g i =
        hit_escapes p q g r.premise (breaks r.premise q h.broken).0
        (subst (λ (c : Set). subset c p.premise ≡ true) (later r m).2.concludes (respects_apply p.premise r resp i))

    module _ (shut : Shut n (is ++ rs) u) where
      one_hit : (r p : Implication) → ContainsAt rs r → ContainsAt rs p → Independent r p → (q : Implication) → Hit r q → Hit p q → ⊥
      one_hit r p m k both q h g =
          elim (cases_Bool (subset r.premise p.premise)) [
            | inl i ↦ not_inside r p m both.0 q h g i
            | inr i ↦ elim (cases_Bool (subset p.premise r.premise)) [
              | inl j ↦ not_inside p r k both.1 q g h j
              | inr j ↦ hit_escapes r q h shared (meet_greatest q.premise r.premise p.premise (breaks r.premise q h.broken).0 (breaks p.premise q g.broken).0)
                  (subset_trans (common n u shared) shared r.premise (shut shared (length_meet n r.premise p.premise (later r m).2.wide (later p k).2.wide) (respected i j)) (meet_left r.premise p.premise))
            ]
          ]
        where
          shared : Set
          shared = meet r.premise p.premise

          -- the shared attributes respect each member: those of two others by both premises, and r and p since neither premise is inside
          respected : subset r.premise p.premise ≡ false → subset p.premise r.premise ≡ false → respects_all shared (is ++ rs) ≡ true
          respected i j =
              respects_append shared is rs (meet_respects is r.premise p.premise (before r m) (before p k)) (has_respects shared rs (λ o l.
              elim (pairwise_has Independent turned rs apart r o m l) [
                | inl e ↦ respects_from shared o (λ c. absurd (both_ways (subset r.premise p.premise) i (subset_trans r.premise shared p.premise (rw (sym e) at c) (meet_right r.premise p.premise))))
                | inr b ↦ elim (pairwise_has Independent turned rs apart p o k l) [
                  | inl e ↦ respects_from shared o (λ c. absurd (both_ways (subset p.premise r.premise) j (subset_trans p.premise shared r.premise (rw (sym e) at c) (meet_left r.premise p.premise))))
                  | inr d ↦ meet_respects_one r.premise p.premise o b.1 d.1
                ]
              ]))

      -- each member hits one of a complete list
      hits : (others : List Implication) → AllByRecursion (Over n) others → Complete n u (is ++ others) → (r : Implication) → ContainsAt rs r → (q : Implication) × ContainsAt others q × Hit r q
      hits others over complete r m =
          let l = later r m in
          let a = l.2 in
          elim (cases_Bool (respects_all r.premise others)) [
            | inl e ↦
                absurd (breaks_itself n u l.0 r a ((one_set_decides n (is ++ others) r).each (complete.all r (a.wide, asks_concluded n u wide l.0 r a) (asks_holds n u wide l.0 r a)) r.premise a.wide (respects_append r.premise is others (before r m) e)))
            | inr e ↦
                let b = breaks_member r.premise others e in
                (b.0, b.1, record { broken = b.2; true_there = all_hold_has u (is ++ others) complete.sound b.0 (has_append_right is others b.0 b.1); concluded = (all-has (Over n) others b.0 over b.1).1 })
          ]

      pub fewest : (others : List Implication) → AllByRecursion (Over n) others → Complete n u (is ++ others) → length rs ≤ length others
      fewest others over complete =
          at_most Hit rs others (all_from_has (λ (r : Implication). (q : Implication) × ContainsAt others q × Hit r q) rs (hits others over complete))
          (pairwise_weaker Independent (λ (r p : Implication). (q : Implication) → Hit r q → Hit p q → ⊥) (ContainsAt rs) one_hit rs (all_has_itself rs) apart)
