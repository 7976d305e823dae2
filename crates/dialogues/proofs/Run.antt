-- What a yard asks if each question is confirmed: the implications in turn, independent of each other, and determined by the yard. Assumes nothing.
use Rattle.std.proofs.Common.{◌≡◌, ℕ, ◌^◌, ◌≤◌, true, ◌≢◌, List, [], ◌∷◌, ◌++◌, length, sym, refl, ap, ◌∙◌, subst, inl, inr, append_assoc, append-nil}
use Rattle.std.specs.List.{ContainsAt, AllByRecursion}
use Rattle.std.proofs.ByRecursion.{All-weaker, has_append_left, has_push}
use Rattle.std.proofs.lemmas.Bool.{both_ways}
use Rattle.attributes.specs.Sets.{Set, subset}
use Rattle.attributes.proofs.Lectic.{subset_first}
use Rattle.attributes.proofs.Members.{has_here, has_there}
use Rattle.attributes.proofs.Sets.{subset_refl}
use Rattle.contexts.specs.Contexts.{Context, OfWidth, Implication, common, respects, holds}
use Rattle.contexts.proofs.Holding.{respects_apply, respects_from}
use Rattle.implications.specs.Implications.{respects_all}
use Rattle.implications.proofs.Respects.{respects_has, respects_fewer}
use Rattle.std.proofs.lemmas.Option.{none-some}
use Rattle.dialogues.specs.Promise.{Pairwise}
use Rattle.dialogues.proofs.Pairs.{pairwise_weaker, at_most_sets}
use Rattle.dialogues.proofs.Asked.{Asks, Shut, asked, shut_asks_none, same_question}

-- each member of rs in turn is what the yard u asks with the implications is and the members before it
abbrev pub Run : ℕ → Context → List Implication → List Implication → Type 0
Run n u is [] = Unit {0}
Run n u is (r ∷ rs) = Asks n is u r × Run n u (is ++ r ∷ []) rs

-- what the yard asks with the implications is, and perhaps more
abbrev pub Later : ℕ → Context → List Implication → Implication → Type 0
Later n u is q = (more : List Implication) × ((i : Implication) → ContainsAt is i → ContainsAt more i) × Asks n more u q

-- the premise of each respects the other
abbrev pub Independent : Implication → Implication → Type 0
Independent r q = (respects q.premise r ≡ true) × (respects r.premise q ≡ true)

module _ (n : ℕ) (u : Context) where
  pub run_later : (is rs : List Implication) → Run n u is rs → AllByRecursion (Later n u is) rs
  run_later is [] run = tt
  run_later is (r ∷ rs) run = (
    (is, λ i m. m, run.0),
    All-weaker (Later n u (is ++ r ∷ [])) (Later n u is) (λ q l. (l.0, λ i m. l.1 i (has_append_left is (r ∷ []) i m), l.2)) rs (run_later (is ++ r ∷ []) rs run.1),
  )

  -- what is asked has not all of what it concludes
  pub breaks_itself : (is : List Implication) (q : Implication) → Asks n is u q → respects q.premise q ≡ true → ⊥
  breaks_itself is q a h = both_ways (subset q.conclusion q.premise) a.opens (respects_apply q.premise q h (subset_refl q.premise))

  independent : (is : List Implication) (r q : Implication) → Asks n is u r → Later n u (is ++ r ∷ []) q → Independent r q
  independent is r q a l =
      let (more, add, b) = l in
      let after : respects q.premise r ≡ true = respects_has q.premise more b.respected r (add r (has_push is r)) in
      let before : respects_all q.premise is ≡ true = respects_fewer q.premise is more (λ i m. add i (has_append_left is (r ∷ []) i m)) b.respected in (
        after,
        respects_from r.premise q (λ h. elim (subset_first q.premise r.premise (b.wide ∙ sym a.wide) h) [
          | inl e ↦ absurd (breaks_itself is r a (rw e at after))
          | inr p ↦ absurd (both_ways (subset (common n u q.premise) q.premise) (rw b.concludes at b.opens) (a.earlier q.premise b.wide p before))
        ]),
      )

  pub run_independent : (is rs : List Implication) → Run n u is rs → Pairwise Independent rs
  run_independent is [] run = tt
  run_independent is (r ∷ rs) run = (
    All-weaker (Later n u (is ++ r ∷ [])) (Independent r) (λ q l. independent is r q run.0 l) rs (run_later (is ++ r ∷ []) rs run.1),
    run_independent (is ++ r ∷ []) rs run.1,
  )

  -- no premise is asked about twice, so there are at most 2 ^ n
  pub run_bound : (is rs : List Implication) → Run n u is rs → length rs ≤ 2 ^ n
  run_bound is rs run =
      let later = run_later is rs run in
      at_most_sets n (λ (r : Implication). r.premise) rs (All-weaker (Later n u is) (λ (r : Implication). length r.premise ≡ n) (λ r l. l.2.wide) rs later)
      (pairwise_weaker Independent (λ (r q : Implication). r.premise ≢ q.premise) (Later n u is)
      (λ r q l _ both e. breaks_itself l.0 r l.2 (rw (sym e) at both.0)) rs later (run_independent is rs run))

  -- two runs that ask until nothing is left are one
  pub same_run : (is rs qs : List Implication) → Run n u is rs → Run n u is qs → Shut n (is ++ rs) u → Shut n (is ++ qs) u → rs ≡ qs
  same_run is [] [] p q h k = refl
  same_run is [] (q ∷ qs) _ p h _ = absurd (none-some _ (sym (shut_asks_none n is u (rw append-nil at h)) ∙ asked n is u q p.0))
  same_run is (r ∷ rs) [] p _ _ k = absurd (none-some _ (sym (shut_asks_none n is u (rw append-nil at k)) ∙ asked n is u r p.0))
  same_run is (r ∷ rs) (q ∷ qs) p m h k =
      let same : r ≡ q = cc (asked n is u r p.0, asked n is u q m.0) in
      let first_shut = subst (λ (l : List Implication). Shut n l u) (sym (append_assoc is (r ∷ []) rs)) h in
      let other_shut = subst (λ (l : List Implication). Shut n l u) (ap (λ (i : Implication). is ++ i ∷ qs) (sym same) ∙ sym (append_assoc is (r ∷ []) qs)) k in
      cc (same, same_run (is ++ r ∷ []) rs qs p.1 (rw (sym same) at m.1) first_shut other_shut)

  pub run_push : (is rs : List Implication) (q : Implication) → Run n u is rs → Asks n (is ++ rs) u q → Run n u is (rs ++ q ∷ [])
  run_push is [] q run a = (rw append-nil at a, tt)
  run_push is (r ∷ rs) q run a = (run.0, run_push (is ++ r ∷ []) rs q run.1 (subst (λ (l : List Implication). Asks n l u q) (sym (append_assoc is (r ∷ []) rs)) a))

-- what examples ask, their yard asks, where the answers are true
pub run_grows : (n : ℕ) (t u : Context) → OfWidth n u → ((o : Set) → ContainsAt t o → ContainsAt u o) → (is rs : List Implication) → ((r : Implication) → ContainsAt rs r → holds u r ≡ true) → Run n t is rs → Run n u is rs
run_grows n t u wide stand is [] h run = tt
run_grows n t u wide stand is (r ∷ rs) h run =
    (same_question n t u wide stand is r run.0 (h r (has_here r rs)), run_grows n t u wide stand (is ++ r ∷ []) rs (λ q m. h q (has_there r rs q m)) run.1)
