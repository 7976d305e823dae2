-- Every truthful dialogue can be led to its end: whoever names the first object that breaks what is asked gets there. Assumes nothing.
use Rattle.std.proofs.Common.{◌≡◌, ℕ, zero, suc, ◌+◌, ◌*◌, ◌^◌, ◌<◌, not, List, [], ◌∷◌, ◌++◌, length, Some, None, Option, refl, append_assoc, append-nil, arith}
use Rattle.std.proofs.lemmas.List.{length_push}
use Rattle.attributes.specs.Sets.{Set}
use Rattle.contexts.specs.Contexts.{Context, Implication, respects}
use Rattle.premises.specs.Open.{first}
use Rattle.dialogues.specs.Dialogue.{Knowledge, nothing_known, question, Answer, after, after_all, TrueAnswer, Truthful}
use Rattle.dialogues.specs.Promise.{learnt, Honest, CanBeFinished}
use Rattle.dialogues.specs.Worked.{first_named}
use Rattle.dialogues.proofs.Bounds.{answers_bounded}
use Rattle.dialogues.proofs.Worked.{first_true}

truthful_push : (n : ℕ) (yard : Context) (k : Knowledge) (answers : List Answer) (a : Answer) → Truthful n yard k answers → TrueAnswer yard (question n (after_all n k answers)) a → Truthful n yard k (answers ++ a ∷ [])
unfolding Truthful after_all
truthful_push n yard k [] a t h = (h, tt)
truthful_push n yard k (b ∷ answers) a t h = (t.0, truthful_push n yard (after n k b) answers a t.1 h)

-- the dialogue can be led on to its end
abbrev Ends : ℕ → Context → List Answer → Type 0
Ends n yard answers = (more : List Answer) × Honest n yard (answers ++ more) × (question n (learnt n (answers ++ more)) ≡ None)

-- with room for m more answers
ends : (n : ℕ) (yard : Context) (m : ℕ) (answers : List Answer) → Honest n yard answers → 2 * 2 ^ n < length answers + m → Ends n yard answers
ends n yard zero answers honest h = absurd (omega (arith, answers_bounded n yard answers honest))
ends n yard (suc m) answers honest h = go (question n (learnt n answers)) refl (ends n yard m)
  where
    go : (o : Option Implication) → question n (learnt n answers) ≡ o → ((others : List Answer) → Honest n yard others → 2 * 2 ^ n < length others + m → Ends n yard others) → Ends n yard answers
    go None e later = ([], rw append-nil honest, rw append-nil e)
    go (Some q) e later =
        let a : Answer = first_named (first (λ (s : Set). not (respects s q)) yard) in
        let told : TrueAnswer yard (question n (learnt n answers)) a = rw e (first_true yard q) in
        let next : Honest n yard (answers ++ a ∷ []) = record { wide = honest.wide; truthful = truthful_push n yard nothing_known answers a honest.truthful told } in
        let (more, still, end) = later (answers ++ a ∷ []) next (omega (arith, length_push answers a)) in
        (a ∷ more, rw append_assoc at still, rw append_assoc at end)

pub can_be_finished : CanBeFinished
can_be_finished n yard answers honest = ends n yard (2 * 2 ^ n + 1) answers honest (omega arith)
