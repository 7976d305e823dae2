-- The worked dialogue: one computation over the whole table, read off at each row. Assumes nothing.
use Rattle.std.proofs.Common.{◌≡◌, ℕ, zero, suc, ◌<◌, ◌≤◌, Bool, true, false, cond, not, List, [], ◌∷◌, ◌++◌, map, length, get_or, take, Some, None, Option, refl, ap, ◌∙◌, le_of_suc-le-suc, arith}
use Rattle.std.proofs.lemmas.Bool.{and_from}
use Rattle.attributes.specs.Sets.{Set, subset, meet, everything}
use Rattle.attributes.specs.Lectic.{sets}
use Rattle.attributes.proofs.Members.{has_here, has_there}
use Rattle.contexts.specs.Contexts.{Context, Implication, common, respects, holds}
use Rattle.implications.specs.Implications.{respects_all}
use Rattle.premises.specs.Open.{is_open, first, first_open}
use Rattle.dialogues.specs.Dialogue.{Knowledge, nothing_known, question, always, after, after_all, TrueAnswer, Truthful}
use Rattle.dialogues.specs.Worked.{Row, row, table, answers, yard, first_named, foreman, WorkedDialogue}

-- what is asked before each row's answer, and at the end
asked_along : Knowledge → List Row → List (Option Implication)
asked_along k [] = question 5 k ∷ []
asked_along k (r ∷ rs) = question 5 k ∷ asked_along (after 5 k r.answer) rs

as_listed : List Row → List (Option Implication)
as_listed rows = map (λ (r : Row). Some r.asked) rows ++ None ∷ []

-- the computation
all_rows : asked_along nothing_known table ≡ as_listed table
unfolding asked_along as_listed question after first_open first is_open sets common subset meet everything respects respects_all
all_rows = refl

asked_at : (k : Knowledge) (rows : List Row) (i : ℕ) → i ≤ length rows → question 5 (after_all 5 k (answers (take i rows))) ≡ get_or (asked_along k rows) i None
unfolding asked_along after_all
asked_at k [] zero h = refl
asked_at k [] (suc i) h = absurd (omega arith)
asked_at k (r ∷ rs) zero h = refl
asked_at k (r ∷ rs) (suc i) h = asked_at (after 5 k r.answer) rs i (le_of_suc-le-suc h)

listed_at : (rows : List Row) (i : ℕ) → i < length rows → get_or (as_listed rows) i None ≡ Some (get_or rows i (row [] [] always)).asked
unfolding as_listed
listed_at [] i h = absurd (omega arith)
listed_at (r ∷ rs) zero h = refl
listed_at (r ∷ rs) (suc i) h = listed_at rs i (le_of_suc-le-suc h)

-- a foreman who names the first object that breaks what is asked is truthful
more : (o : Set) (os : Context) (q : Implication) (b : Bool) → respects o q ≡ b → (r : Option Set)
    → TrueAnswer os (Some q) (first_named r) → TrueAnswer (o ∷ os) (Some q) (first_named (cond (not b) (Some o) r))
unfolding holds
more o os q false e r h = (has_here o os, e)
more o os q true e None h = and_from (respects o q) (holds os q) e h
more o os q true e (Some s) h = (has_there o os s h.0, h.1)

pub first_true : (t : Context) (q : Implication) → TrueAnswer t (Some q) (first_named (first (λ (s : Set). not (respects s q)) t))
unfolding holds first
first_true [] q = refl
first_true (o ∷ os) q = more o os q (respects o q) refl (first (λ (s : Set). not (respects s q)) os) (first_true os q)

rest : {A : Type 0} → List A → List A
rest [] = []
rest (x ∷ xs) = xs

truthful_along : (k : Knowledge) (rows : List Row) → asked_along k rows ≡ as_listed rows → answers rows ≡ map (λ (r : Row). foreman r.asked) rows → Truthful 5 yard k (answers rows)
unfolding asked_along as_listed Truthful rest
truthful_along k [] e f = tt
truthful_along k (r ∷ rs) e f =
    let asks : question 5 k ≡ Some r.asked = cc in
    let says : r.answer ≡ foreman r.asked = cc in
    (rw (asks, says) (first_true yard r.asked), truthful_along (after 5 k r.answer) rs (ap rest e) (ap rest f))

pub worked_dialogue : WorkedDialogue
unfolding after_all question after first_open first is_open sets common subset meet everything respects respects_all as_listed
worked_dialogue =
    let answered : answers table ≡ map (λ (r : Row). foreman r.asked) table = refl in
    record {
      asks = λ i h. asked_at nothing_known table i (omega arith) ∙ ap (λ (l : List (Option Implication)). get_or l i None) all_rows ∙ listed_at table i h;
      ends = asked_at nothing_known table (length table) (omega arith) ∙ ap (λ (l : List (Option Implication)). get_or l (length table) None) all_rows;
      confirms = refl;
      answered = answered;
      truthful = truthful_along nothing_known table all_rows answered;
    }
