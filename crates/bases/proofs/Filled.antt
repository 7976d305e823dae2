-- A row to which a base is written: it has the base, in the subject's words. Assumes nothing.
use Rattle.std.proofs.Common.{◌≡◌, ℕ, ◌*◌, List, [], length, take, drop, sym, ap, ◌∙◌, subst}
use Rattle.std.proofs.lemmas.List.{take_at}
use Rattle.contexts.specs.Contexts.{Context, OfWidth, Implication}
use Rattle.contexts.proofs.Walks.{objects_width}
use Rattle.implications.specs.Values.{implications_in}
use Rattle.premises.specs.Forced.{respecting}
use Rattle.premises.proofs.Closures.{implications_over, respecting_width}
use Rattle.bases.specs.Laws.{ExploredBase, Shortest}
use Rattle.bases.specs.Rows.{attributes_in, count_in, context_in, implication_part, list_in, numbers_of, WrittenBase}
use Rattle.bases.proofs.Asked.{base_explored, run_over, turn_run}
use Rattle.bases.proofs.Equivalents.{base_shortest}
use Rattle.bases.proofs.Turns.{length_numbers, numbers_back}

-- the list that the row then has is the base
pub row_has_base : (n : ℕ) (u : Context) (before after : List ℕ) → OfWidth n u → (w : WrittenBase n u before after) → list_in after ≡ w.base
row_has_base n u before after wide w =
    ap list_in w.row
    ∙ ap (implications_in n) (take_at (numbers_of w.base) (drop (2 * length w.base) (drop 2 before)) (2 * length w.base) (length_numbers w.base))
    ∙ numbers_back n w.base (run_over n u wide w.base (turn_run n u [] w.base w.is_base))

-- what the base then is, in the subject's words
pub context_explored : (row before after : List ℕ) → WrittenBase (attributes_in row) (context_in row) before after → ExploredBase (attributes_in row) (context_in row) (list_in after)
context_explored row before after w =
    let n : ℕ = attributes_in row in
    let u : Context = context_in row in
    let wide : OfWidth n u = objects_width n (take (count_in row) (drop 2 row)) in
    subst (ExploredBase n u) (sym (row_has_base n u before after wide w)) (base_explored n u w.base wide w.is_base)

pub list_shortest : (row before after : List ℕ) → WrittenBase (attributes_in row) (respecting (attributes_in row) (list_in row)) before after
    → Shortest (attributes_in row) (list_in row) (list_in after)
list_shortest row before after w =
    let n : ℕ = attributes_in row in
    let is : List Implication = list_in row in
    let wide : OfWidth n (respecting n is) = respecting_width n is in
    subst (Shortest n is) (sym (row_has_base n (respecting n is) before after wide w)) (base_shortest n is w.base (implications_over n (implication_part row)) w.is_base)
