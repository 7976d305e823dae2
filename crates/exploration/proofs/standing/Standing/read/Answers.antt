use Rattle.std.proofs.Common.{◌≡◌, ℕ, List, sym, ap, ◌∙◌}
use Rattle.attributes.specs.Numbers.{set_in}
use Rattle.dialogues.specs.Dialogue.{question, question_from}
use Rattle.exploration.specs.Row.{attribute_fault, attributes_in, checked_row, known_of}
use Rattle.exploration.proofs.Replies.{paired, from_start}
use Rattle.exploration.proofs.standing.Standing.read.Goals as goal

pub returns : goal.returns
returns c =
    let n : ℕ = c.in-Ok-n.n.value in
    let numbers : List ℕ = c.in-Ok.row.numbers.now in
    let same : numbers ≡ c.args.known.now = c.in-Ok.ensures in
    let width : n ≡ attributes_in c.args.known.now = c.in-Ok-n.ensures.0 ∙ ap attributes_in same in
    record {
      width = width;
      counts = ap checked_row (sym same) ∙ c.in-Ok.row.checked;
      clean = ap attribute_fault (sym same) ∙ c.in-Ok-n.ensures.1;
      asked =
          paired n c.ask_from-asked.result _
          (c.ask_from-asked.ensures.value ∙ ap (λ (m : ℕ). question_from n (known_of n numbers) (set_in n m)) c.empty.ensures ∙ from_start n (known_of n numbers)
          ∙ (λ j. question (width j) (known_of (width j) (same j)))) c.ask_from-asked.ensures.bound;
    }
