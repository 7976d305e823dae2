-- Questions as the code has them. Assumes nothing.
use Rattle.std.proofs.Common.{◌≡◌, ℕ, Some, None, Option, sym, ap, ◌∙◌}
use Rattle.std.specs.Option.{option_map}
use Rattle.attributes.specs.Numbers.{set_in}
use Rattle.attributes.proofs.Numbers.{number_of_set_in}
use Rattle.contexts.specs.Contexts.{Implication, common}
use Rattle.contexts.specs.Values.{implication_at, pair_of}
use Rattle.contexts.specs.declared.implication.Implication.{Implication as Pair}
use Rattle.premises.proofs.From.{from_empty}
use Rattle.dialogues.specs.Dialogue.{Knowledge, about, question, question_from}
use Rattle.exploration.specs.Row.{Bounded}

-- a question of the code is the question that it stands for
pub paired : (n : ℕ) (asked : Option Pair) (q : Option Implication) → option_map (implication_at n) asked ≡ q → Bounded n asked → asked ≡ option_map pair_of q
paired n None q e b = ap (option_map pair_of) e
paired n (Some p) q e b =
    (λ j. Some (record { premise = record { bits = sym (number_of_set_in n p.premise.bits b.0) j }; conclusion = record { bits = sym (number_of_set_in n p.conclusion.bits b.1) j } }))
    ∙ ap (option_map pair_of) e

-- a search from the empty set is a search from the start
pub from_start : (n : ℕ) (k : Knowledge) → question_from n k (set_in n 0) ≡ question n k
unfolding question question_from
from_start n k = ap (option_map (about n k)) (from_empty n (common n k.examples) k.confirmed)
