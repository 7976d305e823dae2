use Rattle.std.proofs.Common.{◌≡◌, ◌++◌, drop, flat_map, vec_items}
use Rattle.reading.proofs.Chunks.{answer}
use Rattle.reading.proofs.answers.answers_from.Given as goal

-- what was read and what is left to read make up the whole
abbrev pub invariant-loop-first : goal.invariant-loop-first
invariant-loop-first l = vec_items l.numbers ++ flat_map answer (drop l.first-index l.answers) ≡ flat_map answer l.answers
