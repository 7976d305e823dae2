use Rattle.std.proofs.Common.{◌≡◌, ◌+◌, ◌≤◌, length, vec_items, vec_len, vec_capacity}
use Rattle.std.specs.Int.{div_ceil}
use Rattle.std.specs.Slice.Iter.{chunks_rest, chunks_size}
use Rattle.exploration.proofs.Along.{Held}
use Rattle.exploration.proofs.dialogue.take_in_turn.Given as goal

abbrev pub invariant-loop-answer : goal.invariant-loop-answer
invariant-loop-answer l = record {
  held : Held l.initial.known l.answers l.known l.standing (vec_items l.turns) (chunks_rest l.answer-iterator);
  by_two : chunks_size l.answer-iterator ≡ 2;
  room : vec_len l.turns + div_ceil (length (chunks_rest l.answer-iterator)) 2 ≤ vec_capacity l.turns;
}
