use Rattle.std.proofs.Common.{ℕ, ◌+◌, ◌*◌, ◌<◌, List, set, sym, ap, ◌∙◌, subst, arith}
use borrow.Rule.Slice.PartMut.{put_mid}
use Rattle.exploration.specs.Answers.{RoomFor, written}
use Rattle.exploration.proofs.Rows.{counted}
use Rattle.exploration.proofs.Written.{put_two}
use Rattle.exploration.proofs.counts.Counts.add.Goals as goal

pub returns-in-Confirm-clause-known : goal.returns-in-Confirm-clause-known
returns-in-Confirm-clause-known c =
    let row : List ℕ = c.args.known.now in
    let k : ℕ = c.args.self.now.implications in
    let room : k < 4096 = subst (RoomFor c.args.self.now) c.in-Confirm.is c.requires.room in
    ap (λ (part : List ℕ). set (put_mid 3 8192 row part) 1 (k + 1)) c.put_implication.ensures
    ∙ ap (λ (t : List ℕ). set t 1 (k + 1))
    (put_two 3 8192 row (2 * k) (2 * k + 1) c.in-Confirm.implication.premise.bits c.in-Confirm.implication.conclusion.bits (omega (arith, (counted row c.args.self.now c.requires.counted).long)) (omega arith) (omega arith))
    ∙ ap (written row c.args.self.now) (sym c.in-Confirm.is)
