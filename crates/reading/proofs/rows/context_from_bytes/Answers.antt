use Rattle.std.proofs.Common.{◌≡◌, ℕ, ◌-◌, ◌/◌, ◌∷◌, length, IfOk, vec_items, subst, arith}
use Rattle.reading.specs.RowBytes.{object_number, pair_numbers}
use Rattle.reading.proofs.rows.context_from_bytes.Goals as goal

pub returns : goal.returns
returns c =
    let counted : c.div_ceil.result ≡ length c.args.bytes.now - length c.args.bytes.now / 2 = omega arith in
    subst (λ (count : ℕ). IfOk c.row_of.result (λ v. vec_items v ≡ c.args.n ∷ (count ∷ pair_numbers object_number c.args.bytes.now))) counted
    (c.row_of.ensures object_number (λ pair r p. p.1))
