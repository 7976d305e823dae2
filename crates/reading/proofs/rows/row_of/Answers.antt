use Rattle.std.proofs.Common.{◌≡◌, ℕ, ◌/◌, List, [], ◌∷◌, ◌++◌, length, map, Ok, ◌∙◌, rules}
use Rattle.std.specs.declared.alloc.AllocError.{AllocError}
use Rattle.std.specs.Simd.{first_chunks}
use Rattle.std.proofs.lemmas.Iterator.{YieldsList-from_slice, YieldsList-from_map}
use Rattle.std.proofs.lemmas.Iterator.Consumers.{YieldsList-from_copied}
use Rattle.std.proofs.lemmas.Iterator.Adapters.{items_from_extend}
use Rattle.reading.proofs.Chunks.{of_array, pairs_by_chunks}
use Rattle.reading.proofs.rows.row_of.Goals as goal

pub returns : goal.returns
returns g c f computes =
    let pairs : List (List ℕ) = first_chunks 2 (length c.args.bytes.now / 2) c.args.bytes.now in
    let added : c.extend.new.self.items ≡ c.in_ok-row.row.items ++ map (of_array f) pairs =
    (items_from_extend {E = AllocError} (Ok c.in_ok-extend.field-0) c.in_ok-extend.ensures.ran
    (YieldsList-from_map _ (of_array f) (YieldsList-from_copied (YieldsList-from_slice pairs cc)) c.map.ensures.closure
    (λ x r q k. (g.met.F.Fn.1.step_stays _ _ _ _ k, computes x r ((g.met.F.FnMut.1.post_iff _ _ _).1 (q, k)))))).0
    in
    let begun : c.in_ok-row.row.items ≡ c.args.n ∷ (c.args.count ∷ []) = search rules in
    added ∙ (λ j. begun j ++ pairs_by_chunks f c.args.bytes.now j)
