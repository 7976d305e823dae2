use Rattle.std.proofs.Common.{◌≡◌, ℕ, ◌+◌, ◌^◌, ◌≤◌, List, Some, None, refl, arith}
use Rattle.exploration.specs.Row.{attributes_in, example_part, first_from, implication_part}
use Rattle.exploration.proofs.Faults.{searched}
use Rattle.exploration.proofs.Rows.{too_many, few_enough}
use Rattle.exploration.proofs.row.Row.attributes.Goals as goal

few : (row : List ℕ) (n : ℕ) → n ≡ attributes_in row → n ≤ 12 → attributes_in row ≤ 12
few row n e h = omega arith

pub returns-in_default : goal.returns-in_default
returns-in_default c = too_many c.args.self.now.numbers.now c.in_default.ensures

pub returns-in-Some : goal.returns-in-Some
returns-in-Some c =
    let row : List ℕ = c.args.self.now.numbers.now in
    few_enough row (Some (3 + c.in-Some.place)) (first_from (2 ^ attributes_in row) 8195 (example_part row)) (few row c.in-Ok.n.value c.in-Ok.ensures c.in-Ok.n.few)
    (searched row c.implications.result.now (implication_part row) c.in-Ok.n.value c.limit-limit.result 3 (Some c.in-Some.place) c.first_not_below.result c.in-Ok.ensures c.limit-limit.ensures
    c.implications.ensures c.first_not_below.ensures.value c.in-Some.is)
    refl

pub returns-in-Some-first_not_below : goal.returns-in-Some-first_not_below
returns-in-Some-first_not_below c =
    let row : List ℕ = c.args.self.now.numbers.now in
    few_enough row None (Some (8195 + c.in-Some-first_not_below.place)) (few row c.in-Ok.n.value c.in-Ok.ensures c.in-Ok.n.few)
    (searched row c.implications.result.now (implication_part row) c.in-Ok.n.value c.limit-limit.result 3 None c.first_not_below.result c.in-Ok.ensures c.limit-limit.ensures
    c.implications.ensures c.first_not_below.ensures.value c.in_default-first_not_below.is)
    (searched row c.examples.result.now (example_part row) c.in-Ok.n.value c.limit-limit.result 8195 (Some c.in-Some-first_not_below.place) c.first_not_below-2.result c.in-Ok.ensures c.limit-limit.ensures
    c.examples.ensures c.first_not_below-2.ensures.value c.in-Some-first_not_below.is)

pub returns : goal.returns
returns c =
    let row : List ℕ = c.args.self.now.numbers.now in (
      c.in-Ok.ensures,
      few_enough row None None (few row c.in-Ok.n.value c.in-Ok.ensures c.in-Ok.n.few)
          (searched row c.implications.result.now (implication_part row) c.in-Ok.n.value c.limit-limit.result 3 None c.first_not_below.result c.in-Ok.ensures c.limit-limit.ensures
          c.implications.ensures c.first_not_below.ensures.value c.in_default-first_not_below.is)
          (searched row c.examples.result.now (example_part row) c.in-Ok.n.value c.limit-limit.result 8195 None c.first_not_below-2.result c.in-Ok.ensures c.limit-limit.ensures
          c.examples.ensures c.first_not_below-2.ensures.value c.in_default-first_not_below-2.is),
    )
