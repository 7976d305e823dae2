use Rattle.std.proofs.Common.{◌≡◌, ℕ, ◌%◌, ◌<◌, List, [], ◌∷◌, ◌++◌, map, length, flat_map, vec_items, sym, ap, ◌∙◌, append-nil, arith}
use Rattle.std.proofs.lemmas.List.{at_drop_all}
use Rattle.std.specs.Option.{option_copied}
use Rattle.reading.proofs.Chunks.{answer, answers_by_chunks, none_left, one_left}
use Rattle.reading.specs.AnswerBytes.{numbers_in}
use Rattle.reading.proofs.answers.answers_from.Goals as goal
use Rattle.reading.proofs.answers.answers_from.Goals.{in-Some+in_ok-push-3, in_default}

pub returns : goal.returns
returns c =
    let bytes : List ℕ = c.args.bytes.now in
    let answers : List (List ℕ) = c.as_chunks.result.0.now in
    let cut : List ℕ = c.as_chunks.result.1.now in
    let done : vec_items c.loop-first.numbers ≡ flat_map answer answers =
    sym (append-nil (vec_items c.loop-first.numbers))
    ∙ ap (λ (xs : List ℕ). vec_items c.loop-first.numbers ++ xs) (sym (at_drop_all (flat_map answer) answers c.loop-first.first-index c.loop-first-test.false))
    ∙ c.loop-first.invariant
    in
    let few : length cut < 2 = omega arith in
    let all : flat_map answer answers ++ map (λ (b : ℕ). b % 16) cut ≡ numbers_in bytes =
    (λ j. flat_map answer (c.as_chunks.ensures.front j) ++ map (λ (b : ℕ). b % 16) (c.as_chunks.ensures.back j)) ∙ answers_by_chunks bytes
    in
    elim c.match-first.branch [
      | in-Some+in_ok-push-3 w ↦
          let left : cut ≡ w.in-Some.first.now ∷ [] = one_left cut w.in-Some.first.now few (sym c.first.ensures.value ∙ ap option_copied w.in-Some.is) in
          ap vec_items w.numbers-is ∙ w.in_ok-push-3.ensures.items ∙ (λ j. done j ++ w.from-in-Some.ensures j ∷ [])
          ∙ ap (λ (xs : List ℕ). flat_map answer answers ++ map (λ (b : ℕ). b % 16) xs) (sym left)
          ∙ all
      | in_default w ↦
          let left : cut ≡ [] = none_left cut (sym c.first.ensures.value ∙ ap option_copied w.in_default.is) in
          ap vec_items w.numbers-is ∙ done ∙ sym (append-nil (flat_map answer answers)) ∙ ap (λ (xs : List ℕ). flat_map answer answers ++ map (λ (b : ℕ). b % 16) xs) (sym left) ∙ all
    ]
