-- What a row knows after an answer was written to it. Assumes nothing.
use Rattle.std.proofs.Common.{◌≡◌, ℕ, ◌+◌, ◌*◌, ◌%◌, ◌<◌, ◌≤◌, cond, ◌≢◌, List, [], ◌∷◌, ◌++◌, length, get_or, take, drop, set, Ok, Err, sym, refl, ap, ◌∙◌, subst, append_assoc, append-nil, arith}
use Rattle.std.proofs.lemmas.List.{length-set, length-drop, get_or-set_same, get_or-set_other, drop-set-lt, drop-set-add, take-set-le, take_more_set, map_push, length-take-le}
use Rattle.std.proofs.lemmas.Bool.{le-ltb}
use Rattle.attributes.specs.Numbers.{set_in}
use Rattle.contexts.specs.Contexts.{Context, Implication}
use Rattle.contexts.specs.Values.{implication_at, objects_in}
use Rattle.implications.specs.Values.{implications_in}
use Rattle.exploration.specs.Answers.{RoomFor, counts_in, raised, written}
use Rattle.dialogues.specs.Dialogue.{Knowledge}
use Rattle.exploration.specs.Row.{attributes_in, checked_row, example_part, implication_part, known_in}
use Rattle.replies.specs.declared.turn.Step.{Step}
use Rattle.replies.specs.declared.turn.Step.TheVariants.{Confirm, Name}
use Rattle.exploration.specs.declared.counts.Counts.{Counts}
use Rattle.replies.specs.declared.reply.Refusal.TheVariants.{RowTooShort, TooManyImplications, TooManyExamples}
use Rattle.exploration.proofs.Rows.{counted}

-- two numbers more are one implication more
implications_push : (n : ℕ) (xs : List ℕ) (p c : ℕ) → length xs % 2 ≡ 0 → implications_in n (xs ++ p ∷ (c ∷ [])) ≡ implications_in n xs ++ record { premise = set_in n p; conclusion = set_in n c } ∷ []
unfolding implications_in
implications_push n [] p c e = refl
implications_push n (x ∷ []) p c e = absurd (omega arith)
implications_push n (x ∷ (y ∷ xs)) p c e = ap (λ (is : List Implication). record { premise = set_in n x; conclusion = set_in n y } ∷ is) (implications_push n xs p c (omega arith))

take_two : (k : ℕ) (xs : List ℕ) (p c : ℕ) → 2 * k + 1 < length xs → take (2 * (k + 1)) (set (set xs (2 * k) p) (2 * k + 1) c) ≡ take (2 * k) xs ++ p ∷ (c ∷ [])
take_two k xs p c h =
    let many : 2 * (k + 1) ≡ 2 * k + 1 + 1 = omega arith in
    ap (λ (i : ℕ). take i (set (set xs (2 * k) p) (2 * k + 1) c)) many
    ∙ take_more_set (set xs (2 * k) p) (2 * k + 1) c (omega (arith, length-set xs (2 * k) p))
    ∙ ap (λ (t : List ℕ). t ++ c ∷ []) (take_more_set xs (2 * k) p (omega arith))
    ∙ append_assoc (take (2 * k) xs) (p ∷ []) (c ∷ [])

-- one implication more
module _ (row : List ℕ) (p c : ℕ) (long : 12291 ≤ length row) (room : get_or row 1 0 < 4096) where
  k : ℕ
  k = get_or row 1 0

  put : List ℕ
  put = set (set row (3 + 2 * k) p) (3 + (2 * k + 1)) c

  more : List ℕ
  more = set put 1 (k + 1)

  put_at : (i : ℕ) → i < 3 → get_or put i 0 ≡ get_or row i 0
  unfolding put k
  put_at i h =
      let a : i ≢ 3 + (2 * get_or row 1 0 + 1) = omega arith in
      let b : i ≢ 3 + 2 * get_or row 1 0 = omega arith in
      get_or-set_other (set row (3 + 2 * get_or row 1 0) p) (3 + (2 * get_or row 1 0 + 1)) i c 0 a ∙ get_or-set_other row (3 + 2 * get_or row 1 0) i p 0 b

  put_length : length put ≡ length row
  unfolding put
  put_length = length-set (set row (3 + 2 * k) p) (3 + (2 * k + 1)) c ∙ length-set row (3 + 2 * k) p

  more_at : (i : ℕ) → i < 3 → (i ≡ 1 → ⊥) → get_or more i 0 ≡ get_or row i 0
  unfolding more
  more_at i h other = get_or-set_other put 1 i (k + 1) 0 other ∙ put_at i h

  more_count : get_or more 1 0 ≡ k + 1
  unfolding more
  more_count = get_or-set_same put 1 (k + 1) 0 (omega (arith, put_length))

  more_implications : implication_part more ≡ implication_part row ++ p ∷ (c ∷ [])
  unfolding more put k
  more_implications =
      let i : ℕ = 2 * get_or row 1 0 in
      ap (λ (m : ℕ). take (2 * m) (drop 3 more)) more_count
      ∙ ap (take (2 * (get_or row 1 0 + 1))) (drop-set-lt 3 put 1 (get_or row 1 0 + 1) (omega arith) ∙ drop-set-add 3 (set row (3 + i) p) (i + 1) c ∙ ap (λ (t : List ℕ). set t (i + 1) c) (drop-set-add 3 row i p))
      ∙ take_two (get_or row 1 0) (drop 3 row) p c (omega (arith, length-drop 3 row))

  more_examples : example_part more ≡ example_part row
  unfolding more put k
  more_examples =
      let i : ℕ = 2 * get_or row 1 0 in
      ap (λ (m : ℕ). take m (drop 8195 more)) (more_at 2 (omega arith) (λ e. omega arith))
      ∙ ap (take (get_or row 2 0)) (drop-set-lt 8195 put 1 (get_or row 1 0 + 1) (omega arith) ∙ drop-set-lt 8195 (set row (3 + i) p) (3 + (i + 1)) c (omega arith) ∙ drop-set-lt 8195 row (3 + i) p (omega arith))

  more_known : known_in more ≡ record { confirmed = (known_in row).confirmed ++ record { premise = set_in (attributes_in row) p; conclusion = set_in (attributes_in row) c } ∷ []; examples = (known_in row).examples }
  unfolding k
  more_known =
      let width : attributes_in more ≡ attributes_in row = more_at 0 (omega arith) (λ e. omega arith) in
      let even : length (implication_part row) % 2 ≡ 0 = omega (arith, length-take-le (2 * get_or row 1 0) (drop 3 row) (omega (arith, length-drop 3 row))) in
      (λ j. record { confirmed = implications_in (width j) (more_implications j); examples = objects_in (width j) (more_examples j) })
      ∙ ap (λ (is : List Implication). record { confirmed = is; examples = objects_in (attributes_in row) (example_part row) }) (implications_push (attributes_in row) (implication_part row) p c even)

-- one example more
module _ (row : List ℕ) (s : ℕ) (long : 12291 ≤ length row) (few : get_or row 1 0 ≤ 4096) (room : get_or row 2 0 < 4096) where
  named_row : List ℕ
  named_row = set (set row (8195 + get_or row 2 0) s) 2 (get_or row 2 0 + 1)

  named_at : (i : ℕ) → i < 3 → (i ≡ 2 → ⊥) → get_or named_row i 0 ≡ get_or row i 0
  unfolding named_row
  named_at i h other =
      let a : i ≢ 8195 + get_or row 2 0 = omega arith in
      get_or-set_other (set row (8195 + get_or row 2 0) s) 2 i (get_or row 2 0 + 1) 0 other ∙ get_or-set_other row (8195 + get_or row 2 0) i s 0 a

  named_count : get_or named_row 2 0 ≡ get_or row 2 0 + 1
  unfolding named_row
  named_count = get_or-set_same (set row (8195 + get_or row 2 0) s) 2 (get_or row 2 0 + 1) 0 (omega (arith, length-set row (8195 + get_or row 2 0) s))

  named_implications : implication_part named_row ≡ implication_part row
  unfolding named_row
  named_implications =
      let i : ℕ = get_or row 2 0 in
      let at : 8195 + i ≡ 3 + (8192 + i) = omega arith in
      ap (λ (m : ℕ). take (2 * m) (drop 3 named_row)) (named_at 1 (omega arith) (λ e. omega arith))
      ∙ ap (take (2 * get_or row 1 0)) (drop-set-lt 3 (set row (8195 + i) s) 2 (i + 1) (omega arith) ∙ ap (λ (m : ℕ). drop 3 (set row m s)) at ∙ drop-set-add 3 row (8192 + i) s)
      ∙ take-set-le (2 * get_or row 1 0) (drop 3 row) (8192 + i) s (omega arith)

  named_examples : example_part named_row ≡ example_part row ++ s ∷ []
  unfolding named_row
  named_examples =
      let i : ℕ = get_or row 2 0 in
      ap (λ (m : ℕ). take m (drop 8195 named_row)) named_count
      ∙ ap (take (i + 1)) (drop-set-lt 8195 (set row (8195 + i) s) 2 (i + 1) (omega arith) ∙ drop-set-add 8195 row i s)
      ∙ take_more_set (drop 8195 row) i s (omega (arith, length-drop 8195 row))

  named_known : known_in named_row ≡ record { confirmed = (known_in row).confirmed; examples = (known_in row).examples ++ set_in (attributes_in row) s ∷ [] }
  named_known =
      let width : attributes_in named_row ≡ attributes_in row = named_at 0 (omega arith) (λ e. omega arith) in
      (λ j. record { confirmed = implications_in (width j) (named_implications j); examples = objects_in (width j) (named_examples j) })
      ∙ ap (λ (t : Context). record { confirmed = (known_in row).confirmed; examples = t }) (map_push (set_in (attributes_in row)) (example_part row) s)

-- the counts of a row that is long enough
pub checked : (row : List ℕ) → 12291 ≤ length row → get_or row 1 0 ≤ 4096 → get_or row 2 0 ≤ 4096 → checked_row row ≡ Ok (counts_in row)
checked row a b c =
    (λ j. cond (le-ltb (length row) 12291 a j) (Err (RowTooShort (length row)))
    (cond (le-ltb 4096 (get_or row 1 0) b j) (Err TooManyImplications) (cond (le-ltb 4096 (get_or row 2 0) c j) (Err TooManyExamples) (Ok (counts_in row)))))

-- what is written raises one count, leaves the row long enough, and adds to what is known
abbrev pub learnt_from : ℕ → Knowledge → Step → Knowledge
learnt_from n known (Confirm q) = record { confirmed = known.confirmed ++ implication_at n q ∷ []; examples = known.examples }
learnt_from n known (Name s) = record { confirmed = known.confirmed; examples = known.examples ++ set_in n s.bits ∷ [] }

-- the numbers that are added behind the implications, and behind the examples
abbrev pub implication_numbers : Step → List ℕ
implication_numbers (Confirm q) = q.premise.bits ∷ (q.conclusion.bits ∷ [])
implication_numbers (Name s) = []

abbrev pub example_numbers : Step → List ℕ
example_numbers (Confirm q) = []
example_numbers (Name s) = s.bits ∷ []

record AfterStep (row : List ℕ) (step : Step) : Type 0 where
  width : attributes_in (written row (counts_in row) step) ≡ attributes_in row
  counts : checked_row (written row (counts_in row) step) ≡ Ok (raised (counts_in row) step)
  known : known_in (written row (counts_in row) step) ≡ learnt_from (attributes_in row) (known_in row) step
  implications : implication_part (written row (counts_in row) step) ≡ implication_part row ++ implication_numbers step
  examples : example_part (written row (counts_in row) step) ≡ example_part row ++ example_numbers step

after_step : (row : List ℕ) (step : Step) → 12291 ≤ length row → get_or row 1 0 ≤ 4096 → get_or row 2 0 ≤ 4096 → RoomFor (counts_in row) step → AfterStep row step
unfolding more put k named_row
after_step row (Confirm q) long few_is few_os room =
    let p : ℕ = q.premise.bits in
    let c : ℕ = q.conclusion.bits in
    let after : List ℕ = written row (counts_in row) (Confirm q) in
    record {
      width = more_at row p c long room 0 (omega arith) (λ e. omega arith);
      counts =
          checked after (omega (arith, length-set (put row p c long room) 1 (get_or row 1 0 + 1), put_length row p c long room)) (omega (arith, more_count row p c long room)) (omega (arith, more_at row p c long room 2 (omega arith) (λ e. omega arith)))
          ∙ (λ j. Ok (record { implications = more_count row p c long room j; examples = more_at row p c long room 2 (omega arith) (λ e. omega arith) j }));
      known = more_known row p c long room;
      implications = more_implications row p c long room;
      examples = more_examples row p c long room ∙ sym (append-nil (example_part row));
    }
after_step row (Name s) long few_is few_os room =
    let m : ℕ = s.bits in
    let after : List ℕ = written row (counts_in row) (Name s) in
    record {
      width = named_at row m long few_is room 0 (omega arith) (λ e. omega arith);
      counts =
          checked after (omega (arith, length-set (set row (8195 + get_or row 2 0) m) 2 (get_or row 2 0 + 1), length-set row (8195 + get_or row 2 0) m)) (omega (arith, named_at row m long few_is room 1 (omega arith) (λ e. omega arith))) (omega (arith, named_count row m long few_is room))
          ∙ (λ j. Ok (record { implications = named_at row m long few_is room 1 (omega arith) (λ e. omega arith) j; examples = named_count row m long few_is room j }));
      known = named_known row m long few_is room;
      implications = named_implications row m long few_is room ∙ sym (append-nil (implication_part row));
      examples = named_examples row m long few_is room;
    }

-- the same with the counts that the first check handed on
pub counts_are : (row : List ℕ) (counts : Counts) → checked_row row ≡ Ok counts → counts ≡ counts_in row
counts_are row counts e = let h = counted row counts e in λ j. record { implications = h.implications j; examples = h.examples j }

pub record Stepped (row : List ℕ) (counts : Counts) (step : Step) : Type 0 where
  pub width : attributes_in (written row counts step) ≡ attributes_in row
  pub counts_then : checked_row (written row counts step) ≡ Ok (raised counts step)
  pub known : known_in (written row counts step) ≡ learnt_from (attributes_in row) (known_in row) step
  pub implications : implication_part (written row counts step) ≡ implication_part row ++ implication_numbers step
  pub examples : example_part (written row counts step) ≡ example_part row ++ example_numbers step

pub stepped : (row : List ℕ) (counts : Counts) (step : Step) → checked_row row ≡ Ok counts → RoomFor counts step → Stepped row counts step
stepped row counts step e room =
    let h = counted row counts e in
    let same : counts ≡ counts_in row = counts_are row counts e in
    let after = after_step row step h.long h.few_implications h.few_examples (subst (λ (k : Counts). RoomFor k step) same room) in
    subst (λ (k : Counts). Stepped row k step) (sym same) (record { width = after.width; counts_then = after.counts; known = after.known; implications = after.implications; examples = after.examples })
