-- What the checks of a row find. Assumes nothing.
use Rattle.std.proofs.Common.{◌≡◌, ℕ, ◌^◌, ◌<◌, ◌≤◌, Bool, true, false, cond, ltb, List, length, get_or, Some, Ok, Err, Option, Result, sym, refl, ap, ◌∙◌, arith}
use Rattle.std.proofs.lemmas.Bool.{lt-ltb, le-ltb, ltb-false}
use Rattle.exploration.specs.Row.{attributes_in, attribute_fault, checked_row, example_part, first_from, implication_part, unknown_at, unknown_attribute}
use Rattle.exploration.specs.declared.counts.Counts.{Counts}
use Rattle.replies.specs.declared.reply.Refusal.TheVariants.{RowTooShort, TooManyImplications, TooManyExamples, TooManyAttributes}

-- what the first check hands on
pub record Counted (row : List ℕ) (counts : Counts) : Type 0 where
  pub long : 12291 ≤ length row
  pub implications : counts.implications ≡ get_or row 1 0
  pub examples : counts.examples ≡ get_or row 2 0
  pub few_implications : get_or row 1 0 ≤ 4096
  pub few_examples : get_or row 2 0 ≤ 4096

pub no_ok : {A B : Type 0} {x : B} {y : A} → ◌≡◌ {A = Result A B} (Err x) (Ok y) → ⊥
no_ok h = let z : ◌≡◌ {A = ℕ} 0 1 = cc in omega arith

pub counted : (row : List ℕ) (counts : Counts) → checked_row row ≡ Ok counts → Counted row counts
counted row counts = go (ltb (length row) 12291) refl (ltb 4096 (get_or row 1 0)) refl (ltb 4096 (get_or row 2 0)) refl
  where
    go : (a : Bool) → ltb (length row) 12291 ≡ a → (b : Bool) → ltb 4096 (get_or row 1 0) ≡ b → (c : Bool) → ltb 4096 (get_or row 2 0) ≡ c
        → cond a (Err (RowTooShort (length row))) (cond b (Err TooManyImplications) (cond c (Err TooManyExamples) (Ok (record { implications = get_or row 1 0; examples = get_or row 2 0 })))) ≡ Ok counts
        → Counted row counts
    go true p b q c r e = absurd (no_ok e)
    go false p true q c r e = absurd (no_ok e)
    go false p false q true r e = absurd (no_ok e)
    go false p false q false r e =
        let same : ◌≡◌ {A = Counts} (record { implications = get_or row 1 0; examples = get_or row 2 0 }) counts = cc in
        record {
          long = ltb-false (length row) 12291 p;
          implications = sym (ap (λ (k : Counts). k.implications) same);
          examples = sym (ap (λ (k : Counts). k.examples) same);
          few_implications = ltb-false 4096 (get_or row 1 0) q;
          few_examples = ltb-false 4096 (get_or row 2 0) r;
        }

-- the second check: too many attributes, or the first number with one that is not there
pub too_many : (row : List ℕ) → 12 < attributes_in row → attribute_fault row ≡ Some TooManyAttributes
too_many row h = ap (λ (b : Bool). cond b (Some TooManyAttributes) (unknown_attribute row)) (lt-ltb 12 (attributes_in row) h)

pub few_enough : (row : List ℕ) (a b : Option ℕ) → attributes_in row ≤ 12 → a ≡ first_from (2 ^ attributes_in row) 3 (implication_part row)
    → b ≡ first_from (2 ^ attributes_in row) 8195 (example_part row) → attribute_fault row ≡ unknown_at a b
few_enough row a b h p q =
    ap (λ (x : Bool). cond x (Some TooManyAttributes) (unknown_attribute row)) (le-ltb 12 (attributes_in row) h) ∙ sym (λ j. unknown_at (p j) (q j))
