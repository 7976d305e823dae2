-- The loop that writes a base: what it keeps, how it begins, what a turn adds, and how it ends. Assumes nothing.
use Rattle.std.proofs.Common.{◌≡◌, ℕ, ◌+◌, ◌*◌, ◌^◌, ◌<◌, ◌≤◌, List, [], ◌∷◌, ◌++◌, length, get_or, take, drop, set, Some, None, Option, sym, refl, ap, ◌∙◌, subst, append_assoc, append-nil, arith, pow_mono}
use Rattle.std.specs.Option.{option_map}
use Rattle.std.specs.List.{AllByRecursion}
use Rattle.std.proofs.lemmas.List.{drop_more, length_push, set_at, take_at}
use Rattle.std.proofs.lemmas.List.Concat.{flat_map-append}
use Rattle.std.proofs.lemmas.Option.{none-some, same_Some}
use Rattle.attributes.specs.Numbers.{set_in}
use Rattle.attributes.specs.Sets.{Set}
use Rattle.attributes.proofs.Numbers.{number_of_set_in, set_in_back}
use Rattle.contexts.specs.Contexts.{Context, OfWidth, Implication, common}
use Rattle.contexts.specs.Values.{implication_at}
use Rattle.contexts.specs.declared.implication.Implication.{Implication as Pair}
use Rattle.implications.specs.Implications.{Over}
use Rattle.implications.specs.Values.{implications_in}
use Rattle.premises.specs.Open.{about, first_open, first_open_from}
use Rattle.premises.proofs.From.{from_empty, search_may_begin}
use Rattle.dialogues.specs.Dialogue.{question}
use Rattle.dialogues.proofs.Asked.{Asks, asks, none_asked}
use Rattle.dialogues.proofs.Run.{Run, run_bound, run_push}
use Rattle.bases.specs.Bases.{knowing, CommonTo}
use Rattle.bases.specs.Rows.{two_numbers, numbers_of, WrittenPart}
use Rattle.bases.proofs.Asked.{run_over, run_turn}

pub length_numbers : (is : List Implication) → length (numbers_of is) ≡ 2 * length is
length_numbers [] = refl
length_numbers (i ∷ is) = omega (arith, length_numbers is)

-- a list is read back from its numbers
pub numbers_back : (n : ℕ) (is : List Implication) → AllByRecursion (Over n) is → implications_in n (numbers_of is) ≡ is
unfolding implications_in
numbers_back n [] over = refl
numbers_back n (i ∷ is) over = λ j. record { premise = set_in_back n i.premise over.0.0 j; conclusion = set_in_back n i.conclusion over.0.1 j } ∷ numbers_back n is over.1 j

-- two numbers written behind others
two_more : (xs before : List ℕ) (k p c : ℕ) → length xs ≡ 2 * k → 2 * k + 2 ≤ length before
    → set (set (xs ++ drop (2 * k) before) (2 * k) p) (2 * k + 1) c ≡ (xs ++ (p ∷ (c ∷ []))) ++ drop (2 * (k + 1)) before
two_more xs before k p c e room =
    let first : drop (2 * k) before ≡ get_or before (2 * k) 0 ∷ drop (2 * k + 1) before = drop_more before (2 * k) 0 (omega arith) in
    let second : drop (2 * k + 1) before ≡ get_or before (2 * k + 1) 0 ∷ drop (2 * k + 1 + 1) before = drop_more before (2 * k + 1) 0 (omega arith) in
    let on : 2 * k + 1 + 1 ≡ 2 * (k + 1) = omega arith in
    let rest : List ℕ = drop (2 * (k + 1)) before in
    ap (λ (tail : List ℕ). set (set (xs ++ tail) (2 * k) p) (2 * k + 1) c) first
    ∙ ap (λ (row : List ℕ). set row (2 * k + 1) c) (set_at xs (get_or before (2 * k) 0) (drop (2 * k + 1) before) p (2 * k) e)
    ∙ ap (λ (tail : List ℕ). set (xs ++ p ∷ tail) (2 * k + 1) c) (second ∙ ap (λ (m : ℕ). get_or before (2 * k + 1) 0 ∷ drop m before) on)
    ∙ ap (λ (row : List ℕ). set row (2 * k + 1) c) (sym (append_assoc xs (p ∷ []) (get_or before (2 * k + 1) 0 ∷ rest)))
    ∙ set_at (xs ++ p ∷ []) (get_or before (2 * k + 1) 0) rest c (2 * k + 1) (omega (arith, length_push xs p))
    ∙ append_assoc xs (p ∷ []) (c ∷ rest)
    ∙ sym (append_assoc xs (p ∷ (c ∷ [])) rest)

premise_found : (forced : Set → Set) (o : Option Set) (q : Implication) → option_map (about forced) o ≡ Some q → o ≡ Some q.premise
premise_found forced None q e = absurd (none-some q e)
premise_found forced (Some s) q e = ap (λ (i : Implication). Some i.premise) (same_Some (about forced s) q e)

-- once what is asked is confirmed, the next search may begin at its premise
search_on : (n : ℕ) (u : Context) → OfWidth n u → (is : List Implication) (q : Implication) → question n (knowing u is) ≡ Some q
    → first_open n (common n u) (is ++ q ∷ []) ≡ first_open_from n (common n u) (is ++ q ∷ []) q.premise
unfolding question
search_on n u wide is q e =
    subst (λ (t : Context). first_open n (common n t) (is ++ q ∷ []) ≡ first_open_from n (common n t) (is ++ q ∷ []) q.premise) (append-nil u)
    (search_may_begin n u [] is (q ∷ []) q.premise (rw append-nil wide) (premise_found (common n u) (first_open n (common n u) is) q e))

-- so many implications of the base are written to a part, and the next search may begin at a set
pub record Writing (n : ℕ) (u : Context) (before now : List ℕ) (count from : ℕ) : Type 0 where
  pub so_far : List Implication
  pub counted : length so_far ≡ count
  pub run : Run n u [] so_far
  pub part : now ≡ numbers_of so_far ++ drop (2 * count) before
  pub begins : first_open_from n (common n u) so_far (set_in n from) ≡ first_open n (common n u) so_far

-- what is asked next, if no set before `from` is open
abbrev asked_from : ℕ → (Set → Set) → List Implication → Set → Option Implication
asked_from n forced is from = option_map (about forced) (first_open_from n forced is from)

pub writing_none : (n : ℕ) (u : Context) (before : List ℕ) → Writing n u before before 0 0
writing_none n u before = record { so_far = []; counted = refl; run = tt; part = refl; begins = from_empty n (common n u) [] }

module _ {n : ℕ} {u : Context} {forced : Set → Set} (objects : CommonTo n forced u) {before now : List ℕ} {count from : ℕ} (w : Writing n u before now count from) where
  filled : length (numbers_of w.so_far) ≡ 2 * count
  filled = omega (arith, length_numbers w.so_far, w.counted)

  -- what is written is read back, and so what is found is what is asked
  read_back : implications_in n (take (2 * count) now) ≡ w.so_far
  read_back =
      ap (λ (row : List ℕ). implications_in n (take (2 * count) row)) w.part
      ∙ ap (implications_in n) (take_at (numbers_of w.so_far) (drop (2 * count) before) (2 * count) filled)
      ∙ numbers_back n w.so_far (run_over n u objects.0 w.so_far w.run)

  asked_next : asked_from n forced (implications_in n (take (2 * count) now)) (set_in n from) ≡ question n (knowing u w.so_far)
  unfolding question
  asked_next =
      (λ j. asked_from n (objects.1 j) (read_back j) (set_in n from))
      ∙ ap (option_map (about (common n u))) w.begins

  pub writing_end : None ≡ asked_from n forced (implications_in n (take (2 * count) now)) (set_in n from) → WrittenPart n u count before now
  writing_end e =
      record {
        base = w.so_far;
        is_base = run_turn n u [] w.so_far w.run (none_asked n w.so_far u (sym (e ∙ asked_next)));
        counted = w.counted;
        part = w.part ∙ ap (λ (k : ℕ). numbers_of w.so_far ++ drop (2 * k) before) (sym w.counted);
      }

  module _ (asked : Pair) (e : Some (implication_at n asked) ≡ asked_from n forced (implications_in n (take (2 * count) now)) (set_in n from)) where
    q : Implication
    q = implication_at n asked

    found : Asks n w.so_far u q
    unfolding q
    found = asks n w.so_far u q (sym (e ∙ asked_next))

    more : Run n u [] (w.so_far ++ q ∷ [])
    more = run_push n u [] w.so_far q w.run found

    -- there are no more than 2 ^ n
    pub writing_below : count < 2 ^ n
    writing_below = omega (arith, run_bound n u [] (w.so_far ++ q ∷ []) more, length_push w.so_far q, w.counted)

    pub writing_few : n ≤ 12 → count < 4096
    writing_few few = let most : 2 ^ n ≤ 4096 = pow_mono {j = 12} few in omega (arith, writing_below)

    pub writing_more : asked.premise.bits < 2 ^ n → asked.conclusion.bits < 2 ^ n → 2 * count + 2 ≤ length before
        → Writing n u before (set (set now (2 * count) asked.premise.bits) (2 * count + 1) asked.conclusion.bits) (count + 1) asked.premise.bits
    unfolding q
    writing_more small_p small_c room =
        let p : ℕ = asked.premise.bits in
        let c : ℕ = asked.conclusion.bits in
        record {
          so_far = w.so_far ++ q ∷ [];
          counted = omega (arith, length_push w.so_far q, w.counted);
          run = more;
          part =
              ap (λ (row : List ℕ). set (set row (2 * count) p) (2 * count + 1) c) w.part
              ∙ two_more (numbers_of w.so_far) before count p c filled room
              ∙ ap (λ (row : List ℕ). row ++ drop (2 * (count + 1)) before)
              (sym (flat_map-append two_numbers w.so_far (q ∷ []) ∙ (λ j. numbers_of w.so_far ++ (number_of_set_in n p small_p j ∷ (number_of_set_in n c small_c j ∷ [])))));
          begins = sym (search_on n u objects.0 w.so_far q (sym (e ∙ asked_next)));
        }
