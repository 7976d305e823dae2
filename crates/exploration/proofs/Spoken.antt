-- Truthful answers, as numbers to a row: none is refused, and the row knows what was said. Assumes nothing.
use Rattle.std.proofs.Common.{◌≡◌, ℕ, ◌*◌, ◌^◌, ◌<◌, ◌≤◌, Bool, true, false, cond, not, ◌&&◌, eqb, List, [], ◌∷◌, ◌++◌, length, get_or, drop, is_ok, Some, None, Ok, Err, Option, Result, sym, refl, ap, ◌∙◌, subst, arith}
use Rattle.std.proofs.lemmas.List.{length-take-le, length-drop, length-map}
use Rattle.std.proofs.lemmas.Bool.{and_parts, eqb-true, lt-ltb, not-true}
use Rattle.std.specs.Option.{option_map}
use Rattle.std.specs.List.{AllByRecursion}
use Rattle.attributes.specs.Numbers.{set_in, number_of}
use Rattle.attributes.specs.Sets.{Set}
use Rattle.attributes.specs.declared.set.AttributeSet.{AttributeSet}
use Rattle.attributes.proofs.Numbers.{number_of_below, set_in_back}
use Rattle.contexts.specs.Contexts.{Context, OfWidth, Implication, respects}
use Rattle.contexts.specs.Values.{implication_at, pair_of}
use Rattle.implications.specs.Implications.{respects_all}
use Rattle.implications.proofs.Repairs.{implications_length}
use Rattle.exploration.specs.Answers.{RoomFor, checked_answer, counts_in, judged, judged_given, judged_row, named_if_room, row_after, unless_fault, written, StepBounded}
use Rattle.dialogues.specs.Dialogue.{Knowledge, Answer, always, object, question, taken, with_answer, after, after_all, TrueAnswer, Truthful, nothing_known}
use Rattle.dialogues.specs.Promise.{Room, learnt, Explored}
use Rattle.exploration.specs.Row.{attribute_fault, attributes_in, asked_in, checked_row, example_part, fault_or, implication_part, known_in, opened}
use Rattle.exploration.specs.Turns.{DialogueHeld, PromiseKept, Told, answers_in, code, encoded, row_after_all, turns_of}
use Rattle.exploration.specs.declared.answer.Answer.{Answer as Given}
use Rattle.exploration.specs.declared.answer.Answer.TheVariants.{Always, Object}
use Rattle.replies.specs.declared.turn.Step.{Step}
use Rattle.replies.specs.declared.turn.Step.TheVariants.{Confirm, Name}
use Rattle.exploration.specs.declared.dialogue.NotHeld.{NotHeld}
use Rattle.replies.specs.declared.turn.Turn.{Turn}
use Rattle.replies.specs.declared.reply.Refusal.TheVariants.{NoRoomForExample, NoRoomForImplication, UnknownAttributeNamed}
use Rattle.exploration.specs.declared.counts.Counts.{Counts}
use Rattle.dialogues.proofs.Asked.{asks, asks_concluded}
use Rattle.dialogues.proofs.Bounds.{room_taken}
use Rattle.exploration.proofs.Broken.{object_taken}
use Rattle.exploration.proofs.Clean.{clean_step}
use Rattle.dialogues.proofs.Finish.{main_promise, nothing_fits}
use Rattle.exploration.proofs.Opening.{is_open_row}
use Rattle.dialogues.proofs.Reached.{Reached, reached_after, reached_learnt}
use Rattle.exploration.proofs.Rows.{counted}
use Rattle.exploration.proofs.Taken.{counts_are, learnt_from, stepped}
use Rattle.dialogues.proofs.Truth.{Fits, takes, after_true, fits_after}

-- a row that passes its checks, and what it knows
pub record Ready (n : ℕ) (row : List ℕ) (k : Knowledge) : Type 0 where
  pub tally : Counts
  pub counts : checked_row row ≡ Ok tally
  pub width : attributes_in row ≡ n
  pub clean : attribute_fault row ≡ None
  pub known : known_in row ≡ k

-- a set of n attributes is what its number stands for, and so is an implication

pub pair_back : (n : ℕ) (q : Implication) → length q.premise ≡ n → length q.conclusion ≡ n → implication_at n (pair_of q) ≡ q
pair_back n q a b = λ j. record { premise = set_in_back n q.premise a j; conclusion = set_in_back n q.conclusion b j }

below : (n : ℕ) (s : Set) → length s ≡ n → number_of s < 2 ^ n
below n s e = subst (λ (m : ℕ). number_of s < 2 ^ m) e (number_of_below s)

-- an object's own numbers are read back
pub coded : (n : ℕ) (s : Set) → length s ≡ n → checked_answer n (code (object s)) ≡ Ok (Object (record { bits = number_of s }))
coded n s w = ap (λ (b : Bool). cond b (Ok (Object (record { bits = number_of s }))) (Err UnknownAttributeNamed)) (lt-ltb (number_of s) (2 ^ n) (below n s w))

-- the counts of a row are those of what it knows
module _ (n : ℕ) (row : List ℕ) (k : Knowledge) (ready : Ready n row k) where
  count_implications : get_or row 1 0 ≡ length k.confirmed
  count_implications =
      let c = counted row ready.tally ready.counts in
      let part : length (implication_part row) ≡ 2 * get_or row 1 0 = length-take-le (2 * get_or row 1 0) (drop 3 row) (omega (arith, length-drop 3 row, c.long, c.few_implications)) in
      omega (arith, implications_length (attributes_in row) (implication_part row), ap (λ (x : Knowledge). length x.confirmed) ready.known)

  count_examples : get_or row 2 0 ≡ length k.examples
  count_examples =
      let c = counted row ready.tally ready.counts in
      let part : length (example_part row) ≡ get_or row 2 0 = length-take-le (get_or row 2 0) (drop 8195 row) (omega (arith, length-drop 8195 row, c.long, c.few_examples)) in
      omega (arith, length-map (example_part row) (set_in (attributes_in row)), ap (λ (x : Knowledge). length x.examples) ready.known)

  -- what is judged about it is judged about what it knows
  pub judged_known : (a : List ℕ) → judged_row row a ≡ judged_given n k.confirmed (counts_in row) (option_map pair_of (question n k)) (checked_answer n a)
  judged_known a =
      (λ j. unless_fault (fault_or (ready.counts j) (ready.clean j)) (judged_given (attributes_in row) (known_in row).confirmed (counts_in row) (asked_in row) (checked_answer (attributes_in row) a)))
      ∙ (λ j. judged_given (ready.width j) (ready.known j).confirmed (counts_in row) (option_map pair_of (question (ready.width j) (ready.known j))) (checked_answer (ready.width j) a))

-- what an answer that is taken does
abbrev pub step_of : Implication → Answer → Step
step_of q always = Confirm (pair_of q)
step_of q (object s) = Name (record { bits = number_of s })

-- an object that is taken has n attributes, breaks what is asked, and respects what is confirmed
record Good (n : ℕ) (k : Knowledge) (q : Implication) (s : Set) : Type 0 where
  wide : length s ≡ n
  breaks : respects s q ≡ false
  fits : respects_all s k.confirmed ≡ true

good : (n : ℕ) (k : Knowledge) (q : Implication) (s : Set) → taken n k (Some q) (object s) ≡ true → Good n k q s
good n k q s t =
    let a = and_parts (eqb (length s) n) (not (respects s q) && respects_all s k.confirmed) t in
    let b = and_parts (not (respects s q)) (respects_all s k.confirmed) a.1 in
    record { wide = eqb-true (length s) n a.0; breaks = not-true (respects s q) b.0; fits = b.1 }

module _ (n : ℕ) (row : List ℕ) (k : Knowledge) (ready : Ready n row k) (q : Implication) (asked : question n k ≡ Some q) (wide_p : length q.premise ≡ n) (wide_c : length q.conclusion ≡ n) where
  judged_asked : (a : Answer) (g : Given) → checked_answer n (code a) ≡ Ok g → judged_row row (code a) ≡ judged n k.confirmed (counts_in row) (Some (pair_of q)) g
  judged_asked a g e =
      judged_known n row k ready (code a)
      ∙ (λ j. judged_given n k.confirmed (counts_in row) (option_map pair_of (asked j)) (e j))

  pub judged_step : (a : Answer) → taken n k (Some q) a ≡ true → Room k a → judged_row row (code a) ≡ Ok (step_of q a)
  judged_step always t room =
      judged_asked always Always refl
      ∙ ap (λ (b : Bool). cond b (Ok (Confirm (pair_of q))) (Err NoRoomForImplication)) (lt-ltb (get_or row 1 0) 4096 (omega (arith, count_implications n row k ready)))
  judged_step (object s) t room =
      let g = good n k q s t in
      let back : set_in n (number_of s) ≡ s = set_in_back n s g.wide in
      let object_is : AttributeSet = record { bits = number_of s } in
      judged_asked (object s) (Object object_is) (coded n s g.wide)
      ∙ ap (named_if_room (counts_in row))
      (sym (object_taken n k.confirmed (pair_of q) object_is ((λ j. respects (back j) (pair_back n q wide_p wide_c j)) ∙ g.breaks) (ap (λ (x : Set). respects_all x k.confirmed) back ∙ g.fits)))
      ∙ ap (λ (b : Bool). cond b (Ok (Name object_is)) (Err NoRoomForExample)) (lt-ltb (get_or row 2 0) 4096 (omega (arith, count_examples n row k ready)))

  step_room : (a : Answer) → Room k a → RoomFor ready.tally (step_of q a)
  step_room always room = let c = counted row ready.tally ready.counts in omega (arith, c.implications, count_implications n row k ready)
  step_room (object s) room = let c = counted row ready.tally ready.counts in omega (arith, c.examples, count_examples n row k ready)

  step_bounded : (a : Answer) → taken n k (Some q) a ≡ true → StepBounded n (step_of q a)
  step_bounded always t = (below n q.premise wide_p, below n q.conclusion wide_c)
  step_bounded (object s) t = below n s (good n k q s t).wide

  step_learns : (a : Answer) → taken n k (Some q) a ≡ true → learnt_from n k (step_of q a) ≡ with_answer k (Some q) a
  step_learns always t = ap (λ (i : Implication). record { confirmed = k.confirmed ++ i ∷ []; examples = k.examples }) (pair_back n q wide_p wide_c)
  step_learns (object s) t = ap (λ (x : Set). record { confirmed = k.confirmed; examples = k.examples ++ x ∷ [] }) (set_in_back n s (good n k q s t).wide)

  -- so it is taken by the row, which then knows it too
  pub ready_step : (a : Answer) → taken n k (Some q) a ≡ true → Room k a → Ready n (row_after row (judged_row row (code a))) (with_answer k (Some q) a)
  ready_step a t room =
      let step : Step = step_of q a in
      let fits : RoomFor ready.tally step = step_room a room in
      let after = stepped row ready.tally step ready.counts fits in
      let row_is : row_after row (judged_row row (code a)) ≡ written row ready.tally step =
      ap (row_after row) (judged_step a t room) ∙ ap (λ (c : Counts). written row c step) (sym (counts_are row ready.tally ready.counts))
      in
      let there : Ready n (written row ready.tally step) (with_answer k (Some q) a) =
      record {
        tally = _;
        counts = after.counts_then;
        width = after.width ∙ ready.width;
        clean = clean_step row ready.tally step ready.counts fits (subst (λ (m : ℕ). StepBounded m step) (sym ready.width) (step_bounded a t)) ready.clean;
        known = after.known ∙ (λ j. learnt_from (ready.width j) (ready.known j) step) ∙ step_learns a t;
      }
      in
      subst (λ (r : List ℕ). Ready n r (with_answer k (Some q) a)) (sym row_is) there

first_code : (a : Answer) (said : List Answer) → answers_in (encoded (a ∷ said)) ≡ code a ∷ answers_in (encoded said)
unfolding answers_in encoded
first_code always said = refl
first_code (object s) said = refl

-- what is left after truthful answers
record Left (n : ℕ) (k : Knowledge) (turns : List Turn) (row : List ℕ) : Type 0 where
  taken : AllByRecursion (λ (t : Turn). is_ok t.outcome ≡ true) turns
  ready : Ready n row k

module _ (n : ℕ) (few : n ≤ 12) (yard : Context) (wide : OfWidth n yard) where
  -- one truthful answer
  record StepTaken (k : Knowledge) (a : Answer) (row : List ℕ) : Type 0 where
    accepted : is_ok (judged_row row (code a)) ≡ true
    ready : Ready n (row_after row (judged_row row (code a))) (after n k a)

  one : (k : Knowledge) (row : List ℕ) (a : Answer) → Ready n row k → Reached n [] k → Fits yard k → TrueAnswer yard (question n k) a → StepTaken k a row
  one k row a ready reached fits t = go (question n k) refl
    where
      go : (o : Option Implication) → question n k ≡ o → StepTaken k a row
      go None e = absurd (subst (λ (o : Option Implication). TrueAnswer yard o a) e t)
      go (Some q) e =
          let about = asks n k.confirmed k.examples q e in
          let wide_c = asks_concluded n k.examples reached.wide k.confirmed q about in
          let is_taken = takes n yard wide k fits (Some q) a (subst (λ (o : Option Implication). TrueAnswer yard o a) e t) in
          let room : Room k a = room_taken n k a few reached (takes n yard wide k fits (question n k) a t) in
          record {
            accepted = ap is_ok (judged_step n row k ready q e about.wide wide_c a is_taken room);
            ready =
                subst (Ready n (row_after row (judged_row row (code a)))) (sym (after_true n yard wide k fits a t ∙ ap (λ (o : Option Implication). with_answer k o a) e))
                (ready_step n row k ready q e about.wide wide_c a is_taken room);
          }

  all_said : (said : List Answer) (k : Knowledge) (row : List ℕ) → Ready n row k → Reached n [] k → Fits yard k → Truthful n yard k said
      → Left n (after_all n k said) (turns_of row (answers_in (encoded said))) (row_after_all row (answers_in (encoded said)))
  unfolding turns_of row_after_all answers_in encoded after_all Truthful
  all_said [] k row ready reached fits t = record { taken = tt; ready = ready }
  all_said (a ∷ said) k row ready reached fits t =
      let here = one k row a ready reached fits t.0 in
      let later = all_said said (after n k a) (row_after row (judged_row row (code a))) here.ready (reached_after n [] k reached a) (fits_after n yard wide k fits a t.0) t.1 in
      let whole : Left n (after_all n (after n k a) said) (turns_of row (code a ∷ answers_in (encoded said))) (row_after_all row (code a ∷ answers_in (encoded said))) =
      record { taken = (here.accepted, later.taken); ready = later.ready }
      in
      subst (λ (as' : List (List ℕ)). Left n (after_all n (after n k a) said) (turns_of row as') (row_after_all row as')) (sym (first_code a said)) whole

-- the promise on a whole dialogue
pub promise_kept : (n : ℕ) (row answers : List ℕ) (r : Result Told NotHeld) (row₁ : List ℕ) → DialogueHeld n row answers r row₁ → PromiseKept n answers r row₁
unfolding after_all
promise_kept n row answers (Err reason) row₁ held = tt
promise_kept n row answers (Ok all) row₁ held = λ yard said honest is_said.
    let o = is_open_row n row held.opens in
    let start : Ready n (opened n row) nothing_known = record { tally = counts_in (opened n row); counts = o.counts; width = o.width; clean = o.clean; known = o.known } in
    let left = all_said n o.few yard honest.wide said nothing_known (opened n row) start (reached_learnt n []) (nothing_fits yard) honest.truthful in
    let turns_are : all.turns ≡ turns_of (opened n row) (answers_in (encoded said)) = held.turns ∙ ap (λ (xs : List ℕ). turns_of (opened n row) (answers_in xs)) is_said in
    let row_is : row₁ ≡ row_after_all (opened n row) (answers_in (encoded said)) = held.left ∙ ap (λ (xs : List ℕ). row_after_all (opened n row) (answers_in xs)) is_said in
    let known_is : known_in row₁ ≡ learnt n said = ap known_in row_is ∙ left.ready.known in
    record {
      taken = subst (AllByRecursion (λ (t : Turn). is_ok t.outcome ≡ true)) (sym turns_are) left.taken;
      known = known_is;
      explored = λ none. subst (Explored n yard) (sym known_is) (main_promise n yard said honest (ap (question n) (sym known_is) ∙ none));
    }
