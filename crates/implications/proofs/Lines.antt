-- The text of a list of implications, written line by line. Assumes nothing.
use Rattle.std.proofs.Common.{◌≡◌, ℕ, ◌^◌, ◌<◌, ◌≤◌, List, [], ◌∷◌, ◌++◌, codes, sym, refl, rules, ap, ◌∙◌, append_assoc, append-nil}
use Rattle.std.specs.Fmt.{IsPlainFormatter, HasWritten}
use Rattle.std.specs.declared.fmt.Formatter.{Formatter}
use Rattle.std.proofs.Output.{has_written_append, has_written_of_eq}
use Rattle.attributes.specs.Numbers.{set_in}
use Rattle.attributes.specs.Text.{written}
use Rattle.attributes.proofs.Text.{written_wide}
use Rattle.contexts.specs.Contexts.{Implication}
use Rattle.implications.specs.Text.{line, lines}

lines_push : (is : List Implication) (i : Implication) → lines (is ++ i ∷ []) ≡ lines is ++ line i
unfolding lines
lines_push [] i = append-nil (line i)
lines_push (j ∷ is) i = ap (λ (text : List ℕ). line j ++ text) (lines_push is i) ∙ sym (append_assoc (line j) (lines is) (line i))

-- the text of an implication whose numbers have no attribute past the first n
pub line_is : (n p c : ℕ) (i : Implication) → n ≤ 16 → p < 2 ^ n → c < 2 ^ n → record { premise = set_in n p; conclusion = set_in n c } ≡ i
    → (written (set_in 16 p) ++ (codes ": " ++ written (set_in 16 c))) ++ codes "\n" ≡ line i
line_is n p c i h small_p small_c e =
    (λ j. (written_wide n 16 p h small_p j ++ (codes ": " ++ written_wide n 16 c h small_c j)) ++ codes "\n") ∙ ap line e

-- the lines of the implications before those left are written
pub record Lines {W : Type 0} (took : W → List ℕ → W → Type 0) (is : List Implication) (f₀ f : Formatter W) (left : List Implication) : Type 0 where
  pub done : List Implication
  pub whole : is ≡ done ++ left
  pub written : IsPlainFormatter f₀ → HasWritten took f₀ (lines done) f

-- at first none are
pub lines_none : {W : Type 0} (took : W → List ℕ → W → Type 0) (is : List Implication) (f : Formatter W) → Lines took is f f is
unfolding lines
lines_none took is f = record { done = []; whole = refl; written = λ plain. search rules }

module _ {W : Type 0} (took : W → List ℕ → W → Type 0) (is : List Implication) (f₀ f : Formatter W) (left : List Implication) (so_far : Lines took is f₀ f left) where
  pub lines_more : (g : Formatter W) (text : List ℕ) (i : Implication) (rest : List Implication) → left ≡ i ∷ rest → text ≡ line i → (IsPlainFormatter f → HasWritten took f text g) → Lines took is f₀ g rest
  lines_more g text i rest first e put =
      record {
        done = so_far.done ++ i ∷ [];
        whole = so_far.whole ∙ ap (λ (l : List Implication). so_far.done ++ l) first ∙ sym (append_assoc so_far.done (i ∷ []) rest);
        written = λ plain.
            let before = so_far.written plain in
            has_written_of_eq took f₀ (lines so_far.done ++ text) (lines (so_far.done ++ i ∷ [])) g (ap (λ (l : List ℕ). lines so_far.done ++ l) e ∙ sym (lines_push so_far.done i))
            (has_written_append took f₀ (lines so_far.done) f text g before (put before.plain));
      }

  pub lines_all : left ≡ [] → IsPlainFormatter f₀ → HasWritten took f₀ (lines is) f
  lines_all none plain =
      has_written_of_eq took f₀ (lines so_far.done) (lines is) f (ap lines (sym (so_far.whole ∙ ap (λ (l : List Implication). so_far.done ++ l) none ∙ append-nil so_far.done))) (so_far.written plain)
