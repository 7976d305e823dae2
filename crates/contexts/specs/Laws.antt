-- What is proved of contexts. Statements only; their proofs are owed by functions whose contracts they are.
use Rattle.std.specs.Prelude.{◌≡◌, ℕ, true, length}
use Rattle.attributes.specs.Sets.{Set, subset}
use Rattle.contexts.specs.Contexts.{Context, Implication, common, holds}

-- common attributes are a closure: they contain those asked with, asking with them adds nothing, and more have more in common
pub record CommonLaws (n : ℕ) (t : Context) : Type 0 where
  pub contains : (s : Set) → length s ≡ n → subset s (common n t s) ≡ true
  pub idempotent : (s : Set) → length s ≡ n → common n t (common n t s) ≡ common n t s
  pub monotone : (s r : Set) → length s ≡ n → length r ≡ n → subset s r ≡ true → subset (common n t s) (common n t r) ≡ true

-- an implication holds exactly if its conclusion is among the attributes that the objects with its premise have in common
abbrev pub HoldsByCommon : ℕ → Context → Type 0
HoldsByCommon n t = (i : Implication) → length i.conclusion ≡ n → holds t i ≡ subset i.conclusion (common n t i.premise)
