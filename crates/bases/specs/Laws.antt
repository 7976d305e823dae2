-- What is proved of bases. Statements only; their proofs are owed by functions whose contracts they are.
use Rattle.std.specs.Prelude.{◌≡◌, ℕ, ◌≤◌, List, length, None}
use Rattle.std.specs.List.{AllByRecursion}
use Rattle.contexts.specs.Contexts.{Context, Implication}
use Rattle.implications.specs.Implications.{Over, Least}
use Rattle.dialogues.specs.Dialogue.{question, Answer}
use Rattle.dialogues.specs.Promise.{learnt, Honest}
use Rattle.comparisons.specs.Compared.{Equivalent}
use Rattle.bases.specs.Bases.{Base}

-- a list is the base of a context in the subject's words: no complete list is shorter, and every truthful exploration that ends confirms it
pub record ExploredBase (n : ℕ) (u : Context) (base : List Implication) : Type 0 where
  pub least : Least n u base
  pub explored : (answers : List Answer) → Honest n u answers → question n (learnt n answers) ≡ None → (learnt n answers).confirmed ≡ base

-- a list says the same as another, and no list that does is shorter
pub record Shortest (n : ℕ) (is base : List Implication) : Type 0 where
  pub same : Equivalent n is base
  pub fewest : (others : List Implication) → AllByRecursion (Over n) others → Equivalent n is others → length base ≤ length others

-- a context has one base
abbrev pub OneBase : Type 0
OneBase = (n : ℕ) (u : Context) (base other : List Implication) → Base n u base → Base n u other → base ≡ other
