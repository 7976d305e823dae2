-- The base of a context, and lists that say the same. Definitions only.
use Rattle.std.specs.Prelude.{◌≡◌, ℕ, List, [], ◌∷◌, ◌++◌, Some, None}
use Rattle.attributes.specs.Sets.{Set}
use Rattle.contexts.specs.Contexts.{Context, OfWidth, Implication, common}
use Rattle.dialogues.specs.Dialogue.{Knowledge, question}

-- what is known when these implications are confirmed and all objects of the context are named
abbrev pub knowing : Context → List Implication → Knowledge
knowing u is = record { confirmed = is; examples = u }

-- each of rs in turn is what is asked when is and those before it are confirmed, and then nothing is asked
abbrev pub AskedInTurn : ℕ → Context → List Implication → List Implication → Type 0
AskedInTurn n u is [] = question n (knowing u is) ≡ None
AskedInTurn n u is (r ∷ rs) = (question n (knowing u is) ≡ Some r) × AskedInTurn n u (is ++ r ∷ []) rs

-- the base of a context: what an exploration confirms that knows all its objects
abbrev pub Base : ℕ → Context → List Implication → Type 0
Base n u rs = AskedInTurn n u [] rs

-- what a set forces is what the objects of the context with its attributes have in common
abbrev pub CommonTo : ℕ → (Set → Set) → Context → Type 0
CommonTo n forced u = OfWidth n u × (forced ≡ common n u)
