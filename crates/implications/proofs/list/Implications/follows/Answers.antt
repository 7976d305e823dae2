use Rattle.std.proofs.Common.{◌≡◌, ℕ, List, sym, ap, ◌∙◌}
use Rattle.attributes.specs.Numbers.{set_in}
use Rattle.attributes.specs.Sets.{Set, subset}
use Rattle.contexts.specs.Contexts.{Implication}
use Rattle.contexts.specs.Values.{implication_at}
use Rattle.implications.specs.Values.{implications_in}
use Rattle.implications.proofs.Respects.{follows_by_closure}
use Rattle.implications.proofs.list.Implications.follows.Goals as goal

pub returns : goal.returns
returns c =
    let n : ℕ = c.args.self.now.n.value in
    let is : List Implication = implications_in n c.args.self.now.numbers.now in
    let i : Implication = implication_at n c.args.implication in
    let r : Set = set_in n c.close-closure.result.bits in
    let test : c.is_subset_of.result ≡ subset i.conclusion r =
    c.is_subset_of.ensures n c.within.ensures.bound ∙ ap (λ (s : Set). subset s r) c.within.ensures.value
    in
    let law = follows_by_closure n is i r c.close-closure.ensures.value in
    (λ h. law.follows (sym test ∙ h), λ f. test ∙ law.contains f)
