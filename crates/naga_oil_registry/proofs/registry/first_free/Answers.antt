use Rattle.std.proofs.Common.{◌≡◌, ◌∙◌, not, rules}
use borrow.Author.Tests.{tests}
use Rattle.std.specs.List.{position}
use Rattle.std.proofs.lemmas.Iterator.{YieldsList-from_slice}
use Rattle.std.proofs.lemmas.Iterator.Adapters.{position_from-zero}
use Rattle.std.proofs.lemmas.Iterator.Search.{position_from_yields_List}
use Rattle.naga_oil_registry.specs.Registry.{free_index}
use Rattle.naga_oil_registry.proofs.RegistryLemmas.{free-marked}
use Rattle.naga_oil_registry.proofs.registry.first_free.Goals as goal

pub returns : goal.returns
unfolding free_index
returns c = λ ds some marks.
    let found : c.position.result ≡ position (λ b. not b) c.args.marks.now = position_from_yields_List (λ b. not b) _ _ c.position.result c.position.ensures.ran (YieldsList-from_slice c.args.marks.now (search rules)) (λ x b q k. search (rules, tests)) in
    let h = marks some in
    found ∙ position_from-zero (λ b. not b) c.args.marks.now ∙ free-marked ds 2047 c.args.marks.now h.0 h.1
