use Rattle.std.proofs.Common.{◌≡◌, ◌++◌, ℕ, List, map, Some, OnOk, subst}
use Rattle.naga_oil_words.specs.Texts.{in_order, texts}
use Rattle.naga_oil_imports.specs.Uses.{import_of}
use Rattle.naga_oil_link.specs.BuiltModule.{built_of}
use Rattle.naga_oil_link.specs.Linked.{link_items}
use Rattle.naga_oil_link.proofs.link.Linker.link_asked.Goals as goal

pub returns-clause-value : goal.returns-clause-value
returns-clause-value c =
    let b = built_of c.args.build.now in
    let s = c.args.self.now in
    let same : in_order (map (λ item. item ++ c.as_str.result.now) (texts c.deref.result.now)) ≡ in_order (map (λ item. item ++ b.decoration) (import_of c.args.import.now).items) = λ k. in_order (map (λ item. item ++ c.as_str.ensures.value k) (texts (c.deref.ensures.value k))) in
    subst (λ (names : List (List ℕ)). OnOk c.link_items.result (c.link_items.new.self.derived ≡ link_items s.of_headers b (Some names) s.derived)) same c.link_items.ensures.value
