use Rattle.std.proofs.Common.{◌≡◌, fold}
use Rattle.std.specs.List.{flat_map}
use Rattle.naga_oil_words.specs.Texts.{with_name, in_order, texts}
use Rattle.naga_oil_link.specs.BuiltModule.{built_of}
use Rattle.naga_oil_link.specs.Linked.{overriding_names}
use Rattle.naga_oil_link.proofs.link.overriding.Given as goal

abbrev pub invariant-loop-others : goal.invariant-loop-others
invariant-loop-others l = fold with_name (texts l.names.keys) (flat_map (λ v. texts v.items) l.others-iterator) ≡ in_order (overriding_names (built_of l.of))
