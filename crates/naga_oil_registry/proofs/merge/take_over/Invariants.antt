use Rattle.std.proofs.Common.{◌≡◌, map, drop, fold}
use Rattle.std.specs.List.{flat_map}
use Rattle.naga_oil_words.specs.Texts.{with_name, texts}
use Rattle.naga_oil_registry.specs.Registered.{defs_of, definition_of}
use Rattle.naga_oil_registry.specs.Merged.{merged}
use Rattle.naga_oil_registry.proofs.merge.take_over.Given as goal

abbrev pub invariant-loop-definition : goal.invariant-loop-definition
invariant-loop-definition l = record {
  defs : merged (defs_of l.defs) (map (λ d. definition_of d.now) (drop l.definition-index l.imported)) ≡ merged (defs_of l.fn.defs) (map (λ d. definition_of d.now) l.imported);
  names : fold with_name (texts l.names.keys) (flat_map (λ d. (definition_of d.now).effective) (drop l.definition-index l.imported)) ≡ fold with_name (texts l.fn.names.keys) (flat_map (λ d. (definition_of d.now).effective) l.imported);
}
