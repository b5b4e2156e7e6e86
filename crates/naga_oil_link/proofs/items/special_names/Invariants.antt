use Rattle.std.proofs.Common.{◌≡◌, drop, fold}
use Rattle.std.specs.List.{filter_map}
use Rattle.naga_oil_ir.specs.ModuleValue.{module_value}
use Rattle.naga_oil_words.specs.Texts.{in_order, with_name, texts}
use Rattle.naga_oil_link.specs.Owned.{special_names}
use Rattle.naga_oil_link.specs.Places.{name_in}
use Rattle.naga_oil_link.proofs.items.special_names.Given as goal

abbrev pub invariant-loop-handle : goal.invariant-loop-handle
invariant-loop-handle l = fold with_name (texts l.names.keys) (filter_map (λ e. name_in (module_value l.of).types e.1) (drop l.handle-index l.handle-items)) ≡ in_order (special_names (module_value l.of))
