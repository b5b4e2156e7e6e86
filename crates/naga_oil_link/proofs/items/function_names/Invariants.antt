use Rattle.std.proofs.Common.{◌≡◌, drop, fold}
use Rattle.naga_oil_words.specs.Texts.{in_order, with_name, texts}
use Rattle.naga_oil_link.specs.Owned.{function_names, function_values}
use Rattle.naga_oil_link.proofs.items.function_names.Given as goal

abbrev pub invariant-loop-item : goal.invariant-loop-item
invariant-loop-item l = fold with_name (texts l.names.keys) (function_names (function_values (drop l.item-index l.item-items))) ≡ in_order (function_names (function_values l.functions))
