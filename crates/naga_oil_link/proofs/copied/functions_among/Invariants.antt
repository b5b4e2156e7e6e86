use Rattle.std.proofs.Common.{◌≡◌, All, take}
use Rattle.naga_oil_words.specs.Texts.{texts}
use Rattle.naga_oil_link.specs.CopiedBuild.{functions_among}
use Rattle.naga_oil_link.specs.CopySources.{IsFunctionOf, shown_functions}
use Rattle.naga_oil_link.specs.Owned.{function_values}
use Rattle.naga_oil_link.proofs.copied.functions_among.Given as goal

abbrev pub invariant-loop-item : goal.invariant-loop-item
invariant-loop-item l = record {
  there : All (λ f. IsFunctionOf l.source f.now) l.functions.items;
  functions : shown_functions l.functions.items ≡ functions_among (texts l.names.keys) (function_values (take l.item-index l.item-items));
}
