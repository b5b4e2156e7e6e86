use Rattle.std.proofs.Common.{◌≡◌, ◌++◌, map, fold, take, drop}
use Rattle.naga_oil_words.specs.Texts.{texts}
use Rattle.naga_oil_link.specs.Owned.{function_values, function_texts, owned_function, with_owned}
use Rattle.naga_oil_link.proofs.items.own_functions.Given as goal

abbrev pub invariant-loop-item : goal.invariant-loop-item
invariant-loop-item l = record {
  items : function_values (take l.item-index l.item-items) ++ map (owned_function l.suffix) (function_values (drop l.item-index l.item-items)) ≡ map (owned_function l.suffix) (function_values l.fn.of);
  owned : fold (with_owned l.suffix) (texts l.owned.keys) (function_texts (function_values (drop l.item-index l.item-items))) ≡ fold (with_owned l.suffix) (texts l.fn.owned.keys) (function_texts (function_values l.fn.of));
}
