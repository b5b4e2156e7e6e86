use Rattle.std.proofs.Common.{◌≡◌, fold, slice_get}
use Rattle.naga_oil_ir.specs.ModuleValue.{module_value}
use Rattle.naga_oil_link.specs.BuiltModule.{built_of}
use Rattle.naga_oil_words.specs.Texts.{texts}
use Rattle.naga_oil_link.specs.CopiedBuild.{AreAmong}
use Rattle.naga_oil_link.specs.CopySources.{CopiesFrom}
use Rattle.naga_oil_link.specs.LinkView.{link_own_function}
use Rattle.naga_oil_link.proofs.link.Linker.link_functions.Given as goal

abbrev pub invariant-loop-at : goal.invariant-loop-at
invariant-loop-at l = record {
  among : AreAmong (texts l.of.of.now.owned_functions.keys) (texts l.next);
  source : CopiesFrom l.of.from.now l.self.derived;
  value : fold (λ d k. link_own_function (built_of l.of.of.now) d (slice_get (module_value l.of.from.now).functions k)) l.self.derived l.at-iterator ≡ fold (λ d k. link_own_function (built_of l.of.of.now) d (slice_get (module_value l.of.from.now).functions k)) l.fn.self.derived l.initial.at-iterator;
  rest : l.self ≡ record l.fn.self { derived = l.self.derived };
}
