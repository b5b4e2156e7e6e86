use Rattle.std.proofs.Common.{Bor, refl, sym, subst, ◌∙◌, arith}
use Rattle.naga_oil_ir.specs.declared.module.Function.{Function}
use Rattle.naga_oil_ir.specs.declared.span.Span.{Span}
use Rattle.naga_oil_link.specs.CopiedBuild.{with_function}
use Rattle.naga_oil_link.specs.CopySources.{IsFunctionOf, shown_function}
use Rattle.naga_oil_link.proofs.CopiedLemmas.{value_more}
use Rattle.naga_oil_link.proofs.copied.OwnCopies.copy_functions.Goals as goal

pub copy_function-requires-clause-function : goal.copy_function-requires-clause-function
copy_function-requires-clause-function c = subst (λ (f : Bor (Function × Span)). IsFunctionOf c.args.source.now f.now) (sym c.item-item.is) (c.requires.functions c.loop-item.item-index c.item-item.result (omega arith))

pub loop-item-init : goal.loop-item-init
loop-item-init c = record { source = c.requires.source; value = refl; own = refl }

pub loop-item-preserved : goal.loop-item-preserved
loop-item-preserved c = record {
  source = c.copy_function.ensures.source;
  value = value_more (λ (f : Bor (Function × Span)). shown_function f.now) with_function _ _ c.loop-item.item-index c.item-item.result (omega arith) c.item-item.is _ _ c.loop-item.invariant.value c.in_ok-copy_function.ensures.value;
  own = c.copy_function.ensures.own ∙ c.loop-item.invariant.own;
}
