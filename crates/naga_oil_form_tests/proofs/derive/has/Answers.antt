use Rattle.std.proofs.Common.{◌<◌, length, subst, sym, arith}
use Rattle.naga_oil_ir.specs.declared.names.ItemPlace.TheVariants.{TypeItem, ConstantItem, OverrideItem, GlobalItem, ExpressionItem}
use Rattle.naga_oil_derive.specs.Derived.{HasItem}
use Rattle.naga_oil_form_tests.proofs.SourceLemmas.{own_source, has_item}
use Rattle.naga_oil_form_tests.proofs.derive.has.Goals as goal

pub returns-in-TypeItem : goal.returns-in-TypeItem
returns-in-TypeItem c _ =
    let own = own_source c.in-Some.source _ c.args.derived.now c.source.ensures c.in-Some.is in
    let l : c.in-TypeItem.h < length c.in-Some.source.now.types = omega arith in
    subst (λ p. HasItem c.args.derived.now p) (sym c.in-TypeItem.is) (has_item c.in-Some.source.now c.args.derived.now own (TypeItem c.in-TypeItem.h) l)

pub returns-in-ConstantItem : goal.returns-in-ConstantItem
returns-in-ConstantItem c _ =
    let own = own_source c.in-Some.source _ c.args.derived.now c.source.ensures c.in-Some.is in
    let l : c.in-ConstantItem.h < length c.in-Some.source.now.constants = omega arith in
    subst (λ p. HasItem c.args.derived.now p) (sym c.in-ConstantItem.is) (has_item c.in-Some.source.now c.args.derived.now own (ConstantItem c.in-ConstantItem.h) l)

pub returns-in-OverrideItem : goal.returns-in-OverrideItem
returns-in-OverrideItem c _ =
    let own = own_source c.in-Some.source _ c.args.derived.now c.source.ensures c.in-Some.is in
    let l : c.in-OverrideItem.h < length c.in-Some.source.now.overrides = omega arith in
    subst (λ p. HasItem c.args.derived.now p) (sym c.in-OverrideItem.is) (has_item c.in-Some.source.now c.args.derived.now own (OverrideItem c.in-OverrideItem.h) l)

pub returns-in-GlobalItem : goal.returns-in-GlobalItem
returns-in-GlobalItem c _ =
    let own = own_source c.in-Some.source _ c.args.derived.now c.source.ensures c.in-Some.is in
    let l : c.in-GlobalItem.h < length c.in-Some.source.now.global_variables = omega arith in
    subst (λ p. HasItem c.args.derived.now p) (sym c.in-GlobalItem.is) (has_item c.in-Some.source.now c.args.derived.now own (GlobalItem c.in-GlobalItem.h) l)

pub returns-in-ExpressionItem : goal.returns-in-ExpressionItem
returns-in-ExpressionItem c _ =
    let own = own_source c.in-Some.source _ c.args.derived.now c.source.ensures c.in-Some.is in
    let l : c.in-ExpressionItem.h < length c.in-Some.source.now.global_expressions = omega arith in
    subst (λ p. HasItem c.args.derived.now p) (sym c.in-ExpressionItem.is) (has_item c.in-Some.source.now c.args.derived.now own (ExpressionItem c.in-ExpressionItem.h) l)
