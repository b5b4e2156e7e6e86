use Rattle.std.proofs.Common.{◌∙◌, ap, subst, slice_get, IfOk}
use Rattle.naga_oil_ir.specs.Rows.{type_row, constant_row, override_row, global_row, expression_row}
use Rattle.naga_oil_derive.specs.World.{value_of, world}
use Rattle.naga_oil_derive.specs.Copying.{AreNames}
use Rattle.naga_oil_derive.proofs.WorldLemmas.{world_type, world_constant, world_override, world_global, world_expression}
use Rattle.naga_oil_derive.proofs.CopyOneLemmas.{row_found}
use Rattle.naga_oil_derive.proofs.copy.names_at.Goals as goal

pub returns-in-TypeItem : goal.returns-in-TypeItem
returns-in-TypeItem c =
    let s = c.args.source.now in
    let same = row_found type_row (slice_get s.types c.in-TypeItem.h) _ (world (value_of s) c.args.item) c.get_handle.ensures (ap (world (value_of s)) c.in-TypeItem.is ∙ world_type s c.in-TypeItem.h) in
    subst (λ r. IfOk c.names_of.result (λ v. AreNames r v.items)) same c.names_of.ensures

pub returns-in-ConstantItem : goal.returns-in-ConstantItem
returns-in-ConstantItem c =
    let s = c.args.source.now in
    let same = row_found constant_row (slice_get s.constants c.in-ConstantItem.h) _ (world (value_of s) c.args.item) c.try_get.ensures (ap (world (value_of s)) c.in-ConstantItem.is ∙ world_constant s c.in-ConstantItem.h) in
    subst (λ r. IfOk c.names_of-in-ConstantItem.result (λ v. AreNames r v.items)) same c.names_of-in-ConstantItem.ensures

pub returns-in-OverrideItem : goal.returns-in-OverrideItem
returns-in-OverrideItem c =
    let s = c.args.source.now in
    let same = row_found override_row (slice_get s.overrides c.in-OverrideItem.h) _ (world (value_of s) c.args.item) c.try_get-in-OverrideItem.ensures (ap (world (value_of s)) c.in-OverrideItem.is ∙ world_override s c.in-OverrideItem.h) in
    subst (λ r. IfOk c.names_of-in-OverrideItem.result (λ v. AreNames r v.items)) same c.names_of-in-OverrideItem.ensures

pub returns-in-GlobalItem : goal.returns-in-GlobalItem
returns-in-GlobalItem c =
    let s = c.args.source.now in
    let same = row_found global_row (slice_get s.global_variables c.in-GlobalItem.h) _ (world (value_of s) c.args.item) c.try_get-in-GlobalItem.ensures (ap (world (value_of s)) c.in-GlobalItem.is ∙ world_global s c.in-GlobalItem.h) in
    subst (λ r. IfOk c.names_of-in-GlobalItem.result (λ v. AreNames r v.items)) same c.names_of-in-GlobalItem.ensures

pub returns-in-ExpressionItem : goal.returns-in-ExpressionItem
returns-in-ExpressionItem c =
    let s = c.args.source.now in
    let same = row_found expression_row (slice_get s.global_expressions c.in-ExpressionItem.h) _ (world (value_of s) c.args.item) c.try_get-in-ExpressionItem.ensures (ap (world (value_of s)) c.in-ExpressionItem.is ∙ world_expression s c.in-ExpressionItem.h) in
    subst (λ r. IfOk c.names_of-in-ExpressionItem.result (λ v. AreNames r v.items)) same c.names_of-in-ExpressionItem.ensures
