use Rattle.std.proofs.Common.{arith, ◌≡◌, ◌∙◌, ap, sym, subst, Some, slice_set, OnOk}
use Rattle.std.specs.Vec.{with_item}
use Rattle.naga_oil_derive.specs.World.{shifted, value_of}
use Rattle.naga_oil_derive.specs.Copying.{IsThere}
use Rattle.naga_oil_derive.specs.Copied.{copy_state, put}
use Rattle.naga_oil_derive.proofs.PutLemmas.{constant_put, override_put, global_put, expression_put}
use Rattle.naga_oil_derive.proofs.CopyOneLemmas.{found, not_found, fits, constant_absent, override_absent, global_absent, expression_absent}
use Rattle.naga_oil_derive.proofs.copy.Copying.copy_alone.Goals as goal

pub index_mut-requires : goal.index_mut-requires
index_mut-requires c =
    let room = fits c.args.source.now.constants c.args.self.now.maps.constants c.in-ConstantItem.h c.in-Some.item.now (found _ _ c.in-Some.item c.try_get.ensures c.in-Some.is) c.requires.long.constants in
    let e = c.index.ensures in
    omega (arith, room, e)

pub index_mut-requires-in-OverrideItem : goal.index_mut-requires-in-OverrideItem
index_mut-requires-in-OverrideItem c =
    let room = fits c.args.source.now.overrides c.args.self.now.maps.overrides c.in-OverrideItem.h c.in-Some-try_get.item.now (found _ _ c.in-Some-try_get.item c.try_get-in-OverrideItem.ensures c.in-Some-try_get.is) c.requires.long.overrides in
    let e = c.index-in-OverrideItem.ensures in
    omega (arith, room, e)

pub index_mut-requires-in-GlobalItem : goal.index_mut-requires-in-GlobalItem
index_mut-requires-in-GlobalItem c =
    let room = fits c.args.source.now.global_variables c.args.self.now.maps.global_variables c.in-GlobalItem.h c.in-Some-try_get-2.item.now (found _ _ c.in-Some-try_get-2.item c.try_get-in-GlobalItem.ensures c.in-Some-try_get-2.is) c.requires.long.globals in
    let e = c.index-in-GlobalItem.ensures in
    omega (arith, room, e)

pub index_mut-requires-in-ExpressionItem : goal.index_mut-requires-in-ExpressionItem
index_mut-requires-in-ExpressionItem c =
    let room = fits c.args.source.now.global_expressions c.args.self.now.maps.global_expressions c.in-ExpressionItem.h c.in-Some-try_get-3.item.now (found _ _ c.in-Some-try_get-3.item c.try_get-in-ExpressionItem.ensures c.in-Some-try_get-3.is) c.requires.long.expressions in
    let e = c.index-in-ExpressionItem.ensures in
    omega (arith, room, e)

pub returns-in_default-clause-put : goal.returns-in_default-clause-put
returns-in_default-clause-put c = absurd (constant_absent c.args.source.now c.in-ConstantItem.h (not_found _ _ c.try_get.ensures c.in_default.not-Some) (subst (IsThere c.args.source.now) c.in-ConstantItem.is c.requires.there))

pub returns-in_ok-place-in-ConstantItem-clause-put : goal.returns-in_ok-place-in-ConstantItem-clause-put
returns-in_ok-place-in-ConstantItem-clause-put c =
    constant_put c.args.source.now c.args.self.now.target c.args.self.now.maps c.in-ConstantItem.h c.in-Some.item.now c.in_ok-copy-in-ConstantItem.copy c.span-span.result c.in_ok-place-in-ConstantItem.place c.fetch_or_append.new.self (with_item c.args.self.now.maps.constants c.index.result (Some c.in_ok-place-in-ConstantItem.place)) (found _ _ c.in-Some.item c.try_get.ensures c.in-Some.is) c.in_ok-copy-in-ConstantItem.ensures (c.span-span.ensures ∙ ap (shifted c.args.self.now.maps.offset) c.get_span.ensures) c.in_ok-place-in-ConstantItem.ensures.place c.in_ok-place-in-ConstantItem.ensures.items (ap (λ i. slice_set c.args.self.now.maps.constants.items i (Some c.in_ok-place-in-ConstantItem.place)) c.index.ensures) ∙ sym (ap (put (value_of c.args.source.now) c.args.self.now.maps.offset (copy_state c.args.self.now.maps c.args.self.now.target)) c.in-ConstantItem.is)

pub returns-in_default-try_get-clause-put : goal.returns-in_default-try_get-clause-put
returns-in_default-try_get-clause-put c = absurd (override_absent c.args.source.now c.in-OverrideItem.h (not_found _ _ c.try_get-in-OverrideItem.ensures c.in_default-try_get.not-Some) (subst (IsThere c.args.source.now) c.in-OverrideItem.is c.requires.there))

pub returns-in_ok-place-in-OverrideItem-clause-put : goal.returns-in_ok-place-in-OverrideItem-clause-put
returns-in_ok-place-in-OverrideItem-clause-put c =
    override_put c.args.source.now c.args.self.now.target c.args.self.now.maps c.in-OverrideItem.h c.in-Some-try_get.item.now c.in_ok-copy-in-OverrideItem.copy c.span-span-in-OverrideItem.result c.in_ok-place-in-OverrideItem.place c.fetch_or_append-in-OverrideItem.new.self (with_item c.args.self.now.maps.overrides c.index-in-OverrideItem.result (Some c.in_ok-place-in-OverrideItem.place)) (found _ _ c.in-Some-try_get.item c.try_get-in-OverrideItem.ensures c.in-Some-try_get.is) c.in_ok-copy-in-OverrideItem.ensures (c.span-span-in-OverrideItem.ensures ∙ ap (shifted c.args.self.now.maps.offset) c.get_span-in-OverrideItem.ensures) c.in_ok-place-in-OverrideItem.ensures.place c.in_ok-place-in-OverrideItem.ensures.items (ap (λ i. slice_set c.args.self.now.maps.overrides.items i (Some c.in_ok-place-in-OverrideItem.place)) c.index-in-OverrideItem.ensures) ∙ sym (ap (put (value_of c.args.source.now) c.args.self.now.maps.offset (copy_state c.args.self.now.maps c.args.self.now.target)) c.in-OverrideItem.is)

pub returns-in_default-try_get-2-clause-put : goal.returns-in_default-try_get-2-clause-put
returns-in_default-try_get-2-clause-put c = absurd (global_absent c.args.source.now c.in-GlobalItem.h (not_found _ _ c.try_get-in-GlobalItem.ensures c.in_default-try_get-2.not-Some) (subst (IsThere c.args.source.now) c.in-GlobalItem.is c.requires.there))

pub returns-in_ok-place-in-GlobalItem-clause-put : goal.returns-in_ok-place-in-GlobalItem-clause-put
returns-in_ok-place-in-GlobalItem-clause-put c =
    global_put c.args.source.now c.args.self.now.target c.args.self.now.maps c.in-GlobalItem.h c.in-Some-try_get-2.item.now c.in_ok-copy-in-GlobalItem.copy c.span-span-in-GlobalItem.result c.in_ok-place-in-GlobalItem.place c.fetch_or_append-in-GlobalItem.new.self (with_item c.args.self.now.maps.global_variables c.index-in-GlobalItem.result (Some c.in_ok-place-in-GlobalItem.place)) (found _ _ c.in-Some-try_get-2.item c.try_get-in-GlobalItem.ensures c.in-Some-try_get-2.is) c.in_ok-copy-in-GlobalItem.ensures (c.span-span-in-GlobalItem.ensures ∙ ap (shifted c.args.self.now.maps.offset) c.get_span-in-GlobalItem.ensures) c.in_ok-place-in-GlobalItem.ensures.place c.in_ok-place-in-GlobalItem.ensures.items (ap (λ i. slice_set c.args.self.now.maps.global_variables.items i (Some c.in_ok-place-in-GlobalItem.place)) c.index-in-GlobalItem.ensures) ∙ sym (ap (put (value_of c.args.source.now) c.args.self.now.maps.offset (copy_state c.args.self.now.maps c.args.self.now.target)) c.in-GlobalItem.is)

pub returns-in_default-try_get-3-clause-put : goal.returns-in_default-try_get-3-clause-put
returns-in_default-try_get-3-clause-put c = absurd (expression_absent c.args.source.now c.in-ExpressionItem.h (not_found _ _ c.try_get-in-ExpressionItem.ensures c.in_default-try_get-3.not-Some) (subst (IsThere c.args.source.now) c.in-ExpressionItem.is c.requires.there))

pub returns-in_ok-place-in-ExpressionItem-clause-put : goal.returns-in_ok-place-in-ExpressionItem-clause-put
returns-in_ok-place-in-ExpressionItem-clause-put c =
    expression_put c.args.source.now c.args.self.now.target c.args.self.now.maps c.in-ExpressionItem.h c.in-Some-try_get-3.item.now c.in_ok-copy-in-ExpressionItem.copy c.span-span-in-ExpressionItem.result c.in_ok-place-in-ExpressionItem.place c.fetch_or_append-in-ExpressionItem.new.self (with_item c.args.self.now.maps.global_expressions c.index-in-ExpressionItem.result (Some c.in_ok-place-in-ExpressionItem.place)) (found _ _ c.in-Some-try_get-3.item c.try_get-in-ExpressionItem.ensures c.in-Some-try_get-3.is) c.in_ok-copy-in-ExpressionItem.ensures (c.span-span-in-ExpressionItem.ensures ∙ ap (shifted c.args.self.now.maps.offset) c.get_span-in-ExpressionItem.ensures) c.in_ok-place-in-ExpressionItem.ensures.place c.in_ok-place-in-ExpressionItem.ensures.items (ap (λ i. slice_set c.args.self.now.maps.global_expressions.items i (Some c.in_ok-place-in-ExpressionItem.place)) c.index-in-ExpressionItem.ensures) ∙ sym (ap (put (value_of c.args.source.now) c.args.self.now.maps.offset (copy_state c.args.self.now.maps c.args.self.now.target)) c.in-ExpressionItem.is)

pub returns-in-TypeItem-clause-put : goal.returns-in-TypeItem-clause-put
unfolding put
returns-in-TypeItem-clause-put c =
    subst (λ s. OnOk c.copy_type.result (copy_state c.copy_type.new.self.maps c.copy_type.new.self.target ≡ s)) (sym (ap (put (value_of c.args.source.now) c.args.self.now.maps.offset (copy_state c.args.self.now.maps c.args.self.now.target)) c.in-TypeItem.is)) c.copy_type.ensures.put
