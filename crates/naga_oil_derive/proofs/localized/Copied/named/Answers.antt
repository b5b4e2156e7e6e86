use Rattle.std.proofs.Common.{Option, nat_eq, string_bytes, ap, sym, ◌∙◌, [], List, ℕ, String, Global}
use Rattle.std.proofs.lemmas.Iterator.Consumers.{YieldsList-at, YieldsList-end, YieldsList-from_rest}
use Rattle.naga_oil_derive.specs.Functions.{named_values, names_under, name_put}
use Rattle.naga_oil_derive.proofs.LocalSteps.{named_put, names_more}
use Rattle.naga_oil_walk.proofs.OptionLemmas.{none_if}
use Rattle.indexmap.specs.IndexMap.{insert_entry}
use Rattle.naga_oil_derive.proofs.localized.Copied.named.Goals as goal

pub loop-handle-init : goal.loop-handle-init
loop-handle-init c = ap named_values c.new-copies.ensures

pub loop-handle-preserved : goal.loop-handle-preserved
loop-handle-preserved c =
    let es = c.loop-handle.copies.entries in
    let s = string_bytes c.in-Some.name.now in
    let stays = sym (ap (λ (o : Option ℕ). name_put o s (named_values es)) (none_if c.place_of.result c.in_default.not-Some)) in
    names_more c.args.self.now.table.now c.loop-handle.yielded (c.in-Some.handle, c.in-Some.name) c.place_of.result es es c.place_of.ensures c.loop-handle.invariant stays

pub loop-handle-preserved-in_ok-insert : goal.loop-handle-preserved-in_ok-insert
loop-handle-preserved-in_ok-insert c =
    let es = c.loop-handle.copies.entries in
    let s = string_bytes c.in-Some.name.now in
    let put = ap named_values c.in_ok-insert.ensures.entries ∙ named_put es c.in-Some-place_of.copy c.in_ok-clone.field-0 ∙ ap (insert_entry nat_eq (named_values es) c.in-Some-place_of.copy) c.in_ok-clone.ensures.cases ∙ ap (λ (o : Option ℕ). name_put o s (named_values es)) (sym c.in-Some-place_of.is) in
    names_more c.args.self.now.table.now c.loop-handle.yielded (c.in-Some.handle, c.in-Some.name) c.place_of.result es c.insert.new.self.entries c.place_of.ensures c.loop-handle.invariant put

pub loop-handle-preserved-in_ok-insert-2 : goal.loop-handle-preserved-in_ok-insert-2
loop-handle-preserved-in_ok-insert-2 c =
    let es = c.loop-handle.copies.entries in
    let s = string_bytes c.in-Some.name.now in
    let put = ap named_values c.in_ok-insert.ensures.entries ∙ named_put es c.in-Some-place_of.copy c.in_ok-clone.field-0 ∙ ap (insert_entry nat_eq (named_values es) c.in-Some-place_of.copy) c.in_ok-clone.ensures.cases ∙ ap (λ (o : Option ℕ). name_put o s (named_values es)) (sym c.in-Some-place_of.is) in
    names_more c.args.self.now.table.now c.loop-handle.yielded (c.in-Some.handle, c.in-Some.name) c.place_of.result es c.insert.new.self.entries c.place_of.ensures c.loop-handle.invariant put

pub returns : goal.returns
returns c =
    let rest = YieldsList-from_rest c.args.names.now.entries c.iter-handle-items.ensures in
    let all = YieldsList-end (YieldsList-at c.into_iter-handle-iterator.ensures.into_iter_gives rest) c.loop-handle.yielded _ c.loop-handle.yielded_by _ _ c.in-None.is c.next.ensures.steps in
    c.loop-handle.invariant ∙ ap (λ (es : List (ℕ × String Global)). names_under c.args.self.now.table.now [] (named_values es)) all.0
