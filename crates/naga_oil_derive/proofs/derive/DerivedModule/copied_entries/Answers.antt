use Rattle.std.proofs.Common.{[], List, map, take_all, ap, sym, subst}
use Rattle.naga_oil_ir.specs.ModuleValue.{entry_value}
use Rattle.naga_oil_ir.specs.declared.module.EntryPoint.{EntryPoint}
use Rattle.naga_oil_derive.specs.DerivedEntries.{CanCopyEntry}
use Rattle.std.proofs.Common.{◌∙◌}
use Rattle.naga_oil_derive.specs.CopiedEntry.{entries_state, copy_entries}
use Rattle.naga_oil_derive.proofs.EntryValues.{entries_next}
use Rattle.naga_oil_derive.proofs.EntrySteps.{functions_same, functions_trans, entry_later}
use Rattle.naga_oil_derive.proofs.derive.DerivedModule.copied_entries.Goals as goal

pub copied_entry-requires : goal.copied_entry-requires
copied_entry-requires c =
    let x = c.entry-item.result in
    let d = c.args.self.now in
    let own : CanCopyEntry d (entry_value x) = subst (λ (y : EntryPoint). CanCopyEntry d (entry_value y)) (sym c.entry-item.is) (c.requires c.loop-entry.entry-index x c.loop-entry-test.true) in
    entry_later d c.loop-entry.self (entry_value x) c.loop-entry.invariant.keeps own

pub loop-entry-preserved : goal.loop-entry-preserved
loop-entry-preserved c =
    let d = c.args.self.now in
    let e = c.loop-entry.self in
    let f = c.copied_entry.new.self in
    record {
      value = entries_next d e f c.args.entries.now c.loop-entry.entry-index c.entry-item.result c.loop-entry.copies.items c.in_ok-copied_entry.field-0 c.push.new.self.items c.loop-entry-test.true c.entry-item.is c.loop-entry.invariant.value c.in_ok-copied_entry.ensures.value c.in_ok-push.ensures.items;
      keeps = functions_trans d e f c.loop-entry.invariant.keeps c.copied_entry.ensures.keeps;
    }

pub returns-clause-value : goal.returns-clause-value
returns-clause-value c =
    let d = c.args.self.now in
    let xs = c.args.entries.now in
    c.loop-entry.invariant.value ∙ ap (λ (ys : List EntryPoint). copy_entries (entries_state d []) (map entry_value ys)) (take_all c.loop-entry.entry-index xs c.loop-entry-test.false)

pub returns-in_err-copied_entry-clause-keeps : goal.returns-in_err-copied_entry-clause-keeps
returns-in_err-copied_entry-clause-keeps c = functions_trans c.args.self.now c.loop-entry.self c.copied_entry.new.self c.loop-entry.invariant.keeps c.copied_entry.ensures.keeps

pub returns-in_err-push-clause-keeps : goal.returns-in_err-push-clause-keeps
returns-in_err-push-clause-keeps c = functions_trans c.args.self.now c.loop-entry.self c.copied_entry.new.self c.loop-entry.invariant.keeps c.copied_entry.ensures.keeps

pub loop-entry-init : goal.loop-entry-init
loop-entry-init c =
    let d = c.args.self.now in
    record {
      value = ap (λ (ws : List EntryPoint). entries_state d (map entry_value ws)) c.new-copies.ensures.items;
      keeps = functions_same d;
    }
