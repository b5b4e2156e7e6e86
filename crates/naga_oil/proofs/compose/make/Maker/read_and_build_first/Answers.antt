use Rattle.std.proofs.Common.{◌≡◌, List, Result, Ok, Err, map, ap, sym, subst, arith}
use Rattle.naga_oil_imports.specs.Uses.{use_of}
use Rattle.naga_oil_imports.specs.declared.import_definition.ImportDefWithOffset.{ImportDefWithOffset}
use Rattle.naga_oil_pre.specs.KnownView.{output_of}
use Rattle.naga_oil_registry.specs.Registered.{Defs, definition_of, defs_of}
use Rattle.naga_oil_link.specs.BuiltModule.{Builds, builds_of}
use Rattle.naga_oil_build.specs.Built.{preprocessed_of}
use Rattle.naga_oil.specs.Answer.{of_shader, any_use, reach_uses}
use Rattle.naga_oil.specs.Refused.{Refused, Tells, in_text, placed, refused_of}
use Rattle.naga_oil.specs.Shader.{defs_union_over}
use Rattle.naga_oil.specs.MakeDefs.{defs_merged}
use Rattle.naga_oil.specs.MakeView.{Keeps, KeepsFirst, settings_by, ends_with, state_with}
use Rattle.naga_oil.specs.Reach.{defined}
use Rattle.naga_oil.specs.StoreLaw.{Stands}
use Rattle.naga_oil.specs.StoreView.{kept_of}
use Rattle.naga_oil.specs.declared.compose.make.Maker.{Maker}
use Rattle.naga_oil.proofs.DoesLemmas.{does_same}
use Rattle.naga_oil.proofs.KeepsLemmas.{first_none, first_more, is_err, merged_so, placed_ok}
use Rattle.naga_oil.proofs.PlacedLemmas.{answers_placed}
use Rattle.naga_oil.proofs.ReadingLemmas.{first_unread, first_unmerged, first_read}
use Rattle.naga_oil.proofs.StoreLawLemmas.{stands_nothing}
use Rattle.naga_oil.proofs.compose.make.Maker.read_and_build_first.Goals as goal

pub returns-in_err-output-clause-read : goal.returns-in_err-output-clause-read
returns-in_err-output-clause-read g c =
    let m = c.args.self.now in
    let s = settings_by g.B.Backend.front m in
    first_unread s c.args.self.now.modules.now c.args.text.now (definition_of c.args.shader.now) (defs_of m.defs) (builds_of m.builder.builds) c.in_err-output.field-0.0 c.from_residual.result c.from_residual.ensures.1 _ c.in_err-output.ensures

pub returns-in_err-in_text-clause-read : goal.returns-in_err-in_text-clause-read
returns-in_err-in_text-clause-read g c =
    let m = c.args.self.now in
    let s = settings_by g.B.Backend.front m in
    let ds = c.args.self.now.modules.now in
    let text = c.args.text.now in
    let d = definition_of c.args.shader.now in
    let own = defs_of m.defs in
    let out = output_of c.in_ok-output.output in
    let e = c.in_err-in_text.field-0.0 in
    let here = in_text c.as_str-path.result.now text 0 in
    let union = defs_union_over ds own (map use_of c.deref.result.now) in
    let uses : map use_of c.deref.result.now ≡ out.uses = ap (λ (is : List ImportDefWithOffset). map use_of is) c.deref.ensures.value in
    let same : placed here union ≡ placed (in_text d.file_path text 0) (defs_union_over ds own out.uses) = λ i. placed (in_text (c.as_str-path.ensures.value i) text 0) (defs_union_over ds own (uses i)) in
    first_unmerged s ds text d own (builds_of m.builder.builds) out c.in_ok-output.ensures e c.from_residual-in_err-in_text.result c.from_residual-in_err-in_text.ensures.1 _
    (subst (λ (v : Result Defs Refused). Tells e v) same (answers_placed (λ done. defs_of c.merge-merged.new.defs) here c.merge-merged.result (Err e) union c.in_err-in_text.ensures c.merge-merged.ensures))

pub returns-clause-read : goal.returns-clause-read
returns-clause-read g c =
    let m = c.args.self.now in
    let s = settings_by g.B.Backend.front m in
    let ds = c.args.self.now.modules.now in
    let text = c.args.text.now in
    let d = definition_of c.args.shader.now in
    let own = defs_of m.defs in
    let bs = builds_of m.builder.builds in
    let out = output_of c.in_ok-output.output in
    let here = in_text c.as_str-path.result.now text 0 in
    let union = defs_union_over ds own (map use_of c.deref.result.now) in
    let uses : map use_of c.deref.result.now ≡ out.uses = ap (λ (is : List ImportDefWithOffset). map use_of is) c.deref.ensures.value in
    let again : map use_of c.deref-2.result.now ≡ out.uses = ap (λ (is : List ImportDefWithOffset). map use_of is) c.deref-2.ensures.value in
    let same : placed here union ≡ placed (in_text d.file_path text 0) (defs_union_over ds own out.uses) = λ i. placed (in_text (c.as_str-path.ensures.value i) text 0) (defs_union_over ds own (uses i)) in
    let defs = defs_of c.merge-merged.new.defs in
    let result = c.reach_uses.result in
    let new = builds_of c.reach_uses.new.self.builder.builds in
    first_read s ds text d own bs out c.in_ok-output.ensures defs result (λ done. defs_of c.reach_uses.new.self.defs) new
    (subst (λ (v : Result Defs Refused). v ≡ Ok defs) same (answers_placed (λ done. defs) here c.merge-merged.result (Ok c.in_ok-in_text.field-0) union c.in_ok-in_text.ensures c.merge-merged.ensures))
    (ap (λ (x : Maker _). defs_of x.defs) c.reach_uses.ensures.rest)
    (does_same (λ done. done) result new (of_shader d.file_path text defs (reach_uses s ds defs any_use (map use_of c.deref-2.result.now)) bs) (of_shader d.file_path text defs (reach_uses s ds defs any_use out.uses) bs)
    (λ i. of_shader d.file_path text defs (reach_uses s ds defs any_use (sym again i)) bs) c.reach_uses.ensures.reached)

pub returns-in_err-output-clause-keeps : goal.returns-in_err-output-clause-keeps
returns-in_err-output-clause-keeps g c =
    let m = c.args.self.now in
    let s = settings_by g.B.Backend.front m in
    let ds = m.modules.now in
    let d = definition_of c.args.shader.now in
    let own = defs_of m.defs in
    let kept = kept_of m.store in
    let r = c.from_residual.result in
    subst (λ (b : Builds). KeepsFirst s ds refused_of (defs_merged ds d own) r kept (ends_with own b kept)) (sym c.requires.begins)
    (first_none s ds refused_of kept r (defs_merged ds d own) own (is_err c.in_err-output.field-0.0 r c.from_residual.ensures.1) c.requires.registry c.requires.store)

pub returns-in_err-in_text-clause-keeps : goal.returns-in_err-in_text-clause-keeps
returns-in_err-in_text-clause-keeps g c =
    let m = c.args.self.now in
    let s = settings_by g.B.Backend.front m in
    let ds = m.modules.now in
    let d = definition_of c.args.shader.now in
    let own = defs_of m.defs in
    let kept = kept_of m.store in
    let r = c.from_residual-in_err-in_text.result in
    let under = defs_of c.merge-merged.new.defs in
    subst (λ (b : Builds). KeepsFirst s ds refused_of (defs_merged ds d own) r kept (ends_with under b kept)) (sym c.requires.begins)
    (first_none s ds refused_of kept r (defs_merged ds d own) under (is_err c.in_err-in_text.field-0.0 r c.from_residual-in_err-in_text.ensures.1) c.requires.registry c.requires.store)

pub reach_uses-requires : goal.reach_uses-requires
reach_uses-requires g c =
    let m = c.args.self.now in
    let s = settings_by g.B.Backend.front m in
    let ds = m.modules.now in
    let kept = kept_of m.store in
    let defs = defs_of c.merge-merged.new.defs in
    record { registry = c.requires.registry; stand = subst (λ (b : Builds). Stands s ds defs b kept) (sym c.requires.begins) (stands_nothing s ds defs kept c.requires.registry c.requires.store); within = omega arith }

pub returns-clause-keeps : goal.returns-clause-keeps
returns-clause-keeps g c =
    let m = c.args.self.now in
    let s = settings_by g.B.Backend.front m in
    let ds = m.modules.now in
    let d = definition_of c.args.shader.now in
    let own = defs_of m.defs in
    let kept = kept_of m.store in
    let text = c.args.text.now in
    let out = output_of c.in_ok-output.output in
    let here = in_text c.as_str-path.result.now text 0 in
    let union = defs_union_over ds own (map use_of c.deref.result.now) in
    let uses : map use_of c.deref.result.now ≡ out.uses = ap (λ (is : List ImportDefWithOffset). map use_of is) c.deref.ensures.value in
    let same : placed here union ≡ placed (in_text d.file_path text 0) (defs_union_over ds own out.uses) = λ i. placed (in_text (c.as_str-path.ensures.value i) text 0) (defs_union_over ds own (uses i)) in
    let defs = defs_of c.merge-merged.new.defs in
    let n = c.reach_uses.new.self in
    let newer = builds_of n.builder.builds in
    let more = kept_of n.store in
    let r = c.reach_uses.result in
    let united = placed_ok (in_text d.file_path text 0) (defs_union_over ds own out.uses) defs (subst (λ (v : Result Defs Refused). v ≡ Ok defs) same (answers_placed (λ done. defs) here c.merge-merged.result (Ok c.in_ok-in_text.field-0) union c.in_ok-in_text.ensures c.merge-merged.ensures)) in
    let merged = merged_so ds d own out defs (placed_ok (in_text d.file_path text 0) (preprocessed_of (defined own) d) out c.in_ok-output.ensures) united in
    let begun = subst (λ (b : Builds). Keeps s ds defs refused_of r (state_with b kept) (state_with newer more)) c.requires.begins c.reach_uses.ensures.keeps in
    subst (λ (u : Defs). KeepsFirst s ds refused_of (defs_merged ds d own) r kept (ends_with u newer more)) (sym (ap (λ (x : Maker _). defs_of x.defs) c.reach_uses.ensures.rest)) (first_more s ds refused_of kept r (defs_merged ds d own) defs newer more merged begun)
