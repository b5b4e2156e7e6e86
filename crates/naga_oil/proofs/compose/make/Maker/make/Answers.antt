use Rattle.std.proofs.Common.{◌≡◌, ◌∙◌, Result, Ok, Err, ap, sym, subst, arith}
use Rattle.naga_oil_ir.specs.ModuleValue.{module_value}
use Rattle.naga_oil_conditions.specs.Fault.{Fault}
use Rattle.naga_oil_pre.specs.KnownView.{output_of}
use Rattle.naga_oil_pre.specs.declared.preprocess.PreprocessOutput.{PreprocessOutput}
use Rattle.naga_oil_registry.specs.Registered.{Defs, definition_of, defs_of}
use Rattle.naga_oil_registry.specs.Descriptor.{shader_source}
use Rattle.naga_oil_registry.specs.Merged.{overwritten}
use Rattle.naga_oil_link.specs.BuiltModule.{Builds, builds_of}
use Rattle.naga_oil.specs.Answer.{read_and_build_first, read_and_build_second}
use Rattle.naga_oil.specs.Finish.{finish}
use Rattle.naga_oil.specs.Refused.{Refused, in_text, refused_of}
use Rattle.naga_oil.specs.Shader.{read_shader}
use Rattle.naga_oil.specs.MakeDefs.{defs_merged, defs_of_text}
use Rattle.naga_oil.specs.MakeView.{IsReady, Keeps, KeepsFirst, settings_by, ends_with, state_with}
use Rattle.naga_oil.specs.StoreView.{kept_of}
use Rattle.naga_oil.specs.declared.compose.make.Maker.{Maker}
use Rattle.naga_oil.proofs.DoesLemmas.{Ends, ok_same}
use Rattle.naga_oil.proofs.KeepsLemmas.{first_none, first_ended, first_then, is_err, keeps_whatever, placed_ok, text_so}
use Rattle.naga_oil.proofs.PlacedLemmas.{answers_placed, answers_same}
use Rattle.naga_oil.proofs.ReadingLemmas.{make_unread, make_not_first, make_not_second, make_finished, shader_index}
use Rattle.naga_oil.proofs.compose.make.Maker.make.Goals as goal

pub returns-in_err-shader-clause-made : goal.returns-in_err-shader-clause-made
returns-in_err-shader-clause-made g c =
    let m = c.args.self.now in
    let s = settings_by g.B.Backend.front m in
    let desc = shader_source c.args.desc in
    let text = c.args.text.now in
    let e = c.in_err-shader.field-0.0 in
    make_unread s c.args.self.now.modules.now desc text (builds_of m.builder.builds) module_value e c.from_residual.result c.from_residual.ensures.1
    (answers_placed definition_of (in_text desc.file_path text 0) c.read_shader.result (Err e) (read_shader desc text) c.in_err-shader.ensures c.read_shader.ensures)

pub returns-in_err-read_and_build_first-clause-made : goal.returns-in_err-read_and_build_first-clause-made
returns-in_err-read_and_build_first-clause-made g c =
    let m = c.args.self.now in
    let s = settings_by g.B.Backend.front m in
    let ds = c.args.self.now.modules.now in
    let desc = shader_source c.args.desc in
    let text = c.args.text.now in
    let bs = builds_of m.builder.builds in
    let d = definition_of c.in_ok-shader.shader in
    let read = answers_placed definition_of (in_text desc.file_path text 0) c.read_shader.result (Ok c.in_ok-shader.shader) (read_shader desc text) c.in_ok-shader.ensures c.read_shader.ensures in
    let own : overwritten desc.defs d.defs ≡ defs_of c.in_ok-self.field-0 = ok_same Refused (overwritten desc.defs d.defs) (defs_of c.in_ok-self.field-0) c.in_ok-self.ensures in
    let e = c.in_err-read_and_build_first.field-0.0 in
    let new = builds_of c.read_and_build_first.new.self.builder.builds in
    make_not_first s ds desc text bs d read module_value e c.from_residual-in_err-read_and_build_first.result new c.from_residual-in_err-read_and_build_first.ensures.1
    (subst (λ (x : Defs). Ends e new (read_and_build_first s ds text d x bs)) (sym own) c.in_err-read_and_build_first.ensures.read)

pub returns-in_err-output-clause-made : goal.returns-in_err-output-clause-made
returns-in_err-output-clause-made g c =
    let m = c.args.self.now in
    let s = settings_by g.B.Backend.front m in
    let ds = c.args.self.now.modules.now in
    let desc = shader_source c.args.desc in
    let text = c.args.text.now in
    let bs = builds_of m.builder.builds in
    let d = definition_of c.in_ok-shader.shader in
    let read = answers_placed definition_of (in_text desc.file_path text 0) c.read_shader.result (Ok c.in_ok-shader.shader) (read_shader desc text) c.in_ok-shader.ensures c.read_shader.ensures in
    let own : overwritten desc.defs d.defs ≡ defs_of c.in_ok-self.field-0 = ok_same Refused (overwritten desc.defs d.defs) (defs_of c.in_ok-self.field-0) c.in_ok-self.ensures in
    let defs = defs_of c.read_and_build_first.new.self.defs in
    let mid = builds_of c.read_and_build_first.new.self.builder.builds in
    let first = ap (λ (x : Defs). read_and_build_first s ds text d x bs) own ∙ c.in_ok-read_and_build_first.ensures.read in
    let e = c.in_err-output.field-0.0 in
    let new = builds_of c.read_and_build_second.new.self.builder.builds in
    make_not_second s ds desc text bs d read defs mid first module_value e c.from_residual-in_err-output.result new c.from_residual-in_err-output.ensures.1
    (subst (λ (z : Maker _). Ends e new (read_and_build_second (settings_by g.B.Backend.front z) z.modules.now text d defs mid)) c.read_and_build_first.ensures.rest c.in_err-output.ensures.read)

pub finish-requires : goal.finish-requires
finish-requires g c =
    let desc = shader_source c.args.desc in
    let text = c.args.text.now in
    let read = answers_placed definition_of (in_text desc.file_path text 0) c.read_shader.result (Ok c.in_ok-shader.shader) (read_shader desc text) c.in_ok-shader.ensures c.read_shader.ensures in
    shader_index (in_text desc.file_path text 0) desc text (definition_of c.in_ok-shader.shader) read

pub returns-clause-made : goal.returns-clause-made
returns-clause-made g c =
    let m = c.args.self.now in
    let s = settings_by g.B.Backend.front m in
    let ds = c.args.self.now.modules.now in
    let desc = shader_source c.args.desc in
    let text = c.args.text.now in
    let bs = builds_of m.builder.builds in
    let d = definition_of c.in_ok-shader.shader in
    let read = answers_placed definition_of (in_text desc.file_path text 0) c.read_shader.result (Ok c.in_ok-shader.shader) (read_shader desc text) c.in_ok-shader.ensures c.read_shader.ensures in
    let own : overwritten desc.defs d.defs ≡ defs_of c.in_ok-self.field-0 = ok_same Refused (overwritten desc.defs d.defs) (defs_of c.in_ok-self.field-0) c.in_ok-self.ensures in
    let defs = defs_of c.read_and_build_first.new.self.defs in
    let mid = builds_of c.read_and_build_first.new.self.builder.builds in
    let first = ap (λ (x : Defs). read_and_build_first s ds text d x bs) own ∙ c.in_ok-read_and_build_first.ensures.read in
    let alike = ap (λ (x : Maker _). settings_by g.B.Backend.front x) c.read_and_build_first.ensures.rest in
    let again = ap (λ (x : Maker _). settings_by g.B.Backend.front x) c.read_and_build_second.ensures.rest in
    let kept = ap (λ (x : Maker _). defs_of x.defs) c.read_and_build_second.ensures.rest in
    let last = c.read_and_build_second.new.self in
    let new = builds_of last.builder.builds in
    let out = output_of c.in_ok-output.output in
    let z = settings_by g.B.Backend.front last in
    make_finished s ds desc text bs d read defs mid first module_value c.finish.result out new
    (subst (λ (z : Maker _). read_and_build_second (settings_by g.B.Backend.front z) z.modules.now text d defs mid ≡ record { builds = new; result = Ok out }) c.read_and_build_first.ensures.rest c.in_ok-output.ensures.read)
    (answers_same module_value c.finish.result (finish z (defs_of last.defs) new d out desc.shader_type) (finish s defs new d out desc.shader_type)
    (λ i. finish (sym (again ∙ alike) i) (sym kept i) new d out desc.shader_type) c.finish.ensures)

pub returns-in_err-shader-clause-keeps : goal.returns-in_err-shader-clause-keeps
returns-in_err-shader-clause-keeps g c =
    let m = c.args.self.now in
    let s = settings_by g.B.Backend.front m in
    let ds = m.modules.now in
    let desc = shader_source c.args.desc in
    let text = c.args.text.now in
    let kept = kept_of m.store in
    let r = c.from_residual.result in
    subst (λ (b : Builds). KeepsFirst s ds refused_of (defs_of_text ds desc text) r kept (ends_with (defs_of m.defs) b kept)) (sym c.requires.begins)
    (first_none s ds refused_of kept r (defs_of_text ds desc text) (defs_of m.defs) (is_err c.in_err-shader.field-0.0 r c.from_residual.ensures.1) c.requires.registry c.requires.store)

pub returns-in_err-self-clause-keeps : goal.returns-in_err-self-clause-keeps
returns-in_err-self-clause-keeps g c =
    let m = c.args.self.now in
    let s = settings_by g.B.Backend.front m in
    let ds = m.modules.now in
    let desc = shader_source c.args.desc in
    let text = c.args.text.now in
    let kept = kept_of m.store in
    let r = c.from_residual-in_err-self.result in
    subst (λ (b : Builds). KeepsFirst s ds refused_of (defs_of_text ds desc text) r kept (ends_with (defs_of m.defs) b kept)) (sym c.requires.begins)
    (first_none s ds refused_of kept r (defs_of_text ds desc text) (defs_of m.defs) (is_err c.in_err-self.field-0.0 r c.from_residual-in_err-self.ensures.1) c.requires.registry c.requires.store)

pub returns-in_err-read_and_build_first-clause-keeps : goal.returns-in_err-read_and_build_first-clause-keeps
returns-in_err-read_and_build_first-clause-keeps g c =
    let m = c.args.self.now in
    let s = settings_by g.B.Backend.front m in
    let ds = m.modules.now in
    let desc = shader_source c.args.desc in
    let text = c.args.text.now in
    let kept = kept_of m.store in
    let d = definition_of c.in_ok-shader.shader in
    let read = answers_placed definition_of (in_text desc.file_path text 0) c.read_shader.result (Ok c.in_ok-shader.shader) (read_shader desc text) c.in_ok-shader.ensures c.read_shader.ensures in
    let own : overwritten desc.defs d.defs ≡ defs_of c.in_ok-self.field-0 = ok_same Refused (overwritten desc.defs d.defs) (defs_of c.in_ok-self.field-0) c.in_ok-self.ensures in
    let same = text_so ds desc text d (defs_of c.in_ok-self.field-0) (placed_ok (in_text desc.file_path text 0) (read_shader desc text) d read) own in
    let n = c.read_and_build_first.new.self in
    let r = c.from_residual-in_err-read_and_build_first.result in
    subst (λ (v : Result Defs Fault). KeepsFirst s ds refused_of v r kept (ends_with (defs_of n.defs) (builds_of n.builder.builds) (kept_of n.store))) (sym same)
    (first_ended s ds refused_of kept c.in_err-read_and_build_first.field-0.0 r (defs_merged ds d (defs_of c.in_ok-self.field-0)) (defs_of n.defs) (builds_of n.builder.builds) (kept_of n.store) c.from_residual-in_err-read_and_build_first.ensures.1 c.in_err-read_and_build_first.ensures.keeps)

pub read_and_build_second-requires : goal.read_and_build_second-requires
read_and_build_second-requires g c =
    subst (λ (z : Maker _). IsReady g.B.Backend.front z 0) (sym c.read_and_build_first.ensures.rest) (record { registry = c.requires.registry; stand = c.in_ok-read_and_build_first.ensures.keeps.stand; within = omega arith })

pub returns-in_err-output-clause-keeps : goal.returns-in_err-output-clause-keeps
returns-in_err-output-clause-keeps g c =
    let m = c.args.self.now in
    let s = settings_by g.B.Backend.front m in
    let ds = m.modules.now in
    let desc = shader_source c.args.desc in
    let text = c.args.text.now in
    let kept = kept_of m.store in
    let d = definition_of c.in_ok-shader.shader in
    let read = answers_placed definition_of (in_text desc.file_path text 0) c.read_shader.result (Ok c.in_ok-shader.shader) (read_shader desc text) c.in_ok-shader.ensures c.read_shader.ensures in
    let own : overwritten desc.defs d.defs ≡ defs_of c.in_ok-self.field-0 = ok_same Refused (overwritten desc.defs d.defs) (defs_of c.in_ok-self.field-0) c.in_ok-self.ensures in
    let comes = defs_merged ds d (defs_of c.in_ok-self.field-0) in
    let same = text_so ds desc text d (defs_of c.in_ok-self.field-0) (placed_ok (in_text desc.file_path text 0) (read_shader desc text) d read) own in
    let n = c.read_and_build_first.new.self in
    let z = c.read_and_build_second.new.self in
    let newer = builds_of z.builder.builds in
    let more = kept_of z.store in
    let under : defs_of z.defs ≡ defs_of n.defs = ap (λ (x : Maker _). defs_of x.defs) c.read_and_build_second.ensures.rest in
    let e = c.in_err-output.field-0.0 in
    let r = c.from_residual-in_err-output.result in
    let second = subst (λ (x : Maker _). Keeps {X = PreprocessOutput} (settings_by g.B.Backend.front x) x.modules.now (defs_of x.defs) refused_of (Err e) (state_with (builds_of x.builder.builds) (kept_of x.store)) (state_with newer more)) c.read_and_build_first.ensures.rest c.in_err-output.ensures.keeps in
    let both = first_then s ds refused_of kept tt (Err e) comes (defs_of n.defs) (builds_of n.builder.builds) newer (kept_of n.store) more c.in_ok-read_and_build_first.ensures.keeps second in
    subst (λ (v : Result Defs Fault). KeepsFirst s ds refused_of v r kept (ends_with (defs_of z.defs) newer more)) (sym same)
    (subst (λ (u : Defs). KeepsFirst s ds refused_of comes r kept (ends_with u newer more)) (sym under) (first_ended s ds refused_of kept e r comes (defs_of n.defs) newer more c.from_residual-in_err-output.ensures.1 both))

pub returns-clause-keeps : goal.returns-clause-keeps
returns-clause-keeps g c =
    let m = c.args.self.now in
    let s = settings_by g.B.Backend.front m in
    let ds = m.modules.now in
    let desc = shader_source c.args.desc in
    let text = c.args.text.now in
    let kept = kept_of m.store in
    let d = definition_of c.in_ok-shader.shader in
    let read = answers_placed definition_of (in_text desc.file_path text 0) c.read_shader.result (Ok c.in_ok-shader.shader) (read_shader desc text) c.in_ok-shader.ensures c.read_shader.ensures in
    let own : overwritten desc.defs d.defs ≡ defs_of c.in_ok-self.field-0 = ok_same Refused (overwritten desc.defs d.defs) (defs_of c.in_ok-self.field-0) c.in_ok-self.ensures in
    let comes = defs_merged ds d (defs_of c.in_ok-self.field-0) in
    let same = text_so ds desc text d (defs_of c.in_ok-self.field-0) (placed_ok (in_text desc.file_path text 0) (read_shader desc text) d read) own in
    let n = c.read_and_build_first.new.self in
    let z = c.read_and_build_second.new.self in
    let newer = builds_of z.builder.builds in
    let more = kept_of z.store in
    let under : defs_of z.defs ≡ defs_of n.defs = ap (λ (x : Maker _). defs_of x.defs) c.read_and_build_second.ensures.rest in
    let r = c.finish.result in
    let second = subst (λ (x : Maker _). Keeps {X = PreprocessOutput} (settings_by g.B.Backend.front x) x.modules.now (defs_of x.defs) refused_of (Ok c.in_ok-output.output) (state_with (builds_of x.builder.builds) (kept_of x.store)) (state_with newer more)) c.read_and_build_first.ensures.rest c.in_ok-output.ensures.keeps in
    let last = keeps_whatever s ds (defs_of n.defs) (builds_of n.builder.builds) (kept_of n.store) newer more refused_of c.in_ok-output.output r second in
    let both = first_then s ds refused_of kept tt r comes (defs_of n.defs) (builds_of n.builder.builds) newer (kept_of n.store) more c.in_ok-read_and_build_first.ensures.keeps last in
    subst (λ (v : Result Defs Fault). KeepsFirst s ds refused_of v r kept (ends_with (defs_of z.defs) newer more)) (sym same)
    (subst (λ (u : Defs). KeepsFirst s ds refused_of comes r kept (ends_with u newer more)) (sym under) both)
