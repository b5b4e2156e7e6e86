use Rattle.std.proofs.Common.{ap, sym}
use Rattle.naga_oil_ir.specs.ModuleValue.{module_value}
use Rattle.naga_oil_pre.specs.KnownView.{output_of}
use Rattle.naga_oil_registry.specs.Registered.{definition_of, defs_of}
use Rattle.naga_oil_link.specs.BuiltModule.{built_of, builds_of}
use Rattle.naga_oil_build.specs.Build.{build}
use Rattle.naga_oil.specs.MakeView.{settings_by}
use Rattle.naga_oil.specs.Finish.{built_in_text, compose, finish}
use Rattle.naga_oil.specs.Refused.{in_text}
use Rattle.naga_oil.proofs.PlacedLemmas.{answers_err, answers_ok, answers_same}
use Rattle.naga_oil.proofs.compose.make.Maker.finish.Goals as goal

pub returns-in_err-built : goal.returns-in_err-built
unfolding finish
returns-in_err-built g c =
    let m = c.args.self.now in
    let s = settings_by g.B.Backend.front m in
    let bs = builds_of m.builder.builds in
    let d = definition_of c.args.of.now in
    let out = output_of c.args.output.now in
    answers_err module_value c.in_err-built.field-0.0 c.from_residual.result (built_in_text d.file_path out.text (build s d out bs)) (λ b. compose s (defs_of m.defs) bs b c.args.shader_type (in_text d.file_path out.text b.offset))
    c.in_err-built.ensures c.from_residual.ensures.1

pub returns : goal.returns
unfolding finish
returns g c =
    let m = c.args.self.now in
    let s = settings_by g.B.Backend.front m in
    let bs = builds_of m.builder.builds in
    let d = definition_of c.args.of.now in
    let out = output_of c.args.output.now in
    let b = built_of c.in_ok-built.built in
    answers_ok module_value c.compose.result (built_in_text d.file_path out.text (build s d out bs)) (λ b. compose s (defs_of m.defs) bs b c.args.shader_type (in_text d.file_path out.text b.offset)) b c.in_ok-built.ensures
    (answers_same module_value c.compose.result (compose s (defs_of m.defs) bs b c.args.shader_type (in_text d.file_path c.as_str.result.now b.offset)) (compose s (defs_of m.defs) bs b c.args.shader_type (in_text d.file_path out.text b.offset))
    (ap (λ text. compose s (defs_of m.defs) bs b c.args.shader_type (in_text d.file_path text b.offset)) (sym c.as_str.ensures.value)) c.compose.ensures)
