use Rattle.std.proofs.Common.{◌≡◌, List, Ok, map, ap, subst}
use Rattle.naga_oil_imports.specs.Uses.{Use, use_of}
use Rattle.naga_oil_imports.specs.declared.import_definition.ImportDefWithOffset.{ImportDefWithOffset}
use Rattle.naga_oil_pre.specs.KnownView.{output_of}
use Rattle.naga_oil_registry.specs.Registered.{definition_of, defs_of}
use Rattle.naga_oil_link.specs.BuiltModule.{builds_of}
use Rattle.naga_oil.specs.MakeView.{settings_by}
use Rattle.naga_oil.specs.Answer.{of_shader, as_merged, reach_uses}
use Rattle.naga_oil.proofs.DoesLemmas.{Ends}
use Rattle.naga_oil.proofs.ReadingLemmas.{second_unread, second_ended, second_read}
use Rattle.naga_oil.specs.Refused.{refused_of}
use Rattle.naga_oil.specs.StoreView.{kept_of}
use Rattle.naga_oil.specs.declared.compose.error.ComposerError.{ComposerError}
use Rattle.naga_oil.proofs.KeepsLemmas.{keeps_ended, keeps_ok, keeps_same, nothing_wrong}
use Rattle.naga_oil.proofs.compose.make.Maker.read_and_build_second.Goals as goal

pub returns-in_err-output-clause-read : goal.returns-in_err-output-clause-read
returns-in_err-output-clause-read g c =
    let m = c.args.self.now in
    let s = settings_by g.B.Backend.front m in
    second_unread s c.args.self.now.modules.now c.args.text.now (definition_of c.args.shader.now) (defs_of m.defs) (builds_of m.builder.builds) c.in_err-output.field-0.0 c.from_residual.result c.from_residual.ensures.1 output_of c.in_err-output.ensures

pub returns-in_err-reach_uses-clause-read : goal.returns-in_err-reach_uses-clause-read
returns-in_err-reach_uses-clause-read g c =
    let m = c.args.self.now in
    let s = settings_by g.B.Backend.front m in
    let ds = c.args.self.now.modules.now in
    let text = c.args.text.now in
    let d = definition_of c.args.shader.now in
    let own = defs_of m.defs in
    let bs = builds_of m.builder.builds in
    let out = output_of c.in_ok-output.output in
    let uses : map use_of c.deref.result.now ≡ out.uses = ap (λ (is : List ImportDefWithOffset). map use_of is) c.deref.ensures.value in
    let e = c.in_err-reach_uses.field-0.0 in
    let new = builds_of c.reach_uses.new.self.builder.builds in
    second_ended s ds text d own bs out c.in_ok-output.ensures e c.from_residual-in_err-reach_uses.result c.from_residual-in_err-reach_uses.ensures.1 output_of new
    (subst (λ (us : List Use). Ends e new (of_shader d.file_path text own (reach_uses s ds own (as_merged ds own) us) bs)) uses c.in_err-reach_uses.ensures.reached)

pub returns-clause-read : goal.returns-clause-read
returns-clause-read g c =
    let m = c.args.self.now in
    let s = settings_by g.B.Backend.front m in
    let ds = c.args.self.now.modules.now in
    let text = c.args.text.now in
    let d = definition_of c.args.shader.now in
    let own = defs_of m.defs in
    let bs = builds_of m.builder.builds in
    let out = output_of c.in_ok-output.output in
    let uses : map use_of c.deref.result.now ≡ out.uses = ap (λ (is : List ImportDefWithOffset). map use_of is) c.deref.ensures.value in
    let new = builds_of c.reach_uses.new.self.builder.builds in
    second_read s ds text d own bs out c.in_ok-output.ensures new
    (subst (λ (us : List Use). of_shader d.file_path text own (reach_uses s ds own (as_merged ds own) us) bs ≡ record { builds = new; result = Ok tt }) uses c.in_ok-reach_uses.ensures.reached)

pub returns-in_err-output-clause-keeps : goal.returns-in_err-output-clause-keeps
returns-in_err-output-clause-keeps g c =
    let m = c.args.self.now in
    let s = settings_by g.B.Backend.front m in
    keeps_same s m.modules.now (defs_of m.defs) refused_of (builds_of m.builder.builds) (kept_of m.store) c.from_residual.result c.requires.stand

pub returns-in_err-reach_uses-clause-keeps : goal.returns-in_err-reach_uses-clause-keeps
returns-in_err-reach_uses-clause-keeps g c =
    let m = c.args.self.now in
    let n = c.reach_uses.new.self in
    let s = settings_by g.B.Backend.front m in
    let ds = m.modules.now in
    let bs = builds_of m.builder.builds in
    let kept = kept_of m.store in
    keeps_ended s ds (defs_of m.defs) refused_of bs kept bs kept (keeps_same s ds (defs_of m.defs) refused_of bs kept (nothing_wrong ComposerError) c.requires.stand) c.in_err-reach_uses.field-0.0 c.from_residual-in_err-reach_uses.result (builds_of n.builder.builds) (kept_of n.store) c.from_residual-in_err-reach_uses.ensures.1 c.in_err-reach_uses.ensures.keeps

pub returns-clause-keeps : goal.returns-clause-keeps
returns-clause-keeps g c =
    let m = c.args.self.now in
    let n = c.reach_uses.new.self in
    let s = settings_by g.B.Backend.front m in
    keeps_ok s m.modules.now (defs_of m.defs) (builds_of m.builder.builds) (kept_of m.store) (builds_of n.builder.builds) (kept_of n.store) refused_of refused_of tt c.in_ok-output.output c.in_ok-reach_uses.ensures.keeps
