use Rattle.std.proofs.Common.{ap, subst, map, string_bytes}
use Rattle.naga_oil_imports.specs.Uses.{use_of}
use Rattle.naga_oil_registry.specs.Registered.{Defs, defs_of}
use Rattle.naga_oil_link.specs.BuiltModule.{builds_of}
use Rattle.naga_oil.specs.Answer.{refusal, reach_uses}
use Rattle.naga_oil.specs.MakeView.{TellsUnreached, rule_of, unreached_of, settings_by}
use Rattle.naga_oil.specs.Refused.{refused_of}
use Rattle.naga_oil.specs.StoreView.{kept_of}
use Rattle.naga_oil.specs.declared.compose.make.Maker.{Maker}
use Rattle.naga_oil.proofs.DoesLemmas.{reaches_ok, reaches_err}
use Rattle.naga_oil.proofs.KeepsLemmas.{keeps_ok, keeps_told}
use Rattle.naga_oil.proofs.compose.make.Maker.reach_uses.Goals as goal

pub returns-in-Ok-clause-reached : goal.returns-in-Ok-clause-reached
returns-in-Ok-clause-reached g c =
    let m = c.args.self.now in
    let s = settings_by g.B.Backend.front m in
    let ds = c.args.self.now.modules.now in
    let defs = defs_of m.defs in
    reaches_ok (string_bytes c.args.shader.now.file_path) c.args.text.now defs (reach_uses s ds defs (rule_of ds defs c.args.rule) (map use_of c.args.uses.now)) (builds_of m.builder.builds) (builds_of c.ensure_each.new.self.builder.builds) c.in-Ok.ensures.reached

pub returns-in-Err-clause-reached : goal.returns-in-Err-clause-reached
returns-in-Err-clause-reached g c =
    let m = c.args.self.now in
    let s = settings_by g.B.Backend.front m in
    let ds = c.args.self.now.modules.now in
    let defs = defs_of m.defs in
    let path = string_bytes c.args.shader.now.file_path in
    let text = c.args.text.now in
    let same = ap (λ (x : Maker _). defs_of x.defs) c.ensure_each.ensures.rest in
    reaches_err path text defs (reach_uses s ds defs (rule_of ds defs c.args.rule) (map use_of c.args.uses.now)) (builds_of m.builder.builds) (builds_of c.ensure_each.new.self.builder.builds) c.in-Err.why c.refusal.result c.in-Err.ensures.reached
    (subst (λ (x : Defs). TellsUnreached (refusal path text x) c.in-Err.why c.refusal.result) same c.refusal.ensures)

pub returns-in-Ok-clause-keeps : goal.returns-in-Ok-clause-keeps
returns-in-Ok-clause-keeps g c =
    let m = c.args.self.now in
    let n = c.ensure_each.new.self in
    let s = settings_by g.B.Backend.front m in
    keeps_ok s m.modules.now (defs_of m.defs) (builds_of m.builder.builds) (kept_of m.store) (builds_of n.builder.builds) (kept_of n.store) unreached_of refused_of tt tt c.in-Ok.ensures.keeps

pub returns-in-Err-clause-keeps : goal.returns-in-Err-clause-keeps
returns-in-Err-clause-keeps g c =
    let m = c.args.self.now in
    let n = c.ensure_each.new.self in
    let s = settings_by g.B.Backend.front m in
    let path = string_bytes c.args.shader.now.file_path in
    let text = c.args.text.now in
    let same = ap (λ (x : Maker _). defs_of x.defs) c.ensure_each.ensures.rest in
    keeps_told s m.modules.now (defs_of m.defs) (builds_of m.builder.builds) (kept_of m.store) (builds_of n.builder.builds) (kept_of n.store) (refusal path text (defs_of m.defs)) c.in-Err.why c.refusal.result
    (subst (λ (x : Defs). TellsUnreached (refusal path text x) c.in-Err.why c.refusal.result) same c.refusal.ensures) c.in-Err.ensures.keeps
