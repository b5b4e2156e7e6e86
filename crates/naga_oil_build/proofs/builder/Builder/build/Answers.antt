use Rattle.std.proofs.Common.{◌≡◌, ℕ, List, Ok, Err, string_bytes, sym, ap, ◌∙◌, subst}
use Rattle.naga_oil_pre.specs.KnownView.{output_of}
use Rattle.naga_oil_registry.specs.Registered.{definition_of}
use Rattle.naga_oil_link.specs.BuiltModule.{built_of, builds_of}
use Rattle.naga_oil_build.specs.Build.{WholeText, from_offset, build}
use Rattle.naga_oil_build.specs.BuildView.{settings_in, TellsUnbuilt}
use Rattle.naga_oil_build.specs.Held.{hold}
use Rattle.naga_oil_build.proofs.WholeLemmas.{given_from, built-refused, prepared, build_unprepared, build_is}
use Rattle.naga_oil_build.proofs.builder.Builder.build.Goals as goal

pub returns-in_err-built : goal.returns-in_err-built
returns-in_err-built g c =
    let s = settings_in g.B.Backend.front c.args.self.now in
    let d = definition_of c.args.of.now in
    let builds = builds_of c.args.self.now.builds in
    let out = output_of c.args.output.now in
    let u = c.in_err-built.field-0.0 in
    built-refused built_of c.from_residual.result u (build s d out builds) c.from_residual.ensures.1
    (build_unprepared s d out builds u (given_from _ 0 c.prepare.result (Err u) (prepared s d out builds) c.in_err-built.ensures c.prepare.ensures))

pub returns-in_err-from_offset : goal.returns-in_err-from_offset
returns-in_err-from_offset g c =
    let s = settings_in g.B.Backend.front c.args.self.now in
    let d = definition_of c.args.of.now in
    let builds = builds_of c.args.self.now.builds in
    let out = output_of c.args.output.now in
    let u = c.in_err-from_offset.field-0.0 in
    let b = built_of c.in_ok-built.built in
    let text = string_bytes c.in_ok-built.whole in
    let whole : WholeText = record { text = text; built = b } in
    let first = build_is s d out builds whole (given_from _ 0 c.prepare.result (Ok (c.in_ok-built.built, c.in_ok-built.whole)) (prepared s d out builds) c.in_ok-built.ensures c.prepare.ensures) in
    let second : from_offset c.offset_of-offset.result (hold s d.language c.deref.result.now b) ≡ from_offset b.offset (hold s d.language text b) =
    ap (λ (n : ℕ). from_offset n (hold s d.language c.deref.result.now b)) c.offset_of-offset.ensures ∙ ap (λ (t : List ℕ). from_offset b.offset (hold s d.language t b)) c.deref.ensures in
    let told = given_from _ c.offset_of-offset.result c.hold.result (Err u) (hold s d.language c.deref.result.now b) c.in_err-from_offset.ensures c.hold.ensures in
    built-refused built_of c.from_residual-in_err-from_offset.result u (build s d out builds) c.from_residual-in_err-from_offset.ensures.1 (subst (λ v. TellsUnbuilt u v) (second ∙ sym first) told)

pub returns : goal.returns
returns g c =
    let s = settings_in g.B.Backend.front c.args.self.now in
    let d = definition_of c.args.of.now in
    let builds = builds_of c.args.self.now.builds in
    let out = output_of c.args.output.now in
    let b = built_of c.in_ok-built.built in
    let text = string_bytes c.in_ok-built.whole in
    let whole : WholeText = record { text = text; built = b } in
    let first = build_is s d out builds whole (given_from _ 0 c.prepare.result (Ok (c.in_ok-built.built, c.in_ok-built.whole)) (prepared s d out builds) c.in_ok-built.ensures c.prepare.ensures) in
    let second : from_offset c.offset_of-offset.result (hold s d.language c.deref.result.now b) ≡ from_offset b.offset (hold s d.language text b) =
    ap (λ (n : ℕ). from_offset n (hold s d.language c.deref.result.now b)) c.offset_of-offset.ensures ∙ ap (λ (t : List ℕ). from_offset b.offset (hold s d.language t b)) c.deref.ensures in
    let told = given_from _ c.offset_of-offset.result c.hold.result (Ok tt) (hold s d.language c.deref.result.now b) c.in_ok-from_offset.ensures c.hold.ensures in
    first ∙ sym second ∙ told
