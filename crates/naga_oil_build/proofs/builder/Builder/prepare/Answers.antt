use Rattle.std.proofs.Common.{ℕ, List, subst}
use Rattle.naga_oil_pre.specs.KnownView.{output_of}
use Rattle.naga_oil_conditions.specs.View.{Fails}
use Rattle.naga_oil_registry.specs.Registered.{definition_of}
use Rattle.naga_oil_registry.proofs.NewDefinitionLemmas.{gives-refused}
use Rattle.naga_oil_link.specs.BuiltModule.{BuiltModule, built_of, builds_of}
use Rattle.naga_oil_build.specs.Build.{begin_build, write_whole}
use Rattle.naga_oil_build.specs.BuildView.{settings_in}
use Rattle.naga_oil_build.proofs.builder.Builder.prepare.Goals as goal

pub returns-in_err-whole : goal.returns-in_err-whole
returns-in_err-whole g c =
    let s = settings_in g.B.Backend.front c.args.self.now in
    let d = definition_of c.args.of.now in
    let builds = builds_of c.args.self.now.builds in
    let out = output_of c.args.output.now in
    let e = c.in_err-whole.field-0.0 in
    let by_text = subst (λ (t : List ℕ). Fails e (write_whole s d builds t (built_of c.in_ok-built.built))) c.as_str-text.ensures.value c.in_err-whole.ensures in
    let by_built = subst (λ (b : BuiltModule). Fails e (write_whole s d builds out.text b)) c.in_ok-built.ensures by_text in
    gives-refused _ c.from_residual-in_err-whole.result e (write_whole s d builds out.text (begin_build builds d out.uses)) c.from_residual-in_err-whole.ensures.1 by_built
