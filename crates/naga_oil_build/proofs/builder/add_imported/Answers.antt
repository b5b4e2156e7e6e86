use Rattle.std.proofs.Common.{◌≡◌, Some, None, option_map, sym, ap, ◌∙◌}
use Rattle.std.proofs.lemmas.Result.{on_ok_weaker}
use Rattle.std.specs.Arc.{arc_value}
use Rattle.std.specs.Option.{option_copied}
use Rattle.naga_oil_link.specs.BuiltModule.{built_of, builds_of}
use Rattle.naga_oil_build.specs.Overriding.{overriding_of, with_build, build_named}
use Rattle.naga_oil_build.proofs.OverridingLemmas.{found_build}
use Rattle.naga_oil_build.proofs.builder.add_imported.Goals as goal

pub returns-in-Some : goal.returns-in-Some
returns-in-Some c =
    let found : Some (built_of c.deref.result.now) ≡ build_named (builds_of c.args.builds.now) c.args.name.now = ap (λ b. Some (built_of b)) c.deref.ensures ∙ ap (option_map (λ a. built_of (arc_value a))) (ap option_copied (sym c.in-Some.is) ∙ c.get.ensures.value) ∙ found_build c.args.builds.now.entries c.args.name.now in
    on_ok_weaker c.add_overrides.result (λ e. e ∙ ap (with_build (overriding_of c.args.all.now)) found) c.add_overrides.ensures

pub returns-in-None : goal.returns-in-None
returns-in-None c =
    let found : None ≡ build_named (builds_of c.args.builds.now) c.args.name.now = ap (option_map (λ a. built_of (arc_value a))) (ap option_copied (sym c.in-None.is) ∙ c.get.ensures.value) ∙ found_build c.args.builds.now.entries c.args.name.now in
    ap (with_build (overriding_of c.args.all.now)) found
