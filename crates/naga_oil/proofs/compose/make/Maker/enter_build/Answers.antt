use Rattle.std.proofs.Common.{◌∙◌, ap, sym, Err}
use Rattle.naga_oil_conditions.specs.View.{fault_of}
use Rattle.naga_oil_registry.specs.Registered.{definition_of}
use Rattle.naga_oil_link.specs.BuiltModule.{builds_of}
use Rattle.naga_oil_pre.specs.KnownView.{output_of}
use Rattle.naga_oil_build.specs.Build.{build}
use Rattle.naga_oil.specs.MakeView.{settings_by}
use Rattle.naga_oil.specs.Reach.{enter_build}
use Rattle.naga_oil.specs.StoreView.{key_of, kept_of}
use Rattle.naga_oil.proofs.KeepsLemmas.{keeps_nothing}
use Rattle.naga_oil.proofs.ReachLemmas.{as_unbuilt}
use Rattle.naga_oil.proofs.compose.make.Maker.enter_build.Goals as goal

pub returns-in-Err-clause-entered : goal.returns-in-Err-clause-entered
returns-in-Err-clause-entered g c =
    let bs = builds_of c.args.self.now.builder.builds in
    let u = c.in-Err.unbuilt in
    as_unbuilt c.unbuilt.result (fault_of u.inner) c.as_str-name.result.now u.offset _ _ (λ f h. ap (λ r. enter_build (definition_of c.args.of.now).name r bs) h ∙ ap (λ n. enter_build n (Err (record { fault = f; offset = u.offset })) bs) (sym c.as_str-name.ensures.value)) c.unbuilt.ensures c.in-Err.ensures

pub returns-in-Err-clause-kept : goal.returns-in-Err-clause-kept
returns-in-Err-clause-kept g c =
    let m = c.args.self.now in
    let s = settings_by g.B.Backend.front m in
    keeps_nothing c.unbuilt.result (key_of c.args.key) (build s (definition_of c.args.of.now) (output_of c.args.output.now) (builds_of m.builder.builds)) (kept_of m.store)
