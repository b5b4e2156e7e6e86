use Rattle.std.proofs.Common.{◌∙◌, ap, sym, Ok, Err}
use Rattle.naga_oil_pre.specs.KnownView.{output_of}
use Rattle.naga_oil_conditions.specs.View.{fault_of}
use Rattle.naga_oil_registry.specs.Registered.{definition_of, defs_of}
use Rattle.naga_oil_link.specs.BuiltModule.{builds_of}
use Rattle.naga_oil.specs.Reach.{preprocess_module}
use Rattle.naga_oil.proofs.ReachLemmas.{preprocessed_as, as_unbuilt}
use Rattle.naga_oil.proofs.compose.make.Maker.preprocess.Goals as goal

pub returns-in-Ok : goal.returns-in-Ok
returns-in-Ok g c = preprocessed_as c.args.self.now.defs (definition_of c.args.of.now) (builds_of c.args.self.now.builder.builds) (Ok (output_of c.in-Ok.output)) c.in-Ok.ensures

pub returns-in-Err : goal.returns-in-Err
returns-in-Err g c =
    let defs = c.args.self.now.defs in
    let d = definition_of c.args.of.now in
    let bs = builds_of c.args.self.now.builder.builds in
    as_unbuilt c.unbuilt.result (fault_of c.in-Err.inner) c.as_str.result.now 0 _ _ (λ f h. preprocessed_as defs d bs (Err f) h ∙ ap (λ n. preprocess_module (defs_of defs) (record d { name = n }) (Err f) bs) (sym c.as_str.ensures.value)) c.unbuilt.ensures c.in-Err.ensures
