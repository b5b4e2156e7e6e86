use Rattle.std.proofs.Common.{Err, subst}
use Rattle.naga_oil_ir.specs.ModuleValue.{module_value}
use Rattle.naga_oil_registry.specs.Registered.{definition_of, defs_of}
use Rattle.naga_oil_link.specs.BuiltModule.{builds_of}
use Rattle.naga_oil.specs.MakeView.{PlacesAs, settings_by}
use Rattle.naga_oil.specs.Refused.{in_text}
use Rattle.naga_oil.specs.Validate.{validate}
use Rattle.naga_oil.proofs.ValidatedLemmas.{unvalidated}
use Rattle.naga_oil.proofs.compose.make.Maker.validated.Goals as goal

pub returns-in_err-in_text : goal.returns-in_err-in_text
returns-in_err-in_text g c =
    let m = c.args.self.now in
    let s = settings_by g.B.Backend.front m in
    let place = in_text c.as_str-path.result.now c.args.text.now c.args.offset in
    let e = c.in_err-in_text.field-0.0 in
    unvalidated module_value place c.validate-valid.result e c.from_residual.result
    (validate s (builds_of m.builder.builds) (defs_of m.defs) (in_text (definition_of c.args.of.now).file_path c.args.text.now c.args.offset) (module_value c.args.made))
    (subst (λ r. PlacesAs place r (Err e)) c.answered.ensures c.in_err-in_text.ensures) c.from_residual.ensures.1
