use Rattle.std.proofs.Common.{Ok, Err}
use Rattle.naga_oil_ir.specs.ModuleValue.{module_value}
use Rattle.naga_oil_registry.proofs.NewDefinitionLemmas.{gives-refused}
use Rattle.naga_oil_build.specs.BuildView.{settings_in}
use Rattle.naga_oil_build.specs.Held.{parse_whole}
use Rattle.naga_oil_build.proofs.HeldLemmas.{given_form, whole_too_large, whole_unparsed, whole_misformed, whole_parsed}
use Rattle.naga_oil_build.proofs.builder.Builder.parse_whole.Goals as goal

pub returns-then-text-clause-value : goal.returns-then-text-clause-value
returns-then-text-clause-value g c = whole_too_large (settings_in g.B.Backend.front c.args.self.now).front c.args.language c.args.text.now c.args.decoration.now c.if-text.true

pub returns-in_err-source-clause-value : goal.returns-in_err-source-clause-value
returns-in_err-source-clause-value g c =
    let front = (settings_in g.B.Backend.front c.args.self.now).front in
    let text = c.args.text.now in
    let value = parse_whole front c.args.language text c.args.decoration.now in
    gives-refused module_value c.from_residual.result c.in_err-source.field-0.0 value c.from_residual.ensures.1
    (whole_unparsed front c.args.language text c.args.decoration.now c.if-text.false c.in_err-source.field-0.0 c.in_err-source.ensures)

pub returns-in_err-or_wrong_form-clause-value : goal.returns-in_err-or_wrong_form-clause-value
returns-in_err-or_wrong_form-clause-value g c =
    let front = (settings_in g.B.Backend.front c.args.self.now).front in
    let text = c.args.text.now in
    let m = module_value c.in_ok-source.source in
    let value = parse_whole front c.args.language text c.args.decoration.now in
    let e = c.in_err-or_wrong_form.field-0.0 in
    gives-refused module_value c.from_residual-in_err-or_wrong_form.result e value c.from_residual-in_err-or_wrong_form.ensures.1
    (whole_misformed front c.args.language text c.args.decoration.now c.if-text.false m c.modules_pass_the_test_of_shape.ensures c.in_ok-source.ensures e (given_form (λ done. done) c.check_form.result (Err e) _ c.in_err-or_wrong_form.ensures c.check_form.ensures.value))

pub returns-clause-value : goal.returns-clause-value
returns-clause-value g c =
    let front = (settings_in g.B.Backend.front c.args.self.now).front in
    let text = c.args.text.now in
    let m = module_value c.in_ok-source.source in
    whole_parsed front c.args.language text c.args.decoration.now c.if-text.false m c.modules_pass_the_test_of_shape.ensures c.in_ok-source.ensures
    (given_form (λ done. done) c.check_form.result (Ok tt) _ c.in_ok-or_wrong_form.ensures c.check_form.ensures.value)
