use Rattle.std.proofs.Common.{◌<◌, ◌∙◌, ap}
use Rattle.std.specs.Map.{keys_of}
use Rattle.naga_oil_form.proofs.FunctionLemmas.{keys_tested}
use Rattle.naga_oil_form.proofs.form_function.names_are_there.Goals as goal

pub returns : goal.returns
returns c =
    keys_tested (λ h. h < c.args.limit) c.args.names.now.entries c.as_slice-handles.result.now c.are_handles_below.result (c.as_slice-handles.ensures ∙ c.keys.ensures.rest ∙ ap keys_of c.as_slice.ensures) c.are_handles_below.ensures
