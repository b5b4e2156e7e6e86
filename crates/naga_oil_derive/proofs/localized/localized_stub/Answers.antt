use Rattle.std.proofs.Common.{◌∙◌, ap, List, map}
use Rattle.naga_oil_ir.specs.ModuleValue.{argument_value}
use Rattle.naga_oil_ir.specs.declared.module.FunctionArgument.{FunctionArgument}
use Rattle.naga_oil_derive.specs.Copying.{renames_under}
use Rattle.naga_oil_derive.specs.Functions.{argument_under}
use Rattle.naga_oil_derive.proofs.StubLemmas.{signature_same}
use Rattle.naga_oil_derive.proofs.localized.localized_stub.Goals as goal

pub returns : goal.returns
returns c =
    let r = renames_under c.args.maps.now in
    let arguments = c.in_ok-arguments.ensures ∙ ap (λ (xs : List FunctionArgument). map (argument_under r) (map argument_value xs)) c.deref.ensures.value in
    signature_same r c.args.function.now _ _ _ _ _ _ _ c.requires c.in_ok-name.ensures arguments c.renamed_result-result.ensures c.new-local_variables.ensures c.new-expressions.ensures c.new-named_expressions.ensures c.no_body-body.ensures
