use Rattle.std.proofs.Common.{◌∙◌, ap, map, string_bytes, None}
use Rattle.naga_oil_ir.specs.ModuleValue.{argument_value, local_value, expression_values}
use Rattle.naga_oil_link.proofs.copied.stub.Goals as goal

pub returns : goal.returns
returns c = λ i. record {
  name = c.in_ok-name.ensures i;
  arguments = (c.in_ok-arguments.ensures ∙ ap (map argument_value) c.deref.ensures.value) i;
  result = c.args.function.now.result;
  local_variables = map (λ l. (local_value l.0, l.1)) (c.new-local_variables.ensures i);
  expressions = expression_values (c.new-expressions.ensures i);
  named_expressions = map (λ e. (e.0, string_bytes e.1)) (c.new-named_expressions.ensures i);
  body = c.no_body-body.ensures i;
  diagnostic_filter_leaf = None;
}
