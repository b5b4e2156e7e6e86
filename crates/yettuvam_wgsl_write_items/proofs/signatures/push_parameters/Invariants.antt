use Rattle.std.proofs.Common.{◌≡◌, length, map, string_bytes}
use Rattle.yettuvam_wgsl_write_expressions.specs.Context.{context_of}
use Rattle.yettuvam_wgsl_write_items.specs.Signatures.{each_parameter, argument_values, put_parameters}
use Rattle.yettuvam_wgsl_write_items.specs.Text.{pieces_of}
use Rattle.yettuvam_wgsl_write_items.proofs.signatures.push_parameters.Given as goal

abbrev pub invariant-loop-rest : goal.invariant-loop-rest
invariant-loop-rest l = each_parameter (context_of l.context) l.span (pieces_of l.out) (map string_bytes l.names) (argument_values l.rest) ≡ put_parameters (context_of l.context) l.initial.names l.of l.span (pieces_of l.fn.out)

abbrev pub decreases-loop-rest : goal.decreases-loop-rest
decreases-loop-rest l = length l.rest
