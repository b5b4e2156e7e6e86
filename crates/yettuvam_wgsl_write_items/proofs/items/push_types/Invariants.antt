use Rattle.std.proofs.Common.{◌≡◌}
use Rattle.yettuvam_wgsl_write_types.specs.Types.{type_rows}
use Rattle.yettuvam_wgsl_write_expressions.specs.Context.{context_of}
use Rattle.yettuvam_wgsl_written_names.specs.Items.{texts}
use Rattle.yettuvam_wgsl_write_items.specs.Items.{each_type, put_types}
use Rattle.yettuvam_wgsl_write_items.specs.Text.{pieces_of}
use Rattle.yettuvam_wgsl_write_items.proofs.items.push_types.Given as goal

abbrev pub invariant-loop-ty : goal.invariant-loop-ty
invariant-loop-ty l = each_type (context_of l.context) (texts l.names) (pieces_of l.out) (type_rows l.ty-iterator) ≡ put_types (context_of l.context) (pieces_of l.fn.out)
