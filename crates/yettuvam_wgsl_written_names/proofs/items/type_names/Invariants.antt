use Rattle.std.proofs.Common.{◌≡◌, length}
use Rattle.yettuvam_wgsl_written_names.specs.Items.{each, naming_of, type_labels}
use Rattle.yettuvam_wgsl_written_names.proofs.items.type_names.Given as goal

abbrev pub invariant-loop-ty : goal.invariant-loop-ty
invariant-loop-ty l = each (naming_of l.taken l.names.items) (type_labels l.ty-iterator) ≡ each (naming_of l.fn.taken l.fn.names.items) (type_labels l.of)
