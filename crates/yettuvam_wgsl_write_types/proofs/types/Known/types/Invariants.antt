use Rattle.std.proofs.Common.{◌≡◌, []}
use Rattle.yettuvam_wgsl_write_types.specs.Types.{each_type, known_of, state_of, type_rows, type_texts}
use Rattle.yettuvam_wgsl_write_types.proofs.types.Known.types.Given as goal

abbrev pub invariant-loop-ty : goal.invariant-loop-ty
invariant-loop-ty l = each_type (known_of l.self) (state_of l.types.items l.told.items) (type_rows l.ty-iterator) ≡ type_texts (known_of l.self) (type_rows l.self.of.now.types)
