-- Global expressions, worked by hand.
use Rattle.std.specs.Prelude.{◌≡◌, refl, ℕ, [], ◌∷◌, Some, Ok, Err}
use Rattle.naga_oil_ir.specs.Parts.{Parts, expr}
use Rattle.naga_oil_ir.specs.Spans.{undefined}
use Rattle.naga_oil_ir.specs.declared.parts.Named.TheVariants.{Nothing}
use Rattle.yettuvam_wgsl_pieces.specs.Pieces.{Literal, Sign}
use Rattle.yettuvam_wgsl_pieces.specs.declared.sign.Sign.TheVariants as sign
use Rattle.yettuvam_wgsl_written.specs.declared.operators.Level.TheVariants as level
use Rattle.yettuvam_wgsl_written.specs.declared.written.Role.TheVariants as role
use Rattle.yettuvam_wgsl_write_types.specs.Types.{texts}
use Rattle.yettuvam_wgsl_write_expressions.specs.Context.{Context}
use Rattle.yettuvam_wgsl_write_expressions.specs.Expressions.{binary, expression}
use Rattle.yettuvam_wgsl_write_expressions.specs.Shapes.{shape_of}
use Rattle.yettuvam_wgsl_write_expressions.specs.declared.shapes.Shape.TheVariants as shape
use Rattle.yettuvam_wgsl_write_globals.specs.Globals.{each_shape, each_value, global_values, shapes}

abbrev empty_context : Context
empty_context = record {
  types = [];
  constants = [];
  overrides = [];
  globals = [];
  results = [];
  names = record { types = []; constants = []; overrides = []; globals = []; functions = []; entry_points = [] };
  texts = texts [] [];
}

-- `7` and `8`, and their sum; a sum of what follows it isn't written
abbrev seven : Parts
seven = expr 0 (1 ∷ 7 ∷ []) Nothing []

abbrev eight : Parts
eight = expr 0 (1 ∷ 8 ∷ []) Nothing []

abbrev sum_of : ℕ → ℕ → Parts
sum_of a b = expr 23 (1 ∷ []) Nothing (Some a ∷ Some b ∷ [])

value_rows :
    (global_values empty_context ((seven, undefined) ∷ (eight, undefined) ∷ (sum_of 0 1, undefined) ∷ [])
    ≡ Ok (record { pieces = Literal 1 7 ∷ []; level = level.Singular; role = role.Value }
    ∷ record { pieces = Literal 1 8 ∷ []; level = level.Singular; role = role.Value }
    ∷ record { pieces = Literal 1 7 ∷ Sign sign.Plus ∷ Literal 1 8 ∷ []; level = level.Sum; role = role.Value } ∷ []))
    × (global_values empty_context ((seven, undefined) ∷ (sum_of 0 2, undefined) ∷ (eight, undefined) ∷ []) ≡ Err undefined)
unfolding each_value expression binary
value_rows = (refl, refl)

shape_row : shapes empty_context [] [] ((seven, undefined) ∷ (eight, undefined) ∷ []) ≡ shape.Plain ∷ shape.Plain ∷ []
unfolding each_shape shape_of
shape_row = refl
