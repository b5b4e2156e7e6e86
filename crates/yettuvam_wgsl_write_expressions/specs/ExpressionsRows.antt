-- Expressions, worked by hand.
use Rattle.std.specs.Prelude.{◌≡◌, refl, ◌+◌, ◌*◌, [], ◌∷◌, Some, None, codes, Ok, Err}
use Rattle.naga_oil_ir.specs.Spans.{undefined}
use Rattle.yettuvam_wgsl_pieces.specs.Pieces.{Word, Number, Sign}
use Rattle.yettuvam_wgsl_pieces.specs.declared.sign.Sign.TheVariants as sign
use Rattle.yettuvam_wgsl_written.specs.Written.{name}
use Rattle.yettuvam_wgsl_written.specs.declared.written.Role.TheVariants as role
use Rattle.yettuvam_wgsl_write_expressions.specs.Operands.{arguments, arguments_end, present}
use Rattle.yettuvam_wgsl_write_expressions.specs.Expressions.{conversion_type}
use Rattle.yettuvam_wgsl_write_expressions.specs.Shapes.{math_shape, scalar_member}
use Rattle.yettuvam_wgsl_write_expressions.specs.Textures.{sample, sample_of, sample_word}
use Rattle.yettuvam_wgsl_write_expressions.specs.declared.shapes.Shape.TheVariants as shape

-- `(a, &v)` of a value `a` and a variable `v`
arguments_row : arguments (name (codes "a") role.Value ∷ name (codes "v") role.Place ∷ []) (0 ∷ 1 ∷ []) undefined ≡ Ok (Sign sign.LeftParen ∷ Word (codes "a") ∷ Sign sign.Comma ∷ Sign sign.AddressOf ∷ Word (codes "v") ∷ Sign sign.RightParen ∷ [])
unfolding arguments arguments_end
arguments_row = refl

-- no expression stands at 2
missing_row : arguments (name (codes "a") role.Value ∷ []) (0 ∷ 2 ∷ []) undefined ≡ Err undefined
unfolding arguments arguments_end
missing_row = refl

present_row : present (Some 4 ∷ None ∷ Some 6 ∷ []) ≡ 4 ∷ 6 ∷ []
present_row = refl

-- `textureGather(1, t, s, c)`, whose component is 1
gather_row : sample (name (codes "t") role.Value ∷ name (codes "s") role.Value ∷ name (codes "c") role.Value ∷ []) (132103 ∷ 0 ∷ []) (Some 0 ∷ Some 1 ∷ Some 2 ∷ None ∷ None ∷ None ∷ None ∷ None ∷ []) undefined
    ≡ Ok (Word (codes "textureGather") ∷ Sign sign.LeftParen ∷ Number 1 ∷ Sign sign.Comma ∷ Word (codes "t") ∷ Sign sign.Comma ∷ Word (codes "s") ∷ Sign sign.Comma ∷ Word (codes "c") ∷ Sign sign.RightParen ∷ [])
unfolding sample_of sample_word arguments_end
gather_row = refl

-- `bitcast<f32>`, and `bitcast<vec3f>`
conversion_rows : (conversion_type (16 * 4) ≡ Some (codes "f32")) × (conversion_type (3 + 16 * 4) ≡ Some (codes "vec3f"))
conversion_rows = (refl, refl)

-- `modf(x)` has members, `floor(x)` has none; the second member of a result of `frexp`, and `.y` of a vector
shape_rows :
    (math_shape (297 ∷ []) ≡ shape.Result 64)
    × (math_shape (284 ∷ []) ≡ shape.Plain)
    × (scalar_member 65 1 ≡ Some (codes "exp"))
    × (scalar_member 4 1 ≡ Some (codes "y"))
shape_rows = (refl, refl, refl, refl)
