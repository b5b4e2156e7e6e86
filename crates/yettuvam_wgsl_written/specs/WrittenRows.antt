-- Parentheses and attributes, worked by hand.
use Rattle.std.specs.Prelude.{◌≡◌, refl, true, false, [], ◌∷◌, ◌*◌, ◌+◌, Some, Ok, Err, codes}
use Rattle.naga_oil_ir.specs.Spans.{undefined}
use Rattle.yettuvam_wgsl_pieces.specs.Pieces.{Word, Number, Sign}
use Rattle.yettuvam_wgsl_pieces.specs.declared.sign.Sign.TheVariants as sign
use Rattle.yettuvam_wgsl_written.specs.Attributes.{binding, binding_code, class, built_in_value, opened, closed_word, interpolation, interpolation_words, sampling, alignment, number_attribute}
use Rattle.yettuvam_wgsl_written.specs.Operators.{fits_left, fits_right}
use Rattle.yettuvam_wgsl_written.specs.Written.{value_pieces, place_pieces, base_pieces, argument_pieces, name}
use Rattle.yettuvam_wgsl_written.specs.declared.operators.Level.TheVariants as level
use Rattle.yettuvam_wgsl_written.specs.declared.written.Role.TheVariants as role

-- `a - b - c` has no parentheses, `a - (b - c)` has; a shift in a comparison has
subtract_rows : (fits_left level.Sum level.Sum ≡ true) × (fits_right level.Sum level.Sum ≡ false) × (fits_right level.Relation level.Shift ≡ false) × (fits_left level.Or level.And ≡ false)
subtract_rows = (refl, refl, refl, refl)

-- of a pointer `p`: its value, its place, and its place where a member follows
pointer_rows :
    (value_pieces (name (codes "p") role.Pointer) true ≡ Word (codes "p") ∷ [])
    × (place_pieces (name (codes "p") role.Pointer) true ≡ Sign sign.Indirection ∷ Word (codes "p") ∷ [])
    × (base_pieces (name (codes "p") role.Pointer) ≡ Sign sign.LeftParen ∷ Sign sign.Indirection ∷ Word (codes "p") ∷ Sign sign.RightParen ∷ [])
pointer_rows = (refl, refl, refl)

-- an argument that isn't the last one: the pointer to a variable
argument_row : argument_pieces (name (codes "x") role.Place) false ≡ Sign sign.AddressOf ∷ Word (codes "x") ∷ Sign sign.Comma ∷ []
argument_row = refl

-- `@location(2) @interpolate(flat)`
location_row : binding (Some (2 * 4294967296 + 3 * 65536 + 2)) undefined
    ≡ Ok (Sign sign.At ∷ Word (codes "location") ∷ Sign sign.LeftParen ∷ Number 2 ∷ Sign sign.RightParen
    ∷ Sign sign.At ∷ Word (codes "interpolate") ∷ Sign sign.LeftParen ∷ Word (codes "flat") ∷ Sign sign.RightParen ∷ [])
unfolding binding_code class built_in_value opened closed_word interpolation interpolation_words sampling alignment number_attribute
location_row = refl

-- `@align(16) @builtin(position) @invariant`
position_row : binding (Some (5 * 16777216 + 2097152 + 4 * 256 + 1)) undefined
    ≡ Ok (Sign sign.At ∷ Word (codes "align") ∷ Sign sign.LeftParen ∷ Number 16 ∷ Sign sign.RightParen
    ∷ Sign sign.At ∷ Word (codes "builtin") ∷ Sign sign.LeftParen ∷ Word (codes "position") ∷ Sign sign.RightParen
    ∷ Sign sign.At ∷ Word (codes "invariant") ∷ [])
unfolding binding_code class built_in_value opened closed_word interpolation interpolation_words sampling alignment number_attribute
position_row = refl

-- no built-in value has the code 0
no_value_row : binding (Some 1) undefined ≡ Err undefined
unfolding binding_code class built_in_value opened closed_word interpolation interpolation_words sampling alignment number_attribute
no_value_row = refl
