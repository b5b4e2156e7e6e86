-- Operands in the order of the text and functions that are called, worked by hand.
use Rattle.std.specs.Prelude.{◌≡◌, refl, true, false, [], ◌∷◌, Some, None}
use Rattle.naga_oil_ir.specs.ModuleValue.{ModuleValue, no_items}
use Rattle.naga_oil_ir.specs.Parts.{parts}
use Rattle.naga_oil_ir.specs.Rows.{GlobalKind, TypeKind, row}
use Rattle.naga_oil_ir.specs.Spans.{undefined}
use Rattle.naga_oil_ir.specs.declared.expression.Expression.TheVariants.{Binary, Select, Derivative, As}
use Rattle.naga_oil_ir.specs.declared.names.ItemPlace.TheVariants.{TypeItem}
use Rattle.yettuvam_wgsl_names.specs.declared.form_codes.TheConstants.{HANDLE_SPACE}
use Rattle.yettuvam_wgsl_names.specs.declared.functions.TheConstants.{ATOMIC_LOAD}
use Rattle.yettuvam_wgsl_natures.specs.Called.{called_function}
use Rattle.yettuvam_wgsl_natures.specs.Natures.{constant_if, is_global_place, operation_nature, place_if, plain, space_of, timed}
use Rattle.yettuvam_wgsl_natures.specs.Operands.{in_text_order, text_operands}

-- `select(f, t, c)` where `c` is the expression 7, `t` is 8 and `f` is 9; `a - b`
operands_rows : (text_operands (parts (Select 7 8 9)) ≡ 9 ∷ 8 ∷ 7 ∷ []) × (text_operands (parts (Binary 2 4 3)) ≡ 4 ∷ 3 ∷ [])
operands_rows = (refl, refl)

-- `dpdx(e)`, `bitcast<T>(e)`, and the copy of a `let`
called_rows : (called_function (parts (Derivative 768 3)) ≡ 768) × (called_function (parts (As 3 16 0)) ≡ 2562) × (called_function (parts (As 3 0 1)) ≡ 0)
called_rows = (refl, refl, refl)

-- `textureSampleCompare(t, s, at, depth, offset)`, whose offset stands before the depth in the order of copying
sample_row : in_text_order 19 (Some 1 ∷ Some 2 ∷ Some 3 ∷ None ∷ Some 5 ∷ None ∷ None ∷ Some 4 ∷ []) ≡ Some 1 ∷ Some 2 ∷ Some 3 ∷ None ∷ Some 4 ∷ None ∷ None ∷ Some 5 ∷ []
sample_row = refl

-- a texture is no place, a variable in a space of memory is one; a pointer argument is a place, one of a value isn't
abbrev spaces : ModuleValue
spaces = record no_items {
  types = (row (TypeKind 0) None (Some 0 ∷ []) [] [], undefined) ∷ (row (TypeKind 9) None (Some 1 ∷ []) [] (Some (TypeItem 0) ∷ []), undefined) ∷ [];
  global_variables = (row GlobalKind None (Some HANDLE_SPACE ∷ None ∷ []) [] [], undefined) ∷ (row GlobalKind None (Some 1 ∷ None ∷ []) [] [], undefined) ∷ [];
}

place_rows :
    (is_global_place spaces 0 ≡ false)
    × (is_global_place spaces 1 ≡ true)
    × (is_global_place spaces 2 ≡ false)
    × (space_of spaces 0 ≡ None)
    × (space_of spaces 1 ≡ Some 1)
place_rows = (refl, refl, refl, refl, refl)

-- a load, the sum of two constants, a member of a place, and an atomic load
nature_rows :
    (operation_nature [] 18 [] (Some 0 ∷ []) (constant_if true) ≡ timed)
    × (operation_nature [] 23 (1 ∷ []) (Some 0 ∷ Some 1 ∷ []) (constant_if true) ≡ constant_if true)
    × (operation_nature (place_if true ∷ []) 15 (2 ∷ []) (Some 0 ∷ []) plain ≡ place_if true)
    × (operation_nature (plain ∷ []) 15 (2 ∷ []) (Some 0 ∷ []) plain ≡ plain)
    × (operation_nature [] 27 (ATOMIC_LOAD ∷ []) (Some 0 ∷ []) plain ≡ timed)
nature_rows = (refl, refl, refl, refl, refl)
