-- The built-in functions that expressions call.
use Rattle.std.specs.Prelude.{ℕ, ◌%◌, ◌==◌, ◌||◌, if◌then◌else◌, Bool, List, [], ◌∷◌}
use Rattle.naga_oil_ir.specs.Parts.{Parts}
use Rattle.yettuvam_wgsl_names.specs.declared.form_codes.TheConstants.{BITCAST_CONVERSION, COMPONENT_UNIT}
use Rattle.yettuvam_wgsl_names.specs.declared.functions.TheConstants.{ARRAY_LENGTH, BITCAST, SELECT, TEXTURE_DIMENSIONS, TEXTURE_LOAD}
use Rattle.yettuvam_wgsl_natures.specs.Kinds.{array_length_kind, conversion_kind, derivative_kind, math_kind, query_kind, relational_kind, sample_kind, select_kind, texel_kind}
use Rattle.yettuvam_wgsl_natures.specs.declared.called.TheConstants.{NO_FUNCTION}

-- the first and the second of the plain values of an expression
abbrev pub first_value : List ℕ → ℕ
first_value (x ∷ xs) = x
first_value [] = 0

abbrev pub second_value : List ℕ → ℕ
second_value (x ∷ y ∷ ys) = y
second_value _ = 0

-- the function of a query of an image, by the plain values of the query: that of a size has no code
abbrev pub queried_function : List ℕ → ℕ
queried_function (x ∷ code ∷ xs) = code
queried_function _ = TEXTURE_DIMENSIONS

-- a conversion calls `bitcast`, or has the form of a constructor
abbrev pub conversion_function : ℕ → ℕ
conversion_function convert = if convert == BITCAST_CONVERSION then BITCAST else NO_FUNCTION

-- a mathematical function, a relation or a derivative has its code as its plain value
abbrev pub has_code : ℕ → Bool
has_code kind = (kind == math_kind) || (kind == relational_kind) || (kind == derivative_kind)

-- the function of an expression by its kind and its plain values
abbrev pub function_of : ℕ → List ℕ → ℕ
function_of kind values =
    if has_code kind then first_value values
    else (if kind == sample_kind then first_value values % COMPONENT_UNIT
    else (if kind == texel_kind then TEXTURE_LOAD
    else (if kind == query_kind then queried_function values
    else (if kind == select_kind then SELECT
    else (if kind == array_length_kind then ARRAY_LENGTH
    else (if kind == conversion_kind then conversion_function (second_value values) else NO_FUNCTION))))))

-- the code of the built-in function that an expression calls
abbrev pub called_function : Parts → ℕ
called_function p = function_of p.kind p.plain
