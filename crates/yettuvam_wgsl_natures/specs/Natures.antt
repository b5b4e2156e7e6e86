-- What expressions are to the choice of `let`s.
use Rattle.std.specs.Prelude.{ℕ, ◌==◌, nat_lt, nat_eq, not, ◌&&◌, ◌||◌, if◌then◌else◌, Bool, true, false, List, [], ◌∷◌, ◌++◌, length, slice_get, Option, Some, None, option_map, is_some, unwrap_or}
use Rattle.std.specs.List.{list_all}
use Rattle.std.specs.Map.{lookup}
use Rattle.std.specs.Option.{option_map_or}
use Rattle.naga_oil_ir.specs.ModuleValue.{FunctionValue, ModuleValue}
use Rattle.naga_oil_ir.specs.Parts.{Parts}
use Rattle.naga_oil_ir.specs.Rows.{Kind, Row, TypeKind}
use Rattle.naga_oil_ir.specs.declared.parts.Named.{Named}
use Rattle.naga_oil_ir.specs.declared.parts.Named.TheVariants.{Nothing, TypeOf, ConstantAt, OverrideAt, GlobalAt, LocalAt, ArgumentAt, FunctionAt}
use Rattle.naga_oil_ir.specs.declared.span.Span.{Span}
use Rattle.yettuvam_wgsl_names.specs.declared.form_codes.TheConstants.{ALIAS, CONST_COPY, HANDLE_SPACE, LET_COPY, TYPED_CONST, TYPED_LET}
use Rattle.yettuvam_wgsl_names.specs.declared.functions.TheConstants.{ATOMIC_LOAD}
use Rattle.yettuvam_wgsl_natures.specs.Called.{first_value, second_value}
use Rattle.yettuvam_wgsl_natures.specs.Kinds.{access_kind, array_length_kind, ballot_kind, compose_kind, conversion_kind, derivative_kind, load_kind, math_kind, member_kind, proceed_kind, query_kind, sample_kind, texel_kind, zero_value_kind}
use Rattle.yettuvam_wgsl_natures.specs.declared.natures.Nature.{Nature}

-- ---- natures

-- a value that is evaluated anywhere after its operands
abbrev pub plain : Nature
plain = record { is_constant = false; is_place = false; is_timed = false }

-- a value that depends on when it is evaluated: it reads memory or a texture
abbrev pub timed : Nature
timed = record { is_constant = false; is_place = false; is_timed = true }

abbrev pub constant_if : Bool → Nature
constant_if b = record { is_constant = b; is_place = false; is_timed = false }

abbrev pub place_if : Bool → Nature
place_if b = record { is_constant = false; is_place = b; is_timed = false }

-- ---- places in memory

-- an item of an arena
abbrev pub item_at : {A : Type 0} → List (A × Span) → ℕ → Option A
item_at xs k = option_map (λ e. e.0) (slice_get xs k)

-- the kind of a pointer type
abbrev pub pointer_type : ℕ
pointer_type = 9

-- the address space of a type of a kind with these plain values
abbrev pub space_in : Kind → List (Option ℕ) → Option ℕ
space_in (TypeKind kind) (space ∷ more) = if kind == pointer_type then space else None
space_in _ _ = None

-- the address space of a pointer type
abbrev pub pointer_space : Row → Option ℕ
pointer_space r = space_in r.label.kind r.label.plain

abbrev pub space_by : Option Row → Option ℕ
space_by None = None
space_by (Some r) = pointer_space r

abbrev pub space_of : ModuleValue → ℕ → Option ℕ
space_of m ty = space_by (item_at m.types ty)

abbrev pub is_place_space : List (Option ℕ) → Bool
is_place_space (Some space ∷ more) = not (space == HANDLE_SPACE)
is_place_space _ = false

abbrev pub is_place_row : Option Row → Bool
is_place_row None = false
is_place_row (Some r) = is_place_space r.label.plain

-- global variables are places, but for textures and samplers
abbrev pub is_global_place : ModuleValue → ℕ → Bool
is_global_place m g = is_place_row (item_at m.global_variables g)

-- a pointer type that is no mark
abbrev pub is_pointer_space : Option ℕ → Bool
is_pointer_space None = false
is_pointer_space (Some space) = nat_lt space ALIAS

abbrev pub is_pointer_argument : ModuleValue → FunctionValue → ℕ → Bool
is_pointer_argument m f n = option_map_or (λ a. is_pointer_space (space_of m a.ty)) (slice_get f.arguments n) false

-- ---- an expression by those before it

abbrev pub nature_at : List Nature → ℕ → Nature
nature_at ns h = unwrap_or (slice_get ns h) plain

abbrev pub is_constant_operand : List Nature → Option ℕ → Bool
is_constant_operand ns None = true
is_constant_operand ns (Some h) = (nature_at ns h).is_constant

-- constant if all operands are
abbrev pub operands_nature : List Nature → Parts → Nature
operands_nature ns p = constant_if (list_all (is_constant_operand ns) p.operands)

-- a member or an element of a place is a place
abbrev pub part_nature : List Nature → ℕ → Nature → Nature
part_nature ns base n = if (nature_at ns base).is_place then place_if true else n

-- a `const` is a constant, a `let` of a pointer a place
abbrev pub copy_nature : List Nature → ℕ → ℕ → Nature → Nature
copy_nature ns e convert n =
    if convert == CONST_COPY then constant_if true
    else (if convert == LET_COPY then place_if (nature_at ns e).is_place else n)

-- the same where the declaration has a type
abbrev pub composed_nature : Option ℕ → Nature → Nature
composed_nature None n = n
composed_nature (Some space) n =
    if space == TYPED_CONST then constant_if true else (if space == TYPED_LET then plain else n)

abbrev pub function_nature : ℕ → Nature → Nature
function_nature fun n = if fun == ATOMIC_LOAD then timed else n

-- by the first operand, if there is one
abbrev pub by_first : List (Option ℕ) → (ℕ → Nature) → Nature → Nature
by_first (Some h ∷ os) by n = by h
by_first _ by n = n

-- reads of memory and textures, and derivatives
abbrev pub is_read : ℕ → Bool
is_read kind = (kind == load_kind) || (kind == sample_kind) || (kind == texel_kind) || (kind == derivative_kind)

-- results of statements, and what is known of a texture or an array
abbrev pub is_plain : ℕ → Bool
is_plain kind = (kind == proceed_kind) || (kind == ballot_kind) || (kind == query_kind) || (kind == array_length_kind)

abbrev pub is_part : ℕ → Bool
is_part kind = (kind == access_kind) || (kind == member_kind)

-- an operation by its kind, its plain values and its operands
abbrev pub operation_nature : List Nature → ℕ → List ℕ → List (Option ℕ) → Nature → Nature
operation_nature ns kind values os n =
    if is_plain kind then plain
    else (if is_read kind then timed
    else (if kind == math_kind then function_nature (first_value values) n
    else (if is_part kind then by_first os (λ base. part_nature ns base n) n
    else (if kind == conversion_kind then by_first os (λ e. copy_nature ns e (second_value values) n) n else n))))

-- a value of a type by its kind
abbrev pub typed_nature : ModuleValue → ℕ → ℕ → Nature → Nature
typed_nature m kind ty n =
    if kind == compose_kind then composed_nature (space_of m ty) n else (if kind == zero_value_kind then n else plain)

abbrev pub nature_by_name : ModuleValue → FunctionValue → List Nature → Named → Parts → Nature → Nature
nature_by_name m f ns (GlobalAt g) p n = place_if (is_global_place m g)
nature_by_name m f ns (LocalAt l) p n = place_if true
nature_by_name m f ns (ArgumentAt a) p n = place_if (is_pointer_argument m f a)
nature_by_name m f ns (FunctionAt g) p n = plain
nature_by_name m f ns (TypeOf ty) p n = typed_nature m p.kind ty n
nature_by_name m f ns Nothing p n = operation_nature ns p.kind p.plain p.operands n
nature_by_name m f ns (ConstantAt c) p n = n
nature_by_name m f ns (OverrideAt o) p n = n

-- an expression, where n is what it is by its operands alone
abbrev pub nature_by : ModuleValue → FunctionValue → List Nature → Parts → Nature → Nature
nature_by m f ns p n = nature_by_name m f ns p.named p n

abbrev pub is_typed_const : Option ℕ → Bool
is_typed_const None = false
is_typed_const (Some space) = space == TYPED_CONST

abbrev pub is_const_copy_by : ModuleValue → Named → ℕ → List ℕ → Bool
is_const_copy_by m (TypeOf ty) kind values = (kind == compose_kind) && is_typed_const (space_of m ty)
is_const_copy_by m Nothing kind values = (kind == conversion_kind) && (second_value values == CONST_COPY)
is_const_copy_by m _ kind values = false

-- an expression is declared by `const`
abbrev pub is_const_copy : ModuleValue → Parts → Bool
is_const_copy m p = is_const_copy_by m p.named p.kind p.plain

abbrev pub is_named : FunctionValue → ℕ → Bool
is_named f h = is_some (lookup (nat_eq h) f.named_expressions)

-- the expression after those of ns; one that is declared by `let` is no constant
unfoldable pub next_nature : ModuleValue → FunctionValue → List Nature → Parts → Nature
next_nature m f ns p =
    let n = nature_by m f ns p (operands_nature ns p) in
    record n { is_constant = n.is_constant && not (is_named f (length ns) && not (is_const_copy m p)) }

-- ---- all expressions of a function, each after its operands

abbrev pub natures_from : ModuleValue → FunctionValue → List Nature → List (Parts × Span) → List Nature
natures_from m f ns [] = ns
natures_from m f ns (e ∷ es) = natures_from m f (ns ++ next_nature m f ns e.0 ∷ []) es

abbrev pub natures_of : ModuleValue → FunctionValue → List Nature
natures_of m f = natures_from m f [] f.expressions
