-- Expressions as pieces.
use Rattle.std.specs.Prelude.{ℕ, ◌/◌, ◌%◌, ◌==◌, ◌||◌, not, if◌then◌else◌, Bool, true, false, List, [], ◌∷◌, ◌++◌, Option, Some, None, slice_get, codes, Result, Ok, Err}
use Rattle.naga_oil_ir.specs.Parts.{Parts}
use Rattle.naga_oil_ir.specs.Rows.{Row, Kind, TypeKind}
use Rattle.naga_oil_ir.specs.declared.parts.Named.{Named}
use Rattle.naga_oil_ir.specs.declared.parts.Named.TheVariants.{Nothing, TypeOf, ConstantAt, OverrideAt, GlobalAt, LocalAt, ArgumentAt, FunctionAt}
use Rattle.naga_oil_ir.specs.declared.span.Span.{Span}
use Rattle.yettuvam_wgsl_names.specs.Functions.{function_name}
use Rattle.yettuvam_wgsl_names.specs.Table.{Name}
use Rattle.yettuvam_wgsl_pieces.specs.Pieces.{Piece, Word, Literal, Letters, Sign}
use Rattle.yettuvam_wgsl_pieces.specs.declared.sign.Sign.{Sign as SignOfText}
use Rattle.yettuvam_wgsl_pieces.specs.declared.sign.Sign.TheVariants as sign
use Rattle.yettuvam_wgsl_written.specs.Codes.{scalar_name, vector_name}
use Rattle.yettuvam_wgsl_written.specs.Operators.{binary_operator, unary_operator, fits_left, fits_right}
use Rattle.yettuvam_wgsl_written.specs.Outcomes.{Outcome, ◌>>=◌, word}
use Rattle.yettuvam_wgsl_written.specs.Written.{Written, name, base_pieces, value_pieces, place_pieces, value_level, place_level}
use Rattle.yettuvam_wgsl_written.specs.declared.operators.Level.{Level}
use Rattle.yettuvam_wgsl_written.specs.declared.operators.Level.TheVariants as level
use Rattle.yettuvam_wgsl_written.specs.declared.operators.Operator.{Operator}
use Rattle.yettuvam_wgsl_written.specs.declared.written.Role.{Role}
use Rattle.yettuvam_wgsl_written.specs.declared.written.Role.TheVariants as role
use Rattle.yettuvam_wgsl_written_names.specs.Items.{name_at}
use Rattle.yettuvam_wgsl_write_types.specs.Types.{pointer_kind}
use Rattle.yettuvam_wgsl_write_expressions.specs.Context.{Context, Scope, type_text, type_at, global_at}
use Rattle.yettuvam_wgsl_write_expressions.specs.Kinds as kinds
use Rattle.yettuvam_wgsl_write_expressions.specs.Operands.{WrittenOutcome, operand, present, arguments, as_value, call, length_call, select_call, value}
use Rattle.yettuvam_wgsl_write_expressions.specs.Shapes.{member_name}
use Rattle.yettuvam_wgsl_write_expressions.specs.Textures.{sample, texel, query}

-- ---- names

-- an item or a variable by its name, if it has one
abbrev pub named : Option Name → Role → Span → WrittenOutcome
named (Some n) r span = Ok (name n r)
named None r span = Err span

-- textures and samplers are values; other globals are places
abbrev pub role_in_space : List (Option ℕ) → Role
role_in_space (Some space ∷ more) = if space == kinds.handle_space then role.Value else role.Place
role_in_space _ = role.Value

abbrev pub global_role : Option Row → Role
global_role (Some g) = role_in_space g.label.plain
global_role None = role.Value

-- what the name of the global variable at a place is
abbrev pub global_role_at : Context → ℕ → Role
global_role_at c g = global_role (global_at c g)

abbrev pub global : Scope → ℕ → WrittenOutcome
global s g = named (name_at s.context.names.globals g) (global_role_at s.context g) s.span

abbrev pub is_pointer_kind : Kind → Bool
is_pointer_kind (TypeKind kind) = kind == pointer_kind
is_pointer_kind _ = false

abbrev pub is_pointer_row : Option Row → Bool
is_pointer_row (Some r) = is_pointer_kind r.label.kind
is_pointer_row None = false

abbrev pub is_pointer : Context → ℕ → Bool
is_pointer c ty = is_pointer_row (type_at c ty)

-- an argument of a pointer type is a pointer
abbrev pub argument_role : Context → Option ℕ → Role
argument_role c (Some ty) = if is_pointer c ty then role.Pointer else role.Value
argument_role c None = role.Value

abbrev pub argument_role_at : Scope → ℕ → Role
argument_role_at s n = argument_role s.context (slice_get s.argument_types n)

abbrev pub argument_name : Scope → ℕ → Option Name
argument_name s n = slice_get s.arguments n

abbrev pub argument : Scope → ℕ → WrittenOutcome
argument s n = named (argument_name s n) (argument_role_at s n) s.span

-- ---- values of types

abbrev pub is_typed : ℕ → Bool
is_typed space = (space == kinds.typed_let) || (space == kinds.typed_const)

abbrev pub has_typed : List (Option ℕ) → Bool
has_typed (Some space ∷ more) = is_typed space
has_typed _ = false

abbrev pub is_typed_copy_kind : Kind → List (Option ℕ) → Bool
is_typed_copy_kind (TypeKind kind) plain = if kind == pointer_kind then has_typed plain else false
is_typed_copy_kind _ plain = false

abbrev pub is_typed_copy_row : Option Row → Bool
is_typed_copy_row (Some r) = is_typed_copy_kind r.label.kind r.label.plain
is_typed_copy_row None = false

-- the type is a mark of a `let` or of a `const` with a type
abbrev pub is_typed_copy : Context → ℕ → Bool
is_typed_copy c ty = is_typed_copy_row (type_at c ty)

abbrev pub operand_of : Scope → List Written → ℕ → WrittenOutcome
operand_of s known h = operand known h s.span

abbrev pub only : List Written → List ℕ → Span → WrittenOutcome
only known (h ∷ []) span = operand known h span
only known _ span = Err span

-- a type and arguments
unfoldable pub constructed : Scope → List Written → ℕ → List ℕ → Outcome
constructed s known ty hs = type_text s.context ty s.span >>= (λ t. arguments known hs s.span >>= (λ ps. Ok (t ++ ps)))

-- a value of a type, composed of others
unfoldable pub composed : Scope → List Written → ℕ → List ℕ → WrittenOutcome
composed s known ty hs = if is_typed_copy s.context ty then only known hs s.span else as_value (constructed s known ty hs)

-- ---- parts of values

-- a part of a place is a place
abbrev pub part_role : Role → Role
part_role role.Value = role.Value
part_role _ = role.Place

abbrev pub part : Written → List Piece → Written
part base ps = record { pieces = base_pieces base ++ ps; level = level.Singular; role = part_role base.role }

-- `BASE[INDEX]`
unfoldable pub element : Scope → List Written → (base index : ℕ) → WrittenOutcome
element s known base index =
    operand known base s.span >>= (λ b. operand known index s.span
    >>= (λ i. Ok (part b (Sign sign.LeftBracket ∷ (value_pieces i true ++ Sign sign.RightBracket ∷ [])))))

-- `BASE.NAME`
unfoldable pub member : Scope → List Written → (base index : ℕ) → WrittenOutcome
member s known base index =
    operand known base s.span >>= (λ b. word (member_name s base index) s.span >>= (λ w. Ok (part b (Sign sign.Dot ∷ w))))

-- `VECTOR.xyz`
unfoldable pub swizzle : Scope → List Written → (size vector pattern : ℕ) → WrittenOutcome
swizzle s known size vector pattern =
    operand known vector s.span >>= (λ v. Ok (value (base_pieces v ++ Sign sign.Dot ∷ Letters size pattern ∷ [])))

-- the value of a place
unfoldable pub load : Scope → List Written → ℕ → WrittenOutcome
load s known pointer =
    operand known pointer s.span >>= (λ p. Ok (record { pieces = place_pieces p true; level = place_level p; role = role.Value }))

-- ---- operators

abbrev pub signed : SignOfText → Written → Written
signed mark w = record { pieces = Sign mark ∷ value_pieces w (fits_right level.Unary (value_level w)); level = level.Unary; role = role.Value }

abbrev pub unary_by : Option SignOfText → Scope → List Written → ℕ → WrittenOutcome
unary_by (Some mark) s known h = operand known h s.span >>= (λ w. Ok (signed mark w))
unary_by None s known h = Err s.span

unfoldable pub unary : Scope → List Written → (op h : ℕ) → WrittenOutcome
unary s known op h = unary_by (unary_operator op) s known h

abbrev pub left_pieces : Operator → Written → List Piece
left_pieces o w = value_pieces w (fits_left o.level (value_level w))

abbrev pub right_pieces : Operator → Written → List Piece
right_pieces o w = value_pieces w (fits_right o.level (value_level w))

abbrev pub operated : Operator → Written → Written → Written
operated o a b = record { pieces = left_pieces o a ++ Sign o.sign ∷ right_pieces o b; level = o.level; role = role.Value }

abbrev pub binary_by : Option Operator → Scope → List Written → (left right : ℕ) → WrittenOutcome
binary_by (Some o) s known left right =
    operand known left s.span >>= (λ a. operand known right s.span >>= (λ b. Ok (operated o a b)))
binary_by None s known left right = Err s.span

unfoldable pub binary : Scope → List Written → (op left right : ℕ) → WrittenOutcome
binary s known op left right = binary_by (binary_operator op) s known left right

-- ---- conversions

-- the type that a conversion has: a scalar, or a vector
abbrev pub conversion_type : ℕ → Option Name
conversion_type kind = if kind % 16 == 0 then scalar_name (kind / 16) else vector_name kind

unfoldable pub conversion_word : ℕ → Span → Outcome
conversion_word kind span = word (conversion_type kind) span

-- `bitcast<TYPE>(VALUE)`
unfoldable pub bitcast : Scope → List Written → (h kind : ℕ) → Outcome
bitcast s known h kind =
    conversion_word kind s.span >>= (λ t. arguments known (h ∷ []) s.span
    >>= (λ ps. Ok (Word (codes "bitcast") ∷ Sign sign.TemplateOpen ∷ (t ++ Sign sign.TemplateClose ∷ ps))))

-- a `bitcast`, or a copy
unfoldable pub conversion : Scope → List Written → (h kind convert : ℕ) → WrittenOutcome
conversion s known h kind convert =
    if convert == kinds.bitcast_conversion then as_value (bitcast s known h kind) else operand known h s.span

-- ---- all expressions

unfoldable pub built_in : Scope → List Written → ℕ → List ℕ → Outcome
built_in s known code hs = call (function_name code) known hs s.span

-- a vector of equal components
unfoldable pub splat : Scope → List Written → (size : ℕ) → List ℕ → Outcome
splat s known size hs = call (vector_name size) known hs s.span

-- what has the plain value
abbrev pub with_one : (ℕ → WrittenOutcome) → List ℕ → Span → WrittenOutcome
with_one f (n ∷ []) span = f n
with_one f _ span = Err span

abbrev pub with_two : (ℕ → ℕ → WrittenOutcome) → List ℕ → Span → WrittenOutcome
with_two f (m ∷ n ∷ []) span = f m n
with_two f _ span = Err span

abbrev pub of_one : (ℕ → WrittenOutcome) → List (Option ℕ) → Span → WrittenOutcome
of_one f (Some a ∷ []) span = f a
of_one f _ span = Err span

abbrev pub of_two : (ℕ → ℕ → WrittenOutcome) → List (Option ℕ) → Span → WrittenOutcome
of_two f (Some a ∷ Some b ∷ []) span = f a b
of_two f _ span = Err span

abbrev pub of_three : (ℕ → ℕ → ℕ → WrittenOutcome) → List (Option ℕ) → Span → WrittenOutcome
of_three f (Some a ∷ Some b ∷ Some c ∷ []) span = f a b c
of_three f _ span = Err span

-- an operation by its kind
abbrev pub operation : Scope → List Written → ℕ → List ℕ → List (Option ℕ) → WrittenOutcome
operation s known kind plain os =
    if kind == kinds.literal_kind then with_two (λ k bits. Ok (value (Literal k bits ∷ []))) plain s.span
    else (if kind == kinds.access_kind then of_two (element s known) os s.span
    else (if kind == kinds.member_kind then with_one (λ index. of_one (λ base. member s known base index) os s.span) plain s.span
    else (if kind == kinds.splat_kind then with_one (λ size. as_value (splat s known size (present os))) plain s.span
    else (if kind == kinds.swizzle_kind then with_two (λ size pattern. of_one (λ v. swizzle s known size v pattern) os s.span) plain s.span
    else (if kind == kinds.load_kind then of_one (load s known) os s.span
    else (if kind == kinds.sample_kind then as_value (sample known plain os s.span)
    else (if kind == kinds.texel_kind then as_value (texel known os s.span)
    else (if kind == kinds.query_kind then as_value (query known plain os s.span)
    else (if kind == kinds.unary_kind then with_one (λ op. of_one (unary s known op) os s.span) plain s.span
    else (if kind == kinds.binary_kind then with_one (λ op. of_two (binary s known op) os s.span) plain s.span
    else (if kind == kinds.select_kind then of_three (λ condition accept reject. as_value (select_call known (reject ∷ accept ∷ condition ∷ []) s.span)) os s.span
    else (if kind == kinds.derivative_kind then with_one (λ axis. as_value (built_in s known axis (present os))) plain s.span
    else (if kind == kinds.relational_kind then with_one (λ fun. as_value (built_in s known fun (present os))) plain s.span
    else (if kind == kinds.math_kind then with_one (λ fun. as_value (built_in s known fun (present os))) plain s.span
    else (if kind == kinds.conversion_kind then with_two (λ k convert. of_one (λ h. conversion s known h k convert) os s.span) plain s.span
    else (if kind == kinds.array_length_kind then as_value (length_call known (present os) s.span)
    else Err s.span))))))))))))))))

-- a zero value, or one that is composed; results of statements aren't written
abbrev pub typed : Scope → List Written → ℕ → ℕ → List (Option ℕ) → WrittenOutcome
typed s known kind ty os =
    if (kind == kinds.zero_value_kind) || (kind == kinds.compose_kind) then composed s known ty (present os) else Err s.span

abbrev pub by_name : Scope → List Written → Named → Parts → WrittenOutcome
by_name s known Nothing p = operation s known p.kind p.plain p.operands
by_name s known (TypeOf ty) p = typed s known p.kind ty p.operands
by_name s known (ConstantAt c) p = named (name_at s.context.names.constants c) role.Value s.span
by_name s known (OverrideAt o) p = named (name_at s.context.names.overrides o) role.Value s.span
by_name s known (GlobalAt g) p = global s g
by_name s known (LocalAt l) p = named (name_at s.locals l) role.Place s.span
by_name s known (ArgumentAt n) p = argument s n
by_name s known (FunctionAt f) p = Err s.span

-- an expression whose operands are written
unfoldable pub expression : Scope → List Written → Parts → WrittenOutcome
expression s known p = by_name s known p.named p
