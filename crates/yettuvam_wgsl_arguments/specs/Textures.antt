-- What functions of textures make of their arguments.
use Rattle.std.specs.Prelude.{ℕ, ◌+◌, ◌*◌, ◌%◌, ◌^◌, ◌==◌, nat_le, nat_lt, Bool, ◌&&◌, ◌||◌, if◌then◌else◌, List, [], ◌∷◌, length, ℤ, Option, Some, None, Ok, Err}
use Rattle.naga_oil_ir.specs.Body.{Tokens, used}
use Rattle.naga_oil_ir.specs.Parts.{Parts, expr, parts, level_code, level_x, level_y}
use Rattle.naga_oil_ir.specs.declared.parts.Named.TheVariants.{Nothing}
use Rattle.naga_oil_ir.specs.declared.expression.Expression.TheVariants as expression
use Rattle.naga_oil_ir.specs.declared.expression.ImageQuery.{ImageQuery}
use Rattle.naga_oil_ir.specs.declared.expression.ImageQuery.TheVariants as query_kind
use Rattle.naga_oil_ir.specs.declared.expression.SampleLevel.{SampleLevel}
use Rattle.naga_oil_ir.specs.declared.expression.SampleLevel.TheVariants as level_kind
use Rattle.naga_oil_ir.specs.declared.tokens.Token.TheVariants.{Head, Use}
use Rattle.yettuvam_wgsl_machine.specs.Machine.{Node}
use Rattle.yettuvam_wgsl_names.specs.declared.functions.TheConstants.{TEXTURE_DIMENSIONS, TEXTURE_GATHER_COMPARE, TEXTURE_SAMPLE, TEXTURE_SAMPLE_BIAS, TEXTURE_SAMPLE_COMPARE, TEXTURE_SAMPLE_COMPARE_LEVEL, TEXTURE_SAMPLE_GRAD, TEXTURE_SAMPLE_LEVEL}
use Rattle.yettuvam_wgsl_predeclared.specs.Textures.{is_arrayed, is_multisampled}
use Rattle.yettuvam_wgsl_scope.specs.Refused.{fault}
use Rattle.yettuvam_wgsl_scope.specs.declared.refusal.Reason.TheVariants as reason
use Rattle.yettuvam_wgsl_shape.specs.Numbers.{value_of}
use Rattle.yettuvam_wgsl_shape.specs.declared.number.Number.{Number}
use Rattle.yettuvam_wgsl_values.specs.Value.{Value}
use Rattle.yettuvam_wgsl_arguments.specs.Arguments.{Made, ◌>=>◌, or_fault, handle_at, operand_at, natural}
use Rattle.yettuvam_wgsl_arguments.specs.declared.textures.SamplePlaces.{SamplePlaces}

abbrev pub count_if : Bool → ℕ
count_if is_there = if is_there then 1 else 0

abbrev pub or_first : Option ℕ → ℕ
or_first (Some handle) = handle
or_first None = 0

-- the expression of an argument; of one that isn't there, the first of all
unfoldable pub operand_in : List Value → ℕ → ℕ
operand_in args place = or_first (handle_at args place)

abbrev pub operand_if : Bool → List Value → ℕ → Option ℕ
operand_if is_there args place = if is_there then handle_at args place else None

-- there are all arguments before a place, and at most one from there on
unfoldable pub ends_at : List Value → ℕ → Bool
ends_at args place = nat_le place (length args) && nat_le (length args) (place + 1)

-- ---- samples

-- a function that compares a depth
abbrev pub takes_depth : ℕ → Bool
takes_depth code = code == TEXTURE_SAMPLE_COMPARE || (code == TEXTURE_SAMPLE_COMPARE_LEVEL || code == TEXTURE_GATHER_COMPARE)

-- the number of arguments that give the level of detail: a bias, a level, or two gradients
abbrev pub level_count : ℕ → ℕ
level_count code =
    if code == TEXTURE_SAMPLE_BIAS || code == TEXTURE_SAMPLE_LEVEL then 1
    else (if code == TEXTURE_SAMPLE_GRAD then 2 else 0)

abbrev pub gradient : List Value → ℕ → SampleLevel
gradient args place = level_kind.Gradient (operand_in args place) (operand_in args (place + 1))

abbrev pub level : ℕ → List Value → ℕ → SampleLevel
level code args place =
    if code == TEXTURE_SAMPLE || code == TEXTURE_SAMPLE_COMPARE then level_kind.Auto
    else (if code == TEXTURE_SAMPLE_BIAS then level_kind.Bias (operand_in args place)
    else (if code == TEXTURE_SAMPLE_LEVEL then level_kind.Exact (operand_in args place)
    else (if code == TEXTURE_SAMPLE_GRAD then gradient args place else level_kind.Zero)))

-- the component of a gather stands above the code
abbrev pub gather_code : ℕ → ℕ → ℕ
gather_code code component = ((component * 65536) % 2 ^ 64 + code) % 2 ^ 64

-- the texture, the sampler and the coordinate, maybe an index of a layer, a depth, the level of detail, maybe an offset
abbrev pub sample_places : ℕ → ℕ → SamplePlaces
sample_places code image =
    let depth = 3 + count_if (is_arrayed image) in
    let level = depth + count_if (takes_depth code) in
    record { depth = depth; level = level; offset = level + level_count code }

-- the fields of a sample in the order of its parts
unfoldable pub sample_of : ℕ → ℕ → ℕ → List Value → Parts
sample_of code component image args =
    let places = sample_places code image in
    let l = level code args places.level in
    expr 19 (gather_code code component ∷ level_code l ∷ []) Nothing
    (Some (operand_in args 0) ∷ Some (operand_in args 1) ∷ Some (operand_in args 2) ∷ operand_if (is_arrayed image) args 3
    ∷ handle_at args places.offset ∷ level_x l ∷ level_y l ∷ operand_if (takes_depth code) args places.depth ∷ [])

-- a sample of a texture
unfoldable pub sample : ℕ → ℕ → ℕ → List Value → Node → Made Parts
sample code component image args node =
    if ends_at args (sample_places code image).offset then Ok (sample_of code component image args)
    else Err (fault reason.Arguments node.span)

-- ---- the component of a gather

-- counted from 1
abbrev pub counted_component : ℕ → Option ℕ
counted_component n = if nat_lt n 4 then Some (n + 1) else None

abbrev pub component_if : Option ℕ → Option ℕ
component_if (Some n) = counted_component n
component_if None = None

abbrev pub component_number : ℤ → Option ℕ
component_number z = component_if (natural z)

abbrev pub component_with : Option Number → Node → Made ℕ
component_with (Some n) node = or_fault reason.NoNumber node (component_number (value_of n))
component_with None node = Err (fault reason.NoConstant node.span)

unfoldable pub component_of : Option Number → Node → Made ℕ
component_of n node = component_with n node

-- ---- loads, stores and queries

-- the texture and the coordinate, maybe an index of a layer, the number of a sample, maybe a level
abbrev pub load_end : ℕ → ℕ
load_end image = 2 + count_if (is_arrayed image) + count_if (is_multisampled image)

unfoldable pub load_of : ℕ → List Value → Parts
load_of image args =
    expr 20 [] Nothing
    (Some (operand_in args 0) ∷ Some (operand_in args 1) ∷ operand_if (is_arrayed image) args 2
    ∷ operand_if (is_multisampled image) args (2 + count_if (is_arrayed image)) ∷ handle_at args (load_end image) ∷ [])

unfoldable pub load : ℕ → List Value → Node → Made Parts
load image args node = if ends_at args (load_end image) then Ok (load_of image args) else Err (fault reason.Arguments node.span)

-- the texture and the coordinate, maybe an index of a layer, the value
abbrev pub store_place : ℕ → ℕ
store_place image = 2 + count_if (is_arrayed image)

unfoldable pub store_of : ℕ → List Value → Tokens
store_of image args =
    Head 12 ∷ Use (operand_in args 0) ∷ Use (operand_in args 1) ∷ used (operand_if (is_arrayed image) args 2)
    ∷ Use (operand_in args (store_place image)) ∷ []

unfoldable pub store : ℕ → List Value → Node → Made Tokens
store image args node =
    if length args == store_place image + 1 then Ok (store_of image args) else Err (fault reason.Arguments node.span)

-- of the size, maybe with a level
abbrev pub query_of : ℕ → Option ℕ → ImageQuery
query_of code l = if code == TEXTURE_DIMENSIONS then query_kind.Size l else query_kind.Other code

unfoldable pub query : ℕ → List Value → Node → Made Parts
query code args node =
    operand_at args 0 node >=> (λ image. Ok (parts (expression.ImageQuery image (query_of code (handle_at args 1)))))
