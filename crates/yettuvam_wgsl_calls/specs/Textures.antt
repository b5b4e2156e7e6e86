-- Calls of functions of textures.
use Rattle.std.specs.Prelude.{ℕ, ◌==◌, Bool, false, not, ◌&&◌, if◌then◌else◌, List, [], ◌∷◌, Option, Some, None, Ok, Err}
use Rattle.yettuvam_wgsl_arguments.specs.Arguments.{Made, made}
use Rattle.yettuvam_wgsl_arguments.specs.Textures.{sample, component_of, load, store, query}
use Rattle.yettuvam_wgsl_machine.specs.Machine.{Node}
use Rattle.yettuvam_wgsl_names.specs.declared.functions.TheConstants.{TEXTURE_GATHER, TEXTURE_LOAD, TEXTURE_STORE}
use Rattle.yettuvam_wgsl_operators.specs.Operators.{give_computed, with_effect}
use Rattle.yettuvam_wgsl_predeclared.specs.Textures.{is_depth}
use Rattle.yettuvam_wgsl_scope.specs.Refused.{◌>>=◌, fault}
use Rattle.yettuvam_wgsl_scope.specs.declared.refusal.Reason.TheVariants as reason
use Rattle.yettuvam_wgsl_types.specs.Types as types
use Rattle.yettuvam_wgsl_types.specs.declared.shape.Shape.{Shape}
use Rattle.yettuvam_wgsl_values.specs.Body.{State, Done, state, give}
use Rattle.yettuvam_wgsl_values.specs.Value.{Value, Nothing, bare}

abbrev pub image_or_fault : Option ℕ → Node → Made ℕ
image_or_fault (Some code) node = Ok code
image_or_fault None node = Err (fault reason.NoType node.span)

-- the code of the texture of a shape
unfoldable pub image_of : Shape → Node → State → Made ℕ
image_of shape node s = image_or_fault (types.image_of s.types shape) node

abbrev pub first_image : List Value → Node → State → Made ℕ
first_image (v ∷ vs) node s = image_of v.shape node s
first_image [] node s = Err (fault reason.Arguments node.span)

-- the code of the texture that is the first argument
unfoldable pub image_in : List Value → Node → State → Made ℕ
image_in args node s = first_image args node s

abbrev pub has_depths : Option ℕ → Bool
has_depths (Some image) = is_depth image
has_depths None = false

abbrev pub first_has_depths : List Value → State → Bool
first_has_depths (v ∷ vs) s = has_depths (types.image_of s.types v.shape)
first_has_depths [] s = false

unfoldable pub is_depth_first : List Value → State → Bool
is_depth_first args s = first_has_depths args s

-- a sample of a texture without a component
unfoldable pub sample_with : (code component : ℕ) → List Value → Node → State → Done
sample_with code component args node s =
    made (image_in args node s) s >>= (λ image t. made (sample code component image args node) t >>= (λ p.
    give_computed p None node))

abbrev pub gather_of : List Value → (code : ℕ) → Node → State → Done
gather_of (v ∷ vs) code node s =
    made (component_of v.number node) s >>= (λ component. sample_with code component vs node)
gather_of [] code node s = Err (fault reason.Arguments node.span)

-- a gather, whose first argument is its component
unfoldable pub gather : (code : ℕ) → List Value → Node → State → Done
gather code args node s = gather_of args code node s

abbrev pub has_component : (code : ℕ) → List Value → State → Bool
has_component code args s = code == TEXTURE_GATHER && not (is_depth_first args s)

abbrev pub sample_by : (code : ℕ) → List Value → Node → State → Done
sample_by code args node s =
    if has_component code args s then gather code args node s else sample_with code 0 args node s

-- a sample of a texture; a gather has a component, unless the texture has depths
unfoldable pub sample_texture : (code : ℕ) → List Value → Node → State → Done
sample_texture code args node s = sample_by code args node (with_effect s)

unfoldable pub load_texel : List Value → Node → State → Done
load_texel args node s =
    made (image_in args node s) s >>= (λ image t. made (load image args node) t >>= (λ p. give_computed p None node))

unfoldable pub store_texel : List Value → Node → State → Done
store_texel args node s =
    made (image_in args node s) s >>= (λ image t. made (store image args node) t >>= (λ tokens u.
    state tokens node.span u >>= (λ _. give (bare Nothing))))

unfoldable pub query_texture : (code : ℕ) → List Value → Node → State → Done
query_texture code args node s = made (query code args node) s >>= (λ p. give_computed p None node)

abbrev pub texture_by : (code : ℕ) → List Value → Node → State → Done
texture_by code args node s =
    if code == TEXTURE_LOAD then load_texel args node s
    else (if code == TEXTURE_STORE then store_texel args node s else query_texture code args node s)

-- a load, a store or a query of a texture
unfoldable pub texture : (code : ℕ) → List Value → Node → State → Done
texture code args node s = texture_by code args node (with_effect s)
