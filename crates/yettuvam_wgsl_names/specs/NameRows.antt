-- Names of WGSL with their meanings, worked by hand.
use Rattle.std.specs.Prelude.{◌≡◌, refl, ℕ, List, [], ◌∷◌, map, length, ◌+◌, codes, Option, Some, None}
use Rattle.yettuvam_wgsl_names.specs.Table.{Name, meaning}
use Rattle.yettuvam_wgsl_names.specs.Codes.{code_of}
use Rattle.yettuvam_wgsl_names.specs.Names.{predeclared_rows}
use Rattle.yettuvam_wgsl_names.specs.Words.{word_rows, keyword_rows}
use Rattle.yettuvam_wgsl_names.specs.Spelled.{spelled}
use Rattle.yettuvam_wgsl_names.specs.Functions.{Signature, functions, signature_with}
use Rattle.yettuvam_wgsl_names.specs.Laws.{predeclared_count, keyword_count, reserved_count, built_in_value_count}
use Rattle.yettuvam_wgsl_names.specs.declared.names.Predeclared.{Predeclared}
use Rattle.yettuvam_wgsl_names.specs.declared.names.Predeclared.TheVariants.{Scalar, Vector, Matrix, Array, BindingArray, Atomic, Pointer, Sampler, Texture, TexelFormat, AddressSpace, Access, Function}
use Rattle.yettuvam_wgsl_names.specs.declared.words.Word.{Word}
use Rattle.yettuvam_wgsl_names.specs.declared.words.Word.TheVariants.{Keyword, Reserved}
use Rattle.yettuvam_wgsl_names.specs.declared.functions.TheConstants.{ABS, CLAMP, FREXP, MAX, MIN, MODF, ATOMIC_LOAD, TEXTURE_SAMPLE, TEXTURE_SAMPLE_BIAS, TEXTURE_SAMPLE_COMPARE, TEXTURE_SAMPLE_COMPARE_LEVEL, TEXTURE_SAMPLE_GRAD, TEXTURE_SAMPLE_LEVEL, TEXTURE_SAMPLE_BASE_CLAMP_TO_EDGE, TEXTURE_GATHER, TEXTURE_GATHER_COMPARE, TEXTURE_DIMENSIONS, TEXTURE_LOAD, TEXTURE_NUM_LAYERS, TEXTURE_NUM_LEVELS, TEXTURE_NUM_SAMPLES, TEXTURE_STORE, ATOMIC_STORE, ATOMIC_COMPARE_EXCHANGE_WEAK, SELECT, ARRAY_LENGTH, BITCAST, WORKGROUP_UNIFORM_LOAD, SUBGROUP_BALLOT, SUBGROUP_ELECT}
use Rattle.yettuvam_wgsl_names.specs.Context.{built_in_value_rows, interpolation_type_rows, sampling_rows, attribute_rows, severity_rows, binary_operator_rows}

-- each key has the value beside it
abbrev pub Gives : {K V : Type 0} → (K → V) → List (K × V) → Type 0
Gives f es = map (λ e. f e.0) es ≡ map (λ e. e.1) es

abbrev pub Read : List (Name × Option Predeclared) → Type 0
Read es = Gives (meaning predeclared_rows) es

abbrev pub Classed : List (Name × Option Word) → Type 0
Classed es = Gives (meaning word_rows) es

abbrev pub Spelled : List (Predeclared × Option Name) → Type 0
Spelled es = Gives spelled es

abbrev pub Counted : List (ℕ × Option Signature) → Type 0
Counted es = Gives (signature_with functions) es

abbrev pub Coded : List (ℕ × Name) → List (Name × Option ℕ) → Type 0
Coded table es = Gives (code_of table) es

-- types
pub types : Read (
    (codes "bool", Some (Scalar 1)) ∷ (codes "u32", Some (Scalar 3)) ∷ (codes "f16", Some (Scalar 5)) ∷
    (codes "vec3", Some (Vector 3)) ∷ (codes "vec2i", Some (Vector 34)) ∷ (codes "vec4h", Some (Vector 84)) ∷
    (codes "mat4x4", Some (Matrix 68)) ∷ (codes "mat3x2f", Some (Matrix 1059)) ∷ (codes "array", Some Array) ∷
    (codes "atomic", Some Atomic) ∷ (codes "ptr", Some Pointer) ∷ (codes "binding_array", Some BindingArray) ∷
    [])
types = refl

-- samplers, textures, texel formats and access modes
pub resources : Read (
    (codes "sampler", Some (Sampler 0)) ∷ (codes "sampler_comparison", Some (Sampler 1)) ∷
    (codes "texture_2d", Some (Texture 2)) ∷ (codes "texture_cube_array", Some (Texture 6)) ∷
    (codes "texture_depth_2d", Some (Texture 8)) ∷ (codes "texture_external", Some (Texture 13)) ∷
    (codes "texture_storage_3d", Some (Texture 17)) ∷ (codes "rgba8unorm", Some (TexelFormat 22)) ∷
    (codes "r32float", Some (TexelFormat 16)) ∷ (codes "rgba32float", Some (TexelFormat 40)) ∷
    (codes "bgra8unorm", Some (TexelFormat 26)) ∷ (codes "write", Some (Access 2)) ∷
    (codes "read_write", Some (Access 3)) ∷ [])
resources = refl

-- address spaces; the one of textures and samplers has no name
pub spaces : Read (
    (codes "function", Some (AddressSpace 0)) ∷ (codes "private", Some (AddressSpace 1)) ∷
    (codes "workgroup", Some (AddressSpace 2)) ∷ (codes "uniform", Some (AddressSpace 3)) ∷
    (codes "storage", Some (AddressSpace 4)) ∷ (codes "handle", None) ∷ [])
spaces = refl

-- built-in functions
pub calls : Read (
    (codes "abs", Some (Function 256)) ∷ (codes "trunc", Some (Function 316)) ∷
    (codes "all", Some (Function 512)) ∷ (codes "dpdx", Some (Function 768)) ∷
    (codes "textureSample", Some (Function 1024)) ∷ (codes "textureLoad", Some (Function 1281)) ∷
    (codes "atomicAdd", Some (Function 1537)) ∷ (codes "workgroupBarrier", Some (Function 1794)) ∷
    (codes "subgroupAdd", Some (Function 2048)) ∷ (codes "quadSwapX", Some (Function 2311)) ∷
    (codes "select", Some (Function 2560)) ∷ (codes "bitcast", Some (Function 2562)) ∷ [])
calls = refl

-- texts that are no predeclared names; each letter counts, and so does its case
pub no_names : Read (
    (codes "", None) ∷ (codes "Abs", None) ∷ (codes "ab", None) ∷ (codes "abss", None) ∷ (codes "vec5", None) ∷
    (codes "vec2b", None) ∷ (codes "float", None) ∷ (codes "texture2D", None) ∷ (codes "position", None) ∷
    (codes "fn", None) ∷ (codes "zoom", None) ∷ [])
no_names = refl

-- functions by their codes with their numbers of arguments, and codes without a function
pub arguments : Counted (
    (256, Some (codes "abs", 1, 1)) ∷ (265, Some (codes "clamp", 3, 3)) ∷
    (288, Some (codes "insertBits", 4, 4)) ∷ (1024, Some (codes "textureSample", 3, 5)) ∷
    (1028, Some (codes "textureSampleGrad", 5, 7)) ∷ (1285, Some (codes "textureStore", 3, 4)) ∷
    (1792, Some (codes "storageBarrier", 0, 0)) ∷ (2565, Some (codes "subgroupElect", 0, 0)) ∷ (0, None) ∷
    (255, None) ∷ (334, None) ∷ (2816, None) ∷ [])
arguments = refl

-- the codes that are constants
pub constants : Counted (
    (ABS, Some (codes "abs", 1, 1)) ∷ (CLAMP, Some (codes "clamp", 3, 3)) ∷
    (FREXP, Some (codes "frexp", 1, 1)) ∷ (MAX, Some (codes "max", 2, 2)) ∷ (MIN, Some (codes "min", 2, 2)) ∷
    (MODF, Some (codes "modf", 1, 1)) ∷ (ATOMIC_LOAD, Some (codes "atomicLoad", 1, 1)) ∷
    (TEXTURE_SAMPLE, Some (codes "textureSample", 3, 5)) ∷
    (TEXTURE_SAMPLE_BIAS, Some (codes "textureSampleBias", 4, 6)) ∷
    (TEXTURE_SAMPLE_COMPARE, Some (codes "textureSampleCompare", 4, 6)) ∷
    (TEXTURE_SAMPLE_COMPARE_LEVEL, Some (codes "textureSampleCompareLevel", 4, 6)) ∷
    (TEXTURE_SAMPLE_GRAD, Some (codes "textureSampleGrad", 5, 7)) ∷
    (TEXTURE_SAMPLE_LEVEL, Some (codes "textureSampleLevel", 4, 6)) ∷
    (TEXTURE_SAMPLE_BASE_CLAMP_TO_EDGE, Some (codes "textureSampleBaseClampToEdge", 3, 3)) ∷
    (TEXTURE_GATHER, Some (codes "textureGather", 3, 6)) ∷
    (TEXTURE_GATHER_COMPARE, Some (codes "textureGatherCompare", 4, 6)) ∷
    (TEXTURE_DIMENSIONS, Some (codes "textureDimensions", 1, 2)) ∷
    (TEXTURE_LOAD, Some (codes "textureLoad", 2, 4)) ∷
    (TEXTURE_NUM_LAYERS, Some (codes "textureNumLayers", 1, 1)) ∷
    (TEXTURE_NUM_LEVELS, Some (codes "textureNumLevels", 1, 1)) ∷
    (TEXTURE_NUM_SAMPLES, Some (codes "textureNumSamples", 1, 1)) ∷
    (TEXTURE_STORE, Some (codes "textureStore", 3, 4)) ∷ (ATOMIC_STORE, Some (codes "atomicStore", 2, 2)) ∷
    (ATOMIC_COMPARE_EXCHANGE_WEAK, Some (codes "atomicCompareExchangeWeak", 3, 3)) ∷
    (SELECT, Some (codes "select", 3, 3)) ∷ (ARRAY_LENGTH, Some (codes "arrayLength", 1, 1)) ∷
    (BITCAST, Some (codes "bitcast", 1, 1)) ∷
    (WORKGROUP_UNIFORM_LOAD, Some (codes "workgroupUniformLoad", 1, 1)) ∷
    (SUBGROUP_BALLOT, Some (codes "subgroupBallot", 1, 1)) ∷
    (SUBGROUP_ELECT, Some (codes "subgroupElect", 0, 0)) ∷ [])
constants = refl

-- things with their names, and codes that stand for nothing
pub names : Spelled (
    (Scalar 4, Some (codes "f32")) ∷ (Vector 66, Some (codes "vec2f")) ∷ (Matrix 34, Some (codes "mat2x2")) ∷
    (Sampler 1, Some (codes "sampler_comparison")) ∷ (Texture 14, Some (codes "texture_storage_1d")) ∷
    (TexelFormat 1, Some (codes "r8unorm")) ∷ (AddressSpace 6, Some (codes "immediate")) ∷
    (Access 1, Some (codes "read")) ∷ (Function 2562, Some (codes "bitcast")) ∷ (Scalar 0, None) ∷
    (Vector 18, None) ∷ (Vector 5, None) ∷ (AddressSpace 5, None) ∷ (Access 0, None) ∷ (TexelFormat 41, None) ∷
    (Function 2570, None) ∷ [])
names = refl

-- keywords and reserved words, and names
pub words : Classed (
    (codes "alias", Some (Keyword 0)) ∷ (codes "const_assert", Some (Keyword 4)) ∷
    (codes "fn", Some (Keyword 13)) ∷ (codes "override", Some (Keyword 18)) ∷
    (codes "true", Some (Keyword 23)) ∷ (codes "while", Some (Keyword 25)) ∷ (codes "NULL", Some Reserved) ∷
    (codes "Self", Some Reserved) ∷ (codes "enum", Some Reserved) ∷ (codes "static", Some Reserved) ∷
    (codes "yield", Some Reserved) ∷ (codes "f32", None) ∷ (codes "function", None) ∷ (codes "vertex", None) ∷
    (codes "null_", None) ∷ [])
words = refl

-- built-in values
pub built_in_values : Coded built_in_value_rows (
    (codes "vertex_index", Some 1) ∷ (codes "position", Some 4) ∷ (codes "front_facing", Some 5) ∷
    (codes "frag_depth", Some 6) ∷ (codes "sample_mask", Some 9) ∷ (codes "global_invocation_id", Some 12) ∷
    (codes "workgroup_id", Some 14) ∷ (codes "num_workgroups", Some 16) ∷ (codes "subgroup_size", Some 18) ∷
    (codes "Position", None) ∷ (codes "location", None) ∷ [])
built_in_values = refl

-- types of interpolation
pub interpolation_types : Coded interpolation_type_rows (
    (codes "perspective", Some 1) ∷ (codes "linear", Some 2) ∷ (codes "flat", Some 3) ∷ (codes "smooth", None) ∷
    [])
interpolation_types = refl

-- samplings
pub samplings : Coded sampling_rows (
    (codes "center", Some 1) ∷ (codes "centroid", Some 2) ∷ (codes "sample", Some 3) ∷ (codes "first", Some 4) ∷
    (codes "either", Some 5) ∷ (codes "middle", None) ∷ [])
samplings = refl

-- attributes
pub attributes : Coded attribute_rows (
    (codes "align", Some 1) ∷ (codes "builtin", Some 4) ∷ (codes "compute", Some 5) ∷ (codes "group", Some 9) ∷
    (codes "location", Some 13) ∷ (codes "must_use", Some 14) ∷ (codes "vertex", Some 16) ∷
    (codes "workgroup_size", Some 17) ∷ (codes "stage", None) ∷ [])
attributes = refl

-- severities of diagnostics
pub severities : Coded severity_rows (
    (codes "error", Some 1) ∷ (codes "warning", Some 2) ∷ (codes "info", Some 3) ∷ (codes "off", Some 4) ∷
    (codes "warn", None) ∷ [])
severities = refl

-- binary operators
pub operators : Coded binary_operator_rows (
    (codes "+", Some 1) ∷ (codes "%", Some 5) ∷ (codes "<<", Some 9) ∷ (codes "==", Some 11) ∷
    (codes ">=", Some 16) ∷ (codes "||", Some 18) ∷ (codes "=", None) ∷ (codes "!", None) ∷ [])
operators = refl

-- ---- sizes

pub predeclared_size : length predeclared_rows ≡ predeclared_count
predeclared_size = refl

pub keyword_size : length keyword_rows ≡ keyword_count
keyword_size = refl

pub word_size : length word_rows ≡ keyword_count + reserved_count
word_size = refl

pub built_in_value_size : length built_in_value_rows ≡ built_in_value_count
built_in_value_size = refl
