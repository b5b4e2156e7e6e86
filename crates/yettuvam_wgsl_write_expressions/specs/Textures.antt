-- Functions of textures.
use Rattle.std.specs.Prelude.{ℕ, ◌-◌, ◌/◌, ◌%◌, ◌==◌, if◌then◌else◌, List, [], ◌∷◌, ◌++◌, Option, Some, None, Ok, Err}
use Rattle.naga_oil_ir.specs.declared.span.Span.{Span}
use Rattle.yettuvam_wgsl_names.specs.Functions.{function_name}
use Rattle.yettuvam_wgsl_pieces.specs.Pieces.{Piece, Number, Sign}
use Rattle.yettuvam_wgsl_pieces.specs.declared.sign.Sign.TheVariants as sign
use Rattle.yettuvam_wgsl_written.specs.Outcomes.{Outcome, ◌>>=◌, word}
use Rattle.yettuvam_wgsl_written.specs.Written.{Written}
use Rattle.yettuvam_wgsl_write_expressions.specs.Kinds.{component_unit, texture_dimensions_code, texture_load_code}
use Rattle.yettuvam_wgsl_write_expressions.specs.Operands.{present, arguments_end, call, store_call}

-- ---- samples

-- the component that a `textureGather` takes, with a comma
abbrev pub component : ℕ → List Piece
component gather = if gather / component_unit == 0 then [] else Number (gather / component_unit - 1) ∷ Sign sign.Comma ∷ []

-- the operands of a sample in the order of the arguments
abbrev pub sample_arguments : List (Option ℕ) → List ℕ
sample_arguments (image ∷ sampler ∷ coordinate ∷ array_index ∷ offset ∷ x ∷ y ∷ depth_ref ∷ []) =
    present (image ∷ sampler ∷ coordinate ∷ array_index ∷ depth_ref ∷ x ∷ y ∷ offset ∷ [])
sample_arguments os = present os

-- the function of a sample
unfoldable pub sample_word : ℕ → Span → Outcome
sample_word gather span = word (function_name (gather % component_unit)) span

-- a sample by its code, with these arguments
unfoldable pub sample_of : List Written → ℕ → List ℕ → Span → Outcome
sample_of known gather hs span =
    sample_word gather span
    >>= (λ w. arguments_end known hs span >>= (λ ps. Ok (w ++ Sign sign.LeftParen ∷ (component gather ++ ps))))

-- a sample of a texture
abbrev pub sample : List Written → List ℕ → List (Option ℕ) → Span → Outcome
sample known (gather ∷ level ∷ []) operands span = sample_of known gather (sample_arguments operands) span
sample known _ operands span = Err span

-- ---- texels and queries

-- a load of a texel
abbrev pub texel : List Written → List (Option ℕ) → Span → Outcome
texel known operands span = call (function_name texture_load_code) known (present operands) span

-- the function of a query: that of the size, or another one
abbrev pub query_function : List ℕ → ℕ
query_function (which ∷ code ∷ []) = code
query_function _ = texture_dimensions_code

-- a query of a texture
abbrev pub query : List Written → List ℕ → List (Option ℕ) → Span → Outcome
query known plain operands span = call (function_name (query_function plain)) known (present operands) span

-- a store of a texel
abbrev pub store : List Written → List (Option ℕ) → Span → Outcome
store known operands span = store_call known (present operands) span
