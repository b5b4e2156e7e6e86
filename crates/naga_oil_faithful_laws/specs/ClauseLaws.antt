-- Copies that one clause alone refuses, and stages of shaders in GLSL.
use Rattle.std.specs.Prelude.{ℕ, ◌≡◌, List, [], ◌∷◌, codes, slice_get, Some}
use Rattle.naga_oil_ir.specs.Body.{Tokens}
use Rattle.naga_oil_ir.specs.ModuleValue.{ModuleValue, FunctionValue, EntryValue}
use Rattle.naga_oil_ir.specs.Parts.{Parts}
use Rattle.naga_oil_ir.specs.declared.span.Span.{Span}
use Rattle.naga_oil_ir.specs.declared.tokens.Token.TheVariants.{Use}
use Rattle.naga_oil_rename.specs.Renames.{Renames}
use Rattle.naga_oil_registry.specs.Descriptor.{ShaderSource}
use Rattle.naga_oil_registry.specs.Registered.{Registered}
use Rattle.naga_oil_registry.specs.declared.descriptor.ShaderType.TheVariants.{GlslVertex, GlslFragment}
use Rattle.naga_oil_copy_laws.specs.ByTree.{GoesOnto}
use Rattle.naga_oil_build.specs.Held.{Settings}
use Rattle.naga_oil.specs.Faithful.{IsFaithful}
use Rattle.naga_oil_faithful_laws.specs.SmallMake.{function, literal}

-- ---- what copies reach

-- all handles and spans stay, but expressions go to a place
abbrev pub all_to : (ℕ → ℕ) → Renames
all_to place = record {
  ty = λ k. k;
  constant = λ k. k;
  pipeline_override = λ k. k;
  global = λ k. k;
  function = λ k. k;
  expression = place;
  range = λ r. r;
  span = λ s. s;
}

-- a function that uses these literals, which are the number 7
abbrev pub using : List (Parts × Span) → Tokens → FunctionValue
using literals body = function (codes "u") [] [] literals body

abbrev pub none_used : FunctionValue
none_used = using [] []

abbrev pub one_used : FunctionValue
one_used = using (literal 7 ∷ []) (Use 0 ∷ [])

abbrev pub two_used : FunctionValue
two_used = using (literal 7 ∷ literal 7 ∷ []) (Use 0 ∷ Use 1 ∷ [])

-- LAW: one literal that a body uses is copied onto one, but nothing is not, and two that no initialiser reaches don't share one
pub record OntoLaw : Type 0 where
  pub one : GoesOnto (λ s. s) (all_to (λ k. k)) one_used one_used
  pub two : GoesOnto (λ s. s) (all_to (λ k. k)) two_used two_used
  pub none : GoesOnto (λ s. s) (all_to (λ k. k)) none_used one_used → ⊥
  pub shared : GoesOnto (λ s. s) (all_to (λ k. 0)) two_used one_used → ⊥

-- ---- stages

-- LAW: of a faithful module of a vertex shader in GLSL each entry point has the stage of those, and of a fragment shader likewise
pub record GlslLaw : Type 0 where
  pub vertex :
      (s : Settings) (ds : List Registered) (counter : ℕ) (m : ShaderSource) (made : ModuleValue) → m.shader_type ≡ GlslVertex →
      IsFaithful s ds counter m made → (i : ℕ) (y : EntryValue) → slice_get made.entry_points i ≡ Some y → y.stage ≡ 0
  pub fragment :
      (s : Settings) (ds : List Registered) (counter : ℕ) (m : ShaderSource) (made : ModuleValue) → m.shader_type ≡ GlslFragment →
      IsFaithful s ds counter m made → (i : ℕ) (y : EntryValue) → slice_get made.entry_points i ≡ Some y → y.stage ≡ 1
