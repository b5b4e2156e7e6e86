-- Calls redirected along the functions that override one, and the stages of a shader's entry points.
use Rattle.std.specs.Prelude.{ℕ, List, [], ◌∷◌, map, Result, Ok, Err}
use Rattle.naga_oil_ir.specs.ModuleValue.{ModuleValue, EntryValue}
use Rattle.naga_oil_redirect.specs.PutInOrder.{put_in_order}
use Rattle.naga_oil_redirect.specs.Redirected.{matched, redirected}
use Rattle.naga_oil_ir.specs.RedirectFault.{RedirectFault}
use Rattle.naga_oil_conditions.specs.Fault.{Fault, redirection}
use Rattle.naga_oil_words.specs.Texts.{is_among}
use Rattle.naga_oil_words.specs.ResultSteps.{◌>>=◌}
use Rattle.naga_oil_link.specs.BuiltModule.{Overriding}
use Rattle.naga_oil_registry.specs.declared.descriptor.ShaderType.{ShaderType}
use Rattle.naga_oil_registry.specs.declared.descriptor.ShaderType.TheVariants as shader

abbrev pub redirected_to : ModuleValue → (omitted : List (List ℕ)) → Result (ℕ × ℕ) RedirectFault → Result ModuleValue Fault
redirected_to m omitted (Ok pair) = Ok (redirected m pair.0 pair.1 (is_among omitted))
redirected_to m omitted (Err f) = Err (redirection f)

-- a module with the calls of original redirected to other, except those in other and in the omitted functions
abbrev pub sent_to : ModuleValue → (original other : List ℕ) → (omitted : List (List ℕ)) → Result ModuleValue Fault
sent_to m original other omitted = redirected_to m omitted (matched m.functions original other)

-- a module with the calls of original redirected to the first of others, those of the first to the second, and so on; calls in the
-- omitted functions and in earlier others stay
unfoldable pub sent_down : ModuleValue → (original : List ℕ) → (others omitted : List (List ℕ)) → Result ModuleValue Fault
sent_down m original [] omitted = Ok m
sent_down m original (other ∷ more) omitted = sent_to m original other omitted >>= λ n. sent_down n other more (other ∷ omitted)

-- a module with the calls of each overridden function redirected along those that override it, one function after the other
unfoldable pub all_sent_down : ModuleValue → Overriding → Result ModuleValue Fault
all_sent_down m [] = Ok m
all_sent_down m (o ∷ more) = sent_down m o.0 o.1 [] >>= λ n. all_sent_down n more

-- a module whose entry points have this stage
abbrev pub staged : (stage : ℕ) → ModuleValue → ModuleValue
staged stage m = record m { entry_points = map (λ (e : EntryValue). record e { stage = stage }) m.entry_points }

-- a module whose entry points have the stage of the shader's type
abbrev pub with_stages : ShaderType → ModuleValue → ModuleValue
with_stages shader.Wgsl m = m
with_stages shader.GlslVertex m = staged 0 m
with_stages shader.GlslFragment m = staged 1 m

-- the stage of an entry point, by the shader's type
abbrev pub stage_in : ShaderType → ℕ → ℕ
stage_in shader.Wgsl = λ stage. stage
stage_in shader.GlslVertex = λ stage. 0
stage_in shader.GlslFragment = λ stage. 1

-- ---- the whole chain

abbrev pub put_in_order_as : Result ModuleValue RedirectFault → Result ModuleValue Fault
put_in_order_as (Ok m) = Ok m
put_in_order_as (Err f) = Err (redirection f)

-- a module with the calls of overridden functions redirected, and its functions sorted
unfoldable pub chain_all : Overriding → ModuleValue → Result ModuleValue Fault
chain_all all m = do
  sent ← all_sent_down m all
  put_in_order_as (put_in_order sent)

-- a module with calls redirected and functions sorted if any function is overridden; otherwise the module stays
abbrev pub chain : Overriding → ModuleValue → Result ModuleValue Fault
chain [] m = Ok m
chain (o ∷ more) m = chain_all (o ∷ more) m
