-- Where the calls of overridden functions are redirected, in closed form.
use Rattle.std.specs.Prelude.{ℕ, ◌≡◌, true, false, List, slice_get, Some, Ok}
use Rattle.naga_oil_form_laws.specs.EntryForm.{IsModuleFormed}
use Rattle.naga_oil_ir.specs.ModuleValue.{ModuleValue}
use Rattle.naga_oil_ir.specs.Rows.{Text}
use Rattle.naga_oil_link.specs.BuiltModule.{BuiltModule, Builds, Overriding}
use Rattle.naga_oil_link.specs.Linked.{link_whole}
use Rattle.naga_oil_build.specs.Held.{Settings}
use Rattle.naga_oil_build.specs.OverridingForm.{OverridesEachOnce, BuildsOverrideOnce, NeitherOverrides, NoNameShared, OverridesOriginals}
use Rattle.naga_oil_redirect.specs.Chain.{destination, IsSentDown}
use Rattle.naga_oil_redirect.specs.ChainLaw.{is_in_chain}
use Rattle.naga_oil_registry.specs.Registered.{Registered, Defs}
use Rattle.naga_oil_registry.specs.Descriptor.{ShaderSource}
use Rattle.naga_oil_registry.specs.declared.descriptor.ShaderType.{ShaderType}
use Rattle.naga_oil.specs.Answer.{answer}
use Rattle.naga_oil.specs.CallsSent.{call_goes}
use Rattle.naga_oil.specs.Chain.{chain, with_stages}
use Rattle.naga_oil.specs.Faithful.{made_builds, IsBuilt, IsBuiltShader, text_of}
use Rattle.naga_oil.specs.Finish.{compose}
use Rattle.naga_oil.specs.Refused.{Place}

-- no name of the chain b is in the chain a: a chain is a function with those that override it
abbrev pub IsApart : List ℕ × List (List ℕ) → List ℕ × List (List ℕ) → Type 0
IsApart a b = (n : List ℕ) → is_in_chain b.0 b.1 n ≡ true → is_in_chain a.0 a.1 n ≡ false

-- the chain of the overridden function at i shares no name with the other chains
abbrev pub StandsApart : Overriding → (i : ℕ) → List ℕ × List (List ℕ) → Type 0
StandsApart all i a = (j : ℕ) (b : List ℕ × List (List ℕ)) → slice_get all j ≡ Some b → (j ≡ i → ⊥) → IsApart a b

-- Each call of an overridden function becomes a call of its destination, if the function's chain stands apart: of those that override
-- it, each one calls the one before it, the first one calls the function itself, and all others and the entry points call the last.
abbrev pub GoDownChains : Overriding → (whole made : ModuleValue) → Type 0
GoDownChains all whole made = (i : ℕ) (a : List ℕ × List (List ℕ)) →
    slice_get all i ≡ Some a → StandsApart all i a → IsSentDown a.0 a.1 whole made

-- LAW: GoDownChains holds of a module with the calls of overridden functions redirected, however many override one
abbrev pub ChainsLaw : Type 0
ChainsLaw = (all : Overriding) (whole made : ModuleValue) →
    IsModuleFormed whole → chain all whole ≡ Ok made → GoDownChains all whole made

-- LAW: GoDownChains holds of a composed shader, from its build as linked
abbrev pub ComposedLaw : Type 0
ComposedLaw = (s : Settings) (defs : Defs) (builds : Builds) (b : BuiltModule) (shader_type : ShaderType) (place : Place) (made : ModuleValue) →
    IsModuleFormed (link_whole builds b) → compose s defs builds b shader_type place ≡ Ok made →
    GoDownChains b.overriding (with_stages shader_type (link_whole builds b)) made

-- LAW: what a caller calls in place of an overridden function is its destination
abbrev pub CallsLaw : Type 0
CallsLaw = (all : Overriding) (i : ℕ) (a : List ℕ × List (List ℕ)) (caller : Text) →
    slice_get all i ≡ Some a → StandsApart all i a → call_goes all caller (Some a.0) ≡ Some (destination a.1 caller a.0)

-- ---- a make

-- no function of a chain both overrides and is overridden
abbrev pub NoneIsBoth : Overriding → List ℕ × List (List ℕ) → Type 0
NoneIsBoth all a = (j : ℕ) (b : List ℕ × List (List ℕ)) → slice_get all j ≡ Some b → NeitherOverrides a b

module _ (s : Settings) (ds : List Registered) (counter : ℕ) (m : ShaderSource) where
  -- a shader's build as linked after what it imports, with the stage of its entry points
  abbrev pub linked_shader : BuiltModule → ModuleValue
  linked_shader shader = with_stages m.shader_type (link_whole (made_builds s ds counter m) shader)

  -- no preprocessed text of the make overrides a function that overrides another: no name after the keyword of an override has the
  -- mark of one in it
  abbrev pub TextsOverrideOriginals : Type 0
  TextsOverrideOriginals = (b : BuiltModule) (parse : ModuleValue) (is : IsBuilt s ds counter m b parse) → OverridesOriginals (text_of s ds counter m b parse is)

  -- No function overrides two. made has the functions and entry points of the linked shader, and each call of an overridden function is
  -- a call of its destination: of all overridden functions, if no text overrides an overriding function; and anyhow of one of whose
  -- chain no function both overrides and is overridden.
  pub record CallsGoDown (made : ModuleValue) : Type 0 where
    pub shader : BuiltModule
    pub parse : ModuleValue
    pub is : IsBuiltShader s ds counter m shader parse
    pub shares : NoNameShared shader.overriding
    pub chains : TextsOverrideOriginals → (i : ℕ) (a : List ℕ × List (List ℕ)) →
        slice_get shader.overriding i ≡ Some a → IsSentDown a.0 a.1 (linked_shader shader) made
    pub one_chain : (i : ℕ) (a : List ℕ × List (List ℕ)) →
        slice_get shader.overriding i ≡ Some a → NoneIsBoth shader.overriding a → IsSentDown a.0 a.1 (linked_shader shader) made

-- LAW: CallsGoDown holds of each module that a make answers
abbrev pub CallsGoDownLaw : Type 0
CallsGoDownLaw = (s : Settings) (ds : List Registered) (counter : ℕ) (m : ShaderSource) (made : ModuleValue) →
    (answer s ds counter m).result ≡ Ok made → CallsGoDown s ds counter m made

-- LAW: in the builds of a make, and in its shader's build, each overridden function is listed once
abbrev pub MadeOverridingLaw : Type 0
MadeOverridingLaw = (s : Settings) (ds : List Registered) (counter : ℕ) (m : ShaderSource) (made : ModuleValue) (shader : BuiltModule) (parse : ModuleValue) →
    (answer s ds counter m).result ≡ Ok made → IsBuiltShader s ds counter m shader parse →
    BuildsOverrideOnce (made_builds s ds counter m) × OverridesEachOnce shader.overriding
