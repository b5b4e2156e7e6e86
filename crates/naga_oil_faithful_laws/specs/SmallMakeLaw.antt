-- The module of the small make, and modules that the definition of a faithful module refuses.
use Rattle.std.specs.Prelude.{◌≡◌, [], ◌∷◌, Some, None, Ok, codes}
use Rattle.naga_oil_ir.specs.ModuleValue.{ModuleValue}
use Rattle.naga_oil_ir.specs.Spans.{undefined}
use Rattle.naga_oil_ir.specs.declared.backend.Capabilities.{Capabilities}
use Rattle.naga_oil_ir.specs.declared.module.MeshInfo.{MeshInfo}
use Rattle.naga_oil_ir.specs.declared.span.Span.{Span}
use Rattle.naga_oil_link.specs.BuiltModule.{Overriding}
use Rattle.naga_oil_copy_laws.specs.Scope.{Scope, scope_of}
use Rattle.naga_oil_copy_laws.specs.ByTree.{CopiesByTree}
use Rattle.naga_oil.specs.Answer.{answer}
use Rattle.naga_oil.specs.CallsSent.{call_goes}
use Rattle.naga_oil.specs.Faithful.{IsFaithful}
use Rattle.naga_oil_faithful_laws.specs.SmallMake.{small_settings, registry, shader, base, helper_name, base_name, override_name, function, specials, stub, override_of, Looks, made_with, right, kill}
use Rattle.naga_oil_faithful_laws.specs.WrongModules.{with_base, calling_another, with_first, with_mesh}

-- LAW: the small make answers its module
abbrev pub AnswerLaw : Type 0
AnswerLaw = (c : Capabilities) → (answer (small_settings c) registry 0 shader).result ≡ Ok (made_with right)

-- a module that looks so is faithful to what was parsed for the small make
abbrev pub IsFaithfulSo : Looks → Type 0
IsFaithfulSo looks = (c : Capabilities) → IsFaithful (small_settings c) registry 0 shader (made_with looks)

-- a module isn't faithful to what was parsed for the small make
abbrev pub IsUnfaithful : ModuleValue → Type 0
IsUnfaithful made = (c : Capabilities) → IsFaithful (small_settings c) registry 0 shader made → ⊥

-- a module that looks so isn't faithful
abbrev pub IsRefused : Looks → Type 0
IsRefused looks = IsUnfaithful (made_with looks)

-- ---- wrong in one place

-- an operand has the handle that it has in the source
abbrev pub unmapped : Looks
unmapped = record right { operand = 2 }

-- an argument has the special type of another key
abbrev pub of_another_key : Looks
of_another_key = record right { argument_type = 2 }

-- an entry point has the body of another
abbrev pub of_another_entry : Looks
of_another_entry = record right { entry_body = kill }

-- the function that overrides another calls itself
abbrev pub calling_itself : Looks
calling_itself = record right { callee = 2 }

-- a function that is called has no body
abbrev pub without_body : Looks
without_body = record right { helper_body = [] }

-- ---- wrong as a whole

-- the module with the shader's own declaration in place of the function of `m` that it imports
abbrev pub with_declaration : ModuleValue
with_declaration = record (made_with right) {
  functions = (function helper_name [] [] [] kill, undefined) ∷ (stub, undefined) ∷ (override_of 1, undefined) ∷ [];
}

-- the module without its special types
abbrev pub without_special : ModuleValue
without_special = record (made_with right) { special_types = specials None None }

-- ---- an output of a mesh shader

-- LAW: the small make's shader has no such output
abbrev pub MeshLaw : Type 0
MeshLaw = (mesh : MeshInfo) → IsUnfaithful (with_first (with_mesh mesh))

-- ---- a call of another chain

-- the function of `m` that others call is overridden by one function, and the other by another
abbrev pub two_chains : Overriding
two_chains = (helper_name, codes "hX_naga_oil_vrt_XNUX" ∷ []) ∷ (base_name, override_name ∷ []) ∷ []

-- LAW: where a function is overridden, a copy isn't right that calls the function of another chain in its place
abbrev pub OtherChainLaw : Type 0
OtherChainLaw = (moves : Span → Span) (a : Scope) → a.function_name 0 ≡ Some helper_name →
    CopiesByTree moves (call_goes two_chains (Some base_name)) a (record base { name = Some base_name }) (scope_of (with_base calling_another)) calling_another.0 → ⊥
