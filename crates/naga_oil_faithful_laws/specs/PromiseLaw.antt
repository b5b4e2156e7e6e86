-- The whole promise of a make, kept by the small make, and where calls of an overridden function are followed.
use Rattle.std.specs.Prelude.{◌≡◌, List, [], ◌∷◌, Some, slice_get, ℕ, codes}
use Rattle.naga_oil_ir.specs.declared.backend.Capabilities.{Capabilities}
use Rattle.naga_oil_redirect.specs.Chain.{IsSentDown}
use Rattle.naga_oil_link.specs.BuiltModule.{Overriding}
use Rattle.naga_oil_build.specs.OverridingForm.{OverridesOriginals}
use Rattle.naga_oil.specs.ChainsLaw.{NoneIsBoth, TextsOverrideOriginals, CallsGoDown, linked_shader}
use Rattle.naga_oil.specs.Faithful.{IsFaithful}
use Rattle.naga_oil_faithful_laws.specs.SmallMake.{small_settings, registry, shader, base_name, override_name, made_with, right}
use Rattle.naga_oil_faithful_laws.specs.WrongModules.{with_first, calling_base}

-- the module of the small make is faithful; none of its texts overrides an overriding function; and so each call of the function that
-- its shader overrides becomes a call of its destination
pub record KeepsPromise (c : Capabilities) : Type 0 where
  pub faithful : IsFaithful (small_settings c) registry 0 shader (made_with right)
  pub originals : TextsOverrideOriginals (small_settings c) registry 0 shader
  pub down : CallsGoDown (small_settings c) registry 0 shader (made_with right)
  pub overridden : slice_get down.shader.overriding 0 ≡ Some (base_name, override_name ∷ [])
  pub sent : IsSentDown base_name (override_name ∷ []) (linked_shader (small_settings c) registry 0 shader down.shader) (made_with right)

-- LAW: the small make keeps the promise of a make, by the laws of makes
abbrev pub PromiseLaw : Type 0
PromiseLaw = (c : Capabilities) → KeepsPromise c

-- LAW: the calls of a module with a call of an overridden function haven't been redirected
abbrev pub UnsentLaw : Type 0
UnsentLaw = IsSentDown base_name (override_name ∷ []) (with_first calling_base) (with_first calling_base) → ⊥

-- ---- texts that override an overriding function

-- the function of a module `B` that overrides `f` of a module `A`
abbrev pub overriding_name : List ℕ
overriding_name = codes "fX_naga_oil_vrt_XIEXX_naga_oil_mod_XIIX"

-- what a line becomes in which a comment uses two names: it ends early, at an item named `"*/"`, and overrides that function
abbrev pub tricky_text : List ℕ
tricky_text = codes "/* \"*/\"X_naga_oil_mod_XIQX override fn fX_naga_oil_vrt_XIEXX_naga_oil_mod_XIIX(x) */\n"

-- LAW: this text overrides an overriding function
abbrev pub TrickyLaw : Type 0
TrickyLaw = OverridesOriginals tricky_text → ⊥

-- what is overridden then: the function of `A`, and that of `B`, which overrides it
abbrev pub twice_overridden : Overriding
twice_overridden = (codes "fX_naga_oil_mod_XIEX", overriding_name ∷ []) ∷ (overriding_name, codes "fX_naga_oil_vrt_XIE" ∷ []) ∷ []

-- LAW: the function of `B` both overrides and is overridden
abbrev pub BothLaw : Type 0
BothLaw = NoneIsBoth twice_overridden (codes "fX_naga_oil_mod_XIEX", overriding_name ∷ []) → ⊥

-- LAW: no function of the small make's chain does
abbrev pub NoneLaw : Type 0
NoneLaw = NoneIsBoth ((base_name, override_name ∷ []) ∷ []) (base_name, override_name ∷ [])
