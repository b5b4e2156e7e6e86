-- What the special types of a made module are: those of the parses that it comes from.
use Rattle.std.specs.Prelude.{ℕ, ◌≡◌, List, Some, Ok}
use Rattle.naga_oil_ir.specs.ModuleValue.{ModuleValue}
use Rattle.naga_oil_ir.specs.declared.backend.Capabilities.{Capabilities}
use Rattle.naga_oil_derive.specs.Tree.{World}
use Rattle.naga_oil_derive.specs.World.{special_at}
use Rattle.naga_oil_derive.specs.declared.special.SpecialKey.{SpecialKey}
use Rattle.naga_oil_registry.specs.Registered.{Registered}
use Rattle.naga_oil_registry.specs.Descriptor.{ShaderSource}
use Rattle.naga_oil_link.specs.Owned.{own_places}
use Rattle.naga_oil_link_laws.specs.HeldBuild.{DecoratesTypes}
use Rattle.naga_oil_link_laws.specs.KeptAlike.{scope_alike}
use Rattle.naga_oil_link_laws.specs.SpecialComes.{SpecialComes}
use Rattle.naga_oil_build.specs.Held.{Settings}
use Rattle.naga_oil.specs.Answer.{answer}
use Rattle.naga_oil.specs.Faithful.{ParseOf, owned_parse}
use Rattle.naga_oil_faithful_laws.specs.SmallMake.{small_settings, registry, shader}

module _ (s : Settings) (ds : List Registered) (counter : ℕ) (m : ShaderSource) where
  -- p is a parse of a make, whose own types may have their decorated names
  pub record IsParseOf (w : World) (p : ModuleValue) : Type 0 where
    pub of : ParseOf s ds counter m
    pub value : owned_parse of.b of.parse ≡ p
    pub decorated : DecoratesTypes (owned_parse of.b of.parse) (own_places of.parse) of.b.decoration w

  -- each special type of a module comes from one that a parse has for its key
  abbrev pub HasParsedSpecialTypes : ModuleValue → Type 0
  HasParsedSpecialTypes made = (key : SpecialKey) (q : ℕ) → special_at made.special_types key ≡ Some q → SpecialComes IsParseOf (λ w p. scope_alike w p made) made key q

-- LAW: this holds of each module that a make answers
abbrev pub SpecialTypesLaw : Type 0
SpecialTypesLaw = (s : Settings) (ds : List Registered) (counter : ℕ) (m : ShaderSource) (made : ModuleValue) →
    (answer s ds counter m).result ≡ Ok made → HasParsedSpecialTypes s ds counter m made

-- the special types of a module don't come from the parses of the small make
abbrev pub HasWrongSpecialTypes : ModuleValue → Type 0
HasWrongSpecialTypes made = (c : Capabilities) → HasParsedSpecialTypes (small_settings c) registry 0 shader made → ⊥
