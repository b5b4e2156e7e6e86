-- The module of a text of Palette has the shape of a module.
use Rattle.std.specs.Prelude.{◌≡◌, ℕ, List, Ok}
use Rattle.naga_oil_ir.specs.ModuleValue.{ModuleValue}
use Rattle.naga_oil_ir.specs.declared.language.ShaderLanguage.{ShaderLanguage}
use Rattle.naga_oil_palette.specs.Front.{palette}
use Rattle.naga_oil_palette.specs.Reader.{parsed}
use Rattle.naga_oil_form_laws.specs.Shape.{HasModuleShape}

-- LAW: Palette reads a text as data of the shape of a module
abbrev pub PaletteLaw : Type 0
PaletteLaw = (text : List ℕ) (m : ModuleValue) → parsed text ≡ Ok m → HasModuleShape m

-- LAW: so does its front end, in each language
abbrev pub PaletteFrontLaw : Type 0
PaletteFrontLaw = (language : ShaderLanguage) (text : List ℕ) (m : ModuleValue) → palette.parse language text ≡ Ok m → HasModuleShape m
