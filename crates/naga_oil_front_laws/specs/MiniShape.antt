-- The module of a text of Mini has the shape of a module.
use Rattle.std.specs.Prelude.{◌≡◌, ℕ, List, Ok}
use Rattle.naga_oil_ir.specs.declared.language.ShaderLanguage.{ShaderLanguage}
use Rattle.naga_oil_ir.specs.ModuleValue.{ModuleValue}
use Rattle.naga_oil_mini_front.specs.Front.{mini}
use Rattle.naga_oil_mini_front.specs.Reader.{parsed}
use Rattle.naga_oil_form_laws.specs.Shape.{HasModuleShape}

-- LAW: Mini reads a text as data of the shape of a module
abbrev pub MiniLaw : Type 0
MiniLaw = (text : List ℕ) (m : ModuleValue) → parsed text ≡ Ok m → HasModuleShape m

-- LAW: so does its front end, in each language
abbrev pub MiniFrontLaw : Type 0
MiniFrontLaw = (language : ShaderLanguage) (text : List ℕ) (m : ModuleValue) → mini.parse language text ≡ Ok m → HasModuleShape m
