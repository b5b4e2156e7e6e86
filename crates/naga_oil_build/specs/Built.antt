-- What the steps of a build return.
use Rattle.std.specs.Prelude.{ℕ, ◌++◌, List, map, Result, Ok, Err}
use Rattle.naga_oil_ir.specs.Backend.{FrontEnd, FaultValue}
use Rattle.naga_oil_ir.specs.ModuleValue.{ModuleValue}
use Rattle.naga_oil_ir.specs.declared.backend.BackendRefusal.{BackendRefusal}
use Rattle.naga_oil_ir.specs.declared.backend.BackendRefusal.TheVariants as refusal
use Rattle.naga_oil_ir.specs.declared.backend.Capabilities.{Capabilities}
use Rattle.naga_oil_ir.specs.declared.language.ShaderLanguage.{ShaderLanguage}
use Rattle.naga_oil_ir.specs.declared.language.ShaderLanguage.TheVariants as language
use Rattle.naga_oil_conditions.specs.Fault.{Fault, Definitions, wgsl_parse, glsl_parse, wgsl_back, glsl_back, header_validation}
use Rattle.naga_oil_pre.specs.Preprocessed.{Output, preprocessed}
use Rattle.naga_oil_conditions.specs.declared.fault.ComposerErrorInner.{ComposerErrorInner}
use Rattle.naga_oil_conditions.specs.declared.fault.ComposerErrorInner.TheVariants as code
use Rattle.naga_oil_words.specs.ResultSteps.{◌>>=◌}
use Rattle.naga_oil_registry.specs.Registered.{Registered}
use Rattle.naga_oil_registry.specs.Merged.{used_at_start}

-- a value or a fault, unless out of memory
abbrev pub answered : {X F : Type 0} → Result X (BackendRefusal F) → Result (Result X F) ComposerErrorInner
answered (Ok x) = Ok (Ok x)
answered (Err (refusal.Fault f)) = Ok (Err f)
answered (Err refusal.Memory) = Err code.Memory

-- the refusal of a front end, as a fault of a text
abbrev pub told : {Y : Type 0} → (FaultValue → Fault) → Result Y FaultValue → Result Y Fault
told tell (Ok y) = Ok y
told tell (Err f) = Err (tell f)

abbrev pub parse_fault : ShaderLanguage → FaultValue → Fault
parse_fault language.Wgsl f = wgsl_parse f
parse_fault language.Glsl f = glsl_parse f

abbrev pub back_fault : ShaderLanguage → FaultValue → Fault
back_fault language.Wgsl f = wgsl_back f
back_fault language.Glsl f = glsl_back f

-- the module that a text is parsed to
abbrev pub parsed_text : FrontEnd → ShaderLanguage → List ℕ → Result ModuleValue Fault
parsed_text front in_language text = told (parse_fault in_language) (front.parse in_language text)

-- the text that a front end writes for a header, if the header is valid
abbrev pub header_text : FrontEnd → Capabilities → ShaderLanguage → ModuleValue → Result (List ℕ) Fault
header_text front capabilities in_language header =
    told header_validation (front.valid header capabilities) >>= λ _. told (back_fault in_language) (front.write header in_language capabilities)

-- the preprocessed text of a module under definitions, with its imports: those that the text uses, then the additional ones
abbrev pub preprocessed_of : Definitions → Registered → Result Output Fault
preprocessed_of defs d = preprocessed defs d.source >>= λ out. Ok (record out { uses = out.uses ++ map used_at_start d.additional })
