-- The code's errors, seen as faults.
use Rattle.std.specs.Prelude.{◌≡◌, Option, Some, None, Result, Ok, Err, MatchOption, string_bytes}
use Rattle.naga_oil_conditions.specs.declared.fault.ComposerErrorInner.{ComposerErrorInner}
use Rattle.naga_oil_conditions.specs.declared.fault.ComposerErrorInner.TheVariants as code
use Rattle.naga_oil_ir.specs.Backend.{parse_fault, write_fault, valid_fault}
use Rattle.naga_oil_ir.specs.declared.redirect_error.RedirectError.{RedirectError}
use Rattle.naga_oil_ir.specs.declared.redirect_error.RedirectError.TheVariants as redirect
use Rattle.naga_oil_ir.specs.RedirectFault.{RedirectFault, redirect_fault}
use Rattle.naga_oil_conditions.specs.Fault.{Fault, import_not_found, wgsl_parse, glsl_parse, wgsl_back, glsl_back, header_validation, shader_validation, inconsistent_def, no_module_name, decoration_in_source, redirection, redirection_memory, not_virtual, invalid_identifier, too_many_modules, bindings_exhausted, text_too_large, wrong_form, unknown_def, invalid_value, unknown_operator, else_without_condition, too_many_end_ifs, not_enough_end_ifs, invalid_version, invalid_definition, invalid_import, invalid_directive, define_in_module}

-- the error that a redirection's error becomes
abbrev pub redirect_error : RedirectError → ComposerErrorInner
redirect_error redirect.Memory = code.Memory
redirect_error e = code.RedirectError e

abbrev pub redirection_of : Option RedirectFault → Fault
redirection_of (Some f) = redirection f
redirection_of None = redirection_memory

-- a fault without the addresses of its texts; out of memory is none
abbrev pub fault_of : ComposerErrorInner → Option Fault
fault_of (code.ImportNotFound name at) = Some (import_not_found (string_bytes name) at)
fault_of (code.WgslParseError fault) = Some (wgsl_parse (parse_fault fault))
fault_of (code.GlslParseError fault) = Some (glsl_parse (parse_fault fault))
fault_of (code.WgslBackError fault) = Some (wgsl_back (write_fault fault))
fault_of (code.GlslBackError fault) = Some (glsl_back (write_fault fault))
fault_of (code.HeaderValidationError fault) = Some (header_validation (valid_fault fault))
fault_of (code.ShaderValidationError fault) = Some (shader_validation (valid_fault fault))
fault_of (code.InconsistentShaderDefValue name) = Some (inconsistent_def (string_bytes name))
fault_of code.NoModuleName = Some no_module_name
fault_of (code.DecorationInSource range) = Some (decoration_in_source range.start range.end)
fault_of (code.RedirectError e) = Some (redirection_of (redirect_fault e))
fault_of (code.OverrideNotVirtual name at) = Some (not_virtual (string_bytes name) at)
fault_of (code.InvalidIdentifier original at) = Some (invalid_identifier (string_bytes original) at)
fault_of code.TooManyModules = Some too_many_modules
fault_of code.BindingsExhausted = Some bindings_exhausted
fault_of code.TextTooLarge = Some text_too_large
fault_of code.WrongForm = Some wrong_form
fault_of (code.UnknownShaderDef at name) = Some (unknown_def at (string_bytes name))
fault_of (code.InvalidShaderDefComparisonValue at name expected value) = Some (invalid_value at (string_bytes name) (string_bytes value) (string_bytes expected))
fault_of (code.UnknownShaderDefOperator at operator) = Some (unknown_operator at (string_bytes operator))
fault_of (code.ElseWithoutCondition at) = Some (else_without_condition at)
fault_of (code.TooManyEndIfs at) = Some (too_many_end_ifs at)
fault_of (code.NotEnoughEndIfs at) = Some (not_enough_end_ifs at)
fault_of (code.GlslInvalidVersion at) = Some (invalid_version at)
fault_of (code.InvalidShaderDefDefinitionValue name value at) = Some (invalid_definition at (string_bytes name) (string_bytes value))
fault_of (code.ImportParseError text at) = Some (invalid_import (string_bytes text) at)
fault_of (code.InvalidWgslDirective text index reason) = Some (invalid_directive (string_bytes text) index (string_bytes reason))
fault_of (code.DefineInModule at) = Some (define_in_module at)
fault_of code.Memory = None

-- an error is the fault of the value, or out of memory
abbrev pub Fails : {Y : Type 0} → ComposerErrorInner → Result Y Fault → Type 0
Fails e value = MatchOption (fault_of e) (Unit {0}) (λ f. value ≡ Err f)

-- a result, seen by view, is the value, or out of memory
abbrev pub Gives : {X Y : Type 0} → (X → Y) → Result X ComposerErrorInner → Result Y Fault → Type 0
Gives view (Ok x) value = value ≡ Ok (view x)
Gives view (Err e) value = Fails e value
