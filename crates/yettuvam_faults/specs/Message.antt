-- The messages of errors.
use Rattle.std.specs.Prelude.{ℕ, Bool, if◌then◌else◌, bytes_eq, Option, Some, None, List, ◌++◌, codes}
use Rattle.naga_oil_conditions.specs.Fault as fault
use Rattle.naga_oil_conditions.specs.Fault.{Fault}
use Rattle.naga_oil_ir.specs.RedirectFault.{RedirectFault, not_found, argument_mismatch, return_type_mismatch, circular_reference}
use Rattle.naga_oil_lines.specs.Undecorate.{undecoration}

-- a sentence with a name, and one with two
abbrev pub named : (start name end : List ℕ) → List ℕ
named start name end = start ++ name ++ end

abbrev pub two_named : (start name middle other end : List ℕ) → List ℕ
two_named start name middle other end = start ++ name ++ middle ++ other ++ end

-- whether an import's fault is that a name stands for several items
abbrev pub is_ambiguous : (text : List ℕ) → Bool
is_ambiguous text = bytes_eq text (codes "Ambiguous import path for item")

abbrev pub import_message : (text : List ℕ) → List ℕ
import_message text = if is_ambiguous text then codes "a name stands for several imported items" else codes "invalid import: " ++ text

-- why calls aren't redirected; none is out of memory
abbrev pub redirect_message : Option RedirectFault → List ℕ
redirect_message (Some (not_found name)) = named (codes "no function `") name (codes "` to override")
redirect_message (Some (argument_mismatch replacement original)) = named (codes "an override of `") original (codes "` has other parameters")
redirect_message (Some (return_type_mismatch replacement original)) = named (codes "an override of `") original (codes "` has another result")
redirect_message (Some (circular_reference names)) = codes "functions call themselves: " ++ names
redirect_message None = codes "out of memory"

-- what is wrong, with decorated names
abbrev pub said : Option Fault → List ℕ
said (Some (fault.invalid_import text at)) = import_message text
said (Some (fault.import_not_found name at)) = named (codes "no module `") name (codes "`")
said (Some (fault.wgsl_parse f)) = f.message
said (Some (fault.glsl_parse f)) = f.message
said (Some (fault.wgsl_back f)) = codes "what is imported has no text in WGSL: " ++ f.message
said (Some (fault.glsl_back f)) = codes "what is imported has no text in GLSL: " ++ f.message
said (Some (fault.header_validation f)) = codes "what is imported isn't valid: " ++ f.message
said (Some (fault.shader_validation f)) = f.message
said (Some (fault.not_enough_end_ifs at)) = codes "a condition has no `#endif`"
said (Some (fault.too_many_end_ifs at)) = codes "`#endif` without a condition"
said (Some (fault.else_without_condition at)) = codes "`#else` without a condition"
said (Some (fault.unknown_operator at operator)) = named (codes "no operator `") operator (codes "`")
said (Some (fault.unknown_def at name)) = named (codes "`") name (codes "` isn't defined")
said (Some (fault.invalid_value at name value expected)) = two_named (codes "`") name (codes "` can't be compared with `") value (codes "`")
said (Some (fault.inconsistent_def name)) = named (codes "`") name (codes "` is defined with several values")
said (Some fault.no_module_name) = codes "a module has no `#define_import_path`"
said (Some (fault.decoration_in_source start end)) = codes "the text has the mark of a decorated name"
said (Some (fault.invalid_version at)) = codes "only the versions 440 and 450 of GLSL are read"
said (Some (fault.redirection f)) = redirect_message (Some f)
said (Some fault.redirection_memory) = redirect_message None
said (Some (fault.not_virtual name at)) = named (codes "`") name (codes "` isn't virtual")
said (Some (fault.invalid_identifier original at)) = named (codes "`") original (codes "` can't name an item of a module")
said (Some (fault.invalid_definition at name value)) = two_named (codes "`") value (codes "` is no value for `") name (codes "`")
said (Some (fault.define_in_module at)) = codes "`#define` in a module"
said (Some (fault.invalid_directive text index reason)) = codes "invalid directive `" ++ text ++ codes "`: " ++ reason
said (Some fault.too_many_modules) = codes "too many modules"
said (Some fault.bindings_exhausted) = codes "no number is left for `@binding(auto)`"
said (Some fault.text_too_large) = codes "the text is too large"
said (Some fault.wrong_form) = codes "the front end returned a malformed module"
said None = codes "out of memory"

-- the message of an error, with undecorated names
abbrev pub message_of : Option Fault → List ℕ
message_of f = undecoration (said f)
