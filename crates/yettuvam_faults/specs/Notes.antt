-- The notes of errors.
use Rattle.std.specs.Prelude.{ℕ, ◌==◌, if◌then◌else◌, bytes_eq, Option, Some, List, [], ◌∷◌, ◌++◌, length, map, codes}
use Rattle.naga_oil_conditions.specs.Fault as fault
use Rattle.naga_oil_conditions.specs.Fault.{Fault}
use Rattle.naga_oil_ir.specs.RedirectFault.{RedirectFault, argument_mismatch, return_type_mismatch}
use Rattle.naga_oil_lines.specs.Undecorate.{undecoration}
use Rattle.yettuvam_faults.specs.Message.{is_ambiguous, named}

abbrev pub import_hint : (text : List ℕ) → List ℕ
import_hint text = if is_ambiguous text then codes "write the module that is meant too, as in `sea::height`" else []

-- the values that a definition of a type is compared with
abbrev pub value_hint : (name expected : List ℕ) → List ℕ
value_hint name expected =
    if bytes_eq expected (codes "bool") then named (codes "`") name (codes "` is compared with `true` and `false`")
    else (if bytes_eq expected (codes "int") then named (codes "`") name (codes "` is compared with integers from -2147483648 to 2147483647")
    else named (codes "`") name (codes "` is compared with integers from 0 to 4294967295"))

abbrev pub mismatch_hint : List ℕ
mismatch_hint = codes "an override has the parameters and the result of what it overrides"

abbrev pub redirect_hint : Option RedirectFault → List ℕ
redirect_hint (Some (argument_mismatch replacement original)) = mismatch_hint
redirect_hint (Some (return_type_mismatch replacement original)) = mismatch_hint
redirect_hint _ = []

-- what helps, or nothing
abbrev pub hint : Option Fault → List ℕ
hint (Some (fault.invalid_import text at)) = import_hint text
hint (Some (fault.import_not_found name at)) = named (codes "a file with `#define_import_path ") name (codes "` is needed")
hint (Some (fault.unknown_operator at operator)) = codes "the operators are `==`, `!=`, `<`, `<=`, `>` and `>=`"
hint (Some (fault.unknown_def at name)) = codes "`#if NAME == VALUE` compares a defined name, and `#ifdef NAME` asks whether a name is defined"
hint (Some (fault.invalid_value at name value expected)) = value_hint name expected
hint (Some (fault.inconsistent_def name)) = codes "a shader and the modules that it imports define a name alike"
hint (Some fault.no_module_name) = codes "a line such as `#define_import_path noise` names a module"
hint (Some (fault.decoration_in_source start end)) = codes "names of built shaders have this mark, and no source may have it"
hint (Some (fault.redirection f)) = redirect_hint (Some f)
hint (Some (fault.not_virtual name at)) = named (codes "write `virtual fn ") name (codes "` in its module, or build with `--override-any`")
hint (Some (fault.invalid_identifier original at)) = codes "the front end reads back another name than it wrote"
hint (Some (fault.invalid_definition at name value)) = codes "a value is `true`, `false` or an integer"
hint (Some (fault.define_in_module at)) = codes "only the shader's text defines names; `-D NAME=VALUE` defines them too"
hint (Some fault.too_many_modules) = codes "a build has at most 2047 modules"
hint (Some fault.text_too_large) = codes "with what it imports it has to be smaller than 2 MiB"
hint _ = []

-- the notes of a front end
abbrev pub front_notes : Option Fault → List (List ℕ)
front_notes (Some (fault.wgsl_parse f)) = f.notes
front_notes (Some (fault.glsl_parse f)) = f.notes
front_notes (Some (fault.wgsl_back f)) = f.notes
front_notes (Some (fault.glsl_back f)) = f.notes
front_notes (Some (fault.header_validation f)) = f.notes
front_notes (Some (fault.shader_validation f)) = f.notes
front_notes _ = []

abbrev pub hint_note : (hint : List ℕ) → List (List ℕ)
hint_note hint = if length hint == 0 then [] else hint ∷ []

-- what helps, and the notes of a front end, with undecorated names
abbrev pub notes_of : Option Fault → List (List ℕ)
notes_of f = hint_note (hint f) ++ map undecoration (front_notes f)
