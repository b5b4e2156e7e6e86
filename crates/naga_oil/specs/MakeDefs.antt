-- The definitions that a make builds under.
use Rattle.std.specs.Prelude.{ℕ, List, [], Result, Ok, Err}
use Rattle.naga_oil_conditions.specs.Fault.{Fault}
use Rattle.naga_oil_words.specs.ResultSteps.{◌>>=◌}
use Rattle.naga_oil_registry.specs.Added.{read_source}
use Rattle.naga_oil_registry.specs.Registered.{Registered, Defs}
use Rattle.naga_oil_registry.specs.Descriptor.{ShaderSource}
use Rattle.naga_oil_registry.specs.Merged.{overwritten}
use Rattle.naga_oil_build.specs.Built.{preprocessed_of}
use Rattle.naga_oil.specs.Reach.{defined}
use Rattle.naga_oil.specs.Shader.{read_shader, defs_union_over}

-- the own definitions of a shader, merged with those of the modules that it imports under them
abbrev pub defs_merged : List Registered → (shader : Registered) → (own : Defs) → Result Defs Fault
defs_merged ds shader own = preprocessed_of (defined own) shader >>= λ out. defs_union_over ds own out.uses

-- the definitions of a shader's text: the given ones, overwritten by its defines, merged with those of the modules that it imports
abbrev pub defs_of_text : List Registered → ShaderSource → (text : List ℕ) → Result Defs Fault
defs_of_text ds m text = read_shader m text >>= λ shader. defs_merged ds shader (overwritten m.defs shader.defs)

-- no definitions after a fault: then nothing is built
abbrev pub defs_or_none : Result Defs Fault → Defs
defs_or_none (Ok defs) = defs
defs_or_none (Err f) = []

-- the definitions of a make, by registry, counter and inputs
unfoldable pub make_defs : List Registered → (counter : ℕ) → ShaderSource → Defs
make_defs ds counter m = defs_or_none (read_source counter m.source >>= λ read. defs_of_text ds m read.0)
