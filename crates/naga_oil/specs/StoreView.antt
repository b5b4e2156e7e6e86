-- The kept builds of the code, seen by the words of their definitions.
use Rattle.std.specs.Prelude.{List, ℕ, map, String, string_bytes}
use Rattle.std.specs.Arc.{arc_value}
use Rattle.std.specs.declared.alloc.Global.{Global}
use Rattle.std.specs.declared.sync.Arc.{Arc}
use Rattle.indexmap.specs.IndexMap.{IndexMap}
use Rattle.naga_oil_conditions.specs.declared.shader_def.ShaderDefValue.{ShaderDefValue}
use Rattle.naga_oil_link.specs.BuiltModule.{built_of}
use Rattle.naga_oil_link.specs.declared.module.ComposableModule.{ComposableModule}
use Rattle.naga_oil.specs.Store.{Key, Kept}
use Rattle.naga_oil.specs.declared.compose.store.Key.{Key as CodeKey}

-- a definition by the bytes of its name
abbrev pub def_of : String Global × ShaderDefValue → List ℕ × ShaderDefValue
def_of d = (string_bytes d.0, d.1)

abbrev pub key_of : CodeKey → Key
key_of k = record { name = string_bytes k.name; defs = map def_of k.defs.items }

-- the kept builds, in the order of keeping
abbrev pub kept_of : {S : Type 0} → IndexMap CodeKey (Arc ComposableModule Global) S → Kept
kept_of store = map (λ e. (key_of e.0, built_of (arc_value e.1))) store.entries
