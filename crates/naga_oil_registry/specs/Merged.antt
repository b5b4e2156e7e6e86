-- What a module inherits from its imports.
use Rattle.std.specs.Prelude.{ℕ, List, fold}
use Rattle.std.specs.BTreeMap.{insert_entry}
use Rattle.std.specs.Cmp.Lexicographic.{slice_cmp}
use Rattle.std.specs.Ordering.{nat_cmp}
use Rattle.naga_oil_imports.specs.Uses.{Import, Use}
use Rattle.naga_oil_conditions.specs.Line.{source_lines}
use Rattle.naga_oil_pre.specs.Recorded.{names_of}
use Rattle.naga_oil_conditions.specs.declared.shader_def.ShaderDefValue.{ShaderDefValue}
use Rattle.naga_oil_registry.specs.Registered.{Defs, Registered}

-- definitions with one name defined, in place of its old value
abbrev pub with_def : Defs → List ℕ × ShaderDefValue → Defs
with_def defs def = insert_entry (slice_cmp nat_cmp) defs def.0 def.1

-- definitions overwritten with others
abbrev pub overwritten : Defs → Defs → Defs
overwritten defs others = fold with_def defs others

-- the names that a text records
abbrev pub recorded_names : (text : List ℕ) → List (List ℕ)
recorded_names text = names_of (source_lines text)

-- definitions overwritten with those of each of these modules, one after the other
abbrev pub merged : Defs → List Registered → Defs
merged defs imported = fold (λ ds d. overwritten ds d.defs) defs imported

-- an import that is used at the start of a text
abbrev pub used_at_start : Import → Use
used_at_start i = record { import = i; offset = 0 }
