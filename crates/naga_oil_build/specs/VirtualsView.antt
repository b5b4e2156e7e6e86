-- What the code knows of functions after keywords.
use Rattle.std.specs.Prelude.{◌≡◌, ℕ, List, map, Option, Some, option_map, Result, String, Vec, string_bytes}
use Rattle.std.specs.BTreeMap.{BTreeMap, get}
use Rattle.std.specs.BTreeSet.{BTreeSet}
use Rattle.std.specs.Option.{option_or}
use Rattle.std.specs.Ordering.{nat_cmp}
use Rattle.std.specs.declared.alloc.Global.{Global}
use Rattle.indexmap.specs.IndexMap.{IndexMap}
use Rattle.naga_oil_words.specs.Texts.{texts}
use Rattle.naga_oil_imports.specs.Uses.{import_of}
use Rattle.naga_oil_conditions.specs.Fault.{Fault}
use Rattle.naga_oil_conditions.specs.View.{fault_of}
use Rattle.naga_oil_conditions.specs.declared.fault.ComposerErrorInner.{ComposerErrorInner}
use Rattle.naga_oil_registry.specs.Keywords.{MarkedFunction}
use Rattle.naga_oil_link.specs.BuiltModule.{Overriding, overriding_of, builds_of}
use Rattle.naga_oil_build.specs.Virtuals.{Overrides, Functions, override_fault, with_override, with_overrides, functions_in}
use Rattle.naga_oil_build.specs.declared.virtuals.Over.{Over}

-- overridden functions, as the code has them
abbrev pub CodeOverriding : Type 0 → Type 0
CodeOverriding S = IndexMap (String Global) (Vec (String Global) Global) S

-- edits and overridden functions, with a fault
abbrev pub told_so : {S : Type 0} → BTreeMap ℕ ℕ → CodeOverriding S → Option Fault → Overrides
told_so edits overriding fault = record { edits = get nat_cmp edits; overriding = overriding_of overriding; fault = fault }

-- why an item can't be overridden, over what is imported
abbrev pub fault_over : Over → (module_name item : List ℕ) → (place : ℕ) → Option Fault
fault_over o module_name item place = override_fault o.override_any (builds_of o.builds.now) (map import_of o.imports.now) module_name item place

-- one more function, over what is imported
abbrev pub override_over : Over → Overrides → MarkedFunction → Overrides
override_over o told f = with_override o.override_any (builds_of o.builds.now) (map import_of o.imports.now) o.decoration.now told f

-- more functions, over what is imported
abbrev pub overrides_over : Over → Overrides → List MarkedFunction → Overrides
overrides_over o told fs = with_overrides o.override_any (builds_of o.builds.now) (map import_of o.imports.now) o.decoration.now told fs

-- what a text says of functions, over what is imported
abbrev pub functions_over : Over → Overriding → (text : List ℕ) → Result Functions Fault
functions_over o overriding text = functions_in o.override_any (builds_of o.builds.now) (map import_of o.imports.now) o.decoration.now overriding text

-- what was read of a text
abbrev pub functions_with : {S : Type 0} → CodeOverriding S → BTreeSet (String Global) × String Global → Functions
functions_with overriding read = record { virtuals = texts read.0.keys; overriding = overriding_of overriding; text = string_bytes read.1 }

-- a fault, if there is one, replaces the one before
abbrev pub TellsNext : (new next : Option Fault → Overrides) → Option ComposerErrorInner → Type 0
TellsNext new next fault = (told : Option Fault) × (option_map fault_of fault ≡ option_map Some told) × ((before : Option Fault) → new (option_or told before) ≡ next before)
