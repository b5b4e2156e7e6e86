-- The registry as the code has it: the oldest module first, each under its name, with marks of the indices that are taken.
use Rattle.std.specs.Prelude.{◌≡◌, ◌≢◌, ℕ, ◌<◌, ◌==◌, ◌||◌, Bool, true, false, List, [], ◌∷◌, length, reverse, map, slice_index_or, String, string_bytes}
use Rattle.std.specs.declared.alloc.Global.{Global}
use Rattle.std.specs.Map.{values_of}
use Rattle.naga_oil_registry.specs.Registered.{Registered, definition_of}
use Rattle.naga_oil_registry.specs.Registry.{taken}
use Rattle.naga_oil_registry.specs.declared.definition.ComposableModuleDefinition.{ComposableModuleDefinition}

-- modules that are stored with the oldest first, as a list
abbrev pub newest_first : List ComposableModuleDefinition → List Registered
newest_first ms = reverse (map definition_of ms)

-- each module is stored under its name
abbrev pub AreUnderNames : List (String Global × ComposableModuleDefinition) → Type 0
AreUnderNames [] = Unit {0}
AreUnderNames (e ∷ es) = (string_bytes e.0 ≡ string_bytes e.1.name) × AreUnderNames es

-- marks, if there are any, say which indices up to max_modules are taken; index 0 is marked
abbrev pub AreMarks : List Bool → List Registered → Type 0
AreMarks marks ds = 0 < length marks → (length marks ≡ 2048) × ((index : ℕ) → index < 2048 → slice_index_or marks index false ≡ (index == 0 || taken ds index))

-- the index of one more module is marked, if there is a mark for it
abbrev pub MarksMore : (old : List Bool) → Registered → (new : List Bool) → Type 0
MarksMore old d new = (length new ≡ length old) × ((index : ℕ) → index < length old → slice_index_or new index false ≡ (d.index == index || slice_index_or old index false))

-- each module is stored under its name, and the marks say which indices are taken
pub record IsKept (es : List (String Global × ComposableModuleDefinition)) (marks : List Bool) : Type 0 where
  pub under : AreUnderNames es
  pub marked : AreMarks marks (newest_first (values_of es))

-- one element passes, the one at this place
pub record IsOnly {X : Type 0} (p : X → Bool) (xs : List X) (place : ℕ) : Type 0 where
  pub within : place < length xs
  pub passes : (d : X) → p (slice_index_or xs place d) ≡ true
  pub others : (k : ℕ) (d : X) → k < length xs → k ≢ place → p (slice_index_or xs k d) ≡ false
