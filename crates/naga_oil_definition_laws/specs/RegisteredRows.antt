-- Worked rows: which module an index finds, which names modules reach, what a new module replaces, and definitions as values.
use Rattle.std.proofs.Common.{◌≡◌, ℕ, List, [], ◌∷◌, map, length, true, false, Some, None, Result, Ok, Err, refl, ap, sym, ◌∙◌, arith}
use Rattle.std.specs.BTreeMap.{BTreeMap}
use Rattle.std.specs.Prelude.{codes, String, string_bytes}
use Rattle.std.specs.Str.{chars}
use Rattle.std.specs.declared.alloc.Global.{Global}
use Rattle.naga_oil_ir.specs.declared.language.ShaderLanguage.TheVariants.{Wgsl}
use Rattle.naga_oil_words.specs.Texts.{in_order, texts}
use Rattle.naga_oil_lines.specs.Cover.{cover}
use Rattle.naga_oil_lines.specs.Directives.{no_directives, directives_of}
use Rattle.naga_oil_imports.specs.Uses.{Use, import_of, use_of}
use Rattle.naga_oil_conditions.specs.Computing.{line_kinds}
use Rattle.naga_oil_conditions.specs.Replaced.{name_at, name_in_braces, hash_name, pieces, hash_names}
use Rattle.naga_oil_conditions.specs.declared.shader_def.ShaderDefValue.{ShaderDefValue}
use Rattle.naga_oil_conditions.specs.declared.shader_def.ShaderDefValue.TheVariants as def
use Rattle.naga_oil_pre.specs.Recorded.{names_from, names_of}
use Rattle.naga_oil_registry.specs.Added.{Enters, registry_with}
use Rattle.naga_oil_registry.specs.Registered.{Registered, Defs, defs_of, definition_of}
use Rattle.naga_oil_registry.specs.Registry.{module_indexed, reaches, MayFollow, IsRegistry, is_reached_name, AreReachedNames}
use Rattle.naga_oil_registry.specs.declared.definition.ComposableModuleDefinition.{ComposableModuleDefinition}
use Rattle.naga_oil_registry.proofs.EffectiveLemmas.{are_reached}

-- `unfolding recorded` lets `refl` compute the names that a text records
unfoldable recorded : Unit {0}
unfolding cover line_kinds chars names_from names_of pieces name_at name_in_braces hash_name hash_names in_order
recorded = tt

abbrev row : (name source : List ℕ) → (effective : List (List ℕ)) → (imports : List Use) → (index : ℕ) → Registered
row name source effective imports index = record {
  name = name;
  source = source;
  language = Wgsl;
  file_path = [];
  defs = [];
  effective = effective;
  imports = imports;
  additional = [];
  directives = no_directives;
  index = index;
}

-- the text of a has a condition on FAST; b imports a, and its text has the value of LIGHTS
abbrev a : Registered
a = row (codes "a") (codes "#ifdef FAST\n#endif") (codes "FAST" ∷ []) [] 4

abbrev used : List Use
used = record { import = record { import = codes "a"; items = [] }; offset = 0 } ∷ []

abbrev b : Registered
b = row (codes "b") (codes "x = #LIGHTS;") (codes "FAST" ∷ codes "LIGHTS" ∷ []) used 2

abbrev pub modules : List Registered
modules = b ∷ a ∷ []

-- ---- modules by index

index_of_a : module_indexed 4 modules ≡ Some a
index_of_a = refl

index_of_b : module_indexed 2 modules ≡ Some b
index_of_b = refl

index_of_none : module_indexed 1 modules ≡ None
index_of_none = refl

-- ---- the names that modules reach

pub registry : IsRegistry modules
unfolding recorded
registry = (
  record { name = refl; index = refl; positive = omega arith; small = omega arith; imports = refl; effective = refl },
  (record { name = refl; index = refl; positive = omega arith; small = omega arith; imports = refl; effective = refl }, tt),
)

b_may_follow : MayFollow b (a ∷ [])
b_may_follow = registry.0

taken_index_is_refused : MayFollow (record b { index = 4 }) (a ∷ []) → ⊥
taken_index_is_refused h = let e : true ≡ false = h.index in absurd cc

registry_with_it_is_refused : IsRegistry (record b { index = 4 } ∷ a ∷ []) → ⊥
registry_with_it_is_refused h = taken_index_is_refused h.0

unregistered_import_is_refused : MayFollow b [] → ⊥
unregistered_import_is_refused h = let e : false ≡ true = h.imports in absurd cc

reached_names : AreReachedNames modules
reached_names = are_reached modules registry

-- b reaches the name of a, but a doesn't reach the name of b
name_through_import : is_reached_name modules (codes "b") (codes "FAST") ≡ true
unfolding recorded reaches
name_through_import = refl

no_name_of_importer : is_reached_name modules (codes "a") (codes "LIGHTS") ≡ false
unfolding recorded reaches
no_name_of_importer = refl

-- a without its own name, with another one, and b without the name of a
abbrev nameless : Registered
nameless = record a { effective = [] }

missing_name_is_refused : AreReachedNames (nameless ∷ []) → ⊥
unfolding recorded reaches
missing_name_is_refused h = let e : false ≡ true = h nameless (codes "FAST") refl in absurd cc

abbrev dimmed : Registered
dimmed = record a { effective = codes "DIM" ∷ codes "FAST" ∷ [] }

further_name_is_refused : AreReachedNames (dimmed ∷ []) → ⊥
unfolding recorded reaches
further_name_is_refused h = let e : true ≡ false = h dimmed (codes "DIM") refl in absurd cc

abbrev alone : Registered
alone = record b { effective = codes "LIGHTS" ∷ [] }

missing_import_is_refused : AreReachedNames (alone ∷ a ∷ []) → ⊥
unfolding recorded reaches
missing_import_is_refused h = let e : false ≡ true = h alone (codes "FAST") refl in absurd cc

-- ---- a new module in place of the one with its name

-- a is entered again, and b goes, which imports it
enters : Enters {F = ℕ} modules (Ok a) (a ∷ [])
unfolding reaches
enters = (a, refl, refl)

-- an unknown module is entered before the others
abbrev c : Registered
c = row (codes "c") [] [] [] 1

enters_first : Enters {F = ℕ} modules (Ok c) (c ∷ b ∷ a ∷ [])
unfolding reaches
enters_first = (c, refl, refl)

same_module : (d e : Registered) → ◌≡◌ {A = Result Registered ℕ} (Ok d) (Ok e) → e ≡ d
same_module d e h = cc

importer_that_stays_is_refused : Enters {F = ℕ} modules (Ok a) (a ∷ b ∷ []) → ⊥
unfolding reaches
importer_that_stays_is_refused h = let e : ◌≡◌ {A = ℕ} 2 1 = ap length (h.2 ∙ ap (λ (d : Registered). registry_with modules d) (same_module a h.0 h.1)) in absurd cc

not_entered_is_refused : Enters {F = ℕ} modules (Ok c) modules → ⊥
unfolding reaches
not_entered_is_refused h = let e : ◌≡◌ {A = ℕ} 2 3 = ap length (h.2 ∙ ap (λ (d : Registered). registry_with modules d) (same_module c h.0 h.1)) in absurd cc

refused_module_is_refused : (new : List Registered) → Enters {F = ℕ} modules (Err 0) new → ⊥
refused_module_is_refused new h = let e = h.1 in absurd cc

-- ---- definitions as values

module _ (fast lights : String Global) (fast_is : string_bytes fast ≡ codes "FAST") (lights_is : string_bytes lights ≡ codes "LIGHTS")
    (m : BTreeMap (String Global) ShaderDefValue) (m_is : m.entries ≡ (fast, def.Bool true) ∷ (lights, def.UInt 4) ∷ []) where
  abbrev two_defs : Defs
  two_defs = (codes "FAST", def.Bool true) ∷ (codes "LIGHTS", def.UInt 4) ∷ []

  entries_as_defs : defs_of m ≡ two_defs
  entries_as_defs = ap (λ (es : List (String Global × ShaderDefValue)). map (λ e. (string_bytes e.0, e.1)) es) m_is ∙ (λ i. (fast_is i, def.Bool true) ∷ (lights_is i, def.UInt 4) ∷ [])

  no_defs_is_refused : defs_of m ≡ [] → ⊥
  no_defs_is_refused h = let e : ◌≡◌ {A = ℕ} 2 0 = ap length (sym entries_as_defs ∙ h) in absurd cc

module _ (d : ComposableModuleDefinition)
    (name_is : string_bytes d.name ≡ codes "m") (source_is : string_bytes d.sanitized_source ≡ codes "fn f() {}")
    (language_is : d.language ≡ Wgsl) (path_is : string_bytes d.file_path ≡ codes "m.wgsl") (index_is : d.module_index ≡ 7)
    (defs_are : defs_of d.shader_defs ≡ (codes "FAST", def.Bool true) ∷ []) (effective_is : texts d.effective_defs.keys ≡ codes "LIGHTS" ∷ [])
    (imports_are : map use_of d.all_imports.items ≡ used) (additional_is : map import_of d.additional_imports.items ≡ [])
    (directives_are : directives_of d.wgsl_directives ≡ no_directives) where
  abbrev expected : Registered
  expected = record {
    name = codes "m";
    source = codes "fn f() {}";
    language = Wgsl;
    file_path = codes "m.wgsl";
    defs = (codes "FAST", def.Bool true) ∷ [];
    effective = codes "LIGHTS" ∷ [];
    imports = used;
    additional = [];
    directives = no_directives;
    index = 7;
  }

  as_value : definition_of d ≡ expected
  as_value = λ i. record {
    name = name_is i;
    source = source_is i;
    language = language_is i;
    file_path = path_is i;
    defs = defs_are i;
    effective = effective_is i;
    imports = imports_are i;
    additional = additional_is i;
    directives = directives_are i;
    index = index_is i;
  }

  another_index_is_refused : definition_of d ≡ record expected { index = 8 } → ⊥
  another_index_is_refused h = let e : ◌≡◌ {A = ℕ} 7 8 = ap (λ (x : Registered). x.index) (sym as_value ∙ h) in absurd cc
