-- A module that was built under some definitions, as a value.
use Rattle.std.specs.Prelude.{ℕ, List, [], map, String, Vec, string_bytes}
use Rattle.std.specs.Arc.{arc_value}
use Rattle.std.specs.declared.alloc.Global.{Global}
use Rattle.std.specs.declared.sync.Arc.{Arc}
use Rattle.indexmap.specs.IndexMap.{IndexMap}
use Rattle.naga_oil_ir.specs.ModuleValue.{ModuleValue, no_items}
use Rattle.naga_oil_words.specs.Texts.{texts}
use Rattle.naga_oil_imports.specs.Uses.{Import, import_of}
use Rattle.naga_oil_link.specs.OwnPlaces.{OwnPlaces, own_of, nothing_own}
use Rattle.naga_oil_link.specs.declared.module.ComposableModule.{ComposableModule}

-- overridden functions, each with those that override it
abbrev pub Overriding : Type 0
Overriding = List (List ℕ × List (List ℕ))

abbrev pub overriding_of : {S : Type 0} → IndexMap (String Global) (Vec (String Global) Global) S → Overriding
overriding_of m = map (λ e. (string_bytes e.0, texts e.1.items)) m.entries

pub record BuiltModule : Type 0 where
  -- what the names of the module's items end with
  pub decoration : List ℕ
  pub imports : List Import
  -- the decorated names of the module's own items, in byte order
  pub types : List (List ℕ)
  pub constants : List (List ℕ)
  pub pipeline_overrides : List (List ℕ)
  pub globals : List (List ℕ)
  pub functions : List (List ℕ)
  -- the functions that others may override, in byte order
  pub virtuals : List (List ℕ)
  pub overriding : Overriding
  pub value : ModuleValue
  -- the module's own items, without bodies
  pub header : ModuleValue
  -- the places of the own items in the module and in the header
  pub own_in_value : OwnPlaces
  pub own_in_header : OwnPlaces
  -- where the module's source begins in the text that was parsed
  pub offset : ℕ
  -- the module's index in the registry; index 0 is the shader's
  pub index : ℕ

abbrev pub built_of : ComposableModule → BuiltModule
built_of b = record {
  decoration = string_bytes b.decorated_name;
  imports = map import_of b.imports.items;
  types = texts b.owned_types.keys;
  constants = texts b.owned_constants.keys;
  pipeline_overrides = texts b.owned_pipeline_overrides.keys;
  globals = texts b.owned_vars.keys;
  functions = texts b.owned_functions.keys;
  virtuals = texts b.virtual_functions.keys;
  overriding = overriding_of b.override_functions;
  value = b.module_ir;
  header = b.header_ir;
  own_in_value = own_of b.own_in_module;
  own_in_header = own_of b.own_in_header;
  offset = b.start_offset;
  index = b.index;
}

-- a build of nothing
abbrev pub nothing_built : (decoration : List ℕ) → (index : ℕ) → BuiltModule
nothing_built decoration index = record {
  decoration = decoration;
  imports = [];
  types = [];
  constants = [];
  pipeline_overrides = [];
  globals = [];
  functions = [];
  virtuals = [];
  overriding = [];
  value = no_items;
  header = no_items;
  own_in_value = nothing_own;
  own_in_header = nothing_own;
  offset = 0;
  index = index;
}

-- builds by their names, in the order of building
abbrev pub Builds : Type 0
Builds = List (List ℕ × BuiltModule)

abbrev pub builds_of : {S : Type 0} → IndexMap (String Global) (Arc ComposableModule Global) S → Builds
builds_of m = map (λ e. (string_bytes e.0, built_of (arc_value e.1))) m.entries
