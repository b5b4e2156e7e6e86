-- What the handles of a function mean, without handles.
use Rattle.std.specs.Prelude.{ℕ, ◌≡◌, option_map, slice_get}
use Rattle.std.specs.Option.{option_flatten}
use Rattle.naga_oil_ir.specs.ModuleValue.{ModuleValue}
use Rattle.naga_oil_ir.specs.Rows.{Text}
use Rattle.naga_oil_ir.specs.declared.names.ItemPlace.{ItemPlace}
use Rattle.naga_oil_derive.specs.Derived.{Source, as_read}
use Rattle.naga_oil_derive.specs.Tree.{World, Tree, tree, reading}
use Rattle.naga_oil_derive.specs.World.{world, kept_of}

-- what items read as, to each depth, and the names of functions
pub record Scope : Type 0 where
  pub reads : ItemPlace → ℕ → Tree
  pub function_name : ℕ → Text

-- the name of the function at a place of a module
abbrev pub name_of_function : ModuleValue → ℕ → Text
name_of_function m k = option_flatten (option_map (λ f. f.0.name) (slice_get m.functions k))

-- a module as it stands
abbrev pub scope_of : ModuleValue → Scope
scope_of m = record { reads = λ p n. tree n (world m) p; function_name = name_of_function m }

-- a module whose items read as in w, and whose special types read as those of t with the same keys
abbrev pub scope_by : ModuleValue → World → ModuleValue → Scope
scope_by t w m = record {
  reads = λ p n. reading n w (world t) (kept_of m.special_types t.special_types) p;
  function_name = name_of_function m;
}

-- a source as it is copied into a module: its items have the names of their copies, its special types read as the module's
abbrev pub scope_from : Source → ModuleValue → Scope
scope_from s t = scope_by t (as_read s t) s.value

-- the item at p of one scope reads as that at q of another
abbrev pub ReadAlike : Scope → Scope → ItemPlace → ItemPlace → Type 0
ReadAlike a b p q = (n : ℕ) → b.reads q n ≡ a.reads p n

-- the function at l of the scope b has the name that stands for that of the function at k of the scope a
abbrev pub CalledAlike : (Text → Text) → Scope → Scope → ℕ → ℕ → Type 0
CalledAlike sends a b k l = b.function_name l ≡ sends (a.function_name k)
