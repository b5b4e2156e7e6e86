-- What stands in a module, what the items of a source map to, and special types.
use Rattle.std.specs.Prelude.{ℕ, ◌+◌, ◌≡◌, ◌==◌, ◌&&◌, List, [], ◌∷◌, ◌++◌, map, min, nat_eq, Option, Some, None, option_map, slice_get, is_some, if◌then◌else◌}
use Rattle.std.specs.Option.{option_flatten}
use Rattle.std.specs.Map.{lookup}
use Rattle.naga_oil_ir.specs.Rows.{Text, parts_row}
use Rattle.naga_oil_ir.specs.ModuleValue.{ModuleValue, SpecialValue, module_value}
use Rattle.naga_oil_ir.specs.declared.module.Module.{Module}
use Rattle.naga_oil_ir.specs.declared.span.Span.{Span}
use Rattle.naga_oil_ir.specs.declared.names.ItemPlace.{ItemPlace}
use Rattle.naga_oil_ir.specs.declared.names.ItemPlace.TheVariants.{TypeItem, ConstantItem, OverrideItem, GlobalItem, ExpressionItem}
use Rattle.naga_oil_ir.specs.Spans.{u32_max}
use Rattle.naga_oil_derive.specs.declared.special.SpecialKey.{SpecialKey}
use Rattle.naga_oil_derive.specs.declared.special.SpecialKey.TheVariants.{RayDesc, RayIntersection, RayVertexReturn, Predeclared}
use Rattle.naga_oil_derive.specs.Tree.{World, Kept}
use Rattle.naga_oil_rename.specs.Renames.{under_name}

-- a module as plain data
unfoldable pub value_of : Module → ModuleValue
value_of m = module_value m

-- what stands at the places of a module
unfoldable pub world : ModuleValue → World
world m (TypeItem k) = option_map (λ e. e.0) (slice_get m.types k)
world m (ConstantItem k) = option_map (λ e. e.0) (slice_get m.constants k)
world m (OverrideItem k) = option_map (λ e. e.0) (slice_get m.overrides k)
world m (GlobalItem k) = option_map (λ e. e.0) (slice_get m.global_variables k)
world m (ExpressionItem k) = option_map (λ e. parts_row e.0) (slice_get m.global_expressions k)

-- the spans of what stands there
unfoldable pub span_at : ModuleValue → ItemPlace → Option Span
span_at m (TypeItem k) = option_map (λ e. e.1) (slice_get m.types k)
span_at m (ConstantItem k) = option_map (λ e. e.1) (slice_get m.constants k)
span_at m (OverrideItem k) = option_map (λ e. e.1) (slice_get m.overrides k)
span_at m (GlobalItem k) = option_map (λ e. e.1) (slice_get m.global_variables k)
span_at m (ExpressionItem k) = option_map (λ e. e.1) (slice_get m.global_expressions k)

-- a place of a text, shifted by an offset, at most to the last place that a span can name
abbrev pub moved : ℕ → ℕ → ℕ
moved offset k = min (k + offset) u32_max

-- a span, shifted by an offset; an undefined span stays
abbrev pub shifted : ℕ → Span → Span
shifted offset s =
    if (s.start == 0) && (s.end == 0) then s else
    record { start = moved offset s.start; end = moved offset s.end }

-- ys begins with xs
abbrev pub Begins : {A : Type 0} → List A → List A → Type 0
Begins {A} xs ys = (zs : List A) × (ys ≡ xs ++ zs)

-- n is m with more items, each at the end of its arena
pub record Extends (m n : ModuleValue) : Type 0 where
  pub types : Begins m.types n.types
  pub constants : Begins m.constants n.constants
  pub overrides : Begins m.overrides n.overrides
  pub global_variables : Begins m.global_variables n.global_variables
  pub global_expressions : Begins m.global_expressions n.global_expressions
  pub rest : n ≡ record m {
    types = n.types;
    constants = n.constants;
    overrides = n.overrides;
    global_variables = n.global_variables;
    global_expressions = n.global_expressions;
  }

-- ---- what items map to

-- what the items of a source map to
pub record ItemMap : Type 0 where
  pub types : List (Option ℕ)
  pub constants : List (Option ℕ)
  pub overrides : List (Option ℕ)
  pub global_variables : List (Option ℕ)
  pub global_expressions : List (Option ℕ)

-- what the item at a place maps to
unfoldable pub goes : ItemMap → ItemPlace → Option ItemPlace
goes m (TypeItem k) = option_map TypeItem (option_flatten (slice_get m.types k))
goes m (ConstantItem k) = option_map ConstantItem (option_flatten (slice_get m.constants k))
goes m (OverrideItem k) = option_map OverrideItem (option_flatten (slice_get m.overrides k))
goes m (GlobalItem k) = option_map GlobalItem (option_flatten (slice_get m.global_variables k))
goes m (ExpressionItem k) = option_map ExpressionItem (option_flatten (slice_get m.global_expressions k))

-- the name of what stands at a place, if one is given and something stands there
abbrev pub name_at : World → Option ItemPlace → Option Text
name_at v None = None
name_at v (Some q) = option_map (λ r. r.label.name) (v q)

-- a source as it reads: a mapped item has the name of what it maps to
unfoldable pub named_world : World → World → (ItemPlace → Option ItemPlace) → World
named_world w v m p = option_map (under_name (name_at v (m p))) (w p)

-- a source in which a type has the name n, if one is given
unfoldable pub renamed_at : World → ℕ → Option Text → World
renamed_at w k n (TypeItem j) = if j == k then option_map (under_name n) (w (TypeItem j)) else w (TypeItem j)
renamed_at w k n (ConstantItem j) = w (ConstantItem j)
renamed_at w k n (OverrideItem j) = w (OverrideItem j)
renamed_at w k n (GlobalItem j) = w (GlobalItem j)
renamed_at w k n (ExpressionItem j) = w (ExpressionItem j)

-- ---- special types

abbrev pub special_entry : SpecialKey → Option ℕ → List (SpecialKey × ℕ)
special_entry key None = []
special_entry key (Some h) = (key, h) ∷ []

-- the special types with their keys, in order
abbrev pub special_entries : SpecialValue → List (SpecialKey × ℕ)
special_entries s =
    special_entry RayDesc s.ray_desc ++ special_entry RayIntersection s.ray_intersection ++
    special_entry RayVertexReturn s.ray_vertex_return ++
    map (λ e. (Predeclared e.0, e.1)) s.predeclared_types

-- the special type of a key
abbrev pub special_at : SpecialValue → SpecialKey → Option ℕ
special_at s RayDesc = s.ray_desc
special_at s RayIntersection = s.ray_intersection
special_at s RayVertexReturn = s.ray_vertex_return
special_at s (Predeclared c) = lookup (nat_eq c) s.predeclared_types

abbrev pub or_option : Option ℕ → Option ℕ → Option ℕ
or_option None b = b
or_option (Some a) b = Some a

-- the place kept for a special type; if two of its keys are kept, the last decides
abbrev pub kept_in : (SpecialKey → Option ℕ) → List (SpecialKey × ℕ) → ℕ → Option ℕ
kept_in f [] k = None
kept_in f (e ∷ es) k = or_option (kept_in f es k) (if e.1 == k then f e.0 else None)

-- the places kept for the special types of a source, by those of a target
unfoldable pub kept_of : SpecialValue → SpecialValue → Kept
kept_of s t (TypeItem k) = option_map TypeItem (kept_in (special_at t) (special_entries s) k)
kept_of s t (ConstantItem k) = None
kept_of s t (OverrideItem k) = None
kept_of s t (GlobalItem k) = None
kept_of s t (ExpressionItem k) = None

-- no entry has the key
abbrev pub LacksKey : SpecialKey → List (SpecialKey × ℕ) → Type 0
LacksKey key [] = Unit {0}
LacksKey key (e ∷ es) = (e.0 ≡ key → ⊥) × LacksKey key es

-- no two entries have the same key
abbrev pub HaveDistinctKeys : List (SpecialKey × ℕ) → Type 0
HaveDistinctKeys [] = Unit {0}
HaveDistinctKeys (e ∷ es) = LacksKey e.0 es × HaveDistinctKeys es

-- special types, with one more
abbrev pub with_special : SpecialValue → SpecialKey → ℕ → SpecialValue
with_special s RayDesc h = record {
  ray_desc = Some h;
  ray_intersection = s.ray_intersection;
  ray_vertex_return = s.ray_vertex_return;
  predeclared_types = s.predeclared_types;
}
with_special s RayIntersection h = record {
  ray_desc = s.ray_desc;
  ray_intersection = Some h;
  ray_vertex_return = s.ray_vertex_return;
  predeclared_types = s.predeclared_types;
}
with_special s RayVertexReturn h = record {
  ray_desc = s.ray_desc;
  ray_intersection = s.ray_intersection;
  ray_vertex_return = Some h;
  predeclared_types = s.predeclared_types;
}
with_special s (Predeclared c) h = record {
  ray_desc = s.ray_desc;
  ray_intersection = s.ray_intersection;
  ray_vertex_return = s.ray_vertex_return;
  predeclared_types = s.predeclared_types ++ (c, h) ∷ [];
}

-- special types with those of a source whose keys they lack, each mapped as the source's type is
abbrev pub with_specials : SpecialValue → (ℕ → ℕ) → List (SpecialKey × ℕ) → SpecialValue
with_specials s f [] = s
with_specials s f (e ∷ es) = with_specials (if is_some (special_at s e.0) then s else with_special s e.0 (f e.1)) f es
