-- The test of form of items by their rows, as values.
use Rattle.std.specs.Prelude.{ℕ, Bool, true, false, not, ◌&&◌, ◌||◌, List, [], ◌∷◌, ◌++◌, length, map, slice_get, Option, Some, None, option_to_list, is_none, nat_eq, nat_lt}
use Rattle.std.specs.List.{list_all, list_any, enumerate_from}
use Rattle.naga_oil_form.specs.ItemForm.{types_named, is_override}
use Rattle.naga_oil_form.specs.Links.{Links, trail, has, reaches}
use Rattle.naga_oil_ir.specs.ModuleValue.{ModuleValue, SpecialValue}
use Rattle.naga_oil_ir.specs.Parts.{Parts}
use Rattle.naga_oil_ir.specs.Rows.{Row, parts_row}
use Rattle.naga_oil_ir.specs.declared.names.ItemPlace.{ItemPlace}
use Rattle.naga_oil_ir.specs.declared.names.ItemPlace.TheVariants.{TypeItem, ConstantItem, OverrideItem, GlobalItem, ExpressionItem}
use Rattle.naga_oil_ir.specs.declared.span.Span.{Span}
use Rattle.naga_oil_form.specs.FormParts.{passes_if_there, are_earlier, operands_of}

-- whether an item is there
abbrev pub is_there : ModuleValue → ItemPlace → Bool
is_there m (TypeItem k) = nat_lt k (length m.types)
is_there m (ConstantItem k) = nat_lt k (length m.constants)
is_there m (OverrideItem k) = nat_lt k (length m.overrides)
is_there m (GlobalItem k) = nat_lt k (length m.global_variables)
is_there m (ExpressionItem k) = nat_lt k (length m.global_expressions)

-- whether all that an item names is there
abbrev pub names_there : ModuleValue → Row → Bool
names_there m r = list_all (passes_if_there (is_there m)) r.names

-- of each type the types that it names
abbrev pub links_of : List (Row × Span) → Links
links_of ts = map (λ e. types_named e.0) ts

-- of each type whether its size is an override's
abbrev pub pending_of : List (Row × Span) → List Bool
pending_of ts = map (λ e. list_any is_override e.0.names) ts

-- whether a type is, or reaches, one whose size is an override's
abbrev pub is_size_pending : ModuleValue → ℕ → Bool
is_size_pending m k = reaches (links_of m.types) (pending_of m.types) k

-- whether all that an item names is there, and none of it is such a type
abbrev pub names_well : ModuleValue → Row → Bool
names_well m r = names_there m r && not (list_any (is_size_pending m) (types_named r))

-- whether what the items name is there, and constants, overrides and global expressions name no type whose size is pending
abbrev pub are_names_formed : ModuleValue → Bool
are_names_formed m =
    list_all (λ e. names_there m e.0) m.types && list_all (λ e. names_well m e.0) m.constants && list_all (λ e. names_well m e.0) m.overrides
    && list_all (λ e. names_there m e.0) m.global_variables && list_all (λ e. names_well m (parts_row e.0)) m.global_expressions

-- the expression that is named
abbrev pub expression_at : Option ItemPlace → Option ℕ
expression_at None = None
expression_at (Some (TypeItem k)) = None
expression_at (Some (ConstantItem k)) = None
expression_at (Some (OverrideItem k)) = None
expression_at (Some (GlobalItem k)) = None
expression_at (Some (ExpressionItem k)) = Some k

-- the initialiser among what an item names: its type, then the initialiser
abbrev pub second_named : List (Option ItemPlace) → Option ℕ
second_named [] = None
second_named (t ∷ []) = None
second_named (t ∷ i ∷ rest) = expression_at i

-- the initialiser of a row that is found
abbrev pub row_initialiser : Option (Row × Span) → Option ℕ
row_initialiser None = None
row_initialiser (Some e) = second_named e.0.names

-- the initialiser of the constant or override that is named
abbrev pub initialiser_of : ModuleValue → Option ItemPlace → Option ℕ
initialiser_of m None = None
initialiser_of m (Some (TypeItem k)) = None
initialiser_of m (Some (ConstantItem k)) = row_initialiser (slice_get m.constants k)
initialiser_of m (Some (OverrideItem k)) = row_initialiser (slice_get m.overrides k)
initialiser_of m (Some (GlobalItem k)) = None
initialiser_of m (Some (ExpressionItem k)) = None

-- whether an expression at a place stands after the initialisers of what it names
abbrev pub stands_after : ModuleValue → ℕ × (Parts × Span) → Bool
stands_after m e = list_all (λ o. passes_if_there (λ i. nat_lt i e.0) (initialiser_of m o)) (parts_row e.1.0).names

-- whether an expression is no global, local, argument or result
abbrev pub is_global_kind : ℕ → Bool
is_global_kind k = nat_lt k 4 || nat_lt 12 k

-- whether global expressions are of their kinds, and stand after what they need
abbrev pub are_expressions_formed : ModuleValue → Bool
are_expressions_formed m =
    are_earlier (operands_of m.global_expressions) && list_all (stands_after m) (enumerate_from 0 m.global_expressions) && list_all (λ e. is_global_kind e.0.kind) m.global_expressions

-- the special types, the three named ones first
abbrev pub specials_of : SpecialValue → List ℕ
specials_of s = option_to_list s.ray_desc ++ option_to_list s.ray_intersection ++ option_to_list s.ray_vertex_return ++ map (λ e. e.1) s.predeclared_types

-- whether a type has no name
abbrev pub has_no_name : Option (Row × Span) → Bool
has_no_name None = false
has_no_name (Some e) = is_none e.0.label.name

-- whether a type is unnamed or special
abbrev pub is_unnamed_or_special : ModuleValue → ℕ → Bool
is_unnamed_or_special m k = has_no_name (slice_get m.types k) || has (specials_of m.special_types) k

-- whether no element is equal to one after it
abbrev pub are_distinct : {A : Type 0} → (A → A → Bool) → List A → Bool
are_distinct e [] = true
are_distinct e (x ∷ xs) = list_all (λ y. not (e x y)) xs && are_distinct e xs

-- whether special types are there, distinct, of known sizes, and reach only unnamed or special types
abbrev pub are_specials_formed : ModuleValue → List ℕ → Bool
are_specials_formed m ks =
    list_all (λ k. nat_lt k (length m.types)) ks && are_distinct nat_eq ks && list_all (λ k. not (is_size_pending m k)) ks
    && list_all (λ k. list_all (is_unnamed_or_special m) (trail (links_of m.types) k)) ks
