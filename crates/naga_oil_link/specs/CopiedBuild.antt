-- The module that a build holds, and its header: copies of the parsed module, as values.
use Rattle.std.specs.Prelude.{◌≡◌, ℕ, Bool, true, false, ◌++◌, List, [], All, fold, filter, option_map, nat_eq, nat_lt, length, Some, None, if◌then◌else◌}
use Rattle.std.specs.List.{ends_with, list_all}
use Rattle.naga_oil_ir.specs.ModuleValue.{ModuleValue, FunctionValue}
use Rattle.naga_oil_ir.specs.Rows.{Text}
use Rattle.naga_oil_ir.specs.declared.names.ItemPlace.{ItemPlace}
use Rattle.naga_oil_ir.specs.declared.names.ItemPlace.TheVariants.{TypeItem, ConstantItem, OverrideItem, GlobalItem, ExpressionItem}
use Rattle.naga_oil_ir.specs.declared.span.Span.{Span}
use Rattle.naga_oil_words.specs.Texts.{is_among}
use Rattle.naga_oil_derive.specs.CopiedEntry.{make_module}
use Rattle.naga_oil_derive.specs.Derived.{Derived, nothing}
use Rattle.naga_oil_derive.specs.DerivedValue.{import_item, rename_type, import_function, set_source, place_by}
use Rattle.naga_oil_derive.specs.World.{special_entries}
use Rattle.naga_oil_link.specs.BuiltModule.{BuiltModule}
use Rattle.naga_oil_link.specs.CopySources.{stub_of}
use Rattle.naga_oil_link.specs.OwnPlaces.{OwnPlaces, own_of, nothing_own, is_own, with_own}
use Rattle.naga_oil_link.specs.declared.copied.OwnCopies.{OwnCopies as CodeCopies}
use Rattle.naga_oil_link.specs.Places.{name_at, places_of}

-- ---- items

-- copies of a source, and the places of the copies of its own items
pub record OwnCopies : Type 0 where
  pub derived : Derived
  pub own : OwnPlaces

-- the place of an item's copy
abbrev pub went_to : Derived → ItemPlace → ItemPlace
went_to d (TypeItem k) = TypeItem (place_by (λ p. p.types) d.source k)
went_to d (ConstantItem k) = ConstantItem (place_by (λ p. p.constants) d.source k)
went_to d (OverrideItem k) = OverrideItem (place_by (λ p. p.overrides) d.source k)
went_to d (GlobalItem k) = GlobalItem (place_by (λ p. p.global_variables) d.source k)
went_to d (ExpressionItem k) = ExpressionItem (place_by (λ p. p.global_expressions) d.source k)

-- the copies, as the code has them
abbrev pub copies_of : CodeCopies → OwnCopies
copies_of c = record { derived = c.derived; own = own_of c.own }

-- an own item was copied
abbrev pub with_copy : OwnPlaces → ItemPlace → Derived → OwnCopies
with_copy own p d = record { derived = d; own = with_own own (went_to d p) }

-- the name of an own type with the decoration
abbrev pub decorated_type : ModuleValue → (decoration : List ℕ) → ItemPlace → Text
decorated_type m d p = option_map (λ n. n ++ d) (name_at m p)

-- an own item is copied, a type under its decorated name
abbrev pub import_own : ModuleValue → (decoration : List ℕ) → Derived → ItemPlace → Derived
import_own m n d (TypeItem k) = rename_type d k (option_map Some (decorated_type m n (TypeItem k)))
import_own m n d (ConstantItem k) = import_item d (ConstantItem k)
import_own m n d (OverrideItem k) = import_item d (OverrideItem k)
import_own m n d (GlobalItem k) = import_item d (GlobalItem k)
import_own m n d (ExpressionItem k) = import_item d (ExpressionItem k)

abbrev pub copy_own : ModuleValue → (decoration : List ℕ) → OwnCopies → ItemPlace → OwnCopies
copy_own m n c p = with_copy c.own p (import_own m n c.derived p)

abbrev pub is_type : ItemPlace → Bool
is_type (TypeItem k) = true
is_type (ConstantItem k) = false
is_type (OverrideItem k) = false
is_type (GlobalItem k) = false
is_type (ExpressionItem k) = false

-- an item that isn't own is copied if it is a type and all types are copied
abbrev pub copy_other : (all_types : Bool) → OwnCopies → ItemPlace → OwnCopies
copy_other true c p = if is_type p then record c { derived = import_item c.derived p } else c
copy_other false c p = c

abbrev pub copy_at : (all_types : Bool) → ModuleValue → OwnPlaces → (decoration : List ℕ) → OwnCopies → ItemPlace → OwnCopies
copy_at all_types m own d c p = if is_own own p then copy_own m d c p else copy_other all_types c p

-- nothing is copied yet but the special types of the source
abbrev pub nothing_copied : ModuleValue → OwnCopies
nothing_copied m = record { derived = set_source nothing m 0; own = nothing_own }

-- the own items of a module in order, and all its types if required
unfoldable pub copy_places : (all_types : Bool) → ModuleValue → OwnPlaces → (decoration : List ℕ) → OwnCopies
copy_places all_types m own d = fold (copy_at all_types m own d) (nothing_copied m) (places_of m)

-- ---- functions

-- all of these names end with this text
abbrev pub EndWith : List (List ℕ) → List ℕ → Type 0
EndWith names ending = All (λ n. ends_with nat_eq n ending ≡ true) names

-- the decoration if all of these names end with it, or else the empty text
abbrev pub ending_of : List (List ℕ) → (decoration : List ℕ) → List ℕ
ending_of names d = if list_all (λ n. ends_with nat_eq n d) names then d else []

abbrev pub has_name_among : List (List ℕ) → Text → Bool
has_name_among names None = false
has_name_among names (Some n) = is_among names n

-- all of these names are among the others
abbrev pub AreAmong : (names others : List (List ℕ)) → Type 0
AreAmong names others = All (λ n. is_among names n ≡ true) others

-- the functions with these names
abbrev pub functions_among : (names : List (List ℕ)) → List (FunctionValue × Span) → List (FunctionValue × Span)
functions_among names fs = filter (λ f. has_name_among names f.0.name) fs

-- a function is copied with the functions that it calls
abbrev pub with_function : Derived → FunctionValue × Span → Derived
with_function d f = import_function d f.0 f.1

-- a function is copied with the functions that it calls, if its name is among these
abbrev pub copy_with_body : (names : List (List ℕ)) → Derived → FunctionValue × Span → Derived
copy_with_body names d f = if has_name_among names f.0.name then with_function d f else d

-- a function is copied without its body
abbrev pub with_stub : Derived → FunctionValue × Span → Derived
with_stub d f = import_function d (stub_of f.0) f.1

-- a function is copied without its body, if its name is among these
abbrev pub copy_stub : (names : List (List ℕ)) → Derived → FunctionValue × Span → Derived
copy_stub names d f = if has_name_among names f.0.name then with_stub d f else d

-- copies with these functions too, and with these functions without their bodies
abbrev pub with_functions : List (FunctionValue × Span) → OwnCopies → OwnCopies
with_functions fs c = record c { derived = fold with_function c.derived fs }

abbrev pub with_stubs : List (FunctionValue × Span) → OwnCopies → OwnCopies
with_stubs fs c = record c { derived = fold with_stub c.derived fs }

-- ---- the module and its header

-- all types, the own items, and then the functions with these names and those that they call
abbrev pub copy_whole : ModuleValue → OwnPlaces → (decoration : List ℕ) → (functions : List (List ℕ)) → OwnCopies
copy_whole m own d functions = let c = copy_places true m own d in record c { derived = fold (copy_with_body functions) c.derived m.functions }

-- the own items, and then the functions with these names, without their bodies
abbrev pub copy_header : ModuleValue → OwnPlaces → (decoration : List ℕ) → (functions : List (List ℕ)) → OwnCopies
copy_header m own d functions = let c = copy_places false m own d in record c { derived = fold (copy_stub functions) c.derived m.functions }

-- a build that holds a module, and a header
abbrev pub with_header : BuiltModule → OwnPlaces → ModuleValue → BuiltModule
with_header b own m = record b { header = m; own_in_header = own }

abbrev pub with_value : BuiltModule → OwnPlaces → ModuleValue → BuiltModule
with_value b own m = record b { value = m; own_in_value = own }

-- a build with these copies as its header
abbrev pub put_header : OwnCopies → BuiltModule → BuiltModule
put_header c b = with_header b c.own c.derived.target

-- a build with these copies as its module, with the entry points of their source
abbrev pub put_whole : OwnCopies → BuiltModule → BuiltModule
put_whole c b = with_value b c.own (make_module c.derived)

abbrev pub have_special : OwnCopies → Bool
have_special c = nat_lt 0 (length (special_entries c.derived.target.special_types))

-- a build that holds copies of a module with these own items, and with the module's entry points
unfoldable pub copy_build : ModuleValue → OwnPlaces → BuiltModule → BuiltModule
copy_build m own b = put_whole (copy_whole m own b.decoration b.functions) (put_header (copy_header m own b.decoration b.functions) b)

-- whether the copy of a module has special types
unfoldable pub copies_special : ModuleValue → OwnPlaces → (decoration : List ℕ) → (functions : List (List ℕ)) → Bool
copies_special m own d functions = have_special (copy_whole m own d functions)
