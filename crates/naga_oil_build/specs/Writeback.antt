-- What is lost when a header is written and parsed again.
use Rattle.std.specs.Prelude.{ℕ, Bool, not, ◌==◌, if◌then◌else◌, Option, Some, None, option_map, unwrap_or, Result, Ok, Err, List, [], ◌∷◌, ◌++◌, map, take, bytes_eq, nat_eq, filter, find, zip}
use Rattle.std.specs.List.{flat_map, list_any, list_all, enumerate_from}
use Rattle.std.specs.Option.{option_eq, option_or, is_some}
use Rattle.naga_oil_ir.specs.Backend.{FrontEnd}
use Rattle.naga_oil_ir.specs.ModuleValue.{ModuleValue, FunctionValue}
use Rattle.naga_oil_ir.specs.Rows.{Row, Member, Kind, TypeKind, ConstantKind, OverrideKind, GlobalKind, ExpressionKind, Text}
use Rattle.naga_oil_ir.specs.declared.backend.Capabilities.{Capabilities}
use Rattle.naga_oil_ir.specs.declared.language.ShaderLanguage.TheVariants.{Wgsl, Glsl}
use Rattle.naga_oil_ir.specs.declared.span.Span.{Span}
use Rattle.naga_oil_conditions.specs.Fault.{Fault, invalid_identifier}
use Rattle.naga_oil_words.specs.Texts.{is_among}
use Rattle.naga_oil_words.specs.ResultSteps.{◌>>=◌}
use Rattle.naga_oil_build.specs.Built.{header_text, parsed_text}
use Rattle.naga_oil_link.specs.BuiltModule.{BuiltModule}
use Rattle.naga_oil_link.specs.OwnPlaces.{OwnPlaces}

-- an item with a name, with its span and, for a struct, its members
pub record NamedItem : Type 0 where
  pub name : List ℕ
  pub members : Option (List Member)
  pub span : Span

abbrev pub named_item : Text → Option (List Member) → Span → List NamedItem
named_item None members span = []
named_item (Some name) members span = record { name = name; members = members; span = span } ∷ []

abbrev pub members_of_kind : Kind → List Member → Option (List Member)
members_of_kind (TypeKind variant) ms = if variant == 10 then Some ms else None
members_of_kind ConstantKind ms = None
members_of_kind OverrideKind ms = None
members_of_kind GlobalKind ms = None
members_of_kind (ExpressionKind variant named) ms = None

-- the members of a struct
abbrev pub struct_members : Row → Option (List Member)
struct_members r = members_of_kind r.label.kind r.label.members

-- the items that have names
abbrev pub named_items : List (Row × Span) → List NamedItem
named_items items = flat_map (λ e. named_item e.0.label.name (struct_members e.0) e.1) items

-- the items at these places
abbrev pub items_at : {X : Type 0} → List ℕ → List X → List X
items_at places xs = map (λ e. e.1) (filter (λ e. list_any (nat_eq e.0) places) (enumerate_from 0 xs))

-- the functions that have names
abbrev pub named_functions : List (FunctionValue × Span) → List NamedItem
named_functions fs = flat_map (λ e. named_item e.0.name None e.1) fs

-- the item with a name, the last if there are several
abbrev pub last_named : List NamedItem → List ℕ → Option NamedItem
last_named [] name = None
last_named (i ∷ more) name = option_or (last_named more name) (if bytes_eq i.name name then Some i else None)

-- a member has another name on the other side
abbrev pub has_other_name : Member × Member → Bool
has_other_name (our, their) = not (option_eq bytes_eq our.name their.name)

-- the name of the first member whose name differs on the other side; it is empty if the member has none
abbrev pub lost_member : (ours theirs : List Member) → Option (List ℕ)
lost_member ours theirs = option_map (λ p. unwrap_or p.0.name []) (find has_other_name (zip ours theirs))

abbrev pub lost_in_struct : (name : List ℕ) → (ours theirs : Option (List Member)) → Option (List ℕ)
lost_in_struct name None theirs = None
lost_in_struct name (Some ours) None = Some name
lost_in_struct name (Some ours) (Some theirs) = lost_member ours theirs

-- what is lost of an item: its name, unless an item has that name, as a struct if this is one; or else a member
abbrev pub lost_of : NamedItem → (back : Option NamedItem) → Option (List ℕ)
lost_of i None = Some i.name
lost_of i (Some theirs) = lost_in_struct i.name i.members theirs.members

-- what is lost of an item, with its span, if the name to look for is owned
abbrev pub lost_by : (owned : List (List ℕ)) → (by_name : List ℕ) → (back : List ℕ → Option NamedItem) → NamedItem → Option (List ℕ × Span)
lost_by owned by_name back i = if is_among owned by_name then option_map (λ name. (name, i.span)) (lost_of i (back by_name)) else None

-- what is lost of an item that survives under its decorated name
abbrev pub lost_at : (owned : List (List ℕ)) → (decoration : List ℕ) → (back : List ℕ → Option NamedItem) → NamedItem → Option (List ℕ × Span)
lost_at owned decoration back i = lost_by owned (i.name ++ decoration) back i

-- the first of these items that is lost
abbrev pub lost_among : (owned : List (List ℕ)) → (decoration : List ℕ) → (back : List ℕ → Option NamedItem) → List NamedItem → Option (List ℕ × Span)
lost_among owned decoration back [] = None
lost_among owned decoration back (i ∷ more) = option_or (lost_at owned decoration back i) (lost_among owned decoration back more)

-- whether there is an item of each of these names
abbrev pub have_come_back : (back : List ℕ → Option NamedItem) → List (List ℕ) → Bool
have_come_back back names = list_all (λ n. is_some (back n)) names

-- the first lost item of what a module owns: types, which get the decoration as they are copied, then constants, globals, and the
-- first few functions
unfoldable pub lost : ModuleValue → OwnPlaces → (back : ModuleValue) → BuiltModule → (functions : ℕ) → Option (List ℕ × Span)
lost m own back b functions =
    option_or (lost_among b.types b.decoration (last_named (named_items back.types)) (named_items (items_at own.types m.types)))
    (option_or (lost_among b.constants [] (last_named (named_items back.constants)) (named_items (items_at own.constants m.constants)))
    (option_or (lost_among b.globals [] (last_named (named_items back.global_variables)) (named_items (items_at own.globals m.global_variables)))
    (lost_among b.functions [] (last_named (named_functions back.functions)) (named_functions (take functions m.functions)))))

abbrev pub unless_lost : Option (List ℕ × Span) → Result (Unit {0}) Fault
unless_lost None = Ok tt
unless_lost (Some l) = Err (invalid_identifier l.0 l.1)

-- whether what a module owns keeps its names when its header is written in WGSL and parsed again; the header must be writable in
-- GLSL too
unfoldable pub came_back : FrontEnd → Capabilities → ModuleValue → OwnPlaces → BuiltModule → (functions : ℕ) → Result (Unit {0}) Fault
came_back front capabilities m own b functions = do
  text ← header_text front capabilities Wgsl b.header
  back ← parsed_text front Wgsl text
  done ← unless_lost (lost m own back b functions)
  written ← header_text front capabilities Glsl b.header
  Ok done
