-- The names of a module's items.
use Rattle.std.specs.Prelude.{◌≡◌, ℕ, ◌&&◌, ◌||◌, not, if◌then◌else◌, Bool, List, [], ◌∷◌, ◌++◌, map, Option, Some, None, option_map, slice_get, String, Vec, string_bytes, Result, Ok, Err}
use Rattle.std.specs.declared.alloc.Global.{Global}
use Rattle.naga_oil_ir.specs.Rows.{Row, type_row, constant_row, override_row, global_row}
use Rattle.naga_oil_ir.specs.ModuleValue.{ModuleValue, FunctionValue, EntryValue, function_value, entry_value}
use Rattle.naga_oil_ir.specs.Spans.{undefined}
use Rattle.naga_oil_ir.specs.declared.module.EntryPoint.{EntryPoint}
use Rattle.naga_oil_ir.specs.declared.module.Function.{Function}
use Rattle.naga_oil_ir.specs.declared.span.Span.{Span}
use Rattle.naga_oil_ir.specs.declared.types.Constant.{Constant}
use Rattle.naga_oil_ir.specs.declared.types.GlobalVariable.{GlobalVariable}
use Rattle.naga_oil_ir.specs.declared.types.Override.{Override}
use Rattle.naga_oil_ir.specs.declared.types.Type.{«Type» as TypeOfShader}
use Rattle.naga_oil_words.specs.Marks.{has_module_mark}
use Rattle.yettuvam_wgsl_names.specs.Table.{Name}
use Rattle.yettuvam_wgsl_written.specs.Outcomes.{◌>>=◌, Refuses}
use Rattle.yettuvam_wgsl_written.specs.declared.refusal.Refusal.{Refusal}
use Rattle.yettuvam_wgsl_written_names.specs.Spelled.{is_name}
use Rattle.yettuvam_wgsl_written_names.specs.Taken.{Taken, taken_of, none_taken, has, fresh}
use Rattle.yettuvam_wgsl_written_names.specs.declared.items.ItemNames.{ItemNames as NamesByCode}
use Rattle.yettuvam_wgsl_written_names.specs.declared.taken.Taken.{Taken as TakenByCode}
use denote.Ref.{Bor}

-- ---- what the code holds

abbrev pub texts : List (Option (String Global)) → List (Option Name)
texts ns = map (λ n. option_map string_bytes n) ns

-- the names of a list of items, if they have names, and all names that are taken
pub record Naming : Type 0 where
  pub names : List (Option Name)
  pub taken : Taken

abbrev pub naming_of : TakenByCode → List (Option (String Global)) → Naming
naming_of t ns = record { names = texts ns; taken = taken_of t }

-- a call makes this of what was there, or refuses
abbrev pub Becomes : {S : Type 0} → Result S Span → Result (Unit {0}) Refusal → S → Type 0
Becomes o (Ok u) new = o ≡ Ok new
Becomes o (Err e) new = Refuses e o

-- ---- names

abbrev pub name_by : Option (Option Name) → Option Name
name_by None = None
name_by (Some n) = n

-- the name of the item at a place, if it has one
abbrev pub name_at : List (Option Name) → ℕ → Option Name
name_at names place = name_by (slice_get names place)

-- ---- items

-- no name has this form, or another item has the same decorated name
abbrev pub is_refused : Taken → Name → Bool
is_refused t n = not (is_name n) || (has t n && has_module_mark n)

abbrev pub with_name : List (Option Name) → Name → Taken → Naming
with_name names n t = record { names = names ++ Some n ∷ []; taken = t }

-- the name of an item, after those of others
unfoldable pub add_name : Naming → Option Name × Span → Result Naming Span
add_name s (None, span) = Ok record { names = s.names ++ None ∷ []; taken = s.taken }
add_name s (Some n, span) =
    if is_refused s.taken n then Err span
    else Ok (with_name s.names (fresh s.taken n).name (fresh s.taken n).taken)

unfoldable pub each : Naming → List (Option Name × Span) → Result Naming Span
each s [] = Ok s
each s (x ∷ xs) = add_name s x >>= (λ t. each t xs)

-- the names of a list of items
abbrev pub all_names : Taken → List (Option Name × Span) → Result Naming Span
all_names t xs = each (record { names = []; taken = t }) xs

-- ---- the names that items come with

abbrev pub labels : List (Row × Span) → List (Option Name × Span)
labels rs = map (λ r. (r.0.label.name, r.1)) rs

abbrev pub labels_of_functions : List (FunctionValue × Span) → List (Option Name × Span)
labels_of_functions fs = map (λ f. (f.0.name, f.1)) fs

abbrev pub labels_of_entries : List EntryValue → List (Option Name × Span)
labels_of_entries es = map (λ e. (Some e.name, undefined)) es

abbrev pub type_labels : List (TypeOfShader × Span) → List (Option Name × Span)
type_labels xs = labels (map (λ x. (type_row x.0, x.1)) xs)

abbrev pub constant_labels : List (Constant × Span) → List (Option Name × Span)
constant_labels xs = labels (map (λ x. (constant_row x.0, x.1)) xs)

abbrev pub override_labels : List (Override × Span) → List (Option Name × Span)
override_labels xs = labels (map (λ x. (override_row x.0, x.1)) xs)

abbrev pub global_labels : List (GlobalVariable × Span) → List (Option Name × Span)
global_labels xs = labels (map (λ x. (global_row x.0, x.1)) xs)

abbrev pub function_labels : List (Function × Span) → List (Option Name × Span)
function_labels xs = labels_of_functions (map (λ x. (function_value x.0, x.1)) xs)

abbrev pub entry_labels : List EntryPoint → List (Option Name × Span)
entry_labels xs = labels_of_entries (map entry_value xs)

-- ---- a module

pub record ItemNames : Type 0 where
  pub types : List (Option Name)
  pub constants : List (Option Name)
  pub overrides : List (Option Name)
  pub globals : List (Option Name)
  pub functions : List (Option Name)
  pub entry_points : List (Option Name)

abbrev pub names_of : NamesByCode → ItemNames
names_of n = record { types = texts n.types.items; constants = texts n.constants.items; overrides = texts n.overrides.items; globals = texts n.globals.items; functions = texts n.functions.items; entry_points = texts n.entry_points.items }

-- the names of two lists of items
pub record Two : Type 0 where
  pub first : List (Option Name)
  pub second : List (Option Name)
  pub taken : Taken

unfoldable pub two_names : Taken → (xs ys : List (Option Name × Span)) → Result Two Span
two_names t xs ys =
    all_names t xs >>= (λ a. all_names a.taken ys >>= (λ b. Ok (record { first = a.names; second = b.names; taken = b.taken })))

-- the names of four lists of items
pub record Four : Type 0 where
  pub first : List (Option Name)
  pub second : List (Option Name)
  pub third : List (Option Name)
  pub fourth : List (Option Name)
  pub taken : Taken

abbrev pub four : Two → Two → Four
four a b = record { first = a.first; second = a.second; third = b.first; fourth = b.second; taken = b.taken }

unfoldable pub four_names : Taken → (ws xs ys zs : List (Option Name × Span)) → Result Four Span
four_names t ws xs ys zs = two_names t ws xs >>= (λ a. two_names a.taken ys zs >>= (λ b. Ok (four a b)))

-- the names of constants, overrides, global variables and functions
abbrev pub other_names : Taken → ModuleValue → Result Four Span
other_names t m = four_names t (labels m.constants) (labels m.overrides) (labels m.global_variables) (labels_of_functions m.functions)

abbrev pub all_of : Two → Four → ItemNames × Taken
all_of a b = (record { types = a.second; constants = b.first; overrides = b.second; globals = b.third; functions = b.fourth; entry_points = a.first }, b.taken)

-- the names of a module's items, in the order in which they are chosen, and all names that are taken
unfoldable pub item_names : ModuleValue → Result (ItemNames × Taken) Span
item_names m =
    two_names none_taken (labels_of_entries m.entry_points) (labels m.types)
    >>= (λ a. other_names a.taken m >>= (λ b. Ok (all_of a b)))

-- the result is these names, or a refusal
abbrev pub Gives : Result (ItemNames × Taken) Span → Result (NamesByCode × TakenByCode) Refusal → Type 0
Gives o (Ok r) = o ≡ Ok (names_of r.0, taken_of r.1)
Gives o (Err e) = Refuses e o

-- names as the code holds them
abbrev pub NamesInCode : Type 0
NamesInCode = Vec (Option (String Global)) Global

abbrev pub two_of : NamesInCode → NamesInCode → Taken → Two
two_of a b t = record { first = texts a.items; second = texts b.items; taken = t }

abbrev pub GivesTwo : Result Two Span → Result (NamesInCode × NamesInCode) Refusal → Taken → Type 0
GivesTwo o (Ok r) t = o ≡ Ok (two_of r.0 r.1 t)
GivesTwo o (Err e) t = Refuses e o

abbrev pub four_of : NamesInCode × NamesInCode → NamesInCode × NamesInCode → Taken → Four
four_of a b t = record { first = texts a.0.items; second = texts a.1.items; third = texts b.0.items; fourth = texts b.1.items; taken = t }

abbrev pub GivesFour : Result Four Span → Result ((NamesInCode × NamesInCode) × (NamesInCode × NamesInCode)) Refusal → Taken → Type 0
GivesFour o (Ok r) t = o ≡ Ok (four_of r.0 r.1 t)
GivesFour o (Err e) t = Refuses e o
