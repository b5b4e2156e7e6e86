-- Worked rows: what a derived module keeps in each step. A step that loses a known name, a source, a mapped item or a copy is refused.
use Rattle.std.proofs.Common.{◌≡◌, ℕ, List, [], ◌∷◌, false, true, Option, Some, None, refl, sym, ap, ◌∙◌, arith}
use Rattle.std.specs.Prelude.{codes, bytes_eq}
use Rattle.std.specs.Option.{option_eq}
use Rattle.naga_oil_ir.specs.ModuleValue.{ModuleValue, FunctionValue, no_items}
use Rattle.naga_oil_ir.specs.Rows.{Row, Text}
use Rattle.naga_oil_ir.specs.Spans.{undefined}
use Rattle.naga_oil_ir.specs.declared.names.ItemPlace.{ItemPlace}
use Rattle.naga_oil_ir.specs.declared.names.ItemPlace.TheVariants.{TypeItem}
use Rattle.naga_oil_ir.specs.declared.span.Span.{Span}
use Rattle.naga_oil_walk.specs.declared.walk.Request.TheVariants.{Call}
use Rattle.naga_oil_derive.specs.AnsweredLaw.{CanAnswer, AnswersOnly, ImportsFunction, AddsOnly}
use Rattle.naga_oil_derive.specs.Copied.{CopyState}
use Rattle.naga_oil_derive.specs.CopiedLaw.{GrowsBy, HasCopyNow, PutsOne}
use Rattle.naga_oil_derive.specs.Derived.{Source, Derived, nothing, as_read}
use Rattle.naga_oil_derive.specs.DerivedFunctions.{IsLocalized}
use Rattle.naga_oil_derive.specs.DerivedLaw.{ImportsOnly, RenamesOnly, SetsOnly, ReadsIn}
use Rattle.naga_oil_derive.specs.Tree.{World, Kept, Missing, Item, End, tree, reading}
use Rattle.naga_oil_derive.specs.World.{ItemMap, goes, named_world, world}
use Rattle.naga_oil_form_laws.specs.TurnForm.{IsKnownIn, KeepsFormed}
use Rattle.naga_oil_redirect.specs.PutInOrderRows.{empty}
use Rattle.naga_oil_copy_laws.specs.HeldCopies.{EachCopiesOne}
use Rattle.naga_oil_faithful_laws.specs.SmallMake.{number}

-- ---- names

abbrev f : FunctionValue
f = empty (codes "f")

abbrev g : FunctionValue
g = empty (codes "g")

-- a derived module that knows f
abbrev knowing : Derived
knowing = record nothing { function_names = (codes "f", 0) ∷ [] }

known : IsKnownIn knowing (Some (codes "f"))
known = (0, refl)

unknown_is_refused : IsKnownIn knowing (Some (codes "g")) → ⊥
unknown_is_refused h = let e : None ≡ Some h.0 = h.1 in absurd cc

module _ (first : Kept) where
  -- each step into the module that knows nothing forgets f
  forgetting_answer_is_refused : AnswersOnly first knowing nothing [] → ⊥
  forgetting_answer_is_refused h = let e : false ≡ true = h.keeps.names (Some (codes "f")) refl in absurd cc

  forgetting_addition_is_refused : AddsOnly first knowing nothing → ⊥
  forgetting_addition_is_refused h = let e : false ≡ true = h.keeps.names (Some (codes "f")) refl in absurd cc

  forgetting_function_is_refused : (v : FunctionValue) (span : Span) → ImportsFunction first knowing nothing v span → ⊥
  forgetting_function_is_refused v span h = let e : false ≡ true = h.keeps.names (Some (codes "f")) refl in absurd cc

  forgetting_item_is_refused : (p : ItemPlace) → ImportsOnly first knowing nothing p → ⊥
  forgetting_item_is_refused p h = let e : [] ≡ knowing.function_names = h.keeps.names in absurd cc

  forgetting_type_is_refused : (k : ℕ) (name : Option Text) (q : ℕ) → RenamesOnly first knowing nothing k name q → ⊥
  forgetting_type_is_refused k name q h = let e : [] ≡ knowing.function_names = h.keeps.names in absurd cc

  forgetting_form_is_refused : (m : ModuleValue) → KeepsFormed first m knowing nothing → ⊥
  forgetting_form_is_refused m h = let e : [] ≡ knowing.function_names = h.names in absurd cc

-- ---- sources

-- a module with one type, as a source of which its type is mapped, or isn't
abbrev one_type : ModuleValue
one_type = record no_items { types = number ∷ [] }

abbrev places : Option ℕ → ItemMap
places q = record { types = q ∷ []; constants = []; overrides = []; global_variables = []; global_expressions = [] }

abbrev source : Source
source = record { value = one_type; offset = 0; places = places None }

abbrev over : ModuleValue → Derived
over t = record { source = Some source; target = t; function_names = [] }

no_source_is_refused : (m : ModuleValue) (shift : ℕ) (d : Derived) → SetsOnly m shift d nothing → ⊥
no_source_is_refused m shift d h = let e : false ≡ true = h.set.0 in absurd cc

no_source_answers_nothing : CanAnswer nothing (Call 0 ∷ []) → ⊥
no_source_answers_nothing h = let e : false ≡ true = h.0 in absurd cc

-- the source's type has no copy in the empty module
abbrev nowhere : Kept
nowhere = λ p. None

reads_as_missing : tree 1 (world no_items) (TypeItem 0) ≡ Missing
unfolding tree world
reads_as_missing = refl

reads_as_number : reading 1 (as_read source no_items) (world no_items) nowhere (TypeItem 0) ≡ Item number.0.label End
unfolding tree reading world named_world goes
reads_as_number = refl

missing_type_is_refused : ReadsIn nowhere (over no_items) source (TypeItem 0) (TypeItem 0) → ⊥
missing_type_is_refused h = let e : Missing ≡ Item number.0.label End = sym reads_as_missing ∙ h.at_first 1 ∙ reads_as_number in absurd cc

-- ---- copies

abbrev state : Option ℕ → CopyState
state q = record { places = places q; target = no_items }

is_mapped : goes (places (Some 0)) (TypeItem 0) ≡ Some (TypeItem 0)
unfolding goes
is_mapped = refl

is_unmapped : (q : ItemPlace) → goes (places None) (TypeItem 0) ≡ Some q → ⊥
unfolding goes
is_unmapped q e = absurd cc

module _ (m : ModuleValue) (kept : Kept) (w : World) where
  lost_place_is_refused : (shift : ℕ) (ps : List ItemPlace) → GrowsBy m shift kept w (state (Some 0)) (state None) ps → ⊥
  lost_place_is_refused shift ps h = is_unmapped (TypeItem 0) (h.went (TypeItem 0) (TypeItem 0) is_mapped)

  no_copy_is_refused : HasCopyNow kept w (state None) (TypeItem 0) → ⊥
  no_copy_is_refused h = is_unmapped h.0 h.1

  nothing_put_is_refused : (s : CopyState) (r : Row) (span : Option Span) → PutsOne m s (state None) (TypeItem 0) r span → ⊥
  nothing_put_is_refused s r span h = is_unmapped h.place h.puts.at

-- ---- functions

g_is_not_f : g.name ≡ f.name → ⊥
g_is_not_f e = let o : false ≡ true = ap (λ n. option_eq bytes_eq n f.name) e in absurd cc

another_name_is_refused : IsLocalized (over no_items) f g → ⊥
another_name_is_refused h = g_is_not_f h.name

-- a function of the module that copies none of the source's
copy_of_none_is_refused : EachCopiesOne [] 0 (over (record no_items { functions = (f, undefined) ∷ [] })) → ⊥
copy_of_none_is_refused h = let c = h 0 (f, undefined) (omega arith) refl in let e = c.among.1 in absurd cc
