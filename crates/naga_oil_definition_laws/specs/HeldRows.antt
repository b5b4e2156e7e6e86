-- Worked rows: what builds hold and links make. A module that lacks an item, a function or an entry point, or has one twice, is refused.
use Rattle.std.proofs.Common.{◌≡◌, ℕ, zero, suc, List, [], ◌∷◌, false, true, Some, slice_get, refl, ap, sym, subst, ◌∙◌, arith}
use Rattle.std.proofs.lemmas.Option.{same_Some}
use Rattle.std.specs.Prelude.{codes, bytes_eq}
use Rattle.std.specs.List.{AllZip}
use Rattle.std.specs.Option.{option_eq}
use Rattle.naga_oil_ir.specs.ModuleValue.{ModuleValue, FunctionValue, no_items}
use Rattle.naga_oil_ir.specs.Rows.{Text}
use Rattle.naga_oil_ir.specs.Spans.{undefined}
use Rattle.naga_oil_ir.specs.declared.names.ItemPlace.{ItemPlace}
use Rattle.naga_oil_ir.specs.declared.names.ItemPlace.TheVariants.{TypeItem}
use Rattle.naga_oil_ir.specs.declared.span.Span.{Span}
use Rattle.naga_oil_derive.proofs.DeriveLemmas.{world_empty, nothing_some}
use Rattle.naga_oil_derive.specs.CopiedFunction.{copy_function}
use Rattle.naga_oil_derive.specs.CopiedLaw.{HasAt}
use Rattle.naga_oil_derive.specs.Tree.{World}
use Rattle.naga_oil_derive.specs.World.{world}
use Rattle.naga_oil_form_laws.specs.EntryForm.{IsModuleFormed}
use Rattle.naga_oil_redirect.specs.PutInOrderRows.{empty, calling, module_of}
use Rattle.naga_oil_copy_laws.specs.InTurn.{CopiesModule}
use Rattle.naga_oil_link.specs.BuiltModule.{BuiltModule, Builds, nothing_built}
use Rattle.naga_oil_link.specs.OwnPlaces.{OwnPlaces, nothing_own}
use Rattle.naga_oil_link_laws.specs.Headers.{HasNamed, HasDeclarations, HaveDeclarations, HaveOwnNames}
use Rattle.naga_oil_link_laws.specs.HeldBuild.{CopiesAs, CopiesParse}
use Rattle.naga_oil_link_laws.specs.LinkedCopies.{AreFormedBuilds}
use Rattle.naga_oil_link_laws.specs.Once.{HasEachOnce, HoldsRequested}
use Rattle.naga_oil_link_laws.specs.ThroughBuilds.{GoesThrough}
use Rattle.naga_oil_collected_laws.specs.CollectedLaw.{IsCopyOf}
use Rattle.naga_oil_collected_laws.specs.FirstReach.{from}
use Rattle.naga_oil_collected_laws.specs.HeldItems.{HasCopyAt, HasTaken}
use Rattle.naga_oil_collected_laws.specs.ItemOrder.{AreAllOf, AreCopiesOf, CountUp, HoldsInOrder, IsLinkedCopy, type_number}
use Rattle.naga_oil_collected_laws.specs.RequestedItems.{HasCopyOf}
use Rattle.naga_oil_collected_laws.specs.Trail.{PlaceIn}
use Rattle.naga_oil_faithful_laws.specs.SmallMake.{number}
use Rattle.naga_oil_definition_laws.specs.CopyableRows.{two, formed, with_nameless, nameless_isnt_formed}

-- ---- the modules

abbrev f : FunctionValue
f = empty (codes "f")

abbrev g : FunctionValue
g = empty (codes "g")

-- a module with f and an entry point, and one with one type
abbrev shader : ModuleValue
shader = module_of (f ∷ []) (empty (codes "main"))

abbrev one_type : ModuleValue
one_type = record no_items { types = number ∷ [] }

-- the build of the module with f, which is its own
abbrev build : BuiltModule
build = record (nothing_built [] 0) { value = shader; functions = codes "f" ∷ [] }

nothing_there : (p : ItemPlace) → HasAt no_items p → ⊥
nothing_there p h = nothing_some (world no_items p) h.0 (world_empty p) h.1

nothing_named : (n : Text) → HasNamed no_items n → ⊥
nothing_named n h = let e = h.2 in absurd cc

-- ---- each once, and all

two_of_one_name_is_refused : HasEachOnce (module_of (f ∷ f ∷ []) (empty (codes "main"))) → ⊥
two_of_one_name_is_refused h = let e : 0 ≡ 1 = h.functions 0 1 (f, undefined) (f, undefined) refl refl refl in absurd (omega (arith, e))

own_function_is_requested : HoldsRequested [] build no_items → ⊥
own_function_is_requested h = nothing_named f.name (h.own 0 (f, undefined) refl refl)

-- ---- entry points

module _ (w : World) (own : OwnPlaces) where
  missing_entry_is_refused : CopiesAs w shader no_items → ⊥
  missing_entry_is_refused h = let e : 0 ≡ 1 = h.as_many in absurd (omega (arith, e))

  missing_entry_of_parse_is_refused : (decoration : List ℕ) → CopiesParse shader own decoration no_items → ⊥
  missing_entry_of_parse_is_refused decoration h = let e : 0 ≡ 1 = h.copies.as_many in absurd (omega (arith, e))

  missing_entry_of_build_is_refused : (t : ModuleValue) → GoesThrough build no_items own t → ⊥
  missing_entry_of_build_is_refused t h = let e : 1 ≡ 0 = h.as_many in absurd (omega (arith, e))

entry_of_none_is_refused : CopiesModule no_items shader → ⊥
entry_of_none_is_refused h = let y = h.entry_points 0 _ refl in let e = y.at in absurd cc

-- ---- items

untaken_type_is_refused : (decoration : List ℕ) → HasTaken one_type nothing_own decoration no_items → ⊥
untaken_type_is_refused decoration h = let c = h.items 0 (TypeItem 0) (omega arith) in nothing_there c.place c.there

number_is_copied : HasCopyAt (world one_type) one_type one_type (TypeItem 0)
unfolding world
number_is_copied = record { place = TypeItem 0; there = (number.0, refl); alike = λ n. refl }

copy_in_no_items_is_refused : HasCopyAt (world one_type) one_type no_items (TypeItem 0) → ⊥
copy_in_no_items_is_refused h = nothing_there h.place h.there

-- the first occurrences count up
types_count_up : CountUp type_number (TypeItem 0 ∷ TypeItem 1 ∷ TypeItem 0 ∷ []) 2
types_count_up = refl

second_type_first_is_refused : CountUp type_number (TypeItem 1 ∷ TypeItem 0 ∷ []) 2 → ⊥
second_type_first_is_refused h = let e : ◌≡◌ {A = List ℕ} (1 ∷ 0 ∷ []) (0 ∷ 1 ∷ []) = h in absurd cc

missing_copy_is_refused : (p : ItemPlace) → HasCopyOf no_items (build, p) → ⊥
missing_copy_is_refused p h = nothing_there h.place h.there

missing_item_is_refused : (r : PlaceIn) (q : ItemPlace) → IsLinkedCopy no_items r q → ⊥
missing_item_is_refused r q h = nothing_there q h.there

-- a type that copies none
type_of_none : (ps : List ItemPlace) → AreAllOf one_type ps → (IsCopy : PlaceIn → ItemPlace → Type 0) → AllZip IsCopy [] ps → ⊥
type_of_none [] all IsCopy z = let e : ◌≡◌ {A = List ℕ} [] (0 ∷ []) = all.types in absurd cc
type_of_none (p ∷ ps) all IsCopy z = absurd z

type_of_none_is_refused : (IsCopy : PlaceIn → ItemPlace → Type 0) → AreCopiesOf IsCopy one_type [] → ⊥
type_of_none_is_refused IsCopy h = type_of_none h.places h.order IsCopy h.copies

held_type_of_none_is_refused : (decoration : List ℕ) → HoldsInOrder no_items nothing_own decoration [] one_type → ⊥
held_type_of_none_is_refused decoration h = type_of_none_is_refused _ h.items

-- ---- functions

g_is_not_f : g.name ≡ f.name → ⊥
g_is_not_f e = let o : false ≡ true = ap (λ n. option_eq bytes_eq n f.name) e in absurd cc

another_function_is_refused : IsCopyOf (from shader 0 (f, undefined)) (g, undefined) → ⊥
unfolding copy_function
another_function_is_refused h = g_is_not_f (ap (λ (x : FunctionValue × Span). x.0.name) h.1)

-- ---- builds

-- a build whose header declares f, which its module has; and one whose header declares a function
abbrev declaring : FunctionValue → BuiltModule
declaring function = record build { header = record no_items { functions = (function, undefined) ∷ [] } }

f_is_declared : HasDeclarations (declaring f)
f_is_declared = record { without_bodies = without_bodies; named = named }
  where
    without_bodies : (k : ℕ) (e : FunctionValue × Span) → slice_get ((f, undefined) ∷ []) k ≡ Some e → e.0.body ≡ []
    without_bodies zero e at = subst (λ (x : FunctionValue × Span). x.0.body ≡ []) (same_Some (f, undefined) e at) refl
    without_bodies (suc k) e at = absurd cc

    named : (k : ℕ) (e : FunctionValue × Span) → slice_get ((f, undefined) ∷ []) k ≡ Some e → HasNamed shader e.0.name
    named zero e at = subst (λ (x : FunctionValue × Span). HasNamed shader x.0.name) (same_Some (f, undefined) e at) (0, (f, undefined), refl, refl)
    named (suc k) e at = absurd cc

one_declares : HaveDeclarations ((codes "m", declaring f) ∷ [])
one_declares zero e at = subst (λ (x : List ℕ × BuiltModule). HasDeclarations x.1) (same_Some (codes "m", declaring f) e at) f_is_declared
one_declares (suc i) e at = absurd cc

only_f : (name : Text) → HasNamed shader name → f.name ≡ name
only_f name (zero, e, at, same) = ap (λ (x : FunctionValue × Span). x.0.name) (same_Some (f, undefined) e at) ∙ same
only_f name (suc k, e, at, same) = absurd cc

another_declaration_is_refused : HasDeclarations (declaring g) → ⊥
another_declaration_is_refused h = g_is_not_f (sym (only_f g.name (h.named 0 (g, undefined) refl)))

declaration_with_a_body_is_refused : HasDeclarations (declaring (calling (codes "f") 0)) → ⊥
declaration_with_a_body_is_refused h = let e : (calling (codes "f") 0).body ≡ [] = h.without_bodies 0 _ refl in absurd cc

second_declaration_is_refused : HaveDeclarations ((codes "m", declaring f) ∷ (codes "n", declaring g) ∷ []) → ⊥
second_declaration_is_refused h = another_declaration_is_refused (h 1 _ refl)

one_has_its_name : HaveOwnNames ((codes "m", build) ∷ [])
one_has_its_name zero e at = refl
one_has_its_name (suc i) e at = absurd cc

two_of_a_name_are_refused : HaveOwnNames ((codes "m", build) ∷ (codes "m", build) ∷ []) → ⊥
two_of_a_name_are_refused h = let e : true ≡ false = h 1 (codes "m", build) refl in absurd cc

-- the build of a module, which is of good form or has a function without a name
abbrev of_module : ModuleValue → Builds
of_module m = (codes "m", record (nothing_built [] 1) { value = m }) ∷ []

one_is_formed : AreFormedBuilds (of_module two)
one_is_formed zero e at = subst (λ (x : List ℕ × BuiltModule). IsModuleFormed x.1.value) (same_Some _ e at) formed
one_is_formed (suc i) e at = absurd cc

nameless_function_is_refused : AreFormedBuilds (of_module with_nameless) → ⊥
nameless_function_is_refused h = nameless_isnt_formed (h 0 _ refl)
