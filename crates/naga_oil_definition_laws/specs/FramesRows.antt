-- Worked rows: what a step of copying, linking or making requires, and what it leaves behind.
use Rattle.std.proofs.Common.{◌≡◌, ◌⊎◌, inl, inr, ℕ, zero, suc, ◌<◌, List, [], ◌∷◌, ◌++◌, Bool, false, true, ◌||◌, Some, None, Ok, All, IsSome, length, reverse, slice_index, refl, ap, subst, sym, ◌∙◌, arith}
use Rattle.std.proofs.lemmas.List.{length-append}
use Rattle.std.proofs.lemmas.List.Elements.{All-nil, All-cons, All-head}
use Rattle.std.proofs.lemmas.Option.{same_Some}
use Rattle.std.proofs.lemmas.Slice.Eq.{bytes_eq-Decides}
use Rattle.std.specs.List.{IsDistinct}
use Rattle.std.specs.Option.{option_eq}
use Rattle.std.specs.Prelude.{codes, bytes_eq}
use Rattle.naga_oil_ir.specs.ModuleValue.{ModuleValue, FunctionValue, no_items}
use Rattle.naga_oil_ir.specs.Rows.{Row}
use Rattle.naga_oil_words.specs.Texts.{is_among}
use Rattle.naga_oil_ir.specs.Spans.{undefined, u32_max}
use Rattle.naga_oil_ir.specs.declared.expression.Expression.TheVariants.{Literal}
use Rattle.naga_oil_ir.specs.declared.names.ItemPlace.{ItemPlace}
use Rattle.naga_oil_ir.specs.declared.names.ItemPlace.TheVariants.{TypeItem, ConstantItem, OverrideItem, GlobalItem, ExpressionItem}
use Rattle.naga_oil_ir.specs.declared.span.Span.{Span}
use Rattle.naga_oil_ir.specs.declared.tokens.Token.TheVariants.{Callee}
use Rattle.naga_oil_imports.specs.Uses.{Import, Use}
use Rattle.naga_oil_registry.specs.Registered.{Registered, Defs}
use Rattle.naga_oil_walk.specs.declared.walk.Request.TheVariants as request
use Rattle.naga_oil_derive.proofs.DeriveLemmas.{world_empty, nothing_some, special_none, no_place}
use Rattle.naga_oil_walk.specs.Walk.{others}
use Rattle.naga_oil_derive.specs.CopiedFunctionLaw.{EmitsAt}
use Rattle.naga_oil_derive.specs.CopiedLaw.{kind_number, IsKinded, IsReady}
use Rattle.naga_oil_derive.specs.Derived.{Source, as_read}
use Rattle.naga_oil_derive.specs.Tree.{Missing, Item, End, tree, reading}
use Rattle.naga_oil_derive.specs.World.{ItemMap, goes, kept_of, named_world, world}
use Rattle.naga_oil_derive.specs.DerivedFunctions.{requests_of}
use Rattle.naga_oil_derive.specs.Functions.{begun}
use Rattle.naga_oil_form.specs.BodyForm.{IsSpanFine, IsTokenFine, places as places_of}
use Rattle.naga_oil_form.specs.Links as links
use Rattle.naga_oil_form.proofs.LinkLemmas.{All-has}
use Rattle.naga_oil_form_laws.specs.EntryForm.{IsEntryFormed, IsModuleFormed}
use Rattle.naga_oil_form_laws.specs.FunctionForm.{IsFunctionFormed}
use Rattle.naga_oil_form_laws.specs.OwnedForm.{MayBeAppended}
use Rattle.naga_oil_form_laws.proofs.RequestLemmas.{all_at}
use Rattle.naga_oil_redirect.specs.Chain.{none_omitted}
use Rattle.naga_oil_redirect.specs.PutInOrderRows.{empty, calling, function_of}
use Rattle.naga_oil_copy_laws.specs.ByTree.{IsReached}
use Rattle.naga_oil_copy_laws.specs.CopiedByTree.{IsCopyFrom, NamesByResults}
use Rattle.naga_oil_copy_laws.specs.Frame.{HasMore}
use Rattle.naga_oil_copy_laws.specs.HeldCopies.{HaveSource}
use Rattle.naga_oil_copy_laws.specs.ItemsByTree.{AsksThere, HaveItems, EachItemReads}
use Rattle.naga_oil_copy_laws.specs.Scope.{scope_of, scope_from, ReadAlike}
use Rattle.naga_oil_copy_laws.proofs.SentLaws.{redirected_law}
use Rattle.naga_oil_copy_laws.specs.SentByTree.{AreAsCopied, IsOnlyOfItsName, IsSentFrom}
use Rattle.naga_oil_copy_laws.specs.ByTreeLaw.{IsAsCopied}
use Rattle.naga_oil_link_laws.specs.OrderedCopies.{MaySend}
use Rattle.naga_oil_link.specs.BuiltModule.{BuiltModule, Builds, Overriding, nothing_built}
use Rattle.naga_oil_build.specs.Held.{Settings}
use Rattle.naga_oil_build.specs.OverridingForm.{NeitherOverrides, NoNameShared, ShareNoName, LacksOverrideMark, BasesLackMark, BuildsLackMark}
use Rattle.naga_oil.specs.AfreshLaw.{AreBuilt, IsReadAfresh}
use Rattle.naga_oil.specs.Reach.{is_built}
use Rattle.naga_oil.specs.LocalLaw.{AlikeIn, AreOne, BuildsDiffer, ImportsAlike, UsesAlike}
use Rattle.naga_oil_faithful_laws.specs.PromiseLaw.{overriding_name}
use Rattle.naga_oil_faithful_laws.specs.SmallMake.{number, base_name, override_name}
use Rattle.naga_oil_definition_laws.specs.BodiesRows.{each_of_one}
use Rattle.naga_oil_definition_laws.specs.CopyableRows.{two, three, copied, formed, three_formed}

-- ---- modules

abbrev f : FunctionValue
f = empty (codes "f")

abbrev g : FunctionValue
g = calling (codes "g") 0

abbrev one_type : ModuleValue
one_type = record no_items { types = number ∷ [] }

abbrev places : ItemMap
places = record { types = None ∷ []; constants = []; overrides = []; global_variables = []; global_expressions = [] }

abbrev source : ModuleValue → Source
source m = record { value = m; offset = 0; places = places }

nothing_stands : (p : ItemPlace) (r : Row) → world no_items p ≡ Some r → ⊥
nothing_stands p r = nothing_some (world no_items p) r (world_empty p)

g_is_not_f : g.name ≡ f.name → ⊥
g_is_not_f e = let o : false ≡ true = ap (λ n. option_eq bytes_eq n f.name) e in absurd cc

-- ---- a module that has more than another

any_has_more : (m : ModuleValue) → HasMore no_items m
any_has_more m = record {
  items = λ p r e. absurd (nothing_stands p r e);
  functions = λ k x e. absurd cc;
  special = λ k q e. absurd (no_place _ q (special_none k) e);
}

nothing_has_less : HasMore two no_items → ⊥
nothing_has_less h = let e = h.functions 0 (f, undefined) refl in absurd cc

-- ---- sources of copies

names_by_result : NamesByResults g
names_by_result zero c e at callee = refl
names_by_result (suc k) c e at callee = absurd cc

have_source : HaveSource two.functions (source two)
have_source = record {
  copyable = λ x i. (copied.functions i.0 x i.1).0.copyable;
  functions = λ k x e. (k, e);
}

call_asks_nothing : AsksThere no_items (request.Call 3)
call_asks_nothing = tt

missing_item_is_refused : (p : ItemPlace) → AsksThere no_items (request.Item p) → ⊥
missing_item_is_refused p h = nothing_stands p h.0 h.1

-- a function with an argument of the first type, in a module that has this type, and in one without types
abbrev taking : FunctionValue
taking = record f { arguments = record { name = None; ty = 0; binding = None } ∷ [] }

abbrev with_type : ModuleValue
with_type = record one_type { functions = (taking, undefined) ∷ [] }

abbrev without_type : ModuleValue
without_type = record no_items { functions = (taking, undefined) ∷ [] }

type_is_there : All (AsksThere with_type) (requests_of taking)
unfolding world
type_is_there = each_of_one (AsksThere with_type) (request.Item (TypeItem 0)) (number.0, refl)

argument_type_is_there : HaveItems (source with_type)
argument_type_is_there zero x e = subst (λ (y : FunctionValue × Span). All (AsksThere with_type) (requests_of y.0)) (same_Some (taking, undefined) x e) type_is_there
argument_type_is_there (suc k) x e = absurd cc

missing_argument_type_is_refused : HaveItems (source without_type) → ⊥
unfolding world
missing_argument_type_is_refused h =
    let t = all_at (AsksThere without_type) (requests_of taking) 0 (request.Item (TypeItem 0)) (h 0 (taking, undefined) refl) refl in
    let e : None ≡ Some t.0 = t.1 in
    absurd cc

another_name_is_refused : IsCopyFrom (source two) two f g → ⊥
another_name_is_refused h = g_is_not_f h.name

-- ---- items that come from nowhere

reads_as_missing : (p : ItemPlace) → reading 1 (as_read (source no_items) one_type) (world one_type) (kept_of no_items.special_types one_type.special_types) p ≡ Missing
unfolding reading world named_world goes kept_of
reads_as_missing (TypeItem k) = refl
reads_as_missing (ConstantItem k) = refl
reads_as_missing (OverrideItem k) = refl
reads_as_missing (GlobalItem k) = refl
reads_as_missing (ExpressionItem k) = refl

reads_as_number : tree 1 (world one_type) (TypeItem 0) ≡ Item number.0.label End
unfolding tree world
reads_as_number = refl

type_from_nowhere_is_refused : EachItemReads no_items (record { source = Some (source no_items); target = one_type; function_names = [] }) → ⊥
unfolding world
type_from_nowhere_is_refused h = come (h (TypeItem 0) number.0 refl)
  where
    come : (world no_items (TypeItem 0) ≡ Some number.0) ⊎ ((p : ItemPlace) × ReadAlike (scope_from (source no_items) one_type) (scope_of one_type) p (TypeItem 0)) → ⊥
    come (inl e) = nothing_stands (TypeItem 0) number.0 e
    come (inr p) = let e : Item number.0.label End ≡ Missing = sym reads_as_number ∙ p.1 1 ∙ reads_as_missing p.0 in absurd cc

-- ---- one copy

one_kind : IsKinded one_type
unfolding world
one_kind (TypeItem zero) r e = subst (λ (x : Row). kind_number x.label.kind ≡ 0) (same_Some number.0 r e) refl
one_kind (TypeItem (suc k)) r e = absurd cc
one_kind (ConstantItem k) r e = absurd cc
one_kind (OverrideItem k) r e = absurd cc
one_kind (GlobalItem k) r e = absurd cc
one_kind (ExpressionItem k) r e = absurd cc

type_is_ready : IsReady one_type (record { places = places; target = no_items }) (TypeItem 0) number.0
unfolding world
type_is_ready = record {
  source = one_kind;
  target = λ p r e. absurd (nothing_stands p r e);
  roomy = record { types = refl; constants = refl; overrides = refl; globals = refl; expressions = refl };
  at = refl;
  names = λ k d l. absurd (omega (arith, l));
}

-- ---- redirected and appended functions

only_f : IsOnlyOfItsName (scope_of two) 0
only_f zero e = refl
only_f (suc zero) e = absurd (g_is_not_f e)
only_f (suc (suc h)) e = absurd cc

-- a module with f, which calls nothing and has no expressions
abbrev one_function : ModuleValue
one_function = record no_items { functions = (f, undefined) ∷ [] }

f_is_as_copied : IsAsCopied f
unfolding links.trail
f_is_as_copied = record {
  earlier = λ k i d l. absurd (omega (arith, l));
  there = λ k e. absurd cc;
  apart = λ i p e. absurd cc;
  nothing_else = record { expressions = λ h l. absurd (omega (arith, l)); names = λ i e at. absurd cc; leaf = refl };
}

-- g has the result of its call as its only expression
g_is_as_copied : IsAsCopied g
unfolding links.trail
g_is_as_copied = record { earlier = earlier; there = there; apart = apart; nothing_else = record { expressions = reached; names = λ i e at. absurd cc; leaf = refl } }
  where
    earlier : (k : ℕ) → All (λ x. x < k) (links.linked ([] ∷ []) k)
    earlier zero i d l = absurd (omega (arith, l))
    earlier (suc k) i d l = absurd (omega (arith, l))

    there : (k : ℕ) → IsReached g k → k < 1
    there k w = All-has (λ h. h < 1) (0 ∷ []) k (each_of_one (λ h. h < 1) 0 (omega arith)) w

    apart : (i : ℕ) (p : ℕ × ℕ) → EmitsAt g i p → others (begun g) (places_of p) ≡ places_of p
    apart zero p e = absurd cc
    apart (suc zero) p e = absurd cc
    apart (suc (suc zero)) p e = absurd cc
    apart (suc (suc (suc i))) p e = absurd cc

    reached : (h : ℕ) → h < 1 → IsReached g h
    reached zero l = refl
    reached (suc h) l = absurd (omega (arith, l))

both_are_as_copied : AreAsCopied two
both_are_as_copied zero x e = subst (λ (y : FunctionValue × Span). IsAsCopied y.0) (same_Some (f, undefined) x e) f_is_as_copied
both_are_as_copied (suc zero) x e = subst (λ (y : FunctionValue × Span). IsAsCopied y.0) (same_Some (g, undefined) x e) g_is_as_copied
both_are_as_copied (suc (suc k)) x e = absurd cc

-- a function with an expression that nothing reaches
abbrev unused : FunctionValue
unused = function_of (codes "u") (Literal 0 7 ∷ []) []

unreached_expression_is_refused : IsAsCopied unused → ⊥
unfolding links.trail
unreached_expression_is_refused h = let e : false ≡ true = h.nothing_else.expressions 0 (omega arith) in absurd cc

function_that_isnt_as_copied_is_refused : AreAsCopied (record no_items { functions = (f, undefined) ∷ (unused, undefined) ∷ [] }) → ⊥
function_that_isnt_as_copied_is_refused h = unreached_expression_is_refused (h 1 (unused, undefined) refl)

-- calls of f are redirected to g; f itself calls nothing
f_is_sent : IsSentFrom two 0 1 none_omitted 0 (f, undefined)
f_is_sent = redirected_law two 0 1 none_omitted both_are_as_copied only_f 0 (f, undefined) refl

function_at_another_place_is_refused : IsSentFrom two 0 1 none_omitted 0 (g, undefined) → ⊥
function_at_another_place_is_refused h = g_is_not_f (h.copies.name ∙ ap (λ (x : FunctionValue × Span). x.0.name) (sym (same_Some (f, undefined) h.source h.at)))

function_with_another_span_is_refused : IsSentFrom two 0 1 none_omitted 0 (f, record { start = 1; end = 2 }) → ⊥
function_with_another_span_is_refused h =
    let e : 1 ≡ 0 = ap (λ (s : Span). s.start) (h.span ∙ ap (λ (x : FunctionValue × Span). x.1) (sym (same_Some (f, undefined) h.source h.at))) in
    absurd (omega (arith, e))

calls_may_go_to_f : MaySend one_function 0 0
calls_may_go_to_f = record {
  as_copied = each;
  only = only;
  there = omega arith;
}
  where
    each : AreAsCopied one_function
    each zero x e = subst (λ (y : FunctionValue × Span). IsAsCopied y.0) (same_Some (f, undefined) x e) f_is_as_copied
    each (suc k) x e = absurd cc

    only : IsOnlyOfItsName (scope_of one_function) 0
    only zero e = refl
    only (suc h) e = absurd cc

no_function_may_be_called_instead : MaySend no_items 0 0 → ⊥
no_function_may_be_called_instead h = let l : 0 < 0 = h.there in absurd (omega (arith, l))

-- the function of the entry point of `two`, which calls g, and a function that calls one that isn't there
abbrev main : FunctionValue
main = calling (codes "main") 1

abbrev astray : FunctionValue
astray = calling (codes "h") 2

main_is_formed : IsFunctionFormed two 2 u32_max main
main_is_formed = (all_at (IsEntryFormed two u32_max) two.entry_points 0 _ formed.entry_points.forms refl).function

main_is_appended : MayBeAppended two ((main, undefined) ∷ [])
main_is_appended = record {
  named = each_of_one (λ (e : FunctionValue × Span). IsSome e.0.name) (main, undefined) refl;
  forms = each_of_one (λ (e : FunctionValue × Span). IsFunctionFormed two 2 u32_max e.0) (main, undefined) main_is_formed;
  spans = each_of_one (λ (e : FunctionValue × Span). IsSpanFine u32_max e.1) (main, undefined) (omega arith, omega arith);
  distinct = three_formed.functions.distinct;
}

appended_twice_is_refused : MayBeAppended two ((f, undefined) ∷ []) → ⊥
appended_twice_is_refused h = let e : 0 ≡ 2 = h.distinct 0 2 (f, undefined) (f, undefined) refl refl refl in absurd (omega (arith, e))

appended_astray_is_refused : MayBeAppended two ((astray, undefined) ∷ []) → ⊥
appended_astray_is_refused h =
    let form = All-head (λ (e : FunctionValue × Span). IsFunctionFormed two 2 u32_max e.0) (astray, undefined) [] h.forms in
    let l : 2 < 2 = all_at (IsTokenFine 2 u32_max) astray.body 1 (Callee 2) form.statements refl in
    absurd (omega (arith, l))

-- ---- overridden functions

abbrev by_c : List ℕ × List (List ℕ)
by_c = (codes "a", codes "c" ∷ [])

abbrev by_d : List ℕ × List (List ℕ)
by_d = (codes "b", codes "d" ∷ [])

no_name_is_shared : ShareNoName by_c by_d
no_name_is_shared = record { base = refl; names = λ n is. by n (bytes_eq n (codes "d")) refl is }
  where
    by : (n : List ℕ) (q : Bool) → bytes_eq n (codes "d") ≡ q → (q || false) ≡ true → is_among (codes "c" ∷ []) n ≡ false
    by n true e is = subst (λ (x : List ℕ). is_among (codes "c" ∷ []) x ≡ false) (sym ((bytes_eq-Decides n (codes "d")).0 e)) refl
    by n false e is = absurd cc

neither_overrides : NeitherOverrides by_c by_d
neither_overrides = (refl, refl)

overriding_override_is_refused : NeitherOverrides by_c (codes "c", codes "d" ∷ []) → ⊥
overriding_override_is_refused h = let e : true ≡ false = h.0 in absurd cc

abbrev shared : Overriding
shared = (codes "a", codes "c" ∷ []) ∷ (codes "b", codes "c" ∷ []) ∷ []

shared_name_is_refused : NoNameShared shared → ⊥
shared_name_is_refused h = let e : true ≡ false = (h 0 1 _ _ refl refl (λ e. absurd (omega (arith, e)))).names (codes "c") refl in absurd cc

-- the function f of a module, whose name has the mark of a module
base_lacks_the_mark : LacksOverrideMark base_name
base_lacks_the_mark [] y e = let q : 102 ≡ 88 = ap (λ (n : List ℕ). slice_index n 0) e in absurd (omega (arith, q))
base_lacks_the_mark (c ∷ []) y e = let q : 109 ≡ 118 = ap (λ (n : List ℕ). slice_index n 12) e in absurd (omega (arith, q))
base_lacks_the_mark (c ∷ d ∷ []) y e = let q : 95 ≡ 88 = ap (λ (n : List ℕ). slice_index n 2) e in absurd (omega (arith, q))
base_lacks_the_mark (c ∷ d ∷ h ∷ []) y e = let q : 110 ≡ 88 = ap (λ (n : List ℕ). slice_index n 3) e in absurd (omega (arith, q))
base_lacks_the_mark (c ∷ d ∷ h ∷ i ∷ []) y e = let q : 97 ≡ 88 = ap (λ (n : List ℕ). slice_index n 4) e in absurd (omega (arith, q))
base_lacks_the_mark (c ∷ d ∷ h ∷ i ∷ j ∷ x) y e = absurd (omega (arith, simp length-append at (ap length e)))

override_has_the_mark : LacksOverrideMark overriding_name → ⊥
override_has_the_mark h = h (codes "f") (codes "IEXX_naga_oil_mod_XIIX") refl

-- a build in which a function is overridden by another one
abbrev overridden_by : (base name : List ℕ) → Builds
overridden_by base name = (codes "m", record (nothing_built [] 1) { overriding = (base, name ∷ []) ∷ [] }) ∷ []

abbrev Lacks : List ℕ × List (List ℕ) → Type 0
Lacks o = LacksOverrideMark o.0

base_is_original : BasesLackMark ((base_name, override_name ∷ []) ∷ [])
base_is_original = each_of_one Lacks (base_name, override_name ∷ []) base_lacks_the_mark

base_that_overrides_is_refused : BasesLackMark ((overriding_name, override_name ∷ []) ∷ []) → ⊥
base_that_overrides_is_refused h = override_has_the_mark (All-head Lacks (overriding_name, override_name ∷ []) [] h)

original_is_overridden : BuildsLackMark (overridden_by base_name override_name)
original_is_overridden zero e at = subst (λ (x : List ℕ × BuiltModule). All Lacks x.1.overriding) (same_Some _ e at) base_is_original
original_is_overridden (suc i) e at = absurd cc

overridden_override_is_refused : BuildsLackMark (overridden_by overriding_name override_name) → ⊥
overridden_override_is_refused h = base_that_overrides_is_refused (h 0 _ refl)

-- ---- builds of a make

abbrev uses : List Use
uses = record { import = record { import = codes "m"; items = [] }; offset = 0 } ∷ []

differing : BuildsDiffer ((codes "m", nothing_built [] 0) ∷ (codes "n", nothing_built [] 1) ∷ [])
unfolding IsDistinct
differing = ((refl, tt), (tt, tt))

built_twice_is_refused : BuildsDiffer ((codes "m", nothing_built [] 0) ∷ (codes "m", nothing_built [] 1) ∷ []) → ⊥
unfolding IsDistinct
built_twice_is_refused h = let e : true ≡ false = h.0.0 in absurd cc

-- b, which imports a: built after a, with other builds before and after both, and after another a
abbrev a_imported : Import
a_imported = record { import = codes "a"; items = [] }

abbrev b_imported : Import
b_imported = record { import = codes "b"; items = [] }

abbrev b_used : Use
b_used = record { import = b_imported; offset = 4 }

abbrev b_over_a : BuiltModule
b_over_a = record (nothing_built [] 2) { imports = a_imported ∷ [] }

abbrev alone : Builds
alone = (codes "a", nothing_built [] 1) ∷ (codes "b", b_over_a) ∷ []

abbrev among_others : Builds
among_others = (codes "x", nothing_built [] 7) ∷ (codes "a", nothing_built [] 1) ∷ (codes "b", b_over_a) ∷ (codes "z", nothing_built [] 9) ∷ []

abbrev over_another_a : Builds
over_another_a = (codes "a", nothing_built [] 3) ∷ (codes "b", b_over_a) ∷ []

-- b is one build if what stands under the name of a is alike
b_is_one : AreOne (λ name. name ≡ codes "a") b_over_a b_over_a
b_is_one = record { same = refl; imports = each_of_one (λ (i : Import). i.import ≡ codes "a") a_imported refl }

b_and_a_are_refused : AreOne (λ name. name ≡ codes "a") b_over_a (nothing_built [] 1) → ⊥
b_and_a_are_refused h = let e : ◌≡◌ {A = ℕ} 2 1 = ap (λ (b : BuiltModule). b.index) h.same in absurd (omega (arith, e))

import_that_differs_is_refused : AreOne (λ name. ⊥) b_over_a b_over_a → ⊥
import_that_differs_is_refused h = h.imports 0 a_imported (omega arith)

abbrev A_alike : Import → Type 0
A_alike i = AlikeIn ((codes "a", nothing_built [] 1) ∷ []) ((codes "a", nothing_built [] 1) ∷ (codes "x", nothing_built [] 7) ∷ []) i.import

a_stands_alike : A_alike a_imported
unfolding AlikeIn
a_stands_alike = record { same = refl; imports = All-nil (λ (i : Import). AlikeIn [] ((codes "x", nothing_built [] 7) ∷ []) i.import) }

b_stands_alike : AlikeIn (reverse alone) (reverse among_others) (codes "b")
unfolding AlikeIn
b_stands_alike = record { same = refl; imports = each_of_one A_alike a_imported a_stands_alike }

abbrev Alike : List ℕ → Type 0
Alike name = AlikeIn (reverse alone) (reverse among_others) name

used_alike : UsesAlike alone among_others (b_used ∷ [])
used_alike = each_of_one (λ (u : Use). Alike u.import.import) b_used b_stands_alike

imported_alike : ImportsAlike alone among_others (b_imported ∷ [])
imported_alike = each_of_one (λ (i : Import). Alike i.import) b_imported b_stands_alike

-- over another a the build of b doesn't stand alike, though it is the same build
differs_in_a : AlikeIn (reverse alone) (reverse over_another_a) (codes "b") → ⊥
unfolding AlikeIn
differs_in_a h = let e : ◌≡◌ {A = ℕ} 1 3 = ap (λ (b : BuiltModule). b.index) (h.imports 0 a_imported (omega arith)).same in absurd cc

use_over_another_is_refused : UsesAlike alone over_another_a (b_used ∷ []) → ⊥
use_over_another_is_refused h = differs_in_a (h 0 b_used (omega arith))

import_over_another_is_refused : ImportsAlike alone over_another_a (b_imported ∷ []) → ⊥
import_over_another_is_refused h = differs_in_a (h 0 b_imported (omega arith))

b_is_built : AreBuilt alone (b_used ∷ [])
b_is_built = each_of_one (λ (u : Use). is_built alone u.import.import ≡ true) b_used refl

unbuilt_is_refused : AreBuilt [] uses → ⊥
unbuilt_is_refused h = let e : false ≡ true = h 0 (record { import = record { import = []; items = [] }; offset = 0 }) (omega arith) in absurd cc

another_result_is_refused : (s : Settings) (ds : List Registered) (defs : Defs) → IsReadAfresh {X = ℕ} s ds defs [] (record { builds = []; result = Ok 0 }) (record { builds = []; result = Ok 1 }) → ⊥
another_result_is_refused s ds defs h = let e = h.result in absurd cc
