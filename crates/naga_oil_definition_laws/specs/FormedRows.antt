-- Worked rows: a module of good form, with what this says of its items, functions and entry points; and what is refused in others.
use Rattle.std.proofs.Common.{◌≡◌, inl, inr, ℕ, zero, suc, ◌<◌, List, [], ◌∷◌, length, Bool, true, false, cond, Option, Some, None, All, IfSome, slice_get, refl, ap, subst, ◌∙◌, arith}
use Rattle.std.proofs.lemmas.List.Elements.{All-nil, All-cons, All-head}
use Rattle.std.proofs.lemmas.Option.{none-some, same_Some}
use Rattle.std.specs.Option.{option_eq}
use Rattle.std.specs.Prelude.{codes, bytes_eq}
use Rattle.naga_oil_words.specs.Marks.{has_module_mark}
use Rattle.naga_oil_ir.specs.Kinds.{call_head, return_head}
use Rattle.naga_oil_ir.specs.Body.{Tokens}
use Rattle.naga_oil_ir.specs.ModuleValue.{ModuleValue, FunctionValue, EntryValue, no_items}
use Rattle.naga_oil_ir.specs.Parts.{Parts, expr}
use Rattle.naga_oil_ir.specs.Rows.{Row, Text, TypeKind, ConstantKind, OverrideKind, GlobalKind, ExpressionKind, row}
use Rattle.naga_oil_ir.specs.Spans.{undefined, u32_max}
use Rattle.naga_oil_ir.specs.declared.module.MeshInfo.{MeshInfo}
use Rattle.naga_oil_ir.specs.declared.names.ItemPlace.{ItemPlace}
use Rattle.naga_oil_ir.specs.declared.names.ItemPlace.TheVariants.{TypeItem, ConstantItem, OverrideItem, GlobalItem, ExpressionItem}
use Rattle.naga_oil_ir.specs.declared.parts.Named.TheVariants.{Nothing, TypeOf, ConstantAt, GlobalAt, FunctionAt}
use Rattle.naga_oil_ir.specs.declared.span.Span.{Span}
use Rattle.naga_oil_ir.specs.declared.tokens.Token.TheVariants.{Head, Use, GiveCall, Callee}
use Rattle.naga_oil_form.specs.Form.{is_formed}
use Rattle.naga_oil_form.specs.Links as links
use Rattle.naga_oil_derive.specs.CopiedLaw.{place_number}
use Rattle.naga_oil_derive.specs.Derived.{Derived, nothing}
use Rattle.naga_oil_derive.specs.DerivedFunctions.{meant}
use Rattle.naga_oil_derive.specs.Tree.{World}
use Rattle.naga_oil_derive.specs.World.{world, span_at}
use Rattle.naga_oil_form_laws.specs.EntryForm.{AreEntriesFormed, IsEntryFormed, IsExpressionIn, IsMeshFormed, IsModuleFormed}
use Rattle.naga_oil_form_laws.specs.FunctionForm.{AreFunctionsFormed, AreKnown, AreResultsOfCalls, IsNamedThere, NamesFunctionAsResult}
use Rattle.naga_oil_form_laws.specs.ItemsStand.{AllReached, AreFormed, AreSpansFine, IsBefore, IsFixed, IsIn, IsPlain, IsSpecial, IsUnsized, ItemsStand, MayBeGlobal, MayBeSpecial, MayName, MayNameType, MayStandAfter, NamesBefore, OfType, ReachesOnly, StandsAfter, may_name_kind}
use Rattle.naga_oil_form_laws.specs.Shape.{HasFunctionShape, HasModuleShape, NamesAsType, NamesGlobalAsGlobal, NamesTypeAndValue}
use Rattle.naga_oil_form_laws.specs.ShapeTest.{has_shape}
use Rattle.naga_oil_form_laws.specs.TurnForm.{HasSource, IsNameBefore}
use Rattle.naga_oil_form_laws.proofs.RequestLemmas.{all_at}
use Rattle.naga_oil_form_laws.proofs.ShapeTests.{shape_test}
use Rattle.naga_oil_link_laws.proofs.ParsedShapes.{parsed_shape}
use Rattle.naga_oil_faithful_laws.specs.SmallMake.{number, struct, specials, span, literal, zero_of}
use Rattle.naga_oil_definition_laws.specs.BodiesRows.{each_of_one}

-- ---- a module

-- an array of numbers, whose size is an override's
abbrev array : Row × Span
array = (row (TypeKind 11) None (Some 4 ∷ Some 1 ∷ []) [] (Some (TypeItem 0) ∷ Some (OverrideItem 0) ∷ []), undefined)

abbrev constant : Row × Span
constant = (row ConstantKind (Some (codes "K")) [] [] (Some (TypeItem 0) ∷ Some (ExpressionItem 0) ∷ []), undefined)

abbrev override : Row × Span
override = (row OverrideKind (Some (codes "N")) (Some 3 ∷ []) [] (Some (TypeItem 0) ∷ None ∷ []), undefined)

abbrev global : Row × Span
global = (row GlobalKind (Some (codes "G")) (Some 2 ∷ None ∷ []) [] (Some (TypeItem 2) ∷ None ∷ []), undefined)

abbrev constant_again : Parts × Span
constant_again = (expr 2 [] (ConstantAt 0) [], span 4 5)

-- f takes a ray and returns a zero, which is emitted nowhere; g calls f, and takes its result
abbrev pub f : FunctionValue
f = record {
  name = Some (codes "f");
  arguments = record { name = None; ty = 1; binding = None } ∷ [];
  result = Some (record { ty = 0; binding = None });
  local_variables = [];
  expressions = zero_of 0 ∷ [];
  named_expressions = [];
  body = Head return_head ∷ Use 0 ∷ [];
  diagnostic_filter_leaf = None;
}

abbrev result_of : ℕ → Parts × Span
result_of k = (expr 7 [] (FunctionAt k) [], undefined)

abbrev call : ℕ → Tokens
call k = Head call_head ∷ Callee k ∷ Use 0 ∷ GiveCall k 1 ∷ []

abbrev pub g : FunctionValue
g = record {
  name = Some (codes "g");
  arguments = [];
  result = None;
  local_variables = [];
  expressions = zero_of 1 ∷ result_of 0 ∷ [];
  named_expressions = [];
  body = call 0;
  diagnostic_filter_leaf = None;
}

-- the output of a mesh shader: rays, and the global
abbrev mesh : ℕ → MeshInfo
mesh output = record { vertex_output_type = 1; primitive_output_type = 1; output = output; max_vertices = Some 0; max_primitives = None; topology = 0 }

abbrev entry : EntryValue
entry = record {
  name = codes "e";
  stage = 2;
  early_depth_test = None;
  workgroup_size = 1 ∷ 1 ∷ 1 ∷ [];
  workgroup_size_overrides = Some (Some 1 ∷ None ∷ None ∷ []);
  function = record g { name = Some (codes "main") };
  mesh_info = Some (mesh 0);
  task_payload = Some 0;
}

abbrev pub full : ModuleValue
full = record no_items {
  types = number ∷ struct (codes "Ray") ∷ array ∷ [];
  special_types = specials (Some 1) None;
  constants = constant ∷ [];
  overrides = override ∷ [];
  global_variables = global ∷ [];
  global_expressions = literal 7 ∷ constant_again ∷ [];
  functions = (f, undefined) ∷ (g, span 2 9) ∷ [];
  entry_points = entry ∷ [];
}

has_the_shape : HasModuleShape full
unfolding has_shape
has_the_shape = (shape_test full).0 refl

is_tested : is_formed full [] 9 ≡ true
unfolding is_formed links.trail has_module_mark
is_tested = refl

pub formed : IsModuleFormed full
unfolding has_module_mark
formed = parsed_shape full 0 [] 9 has_the_shape (omega arith) is_tested

-- ---- types and what they reach

abbrev Nameless : ℕ → Row → Type 0
Nameless k r = r.label.name ≡ None

type_has_it : OfType (λ k. k < 1) (TypeItem 0)
type_has_it = omega arith

type_without_it_is_refused : OfType (λ k. k < 1) (TypeItem 1) → ⊥
type_without_it_is_refused l = absurd (omega (arith, l))

-- the type at a place has no name, and what it names has none within a depth
abbrev NamelessWithin : ℕ → Row → Type 0
NamelessWithin n r = Nameless 0 r × All (λ o. IfSome o (OfType (ReachesOnly n (world full) Nameless))) r.names

number_reaches_nameless : (n : ℕ) → ReachesOnly n (world full) Nameless 0
unfolding ReachesOnly world
number_reaches_nameless zero = tt
number_reaches_nameless (suc n) = λ r e. subst (NamelessWithin n) (same_Some number.0 r e) (refl, All-nil (λ (o : Option ItemPlace). IfSome o (OfType (ReachesOnly n (world full) Nameless))))

named_type_is_refused : ReachesOnly 1 (world full) Nameless 1 → ⊥
unfolding ReachesOnly world
named_type_is_refused h = let e : Some (codes "Ray") ≡ None = (h (struct (codes "Ray")).0 refl).0 in absurd cc

all_nameless : AllReached (world full) Nameless 0
all_nameless = number_reaches_nameless

named_among_all_is_refused : AllReached (world full) Nameless 1 → ⊥
named_among_all_is_refused h = named_type_is_refused (h 1)

number_is_fixed : IsFixed 0 number.0
number_is_fixed = refl

size_of_override_is_refused : IsFixed 2 array.0 → ⊥
size_of_override_is_refused e = let f : true ≡ false = e in absurd cc

ray_may_be_special : MayBeSpecial full 1
ray_may_be_special = All-head (λ e. MayBeSpecial full e.1) _ [] formed.items.special

ray_is_unsized : IsUnsized (world full) 1
ray_is_unsized = ray_may_be_special.unsized

sized_type_is_refused : IsUnsized (world full) 2 → ⊥
unfolding ReachesOnly world
sized_type_is_refused h = let e : true ≡ false = (h 1 array.0 refl).0 in absurd cc

sized_special_type_is_refused : MayBeSpecial full 2 → ⊥
sized_special_type_is_refused h = sized_type_is_refused h.unsized

ray_is_special : IsSpecial full.special_types 1
ray_is_special = refl

number_isnt_special : IsSpecial full.special_types 0 → ⊥
number_isnt_special e = let f : false ≡ true = e in absurd cc

special_name_is_plain : IsPlain full.special_types 1 (struct (codes "Ray")).0
special_name_is_plain = inr refl

other_name_is_refused : IsPlain full.special_types 0 (struct (codes "S")).0 → ⊥
other_name_is_refused (inl e) = absurd cc
other_name_is_refused (inr e) = number_isnt_special e

-- ---- what items name

abbrev w : World
w = world full

earlier_type_is_named : MayNameType w (TypeItem 2) 0
earlier_type_is_named = omega arith

type_itself_is_refused : MayNameType w (TypeItem 2) 2 → ⊥
type_itself_is_refused l = absurd (omega (arith, l))

constant_of_sized_type_is_refused : MayNameType w (ConstantItem 0) 2 → ⊥
constant_of_sized_type_is_refused = sized_type_is_refused

first_expression_is_before : IsBefore 1 (ExpressionItem 0)
first_expression_is_before = omega arith

second_expression_is_refused : IsBefore 1 (ExpressionItem 1) → ⊥
second_expression_is_refused l = absurd (omega (arith, l))

abbrev Before : Option ItemPlace → Type 0
Before o = IfSome o (IsBefore 1)

constant_names_before : NamesBefore w 1 (ConstantItem 0)
unfolding world
constant_names_before r e =
    let all = All-cons Before (Some (TypeItem 0)) (Some (ExpressionItem 0) ∷ []) tt (each_of_one Before (Some (ExpressionItem 0)) (omega arith)) in
    subst (λ (x : Row). All Before x.names) (same_Some constant.0 r e) all

constant_before_its_value_is_refused : NamesBefore w 0 (ConstantItem 0) → ⊥
unfolding world
constant_before_its_value_is_refused h = let l : 0 < 0 = all_at (λ o. IfSome o (IsBefore 0)) constant.0.names 1 (Some (ExpressionItem 0)) (h constant.0 refl) refl in absurd (omega (arith, l))

stands_after_constant : StandsAfter w 1 (ConstantItem 0)
stands_after_constant = constant_names_before

expression_after_itself_is_refused : StandsAfter w 1 (ExpressionItem 1) → ⊥
expression_after_itself_is_refused l = absurd (omega (arith, l))

expression_may_stand_after : MayStandAfter w (ExpressionItem 1) (ConstantItem 0)
expression_may_stand_after = constant_names_before

expression_before_its_constant_is_refused : MayStandAfter w (ExpressionItem 0) (ConstantItem 0) → ⊥
expression_before_its_constant_is_refused = constant_before_its_value_is_refused

global_is_in : IsIn w (GlobalItem 0)
unfolding world
global_is_in = (global.0, refl)

missing_global_is_refused : IsIn w (GlobalItem 1) → ⊥
unfolding world
missing_global_is_refused h = absurd (none-some h.0 h.1)

items_stand : ItemsStand w
items_stand = formed.items.items

constant_may_name_number : MayName w (ConstantItem 0) (TypeItem 0)
unfolding world
constant_may_name_number = All-head (λ o. IfSome o (MayName w (ConstantItem 0))) (Some (TypeItem 0)) (Some (ExpressionItem 0) ∷ []) (items_stand.names (ConstantItem 0) constant.0 refl)

named_global_is_refused : MayName w (ConstantItem 0) (GlobalItem 0) → ⊥
named_global_is_refused h = let e : false ≡ true = h.kind in absurd cc

literal_may_be_global : MayBeGlobal (ExpressionKind 0 Nothing)
literal_may_be_global = inl (omega arith)

global_result_is_refused : MayBeGlobal (ExpressionKind 7 Nothing) → ⊥
global_result_is_refused (inl l) = absurd (omega (arith, l))
global_result_is_refused (inr l) = absurd (omega (arith, l))

-- a struct of the second type, which stands first
abbrev astray : ModuleValue
astray = record no_items { types = (record (struct (codes "S")).0 { names = Some (TypeItem 1) ∷ [] }, undefined) ∷ number ∷ [] }

later_type_is_refused : ItemsStand (world astray) → ⊥
unfolding world
later_type_is_refused h = let l : 1 < 0 = (All-head (λ o. IfSome o (MayName (world astray) (TypeItem 0))) (Some (TypeItem 1)) [] (h.names (TypeItem 0) _ refl)).of_type in absurd (omega (arith, l))

items_are_formed : AreFormed full
items_are_formed = formed.items

items_astray_are_refused : AreFormed astray → ⊥
items_astray_are_refused h = later_type_is_refused h.items

spans_are_fine : AreSpansFine full u32_max
spans_are_fine = formed.items.spans

longer_span_is_refused : AreSpansFine full 4 → ⊥
unfolding span_at
longer_span_is_refused h = let l = (h (ExpressionItem 1) (span 4 5) refl).1 in absurd (omega (arith, l))

-- ---- functions

functions_are_formed : AreFunctionsFormed full u32_max
functions_are_formed = formed.functions

nameless_function_is_refused : AreFunctionsFormed (record full { functions = (record f { name = None }, undefined) ∷ [] }) u32_max → ⊥
nameless_function_is_refused h = let e : false ≡ true = h.named 0 _ refl in absurd cc

f_is_known : AreKnown ((f, undefined) ∷ []) ((codes "f", 0) ∷ [])
f_is_known = record { known = known; there = there }
  where
    known : (k : ℕ) (e : FunctionValue × Span) → slice_get ((f, undefined) ∷ []) k ≡ Some e → meant ((codes "f", 0) ∷ []) e.0.name ≡ Some k
    known zero e at = subst (λ (x : FunctionValue × Span). meant ((codes "f", 0) ∷ []) x.0.name ≡ Some 0) (same_Some (f, undefined) e at) refl
    known (suc k) e at = absurd (none-some e at)

    found : (b : Bool) (k : ℕ) → cond b (Some 0) None ≡ Some k → k < 1
    found true k e = let same : 0 ≡ k = cc in omega (arith, same)
    found false k e = absurd (none-some k e)

    there : (name : Text) (k : ℕ) → meant ((codes "f", 0) ∷ []) name ≡ Some k → k < 1
    there None k e = absurd (none-some k e)
    there (Some n) k e = found (bytes_eq n (codes "f")) k e

unknown_function_is_refused : AreKnown ((f, undefined) ∷ []) [] → ⊥
unknown_function_is_refused h = let e : ◌≡◌ {A = Option ℕ} None (Some 0) = h.known 0 (f, undefined) refl in absurd cc

result_of_call : AreResultsOfCalls (call 0)
result_of_call zero k h e = absurd cc
result_of_call (suc zero) k h e = absurd cc
result_of_call (suc (suc zero)) k h e = absurd cc
result_of_call (suc (suc (suc zero))) k h e = let same : 0 ≡ k = cc in (1, subst (λ (n : ℕ). slice_get (call 0) 1 ≡ Some (Callee n)) same refl)
result_of_call (suc (suc (suc (suc i)))) k h e = absurd cc

no_call : (j : ℕ) → slice_get (Callee 1 ∷ GiveCall 0 1 ∷ []) j ≡ Some (Callee 0) → ⊥
no_call zero e = absurd cc
no_call (suc zero) e = absurd cc
no_call (suc (suc j)) e = absurd cc

result_without_call_is_refused : AreResultsOfCalls (Callee 1 ∷ GiveCall 0 1 ∷ []) → ⊥
result_without_call_is_refused h = let c = h 1 0 1 refl in no_call c.0 c.1

named_type_is_there : IsNamedThere full g (TypeOf 1)
named_type_is_there = omega arith

missing_named_type_is_refused : IsNamedThere full g (TypeOf 3) → ⊥
missing_named_type_is_refused l = absurd (omega (arith, l))

call_is_a_result : NamesFunctionAsResult (result_of 0).0
call_is_a_result k e = refl

function_as_value_is_refused : NamesFunctionAsResult (expr 2 [] (FunctionAt 0) []) → ⊥
function_as_value_is_refused h = let e : false ≡ true = h 0 refl in absurd cc

-- ---- entry points

entry_points_are_formed : AreEntriesFormed full u32_max
entry_points_are_formed = formed.entry_points

entry_point_twice_is_refused : AreEntriesFormed (record full { entry_points = entry ∷ entry ∷ [] }) u32_max → ⊥
entry_point_twice_is_refused h = let e : 0 ≡ 1 = h.distinct 0 1 entry entry refl refl refl in absurd (omega (arith, e))

entry_point_is_formed : IsEntryFormed full u32_max entry
entry_point_is_formed = All-head (IsEntryFormed full u32_max) entry [] formed.entry_points.forms

missing_payload_is_refused : IsEntryFormed full u32_max (record entry { task_payload = Some 1 }) → ⊥
missing_payload_is_refused h = let l : 1 < 1 = h.task_payload in absurd (omega (arith, l))

mesh_is_formed : IsMeshFormed full (mesh 0)
mesh_is_formed = entry_point_is_formed.mesh_info

missing_output_is_refused : IsMeshFormed full (mesh 1) → ⊥
missing_output_is_refused h = let l : 1 < 1 = h.output in absurd (omega (arith, l))

expression_is_in : IsExpressionIn full (Some 1)
expression_is_in = omega arith

missing_expression_is_refused : IsExpressionIn full (Some 2) → ⊥
missing_expression_is_refused l = absurd (omega (arith, l))

-- ---- shapes

abbrev Named : Option ItemPlace → Type 0
Named o = IfSome o (λ q. may_name_kind 0 (place_number q) ≡ true)

array_names_as_type : NamesAsType array.0.names
array_names_as_type = All-head (λ e. NamesAsType e.0.names) array [] (λ k d l. has_the_shape.types (suc (suc k)) d (omega (arith, l)))

type_of_constant_is_refused : NamesAsType (Some (ConstantItem 0) ∷ []) → ⊥
type_of_constant_is_refused h = let e : false ≡ true = All-head Named (Some (ConstantItem 0)) [] h in absurd cc

constant_names_type_and_value : NamesTypeAndValue constant.0.names
constant_names_type_and_value = record { ty = 0; value = Some 0; are = refl }

third_name_is_refused : NamesTypeAndValue (Some (TypeItem 0) ∷ None ∷ None ∷ []) → ⊥
third_name_is_refused h = let e : 3 ≡ 2 = ap (λ (ns : List (Option ItemPlace)). length ns) h.are in absurd (omega (arith, e))

global_as_global : NamesGlobalAsGlobal (expr 4 [] (GlobalAt 0) [])
global_as_global k e = refl

global_as_argument_is_refused : NamesGlobalAsGlobal (expr 6 [] (GlobalAt 0) []) → ⊥
global_as_argument_is_refused h = let e : 6 ≡ 4 = h 0 refl in absurd (omega (arith, e))

function_has_its_shape : HasFunctionShape g
function_has_its_shape = has_the_shape.functions 1 (g, span 2 9) (omega arith)

shape_without_call_is_refused : HasFunctionShape (record g { body = Callee 1 ∷ GiveCall 0 1 ∷ [] }) → ⊥
shape_without_call_is_refused h = result_without_call_is_refused h.results

-- ---- sources of derived modules

abbrev over : Derived
over = record nothing { source = Some (record { value = full; offset = 0; places = record { types = []; constants = []; overrides = []; global_variables = []; global_expressions = [] } }) }

full_is_source : HasSource full over
full_is_source = record { set = refl; value = refl }

another_source_is_refused : HasSource no_items over → ⊥
another_source_is_refused h = let e : ◌≡◌ {A = ℕ} 3 0 = ap (λ (m : ModuleValue). length m.types) h.value in absurd (omega (arith, e))

f_is_before : IsNameBefore full 1 (Some (codes "f"))
f_is_before = (0, (f, undefined), omega arith, refl, refl)

g_isnt_before : IsNameBefore full 1 (Some (codes "g")) → ⊥
g_isnt_before (zero, e, l, at, same) =
    let name = ap (λ (x : FunctionValue × Span). x.0.name) (same_Some (f, undefined) e at) in
    let q : true ≡ false = ap (λ (n : Text). option_eq bytes_eq n f.name) (name ∙ same) in
    absurd cc
g_isnt_before (suc k, e, l, at, same) = absurd (omega (arith, l))
