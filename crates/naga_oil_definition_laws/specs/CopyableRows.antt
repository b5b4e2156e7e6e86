-- Worked rows: a module that can be copied, and functions of it that can be called and imported; and others that can't.
use Rattle.std.proofs.Common.{◌≡◌, ◌⊎◌, inl, inr, ℕ, zero, suc, ◌<◌, [], ◌∷◌, true, false, Option, Some, None, IfSome, IsSome, slice_get, refl, sym, subst, arith}
use Rattle.std.specs.List.{All}
use Rattle.std.specs.Prelude.{codes, String}
use Rattle.std.specs.declared.alloc.Global.{Global}
use Rattle.naga_oil_words.specs.Marks.{has_module_mark}
use Rattle.naga_oil_form.specs.BodyForm.{IsTokenFine}
use Rattle.naga_oil_form.specs.Form.{is_formed}
use Rattle.naga_oil_form.specs.Links as links
use Rattle.naga_oil_ir.specs.ModuleValue.{ModuleValue, FunctionValue}
use Rattle.naga_oil_ir.specs.Spans.{undefined}
use Rattle.naga_oil_ir.specs.declared.module.Function.{Function}
use Rattle.naga_oil_ir.specs.declared.module.Module.{Module}
use Rattle.naga_oil_ir.specs.declared.span.Span.{Span}
use Rattle.naga_oil_ir.specs.declared.tokens.Token.TheVariants.{Callee}
use Rattle.naga_oil_walk.specs.Naming.{names_from}
use Rattle.naga_oil_walk.specs.declared.walk.Request.TheVariants.{Call}
use Rattle.naga_oil_derive.specs.AnsweredLaw.{CanAnswer}
use Rattle.naga_oil_derive.specs.Derived.{Derived, nothing}
use Rattle.naga_oil_derive.specs.DerivedFunctions.{MayAsk, MayCall, MayCopy, MayReach, CanCall, requests_of}
use Rattle.naga_oil_derive.specs.World.{ItemMap, value_of}
use Rattle.naga_oil_form_laws.specs.DerivedForm.{MayBeImported}
use Rattle.naga_oil_form_laws.specs.EntryForm.{IsModuleFormed, MayBeCopiedFrom}
use Rattle.naga_oil_form_laws.specs.Shape.{HasModuleShape}
use Rattle.naga_oil_form_laws.specs.ShapeTest.{has_shape}
use Rattle.naga_oil_form_laws.proofs.FormedModules.{copied_from}
use Rattle.naga_oil_form_laws.proofs.ImportLemmas.{each_comes}
use Rattle.naga_oil_form_laws.proofs.RequestLemmas.{all_at}
use Rattle.naga_oil_form_laws.proofs.ShapeTests.{shape_test}
use Rattle.naga_oil_redirect.specs.PutInOrderRows.{calling, empty, module_of}
use Rattle.naga_oil_copy_laws.specs.InTurn.{CanCopyModule}
use Rattle.naga_oil_link_laws.proofs.FormedSources.{may_copy, can_copy}
use Rattle.naga_oil_link_laws.proofs.ParsedShapes.{parsed_shape}

-- f, and g, which calls it; the entry point calls g
abbrev pub f : FunctionValue
f = empty (codes "f")

abbrev pub g : FunctionValue
g = calling (codes "g") 0

abbrev pub two : ModuleValue
two = module_of (f ∷ g ∷ []) (calling (codes "main") 1)

-- a function without a name, and one that calls a function that isn't there
abbrev pub nameless : FunctionValue
nameless = record f { name = None }

abbrev pub astray : FunctionValue
astray = calling (codes "f") 5

abbrev pub with_nameless : ModuleValue
with_nameless = module_of (nameless ∷ []) (empty (codes "main"))

abbrev pub with_astray : ModuleValue
with_astray = module_of (astray ∷ []) (empty (codes "main"))

-- ---- modules

has_the_shape : HasModuleShape two
unfolding has_shape
has_the_shape = (shape_test two).0 refl

is_tested : is_formed two [] 9 ≡ true
unfolding is_formed links.trail has_module_mark
is_tested = refl

pub formed : IsModuleFormed two
unfolding has_module_mark
formed = parsed_shape two 0 [] 9 has_the_shape (omega arith) is_tested

pub nameless_isnt_formed : IsModuleFormed with_nameless → ⊥
nameless_isnt_formed h = let e : false ≡ true = h.functions.named 0 (nameless, undefined) refl in absurd cc

-- f, g, and the function of the entry point of `two`
abbrev pub three : ModuleValue
three = module_of (f ∷ g ∷ calling (codes "main") 1 ∷ []) (empty (codes "main"))

three_has_the_shape : HasModuleShape three
unfolding has_shape
three_has_the_shape = (shape_test three).0 refl

three_is_tested : is_formed three [] 9 ≡ true
unfolding is_formed links.trail has_module_mark
three_is_tested = refl

pub three_formed : IsModuleFormed three
unfolding has_module_mark
three_formed = parsed_shape three 0 [] 9 three_has_the_shape (omega arith) three_is_tested

pub copied : CanCopyModule two
copied = can_copy two formed

nameless_is_refused : CanCopyModule with_nameless → ⊥
nameless_is_refused h = let e : false ≡ true = (h.functions 0 (nameless, undefined) refl).1 in absurd cc

-- what a function calls must be there
pub astray_call : MayCopy with_astray (MayCall with_astray [] 1) astray → ⊥
unfolding names_from links.trail
astray_call h = let l : 5 < 1 = (all_at (MayAsk with_astray (MayCall with_astray [] 1)) (requests_of astray) 0 (Call 5) h.requests refl).0 in absurd (omega (arith, l))

astray_is_refused : CanCopyModule with_astray → ⊥
astray_is_refused h = astray_call (h.functions 0 (astray, undefined) refl).0.reaches

-- ---- modules of the code

module _ (m : Module) where
  -- the modules that are copied are those whose values are formed
  two_may_be_copied : value_of m ≡ two → MayBeCopiedFrom m
  two_may_be_copied is = copied_from m (subst IsModuleFormed (sym is) formed)

  -- but none with a function without a name
  nameless_function_is_refused : (g : Function) (span : Span) → slice_get m.functions 0 ≡ Some (g, span) → g.name ≡ None → MayBeCopiedFrom m → ⊥
  nameless_function_is_refused g span at is h =
      let named : IsSome g.name = all_at (λ (e : Function × Span). IsSome e.0.name) m.functions 0 (g, span) h.names.named at in
      let e : false ≡ true = subst (λ (n : Option (String Global)). IsSome n) is named in
      absurd cc

-- ---- functions that can be called

g_may_be_copied : MayCopy two (MayCall two [] 2) g
g_may_be_copied = (copied.functions 1 (g, undefined) refl).0.reaches

second_may_be_asked : MayAsk two (λ k. k < 2) (Call 1)
second_may_be_asked = (omega arith, omega arith)

third_may_not_be_asked : MayAsk two (λ k. k < 3) (Call 2) → ⊥
third_may_not_be_asked h = let l = h.0 in absurd (omega (arith, l))

-- f calls nothing, and g calls f
may_call_f : (n : ℕ) → MayCall two [] (suc n) 0
may_call_f n = inr (refl, may_copy two (MayCall two [] n) 0 f (omega arith) (λ k l. absurd (omega (arith, l))) (formed.functions.forms 0 (f, undefined) refl))

may_call_g : MayCall two [] 2 1
may_call_g = inr (refl, may_copy two (MayCall two [] 1) 1 g (omega arith) below (formed.functions.forms 1 (g, undefined) refl))
  where
    below : (k : ℕ) → k < 1 → MayCall two [] 1 k
    below zero l = may_call_f 0
    below (suc k) l = absurd (omega (arith, l))

module _ (places : ItemMap) (target : ModuleValue) where
  -- a derived module with a source, of which nothing is copied yet
  abbrev over : ModuleValue → Derived
  over m = record { source = Some (record { value = m; offset = 0; places = places }); target = target; function_names = [] }

  first_is_called : CanCall (over two) 0
  first_is_called = (refl, (omega arith, may_call_f 1))

  second_is_called : CanCall (over two) 1
  second_is_called = (refl, (omega arith, may_call_g))

  pub both_are_answered : CanAnswer (over two) (Call 0 ∷ Call 1 ∷ [])
  both_are_answered = (refl, each)
    where
      each : All (MayAsk two (MayReach [] (record { value = two; offset = 0; places = places }))) (Call 0 ∷ Call 1 ∷ [])
      each zero d l = first_is_called.1
      each (suc zero) d l = second_is_called.1
      each (suc (suc k)) d l = absurd (omega (arith, l))

  third_is_refused : CanCall (over two) 2 → ⊥
  third_is_refused h = let l : 2 < 2 = h.1.0 in absurd (omega (arith, l))

  second_is_reached : MayReach [] (record { value = two; offset = 0; places = places }) 1
  second_is_reached = may_call_g

  astray_isnt_reached : MayReach [] (record { value = with_astray; offset = 0; places = places }) 0 → ⊥
  unfolding names_from links.trail
  astray_isnt_reached = neither
    where
      neither : IsSome {T = ℕ} None ⊎ IfSome {T = FunctionValue × Span} (Some (astray, undefined)) (λ e. IsSome e.0.name × MayCopy with_astray (MayCall with_astray [] 0) e.0) → ⊥
      neither (inl e) = absurd cc
      neither (inr p) = let l : 5 < 1 = (all_at (MayAsk with_astray (MayCall with_astray [] 0)) (requests_of astray) 0 (Call 5) p.1.requests refl).0 in absurd (omega (arith, l))

  astray_caller_is_refused : CanCall (over with_astray) 0 → ⊥
  astray_caller_is_refused h = astray_isnt_reached h.1.1

  -- ---- functions that may be imported

  second_is_imported : MayBeImported (over two) 1 g undefined
  second_is_imported = (refl, each_comes two 1 (g, undefined) formed.functions refl)

  nameless_import_is_refused : (c : ℕ) → MayBeImported (over two) c nameless undefined → ⊥
  nameless_import_is_refused c h = let e : false ≡ true = h.1.named in absurd cc

  -- a function that stands before its place has its name
  name_twice_is_refused : MayBeImported (over two) 1 f undefined → ⊥
  name_twice_is_refused h = h.1.apart 0 (f, undefined) (omega arith) refl refl

  -- it calls a function that stands at its place
  later_call_is_refused : MayBeImported (over two) 1 (calling (codes "h") 1) undefined → ⊥
  later_call_is_refused h = let l : 1 < 1 = all_at (IsTokenFine 1 4294967295) (calling (codes "h") 1).body 1 (Callee 1) h.1.form.statements refl in absurd (omega (arith, l))

call_without_source_is_refused : (k : ℕ) → CanCall nothing k → ⊥
call_without_source_is_refused k h = let e : false ≡ true = h.0 in absurd cc

import_without_source_is_refused : (c : ℕ) → MayBeImported nothing c g undefined → ⊥
import_without_source_is_refused c h = let e : false ≡ true = h.0 in absurd cc
