-- What copies require of their source, which passes the test of form.
use Rattle.std.proofs.Common.{◌≡◌, inr, ℕ, zero, suc, ◌<◌, ◌≤◌, List, [], ◌∷◌, ◌++◌, length, slice_get, Option, Some, None, IsSome, option_map, false, IfSome, refl, ap, sym, ◌∙◌, subst, All, get_or, append-nil, arith}
use Rattle.std.proofs.lemmas.List.Elements.{All-nil, All-cons, All-head, All-tail, All-same, All-weaker}
use Rattle.std.proofs.lemmas.Option.{slice_get_within, slice_get-get_or}
use Rattle.naga_oil_ir.specs.Body.{block_tokens}
use Rattle.naga_oil_form.specs.BodyForm.{is_result, IsTokenFine}
use Rattle.naga_oil_form.specs.ItemForm.{IsThere}
use Rattle.naga_oil_ir.specs.ModuleValue.{ModuleValue, FunctionValue, function_value, module_value}
use Rattle.naga_oil_ir.specs.Rows.{Row}
use Rattle.naga_oil_form.specs.WellFormed.{FunctionForm, FunctionsForm}
use Rattle.naga_oil_ir.specs.declared.module.Function.{Function}
use Rattle.naga_oil_ir.specs.declared.module.Module.{Module}
use Rattle.naga_oil_ir.specs.declared.names.ItemPlace.{ItemPlace}
use Rattle.naga_oil_ir.specs.declared.span.Span.{Span}
use Rattle.naga_oil_ir.specs.declared.tokens.Token.{Token}
use Rattle.naga_oil_ir.specs.declared.tokens.Token.TheVariants.{Callee}
use Rattle.naga_oil_derive.specs.Derived.{Source, Derived, HasItem, KeepsSource, Keeps}
use Rattle.naga_oil_derive.specs.DerivedEntries.{CanCopyEntries}
use Rattle.naga_oil_derive.specs.DerivedValue.{set_source, copy_special}
use Rattle.naga_oil_derive.specs.DerivedFunctions.{Meanings, KeepsFunctions, CanImport, MayAsk, MayCopy, MayCall, requests_of, signature_requests}
use Rattle.naga_oil_walk.specs.declared.walk.Request.{Request}
use Rattle.naga_oil_derive.specs.World.{world, value_of}
use Rattle.naga_oil_derive.proofs.FormEntries.{HasSource, source_copy, entries_can}
use Rattle.naga_oil_derive.proofs.FormFunctions.{CallsIn, form_copy, function_named}
use Rattle.naga_oil_derive.proofs.FunctionValues.{seen, functions_length, functions_at}
use Rattle.naga_oil_derive.proofs.RankLemmas.{place_there}
use Rattle.naga_oil_form_laws.specs.EntryForm.{IsModuleFormed, MayBeCopiedFrom}
use Rattle.naga_oil_form_laws.proofs.FormedModules.{copied_from}
use Rattle.naga_oil_link.specs.CopySources.{CopiesFrom, IsFunctionOf, stub_of}

-- ---- the source stays

-- the source that was set, in the copies
pub from_set_source : (m : Module) (shift : ℕ) (d e : Derived) → IsModuleFormed (module_value m) → e ≡ set_source d (value_of m) shift → CopiesFrom m e
unfolding CopiesFrom value_of
from_set_source m shift d e w h = record { form = w; source = record { value = value_of m; offset = shift; places = (copy_special d (value_of m) shift).places }; set = ap (λ (x : Derived). x.source) h; value = refl }

later : (m : Module) (s : Source) (o : Option Source) → s.value ≡ value_of m → KeepsSource (Some s) o → (t : Source) × (o ≡ Some t) × (t.value ≡ value_of m)
later m s None v k = absurd k
later m s (Some t) v k = (t, refl, k.value ∙ v)

from_kept : (m : Module) (d e : Derived) → CopiesFrom m d → KeepsSource d.source e.source → CopiesFrom m e
unfolding CopiesFrom
from_kept m d e c k =
    let l = later m c.source e.source c.value (subst (λ (o : Option Source). KeepsSource o e.source) c.set k) in
    record { form = c.form; source = l.0; set = l.1; value = l.2 }

pub from_keeps : (m : Module) (d e : Derived) → CopiesFrom m d → Keeps d e → CopiesFrom m e
from_keeps m d e c k = from_kept m d e c k.source

pub from_keeps_functions : (m : Module) (d e : Derived) → CopiesFrom m d → KeepsFunctions d e → CopiesFrom m e
from_keeps_functions m d e c k = from_kept m d e c k.source

-- ---- what is there

-- what holds of each source with this value holds of the one that is set
pub at_source : (m : Module) (d : Derived) → CopiesFrom m d → (Q : Source → Type 0) → ((s : Source) → s.value ≡ value_of m → Q s) → IsSome d.source × IfSome d.source Q
unfolding CopiesFrom
at_source m d c Q h = (subst (λ (o : Option Source). IsSome o) (sym c.set) refl, subst (λ (o : Option Source). IfSome o Q) (sym c.set) (h c.source c.value))

pub is_set : (m : Module) (d : Derived) → CopiesFrom m d → IsSome d.source
is_set m d c = (at_source m d c (λ s. Unit {0}) (λ s e. tt)).0

form_of : (m : Module) (d : Derived) → CopiesFrom m d → MayBeCopiedFrom m
unfolding CopiesFrom
form_of m d c = copied_from m c.form

pub has_item : (m : Module) (d : Derived) (p : ItemPlace) → CopiesFrom m d → IsThere m p → HasItem d p
has_item m d p c h =
    let r = place_there m p h in
    at_source m d c (λ s. (r : Row) × (world s.value p ≡ Some r)) (λ s e. (r.0, ap (λ (v : ModuleValue). world v p) e ∙ r.1))

-- ---- functions

front : {X : Type 0} (P : X → Type 0) (xs ys : List X) → All P (xs ++ ys) → All P xs
front P [] ys h = All-nil P
front P (x ∷ xs) ys h = All-cons P x xs (All-head P x (xs ++ ys) h) (front P xs ys (All-tail P x (xs ++ ys) h))

-- what a function with its name, arguments and result only names
stub_requests : (P : Request → Type 0) (f : FunctionValue) → All P (requests_of f) → All P (requests_of (stub_of f))
stub_requests P f h =
    let own : All P (signature_requests f) = front P (signature_requests f) _ (front P _ _ h) in
    All-same P (requests_of (stub_of f)) (signature_requests f) (append-nil (signature_requests f ++ []) ∙ append-nil (signature_requests f)) own

stub_copied : (m : ModuleValue) (P : ℕ → Type 0) (f : FunctionValue) → MayCopy m P f → MayCopy m P (stub_of f)
stub_copied m P f h = record {
  form = record { earlier = λ k. All-nil (λ x. x < k); there = All-nil (λ x. x < 0); no_results = All-nil (λ x. is_result [] x ≡ false); body = tt };
  requests = stub_requests (MayAsk m P) f h.requests;
}

form_at : (m : Module) (k : ℕ) (e : Function × Span) → slice_get m.functions k ≡ Some e → FunctionsForm m 4294967295 m.functions → FunctionForm m k 4294967295 e.0
unfolding FunctionsForm
form_at m k e at h = h k e at

-- the function at a step of a walk
pub function_at : (m : Module) (k : ℕ) (e : Function × Span) → k < length m.functions → e ≡ get_or m.functions k e → IsFunctionOf m e
function_at m k e l is = (k, slice_get-get_or m.functions k e l ∙ ap (λ x. Some x) (sym is))

pub item_at : (m : Module) (fs : List (Function × Span)) (k : ℕ) (e : Function × Span) → fs ≡ m.functions → k < length fs → e ≡ get_or fs k e → IsFunctionOf m e
item_at m fs k e same l is = function_at m k e (subst (λ (xs : List (Function × Span)). k < length xs) same l) (is ∙ ap (λ (xs : List (Function × Span)). get_or xs k e) same)

-- the place at a step of a walk over places
pub place_at : (m : Module) (ps qs : List ItemPlace) (k : ℕ) (p : ItemPlace) → All (IsThere m) ps → qs ≡ ps → k < length qs → p ≡ get_or qs k p → IsThere m p
place_at m ps qs k p h e l is = subst (IsThere m) (sym is) (subst (λ (xs : List ItemPlace). All (IsThere m) xs) (sym e) h k p l)

-- the functions that are called stand before a place
call_before : (m : Module) (P : ℕ → Type 0) (c n : ℕ) → c ≤ length m.functions → ((g : ℕ) → g < c → P g) → (t : Token) → IsTokenFine c n t → CallsIn m P t
call_before m P c n l w (Callee g) h = (omega (arith, l, h), w g h)
call_before m P c n l w _ h = tt

body_copied : (m : Module) (P : ℕ → Type 0) (c : ℕ) (f : Function) → c ≤ length m.functions → ((g : ℕ) → g < c → P g) → FunctionForm m c 4294967295 f → MayCopy (value_of m) P (function_value f)
body_copied m P c f l w h = form_copy m P c 4294967295 f h (All-weaker (IsTokenFine c 4294967295) (CallsIn m P) (call_before m P c 4294967295 l w) (block_tokens f.body) h.statements)

function_copied : (m : Module) (P : ℕ → Type 0) (k : ℕ) → ((g : ℕ) → g < k → P g) → MayBeCopiedFrom m → (o : Option (Function × Span)) → slice_get m.functions k ≡ o → IfSome (option_map seen o) (λ e. IsSome e.0.name × MayCopy (value_of m) P e.0)
function_copied m P k w h None at = tt
function_copied m P k w h (Some e) at =
    let l = slice_get_within m.functions k e at in
    (function_named m k e at h.names.named, body_copied m P k e.0 (omega (arith, l)) w (form_at m k e at h.functions))

-- each function can be called, at a depth that is greater than its place
may_call : (m : Module) (ns : Meanings) → MayBeCopiedFrom m → (depth k : ℕ) → k < depth → MayCall (value_of m) ns depth k
may_call m ns h zero k l = absurd (omega arith)
may_call m ns h (suc depth) k l =
    let P = MayCall (value_of m) ns depth in
    inr (subst (λ (o : Option (FunctionValue × Span)). IfSome o (λ e. IsSome e.0.name × MayCopy (value_of m) P e.0)) (sym (functions_at m k)) (function_copied m P k (λ g i. may_call m ns h depth g (omega (arith, i, l))) h (slice_get m.functions k) refl))

module _ (m : Module) (d : Derived) (c : CopiesFrom m d) where
  has_source : HasSource (value_of m) d
  has_source = at_source m d c (λ s. s.value ≡ value_of m) (λ s e. e)

  may_copy : (k : ℕ) (f : Function) → k ≤ length m.functions → FunctionForm m k 4294967295 f → MayCopy (value_of m) (MayCall (value_of m) d.function_names (length (value_of m).functions)) (function_value f)
  may_copy k f l h =
      let e = functions_length m in
      let size = length (value_of m).functions in
      body_copied m (MayCall (value_of m) d.function_names size) k f l (λ g i. may_call m d.function_names (form_of m d c) size g (omega (arith, i, l, e))) h

  function_copy : (e : Function × Span) → IsFunctionOf m e → MayCopy (value_of m) (MayCall (value_of m) d.function_names (length (value_of m).functions)) (function_value e.0)
  function_copy e stands =
      let l = slice_get_within m.functions stands.0 e stands.1 in
      may_copy stands.0 e.0 (omega (arith, l)) (form_at m stands.0 e stands.1 (form_of m d c).functions)

  -- each function of the source can be imported
  pub can_import : (e : Function × Span) → IsFunctionOf m e → CanImport d (function_value e.0)
  can_import e stands =
      (source_copy m d (function_value e.0) has_source (function_copy e stands), function_named m stands.0 e stands.1 (form_of m d c).names.named)

  -- each function can also be imported without its body
  pub can_import_stub : (e : Function × Span) (v : FunctionValue) → IsFunctionOf m e → v ≡ stub_of (function_value e.0) → CanImport d v
  can_import_stub e v stands is =
      subst (CanImport d) (sym is) (source_copy m d (stub_of (function_value e.0)) has_source (stub_copied (value_of m) _ (function_value e.0) (function_copy e stands)), (can_import e stands).1)

  -- all entry points can be imported
  pub can_copy_entries : CanCopyEntries d
  can_copy_entries = entries_can m d 4294967295 has_source (λ f h. source_copy m d (function_value f) has_source (may_copy (length m.functions) f (omega arith) h)) (form_of m d c).entry_points
