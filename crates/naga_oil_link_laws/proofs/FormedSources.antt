-- Modules of good form can be copied from.
use Rattle.std.proofs.Common.{◌≡◌, inr, ℕ, zero, suc, ◌+◌, ◌<◌, ◌≤◌, List, [], ◌∷◌, ◌++◌, length, map, Option, Some, None, IsSome, IfSome, option_map, slice_get, All, refl, ap, ◌∙◌, arith}
use Rattle.std.proofs.lemmas.List.Elements.{All-nil, All-cons, All-append}
use Rattle.std.proofs.lemmas.Option.{none-some, slice_get_within}
use Rattle.naga_oil_form.specs.BodyForm.{callee, result_kind}
use Rattle.naga_oil_ir.specs.ModuleValue.{ModuleValue, FunctionValue, EntryValue}
use Rattle.naga_oil_ir.specs.Parts.{Parts}
use Rattle.naga_oil_ir.specs.declared.module.MeshInfo.{MeshInfo}
use Rattle.naga_oil_ir.specs.declared.names.ItemPlace.{ItemPlace}
use Rattle.naga_oil_ir.specs.declared.names.ItemPlace.TheVariants.{TypeItem, GlobalItem, ExpressionItem}
use Rattle.naga_oil_ir.specs.declared.parts.Named.{Named}
use Rattle.naga_oil_ir.specs.declared.parts.Named.TheVariants.{Nothing, TypeOf, ConstantAt, OverrideAt, GlobalAt, LocalAt, ArgumentAt, FunctionAt}
use Rattle.naga_oil_ir.specs.declared.span.Span.{Span}
use Rattle.naga_oil_derive.specs.CopiedEntry.{entry_names, sizes_names, mesh_names}
use Rattle.naga_oil_derive.specs.CopiedLaw.{HasAt}
use Rattle.naga_oil_derive.specs.DerivedFunctions.{MayCopy, MayCall}
use Rattle.naga_oil_form_laws.specs.EntryForm.{IsExpressionIn, IsMeshFormed, IsEntryFormed, IsModuleFormed}
use Rattle.naga_oil_form_laws.specs.FunctionForm.{IsFunctionFormed, AreFunctionsFormed, NamesFunctionAsResult}
use Rattle.naga_oil_form_laws.proofs.RankLemmas.{formed_copyable}
use Rattle.naga_oil_form_laws.proofs.RequestLemmas.{type_there, global_there, expression_there, function_there, all_at}
use Rattle.naga_oil_copy_laws.specs.CopiedByTree.{NamesByResults}
use Rattle.naga_oil_copy_laws.specs.HeldCopies.{IsCopyableFunction}
use Rattle.naga_oil_copy_laws.specs.InTurn.{CanCopyWhole, CanCopyModule}
use Rattle.naga_oil_copy_laws.proofs.CallLaws.{given}

-- ---- functions

names_function : (n : Named) (c : ℕ) → callee n ≡ Some c → n ≡ FunctionAt c
names_function (FunctionAt h) c e = cc
names_function Nothing c e = absurd (none-some c e)
names_function (TypeOf h) c e = absurd (none-some c e)
names_function (ConstantAt h) c e = absurd (none-some c e)
names_function (OverrideAt h) c e = absurd (none-some c e)
names_function (GlobalAt h) c e = absurd (none-some c e)
names_function (LocalAt h) c e = absurd (none-some c e)
names_function (ArgumentAt h) c e = absurd (none-some c e)

kind_at : (es : List (Parts × Span)) (k : ℕ) (e : Parts × Span) → slice_get es k ≡ Some e → slice_get (map (λ (x : Parts × Span). x.0.kind) es) k ≡ Some e.0.kind
kind_at [] k e at = absurd (none-some e at)
kind_at (x ∷ es) zero e at = ap (option_map (λ (y : Parts × Span). y.0.kind)) at
kind_at (x ∷ es) (suc k) e at = kind_at es k e at

by_results : (m : ModuleValue) (c n : ℕ) (f : FunctionValue) → IsFunctionFormed m c n f → NamesByResults f
by_results m c n f h k d e at is =
    let own = all_at (λ (x : Parts × Span). NamesFunctionAsResult x.0) f.expressions k e h.callees at in
    ap result_kind (kind_at f.expressions k e at) ∙ own d (names_function e.0.named d is)

pub copyable_function : (m : ModuleValue) (c n : ℕ) (f : FunctionValue) → IsFunctionFormed m c n f → IsCopyableFunction f
copyable_function m c n f h = record { may = h.body; calls = given f h.body (by_results m c n f h) h.results }

-- ---- what they call

-- a function over the handles of a module that calls functions before a place, where those can be called
pub may_copy : (m : ModuleValue) (P : ℕ → Type 0) (c : ℕ) (f : FunctionValue) → c ≤ length m.functions → ((g : ℕ) → g < c → P g) → IsFunctionFormed m c 4294967295 f → MayCopy m P f
may_copy m P c f l w h = record { form = h.body.form; requests = function_there m P c 4294967295 f (λ g i. (omega (arith, i, l), w g i)) h }

may_call : (m : ModuleValue) → AreFunctionsFormed m 4294967295 → (n k : ℕ) → k < n → k < length m.functions → MayCall m [] n k
may_call m h zero k l room = absurd (omega (arith, l))
may_call m h (suc n) k l room = inr (one (λ g i. may_call m h n g (omega (arith, i, l)) (omega (arith, i, room))) (slice_get m.functions k) refl)
  where
    one : ((g : ℕ) → g < k → MayCall m [] n g) → (o : Option (FunctionValue × Span)) → slice_get m.functions k ≡ o → IfSome o (λ e. IsSome e.0.name × MayCopy m (MayCall m [] n) e.0)
    one below None at = tt
    one below (Some e) at = (h.named k e at, may_copy m (MayCall m [] n) k e.0 (omega (arith, room)) below (h.forms k e at))

whole_function : (m : ModuleValue) (c : ℕ) (f : FunctionValue) → AreFunctionsFormed m 4294967295 → c ≤ length m.functions → IsFunctionFormed m c 4294967295 f → CanCopyWhole m f
whole_function m c f all l h =
    let n = length m.functions in
    record { copyable = copyable_function m c 4294967295 f h; reaches = may_copy m (MayCall m [] n) c f l (λ g i. may_call m all n g (omega (arith, i, l)) (omega (arith, i, l))) h }

-- ---- entry points

abbrev IsThere : ModuleValue → Option ItemPlace → Type 0
IsThere m o = IfSome o (HasAt m)

expression_named : (m : ModuleValue) (o : Option ℕ) → IsExpressionIn m o → IsThere m (option_map ExpressionItem o)
expression_named m None h = tt
expression_named m (Some k) h = expression_there m k h

sizes_named : (m : ModuleValue) (os : List (Option ℕ)) → ((k : ℕ) (o : Option ℕ) → slice_get os k ≡ Some o → IsExpressionIn m o) → All (IsThere m) (map (option_map ExpressionItem) os)
sizes_named m [] h = All-nil (IsThere m)
sizes_named m (o ∷ os) h = All-cons (IsThere m) (option_map ExpressionItem o) (map (option_map ExpressionItem) os) (expression_named m o (h 0 o refl)) (sizes_named m os (λ k x at. h (suc k) x at))

size_named : (m : ModuleValue) (o : Option (List (Option ℕ))) → IfSome o (λ os. All (IsExpressionIn m) os) → All (IsThere m) (sizes_names o)
size_named m None h = All-nil (IsThere m)
size_named m (Some os) h = sizes_named m os (λ k o at. all_at (IsExpressionIn m) os k o h at)

mesh_named : (m : ModuleValue) (o : Option MeshInfo) → IfSome o (IsMeshFormed m) → All (IsThere m) (mesh_names o)
mesh_named m None h = All-nil (IsThere m)
mesh_named m (Some i) h =
    let e = option_map ExpressionItem i.max_vertices in
    let f = option_map ExpressionItem i.max_primitives in
    All-cons (IsThere m) (Some (TypeItem i.vertex_output_type)) (Some (TypeItem i.primitive_output_type) ∷ Some (GlobalItem i.output) ∷ e ∷ f ∷ []) (type_there m i.vertex_output_type h.vertex)
    (All-cons (IsThere m) (Some (TypeItem i.primitive_output_type)) (Some (GlobalItem i.output) ∷ e ∷ f ∷ []) (type_there m i.primitive_output_type h.primitive)
    (All-cons (IsThere m) (Some (GlobalItem i.output)) (e ∷ f ∷ []) (global_there m i.output h.output)
    (All-cons (IsThere m) e (f ∷ []) (expression_named m i.max_vertices h.max_vertices) (All-cons (IsThere m) f [] (expression_named m i.max_primitives h.max_primitives) (All-nil (IsThere m))))))

payload_named : (m : ModuleValue) (o : Option ℕ) → IfSome o (λ k. k < length m.global_variables) → IsThere m (option_map GlobalItem o)
payload_named m None h = tt
payload_named m (Some k) h = global_there m k h

pub entry_named : (m : ModuleValue) (v : EntryValue) → IsEntryFormed m 4294967295 v → All (IsThere m) (entry_names v)
entry_named m v h =
    let p = option_map GlobalItem v.task_payload in
    All-append (IsThere m) (sizes_names v.workgroup_size_overrides) (mesh_names v.mesh_info ++ p ∷ []) (size_named m v.workgroup_size_overrides h.workgroup_size)
    (All-append (IsThere m) (mesh_names v.mesh_info) (p ∷ []) (mesh_named m v.mesh_info h.mesh_info) (All-cons (IsThere m) p [] (payload_named m v.task_payload h.task_payload) (All-nil (IsThere m))))

-- ---- all of it

pub can_copy : (m : ModuleValue) → IsModuleFormed m → CanCopyModule m
can_copy m h = record {
  items = (formed_copyable m h.items).0;
  special = (formed_copyable m h.items).1;
  functions = λ k x at. (whole_function m k x.0 h.functions (let l = slice_get_within m.functions k x at in omega (arith, l)) (h.functions.forms k x at), h.functions.named k x at);
  entry_points = λ i v at.
      let own = all_at (IsEntryFormed m 4294967295) m.entry_points i v h.entry_points.forms at in
      (whole_function m (length m.functions) v.function h.functions (omega arith) own.function, entry_named m v own);
}
