-- A module that passes the test of form is formed, as a value.
use Rattle.std.proofs.Common.{◌≡◌, ℕ, zero, suc, ◌<◌, ◌≤◌, Bool, true, false, ◌&&◌, List, [], ◌∷◌, length, map, nat_eq, Option, Some, None, IsSome, option_map, unwrap_or, slice_get, string_bytes, String, Global, refl, ap, sym, ◌∙◌, subst, arith, All, IfSome}
use Rattle.std.specs.Cmp.Lexicographic.{pointwise}
use Rattle.std.specs.List.{AllByRecursion, IsDistinct}
use Rattle.std.proofs.lemmas.Bool.{false≢true}
use Rattle.std.proofs.lemmas.List.{length-map}
use Rattle.std.proofs.lemmas.List.Elements.{All-weaker, All-map}
use Rattle.std.proofs.lemmas.Option.{slice_get-map}
use Rattle.naga_oil_words.specs.Marks.{with_decoration}
use Rattle.naga_oil_ir.specs.Body.{block_tokens}
use Rattle.naga_oil_form.specs.BodyForm.{IsSpanFine, IsTokenFine}
use Rattle.naga_oil_ir.specs.ModuleValue.{ModuleValue, FunctionValue, ArgumentValue, LocalValue, EntryValue, argument_value, local_value, function_value, entry_value}
use Rattle.naga_oil_form.specs.NameForm.{Name, function_name, entry_name as name_of_entry}
use Rattle.naga_oil_ir.specs.Parts.{Parts, parts}
use Rattle.naga_oil_form.specs.WellFormed.{NamedThere, FunctionForm, FunctionsForm, IsExpressionThere, MeshForm, EntryForm, WellFormed}
use Rattle.naga_oil_ir.specs.declared.expression.Expression.{Expression}
use Rattle.naga_oil_ir.specs.declared.expression.Expression.TheVariants.{CallResult}
use Rattle.naga_oil_ir.specs.declared.module.EntryPoint.{EntryPoint}
use Rattle.naga_oil_ir.specs.declared.module.Function.{Function}
use Rattle.naga_oil_ir.specs.declared.module.FunctionArgument.{FunctionArgument}
use Rattle.naga_oil_ir.specs.declared.module.MeshInfo.{MeshInfo}
use Rattle.naga_oil_ir.specs.declared.module.Module.{Module}
use Rattle.naga_oil_ir.specs.declared.parts.Named.{Named}
use Rattle.naga_oil_ir.specs.declared.parts.Named.TheVariants.{Nothing, TypeOf, ConstantAt, OverrideAt, GlobalAt, LocalAt, ArgumentAt, FunctionAt}
use Rattle.naga_oil_ir.specs.declared.span.Span.{Span}
use Rattle.naga_oil_ir.specs.declared.tokens.Token.{Token}
use Rattle.naga_oil_ir.specs.declared.tokens.Token.TheVariants.{At, Head, Plain, Flag, Absent, Open, Close, Use, Give, GiveCall, Emitted, Callee}
use Rattle.naga_oil_ir.specs.declared.types.LocalVariable.{LocalVariable}
use Rattle.naga_oil_form.proofs.LinkLemmas.{eq_eqb}
use Rattle.naga_oil_derive.specs.World.{value_of}
use Rattle.naga_oil_derive.proofs.FormFunctions.{function_named}
use Rattle.naga_oil_derive.proofs.FunctionLaws.{alone}
use Rattle.naga_oil_derive.proofs.FunctionValues.{stands_value, function_at, functions_length}
use Rattle.naga_oil_form_laws.specs.EntryForm.{IsExpressionIn, IsMeshFormed, IsEntryFormed, entry_name, AreEntriesFormed, IsModuleFormed}
use Rattle.naga_oil_form_laws.specs.FunctionForm.{IsNamedThere, NamesFunctionAsResult, IsFunctionFormed, AreFunctionsFormed}
use Rattle.naga_oil_form_laws.proofs.BodyLemmas.{results_of_calls}
use Rattle.naga_oil_form_laws.proofs.FunctionFormLemmas.{mapped_at}
use Rattle.naga_oil_form_laws.proofs.ParsedItems.{fine_more, parsed_items}
use Rattle.naga_oil_form_laws.proofs.RequestLemmas.{map_of, all_at, from_at}

-- ---- distinct names

both_true : (a b : Bool) → a ≡ true → b ≡ true → (a && b) ≡ true
both_true true b h i = i
both_true false b h i = absurd (false≢true h)

same_itself : (xs : List ℕ) → pointwise nat_eq xs xs ≡ true
same_itself [] = refl
same_itself (x ∷ xs) = both_true (nat_eq x x) (pointwise nat_eq xs xs) (eq_eqb x x refl) (same_itself xs)

each_at : (P : List ℕ → Type 0) (xs : List (List ℕ)) (k : ℕ) (x : List ℕ) → AllByRecursion P xs → slice_get xs k ≡ Some x → P x
each_at P [] k x a e = cc
each_at P (y ∷ xs) zero x a e = let g : y ≡ x = cc in subst P g a.0
each_at P (y ∷ xs) (suc k) x a e = each_at P xs k x a.1 e

not_later : (x : List ℕ) (xs : List (List ℕ)) (k : ℕ) (b : List ℕ) → AllByRecursion (λ y. pointwise nat_eq x y ≡ false) xs → slice_get xs k ≡ Some b → x ≡ b → ⊥
not_later x xs k b a e h = false≢true (sym (each_at (λ y. pointwise nat_eq x y ≡ false) xs k b a e) ∙ ap (pointwise nat_eq x) (sym h) ∙ same_itself x)

pub one_place : (xs : List (List ℕ)) → IsDistinct (pointwise nat_eq) xs → (j k : ℕ) (a b : List ℕ) → slice_get xs j ≡ Some a → slice_get xs k ≡ Some b → a ≡ b → j ≡ k
unfolding IsDistinct
one_place [] d j k a b e f h = cc
one_place (x ∷ xs) d zero zero a b e f h = refl
one_place (x ∷ xs) d zero (suc k) a b e f h = let g : x ≡ a = cc in absurd (not_later x xs k b d.0 f (g ∙ h))
one_place (x ∷ xs) d (suc j) zero a b e f h = let g : x ≡ b = cc in absurd (not_later x xs j a d.0 e (g ∙ sym h))
one_place (x ∷ xs) d (suc j) (suc k) a b e f h = ap suc (one_place xs d.1 j k a b e f h)

-- ---- lengths

pub types_long : (m : Module) → length (value_of m).types ≡ length m.types
unfolding value_of
types_long m = length-map m.types _

pub constants_long : (m : Module) → length (value_of m).constants ≡ length m.constants
unfolding value_of
constants_long m = length-map m.constants _

pub overrides_long : (m : Module) → length (value_of m).overrides ≡ length m.overrides
unfolding value_of
overrides_long m = length-map m.overrides _

pub globals_long : (m : Module) → length (value_of m).global_variables ≡ length m.global_variables
unfolding value_of
globals_long m = length-map m.global_variables _

pub expressions_long : (m : Module) → length (value_of m).global_expressions ≡ length m.global_expressions
unfolding value_of
expressions_long m = length-map m.global_expressions _

-- ---- functions

pub names_call : (e : Expression) → NamesFunctionAsResult (parts e)
names_call (CallResult f) g h = refl
names_call _ g h = cc

module _ (m : Module) (n : ℕ) (l : n ≤ 4294967295) where
  abbrev v : ModuleValue
  v = value_of m

  named_value : (f : Function) (x : Named) → NamedThere m f x → IsNamedThere v (function_value f) x
  named_value f Nothing h = tt
  named_value f (TypeOf k) h = let e = types_long m in omega (arith, h, e)
  named_value f (ConstantAt k) h = let e = constants_long m in omega (arith, h, e)
  named_value f (OverrideAt k) h = let e = overrides_long m in omega (arith, h, e)
  named_value f (GlobalAt k) h = let e = globals_long m in omega (arith, h, e)
  named_value f (LocalAt k) h = let e : length (function_value f).local_variables ≡ length f.local_variables = length-map f.local_variables (λ (x : LocalVariable × Span). (local_value x.0, x.1)) in omega (arith, h, e)
  named_value f (ArgumentAt k) h = let e : length (function_value f).arguments ≡ length f.arguments.items = length-map f.arguments.items argument_value in omega (arith, h, e)
  named_value f (FunctionAt k) h = let e = functions_length m in omega (arith, h, e)

  token_value : (c : ℕ) (t : Token) → IsTokenFine c n t → IsTokenFine c 4294967295 t
  token_value c (At s) h = fine_more n 4294967295 s l h
  token_value c (Callee g) h = h
  token_value c (Head x) h = tt
  token_value c (Plain x) h = tt
  token_value c (Flag x) h = tt
  token_value c Absent h = tt
  token_value c (Use x) h = tt
  token_value c (Give x) h = tt
  token_value c (GiveCall f x) h = tt
  token_value c (Emitted x) h = tt
  token_value c Open h = tt
  token_value c Close h = tt

  if_type : {X : Type 0} (f : X → ℕ) (o : Option X) → IfSome o (λ x. f x < length m.types) → IfSome o (λ x. f x < length v.types)
  if_type f None h = tt
  if_type f (Some x) h = let e = types_long m in omega (arith, h, e)

  pub function_formed : (c : ℕ) (f : Function) → FunctionForm m c n f → IsFunctionFormed v c 4294967295 (function_value f)
  function_formed c f h =
      let types = types_long m in
      let size : length (function_value f).expressions ≡ length f.expressions = length-map f.expressions (λ (e : Expression × Span). (parts e.0, e.1)) in
      record {
        arguments = All-map (λ (a : ArgumentValue). a.ty < length v.types) argument_value f.arguments.items (All-weaker (λ (a : FunctionArgument). a.ty < length m.types) (λ (a : FunctionArgument). a.ty < length v.types) (λ a i. omega (arith, i, types)) f.arguments.items h.arguments);
        result = if_type (λ r. r.ty) f.result h.result;
        locals = All-map (λ (x : LocalValue × Span). x.0.ty < length v.types) (λ (x : LocalVariable × Span). (local_value x.0, x.1)) f.local_variables (All-weaker (λ (x : LocalVariable × Span). x.0.ty < length m.types) (λ (x : LocalVariable × Span). x.0.ty < length v.types) (λ x i. omega (arith, i, types)) f.local_variables h.locals);
        named_expressions = All-map (λ (e : ℕ × List ℕ). e.0 < length (function_value f).expressions) (λ (e : ℕ × String Global). (e.0, string_bytes e.1)) f.named_expressions.entries (All-weaker (λ (e : ℕ × String Global). e.0 < length f.expressions) (λ (e : ℕ × String Global). e.0 < length (function_value f).expressions) (λ e i. omega (arith, i, size)) f.named_expressions.entries h.named_expressions);
        expressions = All-map (λ (e : Parts × Span). IsNamedThere v (function_value f) e.0.named) (λ (e : Expression × Span). (parts e.0, e.1)) f.expressions (All-weaker (λ (e : Expression × Span). NamedThere m f (parts e.0).named) (λ (e : Expression × Span). IsNamedThere v (function_value f) (parts e.0).named) (λ e i. named_value f (parts e.0).named i) f.expressions (map_of (NamedThere m f) (λ (e : Expression × Span). (parts e.0).named) f.expressions h.expressions));
        statements = All-weaker (IsTokenFine c n) (IsTokenFine c 4294967295) (token_value c) (block_tokens f.body) h.statements;
        callees = All-map (λ (e : Parts × Span). NamesFunctionAsResult e.0) (λ (e : Expression × Span). (parts e.0, e.1)) f.expressions (from_at (λ (e : Expression × Span). NamesFunctionAsResult (parts e.0)) f.expressions (λ k e at. names_call e.0));
        results = results_of_calls f.body;
        body = record { form = stands_value f h.body; alone = alone f };
        local_spans = All-map (λ (x : LocalValue × Span). IsSpanFine 4294967295 x.1) (λ (x : LocalVariable × Span). (local_value x.0, x.1)) f.local_variables (All-weaker (λ (x : LocalVariable × Span). IsSpanFine n x.1) (λ (x : LocalVariable × Span). IsSpanFine 4294967295 x.1) (λ x i. fine_more n 4294967295 x.1 l i) f.local_variables h.spans.locals);
        expression_spans = All-map (λ (e : Parts × Span). IsSpanFine 4294967295 e.1) (λ (e : Expression × Span). (parts e.0, e.1)) f.expressions (All-weaker (λ (e : Expression × Span). IsSpanFine n e.1) (λ (e : Expression × Span). IsSpanFine 4294967295 e.1) (λ e i. fine_more n 4294967295 e.1 l i) f.expressions h.spans.expressions);
      }

  module _ (d : Name) (f : WellFormed m d n) where
    form_at : (k : ℕ) (x : Function × Span) → slice_get m.functions k ≡ Some x → FunctionForm m k n x.0
    unfolding FunctionsForm
    form_at k x at = f.functions k x at

    name_at : (k : ℕ) (x : Function × Span) → slice_get m.functions k ≡ Some x → slice_get (map (λ (e : Function × Span). with_decoration d (function_name e.0)) m.functions) k ≡ Some (with_decoration d (function_name x.0))
    name_at k x at = slice_get-map (λ (e : Function × Span). with_decoration d (function_name e.0)) m.functions k ∙ ap (option_map (λ (e : Function × Span). with_decoration d (function_name e.0))) at

    functions_formed : AreFunctionsFormed v 4294967295
    functions_formed = record {
      named = λ k e at. (let x = function_at m k e at in subst (λ (y : FunctionValue × Span). IsSome y.0.name) x.2 (function_named m k x.0 x.1 f.names.named));
      distinct = λ j k e g a b same. (let x = function_at m j e a in let y = function_at m k g b in one_place (map (λ (z : Function × Span). with_decoration d (function_name z.0)) m.functions) f.names.functions j k (with_decoration d (function_name x.0.0)) (with_decoration d (function_name y.0.0)) (name_at j x.0 x.1) (name_at k y.0 y.1) (ap (λ z. with_decoration d (unwrap_or z [])) (ap (λ (z : FunctionValue × Span). z.0.name) x.2 ∙ same ∙ sym (ap (λ (z : FunctionValue × Span). z.0.name) y.2))));
      forms = λ k e at. (let x = function_at m k e at in subst (λ (y : FunctionValue × Span). IsFunctionFormed v k 4294967295 y.0) x.2 (function_formed k x.0.0 (form_at k x.0 x.1)));
      spans = λ k e at. (let x = function_at m k e at in subst (λ (y : FunctionValue × Span). IsSpanFine 4294967295 y.1) x.2 (fine_more n 4294967295 x.0.1 l (all_at (λ (z : Function × Span). IsSpanFine n z.1) m.functions k x.0 f.spans.functions x.1)));
    }

    -- ---- entry points

    expression_value : (o : Option ℕ) → IsExpressionThere m o → IsExpressionIn v o
    expression_value None h = tt
    expression_value (Some k) h = let e = expressions_long m in omega (arith, h, e)

    sizes_value : (o : Option (List (Option ℕ))) → IfSome o (λ os. All (IsExpressionThere m) os) → IfSome o (λ os. All (IsExpressionIn v) os)
    sizes_value None h = tt
    sizes_value (Some os) h = All-weaker (IsExpressionThere m) (IsExpressionIn v) expression_value os h

    mesh_value : (o : Option MeshInfo) → IfSome o (MeshForm m) → IfSome o (IsMeshFormed v)
    mesh_value None h = tt
    mesh_value (Some i) h = record {
      vertex = (let e = types_long m in let a = h.vertex in omega (arith, a, e));
      primitive = (let e = types_long m in let a = h.primitive in omega (arith, a, e));
      output = (let e = globals_long m in let a = h.output in omega (arith, a, e));
      max_vertices = expression_value i.max_vertices h.max_vertices;
      max_primitives = expression_value i.max_primitives h.max_primitives;
    }

    payload_value : (o : Option ℕ) → IfSome o (λ k. k < length m.global_variables) → IfSome o (λ k. k < length v.global_variables)
    payload_value None h = tt
    payload_value (Some k) h = let e = globals_long m in omega (arith, h, e)

    entry_formed : (e : EntryPoint) → EntryForm m n e → IsEntryFormed v 4294967295 (entry_value e)
    entry_formed e h = record {
      function = subst (λ c. IsFunctionFormed v c 4294967295 (function_value e.function)) (sym (functions_length m)) (function_formed (length m.functions) e.function h.function);
      workgroup_size = sizes_value e.workgroup_size_overrides h.workgroup_size;
      mesh_info = mesh_value e.mesh_info h.mesh_info;
      task_payload = payload_value e.task_payload h.task_payload;
    }

    entries_same : v.entry_points ≡ map entry_value m.entry_points.items
    unfolding value_of
    entries_same = refl

    entry_at : (k : ℕ) (e : EntryValue) → slice_get v.entry_points k ≡ Some e → (x : EntryPoint) × (slice_get m.entry_points.items k ≡ Some x) × (entry_value x ≡ e)
    entry_at k e at = mapped_at entry_value m.entry_points.items k e (ap (λ es. slice_get es k) (sym entries_same) ∙ at)

    entry_name_at : (k : ℕ) (x : EntryPoint) → slice_get m.entry_points.items k ≡ Some x → slice_get (map (λ (e : EntryPoint). with_decoration d (name_of_entry e.function)) m.entry_points.items) k ≡ Some (with_decoration d (name_of_entry x.function))
    entry_name_at k x at = slice_get-map (λ (e : EntryPoint). with_decoration d (name_of_entry e.function)) m.entry_points.items k ∙ ap (option_map (λ (e : EntryPoint). with_decoration d (name_of_entry e.function))) at

    entries_formed : AreEntriesFormed v 4294967295
    entries_formed = record {
      forms = subst (All (IsEntryFormed v 4294967295)) (sym entries_same) (All-map (IsEntryFormed v 4294967295) entry_value m.entry_points.items (All-weaker (EntryForm m n) (λ x. IsEntryFormed v 4294967295 (entry_value x)) entry_formed m.entry_points.items f.entry_points));
      distinct = λ j k e g a b same. (let x = entry_at j e a in let y = entry_at k g b in one_place (map (λ (z : EntryPoint). with_decoration d (name_of_entry z.function)) m.entry_points.items) f.names.entry_points j k (with_decoration d (name_of_entry x.0.function)) (with_decoration d (name_of_entry y.0.function)) (entry_name_at j x.0 x.1) (entry_name_at k y.0 y.1) (ap (with_decoration d) (ap entry_name x.2 ∙ same ∙ sym (ap entry_name y.2))));
    }

    pub parsed_module : IsDistinct nat_eq (map (λ e. e.0) m.special_types.predeclared_types.entries) → IsModuleFormed v
    parsed_module keys = record {
      items = parsed_items m f.items n l f.spans keys;
      functions = functions_formed;
      entry_points = entries_formed;
    }
