-- A module whose value is formed passes the test of form.
use Rattle.std.proofs.Common.{◌≡◌, ℕ, suc, ◌<◌, Bool, true, false, if◌then◌else◌, List, [], ◌∷◌, ◌++◌, length, map, nat_eq, Option, Some, None, IsSome, option_map, unwrap_or, slice_get, string_bytes, String, Global, refl, ap, sym, ◌∙◌, subst, arith, All, IfSome}
use Rattle.std.specs.Cmp.Lexicographic.{pointwise}
use Rattle.std.specs.List.{AllByRecursion, IsDistinct}
use Rattle.std.proofs.lemmas.Bool.{false≢true}
use Rattle.std.proofs.lemmas.List.{length-map, append-nil}
use Rattle.std.proofs.lemmas.List.Elements.{All-weaker, All-map}
use Rattle.std.proofs.lemmas.Option.{slice_get-map}
use Rattle.naga_oil_words.specs.Marks.{has_module_mark, with_decoration}
use Rattle.naga_oil_ir.specs.Body.{block_tokens}
use Rattle.naga_oil_form.specs.BodyForm.{callee, kinds, callees, named_of, operand_links, IsSpanFine, MayStand}
use Rattle.naga_oil_form.specs.ItemForm.{special_types}
use Rattle.naga_oil_ir.specs.ModuleValue.{ModuleValue, FunctionValue, ArgumentValue, LocalValue, argument_value, local_value, expression_values, function_value, entry_value}
use Rattle.naga_oil_form.specs.NameForm.{NameForm, function_name, entry_name as name_of_entry}
use Rattle.naga_oil_ir.specs.Parts.{Parts, parts}
use Rattle.naga_oil_ir.specs.Rows.{Row, Text, type_row, constant_row, override_row, global_row}
use Rattle.naga_oil_form.specs.WellFormed.{NamedThere, initialisers, FunctionForm, FunctionsForm, IsExpressionThere, MeshForm, EntryForm, SpanForm, WellFormed}
use Rattle.naga_oil_ir.specs.declared.expression.Expression.{Expression}
use Rattle.naga_oil_ir.specs.declared.module.EntryPoint.{EntryPoint}
use Rattle.naga_oil_ir.specs.declared.module.Function.{Function}
use Rattle.naga_oil_ir.specs.declared.module.FunctionArgument.{FunctionArgument}
use Rattle.naga_oil_ir.specs.declared.module.MeshInfo.{MeshInfo}
use Rattle.naga_oil_ir.specs.declared.module.Module.{Module}
use Rattle.naga_oil_ir.specs.declared.names.ItemPlace.TheVariants.{TypeItem, ConstantItem, OverrideItem, GlobalItem, ExpressionItem}
use Rattle.naga_oil_ir.specs.declared.parts.Named.{Named}
use Rattle.naga_oil_ir.specs.declared.parts.Named.TheVariants.{Nothing, TypeOf, ConstantAt, OverrideAt, GlobalAt, LocalAt, ArgumentAt, FunctionAt}
use Rattle.naga_oil_ir.specs.declared.span.Span.{Span}
use Rattle.naga_oil_ir.specs.declared.types.Constant.{Constant as ConstantItself}
use Rattle.naga_oil_ir.specs.declared.types.GlobalVariable.{GlobalVariable as GlobalItself}
use Rattle.naga_oil_ir.specs.declared.types.LocalVariable.{LocalVariable}
use Rattle.naga_oil_ir.specs.declared.types.Override.{Override as OverrideItself}
use Rattle.naga_oil_ir.specs.declared.types.Type.{«Type» as TypeOfShader}
use Rattle.naga_oil_form.proofs.LinkLemmas.{eqb_eq, both}
use Rattle.naga_oil_derive.specs.World.{value_of, span_at}
use Rattle.naga_oil_derive.specs.Copies.{value_links}
use Rattle.naga_oil_derive.specs.DerivedFunctions.{kinds_in, named_in, initialisers_in}
use Rattle.naga_oil_derive.proofs.CopyLoops.{links_of_values}
use Rattle.naga_oil_derive.proofs.FunctionValues.{functions_at, functions_length, named_there}
use Rattle.naga_oil_derive.proofs.Localizing.{kinds_of_values, inits_of_values}
use Rattle.naga_oil_form_laws.specs.EntryForm.{IsExpressionIn, IsMeshFormed, IsEntryFormed, IsModuleFormed, MayBeCopiedFrom}
use Rattle.naga_oil_form_laws.specs.FunctionForm.{IsNamedThere, IsFunctionFormed}
use Rattle.naga_oil_form_laws.proofs.FormedItems.{copyable_items, item_form}
use Rattle.naga_oil_form_laws.proofs.FunctionFormLemmas.{mapped_at}
use Rattle.naga_oil_form_laws.proofs.ParsedFunctions.{types_long, constants_long, overrides_long, globals_long, expressions_long}
use Rattle.naga_oil_form_laws.proofs.RequestLemmas.{map_of, all_at, from_at}

-- ---- distinct names

bytes_same : (xs ys : List ℕ) → pointwise nat_eq xs ys ≡ true → xs ≡ ys
bytes_same [] [] h = refl
bytes_same [] (y ∷ ys) h = absurd (false≢true h)
bytes_same (x ∷ xs) [] h = absurd (false≢true h)
bytes_same (x ∷ xs) (y ∷ ys) h =
    let a = both (nat_eq x y) (pointwise nat_eq xs ys) h in
    let e : x ≡ y = eqb_eq x y a.0 in
    let t : xs ≡ ys = bytes_same xs ys a.1 in
    cc

not_true : (b : Bool) → (b ≡ true → ⊥) → b ≡ false
not_true true f = absurd (f refl)
not_true false f = refl

each_by : (P : List ℕ → Type 0) (xs : List (List ℕ)) → ((k : ℕ) (x : List ℕ) → slice_get xs k ≡ Some x → P x) → AllByRecursion P xs
each_by P [] f = tt
each_by P (x ∷ xs) f = (f 0 x refl, each_by P xs (λ k y e. f (suc k) y e))

distinct_by : (xs : List (List ℕ)) → ((j k : ℕ) (a b : List ℕ) → slice_get xs j ≡ Some a → slice_get xs k ≡ Some b → a ≡ b → j ≡ k) → IsDistinct (pointwise nat_eq) xs
unfolding IsDistinct
distinct_by [] f = tt
distinct_by (x ∷ xs) f =
    (each_by (λ y. pointwise nat_eq x y ≡ false) xs (λ k y e. not_true (pointwise nat_eq x y) (λ h. let n = f 0 (suc k) x y refl e (bytes_same x y h) in absurd (omega (arith, n)))), distinct_by xs (λ j k a b e g h. let n = f (suc j) (suc k) a b e g h in omega (arith, n)))

undecorated_by : (n : List ℕ) (b : Bool) → (if b then n else n ++ []) ≡ n
undecorated_by n true = refl
undecorated_by n false = append-nil n

undecorated : (n : List ℕ) → with_decoration [] n ≡ n
undecorated n = undecorated_by n (has_module_mark n)

text_same : (a b : Text) → IsSome a → IsSome b → unwrap_or a [] ≡ unwrap_or b [] → a ≡ b
text_same None b h i e = absurd (false≢true h)
text_same (Some x) None h i e = absurd (false≢true i)
text_same (Some x) (Some y) h i e = ap Some e

-- ---- functions

named_of_values : (es : List (Expression × Span)) → map (λ (e : Parts × Span). e.0.named) (expression_values es) ≡ named_of es
named_of_values [] = refl
named_of_values (e ∷ es) = ap (λ xs. (parts e.0).named ∷ xs) (named_of_values es)

stands_again : (f : Function) → MayStand (kinds_in (function_value f)) (map callee (named_in (function_value f))) (value_links (function_value f).expressions) (initialisers_in (function_value f)) (block_tokens f.body) → MayStand (kinds f.expressions) (callees f.expressions) (operand_links f.expressions) (initialisers f) (block_tokens f.body)
stands_again f h =
    let v = function_value f in
    let es = f.expressions in
    let a = subst (λ is. MayStand (kinds_in v) (map callee (named_in v)) (value_links v.expressions) is (block_tokens f.body)) (inits_of_values f.local_variables) h in
    let b = subst (λ ls. MayStand (kinds_in v) (map callee (named_in v)) ls (initialisers f) (block_tokens f.body)) (links_of_values es) a in
    let c = subst (λ ns. MayStand (kinds_in v) (map callee ns) (operand_links es) (initialisers f) (block_tokens f.body)) (named_of_values es) b in
    subst (λ ks. MayStand ks (callees es) (operand_links es) (initialisers f) (block_tokens f.body)) (kinds_of_values es) c

module _ (m : Module) where
  abbrev v : ModuleValue
  v = value_of m

  named_back : (f : Function) (x : Named) → IsNamedThere v (function_value f) x → NamedThere m f x
  named_back f Nothing h = tt
  named_back f (TypeOf k) h = let e = types_long m in omega (arith, h, e)
  named_back f (ConstantAt k) h = let e = constants_long m in omega (arith, h, e)
  named_back f (OverrideAt k) h = let e = overrides_long m in omega (arith, h, e)
  named_back f (GlobalAt k) h = let e = globals_long m in omega (arith, h, e)
  named_back f (LocalAt k) h = let e : length (function_value f).local_variables ≡ length f.local_variables = length-map f.local_variables (λ (x : LocalVariable × Span). (local_value x.0, x.1)) in omega (arith, h, e)
  named_back f (ArgumentAt k) h = let e : length (function_value f).arguments ≡ length f.arguments.items = length-map f.arguments.items argument_value in omega (arith, h, e)
  named_back f (FunctionAt k) h = let e = functions_length m in omega (arith, h, e)

  if_type : {X : Type 0} (f : X → ℕ) (o : Option X) → IfSome o (λ x. f x < length v.types) → IfSome o (λ x. f x < length m.types)
  if_type f None h = tt
  if_type f (Some x) h = let e = types_long m in omega (arith, h, e)

  function_form : (c n : ℕ) (f : Function) → IsFunctionFormed v c n (function_value f) → FunctionForm m c n f
  function_form c n f h =
      let types = types_long m in
      let size : length (function_value f).expressions ≡ length f.expressions = length-map f.expressions (λ (e : Expression × Span). (parts e.0, e.1)) in
      let arguments = map_of (λ (a : ArgumentValue). a.ty < length v.types) argument_value f.arguments.items h.arguments in
      let locals = map_of (λ (x : LocalValue × Span). x.0.ty < length v.types) (λ (x : LocalVariable × Span). (local_value x.0, x.1)) f.local_variables h.locals in
      let named = map_of (λ (e : ℕ × List ℕ). e.0 < length (function_value f).expressions) (λ (e : ℕ × String Global). (e.0, string_bytes e.1)) f.named_expressions.entries h.named_expressions in
      let expressions = map_of (λ (e : Parts × Span). IsNamedThere v (function_value f) e.0.named) (λ (e : Expression × Span). (parts e.0, e.1)) f.expressions h.expressions in
      record {
        arguments = All-weaker (λ (a : FunctionArgument). a.ty < length v.types) (λ (a : FunctionArgument). a.ty < length m.types) (λ a i. omega (arith, i, types)) f.arguments.items arguments;
        result = if_type (λ r. r.ty) f.result h.result;
        locals = All-weaker (λ (x : LocalVariable × Span). x.0.ty < length v.types) (λ (x : LocalVariable × Span). x.0.ty < length m.types) (λ x i. omega (arith, i, types)) f.local_variables locals;
        named_expressions = All-weaker (λ (e : ℕ × String Global). e.0 < length (function_value f).expressions) (λ (e : ℕ × String Global). e.0 < length f.expressions) (λ e i. omega (arith, i, size)) f.named_expressions.entries named;
        expressions = All-map (NamedThere m f) (λ (e : Expression × Span). (parts e.0).named) f.expressions (All-weaker (λ (e : Expression × Span). IsNamedThere v (function_value f) (parts e.0).named) (λ (e : Expression × Span). NamedThere m f (parts e.0).named) (λ e i. named_back f (parts e.0).named i) f.expressions expressions);
        statements = h.statements;
        body = stands_again f h.body.form;
        spans = record {
          locals = map_of (λ (x : LocalValue × Span). IsSpanFine n x.1) (λ (x : LocalVariable × Span). (local_value x.0, x.1)) f.local_variables h.local_spans;
          expressions = map_of (λ (e : Parts × Span). IsSpanFine n e.1) (λ (e : Expression × Span). (parts e.0, e.1)) f.expressions h.expression_spans;
        };
      }

  function_there : (k : ℕ) (x : Function × Span) → slice_get m.functions k ≡ Some x → slice_get v.functions k ≡ Some (function_value x.0, x.1)
  function_there k x at = functions_at m k ∙ ap (option_map (λ (y : Function × Span). (let z : FunctionValue × Span = (function_value y.0, y.1) in z))) at

  -- ---- entry points

  expression_back : (o : Option ℕ) → IsExpressionIn v o → IsExpressionThere m o
  expression_back None h = tt
  expression_back (Some k) h = let e = expressions_long m in omega (arith, h, e)

  sizes_back : (o : Option (List (Option ℕ))) → IfSome o (λ os. All (IsExpressionIn v) os) → IfSome o (λ os. All (IsExpressionThere m) os)
  sizes_back None h = tt
  sizes_back (Some os) h = All-weaker (IsExpressionIn v) (IsExpressionThere m) expression_back os h

  mesh_back : (o : Option MeshInfo) → IfSome o (IsMeshFormed v) → IfSome o (MeshForm m)
  mesh_back None h = tt
  mesh_back (Some i) h = record {
    vertex = (let e = types_long m in let a = h.vertex in omega (arith, a, e));
    primitive = (let e = types_long m in let a = h.primitive in omega (arith, a, e));
    output = (let e = globals_long m in let a = h.output in omega (arith, a, e));
    max_vertices = expression_back i.max_vertices h.max_vertices;
    max_primitives = expression_back i.max_primitives h.max_primitives;
  }

  payload_back : (o : Option ℕ) → IfSome o (λ k. k < length v.global_variables) → IfSome o (λ k. k < length m.global_variables)
  payload_back None h = tt
  payload_back (Some k) h = let e = globals_long m in omega (arith, h, e)

  entry_form : (n : ℕ) (e : EntryPoint) → IsEntryFormed v n (entry_value e) → EntryForm m n e
  entry_form n e h = record {
    function = function_form (length m.functions) n e.function (subst (λ c. IsFunctionFormed v c n (function_value e.function)) (functions_length m) h.function);
    workgroup_size = sizes_back e.workgroup_size_overrides h.workgroup_size;
    mesh_info = mesh_back e.mesh_info h.mesh_info;
    task_payload = payload_back e.task_payload h.task_payload;
  }

  entries_same : v.entry_points ≡ map entry_value m.entry_points.items
  unfolding value_of
  entries_same = refl

  entry_there : (k : ℕ) (x : EntryPoint) → slice_get m.entry_points.items k ≡ Some x → slice_get v.entry_points k ≡ Some (entry_value x)
  entry_there k x at = ap (λ es. slice_get es k) entries_same ∙ slice_get-map entry_value m.entry_points.items k ∙ ap (option_map entry_value) at

  -- ---- spans

  type_span : (k : ℕ) (e : TypeOfShader × Span) → slice_get m.types k ≡ Some e → span_at v (TypeItem k) ≡ Some e.1
  unfolding span_at value_of
  type_span k e at = ap (option_map (λ x. x.1)) (slice_get-map (λ (x : TypeOfShader × Span). (let y : Row × Span = (type_row x.0, x.1) in y)) m.types k ∙ ap (option_map (λ (x : TypeOfShader × Span). (let y : Row × Span = (type_row x.0, x.1) in y))) at)

  constant_span : (k : ℕ) (e : ConstantItself × Span) → slice_get m.constants k ≡ Some e → span_at v (ConstantItem k) ≡ Some e.1
  unfolding span_at value_of
  constant_span k e at = ap (option_map (λ x. x.1)) (slice_get-map (λ (x : ConstantItself × Span). (let y : Row × Span = (constant_row x.0, x.1) in y)) m.constants k ∙ ap (option_map (λ (x : ConstantItself × Span). (let y : Row × Span = (constant_row x.0, x.1) in y))) at)

  override_span : (k : ℕ) (e : OverrideItself × Span) → slice_get m.overrides k ≡ Some e → span_at v (OverrideItem k) ≡ Some e.1
  unfolding span_at value_of
  override_span k e at = ap (option_map (λ x. x.1)) (slice_get-map (λ (x : OverrideItself × Span). (let y : Row × Span = (override_row x.0, x.1) in y)) m.overrides k ∙ ap (option_map (λ (x : OverrideItself × Span). (let y : Row × Span = (override_row x.0, x.1) in y))) at)

  global_span : (k : ℕ) (e : GlobalItself × Span) → slice_get m.global_variables k ≡ Some e → span_at v (GlobalItem k) ≡ Some e.1
  unfolding span_at value_of
  global_span k e at = ap (option_map (λ x. x.1)) (slice_get-map (λ (x : GlobalItself × Span). (let y : Row × Span = (global_row x.0, x.1) in y)) m.global_variables k ∙ ap (option_map (λ (x : GlobalItself × Span). (let y : Row × Span = (global_row x.0, x.1) in y))) at)

  expression_span : (k : ℕ) (e : Expression × Span) → slice_get m.global_expressions k ≡ Some e → span_at v (ExpressionItem k) ≡ Some e.1
  unfolding span_at value_of
  expression_span k e at = ap (option_map (λ x. x.1)) (slice_get-map (λ (x : Expression × Span). (let y : Parts × Span = (parts x.0, x.1) in y)) m.global_expressions k ∙ ap (option_map (λ (x : Expression × Span). (let y : Parts × Span = (parts x.0, x.1) in y))) at)

  module _ (f : IsModuleFormed v) where
    spans : SpanForm m 4294967295
    spans = record {
      types = from_at (λ e. IsSpanFine 4294967295 e.1) m.types (λ k e at. f.items.spans (TypeItem k) e.1 (type_span k e at));
      constants = from_at (λ e. IsSpanFine 4294967295 e.1) m.constants (λ k e at. f.items.spans (ConstantItem k) e.1 (constant_span k e at));
      overrides = from_at (λ e. IsSpanFine 4294967295 e.1) m.overrides (λ k e at. f.items.spans (OverrideItem k) e.1 (override_span k e at));
      globals = from_at (λ e. IsSpanFine 4294967295 e.1) m.global_variables (λ k e at. f.items.spans (GlobalItem k) e.1 (global_span k e at));
      expressions = from_at (λ e. IsSpanFine 4294967295 e.1) m.global_expressions (λ k e at. f.items.spans (ExpressionItem k) e.1 (expression_span k e at));
      functions = from_at (λ e. IsSpanFine 4294967295 e.1) m.functions (λ k e at. f.functions.spans k (function_value e.0, e.1) (function_there k e at));
    }

    name_of : Function × Span → List ℕ
    name_of e = with_decoration [] (function_name e.0)

    entry_name_of : EntryPoint → List ℕ
    entry_name_of e = with_decoration [] (name_of_entry e.function)

    functions_apart : (j k : ℕ) (a b : List ℕ) → slice_get (map name_of m.functions) j ≡ Some a → slice_get (map name_of m.functions) k ≡ Some b → a ≡ b → j ≡ k
    unfolding name_of
    functions_apart j k a b e g same =
        let x = mapped_at name_of m.functions j a e in
        let y = mapped_at name_of m.functions k b g in
        let xv = function_there j x.0 x.1 in
        let yv = function_there k y.0 y.1 in
        let bytes : unwrap_or (function_value x.0.0).name [] ≡ unwrap_or (function_value y.0.0).name [] = sym (undecorated (function_name x.0.0)) ∙ x.2 ∙ same ∙ sym y.2 ∙ undecorated (function_name y.0.0) in
        f.functions.distinct j k (function_value x.0.0, x.0.1) (function_value y.0.0, y.0.1) xv yv (text_same (function_value x.0.0).name (function_value y.0.0).name (f.functions.named j (function_value x.0.0, x.0.1) xv) (f.functions.named k (function_value y.0.0, y.0.1) yv) bytes)

    entries_apart : (j k : ℕ) (a b : List ℕ) → slice_get (map entry_name_of m.entry_points.items) j ≡ Some a → slice_get (map entry_name_of m.entry_points.items) k ≡ Some b → a ≡ b → j ≡ k
    unfolding entry_name_of
    entries_apart j k a b e g same =
        let x = mapped_at entry_name_of m.entry_points.items j a e in
        let y = mapped_at entry_name_of m.entry_points.items k b g in
        f.entry_points.distinct j k (entry_value x.0) (entry_value y.0) (entry_there j x.0 x.1) (entry_there k y.0 y.1) (sym (undecorated (name_of_entry x.0.function)) ∙ x.2 ∙ same ∙ sym y.2 ∙ undecorated (name_of_entry y.0.function))

    functions_named : All (λ (e : Function × Span). IsSome e.0.name) m.functions
    functions_named = from_at (λ (e : Function × Span). IsSome e.0.name) m.functions (λ k e at. named_there e.0 (f.functions.named k (function_value e.0, e.1) (function_there k e at)))

    names : NameForm m []
    unfolding name_of entry_name_of
    names = record {
      named = functions_named;
      functions = distinct_by (map name_of m.functions) functions_apart;
      entry_points = distinct_by (map entry_name_of m.entry_points.items) entries_apart;
    }

    functions : FunctionsForm m 4294967295 m.functions
    unfolding FunctionsForm
    functions k e at = function_form k 4294967295 e.0 (f.functions.forms k (function_value e.0, e.1) (function_there k e at))

    entries : All (EntryForm m 4294967295) m.entry_points.items
    entries = from_at (EntryForm m 4294967295) m.entry_points.items (λ k e at. entry_form 4294967295 e (all_at (IsEntryFormed v 4294967295) v.entry_points k (entry_value e) f.entry_points.forms (entry_there k e at)))

    pub well_formed : IsDistinct nat_eq (special_types m.special_types) → WellFormed m [] 4294967295
    well_formed d = record { items = item_form m f.items d; spans = spans; names = names; functions = functions; entry_points = entries }

    pub copied_from : MayBeCopiedFrom m
    copied_from = record { items = copyable_items m f.items; spans = spans; names = names; functions = functions; entry_points = entries }
