-- Modules with other names, and with more functions, stay formed.
use Rattle.std.proofs.Common.{◌≡◌, ◌⊎◌, inl, inr, ⊎_elim, ℕ, zero, suc, ◌+◌, ◌<◌, List, [], ◌∷◌, ◌++◌, length, map, Option, Some, None, IsSome, option_map, unwrap_or, slice_get, refl, ap, sym, ◌∙◌, subst, arith, All, IfSome}
use Rattle.std.proofs.lemmas.List.{length-map, length-append}
use Rattle.std.proofs.lemmas.List.Elements.{All-nil, All-weaker, All-map}
use Rattle.std.proofs.lemmas.Option.{none-some, slice_get-map}
use Rattle.naga_oil_words.specs.Marks.{with_decoration}
use Rattle.naga_oil_form.specs.BodyForm.{IsSpanFine}
use Rattle.naga_oil_ir.specs.ModuleValue.{ModuleValue, FunctionValue, ArgumentValue, function_value}
use Rattle.naga_oil_form.specs.NameForm.{function_name}
use Rattle.naga_oil_ir.specs.Parts.{Parts}
use Rattle.naga_oil_ir.specs.Rows.{Row, Text}
use Rattle.naga_oil_form.specs.WellFormed.{WellFormed}
use Rattle.naga_oil_ir.specs.declared.module.Function.{Function}
use Rattle.naga_oil_ir.specs.declared.module.FunctionResult.{FunctionResult}
use Rattle.naga_oil_ir.specs.declared.module.Module.{Module}
use Rattle.naga_oil_ir.specs.declared.names.ItemPlace.{ItemPlace}
use Rattle.naga_oil_ir.specs.declared.names.ItemPlace.TheVariants.{TypeItem, ConstantItem, OverrideItem, GlobalItem, ExpressionItem}
use Rattle.naga_oil_ir.specs.declared.span.Span.{Span}
use Rattle.naga_oil_derive.specs.Tree.{World}
use Rattle.naga_oil_derive.specs.World.{value_of, world, span_at, special_entries}
use Rattle.naga_oil_derive.specs.CopiedLaw.{kind_number}
use Rattle.naga_oil_ir.specs.declared.parts.Named.{Named}
use Rattle.naga_oil_ir.specs.declared.parts.Named.TheVariants.{Nothing, TypeOf, ConstantAt, OverrideAt, GlobalAt, LocalAt, ArgumentAt, FunctionAt}
use Rattle.naga_oil_derive.proofs.FormFunctions.{function_named}
use Rattle.naga_oil_derive.proofs.FunctionValues.{function_at}
use Rattle.naga_oil_derive.proofs.SpecialLemmas.{Entry}
use Rattle.naga_oil_form_laws.specs.EntryForm.{IsEntryFormed, IsModuleFormed}
use Rattle.naga_oil_form_laws.specs.FunctionForm.{IsNamedThere, IsFunctionFormed, AreFunctionsFormed}
use Rattle.naga_oil_form_laws.specs.ItemsStand.{OfType, ReachesOnly, AllReached, IsFixed, IsUnsized, MayNameType, IsBefore, NamesBefore, StandsAfter, MayStandAfter, IsIn, MayName, MayBeGlobal, ItemsStand, IsPlain, MayBeSpecial, AreFormed}
use Rattle.naga_oil_form_laws.specs.OwnedForm.{name_item, name_function, name_items, KeepsNames, without_binding, result_without_binding, without_bindings, append_functions, MayBeAppended}
use Rattle.naga_oil_form_laws.proofs.EntryLemmas.{calls_more, entry_later}
use Rattle.naga_oil_form_laws.proofs.FunctionFormLemmas.{mapped_at}
use Rattle.naga_oil_form_laws.proofs.ImportLemmas.{HasMore, form_later}
use Rattle.naga_oil_form_laws.proofs.ParsedFunctions.{one_place}
use Rattle.naga_oil_form_laws.proofs.RequestLemmas.{all_at}

-- ---- worlds that name the same

-- a world, and the world with other names of items that are no types
record NamesSame (v u : World) : Type 0 where
  types : (k : ℕ) → u (TypeItem k) ≡ v (TypeItem k)
  from : (p : ItemPlace) (r : Row) → u p ≡ Some r → (s : Row) × (v p ≡ Some s) × (r.names ≡ s.names) × (r.label.kind ≡ s.label.kind)
  there : (p : ItemPlace) (r : Row) → v p ≡ Some r → IsIn u p

module _ (v u : World) (same : NamesSame v u) where
  names_some : (P Q : ItemPlace → Type 0) → ((q : ItemPlace) → P q → Q q) → (ns : List (Option ItemPlace)) → All (λ o. IfSome o P) ns → All (λ o. IfSome o Q) ns
  names_some P Q f ns a = All-weaker (λ o. IfSome o P) (λ o. IfSome o Q) one ns a
    where
      one : (o : Option ItemPlace) → IfSome o P → IfSome o Q
      one None h = tt
      one (Some q) h = f q h

  of_types : (P Q : ℕ → Type 0) → ((k : ℕ) → P k → Q k) → (q : ItemPlace) → OfType P q → OfType Q q
  of_types P Q f (TypeItem k) h = f k h
  of_types P Q f (ConstantItem k) h = tt
  of_types P Q f (OverrideItem k) h = tt
  of_types P Q f (GlobalItem k) h = tt
  of_types P Q f (ExpressionItem k) h = tt

  reaches_same : (P : ℕ → Row → Type 0) (n k : ℕ) → ReachesOnly n v P k → ReachesOnly n u P k
  unfolding ReachesOnly
  reaches_same P zero k h = tt
  reaches_same P (suc n) k h = λ r e.
      let x = h r (sym (same.types k) ∙ e) in
      (x.0, names_some (OfType (ReachesOnly n v P)) (OfType (ReachesOnly n u P)) (of_types (ReachesOnly n v P) (ReachesOnly n u P) (reaches_same P n)) r.names x.1)

  all_same : (P : ℕ → Row → Type 0) (k : ℕ) → AllReached v P k → AllReached u P k
  all_same P k h n = reaches_same P n k (h n)

  type_same : (p : ItemPlace) (j : ℕ) → MayNameType v p j → MayNameType u p j
  type_same (TypeItem k) j h = h
  type_same (ConstantItem k) j h = all_same IsFixed j h
  type_same (OverrideItem k) j h = all_same IsFixed j h
  type_same (GlobalItem k) j h = h
  type_same (ExpressionItem k) j h = all_same IsFixed j h

  before_same : (k : ℕ) (p : ItemPlace) → NamesBefore v k p → NamesBefore u k p
  before_same k p h = λ r e. let x = same.from p r e in subst (λ ns. All (λ o. IfSome o (IsBefore k)) ns) (sym x.2) (h x.0 x.1)

  after_same : (k : ℕ) (q : ItemPlace) → StandsAfter v k q → StandsAfter u k q
  after_same k (TypeItem j) h = h
  after_same k (ConstantItem j) h = before_same k (ConstantItem j) h
  after_same k (OverrideItem j) h = before_same k (OverrideItem j) h
  after_same k (GlobalItem j) h = h
  after_same k (ExpressionItem j) h = h

  stand_same : (p q : ItemPlace) → MayStandAfter v p q → MayStandAfter u p q
  stand_same (TypeItem k) q h = tt
  stand_same (ConstantItem k) q h = tt
  stand_same (OverrideItem k) q h = tt
  stand_same (GlobalItem k) q h = tt
  stand_same (ExpressionItem k) q h = after_same k q h

  name_same : (p q : ItemPlace) → MayName v p q → MayName u p q
  name_same p q h = record {
    there = same.there q h.there.0 h.there.1;
    kind = h.kind;
    of_type = of_types (MayNameType v p) (MayNameType u p) (type_same p) q h.of_type;
    following = stand_same p q h.following;
  }

  items_same : ItemsStand v → ItemsStand u
  items_same i = record {
    names = λ p r e. (let x = same.from p r e in subst (λ ns. All (λ o. IfSome o (MayName u p)) ns) (sym x.2) (names_some (MayName v p) (MayName u p) (name_same p) x.0.names (i.names p x.0 x.1)));
    kinds = λ p r e. (let x = same.from p r e in subst MayBeGlobal (sym x.3) (i.kinds p x.0 x.1));
  }

-- ---- other names

row_at : (g : Text → Text) (xs : List (Row × Span)) (k : ℕ) (r : Row) → option_map (λ (e : Row × Span). e.0) (slice_get (map (name_item g) xs) k) ≡ Some r → (s : Row) × (option_map (λ (e : Row × Span). e.0) (slice_get xs k) ≡ Some s) × (r.names ≡ s.names) × (r.label.kind ≡ s.label.kind)
row_at g [] k r e = cc
row_at g (x ∷ xs) zero r e = let q : (name_item g x).0 ≡ r = cc in (x.0, refl, ap (λ (y : Row). y.names) (sym q), ap (λ (y : Row). y.label.kind) (sym q))
row_at g (x ∷ xs) (suc k) r e = row_at g xs k r e

row_there : (g : Text → Text) (xs : List (Row × Span)) (k : ℕ) (r : Row) → option_map (λ (e : Row × Span). e.0) (slice_get xs k) ≡ Some r → (s : Row) × (option_map (λ (e : Row × Span). e.0) (slice_get (map (name_item g) xs) k) ≡ Some s)
row_there g [] k r e = cc
row_there g (x ∷ xs) zero r e = ((name_item g x).0, refl)
row_there g (x ∷ xs) (suc k) r e = row_there g xs k r e

span_of : (g : Text → Text) (xs : List (Row × Span)) (k : ℕ) → option_map (λ (e : Row × Span). e.1) (slice_get (map (name_item g) xs) k) ≡ option_map (λ (e : Row × Span). e.1) (slice_get xs k)
span_of g [] k = refl
span_of g (x ∷ xs) zero = refl
span_of g (x ∷ xs) (suc k) = span_of g xs k

module _ (g : Text → Text) (m : ModuleValue) where
  abbrev n : ModuleValue
  n = name_items g m

  from_named : (p : ItemPlace) (r : Row) → world n p ≡ Some r → (s : Row) × (world m p ≡ Some s) × (r.names ≡ s.names) × (r.label.kind ≡ s.label.kind)
  unfolding world
  from_named (TypeItem k) r e = (r, e, refl, refl)
  from_named (ConstantItem k) r e = row_at g m.constants k r e
  from_named (OverrideItem k) r e = row_at g m.overrides k r e
  from_named (GlobalItem k) r e = row_at g m.global_variables k r e
  from_named (ExpressionItem k) r e = (r, e, refl, refl)

  named_there : (p : ItemPlace) (r : Row) → world m p ≡ Some r → IsIn (world n) p
  unfolding world
  named_there (TypeItem k) r e = (r, e)
  named_there (ConstantItem k) r e = row_there g m.constants k r e
  named_there (OverrideItem k) r e = row_there g m.overrides k r e
  named_there (GlobalItem k) r e = row_there g m.global_variables k r e
  named_there (ExpressionItem k) r e = (r, e)

  types_stay : (k : ℕ) → world n (TypeItem k) ≡ world m (TypeItem k)
  unfolding world
  types_stay k = refl

  worlds : NamesSame (world m) (world n)
  worlds = record { types = types_stay; from = from_named; there = named_there }

  spans_same : (p : ItemPlace) → span_at n p ≡ span_at m p
  unfolding span_at
  spans_same (TypeItem k) = refl
  spans_same (ConstantItem k) = span_of g m.constants k
  spans_same (OverrideItem k) = span_of g m.overrides k
  spans_same (GlobalItem k) = span_of g m.global_variables k
  spans_same (ExpressionItem k) = refl

  special_named : (k : ℕ) → MayBeSpecial m k → MayBeSpecial n k
  special_named k h = record {
    there = named_there (TypeItem k) h.there.0 h.there.1;
    unsized = all_same (world m) (world n) worlds IsFixed k h.unsized;
    plain = all_same (world m) (world n) worlds (IsPlain m.special_types) k h.plain;
  }

  items_named : AreFormed m → AreFormed n
  items_named f = record {
    kinds = λ p r e. (let x = from_named p r e in ap kind_number x.3 ∙ f.kinds p x.0 x.1);
    keys = f.keys;
    items = items_same (world m) (world n) worlds f.items;
    special = All-weaker (λ (e : Entry). MayBeSpecial m e.1) (λ (e : Entry). MayBeSpecial n e.1) (λ e h. special_named e.1 h) (special_entries m.special_types) f.special;
    spans = λ p s e. f.spans p s (sym (spans_same p) ∙ e);
  }

  more : HasMore m n
  more =
      let a = length-map m.constants (name_item g) in
      let b = length-map m.overrides (name_item g) in
      let c = length-map m.global_variables (name_item g) in
      let d = length-map m.functions (name_function g) in
      record { types = omega arith; constants = omega (arith, a); overrides = omega (arith, b); globals = omega (arith, c); expressions = omega arith; functions = omega (arith, d) }

  named_form : (c b : ℕ) (f : FunctionValue) → IsFunctionFormed n c b f → IsFunctionFormed n c b (record f { name = g f.name })
  named_form c b f h = record {
    arguments = h.arguments;
    result = h.result;
    locals = h.locals;
    named_expressions = h.named_expressions;
    expressions = h.expressions;
    statements = h.statements;
    callees = h.callees;
    results = h.results;
    body = record { form = h.body.form; alone = h.body.alone };
    local_spans = h.local_spans;
    expression_spans = h.expression_spans;
  }

  functions_named : KeepsNames g m → AreFunctionsFormed m 4294967295 → AreFunctionsFormed n 4294967295
  functions_named k f = record {
    named = λ i e at. (let x = mapped_at (name_function g) m.functions i e at in subst (λ (y : FunctionValue × Span). IsSome y.0.name) x.2 (k.named x.0.0.name (f.named i x.0 x.1)));
    distinct = λ i j e h a b same. (let x = mapped_at (name_function g) m.functions i e a in let y = mapped_at (name_function g) m.functions j h b in k.distinct i j x.0 y.0 x.1 y.1 (ap (λ (z : FunctionValue × Span). z.0.name) x.2 ∙ same ∙ sym (ap (λ (z : FunctionValue × Span). z.0.name) y.2)));
    forms = λ i e at. (let x = mapped_at (name_function g) m.functions i e at in subst (λ (y : FunctionValue × Span). IsFunctionFormed n i 4294967295 y.0) x.2 (named_form i 4294967295 x.0.0 (form_later m n i 4294967295 x.0.0 more (f.forms i x.0 x.1))));
    spans = λ i e at. (let x = mapped_at (name_function g) m.functions i e at in subst (λ (y : FunctionValue × Span). IsSpanFine 4294967295 y.1) x.2 (f.spans i x.0 x.1));
  }

pub module_named : (g : Text → Text) (m : ModuleValue) → KeepsNames g m → IsModuleFormed m → IsModuleFormed (name_items g m)
module_named g m k f = record {
  items = items_named g m f.items;
  functions = functions_named g m k f.functions;
  entry_points = record {
    forms = All-weaker (IsEntryFormed m 4294967295) (IsEntryFormed (name_items g m) 4294967295) (entry_later m (name_items g m) (more g m)) m.entry_points f.entry_points.forms;
    distinct = f.entry_points.distinct;
  };
}

-- ---- the decoration of a module that was tested

some_mapped : (f : List ℕ → List ℕ) (o : Text) → IsSome o → IsSome (option_map f o)
some_mapped f None h = h
some_mapped f (Some x) h = refl

decorated_or : (f : List ℕ → List ℕ) (a b : Text) → IsSome a → IsSome b → option_map f a ≡ option_map f b → f (unwrap_or a []) ≡ f (unwrap_or b [])
decorated_or f None b h i e = absurd cc
decorated_or f (Some x) None h i e = absurd cc
decorated_or f (Some x) (Some y) h i e = cc

pub decoration_keeps : (m : Module) (d : List ℕ) (n : ℕ) → WellFormed m d n → KeepsNames (option_map (with_decoration d)) (value_of m)
decoration_keeps m d n f = record {
  named = some_mapped (with_decoration d);
  distinct = λ j k e h a b same. (let x = function_at m j e a in let y = function_at m k h b in let named = λ (i : ℕ) (z : Function × Span) (at : slice_get m.functions i ≡ Some z). function_named m i z at f.names.named in one_place (map (λ (z : Function × Span). with_decoration d (function_name z.0)) m.functions) f.names.functions j k (with_decoration d (function_name x.0.0)) (with_decoration d (function_name y.0.0)) (name_at j x.0 x.1) (name_at k y.0 y.1) (decorated_or (with_decoration d) (function_value x.0.0).name (function_value y.0.0).name (named j x.0 x.1) (named k y.0 y.1) (ap (λ (z : FunctionValue × Span). option_map (with_decoration d) z.0.name) x.2 ∙ same ∙ sym (ap (λ (z : FunctionValue × Span). option_map (with_decoration d) z.0.name) y.2))));
}
  where
    name_at : (i : ℕ) (x : Function × Span) → slice_get m.functions i ≡ Some x → slice_get (map (λ (e : Function × Span). with_decoration d (function_name e.0)) m.functions) i ≡ Some (with_decoration d (function_name x.0))
    name_at i x at = slice_get-map (λ (e : Function × Span). with_decoration d (function_name e.0)) m.functions i ∙ ap (option_map (λ (e : Function × Span). with_decoration d (function_name e.0))) at

-- ---- entry points as functions

result_unbound : (m : ModuleValue) (o : Option FunctionResult) → IfSome o (λ r. r.ty < length m.types) → IfSome (option_map result_without_binding o) (λ r. r.ty < length m.types)
result_unbound m None h = tt
result_unbound m (Some r) h = h

pub function_unbound : (m : ModuleValue) (c n : ℕ) (name : Text) (f : FunctionValue) → IsFunctionFormed m c n f → IsFunctionFormed m c n (without_bindings name f)
function_unbound m c n name f h =
    let long : length (without_bindings name f).arguments ≡ length f.arguments = length-map f.arguments without_binding in
    record {
      arguments = All-map (λ (a : ArgumentValue). a.ty < length m.types) without_binding f.arguments h.arguments;
      result = result_unbound m f.result h.result;
      locals = h.locals;
      named_expressions = h.named_expressions;
      expressions = All-weaker (λ (e : Parts × Span). IsNamedThere m f e.0.named) (λ (e : Parts × Span). IsNamedThere m (without_bindings name f) e.0.named) (λ e i. named_unbound e.0.named i) f.expressions h.expressions;
      statements = h.statements;
      callees = h.callees;
      results = h.results;
      body = record { form = h.body.form; alone = h.body.alone };
      local_spans = h.local_spans;
      expression_spans = h.expression_spans;
    }
  where
    named_unbound : (x : Named) → IsNamedThere m f x → IsNamedThere m (without_bindings name f) x
    named_unbound Nothing i = tt
    named_unbound (TypeOf k) i = i
    named_unbound (ConstantAt k) i = i
    named_unbound (OverrideAt k) i = i
    named_unbound (GlobalAt k) i = i
    named_unbound (LocalAt k) i = i
    named_unbound (ArgumentAt k) i = let l = length-map {B = ArgumentValue} f.arguments without_binding in omega (arith, i, l)
    named_unbound (FunctionAt k) i = i

-- ---- more functions

abbrev Functions : Type 0
Functions = List (FunctionValue × Span)

pub in_append : (xs ys : Functions) (k : ℕ) (e : FunctionValue × Span) → slice_get (xs ++ ys) k ≡ Some e → (slice_get xs k ≡ Some e) ⊎ ((i : ℕ) × (k ≡ length xs + i) × (slice_get ys i ≡ Some e))
in_append [] ys k e h = inr (k, omega arith, h)
in_append (x ∷ xs) ys zero e h = inl h
in_append (x ∷ xs) ys (suc k) e h = ⊎_elim inl (λ a. inr (a.0, (let l = a.1 in omega (arith, l)), a.2)) (in_append xs ys k e h)

world_append_at : (m : ModuleValue) (fs : Functions) (p : ItemPlace) → world (append_functions fs m) p ≡ world m p
unfolding world
world_append_at m fs (TypeItem k) = refl
world_append_at m fs (ConstantItem k) = refl
world_append_at m fs (OverrideItem k) = refl
world_append_at m fs (GlobalItem k) = refl
world_append_at m fs (ExpressionItem k) = refl

world_append : (m : ModuleValue) (fs : Functions) → world (append_functions fs m) ≡ world m
world_append m fs = λ i p. world_append_at m fs p i

span_append : (m : ModuleValue) (fs : Functions) (p : ItemPlace) → span_at (append_functions fs m) p ≡ span_at m p
unfolding span_at
span_append m fs (TypeItem k) = refl
span_append m fs (ConstantItem k) = refl
span_append m fs (OverrideItem k) = refl
span_append m fs (GlobalItem k) = refl
span_append m fs (ExpressionItem k) = refl

special_append : (m : ModuleValue) (fs : Functions) (k : ℕ) → MayBeSpecial m k → MayBeSpecial (append_functions fs m) k
special_append m fs k h = record {
  there = subst (λ w. IsIn w (TypeItem k)) (sym (world_append m fs)) h.there;
  unsized = subst (λ w. IsUnsized w k) (sym (world_append m fs)) h.unsized;
  plain = subst (λ w. AllReached w (IsPlain m.special_types) k) (sym (world_append m fs)) h.plain;
}

pub functions_appended : (m : ModuleValue) (fs : Functions) → MayBeAppended m fs → IsModuleFormed m → IsModuleFormed (append_functions fs m)
functions_appended m fs a f =
    let n = append_functions fs m in
    let long : length (m.functions ++ fs) ≡ length m.functions + length fs = length-append m.functions fs in
    let more : HasMore m n = record { types = omega arith; constants = omega arith; overrides = omega arith; globals = omega arith; expressions = omega arith; functions = omega (arith, long) } in
    record {
      items = record {
        kinds = λ p r e. f.items.kinds p r (sym (world_append_at m fs p) ∙ e);
        keys = f.items.keys;
        items = subst ItemsStand (sym (world_append m fs)) f.items.items;
        special = All-weaker (λ (e : Entry). MayBeSpecial m e.1) (λ (e : Entry). MayBeSpecial n e.1) (λ e h. special_append m fs e.1 h) (special_entries m.special_types) f.items.special;
        spans = λ p s e. f.items.spans p s (sym (span_append m fs p) ∙ e);
      };
      functions = record {
        named = λ k e at. ⊎_elim (f.functions.named k e) (λ y. all_at (λ (x : FunctionValue × Span). IsSome x.0.name) fs y.0 e a.named y.2) (in_append m.functions fs k e at);
        distinct = a.distinct;
        forms = λ k e at. ⊎_elim (λ old. form_later m n k 4294967295 e.0 more (f.functions.forms k e old)) (λ y. let l = y.1 in calls_more n (length m.functions) k 4294967295 e.0 (omega (arith, l)) (form_later m n (length m.functions) 4294967295 e.0 more (all_at (λ (x : FunctionValue × Span). IsFunctionFormed m (length m.functions) 4294967295 x.0) fs y.0 e a.forms y.2))) (in_append m.functions fs k e at);
        spans = λ k e at. ⊎_elim (f.functions.spans k e) (λ y. all_at (λ (x : FunctionValue × Span). IsSpanFine 4294967295 x.1) fs y.0 e a.spans y.2) (in_append m.functions fs k e at);
      };
      entry_points = record { forms = All-nil (IsEntryFormed n 4294967295); distinct = λ j k e g at there same. absurd (none-some e at) };
    }
