-- Worked rows: parts of a body that may stand; functions, names and spans that pass the test of form; and others that don't.
use Rattle.std.proofs.Common.{◌≡◌, ℕ, zero, suc, ◌<◌, List, [], ◌∷◌, map, length, false, true, Option, Some, None, All, IfSome, IsSome, is_none, refl, ap, sym, subst, arith}
use Rattle.std.proofs.lemmas.List.Elements.{All-nil, All-cons, All-head}
use Rattle.std.proofs.lemmas.Option.{same_Some}
use Rattle.std.specs.Cmp.Lexicographic.{pointwise}
use Rattle.std.specs.List.{IsDistinct}
use Rattle.std.specs.Prelude.{codes, nat_eq, String}
use Rattle.std.specs.declared.alloc.Global.{Global}
use Rattle.naga_oil_words.specs.Marks.{has_module_mark, with_decoration}
use Rattle.naga_oil_ir.specs.Body.{Tokens, block_tokens}
use Rattle.naga_oil_ir.specs.Kinds.{call_head}
use Rattle.naga_oil_ir.specs.Rows.{Row, TypeKind, row}
use Rattle.naga_oil_ir.specs.Spans.{undefined}
use Rattle.naga_oil_ir.specs.declared.expression.Expression.{Expression}
use Rattle.naga_oil_ir.specs.declared.expression.Expression.TheVariants.{Literal, ZeroValue, Unary}
use Rattle.naga_oil_ir.specs.declared.module.Function.{Function}
use Rattle.naga_oil_ir.specs.declared.module.FunctionArgument.{FunctionArgument}
use Rattle.naga_oil_ir.specs.declared.module.FunctionResult.{FunctionResult}
use Rattle.naga_oil_ir.specs.declared.module.Module.{Module}
use Rattle.naga_oil_ir.specs.declared.names.ItemPlace.{ItemPlace}
use Rattle.naga_oil_ir.specs.declared.names.ItemPlace.TheVariants.{TypeItem}
use Rattle.naga_oil_ir.specs.declared.parts.Named.TheVariants.{TypeOf}
use Rattle.naga_oil_ir.specs.declared.span.Span.{Span}
use Rattle.naga_oil_ir.specs.declared.tokens.Token.TheVariants.{Head, Absent, Use, Emitted, Callee}
use Rattle.naga_oil_ir.specs.declared.types.LocalVariable.{LocalVariable}
use Rattle.naga_oil_ir.specs.declared.types.Type.{«Type» as TypeOfShader}
use Rattle.naga_oil_form.specs.BodyForm.{AreEmitted, AreFine, IsFine, IsSpanFine, IsTokenFine, MayBeGiven, MayStand, is_known, kinds, callees, named_of, operand_links}
use Rattle.naga_oil_form.specs.ItemForm.{IsThere, NamesThere, is_unnamed}
use Rattle.naga_oil_form.specs.Links.{Links, linked}
use Rattle.naga_oil_form.specs.NameForm.{AreNamed, AreNamesDistinct, NameForm, entry_name, function_name}
use Rattle.naga_oil_form.specs.WellFormed.{AreArgumentsThere, AreLocalsThere, AreNamedExpressionsThere, AreNamedThere, AreSpansIn, FunctionForm, FunctionsForm, IsResultThere, NamedThere, StandsWith, initialisers_of}

-- what one element has, each element of its list has
pub each_of_one : {X : Type 0} (P : X → Type 0) (x : X) → P x → All P (x ∷ [])
each_of_one P x h = All-cons P x [] h (All-nil P)

-- a number, its negative, and the result of a call of the function at 4: their kinds, the functions whose results they are, and their
-- operands
abbrev kinds_of : List ℕ
kinds_of = 0 ∷ 22 ∷ 7 ∷ []

abbrev results_of : List (Option ℕ)
results_of = None ∷ None ∷ Some 4 ∷ []

abbrev operands_of : Links
operands_of = [] ∷ (0 ∷ []) ∷ [] ∷ []

abbrev Known : List ℕ → ℕ → Type 0
Known ks h = is_known ks [] [] h ≡ true

-- ---- emitted expressions

negative_is_emitted : AreEmitted kinds_of operands_of [] [] (1 ∷ [])
negative_is_emitted = ((refl, refl, refl, each_of_one (Known kinds_of) 0 refl), tt)

emitted_number_is_refused : AreEmitted kinds_of operands_of [] [] (0 ∷ []) → ⊥
emitted_number_is_refused h = let e : true ≡ false = h.0.0 in absurd cc

emitted_twice_is_refused : AreEmitted kinds_of operands_of [] (1 ∷ []) (1 ∷ []) → ⊥
emitted_twice_is_refused h = let e : true ≡ false = h.0.2 in absurd cc

-- ---- given results

result_is_given : MayBeGiven 3 kinds_of results_of [] (Some 4) 2
result_is_given = (omega arith, refl, refl, refl)

result_of_another_is_refused : MayBeGiven 3 kinds_of results_of [] (Some 5) 2 → ⊥
result_of_another_is_refused h = let e : ◌≡◌ {A = Option (Option ℕ)} (Some (Some 4)) (Some (Some 5)) = h.2 in absurd cc

-- ---- the parts of a body

number_is_used : IsFine 3 kinds_of results_of operands_of [] [] (Use 0)
number_is_used = (omega arith, refl)

unknown_use_is_refused : IsFine 3 kinds_of results_of operands_of [] [] (Use 1) → ⊥
unknown_use_is_refused h = let e : false ≡ true = h.1 in absurd cc

used_after_it_is_emitted : AreFine 3 kinds_of results_of operands_of [] [] (Emitted (1, 2) ∷ Use 1 ∷ [])
used_after_it_is_emitted = ((omega arith, omega arith, negative_is_emitted), ((omega arith, refl), tt))

used_before_it_is_emitted_is_refused : AreFine 3 kinds_of results_of operands_of [] [] (Use 1 ∷ Emitted (1, 2) ∷ []) → ⊥
used_before_it_is_emitted_is_refused h = let e : false ≡ true = h.0.1 in absurd cc

-- ---- spans

abbrev at : ℕ → ℕ → Span
at start end = record { start = start; end = end }

module _ (e : Expression) where
  abbrev IsIn : ℕ → Expression × Span → Type 0
  IsIn n x = IsSpanFine n x.1

  span_is_in : AreSpansIn 9 ((e, at 4 9) ∷ [])
  span_is_in = each_of_one (IsIn 9) (e, at 4 9) (omega arith, omega arith)

  span_past_the_text_is_refused : AreSpansIn 8 ((e, at 4 9) ∷ []) → ⊥
  span_past_the_text_is_refused h = let l = (All-head (IsIn 8) (e, at 4 9) [] h).1 in absurd (omega (arith, l))

-- ---- what a function of a module with one type names

module _ (m : Module) (types_are : length m.types ≡ 1) where
  abbrev names : List (Option ItemPlace) → Row
  names ps = row (TypeKind 10) None [] [] ps

  abbrev Names : Option ItemPlace → Type 0
  Names o = IfSome o (IsThere m)

  named_type_is_there : NamesThere m (names (Some (TypeItem 0) ∷ None ∷ []))
  named_type_is_there = All-cons Names (Some (TypeItem 0)) (None ∷ []) (omega (arith, types_are)) (each_of_one Names None tt)

  missing_named_type_is_refused : NamesThere m (names (Some (TypeItem 1) ∷ [])) → ⊥
  missing_named_type_is_refused h = let l : 1 < length m.types = All-head Names (Some (TypeItem 1)) [] h in absurd (omega (arith, l, types_are))

  module _ (f : Function) where
    module _ (a : FunctionArgument) (arguments_are : f.arguments.items ≡ a ∷ []) where
      abbrev Takes : FunctionArgument → Type 0
      Takes x = x.ty < length m.types

      argument_is_there : a.ty ≡ 0 → AreArgumentsThere m f
      argument_is_there is = subst (All Takes) (sym arguments_are) (each_of_one Takes a (omega (arith, is, types_are)))

      missing_argument_type_is_refused : a.ty ≡ 1 → AreArgumentsThere m f → ⊥
      missing_argument_type_is_refused is h = let l : a.ty < length m.types = All-head Takes a [] (subst (All Takes) arguments_are h) in absurd (omega (arith, l, is, types_are))

    module _ (r : FunctionResult) (result_is : f.result ≡ Some r) where
      abbrev Returns : Option FunctionResult → Type 0
      Returns o = IfSome o (λ x. x.ty < length m.types)

      result_is_there : r.ty ≡ 0 → IsResultThere m f
      result_is_there is = subst Returns (sym result_is) (omega (arith, is, types_are))

      missing_result_type_is_refused : r.ty ≡ 1 → IsResultThere m f → ⊥
      missing_result_type_is_refused is h = let l : r.ty < length m.types = subst Returns result_is h in absurd (omega (arith, l, is, types_are))

    module _ (l : LocalVariable) (locals_are : f.local_variables ≡ (l, undefined) ∷ []) where
      abbrev Holds : LocalVariable × Span → Type 0
      Holds x = x.0.ty < length m.types

      local_is_there : l.ty ≡ 0 → AreLocalsThere m f
      local_is_there is = subst (All Holds) (sym locals_are) (each_of_one Holds (l, undefined) (omega (arith, is, types_are)))

      missing_local_type_is_refused : l.ty ≡ 1 → AreLocalsThere m f → ⊥
      missing_local_type_is_refused is h = let l : l.ty < length m.types = All-head Holds (l, undefined) [] (subst (All Holds) locals_are h) in absurd (omega (arith, l, is, types_are))

    zero_of_type_is_there : f.expressions ≡ (ZeroValue 0, undefined) ∷ [] → AreNamedThere m f
    zero_of_type_is_there are = subst (λ es. All (NamedThere m f) (named_of es)) (sym are) (each_of_one (NamedThere m f) (TypeOf 0) (omega (arith, types_are)))

    zero_of_missing_type_is_refused : f.expressions ≡ (ZeroValue 1, undefined) ∷ [] → AreNamedThere m f → ⊥
    zero_of_missing_type_is_refused are h = let l : 1 < length m.types = All-head (NamedThere m f) (TypeOf 1) [] (subst (λ es. All (NamedThere m f) (named_of es)) are h) in absurd (omega (arith, l, types_are))

    module _ (name : String Global) (k : ℕ) (named_are : f.named_expressions.entries ≡ (k, name) ∷ []) (one_expression : length f.expressions ≡ 1) where
      abbrev IsExpression : ℕ × String Global → Type 0
      IsExpression x = x.0 < length f.expressions

      named_expression_is_there : k ≡ 0 → AreNamedExpressionsThere f
      named_expression_is_there is = subst (All IsExpression) (sym named_are) (each_of_one IsExpression (k, name) (omega (arith, is, one_expression)))

      missing_named_expression_is_refused : k ≡ 1 → AreNamedExpressionsThere f → ⊥
      missing_named_expression_is_refused is h = let l : k < length f.expressions = All-head IsExpression (k, name) [] (subst (All IsExpression) named_are h) in absurd (omega (arith, l, is, one_expression))

-- ---- bodies of functions

-- a number and its negative
abbrev two : List (Expression × Span)
two = (Literal 0 7, undefined) ∷ (Unary 1 0, undefined) ∷ []

abbrev Stands : List (Expression × Span) → List (LocalVariable × Span) → Tokens → Type 0
Stands es ls ts = MayStand (kinds es) (callees es) (operand_links es) (initialisers_of ls) ts

two_stand : Stands two [] (Emitted (1, 2) ∷ Use 1 ∷ [])
two_stand = record {
  earlier = earlier;
  there = All-nil (λ (h : ℕ). h < 2);
  no_results = λ k d l. absurd (omega (arith, l));
  body = ((omega arith, omega arith, ((refl, refl, refl, each_of_one (Known (0 ∷ 22 ∷ [])) 0 refl), tt)), ((omega arith, refl), tt));
}
  where
    earlier : (k : ℕ) → All (λ x. x < k) (linked ([] ∷ (0 ∷ []) ∷ []) k)
    earlier zero = All-nil (λ x. x < 0)
    earlier (suc zero) = each_of_one (λ x. x < 1) 0 (omega arith)
    earlier (suc (suc k)) = All-nil (λ x. x < suc (suc k))

module _ (f : Function) (expressions_are : f.expressions ≡ two) (locals_are : f.local_variables ≡ []) where
  emitted_before_use : StandsWith f (Emitted (1, 2) ∷ Use 1 ∷ [])
  emitted_before_use =
      let stand = subst (λ ls. Stands two ls (Emitted (1, 2) ∷ Use 1 ∷ [])) (sym locals_are) two_stand in
      subst (λ es. Stands es f.local_variables (Emitted (1, 2) ∷ Use 1 ∷ [])) (sym expressions_are) stand

  use_of_what_isnt_emitted_is_refused : StandsWith f (Use 1 ∷ []) → ⊥
  use_of_what_isnt_emitted_is_refused h =
      let s = subst (λ ls. Stands two ls (Use 1 ∷ [])) locals_are (subst (λ es. Stands es f.local_variables (Use 1 ∷ [])) expressions_are h) in
      let e : false ≡ true = s.body.0.1 in
      absurd cc

-- ---- functions

-- a function with nothing but a body of these tokens
record HasOnly (f : Function) (ts : Tokens) : Type 0 where
  pub arguments : f.arguments.items ≡ []
  pub result : f.result ≡ None
  pub locals : f.local_variables ≡ []
  pub names : f.named_expressions.entries ≡ []
  pub expressions : f.expressions ≡ []
  pub body : block_tokens f.body ≡ ts

-- the call of a function at a place, without arguments or result
abbrev call : ℕ → Tokens
call k = Head call_head ∷ Callee k ∷ Absent ∷ []

nothing_stands : (k : ℕ) → Stands [] [] (call k)
nothing_stands k = record { earlier = λ j. All-nil (λ x. x < j); there = All-nil (λ (h : ℕ). h < 0); no_results = λ j d l. absurd (omega (arith, l)); body = (tt, (tt, (tt, tt))) }

module _ (m : Module) (f : Function) (k : ℕ) (only : HasOnly f (call k)) where
  stands : StandsWith f (block_tokens f.body)
  stands =
      let stand = subst (λ ls. Stands [] ls (call k)) (sym only.locals) (nothing_stands k) in
      subst (λ ts. StandsWith f ts) (sym only.body) (subst (λ es. Stands es f.local_variables (call k)) (sym only.expressions) stand)

  calls : (c : ℕ) → k < c → All (IsTokenFine c 9) (call k)
  calls c l =
      let Fine = IsTokenFine c 9 in
      All-cons Fine (Head call_head) (Callee k ∷ Absent ∷ []) tt (All-cons Fine (Callee k) (Absent ∷ []) l (each_of_one Fine Absent tt))

  form : (c : ℕ) → k < c → FunctionForm m c 9 f
  form c l = record {
    arguments = subst (All (λ (a : FunctionArgument). a.ty < length m.types)) (sym only.arguments) (All-nil (λ (a : FunctionArgument). a.ty < length m.types));
    result = subst (λ (o : Option FunctionResult). IfSome o (λ r. r.ty < length m.types)) (sym only.result) tt;
    locals = subst (All (λ (x : LocalVariable × Span). x.0.ty < length m.types)) (sym only.locals) (All-nil (λ (x : LocalVariable × Span). x.0.ty < length m.types));
    named_expressions = subst (All (λ (x : ℕ × String Global). x.0 < length f.expressions)) (sym only.names) (All-nil (λ (x : ℕ × String Global). x.0 < length f.expressions));
    expressions = subst (λ es. All (NamedThere m f) (named_of es)) (sym only.expressions) (All-nil (NamedThere m f));
    statements = subst (All (IsTokenFine c 9)) (sym only.body) (calls c l);
    body = stands;
    spans = record {
      locals = subst (All (λ (x : LocalVariable × Span). IsSpanFine 9 x.1)) (sym only.locals) (All-nil (λ (x : LocalVariable × Span). IsSpanFine 9 x.1));
      expressions = subst (All (λ (x : Expression × Span). IsSpanFine 9 x.1)) (sym only.expressions) (All-nil (λ (x : Expression × Span). IsSpanFine 9 x.1));
    };
  }

-- the third function calls the second, which calls the first
module _ (m : Module) (f g h : Function) (f_calls : HasOnly f (call 0)) (g_calls : HasOnly g (call 1)) where
  each_calls_an_earlier_one : (e : Function × Span) → FunctionForm m 0 9 e.0 → FunctionsForm m 9 (e ∷ (f, undefined) ∷ (g, undefined) ∷ [])
  unfolding FunctionsForm
  each_calls_an_earlier_one e first zero x here = subst (λ (y : Function × Span). FunctionForm m 0 9 y.0) (same_Some e x here) first
  each_calls_an_earlier_one e first (suc zero) x here = subst (λ (y : Function × Span). FunctionForm m 1 9 y.0) (same_Some (f, undefined) x here) (form m f 0 f_calls 1 (omega arith))
  each_calls_an_earlier_one e first (suc (suc zero)) x here = subst (λ (y : Function × Span). FunctionForm m 2 9 y.0) (same_Some (g, undefined) x here) (form m g 1 g_calls 2 (omega arith))
  each_calls_an_earlier_one e first (suc (suc (suc k))) x here = absurd cc

  call_of_itself_is_refused : FunctionsForm m 9 ((f, undefined) ∷ []) → ⊥
  unfolding FunctionsForm
  call_of_itself_is_refused forms =
      let fine = subst (All (IsTokenFine 0 9)) f_calls.body (forms 0 (f, undefined) refl).statements in
      let l : 0 < 0 = fine 1 Absent (omega arith) in
      absurd (omega (arith, l))

-- ---- names of functions

module _ (f g : Function) (f_named : IsSome f.name) (f_is : function_name f ≡ codes "f") (g_is : function_name g ≡ codes "g") where
  abbrev IsNamed : Function × Span → Type 0
  IsNamed e = IsSome e.0.name

  function_is_named : AreNamed ((f, undefined) ∷ [])
  function_is_named = each_of_one IsNamed (f, undefined) f_named

  nameless_function_is_refused : (h : Function) → h.name ≡ None → AreNamed ((f, undefined) ∷ (h, undefined) ∷ []) → ⊥
  nameless_function_is_refused h is named = let e : false ≡ true = subst (λ (n : Option (String Global)). IsSome n) is (named 1 (h, undefined) (omega arith)) in absurd cc

  -- two names, decorated, are distinct
  abbrev Differ : (x y : List ℕ) → Type 0
  Differ x y = IsDistinct (pointwise nat_eq) (with_decoration (codes "X") x ∷ with_decoration (codes "X") y ∷ [])

  names_are_distinct : AreNamesDistinct (codes "X") ((f, undefined) ∷ (g, undefined) ∷ [])
  unfolding IsDistinct has_module_mark
  names_are_distinct = subst (λ x. Differ x (function_name g)) (sym f_is) (subst (Differ (codes "f")) (sym g_is) ((refl, tt), (tt, tt)))

  name_twice_is_refused : AreNamesDistinct (codes "X") ((f, undefined) ∷ (f, undefined) ∷ []) → ⊥
  unfolding IsDistinct has_module_mark
  name_twice_is_refused h = let e : true ≡ false = (subst (λ x. Differ x x) f_is h).0.0 in absurd cc

  module _ (m : Module) (no_entry_points : m.entry_points.items ≡ []) where
    has_named_functions : IsSome g.name → m.functions ≡ (f, undefined) ∷ (g, undefined) ∷ [] → NameForm m (codes "X")
    unfolding IsDistinct
    has_named_functions g_named are = record {
      named = subst AreNamed (sym are) (All-cons IsNamed (f, undefined) ((g, undefined) ∷ []) f_named (each_of_one IsNamed (g, undefined) g_named));
      functions = subst (AreNamesDistinct (codes "X")) (sym are) names_are_distinct;
      entry_points = subst (λ es. IsDistinct (pointwise nat_eq) (map (λ e. with_decoration (codes "X") (entry_name e.function)) es)) (sym no_entry_points) tt;
    }

    has_a_name_twice_is_refused : m.functions ≡ (f, undefined) ∷ (f, undefined) ∷ [] → NameForm m (codes "X") → ⊥
    has_a_name_twice_is_refused are h = name_twice_is_refused (subst (AreNamesDistinct (codes "X")) are h.functions)

-- ---- types without a name

no_type_is_unnamed : is_unnamed None ≡ false
no_type_is_unnamed = refl

module _ (t : TypeOfShader) where
  type_without_name : t.name ≡ None → is_unnamed (Some t) ≡ true
  type_without_name is = ap (λ (o : Option (String Global)). is_none o) is

  type_with_name : (name : String Global) → t.name ≡ Some name → is_unnamed (Some t) ≡ false
  type_with_name name is = ap (λ (o : Option (String Global)). is_none o) is
