-- The tests of bodies and functions decide which of them pass.
use Rattle.std.proofs.Common.{◌≡◌, ℕ, ◌<◌, true, false, not, List, [], ◌∷◌, ◌++◌, length, map, slice_get, Option, Some, None, option_to_list, IfSome, All, Decides, nat_eq, nat_lt, sym, ◌∙◌, subst}
use Rattle.std.specs.List.{flat_map}
use Rattle.std.specs.Option.{option_eq}
use Rattle.std.proofs.lemmas.List.{length-map}
use Rattle.std.proofs.lemmas.List.Folds.{flat_map-map}
use Rattle.std.proofs.lemmas.Simd.{map-map}
use Rattle.naga_oil_ir.specs.Body.{Tokens, block_tokens}
use Rattle.naga_oil_form.specs.BodyForm.{kinds, callee, callees, operand_links, is_external, is_result, places, is_known, made, AreEmitted, MayBeGiven, IsFine, AreFine, IsSpanFine, IsTokenFine, MayStand}
use Rattle.naga_oil_form.specs.Links.{Links, linked, has, started}
use Rattle.naga_oil_ir.specs.ModuleValue.{LocalValue, argument_value, local_value, expression_values, function_value, module_value}
use Rattle.naga_oil_ir.specs.Parts.{Parts, parts}
use Rattle.naga_oil_form.specs.WellFormed.{NamedThere, FunctionForm, initialisers}
use Rattle.naga_oil_ir.specs.declared.expression.Expression.{Expression}
use Rattle.naga_oil_ir.specs.declared.module.Function.{Function}
use Rattle.naga_oil_ir.specs.declared.module.Module.{Module}
use Rattle.naga_oil_ir.specs.declared.parts.Named.{Named}
use Rattle.naga_oil_ir.specs.declared.parts.Named.TheVariants.{Nothing, TypeOf, ConstantAt, OverrideAt, GlobalAt, LocalAt, ArgumentAt, FunctionAt}
use Rattle.naga_oil_ir.specs.declared.span.Span.{Span}
use Rattle.naga_oil_ir.specs.declared.tokens.Token.{Token}
use Rattle.naga_oil_ir.specs.declared.tokens.Token.TheVariants.{At, Head, Plain, Flag, Absent, Use, Give, GiveCall, Emitted, Callee, Open, Close}
use Rattle.naga_oil_ir.specs.declared.types.LocalVariable.{LocalVariable}
use Rattle.naga_oil_form.specs.FormParts.{kinds_of, callees_of, operands_of, are_emitted, may_be_given, is_fine, are_fine, is_span_fine, is_token_fine, may_stand, is_named_there, is_signature_formed, is_function_formed}
use Rattle.naga_oil_form.proofs.DecisionLemmas.{both, like, always, itself, fails, at_most, less, each, each_from, each_itself, earlier, if_there, number, option}

-- ---- bodies

emitted : (ks : List ℕ) (ls : Links) (s done es : List ℕ) → Decides (are_emitted ks ls s done es) (AreEmitted ks ls s done es)
emitted ks ls s done [] = always
emitted ks ls s done (k ∷ es) =
    like _ (λ h. ((h.0.0.0.0, h.0.0.0.1, h.0.0.1, h.0.1), h.1)) (λ h. ((((h.0.0, h.0.1), h.0.2), h.0.3), h.1))
    (both _ _ (both _ _ (both _ _ (both _ _ (fails (is_external ks k)) (fails (is_result ks k))) (fails (has done k))) (each_itself (is_known ks s done) (λ h. is_known ks s done h ≡ true) (λ h. itself (is_known ks s done h)) (linked ls k))) (emitted ks ls s (done ++ k ∷ []) es))

given_once : (n : ℕ) (ks : List ℕ) (fs : List (Option ℕ)) (done : List ℕ) (o : Option ℕ) (h : ℕ) → Decides (may_be_given n ks fs done o h) (MayBeGiven n ks fs done o h)
given_once n ks fs done o h =
    like _ (λ t. (t.0.0.0, t.0.0.1, t.0.1, t.1)) (λ t. (((t.0, t.1), t.2), t.3))
    (both _ _ (both _ _ (both _ _ (less h n) (itself (is_result ks h))) (option (option_eq nat_eq) (option nat_eq number) (slice_get fs h) (Some o))) (fails (has done h)))

fine : (n : ℕ) (ks : List ℕ) (fs : List (Option ℕ)) (ls : Links) (s done : List ℕ) (t : Token) → Decides (is_fine n ks fs ls s done t) (IsFine n ks fs ls s done t)
fine n ks fs ls s done (Use h) = both _ _ (less h n) (itself (is_known ks s done h))
fine n ks fs ls s done (Give h) = given_once n ks fs done None h
fine n ks fs ls s done (GiveCall f h) = given_once n ks fs done (Some f) h
fine n ks fs ls s done (Emitted r) = like _ (λ t. (t.0.0, t.0.1, t.1)) (λ t. ((t.0, t.1), t.2)) (both _ _ (both _ _ (at_most r.0 r.1) (at_most r.1 n)) (emitted ks ls s done (places r)))
fine n ks fs ls s done (At x) = always
fine n ks fs ls s done (Head x) = always
fine n ks fs ls s done (Plain x) = always
fine n ks fs ls s done (Flag x) = always
fine n ks fs ls s done Absent = always
fine n ks fs ls s done (Callee x) = always
fine n ks fs ls s done Open = always
fine n ks fs ls s done Close = always

all_fine : (n : ℕ) (ks : List ℕ) (fs : List (Option ℕ)) (ls : Links) (s done : List ℕ) (ts : Tokens) → Decides (are_fine n ks fs ls s done ts) (AreFine n ks fs ls s done ts)
all_fine n ks fs ls s done [] = always
all_fine n ks fs ls s done (t ∷ ts) = both _ _ (fine n ks fs ls s done t) (all_fine n ks fs ls s (done ++ made t) ts)

pub span_fine : (n : ℕ) (s : Span) → Decides (is_span_fine n s) (IsSpanFine n s)
span_fine n s = both _ _ (at_most s.start s.end) (at_most s.end n)

token_fine : (c n : ℕ) (t : Token) → Decides (is_token_fine c n t) (IsTokenFine c n t)
token_fine c n (Callee f) = less f c
token_fine c n (At s) = span_fine n s
token_fine c n (Use x) = always
token_fine c n (Give x) = always
token_fine c n (GiveCall f x) = always
token_fine c n (Emitted r) = always
token_fine c n (Head x) = always
token_fine c n (Plain x) = always
token_fine c n (Flag x) = always
token_fine c n Absent = always
token_fine c n Open = always
token_fine c n Close = always

stands : (ks : List ℕ) (fs : List (Option ℕ)) (ls : Links) (is : List ℕ) (ts : Tokens) → Decides (may_stand ks fs ls is ts) (MayStand ks fs ls is ts)
stands ks fs ls is ts =
    like _ (λ h. record { earlier = h.0.0.0; there = h.0.0.1; no_results = h.0.1; body = h.1 }) (λ r. (((r.earlier, r.there), r.no_results), r.body))
    (both _ _ (both _ _ (both _ _ (earlier ls) (each_itself (λ h. nat_lt h (length ls)) (λ h. h < length ls) (λ h. less h (length ls)) is)) (each_itself (λ h. not (is_result ks h)) (λ h. is_result ks h ≡ false) (λ h. fails (is_result ks h)) (started ls is))) (all_fine (length ls) ks fs ls (started ls is) [] ts))

-- ---- what is read of expressions and variables

pub kinds_same : (es : List (Expression × Span)) → kinds_of (expression_values es) ≡ kinds es
kinds_same es = map-map (λ (e : Parts × Span). e.0.kind) (λ (e : Expression × Span). (parts e.0, e.1)) es

callees_same : (es : List (Expression × Span)) → callees_of (expression_values es) ≡ callees es
callees_same es = map-map (λ (e : Parts × Span). callee e.0.named) (λ (e : Expression × Span). (parts e.0, e.1)) es ∙ sym (map-map callee (λ (e : Expression × Span). (parts e.0).named) es)

pub operands_same : (es : List (Expression × Span)) → operands_of (expression_values es) ≡ operand_links es
operands_same es = map-map (λ (e : Parts × Span). flat_map option_to_list e.0.operands) (λ (e : Expression × Span). (parts e.0, e.1)) es

initialisers_same : (f : Function) → flat_map (λ l. option_to_list l.0.init) (function_value f).local_variables ≡ initialisers f
initialisers_same f = flat_map-map (λ (l : LocalValue × Span). option_to_list l.0.init) (λ (l : LocalVariable × Span). (local_value l.0, l.1)) f.local_variables

-- ---- functions

-- a number below the length of a list, by the list's values
pub below : {A B : Type 0} (f : A → B) (k : ℕ) (xs : List A) → Decides (nat_lt k (length (map f xs))) (k < length xs)
below f k xs = let e : length (map f xs) ≡ length xs = length-map xs f in subst (λ (n : ℕ). Decides (nat_lt k n) (k < length xs)) (sym e) (less k (length xs))

module _ (m : Module) where
  pub type_below : (k : ℕ) → Decides (nat_lt k (length (module_value m).types)) (k < length m.types)
  type_below k = below _ k m.types

  named_there : (f : Function) (x : Named) → Decides (is_named_there (module_value m) (function_value f) x) (NamedThere m f x)
  named_there f Nothing = always
  named_there f (TypeOf k) = below _ k m.types
  named_there f (ConstantAt k) = below _ k m.constants
  named_there f (OverrideAt k) = below _ k m.overrides
  named_there f (GlobalAt k) = below _ k m.global_variables
  named_there f (LocalAt k) = below _ k f.local_variables
  named_there f (ArgumentAt k) = below _ k f.arguments.items
  named_there f (FunctionAt k) = below _ k m.functions

  body_stands : (f : Function) → (let v = function_value f in Decides (may_stand (kinds_of v.expressions) (callees_of v.expressions) (operands_of v.expressions) (flat_map (λ l. option_to_list l.0.init) v.local_variables) v.body) (MayStand (kinds f.expressions) (callees f.expressions) (operand_links f.expressions) (initialisers f) (block_tokens f.body)))
  body_stands f =
      let ts = block_tokens f.body in
      let same : may_stand (kinds_of (expression_values f.expressions)) (callees_of (expression_values f.expressions)) (operands_of (expression_values f.expressions)) (flat_map (λ l. option_to_list l.0.init) (function_value f).local_variables) ts ≡ may_stand (kinds f.expressions) (callees f.expressions) (operand_links f.expressions) (initialisers f) ts
      = λ i. may_stand (kinds_same f.expressions i) (callees_same f.expressions i) (operands_same f.expressions i) (initialisers_same f i) ts in
      let d = stands (kinds f.expressions) (callees f.expressions) (operand_links f.expressions) (initialisers f) ts in
      (λ h. d.0 (sym same ∙ h), λ h. same ∙ d.1 h)

  signature : (f : Function) → Decides (is_signature_formed (module_value m) (function_value f)) ((((All (λ a. a.ty < length m.types) f.arguments.items) × IfSome f.result (λ r. r.ty < length m.types)) × All (λ l. l.0.ty < length m.types) f.local_variables) × All (λ e. e.0 < length f.expressions) f.named_expressions.entries)
  signature f =
      both _ _ (both _ _ (both _ _
      (each_from argument_value _ (λ a. a.ty < length m.types) (λ a. type_below a.ty) f.arguments.items)
      (if_there _ (λ r. r.ty < length m.types) (λ r. type_below r.ty) f.result))
      (each_from _ _ (λ l. l.0.ty < length m.types) (λ l. type_below l.0.ty) f.local_variables))
      (each_from _ _ (λ e. e.0 < length f.expressions) (λ e. below _ e.0 f.expressions) f.named_expressions.entries)

  pub function_tested : (c n : ℕ) (f : Function) → Decides (is_function_formed (module_value m) c n (function_value f)) (FunctionForm m c n f)
  function_tested c n f =
      like _
      (λ h. record {
        arguments = h.0.0.0.0.0.0.0.0;
        result = h.0.0.0.0.0.0.0.1;
        locals = h.0.0.0.0.0.0.1;
        named_expressions = h.0.0.0.0.0.1;
        expressions = h.0.0.0.0.1;
        statements = h.0.0.0.1;
        body = h.0.0.1;
        spans = record { locals = h.0.1; expressions = h.1 };
      })
      (λ r. ((((((((r.arguments, r.result), r.locals), r.named_expressions), r.expressions), r.statements), r.body), r.spans.locals), r.spans.expressions))
      (both _ _ (both _ _ (both _ _ (both _ _ (both _ _ (signature f)
      (each _ _ _ (NamedThere m f) (λ e. named_there f (parts e.0).named) f.expressions))
      (each_itself (is_token_fine c n) (IsTokenFine c n) (token_fine c n) (block_tokens f.body)))
      (body_stands f))
      (each_from _ _ (λ e. IsSpanFine n e.1) (λ e. span_fine n e.1) f.local_variables))
      (each_from _ _ (λ e. IsSpanFine n e.1) (λ e. span_fine n e.1) f.expressions))
