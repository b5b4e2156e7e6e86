-- A module whose calls are redirected passes the test of form as before.
use Rattle.std.proofs.Common.{◌≡◌, ◌∙◌, ℕ, ◌+◌, ◌<◌, ◌++◌, ◌||◌, ◌==◌, Bool, true, false, if◌then◌else◌, unwrap_or, List, [], ◌∷◌, map, length, Option, Some, None, option_map, option_to_list, IsSome, IfSome, string_bytes, codes, nat_eq, String, All, slice_get, Vec, Global, refl, ap, sym, subst, arith}
use Rattle.std.specs.List.{flat_map, enumerate_from, IsDistinct}
use Rattle.std.specs.Cmp.Lexicographic.{pointwise}
use Rattle.std.proofs.lemmas.List.{length-map, get_or-map}
use Rattle.std.proofs.lemmas.List.Elements.{All-map, All-nil, All-cons, All-head, All-tail, All-weaker}
use Rattle.std.proofs.lemmas.List.Folds.{flat_map-map}
use Rattle.std.proofs.lemmas.List.FromFn.{length-enumerate_from}
use Rattle.std.proofs.lemmas.Option.{slice_get-map}
use Rattle.std.proofs.lemmas.Simd.{map-map}
use Rattle.naga_oil_ir.specs.Parts.{Parts, parts}
use Rattle.naga_oil_form.specs.Links.{Links}
use Rattle.naga_oil_ir.specs.Rows.{Text}
use Rattle.naga_oil_ir.specs.Body.{Tokens, block_tokens}
use Rattle.naga_oil_form.specs.BodyForm.{kinds, callee, named_of, operand_links, made, IsFine, AreFine, MayStand, IsSpanFine, IsTokenFine}
use Rattle.naga_oil_form.specs.NameForm.{Name}
use Rattle.naga_oil_words.specs.Marks.{with_decoration}
use Rattle.naga_oil_form.specs.WellFormed.{NamedThere, initialisers, FunctionForm, MeshForm, IsExpressionThere, EntryForm}
use Rattle.naga_oil_ir.specs.ModuleValue.{ArgumentValue, argument_value, LocalValue, local_value, FunctionValue, function_value, EntryValue, entry_value}
use Rattle.naga_oil_ir.specs.declared.expression.Expression.{Expression}
use Rattle.naga_oil_ir.specs.declared.module.EntryPoint.{EntryPoint}
use Rattle.naga_oil_ir.specs.declared.module.Function.{Function}
use Rattle.naga_oil_ir.specs.declared.module.MeshInfo.{MeshInfo}
use Rattle.naga_oil_ir.specs.declared.module.Module.{Module}
use Rattle.naga_oil_ir.specs.declared.parts.Named.{Named}
use Rattle.naga_oil_ir.specs.declared.parts.Named.TheVariants.{Nothing, TypeOf, ConstantAt, OverrideAt, GlobalAt, LocalAt, ArgumentAt, FunctionAt}
use Rattle.naga_oil_ir.specs.declared.span.Span.{Span}
use Rattle.naga_oil_ir.specs.declared.tokens.Token.{Token}
use Rattle.naga_oil_ir.specs.declared.tokens.Token.TheVariants.{At, Head, Plain, Flag, Absent, Use, Give, GiveCall, Emitted, Callee, Open, Close}
use Rattle.naga_oil_ir.specs.declared.types.LocalVariable.{LocalVariable}
use Rattle.naga_oil_derive.specs.Copies.{value_links}
use Rattle.naga_oil_rename.specs.Renames.{rename, rename_named, rename_token, rename_tokens}
use Rattle.naga_oil_redirect.specs.Redirectable.{Redirectable}
use Rattle.naga_oil_redirect.specs.Redirected.{function_values, is_named, sent, send, send_at, send_entry}
use Rattle.naga_oil_redirect.proofs.SendingLemmas.{options-sent}

-- ---- the test of form of a function as plain data

-- the number of items
record Counts : Type 0 where
  types : ℕ
  constants : ℕ
  overrides : ℕ
  globals : ℕ

abbrev counts : Module → Counts
counts m = record { types = length m.types; constants = length m.constants; overrides = length m.overrides; globals = length m.global_variables }

-- what a function names is there, where there are c functions, l local variables and a arguments
abbrev NamedWithin : Counts → ℕ → ℕ → ℕ → Named → Type 0
NamedWithin m c l a Nothing = Unit {0}
NamedWithin m c l a (TypeOf k) = k < m.types
NamedWithin m c l a (ConstantAt k) = k < m.constants
NamedWithin m c l a (OverrideAt k) = k < m.overrides
NamedWithin m c l a (GlobalAt k) = k < m.globals
NamedWithin m c l a (LocalAt k) = k < l
NamedWithin m c l a (ArgumentAt k) = k < a
NamedWithin m c l a (FunctionAt k) = k < c

-- the kinds and names of expressions, and what initialises local variables
abbrev value_kinds : List (Parts × Span) → List ℕ
value_kinds es = map (λ e. e.0.kind) es

abbrev value_names : List (Parts × Span) → List Named
value_names es = map (λ e. e.0.named) es

abbrev value_inits : List (LocalValue × Span) → List ℕ
value_inits ls = flat_map (λ l. option_to_list l.0.init) ls

abbrev expression_pair : Expression × Span → Parts × Span
expression_pair e = (parts e.0, e.1)

abbrev local_pair : LocalVariable × Span → LocalValue × Span
local_pair l = (local_value l.0, l.1)

abbrev name_pair : ℕ × String Global → ℕ × List ℕ
name_pair e = (e.0, string_bytes e.1)

-- the test of form over such values
record ValueForm (m : Counts) (c n : ℕ) (v : FunctionValue) : Type 0 where
  arguments : All (λ a. a.ty < m.types) v.arguments
  outcome : IfSome v.result (λ r. r.ty < m.types)
  locals : All (λ l. l.0.ty < m.types) v.local_variables
  named_expressions : All (λ e. e.0 < length v.expressions) v.named_expressions
  expressions : All (NamedWithin m c (length v.local_variables) (length v.arguments)) (value_names v.expressions)
  statements : All (IsTokenFine c n) v.body
  body : MayStand (value_kinds v.expressions) (map callee (value_names v.expressions)) (value_links v.expressions) (value_inits v.local_variables) v.body
  local_spans : All (λ e. IsSpanFine n e.1) v.local_variables
  expression_spans : All (λ e. IsSpanFine n e.1) v.expressions

All-unmap : {X Y : Type 0} (P : X → Type 0) (f : Y → X) (ys : List Y) → All P (map f ys) → All (λ y. P (f y)) ys
All-unmap P f ys h k d l = subst P (get_or-map f ys k d (f d) l) (h k (f d) (omega (arith, l, length-map ys f)))

same_stand : (ks js : List ℕ) (fs gs : List (Option ℕ)) (ls us : Links) (is os : List ℕ) (ts : Tokens) → ks ≡ js → fs ≡ gs → ls ≡ us → is ≡ os → MayStand ks fs ls is ts → MayStand js gs us os ts
same_stand ks js fs gs ls us is os ts a b c d h =
    subst (λ x. MayStand x gs us os ts) a (subst (λ x. MayStand ks x us os ts) b (subst (λ x. MayStand ks fs x os ts) c (subst (λ x. MayStand ks fs ls x ts) d h)))

value_kinds-of : (f : Function) → value_kinds (function_value f).expressions ≡ kinds f.expressions
value_kinds-of f = map-map (λ (e : Parts × Span). e.0.kind) expression_pair f.expressions

value_names-of : (f : Function) → value_names (function_value f).expressions ≡ named_of f.expressions
value_names-of f = map-map (λ (e : Parts × Span). e.0.named) expression_pair f.expressions

value_links-of : (f : Function) → value_links (function_value f).expressions ≡ operand_links f.expressions
value_links-of f = map-map (λ (e : Parts × Span). flat_map option_to_list e.0.operands) expression_pair f.expressions

value_inits-of : (f : Function) → value_inits (function_value f).local_variables ≡ initialisers f
value_inits-of f = flat_map-map (λ (l : LocalValue × Span). option_to_list l.0.init) local_pair f.local_variables

named_in : (m : Module) (f : Function) (l a : ℕ) → length f.local_variables ≡ l → length f.arguments.items ≡ a → (x : Named) → NamedThere m f x → NamedWithin (counts m) (length m.functions) l a x
named_in m f l a e g (LocalAt k) h = omega (arith, e, h)
named_in m f l a e g (ArgumentAt k) h = omega (arith, g, h)
named_in m f l a e g _ h = h

named_out : (m : Module) (f : Function) (l a : ℕ) → length f.local_variables ≡ l → length f.arguments.items ≡ a → (x : Named) → NamedWithin (counts m) (length m.functions) l a x → NamedThere m f x
named_out m f l a e g (LocalAt k) h = omega (arith, e, h)
named_out m f l a e g (ArgumentAt k) h = omega (arith, g, h)
named_out m f l a e g _ h = h

argument_count : (f : Function) → length f.arguments.items ≡ length (function_value f).arguments
argument_count f = sym (length-map f.arguments.items argument_value)

local_count : (f : Function) → length f.local_variables ≡ length (function_value f).local_variables
local_count f = sym (length-map f.local_variables local_pair)

expression_count : (f : Function) → length f.expressions ≡ length (function_value f).expressions
expression_count f = sym (length-map f.expressions expression_pair)

to_value : (m : Module) (n : ℕ) (f : Function) → FunctionForm m (length m.functions) n f → ValueForm (counts m) (length m.functions) n (function_value f)
to_value m n f h =
    let v = function_value f in
    record {
      arguments = All-map (λ (a : ArgumentValue). a.ty < length m.types) argument_value f.arguments.items h.arguments;
      outcome = h.result;
      locals = All-map (λ (l : LocalValue × Span). l.0.ty < length m.types) local_pair f.local_variables h.locals;
      named_expressions = subst (λ k. All (λ e. e.0 < k) v.named_expressions) (expression_count f) (All-map (λ e. e.0 < length f.expressions) name_pair f.named_expressions.entries h.named_expressions);
      expressions = subst (All (NamedWithin (counts m) (length m.functions) (length v.local_variables) (length v.arguments))) (sym (value_names-of f)) (All-weaker (NamedThere m f) (NamedWithin (counts m) (length m.functions) (length v.local_variables) (length v.arguments)) (named_in m f _ _ (local_count f) (argument_count f)) (named_of f.expressions) h.expressions);
      statements = h.statements;
      body = same_stand _ _ _ _ _ _ _ _ (block_tokens f.body) (sym (value_kinds-of f)) (ap (map callee) (sym (value_names-of f))) (sym (value_links-of f)) (sym (value_inits-of f)) h.body;
      local_spans = All-map (λ (l : LocalValue × Span). IsSpanFine n l.1) local_pair f.local_variables h.spans.locals;
      expression_spans = All-map (λ (e : Parts × Span). IsSpanFine n e.1) expression_pair f.expressions h.spans.expressions;
    }

from_value : (m : Module) (n : ℕ) (f : Function) → ValueForm (counts m) (length m.functions) n (function_value f) → FunctionForm m (length m.functions) n f
from_value m n f h =
    let v = function_value f in
    record {
      arguments = All-unmap (λ (a : ArgumentValue). a.ty < length m.types) argument_value f.arguments.items h.arguments;
      result = h.outcome;
      locals = All-unmap (λ (l : LocalValue × Span). l.0.ty < length m.types) local_pair f.local_variables h.locals;
      named_expressions = All-unmap (λ e. e.0 < length f.expressions) name_pair f.named_expressions.entries (subst (λ k. All (λ e. e.0 < k) v.named_expressions) (sym (expression_count f)) h.named_expressions);
      expressions = All-weaker (NamedWithin (counts m) (length m.functions) (length v.local_variables) (length v.arguments)) (NamedThere m f) (named_out m f _ _ (local_count f) (argument_count f)) (named_of f.expressions) (subst (All (NamedWithin (counts m) (length m.functions) (length v.local_variables) (length v.arguments))) (value_names-of f) h.expressions);
      statements = h.statements;
      body = same_stand _ _ _ _ _ _ _ _ (block_tokens f.body) (value_kinds-of f) (ap (map callee) (value_names-of f)) (value_links-of f) (value_inits-of f) h.body;
      spans = record {
        locals = All-unmap (λ (l : LocalValue × Span). IsSpanFine n l.1) local_pair f.local_variables h.local_spans;
        expressions = All-unmap (λ (e : Parts × Span). IsSpanFine n e.1) expression_pair f.expressions h.expression_spans;
      };
    }

-- ---- redirected calls

abbrev sent_part : ℕ → ℕ → Parts × Span → Parts × Span
sent_part f t e = (rename (sent f t) e.0, e.1)

kinds-sent : (f t : ℕ) (es : List (Parts × Span)) → value_kinds es ≡ value_kinds (map (sent_part f t) es)
kinds-sent f t [] = refl
kinds-sent f t (e ∷ es) = ap (λ ks. e.0.kind ∷ ks) (kinds-sent f t es)

names-sent : (f t : ℕ) (es : List (Parts × Span)) → map (rename_named (sent f t)) (value_names es) ≡ value_names (map (sent_part f t) es)
names-sent f t [] = refl
names-sent f t (e ∷ es) = ap (λ ns. rename_named (sent f t) e.0.named ∷ ns) (names-sent f t es)

links-sent : (f t : ℕ) (es : List (Parts × Span)) → value_links es ≡ value_links (map (sent_part f t) es)
links-sent f t [] = refl
links-sent f t (e ∷ es) =
    ap (λ os. flat_map option_to_list os ∷ value_links es) (sym (options-sent f t e.0.operands)) ∙ ap (λ ls. flat_map option_to_list (map (option_map (sent f t).expression) e.0.operands) ∷ ls) (links-sent f t es)

callee-sent : (f t : ℕ) (x : Named) → option_map (sent f t).function (callee x) ≡ callee (rename_named (sent f t) x)
callee-sent f t Nothing = refl
callee-sent f t (TypeOf h) = refl
callee-sent f t (ConstantAt h) = refl
callee-sent f t (OverrideAt h) = refl
callee-sent f t (GlobalAt h) = refl
callee-sent f t (LocalAt h) = refl
callee-sent f t (ArgumentAt n) = refl
callee-sent f t (FunctionAt h) = refl

callees-sent : (f t : ℕ) (ns : List Named) → map (option_map (sent f t).function) (map callee ns) ≡ map callee (map (rename_named (sent f t)) ns)
callees-sent f t [] = refl
callees-sent f t (x ∷ ns) = ap (λ c. c ∷ map (option_map (sent f t).function) (map callee ns)) (callee-sent f t x) ∙ ap (λ cs. callee (rename_named (sent f t) x) ∷ cs) (callees-sent f t ns)

made-sent : (f t : ℕ) (x : Token) → made x ≡ made (rename_token (sent f t) x)
made-sent f t (At s) = refl
made-sent f t (Head k) = refl
made-sent f t (Plain k) = refl
made-sent f t (Flag b) = refl
made-sent f t Absent = refl
made-sent f t (Use h) = refl
made-sent f t (Give h) = refl
made-sent f t (GiveCall g h) = refl
made-sent f t (Emitted r) = refl
made-sent f t (Callee g) = refl
made-sent f t Open = refl
made-sent f t Close = refl

given-sent : (f t : ℕ) (fs : List (Option ℕ)) (h : ℕ) (o : Option ℕ) → slice_get fs h ≡ Some o → slice_get (map (option_map (sent f t).function) fs) h ≡ Some (option_map (sent f t).function o)
given-sent f t fs h o e = slice_get-map (option_map (sent f t).function) fs h ∙ ap (option_map (option_map (sent f t).function)) e

token-sent : (f t n : ℕ) (ks : List ℕ) (fs : List (Option ℕ)) (ls : Links) (s d : List ℕ) (x : Token) → IsFine n ks fs ls s d x → IsFine n ks (map (option_map (sent f t).function) fs) ls s d (rename_token (sent f t) x)
token-sent f t n ks fs ls s d (Give h) i = (i.0, i.1, given-sent f t fs h None i.2, i.3)
token-sent f t n ks fs ls s d (GiveCall g h) i = (i.0, i.1, given-sent f t fs h (Some g) i.2, i.3)
token-sent f t n ks fs ls s d _ i = i

fine-sent : (f t n : ℕ) (ks : List ℕ) (fs : List (Option ℕ)) (ls : Links) (s d : List ℕ) (ts : Tokens) → AreFine n ks fs ls s d ts → AreFine n ks (map (option_map (sent f t).function) fs) ls s d (rename_tokens (sent f t) ts)
fine-sent f t n ks fs ls s d [] i = tt
fine-sent f t n ks fs ls s d (x ∷ ts) i =
    (token-sent f t n ks fs ls s d x i.0, subst (λ m. AreFine n ks (map (option_map (sent f t).function) fs) ls s (d ++ m) (rename_tokens (sent f t) ts)) (made-sent f t x) (fine-sent f t n ks fs ls s (d ++ made x) ts i.1))

stand-sent : (f t : ℕ) (ks : List ℕ) (fs : List (Option ℕ)) (ls : Links) (is : List ℕ) (ts : Tokens) → MayStand ks fs ls is ts → MayStand ks (map (option_map (sent f t).function) fs) ls is (rename_tokens (sent f t) ts)
stand-sent f t ks fs ls is ts h = record { earlier = h.earlier; there = h.there; no_results = h.no_results; body = fine-sent f t (length ls) ks fs ls _ [] ts h.body }

below-if : (f t k c : ℕ) (b : Bool) → t < c → k < c → (if b then t else k) < c
below-if f t k c true i j = i
below-if f t k c false i j = j

named-below : (m : Counts) (f t c l a : ℕ) → t < c → (x : Named) → NamedWithin m c l a x → NamedWithin m c l a (rename_named (sent f t) x)
named-below m f t c l a i (FunctionAt k) h = below-if f t k c (k == f) i h
named-below m f t c l a i _ h = h

token-below : (f t c n : ℕ) → t < c → (x : Token) → IsTokenFine c n x → IsTokenFine c n (rename_token (sent f t) x)
token-below f t c n i (Callee k) h = below-if f t k c (k == f) i h
token-below f t c n i _ h = h

form-sent : (m : Counts) (f t c n : ℕ) (v : FunctionValue) → t < c → ValueForm m c n v → ValueForm m c n (send f t v)
form-sent m f t c n v i h =
    let es = map (sent_part f t) v.expressions in
    record {
      arguments = h.arguments;
      outcome = h.outcome;
      locals = h.locals;
      named_expressions = subst (λ k. All (λ e. e.0 < k) v.named_expressions) (sym (length-map v.expressions (sent_part f t))) h.named_expressions;
      expressions = subst (All (NamedWithin m c (length v.local_variables) (length v.arguments))) (names-sent f t v.expressions) (All-map (NamedWithin m c (length v.local_variables) (length v.arguments)) (rename_named (sent f t)) (value_names v.expressions) (All-weaker (NamedWithin m c (length v.local_variables) (length v.arguments)) (λ x. NamedWithin m c (length v.local_variables) (length v.arguments) (rename_named (sent f t) x)) (named-below m f t c _ _ i) (value_names v.expressions) h.expressions));
      statements = All-map (IsTokenFine c n) (rename_token (sent f t)) v.body (All-weaker (IsTokenFine c n) (λ x. IsTokenFine c n (rename_token (sent f t) x)) (token-below f t c n i) v.body h.statements);
      body = same_stand _ _ _ _ _ _ _ _ (rename_tokens (sent f t) v.body) (kinds-sent f t v.expressions) (callees-sent f t (value_names v.expressions) ∙ ap (map callee) (names-sent f t v.expressions)) (links-sent f t v.expressions) refl (stand-sent f t _ _ _ _ v.body h.body);
      local_spans = h.local_spans;
      expression_spans = All-map (λ (e : Parts × Span). IsSpanFine n e.1) (sent_part f t) v.expressions h.expression_spans;
    }

-- ---- all functions

sent_if : (P : FunctionValue × Span → Type 0) (v w : FunctionValue × Span) (b : Bool) → P v → P w → P (if b then v else w)
sent_if P v w true p q = p
sent_if P v w false p q = q

all_sent : (m : Counts) (f t c n : ℕ) (o : Name → Bool) → t < c → (a : ℕ) (vs : List (FunctionValue × Span)) → All (λ e. ValueForm m c n e.0) vs → All (λ e. ValueForm m c n e.0) (map (send_at f t o) (enumerate_from a vs))
all_sent m f t c n o i a [] h = All-nil (λ e. ValueForm m c n e.0)
all_sent m f t c n o i a (v ∷ vs) h =
    let P = λ (e : FunctionValue × Span). ValueForm m c n e.0 in
    let first = All-head P v vs h in
    All-cons P (send_at f t o (a, v)) (map (send_at f t o) (enumerate_from (a + 1) vs)) (sent_if P v (send f t v.0, v.1) ((a == t) || is_named o v.0.name) first (form-sent m f t c n v.0 i first)) (all_sent m f t c n o i (a + 1) vs (All-tail P v vs h))

name-sent : (f t a : ℕ) (o : Name → Bool) (v : FunctionValue × Span) (b : Bool) → (if b then v else (send f t v.0, v.1)).0.name ≡ v.0.name
name-sent f t a o v true = refl
name-sent f t a o v false = refl

function_names-sent : {X : Type 0} (g : Text → X) (f t : ℕ) (o : Name → Bool) (a : ℕ) (vs : List (FunctionValue × Span)) → map (λ e. g e.0.name) (map (send_at f t o) (enumerate_from a vs)) ≡ map (λ e. g e.0.name) vs
function_names-sent g f t o a [] = refl
function_names-sent g f t o a (v ∷ vs) =
    ap (λ x. g x ∷ map (λ e. g e.0.name) (map (send_at f t o) (enumerate_from (a + 1) vs))) (name-sent f t a o v ((a == t) || is_named o v.0.name)) ∙ ap (λ xs. g v.0.name ∷ xs) (function_names-sent g f t o (a + 1) vs)

-- names of functions that are given by their values
names_as : {X : Type 0} (g : Text → X) (fs gs : List (Function × Span)) (f t : ℕ) (o : Name → Bool) → function_values gs ≡ map (send_at f t o) (enumerate_from 0 (function_values fs)) → map (λ (e : Function × Span). g (option_map string_bytes e.0.name)) fs ≡ map (λ (e : Function × Span). g (option_map string_bytes e.0.name)) gs
names_as g fs gs f t o e =
    let value : Function × Span → FunctionValue × Span = λ x. (function_value x.0, x.1) in
    let name = λ (v : FunctionValue × Span). g v.0.name in
    sym (map-map name value fs) ∙ sym (function_names-sent g f t o 0 (function_values fs)) ∙ ap (map name) (sym e) ∙ map-map name value gs

-- ---- entry points

abbrev EntryFine : Module → ℕ → ℕ → EntryValue → Type 0
EntryFine m c n v = ValueForm (counts m) c n v.function × IfSome v.workgroup_size_overrides (λ os. All (IsExpressionThere m) os) × IfSome v.mesh_info (MeshForm m) × IfSome v.task_payload (λ k. k < length m.global_variables)

-- a module with other functions and entry points
abbrev with_functions : Module → List (Function × Span) → Vec EntryPoint Global → Module
with_functions m fs es = record m { functions = fs; entry_points = es }

mesh_with : (m : Module) (fs : List (Function × Span)) (es : Vec EntryPoint Global) (o : Option MeshInfo) → IfSome o (MeshForm m) → IfSome o (MeshForm (with_functions m fs es))
mesh_with m fs es None h = h
mesh_with m fs es (Some i) h = record { vertex = h.vertex; primitive = h.primitive; output = h.output; max_vertices = h.max_vertices; max_primitives = h.max_primitives }

entry_in : (m : Module) (n : ℕ) (e : EntryPoint) → EntryForm m n e → EntryFine m (length m.functions) n (entry_value e)
entry_in m n e h = (to_value m n e.function h.function, h.workgroup_size, h.mesh_info, h.task_payload)

entry_out : (m : Module) (fs : List (Function × Span)) (es : Vec EntryPoint Global) (n : ℕ) (e : EntryPoint) → EntryFine m (length fs) n (entry_value e) → EntryForm (with_functions m fs es) n e
entry_out m fs es n e h = record { function = from_value (with_functions m fs es) n e.function h.0; workgroup_size = h.1; mesh_info = mesh_with m fs es e.mesh_info h.2; task_payload = h.3 }

entry-sent : (m : Module) (f t c n : ℕ) → t < c → (v : EntryValue) → EntryFine m c n v → EntryFine m c n (send_entry f t v)
entry-sent m f t c n i v h = (form-sent (counts m) f t c n v.function i h.0, h.1, h.2, h.3)

entry_names_as : {X : Type 0} (g : Text → X) (xs ys : List EntryPoint) (f t : ℕ) → map entry_value ys ≡ map (send_entry f t) (map entry_value xs) → map (λ (e : EntryPoint). g (option_map string_bytes e.function.name)) xs ≡ map (λ (e : EntryPoint). g (option_map string_bytes e.function.name)) ys
entry_names_as g xs ys f t e =
    let name = λ (v : EntryValue). g v.function.name in
    sym (map-map name entry_value xs) ∙ sym (map-map name (send_entry f t) (map entry_value xs)) ∙ ap (map name) (sym e) ∙ map-map name entry_value ys

-- ---- modules

some_name : (o : Option (String Global)) → IsSome o → IsSome (option_map string_bytes o)
some_name None h = h
some_name (Some s) h = h

name_some : (o : Option (String Global)) → IsSome (option_map string_bytes o) → IsSome o
name_some None h = h
name_some (Some s) h = h

abbrev name_value : Function × Span → Text
name_value e = option_map string_bytes e.0.name

named-sent : (fs gs : List (Function × Span)) → map name_value fs ≡ map name_value gs → All (λ (e : Function × Span). IsSome e.0.name) fs → All (λ (e : Function × Span). IsSome e.0.name) gs
named-sent fs gs e h =
    let before = All-map (λ (x : Text). IsSome x) name_value fs (All-weaker (λ (e : Function × Span). IsSome e.0.name) (λ e. IsSome (name_value e)) (λ e. some_name e.0.name) fs h) in
    All-weaker (λ e. IsSome (name_value e)) (λ (e : Function × Span). IsSome e.0.name) (λ e. name_some e.0.name) gs (All-unmap (λ (x : Text). IsSome x) name_value gs (subst (All (λ (x : Text). IsSome x)) e before))

count-sent : (f t : ℕ) (o : Name → Bool) (fs gs : List (Function × Span)) → function_values gs ≡ map (send_at f t o) (enumerate_from 0 (function_values fs)) → length fs ≡ length gs
count-sent f t o fs gs e =
    let value : Function × Span → FunctionValue × Span = λ x. (function_value x.0, x.1) in
    sym (length-map fs value) ∙ sym (length-enumerate_from 0 (function_values fs)) ∙ sym (length-map (enumerate_from 0 (function_values fs)) (send_at f t o)) ∙ ap length (sym e) ∙ length-map gs value

functions-sent : (m : Module) (fs : List (Function × Span)) (es : Vec EntryPoint Global) (f t n : ℕ) (o : Name → Bool) → t < length m.functions → length m.functions ≡ length fs → All (λ e. FunctionForm m (length m.functions) n e.0) m.functions → function_values fs ≡ map (send_at f t o) (enumerate_from 0 (function_values m.functions)) → All (λ e. FunctionForm (with_functions m fs es) (length fs) n e.0) fs
functions-sent m fs es f t n o i c h e =
    let value : Function × Span → FunctionValue × Span = λ x. (function_value x.0, x.1) in
    let P = λ (x : FunctionValue × Span). ValueForm (counts m) (length m.functions) n x.0 in
    let Q = λ (x : FunctionValue × Span). ValueForm (counts m) (length fs) n x.0 in
    let before = All-map P value m.functions (All-weaker (λ x. FunctionForm m (length m.functions) n x.0) (λ x. P (value x)) (λ x. to_value m n x.0) m.functions h) in
    let after = subst (All P) (sym e) (all_sent (counts m) f t (length m.functions) n o i 0 (function_values m.functions) before) in
    let counted = subst (λ k. All (λ (x : FunctionValue × Span). ValueForm (counts m) k n x.0) (function_values fs)) c after in
    All-weaker (λ x. Q (value x)) (λ x. FunctionForm (with_functions m fs es) (length fs) n x.0) (λ x. from_value (with_functions m fs es) n x.0) fs (All-unmap Q value fs counted)

entries-sent : (m : Module) (fs : List (Function × Span)) (es : Vec EntryPoint Global) (f t n : ℕ) → t < length m.functions → length m.functions ≡ length fs → All (EntryForm m n) m.entry_points.items → map entry_value es.items ≡ map (send_entry f t) (map entry_value m.entry_points.items) → All (EntryForm (with_functions m fs es) n) es.items
entries-sent m fs es f t n i c h e =
    let P = EntryFine m (length m.functions) n in
    let Q = EntryFine m (length fs) n in
    let old = map entry_value m.entry_points.items in
    let before = All-map P entry_value m.entry_points.items (All-weaker (EntryForm m n) (λ x. P (entry_value x)) (entry_in m n) m.entry_points.items h) in
    let after = subst (All P) (sym e) (All-map P (send_entry f t) old (All-weaker P (λ v. P (send_entry f t v)) (entry-sent m f t (length m.functions) n i) old before)) in
    let counted = subst (λ k. All (EntryFine m k n) (map entry_value es.items)) c after in
    All-weaker (λ x. Q (entry_value x)) (EntryForm (with_functions m fs es) n) (entry_out m fs es n) es.items (All-unmap Q entry_value es.items counted)

-- a module whose calls are redirected to one of its functions can be redirected again
pub redirectable-sent : (m : Module) (fs : List (Function × Span)) (es : Vec EntryPoint Global) (f t : ℕ) (o : Name → Bool) → t < length m.functions → Redirectable m → function_values fs ≡ map (send_at f t o) (enumerate_from 0 (function_values m.functions)) → map entry_value es.items ≡ map (send_entry f t) (map entry_value m.entry_points.items) → Redirectable (with_functions m fs es)
redirectable-sent m fs es f t o i h e g =
    let c = count-sent f t o m.functions fs e in
    let names = h.items.names in
    let expressions = h.items.expressions in
    record {
      items = record {
        earlier_types = h.items.earlier_types;
        names = record { types = names.types; constants = names.constants; overrides = names.overrides; globals = names.globals; expressions = names.expressions };
        expressions = record { earlier_operands = expressions.earlier_operands; after = expressions.after; kinds = expressions.kinds };
        special = h.items.special;
      };
      names = record {
        named = named-sent m.functions fs (names_as (λ x. x) m.functions fs f t o e) h.names.named;
        functions = subst (IsDistinct (pointwise nat_eq)) (names_as (λ x. with_decoration [] (unwrap_or x [])) m.functions fs f t o e) h.names.functions;
        entry_points = subst (IsDistinct (pointwise nat_eq)) (entry_names_as (λ x. with_decoration [] (unwrap_or x (codes "main"))) m.entry_points.items es.items f t g) h.names.entry_points;
      };
      functions = functions-sent m fs es f t 4294967295 o i c h.functions e;
      entry_points = entries-sent m fs es f t 4294967295 i c h.entry_points g;
    }
