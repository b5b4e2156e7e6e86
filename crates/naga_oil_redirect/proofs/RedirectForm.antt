-- Properties of modules whose calls can be redirected to other functions.
use Rattle.std.proofs.Common.{◌≡◌, ◌∙◌, ℕ, zero, suc, ◌<◌, ◌≤◌, [], ◌∷◌, length, get_or, All, sym, subst, arith}
use Rattle.std.proofs.lemmas.List.{length-map}
use Rattle.std.proofs.lemmas.List.Elements.{All-map, All-nil, All-cons, All-head, All-tail, All-weaker}
use Rattle.std.proofs.lemmas.Option.{slice_get-get_or}
use Rattle.naga_oil_ir.specs.Body.{Tokens, block_tokens}
use Rattle.naga_oil_form.specs.BodyForm.{IsTokenFine}
use Rattle.naga_oil_form.specs.Links.{Links, linked}
use Rattle.naga_oil_ir.specs.ModuleValue.{FunctionValue, function_value}
use Rattle.naga_oil_form.specs.WellFormed.{FunctionForm, FunctionsForm, EntryForm, WellFormed}
use Rattle.naga_oil_ir.specs.declared.module.EntryPoint.{EntryPoint}
use Rattle.naga_oil_ir.specs.declared.module.Function.{Function}
use Rattle.naga_oil_ir.specs.declared.module.Module.{Module}
use Rattle.naga_oil_ir.specs.declared.span.Span.{Span}
use Rattle.naga_oil_ir.specs.declared.tokens.Token.{Token}
use Rattle.naga_oil_ir.specs.declared.tokens.Token.TheVariants.{At, Callee}
use Rattle.naga_oil_redirect.specs.Level.{StayWithin}
use Rattle.naga_oil_redirect.specs.Ordered.{callees_of, calls_of}
use Rattle.naga_oil_redirect.specs.Redirectable.{Redirectable}
use Rattle.naga_oil_redirect.specs.Redirected.{function_values}
use Rattle.naga_oil_derive.proofs.RankLemmas.{form_copyable}

-- ---- a module that passes the test of form

token_weaker : (c d n k : ℕ) → c ≤ d → n ≤ k → (x : Token) → IsTokenFine c n x → IsTokenFine d k x
token_weaker c d n k i j (Callee f) h = omega (arith, i, h)
token_weaker c d n k i j (At s) h = (h.0, omega (arith, j, h.1))
token_weaker c d n k i j _ h = h

function_weaker : (m : Module) (c d n k : ℕ) (f : Function) → c ≤ d → n ≤ k → FunctionForm m c n f → FunctionForm m d k f
function_weaker m c d n k f i j h = record {
  arguments = h.arguments;
  result = h.result;
  locals = h.locals;
  named_expressions = h.named_expressions;
  expressions = h.expressions;
  statements = All-weaker (IsTokenFine c n) (IsTokenFine d k) (token_weaker c d n k i j) (block_tokens f.body) h.statements;
  body = h.body;
  spans = record {
    locals = λ x d l. (let s = h.spans.locals x d l in (s.0, omega (arith, j, s.1)));
    expressions = λ x d l. (let s = h.spans.expressions x d l in (s.0, omega (arith, j, s.1)));
  };
}

functions_weaker : (m : Module) (n : ℕ) → n ≤ 4294967295 → FunctionsForm m n m.functions → All (λ e. FunctionForm m (length m.functions) 4294967295 e.0) m.functions
unfolding FunctionsForm
functions_weaker m n j h k d l =
    function_weaker m k (length m.functions) n 4294967295 (get_or m.functions k d).0 (omega (arith, l)) j (h k (get_or m.functions k d) (slice_get-get_or m.functions k d l))

entry_weaker : (m : Module) (n : ℕ) → n ≤ 4294967295 → (e : EntryPoint) → EntryForm m n e → EntryForm m 4294967295 e
entry_weaker m n j e h = record {
  function = function_weaker m (length m.functions) (length m.functions) n 4294967295 e.function (omega arith) j h.function;
  workgroup_size = h.workgroup_size;
  mesh_info = h.mesh_info;
  task_payload = h.task_payload;
}

-- a module that passes the test of form can be redirected
pub redirectable_formed : (m : Module) (n : ℕ) → n ≤ 4294967295 → WellFormed m [] n → Redirectable m
redirectable_formed m n j h = record {
  items = form_copyable m h.items;
  names = h.names;
  functions = functions_weaker m n j h.functions;
  entry_points = All-weaker (EntryForm m n) (EntryForm m 4294967295) (entry_weaker m n j) m.entry_points.items h.entry_points;
}

-- ---- its calls

linked_below : (c : ℕ) (ls : Links) → All (All (λ x. x < c)) ls → (k : ℕ) → All (λ x. x < c) (linked ls k)
linked_below c [] h k = All-nil (λ x. x < c)
linked_below c (l ∷ ls) h zero = All-head (All (λ x. x < c)) l ls h
linked_below c (l ∷ ls) h (suc k) = linked_below c ls (All-tail (All (λ x. x < c)) l ls h) k

pub callees_below : (c n : ℕ) (ts : Tokens) → All (IsTokenFine c n) ts → All (λ x. x < c) (callees_of ts)
callees_below c n [] h = All-nil (λ x. x < c)
callees_below c n (Callee f ∷ ts) h =
    All-cons (λ x. x < c) f (callees_of ts) (All-head (IsTokenFine c n) (Callee f) ts h) (callees_below c n ts (All-tail (IsTokenFine c n) (Callee f) ts h))
callees_below c n (x ∷ ts) h = callees_below c n ts (All-tail (IsTokenFine c n) x ts h)

-- its calls go to its functions
pub stay_within : (m : Module) → Redirectable m → StayWithin (calls_of (function_values m.functions))
stay_within m h k =
    let value : Function × Span → FunctionValue × Span = λ e. (function_value e.0, e.1) in
    let calls = λ (v : FunctionValue × Span). callees_of v.0.body in
    let c = length m.functions in
    let below = All-map (All (λ x. x < c)) calls (function_values m.functions) (All-map (λ v. All (λ x. x < c) (calls v)) value m.functions (All-weaker (λ e. FunctionForm m c 4294967295 e.0) (λ e. All (λ x. x < c) (callees_of (block_tokens e.0.body))) (λ e i. callees_below c 4294967295 (block_tokens e.0.body) i.statements) m.functions h.functions)) in
    let count : c ≡ length (calls_of (function_values m.functions)) = sym (length-map m.functions value) ∙ sym (length-map (function_values m.functions) calls) in
    subst (λ n. All (λ x. x < n) (linked (calls_of (function_values m.functions)) k)) count (linked_below c (calls_of (function_values m.functions)) below k)
