-- What the end of a line makes fits a function.
use Rattle.std.proofs.Common.{◌≡◌, ◌<◌, ◌+◌, ℕ, zero, suc, Bool, true, false, if◌then◌else◌, List, [], ◌∷◌, ◌++◌, length, Option, Some, None, Result, Ok, Err, bytes_eq, codes, arith, refl, All}
use Rattle.std.specs.Result.{IfOk}
use Rattle.std.proofs.lemmas.List.Elements.{All-nil, All-push}
use Rattle.naga_oil_ir.specs.Parts.{Parts}
use Rattle.naga_oil_ir.specs.declared.parts.Named.{Named}
use Rattle.naga_oil_ir.specs.declared.parts.Named.TheVariants.{Nothing, ConstantAt, GlobalAt, LocalAt, ArgumentAt, FunctionAt}
use Rattle.naga_oil_ir.specs.declared.span.Span.{Span}
use Rattle.naga_oil_ir.specs.declared.tokens.Token.TheVariants.{Use, Emitted}
use Rattle.naga_oil_mini_symbols.specs.NameTable.{last_place}
use Rattle.naga_oil_mini_symbols.specs.Refused.{LineFault, ◌>>◌}
use Rattle.naga_oil_mini_symbols.specs.Symbols.{Symbol, name, opens, number, equals, plus, comma, closes}
use Rattle.naga_oil_mini_front.specs.Making.{Scope, literal, constant, global, local, argument_number, parameter, call_result, load, binary, parameter_terms, OpenCall, Wanted, a_sum, a_local, an_equals, an_initialiser, Made, put, stated, next_place, emitted, joined, with_term, with_variable, met, with_constant, with_named, with_name, function_met, argument_ended, last_of, last_call, called, call_ended, read_after, read_initialiser, read_wanted, read_symbol, read_symbols, ended, returned, begun, begun_by, read_end, nothing_made, inside, made}
use Rattle.naga_oil_front_laws.proofs.Bodies.{IsFine, AreFine, none_fine, fine_put, fine_statement, fine_call}

-- ---- results

-- what follows a value keeps what holds of it
pub then_if : {A B : Type 0} (r : Result A LineFault) (f : A → Result B LineFault) (Q : A → Type 0) (P : B → Type 0) → IfOk r Q → ((x : A) → Q x → IfOk (f x) P) → IfOk (r >> f) P
then_if (Ok x) f Q P q h = h x q
then_if (Err e) f Q P q h = tt

pub then_any : {A B : Type 0} (r : Result A LineFault) (f : A → Result B LineFault) (P : B → Type 0) → ((x : A) → IfOk (f x) P) → IfOk (r >> f) P
then_any (Ok x) f P h = h x
then_any (Err e) f P h = tt

-- what holds of both holds of either
pub in_either : {X : Type 0} (b : Bool) (x y : X) (P : X → Type 0) → P x → P y → P (if b then x else y)
in_either true x y P h i = h
in_either false x y P h i = i

-- ---- expressions

-- an expression of no operands that names no function
source_fine : (k : ℕ) (ns : List ℕ) (x : Named) → ((f : ℕ) → x ≡ FunctionAt f → ⊥) → IsFine (record { kind = k; plain = ns; named = x; operands = [] })
source_fine k ns x other = record { callee = λ f e. absurd (other f e); alone = λ l. refl }

pub literal_fine : (n : ℕ) → IsFine (literal n)
literal_fine n = source_fine 0 (1 ∷ n ∷ []) Nothing (λ f e. cc)

constant_fine : (c : ℕ) → IsFine (constant c)
constant_fine c = source_fine 2 [] (ConstantAt c) (λ f e. cc)

global_fine : (g : ℕ) → IsFine (global g)
global_fine g = source_fine 4 [] (GlobalAt g) (λ f e. cc)

local_fine : (l : ℕ) → IsFine (local l)
local_fine l = source_fine 5 [] (LocalAt l) (λ f e. cc)

parameter_fine : (k : ℕ) → IsFine (parameter k)
parameter_fine k = source_fine 6 [] (ArgumentAt (argument_number k)) (λ f e. cc)

result_fine : (f : ℕ) → IsFine (call_result f)
result_fine f = record { callee = λ g e. refl; alone = λ l. refl }

-- an expression that names nothing, of a kind that has operands
inner_fine : (k : ℕ) (ns : List ℕ) (os : List (Option ℕ)) → 12 < k → IsFine (record { kind = k; plain = ns; named = Nothing; operands = os })
inner_fine k ns os h = record { callee = λ f e. (let no : Nothing ≡ FunctionAt f = e in cc); alone = λ l. (let less : k < 13 = l in absurd (omega arith)) }

load_fine : (pointer : ℕ) → IsFine (load pointer)
load_fine pointer = inner_fine 18 [] (Some pointer ∷ []) (omega arith)

binary_fine : (l r : ℕ) → IsFine (binary l r)
binary_fine l r = inner_fine 23 (1 ∷ []) (Some l ∷ Some r ∷ []) (omega arith)

parameters_fine : (n : ℕ) (at : Span) → All (λ (e : Parts × Span). IsFine e.0) (parameter_terms n at)
parameters_fine zero at = All-nil (λ (e : Parts × Span). IsFine e.0)
parameters_fine (suc n) at = All-push (λ (e : Parts × Span). IsFine e.0) (parameter_terms n at) (parameter n, at) (parameters_fine n at) (parameter_fine n)

-- ---- what is being made

abbrev IsFineSoFar : Made → Type 0
IsFineSoFar m = AreFine m.expressions m.body

fine_emitted : (p : Parts) (m : Made) → IsFine p → IsFineSoFar m → IsFineSoFar (emitted p m)
fine_emitted p m f a = fine_statement (m.expressions ++ (p, m.span) ∷ []) m.body m.span 0 (Emitted (next_place m, next_place m + 1)) (λ us. tt) (fine_put m.expressions m.body p m.span f a)

fine_joined : (o : Option ℕ) (h : ℕ) (m : Made) → IsFineSoFar m → IsFineSoFar (joined o h m)
fine_joined None h m a = a
fine_joined (Some l) h m a = fine_emitted (binary l h) m (binary_fine l h) a

fine_term : (p : Parts) (m : Made) → IsFine p → IsFineSoFar m → IsFineSoFar (with_term p m)
fine_term p m f a = fine_joined m.left (next_place m) (put p m) (fine_put m.expressions m.body p m.span f a)

fine_variable : (p : Parts) (m : Made) → IsFine p → IsFineSoFar m → IsFineSoFar (with_variable p m)
fine_variable p m f a = fine_joined m.left (next_place m + 1) (emitted (load (next_place m)) (put p m)) (fine_emitted (load (next_place m)) (put p m) (load_fine (next_place m)) (fine_put m.expressions m.body p m.span f a))

fine_met : (n : List ℕ) (o : Option ℕ) (m : Made) → IsFineSoFar m → IsFineSoFar (met n o m)
fine_met n (Some k) m a = a
fine_met n None m a = a

fine_constant : (n : List ℕ) (m : Made) → IsFineSoFar m → IsFineSoFar (with_constant n m)
fine_constant n m a = fine_term (constant _) (met n (last_place n m.scope.constants) m) (constant_fine _) (fine_met n (last_place n m.scope.constants) m a)

fine_named : (p l g : Option ℕ) (n : List ℕ) (m : Made) → IsFineSoFar m → IsFineSoFar (with_named p l g n m)
fine_named (Some p) l g n m a = fine_joined m.left p m a
fine_named None (Some l) g n m a = fine_variable (local l) m (local_fine l) a
fine_named None None (Some g) n m a = fine_variable (global g) m (global_fine g) a
fine_named None None None n m a = fine_constant n m a

fine_name : (n : List ℕ) (m : Made) → IsFineSoFar m → IsFineSoFar (with_name n m)
fine_name n m a = fine_named (last_place n m.scope.parameters) (last_place n m.names) (last_place n m.scope.globals) n m a

fine_function : (n : List ℕ) (m : Made) → IsFineSoFar m → IsFineSoFar (function_met n m)
fine_function n m a = fine_met n (last_place n m.scope.functions) m a

fine_last : (cs : List OpenCall) (m : Made) → IsFineSoFar m → IfOk (last_of cs m) (λ r. IsFineSoFar r.1)
fine_last [] m a = tt
fine_last (c ∷ cs) m a = then_any (argument_ended m.sum m.left c.arguments) _ (λ (r : OpenCall × Made). IsFineSoFar r.1) (λ hs. a)

fine_ended : (c : OpenCall) (m : Made) → IsFineSoFar m → IsFineSoFar (call_ended c m)
fine_ended c m a = fine_term (call_result c.callee) (record (stated (called c.callee c.arguments (next_place m)) m) { left = c.left }) (result_fine c.callee) (fine_call m.expressions m.body m.span c.callee c.arguments (next_place m) a)

-- ---- symbols

fine_closed : (m : Made) → IsFineSoFar m → IfOk (last_call m >> λ r. Ok (call_ended r.0 r.1)) IsFineSoFar
fine_closed m a = then_if (last_call m) (λ r. Ok (call_ended r.0 r.1)) (λ r. IsFineSoFar r.1) IsFineSoFar (fine_last m.calls m a) (λ r b. fine_ended r.0 r.1 b)

fine_after : (o : Option ℕ) (s : Symbol) (m : Made) → IsFineSoFar m → IfOk (read_after o s m) IsFineSoFar
fine_after None (name n) m a = fine_name n m a
fine_after None (opens f) m a = fine_function f m a
fine_after None (number n) m a = fine_term (literal n) m (literal_fine n) a
fine_after None equals m a = tt
fine_after None plus m a = tt
fine_after None comma m a = tt
fine_after None closes m a = fine_closed m a
fine_after (Some h) (name n) m a = tt
fine_after (Some h) (opens f) m a = tt
fine_after (Some h) (number n) m a = tt
fine_after (Some h) equals m a = tt
fine_after (Some h) plus m a = a
fine_after (Some h) comma m a = then_if (last_call m) _ (λ r. IsFineSoFar r.1) IsFineSoFar (fine_last m.calls m a) (λ r b. b)
fine_after (Some h) closes m a = fine_closed m a

fine_initialiser : (l : List ℕ) (o : Option ℕ) (s : Symbol) (m : Made) → IsFineSoFar m → IfOk (read_initialiser l o s m) IsFineSoFar
fine_initialiser l None (name n) m a = fine_constant n m a
fine_initialiser l None (opens f) m a = tt
fine_initialiser l None (number n) m a = fine_term (literal n) m (literal_fine n) a
fine_initialiser l None equals m a = tt
fine_initialiser l None plus m a = tt
fine_initialiser l None comma m a = tt
fine_initialiser l None closes m a = tt
fine_initialiser l (Some h) (name n) m a = tt
fine_initialiser l (Some h) (opens f) m a = tt
fine_initialiser l (Some h) (number n) m a = tt
fine_initialiser l (Some h) equals m a = a
fine_initialiser l (Some h) plus m a = a
fine_initialiser l (Some h) comma m a = a
fine_initialiser l (Some h) closes m a = tt

fine_wanted : (w : Wanted) (s : Symbol) (m : Made) → IsFineSoFar m → IfOk (read_wanted w s m) IsFineSoFar
fine_wanted a_sum s m a = fine_after m.sum s m a
fine_wanted a_local (name n) m a = a
fine_wanted a_local (opens f) m a = tt
fine_wanted a_local (number n) m a = tt
fine_wanted a_local equals m a = tt
fine_wanted a_local plus m a = tt
fine_wanted a_local comma m a = tt
fine_wanted a_local closes m a = tt
fine_wanted (an_equals l) (name n) m a = tt
fine_wanted (an_equals l) (opens f) m a = tt
fine_wanted (an_equals l) (number n) m a = tt
fine_wanted (an_equals l) equals m a = a
fine_wanted (an_equals l) plus m a = tt
fine_wanted (an_equals l) comma m a = tt
fine_wanted (an_equals l) closes m a = tt
fine_wanted (an_initialiser l) s m a = fine_initialiser l m.sum s m a

fine_symbols : (xs : List Symbol) (m : Made) → IsFineSoFar m → IfOk (read_symbols xs m) IsFineSoFar
fine_symbols [] m a = a
fine_symbols (x ∷ xs) m a = then_if (read_symbol x m) (read_symbols xs) IsFineSoFar IsFineSoFar (fine_wanted m.wanted x m a) (fine_symbols xs)

-- ---- the end of a line

fine_returned : (w : Wanted) (cs : List OpenCall) (o : Option ℕ) (u : Option (List ℕ)) (m : Made) → IsFineSoFar m → IfOk (ended w cs o u m) IsFineSoFar
fine_returned a_sum [] (Some h) None m a = fine_statement m.expressions m.body m.span 10 (Use h) (λ us. tt) a
fine_returned a_sum [] (Some h) (Some n) m a = tt
fine_returned a_sum [] None u m a = tt
fine_returned a_sum (c ∷ cs) o u m a = tt
fine_returned a_local cs o u m a = tt
fine_returned (an_equals l) cs o u m a = tt
fine_returned (an_initialiser l) cs o u m a = tt

fine_begun : (w : Wanted) (m : Made) → IsFineSoFar m → IsFineSoFar (begun w m)
fine_begun w m a = record { expressions = parameters_fine (length m.scope.parameters) m.span; body = a.body }

fine_begun_by : (s : Symbol) (m : Made) → IsFineSoFar m → IfOk (begun_by s m) IsFineSoFar
fine_begun_by (name n) m a = in_either (bytes_eq n (codes "with")) _ _ (λ (r : Result Made LineFault). IfOk r IsFineSoFar) (fine_begun a_local m a) tt
fine_begun_by (opens f) m a = tt
fine_begun_by (number n) m a = tt
fine_begun_by equals m a = fine_begun a_sum m a
fine_begun_by plus m a = tt
fine_begun_by comma m a = tt
fine_begun_by closes m a = tt

fine_end : (xs : List Symbol) (m : Made) → IsFineSoFar m → IfOk (read_end xs m) IsFineSoFar
fine_end [] m a = a
fine_end (x ∷ xs) m a = then_if (begun_by x m) _ IsFineSoFar IsFineSoFar (fine_begun_by x m a)
    (λ n b. then_if (read_symbols xs n) returned IsFineSoFar IsFineSoFar (fine_symbols xs n b) (λ k c. fine_returned k.wanted k.calls k.sum k.unknown_name k c))

pub fine_made : (s : Scope) (at : Span) (xs : List Symbol) → IfOk (made s at xs) (λ b. AreFine b.expressions b.body)
fine_made s at xs = then_if (read_end xs (nothing_made s at)) (λ m. Ok (inside m)) IsFineSoFar (λ b. AreFine b.expressions b.body) (fine_end xs (nothing_made s at) none_fine) (λ m a. a)
