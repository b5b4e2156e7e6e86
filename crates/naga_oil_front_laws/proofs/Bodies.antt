-- Bodies that call what they take results of, and expressions that fit a function.
use Rattle.std.proofs.Common.{◌≡◌, ℕ, ◌<◌, List, [], ◌∷◌, ◌++◌, map, Some, option_to_list, slice_get, refl, ap, ◌∙◌, arith, All}
use Rattle.std.specs.List.{flat_map, Contains}
use Rattle.std.proofs.lemmas.List.Elements.{All-nil, All-cons, All-append, All-push, All-weaker, Contains-append_left, Contains-append_right}
use Rattle.std.proofs.lemmas.Option.{slice_get-get_or}
use Rattle.naga_oil_ir.specs.Body.{Tokens}
use Rattle.naga_oil_ir.specs.Parts.{Parts}
use Rattle.naga_oil_ir.specs.declared.span.Span.{Span}
use Rattle.naga_oil_ir.specs.declared.tokens.Token.{Token}
use Rattle.naga_oil_ir.specs.declared.tokens.Token.TheVariants.{At, Head, Use, GiveCall, Callee}
use Rattle.naga_oil_derive.specs.CopiedFunctionLaw.{StandAlone}
use Rattle.naga_oil_form_laws.specs.FunctionForm.{NamesFunctionAsResult, AreResultsOfCalls}
use Rattle.naga_oil_form_laws.proofs.RequestLemmas.{all_at}

-- ---- bodies

-- a result in a part of a body is of a call in that part
abbrev pub IsCalled : Tokens → Token → Type 0
IsCalled ts (GiveCall f h) = Contains ts (Callee f)
IsCalled ts _ = Unit {0}

called_more : (xs ys : Tokens) (t : Token) → IsCalled xs t → IsCalled (xs ++ ys) t
called_more xs ys (GiveCall f h) c = Contains-append_left xs ys (Callee f) c
called_more xs ys _ c = tt

called_join : (xs ys : Tokens) → All (IsCalled xs) xs → All (IsCalled (xs ++ ys)) ys → All (IsCalled (xs ++ ys)) (xs ++ ys)
called_join xs ys a b = All-append (IsCalled (xs ++ ys)) xs ys (All-weaker (IsCalled xs) (IsCalled (xs ++ ys)) (called_more xs ys) xs a) b

uses_called : (ts : Tokens) (hs : List ℕ) → All (IsCalled ts) (map Use hs)
uses_called ts [] = All-nil (IsCalled ts)
uses_called ts (h ∷ hs) = All-cons (IsCalled ts) (Use h) (map Use hs) tt (uses_called ts hs)

there : (ts : Tokens) (t : Token) → Contains ts t → (j : ℕ) × (slice_get ts j ≡ Some t)
there ts t c = (c.0, slice_get-get_or ts c.0 t c.1 ∙ ap Some c.2)

-- ---- functions

-- what names a function is a result, and what comes from outside has no operands
pub record IsFine (p : Parts) : Type 0 where
  pub callee : NamesFunctionAsResult p
  pub alone : p.kind < 13 → flat_map option_to_list p.operands ≡ []

-- expressions fit a function, and so does a body
pub record AreFine (es : List (Parts × Span)) (ts : Tokens) : Type 0 where
  pub expressions : All (λ e. IsFine e.0) es
  pub body : All (IsCalled ts) ts

pub none_fine : AreFine [] []
none_fine = record { expressions = All-nil (λ (e : Parts × Span). IsFine e.0); body = All-nil (IsCalled []) }

pub fine_put : (es : List (Parts × Span)) (ts : Tokens) (p : Parts) (at : Span) → IsFine p → AreFine es ts → AreFine (es ++ (p, at) ∷ []) ts
fine_put es ts p at f a = record { expressions = All-push (λ (e : Parts × Span). IsFine e.0) es (p, at) a.expressions f; body = a.body }

fine_stated : (es : List (Parts × Span)) (ts us : Tokens) → All (IsCalled (ts ++ us)) us → AreFine es ts → AreFine es (ts ++ us)
fine_stated es ts us c a = record { expressions = a.expressions; body = called_join ts us a.body c }

-- a statement of two parts that is no call
pub fine_statement : (es : List (Parts × Span)) (ts : Tokens) (at : Span) (k : ℕ) (t : Token) → ((us : Tokens) → IsCalled us t) → AreFine es ts → AreFine es (ts ++ At at ∷ Head k ∷ t ∷ [])
fine_statement es ts at k t p a =
    let all = ts ++ At at ∷ Head k ∷ t ∷ [] in
    fine_stated es ts (At at ∷ Head k ∷ t ∷ []) (All-cons (IsCalled all) (At at) (Head k ∷ t ∷ []) tt (All-cons (IsCalled all) (Head k) (t ∷ []) tt (All-cons (IsCalled all) t [] (p all) (All-nil (IsCalled all))))) a

pub fine_call : (es : List (Parts × Span)) (ts : Tokens) (at : Span) (f : ℕ) (hs : List ℕ) (h : ℕ) → AreFine es ts → AreFine es (ts ++ At at ∷ Head 16 ∷ Callee f ∷ (map Use hs ++ GiveCall f h ∷ []))
fine_call es ts at f hs h a =
    let us = At at ∷ Head 16 ∷ Callee f ∷ (map Use hs ++ GiveCall f h ∷ []) in
    let all = ts ++ us in
    let c : Contains all (Callee f) = Contains-append_right ts us (Callee f) (2, omega arith, refl) in
    let rest : All (IsCalled all) (map Use hs ++ GiveCall f h ∷ []) = All-append (IsCalled all) (map Use hs) (GiveCall f h ∷ []) (uses_called all hs) (All-cons (IsCalled all) (GiveCall f h) [] c (All-nil (IsCalled all))) in
    fine_stated es ts us (All-cons (IsCalled all) (At at) (Head 16 ∷ Callee f ∷ (map Use hs ++ GiveCall f h ∷ [])) tt (All-cons (IsCalled all) (Head 16) (Callee f ∷ (map Use hs ++ GiveCall f h ∷ [])) tt (All-cons (IsCalled all) (Callee f) (map Use hs ++ GiveCall f h ∷ []) tt rest))) a

-- ---- as the shape says it

pub callees : (es : List (Parts × Span)) (ts : Tokens) → AreFine es ts → All (λ e. NamesFunctionAsResult e.0) es
callees es ts a = All-weaker (λ (e : Parts × Span). IsFine e.0) (λ (e : Parts × Span). NamesFunctionAsResult e.0) (λ e f. f.callee) es a.expressions

pub results : (es : List (Parts × Span)) (ts : Tokens) → AreFine es ts → AreResultsOfCalls ts
results es ts a i f h e = there ts (Callee f) (all_at (IsCalled ts) ts i (GiveCall f h) a.body e)

pub alone : (es : List (Parts × Span)) (ts : Tokens) → AreFine es ts → StandAlone es
alone es ts a k e at l = (all_at (λ (e : Parts × Span). IsFine e.0) es k e a.expressions at).alone l
