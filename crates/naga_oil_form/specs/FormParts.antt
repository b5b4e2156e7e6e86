-- The test of form of places, bodies and functions, as values.
use Rattle.std.specs.Prelude.{ℕ, Bool, true, not, ◌&&◌, List, [], ◌∷◌, ◌++◌, length, map, slice_get, flat_map, Option, Some, None, option_to_list, nat_eq, nat_lt, nat_le}
use Rattle.std.specs.List.{list_all, enumerate_from}
use Rattle.std.specs.Option.{option_eq}
use Rattle.naga_oil_ir.specs.Body.{Tokens}
use Rattle.naga_oil_form.specs.BodyForm.{callee, is_external, is_result, places, is_known, made}
use Rattle.naga_oil_form.specs.Links.{Links, linked, has, started}
use Rattle.naga_oil_ir.specs.ModuleValue.{ModuleValue, FunctionValue}
use Rattle.naga_oil_ir.specs.Parts.{Parts}
use Rattle.naga_oil_ir.specs.declared.parts.Named.{Named}
use Rattle.naga_oil_ir.specs.declared.parts.Named.TheVariants.{Nothing, TypeOf, ConstantAt, OverrideAt, GlobalAt, LocalAt, ArgumentAt, FunctionAt}
use Rattle.naga_oil_ir.specs.declared.span.Span.{Span}
use Rattle.naga_oil_ir.specs.declared.tokens.Token.{Token}
use Rattle.naga_oil_ir.specs.declared.tokens.Token.TheVariants.{At, Use, Give, GiveCall, Emitted, Callee}

-- whether what may be absent passes, or is absent
abbrev pub passes_if_there : {A : Type 0} → (A → Bool) → Option A → Bool
passes_if_there p None = true
passes_if_there p (Some x) = p x

-- whether each place names earlier places alone
abbrev pub are_earlier : Links → Bool
are_earlier ls = list_all (λ e. list_all (λ x. nat_lt x e.0) e.1) (enumerate_from 0 ls)

-- the kinds of expressions
abbrev pub kinds_of : List (Parts × Span) → List ℕ
kinds_of es = map (λ e. e.0.kind) es

-- of each expression the function whose result it is
abbrev pub callees_of : List (Parts × Span) → List (Option ℕ)
callees_of es = map (λ e. callee e.0.named) es

-- of each expression the operands that are there
abbrev pub operands_of : List (Parts × Span) → Links
operands_of es = map (λ e. flat_map option_to_list e.0.operands) es

-- whether places may be emitted one after another, by the kinds and links of expressions, after what is reached and done
abbrev pub are_emitted : List ℕ → Links → List ℕ → List ℕ → List ℕ → Bool
are_emitted ks ls s done [] = true
are_emitted ks ls s done (k ∷ es) =
    (not (is_external ks k) && not (is_result ks k) && not (has done k) && list_all (is_known ks s done) (linked ls k)) && are_emitted ks ls s (done ++ k ∷ []) es

-- whether a result of n places may be given once, a call's by a call of its function alone
abbrev pub may_be_given : ℕ → List ℕ → List (Option ℕ) → List ℕ → Option ℕ → ℕ → Bool
may_be_given n ks fs done o h = nat_lt h n && is_result ks h && option_eq (option_eq nat_eq) (slice_get fs h) (Some o) && not (has done h)

-- whether a part of a body may stand
abbrev pub is_fine : ℕ → List ℕ → List (Option ℕ) → Links → List ℕ → List ℕ → Token → Bool
is_fine n ks fs ls s done (Use h) = nat_lt h n && is_known ks s done h
is_fine n ks fs ls s done (Give h) = may_be_given n ks fs done None h
is_fine n ks fs ls s done (GiveCall f h) = may_be_given n ks fs done (Some f) h
is_fine n ks fs ls s done (Emitted r) = nat_le r.0 r.1 && nat_le r.1 n && are_emitted ks ls s done (places r)
is_fine n ks fs ls s done _ = true

-- whether the parts of a body may stand one after another
abbrev pub are_fine : ℕ → List ℕ → List (Option ℕ) → Links → List ℕ → List ℕ → Tokens → Bool
are_fine n ks fs ls s done [] = true
are_fine n ks fs ls s done (t ∷ ts) = is_fine n ks fs ls s done t && are_fine n ks fs ls s (done ++ made t) ts

-- whether a span lies in a text of n bytes
abbrev pub is_span_fine : ℕ → Span → Bool
is_span_fine n s = nat_le s.start s.end && nat_le s.end n

-- whether a part of a body may stand by itself: a call goes to one of the first c functions, a span lies in a text of n bytes
abbrev pub is_token_fine : ℕ → ℕ → Token → Bool
is_token_fine c n (Callee f) = nat_lt f c
is_token_fine c n (At s) = is_span_fine n s
is_token_fine c n _ = true

-- whether expressions of these kinds, callees and operands may stand after initialisers, and so may the parts of the body
abbrev pub may_stand : List ℕ → List (Option ℕ) → Links → List ℕ → Tokens → Bool
may_stand ks fs ls is ts =
    are_earlier ls && list_all (λ h. nat_lt h (length ls)) is && list_all (λ h. not (is_result ks h)) (started ls is) && are_fine (length ls) ks fs ls (started ls is) [] ts

-- whether what an expression of a function names is there
abbrev pub is_named_there : ModuleValue → FunctionValue → Named → Bool
is_named_there m f Nothing = true
is_named_there m f (TypeOf k) = nat_lt k (length m.types)
is_named_there m f (ConstantAt k) = nat_lt k (length m.constants)
is_named_there m f (OverrideAt k) = nat_lt k (length m.overrides)
is_named_there m f (GlobalAt k) = nat_lt k (length m.global_variables)
is_named_there m f (LocalAt k) = nat_lt k (length f.local_variables)
is_named_there m f (ArgumentAt k) = nat_lt k (length f.arguments)
is_named_there m f (FunctionAt k) = nat_lt k (length m.functions)

-- whether what the signature and the variables of a function name is there, and the expressions with names
abbrev pub is_signature_formed : ModuleValue → FunctionValue → Bool
is_signature_formed m f =
    list_all (λ a. nat_lt a.ty (length m.types)) f.arguments && passes_if_there (λ r. nat_lt r.ty (length m.types)) f.result
    && list_all (λ l. nat_lt l.0.ty (length m.types)) f.local_variables && list_all (λ e. nat_lt e.0 (length f.expressions)) f.named_expressions

-- whether a function whose calls go to the first c functions passes, in a text of n bytes
abbrev pub is_function_formed : ModuleValue → ℕ → ℕ → FunctionValue → Bool
is_function_formed m c n f =
    is_signature_formed m f && list_all (λ e. is_named_there m f e.0.named) f.expressions && list_all (is_token_fine c n) f.body
    && may_stand (kinds_of f.expressions) (callees_of f.expressions) (operands_of f.expressions) (flat_map (λ l. option_to_list l.0.init) f.local_variables) f.body
    && list_all (λ e. is_span_fine n e.1) f.local_variables && list_all (λ e. is_span_fine n e.1) f.expressions
