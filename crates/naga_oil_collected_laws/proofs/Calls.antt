-- What a function requests: of functions, those that its body calls.
use Rattle.std.proofs.Common.{◌≡◌, ℕ, zero, suc, List, [], ◌∷◌, ◌++◌, map, Option, Some, None, option_map, option_to_list, slice_get, refl, ap, ◌∙◌}
use Rattle.std.specs.List.{flat_map}
use Rattle.naga_oil_ir.specs.Body.{Tokens}
use Rattle.naga_oil_form.specs.Links.{Links, linked}
use Rattle.naga_oil_ir.specs.ModuleValue.{FunctionValue, ArgumentValue, LocalValue}
use Rattle.naga_oil_ir.specs.declared.module.FunctionResult.{FunctionResult}
use Rattle.naga_oil_ir.specs.declared.names.ItemPlace.{ItemPlace}
use Rattle.naga_oil_ir.specs.declared.names.ItemPlace.TheVariants.{TypeItem}
use Rattle.naga_oil_ir.specs.declared.parts.Named.{Named}
use Rattle.naga_oil_ir.specs.declared.span.Span.{Span}
use Rattle.naga_oil_ir.specs.declared.tokens.Token.TheVariants.{At, Head, Plain, Flag, Absent, Open, Close, Use, Give, GiveCall, Emitted, Callee}
use Rattle.naga_oil_walk.specs.declared.walk.Request.{Request}
use Rattle.naga_oil_walk.specs.declared.walk.Request.TheVariants.{Item, Call}
use Rattle.naga_oil_walk.specs.Naming.{item_of, requested, requests_at, naming, names_from, token_names}
use Rattle.naga_oil_walk.specs.Walk.{brief}
use Rattle.naga_oil_derive.specs.Copies.{value_links}
use Rattle.naga_oil_derive.specs.DerivedFunctions.{kinds_in, named_in, local_requests, signature_requests, requests_of}
use Rattle.naga_oil_redirect.specs.Ordered.{callees_of}

-- the functions among requests
abbrev pub call_of : Request → List ℕ
call_of (Item p) = []
call_of (Call k) = k ∷ []

abbrev pub calls_in : List Request → List ℕ
calls_in rs = flat_map call_of rs

calls_both : (rs ss : List Request) → calls_in (rs ++ ss) ≡ calls_in rs ++ calls_in ss
calls_both [] ss = refl
calls_both (Item p ∷ rs) ss = calls_both rs ss
calls_both (Call k ∷ rs) ss = ap (λ xs. k ∷ xs) (calls_both rs ss)

-- lists without calls
no_calls : (rs ss : List Request) → calls_in rs ≡ [] → calls_in ss ≡ [] → calls_in (rs ++ ss) ≡ []
no_calls rs ss r s = calls_both rs ss ∙ ap (λ xs. xs ++ calls_in ss) r ∙ s

none_of_each : {X : Type 0} (f : X → List Request) → ((x : X) → calls_in (f x) ≡ []) → (xs : List X) → calls_in (flat_map f xs) ≡ []
none_of_each f h [] = refl
none_of_each f h (x ∷ xs) = no_calls (f x) (flat_map f xs) (h x) (none_of_each f h xs)

none_requested : (o : Option ItemPlace) → calls_in (requested o) ≡ []
none_requested None = refl
none_requested (Some p) = refl

none_at : (ns : List Named) (k : ℕ) → calls_in (requests_at ns k) ≡ []
none_at ns k = none_requested (item_of (slice_get ns k))

none_named : (ns : List Named) (ls : Links) (n k : ℕ) → calls_in (naming n ns ls k) ≡ []
none_named ns ls zero k = refl
none_named ns ls (suc n) k = no_calls (requests_at ns k) (flat_map (naming n ns ls) (linked ls k)) (none_at ns k) (none_of_each (naming n ns ls) (none_named ns ls n) (linked ls k))

none_from : (ns : List Named) (ls : Links) (k : ℕ) → calls_in (names_from ns ls k) ≡ []
unfolding names_from
none_from ns ls k = none_named ns ls (suc k) k

none_local : (ns : List Named) (ls : Links) (l : LocalValue × Span) → calls_in (local_requests ns ls l) ≡ []
none_local ns ls l = none_of_each (names_from ns ls) (none_from ns ls) (option_to_list l.0.init)

none_listed : (ns : List Named) (ks : List ℕ) → calls_in (flat_map (requests_at ns) ks) ≡ []
none_listed ns ks = none_of_each (requests_at ns) (none_at ns) ks

none_of_arguments : (xs : List ArgumentValue) → calls_in (map (λ (a : ArgumentValue). Item (TypeItem a.ty)) xs) ≡ []
none_of_arguments [] = refl
none_of_arguments (a ∷ xs) = none_of_arguments xs

none_of_result : (o : Option FunctionResult) → calls_in (option_to_list (option_map (λ (r : FunctionResult). Item (TypeItem r.ty)) o)) ≡ []
none_of_result None = refl
none_of_result (Some r) = refl

-- a part of a body that calls nothing
after_none : (rs ss : List Request) (ks : List ℕ) → calls_in rs ≡ [] → calls_in ss ≡ ks → calls_in (rs ++ ss) ≡ ks
after_none rs ss ks r s = calls_both rs ss ∙ ap (λ xs. xs ++ calls_in ss) r ∙ s

body_calls : (ks : List ℕ) (ns : List Named) (ls : Links) (ts : Tokens) → calls_in (flat_map (token_names ks ns ls) ts) ≡ callees_of ts
body_calls ks ns ls [] = refl
body_calls ks ns ls (Callee g ∷ ts) = ap (λ xs. g ∷ xs) (body_calls ks ns ls ts)
body_calls ks ns ls (At s ∷ ts) = after_none (flat_map (requests_at ns) (brief ks ls (At s))) (flat_map (token_names ks ns ls) ts) (callees_of ts) (none_listed ns (brief ks ls (At s))) (body_calls ks ns ls ts)
body_calls ks ns ls (Head k ∷ ts) = after_none (flat_map (requests_at ns) (brief ks ls (Head k))) (flat_map (token_names ks ns ls) ts) (callees_of ts) (none_listed ns (brief ks ls (Head k))) (body_calls ks ns ls ts)
body_calls ks ns ls (Plain k ∷ ts) = after_none (flat_map (requests_at ns) (brief ks ls (Plain k))) (flat_map (token_names ks ns ls) ts) (callees_of ts) (none_listed ns (brief ks ls (Plain k))) (body_calls ks ns ls ts)
body_calls ks ns ls (Flag b ∷ ts) = after_none (flat_map (requests_at ns) (brief ks ls (Flag b))) (flat_map (token_names ks ns ls) ts) (callees_of ts) (none_listed ns (brief ks ls (Flag b))) (body_calls ks ns ls ts)
body_calls ks ns ls (Absent ∷ ts) = after_none (flat_map (requests_at ns) (brief ks ls Absent)) (flat_map (token_names ks ns ls) ts) (callees_of ts) (none_listed ns (brief ks ls Absent)) (body_calls ks ns ls ts)
body_calls ks ns ls (Open ∷ ts) = after_none (flat_map (requests_at ns) (brief ks ls Open)) (flat_map (token_names ks ns ls) ts) (callees_of ts) (none_listed ns (brief ks ls Open)) (body_calls ks ns ls ts)
body_calls ks ns ls (Close ∷ ts) = after_none (flat_map (requests_at ns) (brief ks ls Close)) (flat_map (token_names ks ns ls) ts) (callees_of ts) (none_listed ns (brief ks ls Close)) (body_calls ks ns ls ts)
body_calls ks ns ls (Use k ∷ ts) = after_none (flat_map (requests_at ns) (brief ks ls (Use k))) (flat_map (token_names ks ns ls) ts) (callees_of ts) (none_listed ns (brief ks ls (Use k))) (body_calls ks ns ls ts)
body_calls ks ns ls (Give k ∷ ts) = after_none (flat_map (requests_at ns) (brief ks ls (Give k))) (flat_map (token_names ks ns ls) ts) (callees_of ts) (none_listed ns (brief ks ls (Give k))) (body_calls ks ns ls ts)
body_calls ks ns ls (GiveCall g k ∷ ts) = after_none (flat_map (requests_at ns) (brief ks ls (GiveCall g k))) (flat_map (token_names ks ns ls) ts) (callees_of ts) (none_listed ns (brief ks ls (GiveCall g k))) (body_calls ks ns ls ts)
body_calls ks ns ls (Emitted r ∷ ts) = after_none (flat_map (requests_at ns) (brief ks ls (Emitted r))) (flat_map (token_names ks ns ls) ts) (callees_of ts) (none_listed ns (brief ks ls (Emitted r))) (body_calls ks ns ls ts)

-- what a function requests of functions is what its body calls, in order
pub calls_requested : (f : FunctionValue) → calls_in (requests_of f) ≡ callees_of f.body
calls_requested f =
    let ns = named_in f in
    let ls = value_links f.expressions in
    let ks = kinds_in f in
    let locals = flat_map (local_requests ns ls) f.local_variables in
    let signature = no_calls (map (λ (a : ArgumentValue). Item (TypeItem a.ty)) f.arguments) (option_to_list (option_map (λ (r : FunctionResult). Item (TypeItem r.ty)) f.result)) (none_of_arguments f.arguments) (none_of_result f.result) in
    after_none (signature_requests f ++ locals) (flat_map (token_names ks ns ls) f.body) (callees_of f.body) (no_calls (signature_requests f) locals signature (none_of_each (local_requests ns ls) (none_local ns ls) f.local_variables)) (body_calls ks ns ls f.body)
