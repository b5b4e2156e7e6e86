-- What a function requests: items, and the functions that its body calls.
use Rattle.std.proofs.Common.{◌≡◌, ℕ, zero, suc, ◌==◌, true, List, [], ◌∷◌, ◌++◌, map, Option, Some, None, option_map, option_to_list, slice_get, All, refl}
use Rattle.std.specs.List.{flat_map, cons_option}
use Rattle.std.proofs.lemmas.List.Elements.{All-nil, All-cons, All-append}
use Rattle.naga_oil_ir.specs.Body.{Tokens}
use Rattle.naga_oil_form.specs.Links.{Links, linked, has}
use Rattle.naga_oil_ir.specs.ModuleValue.{FunctionValue, ArgumentValue, LocalValue}
use Rattle.naga_oil_ir.specs.declared.module.FunctionResult.{FunctionResult}
use Rattle.naga_oil_ir.specs.declared.names.ItemPlace.{ItemPlace}
use Rattle.naga_oil_ir.specs.declared.names.ItemPlace.TheVariants.{TypeItem}
use Rattle.naga_oil_ir.specs.declared.parts.Named.{Named}
use Rattle.naga_oil_ir.specs.declared.span.Span.{Span}
use Rattle.naga_oil_ir.specs.declared.tokens.Token.{Token}
use Rattle.naga_oil_ir.specs.declared.tokens.Token.TheVariants.{At, Head, Plain, Flag, Absent, Open, Close, Use, Give, GiveCall, Emitted, Callee}
use Rattle.naga_oil_form.proofs.LinkLemmas.{eq_eqb, or_left, or_right}
use Rattle.naga_oil_walk.specs.declared.walk.Request.{Request}
use Rattle.naga_oil_walk.specs.declared.walk.Request.TheVariants.{Item, Call}
use Rattle.naga_oil_walk.specs.Naming.{item_of, requested, requests_at, naming, names_from, token_names}
use Rattle.naga_oil_walk.specs.Walk.{brief}
use Rattle.naga_oil_derive.specs.Copies.{value_links}
use Rattle.naga_oil_derive.specs.DerivedFunctions.{kinds_in, named_in, local_requests, signature_requests, requests_of}
use Rattle.naga_oil_redirect.specs.Ordered.{callee_of, callees_of}

module _ (Q : Request → Type 0) (items : (p : ItemPlace) → Q (Item p)) where
  flat_each : {X : Type 0} (f : X → List Request) → ((x : X) → All Q (f x)) → (xs : List X) → All Q (flat_map f xs)
  flat_each f h [] = All-nil Q
  flat_each f h (x ∷ xs) = All-append Q (f x) (flat_map f xs) (h x) (flat_each f h xs)

  requested_each : (o : Option ItemPlace) → All Q (requested o)
  requested_each None = All-nil Q
  requested_each (Some p) = All-cons Q (Item p) [] (items p) (All-nil Q)

  at_each : (ns : List Named) (k : ℕ) → All Q (requests_at ns k)
  at_each ns k = requested_each (item_of (slice_get ns k))

  naming_each : (ns : List Named) (ls : Links) (d k : ℕ) → All Q (naming d ns ls k)
  naming_each ns ls zero k = All-nil Q
  naming_each ns ls (suc d) k = All-append Q (requests_at ns k) (flat_map (naming d ns ls) (linked ls k)) (at_each ns k) (flat_each (naming d ns ls) (naming_each ns ls d) (linked ls k))

  from_each : (ns : List Named) (ls : Links) (k : ℕ) → All Q (names_from ns ls k)
  unfolding names_from
  from_each ns ls k = naming_each ns ls (suc k) k

  token_each : (ks : List ℕ) (ns : List Named) (ls : Links) (t : Token) → ((g : ℕ) → callee_of t ≡ Some g → Q (Call g)) → All Q (token_names ks ns ls t)
  token_each ks ns ls (Callee g) h = All-cons Q (Call g) [] (h g refl) (All-nil Q)
  token_each ks ns ls (At s) h = flat_each (requests_at ns) (at_each ns) (brief ks ls (At s))
  token_each ks ns ls (Head k) h = flat_each (requests_at ns) (at_each ns) (brief ks ls (Head k))
  token_each ks ns ls (Plain k) h = flat_each (requests_at ns) (at_each ns) (brief ks ls (Plain k))
  token_each ks ns ls (Flag b) h = flat_each (requests_at ns) (at_each ns) (brief ks ls (Flag b))
  token_each ks ns ls Absent h = flat_each (requests_at ns) (at_each ns) (brief ks ls Absent)
  token_each ks ns ls Open h = flat_each (requests_at ns) (at_each ns) (brief ks ls Open)
  token_each ks ns ls Close h = flat_each (requests_at ns) (at_each ns) (brief ks ls Close)
  token_each ks ns ls (Use k) h = flat_each (requests_at ns) (at_each ns) (brief ks ls (Use k))
  token_each ks ns ls (Give k) h = flat_each (requests_at ns) (at_each ns) (brief ks ls (Give k))
  token_each ks ns ls (GiveCall g k) h = flat_each (requests_at ns) (at_each ns) (brief ks ls (GiveCall g k))
  token_each ks ns ls (Emitted r) h = flat_each (requests_at ns) (at_each ns) (brief ks ls (Emitted r))

  tokens_each : (ks : List ℕ) (ns : List Named) (ls : Links) (ts : Tokens) → ((g : ℕ) → has (callees_of ts) g ≡ true → Q (Call g)) → All Q (flat_map (token_names ks ns ls) ts)
  tokens_each ks ns ls [] h = All-nil Q
  tokens_each ks ns ls (t ∷ ts) h = All-append Q (token_names ks ns ls t) (flat_map (token_names ks ns ls) ts) (token_each ks ns ls t (λ g e. h g (here (callee_of t) g e))) (tokens_each ks ns ls ts (λ g e. h g (following (callee_of t) g e)))
    where
      here : (o : Option ℕ) (g : ℕ) → o ≡ Some g → has (cons_option o (callees_of ts)) g ≡ true
      here None g e = cc
      here (Some k) g e = let same : k ≡ g = cc in or_left (k == g) (has (callees_of ts) g) (eq_eqb k g same)

      following : (o : Option ℕ) (g : ℕ) → has (callees_of ts) g ≡ true → has (cons_option o (callees_of ts)) g ≡ true
      following None g e = e
      following (Some k) g e = or_right (k == g) (has (callees_of ts) g) e

  arguments_each : (xs : List ArgumentValue) → All Q (map (λ (a : ArgumentValue). Item (TypeItem a.ty)) xs)
  arguments_each [] = All-nil Q
  arguments_each (a ∷ xs) = All-cons Q (Item (TypeItem a.ty)) (map (λ (b : ArgumentValue). Item (TypeItem b.ty)) xs) (items (TypeItem a.ty)) (arguments_each xs)

  result_each : (o : Option FunctionResult) → All Q (option_to_list (option_map (λ (r : FunctionResult). Item (TypeItem r.ty)) o))
  result_each None = All-nil Q
  result_each (Some r) = All-cons Q (Item (TypeItem r.ty)) [] (items (TypeItem r.ty)) (All-nil Q)

  local_each : (ns : List Named) (ls : Links) (l : LocalValue × Span) → All Q (local_requests ns ls l)
  local_each ns ls l = All-cons Q (Item (TypeItem l.0.ty)) (flat_map (names_from ns ls) (option_to_list l.0.init)) (items (TypeItem l.0.ty)) (flat_each (names_from ns ls) (from_each ns ls) (option_to_list l.0.init))

  -- what holds of each item, and of each function that is called, holds of all that is requested
  pub asked_each : (f : FunctionValue) → ((g : ℕ) → has (callees_of f.body) g ≡ true → Q (Call g)) → All Q (requests_of f)
  asked_each f h =
      let ns = named_in f in
      let ls = value_links f.expressions in
      let ks = kinds_in f in
      let signature = All-append Q (map (λ (a : ArgumentValue). Item (TypeItem a.ty)) f.arguments) (option_to_list (option_map (λ (r : FunctionResult). Item (TypeItem r.ty)) f.result)) (arguments_each f.arguments) (result_each f.result) in
      All-append Q (signature_requests f ++ flat_map (local_requests ns ls) f.local_variables) (flat_map (token_names ks ns ls) f.body) (All-append Q (signature_requests f) (flat_map (local_requests ns ls) f.local_variables) signature (flat_each (local_requests ns ls) (local_each ns ls) f.local_variables)) (tokens_each ks ns ls f.body h)
