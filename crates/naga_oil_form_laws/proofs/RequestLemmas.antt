-- What a function names is requested, and is there if the function passes the test of form.
use Rattle.std.proofs.Common.{◌≡◌, ◌⊎◌, inl, inr, ⊎_elim, ℕ, zero, suc, ◌<◌, ◌==◌, nat_lt, true, false, List, [], ◌∷◌, ◌++◌, length, map, Option, Some, None, option_map, option_to_list, slice_get, refl, ap, sym, ◌∙◌, subst, arith, All, IfSome}
use Rattle.std.specs.List.{flat_map}
use Rattle.std.proofs.lemmas.Bool.{or_cases, false≢true, ltb-true}
use Rattle.std.proofs.lemmas.List.Elements.{All-nil, All-cons, All-head, All-tail, All-weaker, All-append, All-map}
use Rattle.naga_oil_ir.specs.Body.{Tokens}
use Rattle.naga_oil_form.specs.BodyForm.{callee, external_kind, result_kind, is_result, places, AreEmitted, made, IsFine, AreFine, IsTokenFine}
use Rattle.naga_oil_form.specs.Links.{Links, linked, reach, trail, has}
use Rattle.naga_oil_ir.specs.ModuleValue.{ModuleValue, FunctionValue, ArgumentValue, LocalValue}
use Rattle.naga_oil_ir.specs.Parts.{Parts}
use Rattle.naga_oil_ir.specs.Rows.{Row, named_place, parts_row}
use Rattle.naga_oil_ir.specs.declared.module.FunctionResult.{FunctionResult}
use Rattle.naga_oil_ir.specs.declared.names.ItemPlace.{ItemPlace}
use Rattle.naga_oil_ir.specs.declared.names.ItemPlace.TheVariants.{TypeItem, ConstantItem, OverrideItem, GlobalItem, ExpressionItem}
use Rattle.naga_oil_ir.specs.declared.parts.Named.{Named}
use Rattle.naga_oil_ir.specs.declared.parts.Named.TheVariants.{Nothing, TypeOf, ConstantAt, OverrideAt, GlobalAt, LocalAt, ArgumentAt, FunctionAt}
use Rattle.naga_oil_ir.specs.declared.span.Span.{Span}
use Rattle.naga_oil_ir.specs.declared.tokens.Token.{Token}
use Rattle.naga_oil_ir.specs.declared.tokens.Token.TheVariants.{At, Head, Plain, Flag, Absent, Open, Close, Use, Give, GiveCall, Emitted, Callee}
use Rattle.naga_oil_form.proofs.LinkLemmas.{eqb_eq, has-append, has-added, has-started, in_one, only, both, All-has}
use Rattle.naga_oil_walk.specs.declared.walk.Request.{Request}
use Rattle.naga_oil_walk.specs.declared.walk.Request.TheVariants.{Item, Call}
use Rattle.naga_oil_derive.specs.World.{world}
use Rattle.naga_oil_derive.specs.CopiedLaw.{HasAt}
use Rattle.naga_oil_derive.specs.Copies.{value_links}
use Rattle.naga_oil_derive.specs.CopiedFunctionLaw.{MayBeCopied}
use Rattle.naga_oil_derive.specs.DerivedFunctions.{kinds_in, named_in, initialisers_in, local_requests, signature_requests, requests_of, MayAsk}
use Rattle.naga_oil_derive.specs.Functions.{begun, order_of}
use Rattle.naga_oil_walk.specs.Naming.{item_of, requested, requests_at, naming, names_from, token_names}
use Rattle.naga_oil_walk.specs.Walk.{brief}
use Rattle.naga_oil_derive.proofs.FunctionForm.{plain_values, started_ready}
use Rattle.naga_oil_walk.proofs.WalkForm.{Follows, follows, known_cases, under_start}
use Rattle.naga_oil_form_laws.specs.FunctionForm.{IsNamedThere, IsFunctionFormed}

-- ---- what is there

row_there : {X : Type 0} (f : X → Row) (xs : List X) (k : ℕ) → k < length xs → (r : Row) × (option_map f (slice_get xs k) ≡ Some r)
row_there f [] k l = absurd (omega (arith, l))
row_there f (x ∷ xs) zero l = (f x, refl)
row_there f (x ∷ xs) (suc k) l = row_there f xs k (omega (arith, l))

pub type_there : (m : ModuleValue) (k : ℕ) → k < length m.types → HasAt m (TypeItem k)
unfolding world
type_there m k l = row_there (λ e. e.0) m.types k l

pub constant_there : (m : ModuleValue) (k : ℕ) → k < length m.constants → HasAt m (ConstantItem k)
unfolding world
constant_there m k l = row_there (λ e. e.0) m.constants k l

pub override_there : (m : ModuleValue) (k : ℕ) → k < length m.overrides → HasAt m (OverrideItem k)
unfolding world
override_there m k l = row_there (λ e. e.0) m.overrides k l

pub global_there : (m : ModuleValue) (k : ℕ) → k < length m.global_variables → HasAt m (GlobalItem k)
unfolding world
global_there m k l = row_there (λ e. e.0) m.global_variables k l

pub expression_there : (m : ModuleValue) (k : ℕ) → k < length m.global_expressions → HasAt m (ExpressionItem k)
unfolding world
expression_there m k l = row_there (λ e. parts_row e.0) m.global_expressions k l

within_row : {X : Type 0} (f : X → Row) (xs : List X) (k : ℕ) (r : Row) → option_map f (slice_get xs k) ≡ Some r → k < length xs
within_row f [] k r e = cc
within_row f (x ∷ xs) zero r e = omega arith
within_row f (x ∷ xs) (suc k) r e = let l = within_row f xs k r e in omega (arith, l)

pub type_within : (m : ModuleValue) (k : ℕ) → HasAt m (TypeItem k) → k < length m.types
unfolding world
type_within m k h = within_row (λ e. e.0) m.types k h.0 h.1

pub constant_within : (m : ModuleValue) (k : ℕ) → HasAt m (ConstantItem k) → k < length m.constants
unfolding world
constant_within m k h = within_row (λ e. e.0) m.constants k h.0 h.1

pub override_within : (m : ModuleValue) (k : ℕ) → HasAt m (OverrideItem k) → k < length m.overrides
unfolding world
override_within m k h = within_row (λ e. e.0) m.overrides k h.0 h.1

pub global_within : (m : ModuleValue) (k : ℕ) → HasAt m (GlobalItem k) → k < length m.global_variables
unfolding world
global_within m k h = within_row (λ e. e.0) m.global_variables k h.0 h.1

pub expression_within : (m : ModuleValue) (k : ℕ) → HasAt m (ExpressionItem k) → k < length m.global_expressions
unfolding world
expression_within m k h = within_row (λ e. parts_row e.0) m.global_expressions k h.0 h.1

-- ---- lists

flat_each : {X : Type 0} (P : Request → Type 0) (f : X → List Request) → ((x : X) → All P (f x)) → (xs : List X) → All P (flat_map f xs)
flat_each P f h [] = All-nil P
flat_each P f h (x ∷ xs) = All-append P (f x) (flat_map f xs) (h x) (flat_each P f h xs)

flat_all : {X : Type 0} (P : Request → Type 0) (f : X → List Request) (xs : List X) → All (λ x. All P (f x)) xs → All P (flat_map f xs)
flat_all P f [] h = All-nil P
flat_all P f (x ∷ xs) h = All-append P (f x) (flat_map f xs) (All-head (λ y. All P (f y)) x xs h) (flat_all P f xs (All-tail (λ y. All P (f y)) x xs h))

pub all_left : {X : Type 0} (P : X → Type 0) (xs ys : List X) → All P (xs ++ ys) → All P xs
all_left P [] ys a = All-nil P
all_left P (x ∷ xs) ys a = All-cons P x xs (All-head P x (xs ++ ys) a) (all_left P xs ys (All-tail P x (xs ++ ys) a))

pub all_right : {X : Type 0} (P : X → Type 0) (xs ys : List X) → All P (xs ++ ys) → All P ys
all_right P [] ys a = a
all_right P (x ∷ xs) ys a = all_right P xs ys (All-tail P x (xs ++ ys) a)

pub flat_of : {X Y : Type 0} (P : Y → Type 0) (f : X → List Y) (xs : List X) → All P (flat_map f xs) → All (λ x. All P (f x)) xs
flat_of P f [] a = All-nil (λ x. All P (f x))
flat_of P f (x ∷ xs) a = All-cons (λ y. All P (f y)) x xs (all_left P (f x) (flat_map f xs) a) (flat_of P f xs (all_right P (f x) (flat_map f xs) a))

pub map_of : {X Y : Type 0} (P : Y → Type 0) (f : X → Y) (xs : List X) → All P (map f xs) → All (λ x. P (f x)) xs
map_of P f [] a = All-nil (λ x. P (f x))
map_of P f (x ∷ xs) a = All-cons (λ y. P (f y)) x xs (All-head P (f x) (map f xs) a) (map_of P f xs (All-tail P (f x) (map f xs) a))

-- what holds of each element holds of that at a place
pub all_at : {X : Type 0} (P : X → Type 0) (xs : List X) (k : ℕ) (x : X) → All P xs → slice_get xs k ≡ Some x → P x
all_at P [] k x a e = cc
all_at P (y ∷ xs) zero x a e = let g : y ≡ x = cc in subst P g (All-head P y xs a)
all_at P (y ∷ xs) (suc k) x a e = all_at P xs k x (All-tail P y xs a) e

pub from_at : {X : Type 0} (P : X → Type 0) (xs : List X) → ((k : ℕ) (x : X) → slice_get xs k ≡ Some x → P x) → All P xs
from_at P [] f = All-nil P
from_at P (x ∷ xs) f = All-cons P x xs (f 0 x refl) (from_at P xs (λ k y e. f (suc k) y e))

-- ---- what is requested is there

module _ (m : ModuleValue) (P : ℕ → Type 0) (c n : ℕ) (v : FunctionValue) (calls : (g : ℕ) → g < c → (g < length m.functions) × P g) where
  abbrev Asks : Request → Type 0
  Asks = MayAsk m P

  one_item : (p : ItemPlace) → HasAt m p → All Asks (Item p ∷ [])
  one_item p h = All-cons Asks (Item p) [] h (All-nil Asks)

  named_there : (x : Named) → IsNamedThere m v x → All Asks (requested (named_place x))
  named_there Nothing h = All-nil Asks
  named_there (TypeOf k) h = one_item (TypeItem k) (type_there m k h)
  named_there (ConstantAt k) h = one_item (ConstantItem k) (constant_there m k h)
  named_there (OverrideAt k) h = one_item (OverrideItem k) (override_there m k h)
  named_there (GlobalAt k) h = one_item (GlobalItem k) (global_there m k h)
  named_there (LocalAt k) h = All-nil Asks
  named_there (ArgumentAt k) h = All-nil Asks
  named_there (FunctionAt k) h = All-nil Asks

  found_there : (ns : List Named) (k : ℕ) (o : Option Named) → slice_get ns k ≡ o → All (IsNamedThere m v) ns → All Asks (requested (item_of o))
  found_there ns k None e a = All-nil Asks
  found_there ns k (Some x) e a = named_there x (all_at (IsNamedThere m v) ns k x a e)

  at_there : (ns : List Named) → All (IsNamedThere m v) ns → (k : ℕ) → All Asks (requests_at ns k)
  at_there ns a k = found_there ns k (slice_get ns k) refl a

  naming_there : (ns : List Named) (ls : Links) → All (IsNamedThere m v) ns → (d k : ℕ) → All Asks (naming d ns ls k)
  naming_there ns ls a zero k = All-nil Asks
  naming_there ns ls a (suc d) k = All-append Asks (requests_at ns k) (flat_map (naming d ns ls) (linked ls k)) (at_there ns a k) (flat_each Asks (naming d ns ls) (naming_there ns ls a d) (linked ls k))

  from_there : (ns : List Named) (ls : Links) → All (IsNamedThere m v) ns → (k : ℕ) → All Asks (names_from ns ls k)
  unfolding names_from
  from_there ns ls a k = naming_there ns ls a (suc k) k

  brief_there : (ns : List Named) → All (IsNamedThere m v) ns → (ks : List ℕ) → All Asks (flat_map (requests_at ns) ks)
  brief_there ns a ks = flat_each Asks (requests_at ns) (at_there ns a) ks

  token_there : (ks : List ℕ) (ns : List Named) (ls : Links) → All (IsNamedThere m v) ns → (t : Token) → IsTokenFine c n t → All Asks (token_names ks ns ls t)
  token_there ks ns ls a (Callee g) h = All-cons Asks (Call g) [] (calls g h) (All-nil Asks)
  token_there ks ns ls a (At s) h = brief_there ns a (brief ks ls (At s))
  token_there ks ns ls a (Head k) h = brief_there ns a (brief ks ls (Head k))
  token_there ks ns ls a (Plain k) h = brief_there ns a (brief ks ls (Plain k))
  token_there ks ns ls a (Flag b) h = brief_there ns a (brief ks ls (Flag b))
  token_there ks ns ls a Absent h = brief_there ns a (brief ks ls Absent)
  token_there ks ns ls a Open h = brief_there ns a (brief ks ls Open)
  token_there ks ns ls a Close h = brief_there ns a (brief ks ls Close)
  token_there ks ns ls a (Use k) h = brief_there ns a (brief ks ls (Use k))
  token_there ks ns ls a (Give k) h = brief_there ns a (brief ks ls (Give k))
  token_there ks ns ls a (GiveCall g k) h = brief_there ns a (brief ks ls (GiveCall g k))
  token_there ks ns ls a (Emitted r) h = brief_there ns a (brief ks ls (Emitted r))

  result_there : (o : Option FunctionResult) → IfSome o (λ r. r.ty < length m.types) → All Asks (option_to_list (option_map (λ (r : FunctionResult). Item (TypeItem r.ty)) o))
  result_there None h = All-nil Asks
  result_there (Some r) h = one_item (TypeItem r.ty) (type_there m r.ty h)

  argument_request : ArgumentValue → Request
  argument_request a = Item (TypeItem a.ty)

  -- what a function names that passes the test of form is there
  pub function_there : IsFunctionFormed m c n v → All Asks (requests_of v)
  unfolding argument_request
  function_there f =
      let ns = named_in v in
      let ls = value_links v.expressions in
      let ks = kinds_in v in
      let names : All (IsNamedThere m v) ns = All-map (IsNamedThere m v) (λ (e : Parts × Span). e.0.named) v.expressions f.expressions in
      let arguments = All-map Asks argument_request v.arguments (All-weaker (λ (a : ArgumentValue). a.ty < length m.types) (λ (a : ArgumentValue). Asks (argument_request a)) (λ a l. type_there m a.ty l) v.arguments f.arguments) in
      let signature = All-append Asks (map argument_request v.arguments) (option_to_list (option_map (λ (r : FunctionResult). Item (TypeItem r.ty)) v.result)) arguments (result_there v.result f.result) in
      let local = λ (l : LocalValue × Span) (h : l.0.ty < length m.types). All-cons Asks (Item (TypeItem l.0.ty)) (flat_map (names_from ns ls) (option_to_list l.0.init)) (type_there m l.0.ty h) (flat_each Asks (names_from ns ls) (from_there ns ls names) (option_to_list l.0.init)) in
      let locals = flat_all Asks (local_requests ns ls) v.local_variables (All-weaker (λ (l : LocalValue × Span). l.0.ty < length m.types) (λ l. All Asks (local_requests ns ls l)) local v.local_variables f.locals) in
      let body = flat_all Asks (token_names ks ns ls) v.body (All-weaker (IsTokenFine c n) (λ t. All Asks (token_names ks ns ls t)) (token_there ks ns ls names) v.body f.statements) in
      All-append Asks (signature_requests v ++ flat_map (local_requests ns ls) v.local_variables) (flat_map (token_names ks ns ls) v.body) (All-append Asks (signature_requests v) (flat_map (local_requests ns ls) v.local_variables) signature locals) body

-- ---- what the expressions in the order name is requested

module _ (P : Request → Type 0) (v : FunctionValue) where
  abbrev ns : List Named
  ns = named_in v

  abbrev ls : Links
  ls = value_links v.expressions

  naming_has : (n x k : ℕ) → has (reach n ls x) k ≡ true → All P (naming n ns ls x) → All P (requests_at ns k)
  naming_has zero x k h a = absurd (false≢true h)
  naming_has (suc n) x k h a =
      ⊎_elim (λ j. let y = in_one (reach n ls) (linked ls x) k j in let each = flat_of P (naming n ns ls) (linked ls x) (all_right P (requests_at ns x) (flat_map (naming n ns ls) (linked ls x)) a) in naming_has n y.0 k y.2 (All-has (λ z. All P (naming n ns ls z)) (linked ls x) y.0 each y.1)) (λ j. subst (λ z. All P (requests_at ns z)) (only x k j) (all_left P (requests_at ns x) (flat_map (naming n ns ls) (linked ls x)) a)) (or_cases (has (flat_map (reach n ls) (linked ls x)) k) (has (x ∷ []) k) (sym (has-append (flat_map (reach n ls) (linked ls x)) (x ∷ []) k) ∙ h))

  from_has : (x k : ℕ) → has (trail ls x) k ≡ true → All P (names_from ns ls x) → All P (requests_at ns k)
  unfolding trail names_from
  from_has x k h a = naming_has (suc x) x k h a

  init_has : (o : Option ℕ) (x : ℕ) → has (option_to_list o) x ≡ true → All P (flat_map (names_from ns ls) (option_to_list o)) → All P (names_from ns ls x)
  init_has o x h a = All-has (λ z. All P (names_from ns ls z)) (option_to_list o) x (flat_of P (names_from ns ls) (option_to_list o) a) h

  local_has : (l : List (LocalValue × Span)) (x : ℕ) → has (flat_map (λ y. option_to_list y.0.init) l) x ≡ true → All (λ y. All P (local_requests ns ls y)) l → All P (names_from ns ls x)
  local_has [] x h a = absurd (false≢true h)
  local_has (y ∷ l) x h a =
      ⊎_elim (λ j. init_has y.0.init x j (All-tail P (Item (TypeItem y.0.ty)) (flat_map (names_from ns ls) (option_to_list y.0.init)) (All-head (λ z. All P (local_requests ns ls z)) y l a))) (λ j. local_has l x j (All-tail (λ z. All P (local_requests ns ls z)) y l a)) (or_cases (has (option_to_list y.0.init) x) (has (flat_map (λ z. option_to_list z.0.init) l) x) (sym (has-append (option_to_list y.0.init) (flat_map (λ z. option_to_list z.0.init) l) x) ∙ h))

  brief_has : (bs : List ℕ) (k : ℕ) → has bs k ≡ true → All P (flat_map (requests_at ns) bs) → All P (requests_at ns k)
  brief_has bs k h a = All-has (λ z. All P (requests_at ns z)) bs k (flat_of P (requests_at ns) bs a) h

  token_has : (ks : List ℕ) (t : Token) (k : ℕ) → has (brief ks ls t) k ≡ true → All P (token_names ks ns ls t) → All P (requests_at ns k)
  token_has ks (Callee g) k h a = absurd (false≢true h)
  token_has ks (At s) k h a = brief_has (brief ks ls (At s)) k h a
  token_has ks (Head x) k h a = brief_has (brief ks ls (Head x)) k h a
  token_has ks (Plain x) k h a = brief_has (brief ks ls (Plain x)) k h a
  token_has ks (Flag x) k h a = brief_has (brief ks ls (Flag x)) k h a
  token_has ks Absent k h a = brief_has (brief ks ls Absent) k h a
  token_has ks Open k h a = brief_has (brief ks ls Open) k h a
  token_has ks Close k h a = brief_has (brief ks ls Close) k h a
  token_has ks (Use x) k h a = brief_has (brief ks ls (Use x)) k h a
  token_has ks (Give x) k h a = brief_has (brief ks ls (Give x)) k h a
  token_has ks (GiveCall g x) k h a = brief_has (brief ks ls (GiveCall g x)) k h a
  token_has ks (Emitted r) k h a = brief_has (brief ks ls (Emitted r)) k h a

  body_has : (ks : List ℕ) (ts : Tokens) (k : ℕ) → has (flat_map (brief ks ls) ts) k ≡ true → All P (flat_map (token_names ks ns ls) ts) → All P (requests_at ns k)
  body_has ks [] k h a = absurd (false≢true h)
  body_has ks (t ∷ ts) k h a =
      ⊎_elim (λ j. token_has ks t k j (all_left P (token_names ks ns ls t) (flat_map (token_names ks ns ls) ts) a)) (λ j. body_has ks ts k j (all_right P (token_names ks ns ls t) (flat_map (token_names ks ns ls) ts) a)) (or_cases (has (brief ks ls t) k) (has (flat_map (brief ks ls) ts) k) (sym (has-append (brief ks ls t) (flat_map (brief ks ls) ts) k) ∙ h))

  module _ (may : MayBeCopied v) (a : All P (requests_of v)) where
    front : All P (signature_requests v ++ flat_map (local_requests ns ls) v.local_variables)
    front = all_left P (signature_requests v ++ flat_map (local_requests ns ls) v.local_variables) (flat_map (token_names (kinds_in v) ns ls) v.body) a

    pub of_signature : All P (signature_requests v)
    of_signature = all_left P (signature_requests v) (flat_map (local_requests ns ls) v.local_variables) front

    pub of_locals : All (λ x. All P (local_requests ns ls x)) v.local_variables
    of_locals = flat_of P (local_requests ns ls) v.local_variables (all_right P (signature_requests v) (flat_map (local_requests ns ls) v.local_variables) front)

    pub of_body : All P (flat_map (token_names (kinds_in v) ns ls) v.body)
    of_body = all_right P (signature_requests v ++ flat_map (local_requests ns ls) v.local_variables) (flat_map (token_names (kinds_in v) ns ls) v.body) a

    abbrev is : List ℕ
    is = initialisers_in v

    begun_has : (k : ℕ) → has (begun v) k ≡ true → All P (requests_at ns k)
    begun_has k h =
        let y = in_one (trail ls) is k (sym (has-started ls is k) ∙ h) in
        from_has y.0 k y.2 (local_has v.local_variables y.0 y.1 of_locals)

    follow : Follows (kinds_in v) ls (begun v) [] (begun v) v.body
    follow = follows (kinds_in v) ls (plain_values v.expressions may.alone) may.form.earlier (length ls) (map callee (named_in v)) (begun v) v.body [] (begun v) (under_start (kinds_in v) ls (begun v) (started_ready ls may.form.earlier is)) may.form.body

    in_brief : (k : ℕ) → has (order_of v) k ≡ true → (has (begun v) k ≡ true) ⊎ (has (flat_map (brief (kinds_in v) ls) v.body) k ≡ true)
    in_brief k h =
        or_cases (has (begun v) k) (has (flat_map (brief (kinds_in v) ls) v.body) k) (sym (has-added (begun v) (flat_map (brief (kinds_in v) ls) v.body) k) ∙ ap (λ o. has o k) follow.same ∙ h)

    -- what an expression in the order names is requested
    pub order_asks : (k : ℕ) → has (order_of v) k ≡ true → All P (requests_at ns k)
    order_asks k h = ⊎_elim (begun_has k) (λ j. body_has (kinds_in v) v.body k j of_body) (in_brief k h)

-- ---- results are given

abbrev pub IsGiven : List (Option ℕ) → Tokens → ℕ → Type 0
IsGiven fs ts k = (slice_get fs k ≡ Some None) ⊎ ((i : ℕ) × (f : ℕ) × (slice_get ts i ≡ Some (GiveCall f k)) × (slice_get fs k ≡ Some (Some f)))

given_later : (fs : List (Option ℕ)) (t : Token) (ts : Tokens) (k : ℕ) → IsGiven fs ts k → IsGiven fs (t ∷ ts) k
given_later fs t ts k (inl e) = inl e
given_later fs t ts k (inr x) = inr (suc x.0, x.1, x.2, x.3)

emitted_result : (ks : List ℕ) (vs : Links) (s d xs : List ℕ) (k : ℕ) → AreEmitted ks vs s d xs → has xs k ≡ true → is_result ks k ≡ false
emitted_result ks vs s d [] k f h = absurd (false≢true h)
emitted_result ks vs s d (x ∷ xs) k f h =
    ⊎_elim (λ j. subst (λ z. is_result ks z ≡ false) (eqb_eq x k j) f.0.1) (λ j. emitted_result ks vs s (d ++ x ∷ []) xs k f.1 j) (or_cases (x == k) (has xs k) h)

given_now : (n : ℕ) (ks : List ℕ) (fs : List (Option ℕ)) (vs : Links) (s d : List ℕ) (t : Token) (ts : Tokens) (k : ℕ) → IsFine n ks fs vs s d t → is_result ks k ≡ true → has (made t) k ≡ true → IsGiven fs (t ∷ ts) k
given_now n ks fs vs s d (Give x) ts k f r h = inl (ap (slice_get fs) (sym (only x k h)) ∙ f.2)
given_now n ks fs vs s d (GiveCall g x) ts k f r h =
    let e = only x k h in
    inr (0, g, ap (λ z. Some (GiveCall g z)) e, ap (slice_get fs) (sym e) ∙ f.2)
given_now n ks fs vs s d (Emitted p) ts k f r h = absurd (false≢true (sym (emitted_result ks vs s d (places p) k f.2 h) ∙ r))
given_now n ks fs vs s d (Use x) ts k f r h = absurd (false≢true h)
given_now n ks fs vs s d (At x) ts k f r h = absurd (false≢true h)
given_now n ks fs vs s d (Head x) ts k f r h = absurd (false≢true h)
given_now n ks fs vs s d (Plain x) ts k f r h = absurd (false≢true h)
given_now n ks fs vs s d (Flag x) ts k f r h = absurd (false≢true h)
given_now n ks fs vs s d Absent ts k f r h = absurd (false≢true h)
given_now n ks fs vs s d (Callee x) ts k f r h = absurd (false≢true h)
given_now n ks fs vs s d Open ts k f r h = absurd (false≢true h)
given_now n ks fs vs s d Close ts k f r h = absurd (false≢true h)

given_in : (n : ℕ) (ks : List ℕ) (fs : List (Option ℕ)) (vs : Links) (s : List ℕ) (ts : Tokens) (d : List ℕ) (k : ℕ) → AreFine n ks fs vs s d ts → is_result ks k ≡ true → has (flat_map made ts) k ≡ true → IsGiven fs ts k
given_in n ks fs vs s [] d k f r h = absurd (false≢true h)
given_in n ks fs vs s (t ∷ ts) d k f r h =
    ⊎_elim (λ j. given_now n ks fs vs s d t ts k f.0 r j) (λ j. given_later fs t ts k (given_in n ks fs vs s ts (d ++ made t) k f.1 r j)) (or_cases (has (made t) k) (has (flat_map made ts) k) (sym (has-append (made t) (flat_map made ts) k) ∙ h))

external_no_result : (o : Option ℕ) → external_kind o ≡ true → result_kind o ≡ true → ⊥
external_no_result None e r = false≢true e
external_no_result (Some k) e r =
    let a = ltb-true k 7 e in
    let b = ltb-true 6 k (both (nat_lt 6 k) (nat_lt k 13) r).0 in
    omega (arith, a, b)

-- the result of a call that stands in the order is given by a call of its function
pub result_in_order : (v : FunctionValue) → MayBeCopied v → (k : ℕ) → has (order_of v) k ≡ true → is_result (kinds_in v) k ≡ true → IsGiven (map callee (named_in v)) v.body k
result_in_order v may k h r =
    let ks = kinds_in v in
    let vs = value_links v.expressions in
    let fs = map callee (named_in v) in
    let s = begun v in
    let u = follows ks vs (plain_values v.expressions may.alone) may.form.earlier (length vs) fs s v.body [] s (under_start ks vs s (started_ready vs may.form.earlier (initialisers_in v))) may.form.body in
    let known = u.under.only_known k (ap (λ o. has o k) u.same ∙ h) in
    ⊎_elim (λ e. absurd (external_no_result (slice_get ks k) e r)) (λ e. ⊎_elim (λ b. absurd (false≢true (sym (All-has (λ x. is_result ks x ≡ false) s k may.form.no_results b) ∙ r))) (λ d. given_in (length vs) ks fs vs s v.body [] k may.form.body r d) e) (known_cases ks s (flat_map made v.body) k known)
