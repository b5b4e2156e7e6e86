-- What a function requests is everything that it names.
use Rattle.std.proofs.Common.{◌≡◌, ⊎_elim, ℕ, zero, suc, ◌==◌, true, List, [], ◌∷◌, ◌++◌, length, map, Option, Some, None, option_map, option_to_list, slice_get, IfSome, All, refl, ap, sym, ◌∙◌, subst}
use Rattle.std.specs.List.{flat_map}
use Rattle.std.proofs.lemmas.Bool.{false≢true, or_cases}
use Rattle.std.proofs.lemmas.List.Elements.{All-head, All-tail, All-nil, All-cons}
use Rattle.std.proofs.lemmas.Option.{none-some, same_Some, slice_get-map}
use Rattle.naga_oil_ir.specs.Body.{Tokens}
use Rattle.naga_oil_form.specs.BodyForm.{callee}
use Rattle.naga_oil_form.specs.Links.{Links, linked, reach, trail, has, added}
use Rattle.naga_oil_ir.specs.ModuleValue.{FunctionValue, ArgumentValue, LocalValue}
use Rattle.naga_oil_ir.specs.Parts.{Parts}
use Rattle.naga_oil_ir.specs.Rows.{named_place}
use Rattle.naga_oil_ir.specs.declared.module.FunctionResult.{FunctionResult}
use Rattle.naga_oil_ir.specs.declared.names.ItemPlace.TheVariants.{TypeItem}
use Rattle.naga_oil_ir.specs.declared.parts.Named.{Named}
use Rattle.naga_oil_ir.specs.declared.span.Span.{Span}
use Rattle.naga_oil_ir.specs.declared.tokens.Token.{Token}
use Rattle.naga_oil_ir.specs.declared.tokens.Token.TheVariants.{Use, Give, GiveCall, Emitted, Callee}
use Rattle.naga_oil_form.proofs.LinkLemmas.{eqb_eq, has-added, has-append, has-started, in_one, only}
use Rattle.naga_oil_walk.specs.declared.walk.Request.{Request}
use Rattle.naga_oil_walk.specs.declared.walk.Request.TheVariants.{Item, Call}
use Rattle.naga_oil_derive.specs.Copies.{value_links}
use Rattle.naga_oil_derive.specs.CopiedFunctionLaw.{MayBeCopied}
use Rattle.naga_oil_derive.specs.DerivedFunctions.{kinds_in, named_in, initialisers_in, local_requests, requests_of, signature_requests}
use Rattle.naga_oil_derive.specs.Functions.{begun, order_of}
use Rattle.naga_oil_walk.specs.Naming.{asked, item_of, naming, names_from, requested, requests_at, token_names}
use Rattle.naga_oil_walk.specs.Walk.{brief}
use Rattle.naga_oil_derive.proofs.FunctionForm.{plain_values, started_ready}
use Rattle.naga_oil_derive.proofs.ReachedLaws.{order_reached}
use Rattle.naga_oil_walk.proofs.WalkForm.{follows, under_start}
use Rattle.naga_oil_copy_laws.specs.ByTree.{IsReached, callee_in}
use Rattle.naga_oil_copy_laws.specs.CopiedByTree.{IsAtHand, Calls, CallsWhatItNames, AtHandLaw}

-- ---- requests, all of which pass

all_left : (P : Request → Type 0) (xs ys : List Request) → All P (xs ++ ys) → All P xs
all_left P [] ys a = All-nil P
all_left P (x ∷ xs) ys a = All-cons P x xs (All-head P x (xs ++ ys) a) (all_left P xs ys (All-tail P x (xs ++ ys) a))

all_right : (P : Request → Type 0) (xs ys : List Request) → All P (xs ++ ys) → All P ys
all_right P [] ys a = a
all_right P (x ∷ xs) ys a = all_right P xs ys (All-tail P x (xs ++ ys) a)

all_both : (P : Request → Type 0) (xs ys : List Request) → All P xs → All P ys → All P (xs ++ ys)
all_both P [] ys a b = b
all_both P (x ∷ xs) ys a b = All-cons P x (xs ++ ys) (All-head P x xs a) (all_both P xs ys (All-tail P x xs a) b)

-- everything that is requested for one of some places
all_of_one : (P : Request → Type 0) (f : ℕ → List Request) (xs : List ℕ) (x : ℕ) → All P (flat_map f xs) → has xs x ≡ true → All P (f x)
all_of_one P f [] x a h = absurd (false≢true h)
all_of_one P f (y ∷ xs) x a h =
    ⊎_elim (λ e. subst (λ z. All P (f z)) (eqb_eq y x e) (all_left P (f y) (flat_map f xs) a)) (λ e. all_of_one P f xs x (all_right P (f y) (flat_map f xs) a) e) (or_cases (y == x) (has xs x) h)

-- everything that is requested for one of some parts of a body
all_of_part : (P : Request → Type 0) (f : Token → List Request) (ts : Tokens) (i : ℕ) (t : Token) → All P (flat_map f ts) → slice_get ts i ≡ Some t → All P (f t)
all_of_part P f [] i t a e = absurd (none-some t e)
all_of_part P f (y ∷ ts) zero t a e = subst (λ z. All P (f z)) (same_Some y t e) (all_left P (f y) (flat_map f ts) a)
all_of_part P f (y ∷ ts) (suc i) t a e = all_of_part P f ts i t (all_right P (f y) (flat_map f ts) a) e

-- ---- types

abbrev type_requests : List ArgumentValue → List Request
type_requests xs = map (λ (a : ArgumentValue). Item (TypeItem a.ty)) xs

of_arguments : (P : Request → Type 0) (xs : List ArgumentValue) (k : ℕ) → All P (type_requests xs) → has (map (λ (a : ArgumentValue). a.ty) xs) k ≡ true → P (Item (TypeItem k))
of_arguments P [] k a h = absurd (false≢true h)
of_arguments P (x ∷ xs) k a h =
    ⊎_elim (λ e. subst (λ z. P (Item (TypeItem z))) (eqb_eq x.ty k e) (All-head P (Item (TypeItem x.ty)) (type_requests xs) a)) (λ e. of_arguments P xs k (All-tail P (Item (TypeItem x.ty)) (type_requests xs) a) e) (or_cases (x.ty == k) (has (map (λ (a : ArgumentValue). a.ty) xs) k) h)

of_result : (P : Request → Type 0) (o : Option FunctionResult) (k : ℕ) → All P (option_to_list (option_map (λ (r : FunctionResult). Item (TypeItem r.ty)) o)) → has (option_to_list (option_map (λ (r : FunctionResult). r.ty) o)) k ≡ true → P (Item (TypeItem k))
of_result P None k a h = absurd (false≢true h)
of_result P (Some r) k a h = subst (λ z. P (Item (TypeItem z))) (only r.ty k h) (All-head P (Item (TypeItem r.ty)) [] a)

abbrev all_locals : List Named → Links → List (LocalValue × Span) → List Request
all_locals ns ls xs = flat_map (local_requests ns ls) xs

of_locals : (P : Request → Type 0) (ns : List Named) (ls : Links) (xs : List (LocalValue × Span)) (k : ℕ) → All P (all_locals ns ls xs) → has (map (λ (l : LocalValue × Span). l.0.ty) xs) k ≡ true → P (Item (TypeItem k))
of_locals P ns ls [] k a h = absurd (false≢true h)
of_locals P ns ls (x ∷ xs) k a h =
    let here = all_left P (local_requests ns ls x) (all_locals ns ls xs) a in
    ⊎_elim (λ e. subst (λ z. P (Item (TypeItem z))) (eqb_eq x.0.ty k e) (All-head P (Item (TypeItem x.0.ty)) (flat_map (names_from ns ls) (option_to_list x.0.init)) here)) (λ e. of_locals P ns ls xs k (all_right P (local_requests ns ls x) (all_locals ns ls xs) a) e) (or_cases (x.0.ty == k) (has (map (λ (l : LocalValue × Span). l.0.ty) xs) k) h)

-- ---- expressions

of_naming : (P : Request → Type 0) (ns : List Named) (ls : Links) (n r k : ℕ) → All P (naming n ns ls r) → has (reach n ls r) k ≡ true → All P (requests_at ns k)
of_naming P ns ls zero r k a h = absurd (false≢true h)
of_naming P ns ls (suc n) r k a h =
    ⊎_elim
    (λ e. let y = in_one (reach n ls) (linked ls r) k e in of_naming P ns ls n y.0 k (all_of_one P (naming n ns ls) (linked ls r) y.0 (all_right P (requests_at ns r) (flat_map (naming n ns ls) (linked ls r)) a) y.1) y.2)
    (λ e. subst (λ z. All P (requests_at ns z)) (only r k e) (all_left P (requests_at ns r) (flat_map (naming n ns ls) (linked ls r)) a))
    (or_cases (has (flat_map (reach n ls) (linked ls r)) k) (has (r ∷ []) k) (sym (has-append (flat_map (reach n ls) (linked ls r)) (r ∷ []) k) ∙ h))

of_trail : (P : Request → Type 0) (ns : List Named) (ls : Links) (r k : ℕ) → All P (names_from ns ls r) → has (trail ls r) k ≡ true → All P (requests_at ns k)
unfolding trail names_from
of_trail P ns ls r k a h = of_naming P ns ls (suc r) r k a h

of_initialisers : (P : Request → Type 0) (ns : List Named) (ls : Links) (xs : List (LocalValue × Span)) (i : ℕ) → All P (all_locals ns ls xs) → has (flat_map (λ (l : LocalValue × Span). option_to_list l.0.init) xs) i ≡ true → All P (names_from ns ls i)
of_initialisers P ns ls [] i a h = absurd (false≢true h)
of_initialisers P ns ls (x ∷ xs) i a h =
    let here = All-tail P (Item (TypeItem x.0.ty)) (flat_map (names_from ns ls) (option_to_list x.0.init)) (all_left P (local_requests ns ls x) (all_locals ns ls xs) a) in
    ⊎_elim (λ e. all_of_one P (names_from ns ls) (option_to_list x.0.init) i here e) (λ e. of_initialisers P ns ls xs i (all_right P (local_requests ns ls x) (all_locals ns ls xs) a) e) (or_cases (has (option_to_list x.0.init) i) (has (flat_map (λ (l : LocalValue × Span). option_to_list l.0.init) xs) i) (sym (has-append (option_to_list x.0.init) (flat_map (λ (l : LocalValue × Span). option_to_list l.0.init) xs) i) ∙ h))

of_token : (P : Request → Type 0) (ks : List ℕ) (ns : List Named) (ls : Links) (t : Token) (k : ℕ) → All P (token_names ks ns ls t) → has (brief ks ls t) k ≡ true → All P (requests_at ns k)
of_token P ks ns ls (Callee f) k a h = absurd (false≢true h)
of_token P ks ns ls (Use x) k a h = all_of_one P (requests_at ns) (x ∷ []) k a h
of_token P ks ns ls (Give x) k a h = all_of_one P (requests_at ns) (x ∷ []) k a h
of_token P ks ns ls (GiveCall f x) k a h = all_of_one P (requests_at ns) (x ∷ []) k a h
of_token P ks ns ls (Emitted r) k a h = all_of_one P (requests_at ns) (brief ks ls (Emitted r)) k a h
of_token P ks ns ls _ k a h = absurd (false≢true h)

of_tokens : (P : Request → Type 0) (ks : List ℕ) (ns : List Named) (ls : Links) (ts : Tokens) (k : ℕ) → All P (flat_map (token_names ks ns ls) ts) → has (flat_map (brief ks ls) ts) k ≡ true → All P (requests_at ns k)
of_tokens P ks ns ls [] k a h = absurd (false≢true h)
of_tokens P ks ns ls (t ∷ ts) k a h =
    ⊎_elim (λ e. of_token P ks ns ls t k (all_left P (token_names ks ns ls t) (flat_map (token_names ks ns ls) ts) a) e) (λ e. of_tokens P ks ns ls ts k (all_right P (token_names ks ns ls t) (flat_map (token_names ks ns ls) ts) a) e) (or_cases (has (brief ks ls t) k) (has (flat_map (brief ks ls) ts) k) (sym (has-append (brief ks ls t) (flat_map (brief ks ls) ts) k) ∙ h))

-- the order of a function that may be copied, where the operands of what is listed are known
pub in_brief : (f : FunctionValue) → MayBeCopied f → added (begun f) (flat_map (brief (kinds_in f) (value_links f.expressions)) f.body) ≡ order_of f
in_brief f may =
    let ks = kinds_in f in
    let ls = value_links f.expressions in
    let fs = map callee (named_in f) in
    let a = may.form.earlier in
    (follows ks ls (plain_values f.expressions may.alone) a (length ls) fs (begun f) f.body [] (begun f) (under_start ks ls (begun f) (started_ready ls a (initialisers_in f))) may.form.body).same

of_reached : (P : Request → Type 0) (f : FunctionValue) → MayBeCopied f → (k : ℕ) → All P (requests_of f) → IsReached f k → All P (requests_at (named_in f) k)
of_reached P f may k a w =
    let ks = kinds_in f in
    let ns = named_in f in
    let ls = value_links f.expressions in
    let bs = flat_map (brief ks ls) f.body in
    let ss = signature_requests f in
    let ms = all_locals ns ls f.local_variables in
    let locals = all_right P ss ms (all_left P (ss ++ ms) (flat_map (token_names ks ns ls) f.body) a) in
    let tokens = all_right P (ss ++ ms) (flat_map (token_names ks ns ls) f.body) a in
    ⊎_elim
    (λ (e : has (begun f) k ≡ true). let y = in_one (trail ls) (initialisers_in f) k (sym (has-started ls (initialisers_in f) k) ∙ e) in of_trail P ns ls y.0 k (of_initialisers P ns ls f.local_variables y.0 locals y.1) y.2)
    (λ (e : has bs k ≡ true). of_tokens P ks ns ls f.body k tokens e)
    (or_cases (has (begun f) k) (has bs k) (sym (has-added (begun f) bs k) ∙ ap (λ o. has o k) (in_brief f may) ∙ order_reached f may k ∙ w))

-- ---- all that a function names

of_named : (P : Request → Type 0) (n : Named) → All P (requested (named_place n)) → ((c : ℕ) → callee n ≡ Some c → P (Call c)) → All P (asked n)
of_named P n a f = all_both P (option_to_list (option_map Call (callee n))) (requested (named_place n)) (one (callee n) f) a
  where
    one : (o : Option ℕ) → ((c : ℕ) → o ≡ Some c → P (Call c)) → All P (option_to_list (option_map Call o))
    one None f = All-nil P
    one (Some c) f = All-cons P (Call c) [] (f c refl) (All-nil P)

of_callee : (P : Request → Type 0) (f : FunctionValue) → ((c : ℕ) → Calls f c → P (Call c)) → CallsWhatItNames f → (i : ℕ) (t : Token) → slice_get f.body i ≡ Some t → IfSome (callee_in t) (λ h. P (Call h))
of_callee P f called names i (Callee c) e = called c (i, e)
of_callee P f called names i (GiveCall c h) e = called c (names.results i c h e)
of_callee P f called names i _ e = tt

pub at_hand : AtHandLaw
at_hand s ms f may names a =
    let P = IsAtHand s ms in
    let ks = kinds_in f in
    let ns = named_in f in
    let ls = value_links f.expressions in
    let ss = signature_requests f in
    let ws = all_locals ns ls f.local_variables in
    let ts = flat_map (token_names ks ns ls) f.body in
    let sig = all_left P ss ws (all_left P (ss ++ ws) ts a) in
    let locals = all_right P ss ws (all_left P (ss ++ ws) ts a) in
    let args = map (λ (x : ArgumentValue). x.ty) f.arguments in
    let res = option_to_list (option_map (λ (r : FunctionResult). r.ty) f.result) in
    let tys = map (λ (l : LocalValue × Span). l.0.ty) f.local_variables in
    let rs = option_to_list (option_map (λ (r : FunctionResult). Item (TypeItem r.ty)) f.result) in
    let called = λ (c : ℕ) (w : Calls f c). All-head P (Call c) [] (all_of_part P (token_names ks ns ls) f.body w.0 (Callee c) (all_right P (ss ++ ws) ts a) w.1) in
    record {
      types = λ k h.
          ⊎_elim
          (λ e. ⊎_elim (λ q. of_arguments P f.arguments k (all_left P (type_requests f.arguments) rs sig) q) (λ q. of_result P f.result k (all_right P (type_requests f.arguments) rs sig) q) (or_cases (has args k) (has res k) (sym (has-append args res k) ∙ e)))
          (λ e. of_locals P ns ls f.local_variables k locals e)
          (or_cases (has (args ++ res) k) (has tys k) (sym (has-append (args ++ res) tys k) ∙ h));
      expressions = λ k e w at.
          let name : slice_get ns k ≡ Some e.0.named = slice_get-map (λ (x : Parts × Span). x.0.named) f.expressions k ∙ ap (option_map (λ (x : Parts × Span). x.0.named)) at in
          of_named P e.0.named (subst (λ o. All P (requested (item_of o))) name (of_reached P f may k a w)) (λ c q. called c (names.expressions k c e w at q));
      callees = λ i t e. of_callee P f called names i t e;
    }
