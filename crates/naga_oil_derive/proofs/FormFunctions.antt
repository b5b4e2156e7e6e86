-- What passes the test of form can be copied.
use Rattle.std.proofs.Common.{◌≡◌, inr, ℕ, zero, suc, ◌<◌, ◌≤◌, ◌++◌, List, [], ◌∷◌, length, map, get_or, slice_get, Option, Some, None, IsSome, option_map, option_to_list, IfSome, refl, sym, ◌∙◌, subst, All, string_bytes, String, Global, arith}
use Rattle.std.specs.List.{flat_map}
use Rattle.std.proofs.lemmas.List.Elements.{All-nil, All-cons, All-weaker, All-append, All-head, All-tail, All-map}
use Rattle.std.proofs.lemmas.Option.{slice_get_within, slice_get-get_or, none-some, same_Some}
use Rattle.naga_oil_ir.specs.Body.{Tokens, block_tokens}
use Rattle.naga_oil_form.specs.BodyForm.{kinds, named_of, operand_links, IsTokenFine}
use Rattle.naga_oil_form.specs.Links.{Links, linked}
use Rattle.naga_oil_ir.specs.ModuleValue.{FunctionValue, function_value}
use Rattle.naga_oil_form.specs.NameForm.{Name}
use Rattle.naga_oil_ir.specs.Rows.{named_place}
use Rattle.naga_oil_form.specs.WellFormed.{NamedThere, FunctionForm, FunctionsForm, WellFormed}
use Rattle.naga_oil_ir.specs.declared.module.Module.{Module}
use Rattle.naga_oil_ir.specs.declared.module.Function.{Function}
use Rattle.naga_oil_ir.specs.declared.module.FunctionArgument.{FunctionArgument}
use Rattle.naga_oil_ir.specs.declared.module.FunctionResult.{FunctionResult}
use Rattle.naga_oil_ir.specs.declared.names.ItemPlace.TheVariants.{TypeItem, ConstantItem, OverrideItem, GlobalItem}
use Rattle.naga_oil_ir.specs.declared.parts.Named.{Named}
use Rattle.naga_oil_ir.specs.declared.parts.Named.TheVariants.{Nothing, TypeOf, ConstantAt, OverrideAt, GlobalAt, LocalAt, ArgumentAt, FunctionAt}
use Rattle.naga_oil_ir.specs.declared.span.Span.{Span}
use Rattle.naga_oil_ir.specs.declared.tokens.Token.{Token}
use Rattle.naga_oil_ir.specs.declared.tokens.Token.TheVariants.{At, Head, Plain, Flag, Absent, Open, Close, Use, Give, GiveCall, Emitted, Callee}
use Rattle.naga_oil_ir.specs.declared.types.LocalVariable.{LocalVariable}
use Rattle.naga_oil_walk.specs.declared.walk.Request.{Request}
use Rattle.naga_oil_walk.specs.declared.walk.Request.TheVariants.{Item, Call}
use Rattle.naga_oil_derive.specs.World.{value_of}
use Rattle.naga_oil_derive.specs.Imported.{Asks}
use Rattle.naga_oil_walk.specs.Walk.{brief}
use Rattle.naga_oil_walk.specs.Naming.{item_of, requested, requests_at, naming, names_from, local_names, token_names, signature_names, function_names}
use Rattle.naga_oil_derive.specs.DerivedFunctions.{Meanings, MayAsk, MayCopy, MayCall}
use Rattle.naga_oil_derive.proofs.FunctionValues.{seen, requests_same, stands_value, functions_length, functions_at}
use Rattle.naga_oil_derive.proofs.RankLemmas.{place_there}

-- a function that a part of a body calls is there and passes a test
abbrev pub CallsIn : Module → (ℕ → Type 0) → Token → Type 0
CallsIn m P (Callee f) = (f < length m.functions) × P f
CallsIn m P _ = Unit {0}

calls_of : (m : Module) (P : ℕ → Type 0) (c n : ℕ) → c ≤ length m.functions → ((g : ℕ) → g < c → P g) → (t : Token) → IsTokenFine c n t → CallsIn m P t
calls_of m P c n l w (Callee g) h = (omega (arith, l, h), w g h)
calls_of m P c n l w _ h = tt

-- calls go to functions before one
calls_before : (m : Module) (P : ℕ → Type 0) (c n : ℕ) (ts : Tokens) → c ≤ length m.functions → ((g : ℕ) → g < c → P g) → All (IsTokenFine c n) ts → All (CallsIn m P) ts
calls_before m P c n ts l w h = All-weaker (IsTokenFine c n) (CallsIn m P) (calls_of m P c n l w) ts h

-- ---- lists

flat_each : {X : Type 0} (P : Request → Type 0) (f : X → List Request) → ((x : X) → All P (f x)) → (xs : List X) → All P (flat_map f xs)
flat_each P f h [] = All-nil P
flat_each P f h (x ∷ xs) = All-append P (f x) (flat_map f xs) (h x) (flat_each P f h xs)

flat_all : {X : Type 0} (P : Request → Type 0) (f : X → List Request) (xs : List X) → All (λ x. All P (f x)) xs → All P (flat_map f xs)
flat_all P f [] h = All-nil P
flat_all P f (x ∷ xs) h = All-append P (f x) (flat_map f xs) (All-head (λ y. All P (f y)) x xs h) (flat_all P f xs (All-tail (λ y. All P (f y)) x xs h))

-- ---- what expressions name

item_there : (m : Module) (P : ℕ → Type 0) (f : Function) (n : Named) → NamedThere m f n → All (Asks m P) (requested (named_place n))
item_there m P f Nothing h = All-nil (Asks m P)
item_there m P f (TypeOf k) h = All-cons (Asks m P) (Item (TypeItem k)) [] (place_there m (TypeItem k) h) (All-nil (Asks m P))
item_there m P f (ConstantAt k) h = All-cons (Asks m P) (Item (ConstantItem k)) [] (place_there m (ConstantItem k) h) (All-nil (Asks m P))
item_there m P f (OverrideAt k) h = All-cons (Asks m P) (Item (OverrideItem k)) [] (place_there m (OverrideItem k) h) (All-nil (Asks m P))
item_there m P f (GlobalAt k) h = All-cons (Asks m P) (Item (GlobalItem k)) [] (place_there m (GlobalItem k) h) (All-nil (Asks m P))
item_there m P f (LocalAt k) h = All-nil (Asks m P)
item_there m P f (ArgumentAt k) h = All-nil (Asks m P)
item_there m P f (FunctionAt k) h = All-nil (Asks m P)

found_there : (m : Module) (P : ℕ → Type 0) (f : Function) (ns : List Named) (k : ℕ) (o : Option Named) → slice_get ns k ≡ o → All (NamedThere m f) ns → All (Asks m P) (requested (item_of o))
found_there m P f ns k None e a = All-nil (Asks m P)
found_there m P f ns k (Some n) e a =
    let l = slice_get_within ns k n e in
    let same : get_or ns k n ≡ n = same_Some (get_or ns k n) n (sym (slice_get-get_or ns k n l) ∙ e) in
    item_there m P f n (subst (NamedThere m f) same (a k n l))

name_there : (m : Module) (P : ℕ → Type 0) (f : Function) (ns : List Named) → All (NamedThere m f) ns → (k : ℕ) → All (Asks m P) (requests_at ns k)
name_there m P f ns a k = found_there m P f ns k (slice_get ns k) refl a

naming_there : (m : Module) (P : ℕ → Type 0) (f : Function) (ns : List Named) (ls : Links) → All (NamedThere m f) ns → (n k : ℕ) → All (Asks m P) (naming n ns ls k)
naming_there m P f ns ls a zero k = All-nil (Asks m P)
naming_there m P f ns ls a (suc n) k = All-append (Asks m P) (requests_at ns k) (flat_map (naming n ns ls) (linked ls k)) (name_there m P f ns a k) (flat_each (Asks m P) (naming n ns ls) (naming_there m P f ns ls a n) (linked ls k))

names_there : (m : Module) (P : ℕ → Type 0) (f : Function) (ns : List Named) (ls : Links) → All (NamedThere m f) ns → (k : ℕ) → All (Asks m P) (names_from ns ls k)
unfolding names_from
names_there m P f ns ls a k = naming_there m P f ns ls a (suc k) k

-- ---- what a function names

local_there : (m : Module) (P : ℕ → Type 0) (f : Function) (ns : List Named) (ls : Links) → All (NamedThere m f) ns → (l : LocalVariable × Span) → l.0.ty < length m.types → All (Asks m P) (local_names ns ls l)
local_there m P f ns ls a l h = All-cons (Asks m P) (Item (TypeItem l.0.ty)) (flat_map (names_from ns ls) (option_to_list l.0.init)) (place_there m (TypeItem l.0.ty) h) (flat_each (Asks m P) (names_from ns ls) (names_there m P f ns ls a) (option_to_list l.0.init))

brief_there : (m : Module) (P : ℕ → Type 0) (f : Function) (ns : List Named) → All (NamedThere m f) ns → (ks : List ℕ) → All (Asks m P) (flat_map (requests_at ns) ks)
brief_there m P f ns a ks = flat_each (Asks m P) (requests_at ns) (name_there m P f ns a) ks

token_there : (m : Module) (P : ℕ → Type 0) (f : Function) (ks : List ℕ) (ns : List Named) (ls : Links) → All (NamedThere m f) ns → (t : Token) → CallsIn m P t → All (Asks m P) (token_names ks ns ls t)
token_there m P f ks ns ls a (Callee g) h = All-cons (Asks m P) (Call g) [] h (All-nil (Asks m P))
token_there m P f ks ns ls a (At s) h = brief_there m P f ns a (brief ks ls (At s))
token_there m P f ks ns ls a (Head k) h = brief_there m P f ns a (brief ks ls (Head k))
token_there m P f ks ns ls a (Plain k) h = brief_there m P f ns a (brief ks ls (Plain k))
token_there m P f ks ns ls a (Flag b) h = brief_there m P f ns a (brief ks ls (Flag b))
token_there m P f ks ns ls a Absent h = brief_there m P f ns a (brief ks ls Absent)
token_there m P f ks ns ls a Open h = brief_there m P f ns a (brief ks ls Open)
token_there m P f ks ns ls a Close h = brief_there m P f ns a (brief ks ls Close)
token_there m P f ks ns ls a (Use k) h = brief_there m P f ns a (brief ks ls (Use k))
token_there m P f ks ns ls a (Give k) h = brief_there m P f ns a (brief ks ls (Give k))
token_there m P f ks ns ls a (GiveCall g k) h = brief_there m P f ns a (brief ks ls (GiveCall g k))
token_there m P f ks ns ls a (Emitted r) h = brief_there m P f ns a (brief ks ls (Emitted r))

result_there : (m : Module) (P : ℕ → Type 0) (o : Option FunctionResult) → IfSome o (λ r. r.ty < length m.types) → All (Asks m P) (option_to_list (option_map (λ (r : FunctionResult). Item (TypeItem r.ty)) o))
result_there m P None h = All-nil (Asks m P)
result_there m P (Some r) h = All-cons (Asks m P) (Item (TypeItem r.ty)) [] (place_there m (TypeItem r.ty) h) (All-nil (Asks m P))

signature_there : (m : Module) (P : ℕ → Type 0) (f : Function) → All (λ (a : FunctionArgument). a.ty < length m.types) f.arguments.items → IfSome f.result (λ r. r.ty < length m.types) → All (Asks m P) (signature_names f)
signature_there m P f a r =
    let g = λ (x : FunctionArgument). (let y : Request = Item (TypeItem x.ty) in y) in
    All-append (Asks m P) (map g f.arguments.items) (option_to_list (option_map (λ (x : FunctionResult). Item (TypeItem x.ty)) f.result)) (All-map (Asks m P) g f.arguments.items (All-weaker (λ (x : FunctionArgument). x.ty < length m.types) (λ (x : FunctionArgument). Asks m P (g x)) (λ x h. place_there m (TypeItem x.ty) h) f.arguments.items a)) (result_there m P f.result r)

-- what a function with calls of this kind names, where it passes the test of form
pub function_there : (m : Module) (P : ℕ → Type 0) (c n : ℕ) (f : Function) → FunctionForm m c n f → All (CallsIn m P) (block_tokens f.body) → All (Asks m P) (function_names f)
function_there m P c n f h calls =
    let A = Asks m P in
    let ns = named_of f.expressions in
    let ls = operand_links f.expressions in
    let ks = kinds f.expressions in
    let locals = flat_all A (local_names ns ls) f.local_variables (All-weaker (λ (l : LocalVariable × Span). l.0.ty < length m.types) (λ l. All A (local_names ns ls l)) (local_there m P f ns ls h.expressions) f.local_variables h.locals) in
    let body = flat_all A (token_names ks ns ls) (block_tokens f.body) (All-weaker (CallsIn m P) (λ t. All A (token_names ks ns ls t)) (token_there m P f ks ns ls h.expressions) (block_tokens f.body) calls) in
    All-append A (signature_names f ++ flat_map (local_names ns ls) f.local_variables) (flat_map (token_names ks ns ls) (block_tokens f.body)) (All-append A (signature_names f) (flat_map (local_names ns ls) f.local_variables) (signature_there m P f h.arguments h.result) locals) body

-- ---- functions that can be copied

asked_value : (m : Module) (P : ℕ → Type 0) (r : Request) → Asks m P r → MayAsk (value_of m) P r
asked_value m P (Item p) i = i
asked_value m P (Call f) i = (let e = functions_length m in (omega (arith, i.0, e)), i.1)

-- a function that passes the test of form can be copied where the functions that it calls pass a test
pub form_copy : (m : Module) (P : ℕ → Type 0) (c n : ℕ) (f : Function) → FunctionForm m c n f → All (CallsIn m P) (block_tokens f.body) → MayCopy (value_of m) P (function_value f)
form_copy m P c n f h calls = record {
  form = stands_value f h.body;
  requests = subst (All (MayAsk (value_of m) P)) (sym (requests_same f)) (All-weaker (Asks m P) (MayAsk (value_of m) P) (asked_value m P) (function_names f) (function_there m P c n f h calls));
}

named_value : (o : Option (String Global)) → IsSome o → IsSome (option_map string_bytes o)
named_value None h = h
named_value (Some n) h = refl

function_form : (m : Module) (n k : ℕ) (e : Function × Span) → slice_get m.functions k ≡ Some e → FunctionsForm m n m.functions → FunctionForm m k n e.0
unfolding FunctionsForm
function_form m n k e at h = h k e at

pub function_named : (m : Module) (k : ℕ) (e : Function × Span) → slice_get m.functions k ≡ Some e → All (λ (x : Function × Span). IsSome x.0.name) m.functions → IsSome (function_value e.0).name
function_named m k e at names =
    let l = slice_get_within m.functions k e at in
    let same : get_or m.functions k e ≡ e = same_Some (get_or m.functions k e) e (sym (slice_get-get_or m.functions k e l) ∙ at) in
    named_value e.0.name (subst (λ (x : Function × Span). IsSome x.0.name) same (names k e l))

-- the function at a place, where those before it pass a test
form_at : (m : Module) (d : Name) (n : ℕ) (P : ℕ → Type 0) (k : ℕ) → ((g : ℕ) → g < k → P g) → WellFormed m d n → (o : Option (Function × Span)) → slice_get m.functions k ≡ o → IfSome (option_map seen o) (λ e. IsSome e.0.name × MayCopy (value_of m) P e.0)
form_at m d n P k w h None at = tt
form_at m d n P k w h (Some e) at =
    let f = function_form m n k e at h.functions in
    let l = slice_get_within m.functions k e at in
    (function_named m k e at h.names.named, form_copy m P k n e.0 f (calls_before m P k n (block_tokens e.0.body) (omega (arith, l)) w f.statements))

-- each function can be called, at a depth that is greater than its place
form_callee : (m : Module) (d : Name) (n : ℕ) (ns : Meanings) → WellFormed m d n → (depth k : ℕ) → k < depth → MayCall (value_of m) ns depth k
form_callee m d n ns h zero k l = absurd (omega arith)
form_callee m d n ns h (suc depth) k l =
    let P = MayCall (value_of m) ns depth in
    inr (subst (λ (o : Option (FunctionValue × Span)). IfSome o (λ e. IsSome e.0.name × MayCopy (value_of m) P e.0)) (sym (functions_at m k)) (form_at m d n P k (λ g i. form_callee m d n ns h depth g (omega (arith, i, l))) h (slice_get m.functions k) refl))

-- as deep as there are functions
pub form_reach : (m : Module) (d : Name) (n : ℕ) (ns : Meanings) → WellFormed m d n → (k : ℕ) → k < length m.functions → MayCall (value_of m) ns (length (value_of m).functions) k
form_reach m d n ns h k l = let e = functions_length m in form_callee m d n ns h (length (value_of m).functions) k (omega (arith, l, e))

pub form_body : (m : Module) (d : Name) (n : ℕ) (ns : Meanings) (c : ℕ) (f : Function) → c ≤ length m.functions → WellFormed m d n → FunctionForm m c n f → MayCopy (value_of m) (MayCall (value_of m) ns (length (value_of m).functions)) (function_value f)
form_body m d n ns c f l h own =
    let P = MayCall (value_of m) ns (length (value_of m).functions) in
    form_copy m P c n f own (calls_before m P c n (block_tokens f.body) l (λ g i. form_reach m d n ns h g (omega (arith, i, l))) own.statements)

-- ---- functions as a caller of a derived module sees them

entry_there : (fs : List (Function × Span)) (k : ℕ) (f : Function) (o : Option (Function × Span)) → slice_get fs k ≡ o → Some f ≡ option_map (λ (x : Function × Span). x.0) o → (e : Function × Span) × (slice_get fs k ≡ Some e) × (e.0 ≡ f)
entry_there fs k f None h e = absurd (none-some f (sym e))
entry_there fs k f (Some x) h e = (x, h, sym (same_Some f x.0 e))

-- a function that a caller found passes what copying asks, and has a name
pub one_form : (m : Module) (d : Name) (n : ℕ) (ns : Meanings) (k : ℕ) (f : Function) → WellFormed m d n → Some f ≡ option_map (λ (x : Function × Span). x.0) (slice_get m.functions k) → MayCopy (value_of m) (MayCall (value_of m) ns (length (value_of m).functions)) (function_value f) × IsSome (function_value f).name
one_form m d n ns k f w e =
    let P = MayCall (value_of m) ns (length (value_of m).functions) in
    let at = entry_there m.functions k f (slice_get m.functions k) refl e in
    let l = slice_get_within m.functions k at.0 at.1 in
    let own = form_body m d n ns k at.0.0 (omega (arith, l)) w (function_form m n k at.0 at.1 w.functions) in
    subst (λ (x : Function). MayCopy (value_of m) P (function_value x) × IsSome (function_value x).name) at.2 (own, function_named m k at.0 at.1 w.names.named)
