-- Functions as plain data.
use Rattle.std.proofs.Common.{◌≡◌, ⊎_elim, inl, inr, ℕ, zero, suc, ◌<◌, ◌++◌, List, [], ◌∷◌, length, map, slice_get, Option, Some, None, IsSome, IfSome, is_some, option_map, option_to_list, refl, ap, sym, ◌∙◌, subst, All, cond, String, string_bytes, bytes_eq, Global}
use Rattle.std.specs.Cow.{cow_str_bytes}
use Rattle.std.specs.declared.borrow.CowStr.{CowStr}
use Rattle.std.specs.List.{flat_map}
use Rattle.std.specs.Map.{lookup}
use Rattle.std.proofs.lemmas.List.{length-map}
use Rattle.std.proofs.lemmas.List.Elements.{All-weaker}
use Rattle.std.proofs.lemmas.Option.{slice_get-map, none-some, same_Some}
use Rattle.indexmap.specs.IndexMap.{IndexMap}
use Rattle.naga_oil_form.specs.Links.{Links}
use Rattle.naga_oil_ir.specs.Body.{block_tokens}
use Rattle.naga_oil_form.specs.BodyForm.{kinds, named_of, callees, callee, operand_links, MayStand}
use Rattle.naga_oil_ir.specs.ModuleValue.{ArgumentValue, FunctionValue, argument_value, function_value, expression_values, local_values}
use Rattle.naga_oil_ir.specs.Parts.{Parts, parts}
use Rattle.naga_oil_form.specs.WellFormed.{initialisers}
use Rattle.naga_oil_ir.specs.declared.expression.Expression.{Expression}
use Rattle.naga_oil_ir.specs.declared.module.Module.{Module}
use Rattle.naga_oil_ir.specs.declared.module.Function.{Function}
use Rattle.naga_oil_ir.specs.declared.module.FunctionArgument.{FunctionArgument}
use Rattle.naga_oil_ir.specs.declared.names.ItemPlace.TheVariants.{TypeItem}
use Rattle.naga_oil_ir.specs.declared.parts.Named.{Named}
use Rattle.naga_oil_ir.specs.declared.span.Span.{Span}
use Rattle.naga_oil_ir.specs.declared.types.LocalVariable.{LocalVariable}
use Rattle.naga_oil_walk.specs.declared.walk.Request.{Request}
use Rattle.naga_oil_walk.specs.declared.walk.Request.TheVariants.{Item, Call}
use Rattle.naga_oil_derive.specs.World.{value_of}
use Rattle.naga_oil_derive.specs.Callees.{known_as, known_at, callee_at}
use Rattle.naga_oil_derive.specs.Copies.{value_links}
use Rattle.naga_oil_walk.specs.Naming.{local_names, token_names, function_names}
use Rattle.naga_oil_derive.specs.Imported.{meanings, Asks, MayImport, IsCallable, IsAnswerable, IsImportable}
use Rattle.naga_oil_derive.specs.DerivedFunctions.{meant, meant_at, local_requests, requests_of, kinds_in, named_in, initialisers_in, MayAsk, MayCopy, MayCall}
use Rattle.naga_oil_derive.specs.declared.import.Functions.{Functions}
use Rattle.naga_oil_derive.proofs.CopyLoops.{links_of_values}
use Rattle.naga_oil_derive.proofs.Localizing.{kinds_of_values, inits_of_values}

-- ---- names

lookup_text : (bs : List ℕ) (es : List (CowStr Global × ℕ)) → lookup (λ k. bytes_eq bs (cow_str_bytes k)) es ≡ lookup (bytes_eq bs) (meanings es)
lookup_text bs [] = refl
lookup_text bs (e ∷ es) = ap (λ o. cond (bytes_eq bs (cow_str_bytes e.0)) (Some e.1) o) (lookup_text bs es)

pub known_same : {S : Type 0} (m : IndexMap (CowStr Global) ℕ S) (o : Option (String Global)) → known_as m o ≡ meant (meanings m.entries) (option_map string_bytes o)
known_same m None = refl
known_same m (Some n) = lookup_text (string_bytes n) m.entries

known_at_same : {S : Type 0} (m : IndexMap (CowStr Global) ℕ S) (o : Option (Function × Span)) → known_at m o ≡ meant_at (meanings m.entries) (option_map (λ (e : Function × Span). (function_value e.0, e.1)) o)
known_at_same m None = refl
known_at_same m (Some e) = known_same m e.0.name

pub callee_same : {S : Type 0} (m : IndexMap (CowStr Global) ℕ S) (fs : List (Function × Span)) (h : ℕ) → callee_at m fs h ≡ meant_at (meanings m.entries) (slice_get (map (λ e. (function_value e.0, e.1)) fs) h)
callee_same m fs h = known_at_same m (slice_get fs h) ∙ ap (meant_at (meanings m.entries)) (sym (slice_get-map (λ (e : Function × Span). (function_value e.0, e.1)) fs h))

-- ---- what a function names

named_of_values : (es : List (Expression × Span)) → map (λ (e : Parts × Span). e.0.named) (expression_values es) ≡ named_of es
named_of_values [] = refl
named_of_values (e ∷ es) = ap (λ (ns : List Named). (parts e.0).named ∷ ns) (named_of_values es)

arguments_same : (xs : List FunctionArgument) → map (λ (a : ArgumentValue). Item (TypeItem a.ty)) (map argument_value xs) ≡ map (λ (a : FunctionArgument). Item (TypeItem a.ty)) xs
arguments_same [] = refl
arguments_same (x ∷ xs) = ap (λ (rs : List Request). Item (TypeItem x.ty) ∷ rs) (arguments_same xs)

locals_same : (ns : List Named) (ls : Links) (xs : List (LocalVariable × Span)) → flat_map (local_requests ns ls) (local_values xs) ≡ flat_map (local_names ns ls) xs
locals_same ns ls [] = refl
locals_same ns ls (x ∷ xs) = ap (λ (rs : List Request). local_names ns ls x ++ rs) (locals_same ns ls xs)

pub requests_same : (f : Function) → requests_of (function_value f) ≡ function_names f
requests_same f =
    let v = function_value f in
    let es = f.expressions in
    let ks = kinds_of_values es in
    let ns = named_of_values es in
    let ls = links_of_values es in
    let rest : List Request = option_to_list (option_map (λ r. Item (TypeItem r.ty)) f.result) in
    let body = λ (k : List ℕ) (n : List Named) (l : Links). flat_map (token_names k n l) (block_tokens f.body) in
    let locals = λ (n : List Named) (l : Links). flat_map (local_requests n l) v.local_variables in
    ap (λ (qs : List Request). ((qs ++ rest) ++ locals (named_in v) (value_links v.expressions)) ++ body (kinds_in v) (named_in v) (value_links v.expressions)) (arguments_same f.arguments.items) ∙ ap (λ (k : List ℕ). ((map (λ (a : FunctionArgument). Item (TypeItem a.ty)) f.arguments.items ++ rest) ++ locals (named_in v) (value_links v.expressions)) ++ body k (named_in v) (value_links v.expressions)) ks ∙ ap (λ (n : List Named). ((map (λ (a : FunctionArgument). Item (TypeItem a.ty)) f.arguments.items ++ rest) ++ locals n (value_links v.expressions)) ++ body (kinds es) n (value_links v.expressions)) ns ∙ ap (λ (l : Links). ((map (λ (a : FunctionArgument). Item (TypeItem a.ty)) f.arguments.items ++ rest) ++ locals (named_of es) l) ++ body (kinds es) (named_of es) l) ls ∙ ap (λ (rs : List Request). ((map (λ (a : FunctionArgument). Item (TypeItem a.ty)) f.arguments.items ++ rest) ++ rs) ++ body (kinds es) (named_of es) (operand_links es)) (locals_same (named_of es) (operand_links es) f.local_variables)

-- ---- what can be copied

pub functions_length : (m : Module) → length (value_of m).functions ≡ length m.functions
unfolding value_of
functions_length m = length-map m.functions (λ (e : Function × Span). (function_value e.0, e.1))

pub callee_value : (m : Module) (fs : Functions) (h : ℕ) → meant_at (meanings fs.names.entries) (slice_get (value_of m).functions h) ≡ callee_at fs.names m.functions h
unfolding value_of
callee_value m fs h = sym (callee_same fs.names m.functions h)

may_ask : (m : Module) (P Q : ℕ → Type 0) → ((k : ℕ) → P k → Q k) → (r : Request) → MayAsk (value_of m) P r → Asks m Q r
may_ask m P Q w (Item p) h = h
may_ask m P Q w (Call f) h = (subst (λ l. f < l) (functions_length m) h.0, w f h.1)

may_stand : (f : Function) → MayStand (kinds_in (function_value f)) (map callee (named_in (function_value f))) (value_links (function_value f).expressions) (initialisers_in (function_value f)) (block_tokens f.body) → MayStand (kinds f.expressions) (callees f.expressions) (operand_links f.expressions) (initialisers f) (block_tokens f.body)
may_stand f h =
    let v = function_value f in
    let es = f.expressions in
    let a = subst (λ ks. MayStand ks (map callee (named_in v)) (value_links v.expressions) (initialisers_in v) (block_tokens f.body)) (kinds_of_values es) h in
    let b = subst (λ ns. MayStand (kinds es) (map callee ns) (value_links v.expressions) (initialisers_in v) (block_tokens f.body)) (named_of_values es) a in
    let c = subst (λ ls. MayStand (kinds es) (callees es) ls (initialisers_in v) (block_tokens f.body)) (links_of_values es) b in
    subst (λ is. MayStand (kinds es) (callees es) (operand_links es) is (block_tokens f.body)) (inits_of_values f.local_variables) c

may_copy : (m : Module) (P Q : ℕ → Type 0) → ((k : ℕ) → P k → Q k) → (f : Function) → MayCopy (value_of m) P (function_value f) → MayImport m Q f
may_copy m P Q w f h = record {
  form = may_stand f h.form;
  requests = subst (All (Asks m Q)) (requests_same f) (All-weaker (MayAsk (value_of m) P) (Asks m Q) (may_ask m P Q w) (requests_of (function_value f)) h.requests);
}

name_there : (o : Option (String Global)) → IsSome (option_map string_bytes o) → IsSome o
name_there None h = h
name_there (Some n) h = refl

abbrev pub seen : Function × Span → FunctionValue × Span
seen x = (function_value x.0, x.1)

pub functions_at : (m : Module) (k : ℕ) → slice_get (value_of m).functions k ≡ option_map seen (slice_get m.functions k)
unfolding value_of
functions_at m k = slice_get-map seen m.functions k

may_copy_there : (m : Module) (P Q : ℕ → Type 0) → ((k : ℕ) → P k → Q k) → (o : Option (Function × Span)) → IfSome (option_map seen o) (λ e. IsSome e.0.name × MayCopy (value_of m) P e.0) → IfSome o (λ e. IsSome e.0.name × MayImport m Q e.0)
may_copy_there m P Q w None h = tt
may_copy_there m P Q w (Some e) h = (name_there e.0.name h.0, may_copy m P Q w e.0 h.1)

-- what a caller may call can be called
may_callee : (m : Module) (fs : Functions) (n k : ℕ) → MayCall (value_of m) (meanings fs.names.entries) n k → IsCallable m fs n k
may_callee m fs zero k h = ap is_some (sym (callee_value m fs k)) ∙ h
may_callee m fs (suc n) k h =
    let P = MayCall (value_of m) (meanings fs.names.entries) n in
    let at = subst (λ (o : Option (FunctionValue × Span)). IfSome o (λ e. IsSome e.0.name × MayCopy (value_of m) P e.0)) (functions_at m k) in
    ⊎_elim (λ l. inl (ap is_some (sym (callee_value m fs k)) ∙ l)) (λ l. inr (may_copy_there m P (IsCallable m fs n) (may_callee m fs n) (slice_get m.functions k) (at l))) h

pub may_copy_all : (m : Module) (fs : Functions) (n : ℕ) (f : Function) → n ≡ length m.functions → MayCopy (value_of m) (MayCall (value_of m) (meanings fs.names.entries) (length (value_of m).functions)) (function_value f) → IsImportable m fs n f
may_copy_all m fs n f e h =
    let size = functions_length m ∙ sym e in
    subst (λ k. IsImportable m fs k f) size (may_copy m (MayCall (value_of m) (meanings fs.names.entries) (length (value_of m).functions)) (IsCallable m fs (length (value_of m).functions)) (may_callee m fs (length (value_of m).functions)) f h)

pub named_there : (f : Function) → IsSome (function_value f).name → IsSome f.name
named_there f h = name_there f.name h

pub may_call : (m : Module) (fs : Functions) (n k : ℕ) → n ≡ length m.functions → MayAsk (value_of m) (MayCall (value_of m) (meanings fs.names.entries) (length (value_of m).functions)) (Call k) → IsAnswerable m fs n (Call k)
may_call m fs n k e h =
    let size = functions_length m ∙ sym e in
    (subst (λ x. k < x) (functions_length m) h.0, subst (λ x. IsCallable m fs x k) size (may_callee m fs (length (value_of m).functions) k h.1))

-- the function that the name of one of the source's means
pub callee_means : (m : Module) (fs : Functions) (k h : ℕ) → callee_at fs.names m.functions k ≡ Some h → meant_at (meanings fs.names.entries) (slice_get (value_of m).functions k) ≡ Some h
callee_means m fs k h e = callee_value m fs k ∙ e

-- a body that may stand, by values
pub stands_value : (f : Function) → MayStand (kinds f.expressions) (callees f.expressions) (operand_links f.expressions) (initialisers f) (block_tokens f.body) → MayStand (kinds_in (function_value f)) (map callee (named_in (function_value f))) (value_links (function_value f).expressions) (initialisers_in (function_value f)) (block_tokens f.body)
stands_value f h =
    let v = function_value f in
    let es = f.expressions in
    let a = subst (λ ks. MayStand ks (callees es) (operand_links es) (initialisers f) (block_tokens f.body)) (sym (kinds_of_values es)) h in
    let b = subst (λ ns. MayStand (kinds_in v) (map callee ns) (operand_links es) (initialisers f) (block_tokens f.body)) (sym (named_of_values es)) a in
    let c = subst (λ ls. MayStand (kinds_in v) (map callee (named_in v)) ls (initialisers f) (block_tokens f.body)) (sym (links_of_values es)) b in
    subst (λ is. MayStand (kinds_in v) (map callee (named_in v)) (value_links v.expressions) is (block_tokens f.body)) (sym (inits_of_values f.local_variables)) c

found_value : (o : Option (Function × Span)) (e : FunctionValue × Span) → option_map (λ (x : Function × Span). (let p : FunctionValue × Span = (function_value x.0, x.1) in p)) o ≡ Some e → (x : Function × Span) × (o ≡ Some x) × (◌≡◌ {A = FunctionValue × Span} (function_value x.0, x.1) e)
found_value None e h = absurd (none-some e h)
found_value (Some x) e h = (x, refl, same_Some (function_value x.0, x.1) e h)

-- the function of a value at a place
pub function_at : (m : Module) (k : ℕ) (e : FunctionValue × Span) → slice_get (value_of m).functions k ≡ Some e → (x : Function × Span) × (slice_get m.functions k ≡ Some x) × (◌≡◌ {A = FunctionValue × Span} (function_value x.0, x.1) e)
unfolding value_of
function_at m k e h = found_value (slice_get m.functions k) e (sym (slice_get-map (λ (x : Function × Span). (let p : FunctionValue × Span = (function_value x.0, x.1) in p)) m.functions k) ∙ h)
