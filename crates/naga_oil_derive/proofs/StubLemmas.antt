-- Functions that name only the types of their arguments and results.
use Rattle.std.proofs.Common.{◌≡◌, ℕ, zero, suc, List, [], ◌∷◌, ◌++◌, length, map, replicate, slice_get, Option, Some, None, IfSome, option_map, option_to_list, refl, sym, ap, ◌∙◌, All, String, Global}
use Rattle.std.specs.List.{flat_map}
use Rattle.std.specs.Option.{option_flatten}
use Rattle.std.proofs.lemmas.List.{append-nil}
use Rattle.std.proofs.lemmas.List.Elements.{All-cons, All-head, All-nil, All-tail}
use Rattle.naga_oil_ir.specs.Body.{Tokens, block_tokens}
use Rattle.naga_oil_ir.specs.ModuleValue.{ModuleValue, FunctionValue, ArgumentValue, LocalValue, function_value, local_value, expression_values}
use Rattle.naga_oil_ir.specs.Rows.{Text}
use Rattle.naga_oil_ir.specs.declared.expression.Expression.{Expression}
use Rattle.naga_oil_ir.specs.declared.module.Function.{Function}
use Rattle.naga_oil_ir.specs.declared.module.FunctionArgument.{FunctionArgument}
use Rattle.naga_oil_ir.specs.declared.module.FunctionResult.{FunctionResult}
use Rattle.naga_oil_ir.specs.declared.module.Module.{Module}
use Rattle.naga_oil_ir.specs.declared.names.ItemPlace.TheVariants.{TypeItem}
use Rattle.naga_oil_ir.specs.declared.span.Span.{Span}
use Rattle.naga_oil_ir.specs.declared.types.LocalVariable.{LocalVariable}
use Rattle.naga_oil_rename.specs.Renames.{Renames}
use Rattle.naga_oil_form.specs.BodyForm.{kinds, named_of, operand_links}
use Rattle.naga_oil_walk.specs.Naming.{IsStub, signature_names, local_names, token_names, function_names}
use Rattle.naga_oil_walk.specs.declared.walk.Request.{Request}
use Rattle.naga_oil_walk.specs.declared.walk.Request.TheVariants.{Item}
use Rattle.naga_oil_derive.specs.Answered.{ImportState, Caller, answer_one, answer_by, answer_all, import_callee}
use Rattle.naga_oil_derive.specs.Copied.{copy_all}
use Rattle.naga_oil_derive.specs.CopiedFunction.{copy_function, expressions_upto}
use Rattle.naga_oil_derive.specs.Copies.{Values}
use Rattle.naga_oil_derive.specs.Copying.{IsThere}
use Rattle.naga_oil_derive.specs.DerivedFunctions.{requests_of}
use Rattle.naga_oil_derive.specs.Functions.{argument_under, result_under, name_put, names_under, named_values}
use Rattle.naga_oil_derive.specs.Imported.{Asks}
use Rattle.naga_oil_derive.specs.Stubs.{argument_types, signature_types}
use Rattle.naga_oil_derive.proofs.FunctionValues.{requests_same}

-- ---- what they name

stub_names : (f : Function) → IsStub f → function_names f ≡ signature_names f
stub_names f is =
    let names : List Request = signature_names f in
    let of_local : LocalVariable × Span → List Request = local_names (named_of f.expressions) (operand_links f.expressions) in
    let of_token = token_names (kinds f.expressions) (named_of f.expressions) (operand_links f.expressions) in
    ap (λ (ls : List (LocalVariable × Span)). (names ++ flat_map of_local ls) ++ flat_map of_token (block_tokens f.body)) is.0 ∙ ap (λ (ts : Tokens). (names ++ []) ++ flat_map of_token ts) is.1 ∙ ap (λ (q : List Request). q ++ []) (append-nil names) ∙ append-nil names

all_front : (P : Request → Type 0) (xs ys : List Request) → All P (xs ++ ys) → All P xs
all_front P [] ys h = All-nil P
all_front P (x ∷ xs) ys h = All-cons P x xs (All-head P x (xs ++ ys) h) (all_front P xs ys (All-tail P x (xs ++ ys) h))

-- what holds of the types of a signature holds of those of its arguments and of its result
signature_parts : (P : Request → Type 0) (arguments : List FunctionArgument) (o : Option FunctionResult) → All P (map (λ a. Item (TypeItem a.ty)) arguments ++ option_to_list (option_map (λ r. Item (TypeItem r.ty)) o)) → All (λ a. P (Item (TypeItem a.ty))) arguments × IfSome o (λ r. P (Item (TypeItem r.ty)))
signature_parts P [] None h = (All-nil (λ (a : FunctionArgument). P (Item (TypeItem a.ty))), tt)
signature_parts P [] (Some r) h = (All-nil (λ (a : FunctionArgument). P (Item (TypeItem a.ty))), All-head P (Item (TypeItem r.ty)) [] h)
signature_parts P (a ∷ arguments) o h =
    let more = map (λ (b : FunctionArgument). Item (TypeItem b.ty)) arguments ++ option_to_list (option_map (λ (r : FunctionResult). Item (TypeItem r.ty)) o) in
    let rest = signature_parts P arguments o (All-tail P (Item (TypeItem a.ty)) more h) in
    (All-cons (λ (b : FunctionArgument). P (Item (TypeItem b.ty))) a arguments (All-head P (Item (TypeItem a.ty)) more h) rest.0, rest.1)

-- the types of a function that can be copied are there
pub signature_there : (source : Module) (P : ℕ → Type 0) (f : Function) → All (Asks source P) (function_names f) → All (λ a. IsThere source (TypeItem a.ty)) f.arguments.items × IfSome f.result (λ r. IsThere source (TypeItem r.ty))
signature_there source P f h =
    let ls = flat_map (local_names (named_of f.expressions) (operand_links f.expressions)) f.local_variables in
    let ts = flat_map (token_names (kinds f.expressions) (named_of f.expressions) (operand_links f.expressions)) (block_tokens f.body) in
    signature_parts (Asks source P) f.arguments.items f.result (all_front (Asks source P) (signature_names f) ls (all_front (Asks source P) (signature_names f ++ ls) ts h))

-- ---- what answering their requests makes

types_answered : (g : Caller) (m : ModuleValue) (shift : ℕ) (s : ImportState) (arguments : List FunctionArgument) (o : Option FunctionResult) → answer_by (answer_one g m shift) s (map (λ a. Item (TypeItem a.ty)) arguments ++ option_to_list (option_map (λ r. Item (TypeItem r.ty)) o)) ≡ record s { copying = copy_all m shift s.copying (argument_types arguments ++ option_to_list (option_map (λ r. Some (TypeItem r.ty)) o)) }
types_answered g m shift s [] None = refl
types_answered g m shift s [] (Some r) = refl
types_answered g m shift s (a ∷ arguments) o = types_answered g m shift (answer_one g m shift s (Item (TypeItem a.ty))) arguments o

-- the types of the signature are copied
pub stub_answered : (m : ModuleValue) (depth shift : ℕ) (s : ImportState) (f : Function) → IsStub f → answer_all depth m shift s (requests_of (function_value f)) ≡ record s { copying = copy_all m shift s.copying (signature_types f) }
stub_answered m depth shift s f is =
    ap (answer_all depth m shift s) (requests_same f ∙ stub_names f is) ∙ types_answered (import_callee depth m shift) m shift s f.arguments.items f.result

-- ---- their copies

-- no expression is copied
none_at : (n k : ℕ) → option_flatten (slice_get (replicate n (let o : Option ℕ = None in o)) k) ≡ None
none_at zero k = refl
none_at (suc n) zero = refl
none_at (suc n) (suc k) = none_at n k

nothing_named : (n : ℕ) (names : List (ℕ × List ℕ)) → names_under (replicate n None) [] names ≡ []
nothing_named n [] = refl
nothing_named n (e ∷ names) =
    ap (λ (o : Option ℕ). names_under (replicate n None) (name_put o e.1 []) names) (none_at n e.0) ∙ nothing_named n names

-- a signature alone
abbrev pub signature_of : Renames → FunctionValue → FunctionValue
signature_of r v = record { name = v.name; arguments = map (argument_under r) v.arguments; result = option_map (result_under r) v.result; local_variables = []; expressions = []; named_expressions = []; body = []; diagnostic_filter_leaf = None }

abbrev pub signature_with : Text → List ArgumentValue → Option FunctionResult → List (LocalValue × Span) → Values → List (ℕ × List ℕ) → Tokens → FunctionValue
signature_with n a o l e d b = record { name = n; arguments = a; result = o; local_variables = l; expressions = e; named_expressions = d; body = b; diagnostic_filter_leaf = None }

abbrev bare : FunctionValue → List (LocalValue × Span) → Tokens → FunctionValue
bare v ls ts = record v { local_variables = ls; body = ts }

bare_copied : (r : Renames) (v : FunctionValue) → copy_function r (bare v [] []) ≡ signature_of r v
unfolding copy_function expressions_upto
bare_copied r v = ap (λ (ns : List (ℕ × List ℕ)). record (signature_of r v) { named_expressions = ns }) (nothing_named (length v.expressions) v.named_expressions)

pub stub_copied : (r : Renames) (f : Function) → IsStub f → copy_function r (function_value f) ≡ signature_of r (function_value f)
stub_copied r f is =
    let v = function_value f in
    ap (λ (ls : List (LocalVariable × Span)). copy_function r (bare v (map (λ l. (local_value l.0, l.1)) ls) (block_tokens f.body))) is.0 ∙ ap (λ (ts : Tokens). copy_function r (bare v [] ts)) is.1 ∙ bare_copied r v

-- a copy of a signature is a copy of the function
pub signature_same : (r : Renames) (f : Function) (n : Text) (a : List ArgumentValue) (o : Option FunctionResult) (ls : List (LocalVariable × Span)) (es : List (Expression × Span)) (ns : List (ℕ × String Global)) (b : Tokens) → IsStub f → n ≡ (function_value f).name → a ≡ map (argument_under r) (function_value f).arguments → o ≡ option_map (result_under r) f.result → ls ≡ [] → es ≡ [] → ns ≡ [] → b ≡ [] → signature_with n a o (map (λ l. (local_value l.0, l.1)) ls) (expression_values es) (named_values ns) b ≡ copy_function r (function_value f)
signature_same r f n a o ls es ns b is name arguments outcome locals expressions named body =
    let v = signature_of r (function_value f) in
    let l = map (λ (x : LocalVariable × Span). (let y : LocalValue × Span = (local_value x.0, x.1) in y)) ls in
    let e = expression_values es in
    let d = named_values ns in
    ap (λ x. signature_with x a o l e d b) name ∙ ap (λ x. signature_with v.name x o l e d b) arguments ∙ ap (λ x. signature_with v.name v.arguments x l e d b) outcome
    ∙ ap (λ (x : List (LocalVariable × Span)). signature_with v.name v.arguments v.result (map (λ y. (local_value y.0, y.1)) x) e d b) locals
    ∙ ap (λ (x : List (Expression × Span)). signature_with v.name v.arguments v.result [] (expression_values x) d b) expressions
    ∙ ap (λ (x : List (ℕ × String Global)). signature_with v.name v.arguments v.result [] [] (named_values x) b) named
    ∙ ap (signature_with v.name v.arguments v.result [] [] []) body
    ∙ sym (stub_copied r f is)
