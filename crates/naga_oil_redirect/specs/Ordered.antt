-- The order of functions in which each stands after what it calls.
use Rattle.std.specs.Prelude.{ℕ, List, [], ◌∷◌, map, codes, Option, Some, None, option_map, unwrap_or, slice_get, Result, Ok, Err}
use Rattle.std.specs.List.{filter_map, join_by}
use Rattle.std.specs.Option.{option_flatten}
use Rattle.naga_oil_ir.specs.Body.{Tokens}
use Rattle.naga_oil_form.specs.Links.{Links}
use Rattle.naga_oil_form.specs.NameForm.{Name}
use Rattle.naga_oil_ir.specs.ModuleValue.{FunctionValue}
use Rattle.naga_oil_ir.specs.declared.span.Span.{Span}
use Rattle.naga_oil_ir.specs.declared.tokens.Token.{Token}
use Rattle.naga_oil_ir.specs.declared.tokens.Token.TheVariants.{Callee}
use Rattle.naga_oil_redirect.specs.Level.{levels, without_level, by_level}
use Rattle.naga_oil_ir.specs.RedirectFault.{RedirectFault, circular_reference}

abbrev pub callee_of : Token → Option ℕ
callee_of (Callee f) = Some f
callee_of _ = None

-- what a body calls, in order
abbrev pub callees_of : Tokens → List ℕ
callees_of ts = filter_map callee_of ts

-- what each function calls
abbrev pub calls_of : List (FunctionValue × Span) → Links
calls_of fs = map (λ f. callees_of f.0.body) fs

-- the name of the function at a place
abbrev pub function_name_at : List (FunctionValue × Span) → ℕ → Name
function_name_at fs k = unwrap_or (option_flatten (option_map (λ f. f.0.name) (slice_get fs k))) []

-- the names of functions at some places
abbrev pub names_at : List (FunctionValue × Span) → List ℕ → Name
names_at fs ks = join_by (function_name_at fs) (codes ", ") ks

-- the order by levels, if each function has one
abbrev pub ordering : List (FunctionValue × Span) → List (Option ℕ) → List ℕ → Result (List ℕ) RedirectFault
ordering fs ls [] = Ok (by_level ls)
ordering fs ls (k ∷ ks) = Err (circular_reference (names_at fs (k ∷ ks)))

-- the functions by level, then by place; the names of those without a level, if there are any
abbrev pub ordered : List (FunctionValue × Span) → Result (List ℕ) RedirectFault
ordered fs = ordering fs (levels (calls_of fs)) (without_level (levels (calls_of fs)))
