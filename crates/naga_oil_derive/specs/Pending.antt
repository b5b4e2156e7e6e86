-- Functions that wait until what they name is copied.
use Rattle.std.specs.Prelude.{ℕ, zero, suc, ◌≡◌, ◌+◌, ◌≤◌, List, [], ◌∷◌, drop, slice_get, Option, Some, None, IsSome}
use Rattle.std.specs.List.{sum_by}
use Rattle.naga_oil_ir.specs.Body.{block_tokens}
use Rattle.naga_oil_form.specs.BodyForm.{kinds, callees, operand_links, MayStand}
use Rattle.naga_oil_form.specs.WellFormed.{initialisers}
use Rattle.naga_oil_ir.specs.ModuleValue.{ModuleValue, FunctionValue, function_value}
use Rattle.naga_oil_ir.specs.declared.module.Module.{Module}
use Rattle.naga_oil_ir.specs.declared.module.Function.{Function}
use Rattle.naga_oil_ir.specs.declared.span.Span.{Span}
use Rattle.naga_oil_walk.specs.Walks.{Walks}
use Rattle.naga_oil_walk.specs.declared.walk.Request.{Request}
use Rattle.naga_oil_walk.specs.declared.walk.Request.TheVariants.{Item, Call}
use Rattle.naga_oil_derive.specs.World.{value_of}
use Rattle.naga_oil_derive.specs.Answered.{ImportState, answer_all, with_function, import_callee}
use Rattle.naga_oil_derive.specs.DerivedFunctions.{requests_of}
use Rattle.naga_oil_derive.specs.Imported.{IsAnswerable, IsImportable}
use Rattle.naga_oil_derive.specs.declared.import.Functions.{Functions}
use Rattle.naga_oil_derive.specs.declared.import.Pending.{Pending}

-- a function passes the test of form, apart from its calls
abbrev pub MayWalk : Function → Type 0
MayWalk f =
    MayStand (kinds f.expressions) (callees f.expressions) (operand_links f.expressions)
    (initialisers f) (block_tokens f.body)

-- f is pending with its walk, and nothing is answered
pub record IsNew (f : Function) (s : Span) (n : ℕ) (p : Pending) : Type 0 where
  pub function : p.function.now ≡ f
  pub span : p.span ≡ s
  pub depth : p.depth ≡ n
  pub walks : Walks f p.walk
  pub answered : p.answered ≡ 0

-- a pending function has a name and can be copied
pub record IsPending (source : Module) (fs : Functions) (p : Pending) : Type 0 where
  pub walks : Walks p.function.now p.walk
  pub form : IsImportable source fs p.depth p.function.now
  pub named : IsSome p.function.now.name

-- ---- how pending functions are copied

-- the requests that are left
abbrev pub left_requests : Pending → List Request
left_requests p = drop p.answered p.walk.requests.items

-- the requests left are answered, and then a copy is appended
abbrev pub complete : ModuleValue → ℕ → ImportState → Pending → ImportState
complete m shift s p =
    with_function m shift (answer_all p.depth m shift s (left_requests p))
    (function_value p.function.now) p.span

-- all pending functions are copied, the last one first
abbrev pub complete_all : ModuleValue → ℕ → ImportState → List Pending → ImportState
complete_all m shift s [] = s
complete_all m shift s (p ∷ ps) = complete m shift (complete_all m shift s ps) p

-- ---- an upper bound of the steps

-- to answer a request, where a call of the function at k takes f k steps
abbrev pub steps_of_request : (ℕ → ℕ) → Request → ℕ
steps_of_request f (Item p) = 1
steps_of_request f (Call k) = f k

-- to call what stands in a source, where its calls take f k steps
abbrev pub steps_of_function : (ℕ → ℕ) → Option (FunctionValue × Span) → ℕ
steps_of_function f None = 1
steps_of_function f (Some e) = 2 + sum_by (steps_of_request f) (requests_of e.0)

-- to call the function at a place, where calls nest less than n levels
unfoldable pub call_steps : ℕ → ModuleValue → ℕ → ℕ
call_steps zero m k = 1
call_steps (suc n) m k = steps_of_function (call_steps n m) (slice_get m.functions k)

-- to copy a pending function
abbrev pub pending_steps : ModuleValue → Pending → ℕ
pending_steps m p = 1 + sum_by (steps_of_request (call_steps p.depth m)) (left_requests p)

-- ---- how far requests are answered

-- the requests of p before a call are answered, from a state s to t, and the call of the function at k can be made; q is p after
-- the call
pub record IsAnsweredTo
    (source : Module) (fs : Functions) (shift : ℕ) (s : ImportState) (p : Pending)
    (t : ImportState) (q : Pending) (k : ℕ) : Type 0 where
  pub answerable : IsAnswerable source fs q.depth (Call k)
  pub value :
      complete (value_of source) shift (import_callee q.depth (value_of source) shift t k) q ≡
      complete (value_of source) shift s p
  pub fewer : pending_steps (value_of source) q + call_steps q.depth (value_of source) k ≤ pending_steps (value_of source) p

-- requests are answered up to a call, if one is given; otherwise all are, and a copy is to be appended
abbrev pub IsAnswered : Module → Functions → ℕ → ImportState → Pending → ImportState → Pending → Option ℕ → Type 0
IsAnswered source fs shift s p t q None =
    with_function (value_of source) shift t (function_value q.function.now) q.span ≡
    complete (value_of source) shift s p
IsAnswered source fs shift s p t q (Some k) = IsAnsweredTo source fs shift s p t q k
