-- Which functions can be copied.
use Rattle.std.specs.Prelude.{ℕ, zero, suc, ◌<◌, ◌⊎◌, List, length, map, slice_get, IsSome, IfSome, All}
use Rattle.std.specs.Cow.{cow_str_bytes}
use Rattle.std.specs.Global.{Global}
use Rattle.std.specs.declared.borrow.CowStr.{CowStr}
use Rattle.naga_oil_ir.specs.Body.{block_tokens}
use Rattle.naga_oil_form.specs.BodyForm.{kinds, callees, operand_links, MayStand}
use Rattle.naga_oil_form.specs.WellFormed.{initialisers}
use Rattle.naga_oil_ir.specs.declared.module.Module.{Module}
use Rattle.naga_oil_ir.specs.declared.module.Function.{Function}
use Rattle.naga_oil_derive.specs.Copying.{IsThere}
use Rattle.naga_oil_derive.specs.Callees.{callee_at}
use Rattle.naga_oil_walk.specs.Naming.{function_names}
use Rattle.naga_oil_derive.specs.declared.import.Functions.{Functions}
use Rattle.naga_oil_walk.specs.declared.walk.Request.{Request}
use Rattle.naga_oil_walk.specs.declared.walk.Request.TheVariants.{Item, Call}

-- ---- what can be copied

-- a request is for an item that is there, or for a function that is there and passes a test
abbrev pub Asks : Module → (ℕ → Type 0) → Request → Type 0
Asks source P (Item p) = IsThere source p
Asks source P (Call f) = (f < length source.functions) × P f

-- a function passes the test of form, except that its calls may be of any functions that pass a test
pub record MayImport (source : Module) (P : ℕ → Type 0) (f : Function) : Type 0 where
  pub form :
      MayStand (kinds f.expressions) (callees f.expressions) (operand_links f.expressions)
      (initialisers f) (block_tokens f.body)
  pub requests : All (Asks source P) (function_names f)

-- a function of a source can be called: its name is known, or it has a name and can be copied, where calls of functions whose
-- names aren't known nest at most n levels
abbrev pub IsCallable : Module → Functions → ℕ → ℕ → Type 0
IsCallable source fs zero f = IsSome (callee_at fs.names source.functions f)
IsCallable source fs (suc n) f =
    IsSome (callee_at fs.names source.functions f) ⊎
    IfSome (slice_get source.functions f)
    (λ e. IsSome e.0.name × MayImport source (IsCallable source fs n) e.0)

-- a request can be answered, and a function copied, where such calls nest at most n levels
abbrev pub IsAnswerable : Module → Functions → ℕ → Request → Type 0
IsAnswerable source fs n r = Asks source (IsCallable source fs n) r

abbrev pub IsImportable : Module → Functions → ℕ → Function → Type 0
IsImportable source fs n f = MayImport source (IsCallable source fs n) f

-- ---- names

-- names with what they mean
abbrev pub meanings : List (CowStr Global × ℕ) → List (List ℕ × ℕ)
meanings es = map (λ e. (cow_str_bytes e.0, e.1)) es
