-- Functions by their names.
use Rattle.std.specs.Prelude.{ℕ, List, Option, Some, None, slice_get, String, string_bytes, bytes_eq}
use Rattle.std.specs.Cow.{cow_str_bytes}
use Rattle.std.specs.Global.{Global}
use Rattle.std.specs.declared.borrow.CowStr.{CowStr}
use Rattle.indexmap.specs.IndexMap.{IndexMap, get_by}
use Rattle.naga_oil_ir.specs.declared.module.Function.{Function}
use Rattle.naga_oil_ir.specs.declared.span.Span.{Span}

-- the function that a name means
abbrev pub known_as : {S : Type 0} → IndexMap (CowStr Global) ℕ S → Option (String Global) → Option ℕ
known_as m None = None
known_as m (Some n) = get_by (λ k. bytes_eq (string_bytes n) (cow_str_bytes k)) m

-- the function that the name of the function of fs at a place means
abbrev pub known_at : {S : Type 0} → IndexMap (CowStr Global) ℕ S → Option (Function × Span) → Option ℕ
known_at m None = None
known_at m (Some e) = known_as m e.0.name

abbrev pub callee_at : {S : Type 0} → IndexMap (CowStr Global) ℕ S → List (Function × Span) → ℕ → Option ℕ
callee_at m fs h = known_at m (slice_get fs h)
