-- The functions that a link or a build reaches, each once, in the order of first reach.
use Rattle.std.specs.Prelude.{ℕ, zero, suc, ◌*◌, Bool, true, false, ◌&&◌, ◌||◌, List, [], ◌∷◌, ◌++◌, fold, map, length, reverse, Option, Some, None, slice_get, bytes_eq, if◌then◌else◌}
use Rattle.std.specs.List.{flat_map, filter, list_any}
use Rattle.naga_oil_ir.specs.Body.{Tokens}
use Rattle.naga_oil_ir.specs.ModuleValue.{ModuleValue, FunctionValue, EntryValue}
use Rattle.naga_oil_ir.specs.Rows.{Text}
use Rattle.naga_oil_ir.specs.Spans.{span_stride}
use Rattle.naga_oil_ir.specs.declared.span.Span.{Span}
use Rattle.naga_oil_words.specs.Texts.{is_among}
use Rattle.naga_oil_imports.specs.Uses.{Import}
use Rattle.naga_oil_redirect.specs.Ordered.{callees_of}
use Rattle.naga_oil_link.specs.BuiltModule.{BuiltModule, Builds}

-- a function of a module, with the offset that the spans of its copy have
pub record Reached : Type 0 where
  pub source : ModuleValue
  pub offset : ℕ
  pub function : FunctionValue × Span

abbrev pub from : ModuleValue → (offset : ℕ) → FunctionValue × Span → Reached
from m offset f = record { source = m; offset = offset; function = f }

-- whether there is a name, and it is this one
abbrev pub is_named : List ℕ → Text → Bool
is_named n None = false
is_named n (Some t) = bytes_eq n t

-- whether one of some functions has a name; no function has no name
abbrev pub has_name : List Reached → Text → Bool
has_name rs None = false
has_name rs (Some n) = list_any (λ r. is_named n r.function.0.name) rs

-- ---- a function after what it calls

-- functions with those that the function at a place reaches
abbrev pub Follow : Type 0
Follow = List Reached → ℕ → List Reached

-- functions with one more, if none has its name: first what its body calls, by f, and then itself
abbrev pub follow_new : Follow → List Reached → Reached → List Reached
follow_new f rs r = if has_name rs r.function.0.name then rs else fold f rs (callees_of r.function.0.body) ++ r ∷ []

abbrev pub follow_by : Follow → ModuleValue → (offset : ℕ) → List Reached → Option (FunctionValue × Span) → List Reached
follow_by f m offset rs None = rs
follow_by f m offset rs (Some e) = follow_new f rs (from m offset e)

-- the same for the function at a place of a module; n is more than the depth of its calls
unfoldable pub follow : ℕ → ModuleValue → (offset : ℕ) → Follow
follow zero m offset rs k = rs
follow (suc n) m offset rs k = follow_by (follow n m offset) m offset rs (slice_get m.functions k)

-- functions with those that a body of a module calls
abbrev pub follow_calls : ModuleValue → (offset : ℕ) → List Reached → Tokens → List Reached
follow_calls m offset rs body = fold (follow (length m.functions) m offset) rs (callees_of body)

-- functions with one more, and before it those that it calls, each if none before has its name
abbrev pub reach : List Reached → Reached → List Reached
reach rs r = follow_new (follow (length r.source.functions) r.source r.offset) rs r

-- what functions reach, each once, in the order of first reach
abbrev pub first_reached : List Reached → List Reached
first_reached rs = fold reach [] rs

-- functions with those that the entry points of a module call
abbrev pub with_called : ModuleValue → List Reached → List Reached
with_called m rs = fold (λ rs (v : EntryValue). follow_calls m 0 rs v.function.body) rs m.entry_points

-- ---- what is requested

-- whether there is a name, and it passes a test
abbrev pub is_named_so : (List ℕ → Bool) → Text → Bool
is_named_so test None = false
is_named_so test (Some n) = test n

-- the functions of a build whose names are requested, of those that it owns, in the order of its module
abbrev pub requested_of : (requests : List ℕ → Bool) → BuiltModule → List Reached
requested_of requests b = map (from b.value (b.index * span_stride)) (filter (λ f. is_named_so (λ n. requests n && is_among b.functions n) f.0.name) b.value.functions)

-- an import requests of a build the items that it names, whose names end with the build's decoration, and the functions that
-- override others
abbrev pub import_names : Import → BuiltModule → List ℕ → Bool
import_names i b n = list_any (λ item. bytes_eq n (item ++ b.decoration)) i.items || list_any (λ o. is_among o.1 n) b.overriding

-- a shader's build requests all of its own
abbrev pub all_names : List ℕ → Bool
all_names n = true

-- what an import requests from builds, the newest first: what the imports of the build with its name request from the builds before
-- it, and then what it requests of that build
unfoldable pub import_requests : Builds → Import → List Reached
import_requests [] i = []
import_requests (e ∷ earlier) i = if bytes_eq i.import e.0 then flat_map (import_requests earlier) e.1.imports ++ requested_of (import_names i e.1) e.1 else import_requests earlier i

-- what a shader's build requests from builds: what its imports request, one after another, and then its own functions
abbrev pub link_requests : Builds → BuiltModule → List Reached
link_requests bs b = flat_map (import_requests (reverse bs)) b.imports ++ requested_of all_names b

-- what a build requests of a module: the functions with these names
abbrev pub held_requests : ModuleValue → (names : List (List ℕ)) → List Reached
held_requests m names = map (from m 0) (filter (λ f. is_named_so (is_among names) f.0.name) m.functions)
