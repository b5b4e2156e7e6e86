-- Uses of imported modules in the code's map.
use Rattle.std.proofs.Common.{◌≡◌, ℕ, true, false, cond, List, [], ◌∷◌, map, Some, None, Result, Ok, Err, OnOk, OnErr, String, Vec, string_bytes, bytes_eq, ap, subst, ◌∙◌}
use Rattle.std.specs.declared.alloc.Global.{Global}
use Rattle.std.specs.declared.alloc.AllocError.{AllocError}
use Rattle.std.specs.List.{AllZip}
use Rattle.std.specs.Map.{lookup, set_value}
use Rattle.std.specs.String.{string_eq}
use Rattle.indexmap.specs.IndexMap.{insert_entry}
use Rattle.naga_oil_lines.proofs.DirectiveLemmas.{texts_again}
use Rattle.naga_oil_imports.specs.declared.import_definition.ImportDefinition.{ImportDefinition}
use Rattle.naga_oil_imports.specs.declared.import_definition.ImportDefWithOffset.{ImportDefWithOffset}
use Rattle.naga_oil_imports.specs.Uses.{first_use, with_item, with_use, import_of, use_of, use_entry}

pub import_again : (d : ImportDefinition) (import : String Global) (items : Vec (String Global) Global) → string_bytes import ≡ string_bytes d.import
    → AllZip (λ x y. string_bytes y ≡ string_bytes x) d.items.items items.items → import_of (record { import = import; items = items }) ≡ import_of d
import_again d import items e h = (λ i. record { import = e i; items = texts_again d.items.items items.items h i })

-- a use of a module that is there
use_again : (name item : List ℕ) (place : ℕ) (es : List (String Global × ImportDefWithOffset)) (v w : ImportDefWithOffset) → lookup (λ k. bytes_eq name (string_bytes k)) es ≡ Some v
    → use_of w ≡ with_item (use_of v) item → map use_entry (set_value (λ k. bytes_eq name (string_bytes k)) es w) ≡ with_use (map use_entry es) name item place
use_again name item place [] v w f h = cc
use_again name item place (e ∷ es) v w f h =
    elim (bytes_eq name (string_bytes e.0)) as (λ b. cond b (Some e.1) (lookup (λ k. bytes_eq name (string_bytes k)) es) ≡ Some v
    → map use_entry (cond b ((e.0, w) ∷ es) (e ∷ set_value (λ k. bytes_eq name (string_bytes k)) es w))
    ≡ cond b ((string_bytes e.0, with_item (use_of e.1) item) ∷ map use_entry es) (use_entry e ∷ with_use (map use_entry es) name item place)) [
      | true ↦ λ g. (let same : v ≡ e.1 = cc in let now : use_of w ≡ with_item (use_of e.1) item = h ∙ ap (λ u. with_item (use_of u) item) same in ap (λ u. (string_bytes e.0, u) ∷ map use_entry es) now)
      | false ↦ λ g. ap (λ l. use_entry e ∷ l) (use_again name item place es v w g h)
    ] f

-- the values stay in a map whose value at a name is as it was
use_kept : (name : List ℕ) (es : List (String Global × ImportDefWithOffset)) (v w : ImportDefWithOffset) → lookup (λ k. bytes_eq name (string_bytes k)) es ≡ Some v
    → use_of w ≡ use_of v → map use_entry (set_value (λ k. bytes_eq name (string_bytes k)) es w) ≡ map use_entry es
use_kept name [] v w f h = cc
use_kept name (e ∷ es) v w f h =
    elim (bytes_eq name (string_bytes e.0)) as (λ b. cond b (Some e.1) (lookup (λ k. bytes_eq name (string_bytes k)) es) ≡ Some v
    → map use_entry (cond b ((e.0, w) ∷ es) (e ∷ set_value (λ k. bytes_eq name (string_bytes k)) es w)) ≡ use_entry e ∷ map use_entry es) [
      | true ↦ λ g. (let same : v ≡ e.1 = cc in let now : use_of w ≡ use_of e.1 = h ∙ ap use_of same in ap (λ u. (string_bytes e.0, u) ∷ map use_entry es) now)
      | false ↦ λ g. ap (λ l. use_entry e ∷ l) (use_kept name es v w g h)
    ] f

-- a use of a module that is not there yet
first_used : (key : String Global) (item : List ℕ) (place : ℕ) (es : List (String Global × ImportDefWithOffset)) (v : ImportDefWithOffset)
    → lookup (λ k. bytes_eq (string_bytes key) (string_bytes k)) es ≡ None → use_of v ≡ first_use (string_bytes key) item place
    → map use_entry (insert_entry string_eq es key v) ≡ with_use (map use_entry es) (string_bytes key) item place
first_used key item place [] v f h = ap (λ u. (string_bytes key, u) ∷ []) h
first_used key item place (e ∷ es) v f h =
    elim (bytes_eq (string_bytes key) (string_bytes e.0)) as (λ b. cond b (Some e.1) (lookup (λ k. bytes_eq (string_bytes key) (string_bytes k)) es) ≡ None
    → map use_entry (cond b ((e.0, v) ∷ es) (e ∷ insert_entry string_eq es key v))
    ≡ cond b ((string_bytes e.0, with_item (use_of e.1) item) ∷ map use_entry es) (use_entry e ∷ with_use (map use_entry es) (string_bytes key) item place)) [
      | true ↦ λ g. cc
      | false ↦ λ g. ap (λ l. use_entry e ∷ l) (first_used key item place es v g h)
    ] f

pub use_first : (key : String Global) (name item : List ℕ) (place : ℕ) (es : List (String Global × ImportDefWithOffset)) (v : ImportDefWithOffset) → string_bytes key ≡ name
    → lookup (λ k. bytes_eq name (string_bytes k)) es ≡ None → use_of v ≡ first_use name item place
    → map use_entry (insert_entry string_eq es key v) ≡ with_use (map use_entry es) name item place
use_first key name item place es v e =
    subst (λ n. lookup (λ k. bytes_eq n (string_bytes k)) es ≡ None → use_of v ≡ first_use n item place → map use_entry (insert_entry string_eq es key v) ≡ with_use (map use_entry es) n item place)
    e (first_used key item place es v)

-- an append at a module that is there, done or refused
pub use_pushed : (r : Result (Unit {0}) AllocError) (name item : List ℕ) (place : ℕ) (es new : List (String Global × ImportDefWithOffset)) (v w : ImportDefWithOffset)
    → lookup (λ k. bytes_eq name (string_bytes k)) es ≡ Some v → new ≡ set_value (λ k. bytes_eq name (string_bytes k)) es w
    → OnOk r (use_of w ≡ with_item (use_of v) item) → OnOk r (map use_entry new ≡ with_use (map use_entry es) name item place)
use_pushed (Ok u) name item place es new v w f e h = ap (map use_entry) e ∙ use_again name item place es v w f h
use_pushed (Err x) name item place es new v w f e h = tt

pub use_refused : (r : Result (Unit {0}) AllocError) (name : List ℕ) (es new : List (String Global × ImportDefWithOffset)) (v w : ImportDefWithOffset)
    → lookup (λ k. bytes_eq name (string_bytes k)) es ≡ Some v → new ≡ set_value (λ k. bytes_eq name (string_bytes k)) es w
    → OnErr r (use_of w ≡ use_of v) → OnErr r (map use_entry new ≡ map use_entry es)
use_refused (Ok u) name es new v w f e h = tt
use_refused (Err x) name es new v w f e h = ap (map use_entry) e ∙ use_kept name es v w f h
