-- Maps of import paths and places, seen by the bytes of the paths.
use Rattle.std.proofs.Common.{◌≡◌, ℕ, Bool, true, false, cond, List, [], ◌∷◌, map, Option, Some, refl, ap, String, string_bytes}
use Rattle.std.specs.HashMap.{HashMap, get_by_text}
use Rattle.std.specs.Map.{lookup}
use Rattle.std.specs.Str.{bytes_eq}
use Rattle.std.specs.String.{string_eq}
use Rattle.std.specs.declared.alloc.Global.{Global}
use Rattle.indexmap.specs.IndexMap.{insert_entry}
use Rattle.yettuvam_files.specs.Files.{Places, place_of, places_of, with_place}

abbrev pub seen : List (String Global × ℕ) → Places
seen es = map (λ e. (string_bytes e.0, e.1)) es

looked_up : (es : List (String Global × ℕ)) (n : List ℕ) → lookup (bytes_eq n) (seen es) ≡ lookup (λ k. bytes_eq n (string_bytes k)) es
looked_up [] n = refl
looked_up (e ∷ es) n = ap (cond (bytes_eq n (string_bytes e.0)) (Some e.1)) (looked_up es n)

pub place_is : {S : Type 0} (m : HashMap (String Global) ℕ S) (n : List ℕ) → place_of (places_of m) n ≡ get_by_text m n
place_is m n = looked_up m.entries n

pub inserted : (es : List (String Global × ℕ)) (k : String Global) (v : ℕ) → seen (insert_entry string_eq es k v) ≡ with_place (seen es) (string_bytes k) v
inserted [] k v = refl
inserted (e ∷ es) k v = by (string_eq k e.0) (inserted es k v)
  where
    by : (b : Bool) → seen (insert_entry string_eq es k v) ≡ with_place (seen es) (string_bytes k) v → seen (cond b ((e.0, v) ∷ es) (e ∷ insert_entry string_eq es k v)) ≡ cond b ((string_bytes e.0, v) ∷ seen es) ((string_bytes e.0, e.1) ∷ with_place (seen es) (string_bytes k) v)
    by true h = refl
    by false h = ap (λ l. (string_bytes e.0, e.1) ∷ l) h
