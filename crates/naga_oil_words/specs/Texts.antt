-- Lists of texts, and sets of texts in byte order.
use Rattle.std.specs.Prelude.{ℕ, Bool, List, [], map, fold, bytes_eq, String, string_bytes}
use Rattle.std.specs.BTreeSet.{insert_key}
use Rattle.std.specs.Cmp.Lexicographic.{slice_cmp}
use Rattle.std.specs.List.{list_any}
use Rattle.std.specs.Ordering.{nat_cmp}
use Rattle.std.specs.declared.alloc.Global.{Global}

-- the texts of strings
abbrev pub texts : List (String Global) → List (List ℕ)
texts ss = map (λ s. string_bytes s) ss

-- whether a name is one of these
abbrev pub is_among : List (List ℕ) → List ℕ → Bool
is_among names name = list_any (bytes_eq name) names

-- the names with one more, at its place in byte order unless it is there
abbrev pub with_name : List (List ℕ) → List ℕ → List (List ℕ)
with_name names name = insert_key (slice_cmp nat_cmp) names name

-- the names, each once, in byte order
unfoldable pub in_order : List (List ℕ) → List (List ℕ)
in_order names = fold with_name [] names
