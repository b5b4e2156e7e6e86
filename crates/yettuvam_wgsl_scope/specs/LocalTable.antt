-- The declarations in scope, found by their names.
use Rattle.std.specs.Prelude.{◌≡◌, ℕ, nat_lt, if◌then◌else◌, List, [], ◌∷◌, length, map, reverse, Option, Some, None, slice_get, bytes_eq}
use Rattle.std.specs.Borrow.{Bor}
use Rattle.std.specs.HashMap.{HashMap, get_by}
use Rattle.std.specs.Option.{option_and_then}
use Rattle.yettuvam_wgsl_words.specs.Class.{Text}
use Rattle.yettuvam_wgsl_scope.specs.declared.locals.Entry.{Entry}
use Rattle.yettuvam_wgsl_scope.specs.declared.locals.Local.{Local as LocalOfCode}

-- the place of the newest of texts that equals q; the texts are given from the newest to the oldest
abbrev pub newest_place : Text → List Text → Option ℕ
newest_place q [] = None
newest_place q (n ∷ older) = if bytes_eq n q then Some (length older) else newest_place q older

abbrev pub name_in : Entry → Text
name_in e = e.local.name.text.now

-- the names of declarations
abbrev pub names_in : List Entry → List Text
names_in es = map name_in es

-- the declarations, from the newest to the oldest, and their names
abbrev pub newest_first : List LocalOfCode → List Text
newest_first ls = reverse (map (λ l. l.name.text.now) ls)

abbrev pub locals_in : List Entry → List LocalOfCode
locals_in es = map (λ e. e.local) es

-- the place that a map has for a name
abbrev pub place_in : {S : Type 0} → HashMap (Bor (List ℕ)) (Option ℕ) S → Text → Option ℕ
place_in m q = option_and_then (λ p. p) (get_by (λ k. bytes_eq q k.now) m)

-- each declaration, from the newest to the oldest, has the place of the one before it that has its name
abbrev pub HaveBefores : List Entry → Type 0
HaveBefores [] = Unit {0}
HaveBefores (e ∷ older) = (e.before ≡ newest_place (name_in e) (names_in older)) × HaveBefores older

-- a map has the newest place of each name
pub record IsTable {S : Type 0} (es : List Entry) (m : HashMap (Bor (List ℕ)) (Option ℕ) S) : Type 0 where
  pub newest : (q : Text) → place_in m q ≡ newest_place q (names_in (reverse es))
  pub befores : HaveBefores (reverse es)

-- the declaration at a place, if that isn't before the first that count
abbrev pub chosen : {X : Type 0} → ℕ → List X → Option ℕ → Option X
chosen first xs None = None
chosen first xs (Some k) = if nat_lt k first then None else slice_get xs k
