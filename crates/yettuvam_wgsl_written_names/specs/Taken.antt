-- The names that are taken, and free names.
use Rattle.std.specs.Prelude.{◌≡◌, ℕ, zero, suc, ◌+◌, ◌==◌, ◌&&◌, ◌||◌, not, nat_le, if◌then◌else◌, Bool, true, false, List, [], ◌∷◌, ◌++◌, map, length, Option, Some, None, is_some, String, string_bytes, codes}
use Rattle.std.specs.Fmt.{decimal}
use Rattle.std.specs.Map.{lookup}
use Rattle.std.specs.Str.{bytes_eq}
use Rattle.std.specs.HashMap.{HashMap}
use Rattle.std.specs.declared.alloc.Global.{Global}
use Rattle.indexmap.specs.IndexMap.{insert_entry}
use Rattle.yettuvam_wgsl_names.specs.Table.{Name}
use Rattle.yettuvam_wgsl_written_names.specs.Language.{is_in_language, is_built_in_function, language_count}
use Rattle.yettuvam_wgsl_written_names.specs.Spelled.{is_name}
use Rattle.yettuvam_wgsl_written_names.specs.declared.taken.Taken.{Taken as TakenByCode}
use denote.Ref.{Bor}

-- names in the order in which they were taken, each with the first number that may make another name of it
abbrev pub Numbers : Type 0
Numbers = List (Name × ℕ)

-- the names of a module, and those that are taken inside of a function; without a function, `outer` has none. The words of the
-- language are always taken besides
pub record Taken : Type 0 where
  pub outer : Numbers
  pub own : Numbers

-- ---- what the code holds

abbrev pub numbers_of : {S : Type 0} → HashMap (String Global) ℕ S → Numbers
numbers_of m = map (λ e. (string_bytes e.0, e.1)) m.entries

abbrev pub outer_of : {S : Type 0} → Option (Bor (HashMap (String Global) ℕ S)) → Numbers
outer_of None = []
outer_of (Some m) = numbers_of m.now

abbrev pub taken_of : TakenByCode → Taken
taken_of t = record { outer = outer_of t.outer; own = numbers_of t.numbers }

-- ---- names and numbers

abbrev pub number_of : Numbers → Name → Option ℕ
number_of ns n = lookup (bytes_eq n) ns

abbrev pub is_among : Numbers → Name → Bool
is_among ns n = is_some (number_of ns n)

-- a name that is there keeps its place and takes the number; any other goes last
abbrev pub with_number : Numbers → Name → ℕ → Numbers
with_number ns n number = insert_entry bytes_eq ns n number

-- the first number of a name that another name is made of
abbrev pub first_number : ℕ
first_number = 1

-- ---- taken names

-- no names are taken but the words of the language
abbrev pub none_taken : Taken
none_taken = record { outer = []; own = [] }

-- the names that are taken inside of a function before any of its own
abbrev pub inside : Taken → Taken
inside t = record { outer = t.own; own = [] }

abbrev pub has : Taken → Name → Bool
has t n = is_among t.outer n || (is_among t.own n || is_in_language n)

-- a name is taken; one that is taken in the function keeps its number
abbrev pub take : Taken → Name → Taken
take t n = if is_among t.own n then t else record { outer = t.outer; own = with_number t.own n first_number }

-- the name is that of a built-in function, which no local has
abbrev pub is_built_in : Taken → Name → Bool
is_built_in t n = is_built_in_function n && not (is_among t.own n)

-- ---- made names

-- a name with a number: `base_7`
abbrev pub numbered : Name → ℕ → Name
numbered base number = base ++ codes "_" ++ decimal number

-- the greatest number from which a free one is looked for, so that none is too great for 64 bits
abbrev pub greatest_start : ℕ
greatest_start = 4611686018427387904

abbrev pub start_by : Option ℕ → ℕ
start_by None = first_number
start_by (Some number) = if nat_le number greatest_start then number else first_number

-- the number from which a free one is looked for
abbrev pub start_of : Taken → Name → ℕ
start_of t base = start_by (number_of t.own base)

-- how many names are taken
abbrev pub count_of : Taken → ℕ
count_of t = language_count + (length t.outer + length t.own)

-- the first number from n on that makes a free name, among so many; after these, the next
unfoldable pub free_from : (is_taken : Name → Bool) → (base : Name) → (tries n : ℕ) → ℕ
free_from is_taken base zero n = n
free_from is_taken base (suc tries) n = if is_taken (numbered base n) then free_from is_taken base tries (n + 1) else n

-- the number that makes a free name. One of the first `count_of t` numbers does, or the next after them: no more names are taken
abbrev pub free_number : Taken → Name → ℕ
free_number t base = free_from (has t) base (count_of t) (start_of t base)

-- a name, and the names that are taken with it
pub record Made : Type 0 where
  pub name : Name
  pub taken : Taken

abbrev pub numbered_by : Taken → Name → ℕ → Made
numbered_by t base number = record { name = numbered base number; taken = record { outer = t.outer; own = with_number t.own base (number + 1) } }

-- a free name with a number; the next number is kept for the base
abbrev pub make_numbered : Taken → Name → Made
make_numbered t base = numbered_by t base (free_number t base)

abbrev pub taking : Made → Made
taking m = record { name = m.name; taken = take m.taken m.name }

-- a free name is taken: this one, or one with a number
abbrev pub fresh : Taken → Name → Made
fresh t n = taking (if has t n then make_numbered t n else record { name = n; taken = t })

-- the name of a built-in function is taken, which the local hides
abbrev pub hidden : Taken → Name → Made
hidden t n = record { name = n; taken = take t n }

abbrev pub hidden_or : Bool → Taken → Name → Name → Made
hidden_or true t n other = hidden t n
hidden_or false t n other = if is_name n then fresh t n else fresh t other

-- a free name for a local or a value that has a name or none; a built-in function may be hidden
abbrev pub fresh_for : Taken → Option Name → (other : Name) → (may_hide : Bool) → Made
fresh_for t None other may_hide = fresh t other
fresh_for t (Some n) other may_hide = hidden_or (may_hide && is_built_in t n) t n other
