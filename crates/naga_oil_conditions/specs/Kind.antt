-- The kind of a line, by its text alone.
use Rattle.std.specs.Prelude.{ℕ, Bool, true, if◌then◌else◌, List, codes, Option, Some, None}
use Rattle.std.specs.Str.{chars}
use Rattle.naga_oil_words.specs.OptionSteps.{◌>>=◌}
use Rattle.naga_oil_conditions.specs.LineKinds as grammar

pub data Condition : Type 0 where
  -- the name is defined, or it is not
  defined : List ℕ → Condition
  undefined : List ℕ → Condition
  -- the comparison of the name's value with the value holds
  compares : (name operator value : List ℕ) → Condition
  -- a plain else
  otherwise : Condition

pub data LineKind : Type 0 where
  -- `#version`, known or not
  version : (known : Bool) → LineKind
  -- the condition of an arm, the first of its chain or, with `else`, a further one
  condition : (is_else : Bool) → Condition → LineKind
  endif : LineKind
  -- an import; in an active block it takes the lines up to its last brace
  imports : LineKind
  -- the module's import path
  import_path : (name : List ℕ) → LineKind
  -- a define, with or without a value
  define : (name : List ℕ) (value : Option (List ℕ)) → LineKind
  other : LineKind

infixr 20 ◌or_else◌
abbrev pub ◌or_else◌ : Option LineKind → LineKind → LineKind
(Some k) or_else next = k
None or_else next = next

-- the kind made of what was read, if anything was
abbrev pub read_as : {A : Type 0} → (A → LineKind) → Option A → Option LineKind
read_as f None = None
read_as f (Some groups) = Some (f groups)

-- the kind by the text after the `#`: the first that fits
unfoldable pub kind_after_hash : List ℕ → LineKind
kind_after_hash cs =
    read_as (λ r. condition r.0 (defined r.1)) (grammar.ifdef cs)
    or_else (read_as (λ r. condition r.0 (undefined r.1)) (grammar.ifndef cs)
    or_else (read_as (λ r. condition r.0 (compares r.1 r.2 r.3)) (grammar.if_condition cs)
    or_else (if grammar.has_keyword (codes "else") cs then condition true otherwise
    else (if grammar.has_keyword (codes "endif") cs then endif
    else (if grammar.has_import cs then imports
    else (read_as import_path (grammar.import_path cs)
    or_else (read_as (λ r. define r.0 r.1) (grammar.define cs)
    or_else other)))))))

-- the kind of a line where versions are not read
unfoldable pub unversioned_kind_of : List ℕ → LineKind
unversioned_kind_of line = read_as kind_after_hash (grammar.past_hash (chars line)) or_else other

-- the kind of a line: a version, or else one of the others
unfoldable pub kind_of : List ℕ → LineKind
kind_of line = read_as version (grammar.past_hash (chars line) >>= grammar.version) or_else unversioned_kind_of line
