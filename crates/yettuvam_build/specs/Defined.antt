-- The definitions of a command line.
use Rattle.std.specs.Prelude.{ℕ, true, ◌==◌, if◌then◌else◌, nat_lt, List, [], ◌∷◌, length, slice_index, Option, Some, None, option_map, Result, Ok, Err}
use Rattle.std.specs.List.{before_first, after_first, position_or_len}
use Rattle.naga_oil_words.specs.Bytes.{plus_sign, is_equals}
use Rattle.naga_oil_conditions.specs.DefineValue.{defined_value}
use Rattle.naga_oil_conditions.specs.LineKinds.{is_name}
use Rattle.naga_oil_registry.specs.Merged.{with_def}
use Rattle.naga_oil_registry.specs.Registered.{Defs}
use Rattle.naga_oil_conditions.specs.declared.shader_def.ShaderDefValue.{ShaderDefValue}
use Rattle.naga_oil_conditions.specs.declared.shader_def.ShaderDefValue.TheVariants as def

-- the value in a word: that of a define, but without the sign `+`, and true for the empty text
abbrev pub given_value : List ℕ → Option ShaderDefValue
given_value text = if length text == 0 then Some (def.Bool true) else (if slice_index text 0 == plus_sign then None else defined_value (Some text))

-- the text before the first `=`, and the text after it, which is empty if there is none
abbrev pub parted : List ℕ → List ℕ × List ℕ
parted word = if nat_lt (position_or_len is_equals word) (length word) then (before_first is_equals word, after_first is_equals word) else (word, [])

abbrev pub definition_of_parts : List ℕ × List ℕ → Option (List ℕ × ShaderDefValue)
definition_of_parts p = if is_name p.0 then option_map (λ value. (p.0, value)) (given_value p.1) else None

-- the name in a word, where that is a name, and its value
abbrev pub definition_word : List ℕ → Option (List ℕ × ShaderDefValue)
definition_word word = definition_of_parts (parted word)

-- these definitions with those of words, the last with a name; or the first word that isn't a valid definition
abbrev pub defined_by : Defs → List (List ℕ) → Result Defs (List ℕ)
defined_by defs [] = Ok defs
defined_by defs (word ∷ more) = elim (definition_word word) [ None ↦ Err word | Some d ↦ defined_by (with_def defs d) more ]

-- the definitions of words
abbrev pub definitions_of : List (List ℕ) → Result Defs (List ℕ)
definitions_of words = defined_by [] words
