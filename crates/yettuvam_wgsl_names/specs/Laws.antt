-- What holds of the tables: reading a name and spelling its code are inverse, no two names are alike, and words are no names.
use Rattle.std.specs.Prelude.{◌≡◌, ◌↔◌, ℕ, true, List, Some, None}
use Rattle.yettuvam_wgsl_names.specs.Table.{Name, is_ordered, meaning}
use Rattle.yettuvam_wgsl_names.specs.Codes.{name_of, code_of}
use Rattle.yettuvam_wgsl_names.specs.Names.{predeclared_rows}
use Rattle.yettuvam_wgsl_names.specs.Words.{word_rows, keyword_rows}
use Rattle.yettuvam_wgsl_names.specs.Spelled.{spelled}
use Rattle.yettuvam_wgsl_names.specs.declared.names.Predeclared.{Predeclared}
use Rattle.yettuvam_wgsl_names.specs.declared.words.Word.{Word}
use Rattle.yettuvam_wgsl_names.specs.declared.words.Word.TheVariants.{Keyword}
use Rattle.yettuvam_wgsl_names.specs.Context.{built_in_value_rows, interpolation_type_rows, sampling_rows, attribute_rows, severity_rows, unary_operator_rows, binary_operator_rows}

-- a predeclared name means a thing just if it is the thing's name
abbrev pub PredeclaredLaw : Type 0
PredeclaredLaw = (n : Name) (v : Predeclared) → (meaning predeclared_rows n ≡ Some v) ↔ (spelled v ≡ Some n)

-- a text is a keyword just if it is the keyword's text
abbrev pub KeywordLaw : Type 0
KeywordLaw = (n : Name) (c : ℕ) → (meaning word_rows n ≡ Some (Keyword c)) ↔ (name_of keyword_rows c ≡ Some n)

-- a name has a code just if it is the code's name
abbrev pub IsInverse : List (ℕ × Name) → Type 0
IsInverse es = (n : Name) (c : ℕ) → (code_of es n ≡ Some c) ↔ (name_of es c ≡ Some n)

-- the names in attributes
pub record ContextLaw : Type 0 where
  pub built_in_values : IsInverse built_in_value_rows
  pub interpolation_types : IsInverse interpolation_type_rows
  pub samplings : IsInverse sampling_rows
  pub attributes : IsInverse attribute_rows
  pub severities : IsInverse severity_rows

-- the operators
pub record OperatorLaw : Type 0 where
  pub unary : IsInverse unary_operator_rows
  pub binary : IsInverse binary_operator_rows

-- keywords and reserved words are no predeclared names
abbrev pub ApartLaw : Type 0
ApartLaw = (n : Name) (w : Word) → meaning word_rows n ≡ Some w → meaning predeclared_rows n ≡ None

-- each name comes before the next in the order of bytes, so no two are alike
pub record OrderLaw : Type 0 where
  pub predeclared : is_ordered predeclared_rows ≡ true
  pub words : is_ordered word_rows ≡ true

-- ---- the sizes of the tables

abbrev pub predeclared_count : ℕ
predeclared_count = 265

abbrev pub keyword_count : ℕ
keyword_count = 26

abbrev pub reserved_count : ℕ
reserved_count = 146

abbrev pub built_in_value_count : ℕ
built_in_value_count = 20
