-- The printed text of `oil pre`.
use Rattle.std.specs.Prelude.{ℕ, true, List, Result, Ok, Err}
use Rattle.std.specs.Option.{option_or}
use Rattle.naga_oil_conditions.specs.Fault.{Fault, Definitions}
use Rattle.naga_oil_pre.specs.Metadata.{metadata, source_and_defines}
use Rattle.naga_oil_pre.specs.Preprocessed.{Output, preprocessed}

-- definitions, overwritten by a text's own
abbrev pub overwritten : (given own : Definitions) → Definitions
overwritten given own name = option_or (own name) (given name)

-- the text that preprocessing returns
abbrev pub text_of : Result Output Fault → Result (List ℕ) Fault
text_of (Ok o) = Ok o.text
text_of (Err f) = Err f

-- a cleaned source after preprocessing, with its own definitions
abbrev pub shown_text : Definitions → Result (List ℕ × Definitions) Fault → Result (List ℕ) Fault
shown_text given (Ok r) = text_of (preprocessed (overwritten given r.1) r.0)
shown_text given (Err f) = Err f

-- the cleaned source of a text, preprocessed under the definitions overwritten by its own
unfoldable pub printed : Definitions → List ℕ → Result (List ℕ) Fault
printed given text = shown_text given (source_and_defines (metadata true text))
