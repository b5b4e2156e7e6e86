-- Keywords and reserved words.
use Rattle.std.specs.Prelude.{ℕ, List, map}
use Rattle.yettuvam_wgsl_names.specs.Table.{Name}
use Rattle.yettuvam_wgsl_names.specs.declared.words.Word.{Word}
use Rattle.yettuvam_wgsl_names.specs.declared.words.TheConstants.{WORDS, KEYWORDS}

-- the keywords and reserved words
abbrev pub word_rows : List (Name × Word)
word_rows = map (λ e. (e.0.now, e.1)) WORDS

-- the keywords by their codes
abbrev pub keyword_rows : List (ℕ × Name)
keyword_rows = map (λ e. (e.0, e.1.now)) KEYWORDS
