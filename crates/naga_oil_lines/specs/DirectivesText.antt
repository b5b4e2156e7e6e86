-- How directives are formatted before a text.
use Rattle.std.specs.Prelude.{◌≡◌, ℕ, List, [], ◌∷◌, ◌++◌, codes}
use Rattle.std.specs.List.{flat_map, join_by}
use Rattle.naga_oil_lines.specs.Directives.{Extensions, Diagnostic, Directives}
use Rattle.naga_oil_words.specs.Texts.{in_order}

-- the extensions that directives name
abbrev pub names_of : List Extensions → List (List ℕ)
names_of directives = flat_map (λ d. d.names) directives

-- the line of a word and its names; without names there is none
abbrev pub names_line : (word : List ℕ) → List (List ℕ) → List ℕ
names_line word [] = []
names_line word (name ∷ more) = word ++ codes " " ++ join_by (λ n. n) (codes ", ") (name ∷ more) ++ codes ";\n"

-- the line of a diagnostic
abbrev pub diagnostic_line : Diagnostic → List ℕ
diagnostic_line d = codes "diagnostic(" ++ d.severity ++ codes ", " ++ d.rule ++ codes ");\n"

-- an empty line after a text, unless the text is empty
abbrev pub with_empty_line : List ℕ → List ℕ
with_empty_line [] = []
with_empty_line (c ∷ text) = c ∷ text ++ codes "\n"

-- a line of the enabled and one of the required extensions, and one for each diagnostic
abbrev pub directive_lines : Directives → List ℕ
directive_lines d =
    names_line (codes "enable") (in_order (names_of d.enables)) ++ names_line (codes "requires") (in_order (names_of d.requires)) ++ flat_map diagnostic_line d.diagnostics

-- the text of directives
abbrev pub directives_text : Directives → List ℕ
directives_text d = with_empty_line (directive_lines d)

-- the directives name no extension and have no diagnostic
abbrev pub SaysNothing : Directives → Type 0
SaysNothing d = (names_of d.enables ≡ []) × (names_of d.requires ≡ []) × (d.diagnostics ≡ [])
