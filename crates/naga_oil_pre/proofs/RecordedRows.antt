-- Rows of texts and the names that they record, computed.
use Rattle.std.proofs.Common.{◌≡◌, ℕ, List, [], ◌∷◌, ◌++◌, refl}
use lib.Utf8.{encode}
use Rattle.std.specs.Prelude.{codes}
use Rattle.std.specs.Str.{chars}
use Rattle.ucd_perl.proofs.Computing.{ucd_perl}
use Rattle.naga_oil_lines.specs.Cover.{cover}
use Rattle.naga_oil_conditions.specs.Computing.{line_kinds}
use Rattle.naga_oil_conditions.specs.Line.{source_lines}
use Rattle.naga_oil_conditions.specs.Replaced.{hash_names, pieces, hash_name, name_at, name_in_braces}
use Rattle.naga_oil_pre.specs.Recorded.{names_of}

-- a text of these lines
text : List (List ℕ) → List ℕ
text [] = []
text (l ∷ more) = l ++ 10 ∷ text more

-- also names in comments
in_comments : names_of (source_lines (text (codes "#import a::f" ∷ codes "// #C f" ∷ codes "#ifdef D" ∷ codes "f();" ∷ codes "#endif" ∷ []))) ≡ codes "C" ∷ codes "D" ∷ []
unfolding text names_of cover line_kinds hash_names pieces hash_name name_at name_in_braces chars encode ucd_perl
in_comments = refl

-- and those of lines that an import takes
in_imports : names_of (source_lines (text (codes "#ifdef Z" ∷ codes "#import a::{\"" ∷ codes "#if XX == 1" ∷ codes "#endif" ∷ codes "\"}" ∷ codes "#endif" ∷ []))) ≡ codes "Z" ∷ codes "XX" ∷ []
unfolding text names_of cover line_kinds hash_names pieces hash_name name_at name_in_braces chars encode ucd_perl
in_imports = refl

-- a version is no kind of line here, nor is an if of one character
other_lines : names_of (source_lines (text (codes "#version 450" ∷ codes "#if X" ∷ codes "#else" ∷ codes "#define Y" ∷ codes "#{N}" ∷ []))) ≡ codes "version" ∷ codes "version" ∷ codes "if" ∷ codes "if" ∷ codes "N" ∷ codes "N" ∷ []
unfolding text names_of cover line_kinds hash_names pieces hash_name name_at name_in_braces chars encode ucd_perl
other_lines = refl
