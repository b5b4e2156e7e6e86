-- Rows of texts with the paths that their imports declare, computed.
use Rattle.std.specs.Prelude.{◌≡◌, ℕ, refl, List, [], ◌∷◌, ◌++◌, codes}
use Rattle.std.specs.Str.{chars}
use lib.Utf8.{encode}
use Rattle.unicode_ident.specs.Ident.{is_xid_start, is_xid_continue}
use Rattle.unicode_ident.proofs.Computing.{unicode_ident}
use Rattle.naga_oil_words.specs.Bytes.{newline}
use Rattle.naga_oil_lines.specs.Cover.{cover}
use Rattle.naga_oil_lines.specs.Tokens.{lexemes, more_in_token, tail_len}
use Rattle.naga_oil_imports.specs.Leaves.{parts, leaves_of, line_leaves}
use Rattle.naga_oil_conditions.specs.Computing.{line_kinds}
use Rattle.naga_oil_pre.specs.Reading.{reading, read_block, read_arms}
use Rattle.naga_oil_pre.specs.LineEnds.{declared_paths}
use Rattle.naga_oil_pre.specs.Metadata.{none_defined}

-- lines as a text, each with its end
text : List (List ℕ) → List ℕ
text [] = []
text (l ∷ more) = l ++ newline ∷ text more

-- with nothing defined the lines declare these paths
Declares : List (List ℕ) → List (List ℕ) → Type 0
Declares source paths = declared_paths none_defined (text source) ≡ paths

over_lines : Declares (codes "#import a::{b," ∷ codes "c as d}" ∷ codes "b" ∷ codes "#import e" ∷ []) (codes "a::b" ∷ codes "a::c" ∷ codes "e" ∷ [])
unfolding Declares text declared_paths unicode_ident is_xid_start is_xid_continue chars encode lexemes more_in_token tail_len line_leaves leaves_of parts cover reading read_block read_arms line_kinds
over_lines = refl

-- neither an import of an inactive arm nor one that has a fault declares anything
idle : Declares (codes "#ifdef X" ∷ codes "#import a::b" ∷ codes "#endif" ∷ codes "#import a::{" ∷ []) []
unfolding Declares text declared_paths unicode_ident is_xid_start is_xid_continue chars encode lexemes more_in_token tail_len line_leaves leaves_of parts cover reading read_block read_arms line_kinds
idle = refl

-- quotes across a line end bring the line end into the path
over_an_end : Declares (codes "#import a::{\"" ∷ codes "\" as b}" ∷ []) ((codes "a::\"" ++ newline ∷ codes "\"") ∷ [])
unfolding Declares text declared_paths unicode_ident is_xid_start is_xid_continue chars encode lexemes more_in_token tail_len line_leaves leaves_of parts cover reading read_block read_arms line_kinds
over_an_end = refl
