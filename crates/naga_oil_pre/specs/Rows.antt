-- Rows of texts and their preprocessing, computed.
use Rattle.std.specs.Prelude.{◌≡◌, ℕ, refl, true, List, [], ◌∷◌, ◌++◌, codes, bytes_eq, if◌then◌else◌, map, Option, Some, None, replicate}
use Rattle.naga_oil_words.specs.Bytes.{newline, space}
use Rattle.naga_oil_conditions.specs.declared.shader_def.ShaderDefValue.TheVariants as def
use Rattle.naga_oil_lines.specs.Cover.{cover}
use Rattle.naga_oil_conditions.specs.Computing.{line_kinds}
use Rattle.naga_oil_conditions.specs.Fault.{Definitions, Fault, comparison, not_enough_end_ifs, too_many_end_ifs, unknown_def, invalid_version}
use Rattle.naga_oil_pre.specs.Reading.{reading, read_block, read_arms, is_unclosed}
use Rattle.naga_oil_conditions.specs.Line.{source_lines, end_place}
use Rattle.naga_oil_pre.specs.Preprocessed.{Status, blanked, shown, imported, noted, spaces, statuses, end_status}
use Rattle.naga_oil_pre.specs.Metadata.{none_defined}

x_defined : Definitions
x_defined name = if bytes_eq name (codes "X") then Some (def.Bool true) else None

-- lines as a text, each with its end
text : List (List ℕ) → List ℕ
text [] = []
text (l ∷ more) = l ++ newline ∷ text more

-- the text of a line: as it is, as spaces, or noted
told : Status → List ℕ
told (blanked l) = spaces l
told (shown l) = l.text
told (imported l taken) = spaces l
told (noted f) = codes "noted"

note_of : Status → Option Fault
note_of (blanked l) = None
note_of (shown l) = None
note_of (imported l taken) = None
note_of (noted f) = Some f

first_note : List Status → Option Fault
first_note [] = None
first_note (s ∷ more) = elim (note_of s) [ Some f ↦ Some f | None ↦ first_note more ]

statuses_of : Definitions → List ℕ → List Status
statuses_of defs source = let block = reading defs (source_lines source) in statuses defs true block ++ end_status (end_place 0 (source_lines source)) (is_unclosed block)

-- the lines are shown or blanked like these
Becomes : Definitions → List (List ℕ) → List (List ℕ) → Type 0
Becomes defs source out = map told (statuses_of defs (text source)) ≡ out

-- this is the earliest fault of the lines
Faults : Definitions → List (List ℕ) → Fault → Type 0
Faults defs source f = first_note (statuses_of defs (text source)) ≡ Some f

sp : ℕ → List ℕ
sp n = replicate n space

else_row : Becomes none_defined (codes "#ifdef A" ∷ codes "a" ∷ codes "#else" ∷ codes "b" ∷ codes "#endif" ∷ []) (sp 8 ∷ sp 1 ∷ sp 5 ∷ codes "b" ∷ sp 6 ∷ [])
unfolding statuses_of told note_of first_note cover reading read_block read_arms line_kinds Becomes text sp
else_row = refl

empty_row : Becomes none_defined [] []
unfolding statuses_of told note_of first_note cover reading read_block read_arms line_kinds Becomes text sp
empty_row = refl

open_row : Faults none_defined (codes "#ifdef A" ∷ codes "x" ∷ []) (not_enough_end_ifs 11)
unfolding statuses_of told note_of first_note cover reading read_block read_arms line_kinds Faults text comparison
open_row = refl

surplus_row : Faults x_defined (codes "a" ∷ codes "#endif" ∷ codes "#else" ∷ []) (too_many_end_ifs 2)
unfolding statuses_of told note_of first_note cover reading read_block read_arms line_kinds Faults text comparison x_defined
surplus_row = refl

stray_row : Faults x_defined (codes "#else if YY" ∷ codes "#endif" ∷ []) (unknown_def 0 (codes "Y"))
unfolding statuses_of told note_of first_note cover reading read_block read_arms line_kinds Faults text comparison x_defined
stray_row = refl

-- a second else is accepted, and never active after an arm that held
two_elses : Becomes x_defined (codes "#ifdef X" ∷ codes "a" ∷ codes "#else" ∷ codes "b" ∷ codes "#else" ∷ codes "c" ∷ codes "#endif" ∷ codes "d" ∷ []) (sp 8 ∷ codes "a" ∷ sp 5 ∷ sp 1 ∷ sp 5 ∷ sp 1 ∷ sp 6 ∷ codes "d" ∷ [])
unfolding statuses_of told note_of first_note cover reading read_block read_arms line_kinds Becomes text sp x_defined
two_elses = refl

-- an active import takes the lines up to its last brace, also a condition
import_row : Becomes x_defined (codes "#import a::{" ∷ codes "#ifdef Q" ∷ codes "}" ∷ codes "b" ∷ []) (sp 12 ∷ sp 8 ∷ sp 1 ∷ codes "b" ∷ [])
unfolding statuses_of told note_of first_note cover reading read_block read_arms line_kinds Becomes text sp x_defined
import_row = refl

-- an inactive import takes no lines
idle_import_row : Becomes none_defined (codes "#ifdef X" ∷ codes "#import a::{" ∷ codes "#endif" ∷ codes "b" ∷ []) (sp 8 ∷ sp 12 ∷ sp 6 ∷ codes "b" ∷ [])
unfolding statuses_of told note_of first_note cover reading read_block read_arms line_kinds Becomes text sp
idle_import_row = refl

-- a version is read in inactive arms too
version_row : Faults none_defined (codes "#ifdef A" ∷ codes "#version 300" ∷ codes "#endif" ∷ []) (invalid_version 9)
unfolding statuses_of told note_of first_note cover reading read_block read_arms line_kinds Faults text comparison
version_row = refl
