-- The result of preprocessing a text, by its reading.
use Rattle.std.specs.Prelude.{ℕ, ◌+◌, ◌-◌, Bool, true, false, ◌&&◌, ◌||◌, not, if◌then◌else◌, Option, Some, None, List, [], ◌∷◌, ◌++◌, map, length, replicate, codes, Result, Ok, Err}
use Rattle.std.specs.List.{flat_map}
use Rattle.std.specs.Str.{chars}
use Rattle.naga_oil_words.specs.Bytes.{newline, space}
use Rattle.naga_oil_lines.specs.Tokens.{Lexeme, lexemes}
use Rattle.naga_oil_imports.specs.Declarations.{Declared}
use Rattle.naga_oil_imports.specs.Leaves.{Leaf, SyntaxFault, import_leaves, with_leaves}
use Rattle.naga_oil_imports.specs.Uses.{Use, Uses}
use Rattle.naga_oil_imports.specs.Substituted.{substituted, sites, first_ambiguous, used_by}
use Rattle.naga_oil_conditions.specs.Line.{Line, source_lines, end_place}
use Rattle.naga_oil_conditions.specs.Kind.{LineKind, version, condition, endif, imports, import_path, define, other, kind_of}
use Rattle.naga_oil_conditions.specs.Fault.{Fault, else_without_condition, too_many_end_ifs, not_enough_end_ifs, invalid_version, invalid_import, Definitions, outcome, evaluated, holds}
use Rattle.naga_oil_pre.specs.Reading.{Block, nothing, line, import, chain, unclosed, Arms, last_arm, arm, is_unclosed, reading}
use Rattle.naga_oil_conditions.specs.Replaced.{replaced}

-- the status of a line: what to do with it
pub data Status : Type 0 where
  blanked : Line → Status
  shown : Line → Status
  -- an import with the lines that it takes, each of which is blanked
  imported : Line → List Line → Status
  noted : Fault → Status

-- the line of a condition
abbrev pub condition_status : Line → Result Bool Fault → Status
condition_status l (Ok holds) = blanked l
condition_status l (Err own) = noted own

-- an else without a chain: a condition's own fault comes first
abbrev pub stray_status : Line → Result Bool Fault → Status
stray_status l (Ok holds) = noted (else_without_condition l.at)
stray_status l (Err own) = noted own

-- a plain line of a block that is active or not
abbrev pub plain_status : Definitions → Bool → Line → LineKind → Status
plain_status defs active l (version known) = if known then blanked l else noted (invalid_version l.at)
plain_status defs active l (condition is_else c) = stray_status l (evaluated defs l.at c)
plain_status defs active l endif = noted (too_many_end_ifs l.at)
plain_status defs active l imports = blanked l
plain_status defs active l (import_path name) = blanked l
plain_status defs active l (define name value) = blanked l
plain_status defs active l other = if active then shown l else blanked l

abbrev mutual
  -- line by line, for a block that is active or not
  pub statuses : Definitions → (active : Bool) → Block → List Status
  statuses defs active nothing = []
  statuses defs active (line l more) = plain_status defs active l (kind_of l.covered) ∷ statuses defs active more
  statuses defs active (import l taken more) = imported l taken ∷ (map blanked taken ++ statuses defs active more)
  statuses defs active (chain arms end more) = arm_statuses defs active false arms ++ blanked end ∷ statuses defs active more
  statuses defs active (unclosed arms) = arm_statuses defs active false arms

  -- in an active block the first arm whose condition holds is active, in an inactive block none;
  -- `met` says whether an earlier one held
  pub arm_statuses : Definitions → (active met : Bool) → Arms → List Status
  arm_statuses defs active met (last_arm l block) =
      condition_status l (outcome defs l (kind_of l.covered)) ∷ statuses defs (active && (not met && holds defs l)) block
  arm_statuses defs active met (arm l block arms) =
      condition_status l (outcome defs l (kind_of l.covered)) ∷ (statuses defs (active && (not met && holds defs l)) block ++ arm_statuses defs active (met || holds defs l) arms)

-- the fault at the end of the text, if a chain is open
abbrev pub end_status : ℕ → (is_open : Bool) → List Status
end_status end is_open = if is_open then noted (not_enough_end_ifs end) ∷ [] else []

-- spaces as long as a line
abbrev pub spaces : Line → List ℕ
spaces l = replicate (length l.text) space

-- a text, padded with spaces to a length, and never cut
abbrev pub padded : ℕ → List ℕ → List ℕ
padded size text = text ++ replicate (size - length text) space

-- a line and its end
abbrev pub end_line : List ℕ → List ℕ
end_line text = text ++ newline ∷ []

-- the declarations of the imports so far, and the uses of the lines so far
pub record Known : Type 0 where
  pub declared : Declared
  pub uses : Uses

-- before the first line
abbrev pub nothing_known : Known
nothing_known = record { declared = []; uses = [] }

-- the tokens of a text
abbrev pub tokens_of : List ℕ → List Lexeme
tokens_of text = lexemes 0 0 (chars text)

-- the text of a shown line: its `#` names replaced, then its identifiers substituted, padded to its
-- length
abbrev pub shown_text : Definitions → Known → Line → List ℕ
shown_text defs known l = padded (length l.text) (substituted known.declared (tokens_of (replaced defs l.text)))

-- the tokens whose uses a shown line records: those of its covered line
abbrev pub using_tokens : Definitions → Line → List Lexeme
using_tokens defs l = tokens_of (replaced defs l.covered)

-- the covered lines of an import, each ended
abbrev pub import_text : List Line → List ℕ
import_text ls = flat_map (λ l. end_line l.covered) ls

-- a line of spaces for each of the lines
abbrev pub blanks : List Line → List ℕ
blanks ls = flat_map (λ l. end_line (spaces l)) ls

-- the text that a line becomes, and what is known after it
abbrev pub Passage : Type 0
Passage = List ℕ × Known

-- the fault of an identifier that stands for several paths
abbrev pub ambiguous : ℕ → Fault
ambiguous place = invalid_import (codes "Ambiguous import path for item") place

-- a shown line, by the place of its first ambiguous identifier, if it has one
abbrev pub shown_passage : Definitions → Known → Line → (ambiguous : Option ℕ) → Result Passage Fault
shown_passage defs known l (Some place) = Err (ambiguous place)
shown_passage defs known l None = Ok (end_line (shown_text defs known l), record known { uses = used_by known.declared l.at (using_tokens defs l) known.uses })

-- the first line of an import that has these leaves
abbrev pub imported_passage : Known → Line → Result (List Leaf) SyntaxFault → Result Passage Fault
imported_passage known l (Ok leaves) = Ok (end_line (spaces l), record known { declared = with_leaves known.declared leaves })
imported_passage known l (Err f) = Err (invalid_import f.0 (l.at + f.1))

-- the text that a line becomes, or its fault
abbrev pub passage : Definitions → Known → Status → Result Passage Fault
passage defs known (blanked l) = Ok (end_line (spaces l), known)
passage defs known (shown l) = shown_passage defs known l (first_ambiguous known.declared false (sites l.at (using_tokens defs l)))
passage defs known (imported l taken) = imported_passage known l (import_leaves (import_text (l ∷ taken)))
passage defs known (noted f) = Err f

-- a text, and its uses of each module
pub record Output : Type 0 where
  pub text : List ℕ
  pub uses : List Use

-- a text before the rest
abbrev pub prepend : List ℕ → Result Output Fault → Result Output Fault
prepend front (Ok more) = Ok (record more { text = front ++ more.text })
prepend front (Err f) = Err f

-- a passage before the rest, unless there is an earlier fault
abbrev pub prepend_passage : Result Passage Fault → (Known → Result Output Fault) → Result Output Fault
prepend_passage (Ok p) rest = prepend p.0 (rest p.1)
prepend_passage (Err f) rest = Err f

-- the earliest fault, or else the text that the lines become
abbrev pub written : Definitions → Known → List Status → Result Output Fault
written defs known [] = Ok (record { text = []; uses = map (λ u. u.1) known.uses })
written defs known (s ∷ more) = prepend_passage (passage defs known s) (λ next. written defs next more)

-- the result for lines that are read as this block and end at the place
abbrev pub read_so : Definitions → ℕ → Block → Result Output Fault
read_so defs end block = written defs nothing_known (statuses defs true block ++ end_status end (is_unclosed block))

-- the result of preprocessing a text
unfoldable pub preprocessed : Definitions → List ℕ → Result Output Fault
preprocessed defs text = read_so defs (end_place 0 (source_lines text)) (reading defs (source_lines text))
