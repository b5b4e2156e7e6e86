-- Worked rows: the pieces of lines by grammar, rows of the table of kinds, directives, and units of a reading; and lines that have other
-- pieces, or are out of place.
use Rattle.std.proofs.Common.{◌≡◌, ◌⊎◌, inl, inr, ℕ, List, [], ◌∷◌, length, true, false, Some, None, refl, ap, sym, ◌∙◌, arith}
use lib.Utf8.{encode}
use Rattle.std.proofs.lemmas.List.{length-append}
use Rattle.std.proofs.lemmas.Option.{none-some}
use Rattle.std.specs.Char.{is_ascii_digit}
use Rattle.std.specs.Prelude.{codes, slice_index}
use Rattle.ucd_perl.proofs.Computing.{ucd_perl}
use Rattle.naga_oil_conditions.proofs.KindGrammarLemmas.{one_kind, one_unversioned_kind}
use Rattle.naga_oil_conditions.proofs.LineGrammarLemmas.{hash-is, hash-reads, keyword-is, keyword-reads, directive-is, directive-reads, arm-is, arm-reads, ifdef-is, ifdef-reads, ifndef-is, ifndef-reads, version-is, operation-is, operation-reads, if-is, if-reads, if_no_else, begins-is, begins-reads, import-is, import-reads, import_path-is, import_path-reads, define-is, define-reads}
use Rattle.naga_oil_conditions.specs.Computing.{line_kinds}
use Rattle.naga_oil_conditions.specs.Fault.{Definitions}
use Rattle.naga_oil_conditions.specs.Kind.{LineKind, version, condition, endif, imports, import_path, define, other, defined, undefined, compares, otherwise, kind_of}
use Rattle.naga_oil_conditions.specs.KindGrammar.{DefineRow, ElseRow, EndifRow, HashRow, IfRow, IfdefRow, IfndefRow, ImportPathRow, ImportRow, IsKindAfterHash, OtherRow, VersionRow}
use Rattle.naga_oil_conditions.specs.Line.{Line}
use Rattle.naga_oil_conditions.specs.LineGrammar.{IsAfterArm, IsAfterDirective, IsAfterElse, IsAfterGap, IsAfterHash, IsAfterKeyword, IsAfterWhite, IsCompared, IsCut, IsDefineValue, IsIf, IsNamedArm, IsOperation, IsRun, IsWord}
use Rattle.naga_oil_conditions.specs.LineKinds.{is_name_char}
use Rattle.naga_oil_pre.specs.Reading.{AreArms, IsBlock, Takes, begins_arm, ends_chain, is_nothing, is_plain, last_arm, line, nothing, unclosed}

-- ---- runs and words

run_of_digits : IsRun is_ascii_digit (codes "45 x") (codes "45") (codes " x")
run_of_digits = record { whole = refl; inside = refl; stops = refl }

short_run_is_refused : IsRun is_ascii_digit (codes "45 x") (codes "4") (codes "5 x") → ⊥
short_run_is_refused h = let e : true ≡ false = h.stops in absurd cc

word_of_digits : IsWord is_ascii_digit (codes "45 x") (codes "45") (codes " x")
unfolding encode
word_of_digits = record { first = 52; more = codes "5"; run = run_of_digits; spelled = refl }

cut_word_is_refused : IsWord is_ascii_digit (codes "45 x") (codes "4") (codes "5 x") → ⊥
cut_word_is_refused h = let e : true ≡ false = h.run.stops in absurd cc

-- ---- white space

after_white : IsAfterWhite (codes "  x") (codes "x")
unfolding ucd_perl
after_white = (codes "  ", record { whole = refl; inside = refl; stops = refl })

white_that_is_left_is_refused : IsAfterWhite (codes "  x") (codes " x") → ⊥
unfolding ucd_perl
white_that_is_left_is_refused h = let e : true ≡ false = h.1.stops in absurd cc

after_gap : IsAfterGap (codes "  x") (codes "x")
unfolding ucd_perl
after_gap = (32, codes " ", record { whole = refl; inside = refl; stops = refl })

no_gap_is_refused : IsAfterGap (codes "x") (codes "x") → ⊥
no_gap_is_refused h = absurd (omega (arith, simp length-append at (ap length h.2.whole)))

-- ---- the start of a line

after_hash : IsAfterHash (codes " #if A") (codes "if A")
unfolding line_kinds
after_hash = hash-is (codes " #if A") (codes "if A") refl

no_hash_is_refused : IsAfterHash (codes "if A") (codes "if A") → ⊥
unfolding line_kinds
no_hash_is_refused h = absurd (none-some _ (hash-reads (codes "if A") (codes "if A") h))

after_keyword : IsAfterKeyword (codes "else") (codes " else x") (codes " x")
unfolding line_kinds
after_keyword = keyword-is (codes "else") (codes " else x") (codes " x") refl

another_keyword_is_refused : IsAfterKeyword (codes "else") (codes "endif") [] → ⊥
unfolding line_kinds
another_keyword_is_refused h = absurd (none-some _ (keyword-reads (codes "else") (codes "endif") [] h))

after_directive : IsAfterDirective (codes "import") (codes "import a::b") (codes "a::b")
unfolding line_kinds
after_directive = directive-is (codes "import") (codes "import a::b") (codes "a::b") refl

longer_word_is_refused : IsAfterDirective (codes "import") (codes "importa::b") (codes "a::b") → ⊥
unfolding line_kinds
longer_word_is_refused h = absurd (none-some _ (directive-reads (codes "import") (codes "importa::b") (codes "a::b") h))

after_else : IsAfterElse true (codes "else if A") (codes "if A")
unfolding ucd_perl
after_else = (codes " if A", refl, (32, [], record { whole = refl; inside = refl; stops = refl }))

no_else_is_refused : IsAfterElse true (codes "if A") (codes "if A") → ⊥
no_else_is_refused h = let e : 105 ≡ 101 = ap (λ (cs : List ℕ). slice_index cs 0) h.1 in absurd (omega (arith, e))

-- ---- conditions

after_arm : IsAfterArm (codes "ifdef") true (codes "else ifdef A") (codes "A")
unfolding line_kinds
after_arm = arm-is (codes "ifdef") true (codes "else ifdef A") (codes "A") refl

-- the word of another arm
another_arm_is_refused : IsAfterArm (codes "if") false (codes "ifdef A") (codes "A") → ⊥
unfolding line_kinds
another_arm_is_refused h = absurd (none-some _ (arm-reads (codes "if") false (codes "ifdef A") (codes "A") if_no_else h))

named_arm : IsNamedArm (codes "ifdef") false (codes "FAST") (codes "ifdef FAST")
unfolding line_kinds
named_arm = ifdef-is false (codes "FAST") (codes "ifdef FAST") refl

nameless_arm_is_refused : (name : List ℕ) → IsNamedArm (codes "ifdef") false name (codes "ifdef -") → ⊥
unfolding line_kinds
nameless_arm_is_refused name h = absurd (none-some _ (ifdef-reads false name (codes "ifdef -") h))

operation : IsOperation (codes ">=") (codes "-3") (codes " >= -3")
unfolding line_kinds
operation = operation-is (codes ">=") (codes "-3") (codes " >= -3") refl

operation_without_value_is_refused : (operator value : List ℕ) → IsOperation operator value (codes " >=") → ⊥
unfolding line_kinds
operation_without_value_is_refused operator value h = absurd (none-some _ (operation-reads operator value (codes " >=") h))

spelled_name : IsWord is_name_char (codes "N > 3") (codes "N") (codes " > 3")
unfolding line_kinds
spelled_name = record { first = 78; more = []; run = record { whole = refl; inside = refl; stops = refl }; spelled = refl }

compared : IsCompared (codes "N") (codes ">") (codes "3") (codes "N > 3")
unfolding line_kinds
compared = record { rest = codes " > 3"; spelling = spelled_name; operation = operation-is (codes ">") (codes "3") (codes " > 3") refl }

-- what is compared after `if`
reads_n : (name operator value : List ℕ) → IsCompared name operator value (codes "N") ⊎ IsCut name operator value (codes "N") → ⊥
unfolding line_kinds
reads_n name operator value parts =
    let whole : IsIf false name operator value (codes "if N") = record { rest = codes "N"; arm = arm-is (codes "if") false (codes "if N") (codes "N") refl; parts = parts } in
    none-some _ (if-reads false name operator value (codes "if N") whole)

nothing_compared_is_refused : (name operator value : List ℕ) → IsCompared name operator value (codes "N") → ⊥
nothing_compared_is_refused name operator value h = reads_n name operator value (inl h)

-- a name of three characters without a value: its last character is the value
name_is_cut : IsCut (codes "AB") [] (codes "C") (codes "ABC")
unfolding line_kinds
name_is_cut = record { first = 65; more = codes "B"; last = 67; rest = []; run = record { whole = refl; inside = refl; stops = refl }; alone = alone; front = refl; empty = refl; end = refl }
  where
    alone : (o v : List ℕ) → IsOperation o v [] → ⊥
    alone o v h = none-some _ (operation-reads o v [] h)

short_name_is_refused : (name operator value : List ℕ) → IsCut name operator value (codes "N") → ⊥
short_name_is_refused name operator value h = reads_n name operator value (inr h)

-- ---- values of defines

value_of_define : IsDefineValue (Some (codes "-3")) (codes "-3")
unfolding line_kinds
value_of_define = ([], record { first = 45; more = codes "3"; run = record { whole = refl; inside = refl; stops = refl }; spelled = refl })

no_value_of_define : IsDefineValue None (codes "+3")
unfolding line_kinds
no_value_of_define = refl

missed_value_is_refused : IsDefineValue None (codes "-3") → ⊥
unfolding line_kinds
missed_value_is_refused h = let e : true ≡ false = h in absurd cc

-- ---- rows of the table of kinds

ifdef_row : IfdefRow (codes "else ifdef A") (condition true (defined (codes "A")))
unfolding line_kinds
ifdef_row = (true, codes "A", refl, ifdef-is true (codes "A") (codes "else ifdef A") refl)

no_ifdef_row : (k : LineKind) → IfdefRow (codes "ifndef A") k → ⊥
unfolding line_kinds
no_ifdef_row k h = absurd (none-some _ (ifdef-reads h.0 h.1 (codes "ifndef A") h.3))

ifndef_row : IfndefRow (codes "ifndef A") (condition false (undefined (codes "A")))
unfolding line_kinds
ifndef_row = (false, codes "A", refl, ifndef-is false (codes "A") (codes "ifndef A") refl)

no_ifndef_row : (k : LineKind) → IfndefRow (codes "ifdef A") k → ⊥
unfolding line_kinds
no_ifndef_row k h = absurd (none-some _ (ifndef-reads h.0 h.1 (codes "ifdef A") h.3))

if_row : IfRow (codes "if N > 3") (condition false (compares (codes "N") (codes ">") (codes "3")))
unfolding line_kinds
if_row = (false, codes "N", codes ">", codes "3", refl, if-is false (codes "N") (codes ">") (codes "3") (codes "if N > 3") refl)

no_if_row : (k : LineKind) → IfRow (codes "if N") k → ⊥
unfolding line_kinds
no_if_row k h = absurd (none-some _ (if-reads h.0 h.1 h.2 h.3 (codes "if N") h.5))

else_row : ElseRow (codes "elsewhere") (condition true otherwise)
unfolding line_kinds
else_row = (refl, begins-is (codes "else") (codes "elsewhere") refl)

no_else_row : (k : LineKind) → ElseRow (codes "endif") k → ⊥
unfolding line_kinds
no_else_row k h = let e : false ≡ true = begins-reads (codes "else") (codes "endif") h.1.0 h.1.1 in absurd cc

endif_row : EndifRow (codes "endif x") endif
unfolding line_kinds
endif_row = (refl, begins-is (codes "endif") (codes "endif x") refl)

no_endif_row : (k : LineKind) → EndifRow (codes "else") k → ⊥
unfolding line_kinds
no_endif_row k h = let e : false ≡ true = begins-reads (codes "endif") (codes "else") h.1.0 h.1.1 in absurd cc

import_row : ImportRow (codes "import a") imports
unfolding line_kinds
import_row = (refl, import-is (codes "import a") refl)

no_import_row : (k : LineKind) → ImportRow (codes "import") k → ⊥
unfolding line_kinds
no_import_row k h = let e : false ≡ true = import-reads (codes "import") h.1 in absurd cc

import_path_row : ImportPathRow (codes "define_import_path a::b") (import_path (codes "a::b"))
unfolding line_kinds
import_path_row = (codes "a::b", refl, import_path-is (codes "a::b") (codes "define_import_path a::b") refl)

no_import_path_row : (k : LineKind) → ImportPathRow (codes "define_import_path ") k → ⊥
unfolding line_kinds
no_import_path_row k h = absurd (none-some _ (import_path-reads h.0 (codes "define_import_path ") h.2))

define_row : DefineRow (codes "define N 3") (define (codes "N") (Some (codes "3")))
unfolding line_kinds
define_row = (codes "N", Some (codes "3"), refl, define-is (codes "N") (Some (codes "3")) (codes "define N 3") refl)

no_define_row : (k : LineKind) → DefineRow (codes "define") k → ⊥
unfolding line_kinds
no_define_row k h = absurd (none-some _ (define-reads h.0 h.1 (codes "define") h.3))

other_row : OtherRow other
other_row = refl

endif_is_not_other : OtherRow endif → ⊥
endif_is_not_other e = absurd cc

-- ---- the kind of a line

kind_after_hash : IsKindAfterHash (codes "else ifdef A") (condition true (defined (codes "A")))
kind_after_hash = inl ifdef_row

other_after_hash_is_refused : IsKindAfterHash (codes "else ifdef A") other → ⊥
other_after_hash_is_refused (inl h) = let e = h.2 in absurd cc
other_after_hash_is_refused (inr h) = h.0 _ ifdef_row

hash_row : HashRow (codes "# else ifdef A") (condition true (defined (codes "A")))
unfolding line_kinds
hash_row = (codes " else ifdef A", hash-is (codes "# else ifdef A") (codes " else ifdef A") refl, inl (true, codes "A", refl, ifdef-is true (codes "A") (codes " else ifdef A") refl))

other_row_with_hash_is_refused : HashRow (codes "#endif") other → ⊥
unfolding line_kinds
other_row_with_hash_is_refused h = let e : other ≡ endif = (one_unversioned_kind (codes "#endif") other).0 (inl h) in absurd cc

version_row : VersionRow (codes "#version 450") (version true)
unfolding line_kinds
version_row = (codes "version 450", true, hash-is (codes "#version 450") (codes "version 450") refl, refl, version-is true (codes "version 450") refl)

unknown_version_is_refused : VersionRow (codes "#version 450") (version false) → ⊥
unfolding line_kinds
unknown_version_is_refused h = let e : version false ≡ version true = (one_kind (codes "#version 450") (version false)).0 (inl h) in absurd cc

-- ---- units of a reading

endif_ends_a_chain : ends_chain endif ≡ true
endif_ends_a_chain = refl

import_ends_no_chain : ends_chain imports ≡ false
import_ends_no_chain = refl

no_unit : is_nothing nothing ≡ true
no_unit = refl

one_unit : (l : Line) → is_nothing (line l nothing) ≡ false
one_unit l = refl

-- a brace that stays open takes the rest of the text, and nothing less
taken_to_the_end : Takes 1 true []
taken_to_the_end = refl

taken_too_little_is_refused : Takes 1 false [] → ⊥
taken_too_little_is_refused h = let e : false ≡ true = h in absurd cc

taken_without_a_brace_is_refused : (l : Line) → Takes 0 true (l ∷ []) → ⊥
taken_without_a_brace_is_refused l h = h

module _ (defs : Definitions) (l : Line) where
  plain_line : is_plain true false (kind_of l.covered) ≡ true → IsBlock defs true false true (line l nothing)
  plain_line is = (is, tt)

  line_of_another_kind_is_refused : is_plain true false (kind_of l.covered) ≡ false → IsBlock defs true false true (line l nothing) → ⊥
  line_of_another_kind_is_refused is h = let e : false ≡ true = sym is ∙ h.0 in absurd cc

  -- only the last chain of a text may have no end
  chain_without_an_end_is_refused : IsBlock defs true false false (unclosed (last_arm l nothing)) → ⊥
  chain_without_an_end_is_refused h = let e : false ≡ true = h.0 in absurd cc

  first_arm : begins_arm false (kind_of l.covered) ≡ true → AreArms defs true false false true (last_arm l nothing)
  first_arm is = (is, tt)

  arm_of_another_kind_is_refused : begins_arm false (kind_of l.covered) ≡ false → AreArms defs true false false true (last_arm l nothing) → ⊥
  arm_of_another_kind_is_refused is h = let e : false ≡ true = sym is ∙ h.0 in absurd cc
