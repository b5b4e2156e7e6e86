-- A text becomes as many lines, each with one line end.
use Rattle.std.proofs.Common.{◌≡◌, ℕ, zero, suc, ◌+◌, ◌-◌, ◌<◌, ◌/◌, ◌%◌, ◌==◌, nat_lt, Bool, true, false, cond, eqb, Option, Some, None, Result, Ok, Err, List, [], ◌∷◌, ◌++◌, map, length, replicate, take, codes, bytes_eq, refl, sym, ap, subst, ◌∙◌, arith, append-nil}
use lib.Utf8.{encode, encodes, scalar, scalars, low_scalar}
use lib.IntN.{pos, negsuc}
use Rattle.std.specs.Prelude.{All, IfOk}
use Rattle.std.specs.List.{AllByRecursion, flat_map, count_by}
use Rattle.std.specs.Str.{IsUtf8, chars}
use Rattle.std.specs.Str.Lines.{lines}
use Rattle.std.specs.Fmt.{decimal, digits, digits_onto, digit_glyph}
use Rattle.std.proofs.lemmas.Bool.{and_parts, and_from}
use Rattle.std.proofs.lemmas.Grind.{flat_map-append}
use Rattle.std.proofs.lemmas.Str.{IsUtf8-nil, IsUtf8-append, IsUtf8-encode, IsUtf8-take, IsCharBoundary-before_ascii, encode_ascii, scalars-chars}
use Rattle.std.proofs.lemmas.List.Elements.{All-cons, All-nil, All-head, All-tail, All-push}
use Rattle.std.proofs.lemmas.List.Sums.{sum_by-append, sum_by-take-le}
use Rattle.naga_oil_lines.specs.declared.comment_strip_iter.CommentState.{CommentState}
use Rattle.naga_oil_lines.specs.declared.comment_strip_iter.CommentState.TheVariants.{Code}
use Rattle.naga_oil_lines.specs.Cover.{cover}
use Rattle.naga_oil_lines.specs.CoveredLines.{covered_lines}
use Rattle.naga_oil_imports.specs.Declarations.{Declared, with_path}
use Rattle.naga_oil_imports.specs.Leaves.{Leaf, import_leaves, with_leaves}
use Rattle.naga_oil_imports.specs.Substituted.{substituted, sites, first_ambiguous}
use Rattle.naga_oil_imports.proofs.SubstitutedLines.{substituted_holds_no_newline}
use Rattle.naga_oil_conditions.specs.declared.scope.ScopeLevel.{ScopeLevel}
use Rattle.naga_oil_conditions.specs.declared.shader_def.ShaderDefValue.{ShaderDefValue}
use Rattle.naga_oil_conditions.specs.declared.shader_def.ShaderDefValue.TheVariants as def
use Rattle.naga_oil_conditions.specs.Line.{Line, placed, next_place, source_lines, end_place}
use Rattle.naga_oil_conditions.specs.Kind.{LineKind, version, condition, endif, imports, import_path, define, other, kind_of}
use Rattle.naga_oil_conditions.specs.Fault.{Fault, Definitions, evaluated}
use Rattle.naga_oil_pre.specs.Reading.{reading, braces_after, taken, is_unclosed}
use Rattle.naga_oil_conditions.specs.Replaced.{plain, named, hash_name, pieces, piece_text, value_text, value_or, replaced_from, replaced}
use Rattle.naga_oil_pre.specs.Preprocessed.{Status, blanked, shown, imported, noted, condition_status, stray_status, statuses, end_status, Known, nothing_known, Output, Passage, written, end_line, spaces, tokens_of, using_tokens, shown_text, shown_passage, imported_passage, import_text, passage, prepend, prepend_passage, preprocessed}
use Rattle.naga_oil_conditions.specs.Scope.{is_active, is_open}
use Rattle.naga_oil_pre.specs.Step.{step, opened, scanned}
use Rattle.naga_oil_pre.specs.LineEnds.{paths_among, paths_by, declared_paths}
use Rattle.naga_oil_conditions.proofs.ReplacedLemmas.{no_ends_in_both, no_ends_in_character, replaced_holds_no_newline}
use Rattle.naga_oil_pre.proofs.LineParts.{KeepsFront, holds_of_lines}
use Rattle.naga_oil_pre.proofs.ReadingLemmas.{IsReading-reading}
use Rattle.naga_oil_pre.proofs.Machine.{scanned_reading, scanned_statuses}

abbrev is_end : ℕ → Bool
is_end b = eqb b 10

-- a text in UTF-8 with no line end
abbrev pub IsOneLine : List ℕ → Type 0
IsOneLine text = IsUtf8 text × (count_by (λ b. eqb b 10) text ≡ 0)

-- ---- the lines of a text
none_in_front : (n : ℕ) (text : List ℕ) → count_by is_end text ≡ 0 → count_by is_end (take n text) ≡ 0
none_in_front n text e = omega (arith, sum_by-take-le (λ x. cond (is_end x) 1 0) text n)

front_is_one_line : KeepsFront IsOneLine
front_is_one_line text some last h =
    (IsUtf8-take text (length text - 1) h.0 (IsCharBoundary-before_ascii text (length text - 1) (omega arith) (omega arith)), none_in_front (length text - 1) text h.1)

each_one_line : (cs : List ℕ) → scalars cs ≡ true → AllByRecursion (λ c. is_end c ≡ false → IsOneLine (encode c)) cs
each_one_line [] s = tt
each_one_line (c ∷ cs) s = let each = and_parts (scalar c) (scalars cs) s in ((λ e. (IsUtf8-encode c each.0, no_ends_in_character c e)), each_one_line cs each.1)

-- no line of a text has a line end
lines_are_lines : (text : List ℕ) → IsUtf8 text → All IsOneLine (lines text)
lines_are_lines text u =
    subst (λ t. All IsOneLine (lines t)) u.1.1
    (holds_of_lines IsOneLine (IsUtf8-nil, refl) (λ xs ys p q. (IsUtf8-append xs ys p.0 q.0, no_ends_in_both xs ys p.1 q.1)) front_is_one_line u.0 (each_one_line u.0 u.1.0))

-- ---- a line with its names replaced is UTF-8
name_in_front : (n : ℕ) (cs : List ℕ) → scalars cs ≡ true → scalars (take n cs) ≡ true
name_in_front zero cs s = refl
name_in_front (suc n) [] s = refl
name_in_front (suc n) (c ∷ cs) s = let each = and_parts (scalar c) (scalars cs) s in and_from (scalar c) (scalars (take n cs)) each.0 (name_in_front n cs each.1)

utf8_of : (cs : List ℕ) → scalars cs ≡ true → IsUtf8 (encodes cs)
utf8_of cs s = (cs, (s, refl))

before_utf8 : (b : ℕ) (bs : List ℕ) → b < 128 → IsUtf8 bs → IsUtf8 (b ∷ bs)
before_utf8 b bs low u = IsUtf8-append (b ∷ []) bs (subst IsUtf8 (encode_ascii b low) (IsUtf8-encode b (low_scalar b (omega arith)))) u

glyph_low : (n : ℕ) → digit_glyph false (n % 10) < 128
glyph_low n = elim (nat_lt (n % 10) 10) as (λ t. cond t (48 + n % 10) (87 + n % 10) < 128) [ true ↦ omega arith | false ↦ omega arith ]

digits_utf8 : (k n : ℕ) (acc : List ℕ) → IsUtf8 acc → IsUtf8 (digits_onto k 10 false n acc)
digits_utf8 zero n acc u = u
digits_utf8 (suc k) n acc u =
    let more = before_utf8 (digit_glyph false (n % 10)) acc (glyph_low n) u in
    elim (n / 10 == 0) as (λ t. IsUtf8 (cond t (digit_glyph false (n % 10) ∷ acc) (digits_onto k 10 false (n / 10) (digit_glyph false (n % 10) ∷ acc)))) [
      | true ↦ more
      | false ↦ digits_utf8 k (n / 10) (digit_glyph false (n % 10) ∷ acc) more
    ]

decimal_utf8 : (n : ℕ) → IsUtf8 (decimal n)
unfolding digits
decimal_utf8 n = digits_utf8 64 n [] IsUtf8-nil

value_utf8 : (value : ShaderDefValue) → IsUtf8 (value_text value)
unfolding encode
value_utf8 (def.Bool true) = (codes "true", (refl, refl))
value_utf8 (def.Bool false) = (codes "false", (refl, refl))
value_utf8 (def.Int (pos n)) = decimal_utf8 n
value_utf8 (def.Int (negsuc n)) = before_utf8 45 (decimal (suc n)) (omega arith) (decimal_utf8 (suc n))
value_utf8 (def.UInt n) = decimal_utf8 n

value_or_utf8 : (o : Option ShaderDefValue) (own : List ℕ) → IsUtf8 own → IsUtf8 (value_or o own)
value_or_utf8 (Some value) own u = value_utf8 value
value_or_utf8 None own u = u

pieces_utf8 : (defs : Definitions) (n : ℕ) (cs : List ℕ) → scalars cs ≡ true → IsUtf8 (flat_map (piece_text defs) (pieces n cs))
unfolding pieces
pieces_utf8 defs zero [] s = IsUtf8-nil
pieces_utf8 defs (suc n) [] s = IsUtf8-nil
pieces_utf8 defs (suc n) (c ∷ cs) s = pieces_utf8 defs n cs (and_parts (scalar c) (scalars cs) s).1
pieces_utf8 defs zero (c ∷ cs) s =
    let each = and_parts (scalar c) (scalars cs) s in
    elim (cond (eqb c 35) (hash_name cs) None) as (λ o. IsUtf8 (flat_map (piece_text defs) (elim o [ None ↦ plain c ∷ pieces zero cs | Some h ↦ named h.name (c ∷ take h.taken cs) ∷ pieces h.taken cs ]))) [
      | None ↦ IsUtf8-append (encode c) _ (IsUtf8-encode c each.0) (pieces_utf8 defs zero cs each.1)
      | Some h ↦ IsUtf8-append (value_or (defs (encodes h.name)) (encodes (c ∷ take h.taken cs))) _
          (value_or_utf8 (defs (encodes h.name)) _ (utf8_of (c ∷ take h.taken cs) (and_from (scalar c) (scalars (take h.taken cs)) each.0 (name_in_front h.taken cs each.1))))
          (pieces_utf8 defs h.taken cs each.1)
    ]

replaced_is_one_line : (defs : Definitions) (line : List ℕ) → IsOneLine line → IsOneLine (replaced defs line)
unfolding replaced replaced_from
replaced_is_one_line defs line h = (pieces_utf8 defs 0 (chars line) (scalars-chars line h.0), replaced_holds_no_newline defs line h.0 h.1)

-- ---- the text that a shown line becomes
abbrev HoldsNoEnd : List ℕ → Type 0
HoldsNoEnd text = count_by is_end text ≡ 0

none_in_left : (xs ys : List (List ℕ)) → All HoldsNoEnd (xs ++ ys) → All HoldsNoEnd xs
none_in_left [] ys h = All-nil HoldsNoEnd
none_in_left (x ∷ xs) ys h = All-cons HoldsNoEnd x xs (All-head HoldsNoEnd x (xs ++ ys) h) (none_in_left xs ys (All-tail HoldsNoEnd x (xs ++ ys) h))

none_in_right : (xs ys : List (List ℕ)) → All HoldsNoEnd (xs ++ ys) → All HoldsNoEnd ys
none_in_right [] ys h = h
none_in_right (x ∷ xs) ys h = none_in_right xs ys (All-tail HoldsNoEnd x (xs ++ ys) h)

-- no declared path has a line end
abbrev DeclaresNoEnd : Declared → Type 0
DeclaresNoEnd declared = All (λ e. All HoldsNoEnd e.1) declared

no_ends_in_spaces : (n : ℕ) → count_by is_end (replicate n 32) ≡ 0
no_ends_in_spaces zero = refl
no_ends_in_spaces (suc n) = no_ends_in_both (32 ∷ []) (replicate n 32) refl (no_ends_in_spaces n)

one_end : (text : List ℕ) → count_by is_end text ≡ 0 → count_by is_end (end_line text) ≡ 1
one_end text e = sum_by-append (λ x. cond (is_end x) 1 0) text (10 ∷ []) ∙ ap (λ n. n + 1) e

no_ends_shown : (defs : Definitions) (known : Known) (l : Line) → IsOneLine l.text → DeclaresNoEnd known.declared → count_by is_end (shown_text defs known l) ≡ 0
no_ends_shown defs known l h d =
    let r = replaced_is_one_line defs l.text h in
    let text : List ℕ = substituted known.declared (tokens_of (replaced defs l.text)) in
    no_ends_in_both text (replicate (length l.text - length text) 32) (substituted_holds_no_newline known.declared (replaced defs l.text) r.0 r.1 d) (no_ends_in_spaces (length l.text - length text))

-- ---- the declarations of an import
path_declared : (declared : Declared) (key path : List ℕ) → DeclaresNoEnd declared → HoldsNoEnd path → DeclaresNoEnd (with_path declared key path)
path_declared [] key path d h = All-cons (λ e. All HoldsNoEnd e.1) (key, path ∷ []) [] (All-cons HoldsNoEnd path [] h (All-nil HoldsNoEnd)) (All-nil (λ e. All HoldsNoEnd e.1))
path_declared ((k, paths) ∷ more) key path d h =
    let first = All-head (λ e. All HoldsNoEnd e.1) (k, paths) more d in
    let rest = All-tail (λ e. All HoldsNoEnd e.1) (k, paths) more d in
    elim (bytes_eq k key) as (λ t. DeclaresNoEnd (cond t ((k, paths ++ path ∷ []) ∷ more) ((k, paths) ∷ with_path more key path))) [
      | true ↦ All-cons (λ e. All HoldsNoEnd e.1) (k, paths ++ path ∷ []) more (All-push HoldsNoEnd paths path first h) rest
      | false ↦ All-cons (λ e. All HoldsNoEnd e.1) (k, paths) (with_path more key path) first (path_declared more key path rest h)
    ]

leaves_declared : (declared : Declared) (leaves : List Leaf) → DeclaresNoEnd declared → All HoldsNoEnd (map (λ leaf. leaf.1) leaves) → DeclaresNoEnd (with_leaves declared leaves)
leaves_declared declared [] d h = d
leaves_declared declared ((key, path) ∷ more) d h =
    leaves_declared (with_path declared key path) more (path_declared declared key path d (All-head HoldsNoEnd path _ h)) (All-tail HoldsNoEnd path _ h)

-- ---- the text that a line becomes
-- a passage is one line, and after it no declared path has a line end
record Made (p : Passage) : Type 0 where
  one : count_by is_end p.0 ≡ 1
  declares : DeclaresNoEnd p.1.declared

-- a line that is shown has no line end
abbrev ShowsLine : Status → Type 0
ShowsLine (blanked l) = Unit {0}
ShowsLine (shown l) = IsOneLine l.text
ShowsLine (imported l taken) = Unit {0}
ShowsLine (noted f) = Unit {0}

piece_made : (defs : Definitions) (known : Known) (s : Status) → ShowsLine s → All HoldsNoEnd (paths_by s) → DeclaresNoEnd known.declared → IfOk (passage defs known s) Made
piece_made defs known (blanked l) h p d = record { one = one_end (spaces l) (no_ends_in_spaces (length l.text)); declares = d }
piece_made defs known (shown l) h p d =
    elim (first_ambiguous known.declared false (sites l.at (using_tokens defs l))) as (λ o. IfOk (shown_passage defs known l o) Made) [
      | Some place ↦ tt
      | None ↦ record { one = one_end (shown_text defs known l) (no_ends_shown defs known l h d); declares = d }
    ]
piece_made defs known (imported l taken) h p d =
    elim (import_leaves (import_text (l ∷ taken))) as (λ r. All HoldsNoEnd (paths_among r) → IfOk (imported_passage known l r) Made) [
      | Ok leaves ↦ λ q. record { one = one_end (spaces l) (no_ends_in_spaces (length l.text)); declares = leaves_declared known.declared leaves d q }
      | Err f ↦ λ q. tt
    ] p
piece_made defs known (noted f) h p d = tt

-- ---- the text that the lines become
abbrev HasEnds : ℕ → Result Output Fault → Type 0
HasEnds n r = IfOk r (λ o. count_by is_end o.text ≡ n)

ends_past : (text : List ℕ) (n : ℕ) (r : Result Output Fault) → count_by is_end text ≡ 1 → HasEnds n r → HasEnds (suc n) (prepend text r)
ends_past text n (Ok o) e h = sum_by-append (λ x. cond (is_end x) 1 0) text o.text ∙ omega arith
ends_past text n (Err f) e h = tt

ends_joined : (r : Result Passage Fault) (rest : Known → Result Output Fault) (n : ℕ) → IfOk r Made → ((known : Known) → DeclaresNoEnd known.declared → HasEnds n (rest known)) → HasEnds (suc n) (prepend_passage r rest)
ends_joined (Ok p) rest n m go = ends_past p.0 n (rest p.1) m.one (go p.1 m.declares)
ends_joined (Err f) rest n m go = tt

ends_at_end : (defs : Definitions) (known : Known) (end : ℕ) (is_open : Bool) → HasEnds 0 (written defs known (end_status end is_open))
ends_at_end defs known end true = tt
ends_at_end defs known end false = refl

shows_condition : (l : Line) (r : Result Bool Fault) → ShowsLine (condition_status l r)
shows_condition l (Ok b) = tt
shows_condition l (Err f) = tt

shows_stray : (l : Line) (r : Result Bool Fault) → ShowsLine (stray_status l r)
shows_stray l (Ok b) = tt
shows_stray l (Err f) = tt

shows_line : (defs : Definitions) (levels : List ScopeLevel) (l : Line) (k : LineKind) (more : List Line) → IsOneLine l.text → ShowsLine (step defs levels l k more).0
shows_line defs levels l (version true) more h = tt
shows_line defs levels l (version false) more h = tt
shows_line defs levels l (condition false c) more h = shows_condition l (evaluated defs l.at c)
shows_line defs [] l (condition true c) more h = shows_stray l (evaluated defs l.at c)
shows_line defs (x ∷ xs) l (condition true c) more h = shows_condition l (evaluated defs l.at c)
shows_line defs [] l endif more h = tt
shows_line defs (x ∷ xs) l endif more h = tt
shows_line defs levels l imports more h = elim (is_active levels) as (λ t. ShowsLine (cond t (imported l (taken (braces_after 0 l.covered) more)) (blanked l))) [ true ↦ tt | false ↦ tt ]
shows_line defs levels l (import_path name) more h = tt
shows_line defs levels l (define name value) more h = tt
shows_line defs levels l other more h = elim (is_active levels) as (λ t. ShowsLine (cond t (shown l) (blanked l))) [ true ↦ h | false ↦ tt ]

abbrev HasOneLine : Line → Type 0
HasOneLine l = IsOneLine l.text

ends_scanned : (defs : Definitions) (end : ℕ) (known : Known) (levels : List ScopeLevel) (n : ℕ) (ls : List Line) → All HasOneLine ls → All HoldsNoEnd (flat_map paths_by (scanned defs end levels n ls)) → DeclaresNoEnd known.declared
    → HasEnds (length ls) (written defs known (scanned defs end levels n ls))
ends_scanned defs end known levels zero [] h p d = ends_at_end defs known end (is_open levels)
ends_scanned defs end known levels (suc n) [] h p d = ends_at_end defs known end (is_open levels)
ends_scanned defs end known levels zero (l ∷ more) h p d =
    let k = kind_of l.covered in
    let s = (step defs levels l k more).0 in
    let rest = scanned defs end (step defs levels l k more).1 (opened levels l k) more in
    ends_joined (passage defs known s) (λ next. written defs next rest) (length more)
    (piece_made defs known s (shows_line defs levels l k more (All-head HasOneLine l more h)) (none_in_left (paths_by s) (flat_map paths_by rest) p) d)
    (λ next e. ends_scanned defs end next (step defs levels l k more).1 (opened levels l k) more (All-tail HasOneLine l more h) (none_in_right (paths_by s) (flat_map paths_by rest) p) e)
ends_scanned defs end known levels (suc n) (l ∷ more) h p d =
    let rest = scanned defs end levels (braces_after (suc n) l.covered) more in
    ends_past (end_line (spaces l)) (length more) (written defs known rest) (one_end (spaces l) (no_ends_in_spaces (length l.text))) (ends_scanned defs end known levels (braces_after (suc n) l.covered) more (All-tail HasOneLine l more h) p d)

-- ---- a whole text
lines_placed : (s : CommentState) (at : ℕ) (texts : List (List ℕ)) → All IsOneLine texts → All HasOneLine (placed at texts (covered_lines s texts))
lines_placed s at [] h = All-nil HasOneLine
lines_placed s at (x ∷ texts) h = All-cons HasOneLine _ _ (All-head IsOneLine x texts h) (lines_placed (cover s x).1 (next_place at x) texts (All-tail IsOneLine x texts h))

length-placed : (s : CommentState) (at : ℕ) (texts : List (List ℕ)) → length (placed at texts (covered_lines s texts)) ≡ length texts
length-placed s at [] = refl
length-placed s at (x ∷ texts) = ap (λ n. suc n) (length-placed (cover s x).1 (next_place at x) texts)

no_paths_at_end : (end : ℕ) (is_open : Bool) → flat_map paths_by (end_status end is_open) ≡ []
no_paths_at_end end true = refl
no_paths_at_end end false = refl

pub paths_scanned : (defs : Definitions) (end : ℕ) (text : List ℕ) → flat_map paths_by (scanned defs end [] 0 (source_lines text)) ≡ declared_paths defs text
unfolding declared_paths
paths_scanned defs end text =
    let b = reading defs (source_lines text) in
    ap (flat_map paths_by) (scanned_statuses defs end (source_lines text) b (IsReading-reading defs (source_lines text)))
    ∙ flat_map-append paths_by (statuses defs true b) (end_status end (is_unclosed b))
    ∙ ap (λ v. flat_map paths_by (statuses defs true b) ++ v) (no_paths_at_end end (is_unclosed b))
    ∙ append-nil (flat_map paths_by (statuses defs true b))

ends_preprocessed : (defs : Definitions) (text : List ℕ) → IsUtf8 text → All HoldsNoEnd (declared_paths defs text) → HasEnds (length (lines text)) (preprocessed defs text)
unfolding preprocessed
ends_preprocessed defs text u p =
    let ls = source_lines text in
    let end : ℕ = end_place 0 ls in
    let all = ends_scanned defs end nothing_known [] 0 ls (lines_placed Code 0 (lines text) (lines_are_lines text u)) (subst (All HoldsNoEnd) (sym (paths_scanned defs end text)) p) (All-nil (λ e. All HoldsNoEnd e.1)) in
    subst (λ r. HasEnds (length (lines text)) r) (scanned_reading defs end ls (reading defs ls) (IsReading-reading defs ls))
    (subst (λ n. HasEnds n (written defs nothing_known (scanned defs end [] 0 ls))) (length-placed Code 0 (lines text)) all)

-- if no declared path has a line end, the result has as many line ends as the text has lines
pub as_many_ends : (defs : Definitions) (text : List ℕ) (o : Output) → IsUtf8 text → preprocessed defs text ≡ Ok o
    → All (λ path. count_by (λ b. eqb b 10) path ≡ 0) (declared_paths defs text) → count_by (λ b. eqb b 10) o.text ≡ length (lines text)
as_many_ends defs text o u e p = subst (HasEnds (length (lines text))) e (ends_preprocessed defs text u p)
