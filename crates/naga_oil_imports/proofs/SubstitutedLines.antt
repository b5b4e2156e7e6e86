-- A text without a line end has none in its covered, cut or substituted form.
use Rattle.std.proofs.Common.{◌≡◌, ℕ, zero, suc, ◌+◌, ◌-◌, ◌<◌, ◌/◌, ◌%◌, ◌&&◌, nat_lt, Bool, true, false, cond, eqb, ltb, Option, Some, None, List, [], ◌∷◌, ◌++◌, length, get_or, take, codes, refl, sym, ap, subst, ◌∙◌, arith}
use borrow.Author.Tests.{eqb-true, ne_eqb}
use lib.Utf8.{encode, next}
use Rattle.std.specs.List.{All, AllByRecursion, count_by, flat_map, list_any, slice_split, onto_first}
use Rattle.std.specs.Option.{option_map, option_map_or}
use Rattle.std.specs.Char.{encode_utf8, is_whitespace, len_utf8}
use Rattle.std.specs.Str.{IsUtf8, NonePass, chars, encode_utf8_all}
use Rattle.std.specs.Str.Lines.{lines, lines_of_parts, strip_carriage_return}
use Rattle.std.proofs.lemmas.Str.{encodes-chars}
use Rattle.std.proofs.lemmas.List.Elements.{All-from_recursion, recursion_from_All}
use Rattle.std.proofs.lemmas.List.Sums.{sum_by-cons}
use Rattle.naga_oil_lines.specs.declared.comment_strip_iter.CommentState.{CommentState}
use Rattle.naga_oil_lines.specs.declared.comment_strip_iter.CommentState.TheVariants.{Code, Block, Quote}
use Rattle.naga_oil_lines.specs.declared.comment_strip_iter.Mark.{Mark}
use Rattle.naga_oil_lines.specs.declared.comment_strip_iter.Mark.TheVariants.{LineComment, Open, Close, DoubleQuote}
use Rattle.naga_oil_lines.specs.Cover.{mark_at, spaces, deeper, shallower, past_quote, plain, Covered, with_front, cover}
use Rattle.naga_oil_lines.specs.CoveredLines.{covered_lines}
use Rattle.naga_oil_imports.specs.Declarations.{Declared, paths_of}
use Rattle.naga_oil_lines.specs.Decorate.{letter, letters, bits, base32, decorated_name}
use Rattle.naga_oil_words.specs.Marks.{module_mark}
use Rattle.naga_oil_imports.specs.Substituted.{cut_at_first, module_and_item, first_part, past_first, longer_path, paths_or, longer_paths, paths_for, path_text_by, path_text, keeps_next, token_text, substituted_from, substituted}
use Rattle.naga_oil_lines.specs.Tokens.{Lexeme, identifier, other, whitespace, starts_identifier, more_in_token, lexeme_at, lexemes}

abbrev is_end : ℕ → Bool
is_end b = eqb b 10

-- ---- bytes: none of them is a line end
abbrev None10 : List ℕ → Type 0
None10 bs = NonePass is_end bs

uncounted : (bs : List ℕ) → count_by is_end bs ≡ 0 → None10 bs
uncounted [] e = tt
uncounted (b ∷ bs) e =
    let parts : cond (is_end b) 1 0 + count_by is_end bs ≡ 0 = sym (sum_by-cons (λ x. cond (is_end x) 1 0) b bs) ∙ e in
    let first : is_end b ≡ false = elim (is_end b) as (λ t. cond t 1 0 + count_by is_end bs ≡ 0 → t ≡ false) [ true ↦ λ p. absurd (omega arith) | false ↦ λ p. refl ] parts in
    (first, uncounted bs (omega arith))

counted : (bs : List ℕ) → None10 bs → count_by is_end bs ≡ 0
counted [] h = refl
counted (b ∷ bs) h = sum_by-cons (λ x. cond (is_end x) 1 0) b bs ∙ ap (λ t. cond t 1 0 + count_by is_end bs) h.0 ∙ ap (λ n. 0 + n) (counted bs h.1)

both : (xs ys : List ℕ) → None10 xs → None10 ys → None10 (xs ++ ys)
both [] ys f g = g
both (x ∷ xs) ys f g = (f.0, both xs ys f.1 g)

no_end : (b : ℕ) → 10 < b → is_end b ≡ false
no_end b above = ne_eqb b 10 (λ e. absurd (omega arith))

front : (n : ℕ) (bs : List ℕ) → None10 bs → None10 (take n bs)
front zero bs h = tt
front (suc n) [] h = tt
front (suc n) (b ∷ bs) h = (h.0, front n bs h.1)

-- ---- characters
in_character : (c : ℕ) → is_end c ≡ false → None10 (encode_utf8 c)
unfolding encode
in_character c e =
    let last : (b : ℕ) → None10 ((128 + b % 64) ∷ []) = λ (b : ℕ). (no_end (128 + b % 64) (omega arith), tt) in
    let three : (b d : ℕ) → None10 ((128 + b % 64) ∷ (128 + d % 64) ∷ []) = λ (b : ℕ) (d : ℕ). (no_end (128 + b % 64) (omega arith), last d) in
    elim (ltb c 128) as (λ t. None10 (cond t (c ∷ []) (cond (ltb c 2048) ((192 + c / 64) ∷ next c ∷ []) (cond (ltb c 65536) ((224 + c / 4096) ∷ next (c / 64) ∷ next c ∷ []) ((240 + c / 262144) ∷ next (c / 4096) ∷ next (c / 64) ∷ next c ∷ []))))) [
      | true ↦ (e, tt)
      | false ↦ elim (ltb c 2048) as (λ t. None10 (cond t ((192 + c / 64) ∷ next c ∷ []) (cond (ltb c 65536) ((224 + c / 4096) ∷ next (c / 64) ∷ next c ∷ []) ((240 + c / 262144) ∷ next (c / 4096) ∷ next (c / 64) ∷ next c ∷ [])))) [
        | true ↦ (no_end (192 + c / 64) (omega arith), last c)
        | false ↦ elim (ltb c 65536) as (λ t. None10 (cond t ((224 + c / 4096) ∷ next (c / 64) ∷ next c ∷ []) ((240 + c / 262144) ∷ next (c / 4096) ∷ next (c / 64) ∷ next c ∷ []))) [
          | true ↦ (no_end (224 + c / 4096) (omega arith), three (c / 64) c)
          | false ↦ (no_end (240 + c / 262144) (omega arith), (no_end (next (c / 4096)) (omega arith), three (c / 64) c))
        ]
      ]
    ]

in_text : (cs : List ℕ) → None10 cs → None10 (encode_utf8_all cs)
in_text [] h = tt
in_text (c ∷ cs) h = both (encode_utf8 c) (encode_utf8_all cs) (in_character c h.0) (in_text cs h.1)

front_of : (xs ys : List ℕ) → None10 (xs ++ ys) → None10 xs
front_of [] ys h = tt
front_of (x ∷ xs) ys h = (h.0, front_of xs ys h.1)

back_of : (xs ys : List ℕ) → None10 (xs ++ ys) → None10 ys
back_of [] ys h = h
back_of (x ∷ xs) ys h = back_of xs ys h.1

of_character : (c : ℕ) → None10 (encode_utf8 c) → is_end c ≡ false
unfolding encode
of_character c h =
    elim (is_end c) as (λ t. is_end c ≡ t → t ≡ false) [
      | true ↦ λ q. let ten : None10 (encode_utf8 10) = subst (λ x. None10 (encode_utf8 x)) (eqb-true c 10 q) h in ten.0
      | false ↦ λ q. refl
    ] refl

of_text : (cs : List ℕ) → None10 (encode_utf8_all cs) → None10 cs
of_text [] h = tt
of_text (c ∷ cs) h = (of_character c (front_of (encode_utf8 c) (encode_utf8_all cs) h), of_text cs (back_of (encode_utf8 c) (encode_utf8_all cs) h))

of_chars : (bs : List ℕ) → IsUtf8 bs → None10 bs → None10 (chars bs)
of_chars bs u h = of_text (chars bs) (subst None10 (sym (encodes-chars bs u)) h)

-- ---- tokens
abbrev NoneInLexeme : Lexeme → Type 0
NoneInLexeme (identifier text at) = None10 text
NoneInLexeme (other c at) = is_end c ≡ false
NoneInLexeme (whitespace text at) = None10 text

abbrev NoneInTokens : List Lexeme → Type 0
NoneInTokens [] = Unit {0}
NoneInTokens (t ∷ ts) = NoneInLexeme t × NoneInTokens ts

in_lexeme : (at c : ℕ) (text : List ℕ) → is_end c ≡ false → None10 text → NoneInLexeme (lexeme_at at c text)
in_lexeme at c text e h =
    elim (starts_identifier c) as (λ t. NoneInLexeme (cond t (identifier text at) (cond (is_whitespace c) (whitespace text at) (other c at)))) [
      | true ↦ h
      | false ↦ elim (is_whitespace c) as (λ t. NoneInLexeme (cond t (whitespace text at) (other c at))) [ true ↦ h | false ↦ e ]
    ]

in_tokens : (told at : ℕ) (cs : List ℕ) → None10 cs → NoneInTokens (lexemes told at cs)
unfolding lexemes
in_tokens zero at [] h = tt
in_tokens (suc told) at [] h = tt
in_tokens (suc told) at (c ∷ cs) h = in_tokens told (at + len_utf8 c) cs h.1
in_tokens zero at (c ∷ cs) h = (
  in_lexeme at c _ h.0 (in_text (c ∷ take (more_in_token c cs) cs) (h.0, front (more_in_token c cs) cs h.1)),
  in_tokens (more_in_token c cs) (at + len_utf8 c) cs h.1,
)

-- ---- written names
in_letter : (n : ℕ) → is_end (letter n) ≡ false
in_letter n = elim (nat_lt n 26) as (λ t. is_end (cond t (65 + n) (50 + (n - 26))) ≡ false) [ true ↦ no_end (65 + n) (omega arith) | false ↦ no_end (50 + (n - 26)) (omega arith) ]

in_letters : (bs : List ℕ) → None10 (letters bs)
unfolding letters
in_letters [] = tt
in_letters (a ∷ []) = (in_letter _, tt)
in_letters (a ∷ b ∷ []) = (in_letter _, tt)
in_letters (a ∷ b ∷ c ∷ []) = (in_letter _, tt)
in_letters (a ∷ b ∷ c ∷ d ∷ []) = (in_letter _, tt)
in_letters (a ∷ b ∷ c ∷ d ∷ e ∷ more) = (in_letter _, in_letters more)

in_decorated : (module_name item : List ℕ) → None10 item → None10 (decorated_name (Some module_name) item)
in_decorated module_name item h =
    let marked : None10 (item ++ module_mark) = both item module_mark h (uncounted module_mark refl) in
    let coded : None10 ((item ++ module_mark) ++ base32 module_name) = both (item ++ module_mark) (base32 module_name) marked (in_letters (flat_map (bits 8) module_name)) in
    both ((item ++ module_mark) ++ base32 module_name) (codes "X") coded (uncounted (codes "X") refl)

-- ---- parts of a path
abbrev NoneInParts : Option (List ℕ × List ℕ) → Type 0
NoneInParts None = Unit {0}
NoneInParts (Some p) = None10 p.0 × None10 p.1

in_parts : (path : List ℕ) → None10 path → NoneInParts (module_and_item path)
in_parts [] h = tt
in_parts (a ∷ []) h = tt
in_parts (a ∷ b ∷ more) h =
    elim (module_and_item (b ∷ more)) as (λ o. NoneInParts o → NoneInParts (elim o [ Some p ↦ Some (a ∷ p.0, p.1) | None ↦ cond (eqb a 58 && eqb b 58) (Some ([], more)) None ])) [
      | Some p ↦ λ k. ((h.0, k.0), k.1)
      | None ↦ λ k. elim (eqb a 58 && eqb b 58) as (λ t. NoneInParts (cond t (Some ([], more)) None)) [ true ↦ (tt, h.1.1) | false ↦ tt ]
    ] (in_parts (b ∷ more) h.1)

in_first_cut : (name : List ℕ) → None10 name → NoneInParts (cut_at_first name)
in_first_cut [] h = tt
in_first_cut (a ∷ []) h = tt
in_first_cut (a ∷ b ∷ more) h =
    elim (eqb a 58 && eqb b 58) as (λ t. NoneInParts (cond t (Some ([], more)) (option_map (λ p. (a ∷ p.0, p.1)) (cut_at_first (b ∷ more))))) [
      | true ↦ (tt, h.1.1)
      | false ↦ elim (cut_at_first (b ∷ more)) as (λ o. NoneInParts o → NoneInParts (option_map (λ p. (a ∷ p.0, p.1)) o)) [ None ↦ λ k. tt | Some p ↦ λ k. ((h.0, k.0), k.1) ] (in_first_cut (b ∷ more) h.1)
    ]

in_first_part : (name : List ℕ) → None10 name → None10 (first_part name)
in_first_part name h =
    elim (cut_at_first name) as (λ o. NoneInParts o → None10 (option_map_or (λ p. p.0) o name)) [ None ↦ λ k. h | Some p ↦ λ k. k.0 ] (in_first_cut name h)

in_after_first : (name : List ℕ) → None10 name → None10 (past_first name)
in_after_first name h =
    elim (cut_at_first name) as (λ o. NoneInParts o → None10 (option_map_or (λ p. p.1) o [])) [ None ↦ λ k. tt | Some p ↦ λ k. k.1 ] (in_first_cut name h)

-- ---- the paths of an identifier
abbrev NoneInPaths : List (List ℕ) → Type 0
NoneInPaths paths = AllByRecursion None10 paths

abbrev NoneInDeclared : Declared → Type 0
NoneInDeclared declared = AllByRecursion (λ e. NoneInPaths e.1) declared

in_extended : (path following : List ℕ) → None10 path → None10 following → None10 (longer_path path following)
in_extended path [] h k = h
in_extended path (c ∷ following) h k = both path (58 ∷ 58 ∷ c ∷ following) h (refl, (refl, k))

in_all_extended : (paths : List (List ℕ)) (following : List ℕ) → NoneInPaths paths → None10 following → NoneInPaths (longer_paths paths following)
in_all_extended [] following h k = tt
in_all_extended (path ∷ more) following h k = (in_extended path following h.0 k, in_all_extended more following h.1 k)

in_paths_of : (declared : Declared) (key : List ℕ) → NoneInDeclared declared → NoneInPaths (paths_of declared key)
in_paths_of [] key h = tt
in_paths_of (e ∷ more) key h = grind (arith, in_paths_of more key h.1)

in_paths_or : (paths : List (List ℕ)) (name : List ℕ) → NoneInPaths paths → None10 name → NoneInPaths (paths_or paths name)
in_paths_or [] name h k = (k, tt)
in_paths_or (path ∷ more) name h k = h

in_paths_for : (declared : Declared) (name : List ℕ) → NoneInDeclared declared → None10 name → NoneInPaths (paths_for declared name)
unfolding paths_for
in_paths_for declared name h k =
    in_all_extended _ (past_first name) (in_paths_or (paths_of declared (first_part name)) (first_part name) (in_paths_of declared (first_part name) h) (in_first_part name k)) (in_after_first name k)

-- ---- the text that is written
in_written_as : (name path : List ℕ) (o : Option (List ℕ × List ℕ)) → None10 name → None10 path → NoneInParts o → None10 (path_text_by name path o)
in_written_as name path (Some p) h k l = in_decorated p.0 p.1 l.1
in_written_as name path None h k l = elim (list_any (λ b. eqb b 34) path) as (λ t. None10 (cond t name path)) [ true ↦ h | false ↦ k ]

in_written : (name path : List ℕ) → None10 name → None10 path → None10 (path_text name path)
unfolding path_text
in_written name path h k = in_written_as name path (module_and_item path) h k (in_parts path k)

in_all_written : (name : List ℕ) (paths : List (List ℕ)) → None10 name → NoneInPaths paths → None10 (flat_map (path_text name) paths)
in_all_written name [] h k = tt
in_all_written name (path ∷ more) h k = both (path_text name path) _ (in_written name path h k.0) (in_all_written name more h k.1)

in_written_token : (declared : Declared) (kept : Bool) (t : Lexeme) → NoneInDeclared declared → NoneInLexeme t → None10 (token_text declared kept t)
in_written_token declared true (identifier text at) h k = k
in_written_token declared false (identifier text at) h k = in_all_written text (paths_for declared text) k (in_paths_for declared text h k)
in_written_token declared kept (other c at) h k = in_character c k
in_written_token declared kept (whitespace text at) h k = k

in_substituted : (declared : Declared) (kept : Bool) (tokens : List Lexeme) → NoneInDeclared declared → NoneInTokens tokens → None10 (substituted_from declared kept tokens)
in_substituted declared kept [] h k = tt
in_substituted declared kept (t ∷ more) h k =
    both (token_text declared kept t) _ (in_written_token declared kept t h k.0) (in_substituted declared (keeps_next t) more h k.1)

all_paths : (paths : List (List ℕ)) → AllByRecursion (λ path. count_by (λ b. eqb b 10) path ≡ 0) paths → NoneInPaths paths
all_paths [] h = tt
all_paths (path ∷ more) h = (uncounted path h.0, all_paths more h.1)

all_declared : (declared : Declared) → AllByRecursion (λ e. All (λ path. count_by (λ b. eqb b 10) path ≡ 0) e.1) declared → NoneInDeclared declared
all_declared [] h = tt
all_declared (e ∷ more) h = (all_paths e.1 (recursion_from_All (λ path. count_by (λ b. eqb b 10) path ≡ 0) e.1 h.0), all_declared more h.1)

-- a text without a line end has none when its identifiers are substituted, if no declared path has one
pub substituted_holds_no_newline : (declared : Declared) (text : List ℕ) → IsUtf8 text → count_by (λ b. eqb b 10) text ≡ 0
    → All (λ e. All (λ path. count_by (λ b. eqb b 10) path ≡ 0) e.1) declared
    → count_by (λ b. eqb b 10) (substituted declared (lexemes 0 0 (chars text))) ≡ 0
substituted_holds_no_newline declared text u e h =
    counted _ (in_substituted declared false (lexemes 0 0 (chars text))
    (all_declared declared (recursion_from_All (λ e. All (λ path. count_by (λ b. eqb b 10) path ≡ 0) e.1) declared h))
    (in_tokens 0 0 (chars text) (of_chars text u (uncounted text e))))

-- ---- lines of a text
onto_part : (x : ℕ) (parts : List (List ℕ)) → is_end x ≡ false → NoneInPaths parts → NoneInPaths (onto_first x parts)
onto_part x [] e h = ((e, tt), tt)
onto_part x (part ∷ parts) e h = ((e, h.0), h.1)

in_split : (bs : List ℕ) → NoneInPaths (slice_split is_end bs)
in_split [] = (tt, tt)
in_split (b ∷ bs) =
    elim (is_end b) as (λ t. is_end b ≡ t → NoneInPaths (cond t ([] ∷ slice_split is_end bs) (onto_first b (slice_split is_end bs)))) [
      | true ↦ λ e. (tt, in_split bs)
      | false ↦ λ e. onto_part b (slice_split is_end bs) e (in_split bs)
    ] refl

in_stripped : (line : List ℕ) → None10 line → None10 (strip_carriage_return line)
in_stripped line h =
    elim (eqb (get_or line (length line - 1) 0) 13) as (λ t. None10 (cond t (take (length line - 1) line) line)) [ true ↦ front (length line - 1) line h | false ↦ h ]

in_lines_of_parts : (parts : List (List ℕ)) → NoneInPaths parts → NoneInPaths (lines_of_parts parts)
in_lines_of_parts [] h = tt
in_lines_of_parts (x ∷ []) h = elim (eqb (length x) 0) as (λ t. NoneInPaths (cond t [] (x ∷ []))) [ true ↦ tt | false ↦ h ]
in_lines_of_parts (x ∷ y ∷ more) h = (in_stripped x h.0, in_lines_of_parts (y ∷ more) h.1)

all_counted : (texts : List (List ℕ)) → NoneInPaths texts → AllByRecursion (λ text. count_by (λ b. eqb b 10) text ≡ 0) texts
all_counted [] h = tt
all_counted (text ∷ more) h = (counted text h.0, all_counted more h.1)

-- a line of a text has no line end
pub lines_hold_no_newline : (text : List ℕ) → All (λ line. count_by (λ b. eqb b 10) line ≡ 0) (lines text)
lines_hold_no_newline text =
    All-from_recursion (λ line. count_by (λ b. eqb b 10) line ≡ 0) (lines text) (all_counted (lines text) (in_lines_of_parts (slice_split is_end text) (in_split text)))

-- ---- covered lines
in_spaces : (n : ℕ) → None10 (spaces n)
in_spaces zero = tt
in_spaces (suc n) = (refl, in_spaces n)

in_plain : (s : CommentState) (bs : List ℕ) → None10 bs → None10 (plain s bs)
in_plain Code bs h = h
in_plain (Block depth) bs h = in_spaces (length bs)
in_plain Quote bs h = h

-- the steps of `cover`, by the mark
abbrev last_covered : CommentState → ℕ → Option Mark → Covered
last_covered s a o = elim o [ None ↦ with_front (plain s (a ∷ [])) ([], s) | Some m ↦ with_front (a ∷ []) ([], past_quote s) ]

abbrev first_covered : CommentState → (a b : ℕ) → List ℕ → Option Mark → Covered
first_covered s a b bs o = elim o [
  | None ↦ with_front (plain s (a ∷ [])) (cover s (b ∷ bs))
  | Some LineComment ↦ with_front (spaces (length (a ∷ b ∷ bs))) ([], s)
  | Some Open ↦ with_front (spaces 2) (cover (deeper s) bs)
  | Some Close ↦ with_front (spaces 2) (cover (shallower s) bs)
  | Some DoubleQuote ↦ with_front (a ∷ []) (cover (past_quote s) (b ∷ bs))
]

in_last : (s : CommentState) (a : ℕ) → None10 (a ∷ []) → (o : Option Mark) → None10 ((last_covered s a o).0)
in_last s a h None = both (plain s (a ∷ [])) [] (in_plain s (a ∷ []) h) tt
in_last s a h (Some m) = h

in_first : (s : CommentState) (a b : ℕ) (bs : List ℕ) → None10 (a ∷ b ∷ bs) → ((t : CommentState) → None10 ((cover t (b ∷ bs)).0)) → ((t : CommentState) → None10 ((cover t bs).0))
    → (o : Option Mark) → None10 ((first_covered s a b bs o).0)
in_first s a b bs h one two None = both (plain s (a ∷ [])) ((cover s (b ∷ bs)).0) (in_plain s (a ∷ []) (h.0, tt)) (one s)
in_first s a b bs h one two (Some LineComment) = both (spaces (length (a ∷ b ∷ bs))) [] (in_spaces (length (a ∷ b ∷ bs))) tt
in_first s a b bs h one two (Some Open) = both (spaces 2) ((cover (deeper s) bs).0) (in_spaces 2) (two (deeper s))
in_first s a b bs h one two (Some Close) = both (spaces 2) ((cover (shallower s) bs).0) (in_spaces 2) (two (shallower s))
in_first s a b bs h one two (Some DoubleQuote) = (h.0, one (past_quote s))

in_cover : (s : CommentState) (bs : List ℕ) → None10 bs → None10 ((cover s bs).0)
unfolding cover
in_cover s [] h = tt
in_cover s (a ∷ []) h = in_last s a h (mark_at s (a ∷ []))
in_cover s (a ∷ b ∷ bs) h = in_first s a b bs h (λ t. in_cover t (b ∷ bs) h.1) (λ t. in_cover t bs h.1.1) (mark_at s (a ∷ b ∷ bs))

in_covered_lines : (s : CommentState) (texts : List (List ℕ)) → NoneInPaths texts → NoneInPaths (covered_lines s texts)
in_covered_lines s [] h = tt
in_covered_lines s (line ∷ more) h = (in_cover s line h.0, in_covered_lines ((cover s line).1) more h.1)

-- a line without a line end has none when its comments are covered
pub cover_holds_no_newline : (s : CommentState) (line : List ℕ) → count_by (λ b. eqb b 10) line ≡ 0 → count_by (λ b. eqb b 10) ((cover s line).0) ≡ 0
cover_holds_no_newline s line e = counted ((cover s line).0) (in_cover s line (uncounted line e))

-- many lines, and those of a text, likewise
pub covered_lines_hold_no_newline : (s : CommentState) (texts : List (List ℕ)) → All (λ line. count_by (λ b. eqb b 10) line ≡ 0) texts
    → All (λ line. count_by (λ b. eqb b 10) line ≡ 0) (covered_lines s texts)
covered_lines_hold_no_newline s texts h =
    All-from_recursion (λ line. count_by (λ b. eqb b 10) line ≡ 0) (covered_lines s texts)
    (all_counted (covered_lines s texts) (in_covered_lines s texts (all_paths texts (recursion_from_All (λ line. count_by (λ b. eqb b 10) line ≡ 0) texts h))))

pub covered_text_holds_no_newline : (s : CommentState) (text : List ℕ) → All (λ line. count_by (λ b. eqb b 10) line ≡ 0) (covered_lines s (lines text))
covered_text_holds_no_newline s text = covered_lines_hold_no_newline s (lines text) (lines_hold_no_newline text)
