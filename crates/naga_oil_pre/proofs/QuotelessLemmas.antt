-- If a text has no `"`, no path that its imports declare has a line end.
use Rattle.std.proofs.Common.{◌≡◌, ℕ, zero, suc, ◌+◌, ◌&&◌, ◌||◌, not, Bool, true, false, cond, eqb, nat_eq, nat_le, Result, Ok, Err, List, [], ◌∷◌, ◌++◌, map, filter, length, take, drop, codes, bytes_eq, refl, ap, subst, ◌∙◌}
use borrow.Author.Tests.{eqb-true}
use Rattle.std.specs.Prelude.{All, IfOk}
use Rattle.std.specs.List.{AllByRecursion, flat_map, list_any, ends_with, concat, count_by, prefix_len}
use Rattle.std.proofs.lemmas.Bool.{and_parts}
use Rattle.std.specs.Char.{is_whitespace, len_utf8}
use Rattle.std.specs.Str.{IsUtf8, NonePass, NoCharPasses, chars, encode_utf8_all}
use Rattle.std.proofs.lemmas.List.Elements.{All-cons, All-nil, All-head, All-tail, All-append}
use Rattle.unicode_ident.specs.Ident.{is_xid_start, is_xid_continue}
use Rattle.unicode_ident.proofs.Computing.{unicode_ident}
use Rattle.naga_oil_lines.specs.Tokens.{Lexeme, identifier, other, whitespace, tail_len, more_in_token, lexeme_at, lexemes, is_whitespace_lexeme, emit as emitted}
use Rattle.naga_oil_imports.specs.Leaves.{SyntaxFault, Alias, no_alias, as_name, lacking, alias_after, alias_len, ImportPart, head, leaf, close, nothing, wrong, before_brace, unit_part, unit_len, at_semicolon, mark_part, parts, is_open, open_heads, Leaf, part_leaves, at_end, is_old_head, then_leaves, leaves_of, after_hash, after_import, line_leaves, import_leaves, key_of}
use Rattle.naga_oil_conditions.specs.declared.scope.ScopeLevel.{ScopeLevel}
use Rattle.naga_oil_conditions.specs.Line.{Line, source_lines}
use Rattle.naga_oil_conditions.specs.Kind.{LineKind, version, condition, endif, imports, import_path, define, other as other_line, kind_of}
use Rattle.naga_oil_conditions.specs.Fault.{Fault, Definitions, evaluated}
use Rattle.naga_oil_pre.specs.Reading.{braces_after, taken}
use Rattle.naga_oil_pre.specs.Preprocessed.{blanked, shown, imported, condition_status, stray_status, end_status, end_line, import_text}
use Rattle.naga_oil_conditions.specs.Scope.{is_active, is_open as has_open}
use Rattle.naga_oil_pre.specs.Step.{step, opened, scanned}
use Rattle.naga_oil_pre.specs.LineEnds.{paths_among, paths_by, declared_paths}
use Rattle.naga_oil_conditions.proofs.ReplacedLemmas.{no_ends_in_both, no_ends_in_text}
use Rattle.naga_oil_pre.proofs.LineEndLemmas.{paths_scanned}
use Rattle.naga_oil_pre.proofs.QuotelessTexts.{Quoteless, none_quoted, both, empty, one_end, IsQuotelessLine, source_quoteless}

abbrev is_end : ℕ → Bool
is_end b = eqb b 10

abbrev is_quote : ℕ → Bool
is_quote c = eqb c 34

abbrev HoldsNoEnd : List ℕ → Type 0
HoldsNoEnd text = count_by is_end text ≡ 0

-- ---- tokens: no identifier has a line end
no_start : (c : ℕ) → is_xid_start c ≡ true → is_end c ≡ false
unfolding unicode_ident
no_start c e =
    elim (is_end c) as (λ t. is_end c ≡ t → t ≡ false) [
      | true ↦ λ q. let ten : is_xid_start 10 ≡ true = subst (λ x. is_xid_start x ≡ true) (eqb-true c 10 q) e in cc
      | false ↦ λ q. refl
    ] refl

no_continue : (c : ℕ) → is_xid_continue c ≡ true → is_end c ≡ false
unfolding unicode_ident
no_continue c e =
    elim (is_end c) as (λ t. is_end c ≡ t → t ≡ false) [
      | true ↦ λ q. let ten : is_xid_continue 10 ≡ true = subst (λ x. is_xid_continue x ≡ true) (eqb-true c 10 q) e in cc
      | false ↦ λ q. refl
    ] refl

is_other : (c d : ℕ) → eqb c d ≡ true → eqb d 10 ≡ false → is_end c ≡ false
is_other c d e f = ap (λ x. eqb x 10) (eqb-true c d e) ∙ f

continued_holds_none : (cs : List ℕ) → NonePass is_quote cs → NonePass is_end (take (tail_len false cs) cs)
unfolding tail_len
continued_holds_none [] h = tt
continued_holds_none (c ∷ []) h =
    rw h.0 (elim (is_xid_continue c) as (λ t. is_xid_continue c ≡ t → NonePass is_end (take (cond t 1 0) (c ∷ []))) [ true ↦ λ e. (no_continue c e, tt) | false ↦ λ e. tt ] refl)
continued_holds_none (c ∷ d ∷ cs) h =
    rw h.0
    (elim (is_xid_continue c) as (λ t. is_xid_continue c ≡ t → NonePass is_end (take (cond t (suc (tail_len false (d ∷ cs))) (cond (eqb c 58 && eqb d 58) (suc (suc (tail_len false cs))) 0)) (c ∷ d ∷ cs))) [
      | true ↦ λ e. (no_continue c e, continued_holds_none (d ∷ cs) h.1)
      | false ↦ λ e. elim (eqb c 58 && eqb d 58) as (λ t. (eqb c 58 && eqb d 58) ≡ t → NonePass is_end (take (cond t (suc (suc (tail_len false cs))) 0) (c ∷ d ∷ cs))) [
        | true ↦ λ f. let each = and_parts (eqb c 58) (eqb d 58) f in (is_other c 58 each.0 refl, (is_other d 58 each.1 refl, continued_holds_none cs h.1.1))
        | false ↦ λ f. tt
      ] refl
    ] refl)

abbrev NoEndIn : Lexeme → Type 0
NoEndIn (identifier text at) = HoldsNoEnd text
NoEndIn (other c at) = Unit {0}
NoEndIn (whitespace text at) = Unit {0}

no_end_at : (at c : ℕ) (cs : List ℕ) → NonePass is_quote (c ∷ cs) → NoEndIn (lexeme_at at c (encode_utf8_all (c ∷ take (more_in_token c cs) cs)))
unfolding more_in_token
no_end_at at c cs h =
    rw h.0
    (elim (is_xid_start c) as (λ t. is_xid_start c ≡ t → NoEndIn (let text = encode_utf8_all (c ∷ take (cond (t || false) (tail_len false cs) (cond (is_whitespace c) (prefix_len is_whitespace cs) 0)) cs) in cond (t || false) (identifier text at) (cond (is_whitespace c) (whitespace text at) (other c at)))) [
      | true ↦ λ e. no_ends_in_text (c ∷ take (tail_len false cs) cs) (no_start c e, continued_holds_none cs h.1)
      | false ↦ λ e. elim (is_whitespace c) as (λ t. NoEndIn (let text = encode_utf8_all (c ∷ take (cond t (prefix_len is_whitespace cs) 0) cs) in cond t (whitespace text at) (other c at))) [ true ↦ tt | false ↦ tt ]
    ] refl)

abbrev NoEndAmong : List Lexeme → Type 0
NoEndAmong ts = AllByRecursion NoEndIn ts

no_end_among : (told at : ℕ) (cs : List ℕ) → NonePass is_quote cs → NoEndAmong (lexemes told at cs)
unfolding lexemes
no_end_among zero at [] h = tt
no_end_among (suc told) at [] h = tt
no_end_among (suc told) at (c ∷ cs) h = no_end_among told (at + len_utf8 c) cs h.1
no_end_among zero at (c ∷ cs) h = (no_end_at at c cs h, no_end_among (more_in_token c cs) (at + len_utf8 c) cs h.1)

no_end_emitted : (ts : List Lexeme) → NoEndAmong ts → NoEndAmong (filter (λ t. not (is_whitespace_lexeme t)) ts)
no_end_emitted [] h = tt
no_end_emitted (t ∷ ts) h =
    elim (not (is_whitespace_lexeme t)) as (λ b. NoEndAmong (cond b (t ∷ filter (λ x. not (is_whitespace_lexeme x)) ts) (filter (λ x. not (is_whitespace_lexeme x)) ts))) [
      | true ↦ (h.0, no_end_emitted ts h.1)
      | false ↦ no_end_emitted ts h.1
    ]

no_end_after_hash : (end : ℕ) (ts : List Lexeme) → NoEndAmong ts → IfOk (after_hash end ts) NoEndAmong
no_end_after_hash end [] h = tt
no_end_after_hash end (identifier word at ∷ ts) h =
    elim (bytes_eq word (codes "import")) as (λ t. IfOk (let r : Result (List Lexeme) SyntaxFault = cond t (Ok ts) (Err (codes "expected `#import`", at)) in r) NoEndAmong) [ true ↦ h.1 | false ↦ tt ]
no_end_after_hash end (other c at ∷ ts) h = tt
no_end_after_hash end (whitespace text at ∷ ts) h = tt

no_end_after_import : (end : ℕ) (ts : List Lexeme) → NoEndAmong ts → IfOk (after_import end ts) NoEndAmong
no_end_after_import end [] h = tt
no_end_after_import end (identifier word at ∷ ts) h = tt
no_end_after_import end (other c at ∷ ts) h =
    elim (eqb c 35) as (λ t. IfOk (cond t (after_hash end ts) (Err (codes "expected `#import`", at))) NoEndAmong) [ true ↦ no_end_after_hash end ts h.1 | false ↦ tt ]
no_end_after_import end (whitespace text at ∷ ts) h = tt

-- ---- parts
abbrev NoEndInPart : ImportPart → Type 0
NoEndInPart (head is_old text) = HoldsNoEnd text
NoEndInPart (leaf key name) = HoldsNoEnd name
NoEndInPart (close at) = Unit {0}
NoEndInPart nothing = Unit {0}
NoEndInPart (wrong f) = Unit {0}

no_end_before_brace : (name : List ℕ) (at : ℕ) → HoldsNoEnd name → NoEndInPart (before_brace name at)
no_end_before_brace name at h =
    elim (ends_with nat_eq name (codes "::")) as (λ t. NoEndInPart (cond t (head false name) (wrong (codes "open brace must follow `::`", at)))) [ true ↦ h | false ↦ tt ]

no_end_in_named : (name key : List ℕ) (c at : ℕ) → HoldsNoEnd name → NoEndInPart (cond (eqb c 123) (before_brace name at) (leaf key name))
no_end_in_named name key c at h = elim (eqb c 123) as (λ t. NoEndInPart (cond t (before_brace name at) (leaf key name))) [ true ↦ no_end_before_brace name at h | false ↦ h ]

no_end_in_unit : (name : List ℕ) (a : Alias) (ts : List Lexeme) → HoldsNoEnd name → NoEndInPart (unit_part name a ts)
no_end_in_unit name (lacking at) ts h = tt
no_end_in_unit name no_alias [] h = h
no_end_in_unit name (as_name alias) [] h = h
no_end_in_unit name no_alias (identifier next at ∷ ts) h = no_ends_in_both name (codes "::") h refl
no_end_in_unit name (as_name alias) (identifier next at ∷ ts) h = no_ends_in_both name (codes "::") h refl
no_end_in_unit name no_alias (other c at ∷ ts) h = no_end_in_named name (key_of name no_alias) c at h
no_end_in_unit name (as_name alias) (other c at ∷ ts) h = no_end_in_named name alias c at h
no_end_in_unit name no_alias (whitespace text at ∷ ts) h = h
no_end_in_unit name (as_name alias) (whitespace text at ∷ ts) h = h

no_end_at_semicolon : (ts : List Lexeme) → NoEndInPart (at_semicolon ts)
no_end_at_semicolon [] = tt
no_end_at_semicolon (t ∷ ts) = tt

no_end_in_mark : (c at : ℕ) (ts : List Lexeme) → NoEndInPart (mark_part c at ts)
no_end_in_mark c at ts = go (eqb c 44) (eqb c 125) (eqb c 123) (eqb c 59)
  where
    go : (x y z w : Bool) → NoEndInPart (cond x nothing (cond y (close at) (cond z (wrong (codes "open brace must follow `::`", at)) (cond w (at_semicolon ts) (wrong (codes "unexpected token", at))))))
    go true y z w = tt
    go false true z w = tt
    go false false true w = tt
    go false false false true = no_end_at_semicolon ts
    go false false false false = tt

abbrev NoEndInParts : List ImportPart → Type 0
NoEndInParts ps = AllByRecursion NoEndInPart ps

no_end_in_parts : (told : ℕ) (ts : List Lexeme) → NoEndAmong ts → NoEndInParts (parts told ts)
unfolding parts
no_end_in_parts zero [] h = tt
no_end_in_parts (suc told) [] h = tt
no_end_in_parts (suc told) (t ∷ ts) h = no_end_in_parts told ts h.1
no_end_in_parts zero (identifier name at ∷ ts) h = (no_end_in_unit name (alias_after ts) (drop (alias_len (alias_after ts)) ts) h.0, no_end_in_parts (unit_len ts) ts h.1)
no_end_in_parts zero (other c at ∷ ts) h = (no_end_in_mark c at ts, no_end_in_parts zero ts h.1)
no_end_in_parts zero (whitespace text at ∷ ts) h = (tt, no_end_in_parts zero ts h.1)

-- ---- leaves
abbrev NoEndInTexts : List (List ℕ) → Type 0
NoEndInTexts texts = AllByRecursion HoldsNoEnd texts

no_end_in_heads : (ps : List ImportPart) → NoEndInParts ps → NoEndInTexts (open_heads ps)
no_end_in_heads [] h = tt
no_end_in_heads (head is_old text ∷ ps) h =
    elim (is_open ps) as (λ t. NoEndInTexts (cond t (text ∷ open_heads ps) (open_heads ps))) [ true ↦ (h.0, no_end_in_heads ps h.1) | false ↦ no_end_in_heads ps h.1 ]
no_end_in_heads (leaf key name ∷ ps) h = no_end_in_heads ps h.1
no_end_in_heads (close at ∷ ps) h = no_end_in_heads ps h.1
no_end_in_heads (nothing ∷ ps) h = no_end_in_heads ps h.1
no_end_in_heads (wrong f ∷ ps) h = no_end_in_heads ps h.1

no_end_in_concat : (texts : List (List ℕ)) → NoEndInTexts texts → HoldsNoEnd (concat texts)
no_end_in_concat [] h = refl
no_end_in_concat (text ∷ more) h = no_ends_in_both text (concat more) h.0 (no_end_in_concat more h.1)

abbrev NoEndInLeaves : List Leaf → Type 0
NoEndInLeaves leaves = All HoldsNoEnd (map (λ l. l.1) leaves)

no_end_added : (before : List ImportPart) (p : ImportPart) → NoEndInParts before → NoEndInPart p → IfOk (part_leaves before p) NoEndInLeaves
no_end_added before (head is_old text) h k = All-nil HoldsNoEnd
no_end_added before (leaf key name) h k =
    All-cons HoldsNoEnd (concat (open_heads before) ++ name) [] (no_ends_in_both (concat (open_heads before)) name (no_end_in_concat (open_heads before) (no_end_in_heads before h)) k) (All-nil HoldsNoEnd)
no_end_added before (close at) h k =
    elim (open_heads before) as (λ v. IfOk (let r : Result (List Leaf) SyntaxFault = elim v [ [] ↦ Err (codes "close brace without open", at) | x ∷ xs ↦ Ok [] ] in r) NoEndInLeaves) [ [] ↦ tt | x ∷ xs ↦ All-nil HoldsNoEnd ]
no_end_added before nothing h k = All-nil HoldsNoEnd
no_end_added before (wrong f) h k = tt

no_end_at_end : (end : ℕ) (before : List ImportPart) → IfOk (at_end end before) NoEndInLeaves
no_end_at_end end before =
    elim (nat_le (length (open_heads before)) (cond (list_any is_old_head before) 1 0)) as (λ t. IfOk (let r : Result (List Leaf) SyntaxFault = cond t (Ok []) (Err (codes "missing close brace", end)) in r) NoEndInLeaves) [ true ↦ All-nil HoldsNoEnd | false ↦ tt ]

no_end_then : (r s : Result (List Leaf) SyntaxFault) → IfOk r NoEndInLeaves → IfOk s NoEndInLeaves → IfOk (then_leaves r s) NoEndInLeaves
no_end_then (Err f) s h k = tt
no_end_then (Ok ls) (Err f) h k = tt
no_end_then (Ok ls) (Ok more) h k = go ls h
  where
    go : (xs : List Leaf) → NoEndInLeaves xs → NoEndInLeaves (xs ++ more)
    go [] p = k
    go (x ∷ xs) p = All-cons HoldsNoEnd x.1 _ (All-head HoldsNoEnd x.1 (map (λ l. l.1) xs) p) (go xs (All-tail HoldsNoEnd x.1 (map (λ l. l.1) xs) p))

one_part_more : (before : List ImportPart) (p : ImportPart) → NoEndInParts before → NoEndInPart p → NoEndInParts (before ++ p ∷ [])
one_part_more [] p h k = (k, tt)
one_part_more (q ∷ before) p h k = (h.0, one_part_more before p h.1 k)

no_end_in_leaves : (end : ℕ) (before ps : List ImportPart) → NoEndInParts before → NoEndInParts ps → IfOk (leaves_of end before ps) NoEndInLeaves
unfolding leaves_of
no_end_in_leaves end before [] h k = no_end_at_end end before
no_end_in_leaves end before (p ∷ ps) h k =
    no_end_then (part_leaves before p) (leaves_of end (before ++ p ∷ []) ps) (no_end_added before p h k.0) (no_end_in_leaves end (before ++ p ∷ []) ps (one_part_more before p h k.0) k.1)

no_end_in_line : (end : ℕ) (ts : List Lexeme) → NoEndAmong ts → IfOk (line_leaves end ts) NoEndInLeaves
unfolding line_leaves
no_end_in_line end ts h =
    elim (after_import end ts) as (λ r. IfOk r NoEndAmong → IfOk (elim r [ Ok following ↦ leaves_of end [] (parts 0 following) | Err f ↦ Err f ]) NoEndInLeaves) [
      | Ok following ↦ λ k. no_end_in_leaves end [] (parts 0 following) tt (no_end_in_parts 0 following k)
      | Err f ↦ λ k. tt
    ] (no_end_after_import end ts h)

no_end_in_paths : (r : Result (List Leaf) SyntaxFault) → IfOk r NoEndInLeaves → All HoldsNoEnd (paths_among r)
no_end_in_paths (Ok leaves) h = h
no_end_in_paths (Err f) h = All-nil HoldsNoEnd

no_end_in_import : (text : List ℕ) → Quoteless text → All HoldsNoEnd (paths_among (import_leaves text))
no_end_in_import text q =
    let ts = lexemes 0 0 (chars text) in
    no_end_in_paths (import_leaves text) (no_end_in_line (length text) (emitted false ts) (no_end_emitted ts (no_end_among 0 0 (chars text) (none_quoted text q))))

-- ---- the imports of a text
import_quoteless : (ls : List Line) → All IsQuotelessLine ls → Quoteless (import_text ls)
import_quoteless [] h = empty
import_quoteless (l ∷ ls) h =
    both (end_line l.covered) (import_text ls) (both l.covered (10 ∷ []) (All-head IsQuotelessLine l ls h) one_end) (import_quoteless ls (All-tail IsQuotelessLine l ls h))

taken_quoteless : (n : ℕ) (ls : List Line) → All IsQuotelessLine ls → All IsQuotelessLine (taken n ls)
taken_quoteless zero ls h = All-nil IsQuotelessLine
taken_quoteless (suc n) [] h = h
taken_quoteless (suc n) (l ∷ ls) h = All-cons IsQuotelessLine l _ (All-head IsQuotelessLine l ls h) (taken_quoteless (braces_after (suc n) l.covered) ls (All-tail IsQuotelessLine l ls h))

no_path_of_condition : (l : Line) (r : Result Bool Fault) → All HoldsNoEnd (paths_by (condition_status l r))
no_path_of_condition l (Ok b) = All-nil HoldsNoEnd
no_path_of_condition l (Err f) = All-nil HoldsNoEnd

no_path_of_stray : (l : Line) (r : Result Bool Fault) → All HoldsNoEnd (paths_by (stray_status l r))
no_path_of_stray l (Ok b) = All-nil HoldsNoEnd
no_path_of_stray l (Err f) = All-nil HoldsNoEnd

no_end_in_step : (defs : Definitions) (levels : List ScopeLevel) (l : Line) (k : LineKind) (more : List Line) → All IsQuotelessLine (l ∷ more) → All HoldsNoEnd (paths_by (step defs levels l k more).0)
no_end_in_step defs levels l (version true) more h = All-nil HoldsNoEnd
no_end_in_step defs levels l (version false) more h = All-nil HoldsNoEnd
no_end_in_step defs levels l (condition false c) more h = no_path_of_condition l (evaluated defs l.at c)
no_end_in_step defs [] l (condition true c) more h = no_path_of_stray l (evaluated defs l.at c)
no_end_in_step defs (x ∷ xs) l (condition true c) more h = no_path_of_condition l (evaluated defs l.at c)
no_end_in_step defs [] l endif more h = All-nil HoldsNoEnd
no_end_in_step defs (x ∷ xs) l endif more h = All-nil HoldsNoEnd
no_end_in_step defs levels l imports more h =
    let ls = taken (braces_after 0 l.covered) more in
    let q = All-cons IsQuotelessLine l ls (All-head IsQuotelessLine l more h) (taken_quoteless (braces_after 0 l.covered) more (All-tail IsQuotelessLine l more h)) in
    elim (is_active levels) as (λ t. All HoldsNoEnd (paths_by (cond t (imported l ls) (blanked l)))) [ true ↦ no_end_in_import (import_text (l ∷ ls)) (import_quoteless (l ∷ ls) q) | false ↦ All-nil HoldsNoEnd ]
no_end_in_step defs levels l (import_path name) more h = All-nil HoldsNoEnd
no_end_in_step defs levels l (define name value) more h = All-nil HoldsNoEnd
no_end_in_step defs levels l other_line more h = elim (is_active levels) as (λ t. All HoldsNoEnd (paths_by (cond t (shown l) (blanked l)))) [ true ↦ All-nil HoldsNoEnd | false ↦ All-nil HoldsNoEnd ]

no_end_scanned : (defs : Definitions) (end : ℕ) (levels : List ScopeLevel) (n : ℕ) (ls : List Line) → All IsQuotelessLine ls → All HoldsNoEnd (flat_map paths_by (scanned defs end levels n ls))
no_end_scanned defs end levels zero [] h = at_last (has_open levels)
  where
    at_last : (t : Bool) → All HoldsNoEnd (flat_map paths_by (end_status end t))
    at_last true = All-nil HoldsNoEnd
    at_last false = All-nil HoldsNoEnd
no_end_scanned defs end levels (suc n) [] h = at_last (has_open levels)
  where
    at_last : (t : Bool) → All HoldsNoEnd (flat_map paths_by (end_status end t))
    at_last true = All-nil HoldsNoEnd
    at_last false = All-nil HoldsNoEnd
no_end_scanned defs end levels zero (l ∷ more) h =
    let k = kind_of l.covered in
    All-append HoldsNoEnd _ _ (no_end_in_step defs levels l k more h) (no_end_scanned defs end (step defs levels l k more).1 (opened levels l k) more (All-tail IsQuotelessLine l more h))
no_end_scanned defs end levels (suc n) (l ∷ more) h = no_end_scanned defs end levels (braces_after (suc n) l.covered) more (All-tail IsQuotelessLine l more h)

-- if a text has no `"`, no path that it declares has a line end
pub quoteless_paths : (defs : Definitions) (text : List ℕ) → IsUtf8 text → NoCharPasses (λ c. eqb c 34) text → All (λ path. count_by (λ b. eqb b 10) path ≡ 0) (declared_paths defs text)
quoteless_paths defs text u none =
    subst (All HoldsNoEnd) (paths_scanned defs 0 text) (no_end_scanned defs 0 [] 0 (source_lines text) (source_quoteless text u none))
