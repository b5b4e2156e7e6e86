-- The result of preprocessing depends only on the names that the text records.
use Rattle.std.proofs.Common.{◌≡◌, ℕ, zero, suc, Bool, true, false, ◌||◌, List, [], ◌∷◌, ◌++◌, refl, ap, sym, ◌∙◌, Option, Some, None, Result, Ok, Err, cond}
use Rattle.std.specs.Prelude.{is_some, not, length, codes, bytes_eq}
use Rattle.std.specs.List.{flat_map}
use Rattle.std.specs.Str.{chars, encode_utf8_all}
use Rattle.std.proofs.lemmas.Slice.Eq.{bytes_eq-Decides}
use Rattle.std.proofs.lemmas.List.Folds.{list_any-append}
use Rattle.naga_oil_conditions.specs.declared.scope.ScopeLevel.{ScopeLevel}
use Rattle.naga_oil_conditions.specs.Line.{Line, source_lines, end_place}
use Rattle.naga_oil_words.specs.Texts.{is_among}
use Rattle.naga_oil_words.specs.OptionSteps.{◌>>=◌}
use Rattle.naga_oil_conditions.specs.LineKinds as grammar
use Rattle.naga_oil_conditions.specs.Kind.{LineKind, version, condition, endif, imports, import_path, define, other, kind_of, unversioned_kind_of, read_as, ◌or_else◌, Condition, defined, undefined, compares, otherwise}
use Rattle.naga_oil_conditions.specs.Fault.{Fault, invalid_version, invalid_import, Definitions, evaluated, comparison, is_met}
use Rattle.naga_oil_pre.specs.Reading.{braces_after, taken}
use Rattle.naga_oil_conditions.specs.Replaced.{Piece, plain, named, pieces, value_or, piece_text, name_of, hash_names, replaced, replaced_from}
use Rattle.naga_oil_conditions.specs.Scope.{is_active, is_open, level}
use Rattle.naga_oil_pre.specs.Step.{Step, step, else_step, end_step, opened, scanned}
use Rattle.naga_oil_imports.specs.Substituted.{substituted, sites, first_ambiguous, used_by}
use Rattle.naga_oil_pre.specs.Preprocessed as becomes
use Rattle.naga_oil_pre.specs.Preprocessed.{Status, blanked, shown, imported, noted, Known, nothing_known, Output, written, passage, shown_passage, prepend_passage, prepend, end_status, condition_status, end_line, padded, spaces, tokens_of, preprocessed}
use Rattle.naga_oil_pre.specs.Recorded.{condition_names, text_names, kind_names, line_names, names_of, is_recorded, AgreeOn}
use Rattle.naga_oil_pre.proofs.LoopLemmas.{told_first}

-- ---- agreement on lists of names
among_left : (xs ys : List (List ℕ)) (name : List ℕ) → is_among xs name ≡ true → is_among (xs ++ ys) name ≡ true
among_left xs ys name h = list_any-append (bytes_eq name) xs ys ∙ ap (λ b. b || is_among ys name) h

or_true : (b : Bool) → (b || true) ≡ true
or_true true = refl
or_true false = refl

among_right : (xs ys : List (List ℕ)) (name : List ℕ) → is_among ys name ≡ true → is_among (xs ++ ys) name ≡ true
among_right xs ys name h = list_any-append (bytes_eq name) xs ys ∙ ap (λ b. is_among xs name || b) h ∙ or_true (is_among xs name)

abbrev Agree : (d e : Definitions) → List (List ℕ) → Type 0
Agree d e names = AgreeOn (is_among names) d e

agree_left : (d e : Definitions) (xs ys : List (List ℕ)) → Agree d e (xs ++ ys) → Agree d e xs
agree_left d e xs ys h = λ name is. h name (among_left xs ys name is)

agree_right : (d e : Definitions) (xs ys : List (List ℕ)) → Agree d e (xs ++ ys) → Agree d e ys
agree_right d e xs ys h = λ name is. h name (among_right xs ys name is)

agree_first : (d e : Definitions) (name : List ℕ) (more : List (List ℕ)) → Agree d e (name ∷ more) → d name ≡ e name
agree_first d e name more h = h name (ap (λ b. b || is_among more name) ((bytes_eq-Decides name name).1 refl))

-- ---- a line with its names replaced
same_pieces : (d e : Definitions) (ps : List Piece) → Agree d e (flat_map name_of ps) → flat_map (piece_text d) ps ≡ flat_map (piece_text e) ps
same_pieces d e [] h = refl
same_pieces d e (plain c ∷ ps) h = ap (λ t. piece_text d (plain c) ++ t) (same_pieces d e ps h)
same_pieces d e (named name own ∷ ps) h =
    ap (λ v. value_or v (encode_utf8_all own) ++ flat_map (piece_text d) ps) (agree_first d e (encode_utf8_all name) (flat_map name_of ps) h)
    ∙ ap (λ t. value_or (e (encode_utf8_all name)) (encode_utf8_all own) ++ t) (same_pieces d e ps (agree_right d e (encode_utf8_all name ∷ []) (flat_map name_of ps) h))

same_replaced : (d e : Definitions) (line : List ℕ) → Agree d e (hash_names line) → replaced d line ≡ replaced e line
unfolding replaced replaced_from hash_names
same_replaced d e line h = same_pieces d e (pieces 0 (chars line)) h

-- ---- conditions
same_evaluated : (d e : Definitions) (at : ℕ) (c : Condition) → Agree d e (condition_names c) → evaluated d at c ≡ evaluated e at c
same_evaluated d e at (defined name) h = ap (λ v. Ok (is_some v)) (agree_first d e name [] h)
same_evaluated d e at (undefined name) h = ap (λ v. Ok (not (is_some v))) (agree_first d e name [] h)
same_evaluated d e at (compares name operator value) h = ap (comparison at name operator value) (agree_first d e name [] h)
same_evaluated d e at otherwise h = refl

-- the names of a line by its kind where versions are read: a version has none
abbrev read_names : LineKind → Line → List (List ℕ)
read_names (version known) l = []
read_names (condition is_else c) l = condition_names c
read_names endif l = []
read_names imports l = []
read_names (import_path name) l = []
read_names (define name value) l = []
read_names other l = text_names l

agree_unversioned : (d e : Definitions) (k : LineKind) (l : Line) → Agree d e (kind_names k l) → Agree d e (read_names k l)
agree_unversioned d e (version known) l h = λ name is. absurd_none name is
  where
    absurd_none : (name : List ℕ) → is_among [] name ≡ true → d name ≡ e name
    absurd_none name is = cc
agree_unversioned d e (condition is_else c) l h = h
agree_unversioned d e endif l h = h
agree_unversioned d e imports l h = h
agree_unversioned d e (import_path name) l h = h
agree_unversioned d e (define name value) l h = h
agree_unversioned d e other l h = h

agree_kind : (d e : Definitions) (o : Option Bool) (k : LineKind) (l : Line) → Agree d e (kind_names k l) → Agree d e (read_names (read_as version o or_else k) l)
agree_kind d e None k l h = agree_unversioned d e k l h
agree_kind d e (Some known) k l h = λ name is. cc

agree_read : (d e : Definitions) (l : Line) → Agree d e (line_names l) → Agree d e (read_names (kind_of l.covered) l)
unfolding kind_of
agree_read d e l h = agree_kind d e (grammar.past_hash (chars l.covered) >>= grammar.version) (unversioned_kind_of l.covered) l h

-- ---- a step
same_step : (d e : Definitions) (levels : List ScopeLevel) (l : Line) (k : LineKind) (more : List Line) → Agree d e (read_names k l) → step d levels l k more ≡ step e levels l k more
same_step d e levels l (version known) more h = refl
same_step d e levels l (condition false c) more h = ap (λ r. let s : Step = (condition_status l r, level (is_active levels) false (is_met r) ∷ levels) in s) (same_evaluated d e l.at c h)
same_step d e levels l (condition true c) more h = ap (λ r. else_step l r levels) (same_evaluated d e l.at c h)
same_step d e levels l endif more h = refl
same_step d e levels l imports more h = refl
same_step d e levels l (import_path name) more h = refl
same_step d e levels l (define name value) more h = refl
same_step d e levels l other more h = refl

-- the text that a shown line becomes, by its two replaced texts
abbrev shown_of : Known → Line → (text covered : List ℕ) → (ambiguous : Option ℕ) → Result becomes.Passage Fault
shown_of k l text covered (Some place) = Err (invalid_import (codes "Ambiguous import path for item") place)
shown_of k l text covered None = Ok (end_line (padded (length l.text) (substituted k.declared (tokens_of text))), record k { uses = used_by k.declared l.at (tokens_of covered) k.uses })

shown_is : (d : Definitions) (k : Known) (l : Line) (o : Option ℕ) → shown_passage d k l o ≡ shown_of k l (replaced d l.text) (replaced d l.covered) o
shown_is d k l (Some place) = refl
shown_is d k l None = refl

same_shown : (d e : Definitions) (k : Known) (l : Line) → Agree d e (text_names l) → passage d k (shown l) ≡ passage e k (shown l)
same_shown d e k l h =
    let ambiguous : List ℕ → Option ℕ = λ covered. first_ambiguous k.declared false (sites l.at (tokens_of covered)) in
    let text = same_replaced d e l.text (agree_left d e (hash_names l.text) (hash_names l.covered) h) in
    let covered = same_replaced d e l.covered (agree_right d e (hash_names l.text) (hash_names l.covered) h) in
    shown_is d k l (ambiguous (replaced d l.covered))
    ∙ (λ i. shown_of k l (text i) (covered i) (ambiguous (covered i)))
    ∙ sym (shown_is e k l (ambiguous (replaced e l.covered)))

same_condition : (d e : Definitions) (k : Known) (l : Line) (r : Result Bool Fault) → passage d k (condition_status l r) ≡ passage e k (condition_status l r)
same_condition d e k l (Ok holds) = refl
same_condition d e k l (Err own) = refl

same_else : (d e : Definitions) (k : Known) (l : Line) (r : Result Bool Fault) (levels : List ScopeLevel) → passage d k (else_step l r levels).0 ≡ passage e k (else_step l r levels).0
same_else d e k l (Ok holds) [] = refl
same_else d e k l (Err own) [] = refl
same_else d e k l r (previous ∷ outer) = same_condition d e k l r

same_end : (d e : Definitions) (k : Known) (l : Line) (levels : List ScopeLevel) → passage d k (end_step l levels).0 ≡ passage e k (end_step l levels).0
same_end d e k l [] = refl
same_end d e k l (previous ∷ outer) = refl

same_piece : (d e : Definitions) (k : Known) (levels : List ScopeLevel) (l : Line) (kind : LineKind) (more : List Line) → Agree d e (read_names kind l)
    → passage d k (step e levels l kind more).0 ≡ passage e k (step e levels l kind more).0
same_piece d e k levels l (version known) more h = elim known as (λ b. passage d k (cond b (blanked l) (noted (invalid_version l.at))) ≡ passage e k (cond b (blanked l) (noted (invalid_version l.at)))) [ true ↦ refl | false ↦ refl ]
same_piece d e k levels l (condition false c) more h = same_condition d e k l (evaluated e l.at c)
same_piece d e k levels l (condition true c) more h = same_else d e k l (evaluated e l.at c) levels
same_piece d e k levels l endif more h = same_end d e k l levels
same_piece d e k levels l imports more h =
    let import = imported l (taken (braces_after 0 l.covered) more) in
    elim (is_active levels) as (λ b. passage d k (cond b import (blanked l)) ≡ passage e k (cond b import (blanked l))) [ true ↦ refl | false ↦ refl ]
same_piece d e k levels l (import_path name) more h = refl
same_piece d e k levels l (define name value) more h = refl
same_piece d e k levels l other more h =
    elim (is_active levels) as (λ b. passage d k (cond b (shown l) (blanked l)) ≡ passage e k (cond b (shown l) (blanked l))) [ true ↦ same_shown d e k l h | false ↦ refl ]

-- ---- line by line
same_joined : (d e : Definitions) (p : Result becomes.Passage Fault) (ss ts : List Status) → ((k : Known) → written d k ss ≡ written e k ts) → prepend_passage p (λ k. written d k ss) ≡ prepend_passage p (λ k. written e k ts)
same_joined d e (Ok p) ss ts h = ap (prepend p.0) (h p.1)
same_joined d e (Err f) ss ts h = refl

same_ends : (d e : Definitions) (k : Known) (end : ℕ) (b : Bool) → written d k (end_status end b) ≡ written e k (end_status end b)
same_ends d e k end true = refl
same_ends d e k end false = refl

same_written : (d e : Definitions) (k : Known) (end : ℕ) (levels : List ScopeLevel) (braces : ℕ) (ls : List Line) → Agree d e (flat_map line_names ls)
    → written d k (scanned d end levels braces ls) ≡ written e k (scanned e end levels braces ls)
same_written d e k end levels braces [] h = same_ends d e k end (is_open levels)
same_written d e k end levels zero (l ∷ more) h =
    let kind = kind_of l.covered in
    let here = agree_read d e l (agree_left d e (line_names l) (flat_map line_names more) h) in
    let next : Step = step e levels l kind more in
    ap (λ (s : Step). written d k (s.0 ∷ scanned d end s.1 (opened levels l kind) more)) (same_step d e levels l kind more here)
    ∙ ap (λ p. prepend_passage p (λ kk. written d kk (scanned d end next.1 (opened levels l kind) more))) (same_piece d e k levels l kind more here)
    ∙ same_joined d e (passage e k next.0) (scanned d end next.1 (opened levels l kind) more) (scanned e end next.1 (opened levels l kind) more)
    (λ kk. same_written d e kk end next.1 (opened levels l kind) more (agree_right d e (line_names l) (flat_map line_names more) h))
same_written d e k end levels (suc n) (l ∷ more) h =
    ap (prepend (end_line (spaces l))) (same_written d e k end levels (braces_after (suc n) l.covered) more (agree_right d e (line_names l) (flat_map line_names more) h))

after_nothing : (r : Result Output Fault) → prepend [] r ≡ r
after_nothing (Ok o) = refl
after_nothing (Err f) = refl

pub recorded_names_decide : (text : List ℕ) (d e : Definitions) → AgreeOn (is_recorded text) d e → preprocessed d text ≡ preprocessed e text
unfolding names_of
recorded_names_decide text d e h =
    let end : ℕ = end_place 0 (source_lines text) in
    sym (told_first d nothing_known text [] refl refl)
    ∙ ap (prepend []) (same_written d e nothing_known end [] 0 (source_lines text) h)
    ∙ told_first e nothing_known text [] refl refl
