-- Directives: copies, names in byte order, and texts.
use Rattle.std.proofs.Common.{◌≡◌, ◌↔◌, ℕ, ◌+◌, ◌<◌, List, [], ◌∷◌, ◌++◌, length, get_or, map, take, String, string_bytes, Vec, Bor, codes, cond, Result, Ok, Err, OnOk, is_ok, refl, sym, ap, ◌∙◌, append_assoc, append-nil, arith}
use Rattle.std.specs.declared.alloc.AllocError.{AllocError}
use Rattle.std.specs.declared.alloc.Global.{Global}
use Rattle.std.specs.declared.cmp.Ordering.TheVariants.{Less, Equal, Greater}
use Rattle.std.specs.BTreeSet.{insert_key}
use Rattle.std.specs.Cmp.Lexicographic.{slice_cmp}
use Rattle.std.specs.List.{fold, flat_map, join_by, AllZip}
use Rattle.std.specs.Ordering.{nat_cmp, match_ordering}
use Rattle.std.proofs.lemmas.Grind.{flat_map-append}
use Rattle.std.proofs.lemmas.List.{take_more, map-append}
use Rattle.std.proofs.lemmas.List.Sums.{fold-append}
use Rattle.naga_oil_lines.specs.declared.wgsl_directives.EnableDirective.{EnableDirective}
use Rattle.naga_oil_lines.specs.declared.wgsl_directives.RequiresDirective.{RequiresDirective}
use Rattle.naga_oil_lines.specs.declared.wgsl_directives.DiagnosticDirective.{DiagnosticDirective}
use Rattle.naga_oil_lines.specs.Directives.{Diagnostic, Directives, enable_of, requires_of, diagnostic_of}
use Rattle.naga_oil_words.specs.Texts.{with_name, in_order}
use Rattle.naga_oil_lines.specs.DirectivesText.{names_of, names_line, diagnostic_line, with_empty_line, directive_lines, directives_text, SaysNothing}

-- lists of texts that are equal one by one
pub texts_again : (xs ys : List (String Global)) → AllZip (λ x y. string_bytes y ≡ string_bytes x) xs ys → map string_bytes ys ≡ map string_bytes xs
texts_again [] [] h = refl
texts_again [] (y ∷ ys) h = absurd h
texts_again (x ∷ xs) [] h = absurd h
texts_again (x ∷ xs) (y ∷ ys) h = (λ i. h.0 i ∷ texts_again xs ys h.1 i)

-- ---- copies
pub enable_again : (d : EnableDirective) (names : Vec (String Global) Global) → AllZip (λ x y. string_bytes y ≡ string_bytes x) d.extensions.items names.items
    → enable_of (record { extensions = names; source_location = d.source_location }) ≡ enable_of d
enable_again d names h = λ i. record { names = texts_again d.extensions.items names.items h i; line = d.source_location }

pub requires_again : (d : RequiresDirective) (names : Vec (String Global) Global) → AllZip (λ x y. string_bytes y ≡ string_bytes x) d.extensions.items names.items
    → requires_of (record { extensions = names; source_location = d.source_location }) ≡ requires_of d
requires_again d names h = λ i. record { names = texts_again d.extensions.items names.items h i; line = d.source_location }

-- ---- names in a set
map_insert : (ks : List (Bor (List ℕ))) (k : Bor (List ℕ)) → map (λ n. n.now) (insert_key (λ x y. slice_cmp nat_cmp x.now y.now) ks k) ≡ with_name (map (λ n. n.now) ks) k.now
map_insert [] k = refl
map_insert (x ∷ xs) k =
    elim (slice_cmp nat_cmp k.now x.now) as (λ o. map (λ n. n.now) (match_ordering o (k ∷ x ∷ xs) (x ∷ xs) (x ∷ insert_key (λ x y. slice_cmp nat_cmp x.now y.now) xs k)) ≡ match_ordering o (k.now ∷ x.now ∷ map (λ n. n.now) xs) (x.now ∷ map (λ n. n.now) xs) (x.now ∷ with_name (map (λ n. n.now) xs) k.now)) [
      | Less ↦ refl
      | Equal ↦ refl
      | Greater ↦ ap (λ l. x.now ∷ l) (map_insert xs k)
    ]

-- one more name is in the set
pub names_more : (old : List (List ℕ)) (more : List (String Global)) (i : ℕ) (x : String Global) (name : Bor (List ℕ)) (before after : List (Bor (List ℕ))) → i < length more → x ≡ get_or more i x → name.now ≡ string_bytes x
    → map (λ n. n.now) before ≡ fold with_name old (map string_bytes (take i more)) → after ≡ insert_key (λ x y. slice_cmp nat_cmp x.now y.now) before name
    → map (λ n. n.now) after ≡ fold with_name old (map string_bytes (take (i + 1) more))
names_more old more i x name before after h e text was is =
    ap (map (λ n. n.now)) is ∙ map_insert before name ∙ (λ j. with_name (was j) (text j))
    ∙ sym (fold-append with_name old (map string_bytes (take i more)) (string_bytes x ∷ []))
    ∙ ap (fold with_name old) (sym (map-append string_bytes (take i more) (x ∷ [])))
    ∙ ap (λ l. fold with_name old (map string_bytes l)) (sym (take_more more i x h ∙ ap (λ y. take i more ++ y ∷ []) (sym e)))

-- ---- lines
-- the lines of one more diagnostic
pub diagnostics_more : (xs : List DiagnosticDirective) (i : ℕ) (x : DiagnosticDirective) (old before after : List ℕ) → i < length xs → x ≡ get_or xs i x
    → before ≡ old ++ flat_map diagnostic_line (map diagnostic_of (take i xs)) → after ≡ before ++ diagnostic_line (diagnostic_of x)
    → after ≡ old ++ flat_map diagnostic_line (map diagnostic_of (take (i + 1) xs))
diagnostics_more xs i x old before after h e was is =
    let lines : List DiagnosticDirective → List ℕ = λ ys. flat_map diagnostic_line (map diagnostic_of ys) in
    let parts : lines (take (i + 1) xs) ≡ lines (take i xs) ++ diagnostic_line (diagnostic_of x) =
    ap lines (take_more xs i x h ∙ ap (λ y. take i xs ++ y ∷ []) (sym e))
    ∙ ap (flat_map diagnostic_line) (map-append diagnostic_of (take i xs) (x ∷ []))
    ∙ flat_map-append diagnostic_line (map diagnostic_of (take i xs)) (diagnostic_of x ∷ [])
    ∙ ap (λ l. lines (take i xs) ++ l) (append-nil (diagnostic_line (diagnostic_of x))) in
    is ∙ ap (λ l. l ++ diagnostic_line (diagnostic_of x)) was ∙ append_assoc old (lines (take i xs)) (diagnostic_line (diagnostic_of x)) ∙ ap (λ l. old ++ l) (sym parts)

-- texts that are appended one after another, where the last call is the result
pub last_piece : (r : Result (Unit {0}) AllocError) (old piece whole new : List ℕ) → new ≡ cond (is_ok r) (old ++ piece) old → old ++ piece ≡ whole → OnOk r (new ≡ whole)
last_piece (Ok u) old piece whole new e f = e ∙ f
last_piece (Err x) old piece whole new e f = tt

pub four_pieces : (old a b c d t u v : List ℕ) → t ≡ old ++ a → u ≡ t ++ b → v ≡ u ++ c → v ++ d ≡ old ++ (((a ++ b) ++ c) ++ d)
four_pieces old a b c d t u v f g h = rw (h, g, f) (simp append_assoc)

pub five_pieces : (old a b c d e t u v w : List ℕ) → t ≡ old ++ a → u ≡ t ++ b → v ≡ u ++ c → w ≡ v ++ d → w ++ e ≡ old ++ ((((a ++ b) ++ c) ++ d) ++ e)
five_pieces old a b c d e t u v w f g h i = rw (i, h, g, f) (simp append_assoc)

-- the join of borrowed names
joined_more : (sep : List ℕ) (ks : List (Bor (List ℕ))) → flat_map (λ y. sep ++ y.now) ks ≡ flat_map (λ y. sep ++ y) (map (λ n. n.now) ks)
joined_more sep [] = refl
joined_more sep (k ∷ ks) = ap (λ l. (sep ++ k.now) ++ l) (joined_more sep ks)

pub joined_names : (sep : List ℕ) (items ks : List (Bor (List ℕ))) → items ≡ ks → join_by (λ n. n.now) sep items ≡ join_by (λ n. n) sep (map (λ n. n.now) ks)
joined_names sep items [] e = ap (join_by (λ n. n.now) sep) e
joined_names sep items (k ∷ ks) e = ap (join_by (λ n. n.now) sep) e ∙ ap (λ l. k.now ++ l) (joined_more sep ks)

pub names_line_some : (word : List ℕ) (ks : List (Bor (List ℕ))) → (length ks ≡ 0 → ⊥)
    → names_line word (map (λ n. n.now) ks) ≡ word ++ codes " " ++ join_by (λ n. n) (codes ", ") (map (λ n. n.now) ks) ++ codes ";\n"
names_line_some word [] some = absurd (some refl)
names_line_some word (k ∷ ks) some = refl

pub names_line_none : (word : List ℕ) (ks : List (Bor (List ℕ))) → length ks ≡ 0 → names_line word (map (λ n. n.now) ks) ≡ []
names_line_none word [] none = refl
names_line_none word (k ∷ ks) none = absurd (omega arith)

pub empty_line_none : (text : List ℕ) → length text ≡ 0 → text ≡ with_empty_line text
empty_line_none [] e = refl
empty_line_none (c ∷ text) e = absurd (omega arith)

pub empty_line_some : (text : List ℕ) → (length text ≡ 0 → ⊥) → text ++ codes "\n" ≡ with_empty_line text
empty_line_some [] some = absurd (some refl)
empty_line_some (c ∷ text) some = refl

-- the lines one after another
pub text_written : (d : Directives) (enabled required : List (List ℕ)) (none first second third text : List ℕ) → none ≡ [] → enabled ≡ in_order (names_of d.enables) → required ≡ in_order (names_of d.requires)
    → first ≡ none ++ names_line (codes "enable") enabled → second ≡ first ++ names_line (codes "requires") required → third ≡ second ++ flat_map diagnostic_line d.diagnostics
    → text ≡ with_empty_line third → text ≡ directives_text d
text_written d enabled required none first second third text z e r f s t l =
    let one : first ≡ names_line (codes "enable") (in_order (names_of d.enables)) = f ∙ (λ i. z i ++ names_line (codes "enable") (e i)) in
    let two : second ≡ names_line (codes "enable") (in_order (names_of d.enables)) ++ names_line (codes "requires") (in_order (names_of d.requires)) = s ∙ (λ i. one i ++ names_line (codes "requires") (r i)) in
    l ∙ ap with_empty_line (t ∙ ap (λ x. x ++ flat_map diagnostic_line d.diagnostics) two)

-- ---- where nothing is written
append_none : (xs ys : List ℕ) → xs ++ ys ≡ [] → (xs ≡ []) × (ys ≡ [])
append_none [] ys e = (refl, e)
append_none (x ∷ xs) ys e = cc

inserted_some : (ks : List (List ℕ)) (k : List ℕ) → with_name ks k ≡ [] → ⊥
inserted_some [] k e = cc
inserted_some (x ∷ xs) k e =
    elim (slice_cmp nat_cmp k x) as (λ o. match_ordering o (k ∷ x ∷ xs) (x ∷ xs) (x ∷ with_name xs k) ≡ [] → ⊥) [ Less ↦ λ h. cc | Equal ↦ λ h. cc | Greater ↦ λ h. cc ] e

fold_some : (ks names : List (List ℕ)) → (ks ≡ [] → ⊥) → fold with_name ks names ≡ [] → ⊥
fold_some ks [] some e = some e
fold_some ks (name ∷ names) some e = fold_some (with_name ks name) names (inserted_some ks name) e

in_order-none : (names : List (List ℕ)) → in_order names ≡ [] → names ≡ []
unfolding in_order
in_order-none [] e = refl
in_order-none (name ∷ names) e = absurd (fold_some (with_name [] name) names (inserted_some [] name) e)

in_order-nil : in_order [] ≡ []
unfolding in_order
in_order-nil = refl

line_none : (c : ℕ) (word : List ℕ) (names : List (List ℕ)) → names_line (c ∷ word) names ≡ [] → names ≡ []
line_none c word [] e = refl
line_none c word (name ∷ names) e = cc

diagnostics_none : (ds : List Diagnostic) → flat_map diagnostic_line ds ≡ [] → ds ≡ []
diagnostics_none [] e = refl
diagnostics_none (d ∷ ds) e = cc

ended_none : (text : List ℕ) → with_empty_line text ≡ [] → text ≡ []
ended_none [] e = refl
ended_none (c ∷ text) e = cc

says_nothing : (d : Directives) → directives_text d ≡ [] → SaysNothing d
says_nothing d e =
    let lines : directive_lines d ≡ [] = ended_none (directive_lines d) e in
    let last = append_none (names_line (codes "enable") (in_order (names_of d.enables)) ++ names_line (codes "requires") (in_order (names_of d.requires))) (flat_map diagnostic_line d.diagnostics) lines in
    let first = append_none (names_line (codes "enable") (in_order (names_of d.enables))) (names_line (codes "requires") (in_order (names_of d.requires))) last.0 in (
      in_order-none (names_of d.enables) (line_none 101 (codes "nable") (in_order (names_of d.enables)) first.0),
      in_order-none (names_of d.requires) (line_none 114 (codes "equires") (in_order (names_of d.requires)) first.1),
      diagnostics_none d.diagnostics last.1,
    )

nothing_written : (d : Directives) → SaysNothing d → directives_text d ≡ []
nothing_written d h =
    ap with_empty_line (λ i. names_line (codes "enable") (in_order (h.0 i)) ++ names_line (codes "requires") (in_order (h.1 i)) ++ flat_map diagnostic_line (h.2 i))
    ∙ ap with_empty_line (λ i. names_line (codes "enable") (in_order-nil i) ++ names_line (codes "requires") (in_order-nil i) ++ [])

-- a text is empty exactly if the directives say nothing
pub empty_text : (d : Directives) (text : List ℕ) → text ≡ directives_text d → (text ≡ []) ↔ SaysNothing d
empty_text d text e = (λ h. says_nothing d (sym e ∙ h), λ h. e ∙ nothing_written d h)
