-- The text that a line and the lines that it takes become, before the rest.
use Rattle.std.specs.Prelude.{OnOk, IfErr, IfSome, String}
use Rattle.std.specs.declared.alloc.Global.{Global}
use Rattle.naga_oil_imports.specs.declared.import_definition.ImportDefWithOffset.{ImportDefWithOffset}
use Rattle.std.proofs.Common.{◌≡◌, ℕ, zero, suc, ◌+◌, ◌<◌, ◌≤◌, ◌^◌, true, false, List, [], ◌∷◌, ◌++◌, map, length, refl, sym, ap, subst, ◌∙◌, append_assoc, append-nil, Option, Some, None, MatchOption, Result, Ok, Err, arith}
use Rattle.naga_oil_imports.specs.Declarations.{Declared}
use Rattle.naga_oil_imports.specs.Leaves.{Leaf, SyntaxFault, import_leaves, with_leaves, with_import as declared_after}
use Rattle.naga_oil_imports.specs.Uses.{Use, Uses, use_of, use_entry}
use Rattle.naga_oil_imports.specs.Substituted.{Site, substituted, sites, first_ambiguous, usize_sites, used_by}
use Rattle.std.specs.Str.{IsUtf8, chars}
use Rattle.naga_oil_imports.proofs.ImportPlaceLemmas.{fault_within}
use Rattle.naga_oil_imports.proofs.SitePlaceLemmas.{sites_count}
use Rattle.naga_oil_lines.specs.Tokens.{lexemes}
use Rattle.naga_oil_imports.specs.ImportView.{RefusesImport as Declines, fault_of as import_fault}
use Rattle.naga_oil_imports.specs.declared.parse_imports.ImportFault.{ImportFault}
use Rattle.naga_oil_imports.specs.declared.parse_imports.ImportFault.TheVariants.{Syntax, Memory as OutOfMemory}
use Rattle.naga_oil_imports.specs.SubstituteFault.{RefusesUses}
use Rattle.naga_oil_imports.specs.declared.substitute.SubstituteFault.{SubstituteFault}
use Rattle.naga_oil_imports.specs.declared.substitute.SubstituteFault.TheVariants.{Ambiguous, Memory}
use Rattle.naga_oil_conditions.specs.declared.scope.ScopeLevel.{ScopeLevel}
use Rattle.naga_oil_conditions.specs.declared.fault.ComposerErrorInner.{ComposerErrorInner}
use Rattle.naga_oil_pre.specs.declared.preprocess.Treatment.{Treatment}
use Rattle.naga_oil_pre.specs.declared.preprocess.Treatment.TheVariants.{Blank, Show, Import}
use Rattle.naga_oil_conditions.specs.Line.{Line, source_lines, end_place}
use Rattle.naga_oil_conditions.specs.Kind.{kind_of}
use Rattle.naga_oil_conditions.specs.Fault.{Fault, Definitions, invalid_import}
use Rattle.naga_oil_pre.specs.Reading.{braces_after, reading, taken, after_taken}
use Rattle.naga_oil_conditions.specs.Replaced.{replaced}
use Rattle.naga_oil_pre.specs.Preprocessed.{Status, blanked, shown, imported, noted, Known, nothing_known, Output, Passage, written, end_line, spaces, padded, blanks, import_text, tokens_of, using_tokens, ambiguous, shown_passage, imported_passage, passage, prepend, prepend_passage, end_status, preprocessed}
use Rattle.naga_oil_pre.specs.Step.{Step, step, opened, scanned}
use Rattle.naga_oil_conditions.specs.Scope.{is_open}
use Rattle.naga_oil_pre.specs.KnownView.{ReportsRefused}
use Rattle.naga_oil_pre.specs.Treatment.{status_of, open_after}
use Rattle.naga_oil_conditions.specs.View.{Fails, fault_of}
use Rattle.naga_oil_pre.proofs.Machine.{scanned_reading}
use Rattle.naga_oil_pre.proofs.ReadingLemmas.{IsReading-reading}

after_after : (front text : List ℕ) (r : Result Output Fault) → prepend (front ++ text) r ≡ prepend front (prepend text r)
after_after front text (Ok o) = ap (λ t. Ok (record o { text = t })) (append_assoc front text o.text)
after_after front text (Err f) = refl

after_nothing : (r : Result Output Fault) → prepend [] r ≡ r
after_nothing (Ok o) = refl
after_nothing (Err f) = refl

-- the status of a line by its treatment, and those of the rest
pub scanned_first : (defs : Definitions) (end : ℕ) (levels next : List ScopeLevel) (l : Line) (more : List Line) (t : Treatment)
    → ((ls : List Line) → (let s : Step = (status_of t l ls, next) in step defs levels l (kind_of l.covered) ls ≡ s)) → opened levels l (kind_of l.covered) ≡ open_after t
    → scanned defs end levels 0 (l ∷ more) ≡ status_of t l more ∷ scanned defs end next (open_after t) more
scanned_first defs end levels next l more t e o =
    ap (λ (s : Step). s.0 ∷ scanned defs end s.1 (opened levels l (kind_of l.covered)) more) (e more) ∙ ap (λ n. status_of t l more ∷ scanned defs end next n more) o

-- the lines that an import takes, and those after them
scanned_after : (defs : Definitions) (end : ℕ) (levels : List ScopeLevel) (n : ℕ) (ls : List Line) → scanned defs end levels n ls ≡ map blanked (taken n ls) ++ scanned defs end levels 0 (after_taken n ls)
scanned_after defs end levels zero ls = refl
scanned_after defs end levels (suc n) [] = refl
scanned_after defs end levels (suc n) (l ∷ ls) = ap (λ v. blanked l ∷ v) (scanned_after defs end levels (braces_after (suc n) l.covered) ls)

written_blanks : (defs : Definitions) (k : Known) (ls : List Line) (rest : List Status) → written defs k (map blanked ls ++ rest) ≡ prepend (blanks ls) (written defs k rest)
written_blanks defs k [] rest = sym (after_nothing (written defs k rest))
written_blanks defs k (l ∷ ls) rest = ap (prepend (end_line (spaces l))) (written_blanks defs k ls rest) ∙ sym (after_after (end_line (spaces l)) (blanks ls) (written defs k rest))

-- ---- a blanked line
pub blank_turn : (defs : Definitions) (k : Known) (l : Line) (rest all : List Status) (out out' : List ℕ) → all ≡ blanked l ∷ rest → out' ≡ out ++ end_line (spaces l)
    → prepend out' (written defs k rest) ≡ prepend out (written defs k all)
blank_turn defs k l rest all out out' e p =
    ap (λ v. prepend v (written defs k rest)) p ∙ after_after out (end_line (spaces l)) (written defs k rest) ∙ ap (λ v. prepend out (written defs k v)) (sym e)

-- ---- a shown line
pub shown_turn : (defs : Definitions) (k next : Known) (l : Line) (rest : List Status) (out out' : List ℕ)
    → first_ambiguous k.declared false (sites l.at (using_tokens defs l)) ≡ None
    → next.declared ≡ k.declared → next.uses ≡ used_by k.declared l.at (using_tokens defs l) k.uses
    → out' ≡ out ++ end_line (padded (length l.text) (substituted next.declared (tokens_of (replaced defs l.text))))
    → prepend out' (written defs next rest) ≡ prepend out (written defs k (shown l ∷ rest))
shown_turn defs k next l rest out out' clear same uses p =
    let then : Known = record k { uses = used_by k.declared l.at (using_tokens defs l) k.uses } in
    let is_then : next ≡ then = (λ i. record { declared = same i; uses = uses i }) in
    let text : Known → List ℕ = λ kk. end_line (padded (length l.text) (substituted kk.declared (tokens_of (replaced defs l.text)))) in
    ap (λ v. prepend v (written defs next rest)) p ∙ after_after out (text next) (written defs next rest)
    ∙ ap (λ (kk : Known). prepend out (prepend (text kk) (written defs kk rest))) is_then
    ∙ ap (λ o. prepend out (prepend_passage (shown_passage defs k l o) (λ kk. written defs kk rest))) (sym clear)

-- where several paths are allowed, nothing is ambiguous
pub none_refused : (declared : Declared) (ss : List Site) → first_ambiguous declared true ss ≡ None
none_refused declared [] = refl
none_refused declared (s ∷ ss) = none_refused declared ss

pub never_ambiguous : (declared : Declared) (ss : List Site) (old new : Uses) (e : SubstituteFault) (place : ℕ) → RefusesUses declared true ss old new e → e ≡ Ambiguous place → ⊥
never_ambiguous declared ss old new (Ambiguous p) place h e = let none = none_refused declared ss in let some = h.0 in cc
never_ambiguous declared ss old new Memory place h e = cc

fault_alike : (o : Option Fault) (place : ℕ) → MatchOption o (Unit {0}) (λ f. f ≡ ambiguous place) → (let r : Result Passage Fault = Err (ambiguous place) in MatchOption o (Unit {0}) (λ f. r ≡ Err f))
fault_alike None place h = tt
fault_alike (Some f) place h = ap Err (sym h)

-- the error of a shown line whose identifiers can't be substituted
pub uses_refused : (defs : Definitions) (known : Known) (l : Line) (declared : Declared) (ss all : List Site) (old new : Uses) (f : SubstituteFault) (e : ComposerErrorInner) → ss ≡ all
    → RefusesUses declared false ss old new f → ReportsRefused e f → Fails e (shown_passage defs known l (first_ambiguous declared false all))
uses_refused defs known l declared ss all old new (Ambiguous place) e same h told =
    let first : first_ambiguous declared false all ≡ Some place = ap (first_ambiguous declared false) (sym same) ∙ h.0 in
    rw first (fault_alike (fault_of e) place told)
uses_refused defs known l declared ss all old new Memory e same h told = rw told tt

-- the identifiers of a text whose end fits in a `usize`
pub counted : (offset : ℕ) (text whole : List ℕ) → IsUtf8 text → text ≡ whole → offset + length text < 2 ^ 64 → usize_sites (sites offset (lexemes 0 0 (chars text))) ≡ sites offset (tokens_of whole)
counted offset text whole u e h = sites_count offset text u h ∙ ap (λ t. sites offset (tokens_of t)) e

-- ---- an import
-- the place of a fault of an import whose text is at the offset is a `usize`
pub import_fits : (text : List ℕ) (e : ImportFault) (offset : ℕ) → IsUtf8 text → Declines e (import_leaves text) → offset + length text < 2 ^ 64 → IfSome (import_fault e) (λ f. offset + f.1 < 2 ^ 64)
import_fits text (Syntax said place) offset u h fits = let within : place ≤ length text = fault_within text (said.now, place) u h in omega (arith, within, fits)
import_fits text OutOfMemory offset u h fits = tt

-- the fault of an import whose text is at the offset
pub import_faults : (known : Known) (l : Line) (leaves : Result (List Leaf) SyntaxFault) (offset place : ℕ) (text said : List ℕ) → l.at ≡ offset → leaves ≡ Err (text, place) → said ≡ text
    → imported_passage known l leaves ≡ Err (invalid_import said (offset + place))
import_faults known l leaves offset place text said at e same =
    ap (imported_passage known l) e ∙ ap (λ n. Err (invalid_import text (n + place))) at ∙ ap (λ t. Err (invalid_import t (offset + place))) (sym same)

declared_piece : (k : Known) (l : Line) (r : Result (List Leaf) SyntaxFault) (declared : Declared) → declared_after k.declared r ≡ Ok declared
    → (let p : Passage = (end_line (spaces l), record k { declared = declared }) in imported_passage k l r ≡ Ok p)
declared_piece k l (Ok ls) declared e = let same : with_leaves k.declared ls ≡ declared = cc in ap (λ d. (let p : Passage = (end_line (spaces l), record k { declared = d }) in Ok p)) same
declared_piece k l (Err f) declared e = cc

pub import_turn : (defs : Definitions) (end : ℕ) (levels : List ScopeLevel) (k next : Known) (l : Line) (n : ℕ) (left after : List Line) (out first out' import : List ℕ)
    → after ≡ after_taken n left → import ≡ import_text (l ∷ taken n left)
    → declared_after k.declared (import_leaves import) ≡ Ok next.declared → next.uses ≡ k.uses
    → first ≡ out ++ end_line (spaces l) → out' ≡ first ++ blanks (taken n left)
    → prepend out' (written defs next (scanned defs end levels 0 after)) ≡ prepend out (written defs k (imported l (taken n left) ∷ scanned defs end levels n left))
import_turn defs end levels k next l n left after out first out' import after_is text_is declares uses p q =
    let then : Known = record k { declared = next.declared } in
    let is_then : next ≡ then = (λ i. record { declared = next.declared; uses = uses i }) in
    let rest : List Status = scanned defs end levels 0 (after_taken n left) in
    let reads : (let p : Passage = (end_line (spaces l), then) in imported_passage k l (import_leaves (import_text (l ∷ taken n left))) ≡ Ok p) =
    declared_piece k l (import_leaves (import_text (l ∷ taken n left))) next.declared (ap (λ t. declared_after k.declared (import_leaves t)) (sym text_is) ∙ declares) in
    ap (λ ls. prepend out' (written defs next (scanned defs end levels 0 ls))) after_is
    ∙ ap (λ v. prepend v (written defs next rest)) (q ∙ ap (λ v. v ++ blanks (taken n left)) p)
    ∙ after_after (out ++ end_line (spaces l)) (blanks (taken n left)) (written defs next rest)
    ∙ after_after out (end_line (spaces l)) (prepend (blanks (taken n left)) (written defs next rest))
    ∙ ap (λ v. prepend out (prepend (end_line (spaces l)) v)) (sym (written_blanks defs next (taken n left) rest) ∙ ap (written defs next) (sym (scanned_after defs end levels n left)))
    ∙ ap (λ (kk : Known). prepend out (prepend (end_line (spaces l)) (written defs kk (scanned defs end levels n left)))) is_then
    ∙ ap (λ r. prepend out (prepend_passage r (λ kk. written defs kk (scanned defs end levels n left)))) (sym reads)

-- ---- the lines that an import takes, one by one
pub taken_first : (n : ℕ) (l : Line) (ls : List Line) → 0 < n → taken n (l ∷ ls) ≡ l ∷ taken (braces_after n l.covered) ls
taken_first zero l ls some = absurd (omega arith)
taken_first (suc n) l ls some = refl

pub past_first : (n : ℕ) (l : Line) (ls : List Line) → 0 < n → after_taken n (l ∷ ls) ≡ after_taken (braces_after n l.covered) ls
past_first zero l ls some = absurd (omega arith)
past_first (suc n) l ls some = refl

pub taken_none : (n : ℕ) → taken n [] ≡ []
taken_none zero = refl
taken_none (suc n) = refl

pub after_none : (n : ℕ) → after_taken n [] ≡ []
after_none zero = refl
after_none (suc n) = refl

-- ---- faults
fails_along : {Y : Type 0} (o : Option Fault) (a : Status) (b : Result Y Fault) → ((f : Fault) → a ≡ noted f → b ≡ Err f) → MatchOption o (Unit {0}) (λ f. a ≡ noted f) → MatchOption o (Unit {0}) (λ f. b ≡ Err f)
fails_along None a b go h = tt
fails_along (Some f) a b go h = go f h

-- a line with a fault is the first that fails
pub line_fails : (defs : Definitions) (k : Known) (end : ℕ) (levels : List ScopeLevel) (l : Line) (more : List Line) (error : ComposerErrorInner)
    → ((ls : List Line) → MatchOption (fault_of error) (Unit {0}) (λ f. (step defs levels l (kind_of l.covered) ls).0 ≡ noted f)) → Fails error (written defs k (scanned defs end levels 0 (l ∷ more)))
line_fails defs k end levels l more error h =
    let s : Step = step defs levels l (kind_of l.covered) more in
    let rest : List Status = scanned defs end s.1 (opened levels l (kind_of l.covered)) more in
    fails_along (fault_of error) s.0 (written defs k (scanned defs end levels 0 (l ∷ more))) (λ f is_f. ap (λ v. prepend_passage (passage defs k v) (λ kk. written defs kk rest)) is_f) (h more)

fails_joined : (o : Option Fault) (p : Result Passage Fault) (rest : Known → Result Output Fault) → MatchOption o (Unit {0}) (λ f. p ≡ Err f) → MatchOption o (Unit {0}) (λ f. prepend_passage p rest ≡ Err f)
fails_joined None p rest h = tt
fails_joined (Some f) p rest h = ap (λ v. prepend_passage v rest) h

-- a line whose passage has a fault is the first that fails
pub piece_fails : (defs : Definitions) (k : Known) (s : Status) (rest all : List Status) (error : ComposerErrorInner) → all ≡ s ∷ rest → Fails error (passage defs k s) → Fails error (written defs k all)
piece_fails defs k s rest all error e h =
    subst (λ v. Fails error (written defs k v)) (sym e) (fails_joined (fault_of error) (passage defs k s) (λ kk. written defs kk rest) h)

fails_on : (o : Option Fault) (out : List ℕ) (r total : Result Output Fault) → prepend out r ≡ total → MatchOption o (Unit {0}) (λ f. r ≡ Err f) → MatchOption o (Unit {0}) (λ f. total ≡ Err f)
fails_on None out r total e h = tt
fails_on (Some f) out r total e h = sym e ∙ ap (prepend out) h

-- a fault of the first line that is left is that of all the lines
pub fails_first : (defs : Definitions) (k : Known) (end : ℕ) (levels : List ScopeLevel) (l : Line) (left more : List Line) (out : List ℕ) (total : Result Output Fault) (error : ComposerErrorInner)
    → left ≡ l ∷ more → prepend out (written defs k (scanned defs end levels 0 left)) ≡ total
    → ((end : ℕ) → Fails error (written defs k (scanned defs end levels 0 (l ∷ more)))) → Fails error total
fails_first defs k end levels l left more out total error first told h =
    fails_on (fault_of error) out (written defs k (scanned defs end levels 0 (l ∷ more))) total (ap (λ v. prepend out (written defs k (scanned defs end levels 0 v))) (sym first) ∙ told) (h end)

-- before the first line
pub told_first : (defs : Definitions) (k : Known) (text out : List ℕ) → k ≡ nothing_known → out ≡ [] → prepend out (written defs k (scanned defs (end_place 0 (source_lines text)) [] 0 (source_lines text))) ≡ preprocessed defs text
unfolding preprocessed
told_first defs k text out n e =
    let end : ℕ = end_place 0 (source_lines text) in
    ap (λ v. prepend v (written defs k (scanned defs end [] 0 (source_lines text)))) e
    ∙ after_nothing (written defs k (scanned defs end [] 0 (source_lines text)))
    ∙ ap (λ kk. written defs kk (scanned defs end [] 0 (source_lines text))) n
    ∙ scanned_reading defs end (source_lines text) (reading defs (source_lines text)) (IsReading-reading defs (source_lines text))

-- an import that fails is the first line that does
pub import_fails : (defs : Definitions) (k : Known) (end : ℕ) (levels next : List ScopeLevel) (l : Line) (left : List Line) (t : Treatment) (n : ℕ) (error : ComposerErrorInner)
    → ((ls : List Line) → (let s : Step = (status_of t l ls, next) in step defs levels l (kind_of l.covered) ls ≡ s)) → opened levels l (kind_of l.covered) ≡ open_after t → t ≡ Import n
    → Fails error (passage defs k (imported l (taken n left))) → Fails error (written defs k (scanned defs end levels 0 (l ∷ left)))
import_fails defs k end levels next l left Blank n error e o is h = cc
import_fails defs k end levels next l left Show n error e o is h = cc
import_fails defs k end levels next l left (Import m) n error e o is h =
    let same : n ≡ m = cc in
    piece_fails defs k (imported l (taken m left)) (scanned defs end next m left) (scanned defs end levels 0 (l ∷ left)) error (scanned_first defs end levels next l left (Import m) e o)
    (subst (λ v. Fails error (passage defs k (imported l (taken v left)))) same h)

-- a shown line that fails is the first line that does
pub shown_fails : (defs : Definitions) (k : Known) (end : ℕ) (levels next : List ScopeLevel) (l : Line) (left : List Line) (t : Treatment) (error : ComposerErrorInner)
    → ((ls : List Line) → (let s : Step = (status_of t l ls, next) in step defs levels l (kind_of l.covered) ls ≡ s)) → opened levels l (kind_of l.covered) ≡ open_after t → t ≡ Show
    → Fails error (passage defs k (shown l)) → Fails error (written defs k (scanned defs end levels 0 (l ∷ left)))
shown_fails defs k end levels next l left t error e o is h =
    piece_fails defs k (shown l) (scanned defs end next (open_after t) left) (scanned defs end levels 0 (l ∷ left)) error
    (scanned_first defs end levels next l left t e o ∙ ap (λ v. status_of v l left ∷ scanned defs end next (open_after t) left) is) h

-- ---- consequences of a result
pub on_ok : {X Y : Type 0} (r : Result X Y) (P Q : Type 0) → OnOk r P → (P → Q) → OnOk r Q
on_ok (Ok x) P Q h go = go h
on_ok (Err e) P Q h go = tt

pub if_err : {X Y : Type 0} (r : Result X Y) (P Q : Y → Type 0) → IfErr r P → ((e : Y) → P e → Q e) → IfErr r Q
if_err (Ok x) P Q h go = tt
if_err (Err e) P Q h go = go e h

-- ---- the end
pub nothing_is : (k : Known) → k.declared ≡ [] → k.uses ≡ [] → k ≡ nothing_known
nothing_is k d u = λ i. record { declared = d i; uses = u i }

pub uses_of_values : (entries : List (String Global × ImportDefWithOffset)) → map use_of (map (λ e. e.1) entries) ≡ map (λ u. u.1) (map use_entry entries)
uses_of_values [] = refl
uses_of_values (e ∷ more) = ap (λ v. use_of e.1 ∷ v) (uses_of_values more)

-- no line is left, and no chain is open
pub told_last : (defs : Definitions) (k : Known) (end : ℕ) (levels : List ScopeLevel) (left : List Line) (out : List ℕ) (uses : List Use) (total : Result Output Fault)
    → left ≡ [] → is_open levels ≡ false → prepend out (written defs k (scanned defs end levels 0 left)) ≡ total → uses ≡ map (λ u. u.1) k.uses
    → (let o : Output = record { text = out; uses = uses } in total ≡ Ok o)
told_last defs k end levels left out uses total none closed told same =
    sym told ∙ ap (λ ls. prepend out (written defs k (scanned defs end levels 0 ls))) none ∙ ap (λ b. prepend out (written defs k (end_status end b))) closed
    ∙ (λ i. let o : Output = record { text = append-nil out i; uses = sym same i } in Ok o)
