-- The defines of lines depend on earlier defines, and on no other findings.
use Rattle.std.specs.Prelude.{IsOk}
use Rattle.std.proofs.Common.{◌≡◌, ℕ, zero, suc, Bool, ◌∷◌, [], List, Option, Some, None, MatchOption, Result, Ok, Err, refl, sym, ap, ◌∙◌}
use Rattle.naga_oil_conditions.specs.declared.fault.ComposerErrorInner.{ComposerErrorInner}
use Rattle.naga_oil_conditions.specs.Fault.{Fault, Definitions}
use Rattle.naga_oil_conditions.specs.Kind.{LineKind, version, condition, endif, imports, import_path, define, other, unversioned_kind_of}
use Rattle.naga_oil_conditions.specs.KindView.{line_kind_of, condition_of}
use Rattle.naga_oil_conditions.specs.Line.{Line, source_lines}
use Rattle.naga_oil_conditions.specs.declared.line_kind.LineKind as code
use Rattle.naga_oil_conditions.specs.declared.line_kind.LineKind.TheVariants as kinds
use denote.Ref.{Bor}
use Rattle.naga_oil_conditions.specs.View.{Fails, fault_of}
use Rattle.naga_oil_imports.specs.Leaves.{Leaf, SyntaxFault, import_leaves}
use Rattle.naga_oil_lines.specs.Directives.{Directives}
use Rattle.naga_oil_pre.specs.Extracted.{extracted}
use Rattle.naga_oil_pre.specs.Metadata.{Found, Metadata, nothing_found, none_defined, defined_after, with_defines, with_import, found_after, left_open, going_on, found_in, defines_of, defining, own_defines, metadata_with, metadata, source_and_defines}
use Rattle.naga_oil_pre.specs.Preprocessed.{import_text}
use Rattle.naga_oil_pre.specs.Reading.{braces_after, taken, after_taken}
use Rattle.naga_oil_pre.proofs.MetadataLemmas.{found_after_taken, metadata_cleaned, directives_refused}

-- ---- one line
defined_alone : (found : Found) (r : Result Definitions Fault) → defines_of (with_defines found r) ≡ r
defined_alone found (Ok defs) = refl
defined_alone found (Err f) = refl

import_alike : (f g : Found) (at : ℕ) (r : Result (List Leaf) SyntaxFault) → f.defines ≡ g.defines → defines_of (with_import f at r) ≡ defines_of (with_import g at r)
import_alike f g at (Ok leaves) e = ap Ok e
import_alike f g at (Err fault) e = refl

after_alike : (allow : Bool) (f g : Found) (l : Line) (k : LineKind) (more : List Line) → f.defines ≡ g.defines → defines_of (found_after allow f l k more) ≡ defines_of (found_after allow g l k more)
after_alike allow f g l (condition is_else c) more e = ap Ok e
after_alike allow f g l endif more e = ap Ok e
after_alike allow f g l imports more e = import_alike f g l.at (import_leaves (import_text (l ∷ taken (braces_after 0 l.covered) more))) e
after_alike allow f g l (import_path name) more e = ap Ok e
after_alike allow f g l (define name text) more e =
    defined_alone f (defined_after allow f.defines l.at name text)
    ∙ ap (λ defs. defined_after allow defs l.at name text) e
    ∙ sym (defined_alone g (defined_after allow g.defines l.at name text))
after_alike allow f g l (version known) more e = ap Ok e
after_alike allow f g l other more e = ap Ok e

going_alike : (a b : Result Found Fault) (rest : Found → Result Found Fault) → ((x y : Found) → x.defines ≡ y.defines → defines_of (rest x) ≡ defines_of (rest y))
    → defines_of a ≡ defines_of b → defines_of (going_on a rest) ≡ defines_of (going_on b rest)
going_alike (Ok x) (Ok y) rest h e = let same : x.defines ≡ y.defines = cc in h x y same
going_alike (Ok x) (Err g) rest h e = cc
going_alike (Err f) (Ok y) rest h e = cc
going_alike (Err f) (Err g) rest h e = e

-- ---- all lines
alike : (allow : Bool) (f g : Found) (n : ℕ) (ls : List Line) → f.defines ≡ g.defines → defines_of (found_in allow f n ls) ≡ defines_of (found_in allow g n ls)
alike allow f g zero [] e = ap Ok e
alike allow f g (suc n) [] e = ap Ok e
alike allow f g zero (l ∷ ls) e =
    going_alike (found_after allow f l (unversioned_kind_of l.covered) ls) (found_after allow g l (unversioned_kind_of l.covered) ls)
    (λ next. found_in allow next (left_open l (unversioned_kind_of l.covered)) ls)
    (λ x y same. alike allow x y (left_open l (unversioned_kind_of l.covered)) ls same)
    (after_alike allow f g l (unversioned_kind_of l.covered) ls e)
alike allow f g (suc n) (l ∷ ls) e = alike allow f g (braces_after (suc n) l.covered) ls e

-- a line with its defines, and the lines that it takes
pub line_read : (allow : Bool) (old new : Definitions) (l : Line) (k : LineKind) (left after : List Line) → k ≡ unversioned_kind_of l.covered → after ≡ after_taken (left_open l k) left
    → defines_of (found_after allow (defining old) l k left) ≡ Ok new → own_defines allow new after ≡ own_defines allow old (l ∷ left)
line_read allow old new l k left after kind is e =
    let rest : Found → Result Found Fault = λ next. found_in allow next (left_open l k) left in
    ap (own_defines allow new) is
    ∙ ap defines_of (sym (found_after_taken allow (defining new) (left_open l k) left))
    ∙ going_alike (Ok (defining new)) (found_after allow (defining old) l k left) rest (λ x y same. alike allow x y (left_open l k) left same) (sym e)
    ∙ ap (λ (kind : LineKind). defines_of (going_on (found_after allow (defining old) l kind left) (λ next. found_in allow next (left_open l kind) left))) kind

refused_first : (o : Option Fault) (r : Result Found Fault) (rest : Found → Result Found Fault) → MatchOption o (Unit {0}) (λ f. defines_of r ≡ Err f)
    → MatchOption o (Unit {0}) (λ f. defines_of (going_on r rest) ≡ Err f)
refused_first None r rest h = tt
refused_first (Some f) (Err own) rest h = h
refused_first (Some f) (Ok found) rest h = cc

-- a line that has a fault
pub line_refused : (e : ComposerErrorInner) (allow : Bool) (old : Definitions) (l : Line) (k : LineKind) (left : List Line) → k ≡ unversioned_kind_of l.covered
    → Fails e (defines_of (found_after allow (defining old) l k left)) → Fails e (own_defines allow old (l ∷ left))
line_refused e allow old l k left kind h =
    refused_first (fault_of e) (found_after allow (defining old) l (unversioned_kind_of l.covered) left) (λ next. found_in allow next (left_open l (unversioned_kind_of l.covered)) left)
    (rw kind at h)

refused_defines : (o : Option Fault) (r : Result Found Fault) → MatchOption o (Unit {0}) (λ f. r ≡ Err f) → MatchOption o (Unit {0}) (λ f. defines_of r ≡ Err f)
refused_defines None r h = tt
refused_defines (Some f) r h = ap defines_of h

-- ---- imports
pub import_checked : (found : Found) (at : ℕ) (r : Result (List Leaf) SyntaxFault) → IsOk r → defines_of (with_import found at r) ≡ Ok found.defines
import_checked found at (Ok leaves) ok = refl
import_checked found at (Err f) ok = cc

pub import_refuses : (e : ComposerErrorInner) (allow : Bool) (old : Definitions) (l : Line) (left : List Line) → Fails e (found_after allow (defining old) l imports left)
    → Fails e (defines_of (found_after allow (defining old) l imports left))
import_refuses e allow old l left h = refused_defines (fault_of e) (found_after allow (defining old) l imports left) h

-- ---- a line of another kind
pub line_passes : (allow : Bool) (defs : Definitions) (l : Line) (k : code.LineKind) (left : List Line) → line_kind_of k ≡ unversioned_kind_of l.covered
    → (k ≡ kinds.Import → ⊥) → ((name : Bor (List ℕ)) (value : Option (Bor (List ℕ))) → k ≡ kinds.Define name value → ⊥) → own_defines allow defs left ≡ own_defines allow defs (l ∷ left)
line_passes allow defs l (kinds.Version known) left kind unlike_import unlike_define = line_read allow defs defs l (version known) left left kind refl refl
line_passes allow defs l (kinds.Condition is_else asked) left kind unlike_import unlike_define = line_read allow defs defs l (condition is_else (condition_of asked)) left left kind refl refl
line_passes allow defs l kinds.EndIf left kind unlike_import unlike_define = line_read allow defs defs l endif left left kind refl refl
line_passes allow defs l kinds.Import left kind unlike_import unlike_define = absurd (unlike_import refl)
line_passes allow defs l (kinds.ImportPath path) left kind unlike_import unlike_define = line_read allow defs defs l (import_path path.now) left left kind refl refl
line_passes allow defs l (kinds.Define name value) left kind unlike_import unlike_define = absurd (unlike_define name value refl)
line_passes allow defs l kinds.Other left kind unlike_import unlike_define = line_read allow defs defs l other left left kind refl refl

-- ---- the defines of a text
defines_with : (cleaned : List ℕ) (directives : Directives) (r : Result Found Fault) (defs : Definitions) → defines_of r ≡ Ok defs
    → source_and_defines (metadata_with cleaned directives r) ≡ Ok (cleaned, defs)
defines_with cleaned directives (Ok found) defs e = let same : found.defines ≡ defs = cc in ap (λ (d : Definitions). Ok (cleaned, d)) same
defines_with cleaned directives (Err f) defs e = cc

refused_with : (o : Option Fault) (cleaned : List ℕ) (directives : Directives) (r : Result Found Fault) → MatchOption o (Unit {0}) (λ f. defines_of r ≡ Err f)
    → MatchOption o (Unit {0}) (λ f. source_and_defines (metadata_with cleaned directives r) ≡ Err f)
refused_with None cleaned directives r h = tt
refused_with (Some f) cleaned directives (Ok found) h = cc
refused_with (Some f) cleaned directives (Err own) h = let same : own ≡ f = cc in ap Err same

pub text_defines : (allow : Bool) (text cleaned : List ℕ) (directives : Directives) (defs : Definitions) → extracted text ≡ Ok (cleaned, directives)
    → own_defines allow none_defined (source_lines cleaned) ≡ Ok defs → source_and_defines (metadata allow text) ≡ Ok (cleaned, defs)
text_defines allow text cleaned directives defs e h =
    ap source_and_defines (metadata_cleaned allow text cleaned directives e)
    ∙ defines_with cleaned directives (found_in allow nothing_found 0 (source_lines cleaned)) defs h

pub defines_refused : (e : ComposerErrorInner) (allow : Bool) (text cleaned : List ℕ) (directives : Directives) → extracted text ≡ Ok (cleaned, directives)
    → Fails e (own_defines allow none_defined (source_lines cleaned)) → Fails e (source_and_defines (metadata allow text))
defines_refused e allow text cleaned directives is h =
    rw (metadata_cleaned allow text cleaned directives is) (refused_with (fault_of e) cleaned directives (found_in allow nothing_found 0 (source_lines cleaned)) h)

told_refused : (o : Option Fault) (r : Result Metadata Fault) → MatchOption o (Unit {0}) (λ f. r ≡ Err f) → MatchOption o (Unit {0}) (λ f. source_and_defines r ≡ Err f)
told_refused None r h = tt
told_refused (Some f) r h = ap source_and_defines h

-- a directive's fault comes first
pub directives_refuse : (e : ComposerErrorInner) (allow : Bool) (text : List ℕ) → Fails e (extracted text) → Fails e (source_and_defines (metadata allow text))
directives_refuse e allow text h = told_refused (fault_of e) (metadata allow text) (directives_refused e allow text h)
