-- The words, and the files that are read.
use Rattle.std.proofs.Common.{◌≡◌, ◌∷◌, ◌∙◌, ℕ, true, List, [], map, drop, Option, Some, None, Result, Ok, Err, String, Global, Bor, refl, sym, ap, subst, string_bytes}
use Rattle.std.specs.Prelude.{IsSome, IfOk, IfErr, Vec}
use Rattle.std.specs.BTreeMap.{BTreeMap, get_by_text}
use Rattle.std.proofs.lemmas.Simd.{map-map}
use Rattle.naga_oil_conditions.specs.Fault.{Fault, Definitions}
use Rattle.naga_oil_conditions.specs.declared.shader_def.ShaderDefValue.{ShaderDefValue}
use Rattle.naga_oil_registry.specs.Registered.{Defs, defs_of}
use Rattle.naga_oil_registry.specs.Report.{report}
use Rattle.naga_oil_pre.specs.Metadata.{metadata}
use Rattle.naga_oil.specs.Reach.{defined}
use Rattle.naga_oil.proofs.ReachLemmas.{defined_same}
use Rattle.naga_oil_mini.specs.Defined.{definitions_among}
use Rattle.naga_oil_mini.specs.Extra.{HasText, IsListedFile, RefusesExtra, metadata_of_file}
use Rattle.naga_oil_mini.specs.Listing.{IsListed}
use Rattle.naga_oil_mini.specs.Made.{File, reported}
use Rattle.naga_oil_mini.specs.MadeView.{file_of}
use Rattle.naga_oil_mini.specs.Printed.{printed}
use Rattle.naga_oil_mini.specs.Shown.{Fails, Gives, Given, IsShown, Refuses, Reports, or_report_of, shown_of}
use Rattle.naga_oil_mini.specs.Words.{Asked, asked}
use Rattle.naga_oil_mini.specs.declared.mini.refusal.Refusal.{Refusal}
use Rattle.naga_oil_mini.specs.declared.mini.refusal.Refusal.TheVariants as refusal

-- a file, as the code has it
abbrev pub CodeFile : Type 0
CodeFile = Bor (List ℕ) × String Global

-- the words and their files, of which the first is the shader's
abbrev pub given : (reads : List File → Type 0) (words : List (List ℕ)) (a : Asked) (defs : Defs) (all : List CodeFile) (top : CodeFile) (others : List CodeFile) → asked words ≡ Some a → definitions_among (drop 1 words) ≡ Ok defs → all ≡ top ∷ others → map (λ f. f.0.now) all ≡ a.files → reads (map file_of all) → Given reads words
given reads words a defs all top others asks defines parts named read = record {
  request = a;
  defs = defs;
  top = file_of top;
  others = map file_of others;
  is_request = asks;
  are_definitions = defines;
  are_named = ap (λ (fs : List CodeFile). map (λ (f : File). f.path) (map file_of fs)) (sym parts) ∙ map-map (λ (f : File). f.path) file_of all ∙ named;
  are_read = subst (λ (fs : List CodeFile). reads (map file_of fs)) parts read;
}

-- the refusal of a task that fails at them
pub refused_task : (reads : List File → Type 0) (words : List (List ℕ)) (g : Given reads words) (e : Refusal) → Fails e (shown_of g) → Refuses reads words e
refused_task reads words g (refusal.Fault report) h = (g, h)
refused_task reads words g refusal.NotInMini h = (g, h)
refused_task reads words g refusal.Memory h = subst IsSome (sym g.is_request) refl
refused_task reads words g refusal.Usage h = absurd h
refused_task reads words g (refusal.BadDefinition word) h = absurd h
refused_task reads words g (refusal.CannotRead file) h = absurd h
refused_task reads words g refusal.Write h = absurd h

-- ---- the preprocessed text of a file

pub reported_text : (path text : List ℕ) (value : Result (List ℕ) Fault) (e : Refusal) → Reports path text value e → Fails e (or_report_of (record { path = path; text = text }) value)
reported_text path text value (refusal.Fault r) (f, is, told) = ap (or_report_of (record { path = path; text = text })) is ∙ ap (λ t. Err (reported t)) (sym told)
reported_text path text value refusal.Memory h = h
reported_text path text value refusal.Usage h = absurd h
reported_text path text value (refusal.BadDefinition word) h = absurd h
reported_text path text value (refusal.CannotRead file) h = absurd h
reported_text path text value refusal.NotInMini h = absurd h
reported_text path text value refusal.Write h = absurd h

-- the preprocessed text of a file is shown
pub text_printed : (f : File) (defs : BTreeMap (String Global) ShaderDefValue) (r : Result (String Global) Refusal) → IfOk r (λ t. printed (get_by_text defs) f.text ≡ Ok (string_bytes t)) → IfErr r (Reports f.path f.text (printed (get_by_text defs) f.text)) → Gives string_bytes r (or_report_of f (printed (defined (defs_of defs)) f.text))
text_printed f defs (Ok t) ok err = ap (or_report_of f) (ap (λ (d : Definitions). printed d f.text) (sym (defined_same defs)) ∙ ok)
text_printed f defs (Err e) ok err = subst (λ (d : Definitions). Fails e (or_report_of f (printed d f.text))) (defined_same defs) (reported_text f.path f.text (printed (get_by_text defs) f.text) e err)

-- ---- one file

-- the one file that is read
pub one_read : (reads : List File → Type 0) (file : List ℕ) (all rest : List CodeFile) (first : CodeFile) → all ≡ first ∷ rest → map (λ f. f.0.now) all ≡ file ∷ [] → reads (map file_of all) → HasText reads file (string_bytes first.1)
one_read reads file all [] first parts named read =
    let is : first.0.now ≡ file = ap (λ (xs : List (List ℕ)). elim xs [ [] ↦ file | x ∷ more ↦ x ]) (sym (ap (map (λ f. f.0.now)) parts) ∙ named) in
    subst (λ path. reads (record { path = path; text = string_bytes first.1 } ∷ [])) is (subst (λ (fs : List CodeFile). reads (map file_of fs)) parts read)
one_read reads file all (f ∷ rest) first parts named read =
    let two : first.0.now ∷ f.0.now ∷ map (λ f. f.0.now) rest ≡ file ∷ [] = sym (ap (map (λ f. f.0.now)) parts) ∙ named in
    absurd cc

-- the refusal of its text
pub refused_text : (reads : List File → Type 0) (file source : List ℕ) → HasText reads file source → (e : Refusal) → Reports file source (metadata true source) e → RefusesExtra reads (metadata_of_file file) e
refused_text reads file source read (refusal.Fault report) h = (source, read, h)
refused_text reads file source read refusal.Memory h = h
refused_text reads file source read refusal.Usage h = absurd h
refused_text reads file source read (refusal.BadDefinition word) h = absurd h
refused_text reads file source read (refusal.CannotRead other) h = absurd h
refused_text reads file source read refusal.NotInMini h = absurd h
refused_text reads file source read refusal.Write h = absurd h

-- the lines of its metadata
pub listed_read : (reads : List File → Type 0) (file source : List ℕ) (r : Result (Vec ℕ Global) Refusal) → HasText reads file source → IfOk r (λ t. IsListed source t.items) → IfOk r (λ t. IsListedFile reads file t.items)
listed_read reads file source (Ok t) read h = (source, read, h)
listed_read reads file source (Err e) read h = h

-- or the refusal in their place
pub refused_read : (reads : List File → Type 0) (file source : List ℕ) (r : Result (Vec ℕ Global) Refusal) → HasText reads file source → IfErr r (Reports file source (metadata true source)) → IfErr r (RefusesExtra reads (metadata_of_file file))
refused_read reads file source (Ok t) read h = h
refused_read reads file source (Err e) read h = refused_text reads file source read e h
