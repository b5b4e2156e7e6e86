-- The words, and the files that are read.
use Rattle.std.proofs.Common.{◌≡◌, ◌∷◌, ◌∙◌, ℕ, List, map, Option, Some, None, Result, Ok, Err, String, Global, sym, ap, subst, string_bytes}
use Rattle.std.specs.Prelude.{IfErr, IfOk, OnOk}
use Rattle.std.specs.Io.KnownBytes.{Appends}
use Rattle.std.proofs.lemmas.Simd.{map-map}
use Rattle.naga_oil_ir.specs.Backend.{FrontEnd}
use Rattle.naga_oil_registry.specs.Registered.{Defs}
use Rattle.yettuvam_build.proofs.FileLemmas.{CodeFile}
use Rattle.yettuvam_build.specs.Defined.{definitions_of}
use Rattle.yettuvam_build.specs.Files.{File, file_of}
use Rattle.yettuvam_build.specs.Refusals.{Fails, Gives, IsWrite, RefusesWords}
use Rattle.yettuvam_build.specs.Shown.{Given, IsBuilt, Refuses, RefusesBuild, RefusesFor, Shows, Writes, WritesFor, shown_of}
use Rattle.yettuvam_build.specs.Words.{Command, Request, build, own_text}
use Rattle.yettuvam_build.specs.declared.refusal.Refusal.{Refusal}
use Rattle.yettuvam_build.specs.declared.refusal.Refusal.TheVariants as refusal

-- a request and its files, of which the first is the shader's
abbrev pub given : (reads : List File → Type 0) (r : Request) (defs : Defs) (all : List CodeFile) (top : CodeFile) (others : List CodeFile) → definitions_of r.definitions ≡ Ok defs → all ≡ top ∷ others → map (λ f. f.0.now) all ≡ r.files → reads (map file_of all) → Given reads r
given reads r defs all top others defines parts named read = record {
  defs = defs;
  top = file_of top;
  others = map file_of others;
  are_definitions = defines;
  are_named = ap (λ (fs : List CodeFile). map (λ (f : File). f.path) (map file_of fs)) (sym parts) ∙ map-map (λ (f : File). f.path) file_of all ∙ named;
  are_read = subst (λ (fs : List CodeFile). reads (map file_of fs)) parts read;
}

-- the refusal of a build that fails at them
pub refused_build : (front : FrontEnd) (reads : List File → Type 0) (r : Request) (g : Given reads r) (e : Refusal) → Fails e (shown_of front g) → RefusesBuild front reads r e
refused_build front reads r g (refusal.Fault report) h = (g, h)
refused_build front reads r g refusal.Memory h = h
refused_build front reads r g refusal.Usage h = absurd h
refused_build front reads r g (refusal.BadDefinition word) h = absurd h
refused_build front reads r g (refusal.CannotRead file) h = absurd h
refused_build front reads r g refusal.Write h = absurd h

-- a refusal of a request is one of its command
pub refused_request : (front : FrontEnd) (reads : List File → Type 0) (r : Request) (e : Refusal) → RefusesBuild front reads r e → Refuses front reads (build r) e
refused_request front reads r (refusal.Fault report) h = h
refused_request front reads r refusal.Memory h = h
refused_request front reads r refusal.Usage h = absurd h
refused_request front reads r (refusal.BadDefinition word) h = h
refused_request front reads r (refusal.CannotRead file) h = h
refused_request front reads r refusal.Write h = absurd h

-- a refusal of words is one of their command
pub refused_words : (front : FrontEnd) (reads : List File → Type 0) (c : Option Command) (e : Refusal) → RefusesWords c e → RefusesFor front reads c e
refused_words front reads None refusal.Usage h = h
refused_words front reads None refusal.Memory h = absurd h
refused_words front reads None refusal.Write h = absurd h
refused_words front reads None (refusal.Fault report) h = absurd h
refused_words front reads None (refusal.BadDefinition word) h = absurd h
refused_words front reads None (refusal.CannotRead file) h = absurd h
refused_words front reads (Some (build r)) refusal.Memory h = h
refused_words front reads (Some (build r)) refusal.Usage h = absurd h
refused_words front reads (Some (build r)) refusal.Write h = absurd h
refused_words front reads (Some (build r)) (refusal.Fault report) h = absurd h
refused_words front reads (Some (build r)) (refusal.BadDefinition word) h = absurd h
refused_words front reads (Some (build r)) (refusal.CannotRead file) h = absurd h
refused_words front reads (Some (own_text text)) refusal.Memory h = absurd h
refused_words front reads (Some (own_text text)) refusal.Usage h = absurd h
refused_words front reads (Some (own_text text)) refusal.Write h = absurd h
refused_words front reads (Some (own_text text)) (refusal.Fault report) h = absurd h
refused_words front reads (Some (own_text text)) (refusal.BadDefinition word) h = absurd h
refused_words front reads (Some (own_text text)) (refusal.CannotRead file) h = absurd h

-- ---- a build of them

pub text_shown : (front : FrontEnd) (reads : List File → Type 0) (r : Request) (g : Given reads r) (value : Result (String Global) Refusal) → Gives string_bytes value (shown_of front g) → IfOk value (λ t. IsBuilt front reads r (string_bytes t))
text_shown front reads r g (Ok t) h = (g, h)
text_shown front reads r g (Err e) h = tt

pub text_refused : (front : FrontEnd) (reads : List File → Type 0) (r : Request) (g : Given reads r) (value : Result (String Global) Refusal) → Gives string_bytes value (shown_of front g) → IfErr value (RefusesBuild front reads r)
text_refused front reads r g (Ok t) h = tt
text_refused front reads r g (Err e) h = refused_build front reads r g e h

-- ---- their command

-- the text of a command is written, or the write fails
pub text_written : (front : FrontEnd) (reads : List File → Type 0) (c : Command) (shown : List ℕ) (value : Result (Unit {0}) Refusal) (old new : Option (List ℕ)) → Shows front reads c shown → OnOk value (Appends old new shown) → OnOk value (Writes front reads c old new)
text_written front reads c shown (Ok u) old new is h = (shown, is, h)
text_written front reads c shown (Err e) old new is h = tt

pub text_unwritten : (front : FrontEnd) (reads : List File → Type 0) (c : Command) (shown : List ℕ) (value : Result (Unit {0}) Refusal) → Shows front reads c shown → IfErr value IsWrite → IfErr value (Refuses front reads c)
text_unwritten front reads c shown (Ok u) is h = tt
text_unwritten front reads c shown (Err e) is h = subst (Refuses front reads c) (sym h) (shown, is)

pub written_for : (front : FrontEnd) (reads : List File → Type 0) (asked : Option Command) (c : Command) (value : Result (Unit {0}) Refusal) (old new : Option (List ℕ)) → asked ≡ Some c → OnOk value (Writes front reads c old new) → OnOk value (WritesFor front reads asked old new)
written_for front reads asked c value old new is h = subst (λ (o : Option Command). OnOk value (WritesFor front reads o old new)) (sym is) h

pub refused_for : (front : FrontEnd) (reads : List File → Type 0) (asked : Option Command) (c : Command) (value : Result (Unit {0}) Refusal) → asked ≡ Some c → IfErr value (Refuses front reads c) → IfErr value (RefusesFor front reads asked)
refused_for front reads asked c value is h = subst (λ (o : Option Command). IfErr value (RefusesFor front reads o)) (sym is) h
