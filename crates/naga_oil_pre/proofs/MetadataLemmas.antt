-- The findings in a text, line by line.
use Rattle.std.proofs.Common.{◌≡◌, ℕ, zero, suc, ◌+◌, ◌<◌, length, get_or, take, Bool, true, false, ◌||◌, ◌∷◌, [], ◌++◌, List, Option, Some, None, MatchOption, Result, Ok, Err, refl, sym, ap, ◌∙◌}
use Rattle.std.specs.Prelude.{OnOk, is_none, map, option_map, String, string_bytes}
use Rattle.std.specs.BTreeSet.{BTreeSet, contains_text}
use Rattle.std.specs.List.{flat_map}
use Rattle.std.proofs.lemmas.Grind.{flat_map-append}
use Rattle.std.proofs.lemmas.List.{map_more, map_push}
use Rattle.naga_oil_imports.specs.declared.import_definition.ImportDefinition.{ImportDefinition}
use Rattle.naga_oil_imports.specs.declared.import_definition.ImportDefWithOffset.{ImportDefWithOffset}
use Rattle.naga_oil_lines.specs.Directives.{Directives, directives_of}
use Rattle.naga_oil_imports.specs.Leaves.{Leaf, SyntaxFault}
use Rattle.naga_oil_imports.specs.Uses.{Import, import_of, use_of}
use Rattle.naga_oil_pre.specs.declared.metadata.PreprocessorMetaData.{PreprocessorMetaData}
use Rattle.naga_oil_conditions.specs.declared.fault.ComposerErrorInner.{ComposerErrorInner}
use Rattle.naga_oil_pre.specs.Extracted.{extracted}
use Rattle.naga_oil_conditions.specs.Line.{Line, source_lines}
use Rattle.naga_oil_pre.specs.MetadataView.{has_with, Gains, metadata_of}
use Rattle.naga_oil_pre.specs.Preprocessed.{Passage, imported_passage, preprocessed}
use Rattle.naga_oil_pre.specs.Reading.{braces_after, taken, after_taken}
use Rattle.naga_oil_pre.specs.Recorded.{line_names, names_of, is_recorded, AgreeOn}
use Rattle.naga_oil_conditions.specs.View.{Fails, fault_of}
use Rattle.naga_oil_pre.proofs.Agreement.{recorded_names_decide}
use Rattle.naga_oil_pre.specs.Taking.{TakesAll}
use Rattle.naga_oil_pre.proofs.RecordedLemmas.{gained, gains_nothing, gains_both}
use Rattle.std.specs.declared.alloc.Global.{Global}
use Rattle.std.specs.BTreeMap as tree
use Rattle.std.specs.BTreeMap.{BTreeMap, get_by_text}
use Rattle.std.specs.Cmp.Lexicographic.{slice_cmp}
use Rattle.std.specs.Ordering.{nat_cmp}
use Rattle.std.specs.String.{string_cmp}
use Rattle.std.proofs.lemmas.Map.Text.{btree_map_updates_text}
use Rattle.naga_oil_conditions.specs.declared.shader_def.ShaderDefValue.{ShaderDefValue}
use Rattle.naga_oil_conditions.specs.Fault.{Fault, Definitions}
use Rattle.naga_oil_conditions.specs.DefineValue.{defined_value}
use Rattle.naga_oil_pre.specs.Metadata.{Found, Metadata, nothing_found, metadata_with, metadata_of_cleaned, metadata_after, metadata, data_of, with_definition, defined_as, defined_after, with_import, going_on, found_in}

-- ---- defines
all_alike : {A : Type 0} (f g : List ℕ → A) → ((name : List ℕ) → f name ≡ g name) → f ≡ g
all_alike f g h = λ i name. h name i

-- a name that is inserted
pub defines_name : (old new : BTreeMap (String Global) ShaderDefValue) (key : String Global) (name : List ℕ) (text : Option (List ℕ)) (at : ℕ) (value : ShaderDefValue)
    → string_bytes key ≡ name → defined_value text ≡ Some value → tree.UpdatesBy string_cmp (λ k. slice_cmp nat_cmp (string_bytes key) (string_bytes k)) old new (Some value)
    → defined_after true (get_by_text old) at name text ≡ Ok (get_by_text new)
defines_name old new key name text at value e is updates =
    ap (defined_as (get_by_text old) at name text) is
    ∙ ap (λ n. Ok (with_definition (get_by_text old) n value)) (sym e)
    ∙ ap Ok (sym (all_alike (get_by_text new) (with_definition (get_by_text old) (string_bytes key) value) (btree_map_updates_text (string_bytes key) old new (Some value) updates)))

-- ---- the names of lines that an import takes
names_of_first : (l : Line) (more : List Line) → names_of (l ∷ more) ≡ line_names l ++ names_of more
unfolding names_of
names_of_first l more = refl

-- the names of the taken lines are recorded
pub takes_names : (old new : BTreeSet (String Global)) (ls : List Line) → TakesAll (λ (o : BTreeSet (String Global)) (l : Line) (n : BTreeSet (String Global)). Gains o n (line_names l)) old ls new
    → Gains old new (names_of ls)
unfolding names_of
takes_names old new [] h = λ name. ap (λ s. contains_text s name) h ∙ gains_nothing old name
takes_names old new (l ∷ ls) h = gains_both old h.0 new (line_names l) (names_of ls) h.1 (takes_names h.0 new ls h.2)

taken_and_after : (n : ℕ) (ls : List Line) → taken n ls ++ after_taken n ls ≡ ls
taken_and_after zero ls = refl
taken_and_after (suc n) [] = refl
taken_and_after (suc n) (l ∷ ls) = ap (λ v. l ∷ v) (taken_and_after (braces_after (suc n) l.covered) ls)

names_of_all : (n : ℕ) (ls : List Line) → names_of ls ≡ names_of (taken n ls) ++ names_of (after_taken n ls)
unfolding names_of
names_of_all n ls = ap (flat_map line_names) (sym (taken_and_after n ls)) ∙ flat_map-append line_names (taken n ls) (after_taken n ls)

-- an import has recorded the names of the lines that it takes
pub import_recorded : (old new : BTreeSet (String Global)) (n : ℕ) (left after : List Line) → after ≡ after_taken n left → Gains old new (names_of (taken n left))
    → (name : List ℕ) → has_with new (names_of after) name ≡ has_with old (names_of left) name
import_recorded old new n left after e h name =
    ap (λ ls. has_with new (names_of ls) name) e ∙ gained old new (names_of (taken n left)) (names_of (after_taken n left)) (names_of left) h (names_of_all n left) name

-- a line has recorded its names
pub line_recorded : (old new : BTreeSet (String Global)) (l : Line) (more : List Line) (names : List (List ℕ)) → names ≡ line_names l → Gains old new names
    → (name : List ℕ) → has_with new (names_of more) name ≡ has_with old (names_of (l ∷ more)) name
line_recorded old new l more names e h =
    gained old new names (names_of more) (names_of (l ∷ more)) h (names_of_first l more ∙ ap (λ ns. ns ++ names_of more) (sym e))

or_false : (b : Bool) → (b || false) ≡ b
or_false true = refl
or_false false = refl

-- where no line is left, all names are recorded
pub all_recorded : (set : BTreeSet (String Global)) (left : List Line) (records : List ℕ → Bool) → left ≡ [] → ((name : List ℕ) → has_with set (names_of left) name ≡ records name)
    → (name : List ℕ) → contains_text set name ≡ records name
unfolding names_of
all_recorded set left records e h name = sym (or_false (contains_text set name)) ∙ ap (λ ls. has_with set (names_of ls) name) (sym e) ∙ h name

-- ---- imports
pub found_after_taken : (allow : Bool) (found : Found) (n : ℕ) (ls : List Line) → found_in allow found n ls ≡ found_in allow found 0 (after_taken n ls)
found_after_taken allow found zero ls = refl
found_after_taken allow found (suc n) [] = refl
found_after_taken allow found (suc n) (l ∷ ls) = found_after_taken allow found (braces_after (suc n) l.covered) ls

pub import_read : (allow : Bool) (next : Found) (n : ℕ) (left after : List Line) (first : Result Found Fault) → first ≡ Ok next → after ≡ after_taken n left
    → found_in allow next 0 after ≡ going_on first (λ found. found_in allow found n left)
import_read allow next n left after first e is =
    ap (found_in allow next 0) is ∙ sym (found_after_taken allow next n left) ∙ ap (λ r. going_on r (λ found. found_in allow found n left)) (sym e)

refused_alike : (X Y : Type 0) (o : Option Fault) (own : Fault) → (let a : Result X Fault = Err own in MatchOption o (Unit {0}) (λ f. a ≡ Err f)) → (let b : Result Y Fault = Err own in MatchOption o (Unit {0}) (λ f. b ≡ Err f))
refused_alike X Y None own h = tt
refused_alike X Y (Some f) own h = let same : own ≡ f = cc in ap Err same

never_refused : (X Y : Type 0) (o : Option Fault) (x : X) (b : Result Y Fault) → (let a : Result X Fault = Ok x in MatchOption o (Unit {0}) (λ f. a ≡ Err f)) → MatchOption o (Unit {0}) (λ f. b ≡ Err f)
never_refused X Y None x b h = tt
never_refused X Y (Some f) x b h = cc

pub import_refused : (e : ComposerErrorInner) (found : Found) (l : Line) (r : Result (List Leaf) SyntaxFault) → Fails e (imported_passage found.known l r) → Fails e (with_import found l.at r)
import_refused e found l (Ok leaves) h = never_refused Passage Found (fault_of e) _ (with_import found l.at (Ok leaves)) h
import_refused e found l (Err f) h = refused_alike Passage Found (fault_of e) _ h

-- ---- consequences of two clauses on a result
pub on_both : {X Y : Type 0} (r : Result X Y) (P Q R : Type 0) → OnOk r P → OnOk r Q → (P → Q → R) → OnOk r R
on_both (Ok x) P Q R h g go = go h g
on_both (Err e) P Q R h g go = tt

-- ---- the metadata of a cleaned text
pub metadata_made : (allow : Bool) (m : PreprocessorMetaData) (found : Found) → found_in allow nothing_found 0 (source_lines (string_bytes m.cleaned_source)) ≡ Ok found
    → option_map string_bytes m.name ≡ found.name → map use_of m.imports.items ≡ map (λ u. u.1) found.known.uses → get_by_text m.defines ≡ found.defines
    → ((name : List ℕ) → contains_text m.effective_defs name ≡ is_recorded (string_bytes m.cleaned_source) name)
    → metadata_of_cleaned allow (string_bytes m.cleaned_source) (directives_of m.wgsl_directives) ≡ Ok (metadata_of m)
metadata_made allow m found read name uses defines records =
    let text : List ℕ = string_bytes m.cleaned_source in
    ap (metadata_with text (directives_of m.wgsl_directives)) read
    ∙ (λ i. let made : Metadata = record {
      name = sym name i;
      uses = sym uses i;
      defines = sym defines i;
      records = λ asked. sym (records asked) i;
      directives = directives_of m.wgsl_directives;
      cleaned = text;
    } in Ok made)

pub agreed : (text : List ℕ) (names : BTreeSet (String Global)) → ((name : List ℕ) → contains_text names name ≡ is_recorded text name)
    → (d e : Definitions) → AgreeOn (contains_text names) d e → preprocessed d text ≡ preprocessed e text
agreed text names records d e h = recorded_names_decide text d e (λ name is. h name (records name ∙ is))

-- ---- the metadata of a text
pub metadata_cleaned : (allow : Bool) (text cleaned : List ℕ) (directives : Directives) → extracted text ≡ Ok (cleaned, directives) → metadata allow text ≡ metadata_of_cleaned allow cleaned directives
unfolding metadata
metadata_cleaned allow text cleaned directives e = ap (metadata_after allow) e

metadata_refused : (allow : Bool) (text : List ℕ) (f : Fault) → extracted text ≡ Err f → metadata allow text ≡ Err f
unfolding metadata
metadata_refused allow text f e = ap (metadata_after allow) e

fails_on : (o : Option Fault) (allow : Bool) (text : List ℕ) → MatchOption o (Unit {0}) (λ f. extracted text ≡ Err f) → MatchOption o (Unit {0}) (λ f. metadata allow text ≡ Err f)
fails_on None allow text h = tt
fails_on (Some f) allow text h = metadata_refused allow text f h

-- a directive's fault comes first
pub directives_refused : (e : ComposerErrorInner) (allow : Bool) (text : List ℕ) → Fails e (extracted text) → Fails e (metadata allow text)
directives_refused e allow text h = fails_on (fault_of e) allow text h

-- ---- imports without their places
abbrev import_at : ImportDefWithOffset → Import
import_at used = (use_of used).import

pub definitions_more : (imports : List ImportDefWithOffset) (i : ℕ) (used : ImportDefWithOffset) (copy : ImportDefinition) (done more : List ImportDefinition) → i < length imports → used ≡ get_or imports i used
    → import_of copy ≡ import_at used → more ≡ done ++ copy ∷ [] → map import_of done ≡ map import_at (take i imports) → map import_of more ≡ map import_at (take (i + 1) imports)
definitions_more imports i used copy done more within at same e before =
    ap (map import_of) e ∙ map_push import_of done copy ∙ ap (λ (d : Import). map import_of done ++ d ∷ []) same
    ∙ ap (λ ds. ds ++ import_at used ∷ []) before ∙ ap (λ u. map import_at (take i imports) ++ import_at u ∷ []) at
    ∙ sym (map_more import_at imports i used within)

places_dropped : (imports : List ImportDefWithOffset) → map (λ u. u.import) (map use_of imports) ≡ map import_at imports
places_dropped [] = refl
places_dropped (used ∷ more) = ap (λ ds. import_at used ∷ ds) (places_dropped more)

pub data_made : (m : PreprocessorMetaData) (r : Result Metadata Fault) (definitions : List Import) → r ≡ Ok (metadata_of m) → definitions ≡ map import_at m.imports.items
    → data_of r ≡ (option_map string_bytes m.name, definitions, get_by_text m.defines)
data_made m r definitions e same = ap data_of e ∙ ap (λ (ds : List Import). (option_map string_bytes m.name, ds, get_by_text m.defines)) (places_dropped m.imports.items ∙ sym same)

-- if the metadata has an error other than out of memory, there is nothing
pub data_refused : (o : Option Fault) (r : Result Metadata Fault) (definitions : List ImportDefinition) (defines : BTreeMap (String Global) ShaderDefValue) → MatchOption o (Unit {0}) (λ f. r ≡ Err f) → false ≡ is_none o
    → definitions ≡ [] → defines.entries ≡ [] → data_of r ≡ (None, map import_of definitions, get_by_text defines)
data_refused None r definitions defines h e none empty = cc
data_refused (Some f) r definitions defines h e none empty = ap data_of h ∙ rw (none, empty) refl
