-- What a make reads of its shader.
use Rattle.std.proofs.Common.{◌≡◌, ℕ, zero, suc, List, [], ◌∷◌, map, Bool, true, false, ◌||◌, cond, refl, sym, ap, subst, ◌∙◌, Option, Some, None, option_map, Result, Ok, Err, String, Global, string_bytes, Ordering, Less, Equal, Greater}
use Rattle.std.proofs.lemmas.Bool.{or_from, true≢false}
use Rattle.std.proofs.lemmas.Cmp.{nat_list_cmp_total}
use Rattle.std.proofs.lemmas.List.Folds.{list_any-append}
use Rattle.std.proofs.lemmas.Map.Lookups.{exact_bytes}
use Rattle.std.proofs.lemmas.Map.Text.{is_eq-slice_cmp}
use Rattle.std.proofs.lemmas.Slice.Eq.{bytes_eq-Decides}
use Rattle.std.specs.Cmp.Lexicographic.{slice_cmp}
use Rattle.std.specs.List.{cons_option, flat_map, AllByRecursion}
use Rattle.std.specs.List.Sorted.{IsStrictlySortedBy}
use Rattle.std.specs.Map.{keys_of}
use Rattle.std.specs.Ordering.{nat_cmp, is_eq, ordering_reverse}
use Rattle.std.specs.Str.{bytes_eq}
use Rattle.std.specs.String.{string_cmp}
use Rattle.naga_oil_lines.specs.Directives.{Directives}
use Rattle.naga_oil_words.specs.Texts.{in_order, is_among, texts}
use Rattle.naga_oil_imports.specs.Leaves.{Leaf, SyntaxFault}
use Rattle.naga_oil_lines.proofs.NamesInOrder.{names_rise}
use Rattle.naga_oil_conditions.specs.DefineValue.{defined_value}
use Rattle.naga_oil_pre.specs.Extracted.{extracted}
use Rattle.naga_oil_conditions.specs.Fault.{Fault, Definitions}
use Rattle.naga_oil_conditions.specs.Kind.{LineKind, version, condition, endif, imports, import_path, define, other, unversioned_kind_of}
use Rattle.naga_oil_conditions.specs.Line.{Line, source_lines}
use Rattle.naga_oil_pre.specs.Metadata.{Found, Metadata, metadata, metadata_after, metadata_with, found_in, found_after, nothing_found, defined_as, defined_after, with_defines, with_import, going_on, left_open}
use Rattle.naga_oil_pre.specs.Reading.{braces_after}
use Rattle.naga_oil_conditions.specs.declared.shader_def.ShaderDefValue.{ShaderDefValue}
use Rattle.naga_oil_words.specs.ResultSteps.{◌>>=◌}
use Rattle.naga_oil_registry.specs.Registered.{Registered, Defs}
use Rattle.naga_oil_registry.specs.Descriptor.{ShaderSource}
use Rattle.naga_oil_registry.specs.Merged.{recorded_names}
use Rattle.naga_oil_registry.proofs.MergedLemmas.{named}
use Rattle.naga_oil_registry.proofs.NamesLemmas.{sorted_texts, among-in_order}
use Rattle.naga_oil.specs.Reach.{defined}
use Rattle.naga_oil.specs.Shader.{name_defined, names_defined, defs_among, shader_definition, shader_found, read_shader}

-- ---- sorted definitions are determined by their values of names that include theirs

abbrev order : List ℕ → List ℕ → Ordering
order a b = slice_cmp nat_cmp a b

-- each name is above this one
abbrev Above : List ℕ → List (List ℕ) → Type 0
Above n names = AllByRecursion (λ m. order n m ≡ Less) names

abbrev names_in : Defs → List (List ℕ)
names_in defs = map (λ d. d.0) defs

above_more : (x y : List ℕ) (zs : List (List ℕ)) → order x y ≡ Less → Above y zs → Above x zs
above_more x y [] e h = tt
above_more x y (z ∷ zs) e h = (nat_list_cmp_total.trans x y z e h.0, above_more x y zs e h.1)

-- a name below all names isn't among them
not_above : (x : List ℕ) (zs : List (List ℕ)) → Above x zs → is_among zs x ≡ false
not_above x [] h = refl
not_above x (z ∷ zs) h = or_from (bytes_eq x z) (is_among zs x) (sym (is_eq-slice_cmp x z) ∙ ap is_eq h.0) (not_above x zs h.1)

-- and it isn't defined
undefined_above : (x : List ℕ) (defs : Defs) → Above x (names_in defs) → defined defs x ≡ None
undefined_above x [] h = refl
undefined_above x (d ∷ defs) h = ap (λ o. cond (is_eq o) (Some d.1) (defined defs x)) h.0 ∙ undefined_above x defs h.1

first_defined : (d : List ℕ × ShaderDefValue) (defs : Defs) → defined (d ∷ defs) d.0 ≡ Some d.1
first_defined d defs = ap (λ b. cond b (Some d.1) (defined defs d.0)) (is_eq-slice_cmp d.0 d.0 ∙ (bytes_eq-Decides d.0 d.0).1 refl)

-- of names above the first, the other definitions say the same
past_first : (d : List ℕ × ShaderDefValue) (defs : Defs) (names : List (List ℕ)) → Above d.0 names → defs_among (defined (d ∷ defs)) names ≡ defs_among (defined defs) names
past_first d defs [] h = refl
past_first d defs (n ∷ names) h =
    let apart : order n d.0 ≡ Greater = nat_list_cmp_total.antisymm n d.0 ∙ ap ordering_reverse h.0 in
    ap (λ o. cons_option (option_map (λ v. (n, v)) (cond (is_eq o) (Some d.1) (defined defs n))) (defs_among (defined (d ∷ defs)) names)) apart
    ∙ ap (λ (ds : Defs). cons_option (option_map (λ v. (n, v)) (defined defs n)) ds) (past_first d defs names h.1)

-- what isn't among names isn't defined
abbrev Covers : List (List ℕ) → Defs → Type 0
Covers names defs = (m : List ℕ) → is_among names m ≡ false → defined defs m ≡ None

from_names : (names : List (List ℕ)) (defs : Defs) → IsStrictlySortedBy (slice_cmp nat_cmp) names → IsStrictlySortedBy (slice_cmp nat_cmp) (names_in defs) → Covers names defs → defs_among (defined defs) names ≡ defs
unfolding IsStrictlySortedBy
from_names [] [] s t h = refl
from_names [] (d ∷ defs) s t h = let none = h d.0 refl in let some = first_defined d defs in absurd cc
from_names (n ∷ names) [] s t h = from_names names [] s.1 t (λ m e. refl)
from_names (n ∷ names) (d ∷ defs) s t h = by (order n d.0) refl (λ k. from_names names defs s.1 t.1 k) (λ k. from_names names (d ∷ defs) s.1 t k)
  where
    -- all but the first name
    but_first : (P : List ℕ → Type 0) (m : List ℕ) → P n → (bytes_eq m n ≡ false → P m) → P m
    but_first P m p k = go (bytes_eq m n) refl
      where
        go : (b : Bool) → bytes_eq m n ≡ b → P m
        go true e = subst P (sym ((bytes_eq-Decides m n).0 e)) p
        go false e = k e

    asked : (m : List ℕ) → is_among names m ≡ false → bytes_eq m n ≡ false → defined (d ∷ defs) m ≡ None
    asked m k e = h m (ap (λ b. b || is_among names m) e ∙ k)

    by : (o : Ordering) → order n d.0 ≡ o → (Covers names defs → defs_among (defined defs) names ≡ defs) → (Covers names (d ∷ defs) → defs_among (defined (d ∷ defs)) names ≡ d ∷ defs) → defs_among (defined (d ∷ defs)) (n ∷ names) ≡ d ∷ defs
    by Less e following rest =
        let none : defined (d ∷ defs) n ≡ None = undefined_above n (d ∷ defs) (e, above_more n d.0 (names_in defs) e t.0) in
        ap (λ o. cons_option (option_map (λ v. (n, v)) o) (defs_among (defined (d ∷ defs)) names)) none
        ∙ rest (λ m k. but_first (λ x. defined (d ∷ defs) x ≡ None) m none (asked m k))
    by Equal e following rest =
        let same : n ≡ d.0 = exact_bytes n d.0 e in
        let none : defined defs n ≡ None = ap (defined defs) same ∙ undefined_above d.0 defs t.0 in
        let apart = λ (m : List ℕ) (f : bytes_eq m n ≡ false). ap (λ b. cond b (Some d.1) (defined defs m)) (is_eq-slice_cmp m d.0 ∙ ap (bytes_eq m) (sym same) ∙ f) in
        let more : defs_among (defined (d ∷ defs)) names ≡ defs =
        past_first d defs names (subst (λ x. Above x names) same s.0) ∙ following (λ m k. but_first (λ x. defined defs x ≡ None) m none (λ f. sym (apart m f) ∙ asked m k f)) in
        ap (λ o. cons_option (option_map (λ v. (n, v)) (cond (is_eq o) (Some d.1) (defined defs n))) (defs_among (defined (d ∷ defs)) names)) e
        ∙ ap (λ (ds : Defs). (n, d.1) ∷ ds) more ∙ ap (λ x. (x, d.1) ∷ defs) same
    by Greater e following rest =
        let below : order d.0 n ≡ Less = nat_list_cmp_total.antisymm d.0 n ∙ ap ordering_reverse e in
        let none = h d.0 (not_above d.0 (n ∷ names) (below, above_more d.0 n names below s.0)) in
        let some = first_defined d defs in
        absurd cc

-- ---- what isn't among the names that lines define isn't defined

module _ (name : List ℕ) where
  -- the name isn't defined in what was found
  abbrev Undefined : Result Found Fault → Type 0
  Undefined (Ok found) = found.defines name ≡ None
  Undefined (Err f) = Unit {0}

  after_import : (found : Found) (at : ℕ) (r : Result (List Leaf) SyntaxFault) → found.defines name ≡ None → Undefined (with_import found at r)
  after_import found at (Ok leaves) h = h
  after_import found at (Err f) h = tt

  apart_names : (named_so : List ℕ) → is_among (named_so ∷ []) name ≡ false → bytes_eq named_so name ≡ false
  apart_names named_so h = go (bytes_eq named_so name) refl
    where
      go : (b : Bool) → bytes_eq named_so name ≡ b → b ≡ false
      go false e = refl
      go true e = let is : name ≡ named_so = sym ((bytes_eq-Decides named_so name).0 e) in absurd (true≢false (sym (ap (λ b. b || false) ((bytes_eq-Decides name named_so).1 is)) ∙ h))

  after_value : (found : Found) (at : ℕ) (named_so : List ℕ) (text : Option (List ℕ)) (value : Option ShaderDefValue) → found.defines name ≡ None → bytes_eq named_so name ≡ false → Undefined (with_defines found (defined_as found.defines at named_so text value))
  after_value found at named_so text (Some value) h e = ap (λ b. cond b (Some value) (found.defines name)) e ∙ h
  after_value found at named_so text None h e = tt

  after_define : (allow_defines : Bool) (found : Found) (at : ℕ) (named_so : List ℕ) (text : Option (List ℕ)) → found.defines name ≡ None → bytes_eq named_so name ≡ false → Undefined (with_defines found (defined_after allow_defines found.defines at named_so text))
  after_define true found at named_so text h e = after_value found at named_so text (defined_value text) h e
  after_define false found at named_so text h e = tt

  after_line : (allow_defines : Bool) (found : Found) (l : Line) (k : LineKind) (more : List Line) → found.defines name ≡ None → is_among (name_defined k) name ≡ false → Undefined (found_after allow_defines found l k more)
  after_line allow_defines found l (condition is_else c) more h e = h
  after_line allow_defines found l endif more h e = h
  after_line allow_defines found l imports more h e = after_import found l.at _ h
  after_line allow_defines found l (import_path path) more h e = h
  after_line allow_defines found l (define named_so text) more h e = after_define allow_defines found l.at named_so text h (apart_names named_so e)
  after_line allow_defines found l (version known) more h e = h
  after_line allow_defines found l other more h e = h

  abbrev line_names : Line → List (List ℕ)
  line_names l = name_defined (unversioned_kind_of l.covered)

  parts_of : (l : Line) (more : List Line) → is_among (flat_map line_names (l ∷ more)) name ≡ false → (is_among (line_names l) name ≡ false) × (is_among (flat_map line_names more) name ≡ false)
  parts_of l more e = go (is_among (line_names l) name) (is_among (flat_map line_names more) name) (sym (list_any-append (bytes_eq name) (line_names l) (flat_map line_names more)) ∙ e)
    where
      go : (a b : Bool) → (a || b) ≡ false → (a ≡ false) × (b ≡ false)
      go true b e = absurd (true≢false e)
      go false b e = (refl, e)

  -- the lines that an import takes define nothing
  after_lines : (allow_defines : Bool) (found : Found) (braces : ℕ) (lines : List Line) → found.defines name ≡ None → is_among (flat_map line_names lines) name ≡ false → Undefined (found_in allow_defines found braces lines)
  after_lines allow_defines found braces [] h e = h
  after_lines allow_defines found zero (l ∷ more) h e =
      go (found_after allow_defines found l (unversioned_kind_of l.covered) more) (after_line allow_defines found l (unversioned_kind_of l.covered) more h (parts_of l more e).0) (λ next k. after_lines allow_defines next (left_open l (unversioned_kind_of l.covered)) more k (parts_of l more e).1)
    where
      go : (r : Result Found Fault) → Undefined r → ((next : Found) → next.defines name ≡ None → Undefined (found_in allow_defines next (left_open l (unversioned_kind_of l.covered)) more)) → Undefined (going_on r (λ next. found_in allow_defines next (left_open l (unversioned_kind_of l.covered)) more))
      go (Ok next) k rest = rest next k
      go (Err f) k rest = tt
  after_lines allow_defines found (suc n) (l ∷ more) h e = after_lines allow_defines found (braces_after (suc n) l.covered) more h (parts_of l more e).1

  -- metadata defines what lines of its cleaned text define
  abbrev DefinesOwn : Result Metadata Fault → Type 0
  DefinesOwn (Ok m) = is_among (flat_map line_names (source_lines m.cleaned)) name ≡ false → m.defines name ≡ None
  DefinesOwn (Err f) = Unit {0}

  found-defines : (cleaned : List ℕ) (directives : Directives) (r : Result Found Fault) → (is_among (flat_map line_names (source_lines cleaned)) name ≡ false → Undefined r) → DefinesOwn (metadata_with cleaned directives r)
  found-defines cleaned directives (Ok found) h = h
  found-defines cleaned directives (Err f) h = tt

  following-defines : (allow_defines : Bool) (r : Result (List ℕ × Directives) Fault) → DefinesOwn (metadata_after allow_defines r)
  following-defines allow_defines (Ok r) = found-defines r.0 r.1 (found_in allow_defines nothing_found 0 (source_lines r.0)) (after_lines allow_defines nothing_found 0 (source_lines r.0) refl)
  following-defines allow_defines (Err f) = tt

  undefined-cleaned : (allow_defines : Bool) (text : List ℕ) (m : Metadata) → metadata allow_defines text ≡ Ok m → is_among (flat_map line_names (source_lines m.cleaned)) name ≡ false → m.defines name ≡ None
  unfolding metadata
  undefined-cleaned allow_defines text m e = subst DefinesOwn e (following-defines allow_defines (extracted text))

-- ---- reading a text

names_named : (es : List (String Global × ShaderDefValue)) → texts (keys_of es) ≡ names_in (named es)
names_named [] = refl
names_named (e ∷ es) = ap (λ ns. string_bytes e.0 ∷ ns) (names_named es)

-- the map of a text's defines, as a list
pub defines_listed : (text : List ℕ) (found : Metadata) (es : List (String Global × ShaderDefValue)) → metadata true text ≡ Ok found → found.defines ≡ defined (named es) → IsStrictlySortedBy string_cmp (keys_of es) → named es ≡ defs_among found.defines (names_defined found.cleaned)
defines_listed text found es says is order =
    let names = flat_map (λ l. name_defined (unversioned_kind_of l.covered)) (source_lines found.cleaned) in
    let covers : Covers (in_order names) (named es) = λ m e. ap (λ (f : Definitions). f m) (sym is) ∙ undefined-cleaned m true text found says (sym (among-in_order names m) ∙ e) in
    sym (from_names (in_order names) (named es) (names_rise names) (subst (λ (ns : List (List ℕ)). IsStrictlySortedBy (slice_cmp nat_cmp) ns) (names_named es) (sorted_texts (keys_of es) order)) covers)
    ∙ ap (λ (f : Definitions). defs_among f (in_order names)) (sym is)

pub shader_read : (m : ShaderSource) (text : List ℕ) (found : Metadata) (defs : Defs) (recorded : List (List ℕ)) (d : Registered) → metadata true text ≡ Ok found
    → defs ≡ defs_among found.defines (names_defined found.cleaned) → recorded ≡ in_order (recorded_names found.cleaned) → d ≡ shader_definition m found defs recorded → read_shader m text ≡ Ok d
unfolding read_shader
shader_read m text found defs recorded d says own names is =
    ap (λ (r : Result Metadata Fault). r >>= λ found. Ok (shader_found m found)) says
    ∙ ap (λ (x : Registered). Ok x) (sym (is ∙ (λ i. shader_definition m found (own i) (names i))))

pub shader_unread : (m : ShaderSource) (text : List ℕ) (f : Fault) → metadata true text ≡ Err f → read_shader m text ≡ Err f
unfolding read_shader
shader_unread m text f says = ap (λ (r : Result Metadata Fault). r >>= λ found. Ok (shader_found m found)) says
