-- Definitions and names that are merged.
use Rattle.std.proofs.Common.{◌≡◌, List, [], ◌∷◌, refl, ap, ◌∙◌, map, String, Global, string_bytes, Ordering, Less, Equal, Greater}
use Rattle.std.specs.BTreeMap.{insert_entry}
use Rattle.std.specs.BTreeSet.{insert_key}
use Rattle.std.specs.Cmp.Lexicographic.{slice_cmp}
use Rattle.std.specs.List.{AllZip}
use Rattle.std.specs.Ordering.{nat_cmp, match_ordering}
use Rattle.std.specs.String.{string_cmp}
use Rattle.naga_oil_conditions.specs.declared.shader_def.ShaderDefValue.{ShaderDefValue}
use Rattle.naga_oil_words.specs.Texts.{with_name, texts}
use Rattle.naga_oil_registry.specs.Registered.{Defs}
use Rattle.naga_oil_registry.specs.Merged.{with_def}

abbrev pub named : List (String Global × ShaderDefValue) → Defs
named es = map (λ e. (string_bytes e.0, e.1)) es

-- an entry that is inserted under its name's bytes
pub named-insert : (es : List (String Global × ShaderDefValue)) (name : String Global) (value : ShaderDefValue) → named (insert_entry string_cmp es name value) ≡ with_def (named es) (string_bytes name, value)
named-insert [] name value = refl
named-insert (e ∷ es) name value = by (slice_cmp nat_cmp (string_bytes name) (string_bytes e.0)) (named-insert es name value)
  where
    by : (o : Ordering) → named (insert_entry string_cmp es name value) ≡ with_def (named es) (string_bytes name, value) → named (match_ordering o ((name, value) ∷ e ∷ es) ((e.0, value) ∷ es) (e ∷ insert_entry string_cmp es name value)) ≡ match_ordering o ((string_bytes name, value) ∷ named (e ∷ es)) ((string_bytes e.0, value) ∷ named es) ((string_bytes e.0, e.1) ∷ with_def (named es) (string_bytes name, value))
    by Less rest = refl
    by Equal rest = refl
    by Greater rest = ap (λ ds. (string_bytes e.0, e.1) ∷ ds) rest

-- a name that is inserted
pub bytes-insert : (ks : List (String Global)) (name : String Global) → texts (insert_key string_cmp ks name) ≡ with_name (texts ks) (string_bytes name)
bytes-insert [] name = refl
bytes-insert (k ∷ ks) name = by (slice_cmp nat_cmp (string_bytes name) (string_bytes k)) (bytes-insert ks name)
  where
    by : (o : Ordering) → texts (insert_key string_cmp ks name) ≡ with_name (texts ks) (string_bytes name) → texts (match_ordering o (name ∷ k ∷ ks) (k ∷ ks) (k ∷ insert_key string_cmp ks name)) ≡ match_ordering o (string_bytes name ∷ string_bytes k ∷ texts ks) (string_bytes k ∷ texts ks) (string_bytes k ∷ with_name (texts ks) (string_bytes name))
    by Less rest = refl
    by Equal rest = refl
    by Greater rest = ap (λ ns. string_bytes k ∷ ns) rest

-- lists look the same if their items do, pair by pair
pub map-from_all_zip : {A C : Type 0} (R : A → A → Type 0) (f : A → C) (xs ys : List A) → AllZip R xs ys → ((x y : A) → R x y → f y ≡ f x) → map f ys ≡ map f xs
map-from_all_zip R f [] [] h k = refl
map-from_all_zip R f [] (y ∷ ys) h k = elim h [ ]
map-from_all_zip R f (x ∷ xs) [] h k = elim h [ ]
map-from_all_zip R f (x ∷ xs) (y ∷ ys) h k = ap (λ z. z ∷ map f ys) (k x y h.0) ∙ ap (λ zs. f x ∷ zs) (map-from_all_zip R f xs ys h.1 k)
