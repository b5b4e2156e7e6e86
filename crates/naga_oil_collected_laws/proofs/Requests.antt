-- What a link takes of a build is what is requested of it.
use Rattle.std.proofs.Common.{◌≡◌, ℕ, Bool, ◌||◌, ◌&&◌, if◌then◌else◌, List, [], ◌∷◌, ◌++◌, map, Some, None, bytes_eq, refl, ap, ◌∙◌}
use Rattle.std.specs.List.{filter, flat_map, list_any}
use Rattle.std.proofs.lemmas.List.Folds.{list_any-append}
use Rattle.naga_oil_ir.specs.Rows.{Text}
use Rattle.naga_oil_words.specs.Texts.{is_among}
use Rattle.naga_oil_imports.specs.Uses.{Import}
use Rattle.naga_oil_link.specs.BuiltModule.{BuiltModule, Overriding}
use Rattle.naga_oil_link.specs.CopiedBuild.{has_name_among}
use Rattle.naga_oil_link.specs.Linked.{passes, is_wanted, overriding_names, links_function, asked_of}
use Rattle.naga_oil_link.proofs.NamesLemmas.{among-in_order}
use Rattle.naga_oil_collected_laws.specs.FirstReach.{is_named_so, import_names, all_names}
use Rattle.naga_oil_collected_laws.proofs.Follows.{Function}

-- a list that is filtered by equal tests
pub filter_same : (p q : Function → Bool) → ((f : Function) → p f ≡ q f) → (fs : List Function) → filter p fs ≡ filter q fs
filter_same p q h [] = refl
filter_same p q h (f ∷ fs) = ap (λ (b : Bool). if b then f ∷ filter p fs else filter p fs) (h f) ∙ ap (λ (gs : List Function). if q f then f ∷ gs else gs) (filter_same p q h fs)

-- whether a function of a build is requested, and the build owns it
abbrev pub is_requested : (List ℕ → Bool) → BuiltModule → Function → Bool
is_requested requests b f = is_named_so (λ n. requests n && is_among b.functions n) f.0.name

pub among_mapped : (decoration n : List ℕ) (items : List (List ℕ)) → is_among (map (λ item. item ++ decoration) items) n ≡ list_any (λ item. bytes_eq n (item ++ decoration)) items
among_mapped decoration n [] = refl
among_mapped decoration n (item ∷ items) = ap (λ b. bytes_eq n (item ++ decoration) || b) (among_mapped decoration n items)

among_flat : (n : List ℕ) (os : Overriding) → is_among (flat_map (λ (e : List ℕ × List (List ℕ)). e.1) os) n ≡ list_any (λ (o : List ℕ × List (List ℕ)). is_among o.1 n) os
among_flat n [] = refl
among_flat n (o ∷ os) = list_any-append (bytes_eq n) o.1 (flat_map (λ (e : List ℕ × List (List ℕ)). e.1) os) ∙ ap (λ b. is_among o.1 n || b) (among_flat n os)

-- what an import takes
pub import_takes : (i : Import) (b : BuiltModule) (f : Function) → links_function b (asked_of i b) f ≡ is_requested (import_names i b) b f
import_takes i b f = one f.0.name
  where
    one : (t : Text) → ((is_wanted (asked_of i b) t || passes (is_among (overriding_names b)) t) && passes (is_among b.functions) t) ≡ is_named_so (λ n. import_names i b n && is_among b.functions n) t
    one None = refl
    one (Some n) =
        let xs = map (λ item. item ++ b.decoration) i.items in
        ap (λ c. (c || is_among (overriding_names b) n) && is_among b.functions n) (among-in_order xs n ∙ among_mapped b.decoration n i.items)
        ∙ ap (λ c. (list_any (λ item. bytes_eq n (item ++ b.decoration)) i.items || c) && is_among b.functions n) (among_flat n b.overriding)

-- what a shader's build takes of itself
pub all_taken : (b : BuiltModule) (f : Function) → links_function b None f ≡ is_requested all_names b f
all_taken b f = one f.0.name
  where
    one : (t : Text) → ((is_wanted None t || passes (is_among (overriding_names b)) t) && passes (is_among b.functions) t) ≡ is_named_so (λ n. all_names n && is_among b.functions n) t
    one None = refl
    one (Some n) = refl

-- what a build takes of a module
pub names_taken : (names : List (List ℕ)) (f : Function) → has_name_among names f.0.name ≡ is_named_so (is_among names) f.0.name
names_taken names f = one f.0.name
  where
    one : (t : Text) → has_name_among names t ≡ is_named_so (is_among names) t
    one None = refl
    one (Some n) = refl
