-- Definitions that are overwritten one by one.
use Rattle.std.proofs.Common.{◌≡◌, ℕ, Bool, cond, List, [], ◌∷◌, map, refl, sym, ap, ◌∙◌, Some, string_bytes, String}
use Rattle.std.specs.Prelude.{bytes_eq}
use Rattle.std.specs.Option.{option_or}
use Rattle.std.specs.BTreeMap.{BTreeMap, IsOrdered, get_by_text}
use Rattle.std.specs.Cmp.Lexicographic.{slice_cmp}
use Rattle.std.specs.List.{AllByRecursion}
use Rattle.std.specs.List.Sorted.{IsStrictlySortedBy}
use Rattle.std.specs.Map.{keys_of, lookup, update_all}
use Rattle.std.specs.Ordering.{nat_cmp, eq_by_cmp}
use Rattle.std.specs.String.{string_cmp}
use Rattle.std.specs.declared.alloc.Global.{Global}
use Rattle.std.proofs.lemmas.Cmp.{eq_by_cmp_equiv, nat_list_cmp_total}
use Rattle.std.proofs.lemmas.Map.Keys.{IsDistinct-from_sorted}
use Rattle.std.proofs.lemmas.Map.Made.{update_all_distinct}
use Rattle.std.proofs.lemmas.Map.Text.{is_eq-slice_cmp}
use Rattle.naga_oil_conditions.specs.Fault.{Definitions}
use Rattle.naga_oil_conditions.specs.declared.shader_def.ShaderDefValue.{ShaderDefValue}
use Rattle.naga_oil_mini.specs.Printed.{overwritten}

abbrev pub Entries : Type 0
Entries = List (String Global × ShaderDefValue)

-- the entries, each under its name's bytes
abbrev pub named : Entries → List (List ℕ × ShaderDefValue)
named es = map (λ e. (string_bytes e.0, e.1)) es

-- the definitions, with the entries added one after the other
abbrev pub defined_in_turn : Definitions → Entries → Definitions
defined_in_turn defs es = update_all bytes_eq defs (named es)

all_named : (P : String Global → Type 0) (Q : List ℕ → Type 0) → ((s : String Global) → P s → Q (string_bytes s)) → (es : Entries) → AllByRecursion P (keys_of es) → AllByRecursion Q (keys_of (named es))
all_named P Q f [] h = h
all_named P Q f (e ∷ es) h = (f e.0 h.0, all_named P Q f es h.1)

pub sorted_named : (es : Entries) → IsStrictlySortedBy string_cmp (keys_of es) → IsStrictlySortedBy (slice_cmp nat_cmp) (keys_of (named es))
unfolding IsStrictlySortedBy
sorted_named [] h = h
sorted_named (e ∷ es) h = (all_named _ _ (λ s below. below) es h.0, sorted_named es h.1)

lookup_named : (test : List ℕ → Bool) (es : Entries) → lookup test (named es) ≡ lookup (λ k. test (string_bytes k)) es
lookup_named test [] = refl
lookup_named test (e ∷ es) = ap (λ o. cond (test (string_bytes e.0)) (Some e.1) o) (lookup_named test es)

pub overwritten_in_turn : (defs : Definitions) (m : BTreeMap (String Global) ShaderDefValue) → IsOrdered string_cmp m → defined_in_turn defs m.entries ≡ overwritten defs (get_by_text m)
overwritten_in_turn defs m ordered = λ k name.
    (update_all_distinct (eq_by_cmp_equiv nat_list_cmp_total) bytes_eq (λ x y. sym (is_eq-slice_cmp x y)) defs (named m.entries) name (IsDistinct-from_sorted (slice_cmp nat_cmp) _ (sorted_named m.entries ordered))
    ∙ ap (λ o. option_or o (defs name)) (lookup_named (eq_by_cmp (slice_cmp nat_cmp) name) m.entries)) k
