-- The definitions that a make merges.
use Rattle.std.proofs.Common.{◌≡◌, ℕ, List, [], ◌∷◌, refl, sym, ap, ◌∙◌, cond, Bool, true, false, not, Option, Some, None, Bor, String, Global, string_bytes, Err}
use Rattle.std.proofs.lemmas.Map.Text.{is_eq-slice_cmp}
use Rattle.std.specs.BTreeMap.{is_at}
use Rattle.std.specs.Cmp.Lexicographic.{slice_cmp}
use Rattle.std.specs.Map.{lookup}
use Rattle.std.specs.Option.{option_eq, option_copied}
use Rattle.std.specs.Ordering.{nat_cmp}
use Rattle.std.specs.Str.{bytes_eq}
use Rattle.std.specs.String.{string_cmp}
use Rattle.naga_oil_conditions.specs.Fault.{inconsistent_def}
use Rattle.naga_oil_conditions.specs.declared.shader_def.ShaderDefValue.{ShaderDefValue}
use Rattle.naga_oil_conditions.specs.declared.shader_def.ShaderDefValue.TheVariants as def
use Rattle.naga_oil_conditions.specs.contracts.shader_def.ShaderDefValuePartialEq.TheImpl.{ghosts}
use Rattle.naga_oil_registry.specs.Registered.{Defs}
use Rattle.naga_oil_registry.specs.Merged.{with_def}
use Rattle.naga_oil.specs.Shader.{value_of, same_value, has_value, agrees, defs_union}
use Rattle.naga_oil_registry.proofs.MergedLemmas.{named}

-- the value of a name in a map
pub value-named : (es : List (String Global × ShaderDefValue)) (name : String Global) → lookup (is_at (string_cmp name)) es ≡ value_of (named es) (string_bytes name)
value-named [] name = refl
value-named (e ∷ es) name =
    ap (λ b. cond b (Some e.1) (lookup (is_at (string_cmp name)) es)) (is_eq-slice_cmp (string_bytes name) (string_bytes e.0))
    ∙ ap (λ o. cond (bytes_eq (string_bytes name) (string_bytes e.0)) (Some e.1) o) (value-named es name)

-- one more definition that agrees, or doesn't
pub joined_more : (defs : Defs) (d : List ℕ × ShaderDefValue) (more : Defs) → agrees d.1 (value_of defs d.0) ≡ true → defs_union defs (d ∷ more) ≡ defs_union (with_def defs d) more
joined_more defs d more e = rw e refl

pub joined_not : (defs : Defs) (d : List ℕ × ShaderDefValue) (more : Defs) → agrees d.1 (value_of defs d.0) ≡ false → defs_union defs (d ∷ more) ≡ Err (inconsistent_def d.0)
joined_not defs d more e = rw e refl

-- whether a name has a value, as the code compares values
pub same_as : (a b : ShaderDefValue) → ghosts.eq a b ≡ same_value a b
same_as (def.Bool a) (def.Bool b) = refl
same_as (def.Bool a) (def.Int b) = refl
same_as (def.Bool a) (def.UInt b) = refl
same_as (def.Int a) (def.Bool b) = refl
same_as (def.Int a) (def.Int b) = refl
same_as (def.Int a) (def.UInt b) = refl
same_as (def.UInt a) (def.Bool b) = refl
same_as (def.UInt a) (def.Int b) = refl
same_as (def.UInt a) (def.UInt b) = refl

pub has_same : (known : Option (Bor ShaderDefValue)) (value : Bor ShaderDefValue) → option_eq (λ x y. ghosts.eq x.now y.now) known (Some value) ≡ has_value value.now (option_copied known)
has_same None value = refl
has_same (Some x) value = same_as x.now value.now

-- the value of a text in a map
pub value-texts : (es : List (String Global × ShaderDefValue)) (name : List ℕ) → lookup (is_at (λ k. slice_cmp nat_cmp name (string_bytes k))) es ≡ value_of (named es) name
value-texts [] name = refl
value-texts (e ∷ es) name =
    ap (λ b. cond b (Some e.1) (lookup (is_at (λ k. slice_cmp nat_cmp name (string_bytes k))) es)) (is_eq-slice_cmp name (string_bytes e.0))
    ∙ ap (λ o. cond (bytes_eq name (string_bytes e.0)) (Some e.1) o) (value-texts es name)

-- a definition that is among others, or isn't
pub not_other : (r b : Bool) → true ≡ not r → r ≡ b → b ≡ false
not_other true b e f = absurd cc
not_other false b e f = sym f

pub no_other : (r b : Bool) → false ≡ not r → r ≡ b → b ≡ true
no_other true b e f = sym f
no_other false b e f = absurd cc
