-- Worked rows: a kept build that stands as it is built afresh, and others that don't.
use Rattle.std.proofs.Common.{◌≡◌, ℕ, [], ◌∷◌, length, Bool, true, false, cond, Option, Some, None, Ok, refl, ap, sym, subst, ◌∙◌}
use Rattle.std.proofs.lemmas.List.Elements.{All-nil}
use Rattle.std.proofs.lemmas.Option.{none-some, same_Some}
use Rattle.std.specs.List.{IsDistinct}
use Rattle.std.specs.Prelude.{codes}
use Rattle.naga_oil_ir.specs.declared.backend.Capabilities.{Capabilities}
use Rattle.naga_oil_conditions.specs.declared.shader_def.ShaderDefValue.TheVariants.{Bool as Truth}
use Rattle.naga_oil_imports.specs.Uses.{Import}
use Rattle.naga_oil_link.specs.BuiltModule.{BuiltModule, nothing_built}
use Rattle.naga_oil_build.specs.Overriding.{build_named}
use Rattle.naga_oil.specs.AfreshLaw.{afresh}
use Rattle.naga_oil.specs.Outcome.{Outcome}
use Rattle.naga_oil.specs.Reach.{Unreached, reach_each, reach_module, reach}
use Rattle.naga_oil.specs.Store.{Key, Kept, same_key}
use Rattle.naga_oil.specs.StoreLaw.{IsKeptAfresh, IsStore, IsKeptUnder}
use Rattle.naga_oil.proofs.StoreKeyLemmas.{key-Decides}
use Rattle.naga_oil_faithful_laws.specs.SmallMake.{small_settings, registry}
use Rattle.naga_oil_faithful_laws.proofs.Answered.{builds}
use Rattle.naga_oil_faithful_laws.proofs.Builds.{module_build, module_is_built}
use Rattle.naga_oil_faithful_laws.proofs.Texts.{module_read}

-- the key of the build of `m`, on whose build no definition has a say
abbrev key_of_m : Key
key_of_m = record { name = codes "m"; defs = [] }

abbrev one_kept : Kept
one_kept = (key_of_m, module_build) ∷ []

-- the number of functions of a build, and of definitions of a key
abbrev functions_in : Option BuiltModule → ℕ
functions_in None = 0
functions_in (Some b) = length b.functions

abbrev definitions_in : Option Key → ℕ
definitions_in None = 0
definitions_in (Some k) = length k.defs

module _ (c : Capabilities) where
  reached_afresh : afresh (small_settings c) registry [] (codes "m") ≡ record { builds = builds; result = Ok tt }
  unfolding reach reach_module reach_each
  reached_afresh = rw (module_read, module_is_built) refl

  is_built : build_named (afresh (small_settings c) registry [] (codes "m")).builds (codes "m") ≡ Some module_build
  is_built = ap (λ (o : Outcome (Unit {0}) Unreached). build_named o.builds (codes "m")) reached_afresh

  is_kept_afresh : IsKeptAfresh (small_settings c) registry one_kept key_of_m module_build
  is_kept_afresh = record {
    key = refl;
    reached = ap (λ (o : Outcome (Unit {0}) Unreached). o.result) reached_afresh;
    built = is_built;
    imports = All-nil (λ (i : Import). IsKeptUnder (small_settings c) registry one_kept [] i.import);
  }

  is_store : IsStore (small_settings c) registry one_kept
  unfolding IsDistinct
  is_store = record { differ = (tt, tt); each = λ k b at. by k b (same_key k key_of_m) refl at }
    where
      by : (k : Key) (b : BuiltModule) (q : Bool) → same_key k key_of_m ≡ q → cond q (Some module_build) None ≡ Some b → IsKeptAfresh (small_settings c) registry one_kept k b
      by k b true e at =
          subst (λ (x : BuiltModule). IsKeptAfresh (small_settings c) registry one_kept k x) (same_Some module_build b at)
          (subst (λ (x : Key). IsKeptAfresh (small_settings c) registry one_kept x module_build) (sym ((key-Decides k key_of_m).0 e)) is_kept_afresh)
      by k b false e at = absurd cc

  -- another build isn't that of `m`
  another_build_is_refused : IsKeptAfresh (small_settings c) registry one_kept key_of_m (nothing_built [] 1) → ⊥
  another_build_is_refused h = let e : ◌≡◌ {A = ℕ} 2 0 = ap functions_in (sym is_built ∙ h.built) in absurd cc

  -- its key has no definition on which it doesn't depend
  another_key_is_refused : (kept : Kept) (b : BuiltModule) → IsKeptAfresh (small_settings c) registry kept (record { name = codes "m"; defs = (codes "FOG", Truth true) ∷ [] }) b → ⊥
  another_key_is_refused kept b h = let e : ◌≡◌ {A = ℕ} 0 1 = ap definitions_in h.key in absurd cc

  -- a module that isn't registered has no kept build
  unregistered_is_refused : (kept : Kept) (b : BuiltModule) → IsKeptAfresh (small_settings c) registry kept (record { name = codes "n"; defs = [] }) b → ⊥
  unregistered_is_refused kept b h = absurd (none-some _ h.key)

  -- a key is kept once
  kept_twice_is_refused : IsStore (small_settings c) registry ((key_of_m, module_build) ∷ (key_of_m, module_build) ∷ []) → ⊥
  unfolding IsDistinct
  kept_twice_is_refused h = let e : true ≡ false = h.differ.0.0 in absurd cc

  -- a store with another build of `m` is refused
  wrong_store_is_refused : IsStore (small_settings c) registry ((key_of_m, nothing_built [] 1) ∷ []) → ⊥
  wrong_store_is_refused h = let e : ◌≡◌ {A = ℕ} 2 0 = ap functions_in (sym is_built ∙ (h.each key_of_m (nothing_built [] 1) refl).built) in absurd cc
