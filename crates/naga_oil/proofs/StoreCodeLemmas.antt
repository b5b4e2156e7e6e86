-- The code of a store, by the words of its definitions.
use Rattle.std.proofs.Common.{◌≡◌, ℕ, List, [], ◌∷◌, Bool, true, false, not, ◌&&◌, ◌||◌, map, length, filter, cond, is_some, Option, Some, None, option_map, unwrap_or, refl, sym, ap, ◌∙◌, Global, string_bytes}
use Rattle.std.specs.Arc.{arc_value}
use Rattle.std.specs.Cmp.Derive.Mapped.{pointwise-map}
use Rattle.std.specs.Cmp.Lexicographic.{pointwise}
use Rattle.std.specs.Map.{lookup}
use Rattle.std.specs.String.{string_eq}
use Rattle.std.specs.declared.sync.Arc.{Arc}
use Rattle.indexmap.specs.IndexMap.{insert_entry}
use Rattle.naga_oil_words.specs.Texts.{is_among}
use Rattle.naga_oil_conditions.specs.declared.shader_def.ShaderDefValue.{ShaderDefValue}
use Rattle.naga_oil_registry.specs.Registered.{Registered, Defs}
use Rattle.naga_oil_registry.proofs.RegistryLemmas.{filter_map}
use Rattle.naga_oil_link.specs.BuiltModule.{BuiltModule, built_of}
use Rattle.naga_oil_link.specs.declared.module.ComposableModule.{ComposableModule}
use Rattle.naga_oil.specs.Store.{project, Key, key_under, same_def, same_key, Kept, kept_under, is_kept, keep_build, forget}
use Rattle.naga_oil.specs.StoreView.{def_of, key_of}
use Rattle.naga_oil.specs.contracts.compose.store.KeyPartialEq.TheImpl.{ghosts as keys}
use Rattle.naga_oil.specs.declared.compose.store.Key.{Key as CodeKey}
use Rattle.naga_oil.proofs.MergingLemmas.{same_as}
use Rattle.naga_oil.proofs.StoreKeyLemmas.{keep_there, lookup_absent}

-- ---- projections, one definition after another

module _ (d : Registered) (e : List ℕ × ShaderDefValue) (more : Defs) where
  -- the build may depend on the next name
  pub depends : is_among d.effective e.0 ≡ true → project d (e ∷ more) ≡ e ∷ project d more
  depends h = rw h refl

  -- the build doesn't depend on the next name
  pub depends_not : is_among d.effective e.0 ≡ false → project d (e ∷ more) ≡ project d more
  depends_not h = rw h refl

pub key_made : (d : Registered) (defs : Defs) (name : List ℕ) (es : Defs) → name ≡ d.name → es ≡ project d defs → ◌≡◌ {A = Key} (record { name = name; defs = es }) (key_under d defs)
key_made d defs name es n e = λ i. record { name = n i; defs = e i }

pub none_left : {X : Type 0} (xs : List X) → length xs ≡ 0 → xs ≡ []
none_left [] h = refl
none_left (x ∷ xs) h = absurd cc

-- a fact that is false
pub and_refused : (p q : Bool) → q ≡ false → false ≡ (p && q)
and_refused true q h = sym h
and_refused false q h = refl

-- ---- equal keys

pub key_eq : (a b : CodeKey) → keys.eq a b ≡ same_key (key_of a) (key_of b)
key_eq a b = (λ i. string_eq a.name b.name && pointwise (λ x y. string_eq x.0 y.0 && same_as x.1 y.1 i) a.defs.items b.defs.items) ∙ ap (λ r. string_eq a.name b.name && r) (sym (pointwise-map def_of same_def a.defs.items b.defs.items))

-- ---- the stored builds

abbrev shared_of : Arc ComposableModule Global → BuiltModule
shared_of a = built_of (arc_value a)

abbrev stored_of : CodeKey × Arc ComposableModule Global → Key × BuiltModule
stored_of e = (key_of e.0, built_of (arc_value e.1))

-- builds after their keys
abbrev pub stored : List (CodeKey × Arc ComposableModule Global) → Kept
stored es = map stored_of es

stored_cond : (p q : Bool) (e : CodeKey × Arc ComposableModule Global) (v : Arc ComposableModule Global) (es rest : List (CodeKey × Arc ComposableModule Global)) (more : Kept) → p ≡ q → stored rest ≡ more → stored (cond p ((e.0, v) ∷ es) (e ∷ rest)) ≡ cond q ((key_of e.0, shared_of v) ∷ stored es) (stored_of e ∷ more)
stored_cond true q e v es rest more h k = ap (λ b. cond b ((key_of e.0, shared_of v) ∷ stored es) (stored_of e ∷ more)) h
stored_cond false q e v es rest more h k = ap (λ xs. stored_of e ∷ xs) k ∙ ap (λ b. cond b ((key_of e.0, shared_of v) ∷ stored es) (stored_of e ∷ more)) h

-- to store a build under a key is to keep it under that key
stored_put : (es : List (CodeKey × Arc ComposableModule Global)) (k : CodeKey) (v : Arc ComposableModule Global) → stored (insert_entry keys.eq es k v) ≡ insert_entry same_key (stored es) (key_of k) (shared_of v)
stored_put [] k v = refl
stored_put (e ∷ es) k v = stored_cond (keys.eq k e.0) (same_key (key_of k) (key_of e.0)) e v es (insert_entry keys.eq es k v) (insert_entry same_key (stored es) (key_of k) (shared_of v)) (key_eq k e.0) (stored_put es k v)

-- the build found under a key is the one kept under that key
pub stored_found : (k : CodeKey) (es : List (CodeKey × Arc ComposableModule Global)) → option_map (λ a. built_of (arc_value a)) (lookup (keys.eq k) es) ≡ kept_under (stored es) (key_of k)
stored_found k [] = refl
stored_found k (e ∷ es) = by (keys.eq k e.0) (same_key (key_of k) (key_of e.0)) (key_eq k e.0) (stored_found k es)
  where
    by : (p q : Bool) → p ≡ q → option_map shared_of (lookup (keys.eq k) es) ≡ kept_under (stored es) (key_of k) → option_map shared_of (cond p (Some e.1) (lookup (keys.eq k) es)) ≡ cond q (Some (shared_of e.1)) (kept_under (stored es) (key_of k))
    by true q h known = ap (λ b. cond b (Some (shared_of e.1)) (kept_under (stored es) (key_of k))) h
    by false q h known = known ∙ ap (λ b. cond b (Some (shared_of e.1)) (kept_under (stored es) (key_of k))) h

some_kept : (k : Key) (es : Kept) → is_some (kept_under es k) ≡ is_kept es k
some_kept k [] = refl
some_kept k (e ∷ es) = by (same_key k e.0) (some_kept k es)
  where
    by : (q : Bool) → is_some (kept_under es k) ≡ is_kept es k → is_some (cond q (Some e.1) (kept_under es k)) ≡ (q || is_kept es k)
    by true known = refl
    by false known = known

some_mapped : {X Y : Type 0} (f : X → Y) (o : Option X) → is_some (option_map f o) ≡ is_some o
some_mapped f None = refl
some_mapped f (Some x) = refl

stored_is : (k : CodeKey) (es : List (CodeKey × Arc ComposableModule Global)) → is_some (lookup (keys.eq k) es) ≡ is_kept (stored es) (key_of k)
stored_is k es = sym (some_mapped shared_of (lookup (keys.eq k) es)) ∙ ap is_some (stored_found k es) ∙ some_kept (key_of k) (stored es)

module _ (old : List (CodeKey × Arc ComposableModule Global)) (k : CodeKey) (a : Arc ComposableModule Global) where
  -- a build is newly stored
  pub stored_new : (new : List (CodeKey × Arc ComposableModule Global)) → is_some (lookup (keys.eq k) old) ≡ false → new ≡ insert_entry keys.eq old k a → stored new ≡ keep_build (stored old) (key_of k) (built_of (arc_value a))
  stored_new new none h =
      let absent : kept_under (stored old) (key_of k) ≡ None = lookup_absent (same_key (key_of k)) (stored old) (sym (stored_is k old) ∙ none) in
      ap stored h ∙ stored_put old k a ∙ ap (λ o. insert_entry same_key (stored old) (key_of k) (unwrap_or o (shared_of a))) (sym absent)

  -- the build was stored already
  pub stored_there : is_some (lookup (keys.eq k) old) ≡ true → stored old ≡ keep_build (stored old) (key_of k) (built_of (arc_value a))
  stored_there there = sym (keep_there (stored old) (key_of k) (shared_of a) (sym (stored_is k old) ∙ there))

-- the builds that stay when those of some names are forgotten
pub stored_left : (goes : List ℕ → Bool) (old new : List (CodeKey × Arc ComposableModule Global)) → new ≡ filter (λ e. not (goes (string_bytes e.0.name))) old → stored new ≡ forget goes (stored old)
stored_left goes old new h = ap stored h ∙ filter_map (λ (e : Key × BuiltModule). not (goes e.0.name)) stored_of old
