-- One more module is reached, where builds are kept.
use Rattle.std.proofs.Common.{◌≡◌, ℕ, ◌+◌, List, [], ◌∷◌, map, drop, Bool, true, false, refl, sym, ap, subst, ◌∙◌, Some, option_map, slice_index_or, Ok, Err, add-one}
use Rattle.std.proofs.lemmas.List.Elements.{All-map, All-same}
use Rattle.std.specs.List.{slice_get}
use Rattle.std.specs.Option.{IsSomeAnd}
use Rattle.naga_oil_imports.specs.Uses.{Import, Use}
use Rattle.naga_oil_pre.specs.Preprocessed.{Output}
use Rattle.naga_oil_registry.specs.Registered.{Registered, Defs}
use Rattle.naga_oil_registry.specs.Registry.{module_named, IsRegistry}
use Rattle.naga_oil_link.specs.BuiltModule.{BuiltModule, Builds}
use Rattle.naga_oil_build.specs.Build.{build}
use Rattle.naga_oil_build.specs.Built.{preprocessed_of}
use Rattle.naga_oil_build.specs.Held.{Settings}
use Rattle.naga_oil.specs.AfreshLaw.{AreBuilt, AllStandAfresh}
use Rattle.naga_oil.specs.Outcome.{Outcome}
use Rattle.naga_oil.specs.Reach.{Unreached, Reaching, defined, is_built, builds_with, enter_build, as_recorded, preprocess_module, reach_each, reach_module, reach, unless_built}
use Rattle.naga_oil.specs.Store.{key_under, Kept, KeepsAll, kept_under, is_kept, keep_build, keep_named, keep_builds}
use Rattle.naga_oil.specs.StoreLaw.{Stands, reach_imports, reach_kept}
use Rattle.naga_oil.proofs.AfreshLemmas.{with_there, with_last}
use Rattle.naga_oil.proofs.BuildImportsLemmas.{build_imports}
use Rattle.naga_oil.proofs.ReachLemmas.{bind_ok, bind_err, module_over}
use Rattle.naga_oil.proofs.StoreKeyLemmas.{keep_there, keep_builds-append, kept_stays, kept_found}
use Rattle.naga_oil.proofs.StoreLawLemmas.{reached_so, kept_from, module_so, entered}
use Rattle.naga_oil.proofs.StoreReachLemmas.{StandsAt, stands_at, imports_are, imports_reached}

-- ---- imports, one after the other

pub imports_none : (f : Reaching) (bs : Builds) → reach_imports f [] bs ≡ record { builds = bs; result = Ok tt }
unfolding reach_imports
imports_none f bs = refl

module _ (f : Reaching) (i : Import) (is : List Import) (bs mid : Builds) where
  -- the next import can't be reached
  pub imports_ended : (w : Unreached) → f i.import bs ≡ record { builds = mid; result = Err w } → reach_imports f (i ∷ is) bs ≡ record { builds = mid; result = Err w }
  unfolding reach_imports
  imports_ended w h = bind_err (f i.import) (λ done. reach_imports f is) bs mid w h

  -- the next import is reached, and then the others
  pub imports_more : f i.import bs ≡ record { builds = mid; result = Ok tt } → reach_imports f (i ∷ is) bs ≡ reach_imports f is mid
  unfolding reach_imports
  imports_more h = bind_ok (f i.import) (λ done. reach_imports f is) bs mid tt h

module _ (f : Reaching) (name : List ℕ) (b : BuiltModule) (bs mid : Builds) where
  -- an import of a kept build can't be reached
  pub kept_ended : (w : Unreached) → reach_imports f b.imports bs ≡ record { builds = mid; result = Err w } → reach_kept f name b bs ≡ record { builds = mid; result = Err w }
  kept_ended w h = bind_err (reach_imports f b.imports) (λ done. enter_build name (Ok b)) bs mid w h

  -- all imports are reached, and the build is entered
  pub kept_reached : reach_imports f b.imports bs ≡ record { builds = mid; result = Ok tt } → reach_kept f name b bs ≡ record { builds = builds_with mid name b; result = Ok tt }
  kept_reached h = bind_ok (reach_imports f b.imports) (λ done. enter_build name (Ok b)) bs mid tt h

-- ---- the kept builds of a make

-- one more build
pub keep_builds_with : (ds : List Registered) (defs : Defs) (begun : Kept) (mid : Builds) (name : List ℕ) (b : BuiltModule) (d : Registered) (kept : Kept) → module_named name ds ≡ Some d → kept ≡ keep_builds ds defs begun mid
    → (is_built mid name ≡ true → is_kept kept (key_under d defs) ≡ true) → keep_build kept (key_under d defs) b ≡ keep_builds ds defs begun (builds_with mid name b)
keep_builds_with ds defs begun mid name b d kept at is known = by (is_built mid name) refl
  where
    by : (q : Bool) → is_built mid name ≡ q → keep_build kept (key_under d defs) b ≡ keep_builds ds defs begun (builds_with mid name b)
    by true q = keep_there kept (key_under d defs) b (known q) ∙ is ∙ ap (keep_builds ds defs begun) (sym (with_there mid name b q))
    by false q =
        (λ i. keep_named (option_map (λ e. key_under e defs) (sym at i)) b (is i))
        ∙ sym (keep_builds-append ds defs begun mid ((name, b) ∷ []))
        ∙ ap (keep_builds ds defs begun) (sym (with_last mid name b q))

-- ---- one module more

module _ (s : Settings) (ds : List Registered) (defs : Defs) (all : IsRegistry ds) (place : ℕ) (d : Registered) (found : slice_get ds place ≡ Some d) where
  abbrev pub rest : List Registered
  rest = drop (place + 1) ds

  abbrev pub reaching : Reaching
  reaching = unless_built (reach s defs rest)

  pub here : StandsAt ds d rest
  here = subst (λ n. StandsAt ds d (drop n ds)) (sym (add-one place)) (stands_at ds place d all found)

  -- a module is reached in the whole registry as over the rest of the registry after it
  pub reached_here : (bs : Builds) → reach s defs ds d.name bs ≡ reach_module s defs d reaching bs
  reached_here bs = here.reached s defs bs

  -- the modules that it uses are built
  pub uses_built : (out : Output) (builds mid : Builds) → AllStandAfresh s ds defs builds → reach_each (as_recorded d) reaching out.uses builds ≡ record { builds = mid; result = Ok tt } → AreBuilt mid out.uses
  uses_built out builds mid st used j e l =
      let r = reached_so s ds defs all d rest here out builds st in
      ap (λ (o : Outcome (Unit {0}) Unreached). is_built o.builds (slice_index_or out.uses j e).import.import) (sym used) ∙ (r.built (ap (λ o. o.result) used) j e l).built

  -- the module is built, kept and entered
  pub built_entered : (builds mid : Builds) (kept : Kept) (out : Output) (b : BuiltModule) → AllStandAfresh s ds defs builds → preprocessed_of (defined defs) d ≡ Ok out
      → reach_each (as_recorded d) reaching out.uses builds ≡ record { builds = mid; result = Ok tt } → Stands s ds defs mid kept → build s d out mid ≡ Ok b → Stands s ds defs (builds_with mid d.name b) (keep_build kept (key_under d defs) b)
  built_entered builds mid kept out b first read used st built =
      entered s ds defs all d rest here b builds mid kept first st
      (reached_here builds ∙ module_over s defs d reaching builds out (ap (λ r. preprocess_module defs d r builds) read) mid used ∙ ap (λ r. enter_build d.name r mid) built)
      (All-same (λ (i : Import). is_built mid i.import ≡ true) b.imports (map (λ u. u.import) out.uses) (build_imports s d out mid b built) (All-map (λ (i : Import). is_built mid i.import ≡ true) (λ (u : Use). u.import) out.uses (uses_built out builds mid first used)))

  -- the module's build is kept, and entered
  pub kept_entered : (builds mid : Builds) (old kept : Kept) (b : BuiltModule) → Stands s ds defs builds old → kept_under old (key_under d defs) ≡ Some b → KeepsAll old kept
      → reach_imports reaching b.imports builds ≡ record { builds = mid; result = Ok tt } → Stands s ds defs mid kept → Stands s ds defs (builds_with mid d.name b) kept
  kept_entered builds mid old kept b first at more imported st =
      let k = kept_from s ds defs all d rest here old b (first.store.each (key_under d defs) b at) in
      let used : reach_each (as_recorded d) reaching k.out.uses builds ≡ record { builds = mid; result = Ok tt } = sym (imports_reached s ds defs d rest here b k builds) ∙ imported in
      let whole : reach s defs ds d.name builds ≡ record { builds = builds_with mid d.name b; result = Ok tt } =
      reached_here builds ∙ module_so s ds defs all d rest here b k builds first.built ∙ ap (λ (o : Outcome (Unit {0}) Unreached). record { builds = builds_with o.builds d.name b; result = Ok tt }) used in
      let built = All-same (λ (i : Import). is_built mid i.import ≡ true) b.imports (map (λ u. u.import) k.out.uses) (imports_are s ds defs d rest here b k) (All-map (λ (i : Import). is_built mid i.import ≡ true) (λ (u : Use). u.import) k.out.uses (uses_built k.out builds mid first.built used)) in
      subst (Stands s ds defs (builds_with mid d.name b)) (keep_there kept (key_under d defs) b (kept_stays more (key_under d defs) (kept_found old (key_under d defs) b at)))
      (entered s ds defs all d rest here b builds mid kept first.built st whole built)

  module _ (begun : Kept) (mid : Builds) (kept : Kept) (b : BuiltModule) (st : Stands s ds defs mid kept) (since : kept ≡ keep_builds ds defs begun mid) where
    built_is_kept : is_built mid d.name ≡ true → is_kept kept (key_under d defs) ≡ true
    built_is_kept q = subst (λ o. IsSomeAnd o (λ k. is_kept kept k ≡ true)) (ap (option_map (λ e. key_under e defs)) here.named) (st.each d.name q)

    -- the kept builds are then those that keeping all builds one after the other gives
    pub built_since : keep_build kept (key_under d defs) b ≡ keep_builds ds defs begun (builds_with mid d.name b)
    built_since = keep_builds_with ds defs begun mid d.name b d kept here.named since built_is_kept

    -- so are the builds kept before, if the build is kept
    pub kept_since : is_kept kept (key_under d defs) ≡ true → kept ≡ keep_builds ds defs begun (builds_with mid d.name b)
    kept_since h = sym (keep_there kept (key_under d defs) b h) ∙ built_since
