-- The place of a module in a registry, and how a reached module was built.
use Rattle.std.proofs.Common.{◌≡◌, ℕ, zero, suc, List, [], ◌∷◌, ◌++◌, map, drop, Bool, true, false, ◌||◌, cond, refl, sym, ap, subst, ◌∙◌, Option, Some, None, is_some, option_map, Result, Ok, Err}
use Rattle.std.proofs.lemmas.Bool.{true≢false, false_from_ne_true}
use Rattle.std.proofs.lemmas.List.Elements.{All-nil, All-cons, All-head, All-tail, All-map, All-same, All-weaker}
use Rattle.std.proofs.lemmas.List.Folds.{find_at}
use Rattle.std.proofs.lemmas.Slice.Eq.{bytes_eq-Decides}
use Rattle.std.specs.List.{All, list_any, position_or_len, slice_get}
use Rattle.std.specs.Option.{option_or}
use Rattle.std.specs.Str.{bytes_eq}
use Rattle.naga_oil_words.specs.Texts.{is_among}
use Rattle.naga_oil_imports.specs.Uses.{Import, Use}
use Rattle.naga_oil_conditions.specs.Fault.{Fault}
use Rattle.naga_oil_pre.specs.Preprocessed.{Output}
use Rattle.naga_oil_registry.specs.Registered.{Registered, Defs}
use Rattle.naga_oil_registry.specs.Registry.{registered, module_named, reaches, MayFollow, IsRegistry}
use Rattle.naga_oil_registry.proofs.AddedLemmas.{named-registered}
use Rattle.naga_oil_registry.proofs.RegistryLemmas.{bytes_same}
use Rattle.naga_oil_link.specs.BuiltModule.{BuiltModule, Builds}
use Rattle.naga_oil_build.specs.Build.{Unbuilt, build}
use Rattle.naga_oil_build.specs.Built.{preprocessed_of}
use Rattle.naga_oil_build.specs.Held.{Settings}
use Rattle.naga_oil_build.specs.Overriding.{build_named}
use Rattle.naga_oil.specs.AfreshLaw.{afresh}
use Rattle.naga_oil.specs.Outcome.{Outcome}
use Rattle.naga_oil.specs.Reach.{Unreached, unbuilt, Rule, Reaching, defined, is_built, enter_build, unless_built, unless_refused, as_recorded, preprocess_module, reach_each, reach_module, reach}
use Rattle.naga_oil.specs.Store.{Key, key_under, key_named}
use Rattle.naga_oil.specs.StoreLaw.{reach_imports}
use Rattle.naga_oil.proofs.AfreshLemmas.{with_last, outcome_is, leaves_each, leaves_unless, leaves_reach}
use Rattle.naga_oil.proofs.BuildImportsLemmas.{build_imports}
use Rattle.naga_oil.proofs.ReachLawLemmas.{bind_alike, each_alike, built_alike, imports_name, allowed, imported_registered, imported_effective, named, of_one, or_true, reach-first, reach-past, reaches-first, reaches-past, reaches-itself}
use Rattle.naga_oil.proofs.ReachLemmas.{each_refused, each_ended, each_more, module_unread, module_ended, module_over}
use Rattle.naga_oil.proofs.StoreKeyLemmas.{lookup_last, lookup_absent}

-- ---- the place of a module

-- a module of a registry, with the rest of the registry after it
pub record StandsAt (ds : List Registered) (d : Registered) (following : List Registered) : Type 0 where
  pub follows : MayFollow d following
  pub rest : IsRegistry following
  pub named : module_named d.name ds ≡ Some d
  pub found : (x : List ℕ) → registered x following ≡ true → module_named x ds ≡ module_named x following
  pub reached : (s : Settings) (defs : Defs) (bs : Builds) → reach s defs ds d.name bs ≡ reach_module s defs d (unless_built (reach s defs following)) bs
  pub further : (s : Settings) (defs : Defs) (x : List ℕ) → registered x following ≡ true → (bs : Builds) → reach s defs following x bs ≡ reach s defs ds x bs
  pub reaches : (x : List ℕ) → reaches ds d.name x ≡ (bytes_eq d.name x || list_any (λ u. reaches following u.import.import x) d.imports)

itself : (xs : List ℕ) → bytes_eq xs xs ≡ true
itself xs = (bytes_eq-Decides xs xs).1 refl

-- a name that is registered after a module in the list is another one
apart : (e : Registered) (es : List Registered) → registered e.name es ≡ false → (x : List ℕ) → registered x es ≡ true → bytes_eq e.name x ≡ false
apart e es fresh x r = false_from_ne_true (bytes_eq e.name x) (λ q. true≢false (sym r ∙ ap (λ n. registered n es) (sym (bytes_same e.name x q)) ∙ fresh))

pub registered_named : (x : List ℕ) (ds : List Registered) (d : Registered) → module_named x ds ≡ Some d → registered x ds ≡ true
registered_named x ds d h = sym (named-registered x ds) ∙ ap is_some h

here : (e : Registered) (es : List Registered) → MayFollow e es → IsRegistry es → StandsAt (e ∷ es) e es
here e es follows all = record {
  follows = follows;
  rest = all;
  named = ap (λ b. cond b (Some e) (module_named e.name es)) (itself e.name);
  found = λ x r. ap (λ b. cond b (Some e) (module_named x es)) (apart e es follows.name x r);
  reached = λ s defs bs. reach-first s defs e es e.name (itself e.name) bs;
  further = λ s defs x r bs. sym (reach-past s defs e es x (apart e es follows.name x r) bs);
  reaches = λ x. reaches-first e es e.name x (itself e.name);
}

-- one more module before it
there : (e : Registered) (es : List Registered) (d : Registered) (following : List Registered) → registered e.name es ≡ false → StandsAt es d following → StandsAt (e ∷ es) d following
there e es d following fresh k = record {
  follows = k.follows;
  rest = k.rest;
  named = ap (λ b. cond b (Some e) (module_named d.name es)) mine ∙ k.named;
  found = λ x r. ap (λ b. cond b (Some e) (module_named x es)) (other x r) ∙ k.found x r;
  reached = λ s defs bs. reach-past s defs e es d.name mine bs ∙ k.reached s defs bs;
  further = λ s defs x r bs. k.further s defs x r bs ∙ sym (reach-past s defs e es x (other x r) bs);
  reaches = λ x. reaches-past e es d.name x mine ∙ k.reaches x;
}
  where
    mine : bytes_eq e.name d.name ≡ false
    mine = apart e es fresh d.name (registered_named d.name es d k.named)

    other : (x : List ℕ) → registered x following ≡ true → bytes_eq e.name x ≡ false
    other x r = apart e es fresh x (sym (named-registered x es) ∙ ap is_some (k.found x r) ∙ named-registered x following ∙ r)

pub stands_at : (ds : List Registered) (place : ℕ) (d : Registered) → IsRegistry ds → slice_get ds place ≡ Some d → StandsAt ds d (drop (suc place) ds)
stands_at [] place d all at = absurd cc
stands_at (e ∷ es) zero d all at = subst (λ (x : Registered). StandsAt (e ∷ es) x es) same (here e es all.0 all.1)
  where
    same : e ≡ d
    same = cc
stands_at (e ∷ es) (suc place) d all at = there e es d (drop (suc place) es) all.0.name (stands_at es place d all.1 at)

-- the module with a name has that name
pub name_found : (x : List ℕ) (ds : List Registered) (d : Registered) → module_named x ds ≡ Some d → d.name ≡ x
name_found x [] d h = absurd cc
name_found x (e ∷ es) d h = by (bytes_eq e.name x) refl h (name_found x es d)
  where
    by : (b : Bool) → bytes_eq e.name x ≡ b → cond b (Some e) (module_named x es) ≡ Some d → (module_named x es ≡ Some d → d.name ≡ x) → d.name ≡ x
    by true q h known = let same : e ≡ d = cc in ap (λ (y : Registered). y.name) (sym same) ∙ bytes_same e.name x q
    by false q h known = known h

-- so has its key
pub key_name : (ds : List Registered) (x : List ℕ) (defs : Defs) (k : Key) → key_named ds defs x ≡ Some k → k.name ≡ x
key_name ds x defs k h = by (module_named x ds) refl h
  where
    by : (o : Option Registered) → module_named x ds ≡ o → option_map (λ d. key_under d defs) o ≡ Some k → k.name ≡ x
    by None e h = absurd cc
    by (Some d) e h = let same : key_under d defs ≡ k = cc in ap (λ (l : Key). l.name) (sym same) ∙ name_found x ds d e

-- the place of the module with a name
pub place_of : (ds : List Registered) (x : List ℕ) (d : Registered) → IsRegistry ds → module_named x ds ≡ Some d → (following : List Registered) × StandsAt ds d following
place_of ds x d all h =
    let place = position_or_len (λ e. bytes_eq e.name x) ds in
    (drop (suc place) ds, stands_at ds place d all (sym (find_at (λ e. bytes_eq e.name x) ds) ∙ h))

module _ (ds : List Registered) (d : Registered) (following : List Registered) (at : StandsAt ds d following) (x : List ℕ) (may : imports_name d x ≡ true) where
  registered_after : registered x following ≡ true
  registered_after = imported_registered d following at.follows x may

  -- an imported module is registered, and its effective names are effective names of the importing module
  pub imports_module : (o : Registered) × (module_named x ds ≡ Some o) × ((n : List ℕ) → is_among o.effective n ≡ true → is_among d.effective n ≡ true)
  imports_module =
      let o = named x following registered_after in
      (o.0, at.found x registered_after ∙ o.1, imported_effective d following at.follows x may o.0 o.1)

  -- a module reaches the modules that it imports
  pub reaches_import : reaches ds d.name x ≡ true
  reaches_import = at.reaches x ∙ ap (λ b. bytes_eq d.name x || b) (of_one (λ y. reaches following y x) d.imports x may (reaches-itself following x registered_after)) ∙ or_true (bytes_eq d.name x)

-- ---- reached modules

-- modules that were reached one after the other were allowed
pub all_allowed : (rule : Rule) (f : Reaching) (us : List Use) (bs : Builds) → (reach_each rule f us bs).result ≡ Ok tt → All (λ u. rule u ≡ None) us
all_allowed rule f [] bs h = All-nil (λ (u : Use). rule u ≡ None)
all_allowed rule f (u ∷ us) bs h = by (rule u) refl (f u.import.import bs).result refl (λ cs k. all_allowed rule f us cs k)
  where
    Known : Type 0
    Known = (cs : Builds) → (reach_each rule f us cs).result ≡ Ok tt → All (λ u. rule u ≡ None) us

    go : rule u ≡ None → (f u.import.import bs).result ≡ Ok tt → Known → All (λ u. rule u ≡ None) (u ∷ us)
    go e q known =
        let mid = (f u.import.import bs).builds in
        let next = each_more rule f u us bs mid e (outcome_is (f u.import.import bs) (Ok tt) q) in
        All-cons (λ (v : Use). rule v ≡ None) u us e (known mid (ap (λ o. o.result) (sym next) ∙ h))

    by : (o : Option Unreached) → rule u ≡ o → (r : Result (Unit {0}) Unreached) → (f u.import.import bs).result ≡ r → Known → All (λ u. rule u ≡ None) (u ∷ us)
    by (Some w) e r q known = let not : ◌≡◌ {A = Result (Unit {0}) Unreached} (Err w) (Ok tt) = ap (λ o. o.result) (sym (each_refused rule f u us bs w e)) ∙ h in absurd cc
    by None e (Err w) q known =
        let ended = each_ended rule f u us bs (f u.import.import bs).builds w e (outcome_is (f u.import.import bs) (Err w) q) in
        let not : ◌≡◌ {A = Result (Unit {0}) Unreached} (Err w) (Ok tt) = ap (λ o. o.result) (sym ended) ∙ h in absurd cc
    by None e (Ok x) q known = go e q known

-- allowed imports are reached as the uses are
pub imports_as_uses : (rule : Rule) (f : Reaching) (us : List Use) → All (λ u. rule u ≡ None) us → (bs : Builds) → reach_imports f (map (λ u. u.import) us) bs ≡ reach_each rule f us bs
unfolding reach_each reach_imports
imports_as_uses rule f [] all bs = refl
imports_as_uses rule f (u ∷ us) all bs =
    bind_alike (f u.import.import) (unless_refused (rule u) (f u.import.import)) (λ done. reach_imports f (map (λ u. u.import) us)) (λ done. reach_each rule f us) bs
    (ap (λ o. unless_refused o (f u.import.import) bs) (sym (All-head (λ (v : Use). rule v ≡ None) u us all)))
    (λ done cs. imports_as_uses rule f us (All-tail (λ (v : Use). rule v ≡ None) u us all) cs)

module _ (s : Settings) (ds : List Registered) (defs : Defs) (d : Registered) (following : List Registered) (at : StandsAt ds d following) where
  -- how the modules after it are reached
  abbrev pub after_it : Reaching
  after_it = unless_built (reach s defs following)

  -- a module that it may use is reached alike in the whole registry
  pub uses_after : (us : List Use) (bs : Builds) → reach_each (as_recorded d) after_it us bs ≡ reach_each (as_recorded d) (unless_built (reach s defs ds)) us bs
  uses_after us bs = each_alike (as_recorded d) after_it (unless_built (reach s defs ds)) alike us bs
    where
      alike : (u : Use) → as_recorded d u ≡ None → (cs : Builds) → after_it u.import.import cs ≡ unless_built (reach s defs ds) u.import.import cs
      alike u may cs = built_alike (reach s defs following) (reach s defs ds) u.import.import cs (at.further s defs u.import.import (imported_registered d following at.follows u.import.import (allowed d u may)) cs)

  -- how a build was made from no builds
  pub record IsBuiltFrom (b : BuiltModule) : Type 0 where
    pub out : Output
    pub read : preprocessed_of (defined defs) d ≡ Ok out
    pub may : All (λ u. as_recorded d u ≡ None) out.uses
    pub mid : Builds
    pub used : reach_each (as_recorded d) after_it out.uses [] ≡ record { builds = mid; result = Ok tt }
    pub built : build s d out mid ≡ Ok b

  pub imports_are : (b : BuiltModule) (k : IsBuiltFrom b) → b.imports ≡ map (λ u. u.import) k.out.uses
  imports_are b k = build_imports s d k.out k.mid b k.built

  -- the build imports what the module may import
  pub imports_may : (b : BuiltModule) → IsBuiltFrom b → All (λ i. imports_name d i.import ≡ true) b.imports
  imports_may b k = All-same (λ (i : Import). imports_name d i.import ≡ true) b.imports (map (λ u. u.import) k.out.uses) (imports_are b k) (All-map (λ (i : Import). imports_name d i.import ≡ true) (λ (u : Use). u.import) k.out.uses (All-weaker (λ (u : Use). as_recorded d u ≡ None) (λ (u : Use). imports_name d u.import.import ≡ true) (λ u may. allowed d u may) k.out.uses k.may))

  -- the imports of a build are reached as the uses of its text
  pub imports_reached : (b : BuiltModule) (k : IsBuiltFrom b) (bs : Builds) → reach_imports after_it b.imports bs ≡ reach_each (as_recorded d) after_it k.out.uses bs
  imports_reached b k bs = ap (λ is. reach_imports after_it is bs) (imports_are b k) ∙ imports_as_uses (as_recorded d) after_it k.out.uses k.may bs

  module _ (b : BuiltModule) (result : (afresh s ds defs d.name).result ≡ Ok tt) (found : build_named (afresh s ds defs d.name).builds d.name ≡ Some b) where
    first : afresh s ds defs d.name ≡ reach_module s defs d after_it []
    first = at.reached s defs []

    not_ended : (bs : Builds) (w : Unreached) → reach_module s defs d after_it [] ≡ record { builds = bs; result = Err w } → IsBuiltFrom b
    not_ended bs w h = let not : ◌≡◌ {A = Result (Unit {0}) Unreached} (Err w) (Ok tt) = ap (λ o. o.result) (sym (first ∙ h)) ∙ result in absurd cc

    module _ (out : Output) (read : preprocessed_of (defined defs) d ≡ Ok out) where
      begun : preprocess_module defs d (preprocessed_of (defined defs) d) [] ≡ record { builds = []; result = Ok out }
      begun = ap (λ r. preprocess_module defs d r []) read

      abbrev used_so : Outcome (Unit {0}) Unreached
      used_so = reach_each (as_recorded d) after_it out.uses []

      unbuilt_name : is_built used_so.builds d.name ≡ false
      unbuilt_name = leaves_each d.name (as_recorded d) after_it (leaves_unless d.name (reach s defs following) (leaves_reach d.name s defs following at.follows.name)) out.uses [] refl

      module _ (q : used_so.result ≡ Ok tt) where
        used : used_so ≡ record { builds = used_so.builds; result = Ok tt }
        used = outcome_is used_so (Ok tt) q

        whole : reach_module s defs d after_it [] ≡ enter_build d.name (build s d out used_so.builds) used_so.builds
        whole = module_over s defs d after_it [] out begun used_so.builds used

        entered : (r : Result BuiltModule Unbuilt) → build s d out used_so.builds ≡ r → IsBuiltFrom b
        entered (Err u) e = not_ended used_so.builds (unbuilt d.name u) (whole ∙ ap (λ r. enter_build d.name r used_so.builds) e)
        entered (Ok c) e =
            let last : (afresh s ds defs d.name).builds ≡ used_so.builds ++ (d.name, c) ∷ [] = ap (λ o. o.builds) (first ∙ whole ∙ ap (λ r. enter_build d.name r used_so.builds) e) ∙ with_last used_so.builds d.name c unbuilt_name in
            let is : Some c ≡ Some b = sym (newest c) ∙ ap (λ bs. build_named bs d.name) (sym last) ∙ found in
            let same : c ≡ b = cc in
            record { out = out; read = read; may = all_allowed (as_recorded d) after_it out.uses [] q; mid = used_so.builds; used = used; built = e ∙ ap (λ x. Ok x) same }
          where
            newest : (c : BuiltModule) → build_named (used_so.builds ++ (d.name, c) ∷ []) d.name ≡ Some c
            newest c =
                lookup_last (bytes_eq d.name) used_so.builds (d.name, c)
                ∙ ap (λ o. option_or o (cond (bytes_eq d.name d.name) (Some c) None)) (lookup_absent (bytes_eq d.name) used_so.builds unbuilt_name)
                ∙ ap (λ p. cond p (Some c) None) (itself d.name)

      used_up : (r : Result (Unit {0}) Unreached) → used_so.result ≡ r → IsBuiltFrom b
      used_up (Err w) q = not_ended used_so.builds w (module_ended s defs d after_it [] out begun used_so.builds w (outcome_is used_so (Err w) q))
      used_up (Ok x) q = entered q (build s d out used_so.builds) refl

    -- a build reached from no builds was made in this way
    pub built_from : IsBuiltFrom b
    built_from = by (preprocessed_of (defined defs) d) refl
      where
        by : (r : Result Output Fault) → preprocessed_of (defined defs) d ≡ r → IsBuiltFrom b
        by (Err fault) e = not_ended [] (unbuilt d.name (record { fault = fault; offset = 0 })) (module_unread s defs d after_it [] (unbuilt d.name (record { fault = fault; offset = 0 })) (ap (λ r. preprocess_module defs d r []) e))
        by (Ok out) e = used_up out e (used_so out e).result refl
