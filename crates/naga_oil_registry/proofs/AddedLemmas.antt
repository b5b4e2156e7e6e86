-- A new module may follow the modules that stay.
use Rattle.std.proofs.Common.{◌≡◌, ℕ, zero, suc, ◌+◌, ◌<◌, ◌≤◌, List, [], ◌∷◌, ◌++◌, Bool, true, false, not, cond, ◌||◌, refl, sym, ap, subst, ◌∙◌, Option, Some, None, option_map, unwrap_or, is_some, append_assoc, Result, Ok, Err, arith}
use Rattle.std.proofs.lemmas.Bool.{and_from, not-true}
use Rattle.std.specs.List.{list_all, flat_map, find, range_with_len}
use Rattle.std.specs.Str.{bytes_eq}
use Rattle.naga_oil_words.specs.Texts.{in_order}
use Rattle.naga_oil_imports.specs.Uses.{Use}
use Rattle.naga_oil_conditions.specs.Fault.{Fault, import_not_found}
use Rattle.naga_oil_words.specs.ResultSteps.{◌>>=◌}
use Rattle.naga_oil_registry.specs.Added.{Described, all_uses, with_module, imported_among, indexed, definition_over, new_definition, registry_with}
use Rattle.naga_oil_registry.specs.Registered.{Registered}
use Rattle.naga_oil_registry.specs.Descriptor.{ModuleSource}
use Rattle.naga_oil_registry.specs.Merged.{recorded_names}
use Rattle.naga_oil_registry.specs.Registry.{registered, module_named, reaches, standing, removed, taken, free_among, free_index, effective_names, MayFollow, IsRegistry}
use Rattle.naga_oil_registry.proofs.RemovedLemmas.{removed-registry, removed-named, standing-same}

found-registered : (name : List ℕ) (ds : List Registered) (d : Registered) → module_named name ds ≡ Some d → registered name ds ≡ true
found-registered name [] d e = absurd cc
found-registered name (x ∷ ds) d e = by (bytes_eq x.name name) e (λ e. found-registered name ds d e)
  where
    by : (b : Bool) → cond b (Some x) (module_named name ds) ≡ Some d → (module_named name ds ≡ Some d → registered name ds ≡ true) → (b || registered name ds) ≡ true
    by true e rest = refl
    by false e rest = rest e

-- facts about imports that are found
pub record AreFound (ds : List Registered) (uses : List Use) (found : List Registered) : Type 0 where
  pub registered_all : list_all (λ u. registered u.import.import ds) uses ≡ true
  pub effective : effective_names ds uses ≡ flat_map (λ d. d.effective) found

pub are_found : (ds : List Registered) (uses : List Use) (found : List Registered) → imported_among ds uses ≡ Ok found → AreFound ds uses found
are_found ds [] found e = let same : [] ≡ found = cc in record { registered_all = refl; effective = ap (flat_map (λ d. d.effective)) same }
are_found ds (u ∷ more) found e = by (module_named u.import.import ds) (imported_among ds more) refl refl e (λ rest q. are_found ds more rest q)
  where
    by : (o : Option Registered) (r : Result (List Registered) Fault) → module_named u.import.import ds ≡ o → imported_among ds more ≡ r → with_module u o r ≡ Ok found → ((rest : List Registered) → imported_among ds more ≡ Ok rest → AreFound ds more rest) → AreFound ds (u ∷ more) found
    by None r p q e known = absurd cc
    by (Some d) (Err f) p q e known = absurd cc
    by (Some d) (Ok rest) p q e known =
        let h = known rest q in
        let same : d ∷ rest ≡ found = cc in
        record {
          registered_all = and_from _ _ (found-registered u.import.import ds d p) h.registered_all;
          effective = ap (λ (o : Option Registered). unwrap_or (option_map (λ d. d.effective) o) [] ++ effective_names ds more) p ∙ ap (λ ns. d.effective ++ ns) h.effective ∙ ap (flat_map (λ d. d.effective)) same;
        }

found-in_range : (p : ℕ → Bool) (from count i : ℕ) → find p (range_with_len from count) ≡ Some i → (p i ≡ true) × (from ≤ i) × (i < from + count)
found-in_range p from zero i e = absurd cc
found-in_range p from (suc count) i e = by (p from) refl e (λ e. found-in_range p (from + 1) count i e)
  where
    by : (b : Bool) → p from ≡ b → cond b (Some from) (find p (range_with_len (from + 1) count)) ≡ Some i → (find p (range_with_len (from + 1) count) ≡ Some i → (p i ≡ true) × (from + 1 ≤ i) × (i < from + 1 + count)) → (p i ≡ true) × (from ≤ i) × (i < from + suc count)
    by true q e rest = let same : from ≡ i = cc in (ap p (sym same) ∙ q, omega arith, omega arith)
    by false q e rest = let h = rest e in (h.0, omega (arith, h.1), omega (arith, h.2))

free-above : (count : ℕ) (ds : List Registered) (i : ℕ) → free_among count ds ≡ Some i → (taken ds i ≡ false) × (1 ≤ i) × (i < 1 + count)
unfolding free_among
free-above count ds i e = let h = found-in_range (λ index. not (taken ds index)) 1 count i e in (not-true (taken ds i) h.0, h.1, h.2)

pub free_is : (ds : List Registered) (i : ℕ) → free_index ds ≡ Some i → (taken ds i ≡ false) × (1 ≤ i) × (i ≤ 2047)
unfolding free_index
free_is ds i e = let h = free-above 2047 ds i e in (h.0, h.1, omega (arith, h.2))

-- a new definition has its name, and may follow those that stay
new-follows : (ds : List Registered) (m : ModuleSource) (d : Described) (new : Registered) → registered d.name ds ≡ false → new_definition ds m d ≡ Ok new → (new.name ≡ d.name) × MayFollow new ds
unfolding new_definition
new-follows ds m d new fresh e = by (imported_among ds (all_uses d.metadata m.additional)) (free_index ds) refl refl e
  where
    by : (r : Result (List Registered) Fault) (o : Option ℕ) → imported_among ds (all_uses d.metadata m.additional) ≡ r → free_index ds ≡ o → (r >>= λ found. indexed o >>= λ index. Ok (definition_over m d found index)) ≡ Ok new → (new.name ≡ d.name) × MayFollow new ds
    by (Err f) o p q e = absurd cc
    by (Ok found) None p q e = absurd cc
    by (Ok found) (Some index) p q e =
        let is : definition_over m d found index ≡ new = cc in
        let h = are_found ds (all_uses d.metadata m.additional) found p in
        let i = free_is ds index q in
        subst (λ (x : Registered). (x.name ≡ d.name) × MayFollow x ds) is (
          refl,
          record {
            name = fresh;
            index = i.0;
            positive = i.1;
            small = i.2;
            imports = h.registered_all;
            effective = ap (λ ns. in_order (recorded_names d.metadata.cleaned ++ ns)) (sym h.effective);
          },
        )

pub entered-registry : (ds : List Registered) (m : ModuleSource) (d : Described) (new : Registered) → new_definition (removed d.name ds) m d ≡ Ok new → IsRegistry ds → (new.name ≡ d.name) × IsRegistry (new ∷ removed d.name ds)
entered-registry ds m d new e h =
    let k = new-follows (removed d.name ds) m d new (removed-named d.name ds) e in
    (k.0, (k.1, removed-registry d.name ds h))

-- what has been found, before what is found after it
abbrev pub with_found : List Registered → Result (List Registered) Fault → Result (List Registered) Fault
with_found ds (Ok more) = Ok (ds ++ more)
with_found ds (Err f) = Err f

pub one_found : (ds : List Registered) (u : Use) (d : Registered) (r : Result (List Registered) Fault) → with_found (ds ++ d ∷ []) r ≡ with_found ds (with_module u (Some d) r)
one_found ds u d (Ok more) = ap (λ l. Ok l) (append_assoc ds (d ∷ []) more)
one_found ds u d (Err f) = refl

pub none_found : (ds : List Registered) (u : Use) (r : Result (List Registered) Fault) → with_found ds (with_module u None r) ≡ Err (import_not_found u.import.import u.offset)
none_found ds u (Ok more) = refl
none_found ds u (Err f) = refl

pub named-registered : (name : List ℕ) (ds : List Registered) → is_some (module_named name ds) ≡ registered name ds
named-registered name [] = refl
named-registered name (d ∷ ds) = by (bytes_eq d.name name) (named-registered name ds)
  where
    by : (b : Bool) → is_some (module_named name ds) ≡ registered name ds → is_some (cond b (Some d) (module_named name ds)) ≡ (b || registered name ds)
    by true rest = refl
    by false rest = rest

-- facts once a module is entered in place of those that are removed with its name
pub record IsEntered (ms listed : List Registered) (m : ModuleSource) (d : Described) (new : Registered) : Type 0 where
  pub added : new_definition (removed d.name ms) m d ≡ Ok new
  pub items : listed ≡ registry_with ms new
  pub registry : IsRegistry listed

pub is_entered : (ms items stay : List Registered) (leaves : List ℕ → Bool) (m : ModuleSource) (d : Described) (new : Registered) → ((other : List ℕ) → leaves other ≡ reaches ms other d.name) → stay ≡ standing leaves ms → new_definition stay m d ≡ Ok new → items ≡ new ∷ standing leaves ms → IsRegistry ms → IsEntered ms items m d new
is_entered ms items stay leaves m d new same stays e is h =
    let gone : standing leaves ms ≡ removed d.name ms = standing-same leaves (λ other. reaches ms other d.name) same ms in
    let added : new_definition (removed d.name ms) m d ≡ Ok new = ap (λ ds. new_definition ds m d) (sym (stays ∙ gone)) ∙ e in
    let k = entered-registry ms m d new added h in
    let whole : items ≡ new ∷ removed d.name ms = is ∙ ap (λ ds. new ∷ ds) gone in
    record {
      added = added;
      items = whole ∙ ap (λ n. new ∷ removed n ms) (sym k.0);
      registry = subst IsRegistry (sym whole) k.1;
    }

-- the registry after an addition
pub is_registered : (ms items : List Registered) (m : ModuleSource) (d : Described) (new : Registered) → new_definition (removed d.name ms) m d ≡ Ok new → items ≡ registry_with ms new → IsRegistry ms → IsRegistry items
is_registered ms items m d new e is h =
    let k = entered-registry ms m d new e h in
    subst IsRegistry (sym (is ∙ ap (λ n. new ∷ removed n ms) k.0)) k.1
