-- The definition of a new module, by its parts.
use Rattle.std.proofs.Common.{◌≡◌, ℕ, List, [], ◌++◌, map, Option, Some, None, MatchOption, Result, Ok, Err, sym, ap, subst, ◌∙◌}
use Rattle.std.proofs.lemmas.List.Folds.{flat_map-map}
use Rattle.std.proofs.lemmas.List.Sums.{fold-append}
use Rattle.std.proofs.lemmas.Result.{err_from_is_err_and}
use Rattle.std.specs.List.{flat_map, fold}
use Rattle.std.specs.Result.{IsErrAnd}
use Rattle.naga_oil_words.specs.Texts.{in_order, with_name}
use Rattle.naga_oil_imports.specs.Uses.{Import, Use}
use Rattle.naga_oil_conditions.specs.Fault.{Fault, too_many_modules}
use Rattle.naga_oil_conditions.specs.View.{fault_of, Fails, Gives}
use Rattle.naga_oil_conditions.specs.declared.fault.ComposerErrorInner.{ComposerErrorInner}
use Rattle.naga_oil_words.specs.ResultSteps.{◌>>=◌}
use Rattle.naga_oil_registry.specs.Added.{Described, all_uses, imported_among, indexed, definition_over, new_definition}
use Rattle.naga_oil_registry.specs.Registered.{Registered, Defs}
use Rattle.naga_oil_registry.specs.Descriptor.{ModuleSource}
use Rattle.naga_oil_registry.specs.Merged.{recorded_names, merged}
use Rattle.naga_oil_registry.specs.Registry.{free_index}

-- a fault of a part is the fault of the whole
pub fails-through : {Y Z : Type 0} (inner : ComposerErrorInner) (v : Result Y Fault) (w : Result Z Fault) → Fails inner v → ((f : Fault) → v ≡ Err f → w ≡ Err f) → Fails inner w
fails-through inner v w h up = go (fault_of inner) h
  where
    go : (o : Option Fault) → MatchOption o (Unit {0}) (λ f. v ≡ Err f) → MatchOption o (Unit {0}) (λ f. w ≡ Err f)
    go None k = tt
    go (Some f) k = up f k

-- the whole result where a part is refused
pub gives-refused : {X Y : Type 0} (view : X → Y) (r : Result X ComposerErrorInner) (inner : ComposerErrorInner) (v : Result Y Fault) → IsErrAnd r (λ e. e ≡ inner) → Fails inner v → Gives view r v
gives-refused view r inner v h fails =
    let p = err_from_is_err_and r h in
    subst (λ (x : Result _ _). Gives view x v) (sym p.1) (subst (λ (e : ComposerErrorInner). Fails e v) (sym p.2) fails)

module _ (ds : List Registered) (m : ModuleSource) (d : Described) (uses : List Use) (same : uses ≡ all_uses d.metadata m.additional) where
  pub new-refused : (f : Fault) → imported_among ds uses ≡ Err f → new_definition ds m d ≡ Err f
  unfolding new_definition
  new-refused f e = ap (λ (r : Result (List Registered) Fault). r >>= λ imported. indexed (free_index ds) >>= λ index. Ok (definition_over m d imported index)) (ap (imported_among ds) (sym same) ∙ e)

  following-imports : (imported : List Registered) → imported_among ds uses ≡ Ok imported → new_definition ds m d ≡ (indexed (free_index ds) >>= λ index. Ok (definition_over m d imported index))
  unfolding new_definition
  following-imports imported e = ap (λ (r : Result (List Registered) Fault). r >>= λ imported. indexed (free_index ds) >>= λ index. Ok (definition_over m d imported index)) (ap (imported_among ds) (sym same) ∙ e)

  pub new-full : (imported : List Registered) → imported_among ds uses ≡ Ok imported → free_index ds ≡ None → new_definition ds m d ≡ Err too_many_modules
  new-full imported e none = following-imports imported e ∙ ap (λ (o : Option ℕ). indexed o >>= λ index. Ok (definition_over m d imported index)) none

  pub new-made : (imported : List Registered) (index : ℕ) → imported_among ds uses ≡ Ok imported → free_index ds ≡ Some index → new_definition ds m d ≡ Ok (definition_over m d imported index)
  new-made imported index e some = following-imports imported e ∙ ap (λ (o : Option ℕ). indexed o >>= λ index. Ok (definition_over m d imported index)) some

-- a definition with these parts
abbrev pub filled : ModuleSource → Described → ℕ → (path : List ℕ) → Defs → (names : List (List ℕ)) → List Use → List Import → Registered
filled m d index path defs names uses additional = record {
  name = d.name;
  source = d.metadata.cleaned;
  language = m.language;
  file_path = path;
  defs = defs;
  effective = names;
  imports = uses;
  additional = additional;
  directives = d.metadata.directives;
  index = index;
}

pub over-filled : (m : ModuleSource) (d : Described) (imported : List Registered) (index : ℕ) (path : List ℕ) (defs : Defs) (names : List (List ℕ)) (uses : List Use) (additional : List Import)
    → path ≡ m.file_path → defs ≡ merged m.defs imported → names ≡ in_order (recorded_names d.metadata.cleaned ++ flat_map (λ i. i.effective) imported) → uses ≡ all_uses d.metadata m.additional → additional ≡ m.additional
    → definition_over m d imported index ≡ filled m d index path defs names uses additional
over-filled m d imported index path defs names uses additional p q r s t =
    ap (λ x. filled m d index x (merged m.defs imported) (in_order (recorded_names d.metadata.cleaned ++ flat_map (λ i. i.effective) imported)) (all_uses d.metadata m.additional) m.additional) (sym p)
    ∙ ap (λ x. filled m d index path x (in_order (recorded_names d.metadata.cleaned ++ flat_map (λ i. i.effective) imported)) (all_uses d.metadata m.additional) m.additional) (sym q)
    ∙ ap (λ x. filled m d index path defs x (all_uses d.metadata m.additional) m.additional) (sym r)
    ∙ ap (λ x. filled m d index path defs names x m.additional) (sym s)
    ∙ ap (λ x. filled m d index path defs names uses x) (sym t)

-- sorted names with more names added
pub more-in_order : {X : Type 0} (f : X → Registered) (recorded known : List (List ℕ)) (xs : List X) → known ≡ in_order recorded → fold with_name known (flat_map (λ x. (f x).effective) xs) ≡ in_order (recorded ++ flat_map (λ i. i.effective) (map f xs))
unfolding in_order
more-in_order f recorded known xs e =
    ap (λ ks. fold with_name ks (flat_map (λ x. (f x).effective) xs)) e
    ∙ ap (fold with_name (fold with_name [] recorded)) (sym (flat_map-map (λ i. i.effective) f xs))
    ∙ sym (fold-append with_name [] recorded (flat_map (λ i. i.effective) (map f xs)))
