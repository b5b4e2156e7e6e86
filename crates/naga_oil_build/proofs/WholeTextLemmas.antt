-- What is overridden in a text, and in all that it imports, is listed once.
use Rattle.std.proofs.Common.{◌≡◌, ℕ, suc, if◌then◌else◌, Bool, true, false, Option, Some, None, Result, Ok, Err, List, [], ◌∷◌, ◌++◌, length, map, bytes_eq, refl, subst}
use Rattle.std.specs.Prelude.{◌==◌}
use Rattle.std.proofs.lemmas.Option.{none-some, same_Some}
use Rattle.naga_oil_lines.specs.Decorate.{decorated_name}
use Rattle.naga_oil_imports.specs.Uses.{Import, Use}
use Rattle.naga_oil_conditions.specs.Fault.{Fault}
use Rattle.naga_oil_words.specs.ResultSteps.{◌>>=◌}
use Rattle.naga_oil_registry.specs.Registered.{Registered}
use Rattle.naga_oil_registry.specs.Keywords.{MarkedFunction, with_edits}
use Rattle.naga_oil_link.specs.BuiltModule.{BuiltModule, Builds, Overriding}
use Rattle.naga_oil_build.specs.Build.{WholeText, decoration_of, begin_build, write_heading, write_whole}
use Rattle.naga_oil_build.specs.Held.{Settings}
use Rattle.naga_oil_build.specs.Overriding.{build_named, with_build, imported_overriding}
use Rattle.naga_oil_build.specs.Virtuals.{override_name, item_and_module, Overrides, noted, with_override, with_overrides, names_of, virtuals_in, virtual_edits, overrides_in, told_in, Functions, unless_fault, functions_in}
use Rattle.naga_oil_build.specs.OverridingForm.{OverridesEachOnce, BuildsOverrideOnce, WholeTextLaw}
use Rattle.naga_oil_build.proofs.OverridingFormLemmas.{IsDecoration, one_more, all_more, override_named}

-- ---- what a text says

module _ (any : Bool) (builds : Builds) (imports : List Import) (decoration : List ℕ) (decorates : IsDecoration decoration) where
  one_told : (o : Overrides) (f : MarkedFunction) → OverridesEachOnce o.overriding → OverridesEachOnce (with_override any builds imports decoration o f).overriding
  one_told o f h = one (item_and_module f.name) refl
    where
      one : (p : Option (List ℕ × List ℕ × List ℕ)) → item_and_module f.name ≡ p → OverridesEachOnce (noted any builds imports decoration o f p).overriding
      one (Some p) q = one_more f.name (override_name p.0 p.1 decoration) o.overriding (override_named f.name decoration p decorates q) h
      one None q = h

  all_told : (fs : List MarkedFunction) (o : Overrides) → OverridesEachOnce o.overriding → OverridesEachOnce (with_overrides any builds imports decoration o fs).overriding
  all_told [] o h = h
  all_told (f ∷ fs) o h = all_told fs (with_override any builds imports decoration o f) (one_told o f h)

  functions_once : (known : Overriding) (text : List ℕ) (x : Functions) → OverridesEachOnce known → functions_in any builds imports decoration known text ≡ Ok x → OverridesEachOnce x.overriding
  unfolding functions_in
  functions_once known text x h e = one (told_in any builds imports decoration known text).fault e
    where
      told : Overrides
      told = told_in any builds imports decoration known text

      told_once : OverridesEachOnce told.overriding
      told_once = all_told (overrides_in text) (record { edits = virtual_edits text; overriding = known; fault = None }) h

      one : (o : Option Fault) → unless_fault o (record { virtuals = names_of (virtuals_in text); overriding = told.overriding; text = with_edits told.edits text }) ≡ Ok x → OverridesEachOnce x.overriding
      one None q =
          let same : (record { virtuals = names_of (virtuals_in text); overriding = told.overriding; text = with_edits told.edits text }) ≡ x = cc in
          subst (λ (y : Functions). OverridesEachOnce y.overriding) same told_once
      one (Some f) q = absurd cc

-- ---- what it imports

named_once : (builds : Builds) (name : List ℕ) (b : BuiltModule) → BuildsOverrideOnce builds → build_named builds name ≡ Some b → OverridesEachOnce b.overriding
named_once [] name b h e = absurd (none-some b e)
named_once (x ∷ xs) name b h e = one (named_once xs name b (λ i e at. h (suc i) e at)) (bytes_eq name x.0) e
  where
    one : (build_named xs name ≡ Some b → OverridesEachOnce b.overriding) → (t : Bool) → (if t then Some x.1 else build_named xs name) ≡ Some b → OverridesEachOnce b.overriding
    one rest true e = subst (λ (y : BuiltModule). OverridesEachOnce y.overriding) (same_Some x.1 b e) (h 0 x refl)
    one rest false e = rest e

imported_once : (builds : Builds) (all : Overriding) (imports : List Import) → BuildsOverrideOnce builds → OverridesEachOnce all → OverridesEachOnce (imported_overriding builds all imports)
imported_once builds all [] h a = a
imported_once builds all (i ∷ is) h a = imported_once builds (with_build all (build_named builds i.import)) is h (one (build_named builds i.import) refl)
  where
    one : (o : Option BuiltModule) → build_named builds i.import ≡ o → OverridesEachOnce (with_build all o)
    one (Some b) q = all_more b.overriding all (named_once builds i.import b h q) a
    one None q = a

-- ---- a whole text

decorates_names : (d : Registered) → IsDecoration (decoration_of d)
decorates_names d = one (d.index == 0)
  where
    one : (t : Bool) → IsDecoration (if t then [] else decorated_name (Some d.name) [])
    one true = (None, refl)
    one false = (Some d.name, refl)

written_once : (s : Settings) (d : Registered) (builds : Builds) (text : List ℕ) (b : BuiltModule) (whole : WholeText) → IsDecoration b.decoration → OverridesEachOnce b.overriding → write_whole s d builds text b ≡ Ok whole → OverridesEachOnce whole.built.overriding
unfolding write_whole
written_once s d builds text b whole decorates h e = one (functions_in s.override_any builds b.imports b.decoration b.overriding text) refl (write_heading s d builds b.imports) e
  where
    one : (f : Result Functions Fault) → functions_in s.override_any builds b.imports b.decoration b.overriding text ≡ f → (h : Result (List ℕ) Fault)
        → (f >>= λ functions. (h >>= λ heading. (let r : Result WholeText Fault = Ok (record { text = heading ++ functions.text; built = record b { virtuals = functions.virtuals; overriding = functions.overriding; offset = length heading } }) in r))) ≡ Ok whole → OverridesEachOnce whole.built.overriding
    one (Ok f) p (Ok k) q =
        let same : (record { text = k ++ f.text; built = record b { virtuals = f.virtuals; overriding = f.overriding; offset = length k } }) ≡ whole = cc in
        subst (λ (w : WholeText). OverridesEachOnce w.built.overriding) same (functions_once s.override_any builds b.imports b.decoration decorates b.overriding text f h p)
    one (Ok f) p (Err x) q = absurd cc
    one (Err x) p k q = absurd cc

pub whole_text : WholeTextLaw
whole_text s d builds uses text whole h e =
    written_once s d builds text (begin_build builds d uses) whole (decorates_names d) (imported_once builds [] (map (λ (u : Use). u.import) uses) h tt) e
