-- What is overridden over texts that override no overriding function.
use Rattle.std.proofs.Common.{◌≡◌, ℕ, suc, if◌then◌else◌, Bool, true, false, Option, Some, None, Result, Ok, Err, List, [], ◌∷◌, ◌++◌, length, map, All, bytes_eq, refl, subst}
use Rattle.std.proofs.lemmas.List.Elements.{All-nil, All-cons, All-head, All-tail}
use Rattle.std.proofs.lemmas.Option.{none-some, same_Some}
use Rattle.naga_oil_imports.specs.Uses.{Import, Use}
use Rattle.naga_oil_conditions.specs.Fault.{Fault}
use Rattle.naga_oil_words.specs.ResultSteps.{◌>>=◌}
use Rattle.naga_oil_registry.specs.Registered.{Registered}
use Rattle.naga_oil_registry.specs.Keywords.{MarkedFunction, with_edits}
use Rattle.naga_oil_link.specs.BuiltModule.{BuiltModule, Builds, Overriding}
use Rattle.naga_oil_build.specs.Build.{WholeText, begin_build, write_heading, write_whole}
use Rattle.naga_oil_build.specs.Held.{Settings}
use Rattle.naga_oil_build.specs.Overriding.{with_new, overridden, overridden_by, with_overriding, build_named, with_build, imported_overriding}
use Rattle.naga_oil_build.specs.Virtuals.{override_name, item_and_module, Overrides, noted, with_override, with_overrides, names_of, virtuals_in, virtual_edits, overrides_in, told_in, Functions, unless_fault, functions_in}
use Rattle.naga_oil_build.specs.OverridingForm.{LacksOverrideMark, BasesLackMark, OverridesOriginals, BuildsLackMark, OriginalsLaw}

abbrev Base : Type 0
Base = List ℕ × List (List ℕ)

abbrev Lacks : Base → Type 0
Lacks o = LacksOverrideMark o.0

-- ---- one more overridden function

one_more : (base name : List ℕ) (all : Overriding) → LacksOverrideMark base → BasesLackMark all → BasesLackMark (overridden all base name)
one_more base name [] p h = All-cons Lacks (base, name ∷ []) [] p (All-nil Lacks)
one_more base name (o ∷ more) p h = one (one_more base name more p (All-tail Lacks o more h)) (bytes_eq base o.0)
  where
    one : BasesLackMark (overridden more base name) → (b : Bool) → BasesLackMark (if b then (o.0, with_new o.1 name) ∷ more else o ∷ overridden more base name)
    one rest true = All-cons Lacks (o.0, with_new o.1 name) more (All-head Lacks o more h) (All-tail Lacks o more h)
    one rest false = All-cons Lacks o (overridden more base name) (All-head Lacks o more h) rest

more_by : (base : List ℕ) (names : List (List ℕ)) (all : Overriding) → LacksOverrideMark base → BasesLackMark all → BasesLackMark (overridden_by all base names)
more_by base [] all p h = h
more_by base (n ∷ ns) all p h = more_by base ns (overridden all base n) p (one_more base n all p h)

all_more : (others all : Overriding) → BasesLackMark others → BasesLackMark all → BasesLackMark (with_overriding all others)
all_more [] all p h = h
all_more (o ∷ more) all p h = all_more more (overridden_by all o.0 o.1) (All-tail Lacks o more p) (more_by o.0 o.1 all (All-head Lacks o more p) h)

-- ---- what a text says

abbrev Original : MarkedFunction → Type 0
Original f = LacksOverrideMark f.name

module _ (any : Bool) (builds : Builds) (imports : List Import) (decoration : List ℕ) where
  one_noted : (o : Overrides) (f : MarkedFunction) (p : Option (List ℕ × List ℕ × List ℕ)) → Original f → BasesLackMark o.overriding → BasesLackMark (noted any builds imports decoration o f p).overriding
  one_noted o f (Some p) l h = one_more f.name (override_name p.0 p.1 decoration) o.overriding l h
  one_noted o f None l h = h

  all_noted : (fs : List MarkedFunction) (o : Overrides) → All Original fs → BasesLackMark o.overriding → BasesLackMark (with_overrides any builds imports decoration o fs).overriding
  all_noted [] o l h = h
  all_noted (f ∷ fs) o l h = all_noted fs (with_override any builds imports decoration o f) (All-tail Original f fs l) (one_noted o f (item_and_module f.name) (All-head Original f fs l) h)

  functions_lack : (known : Overriding) (text : List ℕ) (x : Functions) → OverridesOriginals text → BasesLackMark known → functions_in any builds imports decoration known text ≡ Ok x → BasesLackMark x.overriding
  unfolding functions_in
  functions_lack known text x l h e = one (told_in any builds imports decoration known text).fault e
    where
      told : Overrides
      told = told_in any builds imports decoration known text

      told_lack : BasesLackMark told.overriding
      told_lack = all_noted (overrides_in text) (record { edits = virtual_edits text; overriding = known; fault = None }) l h

      one : (o : Option Fault) → unless_fault o (record { virtuals = names_of (virtuals_in text); overriding = told.overriding; text = with_edits told.edits text }) ≡ Ok x → BasesLackMark x.overriding
      one None q =
          let same : (record { virtuals = names_of (virtuals_in text); overriding = told.overriding; text = with_edits told.edits text }) ≡ x = cc in
          subst (λ (y : Functions). BasesLackMark y.overriding) same told_lack
      one (Some f) q = absurd cc

-- ---- what it imports

named_lacks : (builds : Builds) (name : List ℕ) (b : BuiltModule) → BuildsLackMark builds → build_named builds name ≡ Some b → BasesLackMark b.overriding
named_lacks [] name b h e = absurd (none-some b e)
named_lacks (x ∷ xs) name b h e = one (named_lacks xs name b (λ i e at. h (suc i) e at)) (bytes_eq name x.0) e
  where
    one : (build_named xs name ≡ Some b → BasesLackMark b.overriding) → (t : Bool) → (if t then Some x.1 else build_named xs name) ≡ Some b → BasesLackMark b.overriding
    one rest true e = subst (λ (y : BuiltModule). BasesLackMark y.overriding) (same_Some x.1 b e) (h 0 x refl)
    one rest false e = rest e

imported_lack : (builds : Builds) (all : Overriding) (imports : List Import) → BuildsLackMark builds → BasesLackMark all → BasesLackMark (imported_overriding builds all imports)
imported_lack builds all [] h a = a
imported_lack builds all (i ∷ is) h a = imported_lack builds (with_build all (build_named builds i.import)) is h (one (build_named builds i.import) refl)
  where
    one : (o : Option BuiltModule) → build_named builds i.import ≡ o → BasesLackMark (with_build all o)
    one (Some b) q = all_more b.overriding all (named_lacks builds i.import b h q) a
    one None q = a

-- ---- a whole text

written_lacks : (s : Settings) (d : Registered) (builds : Builds) (text : List ℕ) (b : BuiltModule) (whole : WholeText) → OverridesOriginals text → BasesLackMark b.overriding → write_whole s d builds text b ≡ Ok whole → BasesLackMark whole.built.overriding
unfolding write_whole
written_lacks s d builds text b whole l h e = one (functions_in s.override_any builds b.imports b.decoration b.overriding text) refl (write_heading s d builds b.imports) e
  where
    one : (f : Result Functions Fault) → functions_in s.override_any builds b.imports b.decoration b.overriding text ≡ f → (h : Result (List ℕ) Fault)
        → (f >>= λ functions. (h >>= λ heading. (let r : Result WholeText Fault = Ok (record { text = heading ++ functions.text; built = record b { virtuals = functions.virtuals; overriding = functions.overriding; offset = length heading } }) in r))) ≡ Ok whole → BasesLackMark whole.built.overriding
    one (Ok f) p (Ok k) q =
        let same : (record { text = k ++ f.text; built = record b { virtuals = f.virtuals; overriding = f.overriding; offset = length k } }) ≡ whole = cc in
        subst (λ (w : WholeText). BasesLackMark w.built.overriding) same (functions_lack s.override_any builds b.imports b.decoration b.overriding text f l h p)
    one (Ok f) p (Err x) q = absurd cc
    one (Err x) p k q = absurd cc

pub originals : OriginalsLaw
originals s d builds uses text whole h l e =
    written_lacks s d builds text (begin_build builds d uses) whole l (imported_lack builds [] (map (λ (u : Use). u.import) uses) h (All-nil Lacks)) e
