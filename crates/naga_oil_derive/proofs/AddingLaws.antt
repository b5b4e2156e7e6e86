-- What holds of a derived module while items and functions are added to it, also if memory ran out.
use Rattle.std.proofs.Common.{◌≡◌, [], Option, Some, refl, ap, sym, subst}
use Rattle.naga_oil_ir.specs.ModuleValue.{ModuleValue}
use Rattle.naga_oil_derive.specs.Tree.{Kept}
use Rattle.naga_oil_derive.specs.Derived.{Source, Derived}
use Rattle.naga_oil_derive.specs.DerivedFunctions.{Meanings, KeepsFunctions}
use Rattle.naga_oil_derive.specs.DerivedValue.{importing_of, after_importing}
use Rattle.naga_oil_derive.specs.DerivedLaw.{IsDerivation}
use Rattle.naga_oil_derive.specs.Answered.{ImportState}
use Rattle.naga_oil_derive.specs.AnsweredLaw.{AddsOnly}
use Rattle.naga_oil_derive.specs.Putting.{Adding}
use Rattle.naga_oil_derive.proofs.HavingLemmas.{given}
use Rattle.naga_oil_derive.proofs.DerivedLaws.{later_derived}
use Rattle.naga_oil_derive.proofs.AnsweredLaws.{derived_given}
use Rattle.naga_oil_derive.proofs.AddingLemmas.{Added, adding_adds}

abbrev derivation : Option Source → ModuleValue → Meanings → Derived
derivation o t ns = record { source = o; target = t; function_names = ns }

added_derived : (first : Kept) (s : Source) (t : ModuleValue) (ns : Meanings) (i : ImportState) → IsDerivation first (derivation (Some s) t ns) → Added s.value first (importing_of (derivation (Some s) t ns) s) i → IsDerivation first (after_importing s i)
added_derived first s t ns i d a =
    derived_given first (record { value = s.value; offset = s.offset; places = i.copying.places }) i.copying.target i.functions ns i.names (later_derived first s (given t []) ns i.copying (derived_given first s t [] ns ns d) a.items)

added_keeps : (first : Kept) (s : Source) (t : ModuleValue) (ns : Meanings) (i : ImportState) → Added s.value first (importing_of (derivation (Some s) t ns) s) i → KeepsFunctions (derivation (Some s) t ns) (after_importing s i)
added_keeps first s t ns i a =
    let e = a.items.extends in
    record {
      items = record {
        types = e.types;
        constants = e.constants;
        overrides = e.overrides;
        global_variables = e.global_variables;
        global_expressions = e.global_expressions;
        rest = ap (λ (v : ModuleValue). given v t.functions) e.rest;
      };
      functions = a.functions;
      names = a.names;
      source = record { value = refl; offset = refl; went = a.items.went };
    }

adding_some : (first : Kept) (s : Source) (t : ModuleValue) (ns : Meanings) (i : ImportState) → IsDerivation first (derivation (Some s) t ns) → Adding s.value s.offset (importing_of (derivation (Some s) t ns) s) i → AddsOnly first (derivation (Some s) t ns) (after_importing s i)
adding_some first s t ns i d a =
    let g = adding_adds first d.source.copyable.kinds a (derived_given first s t [] ns ns d).source.midway in
    record { derivation = added_derived first s t ns i d g; keeps = added_keeps first s t ns i g }

adding_any : (first : Kept) (o : Option Source) (t : ModuleValue) (ns : Meanings) (s : Source) (i : ImportState) → IsDerivation first (derivation o t ns) → o ≡ Some s → Adding s.value s.offset (importing_of (derivation o t ns) s) i → AddsOnly first (derivation o t ns) (after_importing s i)
adding_any first o t ns s i d e a =
    subst (λ (q : Option Source). AddsOnly first (derivation q t ns) (after_importing s i)) (sym e) (adding_some first s t ns i (subst (λ (q : Option Source). IsDerivation first (derivation q t ns)) e d) a)

pub adding_law : (first : Kept) (d : Derived) (s : Source) (i : ImportState) → IsDerivation first d → d.source ≡ Some s → Adding s.value s.offset (importing_of d s) i → AddsOnly first d (after_importing s i)
adding_law first d s i h e a = adding_any first d.source d.target d.function_names s i h e a
