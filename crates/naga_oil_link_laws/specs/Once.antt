-- What builds and linked modules hold: each item and function once, and all that is requested.
use Rattle.std.specs.Prelude.{ℕ, ◌≡◌, true, List, slice_get, Some, None, reverse}
use Rattle.naga_oil_ir.specs.ModuleValue.{ModuleValue, FunctionValue}
use Rattle.naga_oil_ir.specs.Rows.{Text}
use Rattle.naga_oil_ir.specs.declared.span.Span.{Span}
use Rattle.naga_oil_derive.specs.CopiedEntry.{make_module}
use Rattle.naga_oil_derive.specs.Copying.{HasNoRepeats}
use Rattle.naga_oil_derive.specs.World.{world}
use Rattle.naga_oil_form_laws.specs.EntryForm.{IsModuleFormed}
use Rattle.naga_oil_link.specs.BuiltModule.{BuiltModule, Builds}
use Rattle.naga_oil_link.specs.CopiedBuild.{has_name_among, copy_whole}
use Rattle.naga_oil_link.specs.Linked.{links_function, link_whole}
use Rattle.naga_oil_link.specs.OwnPlaces.{OwnPlaces}
use Rattle.naga_oil_link_laws.specs.Headers.{HasNamed, HaveDeclarations, HaveOwnNames}
use Rattle.naga_oil_link_laws.specs.LinkedCopies.{AreFormedBuilds}
use Rattle.naga_oil_link_laws.specs.Requested.{AnyAsks, Asks}

-- each item of a module stands once, and each function has a name of its own
pub record HasEachOnce (t : ModuleValue) : Type 0 where
  pub items : HasNoRepeats (world t)
  pub functions :
      (j k : ℕ) (e f : FunctionValue × Span) → slice_get t.functions j ≡ Some e → slice_get t.functions k ≡ Some f →
      e.0.name ≡ f.0.name → j ≡ k

-- LAW: what a build holds of a module of good form has each once
abbrev pub HeldOnceLaw : Type 0
HeldOnceLaw = (m : ModuleValue) (own : OwnPlaces) (decoration : List ℕ) (functions : List (List ℕ)) → IsModuleFormed m →
    HasEachOnce (make_module (copy_whole m own decoration functions).derived)

-- LAW: it has each function of the module whose name is among the given ones
abbrev pub HeldAllLaw : Type 0
HeldAllLaw = (m : ModuleValue) (own : OwnPlaces) (decoration : List ℕ) (functions : List (List ℕ)) → IsModuleFormed m →
    (k : ℕ) (f : FunctionValue × Span) → slice_get m.functions k ≡ Some f → has_name_among functions f.0.name ≡ true →
    HasNamed (make_module (copy_whole m own decoration functions).derived) f.0.name

-- each function that a build owns is in a module, by name, and so is each that the build's imports request of builds
pub record HoldsRequested (bs : Builds) (b : BuiltModule) (t : ModuleValue) : Type 0 where
  pub own : (k : ℕ) (f : FunctionValue × Span) → slice_get b.value.functions k ≡ Some f → links_function b None f ≡ true → HasNamed t f.0.name
  pub imported : (n : Text) → AnyAsks (Asks (reverse bs)) b.imports n → HasNamed t n

-- LAW: the whole of a shader's build, whose index is 0, after what it imports of these builds, has each once, and all that is requested
abbrev pub LinkedOnceLaw : Type 0
LinkedOnceLaw =
    (bs : Builds) (b : BuiltModule) → b.index ≡ 0 → AreFormedBuilds bs → HaveDeclarations bs → HaveOwnNames bs →
    IsModuleFormed b.value →
    HasEachOnce (link_whole bs b) × HoldsRequested bs b (link_whole bs b)
