-- Which functions a linked module and a build's module have, and in which order.
use Rattle.std.specs.Prelude.{ℕ, ◌≡◌, List}
use Rattle.std.specs.List.{AllZip}
use Rattle.naga_oil_ir.specs.ModuleValue.{ModuleValue, FunctionValue}
use Rattle.naga_oil_ir.specs.declared.span.Span.{Span}
use Rattle.naga_oil_rename.specs.Renames.{Renames}
use Rattle.naga_oil_derive.specs.CopiedEntry.{make_module}
use Rattle.naga_oil_derive.specs.CopiedFunction.{copy_function}
use Rattle.naga_oil_derive.specs.World.{shifted}
use Rattle.naga_oil_form_laws.specs.EntryForm.{IsModuleFormed}
use Rattle.naga_oil_link.specs.BuiltModule.{BuiltModule, Builds}
use Rattle.naga_oil_link.specs.CopiedBuild.{copy_whole}
use Rattle.naga_oil_link.specs.Linked.{link_whole}
use Rattle.naga_oil_link.specs.OwnPlaces.{OwnPlaces}
use Rattle.naga_oil_link_laws.specs.Headers.{HaveOwnNames}
use Rattle.naga_oil_collected_laws.specs.FirstReach.{Reached, first_reached, with_called, link_requests, held_requests}

-- g is the copy of a function, whatever its handles map to, with its span
abbrev pub IsCopyOf : Reached → FunctionValue × Span → Type 0
IsCopyOf r g = (u : Renames) × (g ≡ (copy_function u r.function.0, shifted r.offset r.function.1))

-- LAW: the functions of the whole of a shader's build copy what it requests, and what that calls first, each once, in the order of
-- first reach; then what its entry points call besides
abbrev pub LinkedFunctionsLaw : Type 0
LinkedFunctionsLaw = (bs : Builds) (b : BuiltModule) → HaveOwnNames bs →
    AllZip IsCopyOf (with_called b.value (first_reached (link_requests bs b))) (link_whole bs b).functions

-- LAW: the same for what a build holds of a module of good form
abbrev pub HeldFunctionsLaw : Type 0
HeldFunctionsLaw = (m : ModuleValue) (own : OwnPlaces) (decoration : List ℕ) (names : List (List ℕ)) → IsModuleFormed m →
    AllZip IsCopyOf (with_called m (first_reached (held_requests m names))) (make_module (copy_whole m own decoration names).derived).functions
