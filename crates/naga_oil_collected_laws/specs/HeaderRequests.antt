-- Which functions a build's header and a linked header have, and in which order: each without its body.
use Rattle.std.specs.Prelude.{ℕ, ◌≡◌, List, [], ◌∷◌, ◌++◌, fold, map, reverse, if◌then◌else◌}
use Rattle.std.specs.List.{AllZip, flat_map}
use Rattle.naga_oil_ir.specs.ModuleValue.{ModuleValue, FunctionValue}
use Rattle.naga_oil_ir.specs.declared.span.Span.{Span}
use Rattle.naga_oil_imports.specs.Uses.{Import}
use Rattle.naga_oil_link.specs.BuiltModule.{BuiltModule, Builds}
use Rattle.naga_oil_link.specs.CopiedBuild.{copy_header}
use Rattle.naga_oil_link.specs.CopySources.{stub_of}
use Rattle.naga_oil_link.specs.Linked.{link_header}
use Rattle.naga_oil_link.specs.OwnPlaces.{OwnPlaces}
use Rattle.naga_oil_link_laws.specs.Headers.{HaveDeclarations, HaveOwnNames}
use Rattle.naga_oil_collected_laws.specs.CollectedLaw.{IsCopyOf}
use Rattle.naga_oil_collected_laws.specs.FirstReach.{Reached, has_name, import_requests, held_requests}

-- ---- the header that a build holds

-- a function with its name, arguments and result alone
abbrev pub declared : Reached → Reached
declared r = record r { function = (stub_of r.function.0, r.function.1) }

-- g is the copy of a function without its body, whatever its types map to, with its span
abbrev pub IsStubOf : Reached → FunctionValue × Span → Type 0
IsStubOf r g = IsCopyOf (declared r) g

-- LAW: a build's header has a stub of each function with the build's names, in the order of the module, and no other function
abbrev pub HeldStubsLaw : Type 0
HeldStubsLaw = (m : ModuleValue) (own : OwnPlaces) (decoration : List ℕ) (names : List (List ℕ)) →
    AllZip IsStubOf (held_requests m names) (copy_header m own decoration names).derived.target.functions

-- ---- a linked header

-- a build whose module is its header
abbrev pub header_of : BuiltModule → BuiltModule
header_of b = record b { value = b.header; own_in_value = b.own_in_header }

abbrev pub headers_of : Builds → Builds
headers_of bs = map (λ e. (e.0, header_of e.1)) bs

-- what imports request of the headers of builds, one after another
abbrev pub header_requests : Builds → List Import → List Reached
header_requests bs imports = flat_map (import_requests (reverse (headers_of bs))) imports

-- functions with one more, if none has its name
abbrev pub with_new_name : List Reached → Reached → List Reached
with_new_name rs r = if has_name rs r.function.0.name then rs else rs ++ r ∷ []

-- functions, of each name the first
abbrev pub once : List Reached → List Reached
once rs = fold with_new_name [] rs

-- g copies a function, and neither has a body
pub record IsDeclarationOf (r : Reached) (g : FunctionValue × Span) : Type 0 where
  pub declares : r.function.0.body ≡ []
  pub copies : IsCopyOf r g
  pub without_body : g.0.body ≡ []

-- LAW: a linked header has a declaration of each function that is requested of the headers of builds, each name once, in the order
-- of first request, and no other function
abbrev pub LinkedStubsLaw : Type 0
LinkedStubsLaw = (bs : Builds) (imports : List Import) → HaveDeclarations bs → HaveOwnNames bs →
    AllZip IsDeclarationOf (once (header_requests bs imports)) (link_header bs imports).functions
