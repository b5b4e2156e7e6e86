-- Law: what is linked and built depends only on the builds of the imported modules, and on the builds that these import.
use Rattle.std.specs.Prelude.{◌≡◌, ℕ, Bool, List, [], ◌∷◌, reverse, Option, Some, None, bytes_eq, if◌then◌else◌}
use Rattle.std.proofs.Math.Bool.{cond}
use Rattle.std.specs.List.{All, IsDistinct}
use Rattle.std.specs.Map.{keys_of}
use Rattle.std.specs.Option.{IsSomeAnd}
use Rattle.naga_oil_ir.specs.Backend.{FaultValue}
use Rattle.naga_oil_imports.specs.Uses.{Import, Use}
use Rattle.naga_oil_pre.specs.Preprocessed.{Output}
use Rattle.naga_oil_registry.specs.Registered.{Registered, Defs}
use Rattle.naga_oil_registry.specs.declared.descriptor.ShaderType.{ShaderType}
use Rattle.naga_oil_link.specs.BuiltModule.{BuiltModule, Builds}
use Rattle.naga_oil_link.specs.Linked.{LinkState, link_import, link_imports, link_header, link_whole}
use Rattle.naga_oil_build.specs.Build.{build}
use Rattle.naga_oil_build.specs.Held.{Settings}
use Rattle.naga_oil.specs.Finish.{finish}
use Rattle.naga_oil.specs.Refused.{Place}
use Rattle.naga_oil.specs.Validate.{fault_place}

-- ---- what stands alike in two rows of builds

-- the newest build of a name, and the builds before it, the newest first
abbrev pub newest : (name : List ℕ) → Builds → Option (BuiltModule × Builds)
newest name [] = None
newest name (e ∷ earlier) = if bytes_eq name e.0 then Some (e.1, earlier) else newest name earlier

-- b and c are one build, and what it imports stands alike in both rows
pub record AreOne (AlikeAfter : (name : List ℕ) → Type 0) (b c : BuiltModule) : Type 0 where
  pub same : b ≡ c
  pub imports : All (λ i. AlikeAfter i.import) b.imports

-- a name stands alike in two rows of builds, the newest first: it has the same build in both, over imports that stand alike, or none
unfoldable pub AlikeIn : (bs cs : Builds) → (name : List ℕ) → Type 0
AlikeIn [] cs name = newest name cs ≡ None
AlikeIn (e ∷ earlier) cs name = cond (bytes_eq name e.0) (IsSomeAnd (newest name cs) (λ f. AreOne (AlikeIn earlier f.1) e.1 f.0)) (AlikeIn earlier cs name)

-- these imports stand alike in two rows of builds, here in the order of building
abbrev pub ImportsAlike : (bs cs : Builds) → List Import → Type 0
ImportsAlike bs cs imports = All (λ i. AlikeIn (reverse bs) (reverse cs) i.import) imports

abbrev pub UsesAlike : (bs cs : Builds) → List Use → Type 0
UsesAlike bs cs uses = All (λ u. AlikeIn (reverse bs) (reverse cs) u.import.import) uses

-- no name is built twice
abbrev pub BuildsDiffer : Builds → Type 0
BuildsDiffer bs = IsDistinct bytes_eq (keys_of bs)

-- ---- the laws

-- LAW: what an import links out of builds, the newest first, depends only on what stands under its name
abbrev pub ImportLaw : Type 0
ImportLaw = (of_headers : Bool) (bs cs : Builds) (s : LinkState) (i : Import) → AlikeIn bs cs i.import → link_import of_headers bs s i ≡ link_import of_headers cs s i

-- LAW: what imports link one after the other, the header and the whole of a build depend only on what stands under their names
pub record LinkLaw : Type 0 where
  pub imports : (of_headers : Bool) (bs cs : Builds) (is : List Import) (s : LinkState) → ImportsAlike bs cs is → link_imports of_headers bs is s ≡ link_imports of_headers cs is s
  pub header : (bs cs : Builds) (is : List Import) → ImportsAlike bs cs is → link_header bs is ≡ link_header cs is
  pub whole : (bs cs : Builds) (b : BuiltModule) → ImportsAlike bs cs b.imports → link_whole bs b ≡ link_whole cs b

-- LAW: the build of a module, or the fault in its place, depends only on what stands under the names that it uses
abbrev pub BuildLaw : Type 0
BuildLaw = (s : Settings) (d : Registered) (out : Output) (bs cs : Builds) → BuildsDiffer bs → BuildsDiffer cs → UsesAlike bs cs out.uses → build s d out bs ≡ build s d out cs

-- LAW: the module made of a shader depends only on what stands under those names, if the faults of a made module are placed alike
abbrev pub FinishLaw : Type 0
FinishLaw = (s : Settings) (defs : Defs) (d : Registered) (out : Output) (shader_type : ShaderType) (bs cs : Builds) → BuildsDiffer bs → BuildsDiffer cs → UsesAlike bs cs out.uses
    → ((shader : Place) (f : FaultValue) → fault_place bs defs shader f ≡ fault_place cs defs shader f) → finish s defs bs d out shader_type ≡ finish s defs cs d out shader_type
