-- What the program writes, or is refused for.
use Rattle.std.specs.Prelude.{◌≡◌, ℕ, List, ◌∷◌, map, Result, Ok, Err, Option, Some, None, IsOk, Contains, ⊤, string_bytes}
use Rattle.std.specs.Io.KnownBytes.{Appends}
use Rattle.naga_oil_ir.specs.Backend.{FrontEnd}
use Rattle.naga_oil_registry.specs.Registered.{Defs}
use Rattle.yettuvam_build.specs.Built.{built_text}
use Rattle.yettuvam_build.specs.Defined.{definitions_of}
use Rattle.yettuvam_build.specs.Files.{File}
use Rattle.yettuvam_build.specs.Words.{Command, Request, build, own_text}
use Rattle.yettuvam_build.specs.declared.refusal.Refusal.{Refusal}
use Rattle.yettuvam_build.specs.declared.refusal.Refusal.TheVariants.{Usage, BadDefinition, CannotRead, Fault, Memory, Write}

-- The definitions of a request, and its files, in their order, as they are read.
pub record Given (reads : List File → Type 0) (r : Request) : Type 0 where
  pub defs : Defs
  pub top : File
  pub others : List File
  pub are_definitions : definitions_of r.definitions ≡ Ok defs
  pub are_named : map (λ f. f.path) (top ∷ others) ≡ r.files
  pub are_read : reads (top ∷ others)

-- the text of the shader that is built of these files, or what is wrong
abbrev pub shown_of : {reads : List File → Type 0} {r : Request} → FrontEnd → Given reads r → Result (List ℕ) (List ℕ)
shown_of {reads} {r} front g = built_text front r g.defs g.top g.others

-- a text is that of the shader that is built of the files that are read
abbrev pub IsBuilt : FrontEnd → (reads : List File → Type 0) → Request → (shown : List ℕ) → Type 0
IsBuilt front reads r shown = (g : Given reads r) × (shown_of front g ≡ Ok shown)

-- the errors of a request: a wrong definition, or else a file, or else what is wrong with the files that are read
abbrev pub RefusesBuild : FrontEnd → (reads : List File → Type 0) → Request → Refusal → Type 0
RefusesBuild front reads r (BadDefinition word) = definitions_of r.definitions ≡ Err word.now
RefusesBuild front reads r (CannotRead file) = IsOk (definitions_of r.definitions) × Contains r.files file.now
RefusesBuild front reads r (Fault report) = (g : Given reads r) × (shown_of front g ≡ Err (string_bytes report))
RefusesBuild front reads r Memory = ⊤
RefusesBuild front reads r e = ⊥

-- the text that a command shows: its own, or that of a shader
abbrev pub Shows : FrontEnd → (reads : List File → Type 0) → Command → (shown : List ℕ) → Type 0
Shows front reads (own_text text) shown = shown ≡ text
Shows front reads (build r) shown = IsBuilt front reads r shown

-- the text of a command is written
abbrev pub Writes : FrontEnd → (reads : List File → Type 0) → Command → (old new : Option (List ℕ)) → Type 0
Writes front reads c old new = (shown : List ℕ) × Shows front reads c shown × Appends old new shown

-- the errors of a command: a write of its text fails, or those of its request
abbrev pub Refuses : FrontEnd → (reads : List File → Type 0) → Command → Refusal → Type 0
Refuses front reads c Write = (shown : List ℕ) × Shows front reads c shown
Refuses front reads (build r) e = RefusesBuild front reads r e
Refuses front reads (own_text text) e = ⊥

-- the text of the command of words is written
abbrev pub WritesFor : FrontEnd → (reads : List File → Type 0) → Option Command → (old new : Option (List ℕ)) → Type 0
WritesFor front reads (Some c) old new = Writes front reads c old new
WritesFor front reads None old new = ⊥

-- the errors of words: they are no command, or those of their command
abbrev pub RefusesFor : FrontEnd → (reads : List File → Type 0) → Option Command → Refusal → Type 0
RefusesFor front reads None Usage = ⊤
RefusesFor front reads None e = ⊥
RefusesFor front reads (Some c) e = Refuses front reads c e
