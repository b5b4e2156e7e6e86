-- What a build of a text returns, over the builds of what it imports.
use Rattle.std.specs.Prelude.{ℕ, List, [], ◌∷◌, ◌++◌, ◌==◌, length, map, Some, Result, Ok, Err, codes, if◌then◌else◌}
use Rattle.naga_oil_ir.specs.declared.language.ShaderLanguage.{ShaderLanguage}
use Rattle.naga_oil_ir.specs.declared.language.ShaderLanguage.TheVariants as language
use Rattle.naga_oil_lines.specs.Decorate.{decorated_name}
use Rattle.naga_oil_lines.specs.Directives.{Directives}
use Rattle.naga_oil_lines.specs.DirectivesText.{directives_text}
use Rattle.naga_oil_imports.specs.Uses.{Import, Use}
use Rattle.naga_oil_conditions.specs.Fault.{Fault}
use Rattle.naga_oil_pre.specs.Preprocessed.{Output}
use Rattle.naga_oil_words.specs.ResultSteps.{◌>>=◌}
use Rattle.naga_oil_registry.specs.Registered.{Registered}
use Rattle.naga_oil_link.specs.BuiltModule.{BuiltModule, Builds, nothing_built}
use Rattle.naga_oil_link.specs.Linked.{link_header}
use Rattle.naga_oil_build.specs.Built.{header_text}
use Rattle.naga_oil_build.specs.Held.{Settings, hold}
use Rattle.naga_oil_build.specs.Overriding.{imported_overriding}
use Rattle.naga_oil_build.specs.Virtuals.{functions_in}

-- ---- its start

-- the decoration of the names of a module's items; nothing for the shader, whose index is 0
abbrev pub decoration_of : Registered → List ℕ
decoration_of d = if d.index == 0 then [] else decorated_name (Some d.name) []

-- a build with nothing held yet, with its imports and the functions that are overridden in their builds
abbrev pub begin_build : Builds → Registered → List Use → BuiltModule
begin_build builds d uses = record (nothing_built (decoration_of d) d.index) {
  imports = map (λ u. u.import) uses;
  overriding = imported_overriding builds [] (map (λ u. u.import) uses);
}

-- ---- its whole text

-- a module's directives, or the version line of GLSL
abbrev pub first_lines : ShaderLanguage → Directives → List ℕ
first_lines language.Wgsl directives = directives_text directives
first_lines language.Glsl directives = codes "#version 450" ++ 10 ∷ []

-- the text that a front end writes for the header of imports
abbrev pub write_header : Settings → ShaderLanguage → Builds → List Import → Result (List ℕ) Fault
write_header s in_language builds imports = header_text s.front s.capabilities in_language (link_header builds imports)

-- what precedes a text: a module's first lines, and the header of what it imports
abbrev pub write_heading : Settings → Registered → Builds → List Import → Result (List ℕ) Fault
write_heading s d builds imports = write_header s d.language builds imports >>= λ header. Ok (first_lines d.language d.directives ++ header)

-- a whole text, and the build that it belongs to
pub record WholeText : Type 0 where
  pub text : List ℕ
  pub built : BuiltModule

-- the functions of a text that may be overridden, and those that override others, are read; the heading is put before the text
unfoldable pub write_whole : Settings → Registered → Builds → (text : List ℕ) → BuiltModule → Result WholeText Fault
write_whole s d builds text b = do
  functions ← functions_in s.override_any builds b.imports b.decoration b.overriding text
  heading ← write_heading s d builds b.imports
  Ok (record {
    text = heading ++ functions.text;
    built = record b { virtuals = functions.virtuals; overriding = functions.overriding; offset = length heading };
  })

-- ---- the build

-- why a text isn't built: its fault, whose places count from an offset
pub record Unbuilt : Type 0 where
  pub fault : Fault
  pub offset : ℕ

-- a value, or a fault whose places count from an offset
abbrev pub from_offset : {Y : Type 0} → ℕ → Result Y Fault → Result Y Unbuilt
from_offset offset (Ok y) = Ok y
from_offset offset (Err f) = Err (record { fault = f; offset = offset })

-- a text is built: its whole text is put together and parsed, and the build gets copies of the module; then places count from the
-- end of the heading
unfoldable pub build : Settings → Registered → Output → Builds → Result BuiltModule Unbuilt
build s d out builds = do
  whole ← from_offset 0 (write_whole s d builds out.text (begin_build builds d out.uses))
  from_offset whole.built.offset (hold s d.language whole.text whole.built)
