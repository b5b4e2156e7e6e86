-- What a build holds of the module that its whole text is parsed to.
use Rattle.std.specs.Prelude.{ℕ, Bool, not, ◌&&◌, nat_lt, if◌then◌else◌, List, length, Result, Ok, Err}
use Rattle.naga_oil_ir.specs.Backend.{FrontEnd}
use Rattle.naga_oil_ir.specs.ModuleValue.{ModuleValue}
use Rattle.naga_oil_ir.specs.declared.backend.Capabilities.{Capabilities}
use Rattle.naga_oil_ir.specs.declared.language.ShaderLanguage.{ShaderLanguage}
use Rattle.naga_oil_conditions.specs.Fault.{Fault, text_too_large, wrong_form}
use Rattle.naga_oil_words.specs.ResultSteps.{◌>>=◌}
use Rattle.naga_oil_link.specs.BuiltModule.{BuiltModule}
use Rattle.naga_oil_link.specs.CopiedBuild.{copy_build, copies_special}
use Rattle.naga_oil_form.specs.Form.{is_formed}
use Rattle.naga_oil_form_laws.specs.ShapeTest.{has_shape}
use Rattle.naga_oil_link.specs.OwnPlaces.{OwnPlaces}
use Rattle.naga_oil_link.specs.Owned.{own_places, owned_module, owned_build}
use Rattle.naga_oil_build.specs.Built.{parsed_text}
use Rattle.naga_oil_build.specs.Writeback.{came_back}
use Rattle.naga_oil_ir.specs.Spans.{span_stride}

-- the settings of a build
pub record Settings : Type 0 where
  pub front : FrontEnd
  pub capabilities : Capabilities
  pub validate : Bool
  -- whether any imported function may be overridden, and not only one that is virtual
  pub override_any : Bool

abbrev pub settings : FrontEnd → Capabilities → (validate override_any : Bool) → Settings
settings front capabilities validate override_any = record {
  front = front;
  capabilities = capabilities;
  validate = validate;
  override_any = override_any;
}

-- ---- what a whole text is parsed to

-- a text of 2,097,152 bytes or more is too large
abbrev pub unless_too_large : (text : List ℕ) → Result (Unit {0}) Fault
unless_too_large text = if nat_lt (length text) span_stride then Ok tt else Err text_too_large

-- the module that a whole text is parsed to, which must be of good form under a decoration, and in the shape of modules: plain data
-- that a front end's specification returns has this shape wherever a module says it
unfoldable pub parse_whole : FrontEnd → ShaderLanguage → (text decoration : List ℕ) → Result ModuleValue Fault
parse_whole front in_language text decoration = do
  fits ← unless_too_large text
  m ← parsed_text front in_language text
  if is_formed m decoration (length text) && has_shape m then Ok m else Err wrong_form

-- ---- what is held of that module

-- whether names must survive the round trip: those of a module, when validating, without special types
abbrev pub is_tested : (index : ℕ) → (validate special : Bool) → Bool
is_tested index validate special = nat_lt 0 index && validate && not special

-- the result of the test, where the test is required
abbrev pub if_tested : Bool → Result (Unit {0}) Fault → Result (Unit {0}) Fault
if_tested asked answer = if asked then answer else Ok tt

-- whether the names of a build survive, of whose functions the first few are compared
abbrev pub names_back : Settings → (special : Bool) → ModuleValue → OwnPlaces → BuiltModule → (functions : ℕ) → Result (Unit {0}) Fault
names_back s special m own b functions = if_tested (is_tested b.index s.validate special) (came_back s.front s.capabilities m own b functions)

-- a module is copied into a build, and the names of what the build owns survive
abbrev pub copy_tested : Settings → ModuleValue → OwnPlaces → BuiltModule → (functions : ℕ) → Result BuiltModule Fault
copy_tested s m own b functions = let c = copy_build m own b in do
  done ← names_back s (copies_special m own b.decoration b.functions) m own c functions
  Ok c

-- ---- everything

-- a whole text is parsed, what it owns is decorated, and the build gets copies of it
unfoldable pub hold : Settings → ShaderLanguage → (text : List ℕ) → BuiltModule → Result BuiltModule Fault
hold s in_language text b = do
  parse ← parse_whole s.front in_language text b.decoration
  copy_tested s (owned_module b.index b.decoration parse) (own_places parse) (owned_build b.index parse b) (length parse.functions)
