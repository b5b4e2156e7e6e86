-- A made module is faithful: its functions, items and entry points are copies of those that the front end parsed.
use mathlib.Core.Logic.{inl, inr}
use Rattle.std.specs.Prelude.{ℕ, ◌≡◌, ◌*◌, ◌⊎◌, List, length, take, slice_get, Some, None, Ok}
use Rattle.naga_oil_ir.specs.ModuleValue.{ModuleValue, FunctionValue, EntryValue}
use Rattle.naga_oil_ir.specs.Rows.{Row, Text}
use Rattle.naga_oil_ir.specs.declared.names.ItemPlace.{ItemPlace}
use Rattle.naga_oil_ir.specs.declared.names.ItemPlace.TheVariants.{TypeItem}
use Rattle.naga_oil_ir.specs.declared.span.Span.{Span}
use Rattle.naga_oil_derive.specs.CopiedLaw.{HasAt}
use Rattle.naga_oil_derive.specs.Tree.{World}
use Rattle.naga_oil_derive.specs.World.{world, shifted, special_at}
use Rattle.naga_oil_derive.specs.declared.special.SpecialKey.{SpecialKey}
use Rattle.naga_oil_pre.specs.Preprocessed.{Output}
use Rattle.naga_oil_registry.specs.Added.{read_source}
use Rattle.naga_oil_registry.specs.Registered.{Registered, Defs}
use Rattle.naga_oil_registry.specs.Descriptor.{ShaderSource}
use Rattle.naga_oil_link.specs.BuiltModule.{BuiltModule, Builds}
use Rattle.naga_oil_link.specs.Linked.{link_header}
use Rattle.naga_oil_link.specs.Owned.{own_places, owned_module}
use Rattle.naga_oil_copy_laws.specs.Scope.{ReadAlike, scope_of}
use Rattle.naga_oil_copy_laws.specs.ByTree.{CopiesByTree}
use Rattle.naga_oil_copy_laws.specs.EntryByTree.{EntryAlike}
use Rattle.naga_oil_link_laws.specs.Headers.{HasNamed}
use Rattle.naga_oil_link_laws.specs.HeldBuild.{DecoratesTypes}
use Rattle.naga_oil_link_laws.specs.KeptAlike.{scope_alike}
use Rattle.naga_oil_link_laws.specs.ReadIn.{HasKeysOf}
use Rattle.naga_oil_build.specs.Built.{preprocessed_of}
use Rattle.naga_oil_build.specs.Build.{WholeText, begin_build, write_whole, build}
use Rattle.naga_oil_build.specs.Held.{Settings, parse_whole}
use Rattle.naga_oil.specs.Answer.{answer}
use Rattle.naga_oil.specs.CallsSent.{call_goes}
use Rattle.naga_oil.specs.Chain.{stage_in}
use Rattle.naga_oil.specs.MakeDefs.{make_defs}
use Rattle.naga_oil.specs.Reach.{defined}
use Rattle.naga_oil.specs.Shader.{read_shader}
use Rattle.naga_oil_ir.specs.Spans.{span_stride}

-- ---- parses

-- b is the build of a text under definitions over builds, and parse is the parse of its whole text
pub record IsBuiltOf (s : Settings) (defs : Defs) (d : Registered) (before : Builds) (b : BuiltModule) (parse : ModuleValue) : Type 0 where
  pub output : Output
  pub preprocessed : preprocessed_of (defined defs) d ≡ Ok output
  pub built : build s d output before ≡ Ok b
  pub whole : WholeText
  pub written : write_whole s d before output.text (begin_build before d output.uses) ≡ Ok whole
  pub parsed : parse_whole s.front d.language whole.text b.decoration ≡ Ok parse

-- b is one of these builds: that of a registered module, over the builds before it
pub record IsBuiltModule (s : Settings) (ds : List Registered) (defs : Defs) (builds : Builds) (b : BuiltModule) (parse : ModuleValue) : Type 0 where
  pub place : ℕ
  pub registered : ℕ
  pub definition : Registered
  pub known : slice_get ds registered ≡ Some definition
  pub at : slice_get builds place ≡ Some (definition.name, b)
  pub is : IsBuiltOf s defs definition (take place builds) b parse

-- the parse of a build, with the items that the build owns decorated, and a module's entry points as functions
abbrev pub owned_parse : BuiltModule → ModuleValue → ModuleValue
owned_parse b parse = owned_module b.index b.decoration parse

-- ---- copies

-- g, in made, copies f, which is over the handles of the parse of a build. Own types may have their decorated names; special types read
-- as those of made with the same keys; spans count over all texts, one after the other; and calls are mapped by sends.
pub record CopiesParsed (b : BuiltModule) (parse : ModuleValue) (sends : Text → Text) (made : ModuleValue) (f g : FunctionValue) : Type 0 where
  pub reads : World
  pub decorated : DecoratesTypes (owned_parse b parse) (own_places parse) b.decoration reads
  pub copies : CopiesByTree (shifted (b.index * span_stride)) sends (scope_alike reads (owned_parse b parse) made) f (scope_of made) g

-- y copies the entry point at i of the shader's parse, with its calls redirected: its function, and everything else, whose items read
-- alike; its stage is that of the shader's type
pub record EntryComes (shader : BuiltModule) (parse : ModuleValue) (stages : ℕ → ℕ) (made : ModuleValue) (i : ℕ) (y : EntryValue) : Type 0 where
  pub entry : EntryValue
  pub at : slice_get (owned_parse shader parse).entry_points i ≡ Some entry
  pub copies : CopiesParsed shader parse (call_goes shader.overriding None) made entry.function y.function
  pub whole : EntryAlike stages (scope_alike copies.reads (owned_parse shader parse) made) (scope_of made) entry y

-- ---- the whole

module _ (s : Settings) (ds : List Registered) (counter : ℕ) (m : ShaderSource) where
  -- the builds of a make
  abbrev pub made_builds : Builds
  made_builds = (answer s ds counter m).builds

  -- b is the build of the shader over these, and parse is its parse
  pub record IsBuiltShader (b : BuiltModule) (parse : ModuleValue) : Type 0 where
    pub read : List ℕ × ℕ
    pub source : read_source counter m.source ≡ Ok read
    pub definition : Registered
    pub described : read_shader m read.0 ≡ Ok definition
    pub is : IsBuiltOf s (make_defs ds counter m) definition made_builds b parse

  -- b is the build of a reached module or of the shader, and parse is its parse
  abbrev pub IsBuilt : BuiltModule → ModuleValue → Type 0
  IsBuilt b parse = IsBuiltModule s ds (make_defs ds counter m) made_builds b parse ⊎ IsBuiltShader b parse

  -- the builds before b
  abbrev pub builds_before : (b : BuiltModule) (parse : ModuleValue) → IsBuilt b parse → Builds
  builds_before b parse (inl reached) = take reached.place made_builds
  builds_before b parse (inr shader) = made_builds

  -- a parse of a reached module or of the shader
  pub record ParseOf : Type 0 where
    pub b : BuiltModule
    pub parse : ModuleValue
    pub is : IsBuilt b parse

  -- the preprocessed text that a parse comes from
  abbrev pub text_of : (b : BuiltModule) (parse : ModuleValue) → IsBuilt b parse → List ℕ
  text_of b parse (inl reached) = reached.is.output.text
  text_of b parse (inr shader) = shader.is.output.text

  -- the header before the source in the parsed text: it declares what the source imports
  abbrev pub header_of : ParseOf → ModuleValue
  header_of of = link_header (builds_before of.b of.parse of.is) of.b.imports

  -- g copies a function of a parse, with its calls redirected, and has its span, which counts over all texts. It is none that the
  -- header declares: the body of such a function is in another parse. Each special type of the parse has one with its key in made.
  pub record FunctionComes (shader : BuiltModule) (made : ModuleValue) (g : FunctionValue × Span) : Type 0 where
    pub of : ParseOf
    pub special : HasKeysOf (owned_parse of.b of.parse) made
    pub place : ℕ
    pub function : FunctionValue × Span
    pub at : slice_get (owned_parse of.b of.parse).functions place ≡ Some function
    pub undeclared : HasNamed (header_of of) function.0.name → ⊥
    pub copies : CopiesParsed of.b of.parse (call_goes shader.overriding function.0.name) made function.0 g.0
    pub span : g.1 ≡ shifted (of.b.index * span_stride) function.1

  -- the item at q of made reads as an item of a parse
  pub record ItemComes (made : ModuleValue) (q : ItemPlace) : Type 0 where
    pub of : ParseOf
    pub reads : World
    pub decorated : DecoratesTypes (owned_parse of.b of.parse) (own_places of.parse) of.b.decoration reads
    pub place : ItemPlace
    pub stands : HasAt (owned_parse of.b of.parse) place
    pub alike : ReadAlike (scope_alike reads (owned_parse of.b of.parse) made) (scope_of made) place q

  -- Each function, item and entry point of a made module is a copy of one that was parsed of a reached module or of the shader; the
  -- entry points are as many as the shader's, in their order. Each special type of the shader's parse has one with its key in made,
  -- and what a special key of made names is there.
  pub record IsFaithful (made : ModuleValue) : Type 0 where
    pub shader : BuiltModule
    pub parse : ModuleValue
    pub is : IsBuiltShader shader parse
    pub special : HasKeysOf (owned_parse shader parse) made
    pub special_there : (key : SpecialKey) (q : ℕ) → special_at made.special_types key ≡ Some q → HasAt made (TypeItem q)
    pub functions : (k : ℕ) (g : FunctionValue × Span) → slice_get made.functions k ≡ Some g → FunctionComes shader made g
    pub items : (q : ItemPlace) (r : Row) → world made q ≡ Some r → ItemComes made q
    pub entry_points : (i : ℕ) (y : EntryValue) → slice_get made.entry_points i ≡ Some y → EntryComes shader parse (stage_in m.shader_type) made i y
    pub as_many : length made.entry_points ≡ length (owned_parse shader parse).entry_points

-- LAW: each module that a make answers is faithful
abbrev pub FaithfulLaw : Type 0
FaithfulLaw = (s : Settings) (ds : List Registered) (counter : ℕ) (m : ShaderSource) (made : ModuleValue) →
    (answer s ds counter m).result ≡ Ok made → IsFaithful s ds counter m made
