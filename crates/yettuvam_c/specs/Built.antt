-- The result of building a shader.
use Rattle.std.specs.Prelude.{◌≡◌, ℕ, List, [], ◌∷◌, map, Result, Ok, Err, IsOk, ⊤, ◌⊎◌}
use Rattle.std.specs.Str.{IsUtf8}
use Rattle.naga_oil_pre.specs.Metadata.{none_defined}
use Rattle.naga_oil_registry.specs.Registered.{Defs}
use Rattle.yettuvam_build.specs.Built.{built_text}
use Rattle.yettuvam_build.specs.Files.{File}
use Rattle.yettuvam_build.specs.Words.{Request}
use Rattle.yettuvam_wgsl.specs.Front.{wgsl}
use Rattle.yettuvam_c.specs.Answer.{Reply}
use Rattle.yettuvam_c.specs.Given.{HasOther, IsNotText, defined_by, listed}
use Rattle.yettuvam_c.specs.Kinds.{text_kind, whole_fault_kind}
use Rattle.yettuvam_c.specs.Laid.{laid, plain}
use Rattle.yettuvam_c.specs.declared.given.Refusal.{Refusal}
use Rattle.yettuvam_c.specs.declared.given.Refusal.TheVariants.{Memory, NotUtf8, BadDefinition}
use Rattle.yettuvam_c.specs.declared.page.Name.{Name}
use Rattle.yettuvam_c.specs.declared.page.Source.{Source}
use Rattle.yettuvam_c.specs.declared.page.Task.{Task}

-- ---- what is given

-- a source as a file
abbrev pub source_file : Source → File
source_file s = record { path = s.path.now; text = s.text.now }

abbrev pub name_text : Name → List ℕ
name_text n = n.text.now

-- the imports and the setting of a task
abbrev pub request_of : Task → Request
request_of t = record { files = []; definitions = []; imports = map name_text t.imports.now; override_any = t.override_any }

-- ---- the reply

-- a result of one part
abbrev pub lone_reply : (status kind : ℕ) → (text : List ℕ) → Reply
lone_reply status kind text = (status, laid (plain kind text 0 ∷ []))

-- a text, or the report of an error
abbrev pub text_reply : Result (List ℕ) (List ℕ) → Reply
text_reply (Ok text) = lone_reply 0 text_kind text
text_reply (Err report) = lone_reply 1 whole_fault_kind report

-- the text of the shader that is built over modules as WGSL, or the report of an error
abbrev pub build_reply : Request → Defs → (shader : File) → (modules : List File) → Reply
build_reply r defs shader modules = text_reply (built_text wgsl r defs shader modules)

-- the result of a task
abbrev pub task_reply : Task → Reply
task_reply t = build_reply (request_of t) (listed [] t.definitions.now) (source_file t.shader) (map source_file t.modules.now)

-- each definition has a value, and this is the result
abbrev pub IsBuilt : Task → Reply → Type 0
IsBuilt t reply = IsOk (defined_by 0 none_defined t.definitions.now) × (reply ≡ task_reply t)

-- ---- what is refused

-- one of the sources isn't UTF-8
abbrev pub HasNoText : List Source → Type 0
HasNoText [] = ⊥
HasNoText (s ∷ more) = IsNotText s ⊎ HasNoText more

abbrev pub IsNoName : Name → Type 0
IsNoName n = IsUtf8 n.text.now → ⊥

-- one of the names isn't UTF-8
abbrev pub HasNoName : List Name → Type 0
HasNoName [] = ⊥
HasNoName (n ∷ more) = IsNoName n ⊎ HasNoName more

-- the errors of sources
abbrev pub RefusesSources : List Source → Refusal → Type 0
RefusesSources sources Memory = ⊤
RefusesSources sources NotUtf8 = HasNoText sources
RefusesSources sources (BadDefinition index) = ⊥

abbrev pub RefusesName : Name → Refusal → Type 0
RefusesName n Memory = ⊥
RefusesName n NotUtf8 = IsNoName n
RefusesName n (BadDefinition index) = ⊥

-- the errors of names
abbrev pub RefusesNames : List Name → Refusal → Type 0
RefusesNames names Memory = ⊤
RefusesNames names NotUtf8 = HasNoName names
RefusesNames names (BadDefinition index) = ⊥

-- one of the texts of a task isn't UTF-8
abbrev pub HasNotText : Task → Type 0
HasNotText t = HasOther t.definitions.now ⊎ (IsNotText t.shader ⊎ (HasNoText t.modules.now ⊎ HasNoName t.imports.now))

-- the errors of a task
abbrev pub RefusesTask : Task → Refusal → Type 0
RefusesTask t Memory = ⊤
RefusesTask t NotUtf8 = HasNotText t
RefusesTask t (BadDefinition index) = defined_by 0 none_defined t.definitions.now ≡ Err index
