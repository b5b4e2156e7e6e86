-- The shader's build, and the module made of it.
use Rattle.std.proofs.Common.{◌≡◌, ℕ, true, false, Bool, if◌then◌else◌, List, Result, Ok, Err, refl, ap, sym, ◌∙◌}
use Rattle.naga_oil_ir.specs.Backend.{FaultValue}
use Rattle.naga_oil_ir.specs.ModuleValue.{ModuleValue}
use Rattle.naga_oil_conditions.specs.Fault.{Fault}
use Rattle.naga_oil_pre.specs.Metadata.{Metadata, metadata}
use Rattle.naga_oil_pre.specs.Preprocessed.{Output}
use Rattle.naga_oil_words.specs.ResultSteps.{◌>>=◌}
use Rattle.naga_oil_registry.specs.Added.{read_source}
use Rattle.naga_oil_registry.specs.Registered.{Registered, Defs}
use Rattle.naga_oil_registry.specs.Descriptor.{ShaderSource}
use Rattle.naga_oil_registry.specs.Merged.{overwritten}
use Rattle.naga_oil_registry.specs.declared.descriptor.ShaderType.{ShaderType}
use Rattle.naga_oil_link.specs.BuiltModule.{BuiltModule, Builds}
use Rattle.naga_oil_link.specs.Linked.{link_whole}
use Rattle.naga_oil_build.specs.Build.{Unbuilt, build}
use Rattle.naga_oil_build.specs.Built.{preprocessed_of}
use Rattle.naga_oil_build.specs.Held.{Settings}
use Rattle.naga_oil.specs.Chain.{chain, with_stages}
use Rattle.naga_oil.specs.Finish.{built_in_text, compose, finish}
use Rattle.naga_oil.specs.MakeDefs.{defs_merged, defs_of_text, defs_or_none, make_defs}
use Rattle.naga_oil.specs.Reach.{defined}
use Rattle.naga_oil.specs.Refused.{Refused, Place, in_text, placed}
use Rattle.naga_oil.specs.Shader.{shader_found, read_shader, defs_union_over}
use Rattle.naga_oil.specs.Validate.{judge, validate}

pub placed_back : {Y : Type 0} (place : Place) (r : Result Y Fault) (y : Y) → placed place r ≡ Ok y → r ≡ Ok y
placed_back place (Ok x) y e = cc
placed_back place (Err f) y e = absurd cc

text_back : (path text : List ℕ) (r : Result BuiltModule Unbuilt) (b : BuiltModule) → built_in_text path text r ≡ Ok b → r ≡ Ok b
text_back path text (Ok x) b e = cc
text_back path text (Err u) b e = absurd cc

judged : (bs : Builds) (defs : Defs) (place : Place) (m n : ModuleValue) (r : Result (Unit {0}) FaultValue) → judge bs defs place m r ≡ Ok n → m ≡ n
judged bs defs place m n (Ok done) e = cc
judged bs defs place m n (Err f) e = absurd cc

valid_back : (s : Settings) (bs : Builds) (defs : Defs) (place : Place) (m n : ModuleValue) → validate s bs defs place m ≡ Ok n → m ≡ n
valid_back s bs defs place m n e = one s.validate e
  where
    one : (b : Bool) → (let r : Result ModuleValue Refused = if b then judge bs defs place m (s.front.valid m s.capabilities) else Ok m in r) ≡ Ok n → m ≡ n
    one true q = judged bs defs place m n (s.front.valid m s.capabilities) q
    one false q = cc

-- ---- what is read of a shader

pub shader_index : (m : ShaderSource) (text : List ℕ) (d : Registered) → read_shader m text ≡ Ok d → d.index ≡ 0
unfolding read_shader
shader_index m text d e = one (metadata true text) e
  where
    one : (r : Result Metadata Fault) → (r >>= λ found. Ok (shader_found m found)) ≡ Ok d → d.index ≡ 0
    one (Ok found) q = let same : shader_found m found ≡ d = cc in ap (λ (x : Registered). x.index) (sym same)
    one (Err f) q = absurd cc

-- its definitions, merged with those of the modules that it imports
pub defs_back : (ds : List Registered) (d : Registered) (own : Defs) (out : Output) (defs : Defs) → preprocessed_of (defined own) d ≡ Ok out → defs_union_over ds own out.uses ≡ Ok defs → defs_merged ds d own ≡ Ok defs
defs_back ds d own out defs p u = ap (λ (r : Result Output Fault). r >>= λ out. defs_union_over ds own out.uses) p ∙ u

pub text_defs : (ds : List Registered) (m : ShaderSource) (text : List ℕ) (d : Registered) (defs : Defs) → read_shader m text ≡ Ok d → defs_merged ds d (overwritten m.defs d.defs) ≡ Ok defs → defs_of_text ds m text ≡ Ok defs
text_defs ds m text d defs e h = ap (λ (r : Result Registered Fault). r >>= λ d. defs_merged ds d (overwritten m.defs d.defs)) e ∙ h

pub made_defs : (ds : List Registered) (counter : ℕ) (m : ShaderSource) (read : List ℕ × ℕ) (defs : Defs) → read_source counter m.source ≡ Ok read → defs_of_text ds m read.0 ≡ Ok defs → defs ≡ make_defs ds counter m
unfolding make_defs
made_defs ds counter m read defs e h = sym (ap (λ (r : Result (List ℕ × ℕ) Fault). defs_or_none (r >>= λ read. defs_of_text ds m read.0)) e ∙ ap defs_or_none h)

-- ---- the module made of a shader

-- a module made of a shader's build over other builds
pub record Finished (s : Settings) (builds : Builds) (d : Registered) (out : Output) (shader_type : ShaderType) (made : ModuleValue) : Type 0 where
  pub shader : BuiltModule
  pub built : build s d out builds ≡ Ok shader
  pub chained : chain shader.overriding (with_stages shader_type (link_whole builds shader)) ≡ Ok made

composed : (s : Settings) (defs : Defs) (bs : Builds) (b : BuiltModule) (t : ShaderType) (place : Place) (made : ModuleValue) → compose s defs bs b t place ≡ Ok made → chain b.overriding (with_stages t (link_whole bs b)) ≡ Ok made
unfolding compose
composed s defs bs b t place made e = one (chain b.overriding (with_stages t (link_whole bs b))) refl e
  where
    one : (r : Result ModuleValue Fault) → chain b.overriding (with_stages t (link_whole bs b)) ≡ r → (placed place r >>= λ m. validate s bs defs place m) ≡ Ok made → chain b.overriding (with_stages t (link_whole bs b)) ≡ Ok made
    one (Ok m) at q = at ∙ ap (λ (x : ModuleValue). Ok x) (valid_back s bs defs place m made q)
    one (Err f) at q = absurd cc

pub finished : (s : Settings) (defs : Defs) (bs : Builds) (d : Registered) (out : Output) (t : ShaderType) (made : ModuleValue) → finish s defs bs d out t ≡ Ok made → Finished s bs d out t made
unfolding finish
finished s defs bs d out t made e = one (built_in_text d.file_path out.text (build s d out bs)) refl e
  where
    one : (r : Result BuiltModule Refused) → built_in_text d.file_path out.text (build s d out bs) ≡ r → (r >>= λ b. compose s defs bs b t (in_text d.file_path out.text b.offset)) ≡ Ok made → Finished s bs d out t made
    one (Ok b) at q = record { shader = b; built = text_back d.file_path out.text (build s d out bs) b at; chained = composed s defs bs b t (in_text d.file_path out.text b.offset) made q }
    one (Err f) at q = absurd cc
