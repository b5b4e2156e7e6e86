-- What a make answers and changes.
use Rattle.std.specs.Prelude.{◌≡◌, ◌++◌, Result, IfOk}
use Rattle.naga_oil_ir.specs.Backend.{FrontEnd}
use Rattle.naga_oil_ir.specs.ModuleValue.{module_value}
use Rattle.naga_oil_ir.specs.declared.module.Module.{Module}
use Rattle.naga_oil_conditions.specs.View.{fault_of}
use Rattle.naga_oil_registry.specs.Descriptor.{ShaderSource}
use Rattle.naga_oil_registry.specs.Registered.{Defs}
use Rattle.naga_oil_build.specs.BuildView.{settings_with}
use Rattle.naga_oil_build.specs.Held.{Settings}
use Rattle.naga_oil.specs.AfreshLaw.{AllStandAfresh}
use Rattle.naga_oil.specs.Answer.{Answer, answer}
use Rattle.naga_oil.specs.ChainsLaw.{CallsGoDown}
use Rattle.naga_oil.specs.Faithful.{IsFaithful}
use Rattle.naga_oil.specs.MakeDefs.{make_defs}
use Rattle.naga_oil.specs.NewlyKeptLaw.{with_keys, not_in}
use Rattle.naga_oil.specs.Refused.{Answers, UnlessMemory, refused_of}
use Rattle.naga_oil.specs.State.{State, Counts}
use Rattle.naga_oil.specs.Store.{Kept, KeepsAll, count_kept}
use Rattle.naga_oil.specs.declared.compose.error.ComposerError.{ComposerError}

-- the settings of a composer
abbrev pub settings_of : {B : Type 0} → (front : B → FrontEnd) → State B → Settings
settings_of front c = settings_with front c.settings

-- the answer of a make by a composer, and the definitions that it builds under
abbrev pub answer_of : {B : Type 0} → (front : B → FrontEnd) → State B → ShaderSource → Answer
answer_of front c m = answer (settings_of front c) c.registry c.counter m

abbrev pub defs_for : {B : Type 0} → State B → ShaderSource → Defs
defs_for c m = make_defs c.registry c.counter m

-- the builds of an answer, under their keys, that aren't kept yet
abbrev pub newly_kept : {B : Type 0} → (front : B → FrontEnd) → State B → ShaderSource → Kept
newly_kept front c m = not_in c.kept (with_keys c.registry (defs_for c m) (answer_of front c m).builds)

-- A make replies its answer, and changes only the counter, by the automatic bindings that were read, and the kept builds. No kept build is
-- lost. Unless memory ran out, exactly those builds of its answer are newly kept that weren't kept yet, in order; and those newly kept are
-- counted. Each build of its answer stands as it is built afresh, so what is newly kept does.
-- The made module is faithful; no function overrides two; and however many override one, each call of it becomes a call of its
-- destination, if no preprocessed text of the make overrides a function that overrides another.
pub record Makes {B : Type 0} (front : B → FrontEnd) (old : State B) (m : ShaderSource) (result : Result Module ComposerError) (new : State B) : Type 0 where
  pub reply : Answers module_value result (answer_of front old m).result
  pub counter : Counts (λ e. fault_of e.inner) result (answer_of front old m).counter old.counter new.counter
  pub kept : UnlessMemory refused_of result (new.kept ≡ old.kept ++ newly_kept front old m)
  pub afresh : AllStandAfresh (settings_of front old) old.registry (defs_for old m) (answer_of front old m).builds
  pub more : KeepsAll old.kept new.kept
  pub builds : new.builds ≡ count_kept old.builds old.kept new.kept
  pub faithful : IfOk result (λ made. IsFaithful (settings_of front old) old.registry old.counter m (module_value made))
  pub chains : IfOk result (λ made. CallsGoDown (settings_of front old) old.registry old.counter m (module_value made))
  pub rest : new ≡ record old { counter = new.counter; kept = new.kept; builds = new.builds }
