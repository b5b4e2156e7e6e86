-- Law: what a make returns after any list of commands.
use Rattle.std.specs.Prelude.{◌≡◌, ℕ, List, take, slice_get, Some, Result}
use Rattle.naga_oil_ir.specs.Backend.{FrontEnd}
use Rattle.naga_oil_ir.specs.ModuleValue.{module_value}
use Rattle.naga_oil_ir.specs.declared.module.Module.{Module}
use Rattle.naga_oil_registry.specs.Descriptor.{ShaderSource, shader_source}
use Rattle.naga_oil_registry.specs.declared.descriptor.NagaModuleDescriptor.{NagaModuleDescriptor}
use Rattle.naga_oil.specs.Answer.{answer}
use Rattle.naga_oil.specs.Makes.{Makes, settings_of}
use Rattle.naga_oil.specs.Refused.{Answers}
use Rattle.naga_oil.specs.Run.{Run}
use Rattle.naga_oil.specs.State.{State}
use Rattle.naga_oil.specs.declared.compose.command.Command.{Command}
use Rattle.naga_oil.specs.declared.compose.command.Command.TheVariants.{Make}
use Rattle.naga_oil.specs.declared.compose.command.Reply.{Reply}
use Rattle.naga_oil.specs.declared.compose.command.Reply.TheVariants.{Made}
use Rattle.naga_oil.specs.declared.compose.error.ComposerError.{ComposerError}

-- A make at a place of a list of commands returns one value of the settings, the registered modules and the counter that the composer has
-- before it, and of its inputs; and it makes that shader.
pub record IsOneValue {B : Type 0} (front : B → FrontEnd) (begun : State B) (cs : List Command) (rs : List Reply) (place : ℕ) (m : ShaderSource) (result : Result Module ComposerError) : Type 0 where
  pub before : State B
  pub after : State B
  pub ran : Run front begun (take place cs) (take place rs) before
  pub value : Answers module_value result (answer (settings_of front before) before.registry before.counter m).result
  pub makes : Makes front before m result after

-- LAW: each make of any list of commands returns one value
abbrev pub EachMakeLaw : {B : Type 0} → (front : B → FrontEnd) → Type 0
EachMakeLaw {B} front = (begun : State B) (cs : List Command) (rs : List Reply) (ended : State B) → Run front begun cs rs ended →
    (place : ℕ) (d : NagaModuleDescriptor) (result : Result Module ComposerError) →
    slice_get cs place ≡ Some (Make d) → slice_get rs place ≡ Some (Made result) → IsOneValue front begun cs rs place (shader_source d) result
