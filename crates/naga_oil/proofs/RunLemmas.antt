-- Law: what a make returns after any list of commands.
use Rattle.std.proofs.Common.{◌≡◌, ℕ, zero, suc, List, [], ◌∷◌, refl, subst, Result}
use Rattle.std.proofs.lemmas.Option.{none-some, same_Some}
use Rattle.naga_oil_ir.specs.Backend.{FrontEnd}
use Rattle.naga_oil_ir.specs.declared.module.Module.{Module}
use Rattle.naga_oil_registry.specs.Descriptor.{shader_source}
use Rattle.naga_oil_registry.specs.declared.descriptor.NagaModuleDescriptor.{NagaModuleDescriptor}
use Rattle.naga_oil.specs.Makes.{Makes}
use Rattle.naga_oil.specs.Run.{Step}
use Rattle.naga_oil.specs.RunLaw.{IsOneValue, EachMakeLaw}
use Rattle.naga_oil.specs.State.{State}
use Rattle.naga_oil.specs.declared.compose.command.Command.{Command}
use Rattle.naga_oil.specs.declared.compose.command.Command.TheVariants.{Make}
use Rattle.naga_oil.specs.declared.compose.command.Reply.{Reply}
use Rattle.naga_oil.specs.declared.compose.command.Reply.TheVariants.{Made}
use Rattle.naga_oil.specs.declared.compose.error.ComposerError.{ComposerError}

module _ {B : Type 0} (front : B → FrontEnd) where
  -- the first command is a make
  first : (begun mid : State B) (c : Command) (cs : List Command) (r : Reply) (rs : List Reply) (d : NagaModuleDescriptor) (result : Result Module ComposerError) → c ≡ Make d → r ≡ Made result → Step front begun c r mid → IsOneValue front begun (c ∷ cs) (r ∷ rs) zero (shader_source d) result
  first begun mid c cs r rs d result is replied h =
      let made : Makes front begun (shader_source d) result mid = subst (λ (x : Command). Step front begun x (Made result) mid) is (subst (λ (x : Reply). Step front begun c x mid) replied h) in
      record { before = begun; after = mid; ran = refl; value = made.reply; makes = made }

  -- a make after the first command
  later : (begun mid : State B) (c : Command) (cs : List Command) (r : Reply) (rs : List Reply) (place : ℕ) (d : NagaModuleDescriptor) (result : Result Module ComposerError) → Step front begun c r mid → IsOneValue front mid cs rs place (shader_source d) result → IsOneValue front begun (c ∷ cs) (r ∷ rs) (suc place) (shader_source d) result
  later begun mid c cs r rs place d result h v =
      record { before = v.before; after = v.after; ran = (mid, h, v.ran); value = v.value; makes = v.makes }

  pub each_make : EachMakeLaw front
  each_make begun [] rs ended run place d result at replied = absurd (none-some _ at)
  each_make begun (c ∷ cs) [] ended run place d result at replied = absurd run
  each_make begun (c ∷ cs) (r ∷ rs) ended run zero d result at replied =
      first begun run.0 c cs r rs d result (same_Some c (Make d) at) (same_Some r (Made result) replied) run.1
  each_make begun (c ∷ cs) (r ∷ rs) ended run (suc place) d result at replied =
      later begun run.0 c cs r rs place d result run.1 (each_make run.0 cs rs ended run.2 place d result at replied)
