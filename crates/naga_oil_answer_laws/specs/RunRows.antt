-- Worked rows: an addition and a make, one after the other, and replies that aren't theirs.
use Rattle.std.proofs.Common.{◌≡◌, ℕ, List, [], ◌∷◌, length, Result, Ok, ap, sym, subst, ◌∙◌, refl}
use Rattle.naga_oil_ir.specs.Backend.{FrontEnd}
use Rattle.naga_oil_ir.specs.ModuleValue.{module_value}
use Rattle.naga_oil_ir.specs.declared.backend.Capabilities.{Capabilities}
use Rattle.naga_oil_ir.specs.declared.module.Module.{Module}
use Rattle.naga_oil_registry.specs.Descriptor.{ModuleSource, ShaderSource, module_source, shader_source}
use Rattle.naga_oil_registry.specs.Registered.{Registered}
use Rattle.naga_oil_registry.specs.declared.descriptor.ComposableModuleDescriptor.{ComposableModuleDescriptor}
use Rattle.naga_oil_registry.specs.declared.descriptor.NagaModuleDescriptor.{NagaModuleDescriptor}
use Rattle.naga_oil.specs.Addition.{addition}
use Rattle.naga_oil.specs.Makes.{Makes}
use Rattle.naga_oil.specs.Run.{Run, Step}
use Rattle.naga_oil.specs.RunLaw.{IsOneValue}
use Rattle.naga_oil.specs.State.{State, nothing_registered}
use Rattle.naga_oil.specs.declared.compose.command.Command.{Command}
use Rattle.naga_oil.specs.declared.compose.command.Command.TheVariants.{Add, Make}
use Rattle.naga_oil.specs.declared.compose.command.Reply.{Reply}
use Rattle.naga_oil.specs.declared.compose.command.Reply.TheVariants.{Added, Made}
use Rattle.naga_oil.specs.declared.compose.error.ComposerError.{ComposerError}
use Rattle.naga_oil_faithful_laws.specs.SmallMake.{registry, shader, made_with, right}
use Rattle.naga_oil_faithful_laws.specs.SmallMakeLaw.{without_body}
use Rattle.naga_oil_answer_laws.specs.AdditionRows.{added, AddsTo, first_addition, same_definition, counter_is, adds}
use Rattle.naga_oil_answer_laws.specs.MakesRows.{as_it_is, begun, ended, makes, another_module_is_refused}

module _ (c : Capabilities) where
  -- a new composer with the small make's front end
  abbrev empty : State FrontEnd
  empty = nothing_registered (begun c).settings

  -- ---- commands

  nothing_runs : Run as_it_is empty [] [] empty
  nothing_runs = refl

  -- without a command nothing changes
  change_is_refused : Run as_it_is empty [] [] (begun c) → ⊥
  change_is_refused h = let e : ◌≡◌ {A = ℕ} 1 0 = ap (λ (s : State FrontEnd). length s.registry) h in absurd cc

  -- there are as many replies as commands
  no_reply_is_refused : (k : Command) (new : State FrontEnd) → Run as_it_is empty (k ∷ []) [] new → ⊥
  no_reply_is_refused k new h = h

  another_reply_is_refused : (r : Reply) (new : State FrontEnd) → Run as_it_is empty [] (r ∷ []) new → ⊥
  another_reply_is_refused r new h = h

  -- a reply is of its command's kind
  another_kind_is_refused : (d : ComposableModuleDescriptor) (r : Result Module ComposerError) (new : State FrontEnd) → Step as_it_is empty (Add d) (Made r) new → ⊥
  another_kind_is_refused d r new h = h

  -- after the addition of `m` to nothing the composer is as the small make begins
  one_state : (mid : State FrontEnd) → AddsTo empty added (Ok 1) mid → mid ≡ begun c
  one_state mid h = h.rest ∙ (λ i. record empty { counter = (h.counter.exact ∙ counter_is) i; registry = one i; kept = h.kept.2 i })
    where
      one : mid.registry ≡ registry
      one = h.registry.2 ∙ ap (λ (d : Registered). d ∷ []) (sym (same_definition (addition [] 0 added) h.registry.0 first_addition h.registry.1))

  module _ (d : ComposableModuleDescriptor) (add_is : module_source d ≡ added) (e : NagaModuleDescriptor) (make_is : shader_source e ≡ shader) where
    abbrev commands : List Command
    commands = Add d ∷ Make e ∷ []

    add_step : Step as_it_is empty (Add d) (Added (Ok 1)) (begun c)
    add_step = subst (λ (m : ModuleSource). AddsTo empty m (Ok 1) (begun c)) (sym add_is) (adds (begun c).settings)

    module _ (m : Module) (is : module_value m ≡ made_with right) where
      make_step : Step as_it_is (begun c) (Make e) (Made (Ok m)) (ended c)
      make_step = subst (λ (s : ShaderSource). Makes as_it_is (begun c) s (Ok m) (ended c)) (sym make_is) (makes c m is)

      runs : Run as_it_is empty commands (Added (Ok 1) ∷ Made (Ok m) ∷ []) (ended c)
      runs = (begun c, add_step, (ended c, make_step, refl))

      -- the make returns one value
      one_value : IsOneValue as_it_is empty commands (Added (Ok 1) ∷ Made (Ok m) ∷ []) 1 shader (Ok m)
      one_value = record { before = begun c; after = ended c; ran = (begun c, add_step, refl); value = (makes c m is).reply; makes = makes c m is }

    -- a reply with another module
    wrong_reply_is_refused : (m : Module) (new : State FrontEnd) → module_value m ≡ made_with without_body → Run as_it_is empty commands (Added (Ok 1) ∷ Made (Ok m) ∷ []) new → ⊥
    wrong_reply_is_refused m new is h =
        let same = one_state h.0 (subst (λ (a : ModuleSource). AddsTo empty a (Ok 1) h.0) add_is h.1) in
        another_module_is_refused c m h.2.0 is (subst (λ (s : ShaderSource). Makes as_it_is (begun c) s (Ok m) h.2.0) make_is (subst (λ (s : State FrontEnd). Makes as_it_is s (shader_source e) (Ok m) h.2.0) same h.2.1))
