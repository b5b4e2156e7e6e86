-- Worked rows: nodes that find their operands and nodes that don't, and runs that end and one that doesn't.
use Rattle.std.specs.Prelude.{◌≡◌, true, false, List, [], ◌∷◌, Some, None, Ok, Err, refl}
use Rattle.yettuvam_wgsl_machine.specs.declared.refusal.Reason.TheVariants as reason
use Rattle.yettuvam_wgsl_machine.specs.declared.symbol.Form.{Form}
use Rattle.yettuvam_wgsl_machine.specs.declared.symbol.Form.TheVariants as form
use Rattle.yettuvam_wgsl_machine.specs.Machine.{Node}
use Rattle.yettuvam_wgsl_table_laws.specs.Balance.{AreBalanced}
use Rattle.yettuvam_wgsl_table_laws.specs.Numbers.{value_effects}
use Rattle.yettuvam_wgsl_table_laws.specs.Run.{HasEnd, GivesBalanced}

abbrev node : Form → Node
node f = record { form = f; span = record { start = 0; end = 0 }; text = [] }

-- a value that a constant assertion takes, as in `const_assert 1;`
abbrev assertion : List Node
assertion = node form.One ∷ node form.ConstAssert ∷ []

assertion_balances : AreBalanced value_effects assertion
assertion_balances = refl

-- without its value
bare_is_refused : AreBalanced value_effects (node form.ConstAssert ∷ []) → ⊥
bare_is_refused e = let n : None ≡ Some 0 = e in absurd cc

-- a value that nothing takes
left_is_refused : AreBalanced value_effects (node form.One ∷ []) → ⊥
left_is_refused e = let n : Some 1 ≡ Some 0 = e in absurd cc

run_of_left_is_refused : GivesBalanced value_effects (Ok (node form.One ∷ [])) → ⊥
run_of_left_is_refused e = left_is_refused e

fault_balances : GivesBalanced value_effects (Err (record { reason = reason.Endless; span = record { start = 0; end = 0 } }))
fault_balances = tt

endless_is_refused : HasEnd (Err (record { reason = reason.Endless; span = record { start = 0; end = 0 } })) → ⊥
endless_is_refused e = let f : true ≡ false = e in absurd cc

ended : HasEnd (Ok assertion)
ended = tt
