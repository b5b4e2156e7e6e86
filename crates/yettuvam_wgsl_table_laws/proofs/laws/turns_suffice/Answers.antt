use Rattle.std.proofs.Common.{ℕ, ◌≡◌, ◌≤◌, ◌<◌, ◌+◌, ◌*◌, ◌^◌, true, refl, length, arith}
use Rattle.yettuvam_wgsl_machine.specs.declared.machine.TheConstants.{MAX_POSTPONED}
use Rattle.yettuvam_wgsl_grammar.specs.declared.module_.TheConstants.{MODULE}
use Rattle.yettuvam_wgsl_grammar.specs.Module.{grammar, parse, rows, item_rows, statement_rows, expression_rows, turns}
use Rattle.yettuvam_wgsl_table_laws.specs.Turns.{rows_end, costs, payments}
use Rattle.yettuvam_wgsl_table_laws.specs.Numbers.{weights}
use Rattle.yettuvam_wgsl_table_laws.proofs.Ending.{run_has_end}
use Rattle.yettuvam_wgsl_table_laws.proofs.laws.turns_suffice.Goals as goal

all_end : rows_end weights rows ≡ true
unfolding item_rows statement_rows expression_rows rows_end
all_end = refl

enough : (count : ℕ) → count < 2 ^ 32 → weights.per_token * count + costs weights MODULE + weights.most_paid * MAX_POSTPONED + weights.most_paid + 1 ≤ turns count + payments weights MODULE
unfolding turns
enough count few = omega arith

small : payments weights MODULE ≤ weights.most_paid
small = omega arith

pub returns : goal.returns
unfolding parse
returns c = λ tokens few. run_has_end weights grammar all_end (turns (length tokens)) tokens MODULE small (enough (length tokens) few)
