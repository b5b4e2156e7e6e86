use Rattle.std.proofs.Common.{◌≡◌, true, refl, length}
use Rattle.yettuvam_wgsl_grammar.specs.declared.module_.TheConstants.{MODULE}
use Rattle.yettuvam_wgsl_grammar.specs.Module.{grammar, parse, rows, item_rows, statement_rows, expression_rows, turns}
use Rattle.yettuvam_wgsl_table_laws.specs.Balance.{rows_balance}
use Rattle.yettuvam_wgsl_table_laws.specs.Numbers.{value_effects, list_effects, block_effects, finished_effects}
use Rattle.yettuvam_wgsl_table_laws.proofs.Balanced.{run_is_balanced}
use Rattle.yettuvam_wgsl_table_laws.proofs.laws.nodes_are_balanced.Goals as goal

values_balance : rows_balance value_effects rows ≡ true
unfolding item_rows statement_rows expression_rows rows_balance
values_balance = refl

lists_balance : rows_balance list_effects rows ≡ true
unfolding item_rows statement_rows expression_rows rows_balance
lists_balance = refl

blocks_balance : rows_balance block_effects rows ≡ true
unfolding item_rows statement_rows expression_rows rows_balance
blocks_balance = refl

finished_balance : rows_balance finished_effects rows ≡ true
unfolding item_rows statement_rows expression_rows rows_balance
finished_balance = refl

pub returns-clause-values : goal.returns-clause-values
unfolding parse
returns-clause-values c = λ tokens. run_is_balanced value_effects grammar values_balance (turns (length tokens)) tokens MODULE refl

pub returns-clause-lists : goal.returns-clause-lists
unfolding parse
returns-clause-lists c = λ tokens. run_is_balanced list_effects grammar lists_balance (turns (length tokens)) tokens MODULE refl

pub returns-clause-blocks : goal.returns-clause-blocks
unfolding parse
returns-clause-blocks c = λ tokens. run_is_balanced block_effects grammar blocks_balance (turns (length tokens)) tokens MODULE refl

pub returns-clause-finished : goal.returns-clause-finished
unfolding parse
returns-clause-finished c = λ tokens. run_is_balanced finished_effects grammar finished_balance (turns (length tokens)) tokens MODULE refl
