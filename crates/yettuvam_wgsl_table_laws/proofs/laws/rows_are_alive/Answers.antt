use Rattle.std.proofs.Common.{refl}
use Rattle.yettuvam_wgsl_grammar.specs.Module.{item_rows, statement_rows, expression_rows}
use Rattle.yettuvam_wgsl_table_laws.specs.Rows.{no_row_is_dead}
use Rattle.yettuvam_wgsl_table_laws.proofs.laws.rows_are_alive.Goals as goal

pub returns : goal.returns
unfolding item_rows statement_rows expression_rows no_row_is_dead
returns c = refl
