use Rattle.std.proofs.Common.{refl}
use Rattle.yettuvam_wgsl_grammar.specs.Module.{places, item_rows, statement_rows, expression_rows}
use Rattle.yettuvam_wgsl_table_laws.specs.Rows.{is_in_order}
use Rattle.yettuvam_wgsl_table_laws.proofs.laws.rows_are_in_order.Goals as goal

pub returns : goal.returns
unfolding item_rows statement_rows expression_rows places is_in_order
returns c = refl
