use Rattle.std.proofs.Common.{sym, ◌∙◌, string_bytes}
use Rattle.naga_oil_conditions.specs.View.{fault_of}
use Rattle.yettuvam_faults.proofs.ReportLemmas.{not_extracted}
use Rattle.yettuvam_faults.proofs.reports.without_directives.Goals as goal

pub returns-in-Err-2 : goal.returns-in-Err-2
returns-in-Err-2 c = not_extracted (string_bytes c.args.text) c.as_str.result.now (fault_of c.in-Err.inner) c.as_str.ensures.value (sym c.is_memory.ensures ∙ c.if-is_memory.false) c.in-Err.ensures
