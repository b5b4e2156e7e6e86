use Rattle.std.proofs.Common.{sym, ◌∙◌, string_bytes}
use Rattle.std.specs.BTreeMap.{get_by_text}
use Rattle.naga_oil_registry.specs.Report.{report}
use Rattle.naga_oil_conditions.specs.View.{fault_of}
use Rattle.naga_oil_mini.specs.Printed.{printed}
use Rattle.naga_oil_mini.proofs.ReportLemmas.{told}
use Rattle.naga_oil_mini.proofs.mini.pre.shown_file.Goals as goal

pub returns-in_ok-report-in-Err-2 : goal.returns-in_ok-report-in-Err-2
returns-in_ok-report-in-Err-2 c = record {
  ok = tt;
  err = told (fault_of c.in-Err.inner) (report c.args.file.now c.args.text.now 0) (printed (get_by_text c.args.definitions) c.args.text.now) (string_bytes c.in_ok-report-in-Err-2.field-0) (sym c.is_memory.ensures ∙ c.if-is_memory.false) c.in-Err.ensures c.in_ok-report-in-Err-2.ensures;
}
