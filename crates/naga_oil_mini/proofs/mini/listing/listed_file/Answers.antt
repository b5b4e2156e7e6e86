use Rattle.std.proofs.Common.{true, sym, ◌∙◌, string_bytes}
use Rattle.naga_oil_registry.specs.Report.{report}
use Rattle.naga_oil_pre.specs.Metadata.{metadata}
use Rattle.naga_oil_conditions.specs.View.{fault_of}
use Rattle.naga_oil_mini.proofs.ReportLemmas.{told}
use Rattle.naga_oil_mini.proofs.mini.listing.listed_file.Goals as goal

pub returns-in_ok-report-in-Err-2 : goal.returns-in_ok-report-in-Err-2
returns-in_ok-report-in-Err-2 c = record {
  ok = tt;
  err = told (fault_of c.in-Err.inner) (report c.args.file.now c.args.text.now 0) (metadata true c.args.text.now) (string_bytes c.in_ok-report-in-Err-2.field-0) (sym c.is_memory.ensures ∙ c.if-is_memory.false) c.in-Err.ensures.err c.in_ok-report-in-Err-2.ensures;
}
