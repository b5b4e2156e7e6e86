use Rattle.std.proofs.Common.{sym, ◌∙◌, string_bytes}
use Rattle.naga_oil_conditions.specs.View.{fault_of}
use Rattle.yettuvam_build.specs.Files.{file_of}
use Rattle.yettuvam_build.proofs.BuiltLemmas.{reported_file}
use Rattle.yettuvam_build.proofs.text.own_directives.Goals as goal

pub returns-in_ok-directive_report-in-Err-2 : goal.returns-in_ok-directive_report-in-Err-2
returns-in_ok-directive_report-in-Err-2 c = reported_file (file_of c.args.file.now) c.as_str-text.result.now (fault_of c.in-Err.inner) (string_bytes c.in_ok-directive_report-in-Err-2.field-0) c.as_str-text.ensures.value (sym c.is_memory.ensures ∙ c.if-is_memory.false) c.in-Err.ensures c.in_ok-directive_report-in-Err-2.ensures
