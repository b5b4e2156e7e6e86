use Rattle.std.proofs.Common.{◌≡◌, sym, ◌∙◌, subst, string_bytes}
use Rattle.std.specs.Prelude.{IfOk}
use Rattle.naga_oil_conditions.specs.View.{fault_of}
use Rattle.yettuvam_faults.proofs.ReportLemmas.{not_read}
use Rattle.yettuvam_faults.proofs.reports.cleaned_source.Goals as goal

pub returns-in-Err-2 : goal.returns-in-Err-2
returns-in-Err-2 c =
    let kept = not_read c.args.counter c.args.source.now (fault_of c.in-Err.inner) (sym c.is_memory.ensures ∙ c.if-is_memory.false) c.in-Err.ensures in
    subst (λ text. IfOk c.from_str.result (λ t. string_bytes t ≡ text)) kept c.from_str.ensures.ok
