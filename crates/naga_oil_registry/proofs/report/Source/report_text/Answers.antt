use Rattle.std.proofs.Common.{◌≡◌, ◌++◌, ◌∷◌, [], string_bytes, ap, ◌∙◌, rules}
use Rattle.std.specs.List.{flat_map}
use Rattle.std.specs.Prelude.{codes}
use Rattle.naga_oil_conditions.specs.View.{fault_of}
use Rattle.naga_oil_registry.specs.Report.{message, fault_places, fault_notes, note_line, place_lines, report_text}
use Rattle.naga_oil_registry.specs.ReportView.{report_places}
use Rattle.naga_oil_registry.specs.Sanitized.{end_line}
use Rattle.naga_oil_registry.proofs.report.Source.report_text.Goals as goal

pub returns : goal.returns
unfolding report_text
returns c =
    let f = fault_of c.args.inner.now in
    let path = c.args.self.path.now in
    let text = c.args.self.text.now in
    let offset = c.args.self.offset in
    let said : string_bytes c.push_message.new.out ≡ message f = c.in_ok-push_message.ensures ∙ ap (λ t. t ++ message f) c.new-message.ensures.bytes in
    let pushed : string_bytes c.push.new.self ≡ string_bytes c.push_str.new.self ++ 10 ∷ [] = search rules in
    let first : string_bytes c.push.new.self ≡ end_line (codes "error: " ++ message f) =
    pushed ∙ ap (λ t. t ++ 10 ∷ []) (c.in_ok-push_str.ensures.bytes ∙ ap (λ t. t ++ c.as_str.result.now) c.in_ok-out.ensures.ok ∙ ap (λ t. codes "error: " ++ t) (c.as_str.ensures.value ∙ said)) in
    let places : place_lines path text offset c.as_str-2.result.now (report_places c.fault_places.result) ≡ place_lines path text offset (message f) (fault_places f) =
    ap (λ t. place_lines path text offset t (report_places c.fault_places.result)) (c.as_str-2.ensures.value ∙ said) ∙ ap (place_lines path text offset (message f)) c.fault_places.ensures in
    c.in_ok-push_notes.ensures
    ∙ ap (λ t. t ++ flat_map note_line (fault_notes f))
    (c.in_ok-push_places.ensures ∙ ap (λ t. t ++ place_lines path text offset c.as_str-2.result.now (report_places c.fault_places.result)) first ∙ ap (λ t. end_line (codes "error: " ++ message f) ++ t) places)
