use Rattle.std.proofs.Common.{◌≡◌, ◌++◌, string_bytes, take}
use Rattle.std.specs.List.{flat_map}
use Rattle.naga_oil_ir.specs.Backend.{labels}
use Rattle.naga_oil_registry.specs.Report.{line_column, span_place, place_line}
use Rattle.naga_oil_registry.proofs.report.Source.push_spans.Given as goal

abbrev pub invariant-loop-span : goal.invariant-loop-span
invariant-loop-span l =
    string_bytes l.out ≡ string_bytes l.fn.out ++ flat_map (λ s. place_line l.self.path.now (line_column l.self.text.now (span_place l.self.offset s.0)) s.1) (labels (take l.span-index l.spans))
