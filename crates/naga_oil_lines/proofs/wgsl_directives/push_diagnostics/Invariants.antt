use Rattle.std.proofs.Common.{◌≡◌, ◌++◌, map, take}
use Rattle.std.specs.List.{flat_map}
use Rattle.std.specs.String.{string_bytes}
use Rattle.naga_oil_lines.specs.Directives.{diagnostic_of}
use Rattle.naga_oil_lines.specs.DirectivesText.{diagnostic_line}
use Rattle.naga_oil_lines.proofs.wgsl_directives.push_diagnostics.Given as goal

abbrev pub invariant-loop-diagnostic : goal.invariant-loop-diagnostic
invariant-loop-diagnostic l =
    string_bytes l.text ≡ string_bytes l.initial.text ++ flat_map diagnostic_line (map diagnostic_of (take l.diagnostic-index l.diagnostics))
