-- The code's directives, seen as those of `DirectiveLines`.
use Rattle.std.specs.Prelude.{codes, map, string_bytes}
use Rattle.naga_oil_pre.specs.declared.directives.Directive as code
use Rattle.naga_oil_pre.specs.declared.directives.Directive.TheVariants as d
use Rattle.naga_oil_pre.specs.DirectiveLines.{Directive, enabling, requiring, treating, wrong, passing, ending, unknown_severity}

abbrev pub line_directive_of : code.Directive → Directive
line_directive_of (d.Enable names) = enabling (map string_bytes names.items)
line_directive_of (d.Requires names) = requiring (map string_bytes names.items)
line_directive_of (d.Diagnostic severity rule) = treating severity.now rule.now
line_directive_of d.NoExtensions = wrong (codes "No extensions specified")
line_directive_of (d.UnknownSeverity severity) = wrong (unknown_severity severity.now)
line_directive_of d.Passing = passing
line_directive_of d.Ending = ending
