-- The directives at the start of a text.
use Rattle.std.specs.Prelude.{ℕ, List, [], map, string_bytes}
use Rattle.naga_oil_lines.specs.declared.wgsl_directives.EnableDirective.{EnableDirective}
use Rattle.naga_oil_lines.specs.declared.wgsl_directives.RequiresDirective.{RequiresDirective}
use Rattle.naga_oil_lines.specs.declared.wgsl_directives.DiagnosticDirective.{DiagnosticDirective}
use Rattle.naga_oil_lines.specs.declared.wgsl_directives.WgslDirectives.{WgslDirectives}

-- the extensions that a line names, and the line's number from 0
pub record Extensions : Type 0 where
  pub names : List (List ℕ)
  pub line : ℕ

-- the severity of a rule, and the line's number from 0
pub record Diagnostic : Type 0 where
  pub severity : List ℕ
  pub rule : List ℕ
  pub line : ℕ

-- directives, each kind in order
pub record Directives : Type 0 where
  pub enables : List Extensions
  pub requires : List Extensions
  pub diagnostics : List Diagnostic

abbrev pub no_directives : Directives
no_directives = record { enables = []; requires = []; diagnostics = [] }

-- the code's values as records
abbrev pub enable_of : EnableDirective → Extensions
enable_of d = record { names = map string_bytes d.extensions.items; line = d.source_location }

abbrev pub requires_of : RequiresDirective → Extensions
requires_of d = record { names = map string_bytes d.extensions.items; line = d.source_location }

abbrev pub diagnostic_of : DiagnosticDirective → Diagnostic
diagnostic_of d = record { severity = string_bytes d.severity; rule = string_bytes d.rule; line = d.source_location }

abbrev pub directives_of : WgslDirectives → Directives
directives_of d = record { enables = map enable_of d.enables.items; requires = map requires_of d.requires_.items; diagnostics = map diagnostic_of d.diagnostics.items }
