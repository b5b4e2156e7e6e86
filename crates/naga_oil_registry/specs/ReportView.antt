-- The places of an error, and the lines of a text, as the code has them.
use Rattle.std.specs.Prelude.{ℕ, ◌+◌, ◌==◌, if◌then◌else◌, List, [], ◌∷◌}
use Rattle.naga_oil_ir.specs.Backend.{labels}
use Rattle.naga_oil_registry.specs.declared.report.ErrorPlaces as code
use Rattle.naga_oil_registry.specs.declared.report.ErrorPlaces.TheVariants as c
use Rattle.naga_oil_registry.specs.Report.{ErrorPlaces, no_place, byte, line, item, spans}

-- the places of an error, as a report has them
abbrev pub report_places : code.ErrorPlaces → ErrorPlaces
report_places c.Nowhere = no_place
report_places (c.Byte place) = byte place
report_places (c.Line index) = line index
report_places (c.Item at) = item at
report_places (c.Spans said) = spans (labels said.now)

-- where the lines begin that follow line ends, in a text that begins at the place
abbrev pub starts_after : ℕ → List ℕ → List ℕ
starts_after at [] = []
starts_after at (b ∷ more) = if b == 10 then (at + 1) ∷ starts_after (at + 1) more else starts_after (at + 1) more

-- where the lines of a text begin
abbrev pub line_starts : List ℕ → List ℕ
line_starts text = 0 ∷ starts_after 0 text
