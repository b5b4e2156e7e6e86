-- The texts of an error, as the code has them.
use Rattle.yettuvam_faults.specs.Marks as spec
use Rattle.yettuvam_faults.specs.declared.marks.Source.{Source}

abbrev pub source_view : Source → spec.Source
source_view s = record { path = s.path.now; file = s.file.now; cleaned = s.cleaned.now; parsed = s.parsed.now; offset = s.offset }
