-- Lines and their parts, as the code has them.
use Rattle.yettuvam_faults.specs.Lines as spec
use Rattle.yettuvam_faults.specs.declared.lines.Common.{Common}
use Rattle.yettuvam_faults.specs.declared.lines.Line.{Line}
use Rattle.yettuvam_faults.specs.declared.lines.Part.{Part}

abbrev pub line_view : Line → spec.Line
line_view l = record { start = l.start; text = l.text.now }

abbrev pub part_view : Part → spec.Part
part_view p = record { start = p.start; end = p.end }

abbrev pub common_view : Common → spec.Common
common_view c = record { front = c.front; back = c.back }
