use Rattle.std.proofs.Common.{◌≡◌, length}
use Rattle.std.specs.BTreeMap.{get_by_text}
use Rattle.naga_oil_conditions.specs.Line.{source_lines}
use Rattle.naga_oil_pre.specs.Metadata.{none_defined, own_defines}
use Rattle.naga_oil_pre.proofs.defines.read_defines.Given as goal

abbrev pub invariant-loop-defines : goal.invariant-loop-defines
invariant-loop-defines l = own_defines l.allow_defines (get_by_text l.defines) l.source.left ≡ own_defines l.allow_defines none_defined (source_lines l.cleaned)

abbrev pub decreases-loop-defines : goal.decreases-loop-defines
decreases-loop-defines l = length l.source.left
