-- The place of an error, as the code has it.
use Rattle.yettuvam_faults.specs.Place as spec
use Rattle.yettuvam_faults.specs.declared.place.Place.{Place}
use Rattle.yettuvam_faults.specs.declared.place.Place.TheVariants as code

abbrev pub place_view : Place → spec.Place
place_view code.Nowhere = spec.nowhere
place_view (code.Bytes start end) = spec.bytes start end
place_view (code.LineIndex index) = spec.line_index index
place_view (code.LineAt at) = spec.line_at at
place_view (code.WordAt at) = spec.word_at at
place_view (code.Open end) = spec.left_open end
place_view (code.Named at) = spec.named at
place_view (code.Item at) = spec.item at
