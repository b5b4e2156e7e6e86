-- Spans: ranges of bytes of a text.
use Rattle.std.specs.Prelude.{ℕ, Option, Some, None, ◌==◌, ◌&&◌, if◌then◌else◌}
use Rattle.std.specs.declared.ops.Range.{Range}
use Rattle.naga_oil_ir.specs.declared.span.Span.{Span}

-- the span of an item without a place in a text
abbrev pub undefined : Span
undefined = record { start = 0; end = 0 }

-- the first byte and the byte after the last, if they are known
abbrev pub bounds_of : Span → Option (Range ℕ)
bounds_of s = if (s.start == 0) && (s.end == 0) then None else Some record { start = s.start; end = s.end }

-- the distance between the spans of one module and those of the next, 2 ^ SPAN_SHIFT
abbrev pub span_stride : ℕ
span_stride = 2097152

-- how many modules have spans that fit into 32 bits
abbrev pub max_modules : ℕ
max_modules = 2047

-- the greatest place that a span holds, `u32::MAX`
abbrev pub u32_max : ℕ
u32_max = 4294967295
