use Rattle.std.proofs.Common.{◌≡◌, ◌+◌, ◌≤◌, length, string_bytes}
use Rattle.std.specs.Str.Iter.{lines_rest}
use Rattle.std.specs.Str.Lines.{lines}
use Rattle.naga_oil_lines.specs.Directives.{directives_of}
use Rattle.naga_oil_pre.specs.Extracted.{taken_out, extracted}
use Rattle.naga_oil_pre.proofs.ExtractedLemmas.{following}
use Rattle.naga_oil_pre.proofs.preprocess.Preprocessor.extract_wgsl_directives.Given as goal

abbrev pub invariant-loop-line : goal.invariant-loop-line
invariant-loop-line l = record {
  becomes : following (string_bytes l.cleaned) (directives_of l.directives) l.index (taken_out l.index (lines (lines_rest l.lines))) ≡ extracted l.source;
  fits : l.index + length (lines_rest l.lines) ≤ length l.source;
}
