use Rattle.std.proofs.Common.{◌≡◌, ◌++◌, drop, option_map, string_bytes}
use Rattle.naga_oil_ir.specs.ModuleValue.{module_value}
use Rattle.naga_oil_palette.specs.Writer.{constant_rows, lines_of, text_of}
use Rattle.naga_oil_palette.proofs.writer.text_of.Given as goal

abbrev pub invariant-loop-constant : goal.invariant-loop-constant
invariant-loop-constant l = option_map (λ more. string_bytes l.text ++ more) (lines_of (module_value l.of) (constant_rows (drop l.constant-index l.constant-items))) ≡ text_of (module_value l.of)
