use Rattle.std.proofs.Common.{◌≡◌, length, string_bytes}
use Rattle.std.specs.BTreeMap.{get_by_text}
use Rattle.naga_oil_conditions.specs.Line.{source_lines, end_place}
use Rattle.naga_oil_pre.specs.Step.{scanned}
use Rattle.naga_oil_pre.specs.KnownView.{known_of, HasMarks}
use Rattle.naga_oil_pre.specs.Preprocessed.{prepend, written, preprocessed}
use Rattle.naga_oil_pre.proofs.preprocess.Preprocessor.preprocess.Given as goal

abbrev pub invariant-loop-imports : goal.invariant-loop-imports
invariant-loop-imports l = record {
  marked : HasMarks l.imports;
  end : end_place l.source.place l.source.left ≡ end_place 0 (source_lines l.shader_str);
  told : prepend (string_bytes l.out) (written (get_by_text l.shader_defs) (known_of l.imports) (scanned (get_by_text l.shader_defs) (end_place 0 (source_lines l.shader_str)) l.scope 0 l.source.left))
      ≡ preprocessed (get_by_text l.shader_defs) l.shader_str;
}

abbrev pub decreases-loop-imports : goal.decreases-loop-imports
decreases-loop-imports l = length l.source.left
