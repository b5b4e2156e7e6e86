use Rattle.std.proofs.Common.{sym}
use Rattle.std.specs.BTreeMap.{get_by_text}
use Rattle.naga_oil_pre.specs.KnownView.{output_of}
use Rattle.naga_oil_registry.specs.Registered.{definition_of, defs_of}
use Rattle.naga_oil_build.specs.Built.{preprocessed_of}
use Rattle.naga_oil.specs.Reach.{defined}
use Rattle.naga_oil.specs.Refused.{in_text, placed}
use Rattle.naga_oil.proofs.PlacedLemmas.{answers_placed, answers_same}
use Rattle.naga_oil.proofs.ReachLemmas.{defined_same}
use Rattle.naga_oil.proofs.compose.make.Maker.preprocess_shader.Goals as goal

pub returns : goal.returns
returns g c =
    let defs = c.args.self.now.defs in
    let d = definition_of c.args.shader.now in
    let text = c.args.text.now in
    let path = c.as_str.result.now in
    answers_same output_of c.in_text.result (placed (in_text path text 0) (preprocessed_of (get_by_text defs) d)) (placed (in_text d.file_path text 0) (preprocessed_of (defined (defs_of defs)) d))
    (λ i. placed (in_text (sym c.as_str.ensures.value i) text 0) (preprocessed_of (sym (defined_same defs) i) d))
    (answers_placed output_of (in_text path text 0) c.preprocessed-output.result c.in_text.result (preprocessed_of (get_by_text defs) d) c.in_text.ensures c.preprocessed-output.ensures)
