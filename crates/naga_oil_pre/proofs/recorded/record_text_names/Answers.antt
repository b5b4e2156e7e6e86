use Rattle.std.proofs.Common.{sym, ap, ◌∙◌}
use Rattle.std.proofs.lemmas.Slice.Eq.{bytes_eq-Decides}
use Rattle.naga_oil_conditions.specs.Replaced.{hash_names}
use Rattle.naga_oil_pre.proofs.RecordedLemmas.{gains_twice}
use Rattle.naga_oil_pre.proofs.recorded.record_text_names.Goals as goal

pub returns-then-eq : goal.returns-then-eq
returns-then-eq c =
    let same = sym c.as_str-covered.ensures.value ∙ (bytes_eq-Decides _ _).0 (sym c.if-eq.ensures) in
    gains_twice _ _ _ _ (ap hash_names same) c.in_ok-record_hash_names.ensures
