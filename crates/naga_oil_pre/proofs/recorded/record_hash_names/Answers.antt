use Rattle.std.proofs.Common.{ap, sym, ◌∙◌}
use Rattle.std.specs.Str.{chars}
use Rattle.naga_oil_pre.specs.MetadataView.{has_with}
use Rattle.naga_oil_pre.specs.Recorded.{names_from}
use Rattle.naga_oil_conditions.specs.Replaced.{hash_names}
use Rattle.naga_oil_pre.proofs.RecordedLemmas.{names_to_hash, no_names, gains_all}
use Rattle.naga_oil_pre.proofs.recorded.record_hash_names.Goals as goal

pub loop-following-preserved : goal.loop-following-preserved
loop-following-preserved c = record {
  text = c.in_ok-rest.ensures.utf8;
  names = λ name. c.in_ok-rest.ensures.names name ∙ ap (λ ns. has_with c.loop-following.names ns name) (sym (names_to_hash _ _ _ c.in-Some.ensures)) ∙ c.loop-following.invariant.names name;
}

pub returns : goal.returns
unfolding names_from hash_names
returns c = gains_all _ _ (names_from (chars c.loop-following.rest.now)) (hash_names c.args.text.now) (no_names _ c.loop-following.invariant.text c.in_default.ensures) c.loop-following.invariant.names
