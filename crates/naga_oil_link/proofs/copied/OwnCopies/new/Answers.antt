use Rattle.std.proofs.Common.{ap, ◌∙◌}
use Rattle.naga_oil_derive.specs.DerivedValue.{set_source}
use Rattle.naga_oil_derive.specs.World.{value_of}
use Rattle.naga_oil_form_laws.proofs.FormedModules.{copied_from}
use Rattle.naga_oil_link.proofs.SourceLemmas.{from_set_source}
use Rattle.naga_oil_link.proofs.copied.OwnCopies.new.Goals as goal

pub set_shader_source-requires : goal.set_shader_source-requires
unfolding value_of
set_shader_source-requires c = (copied_from _ c.requires).items

pub returns-clause-source : goal.returns-clause-source
returns-clause-source c = from_set_source _ 0 c.new-derived.result _ c.requires c.in_ok-set_shader_source.ensures.value

pub returns-clause-value : goal.returns-clause-value
unfolding value_of
returns-clause-value c = λ i. record {
  derived = (c.in_ok-set_shader_source.ensures.value ∙ ap (λ d. set_source d (value_of c.args.source.now) 0) c.new-derived.ensures) i;
  own = c.new-own.ensures i;
}
