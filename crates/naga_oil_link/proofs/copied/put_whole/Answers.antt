use Rattle.std.proofs.Common.{◌∙◌, length, ap, sym, subst}
use Rattle.naga_oil_derive.specs.World.{value_of, special_entries}
use Rattle.naga_oil_form_laws.specs.EntryForm.{IsModuleFormed}
use Rattle.naga_oil_link.specs.BuiltModule.{built_of}
use Rattle.naga_oil_link.specs.CopiedBuild.{with_value}
use Rattle.naga_oil_link.specs.OwnPlaces.{own_of}
use Rattle.naga_oil_link.proofs.CopiedLemmas.{special_is}
use Rattle.naga_oil_link.proofs.copied.put_whole.Goals as goal

pub new-requires : goal.new-requires
unfolding value_of
new-requires c = subst IsModuleFormed (sym c.in_ok-module_.ensures.value) c.requires.form

pub returns-clause-special : goal.returns-clause-special
returns-clause-special c = special_is _ (length (special_entries c.args.whole.derived.target.special_types)) c.has_required_special_types-has_special_types.ensures

pub returns-clause-value : goal.returns-clause-value
unfolding value_of
returns-clause-value c = ap (with_value (built_of c.args.built.now) (own_of c.args.whole.own)) (c.new.ensures ∙ c.in_ok-module_.ensures.value)
