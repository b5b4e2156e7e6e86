use Rattle.std.proofs.Common.{◌∙◌, ap, sym, subst}
use Rattle.naga_oil_derive.specs.World.{value_of}
use Rattle.naga_oil_form_laws.specs.EntryForm.{IsModuleFormed}
use Rattle.naga_oil_link.specs.BuiltModule.{built_of}
use Rattle.naga_oil_link.specs.CopiedBuild.{with_header}
use Rattle.naga_oil_link.specs.OwnPlaces.{own_of}
use Rattle.naga_oil_link.proofs.copied.put_header.Goals as goal

pub new-requires : goal.new-requires
unfolding value_of
new-requires c = subst IsModuleFormed (sym c.from.ensures) c.requires

pub returns : goal.returns
unfolding value_of
returns c = ap (with_header (built_of c.args.built.now) (own_of c.args.header.own)) (c.in_ok-built.ensures ∙ c.from.ensures)
