use Rattle.std.proofs.Common.{sym, subst}
use Rattle.naga_oil_ir.specs.ModuleValue.{module_value}
use Rattle.naga_oil_form_laws.specs.EntryForm.{IsModuleFormed}
use Rattle.naga_oil.proofs.StageFormLemmas.{stages_formed}
use Rattle.naga_oil.proofs.compose.make.Maker.chained.Goals as goal

pub chain-requires : goal.chain-requires
chain-requires g c = subst IsModuleFormed (sym c.set_stages.ensures) (stages_formed c.args.shader_type (module_value c.in_ok-whole.whole) c.in_ok-whole.ensures.form)
