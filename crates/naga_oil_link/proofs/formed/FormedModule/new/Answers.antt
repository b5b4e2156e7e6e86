use Rattle.std.proofs.Common.{sym, subst}
use Rattle.naga_oil_ir.specs.ModuleValue.{module_value}
use Rattle.naga_oil_ir.specs.declared.module.Module.{Module}
use Rattle.naga_oil_form_laws.specs.EntryForm.{IsModuleFormed}
use Rattle.naga_oil_link.proofs.formed.FormedModule.new.Goals as goal

pub invariant_of-result : goal.invariant_of-result
invariant_of-result c = subst (λ (m : Module). IsModuleFormed (module_value m)) (sym c.trimmed-module_.ensures) c.requires
