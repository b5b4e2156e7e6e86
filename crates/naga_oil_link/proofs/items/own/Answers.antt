use Rattle.std.proofs.Common.{◌≡◌, sym, subst, rules, arith}
use Rattle.std.proofs.lemmas.Grind.{common_steps}
use Rattle.std.specs.String.{string_bytes}
use Rattle.naga_oil_ir.specs.ModuleValue.{module_value}
use Rattle.naga_oil_form_laws.specs.EntryForm.{IsModuleFormed}
use Rattle.naga_oil_link.specs.Owned.{owned_module}
use Rattle.naga_oil_link.proofs.OwnedFormLemmas.{owned_formed}
use Rattle.naga_oil_link.proofs.items.own.Goals as goal

pub returns-clause-form : goal.returns-clause-form
returns-clause-form c =
    let index = c.args.built.now.index in
    let decoration = string_bytes c.args.built.now.decorated_name in
    let items : module_value c.if-built-gt0.source ≡ owned_module index decoration (module_value c.args.source.now) = first_of (search rules, grind (arith, common_steps)) in
    λ n l w. subst IsModuleFormed (sym items) (owned_formed c.args.source.now index decoration n c.well_formed_modules_are_formed.ensures l w)
