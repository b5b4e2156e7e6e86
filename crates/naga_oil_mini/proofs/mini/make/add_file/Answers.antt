use Rattle.std.proofs.Common.{refl}
use Rattle.naga_oil_mini.specs.MadeView.{file_of}
use Rattle.naga_oil_mini.proofs.MadeLemmas.{as_module, added, not_added}
use Rattle.naga_oil_mini.proofs.mini.make.add_file.Goals as goal

pub returns-in-Ok-clause-added : goal.returns-in-Ok-clause-added
returns-in-Ok-clause-added c =
    let is = as_module c.new-desc.result c.as_str-desc.result c.args.file.now.0 (file_of c.args.file.now) c.new-desc.ensures c.as_str-desc.ensures.value refl in
    added _ _ (file_of c.args.file.now) _ is _ c.in-Ok.ensures

pub returns-in-Err-clause-added : goal.returns-in-Err-clause-added
returns-in-Err-clause-added c =
    let is = as_module c.new-desc.result c.as_str-desc.result c.args.file.now.0 (file_of c.args.file.now) c.new-desc.ensures c.as_str-desc.ensures.value refl in
    not_added _ _ (file_of c.args.file.now) _ is _ c.in-Err.ensures _ c.told.ensures
