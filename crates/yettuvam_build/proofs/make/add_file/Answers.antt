use Rattle.std.proofs.Common.{refl}
use Rattle.yettuvam_build.specs.Files.{file_of}
use Rattle.yettuvam_build.proofs.BuiltLemmas.{as_module, added, not_added}
use Rattle.yettuvam_build.proofs.make.add_file.Goals as goal

pub returns-in-Ok-clause-added : goal.returns-in-Ok-clause-added
returns-in-Ok-clause-added g c =
    let is = as_module c.new-desc.result c.as_str-desc.result c.args.file.now.0 (file_of c.args.file.now) c.new-desc.ensures c.as_str-desc.ensures.value refl in
    added _ _ (file_of c.args.file.now) _ is _ c.in-Ok.ensures

pub returns-in-Err-clause-added : goal.returns-in-Err-clause-added
returns-in-Err-clause-added g c =
    let is = as_module c.new-desc.result c.as_str-desc.result c.args.file.now.0 (file_of c.args.file.now) c.new-desc.ensures c.as_str-desc.ensures.value refl in
    not_added _ _ (file_of c.args.file.now) _ is _ c.in-Err.ensures _ _ c.binding_counter-counter.ensures c.told.ensures
