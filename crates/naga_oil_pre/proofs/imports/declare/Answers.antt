use Rattle.std.proofs.Common.{◌||◌, drop, map, string_bytes, ap, sym, ◌∙◌}
use Rattle.std.proofs.lemmas.List.{length-map}
use Rattle.naga_oil_imports.specs.Declarations.{declared_of}
use Rattle.naga_oil_imports.specs.Leaves.{import_leaves}
use Rattle.naga_oil_imports.specs.NameMarks.{has_mark, shares_slot, keys_of}
use Rattle.naga_oil_imports.proofs.NameMarkLemmas.{covers_import}
use Rattle.naga_oil_pre.proofs.LoopLemmas.{import_fits}
use Rattle.naga_oil_pre.proofs.imports.declare.Goals as goal

pub import_error-requires : goal.import_error-requires
import_error-requires c = import_fits c.args.import.now c.in-Err.fault c.args.offset c.utf8.import c.in-Err.ensures.fault c.requires.fits

pub returns-in-Ok-clause-marked : goal.returns-in-Ok-clause-marked
returns-in-Ok-clause-marked c =
    let old = declared_of c.args.declared.now in
    let new = declared_of c.parse_imports.new.declared_imports in
    covers_import c.args.names.now c.mark_from.new.self old new (import_leaves c.args.import.now) c.requires.marked c.in-Ok.ensures.ok
    (λ other. c.mark_from.ensures other ∙ ap (λ n. has_mark c.args.names.now other || shares_slot (drop n (keys_of new)) other) (c.len-count.ensures.len ∙ sym (length-map c.args.declared.now.entries (λ e. (string_bytes e.0, map string_bytes e.1.items)))))
