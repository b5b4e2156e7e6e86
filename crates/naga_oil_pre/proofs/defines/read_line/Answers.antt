use Rattle.std.proofs.Common.{◌≡◌, rules}
use Rattle.std.specs.BTreeMap.{get_by_text}
use Rattle.naga_oil_conditions.specs.Kind.{imports, unversioned_kind_of}
use Rattle.naga_oil_conditions.specs.KindView.{line_kind_of}
use Rattle.naga_oil_conditions.specs.SourceView.{line_of}
use Rattle.naga_oil_pre.specs.Metadata.{defining}
use Rattle.naga_oil_pre.proofs.DefinesLemmas.{line_read, line_refused, line_passes, import_refuses}
use Rattle.naga_oil_pre.proofs.LoopLemmas.{if_err}
use Rattle.naga_oil_pre.proofs.MetadataLemmas.{on_both}
use Rattle.naga_oil_pre.proofs.defines.read_line.Goals as goal

pub returns-in-Import-clause-ok : goal.returns-in-Import-clause-ok
returns-in-Import-clause-ok c =
    let defs = get_by_text c.args.defines.now in
    let line = line_of c.args.line.now in
    let kind : imports ≡ unversioned_kind_of line.covered = search rules in
    on_both c.skip_import.result _ _ _ (c.skip_import.ensures.ok (defining defs)) c.skip_import.ensures.left
    (λ parsed left. line_read c.args.allow_defines defs defs line imports c.args.source.now.left c.skip_import.new.source.left kind left parsed)

pub returns-in-Import-clause-err : goal.returns-in-Import-clause-err
returns-in-Import-clause-err c =
    let defs = get_by_text c.args.defines.now in
    let line = line_of c.args.line.now in
    let kind : imports ≡ unversioned_kind_of line.covered = search rules in
    if_err c.skip_import.result _ _ c.skip_import.ensures.err
    (λ e fails. line_refused e c.args.allow_defines defs line imports c.args.source.now.left kind (import_refuses e c.args.allow_defines defs line c.args.source.now.left (fails (defining defs))))

pub returns-in_default-clause-ok : goal.returns-in_default-clause-ok
returns-in_default-clause-ok c =
    let line = line_of c.args.line.now in
    let kind : line_kind_of c.unversioned_line_kind.result ≡ unversioned_kind_of line.covered = search rules in
    line_passes c.args.allow_defines (get_by_text c.args.defines.now) line c.unversioned_line_kind.result c.args.source.now.left kind c.in_default.not-Import c.in_default.not-Define
