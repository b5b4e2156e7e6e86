use Rattle.std.proofs.Common.{◌≡◌, ◌∙◌, sym, arith, length, take, drop, ◌-◌}
use Rattle.yettuvam_wgsl_names.specs.Table.{rows, meaning}
use Rattle.yettuvam_wgsl_names.proofs.TableLemmas.{name_goes_front, name_stays_here, name_goes_back}
use Rattle.yettuvam_wgsl_names.proofs.table.+find.Goals as goal

pub find-requires : goal.find-requires
find-requires g t c κs within =
    let at = name_goes_front c.args.table.now c.split_at.result.0.now c.split_at.result.1.now c.index-rest-0.result c.args.name.now c.split_at.ensures.by_index.0 c.in-len1-up.len_at_least c.requires.1.1.1 (sym c.cmp.ensures ∙ c.in-Less.is) in
    (omega arith, (within, at.0))

pub find-requires-in-Greater : goal.find-requires-in-Greater
find-requires-in-Greater g t c κs within =
    let at = name_goes_back c.args.table.now c.split_at.result.0.now c.split_at.result.1.now c.index-rest-0.result c.args.name.now c.split_at.ensures.by_index.0 c.in-len1-up.len_at_least c.requires.1.1.1 (sym c.cmp.ensures ∙ c.in-Greater.is) in
    (omega arith, (within, at.0))

pub returns-in-Less : goal.returns-in-Less
returns-in-Less g t c =
    let at = name_goes_front c.args.table.now c.split_at.result.0.now c.split_at.result.1.now c.index-rest-0.result c.args.name.now c.split_at.ensures.by_index.0 c.in-len1-up.len_at_least c.requires.1.1.1 (sym c.cmp.ensures ∙ c.in-Less.is) in
    let found : c.find.result ≡ meaning (rows c.split_at.result.0.now) c.args.name.now = c.find.ensures in
    found ∙ at.1

pub returns-in-Equal : goal.returns-in-Equal
returns-in-Equal g t c =
    name_stays_here c.args.table.now c.split_at.result.0.now c.split_at.result.1.now c.index-rest-0.result c.index-rest-0-2.result c.args.name.now c.split_at.ensures.by_index.0 c.in-len1-up.len_at_least c.requires.1.1.1 (sym c.cmp.ensures ∙ c.in-Equal.is)

pub returns-in-Greater : goal.returns-in-Greater
returns-in-Greater g t c =
    let at = name_goes_back c.args.table.now c.split_at.result.0.now c.split_at.result.1.now c.index-rest-0.result c.args.name.now c.split_at.ensures.by_index.0 c.in-len1-up.len_at_least c.requires.1.1.1 (sym c.cmp.ensures ∙ c.in-Greater.is) in
    let back = take (length c.split_at.result.1.now - 1) (drop 1 c.split_at.result.1.now) in
    let found : c.find-in-Greater.result ≡ meaning (rows back) c.args.name.now = c.find-in-Greater.ensures in
    found ∙ at.1
