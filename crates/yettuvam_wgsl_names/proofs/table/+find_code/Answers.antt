use Rattle.std.proofs.Common.{◌≡◌, ◌∙◌, sym, arith, length, take, drop, ◌-◌, nat_eq}
use Rattle.std.specs.Map.{lookup}
use Rattle.yettuvam_wgsl_names.proofs.TableLemmas.{code_goes_front, code_stays_here, code_goes_back}
use Rattle.yettuvam_wgsl_names.proofs.table.+find_code.Goals as goal

pub find_code-requires : goal.find_code-requires
find_code-requires g t c κs within =
    let at = code_goes_front c.args.table.now c.split_at.result.0.now c.split_at.result.1.now c.index-rest-0.result c.args.code c.split_at.ensures.by_index.0 c.in-len1-up.len_at_least c.requires (sym c.cmp.ensures ∙ c.in-Less.is) in
    (omega arith, assumption (at.0, within))

pub find_code-requires-in-Greater : goal.find_code-requires-in-Greater
find_code-requires-in-Greater g t c κs within =
    let at = code_goes_back c.args.table.now c.split_at.result.0.now c.split_at.result.1.now c.index-rest-0.result c.args.code c.split_at.ensures.by_index.0 c.in-len1-up.len_at_least c.requires (sym c.cmp.ensures ∙ c.in-Greater.is) in
    (omega arith, assumption (at.0, within))

pub returns-in-Less : goal.returns-in-Less
returns-in-Less g t c =
    let at = code_goes_front c.args.table.now c.split_at.result.0.now c.split_at.result.1.now c.index-rest-0.result c.args.code c.split_at.ensures.by_index.0 c.in-len1-up.len_at_least c.requires (sym c.cmp.ensures ∙ c.in-Less.is) in
    let found : c.find_code.result ≡ lookup (nat_eq c.args.code) c.split_at.result.0.now = c.find_code.ensures in
    found ∙ at.1

pub returns-in-Equal : goal.returns-in-Equal
returns-in-Equal g t c =
    code_stays_here c.args.table.now c.split_at.result.0.now c.split_at.result.1.now c.index-rest-0.result c.index-rest-0-2.result c.args.code c.split_at.ensures.by_index.0 c.in-len1-up.len_at_least c.requires (sym c.cmp.ensures ∙ c.in-Equal.is)

pub returns-in-Greater : goal.returns-in-Greater
returns-in-Greater g t c =
    let at = code_goes_back c.args.table.now c.split_at.result.0.now c.split_at.result.1.now c.index-rest-0.result c.args.code c.split_at.ensures.by_index.0 c.in-len1-up.len_at_least c.requires (sym c.cmp.ensures ∙ c.in-Greater.is) in
    let back = take (length c.split_at.result.1.now - 1) (drop 1 c.split_at.result.1.now) in
    let found : c.find_code-in-Greater.result ≡ lookup (nat_eq c.args.code) back = c.find_code-in-Greater.ensures in
    found ∙ at.1
