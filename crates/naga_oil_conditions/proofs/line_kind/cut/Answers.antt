use Rattle.std.proofs.Common.{◌≡◌, ◌≢◌, ◌++◌, length, rules}
use Rattle.std.specs.Char.{encode_utf8}
use Rattle.naga_oil_conditions.proofs.LineKindLemmas.{cut_empty, cut_boundary, cut_one, cut_more}
use Rattle.naga_oil_conditions.proofs.line_kind.cut.Goals as goal

pub returns-in_err-next_back : goal.returns-in_err-next_back
returns-in_err-next_back c =
    let none : length c.args.name.now ≡ 0 = search rules in
    rw c.from_residual.ensures (cut_empty c.args.name.now none)

pub split_at-requires : goal.split_at-requires
split_at-requires c =
    let e : c.args.name.now ≡ c.as_str.result.now ++ encode_utf8 c.in_ok-next_back.field-0 = search rules in
    cut_boundary c.args.name.now c.as_str.result.now _ c.utf8.name c.as_str.utf8 e

pub returns-then-is_empty : goal.returns-then-is_empty
returns-then-is_empty c =
    let e : c.args.name.now ≡ c.as_str.result.now ++ encode_utf8 c.in_ok-next_back.field-0 = search rules in
    let none : length c.as_str.result.now ≡ 0 = search rules in
    cut_one c.args.name.now c.as_str.result.now c.in_ok-next_back.field-0 c.utf8.name c.as_str.utf8 e none

pub returns-else-is_empty : goal.returns-else-is_empty
returns-else-is_empty c =
    let e : c.args.name.now ≡ c.as_str.result.now ++ encode_utf8 c.in_ok-next_back.field-0 = search rules in
    let some : length c.as_str.result.now ≢ 0 = search rules in
    rw (c.split_at.ensures.front, c.split_at.ensures.back) (cut_more c.args.name.now c.as_str.result.now c.in_ok-next_back.field-0 c.utf8.name c.as_str.utf8 e some)
