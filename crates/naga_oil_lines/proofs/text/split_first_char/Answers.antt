use Rattle.std.proofs.Common.{◌≡◌, ◌++◌, rules}
use Rattle.std.specs.Char.{encode_utf8}
use Rattle.naga_oil_lines.proofs.TextLemmas.{first_char}
use Rattle.naga_oil_lines.proofs.text.split_first_char.Goals as goal

pub returns : goal.returns
returns c =
    let e : c.args.text.now ≡ encode_utf8 c.in_ok-first.first ++ c.as_str.result.now = search rules in
    first_char _ _ _ c.utf8.text e
