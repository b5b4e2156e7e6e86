use Rattle.std.proofs.Common.{rules}
use Rattle.std.specs.String.{string_bytes}
use Rattle.naga_oil_lines.proofs.DirectiveLemmas.{last_piece, empty_line_some}
use Rattle.naga_oil_lines.proofs.wgsl_directives.push_empty_line.Goals as goal

pub returns : goal.returns
returns c =
    last_piece c.push_str.result (string_bytes c.args.text.now) _ _ (string_bytes c.push_str.new.self) c.push_str.ensures.bytes (empty_line_some (string_bytes c.args.text.now) (search rules))
