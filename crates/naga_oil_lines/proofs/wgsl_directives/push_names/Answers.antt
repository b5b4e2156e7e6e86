use Rattle.std.proofs.Common.{◌++◌, codes, ap, ◌∙◌, sym, rules}
use Rattle.std.specs.String.{string_bytes}
use Rattle.naga_oil_lines.proofs.DirectiveLemmas.{last_piece, four_pieces, names_line_some}
use Rattle.naga_oil_lines.proofs.wgsl_directives.push_names.Goals as goal

pub returns : goal.returns
returns c =
    let line = names_line_some c.args.word.now c.args.names.keys (search rules) in
    last_piece c.push_str-4.result (string_bytes c.push_str-3.new.self) _ _ (string_bytes c.push_str-4.new.self) c.push_str-4.ensures.bytes
    (four_pieces (string_bytes c.args.text.now) c.args.word.now _ (string_bytes c.in_ok-names.names) _ _ _ _ c.in_ok-push_str.ensures.bytes c.in_ok-push_str-2.ensures.bytes
    (c.in_ok-push_str-3.ensures.bytes ∙ ap (λ l. string_bytes c.push_str-2.new.self ++ l) c.as_str.ensures.value)
    ∙ ap (λ t. string_bytes c.args.text.now ++ t) (ap (λ n. c.args.word.now ++ codes " " ++ n ++ codes ";\n") c.in_ok-names.ensures ∙ sym line))
