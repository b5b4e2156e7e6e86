use Rattle.std.proofs.Common.{◌++◌, ap, ◌∙◌}
use Rattle.std.specs.String.{string_bytes}
use Rattle.naga_oil_lines.proofs.DirectiveLemmas.{last_piece, five_pieces}
use Rattle.naga_oil_lines.proofs.wgsl_directives.DiagnosticDirective.push_line.Goals as goal

pub returns : goal.returns
returns c =
    last_piece c.push_str-5.result (string_bytes c.push_str-4.new.self) _ _ (string_bytes c.push_str-5.new.self) c.push_str-5.ensures.bytes
    (five_pieces (string_bytes c.args.text.now) _ (string_bytes c.args.self.now.severity) _ (string_bytes c.args.self.now.rule) _ _ _ _ _ c.in_ok-push_str.ensures.bytes
    (c.in_ok-push_str-2.ensures.bytes ∙ ap (λ l. string_bytes c.push_str.new.self ++ l) c.as_str.ensures.value)
    c.in_ok-push_str-3.ensures.bytes
    (c.in_ok-push_str-4.ensures.bytes ∙ ap (λ l. string_bytes c.push_str-3.new.self ++ l) c.as_str-2.ensures.value))
