use Rattle.std.proofs.Common.{◌++◌, map, ap, ◌∙◌}
use Rattle.std.specs.List.{flat_map}
use Rattle.std.specs.String.{string_bytes}
use Rattle.naga_oil_lines.specs.Directives.{directives_of, enable_of, requires_of, diagnostic_of}
use Rattle.naga_oil_words.specs.Texts.{in_order}
use Rattle.naga_oil_lines.specs.DirectivesText.{names_of, diagnostic_line}
use Rattle.naga_oil_lines.proofs.DirectiveLemmas.{text_written, empty_text}
use Rattle.naga_oil_lines.proofs.wgsl_directives.WgslDirectives.to_wgsl_string.Goals as goal

pub returns-clause-text : goal.returns-clause-text
returns-clause-text c =
    text_written (directives_of c.args.self.now) _ _ _ _ _ (string_bytes c.push_diagnostics.new.text) _ c.new-text.ensures.bytes
    (c.in_ok-enabled.ensures ∙ ap (λ ds. in_order (names_of (map enable_of ds))) c.as_slice.ensures.value)
    (c.in_ok-required.ensures ∙ ap (λ ds. in_order (names_of (map requires_of ds))) c.as_slice-2.ensures.value)
    c.in_ok-push_names.ensures c.in_ok-push_names-2.ensures
    (c.in_ok-push_diagnostics.ensures ∙ ap (λ ds. string_bytes c.push_names-2.new.text ++ flat_map diagnostic_line (map diagnostic_of ds)) c.as_slice-3.ensures.value)
    c.in_ok-push_empty_line.ensures

pub returns-clause-empty : goal.returns-clause-empty
returns-clause-empty c = empty_text (directives_of c.args.self.now) (string_bytes c.push_empty_line.new.text) (returns-clause-text c)
