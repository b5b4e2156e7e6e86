use Rattle.std.proofs.Common.{◌≡◌, take, drop, ap, ◌∙◌}
use Rattle.std.specs.List.{prefix_len}
use Rattle.naga_oil_lines.proofs.WordLemmas.{run_ends}
use Rattle.naga_oil_mini_symbols.specs.Symbols.{is_name_char}
use Rattle.naga_oil_mini_symbols.proofs.SymbolLemmas.{name_char-ascii, run_stands}
use Rattle.naga_oil_mini_symbols.proofs.symbol.split_run.Goals as goal

pub split_at-requires : goal.split_at-requires
split_at-requires c = rw (c.run_len.ensures, c.as_bytes.ensures.value) (run_ends is_name_char name_char-ascii c.args.text.now c.utf8.text)

pub returns : goal.returns
returns c =
    let text = c.args.text.now in
    let len : c.run_len.result ≡ prefix_len is_name_char text = c.run_len.ensures ∙ ap (prefix_len is_name_char) c.as_bytes.ensures.value in
    run_stands text c.split_at.result.0.now c.split_at.result.1.now (c.split_at.ensures.front ∙ ap (λ n. take n text) len) (c.split_at.ensures.back ∙ ap (λ n. drop n text) len)
