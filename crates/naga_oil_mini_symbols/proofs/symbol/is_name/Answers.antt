use Rattle.std.proofs.Common.{◌≡◌, ap, ◌∙◌, false, eqb, length, get_or, arith}
use Rattle.std.proofs.lemmas.Bool.Decides.{nat_tests}
use Rattle.std.specs.Char.{is_ascii_digit}
use Rattle.std.specs.List.{prefix_len}
use Rattle.naga_oil_mini_symbols.specs.Symbols.{is_name_char}
use Rattle.naga_oil_mini_symbols.proofs.SymbolLemmas.{run_whole}
use Rattle.naga_oil_mini_symbols.proofs.symbol.is_name.Goals as goal
use Rattle.naga_oil_mini_symbols.proofs.symbol.is_name.Goals.{in_default-via-then-this-lt48, in_default-via-else-this-lt48+else-this-lt58}

pub returns-in_default : goal.returns-in_default
returns-in_default c =
    let some : eqb (length c.args.text.now) 0 ≡ false = grind (arith, nat_tests) in
    let digit : is_ascii_digit (get_or c.args.text.now 0 0) ≡ false = elim c.in_default.branch [
      | in_default-via-then-this-lt48 w ↦ grind (arith, nat_tests)
      | in_default-via-else-this-lt48+else-this-lt58 w ↦ grind (arith, nat_tests)
    ] in
    rw (some, digit) (ap (λ n. eqb n (length c.args.text.now)) (c.run_len.ensures ∙ ap (prefix_len is_name_char) c.as_bytes-in_default.ensures.value) ∙ run_whole c.args.text.now)
