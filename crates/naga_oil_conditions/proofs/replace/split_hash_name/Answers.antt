use Rattle.std.specs.List.{prefix_len}
use Rattle.std.specs.Char.{is_whitespace}
use Rattle.std.specs.Str.{chars}
use Rattle.naga_oil_conditions.specs.Splits.{IsAfter}
use Rattle.naga_oil_conditions.proofs.ReplacedLemmas.{bare_name, no_braced_name, unclosed_name, braced_name}
use Rattle.naga_oil_conditions.proofs.replace.split_hash_name.Goals as goal

pub returns-in_default : goal.returns-in_default
returns-in_default c =
    let white : IsAfter (prefix_len is_whitespace (chars c.args.text.now)) c.args.text.now c.after_whitespace-start.result.now =
    record { left = c.after_whitespace-start.ensures.chars; suffix = c.after_whitespace-start.ensures.suffix; utf8 = c.after_whitespace-start.utf8 } in
    bare_name _ _ _ white c.in_default.ensures c.split_name.ensures

pub returns-in_err-name : goal.returns-in_err-name
returns-in_err-name c =
    let white : IsAfter (prefix_len is_whitespace (chars c.args.text.now)) c.args.text.now c.after_whitespace-start.result.now =
    record { left = c.after_whitespace-start.ensures.chars; suffix = c.after_whitespace-start.ensures.suffix; utf8 = c.after_whitespace-start.utf8 } in
    let none = no_braced_name _ _ _ white c.in-Some.ensures c.in_err-name.ensures in
    rw c.from_residual.ensures none

pub returns-in_err-rest : goal.returns-in_err-rest
returns-in_err-rest c =
    let white : IsAfter (prefix_len is_whitespace (chars c.args.text.now)) c.args.text.now c.after_whitespace-start.result.now =
    record { left = c.after_whitespace-start.ensures.chars; suffix = c.after_whitespace-start.ensures.suffix; utf8 = c.after_whitespace-start.utf8 } in
    let none = unclosed_name _ _ _ white c.in-Some.ensures _ _ c.in_ok-name.ensures c.in_err-rest.ensures in
    rw c.from_residual-in_err-rest.ensures none

pub returns : goal.returns
returns c =
    let white : IsAfter (prefix_len is_whitespace (chars c.args.text.now)) c.args.text.now c.after_whitespace-start.result.now =
    record { left = c.after_whitespace-start.ensures.chars; suffix = c.after_whitespace-start.ensures.suffix; utf8 = c.after_whitespace-start.utf8 } in
    braced_name _ _ _ white c.in-Some.ensures _ _ c.in_ok-name.ensures _ c.in_ok-rest.ensures
