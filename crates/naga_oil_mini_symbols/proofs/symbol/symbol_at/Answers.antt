use Rattle.std.proofs.Common.{◌≡◌, ◌<◌, ◌∙◌, length, Some, None, cond, arith, ap, sym}
use lib.Utf8 as utf8
use Rattle.std.proofs.lemmas.Bool.Decides.{nat_tests}
use Rattle.naga_oil_mini_symbols.specs.Symbols.{symbols_of, pieces, symbol_before, opening, opens, sign}
use Rattle.naga_oil_mini_symbols.specs.declared.symbol.Symbol.TheVariants.{Opens}
use Rattle.naga_oil_mini_symbols.proofs.SymbolLemmas.{symbols_after_run, symbols_after_opening, Begins-run, Begins-byte}
use Rattle.naga_oil_mini_symbols.proofs.symbol.symbol_at.Goals as goal

pub returns-in_default : goal.returns-in_default
returns-in_default c =
    let empty : length c.split_run.result.0.now ≡ 0 = grind (arith, nat_tests, c.if-is_empty.ensures) in
    let none : sign c.in_ok-first.first ≡ None = grind (arith, nat_tests) in
    Begins-byte c.args.text.now c.split_run.result.0.now c.split_run.result.1.now c.in_ok-first.more.now c.in_ok-first.first c.split_run.ensures empty c.requires.begins c.in_ok-first.ensures.bytes none c.requires.some

pub returns-in_err-word-in-None : goal.returns-in_err-word-in-None
unfolding utf8.encode
returns-in_err-word-in-None c =
    let some : 0 < length c.split_run.result.0.now = grind (arith, nat_tests, c.if-is_empty.ensures) in
    let none = Begins-run c.args.text.now c.split_run.result.0.now c.split_run.result.1.now c.spaces_skipped-following.result.now None c.split_run.ensures some c.spaces_skipped-following.ensures.pieces c.spaces_skipped-following.ensures.bound
    (symbols_after_run c.split_run.result.0.now c.spaces_skipped-following.result.now c.spaces_skipped-following.ensures.begins c.in-None.ensures.cases ∙ ap (λ s. symbol_before s (symbols_of (pieces c.spaces_skipped-following.result.now))) (sym c.in_err-word-in-None.ensures)) in
    rw c.from_residual-in_err-word-in-None.ensures none

pub returns-in_ok-word-in-None : goal.returns-in_ok-word-in-None
unfolding utf8.encode
returns-in_ok-word-in-None c =
    let some : 0 < length c.split_run.result.0.now = grind (arith, nat_tests, c.if-is_empty.ensures) in
    Begins-run c.args.text.now c.split_run.result.0.now c.split_run.result.1.now c.spaces_skipped-following.result.now (Some (c.in_ok-word-in-None.field-0, c.spaces_skipped-following.result)) c.split_run.ensures some c.spaces_skipped-following.ensures.pieces c.spaces_skipped-following.ensures.bound
    (symbols_after_run c.split_run.result.0.now c.spaces_skipped-following.result.now c.spaces_skipped-following.ensures.begins c.in-None.ensures.cases ∙ ap (λ s. symbol_before s (symbols_of (pieces c.spaces_skipped-following.result.now))) (sym c.in_ok-word-in-None.ensures), omega arith)

pub returns-in-Some : goal.returns-in-Some
returns-in-Some c =
    let some : 0 < length c.split_run.result.0.now = grind (arith, nat_tests, c.if-is_empty.ensures) in
    let h = c.in-Some.ensures.cases in
    let name : opening c.split_run.result.0.now ≡ Some (opens c.split_run.result.0.now) = ap (λ b. cond b (Some (opens c.split_run.result.0.now)) None) (sym c.is_name_run.ensures ∙ c.if-is_name_run.true) in
    Begins-run c.args.text.now c.split_run.result.0.now c.split_run.result.1.now c.spaces_skipped-following.result.now (Some (Opens c.split_run.result.0, c.in-Some.more)) c.split_run.ensures some c.spaces_skipped-following.ensures.pieces c.spaces_skipped-following.ensures.bound
    (symbols_after_opening c.split_run.result.0.now c.spaces_skipped-following.result.now c.in-Some.more.now h.0 h.1 h.2 ∙ ap (λ s. symbol_before s (symbols_of (pieces c.in-Some.more.now))) name, omega arith)

pub returns-in-Some-2 : goal.returns-in-Some-2
returns-in-Some-2 c =
    let some : 0 < length c.split_run.result.0.now = grind (arith, nat_tests, c.if-is_empty.ensures) in
    let h = c.in-Some-2.ensures.cases in
    let none : opening c.split_run.result.0.now ≡ None = ap (λ b. cond b (Some (opens c.split_run.result.0.now)) None) (sym c.is_name_run.ensures ∙ c.if-is_name_run.false) in
    Begins-run c.args.text.now c.split_run.result.0.now c.split_run.result.1.now c.spaces_skipped-following.result.now None c.split_run.ensures some c.spaces_skipped-following.ensures.pieces c.spaces_skipped-following.ensures.bound
    (symbols_after_opening c.split_run.result.0.now c.spaces_skipped-following.result.now c.in-Some-2.field-0.now h.0 h.1 h.2 ∙ ap (λ s. symbol_before s (symbols_of (pieces c.in-Some-2.field-0.now))) none)
