use Rattle.std.proofs.Common.{◌≡◌, ◌++◌, ℕ, List, not, Option, None, IfSome, sym, subst, ap, ◌∙◌, rules}
use denote.Ref.{Bor}
use Rattle.std.specs.List.{prefix_len}
use Rattle.std.specs.Prelude.{codes}
use Rattle.std.specs.Str.{chars}
use Rattle.std.proofs.lemmas.Str.{chars-IsAscii}
use Rattle.naga_oil_lines.proofs.TextLemmas.{chars_before}
use Rattle.naga_oil_lines.proofs.TokenLemmas.{suffix_more}
use Rattle.naga_oil_registry.specs.Keywords.{is_name_char, after_spaces}
use Rattle.naga_oil_registry.proofs.KeywordsLemmas.{none_first, none_word, none_second, onwards, none_open, name_found, map_then, then_holds, empty_chars}
use Rattle.naga_oil_registry.proofs.keywords.marked_name.Goals as goal

fn_chars : chars (codes "fn") ≡ codes "fn"
fn_chars = chars-IsAscii (codes "fn") (search rules)

open_chars : chars (codes "(") ≡ codes "("
open_chars = chars-IsAscii (codes "(") (search rules)

pub returns-in_err-past_spaces-clause-chars : goal.returns-in_err-past_spaces-clause-chars
returns-in_err-past_spaces-clause-chars c =
    let none : c.from_residual.result ≡ None = search rules in
    rw none (none_first (chars c.args.text.now) c.in_err-past_spaces.ensures.chars)

pub returns-in_err-past_word-clause-chars : goal.returns-in_err-past_word-clause-chars
returns-in_err-past_word-clause-chars c =
    let none : c.from_residual-in_err-past_word.result ≡ None = search rules in
    rw none (none_word (chars c.args.text.now) (chars (codes "fn")) (chars c.in_ok-past_spaces.field-0.now) fn_chars c.in_ok-past_spaces.ensures.chars c.in_err-past_word.ensures.chars)

pub returns-in_err-onwards-clause-chars : goal.returns-in_err-onwards-clause-chars
returns-in_err-onwards-clause-chars c =
    let none : c.from_residual-in_err-onwards.result ≡ None = search rules in
    rw none (none_second (chars c.args.text.now) (chars (codes "fn")) (chars c.in_ok-past_spaces.field-0.now) fn_chars c.in_ok-past_spaces.ensures.chars (chars c.in_ok-past_word.field-0.now) c.in_ok-past_word.ensures.chars c.in_err-onwards.ensures.chars)

pub returns-in_err-arguments-clause-chars : goal.returns-in_err-arguments-clause-chars
returns-in_err-arguments-clause-chars c =
    let none : c.from_residual-in_err-arguments.result ≡ None = search rules in
    let whole = onwards (chars c.args.text.now) (chars (codes "fn")) (chars c.in_ok-past_spaces.field-0.now) fn_chars c.in_ok-past_spaces.ensures.chars (chars c.in_ok-past_word.field-0.now) c.in_ok-past_word.ensures.chars (chars c.in_ok-onwards.onwards.now) c.in_ok-onwards.ensures.chars in
    let rest = c.after_whitespace.ensures.chars ∙ ap after_spaces c.after_name-rest.ensures.chars in
    rw none (none_open (chars c.in_ok-onwards.onwards.now) (chars (codes "(")) (chars c.after_whitespace.result.now) open_chars rest c.in_err-arguments.ensures.chars ∙ whole)

pub returns-clause-chars : goal.returns-clause-chars
returns-clause-chars c =
    let text = chars c.args.text.now in
    let parts : Bor (List ℕ) × Bor (List ℕ) × Bor (List ℕ) = (c.text_before-name.result, c.in_ok-onwards.onwards, c.in_ok-arguments.arguments) in
    let on = chars c.in_ok-onwards.onwards.now in
    let name = c.text_before-name.result.now in
    let whole = onwards text (chars (codes "fn")) (chars c.in_ok-past_spaces.field-0.now) fn_chars c.in_ok-past_spaces.ensures.chars (chars c.in_ok-past_word.field-0.now) c.in_ok-past_word.ensures.chars on c.in_ok-onwards.ensures.chars in
    let rest = c.after_whitespace.ensures.chars ∙ ap after_spaces c.after_name-rest.ensures.chars in
    let before = chars_before c.in_ok-onwards.onwards.now name c.after_name-rest.result.now (prefix_len is_name_char on) c.text_before-name.ensures c.text_before-name.utf8 c.after_name-rest.ensures.chars in
    let found = name_found on (chars (codes "(")) (chars c.after_whitespace.result.now) open_chars rest (chars c.in_ok-arguments.arguments.now) (chars name) c.is_empty.result c.in_ok-arguments.ensures.chars before (c.is_empty.ensures ∙ empty_chars name c.text_before-name.utf8) in
    rw c.then_some.ensures (map_then (not c.is_empty.result) parts (λ r. (chars r.0.now, chars r.1.now, chars r.2.now)) ∙ found ∙ whole)

pub returns-clause-suffix : goal.returns-clause-suffix
returns-clause-suffix c =
    let text = c.args.text.now in
    let onwards = c.in_ok-onwards.onwards.now in
    let arguments = c.in_ok-arguments.arguments.now in
    let first = c.in_ok-past_spaces.ensures.suffix in
    let second = c.in_ok-onwards.ensures.suffix in
    let name = c.after_name-rest.ensures.suffix in
    let spaces = c.after_whitespace.ensures.suffix in
    let a = suffix_more text first.0 c.in_ok-past_spaces.field-0.now (codes "fn") c.in_ok-past_word.field-0.now first.1 c.in_ok-past_word.ensures.suffix in
    let b = suffix_more text a.0 c.in_ok-past_word.field-0.now second.0 onwards a.1 second.1 in
    let d = suffix_more text b.0 onwards name.0 c.after_name-rest.result.now b.1 name.1 in
    let e = suffix_more text d.0 c.after_name-rest.result.now spaces.0 c.after_whitespace.result.now d.1 spaces.1 in
    let f = suffix_more text e.0 c.after_whitespace.result.now (codes "(") arguments e.1 c.in_ok-arguments.ensures.suffix in
    let parts : Bor (List ℕ) × Bor (List ℕ) × Bor (List ℕ) = (c.text_before-name.result, c.in_ok-onwards.onwards, c.in_ok-arguments.arguments) in
    subst (λ (o : Option (Bor (List ℕ) × Bor (List ℕ) × Bor (List ℕ))). IfSome o (λ r. (x : List ℕ) × (text ≡ x ++ r.2.now))) (sym c.then_some.ensures)
    (then_holds (not c.is_empty.result) parts (λ r. (x : List ℕ) × (text ≡ x ++ r.2.now)) f)
