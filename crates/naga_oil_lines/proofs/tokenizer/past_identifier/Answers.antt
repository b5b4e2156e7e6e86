use Rattle.std.proofs.Common.{◌≡◌, ◌++◌, take, false, ap, sym, ◌∙◌}
use borrow.Author.Tests.{ne_eqb}
use Rattle.std.specs.List.{prefix_len}
use Rattle.std.specs.Str.{chars}
use Rattle.std.proofs.lemmas.List.{take-append-drop}
use Rattle.naga_oil_lines.specs.Words.{is_word_byte}
use Rattle.naga_oil_lines.proofs.TokenLemmas.{after, suffix_more}
use Rattle.naga_oil_lines.proofs.WordLemmas.{after_word, ends_after, word_lacks_colon}
use Rattle.naga_oil_lines.proofs.tokenizer.past_identifier.Goals as goal

pub returns-then-ends_identifier-clause-chars : goal.returns-then-ends_identifier-clause-chars
returns-then-ends_identifier-clause-chars c =
    let word = c.after_word-word.result.now in
    rw (ne_eqb c.args.first 34 c.if-first-eq34.false)
    (sym (ends_after word c.after_word-word.utf8 (sym c.ends_identifier.ensures ∙ c.if-ends_identifier.true)) ∙ ap (λ bs. after false (chars bs)) c.after_word-word.ensures ∙ after_word c.args.text.now)

pub returns-then-ends_identifier-clause-suffix : goal.returns-then-ends_identifier-clause-suffix
returns-then-ends_identifier-clause-suffix c =
    let text = c.args.text.now in
    let front = take (prefix_len is_word_byte text) text in
    (front, sym (take-append-drop (prefix_len is_word_byte text) text) ∙ ap (λ l. front ++ l) (sym c.after_word-word.ensures), λ word. word_lacks_colon text)

pub returns-else-ends_identifier-clause-chars : goal.returns-else-ends_identifier-clause-chars
returns-else-ends_identifier-clause-chars c =
    rw (ne_eqb c.args.first 34 c.if-first-eq34.false)
    (c.after_identifier-else-ends_identifier.ensures.chars ∙ ap (λ bs. after false (chars bs)) c.after_word-word.ensures ∙ after_word c.args.text.now)

pub returns-else-ends_identifier-clause-suffix : goal.returns-else-ends_identifier-clause-suffix
returns-else-ends_identifier-clause-suffix c =
    let text = c.args.text.now in
    let front = take (prefix_len is_word_byte text) text in
    let word : text ≡ front ++ c.after_word-word.result.now = sym (take-append-drop (prefix_len is_word_byte text) text) ∙ ap (λ l. front ++ l) (sym c.after_word-word.ensures) in
    let left = c.after_identifier-else-ends_identifier in
    let whole = suffix_more text front c.after_word-word.result.now left.ensures.suffix.0 left.result.now word left.ensures.suffix.1 in
    (whole.0, whole.1, λ is. cc)

pub returns-then-first-eq34-clause-chars : goal.returns-then-first-eq34-clause-chars
returns-then-first-eq34-clause-chars c = rw c.if-first-eq34.true c.after_identifier.ensures.chars
