use Rattle.std.proofs.Common.{◌≡◌, ◌++◌, [], ap, sym, ◌∙◌, append_assoc, append-nil, rules}
use Rattle.std.specs.Char.{encode_utf8}
use Rattle.std.specs.Str.{chars}
use Rattle.std.specs.String.{string_bytes}
use Rattle.std.proofs.lemmas.Str.{chars-nil}
use Rattle.std.proofs.lemmas.List.{nil_from_length}
use Rattle.naga_oil_lines.specs.Undecorate.{with_modules, run_shown}
use Rattle.naga_oil_lines.proofs.TokenLemmas.{suffix_more}
use Rattle.naga_oil_lines.proofs.UndecorateLemmas.{word_run, no_word, no_modules, run_before}
use Rattle.naga_oil_lines.proofs.decorate.with_modules.Goals as goal

pub loop-first-init : goal.loop-first-init
loop-first-init c = record { text = c.utf8.text; told = ap (λ l. l ++ with_modules 0 (chars c.args.text.now)) c.in_ok-out.ensures.bytes }

pub text_before-requires : goal.text_before-requires
text_before-requires c = suffix_more c.loop-first.rest.now (encode_utf8 c.in-Some.first) c.in-Some.more.now c.after_run-following.ensures.suffix.0 c.after_run-following.result.now c.in-Some.ensures.bytes c.after_run-following.ensures.suffix.1

pub loop-first-preserved-then-is_word_code : goal.loop-first-preserved-then-is_word_code
loop-first-preserved-then-is_word_code c =
    let rest = c.loop-first.rest.now in
    let following = c.after_run-following.result.now in
    let run = c.text_before.result.now in
    let out = string_bytes c.loop-first.out in
    let e = c.in-Some.ensures in
    let r = run_before rest run following c.in-Some.more.now c.in-Some.first e.spelled c.text_before.ensures c.text_before.utf8 c.after_run-following.ensures.chars in
    record {
      text = c.after_run-following.utf8;
      told = ap (λ l. l ++ with_modules 0 (chars following)) c.in_ok-push_run.ensures
          ∙ append_assoc out (run_shown (chars run)) (with_modules 0 (chars following))
          ∙ ap (λ l. out ++ l) (word_run (chars rest) c.in-Some.first (chars c.in-Some.more.now) e.spelled (chars run) (chars following) (search rules) c.after_run-following.ensures.chars r)
          ∙ c.loop-first.invariant.told;
    }

pub loop-first-preserved : goal.loop-first-preserved
loop-first-preserved c =
    let rest = c.loop-first.rest.now in
    let more = c.in-Some.more.now in
    let out = string_bytes c.loop-first.out in
    let e = c.in-Some.ensures in
    record {
      text = e.utf8;
      told = ap (λ l. l ++ with_modules 0 (chars more)) c.in_ok-push.ensures.bytes
          ∙ append_assoc out (encode_utf8 c.in-Some.first) (with_modules 0 (chars more))
          ∙ ap (λ l. out ++ l) (no_word (chars rest) c.in-Some.first (chars more) e.spelled (search rules))
          ∙ c.loop-first.invariant.told;
    }

pub returns : goal.returns
returns c =
    let none : chars c.loop-first.rest.now ≡ [] = ap chars (nil_from_length _ c.in_default.ensures) ∙ chars-nil in
    let out = string_bytes c.loop-first.out in
    sym (append-nil out) ∙ ap (λ l. out ++ l) (sym (no_modules (chars c.loop-first.rest.now) none)) ∙ c.loop-first.invariant.told
