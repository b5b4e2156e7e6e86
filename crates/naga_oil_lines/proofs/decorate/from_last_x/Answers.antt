use Rattle.std.proofs.Common.{◌≡◌, [], ap, refl, ◌∙◌, rules}
use Rattle.std.specs.Str.{chars}
use Rattle.std.proofs.lemmas.Str.{chars-nil}
use Rattle.std.proofs.lemmas.List.{nil_from_length}
use Rattle.naga_oil_lines.proofs.TokenLemmas.{suffix_more}
use Rattle.naga_oil_lines.proofs.UndecorateLemmas.{at_x, at_other, at_end, none_x, from_last_x-first}
use Rattle.naga_oil_lines.proofs.decorate.from_last_x.Goals as goal

pub loop-first-init : goal.loop-first-init
loop-first-init c = record { text = c.utf8.text; plain = c.utf8.text; same = from_last_x-first (chars c.args.text.now); left = ([], refl); suffix = tt; utf8 = tt }

pub loop-first-preserved-then-first-eq88 : goal.loop-first-preserved-then-first-eq88
loop-first-preserved-then-first-eq88 c =
    let before = c.loop-first.invariant in
    let e = c.in-Some.ensures in
    record {
      text = e.utf8;
      plain = e.utf8;
      same = at_x (chars c.loop-first.rest.now) c.in-Some.first (chars c.in-Some.more.now) _ e.spelled (search rules) c.if-first-eq88.true ∙ before.same;
      left = suffix_more _ _ _ _ _ before.left.1 e.bytes;
      suffix = before.left;
      utf8 = before.plain;
    }

pub loop-first-preserved : goal.loop-first-preserved
loop-first-preserved c =
    let before = c.loop-first.invariant in
    let e = c.in-Some.ensures in
    record {
      text = e.utf8;
      plain = e.utf8;
      same = at_other (chars c.loop-first.rest.now) c.in-Some.first (chars c.in-Some.more.now) _ e.spelled (search rules) c.if-first-eq88.false ∙ before.same;
      left = suffix_more _ _ _ _ _ before.left.1 e.bytes;
      suffix = before.suffix;
      utf8 = before.utf8;
    }

pub returns-then-not-is_code_char-clause-chars : goal.returns-then-not-is_code_char-clause-chars
returns-then-not-is_code_char-clause-chars c =
    at_end (chars c.loop-first.rest.now) c.in-Some.first (chars c.in-Some.more.now) _ c.in-Some.ensures.spelled (search rules) ∙ c.loop-first.invariant.same

pub returns-clause-chars : goal.returns-clause-chars
returns-clause-chars c =
    let none : chars c.loop-first.rest.now ≡ [] = ap chars (nil_from_length _ c.in_default.ensures) ∙ chars-nil in
    none_x (chars c.loop-first.rest.now) _ none ∙ c.loop-first.invariant.same
