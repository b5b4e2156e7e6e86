use Rattle.std.proofs.Common.{◌≡◌, ◌||◌, Bool, List, ℕ, true, false, eqb, length, codes, rules, arith, ap, sym, ◌∙◌}
use Rattle.std.proofs.lemmas.Bool.Decides.{nat_tests}
use Rattle.std.specs.List.{starts_with}
use Rattle.naga_oil_mini_front.specs.Reader.{lacks_space}
use Rattle.naga_oil_mini_front.proofs.WithinLemmas.{lacks_after, lacks_none}
use Rattle.naga_oil_mini_front.proofs.reader.lacks_space.Goals as goal

-- the text after a `)`
following : List ℕ → Bool
following t = starts_with eqb t (codes "with") || lacks_space t

pub returns-then-begins : goal.returns-then-begins
unfolding following
returns-then-begins c =
    let more = c.in-Some.more.now in
    let cut = c.in-Some.ensures.byte (omega arith) (λ w o h. h) in
    let found : starts_with eqb more (codes "with") ≡ true = sym c.begins.ensures ∙ c.if-begins.true in
    sym (sym c.loop-rest.invariant.same ∙ lacks_after c.loop-rest.rest.now cut.2 ∙ ap following (sym cut.1) ∙ ap (λ b. b || lacks_space more) found)

pub loop-rest-preserved : goal.loop-rest-preserved
unfolding following
loop-rest-preserved c =
    let more = c.in-Some.more.now in
    let cut = c.in-Some.ensures.byte (omega arith) (λ w o h. h) in
    let other : starts_with eqb more (codes "with") ≡ false = sym c.begins.ensures ∙ c.if-begins.false in
    record {
      utf8 = search rules;
      same = sym (ap (λ b. b || lacks_space more) other) ∙ ap following cut.1 ∙ sym (lacks_after c.loop-rest.rest.now cut.2) ∙ c.loop-rest.invariant.same;
    }

pub returns-in_default : goal.returns-in_default
returns-in_default c =
    let none = c.in_default.ensures.byte (omega arith) (λ w o h. h) in
    sym (sym c.loop-rest.invariant.same ∙ lacks_none c.loop-rest.rest.now (omega arith))

pub returns : goal.returns
returns c =
    let empty : length c.loop-rest.rest.now ≡ 0 = grind (arith, nat_tests, c.is_empty.ensures) in
    sym (sym c.loop-rest.invariant.same ∙ lacks_none c.loop-rest.rest.now (omega (arith, empty)))
