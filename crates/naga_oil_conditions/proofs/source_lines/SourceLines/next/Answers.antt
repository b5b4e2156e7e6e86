use Rattle.std.proofs.Common.{arith}
use Rattle.std.proofs.lemmas.Option.{MatchOption-at_some}
use Rattle.naga_oil_conditions.proofs.SourceLemmas.{room_on, room_none, next_fits, even_none, even_first, even_on}
use Rattle.naga_oil_conditions.proofs.source_lines.SourceLines.next.Goals as goal

pub invariant_of-self-inside : goal.invariant_of-self-inside
invariant_of-self-inside c =
    let none = c.in_err-text.ensures.ends.0 in
    (room_none _ c.self.inside.lines _ _ none c.self.inside.room, (even_none _ _ _ none, tt))

pub next_place-self-inside-requires : goal.next_place-self-inside-requires
next_place-self-inside-requires c =
    let text = MatchOption-at_some _ _ _ c.in-Some.is c.in_ok-text.ensures.texts in
    let cover = MatchOption-at_some _ _ _ c.in-Some.is c.in_ok-text.ensures.covers in
    omega (arith, next_fits _ _ _ _ _ _ _ text cover c.self.inside.room)

pub invariant_of-self-inside-2 : goal.invariant_of-self-inside-2
invariant_of-self-inside-2 c =
    let text = MatchOption-at_some _ _ _ c.in-Some.is c.in_ok-text.ensures.texts in
    let cover = MatchOption-at_some _ _ _ c.in-Some.is c.in_ok-text.ensures.covers in
    rw c.next_place-self-inside.ensures
    (room_on _ _ _ _ _ _ _ text cover c.self.inside.room, (even_on _ _ _ _ _ _ _ text cover c.self.inside.even, tt))

pub returns-clause-even : goal.returns-clause-even
returns-clause-even c =
    let text = MatchOption-at_some _ _ _ c.in-Some.is c.in_ok-text.ensures.texts in
    let cover = MatchOption-at_some _ _ _ c.in-Some.is c.in_ok-text.ensures.covers in
    even_first _ _ _ _ _ _ _ text cover c.self.inside.even

pub returns-clause-room : goal.returns-clause-room
returns-clause-room c =
    let text = MatchOption-at_some _ _ _ c.in-Some.is c.in_ok-text.ensures.texts in
    let cover = MatchOption-at_some _ _ _ c.in-Some.is c.in_ok-text.ensures.covers in
    rw c.next_place-self-inside.ensures (next_fits _ _ _ _ _ _ _ text cover c.self.inside.room)
