use Rattle.std.proofs.Common.{◌∙◌, refl, sym, rules}
use Rattle.std.proofs.lemmas.Int.{to_z-of_z}
use mir.Syntax.{w32}
use mir.Val.{SFits}
use Rattle.naga_oil_conditions.proofs.ValueLemmas.{parses_i32}
use Rattle.naga_oil_conditions.proofs.condition.order_of.Goals as goal

pub returns-in_ok-ok-in-Int : goal.returns-in_ok-ok-in-Int
returns-in_ok-ok-in-Int c =
    let read = sym (c.in_ok-ok-in-Int.ensures.value ∙ parses_i32 c.args.value.now c.parse-in-Int.result c.parse-in-Int.ensures.value.0) in
    let left : SFits w32 c.in-Int.defined = search rules in
    let right : SFits w32 c.in_ok-ok-in-Int.field-0 = search rules in
    rw (c.in-Int.is, read, c.cmp-in-Int.ensures, to_z-of_z w32 _ left, to_z-of_z w32 _ right) refl
