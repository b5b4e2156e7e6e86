use Rattle.std.proofs.Common.{◌≡◌, Some, None, ap, sym, refl, ◌∙◌, rules}
use Rattle.std.specs.Result.{result_ok}
use Rattle.std.proofs.lemmas.Int.{to_z-of_z}
use mir.Syntax.{w32}
use mir.Val.{SFits}
use Rattle.naga_oil_conditions.specs.Values.{read_u32, read_i32}
use Rattle.naga_oil_conditions.specs.DefineValue.{defined_value}
use Rattle.naga_oil_conditions.proofs.ValueLemmas.{parses_u32, parses_i32}
use Rattle.naga_oil_conditions.proofs.shader_def.defined_value.Goals as goal

pub returns-in-Ok-parse : goal.returns-in-Ok-parse
unfolding defined_value
returns-in-Ok-parse c =
    let text = c.in-Some.text.now in
    let fits : SFits w32 c.in-Ok-parse.number = search rules in
    let unsigned : read_u32 text ≡ None = sym (parses_u32 text c.parse.result c.parse.ensures.value.0) ∙ ap result_ok c.in_default-parse.is in
    let signed : read_i32 text ≡ Some c.in-Ok-parse.number = sym (parses_i32 text c.parse-in_default-parse.result c.parse-in_default-parse.ensures.value.0) ∙ ap result_ok c.in-Ok-parse.is in
    rw (to_z-of_z w32 _ fits, c.in-Some.is, unsigned, signed) refl
