use Rattle.std.proofs.Common.{◌≡◌, Ok, Err, ap, sym, subst}
use Rattle.naga_oil_ir.specs.ModuleValue.{module_value}
use Rattle.naga_oil_registry.specs.Registered.{definition_of, defs_of}
use Rattle.naga_oil_link.specs.BuiltModule.{built_of, builds_of}
use Rattle.naga_oil_link.specs.Linked.{link_whole}
use Rattle.naga_oil.specs.MakeView.{settings_by}
use Rattle.naga_oil.specs.Chain.{chain, with_stages}
use Rattle.naga_oil.specs.Finish.{compose}
use Rattle.naga_oil.specs.Refused.{Tells, in_text, placed}
use Rattle.naga_oil.specs.Validate.{validate}
use Rattle.naga_oil.proofs.PlacedLemmas.{answers_placed, answers_err, answers_ok, answers_same}
use Rattle.naga_oil.proofs.compose.make.Maker.compose.Goals as goal

pub returns-in_err-made : goal.returns-in_err-made
unfolding compose
returns-in_err-made g c =
    let m = c.args.self.now in
    let s = settings_by g.B.Backend.front m in
    let bs = builds_of m.builder.builds in
    let b = built_of c.args.built.now in
    let text = c.args.text.now in
    let path = (definition_of c.args.of.now).file_path in
    let chained = chain b.overriding (with_stages c.args.shader_type (link_whole bs b)) in
    let here = in_text c.as_str-path.result.now text c.offset_of-offset.result in
    let place : here ≡ in_text path text b.offset = λ i. in_text (c.as_str-path.ensures.value i) text (c.offset_of-offset.ensures i) in
    let e = c.in_err-made.field-0.0 in
    answers_err module_value e c.from_residual.result (placed (in_text path text b.offset) chained) (λ made. validate s bs (defs_of m.defs) (in_text path text b.offset) made)
    (subst (λ p. Tells e (placed p chained)) place (answers_placed module_value here c.chained.result (Err e) chained c.in_err-made.ensures c.chained.ensures)) c.from_residual.ensures.1

pub returns : goal.returns
unfolding compose
returns g c =
    let m = c.args.self.now in
    let s = settings_by g.B.Backend.front m in
    let bs = builds_of m.builder.builds in
    let b = built_of c.args.built.now in
    let text = c.args.text.now in
    let path = (definition_of c.args.of.now).file_path in
    let chained = chain b.overriding (with_stages c.args.shader_type (link_whole bs b)) in
    let here = in_text c.as_str-path.result.now text c.offset_of-offset.result in
    let place : here ≡ in_text path text b.offset = λ i. in_text (c.as_str-path.ensures.value i) text (c.offset_of-offset.ensures i) in
    let made = c.in_ok-made.made in
    answers_ok module_value c.validated.result (placed (in_text path text b.offset) chained) (λ v. validate s bs (defs_of m.defs) (in_text path text b.offset) v) (module_value made)
    (subst (λ p. placed p chained ≡ Ok (module_value made)) place (answers_placed module_value here c.chained.result (Ok made) chained c.in_ok-made.ensures c.chained.ensures))
    (answers_same module_value c.validated.result (validate s bs (defs_of m.defs) (in_text path text c.offset_of-offset.result) (module_value made)) (validate s bs (defs_of m.defs) (in_text path text b.offset) (module_value made))
    (ap (λ at. validate s bs (defs_of m.defs) (in_text path text at) (module_value made)) (sym c.offset_of-offset.ensures)) c.validated.ensures)
