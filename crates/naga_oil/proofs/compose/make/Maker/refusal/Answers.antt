use Rattle.std.proofs.Common.{◌∙◌, ap, sym, string_bytes}
use Rattle.naga_oil_conditions.specs.Fault.{Fault, import_not_found}
use Rattle.naga_oil_conditions.specs.declared.fault.ComposerErrorInner.TheVariants.{ImportNotFound}
use Rattle.naga_oil_registry.specs.Registered.{defs_of}
use Rattle.naga_oil.specs.Answer.{refusal}
use Rattle.naga_oil.specs.MakeView.{unreached_of}
use Rattle.naga_oil.specs.Reach.{missing, unbuilt}
use Rattle.naga_oil.specs.Refused.{in_text, in_module}
use Rattle.naga_oil.proofs.DoesLemmas.{told_unreached, some_same}
use Rattle.naga_oil.proofs.compose.make.Maker.refusal.Goals as goal

pub returns-in-Missing : goal.returns-in-Missing
returns-in-Missing g c =
    let text = c.args.text.now in
    let path = string_bytes c.args.shader.now.file_path in
    let name = c.in-Missing.name in
    let offset = c.in-Missing.offset in
    told_unreached (refusal path text (defs_of c.args.self.now.defs)) c.args.why c.refused.result (ImportNotFound name offset) (in_text c.as_str-path.result.now text 0) (λ f. missing (string_bytes name) offset) (ap unreached_of c.in-Missing.is)
    (λ f k. ap (λ (x : Fault). record { fault = x; place = in_text path text 0 }) (some_same (import_not_found (string_bytes name) offset) f k)
    ∙ ap (λ p. record { fault = f; place = in_text p text 0 }) (sym c.as_str-path.ensures.value))
    c.refused.ensures

pub returns-in-Unbuilt : goal.returns-in-Unbuilt
returns-in-Unbuilt g c =
    let text = c.args.text.now in
    let path = string_bytes c.args.shader.now.file_path in
    let defs = defs_of c.args.self.now.defs in
    let name = c.in-Unbuilt.name in
    let u = c.in-Unbuilt.unbuilt in
    told_unreached (refusal path text defs) c.args.why c.refused_in.result u.inner (in_module c.as_str.result.now u.offset defs) (λ f. unbuilt (string_bytes name) (record { fault = f; offset = u.offset })) (ap unreached_of c.in-Unbuilt.is)
    (λ f k. ap (λ n. record { fault = f; place = in_module n u.offset defs }) (sym c.as_str.ensures.value))
    c.refused_in.ensures
