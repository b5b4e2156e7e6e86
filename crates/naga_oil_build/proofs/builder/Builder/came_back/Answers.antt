use Rattle.std.proofs.Common.{◌≡◌, Ok, sym, ap, ◌∙◌}
use Rattle.std.specs.String.{string_bytes}
use Rattle.std.proofs.lemmas.Result.{err_from_is_err_and}
use Rattle.naga_oil_ir.specs.ModuleValue.{module_value}
use Rattle.naga_oil_ir.specs.declared.language.ShaderLanguage.TheVariants.{Wgsl, Glsl}
use Rattle.naga_oil_build.specs.BuildView.{settings_in}
use Rattle.naga_oil_build.specs.Built.{header_text, parsed_text}
use Rattle.naga_oil_link.specs.BuiltModule.{built_of}
use Rattle.naga_oil_link.specs.OwnPlaces.{own_of}
use Rattle.naga_oil_build.proofs.WritebackLemmas.{fails_then, something_lost, not_written}
use Rattle.naga_oil_build.proofs.builder.Builder.came_back.Goals as goal

pub returns-in_err-check_back : goal.returns-in_err-check_back
returns-in_err-check_back g c =
    let s = settings_in g.B.Backend.front c.args.self.now in
    let front = s.front in
    let capabilities = s.capabilities in
    let b = built_of c.args.built.now in
    let back = module_value c.in_ok-back.back in
    let text = string_bytes c.in_ok-text.text in
    let written : header_text front capabilities Wgsl b.header ≡ Ok text = ap (header_text front capabilities Wgsl) (sym c.header_of-header.ensures) ∙ c.in_ok-text.ensures in
    let read : parsed_text front Wgsl text ≡ Ok back = ap (parsed_text front Wgsl) (sym c.deref.ensures) ∙ c.in_ok-back.ensures in
    let p = err_from_is_err_and c.from_residual-in_err-check_back.result c.from_residual-in_err-check_back.ensures.1 in
    rw (p.1, p.2) (fails_then c.in_err-check_back.field-0.0 _ _ (λ f e. something_lost front capabilities (module_value c.args.source.now) (own_of c.args.own.now) b c.args.functions text back written read f e) c.in_err-check_back.ensures)

pub returns-in_err-written : goal.returns-in_err-written
returns-in_err-written g c =
    let s = settings_in g.B.Backend.front c.args.self.now in
    let front = s.front in
    let capabilities = s.capabilities in
    let b = built_of c.args.built.now in
    let back = module_value c.in_ok-back.back in
    let text = string_bytes c.in_ok-text.text in
    let written : header_text front capabilities Wgsl b.header ≡ Ok text = ap (header_text front capabilities Wgsl) (sym c.header_of-header.ensures) ∙ c.in_ok-text.ensures in
    let read : parsed_text front Wgsl text ≡ Ok back = ap (parsed_text front Wgsl) (sym c.deref.ensures) ∙ c.in_ok-back.ensures in
    let p = err_from_is_err_and c.from_residual-in_err-written.result c.from_residual-in_err-written.ensures.1 in
    rw (p.1, p.2) (fails_then c.in_err-written.field-0.0 _ _ (λ f e. not_written front capabilities (module_value c.args.source.now) (own_of c.args.own.now) b c.args.functions text back written read f c.in_ok-check_back.ensures (ap (header_text front capabilities Glsl) (sym c.header_of-header.ensures) ∙ e)) c.in_err-written.ensures)
