use Rattle.std.proofs.Common.{◌≡◌, List, ℕ, length, Ok, sym, ap, subst, ◌∙◌, arith}
use Rattle.naga_oil_ir.specs.ModuleValue.{module_value}
use Rattle.naga_oil_form.specs.WellFormed.{WellFormed}
use Rattle.naga_oil_conditions.specs.View.{Fails, Gives}
use Rattle.naga_oil_registry.proofs.NewDefinitionLemmas.{gives-refused}
use Rattle.naga_oil_link.specs.BuiltModule.{BuiltModule, built_of}
use Rattle.naga_oil_link.specs.OwnPlaces.{own_of}
use Rattle.naga_oil_build.specs.BuildView.{settings_in}
use Rattle.naga_oil_build.specs.Held.{parse_whole, hold}
use Rattle.naga_oil_build.proofs.HeldLemmas.{hold_unparsed, held_by}
use Rattle.naga_oil_build.proofs.builder.Builder.hold.Goals as goal

pub returns-in_err-source : goal.returns-in_err-source
returns-in_err-source g c =
    let s = settings_in g.B.Backend.front c.args.self.now in
    let front = s.front in
    let b = built_of c.args.built.now in
    let text = c.args.text.now in
    let language = c.args.language in
    let e = c.in_err-source.field-0.0 in
    gives-refused _ c.from_residual.result e (hold s language text b) c.from_residual.ensures.1
    (hold_unparsed s language text b e (subst (λ (d : List ℕ). Fails e (parse_whole front language text d)) c.as_str.ensures.value c.in_err-source.ensures.value))

pub copy_tested-requires : goal.copy_tested-requires
copy_tested-requires g c =
    let fits = c.in_ok-source.ensures.fits in
    let same = ap (λ (b : BuiltModule). b.decoration) (sym c.note_functions.ensures) in
    let form = subst (λ (d : List ℕ). WellFormed c.in_ok-source.source d (length c.args.text.now)) (c.as_str.ensures.value ∙ same) c.in_ok-source.ensures.form in
    c.in_ok-own.ensures.form (length c.args.text.now) (omega (arith, fits)) form

pub returns : goal.returns
returns g c =
    let s = settings_in g.B.Backend.front c.args.self.now in
    let front = s.front in
    let b = built_of c.note_functions.new.build in
    let text = c.args.text.now in
    let language = c.args.language in
    let m = module_value c.in_ok-source.source in
    let same = ap (λ (b : BuiltModule). b.decoration) (sym c.note_functions.ensures) in
    let parsed : parse_whole front language text b.decoration ≡ Ok m = ap (parse_whole front language text) (sym (c.as_str.ensures.value ∙ same)) ∙ c.in_ok-source.ensures.value in
    let whole = held_by s language text b m parsed (module_value c.own.new.source) (own_of c.in_ok-own.own) (built_of c.own.new.built) c.in_ok-own.functions c.in_ok-own.ensures.items c.in_ok-own.ensures.own c.in_ok-own.ensures.built c.in_ok-own.ensures.functions in
    let held : Gives (λ done. built_of c.copy_tested.new.built) c.copy_tested.result (hold s language text b) = rw whole c.copy_tested.ensures in
    subst (λ (b : BuiltModule). Gives (λ done. built_of c.copy_tested.new.built) c.copy_tested.result (hold s language text b)) c.note_functions.ensures held
