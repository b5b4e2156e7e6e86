use Rattle.std.proofs.Common.{◌≡◌, true, false, sym, ap, ◌∙◌}
use Rattle.naga_oil_ir.specs.ModuleValue.{module_value}
use Rattle.naga_oil_link.specs.BuiltModule.{built_of}
use Rattle.naga_oil_link.specs.OwnPlaces.{own_of}
use Rattle.naga_oil_build.specs.BuildView.{settings_in}
use Rattle.naga_oil_build.specs.Held.{is_tested}
use Rattle.naga_oil_build.proofs.HeldLemmas.{is_asked, is_unasked, tested, untested}
use Rattle.naga_oil_build.proofs.builder.Builder.copy_tested.Goals as goal

pub returns-then-index_of-self : goal.returns-then-index_of-self
returns-then-index_of-self g c =
    let s = settings_in g.B.Backend.front c.args.self.now in
    let m = module_value c.args.source.now in
    let own = own_of c.args.own.now in
    let b = built_of c.args.built.now in
    let copy = built_of c.copy_build.new.built in
    let special = c.in_ok-special.special in
    let asked : is_tested copy.index s.validate special ≡ true = ap (λ n. is_tested n s.validate special) (sym c.index_of.ensures) ∙ is_asked c.index_of.result s.validate special c.if-index_of-self.true in
    tested s m own b c.args.functions copy special c.in_ok-special.ensures.value c.in_ok-special.ensures.special asked c.came_back.result c.came_back.ensures

pub returns : goal.returns
returns g c =
    let s = settings_in g.B.Backend.front c.args.self.now in
    let m = module_value c.args.source.now in
    let own = own_of c.args.own.now in
    let b = built_of c.args.built.now in
    let copy = built_of c.copy_build.new.built in
    let special = c.in_ok-special.special in
    let unasked : is_tested copy.index s.validate special ≡ false = ap (λ n. is_tested n s.validate special) (sym c.index_of.ensures) ∙ is_unasked c.index_of.result s.validate special c.if-index_of-self.false in
    untested s m own b c.args.functions copy special c.in_ok-special.ensures.value c.in_ok-special.ensures.special unasked
