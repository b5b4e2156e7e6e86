use Rattle.std.proofs.Common.{◌<◌, [], length, subst, sym, arith}
use Rattle.naga_oil_derive.specs.DerivedFunctions.{CanCall}
use Rattle.naga_oil_form_tests.proofs.SourceLemmas.{own_source, form_call}
use Rattle.naga_oil_form_tests.proofs.derive.functions.place_of.Goals as goal

pub returns-then-place-len : goal.returns-then-place-len
returns-then-place-len c =
    let own = own_source c.in-Some.source _ c.args.derived.now c.source.ensures c.in-Some.is in
    let there : c.args.place < length c.in-Some.source.now.functions = omega arith in
    subst (CanCall c.args.derived.now) (sym c.new.ensures) (form_call c.in-Some.source.now c.args.derived.now own [] 1000 c.args.place c.in_ok-check_form.ensures.ok there)
