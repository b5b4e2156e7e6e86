use Rattle.std.proofs.Common.{◌≡◌, ℕ, List, Option, option_map, OnOk, sym, subst, length, arith, rules}
use Rattle.naga_oil_ir.specs.declared.names.ItemPlace.TheVariants.{ExpressionItem}
use Rattle.naga_oil_derive.specs.CopiedEntry.{import_items, sizes_names}
use Rattle.naga_oil_derive.proofs.EntrySteps.{Keeps-trans}
use Rattle.naga_oil_derive.proofs.EntryValues.{three_imported}
use Rattle.naga_oil_derive.proofs.derive.DerivedModule.import_sizes.Goals as goal

pub returns-in_err-import_some-2-clause-keeps :
    goal.returns-in_err-import_some-2-clause-keeps
returns-in_err-import_some-2-clause-keeps c = Keeps-trans c.args.self.now c.import_some.new.self c.import_some-2.new.self c.import_some.ensures.keeps c.import_some-2.ensures.keeps

pub returns-clause-keeps : goal.returns-clause-keeps
returns-clause-keeps c =
    let a = c.import_some.new.self in
    let b = c.import_some-2.new.self in
    let e = c.import_some-3.new.self in
    Keeps-trans c.args.self.now a e c.import_some.ensures.keeps (Keeps-trans a b e c.import_some-2.ensures.keeps c.import_some-3.ensures.keeps)

pub returns-clause-value : goal.returns-clause-value
returns-clause-value c =
    let d = c.args.self.now in
    let long : length c.in-Some.sizes ≡ 3 = omega arith in
    let x : c.map.result ≡ option_map ExpressionItem c.index-sizes-0.result = search rules in
    let y : c.map-2.result ≡ option_map ExpressionItem c.index-sizes-1.result = search rules in
    let z : c.map-3.result ≡ option_map ExpressionItem c.index-sizes-2.result = search rules in
    subst (λ (o : Option (List (Option ℕ))). OnOk c.import_some-3.result (c.import_some-3.new.self ≡ import_items d (sizes_names o))) (sym c.in-Some.is) (three_imported c.import_some-3.result d c.import_some.new.self c.import_some-2.new.self c.import_some-3.new.self c.in-Some.sizes c.index-sizes-0.result c.index-sizes-1.result c.index-sizes-2.result c.map.result c.map-2.result c.map-3.result long c.index-sizes-0.is c.index-sizes-1.is c.index-sizes-2.is x y z c.in_ok-import_some.ensures.value c.in_ok-import_some-2.ensures.value c.import_some-3.ensures.value)
