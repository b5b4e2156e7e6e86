use Rattle.naga_oil_derive.specs.Copied.{copy_item}
use Rattle.naga_oil_derive.proofs.DerivedValues.{copied_ok}
use Rattle.naga_oil_derive.proofs.Derivations.{putting_derived}
use Rattle.naga_oil_derive.proofs.derive.DerivedModule.import.Goals as goal

pub invariant_of-self : goal.invariant_of-self
invariant_of-self c =
    let s = c.self.inside in
    let n = c.copy_item.new.self in
    (putting_derived s.shader c.in-Some.shader s.copying.target n.target s.copying.maps n.maps s.function_names.entries c.args.self.now c.in-Some.is c.self.view_is c.self.invariant c.copy_item.ensures.offset c.copy_item.ensures.putting).derived

pub returns-clause-keeps : goal.returns-clause-keeps
returns-clause-keeps c =
    let s = c.self.inside in
    let n = c.copy_item.new.self in
    (putting_derived s.shader c.in-Some.shader s.copying.target n.target s.copying.maps n.maps s.function_names.entries c.args.self.now c.in-Some.is c.self.view_is c.self.invariant c.copy_item.ensures.offset c.copy_item.ensures.putting).keeps

pub returns-clause-value : goal.returns-clause-value
returns-clause-value c =
    let s = c.self.inside in
    let n = c.copy_item.new.self in
    copied_ok c.copy_item.result s.shader c.in-Some.shader s.copying.target n.target s.copying.maps n.maps s.function_names.entries c.args.self.now (λ x y. copy_item x.value x.offset y c.args.item) c.in-Some.is c.self.view_is c.copy_item.ensures.offset c.copy_item.ensures.copied
