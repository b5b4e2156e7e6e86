use Rattle.std.proofs.Common.{◌↔◌, ◌<◌, ◌||◌, not, IsTrue, List, length, subst, sym}
use Rattle.naga_oil_ir.specs.ModuleValue.{special_value}
use Rattle.naga_oil_derive.specs.World.{special_entries}
use Rattle.naga_oil_derive.proofs.SpecialLemmas.{Entry}
use Rattle.naga_oil_derive.proofs.SpecialLoops.{any_entry, entries_length}
use Rattle.naga_oil_derive.proofs.DeriveCalls.{entries_seen}
use Rattle.naga_oil_derive.proofs.derive.DerivedModule.has_required_special_types.Goals as goal

pub returns : goal.returns
returns c =
    let s = c.self.inside in
    let v = special_value s.copying.target.special_types in
    let count = entries_length v c.is_some.result c.is_some-2.result c.is_some-3.result (sym c.is_some.ensures) (sym c.is_some-2.ensures) (sym c.is_some-3.ensures) in
    subst (λ (es : List Entry). IsTrue (((not c.is_empty.result || c.is_some.result) || c.is_some-2.result) || c.is_some-3.result) ↔ (0 < length es)) (entries_seen s.shader s.copying.maps s.copying.target s.function_names.entries c.args.self.now c.self.view_is) (any_entry c.is_empty.result (length v.predeclared_types) c.is_some.result c.is_some-2.result c.is_some-3.result (length (special_entries v)) count c.is_empty.ensures)
