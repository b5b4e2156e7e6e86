use Rattle.std.proofs.Common.{Some, option_map, string_bytes}
use Rattle.naga_oil_derive.specs.Copied.{copy_named_type}
use Rattle.naga_oil_derive.proofs.DerivedValues.{copied_now}
use Rattle.naga_oil_derive.proofs.Derivations.{type_putting_derived}
use Rattle.naga_oil_derive.proofs.derive.DerivedModule.rename_type.Goals as goal

pub invariant_of-self : goal.invariant_of-self
invariant_of-self c =
    let s = c.self.inside in
    let n = c.copy_named_type.new.self in
    let name = option_map (λ x. Some (string_bytes x)) c.args.name in
    (type_putting_derived s.shader c.in-Some.shader s.copying.target n.target s.copying.maps n.maps s.function_names.entries c.args.self.now c.args.h_type.now name c.in-Some.is c.self.view_is c.self.invariant c.copy_named_type.ensures.offset c.copy_named_type.ensures.putting).derived

pub returns-in_err-copy_named_type-clause-keeps : goal.returns-in_err-copy_named_type-clause-keeps
returns-in_err-copy_named_type-clause-keeps c =
    let s = c.self.inside in
    let n = c.copy_named_type.new.self in
    let name = option_map (λ x. Some (string_bytes x)) c.args.name in
    (type_putting_derived s.shader c.in-Some.shader s.copying.target n.target s.copying.maps n.maps s.function_names.entries c.args.self.now c.args.h_type.now name c.in-Some.is c.self.view_is c.self.invariant c.copy_named_type.ensures.offset c.copy_named_type.ensures.putting).keeps

pub invariant_of-self-2 : goal.invariant_of-self-2
invariant_of-self-2 c =
    let s = c.self.inside in
    let n = c.copy_named_type.new.self in
    let name = option_map (λ x. Some (string_bytes x)) c.args.name in
    (type_putting_derived s.shader c.in-Some.shader s.copying.target n.target s.copying.maps n.maps s.function_names.entries c.args.self.now c.args.h_type.now name c.in-Some.is c.self.view_is c.self.invariant c.copy_named_type.ensures.offset c.copy_named_type.ensures.putting).derived

pub returns-clause-keeps : goal.returns-clause-keeps
returns-clause-keeps c =
    let s = c.self.inside in
    let n = c.copy_named_type.new.self in
    let name = option_map (λ x. Some (string_bytes x)) c.args.name in
    (type_putting_derived s.shader c.in-Some.shader s.copying.target n.target s.copying.maps n.maps s.function_names.entries c.args.self.now c.args.h_type.now name c.in-Some.is c.self.view_is c.self.invariant c.copy_named_type.ensures.offset c.copy_named_type.ensures.putting).keeps

pub returns-clause-value : goal.returns-clause-value
returns-clause-value c =
    let s = c.self.inside in
    let n = c.copy_named_type.new.self in
    copied_now s.shader c.in-Some.shader s.copying.target n.target s.copying.maps n.maps s.function_names.entries c.args.self.now (λ x y. copy_named_type x.value x.offset (option_map (λ z. Some (string_bytes z)) c.args.name) y c.args.h_type.now) c.in-Some.is c.self.view_is c.copy_named_type.ensures.offset c.in_ok-copy_named_type.ensures.copied
