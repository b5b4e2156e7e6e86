use Rattle.std.proofs.Common.{◌≡◌, ◌∙◌, length, OnOk, sym, subst}
use Rattle.naga_oil_ir.specs.ModuleValue.{function_value}
use Rattle.naga_oil_derive.specs.World.{value_of}
use Rattle.naga_oil_derive.specs.DerivedFunctions.{requests_of}
use Rattle.naga_oil_derive.specs.DerivedValue.{answer_requests}
use Rattle.naga_oil_derive.specs.DerivedView.{derived_of}
use Rattle.naga_oil_derive.specs.Answered.{import_state, answer_all}
use Rattle.naga_oil_derive.proofs.FunctionValues.{functions_length}
use Rattle.naga_oil_derive.proofs.FunctionCalls.{IsCall, call_holds, call_keeps, call_value, one_in, copying_in, copied_value}
use Rattle.naga_oil_derive.proofs.derive.DerivedModule.localize_function.Goals as goal

-- functions are taken out and put back
call : (c : goal.After-put) → IsCall c.self.inside.shader c.unwrap-source.result c.self.inside.copying.target c.take-taken.new.target c.localize-copy.new.copying.target c.put.new.target c.self.inside.copying.maps c.localize-copy.new.copying.maps c.take-taken.result c.localize-copy.new.functions c.self.inside.function_names.entries c.put.new.names.entries c.args.self.now
call c = record {
  is = c.unwrap-source.ensures;
  view = c.self.view_is;
  holds = c.self.invariant;
  left = c.take-taken.ensures.left;
  taken = c.take-taken.ensures.taken.0;
  names = λ i. (c.take-taken.ensures.taken.1 i).entries;
  offset = c.localize-copy.ensures.offset;
  put = c.put.ensures.target;
  seen = λ i. (c.put.ensures.names i).entries;
  adding = c.localize-copy.ensures.adding;
}

pub localize-copy-requires-clause-copying : goal.localize-copy-requires-clause-copying
localize-copy-requires-clause-copying c = copying_in c.self.inside.shader c.unwrap-source.result c.self.inside.copying.target c.take-taken.new.target c.self.inside.copying.maps c.unwrap-source.ensures c.self.invariant c.take-taken.ensures.left

pub localize-copy-requires-clause-form : goal.localize-copy-requires-clause-form
localize-copy-requires-clause-form c =
    let s = c.self.inside in
    one_in s.shader c.unwrap-source.result s.copying.maps s.copying.target c.take-taken.result s.function_names.entries c.args.self.now c.len-depth.result c.args.func.now c.unwrap-source.ensures c.self.view_is (λ i. (c.take-taken.ensures.taken.1 i).entries) c.len-depth.ensures c.requires.1

pub invariant_of-self : goal.invariant_of-self
invariant_of-self c = call_holds c.self.inside.shader c.unwrap-source.result c.self.inside.copying.target c.take-taken.new.target c.localize-copy.new.copying.target c.put.new.target c.self.inside.copying.maps c.localize-copy.new.copying.maps c.take-taken.result c.localize-copy.new.functions c.self.inside.function_names.entries c.put.new.names.entries c.args.self.now (call c)

pub returns-clause-keeps : goal.returns-clause-keeps
returns-clause-keeps c = call_keeps c.self.inside.shader c.unwrap-source.result c.self.inside.copying.target c.take-taken.new.target c.localize-copy.new.copying.target c.put.new.target c.self.inside.copying.maps c.localize-copy.new.copying.maps c.take-taken.result c.localize-copy.new.functions c.self.inside.function_names.entries c.put.new.names.entries c.args.self.now (call c)

value : (c : goal.After-put) → OnOk c.localize-copy.result (derived_of c.self.inside.shader c.localize-copy.new.copying.maps c.put.new.target c.put.new.names.entries ≡ answer_requests c.args.self.now (requests_of (function_value c.args.func.now)))
value c =
    let s = c.self.inside in
    let u = c.localize-copy.new in
    let v = value_of c.unwrap-source.result.now in
    let d = s.copying.maps.offset in
    let deep = c.len-depth.ensures ∙ sym (functions_length c.unwrap-source.result.now) in
    let own = subst (λ q. OnOk c.localize-copy.result (import_state u.copying.maps u.copying.target u.functions ≡ answer_all q v d (import_state s.copying.maps c.take-taken.new.target c.take-taken.result) (requests_of (function_value c.args.func.now)))) deep c.localize-copy.ensures.value in
    call_value c.localize-copy.result c.self.inside.shader c.unwrap-source.result c.self.inside.copying.target c.take-taken.new.target c.localize-copy.new.copying.target c.put.new.target c.self.inside.copying.maps c.localize-copy.new.copying.maps c.take-taken.result c.localize-copy.new.functions c.self.inside.function_names.entries c.put.new.names.entries c.args.self.now (λ x y. answer_all (length x.value.functions) x.value x.offset y (requests_of (function_value c.args.func.now))) (call c) own

pub returns-clause-value : goal.returns-clause-value
returns-clause-value c = value c

pub returns-clause-copy : goal.returns-clause-copy
returns-clause-copy c = copied_value c.localize-copy.result c.self.inside.shader c.unwrap-source.result c.localize-copy.new.copying.maps c.put.new.target c.localize-copy.new.functions c.put.new.names.entries c.args.func.now c.unwrap-source.ensures (λ i. (c.put.ensures.names i).entries) c.localize-copy.ensures.copied
