use Rattle.std.proofs.Common.{◌≡◌, ◌∙◌, length, OnOk, sym, subst}
use Rattle.naga_oil_derive.specs.World.{value_of}
use Rattle.naga_oil_derive.specs.DerivedValue.{call_function}
use Rattle.naga_oil_derive.specs.DerivedView.{derived_of}
use Rattle.naga_oil_derive.specs.Answered.{import_state, import_callee}
use Rattle.naga_oil_derive.proofs.FunctionValues.{functions_length}
use Rattle.naga_oil_derive.proofs.FunctionCalls.{IsCall, call_holds, call_keeps, call_value, call_in, copying_in, means_ok}
use Rattle.naga_oil_derive.proofs.derive.DerivedModule.map_function_handle.Goals as goal

-- functions are taken out and put back
call : (c : goal.After-put) → IsCall c.self.inside.shader c.unwrap-source.result c.self.inside.copying.target c.take-taken.new.target c.import_callee-handle.new.copying.target c.put.new.target c.self.inside.copying.maps c.import_callee-handle.new.copying.maps c.take-taken.result c.import_callee-handle.new.functions c.self.inside.function_names.entries c.put.new.names.entries c.args.self.now
call c = record {
  is = c.unwrap-source.ensures;
  view = c.self.view_is;
  holds = c.self.invariant;
  left = c.take-taken.ensures.left;
  taken = c.take-taken.ensures.taken.0;
  names = λ i. (c.take-taken.ensures.taken.1 i).entries;
  offset = c.import_callee-handle.ensures.offset;
  put = c.put.ensures.target;
  seen = λ i. (c.put.ensures.names i).entries;
  adding = c.import_callee-handle.ensures.adding;
}

pub import_callee-handle-requires-clause-copying : goal.import_callee-handle-requires-clause-copying
import_callee-handle-requires-clause-copying c = copying_in c.self.inside.shader c.unwrap-source.result c.self.inside.copying.target c.take-taken.new.target c.self.inside.copying.maps c.unwrap-source.ensures c.self.invariant c.take-taken.ensures.left

pub import_callee-handle-requires-clause-answerable : goal.import_callee-handle-requires-clause-answerable
import_callee-handle-requires-clause-answerable c =
    let s = c.self.inside in
    call_in s.shader c.unwrap-source.result s.copying.maps s.copying.target c.take-taken.result s.function_names.entries c.args.self.now c.len-depth.result c.args.h_func.now c.unwrap-source.ensures c.self.view_is (λ i. (c.take-taken.ensures.taken.1 i).entries) c.len-depth.ensures c.requires.1

pub invariant_of-self : goal.invariant_of-self
invariant_of-self c = call_holds c.self.inside.shader c.unwrap-source.result c.self.inside.copying.target c.take-taken.new.target c.import_callee-handle.new.copying.target c.put.new.target c.self.inside.copying.maps c.import_callee-handle.new.copying.maps c.take-taken.result c.import_callee-handle.new.functions c.self.inside.function_names.entries c.put.new.names.entries c.args.self.now (call c)

pub returns-clause-keeps : goal.returns-clause-keeps
returns-clause-keeps c = call_keeps c.self.inside.shader c.unwrap-source.result c.self.inside.copying.target c.take-taken.new.target c.import_callee-handle.new.copying.target c.put.new.target c.self.inside.copying.maps c.import_callee-handle.new.copying.maps c.take-taken.result c.import_callee-handle.new.functions c.self.inside.function_names.entries c.put.new.names.entries c.args.self.now (call c)

value : (c : goal.After-put) → OnOk c.import_callee-handle.result (derived_of c.self.inside.shader c.import_callee-handle.new.copying.maps c.put.new.target c.put.new.names.entries ≡ call_function c.args.self.now c.args.h_func.now)
value c =
    let s = c.self.inside in
    let u = c.import_callee-handle.new in
    let v = value_of c.unwrap-source.result.now in
    let d = s.copying.maps.offset in
    let deep = c.len-depth.ensures ∙ sym (functions_length c.unwrap-source.result.now) in
    let own = subst (λ q. OnOk c.import_callee-handle.result (import_state u.copying.maps u.copying.target u.functions ≡ import_callee q v d (import_state s.copying.maps c.take-taken.new.target c.take-taken.result) c.args.h_func.now)) deep c.import_callee-handle.ensures.value in
    call_value c.import_callee-handle.result c.self.inside.shader c.unwrap-source.result c.self.inside.copying.target c.take-taken.new.target c.import_callee-handle.new.copying.target c.put.new.target c.self.inside.copying.maps c.import_callee-handle.new.copying.maps c.take-taken.result c.import_callee-handle.new.functions c.self.inside.function_names.entries c.put.new.names.entries c.args.self.now (λ x y. import_callee (length x.value.functions) x.value x.offset y c.args.h_func.now) (call c) own

pub returns-clause-value : goal.returns-clause-value
returns-clause-value c = value c

pub returns-clause-means : goal.returns-clause-means
returns-clause-means c = means_ok c.import_callee-handle.result c.self.inside.shader c.unwrap-source.result c.import_callee-handle.new.copying.maps c.put.new.target c.import_callee-handle.new.functions c.put.new.names.entries c.args.h_func.now c.unwrap-source.ensures (λ i. (c.put.ensures.names i).entries) c.import_callee-handle.ensures.callee
