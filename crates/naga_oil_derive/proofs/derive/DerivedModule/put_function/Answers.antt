use Rattle.std.proofs.Common.{◌≡◌, ◌∙◌, length, OnOk, sym, subst}
use Rattle.naga_oil_ir.specs.ModuleValue.{function_value}
use Rattle.naga_oil_derive.specs.World.{value_of}
use Rattle.naga_oil_derive.specs.DerivedValue.{import_function}
use Rattle.naga_oil_derive.specs.DerivedView.{derived_of}
use Rattle.naga_oil_derive.specs.Answered.{import_state, import_copy}
use Rattle.naga_oil_derive.proofs.FunctionValues.{functions_length}
use Rattle.naga_oil_derive.proofs.FunctionCalls.{IsCall, call_holds, call_keeps, call_value, one_in, copying_in, name_ok}
use Rattle.naga_oil_derive.proofs.derive.DerivedModule.put_function.Goals as goal

-- functions are taken out and put back
call : (c : goal.After-put) → IsCall c.self.inside.shader c.unwrap-source.result c.self.inside.copying.target c.take-taken.new.target c.import-handle.new.copying.target c.put.new.target c.self.inside.copying.maps c.import-handle.new.copying.maps c.take-taken.result c.import-handle.new.functions c.self.inside.function_names.entries c.put.new.names.entries c.args.self.now
call c = record {
  is = c.unwrap-source.ensures;
  view = c.self.view_is;
  holds = c.self.invariant;
  left = c.take-taken.ensures.left;
  taken = c.take-taken.ensures.taken.0;
  names = λ i. (c.take-taken.ensures.taken.1 i).entries;
  offset = c.import-handle.ensures.offset;
  put = c.put.ensures.target;
  seen = λ i. (c.put.ensures.names i).entries;
  adding = c.import-handle.ensures.adding;
}

pub import-handle-requires-clause-copying : goal.import-handle-requires-clause-copying
import-handle-requires-clause-copying c = copying_in c.self.inside.shader c.unwrap-source.result c.self.inside.copying.target c.take-taken.new.target c.self.inside.copying.maps c.unwrap-source.ensures c.self.invariant c.take-taken.ensures.left

pub import-handle-requires-clause-form : goal.import-handle-requires-clause-form
import-handle-requires-clause-form c =
    let s = c.self.inside in
    one_in s.shader c.unwrap-source.result s.copying.maps s.copying.target c.take-taken.result s.function_names.entries c.args.self.now c.len-depth.result c.args.func.now c.unwrap-source.ensures c.self.view_is (λ i. (c.take-taken.ensures.taken.1 i).entries) c.len-depth.ensures c.requires.function.0.1

pub import-handle-requires-clause-named : goal.import-handle-requires-clause-named
import-handle-requires-clause-named c = c.requires.name

pub invariant_of-self : goal.invariant_of-self
invariant_of-self c = call_holds c.self.inside.shader c.unwrap-source.result c.self.inside.copying.target c.take-taken.new.target c.import-handle.new.copying.target c.put.new.target c.self.inside.copying.maps c.import-handle.new.copying.maps c.take-taken.result c.import-handle.new.functions c.self.inside.function_names.entries c.put.new.names.entries c.args.self.now (call c)

pub returns-clause-keeps : goal.returns-clause-keeps
returns-clause-keeps c = call_keeps c.self.inside.shader c.unwrap-source.result c.self.inside.copying.target c.take-taken.new.target c.import-handle.new.copying.target c.put.new.target c.self.inside.copying.maps c.import-handle.new.copying.maps c.take-taken.result c.import-handle.new.functions c.self.inside.function_names.entries c.put.new.names.entries c.args.self.now (call c)

value : (c : goal.After-put) → OnOk c.import-handle.result (derived_of c.self.inside.shader c.import-handle.new.copying.maps c.put.new.target c.put.new.names.entries ≡ import_function c.args.self.now (function_value c.args.func.now) c.args.span)
value c =
    let s = c.self.inside in
    let u = c.import-handle.new in
    let v = value_of c.unwrap-source.result.now in
    let d = s.copying.maps.offset in
    let deep = c.len-depth.ensures ∙ sym (functions_length c.unwrap-source.result.now) in
    let own = subst (λ q. OnOk c.import-handle.result (import_state u.copying.maps u.copying.target u.functions ≡ import_copy q v d (import_state s.copying.maps c.take-taken.new.target c.take-taken.result) (function_value c.args.func.now) c.args.span)) deep c.import-handle.ensures.value in
    call_value c.import-handle.result c.self.inside.shader c.unwrap-source.result c.self.inside.copying.target c.take-taken.new.target c.import-handle.new.copying.target c.put.new.target c.self.inside.copying.maps c.import-handle.new.copying.maps c.take-taken.result c.import-handle.new.functions c.self.inside.function_names.entries c.put.new.names.entries c.args.self.now (λ x y. import_copy (length x.value.functions) x.value x.offset y (function_value c.args.func.now) c.args.span) (call c) own

pub returns-clause-value : goal.returns-clause-value
returns-clause-value c = value c

pub returns-clause-means : goal.returns-clause-means
returns-clause-means c = name_ok c.import-handle.result c.import-handle.new.functions c.put.new.names.entries c.args.func.now (λ i. (c.put.ensures.names i).entries) c.import-handle.ensures.means
