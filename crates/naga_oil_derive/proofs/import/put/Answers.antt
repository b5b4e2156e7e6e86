use Rattle.std.proofs.Common.{ℕ, ◌∙◌, ◌++◌, ◌∷◌, [], ap, sym, subst, option_map, string_bytes, Some, List, Global}
use Rattle.std.specs.declared.borrow.CowStr.{CowStr}
use Rattle.std.specs.declared.borrow.CowStr.TheVariants.{Borrowed}
use Rattle.naga_oil_ir.specs.ModuleValue.{function_value}
use Rattle.naga_oil_ir.specs.declared.module.Function.{Function}
use Rattle.naga_oil_ir.specs.declared.span.Span.{Span}
use Rattle.naga_oil_derive.specs.World.{value_of}
use Rattle.naga_oil_derive.specs.Answered.{import_state}
use Rattle.naga_oil_derive.specs.Putting.{Adding, NothingAdded}
use Rattle.naga_oil_derive.specs.declared.import.Functions.{Functions}
use Rattle.naga_oil_derive.proofs.ImportSteps.{put_value, copy_value, function_added, copy_added}
use Rattle.naga_oil_derive.proofs.import.put.Goals as goal

pub returns-in_err-copy-clause-adding : goal.returns-in_err-copy-clause-adding
returns-in_err-copy-clause-adding c = NothingAdded

pub returns-in_err-handle-clause-adding : goal.returns-in_err-handle-clause-adding
returns-in_err-handle-clause-adding c =
    let m = c.args.copying.now.maps in
    let t = c.args.copying.now.target in
    let a = c.args.functions.now in
    subst (λ (x : List (Function × Span)). Adding (value_of c.args.source.now) m.offset (import_state m t a) (import_state m t (record { copies = x; names = a.names }))) (sym c.in_err-handle.ensures.err) NothingAdded

-- its name found no room
pub returns-in_err-insert-clause-adding : goal.returns-in_err-insert-clause-adding
returns-in_err-insert-clause-adding c =
    let of = c.args.of.now in
    let a = c.args.functions.now in
    let b : Functions = record { copies = c.append.new.self; names = c.insert.new.self } in
    let appended = c.in_ok-handle.ensures.appended ∙ ap (λ (s : Span). a.copies ++ (c.in_ok-copy.copy, s) ∷ []) c.span.ensures in
    copy_added (function_value of.function.now) of.span (copy_value c.args.source.now of.function.now c.in_ok-copy.copy of.span c.args.copying.now.maps c.args.copying.now.target a b c.in_ok-copy.ensures appended c.in_err-insert.ensures.err)

-- the copy stands last under its name
pub returns-in_ok-insert-clause-value : goal.returns-in_ok-insert-clause-value
returns-in_ok-insert-clause-value c =
    let of = c.args.of.now in
    let a = c.args.functions.now in
    let b : Functions = record { copies = c.append.new.self; names = c.insert.new.self } in
    let appended = c.in_ok-handle.ensures.appended ∙ ap (λ (s : Span). a.copies ++ (c.in_ok-copy.copy, s) ∷ []) c.span.ensures in
    let n : CowStr Global = Borrowed c.as_str.result in
    let is = ap (λ (t : List ℕ). Some t) c.as_str.ensures.value ∙ ap (option_map string_bytes) (sym c.in-Some.is) in
    put_value c.args.source.now of.function.now c.in_ok-copy.copy of.span c.args.copying.now.maps c.args.copying.now.target a b c.in_ok-handle.handle n c.in_ok-copy.ensures appended c.in_ok-handle.ensures.place is c.in_ok-insert.ensures.entries

pub returns-in_ok-insert-clause-adding : goal.returns-in_ok-insert-clause-adding
returns-in_ok-insert-clause-adding c = function_added (function_value c.args.of.now.function.now) c.args.of.now.span (returns-in_ok-insert-clause-value c)
