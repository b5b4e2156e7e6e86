use Rattle.std.proofs.Common.{◌∙◌, ◌++◌, ◌∷◌, [], ap, sym, subst, List}
use Rattle.naga_oil_ir.specs.ModuleValue.{function_value}
use Rattle.naga_oil_ir.specs.declared.module.Function.{Function}
use Rattle.naga_oil_ir.specs.declared.span.Span.{Span}
use Rattle.naga_oil_derive.specs.World.{value_of}
use Rattle.naga_oil_derive.specs.Answered.{ImportState, import_state, with_function}
use Rattle.naga_oil_derive.specs.Putting.{Adding}
use Rattle.naga_oil_derive.specs.declared.import.Functions.{Functions}
use Rattle.naga_oil_derive.proofs.AddingLemmas.{Adding-append}
use Rattle.naga_oil_derive.proofs.ImportSteps.{put_value, copy_value, function_added, copy_added, name_means}
use Rattle.naga_oil_derive.proofs.import.import.Goals as goal

pub returns-in_err-handle-clause-adding : goal.returns-in_err-handle-clause-adding
returns-in_err-handle-clause-adding c =
    let old = c.args.copying.now in
    let n = c.localize.new.copying in
    let a = c.localize.new.functions in
    let s = import_state old.maps old.target c.args.functions.now in
    subst (λ (x : List (Function × Span)). Adding (value_of c.args.source.now) old.maps.offset s (import_state n.maps n.target (record { copies = x; names = a.names }))) (sym c.in_err-handle.ensures.err) c.in_ok-copy.ensures.adding

-- its name found no room
pub returns-in_err-insert-clause-adding : goal.returns-in_err-insert-clause-adding
returns-in_err-insert-clause-adding c =
    let f = c.args.function.now in
    let n = c.localize.new.copying in
    let a = c.localize.new.functions in
    let b : Functions = record { copies = c.append.new.self; names = c.insert.new.self } in
    let e = c.in_ok-copy.ensures in
    let appended = c.in_ok-handle.ensures.appended ∙ ap (λ (s : Span). a.copies ++ (c.in_ok-copy.copy, s) ∷ []) c.span.ensures in
    let put = copy_added (function_value f) c.args.span (copy_value c.args.source.now f c.in_ok-copy.copy c.args.span n.maps n.target a b e.copied appended c.in_err-insert.ensures.err) in
    Adding-append e.adding (subst (λ z. Adding (value_of c.args.source.now) z (import_state n.maps n.target a) (import_state n.maps n.target b)) e.offset put)

-- the copy stands last under its name
pub returns-clause-means : goal.returns-clause-means
returns-clause-means c =
    let a = c.localize.new.functions in
    let b : Functions = record { copies = c.append.new.self; names = c.insert.new.self } in
    name_means c.args.function.now a b c.in_ok-handle.handle c.args.name (sym c.requires.named) c.in_ok-insert.ensures.entries

pub returns-clause-value : goal.returns-clause-value
returns-clause-value c =
    let f = c.args.function.now in
    let v = function_value f in
    let m = value_of c.args.source.now in
    let d = c.args.copying.now.maps.offset in
    let n = c.localize.new.copying in
    let a = c.localize.new.functions in
    let b : Functions = record { copies = c.append.new.self; names = c.insert.new.self } in
    let e = c.in_ok-copy.ensures in
    let appended = c.in_ok-handle.ensures.appended ∙ ap (λ (s : Span). a.copies ++ (c.in_ok-copy.copy, s) ∷ []) c.span.ensures in
    let put = put_value c.args.source.now f c.in_ok-copy.copy c.args.span n.maps n.target a b c.in_ok-handle.handle c.args.name e.copied appended c.in_ok-handle.ensures.place (sym c.requires.named) c.in_ok-insert.ensures.entries in
    put ∙ ap (λ z. with_function m z (import_state n.maps n.target a) v c.args.span) e.offset ∙ ap (λ (s : ImportState). with_function m d s v c.args.span) e.value

pub returns-clause-adding : goal.returns-clause-adding
returns-clause-adding c =
    let f = c.args.function.now in
    let v = function_value f in
    let m = value_of c.args.source.now in
    let n = c.localize.new.copying in
    let a = c.localize.new.functions in
    let b : Functions = record { copies = c.append.new.self; names = c.insert.new.self } in
    let e = c.in_ok-copy.ensures in
    let appended = c.in_ok-handle.ensures.appended ∙ ap (λ (s : Span). a.copies ++ (c.in_ok-copy.copy, s) ∷ []) c.span.ensures in
    let put = put_value c.args.source.now f c.in_ok-copy.copy c.args.span n.maps n.target a b c.in_ok-handle.handle c.args.name e.copied appended c.in_ok-handle.ensures.place (sym c.requires.named) c.in_ok-insert.ensures.entries in
    Adding-append e.adding (subst (λ z. Adding m z (import_state n.maps n.target a) (import_state n.maps n.target b)) e.offset (function_added v c.args.span put))
