use Rattle.std.proofs.Common.{◌∙◌, ℕ, List, [], map, codes, get_or, unwrap_or, option_map, string_bytes, ap, sym, arith}
use Rattle.std.specs.Borrow.{Bor}
use Rattle.std.proofs.lemmas.List.{take_all}
use Rattle.std.proofs.lemmas.Result.{IfOk-weaker}
use Rattle.naga_oil_ir.specs.declared.module.Function.{Function}
use Rattle.naga_oil_ir.specs.declared.span.Span.{Span}
use Rattle.naga_oil_redirect.specs.Ordered.{function_name_at}
use Rattle.naga_oil_redirect.specs.Redirected.{function_values}
use Rattle.naga_oil_redirect.proofs.NameLemmas.{name_here, read_more, join_same}
use Rattle.naga_oil_redirect.proofs.order.names_at.Goals as goal

pub loop-place-preserved : goal.loop-place-preserved
loop-place-preserved c =
    let fs = c.args.functions.now in
    let i = c.loop-place.place-index in
    let read : Bor (List ℕ) → List ℕ = λ s. s.now in
    let here = c.name_of.ensures ∙ ap (λ (y : Function × Span). unwrap_or (option_map string_bytes y.0.name) []) (sym c.index-functions-place.is) ∙ name_here fs (get_or c.args.places.now i 0) c.index-functions-place.result (c.requires i 0 (omega arith)) c.index-functions-place.is in
    ap (map read) c.in_ok-push.ensures.items ∙ read_more read (function_name_at (function_values fs)) c.loop-place.names.items c.name_of.result c.args.places.now i (omega arith) here c.loop-place.invariant

pub returns : goal.returns
returns c =
    let fs = c.args.functions.now in
    let read : Bor (List ℕ) → List ℕ = λ s. s.now in
    let all = take_all c.loop-place.place-index c.args.places.now (omega arith) in
    let same = ap (map read) c.deref.ensures.value ∙ c.loop-place.invariant ∙ ap (map (function_name_at (function_values fs))) all in
    IfOk-weaker c.join.result _ _ (λ s e. e ∙ join_same read (function_name_at (function_values fs)) (codes ", ") c.deref.result.now c.args.places.now same) c.join.ensures.ok
