use Rattle.std.proofs.Common.{◌≡◌, ◌≢◌, ◌∙◌, ◌+◌, ◌<◌, Vec, Global, map, take, set, get_or, length, length-set, ap, sym, arith, false}
use Rattle.std.specs.BTreeSet.{contains_text}
use Rattle.std.proofs.lemmas.List.{take_more_set, get_or-set_other}
use Rattle.naga_oil_ir.specs.ModuleValue.{FunctionValue, function_value}
use Rattle.naga_oil_ir.specs.declared.module.Function.{Function}
use Rattle.naga_oil_ir.specs.declared.span.Span.{Span}
use Rattle.naga_oil_redirect.specs.Redirected.{is_named, send_at}
use Rattle.naga_oil_redirect.proofs.RedirectLemmas.{placed_more, placed_kept, stays_at, omitted_at, sent_at, same_element}
use Rattle.naga_oil_redirect.proofs.redirect.send_functions.Goals as goal
use Rattle.naga_oil_redirect.proofs.redirect.send_functions.Goals.{then-place-index+then-not-is_omitted, else-place-index, else-place-index-via-then-place-index+else-not-is_omitted, else-place-index-via-else-place-index}

pub loop-place-preserved : goal.loop-place-preserved
loop-place-preserved c =
    let old = c.into_items-items.result.items in
    let now = c.loop-place.items.items in
    let next = c.if-place-index.items.items in
    let i = c.loop-place.place in
    let from = c.args.pair.0 in
    let to = c.args.pair.1 in
    let o = contains_text c.args.omit.now in
    let value : Function × Span → FunctionValue × Span = λ e. (function_value e.0, e.1) in
    let named = λ (e : Function × Span). is_named o (function_value e.0).name in
    let long : length now ≡ length old = c.loop-place.invariant.long in
    let unvisited = c.loop-place.invariant.unvisited in
    let within : i < length now = omega (arith, c.into_items-items.result.ok.0, long) in
    elim c.if-place-index.branch [
      | then-place-index+then-not-is_omitted w ↦
          let y = w.index_mut.result.now in
          let r = w.index-then-place-index.result.now in
          let x : Function × Span = (w.send_calls.new.function, y.1) in
          let pair : FunctionValue → FunctionValue × Span = λ v. (v, y.1) in
          let items : next ≡ set now i x = ap (λ (v : Vec (Function × Span) Global). v.items) w.items-is in
          let apart : i ≢ to = λ e. w.if-place-index.true (e ∙ sym c.index.ensures) in
          let same : y ≡ r = w.index_mut.ensures.value ∙ same_element now i y r within ∙ sym w.index-then-place-index.ensures in
          let kept : named y ≡ false = ap named same ∙ sym w.is_omitted.ensures ∙ w.if-not-is_omitted.true in
          let made : value x ≡ send_at from to o (i, value (get_or old i y)) = ap pair w.send_calls.ensures ∙ sent_at from to i o (value y) apart kept ∙ ap (λ e. send_at from to o (i, value e)) (w.index_mut.ensures.value ∙ unvisited i y (omega arith)) in
          record {
            long = ap length items ∙ length-set now i x ∙ long;
            unvisited = λ k d h. ap (λ xs. get_or xs k d) items ∙ get_or-set_other now i k x d (omega (arith, h)) ∙ unvisited k d (omega (arith, h));
            sent = placed_more value (send_at from to o) old now next i x y within long (ap (take (i + 1)) items ∙ take_more_set now i x within) made c.loop-place.invariant.sent;
          }
      | else-place-index w ↦
          let items : next ≡ now = ap (λ (v : Vec (Function × Span) Global). v.items) w.items-is in
          elim w.else-place-index.branch [
            | else-place-index-via-then-place-index+else-not-is_omitted v ↦
                let r = v.index-then-place-index.result.now in
                record {
                  long = ap length items ∙ long;
                  unvisited = λ k d h. ap (λ xs. get_or xs k d) items ∙ unvisited k d (omega (arith, h));
                  sent = ap (λ xs. map value (take (i + 1) xs)) items ∙ placed_kept value (send_at from to o) old now i within long unvisited (λ x e. omitted_at from to i o (value x) (ap named (e ∙ same_element now i x r within ∙ sym v.index-then-place-index.ensures) ∙ sym v.is_omitted.ensures ∙ v.if-not-is_omitted.false)) c.loop-place.invariant.sent;
                }
            | else-place-index-via-else-place-index v ↦
                record {
                  long = ap length items ∙ long;
                  unvisited = λ k d h. ap (λ xs. get_or xs k d) items ∙ unvisited k d (omega (arith, h));
                  sent = ap (λ xs. map value (take (i + 1) xs)) items ∙ placed_kept value (send_at from to o) old now i within long unvisited (λ x e. stays_at from to i o (value x) (v.if-place-index.false ∙ c.index.ensures)) c.loop-place.invariant.sent;
                }
          ]
    ]
