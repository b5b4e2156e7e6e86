use Rattle.std.proofs.Common.{◌≡◌, ◌+◌, ◌<◌, ℕ, List, length, drop, get_or, Option, Some, sym, ap, ◌∙◌, arith}
use Rattle.std.proofs.lemmas.List.{at_drop_more}
use Rattle.std.specs.BTreeMap.{get}
use Rattle.std.specs.Ordering.{nat_cmp}
use Rattle.std.specs.Prelude.{◌==◌, if◌then◌else◌}
use Rattle.naga_oil_registry.specs.Keywords.{put}
use Rattle.naga_oil_registry.proofs.MarkedLemmas.{edited_at}
use Rattle.naga_oil_registry.proofs.keywords.edit.Goals as goal

pub loop-at-preserved : goal.loop-at-preserved
loop-at-preserved c =
    let i = c.loop-at.at in
    let place = c.args.place in
    let other = c.args.other.now in
    let more = drop (i + 1) other in
    let before = get nat_cmp c.loop-at.edits in
    let lt : i < length other = omega (arith, c.as_bytes-byte-items.ensures.len) in
    let byte : get_or c.as_bytes-byte-items.result.now i 0 ≡ get_or other i 0 = ap (λ bs. get_or bs i 0) c.as_bytes-byte-items.ensures.value in
    let next : place + (i + 1) ≡ place + i + 1 = omega arith in
    ap (λ (e : ℕ → Option ℕ). put e (place + (i + 1)) more) (edited_at c.loop-at.edits c.insert.new.self (place + i) (get_or c.as_bytes-byte-items.result.now i 0) c.in_ok-insert.ensures.updates)
    ∙ ap (λ b. put (λ at. if at == place + i then Some b else before at) (place + (i + 1)) more) byte
    ∙ ap (λ n. put (λ at. if at == place + i then Some (get_or other i 0) else before at) n more) next
    ∙ sym (at_drop_more (put before (place + i)) other i 0 lt) ∙ c.loop-at.invariant
