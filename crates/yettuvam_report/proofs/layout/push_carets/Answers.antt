use Rattle.std.proofs.Common.{◌≡◌, ◌++◌, ◌∷◌, [], string_bytes, rules}
use Rattle.yettuvam_report.proofs.TextLemmas.{one_more}
use Rattle.yettuvam_report.proofs.layout.push_carets.Goals as goal

pub loop-done-preserved : goal.loop-done-preserved
loop-done-preserved c =
    let pushed : string_bytes c.push.new.self ≡ string_bytes c.loop-done.out ++ 94 ∷ [] = search rules in
    one_more _ _ _ _ 94 c.loop-done.invariant pushed
