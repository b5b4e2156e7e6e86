use Rattle.std.proofs.Common.{◌≡◌, ◌-◌, ◌≤◌, length}
use Rattle.yettuvam_wgsl_words.specs.Cut.{after_comment, comment_from}
use Rattle.yettuvam_wgsl_words.proofs.cut.after_comment.Given as goal

abbrev pub invariant-loop-turn : goal.invariant-loop-turn
invariant-loop-turn l = record { same : after_comment l.text ≡ comment_from (length l.text - l._turn) l.depth l.rest; bounded : l.depth ≤ l._turn }
