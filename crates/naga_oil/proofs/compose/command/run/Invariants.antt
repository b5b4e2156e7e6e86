use Rattle.std.proofs.Common.{◌≡◌, ◌+◌, ◌≤◌, ◌++◌, List, length, vec_capacity}
use Rattle.std.specs.Vec.Iter.{into_iter_items, into_iter_len}
use Rattle.naga_oil.specs.Run.{Run}
use Rattle.naga_oil.specs.State.{State}
use Rattle.naga_oil.specs.declared.compose.command.Reply.{Reply}
use Rattle.naga_oil.proofs.compose.command.run.Given as goal

abbrev pub invariant-loop-command : goal.invariant-loop-command
invariant-loop-command g l = record {
  can_next : (goal.iterator-loop-command g).can_next l.command-iterator;
  is_finite : (goal.iterator-loop-command g).is_finite l.command-iterator;
  same : into_iter_len l.command-iterator ≡ length (into_iter_items l.command-iterator);
  room : length l.replies.items + length (into_iter_items l.command-iterator) ≤ vec_capacity l.replies;
  run : (rs : List Reply) (end : State _) → Run g.B.Backend.front l.composer (into_iter_items l.command-iterator) rs end → Run g.B.Backend.front l.fn.composer l.fn.commands.items (l.replies.items ++ rs) end;
}
