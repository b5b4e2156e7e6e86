-- What a whole run says.
use Rattle.std.specs.Prelude.{◌≡◌, Bool, true, false, List, Result, Ok, Err}
use Rattle.yettuvam_wgsl_machine.specs.declared.refusal.Fault.{Fault}
use Rattle.yettuvam_wgsl_machine.specs.declared.refusal.Reason.{Reason}
use Rattle.yettuvam_wgsl_machine.specs.declared.refusal.Reason.TheVariants as reason
use Rattle.yettuvam_wgsl_machine.specs.Machine.{Node}
use Rattle.yettuvam_wgsl_table_laws.specs.Balance.{Effects, AreBalanced}

abbrev pub is_endless : Reason → Bool
is_endless reason.Endless = true
is_endless _ = false

-- the turns didn't run out
abbrev pub HasEnd : Result (List Node) Fault → Type 0
HasEnd (Ok nodes) = Unit {0}
HasEnd (Err fault) = is_endless fault.reason ≡ false

-- the nodes are balanced, if there are any
abbrev pub GivesBalanced : Effects → Result (List Node) Fault → Type 0
GivesBalanced effects (Ok nodes) = AreBalanced effects nodes
GivesBalanced effects (Err fault) = Unit {0}
