-- Faults of the tokens of a text, as faults of the text.
use Rattle.yettuvam_wgsl_words.specs.declared.refusal.Fault.{Fault as WordsFault}
use Rattle.yettuvam_wgsl_words.specs.declared.refusal.Refusal.{Refusal as WordsRefusal}
use Rattle.yettuvam_wgsl_words.specs.declared.refusal.Refusal.TheVariants as words_refusal
use Rattle.yettuvam_wgsl_machine.specs.declared.refusal.Fault.{Fault}
use Rattle.yettuvam_wgsl_machine.specs.declared.refusal.Reason.TheVariants as reason
use Rattle.yettuvam_wgsl_machine.specs.declared.refusal.Refusal.{Refusal}
use Rattle.yettuvam_wgsl_machine.specs.declared.refusal.Refusal.TheVariants as refusal

abbrev pub fault_of_words : WordsFault → Fault
fault_of_words fault = record { reason = reason.Words fault.reason; span = fault.span }

abbrev pub of_words : WordsRefusal → Refusal
of_words (words_refusal.Fault fault) = refusal.Fault (fault_of_words fault)
of_words words_refusal.Memory = refusal.Memory
