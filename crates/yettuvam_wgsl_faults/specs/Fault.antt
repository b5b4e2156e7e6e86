-- The faults of a text, as a front end gives them.
use Rattle.std.specs.Prelude.{List, [], ◌∷◌, ◌++◌, map, Option, Some, None, codes}
use Rattle.std.specs.Str.Lossy.{utf8_lossy}
use denote.Enum.Bare.{sameb}
use Rattle.naga_oil_ir.specs.Backend.{FaultValue}
use Rattle.naga_oil_ir.specs.declared.span.Span.{Span as Place}
use Rattle.yettuvam_wgsl_words.specs.declared.token.Span.{Span}
use Rattle.yettuvam_wgsl_words.specs.Scan.{Token, same_kind}
use Rattle.yettuvam_wgsl_machine.specs.Machine.{same_rule}
use Rattle.yettuvam_wgsl_machine.specs.declared.refusal.Fault.{Fault as SyntaxFault}
use Rattle.yettuvam_wgsl_machine.specs.declared.refusal.Reason.{Reason}
use Rattle.yettuvam_wgsl_machine.specs.declared.refusal.Reason.TheVariants as reason
use Rattle.yettuvam_wgsl_scope.specs.declared.refusal.Fault.{Fault as MeaningFault}
use Rattle.yettuvam_wgsl_scope.specs.declared.refusal.Reason.{Reason as Meaning}
use Rattle.yettuvam_wgsl_scope.specs.declared.refusal.Reason.TheVariants as meaning
use Rattle.yettuvam_wgsl_words.specs.declared.token.Kind.{Kind}
use Rattle.yettuvam_wgsl_words.specs.declared.refusal.Reason.{Reason as Words}
use Rattle.yettuvam_wgsl_words.specs.contracts.refusal.Reason.{the_type as words_type}
use Rattle.yettuvam_wgsl_machine.specs.declared.symbol.Rule.{Rule}
use Rattle.yettuvam_wgsl_scope.specs.contracts.refusal.Reason.{the_type as meaning_type}
use Rattle.yettuvam_wgsl_faults.specs.Notes.{between, note_in, syntax_note}
use Rattle.yettuvam_wgsl_faults.specs.Tables.{Text, text_in, glsl_rows}
use Rattle.yettuvam_wgsl_faults.specs.declared.tables.TheConstants.{KINDS, RULES, NO_TOKEN, NO_MEANING}

abbrev pub span_of : Span → Place
span_of s = record { start = s.start; end = s.end }

-- a table of texts by keys that are compared
abbrev pub kind_text : Kind → Text
kind_text kind = text_in same_kind (map (λ e. (e.0, e.1.now)) KINDS) kind

abbrev pub rule_text : Rule → Text
rule_text rule = text_in same_rule (map (λ e. (e.0, e.1.now)) RULES) rule

abbrev pub no_token_text : Words → Text
no_token_text why = text_in (sameb words_type) (map (λ e. (e.0, e.1.now)) NO_TOKEN) why

abbrev pub no_meaning_text : Meaning → Text
no_meaning_text why = text_in (sameb meaning_type) (map (λ e. (e.0, e.1.now)) NO_MEANING) why

-- a message in two parts
abbrev pub message_of : Reason → Text × Text
message_of (reason.Words why) = ([], no_token_text why)
message_of (reason.Wanted kind) = (codes "expected ", kind_text kind)
message_of (reason.Unexpected rule) = (codes "expected ", rule_text rule)
message_of reason.DeepBlocks = ([], codes "more than 256 blocks are open")
message_of reason.DeepParts = ([], codes "more than 10000 parts of expressions are open")
message_of reason.Endless = ([], codes "the grammar has no end")

abbrev pub joined : Text × Text → Text
joined message = message.0 ++ message.1

-- what is found at a place, in quotes
abbrev pub label : Text → Text
label [] = codes "the end of the text"
label (byte ∷ more) = codes "`" ++ utf8_lossy (byte ∷ more) ++ codes "`"

abbrev pub places : (found : Text) → Span → List (Place × Text)
places found at = (span_of at, label found) ∷ []

abbrev pub first_label : Meaning → Text
first_label meaning.DeclaredTwice = codes "first declared here"
first_label _ = codes "this item leads back to it"

abbrev pub first_places : Meaning → Option Span → List (Place × Text)
first_places why None = []
first_places why (Some first) = (span_of first, first_label why) ∷ []

-- the places, and the second place of the fault
abbrev pub with_first : MeaningFault → List (Place × Text) → List (Place × Text)
with_first fault places = places ++ first_places fault.reason fault.first

abbrev pub notes : Option Text → List Text
notes None = []
notes (Some note) = note ∷ []

-- the fault of a text that is no module of the grammar
unfoldable pub syntax_fault : Text → List Token → SyntaxFault → FaultValue
syntax_fault text tokens fault = record { message = joined (message_of fault.reason); spans = places (between text fault.span.start fault.span.end) fault.span; notes = notes (syntax_note text tokens fault.reason fault.span) }

-- the fault of a text whose syntax is right, and that has no meaning
unfoldable pub meaning_fault : Text → MeaningFault → FaultValue
meaning_fault text fault = record { message = no_meaning_text fault.reason; spans = with_first fault (places (between text fault.span.start fault.span.end) fault.span); notes = notes (note_in glsl_rows (between text fault.span.start fault.span.end)) }
