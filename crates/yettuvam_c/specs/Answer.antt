-- The results of the calls.
use Rattle.std.specs.Prelude.{◌≡◌, ℕ, List, [], ◌∷◌, Bool, true, false, if◌then◌else◌, Result, Ok, Err, Some, MatchResult}
use Rattle.naga_oil_conditions.specs.Fault.{Fault, Definitions}
use Rattle.naga_oil_pre.specs.Metadata.{none_defined, metadata}
use Rattle.naga_oil_pre.specs.MetadataView.{metadata_of}
use Rattle.naga_oil_pre.specs.Preprocessed.{Output, preprocessed}
use Rattle.naga_oil_pre.specs.declared.metadata.PreprocessorMetaData.{PreprocessorMetaData}
use Rattle.yettuvam_c.specs.Given.{defined_by}
use Rattle.yettuvam_c.specs.Laid.{Part, Laid, laid, laid_of, fits, Stands}
use Rattle.yettuvam_c.specs.Parts.{output_parts, metadata_parts, fault_part}
use Rattle.yettuvam_c.specs.declared.page.Define.{Define}
use Rattle.yettuvam_c.specs.declared.page.Page.{Page}
use Rattle.yettuvam_c.specs.declared.page.Source.{Source}
use Rattle.yettuvam_c.specs.declared.sheet.Sheet.{Sheet}
use Rattle.yettuvam_c.specs.declared.given.Refusal.{Refusal}
use Rattle.yettuvam_c.specs.declared.given.Refusal.TheVariants.{Memory, NotUtf8, BadDefinition}

-- a result: the status, 0 for a value and 1 for an error, and the parts
abbrev pub Reply : Type 0
Reply = ℕ × Laid

abbrev pub value_reply : List Part → Reply
value_reply parts = (0, laid parts)

abbrev pub fault_reply : (path text : List ℕ) → Fault → Reply
fault_reply path text f = (1, laid (fault_part path text (Some f) ∷ []))

-- ---- a preprocessed text
abbrev pub output_reply : (path text : List ℕ) → Result Output Fault → Reply
output_reply path text (Ok o) = value_reply (output_parts o)
output_reply path text (Err f) = fault_reply path text f

abbrev pub preprocess_reply : (path text : List ℕ) → Definitions → Reply
preprocess_reply path text defs = output_reply path text (preprocessed defs text)

-- the result of preprocessing a source under the caller's definitions
abbrev pub IsPreprocessed : Source → List Define → Reply → Type 0
IsPreprocessed source given reply = (defs : Definitions) × (defined_by 0 none_defined given ≡ Ok defs) × (reply ≡ preprocess_reply source.path.now source.text.now defs)

-- ---- the metadata of a text
abbrev pub IsMetadataReply : (path text : List ℕ) → (allow_defines : Bool) → Reply → Type 0
IsMetadataReply path text allow_defines reply = MatchResult (metadata allow_defines text)
    (λ m. (found : PreprocessorMetaData) × (m ≡ metadata_of found) × (reply ≡ value_reply (metadata_parts found)))
    (λ f. reply ≡ fault_reply path text f)

abbrev pub IsMetadata : Source → (allow_defines : Bool) → Reply → Type 0
IsMetadata source allow_defines reply = IsMetadataReply source.path.now source.text.now allow_defines reply

-- ---- as the code has them
abbrev pub reply_of : ℕ × Sheet → Reply
reply_of a = (a.0, laid_of a.1)

-- ---- on a page

-- the page has such a result, under its status
abbrev pub Replies : (Reply → Type 0) → (status : ℕ) → (old new : Page) → Type 0
Replies IsAnswer status old new = (reply : Reply) × IsAnswer reply × (status ≡ reply.0) × Stands true reply.1 old new

-- the page has the counts of such a result, for which it lacks room
abbrev pub RepliesRoom : (Reply → Type 0) → (old new : Page) → Type 0
RepliesRoom IsAnswer old new = (reply : Reply) × IsAnswer reply × (fits reply.1 old ≡ false) × Stands false reply.1 old new

-- nothing is written on the page
abbrev pub IsUnwritten : (old new : Page) → Type 0
IsUnwritten old new = (new.out.now ≡ old.out.now) × (new.fields.now ≡ old.fields.now)

abbrev pub IsReplyPut : Reply → (room : Bool) → (status : ℕ) → (old new : Page) → Type 0
IsReplyPut reply room status old new = (room ≡ fits reply.1 old) × (status ≡ (if room then reply.0 else 5)) × Stands room reply.1 old new

-- a result is written on a page
abbrev pub IsPut : Result (ℕ × Sheet) Refusal → (status : ℕ) → (old new : Page) → Type 0
IsPut (Ok a) status old new = (room : Bool) × IsReplyPut (reply_of a) room status old new
IsPut (Err Memory) status old new = (status ≡ 2) × IsUnwritten old new
IsPut (Err NotUtf8) status old new = (status ≡ 3) × IsUnwritten old new
IsPut (Err (BadDefinition index)) status old new = (status ≡ 4) × (new.count ≡ index) × IsUnwritten old new
