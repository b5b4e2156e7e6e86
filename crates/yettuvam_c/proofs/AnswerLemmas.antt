-- The page for each status, and the result of an error.
use Rattle.std.proofs.Common.{◌≡◌, ℕ, ◌≤◌, List, [], map, Bool, true, false, refl, sym, ap, ◌∙◌, arith, Option, Some, None, MatchOption, Result, Ok, Err}
use mathlib.Core.Logic.{⊎_elim, inl, inr}
use Rattle.std.specs.Prelude.{◌⊎◌, IfOk, IfErr, MatchResult}
use Rattle.naga_oil_conditions.specs.Fault.{Fault}
use Rattle.naga_oil_pre.specs.Metadata.{Metadata, metadata}
use Rattle.naga_oil_pre.specs.MetadataView.{metadata_of}
use Rattle.naga_oil_pre.specs.Preprocessed.{Output, preprocessed}
use Rattle.naga_oil_pre.specs.declared.metadata.PreprocessorMetaData.{PreprocessorMetaData}
use Rattle.yettuvam_build.specs.Built.{built_text}
use Rattle.yettuvam_wgsl.specs.Front.{wgsl}
use Rattle.yettuvam_c.specs.Answer.{Reply, output_reply, value_reply, fault_reply, reply_of, IsPreprocessed, IsMetadata, IsReplyPut, IsPut, Replies, RepliesRoom, IsUnwritten}
use Rattle.yettuvam_c.specs.Built.{IsBuilt, request_of, source_file, text_reply}
use Rattle.yettuvam_c.specs.Given.{listed}
use Rattle.yettuvam_c.specs.Parts.{metadata_parts}
use Rattle.yettuvam_c.specs.declared.given.Refusal.{Refusal}
use Rattle.yettuvam_c.specs.declared.given.Refusal.TheVariants.{Memory, NotUtf8, BadDefinition}
use Rattle.yettuvam_c.specs.declared.page.Define.{Define}
use Rattle.yettuvam_c.specs.declared.page.Page.{Page}
use Rattle.yettuvam_c.specs.declared.page.Source.{Source}
use Rattle.yettuvam_c.specs.declared.page.Task.{Task}
use Rattle.yettuvam_c.specs.declared.sheet.Sheet.{Sheet}

-- the result of a text with an error
pub fault_is_reply : (path text : List ℕ) (value : Result Output Fault) (o : Option Fault) (reply : Reply) → MatchOption o (Unit {0}) (λ f. value ≡ Err f) → MatchOption o ⊥ (λ f. reply ≡ fault_reply path text f) → reply ≡ output_reply path text value
fault_is_reply path text value None reply fails is = absurd is
fault_is_reply path text value (Some f) reply fails is = is ∙ sym (ap (output_reply path text) fails)

-- the result of metadata with an error
pub metadata_fault_is_reply : (path text : List ℕ) (value : Result Metadata Fault) (o : Option Fault) (reply : Reply) → MatchOption o (Unit {0}) (λ f. value ≡ Err f) → MatchOption o ⊥ (λ f. reply ≡ fault_reply path text f)
    → MatchResult value (λ m. (found : PreprocessorMetaData) × (m ≡ metadata_of found) × (reply ≡ value_reply (metadata_parts found))) (λ f. reply ≡ fault_reply path text f)
metadata_fault_is_reply path text value None reply fails is = absurd is
metadata_fault_is_reply path text value (Some f) reply fails is = rw fails is

-- the result of metadata
pub metadata_is_reply : (path text : List ℕ) (value : Result Metadata Fault) (found : PreprocessorMetaData) (reply : Reply) → value ≡ Ok (metadata_of found) → reply ≡ value_reply (metadata_parts found)
    → MatchResult value (λ m. (found : PreprocessorMetaData) × (m ≡ metadata_of found) × (reply ≡ value_reply (metadata_parts found))) (λ f. reply ≡ fault_reply path text f)
metadata_is_reply path text value found reply gives is = rw gives (found, refl, is)

-- a result has the status 0 or 1
output_low : (path text : List ℕ) (value : Result Output Fault) → (output_reply path text value).0 ≤ 1
output_low path text (Ok o) = omega arith
output_low path text (Err f) = omega arith

pub preprocess_low : (source : Source) (given : List Define) (reply : Reply) → IsPreprocessed source given reply → reply.0 ≤ 1
preprocess_low source given reply is = rw is.2 (output_low source.path.now source.text.now (preprocessed is.0 source.text.now))

found_low : (path text : List ℕ) (value : Result Metadata Fault) (reply : Reply) → MatchResult value (λ m. (found : PreprocessorMetaData) × (m ≡ metadata_of found) × (reply ≡ value_reply (metadata_parts found))) (λ f. reply ≡ fault_reply path text f) → reply.0 ≤ 1
found_low path text (Ok m) reply is = rw is.2 (omega arith)
found_low path text (Err f) reply is = rw is (omega arith)

pub metadata_low : (source : Source) (allow_defines : Bool) (reply : Reply) → IsMetadata source allow_defines reply → reply.0 ≤ 1
metadata_low source allow_defines reply is = found_low source.path.now source.text.now (metadata allow_defines source.text.now) reply is

text_low : (value : Result (List ℕ) (List ℕ)) → (text_reply value).0 ≤ 1
text_low (Ok text) = omega arith
text_low (Err report) = omega arith

pub built_low : (task : Task) (reply : Reply) → IsBuilt task reply → reply.0 ≤ 1
built_low task reply is = rw is.1 (text_low (built_text wgsl (request_of task) (listed [] task.definitions.now) (source_file task.shader) (map source_file task.modules.now)))

-- a result on a page, with the status 0 or 1, or a refusal
module _ (IsAnswer : Reply → Type 0) (R : Refusal → Type 0) (low : (reply : Reply) → IsAnswer reply → reply.0 ≤ 1) (status : ℕ) (old new : Page) where
  reply_put : (reply : Reply) (room : Bool) → IsAnswer reply → IsReplyPut reply room status old new → status ≤ 1 → Replies IsAnswer status old new
  reply_put reply true is put h = (reply, is, put.1, put.2)
  reply_put reply false is put h = absurd (omega (arith, put.1, h))

  no_room_put : (reply : Reply) (room : Bool) → IsAnswer reply → IsReplyPut reply room status old new → status ≡ 5 → RepliesRoom IsAnswer old new
  no_room_put reply true is put h = absurd (omega (arith, put.1, h, low reply is))
  no_room_put reply false is put h = (reply, is, sym put.0, put.2)

  unwritten_put : (reply : Reply) (room : Bool) → IsAnswer reply → IsReplyPut reply room status old new → 2 ≤ status → IsUnwritten old new
  unwritten_put reply true is put h = absurd (omega (arith, put.1, h, low reply is))
  unwritten_put reply false is put h = (put.2.1, put.2.2)

  status_put : (reply : Reply) (room : Bool) → IsAnswer reply → IsReplyPut reply room status old new → (status ≤ 1) ⊎ (status ≡ 5)
  status_put reply true is put = inl (omega (arith, put.1, low reply is))
  status_put reply false is put = inr put.1

  -- ---- for each result
  pub known : (a : Result (ℕ × Sheet) Refusal) → IfOk a (λ s. IsAnswer (reply_of s)) → IsPut a status old new → status ≤ 5
  known (Ok s) is put = ⊎_elim (λ h. omega (arith, h)) (λ h. omega (arith, h)) (status_put (reply_of s) put.0 is put.1)
  known (Err Memory) is put = omega (arith, put.0)
  known (Err NotUtf8) is put = omega (arith, put.0)
  known (Err (BadDefinition index)) is put = omega (arith, put.0)

  pub reply : (a : Result (ℕ × Sheet) Refusal) → IfOk a (λ s. IsAnswer (reply_of s)) → IsPut a status old new → status ≤ 1 → Replies IsAnswer status old new
  reply (Ok s) is put h = reply_put (reply_of s) put.0 is put.1 h
  reply (Err Memory) is put h = absurd (omega (arith, put.0, h))
  reply (Err NotUtf8) is put h = absurd (omega (arith, put.0, h))
  reply (Err (BadDefinition index)) is put h = absurd (omega (arith, put.0, h))

  pub no_room : (a : Result (ℕ × Sheet) Refusal) → IfOk a (λ s. IsAnswer (reply_of s)) → IsPut a status old new → status ≡ 5 → RepliesRoom IsAnswer old new
  no_room (Ok s) is put h = no_room_put (reply_of s) put.0 is put.1 h
  no_room (Err Memory) is put h = absurd (omega (arith, put.0, h))
  no_room (Err NotUtf8) is put h = absurd (omega (arith, put.0, h))
  no_room (Err (BadDefinition index)) is put h = absurd (omega (arith, put.0, h))

  pub unwritten : (a : Result (ℕ × Sheet) Refusal) → IfOk a (λ s. IsAnswer (reply_of s)) → IsPut a status old new → 2 ≤ status → IsUnwritten old new
  unwritten (Ok s) is put h = unwritten_put (reply_of s) put.0 is put.1 h
  unwritten (Err Memory) is put h = put.1
  unwritten (Err NotUtf8) is put h = put.1
  unwritten (Err (BadDefinition index)) is put h = put.2

  pub not_utf8 : (a : Result (ℕ × Sheet) Refusal) → IfOk a (λ s. IsAnswer (reply_of s)) → IfErr a R → IsPut a status old new → status ≡ 3 → R NotUtf8
  not_utf8 (Ok s) is why put h = ⊎_elim (λ l. absurd (omega (arith, h, l))) (λ l. absurd (omega (arith, h, l))) (status_put (reply_of s) put.0 is put.1)
  not_utf8 (Err Memory) is why put h = absurd (omega (arith, put.0, h))
  not_utf8 (Err NotUtf8) is why put h = why
  not_utf8 (Err (BadDefinition index)) is why put h = absurd (omega (arith, put.0, h))

  pub bad : (a : Result (ℕ × Sheet) Refusal) → IfOk a (λ s. IsAnswer (reply_of s)) → IfErr a R → IsPut a status old new → status ≡ 4 → R (BadDefinition new.count)
  bad (Ok s) is why put h = ⊎_elim (λ l. absurd (omega (arith, h, l))) (λ l. absurd (omega (arith, h, l))) (status_put (reply_of s) put.0 is put.1)
  bad (Err Memory) is why put h = absurd (omega (arith, put.0, h))
  bad (Err NotUtf8) is why put h = absurd (omega (arith, put.0, h))
  bad (Err (BadDefinition index)) is why put h = rw put.1 why
