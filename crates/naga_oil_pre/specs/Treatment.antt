-- The code's treatment of a line, seen as its status.
use Rattle.std.specs.Prelude.{◌≡◌, ℕ, List, MatchOption}
use Rattle.naga_oil_conditions.specs.declared.fault.ComposerErrorInner.{ComposerErrorInner}
use Rattle.naga_oil_pre.specs.declared.preprocess.Treatment.{Treatment}
use Rattle.naga_oil_pre.specs.declared.preprocess.Treatment.TheVariants.{Blank, Show, Import}
use Rattle.naga_oil_conditions.specs.Line.{Line}
use Rattle.naga_oil_pre.specs.Preprocessed.{Status, blanked, shown, imported, noted}
use Rattle.naga_oil_pre.specs.Reading.{taken}
use Rattle.naga_oil_conditions.specs.View.{fault_of}

abbrev pub open_after : Treatment → ℕ
open_after Blank = 0
open_after Show = 0
open_after (Import n) = n

abbrev pub status_of : Treatment → Line → List Line → Status
status_of Blank l more = blanked l
status_of Show l more = shown l
status_of (Import n) l more = imported l (taken n more)

-- an error is the fault of a line, or out of memory
abbrev pub Notes : ComposerErrorInner → Status → Type 0
Notes e status = MatchOption (fault_of e) (Unit {0}) (λ f. status ≡ noted f)
