-- The requests that `oil` itself doesn't take.
use Rattle.std.specs.Prelude.{◌≡◌, ℕ, ◌&&◌, if◌then◌else◌, List, [], ◌∷◌, codes, bytes_eq, Option, Some, None, true, ⊤}
use Rattle.std.specs.Io.KnownBytes.{Appends}
use Rattle.naga_oil_pre.specs.Metadata.{metadata}
use Rattle.naga_oil_mini.specs.Help as text
use Rattle.naga_oil_mini.specs.Listing.{IsListed}
use Rattle.naga_oil_mini.specs.Made.{File}
use Rattle.naga_oil_mini.specs.Shown.{Reports, Refuses, Writes}
use Rattle.naga_oil_mini.specs.Words.{is_file}
use Rattle.naga_oil_mini.specs.declared.mini.program.Extra.{Extra as ExtraCode}
use Rattle.naga_oil_mini.specs.declared.mini.program.Extra.TheVariants as code
use Rattle.naga_oil_mini.specs.declared.mini.refusal.Refusal.{Refusal}
use Rattle.naga_oil_mini.specs.declared.mini.refusal.Refusal.TheVariants.{CannotRead, Fault, Memory, Write}

pub data Extra : Type 0 where
  help : Extra
  version : Extra
  metadata_of_file : (file : List ℕ) → Extra

-- a word alone
abbrev pub extra_of_word : List ℕ → Option Extra
extra_of_word word =
    if bytes_eq word (codes "--help") then Some help
    else (if bytes_eq word (codes "--version") then Some version else None)

-- `pre` with its option and a file
abbrev pub extra_of_file : (command option file : List ℕ) → Option Extra
extra_of_file command option file =
    if bytes_eq command (codes "pre") && bytes_eq option (codes "--metadata") && is_file file
    then Some (metadata_of_file file) else None

-- the request that `oil` itself doesn't take
abbrev pub extra : List (List ℕ) → Option Extra
extra (word ∷ []) = extra_of_word word
extra (command ∷ option ∷ file ∷ []) = extra_of_file command option file
extra words = None

-- a file is read, and this is its text
abbrev pub HasText : (reads : List File → Type 0) → (file source : List ℕ) → Type 0
HasText reads file source = reads (record { path = file; text = source } ∷ [])

-- the lines of the metadata of a file that is read
abbrev pub IsListedFile : (reads : List File → Type 0) → (file shown : List ℕ) → Type 0
IsListedFile reads file shown = (source : List ℕ) × HasText reads file source × IsListed source shown

-- the text that is shown: a fixed text, or the lines of the metadata of a file that is read
abbrev pub ShowsExtra : (reads : List File → Type 0) → Extra → List ℕ → Type 0
ShowsExtra reads help shown = shown ≡ text.help
ShowsExtra reads version shown = shown ≡ text.version
ShowsExtra reads (metadata_of_file file) shown = IsListedFile reads file shown

-- the errors: a write fails, or the file can't be read, or its text has an error, or memory runs out
abbrev pub RefusesExtra : (reads : List File → Type 0) → Extra → Refusal → Type 0
RefusesExtra reads asked Write = ⊤
RefusesExtra reads (metadata_of_file file) (CannotRead read) = read.now ≡ file
RefusesExtra reads (metadata_of_file file) (Fault report) = (source : List ℕ) × HasText reads file source × Reports file source (metadata true source) (Fault report)
RefusesExtra reads (metadata_of_file file) Memory = ⊤
RefusesExtra reads asked e = ⊥

-- the text that is requested is written
abbrev pub WritesExtra : (reads : List File → Type 0) → Extra → (old new : Option (List ℕ)) → Type 0
WritesExtra reads asked old new = (shown : List ℕ) × ShowsExtra reads asked shown × Appends old new shown

-- the text of a request that `oil` doesn't take, or else of `oil`, is written
abbrev pub WritesBy : (reads : List File → Type 0) → Option Extra → List (List ℕ) → (old new : Option (List ℕ)) → Type 0
WritesBy reads None words old new = Writes reads words old new
WritesBy reads (Some asked) words old new = WritesExtra reads asked old new

-- the text that the words request of the program is written
abbrev pub WritesAny : (reads : List File → Type 0) → List (List ℕ) → (old new : Option (List ℕ)) → Type 0
WritesAny reads words old new = WritesBy reads (extra words) words old new

-- the errors of a request that `oil` doesn't take, or else of `oil`
abbrev pub RefusesBy : (reads : List File → Type 0) → Option Extra → List (List ℕ) → Refusal → Type 0
RefusesBy reads None words e = Refuses reads words e
RefusesBy reads (Some asked) words e = RefusesExtra reads asked e

-- the errors of the program
abbrev pub RefusesAny : (reads : List File → Type 0) → List (List ℕ) → Refusal → Type 0
RefusesAny reads words e = RefusesBy reads (extra words) words e

-- ---- as the code has them
abbrev pub extra_of : ExtraCode → Extra
extra_of code.Help = help
extra_of code.Version = version
extra_of (code.Metadata file) = metadata_of_file file.now
