-- The errors of `oil`, and their messages.
use Rattle.std.specs.Prelude.{◌≡◌, ℕ, List, ◌++◌, ◌∷◌, [], codes, drop, map, Result, Ok, Err, Option, Some, None, IsSome, IfSome, IsOk, Contains, ⊤, string_bytes}
use Rattle.std.specs.Io.KnownBytes.{Appends}
use Rattle.naga_oil_registry.specs.Report as written
use Rattle.naga_oil_conditions.specs.Fault.{Fault as FaultOfText}
use Rattle.naga_oil_registry.specs.Registered.{Defs}
use Rattle.naga_oil.specs.Reach.{defined}
use Rattle.naga_oil_mini.specs.Defined.{definitions_among}
use Rattle.naga_oil_mini.specs.Made.{File, Failure, reported, not_in_mini, made_text}
use Rattle.naga_oil_mini.specs.Printed.{printed}
use Rattle.naga_oil_mini.specs.Words.{Asked, asked}
use Rattle.naga_oil_mini.specs.declared.mini.words.Task.{Task}
use Rattle.naga_oil_mini.specs.declared.mini.words.Task.TheVariants.{Preprocess, Make}
use Rattle.naga_oil_mini.specs.declared.mini.refusal.Refusal.{Refusal}
use Rattle.naga_oil_mini.specs.declared.mini.refusal.Refusal.TheVariants.{Usage, BadDefinition, CannotRead, Fault, Memory, NotInMini, Write}

-- the status: 2 for the command line and the files, 1 for the texts and the streams
abbrev pub status_of : Refusal → ℕ
status_of Usage = 2
status_of (BadDefinition word) = 2
status_of (CannotRead file) = 2
status_of (Fault report) = 1
status_of Memory = 1
status_of NotInMini = 1
status_of Write = 1

-- the usage line of `oil`
abbrev pub usage : List ℕ
usage = codes "usage: oil pre FILE [NAME=VALUE..] | oil make [--override-any] TOP [MODULE..] [+NAME..] [NAME=VALUE..]" ++ 10 ∷ []

-- the message: the report of an error, or a line; for a failed write nothing
abbrev pub message_of : Refusal → List ℕ
message_of Usage = usage
message_of (BadDefinition word) = codes "bad definition " ++ word.now ++ 10 ∷ []
message_of (CannotRead file) = codes "cannot read " ++ file.now ++ 10 ∷ []
message_of (Fault report) = string_bytes report
message_of Memory = codes "error: out of memory" ++ 10 ∷ []
message_of NotInMini = codes "error: not in Mini" ++ 10 ∷ []
message_of Write = []

-- a front of bytes is appended
abbrev pub AppendsFront : (old new : Option (List ℕ)) → List ℕ → Type 0
AppendsFront old new bytes = (front rest : List ℕ) × (front ++ rest ≡ bytes) × Appends old new front

-- a front of the message is written
abbrev pub TellsFront : Refusal → (old new : Option (List ℕ)) → Type 0
TellsFront refusal old new = AppendsFront old new (message_of refusal)

-- the message is written
abbrev pub Tells : Refusal → (old new : Option (List ℕ)) → Type 0
Tells refusal old new = Appends old new (message_of refusal)

-- the refusal of a text with an error: its report, or out of memory
abbrev pub Reports : {Y : Type 0} → (path text : List ℕ) → Result Y FaultOfText → Refusal → Type 0
Reports path text value (Fault report) = (f : FaultOfText) × (value ≡ Err f) × (string_bytes report ≡ written.report path text 0 (Some f))
Reports path text value Memory = ⊤
Reports path text value e = ⊥

-- the refusal of a task that fails, or out of memory
abbrev pub Fails : {Y : Type 0} → Refusal → Result Y Failure → Type 0
Fails (Fault report) value = value ≡ Err (reported (string_bytes report))
Fails NotInMini value = value ≡ Err not_in_mini
Fails Memory value = ⊤
Fails e value = ⊥

-- a result, seen by view, is the value, or a refusal as above
abbrev pub Gives : {X Y : Type 0} → (X → Y) → Result X Refusal → Result Y Failure → Type 0
Gives view (Ok x) value = value ≡ Ok (view x)
Gives view (Err e) value = Fails e value

-- the errors of words: a wrong command line, or out of memory
abbrev pub RefusesWords : List (List ℕ) → Refusal → Type 0
RefusesWords words Usage = asked words ≡ None
RefusesWords words Memory = IsSome (asked words)
RefusesWords words e = ⊥

-- the errors of the definitions among the words
abbrev pub RefusesDefinitions : List (List ℕ) → Refusal → Type 0
RefusesDefinitions words (BadDefinition word) = definitions_among words ≡ Err word.now
RefusesDefinitions words Memory = ⊤
RefusesDefinitions words e = ⊥

-- the errors of reading files: one of them can't be read
abbrev pub RefusesFiles : List (List ℕ) → Refusal → Type 0
RefusesFiles files (CannotRead file) = Contains files file.now
RefusesFiles files Memory = ⊤
RefusesFiles files e = ⊥

-- words have a request, and valid definitions
abbrev pub IsAsked : List (List ℕ) → Type 0
IsAsked words = IsSome (asked words) × IsOk (definitions_among (drop 1 words))

-- ---- what a task shows

-- the preprocessed text of a file, or the report of its error
abbrev pub or_report_of : File → Result (List ℕ) FaultOfText → Result (List ℕ) Failure
or_report_of f (Ok text) = Ok text
or_report_of f (Err fault) = Err (reported (written.report f.path f.text 0 (Some fault)))

-- the text that a task shows under definitions: the preprocessed text of the first file, or the text of the module that is made of all
abbrev pub task_text : Task → Asked → Defs → (top : File) → (others : List File) → Result (List ℕ) Failure
task_text Preprocess a defs top others = or_report_of top (printed (defined defs) top.text)
task_text Make a defs top others = made_text a defs top others

-- Words with a request and valid definitions, and the files of the request, in their order, as they are read.
pub record Given (reads : List File → Type 0) (words : List (List ℕ)) : Type 0 where
  pub request : Asked
  pub defs : Defs
  pub top : File
  pub others : List File
  pub is_request : asked words ≡ Some request
  pub are_definitions : definitions_among (drop 1 words) ≡ Ok defs
  pub are_named : map (λ f. f.path) (top ∷ others) ≡ request.files
  pub are_read : reads (top ∷ others)

-- the text that the words request of these files, or what is wrong
abbrev pub shown_of : {reads : List File → Type 0} {words : List (List ℕ)} → Given reads words → Result (List ℕ) Failure
shown_of g = task_text g.request.task g.request g.defs g.top g.others

-- the words request a text of the files that are read
abbrev pub IsShown : (reads : List File → Type 0) → List (List ℕ) → (shown : List ℕ) → Type 0
IsShown reads words shown = (g : Given reads words) × (shown_of g ≡ Ok shown)

-- the text that the words request of the files that are read is written
abbrev pub Writes : (reads : List File → Type 0) → List (List ℕ) → (old new : Option (List ℕ)) → Type 0
Writes reads words old new = (shown : List ℕ) × IsShown reads words shown × Appends old new shown

-- the task fails at the files that are read
abbrev pub IsFailed : (reads : List File → Type 0) → List (List ℕ) → Failure → Type 0
IsFailed reads words f = (g : Given reads words) × (shown_of g ≡ Err f)

-- the errors of the words: a wrong command line, or else a wrong definition, or else a file, or else the task fails
abbrev pub Refuses : (reads : List File → Type 0) → List (List ℕ) → Refusal → Type 0
Refuses reads words Usage = asked words ≡ None
Refuses reads words (BadDefinition word) = IsSome (asked words) × (definitions_among (drop 1 words) ≡ Err word.now)
Refuses reads words (CannotRead file) = IsAsked words × IfSome (asked words) (λ a. Contains a.files file.now)
Refuses reads words (Fault report) = IsFailed reads words (reported (string_bytes report))
Refuses reads words Memory = IsSome (asked words)
Refuses reads words NotInMini = IsFailed reads words not_in_mini
Refuses reads words Write = (shown : List ℕ) × IsShown reads words shown

-- only a failed write may leave a part of the text
abbrev pub LeavesOut : {A : Type 0} → Refusal → (old new : A) → Type 0
LeavesOut Write old new = ⊤
LeavesOut e old new = new ≡ old
