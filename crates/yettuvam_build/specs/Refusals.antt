-- The errors of the program, and their messages.
use Rattle.std.specs.Prelude.{◌≡◌, ℕ, List, ◌++◌, ◌∷◌, [], codes, Result, Ok, Err, Option, Some, None, Contains, ⊤, string_bytes}
use Rattle.std.specs.Io.KnownBytes.{Appends}
use Rattle.yettuvam_build.specs.Defined.{definitions_of}
use Rattle.yettuvam_build.specs.Words.{Command, build}
use Rattle.yettuvam_build.specs.declared.refusal.Refusal.{Refusal}
use Rattle.yettuvam_build.specs.declared.refusal.Refusal.TheVariants.{Usage, BadDefinition, CannotRead, Fault, Memory, Write}

-- ---- messages

-- the status: 2 for the command line and the files, 1 for the texts and the streams
abbrev pub status_of : Refusal → ℕ
status_of Usage = 2
status_of (BadDefinition word) = 2
status_of (CannotRead file) = 2
status_of (Fault report) = 1
status_of Memory = 1
status_of Write = 1

-- the usage line
abbrev pub usage : List ℕ
usage = codes "usage: yettuvam build TOP [MODULE..] [-D NAME[=VALUE]].. [--with MODULE].. [--override-any]" ++ 10 ∷ []

-- the message: the report of an error, or a line; for a failed write nothing
abbrev pub message_of : Refusal → List ℕ
message_of Usage = usage
message_of (BadDefinition word) = codes "bad definition " ++ word.now ++ 10 ∷ []
message_of (CannotRead file) = codes "cannot read " ++ file.now ++ 10 ∷ []
message_of (Fault report) = string_bytes report
message_of Memory = codes "error: out of memory" ++ 10 ∷ []
message_of Write = []

-- a front of bytes is appended
abbrev pub AppendsFront : (old new : Option (List ℕ)) → List ℕ → Type 0
AppendsFront old new bytes = (front rest : List ℕ) × (front ++ rest ≡ bytes) × Appends old new front

-- a front of the message is written
abbrev pub TellsFront : Refusal → (old new : Option (List ℕ)) → Type 0
TellsFront refusal old new = AppendsFront old new (message_of refusal)

-- the message is written
abbrev pub Tells : Refusal → (old new : Option (List ℕ)) → Type 0
Tells refusal old new = Appends old new (message_of refusal)

abbrev pub IsWrite : Refusal → Type 0
IsWrite e = e ≡ Write

-- only a failed write may leave a part of the text
abbrev pub LeavesOut : {A : Type 0} → Refusal → (old new : A) → Type 0
LeavesOut Write old new = ⊤
LeavesOut e old new = new ≡ old

-- ---- errors of steps

-- the refusal of a report, or out of memory
abbrev pub Fails : {Y : Type 0} → Refusal → Result Y (List ℕ) → Type 0
Fails (Fault report) value = value ≡ Err (string_bytes report)
Fails Memory value = ⊤
Fails e value = ⊥

-- a result, seen by view, is the value, or a refusal as above
abbrev pub Gives : {X Y : Type 0} → (X → Y) → Result X Refusal → Result Y (List ℕ) → Type 0
Gives view (Ok x) value = value ≡ Ok (view x)
Gives view (Err e) value = Fails e value

-- the errors of words: they are no command, or memory runs out for a request
abbrev pub RefusesWords : Option Command → Refusal → Type 0
RefusesWords None Usage = ⊤
RefusesWords (Some (build r)) Memory = ⊤
RefusesWords asked e = ⊥

-- the errors of the definitions of words
abbrev pub RefusesDefinitions : List (List ℕ) → Refusal → Type 0
RefusesDefinitions words (BadDefinition word) = definitions_of words ≡ Err word.now
RefusesDefinitions words Memory = ⊤
RefusesDefinitions words e = ⊥

-- the errors of reading files: one of them can't be read
abbrev pub RefusesFiles : List (List ℕ) → Refusal → Type 0
RefusesFiles files (CannotRead file) = Contains files file.now
RefusesFiles files Memory = ⊤
RefusesFiles files e = ⊥
