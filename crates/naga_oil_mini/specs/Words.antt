-- The request of a command line.
use Rattle.std.specs.Prelude.{ℕ, Bool, true, false, not, ◌==◌, ◌&&◌, if◌then◌else◌, Option, Some, None, is_none, List, [], ◌∷◌, bytes_eq, codes, filter, length}
use Rattle.std.specs.List.{list_any, filter_map}
use Rattle.naga_oil_words.specs.Bytes.{equals_sign, plus_sign}
use Rattle.naga_oil_words.specs.OptionSteps.{◌>>=◌}
use Rattle.naga_oil_mini_symbols.specs.NameTable.{texts_of}
use Rattle.naga_oil_mini.specs.declared.mini.words.Task.{Task}
use Rattle.naga_oil_mini.specs.declared.mini.words.Task.TheVariants.{Preprocess, Make}
use Rattle.naga_oil_mini.specs.declared.mini.words.Request.{Request}

-- a word with `=` is a definition
abbrev pub is_definition : List ℕ → Bool
is_definition word = list_any (λ b. b == equals_sign) word

-- the name after `+`
abbrev pub import_of : List ℕ → Option (List ℕ)
import_of [] = None
import_of (b ∷ name) = if b == plus_sign then Some name else None

-- the import that a word adds, unless it is a definition
abbrev pub added_import : List ℕ → Option (List ℕ)
added_import word = if is_definition word then None else import_of word

-- any other word that is no definition is a file
abbrev pub is_file : List ℕ → Bool
is_file word = not (is_definition word) && is_none (import_of word)

-- the files among words
abbrev pub files : List (List ℕ) → List (List ℕ)
files words = filter is_file words

-- the imports among words
abbrev pub imports : List (List ℕ) → List (List ℕ)
imports words = filter_map added_import words

-- the task of a command
abbrev pub task_of : List ℕ → Option Task
task_of command = if bytes_eq command (codes "pre") then Some Preprocess else (if bytes_eq command (codes "make") then Some Make else None)

-- `pre` takes one file, and `make` one or more and imports
abbrev pub takes : Task → (files imports : ℕ) → Bool
takes Preprocess files imports = (files == 1) && (imports == 0)
takes Make files imports = not (files == 0)

-- whether words begin with the option of `make` that lets any function be overridden, and the words after the option
abbrev pub with_option : Task → List (List ℕ) → Bool × List (List ℕ)
with_option Preprocess words = (false, words)
with_option Make [] = (false, [])
with_option Make (word ∷ words) = if bytes_eq word (codes "--override-any") then (true, words) else (false, word ∷ words)

-- a request: a task, whether any function may be overridden, files, of which the first is the shader's, and imports
pub record Asked : Type 0 where
  pub task : Task
  pub override_any : Bool
  pub files : List (List ℕ)
  pub imports : List (List ℕ)

-- the request of a task, by its option and the words after it
abbrev pub asked_with : Task → Bool × List (List ℕ) → Option Asked
asked_with task given =
    if takes task (length (files given.1)) (length (imports given.1))
    then Some (record { task = task; override_any = given.0; files = files given.1; imports = imports given.1 })
    else None

-- the request of a task, by the words after its command
abbrev pub task_asked : List (List ℕ) → Task → Option Asked
task_asked words task = asked_with task (with_option task words)

-- the request of the words
abbrev pub asked : List (List ℕ) → Option Asked
asked [] = None
asked (command ∷ words) = task_of command >>= task_asked words

-- ---- as the code has them
abbrev pub asked_of : Request → Asked
asked_of a = record { task = a.task; override_any = a.override_any; files = texts_of a.files.items; imports = texts_of a.imports.items }
