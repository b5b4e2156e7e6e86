-- The request of a command line.
use Rattle.std.specs.Prelude.{ℕ, ◌<◌, Bool, true, false, ◌&&◌, ◌||◌, if◌then◌else◌, is_some, Option, Some, None, option_map, List, [], ◌∷◌, ◌++◌, length, bytes_eq, codes, ⊤}
use Rattle.naga_oil_lines.specs.Text.{past_word}
use Rattle.yettuvam_files.specs.Files.{texts_of}
use Rattle.yettuvam_build.specs.declared.help.TheConstants.{HELP, VERSION}
use Rattle.yettuvam_build.specs.declared.words.Awaited.{Awaited}
use Rattle.yettuvam_build.specs.declared.words.Awaited.TheVariants.{Nothing, Definition, Import, Files}
use Rattle.yettuvam_build.specs.declared.words.Command.{Command as CodeCommand}
use Rattle.yettuvam_build.specs.declared.words.Command.TheVariants as command
use Rattle.yettuvam_build.specs.declared.words.Request.{Request as CodeRequest}
use Rattle.yettuvam_build.specs.declared.words.Role.{Role as CodeRole}
use Rattle.yettuvam_build.specs.declared.words.Role.TheVariants as code

-- ---- words

-- what a word is: a file, what defines a name, a module to import, the option that lets any function be overridden, an option that
-- wants the next word, or wrong
pub data Role : Type 0 where
  file : (path : List ℕ) → Role
  defining : (text : List ℕ) → Role
  importing : (name : List ℕ) → Role
  overriding : Role
  wanting : Awaited → Role
  wrong : Role

-- a definition may follow `-D` in one word; any other word that begins with `-` and is no option is wrong
abbrev pub other_role : List ℕ → Role
other_role word = elim (past_word (codes "-D") word) [
  | Some text ↦ defining text
  | None ↦ if is_some (past_word (codes "-") word) then wrong else file word
]

-- a word that no option wants
abbrev pub free_role : List ℕ → Role
free_role word =
    if bytes_eq word (codes "-") then file word
    else (if bytes_eq word (codes "-D") then wanting Definition
    else (if bytes_eq word (codes "--with") then wanting Import
    else (if bytes_eq word (codes "--override-any") then overriding
    else (if bytes_eq word (codes "--") then wanting Files else other_role word))))

-- a word, by what the option before it wants
abbrev pub role_of : Awaited → List ℕ → Role
role_of Nothing word = free_role word
role_of Definition word = defining word
role_of Import word = importing word
role_of Files word = file word

-- no word has to follow
abbrev pub is_met : Awaited → Bool
is_met Nothing = true
is_met Definition = false
is_met Import = false
is_met Files = true

abbrev pub is_wrong : Role → Bool
is_wrong wrong = true
is_wrong role = false

abbrev pub is_file : Role → Bool
is_file (file path) = true
is_file role = false

-- what a word wants of the next
abbrev pub awaited_by : Role → Awaited
awaited_by (wanting next) = next
awaited_by role = Nothing

-- what is wanted after a word: after `--` all words are files
abbrev pub awaited_after : Awaited → Role → Awaited
awaited_after Files role = Files
awaited_after Nothing role = awaited_by role
awaited_after Definition role = awaited_by role
awaited_after Import role = awaited_by role

-- ---- requests

-- a request: the files, of which the first is the shader's, the words that define names, the modules that are imported besides, and
-- whether any function may be overridden
pub record Request : Type 0 where
  pub files : List (List ℕ)
  pub definitions : List (List ℕ)
  pub imports : List (List ℕ)
  pub override_any : Bool

abbrev pub no_request : Request
no_request = record { files = []; definitions = []; imports = []; override_any = false }

abbrev pub with_role : Request → Role → Request
with_role r (file path) = record r { files = r.files ++ path ∷ [] }
with_role r (defining text) = record r { definitions = r.definitions ++ text ∷ [] }
with_role r (importing name) = record r { imports = r.imports ++ name ∷ [] }
with_role r overriding = record r { override_any = true }
with_role r (wanting next) = r
with_role r wrong = r

-- a request with what words ask for, one after the other
unfoldable pub collected : Request → Awaited → List (List ℕ) → Request
collected r next [] = r
collected r next (word ∷ words) = collected (with_role r (role_of next word)) (awaited_after next (role_of next word)) words

-- whether words are a request: there is a file, no word is wrong, and each option has the word that it wants
unfoldable pub is_request : (has_file : Bool) → Awaited → List (List ℕ) → Bool
is_request has next [] = has && is_met next
is_request has next (word ∷ words) =
    if is_wrong (role_of next word) then false
    else is_request (has || is_file (role_of next word)) (awaited_after next (role_of next word)) words

-- the request of the words after `build`
abbrev pub request_of : List (List ℕ) → Option Request
request_of words = if is_request false Nothing words then Some (collected no_request Nothing words) else None

-- ---- commands

-- a command: a text of the program itself, or a request to build a shader
pub data Command : Type 0 where
  own_text : (shown : List ℕ) → Command
  build : Request → Command

abbrev pub is_help_word : List ℕ → Bool
is_help_word word = bytes_eq word (codes "--help") || bytes_eq word (codes "-h")

-- the text that a word alone requests
abbrev pub lone_text : List ℕ → Option (List ℕ)
lone_text word =
    if is_help_word word then Some HELP.now
    else (if bytes_eq word (codes "--version") then Some VERSION.now else None)

-- words that ask for help and nothing else
abbrev pub is_for_help : List (List ℕ) → Bool
is_for_help [] = false
is_for_help (word ∷ []) = is_help_word word
is_for_help (word ∷ next ∷ words) = false

-- the command of the words after `build`
abbrev pub build_command : List (List ℕ) → Option Command
build_command words = if is_for_help words then Some (own_text HELP.now) else option_map build (request_of words)

-- the command of the words
abbrev pub command_of : List (List ℕ) → Option Command
command_of [] = None
command_of (word ∷ []) = option_map own_text (lone_text word)
command_of (word ∷ next ∷ words) = if bytes_eq word (codes "build") then build_command (next ∷ words) else None

-- ---- as the code has them
abbrev pub role_view : CodeRole → Role
role_view (code.File path) = file path.now
role_view (code.Definition text) = defining text.now
role_view (code.Import name) = importing name.now
role_view code.OverrideAny = overriding
role_view (code.Option next) = wanting next
role_view code.Wrong = wrong

abbrev pub request_view : CodeRequest → Request
request_view r = record { files = texts_of r.files.items; definitions = texts_of r.definitions.items; imports = texts_of r.imports.items; override_any = r.override_any }

abbrev pub command_view : CodeCommand → Command
command_view (command.Text shown) = own_text shown.now
command_view (command.Build r) = build (request_view r)

-- a request to build has a file
abbrev pub HasFile : CodeCommand → Type 0
HasFile (command.Text shown) = ⊤
HasFile (command.Build r) = 0 < length r.files.items
