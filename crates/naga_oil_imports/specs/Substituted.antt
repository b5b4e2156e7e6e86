-- What the identifiers of a text are replaced by, and what they use of imported modules.
use Rattle.std.specs.Prelude.{◌≡◌, ℕ, ◌+◌, Bool, false, not, ◌&&◌, ◌||◌, ◌==◌, nat_lt, ◌-◌, ◌^◌, if◌then◌else◌, Option, Some, None, List, [], ◌∷◌, ◌++◌, length, map, min}
use Rattle.std.specs.Char.{encode_utf8}
use Rattle.std.specs.List.{flat_map, list_any}
use Rattle.std.specs.Option.{option_map, option_map_or}
use Rattle.naga_oil_words.specs.Bytes.{double_quote, dot, colon, at_sign}
use Rattle.naga_oil_lines.specs.Tokens.{Lexeme, identifier, other, whitespace}
use Rattle.naga_oil_imports.specs.Declarations.{Declared, paths_of}
use Rattle.naga_oil_lines.specs.Decorate.{decorated_name}
use Rattle.naga_oil_imports.specs.Uses.{Uses, with_use}

-- a text cut around its first `::`
abbrev pub cut_at_first : List ℕ → Option (List ℕ × List ℕ)
cut_at_first [] = None
cut_at_first (a ∷ []) = None
cut_at_first (a ∷ b ∷ more) = if (a == colon) && (b == colon) then Some ([], more) else option_map (λ p. (a ∷ p.0, p.1)) (cut_at_first (b ∷ more))

-- the module and the item of a path: it is cut around its last `::`
abbrev pub module_and_item : List ℕ → Option (List ℕ × List ℕ)
module_and_item [] = None
module_and_item (a ∷ []) = None
module_and_item (a ∷ b ∷ more) = elim (module_and_item (b ∷ more)) [
  | Some p ↦ Some (a ∷ p.0, p.1)
  | None ↦ if (a == colon) && (b == colon) then Some ([], more) else None
]

-- the part of an identifier before its first `::`, and the text after it
abbrev pub first_part : List ℕ → List ℕ
first_part name = option_map_or (λ p. p.0) (cut_at_first name) name

abbrev pub past_first : List ℕ → List ℕ
past_first name = option_map_or (λ p. p.1) (cut_at_first name) []

-- a path, followed by `::` and the rest, if any
abbrev pub longer_path : (path following : List ℕ) → List ℕ
longer_path path [] = path
longer_path path (c ∷ following) = path ++ colon ∷ colon ∷ c ∷ following

-- the paths, or the name itself if there are none
abbrev pub paths_or : List (List ℕ) → List ℕ → List (List ℕ)
paths_or [] name = name ∷ []
paths_or (path ∷ more) name = path ∷ more

abbrev pub longer_paths : List (List ℕ) → (following : List ℕ) → List (List ℕ)
longer_paths paths following = map (λ path. longer_path path following) paths

-- the paths that an identifier stands for: those declared for its first part, or that part itself,
-- each with the rest
unfoldable pub paths_for : Declared → List ℕ → List (List ℕ)
paths_for declared name = longer_paths (paths_or (paths_of declared (first_part name)) (first_part name)) (past_first name)

-- the text written for a path with this module and item
abbrev pub path_text_by : (name path : List ℕ) → Option (List ℕ × List ℕ) → List ℕ
path_text_by name path (Some p) = decorated_name (Some p.0) p.1
path_text_by name path None = if list_any (λ b. b == double_quote) path then name else path

-- the text written for a path that an identifier stands for
unfoldable pub path_text : (name path : List ℕ) → List ℕ
path_text name path = path_text_by name path (module_and_item path)

-- the use of an item of a module, at a place
pub record Mention : Type 0 where
  pub import : List ℕ
  pub item : List ℕ
  pub place : ℕ

abbrev pub mention_of : ℕ → Option (List ℕ × List ℕ) → List Mention
mention_of place (Some p) = record { import = p.0; item = p.1; place = place } ∷ []
mention_of place None = []

-- the use that a path makes, if it has a module
unfoldable pub mentions_at : ℕ → List ℕ → List Mention
mentions_at place path = mention_of place (module_and_item path)

-- the uses after these are recorded one after another
abbrev pub with_mentions : Uses → List Mention → Uses
with_mentions uses [] = uses
with_mentions uses (m ∷ more) = with_mentions (with_use uses m.import m.item m.place) more

-- an identifier that is substituted, and its place
pub record Site : Type 0 where
  pub name : List ℕ
  pub place : ℕ

-- whether an identifier after the token is kept: after `.` or `@`
abbrev pub keeps_next : Lexeme → Bool
keeps_next (identifier text at) = false
keeps_next (other c at) = (c == dot) || (c == at_sign)
keeps_next (whitespace text at) = false

-- the identifier, if the token is one that is substituted
abbrev pub site_at : ℕ → (kept : Bool) → Lexeme → List Site
site_at offset kept (identifier text at) = if kept then [] else record { name = text; place = offset + at } ∷ []
site_at offset kept (other c at) = []
site_at offset kept (whitespace text at) = []

-- the text written for a token
abbrev pub token_text : Declared → (kept : Bool) → Lexeme → List ℕ
token_text declared kept (identifier text at) = if kept then text else flat_map (path_text text) (paths_for declared text)
token_text declared kept (other c at) = encode_utf8 c
token_text declared kept (whitespace text at) = text

-- the sites and the text of tokens, where `kept` says whether the first is kept
abbrev pub sites_from : ℕ → (kept : Bool) → List Lexeme → List Site
sites_from offset kept [] = []
sites_from offset kept (t ∷ more) = site_at offset kept t ++ sites_from offset (keeps_next t) more

abbrev pub substituted_from : Declared → (kept : Bool) → List Lexeme → List ℕ
substituted_from declared kept [] = []
substituted_from declared kept (t ∷ more) = token_text declared kept t ++ substituted_from declared (keeps_next t) more

-- the text of tokens with its identifiers substituted
abbrev pub substituted : Declared → List Lexeme → List ℕ
substituted declared tokens = substituted_from declared false tokens

-- the identifiers that are substituted, their places counted from an offset
abbrev pub sites : ℕ → List Lexeme → List Site
sites offset tokens = sites_from offset false tokens

-- a place as a `usize`: the greatest one stands for all beyond it
abbrev pub usize_place : ℕ → ℕ
usize_place place = min place (2 ^ 64 - 1)

abbrev pub usize_site : Site → Site
usize_site s = record { name = s.name; place = usize_place s.place }

-- the same identifiers, with places as `usize`
abbrev pub usize_sites : List Site → List Site
usize_sites ss = map usize_site ss

-- the uses that identifiers make
abbrev pub mentions_of : Declared → Site → List Mention
mentions_of declared s = flat_map (mentions_at s.place) (paths_for declared s.name)

abbrev pub mentions_in : Declared → List Site → List Mention
mentions_in declared ss = flat_map (mentions_of declared) ss

-- an identifier with more than one path, where that is not allowed
abbrev pub is_refused : Declared → (allowed : Bool) → Site → Bool
is_refused declared allowed s = not allowed && nat_lt 1 (length (paths_for declared s.name))

-- the place of the first ambiguous identifier
abbrev pub first_ambiguous : Declared → (allowed : Bool) → List Site → Option ℕ
first_ambiguous declared allowed [] = None
first_ambiguous declared allowed (s ∷ more) = if is_refused declared allowed s then Some s.place else first_ambiguous declared allowed more

-- the identifiers before the first ambiguous one
abbrev pub before_ambiguous : Declared → (allowed : Bool) → List Site → List Site
before_ambiguous declared allowed [] = []
before_ambiguous declared allowed (s ∷ more) = if is_refused declared allowed s then [] else s ∷ before_ambiguous declared allowed more

-- the uses after those of the tokens are recorded
abbrev pub used_by : Declared → ℕ → List Lexeme → Uses → Uses
used_by declared offset tokens uses = with_mentions uses (mentions_in declared (sites offset tokens))

-- the first of these uses were recorded
pub record BeginsUses (all : List Mention) (old new : Uses) : Type 0 where
  pub done : List Mention
  pub left : List Mention
  pub whole : done ++ left ≡ all
  pub now : new ≡ with_mentions old done
