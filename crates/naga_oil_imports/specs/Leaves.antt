-- The leaves of an import line: the items that it names, each with a key and a path. Open heads are
-- found by counting.
use Rattle.std.specs.Prelude.{ℕ, zero, suc, ◌+◌, Bool, true, false, ◌==◌, if◌then◌else◌, nat_le, nat_eq, Option, Some, None, unwrap_or, Result, Ok, Err, List, [], ◌∷◌, ◌++◌, map, length, drop, codes, bytes_eq, filter}
use Rattle.std.specs.List.{list_all, list_any, concat, starts_with, ends_with}
use Rattle.std.specs.Str.{chars}
use Rattle.naga_oil_words.specs.Bytes.{hash, comma, semicolon, open_brace, close_brace}
use Rattle.naga_oil_imports.specs.Declarations.{Declared, with_path}
use Rattle.naga_oil_lines.specs.Tokens.{Lexeme, identifier, other, whitespace, place_of, lexemes, emit}

-- why an import line is refused: the reason and its place
abbrev pub SyntaxFault : Type 0
SyntaxFault = List ℕ × ℕ

-- the alias after a name: no `as`, `as` and an alias, or an `as` with no identifier after it, by
-- its place
pub data Alias : Type 0 where
  no_alias : Alias
  as_name : List ℕ → Alias
  lacking : ℕ → Alias

abbrev pub alias_after_as : ℕ → List Lexeme → Alias
alias_after_as at (identifier name p ∷ ts) = as_name name
alias_after_as at ts = lacking at

abbrev pub alias_after : List Lexeme → Alias
alias_after (identifier word at ∷ ts) = if bytes_eq word (codes "as") then alias_after_as at ts else no_alias
alias_after ts = no_alias

-- the number of tokens in an alias
abbrev pub alias_len : Alias → ℕ
alias_len no_alias = 0
alias_len (as_name name) = 2
alias_len (lacking at) = 1

-- the text after the last `::`, if there is one
abbrev pub after_last_colons : List ℕ → Option (List ℕ)
after_last_colons [] = None
after_last_colons (c ∷ cs) = elim (after_last_colons cs) [
  | Some rest ↦ Some rest
  | None ↦ if starts_with nat_eq (c ∷ cs) (codes "::") then Some (drop 1 cs) else None
]

-- a leaf's key: the alias, else the text after the last `::` of the name, else the name
abbrev pub key_of : (name : List ℕ) → Alias → List ℕ
key_of name (as_name alias) = alias
key_of name a = unwrap_or (after_last_colons name) name

-- a part of an import line: a head, of the old form or before a brace; a leaf; a `}`; nothing (a
-- `,` or the last `;`); or wrong
pub data ImportPart : Type 0 where
  head : (is_old : Bool) → (text : List ℕ) → ImportPart
  leaf : (key name : List ℕ) → ImportPart
  close : (at : ℕ) → ImportPart
  nothing : ImportPart
  wrong : SyntaxFault → ImportPart

-- a unit, a name with its alias, before a `{`
abbrev pub before_brace : (name : List ℕ) → (at : ℕ) → ImportPart
before_brace name at = if ends_with nat_eq name (codes "::") then head false name else wrong (codes "open brace must follow `::`", at)

-- a unit by the tokens after it: before another unit it is an old head, before a `{` a brace head,
-- else a leaf
abbrev pub unit_part : (name : List ℕ) → Alias → List Lexeme → ImportPart
unit_part name (lacking at) following = wrong (codes "expected identifier after `as`", at)
unit_part name a [] = leaf (key_of name a) name
unit_part name a (identifier next at ∷ ts) = head true (name ++ codes "::")
unit_part name a (other c at ∷ ts) = if c == open_brace then before_brace name at else leaf (key_of name a) name
unit_part name a (whitespace text at ∷ ts) = leaf (key_of name a) name

-- a head takes its `{` with it
abbrev pub brace_len : List Lexeme → ℕ
brace_len (other c at ∷ ts) = if c == open_brace then 1 else 0
brace_len ts = 0

-- the number of tokens of a unit after its name
abbrev pub unit_len : List Lexeme → ℕ
unit_len ts = alias_len (alias_after ts) + brace_len (drop (alias_len (alias_after ts)) ts)

-- a `;`, which must be the last token
abbrev pub at_semicolon : List Lexeme → ImportPart
at_semicolon [] = nothing
at_semicolon (t ∷ ts) = wrong (codes "unexpected token after ';'", place_of t)

-- any other character: `,`, `}`, `;`, a `{` after no unit, or one that is wrong there
abbrev pub mark_part : (c at : ℕ) → List Lexeme → ImportPart
mark_part c at ts =
    if c == comma then nothing
    else (if c == close_brace then close at
    else (if c == open_brace then wrong (codes "open brace must follow `::`", at)
    else (if c == semicolon then at_semicolon ts
    else wrong (codes "unexpected token", at))))

-- the parts of the tokens after `#import`; the first `skip` tokens belong to a part already read
unfoldable pub parts : ℕ → List Lexeme → List ImportPart
parts skip [] = []
parts (suc skip) (t ∷ ts) = parts skip ts
parts zero (identifier name at ∷ ts) = unit_part name (alias_after ts) (drop (alias_len (alias_after ts)) ts) ∷ parts (unit_len ts) ts
parts zero (other c at ∷ ts) = mark_part c at ts ∷ parts zero ts
parts zero (whitespace text at ∷ ts) = nothing ∷ parts zero ts

abbrev pub is_head : ImportPart → Bool
is_head (head is_old text) = true
is_head (leaf key name) = false
is_head (close at) = false
is_head nothing = false
is_head (wrong f) = false

abbrev pub is_old_head : ImportPart → Bool
is_old_head (head is_old text) = is_old
is_old_head (leaf key name) = false
is_old_head (close at) = false
is_old_head nothing = false
is_old_head (wrong f) = false

abbrev pub is_close : ImportPart → Bool
is_close (head is_old text) = false
is_close (leaf key name) = false
is_close (close at) = true
is_close nothing = false
is_close (wrong f) = false

-- the beginnings of a list, from the empty one to the list itself
abbrev pub beginnings : {X : Type 0} → List X → List (List X)
beginnings [] = [] ∷ []
beginnings (x ∷ xs) = [] ∷ map (λ front. x ∷ front) (beginnings xs)

-- there are at most as many `}` as heads
abbrev pub has_no_more_closes : List ImportPart → Bool
has_no_more_closes ps = nat_le (length (filter is_close ps)) (length (filter is_head ps))

-- a head is open at a place if no beginning of the parts between them has more `}` than heads
abbrev pub is_open : (between : List ImportPart) → Bool
is_open between = list_all has_no_more_closes (beginnings between)

-- the texts of the heads that are open after these parts
abbrev pub open_heads : List ImportPart → List (List ℕ)
open_heads [] = []
open_heads (head is_old text ∷ ps) = if is_open ps then text ∷ open_heads ps else open_heads ps
open_heads (leaf key name ∷ ps) = open_heads ps
open_heads (close at ∷ ps) = open_heads ps
open_heads (nothing ∷ ps) = open_heads ps
open_heads (wrong f ∷ ps) = open_heads ps

-- a leaf: its key and its path
abbrev pub Leaf : Type 0
Leaf = List ℕ × List ℕ

-- the leaves that a part adds after the others: a leaf's path is the texts of the heads open at it
-- and its own name; a `}` closes a head
abbrev pub part_leaves : (before : List ImportPart) → ImportPart → Result (List Leaf) SyntaxFault
part_leaves before (head is_old text) = Ok []
part_leaves before (leaf key name) = Ok ((key, concat (open_heads before) ++ name) ∷ [])
part_leaves before (close at) = elim (open_heads before) [ [] ↦ Err (codes "close brace without open", at) | h ∷ hs ↦ Ok [] ]
part_leaves before nothing = Ok []
part_leaves before (wrong f) = Err f

-- at the end no head is open, or just one if the old form was used
abbrev pub at_end : (end : ℕ) → (before : List ImportPart) → Result (List Leaf) SyntaxFault
at_end end before = if nat_le (length (open_heads before)) (if list_any is_old_head before then 1 else 0) then Ok [] else Err (codes "missing close brace", end)

abbrev pub then_leaves : Result (List Leaf) SyntaxFault → Result (List Leaf) SyntaxFault → Result (List Leaf) SyntaxFault
then_leaves (Err f) rest = Err f
then_leaves (Ok ls) (Err f) = Err f
then_leaves (Ok ls) (Ok more) = Ok (ls ++ more)

-- the leaves of parts after others, or the first fault in their order; the text ends at the place
unfoldable pub leaves_of : (end : ℕ) → (before : List ImportPart) → List ImportPart → Result (List Leaf) SyntaxFault
leaves_of end before [] = at_end end before
leaves_of end before (p ∷ ps) = then_leaves (part_leaves before p) (leaves_of end (before ++ p ∷ []) ps)

-- the tokens after `#` and `import`, or the fault there
abbrev pub after_hash : (end : ℕ) → List Lexeme → Result (List Lexeme) SyntaxFault
after_hash end [] = Err (codes "expected `#import`", end)
after_hash end (identifier word at ∷ ts) = if bytes_eq word (codes "import") then Ok ts else Err (codes "expected `#import`", at)
after_hash end (other c at ∷ ts) = Err (codes "expected `#import`", at)
after_hash end (whitespace text at ∷ ts) = Err (codes "expected `#import`", at)

abbrev pub after_import : (end : ℕ) → List Lexeme → Result (List Lexeme) SyntaxFault
after_import end [] = Err (codes "expected #import", end)
after_import end (identifier word at ∷ ts) = Err (codes "expected `#import`", at)
after_import end (other c at ∷ ts) = if c == hash then after_hash end ts else Err (codes "expected `#import`", at)
after_import end (whitespace text at ∷ ts) = Err (codes "expected `#import`", at)

-- the leaves of an import line, by its length and its tokens, or its first fault
unfoldable pub line_leaves : (end : ℕ) → List Lexeme → Result (List Leaf) SyntaxFault
line_leaves end ts = elim (after_import end ts) [ Ok following ↦ leaves_of end [] (parts 0 following) | Err f ↦ Err f ]

-- the leaves of a text as an import line, or its first fault
abbrev pub import_leaves : List ℕ → Result (List Leaf) SyntaxFault
import_leaves text = line_leaves (length text) (emit false (lexemes 0 0 (chars text)))

-- the declarations after each leaf's path is appended at its key
abbrev pub with_leaves : Declared → List Leaf → Declared
with_leaves d [] = d
with_leaves d ((key, path) ∷ ls) = with_leaves (with_path d key path) ls

-- the declarations after an import line with such leaves, or its fault
abbrev pub with_import : Declared → Result (List Leaf) SyntaxFault → Result Declared SyntaxFault
with_import d (Ok ls) = Ok (with_leaves d ls)
with_import d (Err f) = Err f
