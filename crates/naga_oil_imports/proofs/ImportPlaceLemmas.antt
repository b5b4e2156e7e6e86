-- The faults of an import line have their places in it, or at its end.
use Rattle.std.proofs.Common.{◌≡◌, ℕ, zero, suc, ◌+◌, ◌≤◌, Bool, true, false, List, [], ◌∷◌, ◌++◌, length, take, drop, refl, subst, ap, arith, length-append, Result, Ok, Err}
use Rattle.std.specs.Prelude.{All, codes, bytes_eq, nat_le, nat_eq, ◌==◌, if◌then◌else◌, not}
use Rattle.std.specs.List.{list_any, ends_with}
use Rattle.std.specs.Char.{len_utf8, is_whitespace, encode_utf8}
use Rattle.std.specs.Str.{chars, encode_utf8_all, IsUtf8}
use Rattle.std.proofs.lemmas.Str.{length-encode, encodes-chars}
use Rattle.std.proofs.lemmas.List.Elements.{All-cons, All-nil, All-head, All-tail, All-drop, All-filter}
use Rattle.naga_oil_lines.specs.Tokens.{Lexeme, identifier, other, whitespace, place_of, starts_identifier, more_in_token, lexeme_at, lexemes, is_whitespace_lexeme, emit}
use Rattle.naga_oil_imports.specs.Leaves.{SyntaxFault, Alias, no_alias, as_name, lacking, alias_after_as, alias_after, alias_len, ImportPart, head, leaf, close, nothing, wrong, before_brace, unit_part, unit_len, key_of, at_semicolon, mark_part, parts, open_heads, Leaf, part_leaves, at_end, then_leaves, leaves_of, is_old_head, after_hash, after_import, line_leaves, import_leaves}

-- the token begins at the place or before it
abbrev pub Within : ℕ → Lexeme → Type 0
Within end t = place_of t ≤ end

placed_at : (at c : ℕ) (text : List ℕ) → place_of (lexeme_at at c text) ≡ at
placed_at at c text = go (starts_identifier c) (is_whitespace c)
  where
    go : (s w : Bool) → place_of (if s then identifier text at else (if w then whitespace text at else other c at)) ≡ at
    go true w = refl
    go false true = refl
    go false false = refl

pub lexemes_within : (told at end : ℕ) (cs : List ℕ) → at + length (encode_utf8_all cs) ≤ end → All (Within end) (lexemes told at cs)
unfolding lexemes
lexemes_within told at end [] h = All-nil (Within end)
lexemes_within (suc told) at end (c ∷ cs) h = lexemes_within told (at + len_utf8 c) end cs (omega (arith, h, length-append (encode_utf8 c) (encode_utf8_all cs), length-encode c))
lexemes_within zero at end (c ∷ cs) h =
    All-cons (Within end) _ _ (omega (arith, h, placed_at at c (encode_utf8_all (c ∷ take (more_in_token c cs) cs))))
    (lexemes_within (more_in_token c cs) (at + len_utf8 c) end cs (omega (arith, h, length-append (encode_utf8 c) (encode_utf8_all cs), length-encode c)))

-- the tokens of a text have their places in it
tokens_within : (text : List ℕ) → IsUtf8 text → All (Within (length text)) (emit false (lexemes 0 0 (chars text)))
tokens_within text u = All-filter (λ t. not (is_whitespace_lexeme t)) (Within (length text)) _ (lexemes_within 0 0 (length text) (chars text) (omega (arith, ap length (encodes-chars text u))))

-- ---- parts
abbrev FaultWithin : ℕ → ImportPart → Type 0
FaultWithin end (head is_old text) = Unit {0}
FaultWithin end (leaf key name) = Unit {0}
FaultWithin end (close at) = at ≤ end
FaultWithin end nothing = Unit {0}
FaultWithin end (wrong f) = f.1 ≤ end

abbrev AliasWithin : ℕ → Alias → Type 0
AliasWithin end no_alias = Unit {0}
AliasWithin end (as_name name) = Unit {0}
AliasWithin end (lacking at) = at ≤ end

after_as_within : (end at : ℕ) (ts : List Lexeme) → at ≤ end → AliasWithin end (alias_after_as at ts)
after_as_within end at [] h = h
after_as_within end at (identifier name p ∷ ts) h = tt
after_as_within end at (other c p ∷ ts) h = h
after_as_within end at (whitespace text p ∷ ts) h = h

alias_within : (end : ℕ) (ts : List Lexeme) → All (Within end) ts → AliasWithin end (alias_after ts)
alias_within end [] h = tt
alias_within end (identifier word at ∷ ts) h =
    elim (bytes_eq word (codes "as")) as (λ b. AliasWithin end (if b then alias_after_as at ts else no_alias)) [ true ↦ after_as_within end at ts (All-head (Within end) _ _ h) | false ↦ tt ]
alias_within end (other c at ∷ ts) h = tt
alias_within end (whitespace text at ∷ ts) h = tt

brace_within : (end : ℕ) (name : List ℕ) (at : ℕ) → at ≤ end → FaultWithin end (before_brace name at)
brace_within end name at h =
    elim (ends_with nat_eq name (codes "::")) as (λ b. FaultWithin end (if b then head false name else wrong (codes "open brace must follow `::`", at))) [ true ↦ tt | false ↦ h ]

named_within : (end : ℕ) (name key : List ℕ) (old : ImportPart) (ts : List Lexeme) → FaultWithin end old → All (Within end) ts
    → (let part : ImportPart = elim ts [ [] ↦ leaf key name | t ∷ more ↦ old ] in FaultWithin end part)
named_within end name key old [] o h = tt
named_within end name key old (t ∷ more) o h = o

unit_within : (end : ℕ) (name : List ℕ) (a : Alias) (ts : List Lexeme) → AliasWithin end a → All (Within end) ts → FaultWithin end (unit_part name a ts)
unit_within end name (lacking at) ts a h = a
unit_within end name no_alias [] a h = tt
unit_within end name no_alias (identifier next at ∷ ts) a h = tt
unit_within end name no_alias (other c at ∷ ts) a h =
    elim (c == 123) as (λ b. FaultWithin end (if b then before_brace name at else leaf (key_of name no_alias) name)) [ true ↦ brace_within end name at (All-head (Within end) _ _ h) | false ↦ tt ]
unit_within end name no_alias (whitespace text at ∷ ts) a h = tt
unit_within end name (as_name alias) [] a h = tt
unit_within end name (as_name alias) (identifier next at ∷ ts) a h = tt
unit_within end name (as_name alias) (other c at ∷ ts) a h =
    elim (c == 123) as (λ b. FaultWithin end (if b then before_brace name at else leaf (key_of name (as_name alias)) name)) [ true ↦ brace_within end name at (All-head (Within end) _ _ h) | false ↦ tt ]
unit_within end name (as_name alias) (whitespace text at ∷ ts) a h = tt

semicolon_within : (end : ℕ) (ts : List Lexeme) → All (Within end) ts → FaultWithin end (at_semicolon ts)
semicolon_within end [] h = tt
semicolon_within end (t ∷ ts) h = All-head (Within end) _ _ h

mark_within : (end c at : ℕ) (ts : List Lexeme) → at ≤ end → All (Within end) ts → FaultWithin end (mark_part c at ts)
mark_within end c at ts p h = go (c == 44) (c == 125) (c == 123) (c == 59)
  where
    go : (comma closed opened last : Bool) → FaultWithin end (if comma then nothing else (if closed then close at else (if opened then wrong (codes "open brace must follow `::`", at) else (if last then at_semicolon ts else wrong (codes "unexpected token", at)))))
    go true closed opened last = tt
    go false true opened last = p
    go false false true last = p
    go false false false true = semicolon_within end ts h
    go false false false false = p

parts_within : (told end : ℕ) (ts : List Lexeme) → All (Within end) ts → All (FaultWithin end) (parts told ts)
unfolding parts
parts_within told end [] h = All-nil (FaultWithin end)
parts_within (suc told) end (t ∷ ts) h = parts_within told end ts (All-tail (Within end) _ _ h)
parts_within zero end (identifier name at ∷ ts) h =
    let rest = All-tail (Within end) _ _ h in
    All-cons (FaultWithin end) _ _ (unit_within end name (alias_after ts) (drop (alias_len (alias_after ts)) ts) (alias_within end ts rest) (All-drop (Within end) (alias_len (alias_after ts)) ts rest)) (parts_within (unit_len ts) end ts rest)
parts_within zero end (other c at ∷ ts) h =
    let rest = All-tail (Within end) _ _ h in
    All-cons (FaultWithin end) _ _ (mark_within end c at ts (All-head (Within end) _ _ h) rest) (parts_within zero end ts rest)
parts_within zero end (whitespace text at ∷ ts) h = All-cons (FaultWithin end) _ _ tt (parts_within zero end ts (All-tail (Within end) _ _ h))

-- ---- leaves
abbrev Answers : {X : Type 0} → ℕ → Result X SyntaxFault → Type 0
Answers end (Ok x) = Unit {0}
Answers end (Err f) = f.1 ≤ end

then_within : (end : ℕ) (a b : Result (List Leaf) SyntaxFault) → Answers end a → Answers end b → Answers end (then_leaves a b)
then_within end (Err f) b h k = h
then_within end (Ok ls) (Err f) h k = k
then_within end (Ok ls) (Ok more) h k = tt

closed_within : (end at : ℕ) (heads : List (List ℕ)) → at ≤ end → (let r : Result (List Leaf) SyntaxFault = elim heads [ [] ↦ Err (codes "close brace without open", at) | h ∷ hs ↦ Ok [] ] in Answers end r)
closed_within end at [] p = p
closed_within end at (h ∷ hs) p = tt

added_within : (end : ℕ) (before : List ImportPart) (p : ImportPart) → FaultWithin end p → Answers end (part_leaves before p)
added_within end before (head is_old text) h = tt
added_within end before (leaf key name) h = tt
added_within end before (close at) h = closed_within end at (open_heads before) h
added_within end before nothing h = tt
added_within end before (wrong f) h = h

end_within : (end : ℕ) (before : List ImportPart) → Answers end (at_end end before)
end_within end before = go (nat_le (length (open_heads before)) (if list_any is_old_head before then 1 else 0))
  where
    go : (b : Bool) → (let r : Result (List Leaf) SyntaxFault = if b then Ok [] else Err (codes "missing close brace", end) in Answers end r)
    go true = tt
    go false = omega arith

leaves_within : (end : ℕ) (before ps : List ImportPart) → All (FaultWithin end) ps → Answers end (leaves_of end before ps)
unfolding leaves_of
leaves_within end before [] h = end_within end before
leaves_within end before (p ∷ ps) h =
    then_within end (part_leaves before p) (leaves_of end (before ++ p ∷ []) ps) (added_within end before p (All-head (FaultWithin end) _ _ h)) (leaves_within end (before ++ p ∷ []) ps (All-tail (FaultWithin end) _ _ h))

hash_within : (end : ℕ) (ts : List Lexeme) → All (Within end) ts → Answers end (after_hash end ts) × ((rest : List Lexeme) → after_hash end ts ≡ Ok rest → All (Within end) rest)
hash_within end [] h = (omega arith, λ rest e. cc)
hash_within end (identifier word at ∷ ts) h = go (bytes_eq word (codes "import"))
  where
    go : (b : Bool) → (let r : Result (List Lexeme) SyntaxFault = if b then Ok ts else Err (codes "expected `#import`", at) in Answers end r × ((rest : List Lexeme) → r ≡ Ok rest → All (Within end) rest))
    go true = (tt, λ rest e. let same : ts ≡ rest = cc in subst (All (Within end)) same (All-tail (Within end) _ _ h))
    go false = (All-head (Within end) _ _ h, λ rest e. cc)
hash_within end (other c at ∷ ts) h = (All-head (Within end) _ _ h, λ rest e. cc)
hash_within end (whitespace text at ∷ ts) h = (All-head (Within end) _ _ h, λ rest e. cc)

import_within : (end : ℕ) (ts : List Lexeme) → All (Within end) ts → Answers end (after_import end ts) × ((rest : List Lexeme) → after_import end ts ≡ Ok rest → All (Within end) rest)
import_within end [] h = (omega arith, λ rest e. cc)
import_within end (identifier word at ∷ ts) h = (All-head (Within end) _ _ h, λ rest e. cc)
import_within end (other c at ∷ ts) h = go (c == 35)
  where
    go : (b : Bool) → (let r : Result (List Lexeme) SyntaxFault = if b then after_hash end ts else Err (codes "expected `#import`", at) in Answers end r × ((rest : List Lexeme) → r ≡ Ok rest → All (Within end) rest))
    go true = hash_within end ts (All-tail (Within end) _ _ h)
    go false = (All-head (Within end) _ _ h, λ rest e. cc)
import_within end (whitespace text at ∷ ts) h = (All-head (Within end) _ _ h, λ rest e. cc)

after_within : (end : ℕ) (r : Result (List Lexeme) SyntaxFault) → Answers end r → ((rest : List Lexeme) → r ≡ Ok rest → All (Within end) rest)
    → (let all : Result (List Leaf) SyntaxFault = elim r [ Ok following ↦ leaves_of end [] (parts 0 following) | Err f ↦ Err f ] in Answers end all)
after_within end (Ok following) h k = leaves_within end [] (parts 0 following) (parts_within 0 end following (k following refl))
after_within end (Err f) h k = h

-- a fault of an import line has its place in the line or at its end
pub fault_within : (text : List ℕ) (f : SyntaxFault) → IsUtf8 text → import_leaves text ≡ Err f → f.1 ≤ length text
unfolding line_leaves
fault_within text f u e =
    let ts : List Lexeme = emit false (lexemes 0 0 (chars text)) in
    let h = import_within (length text) ts (tokens_within text u) in
    subst (Answers (length text)) e (after_within (length text) (after_import (length text) ts) h.0 h.1)
