-- Rows of import lines with their leaves or faults, computed.
use Rattle.std.specs.Prelude.{◌≡◌, ℕ, refl, Ok, Err, List, [], ◌∷◌, codes}
use Rattle.std.specs.Str.{chars}
use lib.Utf8.{encode}
use Rattle.unicode_ident.specs.Ident.{is_xid_start, is_xid_continue}
use Rattle.unicode_ident.proofs.Computing.{unicode_ident}
use Rattle.naga_oil_lines.specs.Tokens.{lexemes, more_in_token, tail_len}
use Rattle.naga_oil_imports.specs.Leaves.{Leaf, import_leaves, parts, leaves_of, line_leaves}

-- the line has these leaves
abbrev HasLeaves : List ℕ → List Leaf → Type 0
HasLeaves line ls = import_leaves line ≡ Ok ls

-- the line has this fault at this place
abbrev Faults : (line text : List ℕ) → ℕ → Type 0
Faults line text at = import_leaves line ≡ Err (text, at)

nested : HasLeaves (codes "#import a::b::{c::{d, e}, f, g::{h as i, j}}")
    ((codes "d", codes "a::b::c::d") ∷ (codes "e", codes "a::b::c::e") ∷ (codes "f", codes "a::b::f") ∷ (codes "i", codes "a::b::g::h") ∷ (codes "j", codes "a::b::g::j") ∷ [])
unfolding unicode_ident is_xid_start is_xid_continue chars encode lexemes more_in_token tail_len line_leaves leaves_of parts
nested = refl

old_form : HasLeaves (codes "#import a::b c, d") ((codes "c", codes "a::b::c") ∷ (codes "d", codes "a::b::d") ∷ [])
unfolding unicode_ident is_xid_start is_xid_continue chars encode lexemes more_in_token tail_len line_leaves leaves_of parts
old_form = refl

last_semicolon : HasLeaves (codes "#import a, b::c;") ((codes "a", codes "a") ∷ (codes "c", codes "b::c") ∷ [])
unfolding unicode_ident is_xid_start is_xid_continue chars encode lexemes more_in_token tail_len line_leaves leaves_of parts
last_semicolon = refl

old_form_closed : HasLeaves (codes "#import a b}, c") ((codes "b", codes "a::b") ∷ (codes "c", codes "c") ∷ [])
unfolding unicode_ident is_xid_start is_xid_continue chars encode lexemes more_in_token tail_len line_leaves leaves_of parts
old_form_closed = refl

empty : Faults [] (codes "expected #import") 0
unfolding unicode_ident is_xid_start is_xid_continue chars encode lexemes more_in_token tail_len line_leaves leaves_of parts
empty = refl

hash_alone : Faults (codes "#") (codes "expected `#import`") 1
unfolding unicode_ident is_xid_start is_xid_continue chars encode lexemes more_in_token tail_len line_leaves leaves_of parts
hash_alone = refl

old_form_twice : Faults (codes "#import a b c") (codes "missing close brace") 13
unfolding unicode_ident is_xid_start is_xid_continue chars encode lexemes more_in_token tail_len line_leaves leaves_of parts
old_form_twice = refl

left_open : Faults (codes "#import a::{") (codes "missing close brace") 12
unfolding unicode_ident is_xid_start is_xid_continue chars encode lexemes more_in_token tail_len line_leaves leaves_of parts
left_open = refl

closed_twice : Faults (codes "#import a::b::{c}}") (codes "close brace without open") 17
unfolding unicode_ident is_xid_start is_xid_continue chars encode lexemes more_in_token tail_len line_leaves leaves_of parts
closed_twice = refl

brace_after_name : Faults (codes "#import a::b{{c,d}}") (codes "open brace must follow `::`") 12
unfolding unicode_ident is_xid_start is_xid_continue chars encode lexemes more_in_token tail_len line_leaves leaves_of parts
brace_after_name = refl

single_colon : Faults (codes "#import a:b") (codes "unexpected token") 9
unfolding unicode_ident is_xid_start is_xid_continue chars encode lexemes more_in_token tail_len line_leaves leaves_of parts
single_colon = refl

alias_lacks : Faults (codes "#import a::b as") (codes "expected identifier after `as`") 13
unfolding unicode_ident is_xid_start is_xid_continue chars encode lexemes more_in_token tail_len line_leaves leaves_of parts
alias_lacks = refl

after_semicolon : Faults (codes "#import a; b") (codes "unexpected token after ';'") 11
unfolding unicode_ident is_xid_start is_xid_continue chars encode lexemes more_in_token tail_len line_leaves leaves_of parts
after_semicolon = refl

semicolon_before_brace : Faults (codes "#import a; {") (codes "unexpected token after ';'") 11
unfolding unicode_ident is_xid_start is_xid_continue chars encode lexemes more_in_token tail_len line_leaves leaves_of parts
semicolon_before_brace = refl
