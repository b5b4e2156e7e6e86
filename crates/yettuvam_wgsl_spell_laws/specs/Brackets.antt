-- When the brackets of template arguments are those that the discovery of template lists finds.
use Rattle.std.specs.Prelude.{Bool, true, false, if◌then◌else◌, List, [], ◌∷◌, Option, Some, None}
use Rattle.yettuvam_wgsl_pieces.specs.Pieces.{Piece}
use Rattle.yettuvam_wgsl_templates.specs.Finder.{may_be_followed}
use Rattle.yettuvam_wgsl_words.specs.declared.token.Kind.{Kind}
use Rattle.yettuvam_wgsl_words.specs.declared.token.Kind.TheVariants as k
use Rattle.yettuvam_wgsl_spell_laws.specs.Meant.{meant_kind}

-- What is open: a list of template arguments, a `(` or `[`, or a comparison that a `>` would close as a list.
pub data Open : Type 0 where
  Template : Open
  Group : Open
  Comparison : Open

-- what is open, the innermost first
abbrev pub Stack : Type 0
Stack = List Open

-- the next `>` closes nothing
abbrev pub closes_nothing : Stack → Bool
closes_nothing [] = true
closes_nothing (Group ∷ stack) = true
closes_nothing _ = false

-- a closing bracket needs a list
abbrev pub close_list : Stack → Option Stack
close_list (Template ∷ stack) = Some stack
close_list _ = None

-- the comparisons in the innermost group end; no list may be open there
abbrev pub end_comparisons : Stack → Option Stack
end_comparisons [] = Some []
end_comparisons (Template ∷ stack) = None
end_comparisons (Group ∷ stack) = Some (Group ∷ stack)
end_comparisons (Comparison ∷ stack) = end_comparisons stack

-- the innermost group ends
abbrev pub close_group : Stack → Option Stack
close_group [] = Some []
close_group (Template ∷ stack) = None
close_group (Group ∷ stack) = Some stack
close_group (Comparison ∷ stack) = close_group stack

-- all ends; no list may be open
abbrev pub end_all : Stack → Option Stack
end_all [] = Some []
end_all (Template ∷ stack) = None
end_all (Group ∷ stack) = end_all stack
end_all (Comparison ∷ stack) = end_all stack

-- what is open after a `>` that is meant as a comparison or a shift
abbrev pub if_closes_nothing : Stack → Option Stack → Option Stack
if_closes_nothing stack next = if closes_nothing stack then next else None

-- what is open after a token of a kind that is meant; a list opens only after a name
abbrev pub open_after : Kind → (is_after_name : Bool) → Stack → Option Stack
open_after k.TemplateOpen named stack = if named then Some (Template ∷ stack) else None
open_after k.TemplateClose named stack = close_list stack
open_after k.Less named stack = Some (if named then Comparison ∷ stack else stack)
open_after k.Greater named stack = if_closes_nothing stack (Some stack)
open_after k.GreaterEqual named stack = if_closes_nothing stack (Some stack)
open_after k.ShiftRight named stack = if_closes_nothing stack (Some stack)
open_after k.ShiftRightEqual named stack = if_closes_nothing stack (end_all stack)
open_after k.OpenParenthesis named stack = Some (Group ∷ stack)
open_after k.OpenBracket named stack = Some (Group ∷ stack)
open_after k.CloseParenthesis named stack = close_group stack
open_after k.CloseBracket named stack = close_group stack
open_after k.AndAnd named stack = end_comparisons stack
open_after k.OrOr named stack = end_comparisons stack
open_after k.Equal named stack = end_all stack
open_after k.Semicolon named stack = end_all stack
open_after k.Colon named stack = end_all stack
open_after k.OpenBrace named stack = end_all stack
open_after _ named stack = Some stack

-- no list is open
abbrev pub has_no_list : Stack → Bool
has_no_list [] = true
has_no_list (Template ∷ stack) = false
has_no_list (Group ∷ stack) = has_no_list stack
has_no_list (Comparison ∷ stack) = has_no_list stack

-- there is something, of which a test holds
abbrev pub if_some : Option Stack → (Stack → Bool) → Bool
if_some (Some stack) holds = holds stack
if_some None holds = false

-- each bracket of the pieces is found as it is meant, where some are open
unfoldable pub bracketed_from : Stack → (is_after_name : Bool) → List Piece → Bool
bracketed_from stack named [] = has_no_list stack
bracketed_from stack named (piece ∷ more) =
    if_some (open_after (meant_kind piece) named stack) (λ next. bracketed_from next (may_be_followed (meant_kind piece)) more)

-- each bracket of template arguments is found as it is meant, and no comparison is found as one
abbrev pub are_well_bracketed : List Piece → Bool
are_well_bracketed pieces = bracketed_from [] false pieces
