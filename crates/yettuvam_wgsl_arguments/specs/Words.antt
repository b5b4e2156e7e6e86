-- Words among template arguments: address spaces, access modes and texel formats.
use Rattle.std.specs.Prelude.{ℕ, ◌+◌, ◌*◌, ◌%◌, ◌^◌, nat_lt, if◌then◌else◌, List, length, slice_get, Option, Some, None, Ok, Err}
use Rattle.yettuvam_wgsl_machine.specs.Machine.{Node}
use Rattle.yettuvam_wgsl_predeclared.specs.Words.{word_of, space, access, format}
use Rattle.yettuvam_wgsl_scope.specs.Items.{Name}
use Rattle.yettuvam_wgsl_scope.specs.Refused.{fault}
use Rattle.yettuvam_wgsl_scope.specs.declared.refusal.Reason.TheVariants as reason
use Rattle.yettuvam_wgsl_values.specs.Value.{Value, What, Word}
use Rattle.yettuvam_wgsl_arguments.specs.Arguments.{Made, ◌>=>◌, or_fault}

-- a template argument that has to be there
unfoldable pub argument : List Value → ℕ → Node → Made Value
argument args place node = or_fault reason.Template node (slice_get args place)

abbrev pub word_in : Node → What → Made Name
word_in node (Word name) = Ok name
word_in node _ = Err (fault reason.Template node.span)

unfoldable pub word_at : List Value → ℕ → Node → Made Name
word_at args place node = argument args place node >=> (λ v. word_in node v.what)

abbrev pub code_or_fault : Option ℕ → Name → Made ℕ
code_or_fault (Some code) name = Ok code
code_or_fault None name = Err (fault reason.UnknownName name.span)

-- the codes of words that are arguments
unfoldable pub space_argument : List Value → ℕ → Node → Made ℕ
space_argument args place node = word_at args place node >=> (λ name. code_or_fault (space (word_of name.text)) name)

unfoldable pub access_argument : List Value → ℕ → Node → Made ℕ
access_argument args place node = word_at args place node >=> (λ name. code_or_fault (access (word_of name.text)) name)

unfoldable pub format_argument : List Value → ℕ → Node → Made ℕ
format_argument args place node = word_at args place node >=> (λ name. code_or_fault (format (word_of name.text)) name)

-- an access mode that is left out is 0
unfoldable pub optional_access : List Value → ℕ → Node → Made ℕ
optional_access args place node = if nat_lt place (length args) then access_argument args place node else Ok 0

abbrev pub with_access : ℕ → ℕ → ℕ
with_access space access = ((access * 16) % 2 ^ 64 + space) % 2 ^ 64

-- the code of an address space, the first argument, and of an access mode
unfoldable pub space_arguments : List Value → ℕ → Node → Made ℕ
space_arguments args access_place node =
    space_argument args 0 node >=> (λ space. optional_access args access_place node >=> (λ access. Ok (with_access space access)))
