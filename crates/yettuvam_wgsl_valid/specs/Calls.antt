-- The numbers of arguments of calls.
use Rattle.std.specs.Prelude.{ℕ, ◌+◌, Bool, true, false, ◌==◌, ◌&&◌, nat_le, if◌then◌else◌, List, [], ◌∷◌, length, slice_get, is_some, Option, Some, None, option_map}
use Rattle.std.specs.List.{prefix_len}
use Rattle.naga_oil_ir.specs.Body.{Tokens}
use Rattle.naga_oil_ir.specs.ModuleValue.{FunctionValue}
use Rattle.naga_oil_ir.specs.Parts.{Parts}
use Rattle.naga_oil_ir.specs.Spans.{undefined}
use Rattle.naga_oil_ir.specs.declared.span.Span.{Span}
use Rattle.naga_oil_ir.specs.declared.tokens.Token.{Token}
use Rattle.naga_oil_ir.specs.declared.tokens.Token.TheVariants.{At, Callee, Use}
use Rattle.yettuvam_wgsl_names.specs.Functions.{signature_with, functions}
use Rattle.yettuvam_wgsl_valid_items.specs.Faults.{Outcome, valid, fault, each_valid}
use Rattle.yettuvam_wgsl_valid_items.specs.declared.faults.Reason.TheVariants as reason

-- ---- calls of the module's functions

abbrev pub is_use : Token → Bool
is_use (Use h) = true
is_use t = false

-- there is a function, with this number of parameters
abbrev pub parameters_are : Option (FunctionValue × Span) → ℕ → Bool
parameters_are None n = false
parameters_are (Some e) n = length e.0.arguments == n

abbrev pub has_parameters : List (FunctionValue × Span) → ℕ → ℕ → Bool
has_parameters fs f n = parameters_are (slice_get fs f) n

-- the span of the first statement with a wrong call; the span of the statement that is read is given
abbrev pub wrong_from : List (FunctionValue × Span) → Span → Tokens → Option Span
wrong_from fs at [] = None
wrong_from fs at (At s ∷ ts) = wrong_from fs s ts
wrong_from fs at (Callee f ∷ ts) = if has_parameters fs f (prefix_len is_use ts) then wrong_from fs at ts else Some at
wrong_from fs at (t ∷ ts) = wrong_from fs at ts

abbrev pub wrong_call : List (FunctionValue × Span) → Tokens → Option Span
wrong_call fs ts = wrong_from fs undefined ts

abbrev pub unless_wrong : Option Span → Outcome
unless_wrong None = valid
unless_wrong (Some s) = fault reason.ArgumentCount s

-- each call of a body has as many arguments as its function has parameters
abbrev pub calls_valid : List (FunctionValue × Span) → Tokens → Outcome
calls_valid fs ts = unless_wrong (wrong_call fs ts)

-- ---- calls of mathematical functions

-- the kind of an expression that is a call of a mathematical function
abbrev pub math_kind : ℕ
math_kind = 27

-- the number of operands that are given
abbrev pub given_count : List (Option ℕ) → ℕ
given_count [] = 0
given_count (o ∷ os) = (if is_some o then 1 else 0) + given_count os

abbrev pub first_plain : List ℕ → ℕ
first_plain [] = 0
first_plain (n ∷ ns) = n

-- the function of a call of a mathematical function, and the number of its arguments
abbrev pub math_call : Parts → Option (ℕ × ℕ)
math_call p = if p.kind == math_kind then Some (first_plain p.plain, given_count p.operands) else None

-- the least and the greatest number of arguments of a built-in function
unfoldable pub counts : ℕ → Option (ℕ × ℕ)
counts f = option_map (λ s. (s.1, s.2)) (signature_with functions f)

abbrev pub takes : Option (ℕ × ℕ) → ℕ → Bool
takes None n = false
takes (Some c) n = nat_le c.0 n && nat_le n c.1

abbrev pub unless_taken : Option (ℕ × ℕ) → Span → Outcome
unless_taken None at = valid
unless_taken (Some c) at = if takes (counts c.0) c.1 then valid else fault reason.ArgumentCount at

abbrev pub math_valid : Parts × Span → Outcome
math_valid e = unless_taken (math_call e.0) e.1

-- each call of a mathematical function has a number of arguments that the function takes
abbrev pub all_math_valid : List (Parts × Span) → Outcome
all_math_valid es = each_valid math_valid es
