-- Where the calls of overridden functions are redirected.
use Rattle.std.specs.Prelude.{ℕ, ◌||◌, bytes_eq, List, [], ◌∷◌, Some, if◌then◌else◌}
use Rattle.naga_oil_ir.specs.Rows.{Text}
use Rattle.naga_oil_words.specs.Texts.{is_among}
use Rattle.naga_oil_redirect.specs.Redirected.{is_named}
use Rattle.naga_oil_link.specs.BuiltModule.{Overriding}
use Rattle.naga_oil_copy_laws.specs.SentByTree.{instead_of}

-- what a caller calls after calls of base are redirected to other, except those in other and in the omitted functions
abbrev pub call_sent : (caller : Text) → (base other : List ℕ) → (omitted : List (List ℕ)) → Text → Text
call_sent caller base other omitted n = if is_named (bytes_eq other) caller || is_named (is_among omitted) caller then n else instead_of (Some base) (Some other) n

-- what a caller calls after calls of base are redirected to the first of others, those of the first to the second, and so on
abbrev pub call_sent_down : (caller : Text) → (base : List ℕ) → (others omitted : List (List ℕ)) → Text → Text
call_sent_down caller base [] omitted n = n
call_sent_down caller base (other ∷ more) omitted n = call_sent_down caller other more (other ∷ omitted) (call_sent caller base other omitted n)

-- what a caller calls after the calls of each overridden function are redirected along those that override it, one function after the other
abbrev pub call_goes : Overriding → (caller : Text) → Text → Text
call_goes [] caller n = n
call_goes (o ∷ more) caller n = call_goes more caller (call_sent_down caller o.0 o.1 [] n)
