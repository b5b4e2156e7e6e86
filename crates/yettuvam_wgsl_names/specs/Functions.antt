-- The built-in functions by their codes.
use Rattle.std.specs.Prelude.{ℕ, List, map, Option, option_map, nat_eq}
use Rattle.std.specs.Map.{lookup}
use Rattle.yettuvam_wgsl_names.specs.Table.{Name}
use Rattle.yettuvam_wgsl_names.specs.declared.functions.TheConstants.{FUNCTIONS}
use denote.Ref.{Bor}

-- the name of a function, and its least and its greatest number of arguments
abbrev pub Signature : Type 0
Signature = Name × ℕ × ℕ

-- the functions of a table, each with its code
abbrev pub function_rows : List (ℕ × (Bor Name × ℕ × ℕ)) → List (ℕ × Signature)
function_rows es = map (λ e. (e.0, (e.1.0.now, e.1.1, e.1.2))) es

-- the signature of the first row with a code
abbrev pub signature_with : List (ℕ × Signature) → ℕ → Option Signature
signature_with es c = lookup (nat_eq c) es

-- the built-in functions
abbrev pub functions : List (ℕ × Signature)
functions = map (λ e. (e.0, (e.1.0.now, e.1.1, e.1.2))) FUNCTIONS

-- the name of the function with a code
abbrev pub function_name : ℕ → Option Name
function_name c = option_map (λ s. s.0) (signature_with functions c)
