-- The parts of a statement, from the tokens after its head.
use Rattle.std.specs.Prelude.{ℕ, ◌==◌, ◌&&◌, ◌||◌, not, if◌then◌else◌, Bool, true, false, List, [], ◌∷◌, length, ◌++◌, swap, Option, Some, None, option_to_list}
use Rattle.naga_oil_ir.specs.Body.{Tokens}
use Rattle.naga_oil_ir.specs.declared.tokens.Token.{Token}
use Rattle.naga_oil_ir.specs.declared.tokens.Token.TheVariants.{At, Head, Plain, Use, Give, GiveCall, Open, Close}
use Rattle.yettuvam_wgsl_lines.specs.declared.line.TheConstants.{BARRIER, IMAGE_STORE, ATOMIC, UNIFORM_LOAD, BALLOT, GATHER, COLLECTIVE}
use Rattle.yettuvam_wgsl_names.specs.declared.functions.TheConstants.{TEXTURE_STORE, WORKGROUP_UNIFORM_LOAD, SUBGROUP_BALLOT, SUBGROUP_ELECT}
use Rattle.yettuvam_wgsl_natures.specs.declared.called.TheConstants.{NO_FUNCTION}

-- a token after the head of a statement belongs to it up to the next statement or block
abbrev pub is_own : Token → Bool
is_own (At span) = false
is_own (Head kind) = false
is_own Open = false
is_own Close = false
is_own _ = true

abbrev pub used : Token → Option ℕ
used (Use h) = Some h
used _ = None

abbrev pub given : Token → Option ℕ
given (Give h) = Some h
given (GiveCall f h) = Some h
given _ = None

-- the operands of a statement in the order of copying
abbrev pub used_by : Tokens → List ℕ
used_by [] = []
used_by (t ∷ ts) = if is_own t then option_to_list (used t) ++ used_by ts else []

abbrev pub or_else : Option ℕ → Option ℕ → Option ℕ
or_else None o = o
or_else (Some h) o = Some h

-- the result of a statement
abbrev pub made_by : Tokens → Option ℕ
made_by [] = None
made_by (t ∷ ts) = if is_own t then or_else (given t) (made_by ts) else None

-- `atomicCompareExchangeWeak` has its pointer first, a gather its argument; both stand second in the order of copying
abbrev pub has_second_first : ℕ → ℕ → Bool
has_second_first kind count = (kind == ATOMIC && count == 3) || (kind == GATHER && count == 2)

-- the operands of a statement in the order of the text
abbrev pub operands_by : ℕ → Tokens → List ℕ
operands_by kind ts =
    if has_second_first kind (length (used_by ts)) then swap (used_by ts) 0 1 else used_by ts

abbrev pub first_code : Tokens → ℕ
first_code (Plain code ∷ ts) = code
first_code _ = NO_FUNCTION

-- the statements that hold the code of a function
abbrev pub has_code : ℕ → Bool
has_code kind = kind == BARRIER || kind == ATOMIC || kind == GATHER || kind == COLLECTIVE

abbrev pub ballot_function : List ℕ → ℕ
ballot_function [] = SUBGROUP_ELECT
ballot_function _ = SUBGROUP_BALLOT

-- the code of the built-in function that a statement calls
abbrev pub function_by : ℕ → List ℕ → Tokens → ℕ
function_by kind operands ts =
    if has_code kind then first_code ts
    else (if kind == IMAGE_STORE then TEXTURE_STORE
    else (if kind == UNIFORM_LOAD then WORKGROUP_UNIFORM_LOAD
    else (if not (kind == BALLOT) then NO_FUNCTION else ballot_function operands)))

-- the condition that ends a loop, from the tokens after the end of its last block
abbrev pub condition_by : Tokens → Option ℕ
condition_by [] = None
condition_by (t ∷ ts) = used t
