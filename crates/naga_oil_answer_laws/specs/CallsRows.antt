-- Worked rows: where calls go by chains of no function, of one that is called beforehand, and of one past which another function moves.
use Rattle.std.specs.Prelude.{◌≡◌, refl, ℕ, List, [], ◌∷◌, Some, None, Ok, Err, codes}
use Rattle.naga_oil_form.specs.Links as links
use Rattle.naga_oil_ir.specs.ModuleValue.{ModuleValue, FunctionValue}
use Rattle.naga_oil_ir.specs.RedirectFault.{argument_mismatch, circular_reference, not_found}
use Rattle.naga_oil_conditions.specs.Fault.{redirection}
use Rattle.naga_oil_derive.specs.Answered.{import_callee}
use Rattle.naga_oil_derive.specs.CopiedFunction.{copy_function, expressions_upto}
use Rattle.naga_oil_derive.specs.Equal.{parts_eq}
use Rattle.naga_oil_redirect.specs.Chain.{destination}
use Rattle.naga_oil_redirect.specs.Level.{level_below}
use Rattle.naga_oil_redirect.specs.PutInOrder.{in_turn}
use Rattle.naga_oil_redirect.specs.PutInOrderRows.{calling, empty, module_of}
use Rattle.naga_oil_link.specs.BuiltModule.{Overriding}
use Rattle.naga_oil.specs.CallsSent.{call_goes}
use Rattle.naga_oil.specs.Chain.{chain, chain_all, all_sent_down, sent_down}

abbrev base : List ℕ
base = codes "f"

abbrev one : List ℕ
one = codes "g"

abbrev two : List ℕ
two = codes "h"

-- one function overrides another, and two do
abbrev overridden_once : Overriding
overridden_once = (base, one ∷ []) ∷ []

abbrev overridden_twice : Overriding
overridden_twice = (base, one ∷ two ∷ []) ∷ []

-- ---- calls of the first that overrides, there beforehand

-- others call the last in its place
others_call_the_last : call_goes overridden_twice (Some (codes "i")) (Some one) ≡ Some two
others_call_the_last = refl

entry_points_call_the_last : call_goes overridden_twice None (Some one) ≡ Some two
entry_points_call_the_last = refl

-- the last, and the first itself, still call it
last_calls_the_first : call_goes overridden_twice (Some two) (Some one) ≡ Some one
last_calls_the_first = refl

first_calls_itself : call_goes overridden_twice (Some one) (Some one) ≡ Some one
first_calls_itself = refl

-- calls of the last stay
last_is_called : call_goes overridden_twice (Some (codes "i")) (Some two) ≡ Some two
last_is_called = refl

-- ---- a chain without functions that override

nowhere_else : destination [] (Some base) base ≡ base
nowhere_else = refl

-- a module in which the entry point calls i, which calls f
abbrev unsent : ModuleValue
unsent = module_of (empty base ∷ calling (codes "i") 0 ∷ []) (calling (codes "main") 1)

nothing_overridden : chain [] unsent ≡ Ok unsent
nothing_overridden = refl

none_overrides : chain ((base, []) ∷ []) unsent ≡ Ok unsent
unfolding chain_all all_sent_down sent_down in_turn level_below import_callee copy_function expressions_upto links.trail parts_eq
none_overrides = refl

-- ---- a function moves

-- i calls f, and g, which stands after it, overrides f; then i calls g, and comes after it
moved :
    chain overridden_once (module_of (empty base ∷ calling (codes "i") 0 ∷ calling one 0 ∷ []) (calling (codes "main") 0)) ≡
    Ok (module_of (empty base ∷ calling one 0 ∷ calling (codes "i") 1 ∷ []) (calling (codes "main") 1))
unfolding chain_all all_sent_down sent_down in_turn level_below import_callee copy_function expressions_upto links.trail parts_eq
moved = refl

-- g and h override f; i, which called g beforehand, then calls h, as the entry point does
called_beforehand :
    chain overridden_twice (module_of (empty base ∷ calling one 0 ∷ calling two 0 ∷ calling (codes "i") 1 ∷ []) (calling (codes "main") 0)) ≡
    Ok (module_of (empty base ∷ calling one 0 ∷ calling two 1 ∷ calling (codes "i") 2 ∷ []) (calling (codes "main") 2))
unfolding chain_all all_sent_down sent_down in_turn level_below import_callee copy_function expressions_upto links.trail parts_eq
called_beforehand = refl

-- ---- refused chains

-- a function that takes an argument
abbrev taking : List ℕ → FunctionValue
taking name = record (empty name) { arguments = record { name = None; ty = 0; binding = None } ∷ [] }

other_arguments : chain overridden_once (module_of (taking base ∷ empty one ∷ []) (calling (codes "main") 0)) ≡ Err (redirection (argument_mismatch one base))
unfolding chain_all all_sent_down sent_down
other_arguments = refl

-- the second that overrides isn't there
second_is_missing : chain overridden_twice (module_of (empty base ∷ calling one 0 ∷ []) (calling (codes "main") 0)) ≡ Err (redirection (not_found two))
unfolding chain_all all_sent_down sent_down
second_is_missing = refl

-- f calls i, which calls g, which overrides f and calls i too: then i calls g, and g calls i
circular :
    chain overridden_once (module_of (empty base ∷ calling (codes "i") 0 ∷ calling one 1 ∷ []) (calling (codes "main") 0)) ≡
    Err (redirection (circular_reference (codes "i, g")))
unfolding chain_all all_sent_down sent_down level_below
circular = refl
