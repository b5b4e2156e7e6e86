-- Chains of three replacements, computed.
use Rattle.std.specs.Prelude.{◌≡◌, List, [], ◌∷◌, map, Some, codes, bytes_eq, ◌||◌, refl}
use Rattle.naga_oil_ir.specs.ModuleValue.{ModuleValue}
use Rattle.naga_oil_form.specs.NameForm.{Name}
use Rattle.naga_oil_redirect.specs.Chain.{destination, last_of, SentInTurn, NoMore, OneMore, none_omitted, called}
use Rattle.naga_oil_redirect.specs.Redirected.{redirected}
use Rattle.naga_oil_redirect.specs.PutInOrderRows.{calling, empty, module_of}

abbrev chain : List Name
chain = codes "b" ∷ codes "c" ∷ codes "d" ∷ []

-- the first replacement calls the base, each other replacement the one before it, and all other functions the last
by_first : destination chain (Some (codes "b")) (codes "a") ≡ codes "a"
by_first = refl

by_second : destination chain (Some (codes "c")) (codes "a") ≡ codes "b"
by_second = refl

by_third : destination chain (Some (codes "d")) (codes "a") ≡ codes "c"
by_third = refl

by_others : destination chain (Some (codes "e")) (codes "a") ≡ codes "d"
by_others = refl

by_base : destination chain (Some (codes "a")) (codes "a") ≡ codes "d"
by_base = refl

by_entry_points : last_of chain (codes "a") ≡ codes "d"
by_entry_points = refl

-- a module in which b, c, d, e and the entry point call a
abbrev calling_a : ModuleValue
calling_a =
    module_of
    (empty (codes "a") ∷ calling (codes "b") 0 ∷ calling (codes "c") 0 ∷ calling (codes "d") 0 ∷
    calling (codes "e") 0 ∷ [])
    (calling (codes "main") 0)

-- the module with its calls of a redirected to b, those of b to c, and those of c to d
abbrev first : ModuleValue
first = redirected calling_a 0 1 none_omitted

abbrev second : ModuleValue
second = redirected first 1 2 (λ name. bytes_eq name (codes "b") || none_omitted name)

abbrev third : ModuleValue
third = redirected second 2 3 (λ name. bytes_eq name (codes "c") || (bytes_eq name (codes "b") || none_omitted name))

in_turn : SentInTurn calling_a (codes "a") chain none_omitted third
in_turn = OneMore (0, 1) refl (OneMore (1, 2) refl (OneMore (2, 3) refl NoMore))

functions_call :
    map (λ f. called third.functions f.0) third.functions ≡
    [] ∷ (codes "a" ∷ []) ∷ (codes "b" ∷ []) ∷ (codes "c" ∷ []) ∷ (codes "d" ∷ []) ∷ []
functions_call = refl

entry_points_call : map (λ e. called third.functions e.function) third.entry_points ≡ (codes "d" ∷ []) ∷ []
entry_points_call = refl
