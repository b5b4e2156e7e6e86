-- Where calls are redirected, computed.
use Rattle.std.specs.Prelude.{◌≡◌, ℕ, List, [], ◌∷◌, Some, None, codes, refl}
use Rattle.naga_oil_link.specs.BuiltModule.{Overriding}
use Rattle.naga_oil.specs.CallsSent.{call_goes}

abbrev base : List ℕ
base = codes "f"

abbrev one : List ℕ
one = codes "fb"

abbrev two : List ℕ
two = codes "fc"

-- two functions override one
abbrev chain : Overriding
chain = (base, one ∷ two ∷ []) ∷ []

-- others call the last
others_call_the_last : call_goes chain (Some (codes "g")) (Some base) ≡ Some two
others_call_the_last = refl

entry_points_call_the_last : call_goes chain None (Some base) ≡ Some two
entry_points_call_the_last = refl

-- the first calls what it overrides, and the second the first
first_calls_the_base : call_goes chain (Some one) (Some base) ≡ Some base
first_calls_the_base = refl

second_calls_the_first : call_goes chain (Some two) (Some base) ≡ Some one
second_calls_the_first = refl

-- other calls stay
others_stay : call_goes chain (Some (codes "g")) (Some (codes "h")) ≡ Some (codes "h")
others_stay = refl

-- if nothing is overridden, nothing is redirected
nothing_sent : call_goes [] None (Some base) ≡ Some base
nothing_sent = refl
