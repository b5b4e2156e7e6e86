-- A step of a make: it adds to the builds, and has a result.
use Rattle.std.specs.Prelude.{◌≡◌, [], Option, Result, Ok, Err, MatchOption}
use Rattle.naga_oil_link.specs.BuiltModule.{Builds}

-- the builds after a step, and its value or what ended it
pub record Outcome (X F : Type 0) : Type 0 where
  pub builds : Builds
  pub result : Result X F

-- a step over builds
abbrev pub Doing : Type 0 → Type 0 → Type 0
Doing X F = Builds → Outcome X F

-- a value or a fault, with the builds as they are
abbrev pub given : {X F : Type 0} → Result X F → Doing X F
given r builds = record { builds = builds; result = r }

abbrev pub done_with : {X Y F : Type 0} → Outcome X F → (X → Doing Y F) → Result X F → Outcome Y F
done_with o f (Ok x) = f x o.builds
done_with o f (Err e) = record { builds = o.builds; result = Err e }

-- one step after the other, until one ends in a fault
infixl 10 ◌>>=◌
abbrev pub ◌>>=◌ : {X Y F : Type 0} → Doing X F → (X → Doing Y F) → Doing Y F
(a >>= f) builds = done_with (a builds) f (a builds).result

-- what the builds give, with the builds as they are
abbrev pub over_builds : {X F : Type 0} → (Builds → Result X F) → Doing X F
over_builds value builds = given (value builds) builds

-- a result with its fault as another
abbrev pub map_err : {X F G : Type 0} → (F → G) → Result X F → Result X G
map_err tell (Ok x) = Ok x
map_err tell (Err f) = Err (tell f)

abbrev pub fault_as : {X F G : Type 0} → (F → G) → Outcome X F → Outcome X G
fault_as tell o = record { builds = o.builds; result = map_err tell o.result }

-- a step with its fault as another
abbrev pub map_fault : {X F G : Type 0} → (F → G) → Doing X F → Doing X G
map_fault tell step builds = fault_as tell (step builds)

-- a step that begins with no builds
abbrev pub from_no_builds : {X F : Type 0} → Doing X F → Outcome X F
from_no_builds step = step []

-- a call had this outcome and left these builds, or memory ran out
abbrev pub Does : {X Y E F : Type 0} → (view : X → Y) → (told : E → Option F) → (memory : E → Type 0) → Result X E → Builds → Outcome Y F → Type 0
Does view told memory (Ok x) builds value = value ≡ record { builds = builds; result = Ok (view x) }
Does view told memory (Err e) builds value = MatchOption (told e) (memory e) (λ f. value ≡ record { builds = builds; result = Err f })
