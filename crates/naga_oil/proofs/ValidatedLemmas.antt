-- What is reported of a made module that isn't valid.
use Rattle.std.proofs.Common.{◌≡◌, List, ◌∷◌, map, find, Bool, true, false, Option, Some, None, MatchOption, Result, Ok, Err, IsErrAnd, refl, sym, subst, String, Global, string_bytes}
use Rattle.std.specs.Arc.{arc_value}
use Rattle.std.specs.declared.sync.Arc.{Arc}
use Rattle.naga_oil_ir.specs.declared.backend.BackendRefusal.{BackendRefusal}
use Rattle.naga_oil_ir.specs.declared.backend.BackendRefusal.TheVariants.{Fault, Memory}
use Rattle.naga_oil_ir.specs.declared.backend.ValidFault.{ValidFault}
use Rattle.naga_oil_build.specs.Built.{answered}
use Rattle.naga_oil_link.specs.BuiltModule.{Builds, built_of}
use Rattle.naga_oil_link.specs.declared.module.ComposableModule.{ComposableModule}
use Rattle.naga_oil.specs.MakeView.{PlacesAs}
use Rattle.naga_oil.specs.Refused.{Place, Refused, Answers, refused_of, place_of, nowhere}
use Rattle.naga_oil.specs.declared.compose.error.ComposerError.{ComposerError}

abbrev pub builds_in : List (String Global × Arc ComposableModule Global) → Builds
builds_in es = map (λ e. (string_bytes e.0, built_of (arc_value e.1))) es

pub find_first : {X : Type 0} (p : X → Bool) (x : X) (xs : List X) → p x ≡ true → find p (x ∷ xs) ≡ Some x
find_first p x xs e = rw e refl

pub find_later : {X : Type 0} (p : X → Bool) (x : X) (xs : List X) → p x ≡ false → find p (x ∷ xs) ≡ find p xs
find_later p x xs e = rw e refl

-- ---- what a front end says

-- the front end ran out of memory
pub unvalidated : {Z W : Type 0} (view : Z → W) (place : Place) (valid : Result (Unit {0}) (BackendRefusal ValidFault)) (e : ComposerError) (result : Result Z ComposerError) (v : Result W Refused) → PlacesAs place (answered valid) (Err e) → IsErrAnd result (λ o. o ≡ e) → Answers view result v
unvalidated view place valid e (Ok z) v h is = absurd is
unvalidated view place (Ok x) e (Err o) v h is = absurd cc
unvalidated view place (Err (Fault f)) e (Err o) v h is = absurd cc
unvalidated view place (Err Memory) e (Err o) v h is = subst (λ (x : ComposerError). MatchOption (refused_of x) (place_of x.source ≡ nowhere) (λ r. v ≡ Err r)) (sym is) (go (refused_of e) h)
  where
    go : (o : Option Refused) → MatchOption o (place_of e.source ≡ nowhere) (λ r. (None ≡ Some r.fault) × (r.place ≡ place)) → MatchOption o (place_of e.source ≡ nowhere) (λ r. v ≡ Err r)
    go None k = k
    go (Some r) k = let bad = k.0 in absurd cc
