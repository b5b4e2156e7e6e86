-- The error of a refused substitution, and the uses recorded before it.
use Rattle.std.specs.Prelude.{◌≡◌, Bool, Some, List}
use Rattle.naga_oil_imports.specs.declared.substitute.SubstituteFault.{SubstituteFault}
use Rattle.naga_oil_imports.specs.declared.substitute.SubstituteFault.TheVariants.{Ambiguous, Memory}
use Rattle.naga_oil_imports.specs.Declarations.{Declared}
use Rattle.naga_oil_imports.specs.Uses.{Uses}
use Rattle.naga_oil_imports.specs.Substituted.{Site, mentions_in, with_mentions, first_ambiguous, before_ambiguous, BeginsUses}

-- an ambiguous identifier: its place, with the uses before it recorded; out of memory: the first of
-- these uses recorded
abbrev pub RefusesUses : Declared → (allowed : Bool) → List Site → (old new : Uses) → SubstituteFault → Type 0
RefusesUses declared allowed ss old new (Ambiguous place) =
    (first_ambiguous declared allowed ss ≡ Some place) × (new ≡ with_mentions old (mentions_in declared (before_ambiguous declared allowed ss)))
RefusesUses declared allowed ss old new Memory = BeginsUses (mentions_in declared (before_ambiguous declared allowed ss)) old new
