-- The code's declarations, uses and results, seen as those of `Preprocessed`.
use Rattle.std.specs.Prelude.{◌≡◌, None, MatchOption, map, string_bytes}
use Rattle.naga_oil_imports.specs.Declarations.{declared_of}
use Rattle.naga_oil_imports.specs.NameMarks.{Covers}
use Rattle.naga_oil_imports.specs.Uses.{uses_of, use_of}
use Rattle.naga_oil_imports.specs.declared.substitute.SubstituteFault.{SubstituteFault}
use Rattle.naga_oil_imports.specs.declared.substitute.SubstituteFault.TheVariants.{Ambiguous, Memory}
use Rattle.naga_oil_conditions.specs.declared.fault.ComposerErrorInner.{ComposerErrorInner}
use Rattle.naga_oil_conditions.specs.View.{fault_of}
use Rattle.naga_oil_pre.specs.declared.imports.Imports.{Imports}
use Rattle.naga_oil_pre.specs.declared.preprocess.PreprocessOutput.{PreprocessOutput}
use Rattle.naga_oil_pre.specs.Preprocessed.{Known, Output, ambiguous}

abbrev pub known_of : Imports → Known
known_of i = record { declared = declared_of i.declared; uses = uses_of i.used }

-- the declared names have their marks
abbrev pub HasMarks : Imports → Type 0
HasMarks i = Covers i.names (declared_of i.declared)

abbrev pub output_of : PreprocessOutput → Output
output_of o = record { text = string_bytes o.preprocessed_source; uses = map use_of o.imports.items }

-- the error is that of a refused substitution: its ambiguous identifier, or out of memory
abbrev pub ReportsRefused : ComposerErrorInner → SubstituteFault → Type 0
ReportsRefused e (Ambiguous place) = MatchOption (fault_of e) (Unit {0}) (λ f. f ≡ ambiguous place)
ReportsRefused e Memory = fault_of e ≡ None
