use Rattle.std.proofs.Common.{subst}
use Rattle.naga_oil_derive.specs.AnsweredLaw.{HaveCopies}
use Rattle.naga_oil_derive.specs.Derived.{Derived}
use Rattle.naga_oil_derive.specs.DerivedLaw.{IsDerivation, kept_by}
use Rattle.naga_oil_derive.proofs.FunctionCalls.{have_copies}
use Rattle.naga_oil_derive.proofs.ViewLaws.{view_derived}
use Rattle.naga_oil_derive.proofs.laws.is_derivation.Goals as goal

pub returns : goal.returns
returns c =
    let d = c.derived.inside in
    record {
      derivation = subst (λ (x : Derived). IsDerivation (kept_by x) x) c.derived.view_is (view_derived d.shader d.copying.maps d.copying.target d.function_names.entries c.derived.invariant);
      copies = subst HaveCopies c.derived.view_is (have_copies d.shader d.copying.maps d.copying.target d.function_names.entries);
    }
