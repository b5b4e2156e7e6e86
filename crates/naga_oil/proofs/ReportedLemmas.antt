-- The report of an error is that of what it reports.
use Rattle.std.proofs.Common.{◌≡◌, ◌∙◌, List, Option, Some, None, option_map, ap, refl, string_bytes}
use Rattle.std.proofs.lemmas.Option.{none-some, same_Some}
use Rattle.naga_oil_conditions.specs.Fault.{Fault, Definitions}
use Rattle.naga_oil_conditions.specs.View.{fault_of}
use Rattle.naga_oil_registry.specs.Registered.{Registered}
use Rattle.naga_oil_registry.specs.Registry.{module_named}
use Rattle.naga_oil_registry.specs.Report.{report}
use Rattle.naga_oil.specs.Refused.{Refused, place_of, refused_of}
use Rattle.naga_oil.specs.Sources.{path_of, text_of, text_under, offset_of, report_of}
use Rattle.naga_oil.specs.declared.compose.error.ComposerError.{ComposerError}
use Rattle.naga_oil.specs.declared.compose.error.ErrSource.{ErrSource}
use Rattle.naga_oil.specs.declared.compose.error.ErrSource.TheVariants as code
use Rattle.naga_oil.proofs.ReachLemmas.{defined_same}

-- the text of an error is the text of its place
at_place : (ds : List Registered) (at : ErrSource) (f : Fault) → report (path_of ds at) (text_of ds at) (offset_of at) (Some f) ≡ report_of ds (record { fault = f; place = place_of at })
at_place ds (code.Module name offset defs) f =
    ap (λ (d : Definitions). report (path_of ds (code.Module name offset defs)) (text_under d (module_named (string_bytes name) ds)) offset (Some f)) (defined_same defs)
at_place ds (code.Constructing path source offset) f = refl

pub reported : (ds : List Registered) (e : ComposerError) (r : Refused) → refused_of e ≡ Some r → report (path_of ds e.source) (text_of ds e.source) (offset_of e.source) (fault_of e.inner) ≡ report_of ds r
reported ds e r is = one (fault_of e.inner) is
  where
    one : (f : Option Fault) → option_map (λ f. record { fault = f; place = place_of e.source }) f ≡ Some r → report (path_of ds e.source) (text_of ds e.source) (offset_of e.source) f ≡ report_of ds r
    one None k = absurd (none-some r k)
    one (Some f) k = at_place ds e.source f ∙ ap (report_of ds) (same_Some (record { fault = f; place = place_of e.source }) r k)
