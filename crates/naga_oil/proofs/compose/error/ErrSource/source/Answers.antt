use Rattle.std.proofs.Common.{◌≡◌, List, [], ℕ, Option, Some, None, Result, Err, MatchOption, is_none, false, ap, ◌∙◌, sym, string_bytes}
use Rattle.std.specs.BTreeMap.{get_by_text}
use Rattle.naga_oil_conditions.specs.Fault.{Fault}
use Rattle.naga_oil_pre.specs.Preprocessed.{Output, preprocessed}
use Rattle.naga_oil_conditions.specs.View.{fault_of}
use Rattle.naga_oil_registry.specs.Registered.{definition_of}
use Rattle.naga_oil_registry.specs.Registry.{module_named}
use Rattle.naga_oil.specs.Sources.{text_given, text_under}
use Rattle.naga_oil.proofs.compose.error.ErrSource.source.Goals as goal

given-nothing : (o : Option Fault) (value : Result Output Fault) → is_none o ≡ false → MatchOption o (Unit {0}) (λ f. value ≡ Err f) → text_given value ≡ []
given-nothing None value n h = absurd cc
given-nothing (Some f) value n h = ap text_given h

pub returns : goal.returns
returns g c =
    let defs = get_by_text c.in-Module.defs in
    let ds = c.args.composer.now.registry in
    let named : module_named (string_bytes c.in-Module.name) ds ≡ Some (definition_of c.in-Some.definition.now) = ap (λ (n : List ℕ). module_named n ds) (sym c.as_str-2.ensures.value) ∙ sym c.in-Some.ensures.value in
    let source = ap (λ (s : List ℕ). text_given (preprocessed defs s)) c.as_str-source.ensures.value in
    let told : is_none (fault_of c.in-Err-2.field-0) ≡ false = (let h = c.is_memory.ensures in let k = c.if-is_memory.false in let e = c.in-Err.inner-is in let f = c.in-Err.is in let l = c.in-Err-2.is in cc) in
    let given = given-nothing (fault_of c.in-Err-2.field-0) (preprocessed defs c.as_str-source.result.now) told c.in-Err-2.ensures.value in
    rw c.in-Module.is (sym (ap (text_under defs) named ∙ (sym source ∙ given)))
