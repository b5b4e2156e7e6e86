use Rattle.std.proofs.Common.{◌≡◌, ◌++◌, ◌∙◌, map, Ok, ap, sym}
use Rattle.std.proofs.lemmas.Simd.{map-map}
use Rattle.std.specs.BTreeMap.{get_by_text}
use Rattle.naga_oil_imports.specs.Uses.{use_of, import_of}
use Rattle.naga_oil_pre.specs.KnownView.{output_of}
use Rattle.naga_oil_pre.specs.Preprocessed.{preprocessed}
use Rattle.naga_oil_registry.specs.Registered.{definition_of}
use Rattle.naga_oil_registry.specs.Merged.{used_at_start}
use Rattle.naga_oil_build.proofs.BuiltLemmas.{is_preprocessed}
use Rattle.naga_oil_build.proofs.builder.Builder.preprocessed.Goals as goal

pub returns : goal.returns
returns g c =
    let defs = get_by_text c.args.defs.now in
    let d = definition_of c.args.of.now in
    let out = output_of c.in_ok-output.output in
    let read : preprocessed defs d.source ≡ Ok out = ap (preprocessed defs) (sym c.as_str-source.ensures.value) ∙ c.in_ok-output.ensures.value in
    let used : map use_of c.push_additional.new.imports.items ≡ out.uses ++ map used_at_start d.additional = c.in_ok-push_additional.ensures ∙ ap (λ is. map use_of c.in_ok-output.output.imports.items ++ map (λ i. used_at_start (import_of i)) is) c.deref.ensures.value ∙ ap (λ l. out.uses ++ l) (sym (map-map used_at_start import_of c.args.of.now.additional_imports.items)) in
    is_preprocessed defs d out (map use_of c.push_additional.new.imports.items) read used
