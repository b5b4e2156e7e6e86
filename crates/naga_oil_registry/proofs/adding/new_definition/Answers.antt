use Rattle.std.proofs.Common.{◌≡◌, ◌++◌, map, ap, ◌∙◌, sym, Ok, string_bytes}
use Rattle.std.proofs.lemmas.Simd.{map-map}
use Rattle.std.specs.BTreeSet.{contains_text}
use Rattle.std.specs.List.{flat_map}
use Rattle.naga_oil_words.specs.Texts.{in_order, texts}
use Rattle.naga_oil_imports.specs.Uses.{use_of, import_of}
use Rattle.naga_oil_registry.specs.Added.{all_uses, new_definition}
use Rattle.naga_oil_registry.specs.Registered.{definition_of, defs_of}
use Rattle.naga_oil_registry.specs.DescribedView.{described_of}
use Rattle.naga_oil_registry.specs.Descriptor.{module_source}
use Rattle.naga_oil_registry.specs.Merged.{recorded_names, merged, used_at_start}
use Rattle.naga_oil_registry.specs.Registry.{standing}
use Rattle.naga_oil_registry.proofs.NewDefinitionLemmas.{fails-through, gives-refused, new-refused, new-full, new-made, over-filled, more-in_order}
use Rattle.naga_oil_registry.proofs.adding.new_definition.Goals as goal

pub returns-in_err-imported : goal.returns-in_err-imported
returns-in_err-imported c =
    let ds = standing (contains_text c.args.gone.now) c.args.registry.now in
    let m = module_source c.args.desc in
    let d = described_of c.args.described in
    let same : map use_of c.as_slice.result.now ≡ all_uses d.metadata m.additional =
    ap (map use_of) c.as_slice.ensures.value ∙ c.in_ok-push_additional.ensures ∙ ap (λ l. map use_of c.args.described.metadata.imports.items ++ l) (sym (map-map used_at_start import_of c.args.desc.additional_imports.now)) in
    gives-refused definition_of c.from_residual-in_err-imported.result c.in_err-imported.field-0.0 (new_definition ds m d) c.from_residual-in_err-imported.ensures.1
    (fails-through c.in_err-imported.field-0.0 _ (new_definition ds m d) c.in_err-imported.ensures (new-refused ds m d (map use_of c.as_slice.result.now) same))

pub returns-in_default : goal.returns-in_default
returns-in_default c =
    let ds = standing (contains_text c.args.gone.now) c.args.registry.now in
    let m = module_source c.args.desc in
    let d = described_of c.args.described in
    let same : map use_of c.as_slice.result.now ≡ all_uses d.metadata m.additional =
    ap (map use_of) c.as_slice.ensures.value ∙ c.in_ok-push_additional.ensures ∙ ap (λ l. map use_of c.args.described.metadata.imports.items ++ l) (sym (map-map used_at_start import_of c.args.desc.additional_imports.now)) in
    new-full ds m d (map use_of c.as_slice.result.now) same (map (λ d. definition_of d.now) c.in_ok-imported.imported.items) c.in_ok-imported.ensures (sym c.requires.free ∙ c.in_default.is)

pub returns : goal.returns
returns c =
    let ds = standing (contains_text c.args.gone.now) c.args.registry.now in
    let m = module_source c.args.desc in
    let d = described_of c.args.described in
    let found = map (λ d. definition_of d.now) c.in_ok-imported.imported.items in
    let same : map use_of c.as_slice.result.now ≡ all_uses d.metadata m.additional =
    ap (map use_of) c.as_slice.ensures.value ∙ c.in_ok-push_additional.ensures ∙ ap (λ l. map use_of c.args.described.metadata.imports.items ++ l) (sym (map-map used_at_start import_of c.args.desc.additional_imports.now)) in
    let uses : map use_of c.push_additional.new.imports.items ≡ all_uses d.metadata m.additional = ap (map use_of) (sym c.as_slice.ensures.value) ∙ same in
    let defs : defs_of c.take_over.new.defs ≡ merged m.defs found = c.in_ok-take_over.ensures.defs ∙ ap (λ xs. merged m.defs (map (λ d. definition_of d.now) xs)) c.deref.ensures.value in
    let names = c.in_ok-take_over.ensures.names ∙ more-in_order (λ d. definition_of d.now) (recorded_names d.metadata.cleaned) (texts c.args.described.metadata.effective_defs.keys) c.deref.result.now c.requires.recorded ∙ ap (λ xs. in_order (recorded_names d.metadata.cleaned ++ flat_map (λ i. i.effective) (map (λ d. definition_of d.now) xs))) c.deref.ensures.value in
    new-made ds m d (map use_of c.as_slice.result.now) same found c.in-Some.module_index c.in_ok-imported.ensures (sym c.requires.free ∙ c.in-Some.is)
    ∙ ap (λ x. Ok x) (over-filled m d found c.in-Some.module_index (string_bytes c.in_ok-from_str.field-0) (defs_of c.take_over.new.defs) (texts c.take_over.new.names.keys) (map use_of c.push_additional.new.imports.items) (map import_of c.in_ok-clone_imports.field-0.items)
    c.in_ok-from_str.ensures.ok defs names uses c.in_ok-clone_imports.ensures)
