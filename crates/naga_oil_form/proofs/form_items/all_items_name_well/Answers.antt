use Rattle.std.proofs.Common.{[], refl}
use Rattle.naga_oil_form.specs.Links.{is_marked}
use Rattle.naga_oil_form.specs.ItemForm.{NamesThere, NamesWell, types_of, is_sized}
use Rattle.naga_oil_ir.specs.Rows.{type_row, constant_row, override_row, global_row, expression_row}
use Rattle.naga_oil_form.proofs.FormLemmas.{and_decides, decides_at, well_same, well_there}
use Rattle.naga_oil_form.proofs.form_items.all_items_name_well.Goals as goal

pub returns : goal.returns
returns c =
    let m = c.args.of.now in
    let sized = is_marked c.args.sized.now in
    let types = decides_at (λ t. NamesThere m (type_row t)) _ (types_of m) _ c.items.ensures.items (well_there m (λ t. type_row t) [] refl _ c.in_ok-types.types c.in_ok-types.ensures) in
    let constants = decides_at (λ e. NamesWell m (is_sized m) (constant_row e.0)) _ m.constants _ c.as_slice.ensures (well_same m (λ e. constant_row e.0) sized (is_sized m) c.requires _ c.in_ok-constants.constants c.in_ok-constants.ensures) in
    let overrides = decides_at (λ e. NamesWell m (is_sized m) (override_row e.0)) _ m.overrides _ c.as_slice-2.ensures (well_same m (λ e. override_row e.0) sized (is_sized m) c.requires _ c.in_ok-overrides.overrides c.in_ok-overrides.ensures) in
    let globals = decides_at (λ e. NamesThere m (global_row e.0)) _ m.global_variables _ c.as_slice-3.ensures (well_there m (λ e. global_row e.0) [] refl _ c.in_ok-globals.globals c.in_ok-globals.ensures) in
    let expressions = decides_at (λ e. NamesWell m (is_sized m) (expression_row e.0)) _ m.global_expressions _ c.as_slice-4.ensures (well_same m (λ e. expression_row e.0) sized (is_sized m) c.requires _ c.in_ok-expressions.expressions c.in_ok-expressions.ensures) in
    let all = and_decides _ _ (and_decides _ _ (and_decides _ _ (and_decides _ _ types constants) overrides) globals) expressions in
    (λ h. let f = all.0 h in record { types = f.0.0.0.0; constants = f.0.0.0.1; overrides = f.0.0.1; globals = f.0.1; expressions = f.1 }, λ r. all.1 ((((r.types, r.constants), r.overrides), r.globals), r.expressions))
