use Rattle.std.proofs.Common.{◌≡◌, ℕ, List, None, map, sym, ap, ◌∙◌}
use Rattle.std.specs.Prelude.{codes}
use Rattle.std.proofs.lemmas.Result.{err_from_is_err_and}
use Rattle.std.specs.BTreeMap.{get, is_at}
use Rattle.std.specs.Map.{lookup}
use Rattle.std.specs.Ordering.{nat_cmp}
use Rattle.std.specs.String.{string_bytes}
use Rattle.naga_oil_imports.specs.Uses.{import_of}
use Rattle.naga_oil_link.specs.BuiltModule.{builds_of}
use Rattle.naga_oil_words.specs.Texts.{texts}
use Rattle.naga_oil_registry.specs.Keywords.{covered_text, marked_in, with_edits}
use Rattle.naga_oil_registry.specs.KeywordsView.{marked_of}
use Rattle.naga_oil_build.specs.Overriding.{overriding_of}
use Rattle.naga_oil_build.specs.Virtuals.{Overrides, names_of, blanked, with_overrides}
use Rattle.naga_oil_build.proofs.FunctionsLemmas.{read_ok, fault_then, unless_fault_in, functions_ok, functions_refused}
use Rattle.naga_oil_build.proofs.virtuals.read_functions.Goals as goal

pub returns : goal.returns
returns c =
    let any = c.args.over.override_any in
    let builds = builds_of c.args.over.builds.now in
    let imports = map import_of c.args.over.imports.now in
    let decoration = c.args.over.decoration.now in
    let overriding = overriding_of c.args.overriding.now in
    let text = c.args.text.now in
    let covered = string_bytes c.in_ok-covered.covered in
    let shown = string_bytes c.in_ok-shown.shown in
    let vs = map marked_of c.in_ok-virtuals.virtuals.items in
    let fs = map marked_of c.in_ok-functions.functions.items in
    let none = get nat_cmp c.new-edits.result in
    let edits = get nat_cmp c.blank.new.edits in
    let is_covered : covered ≡ covered_text text = c.in_ok-covered.ensures in
    let are_virtual : vs ≡ marked_in (codes "virtual") covered = c.in_ok-virtuals.ensures ∙ ap (marked_in (codes "virtual")) c.as_str.ensures.value in
    let is_none : none ≡ (λ at. None) = ap (λ (es : List (ℕ × ℕ)). λ (at : ℕ). lookup (is_at (nat_cmp at)) es) c.new-edits.ensures.empty in
    let are_edits : edits ≡ blanked (codes "       ") none vs = c.in_ok-blank.ensures ∙ ap (λ ms. blanked (codes "       ") none (map marked_of ms)) c.deref-2.ensures.value in
    let is_shown : shown ≡ with_edits edits covered = c.in_ok-shown.ensures ∙ ap (with_edits edits) c.as_str-2.ensures.value in
    let are_marked : fs ≡ marked_in (codes "override") shown = c.in_ok-functions.ensures ∙ ap (marked_in (codes "override")) c.as_str-3.ensures.value in
    let before : Overrides = record { edits = edits; overriding = overriding; fault = None } in
    let same : with_overrides any builds imports decoration before fs ≡ with_overrides any builds imports decoration before (map marked_of c.deref-3.result.now) = ap (λ ms. with_overrides any builds imports decoration before (map marked_of ms)) (sym c.deref-3.ensures.value) in
    let next = get nat_cmp c.read_overrides.new.edits in
    let more = overriding_of c.read_overrides.new.overriding in
    let names : texts c.in_ok-names.names.keys ≡ names_of vs = c.in_ok-names.ensures ∙ ap (λ ms. names_of (map marked_of ms)) c.deref.ensures.value in
    functions_ok any builds imports decoration overriding text covered shown vs fs none edits is_covered are_virtual is_none are_edits is_shown are_marked next more (ap unless_fault_in same ∙ c.in_ok-read_overrides.ensures)
    ∙ ap (λ ns. read_ok ns more (with_edits next text)) (sym names) ∙ ap (read_ok (texts c.in_ok-names.names.keys) more) (sym c.in_ok-text.ensures)

pub returns-in_err-read_overrides : goal.returns-in_err-read_overrides
returns-in_err-read_overrides c =
    let any = c.args.over.override_any in
    let builds = builds_of c.args.over.builds.now in
    let imports = map import_of c.args.over.imports.now in
    let decoration = c.args.over.decoration.now in
    let overriding = overriding_of c.args.overriding.now in
    let text = c.args.text.now in
    let covered = string_bytes c.in_ok-covered.covered in
    let shown = string_bytes c.in_ok-shown.shown in
    let vs = map marked_of c.in_ok-virtuals.virtuals.items in
    let fs = map marked_of c.in_ok-functions.functions.items in
    let none = get nat_cmp c.new-edits.result in
    let edits = get nat_cmp c.blank.new.edits in
    let is_covered : covered ≡ covered_text text = c.in_ok-covered.ensures in
    let are_virtual : vs ≡ marked_in (codes "virtual") covered = c.in_ok-virtuals.ensures ∙ ap (marked_in (codes "virtual")) c.as_str.ensures.value in
    let is_none : none ≡ (λ at. None) = ap (λ (es : List (ℕ × ℕ)). λ (at : ℕ). lookup (is_at (nat_cmp at)) es) c.new-edits.ensures.empty in
    let are_edits : edits ≡ blanked (codes "       ") none vs = c.in_ok-blank.ensures ∙ ap (λ ms. blanked (codes "       ") none (map marked_of ms)) c.deref-2.ensures.value in
    let is_shown : shown ≡ with_edits edits covered = c.in_ok-shown.ensures ∙ ap (with_edits edits) c.as_str-2.ensures.value in
    let are_marked : fs ≡ marked_in (codes "override") shown = c.in_ok-functions.ensures ∙ ap (marked_in (codes "override")) c.as_str-3.ensures.value in
    let before : Overrides = record { edits = edits; overriding = overriding; fault = None } in
    let same : with_overrides any builds imports decoration before fs ≡ with_overrides any builds imports decoration before (map marked_of c.deref-3.result.now) = ap (λ ms. with_overrides any builds imports decoration before (map marked_of ms)) (sym c.deref-3.ensures.value) in
    let p = err_from_is_err_and c.from_residual-in_err-read_overrides.result c.from_residual-in_err-read_overrides.ensures.1 in
    rw (p.1, p.2) (fault_then c.in_err-read_overrides.field-0.0 _ _ (λ f e. functions_refused any builds imports decoration overriding text covered shown vs fs none edits is_covered are_virtual is_none are_edits is_shown are_marked f (ap unless_fault_in same ∙ e)) c.in_err-read_overrides.ensures)
