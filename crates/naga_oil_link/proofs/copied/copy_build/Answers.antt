use Rattle.std.proofs.Common.{◌≡◌, ◌∙◌, All, Bool, Bor, IfOk, List, OnOk, ap, sym, subst}
use Rattle.naga_oil_derive.specs.CopiedEntry.{make_module}
use Rattle.naga_oil_ir.specs.ModuleValue.{module_value}
use Rattle.naga_oil_ir.specs.declared.module.Function.{Function}
use Rattle.naga_oil_ir.specs.declared.span.Span.{Span}
use Rattle.naga_oil_form_laws.specs.EntryForm.{IsModuleFormed}
use Rattle.naga_oil_link.specs.BuiltModule.{BuiltModule, built_of}
use Rattle.naga_oil_link.specs.CopiedBuild.{OwnCopies, copies_of}
use Rattle.naga_oil_link.specs.CopySources.{IsFunctionOf, shown_functions}
use Rattle.naga_oil_link.specs.OwnPlaces.{own_of}
use Rattle.naga_oil_link.proofs.CopiedLemmas.{copied, copied_special, header_is, whole_is}
use Rattle.naga_oil_link.proofs.GoodFormLemmas.{header_formed, whole_formed}
use Rattle.naga_oil_link.proofs.SourceLemmas.{is_set, can_copy_entries}
use Rattle.naga_oil_link.proofs.copied.copy_build.Goals as goal

pub copy_header-requires-clause-functions : goal.copy_header-requires-clause-functions
copy_header-requires-clause-functions c = subst (λ (fs : List (Bor (Function × Span))). All (λ f. IsFunctionOf c.args.source.now f.now) fs) (sym c.deref.ensures.value) c.in_ok-functions.ensures.there

pub copy_whole-requires-clause-functions : goal.copy_whole-requires-clause-functions
copy_whole-requires-clause-functions c = subst (λ (fs : List (Bor (Function × Span))). All (λ f. IsFunctionOf c.args.source.now f.now) fs) (sym c.deref-2.ensures.value) c.in_ok-functions.ensures.there

pub put_header-requires : goal.put_header-requires
put_header-requires c =
    let m = module_value c.args.source.now in
    let own = own_of c.args.own.now in
    let b = built_of c.args.built.now in
    let first = header_is m own _ b.decoration b.functions _ _ c.as_str-decoration.ensures.value (ap shown_functions c.deref.ensures.value ∙ c.in_ok-functions.ensures.functions) c.in_ok-header.ensures in
    subst (λ (x : OwnCopies). IsModuleFormed x.derived.target) (sym first) (header_formed m own b.decoration b.functions c.requires)

pub put_whole-requires-clause-set : goal.put_whole-requires-clause-set
put_whole-requires-clause-set c = is_set _ _ c.in_ok-whole.ensures.source

pub put_whole-requires-clause-entries : goal.put_whole-requires-clause-entries
put_whole-requires-clause-entries c = can_copy_entries _ _ c.in_ok-whole.ensures.source

pub put_whole-requires-clause-form : goal.put_whole-requires-clause-form
put_whole-requires-clause-form c =
    let m = module_value c.args.source.now in
    let own = own_of c.args.own.now in
    let b = built_of c.args.built.now in
    let second = whole_is m own _ b.decoration b.functions _ _ c.as_str-decoration.ensures.value (ap shown_functions c.deref-2.ensures.value ∙ c.in_ok-functions.ensures.functions) c.in_ok-whole.ensures.value in
    subst (λ (x : OwnCopies). IsModuleFormed (make_module x.derived)) (sym second) (whole_formed m own b.decoration b.functions c.requires)

pub returns-clause-special : goal.returns-clause-special
returns-clause-special c =
    let m = module_value c.args.source.now in
    let own = own_of c.args.own.now in
    let b = built_of c.args.built.now in
    let second = whole_is m own _ b.decoration b.functions _ _ c.as_str-decoration.ensures.value (ap shown_functions c.deref-2.ensures.value ∙ c.in_ok-functions.ensures.functions) c.in_ok-whole.ensures.value in
    subst (λ (x : Bool). IfOk c.put_whole.result (λ special. special ≡ x)) (copied_special m own b (copies_of c.in_ok-whole.whole) second) c.put_whole.ensures.special

pub returns-clause-value : goal.returns-clause-value
returns-clause-value c =
    let m = module_value c.args.source.now in
    let own = own_of c.args.own.now in
    let b = built_of c.args.built.now in
    let first = header_is m own _ b.decoration b.functions _ _ c.as_str-decoration.ensures.value (ap shown_functions c.deref.ensures.value ∙ c.in_ok-functions.ensures.functions) c.in_ok-header.ensures in
    let second = whole_is m own _ b.decoration b.functions _ _ c.as_str-decoration.ensures.value (ap shown_functions c.deref-2.ensures.value ∙ c.in_ok-functions.ensures.functions) c.in_ok-whole.ensures.value in
    subst (λ (x : BuiltModule). OnOk c.put_whole.result (built_of c.put_whole.new.built ≡ x)) (copied m own b (copies_of c.in_ok-header.header) (copies_of c.in_ok-whole.whole) first second _ c.in_ok-put_header.ensures) c.put_whole.ensures.value
