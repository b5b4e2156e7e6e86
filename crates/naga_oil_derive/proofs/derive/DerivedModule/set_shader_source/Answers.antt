use Rattle.std.proofs.Common.{[], ◌≡◌, ◌<◌, ◌∙◌, ℕ, List, length, Option, Some, All, ap, sym, subst, refl, take, arith}
use Rattle.std.specs.Vec.{with_items}
use Rattle.std.proofs.lemmas.List.{with_items_is}
use Rattle.std.proofs.lemmas.List.Elements.{All-nil, All-take}
use Rattle.naga_oil_ir.specs.declared.names.ItemPlace.TheVariants.{TypeItem}
use Rattle.naga_oil_derive.specs.World.{HaveDistinctKeys, value_of}
use Rattle.naga_oil_derive.specs.Copying.{WentSomewhere, goes_under}
use Rattle.naga_oil_derive.proofs.RankLemmas.{ranked}
use Rattle.naga_oil_derive.proofs.SourceValues.{set_value}
use Rattle.naga_oil_derive.proofs.SpecialLemmas.{Entry}
use Rattle.naga_oil_derive.proofs.DeriveCalls.{entries_within, entries_are_there, places_kept}
use Rattle.naga_oil_derive.proofs.Derivations.{copying_begun, special_went, refused, sets_law, derived_set}
use Rattle.naga_oil_derive.proofs.derive.DerivedModule.set_shader_source.Goals as goal

pub keep_special-requires : goal.keep_special-requires
keep_special-requires c =
    let first = c.deref.ensures.value ∙ c.in_ok-entries.ensures.entries in
    subst (λ (xs : List (Option ℕ)). All (λ (e : Entry). e.1 < length xs) c.deref.result.now) (sym c.deref_mut.ensures.value) (entries_within c.args.shader.now c.in_ok-copying.field-0 c.deref.result.now c.requires c.in_ok-copying.ensures.long first)

pub copy_special-requires-clause-ranked : goal.copy_special-requires-clause-ranked
copy_special-requires-clause-ranked c =
    ranked c.args.shader.now c.requires

pub copy_special-requires-clause-there : goal.copy_special-requires-clause-there
copy_special-requires-clause-there c =
    let second = c.deref-2.ensures.value ∙ c.in_ok-entries.ensures.entries in
    entries_are_there c.args.shader.now c.deref-2.result.now c.requires second

pub copy_special-requires-clause-copying : goal.copy_special-requires-clause-copying
copy_special-requires-clause-copying c =
    let s = c.self.inside in
    let m = c.in_ok-copying.field-0 in
    let v = with_items c.in_ok-copying.field-0.types c.keep_special.new.types in
    let first = c.deref.ensures.value ∙ c.in_ok-entries.ensures.entries in
    let distinct = subst HaveDistinctKeys (sym c.deref.ensures.value) c.in_ok-entries.ensures.distinct in
    let long : length c.keep_special.new.types ≡ c.in_ok-copying.field-0.types.len = omega (arith, c.keep_special.auto.types, ap length c.deref_mut.ensures.value, c.in_ok-copying.field-0.types.ok.0) in
    let kept = with_items_is c.in_ok-copying.field-0.types c.keep_special.new.types long ∙ c.keep_special.ensures ∙ ap (places_kept s.copying.target c.deref.result.now) c.deref_mut.ensures.value in
    let begun = copying_begun c.args.shader.now s.shader s.copying.maps m s.copying.target v c.deref.result.now c.requires c.self.invariant distinct first c.in_ok-copying.ensures.places kept in
    begun

pub invariant_of-self-in_err-copy_special : goal.invariant_of-self-in_err-copy_special
invariant_of-self-in_err-copy_special c =
    let s = c.self.inside in
    let m = c.in_ok-copying.field-0 in
    let v = with_items c.in_ok-copying.field-0.types c.keep_special.new.types in
    let first = c.deref.ensures.value ∙ c.in_ok-entries.ensures.entries in
    let distinct = subst HaveDistinctKeys (sym c.deref.ensures.value) c.in_ok-entries.ensures.distinct in
    let long : length c.keep_special.new.types ≡ c.in_ok-copying.field-0.types.len = omega (arith, c.keep_special.auto.types, ap length c.deref_mut.ensures.value, c.in_ok-copying.field-0.types.ok.0) in
    let kept = with_items_is c.in_ok-copying.field-0.types c.keep_special.new.types long ∙ c.keep_special.ensures ∙ ap (places_kept s.copying.target c.deref.result.now) c.deref_mut.ensures.value in
    let begun = copying_begun c.args.shader.now s.shader s.copying.maps m s.copying.target v c.deref.result.now c.requires c.self.invariant distinct first c.in_ok-copying.ensures.places kept in
    let n = c.copy_special.new.self in
    let all = refused c.args.shader.now s.shader s.copying.maps (record m { types = v }) n.maps s.copying.target n.target n.target.special_types [] s.function_names.entries c.args.self.now c.self.invariant (c.self.view_is ∙ c.clear_shader_source.ensures) begun c.copy_special.ensures.offset c.copy_special.ensures.putting (All-nil (λ (e : Entry). WentSomewhere (goes_under n.maps) (Some (TypeItem e.1)))) refl in
    all.derived

pub returns-in_err-copy_special-clause-keeps : goal.returns-in_err-copy_special-clause-keeps
returns-in_err-copy_special-clause-keeps c =
    let s = c.self.inside in
    let m = c.in_ok-copying.field-0 in
    let v = with_items c.in_ok-copying.field-0.types c.keep_special.new.types in
    let first = c.deref.ensures.value ∙ c.in_ok-entries.ensures.entries in
    let distinct = subst HaveDistinctKeys (sym c.deref.ensures.value) c.in_ok-entries.ensures.distinct in
    let long : length c.keep_special.new.types ≡ c.in_ok-copying.field-0.types.len = omega (arith, c.keep_special.auto.types, ap length c.deref_mut.ensures.value, c.in_ok-copying.field-0.types.ok.0) in
    let kept = with_items_is c.in_ok-copying.field-0.types c.keep_special.new.types long ∙ c.keep_special.ensures ∙ ap (places_kept s.copying.target c.deref.result.now) c.deref_mut.ensures.value in
    let begun = copying_begun c.args.shader.now s.shader s.copying.maps m s.copying.target v c.deref.result.now c.requires c.self.invariant distinct first c.in_ok-copying.ensures.places kept in
    let n = c.copy_special.new.self in
    let all = refused c.args.shader.now s.shader s.copying.maps (record m { types = v }) n.maps s.copying.target n.target n.target.special_types [] s.function_names.entries c.args.self.now c.self.invariant (c.self.view_is ∙ c.clear_shader_source.ensures) begun c.copy_special.ensures.offset c.copy_special.ensures.putting (All-nil (λ (e : Entry). WentSomewhere (goes_under n.maps) (Some (TypeItem e.1)))) refl in
    all.keeps

pub invariant_of-self-in_err-set_specials : goal.invariant_of-self-in_err-set_specials
invariant_of-self-in_err-set_specials c =
    let s = c.self.inside in
    let m = c.in_ok-copying.field-0 in
    let v = with_items c.in_ok-copying.field-0.types c.keep_special.new.types in
    let first = c.deref.ensures.value ∙ c.in_ok-entries.ensures.entries in
    let distinct = subst HaveDistinctKeys (sym c.deref.ensures.value) c.in_ok-entries.ensures.distinct in
    let long : length c.keep_special.new.types ≡ c.in_ok-copying.field-0.types.len = omega (arith, c.keep_special.auto.types, ap length c.deref_mut.ensures.value, c.in_ok-copying.field-0.types.ok.0) in
    let kept = with_items_is c.in_ok-copying.field-0.types c.keep_special.new.types long ∙ c.keep_special.ensures ∙ ap (places_kept s.copying.target c.deref.result.now) c.deref_mut.ensures.value in
    let begun = copying_begun c.args.shader.now s.shader s.copying.maps m s.copying.target v c.deref.result.now c.requires c.self.invariant distinct first c.in_ok-copying.ensures.places kept in
    let n = c.copy_special.new.self in
    let w = record m { types = v } in
    let second = c.deref-2.ensures.value ∙ c.in_ok-entries.ensures.entries in
    let third = c.deref-3.ensures.value ∙ c.in_ok-entries.ensures.entries in
    let each = subst HaveDistinctKeys (sym c.deref-2.ensures.value) c.in_ok-entries.ensures.distinct in
    let went = special_went c.args.shader.now s.copying.target n.target w n.maps c.deref-2.result.now c.requires (ranked c.args.shader.now c.requires) each second begun c.in_ok-copy_special.ensures.copied in
    let part = c.set_specials.ensures.some in
    let some = All-take (λ (e : Entry). WentSomewhere (goes_under n.maps) (Some (TypeItem e.1))) part.0 c.deref-3.result.now (subst (All (λ (e : Entry). WentSomewhere (goes_under n.maps) (Some (TypeItem e.1)))) (second ∙ sym third) went) in
    let all = refused c.args.shader.now s.shader s.copying.maps w n.maps s.copying.target n.target c.set_specials.new.special (take part.0 c.deref-3.result.now) s.function_names.entries c.args.self.now c.self.invariant (c.self.view_is ∙ c.clear_shader_source.ensures) begun c.copy_special.ensures.offset c.copy_special.ensures.putting some part.1 in
    all.derived

pub returns-in_err-set_specials-clause-keeps : goal.returns-in_err-set_specials-clause-keeps
returns-in_err-set_specials-clause-keeps c =
    let s = c.self.inside in
    let m = c.in_ok-copying.field-0 in
    let v = with_items c.in_ok-copying.field-0.types c.keep_special.new.types in
    let first = c.deref.ensures.value ∙ c.in_ok-entries.ensures.entries in
    let distinct = subst HaveDistinctKeys (sym c.deref.ensures.value) c.in_ok-entries.ensures.distinct in
    let long : length c.keep_special.new.types ≡ c.in_ok-copying.field-0.types.len = omega (arith, c.keep_special.auto.types, ap length c.deref_mut.ensures.value, c.in_ok-copying.field-0.types.ok.0) in
    let kept = with_items_is c.in_ok-copying.field-0.types c.keep_special.new.types long ∙ c.keep_special.ensures ∙ ap (places_kept s.copying.target c.deref.result.now) c.deref_mut.ensures.value in
    let begun = copying_begun c.args.shader.now s.shader s.copying.maps m s.copying.target v c.deref.result.now c.requires c.self.invariant distinct first c.in_ok-copying.ensures.places kept in
    let n = c.copy_special.new.self in
    let w = record m { types = v } in
    let second = c.deref-2.ensures.value ∙ c.in_ok-entries.ensures.entries in
    let third = c.deref-3.ensures.value ∙ c.in_ok-entries.ensures.entries in
    let each = subst HaveDistinctKeys (sym c.deref-2.ensures.value) c.in_ok-entries.ensures.distinct in
    let went = special_went c.args.shader.now s.copying.target n.target w n.maps c.deref-2.result.now c.requires (ranked c.args.shader.now c.requires) each second begun c.in_ok-copy_special.ensures.copied in
    let part = c.set_specials.ensures.some in
    let some = All-take (λ (e : Entry). WentSomewhere (goes_under n.maps) (Some (TypeItem e.1))) part.0 c.deref-3.result.now (subst (All (λ (e : Entry). WentSomewhere (goes_under n.maps) (Some (TypeItem e.1)))) (second ∙ sym third) went) in
    let all = refused c.args.shader.now s.shader s.copying.maps w n.maps s.copying.target n.target c.set_specials.new.special (take part.0 c.deref-3.result.now) s.function_names.entries c.args.self.now c.self.invariant (c.self.view_is ∙ c.clear_shader_source.ensures) begun c.copy_special.ensures.offset c.copy_special.ensures.putting some part.1 in
    all.keeps

pub returns-clause-value : goal.returns-clause-value
returns-clause-value c =
    let s = c.self.inside in
    let seen = c.self.view_is ∙ c.clear_shader_source.ensures in
    let first = c.deref.ensures.value ∙ c.in_ok-entries.ensures.entries in
    let second = c.deref-2.ensures.value ∙ c.in_ok-entries.ensures.entries in
    let third = c.deref-3.ensures.value ∙ c.in_ok-entries.ensures.entries in
    let m = c.in_ok-copying.field-0 in
    let v = with_items c.in_ok-copying.field-0.types c.keep_special.new.types in
    let u = c.copy_special.new.self.target in
    let n = c.copy_special.new.self.maps in
    let long : length c.keep_special.new.types ≡ c.in_ok-copying.field-0.types.len = omega (arith, c.keep_special.auto.types, ap length c.deref_mut.ensures.value, c.in_ok-copying.field-0.types.ok.0) in
    let kept = with_items_is c.in_ok-copying.field-0.types c.keep_special.new.types long ∙ c.keep_special.ensures ∙ ap (places_kept s.copying.target c.deref.result.now) c.deref_mut.ensures.value in
    set_value c.args.shader s.copying.target u m n v c.set_specials.new.special c.deref.result.now c.deref-2.result.now c.deref-3.result.now c.args.span_offset s.function_names.entries s.shader s.copying.maps c.args.self.now seen c.in_ok-copying.ensures.places c.in_ok-copying.ensures.offset first second third kept c.copy_special.ensures.offset c.in_ok-copy_special.ensures.copied c.in_ok-set_specials.ensures.all

pub returns-clause-keeps : goal.returns-clause-keeps
returns-clause-keeps c =
    let s = c.self.inside in
    let seen = c.self.view_is ∙ c.clear_shader_source.ensures in
    let distinct = subst HaveDistinctKeys (sym c.deref.ensures.value) c.in_ok-entries.ensures.distinct in
    let law = sets_law s.shader s.copying.maps s.copying.target s.function_names.entries c.args.self.now _ c.args.shader.now c.deref.result.now c.args.span_offset seen c.self.invariant c.requires distinct (c.deref.ensures.value ∙ c.in_ok-entries.ensures.entries) (returns-clause-value c) in
    law.keeps

pub invariant_of-self-2 : goal.invariant_of-self-2
invariant_of-self-2 c =
    let s = c.self.inside in
    let seen = c.self.view_is ∙ c.clear_shader_source.ensures in
    let distinct = subst HaveDistinctKeys (sym c.deref.ensures.value) c.in_ok-entries.ensures.distinct in
    let law = sets_law s.shader s.copying.maps s.copying.target s.function_names.entries c.args.self.now _ c.args.shader.now c.deref.result.now c.args.span_offset seen c.self.invariant c.requires distinct (c.deref.ensures.value ∙ c.in_ok-entries.ensures.entries) (returns-clause-value c) in
    derived_set c.args.shader _ _ s.function_names.entries (value_of c.args.shader.now) c.args.span_offset c.args.self.now (ranked c.args.shader.now c.requires) law
