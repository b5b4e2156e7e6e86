-- What builds and linked modules hold: each item and function once, and all that is requested.
use Rattle.std.proofs.Common.{◌≡◌, ℕ, zero, suc, ◌*◌, Bool, true, false, if◌then◌else◌, List, [], ◌∷◌, fold, Some, None, is_some, slice_get, All, inr, refl, ap, sym, ◌∙◌, subst}
use Rattle.std.proofs.lemmas.Bool.{false≢true}
use Rattle.std.proofs.lemmas.List.Elements.{All-head, All-tail}
use Rattle.std.proofs.lemmas.Option.{none-some, same_Some}
use Rattle.naga_oil_ir.specs.ModuleValue.{ModuleValue}
use Rattle.naga_oil_ir.specs.Rows.{Text}
use Rattle.naga_oil_ir.specs.Spans.{span_stride}
use Rattle.naga_oil_derive.specs.CopiedEntry.{make_module}
use Rattle.naga_oil_derive.specs.Copying.{IsSound}
use Rattle.naga_oil_derive.specs.Derived.{Derived}
use Rattle.naga_oil_derive.specs.DerivedValue.{import_function, set_source}
use Rattle.naga_oil_derive.specs.Tree.{World}
use Rattle.naga_oil_derive.specs.World.{world}
use Rattle.naga_oil_form_laws.proofs.RequestLemmas.{from_at}
use Rattle.naga_oil_link.specs.CopiedBuild.{copy_places, has_name_among, copy_with_body}
use Rattle.naga_oil_link.specs.Linked.{link_items, link_imports, nothing_linked, link_whole}
use Rattle.naga_oil_link.proofs.GoodFormLemmas.{whole_formed}
use Rattle.naga_oil_link_laws.specs.Headers.{HasNamed}
use Rattle.naga_oil_link_laws.specs.LinkedCopies.{IsOneOrLast, header_before}
use Rattle.naga_oil_link_laws.specs.Once.{HeldOnceLaw, HeldAllLaw, LinkedOnceLaw}
use Rattle.naga_oil_copy_laws.specs.InTurn.{CanCopyModule}
use Rattle.naga_oil_link_laws.proofs.Decorates.{first_source, hold_begins, places_held}
use Rattle.naga_oil_link_laws.proofs.FormedSources.{can_copy}
use Rattle.naga_oil_link_laws.proofs.Holds.{body_held, bodies_held, held_whole}
use Rattle.naga_oil_link_laws.proofs.Imports.{imports_linked}
use Rattle.naga_oil_link_laws.proofs.Links.{items_linked, source_begins, can}
use Rattle.naga_oil_link_laws.proofs.Names.{Function, function_named, named_stays, set_functions, make_named}
use Rattle.naga_oil_link_laws.proofs.Stages.{Stage, following, read_after}
use Rattle.naga_oil_link_laws.proofs.Entries.{end, entries_come, made_with}
use Rattle.naga_oil_link_laws.proofs.Scopes.{entries_world}
use Rattle.naga_oil_link_laws.proofs.Wholes.{all_may_link, last_known, linked_copies}

pub held_once : HeldOnceLaw
held_once m own decoration functions form = record {
  items = (held_whole m own decoration functions form).special.sound.once;
  functions = (whole_formed m own decoration functions form).functions.distinct;
}

-- ---- functions that a build is to hold

module _ (m : ModuleValue) (can : CanCopyModule m) where
  abbrev StandsIn : Function → Type 0
  StandsIn y = (k : ℕ) × (slice_get m.functions k ≡ Some y)

  body_named : (w : World) (d : Derived) (y : Function) (t : Stage (first_source m) w d) (b : Bool) → b ≡ true → HasNamed (let r : Derived = if b then import_function d y.0 y.1 else d in r.target) y.0.name
  body_named w d y t true e = function_named d y.0 y.1 (ap is_some t.is)
  body_named w d y t false e = absurd (false≢true e)

  -- those with the given names are there
  bodies_named : (w : World) (names : List (List ℕ)) (fs : List Function) (d : Derived) (t : Stage (first_source m) w d) → All StandsIn fs → (k : ℕ) (f : Function) → slice_get fs k ≡ Some f → has_name_among names f.0.name ≡ true → HasNamed (fold (copy_with_body names) d fs).target f.0.name
  bodies_named w names [] d t a k f at p = absurd (none-some f at)
  bodies_named w names (y ∷ fs) d t a zero f at p =
      let e = copy_with_body names d y in
      let one = body_held m can w names d y t (All-head StandsIn y fs a) (has_name_among names y.0.name) in
      let rest = bodies_held m can w names fs e one.stage (All-tail StandsIn y fs a) in
      let same : y ≡ f = same_Some y f at in
      let here : HasNamed e.target y.0.name = body_named w d y t (has_name_among names y.0.name) (ap (λ (g : Function). has_name_among names g.0.name) same ∙ p) in
      named_stays e.target (fold (copy_with_body names) e fs).target f.0.name rest.stay (subst (λ (z : Function). HasNamed e.target z.0.name) same here)
  bodies_named w names (y ∷ fs) d t a (suc k) f at p =
      let one = body_held m can w names d y t (All-head StandsIn y fs a) (has_name_among names y.0.name) in
      bodies_named w names fs (copy_with_body names d y) one.stage (All-tail StandsIn y fs a) k f at p

pub held_all : HeldAllLaw
held_all m own decoration functions form k f at p =
    let can = can_copy m form in
    let ps = places_held m own decoration can (hold_begins m can) in
    let c = copy_places true m own decoration in
    let Stands = λ (y : Function). (k : ℕ) × (slice_get m.functions k ≡ Some y) in
    let d = fold (copy_with_body functions) c.derived m.functions in
    make_named d f.0.name (bodies_named m can ps.reads functions m.functions c.derived ps.stages.stage (from_at Stands m.functions (λ k y at. (k, at))) k f at p)

-- ---- what is linked

pub linked_once : LinkedOnceLaw
unfolding link_whole
linked_once bs b zero_index forms declare names form =
    let P = IsOneOrLast bs b in
    let H = header_before bs b in
    let among : P b = inr refl in
    let imports = imports_linked P H bs b.imports (all_may_link bs b forms declare names) in
    let d = (link_imports false bs b.imports nothing_linked).derived in
    let known = last_known bs b forms declare names in
    let all = items_linked P H b None d among form imports.linked known in
    let before = link_items false b None d in
    let moved : 0 ≡ b.index * span_stride = ap (λ n. n * span_stride) (sym zero_index) in
    let x = following before b.value 0 in
    let w = read_after before b.value in
    let later = λ (n : Text) (h : HasNamed (H b among) n). named_stays d.target before.target n all.stay (known n h) in
    let c = can P H b among form before all.linked later 0 moved in
    let e = set_source before b.value 0 in
    let begins = source_begins P H b among form before all.linked later 0 moved in
    let st = end x c w e in
    let sound : IsSound (world (make_module e)) = subst (λ (v : ModuleValue). IsSound (world v)) (sym (made_with x c w e begins)) (subst IsSound (sym (entries_world st.derived.target st.entries)) (entries_come x c w e begins).stage.derivation.sound) in
    let there = λ (n : Text) (h : HasNamed before.target n). make_named e n (named_stays before.target e.target n (λ k y at. ap (λ fs. slice_get fs k) (set_functions before b.value 0) ∙ at) h) in (
      record { items = sound.once; functions = (linked_copies bs b zero_index forms declare names form).1.functions.distinct },
      record {
        own = λ k f at links. there f.0.name (all.named k f at links);
        imported = λ n asks. there n (named_stays d.target before.target n all.stay (imports.named n asks));
      },
    )
