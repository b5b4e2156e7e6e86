-- The whole of a shader's build copies what the builds hold.
use Rattle.std.proofs.Common.{◌≡◌, ℕ, suc, ◌*◌, List, [], take, reverse, Some, None, false, slice_get, inl, inr, refl, ap, sym, ◌∙◌, subst, arith}
use Rattle.naga_oil_ir.specs.ModuleValue.{ModuleValue, FunctionValue, EntryValue}
use Rattle.naga_oil_ir.specs.Rows.{Text}
use Rattle.naga_oil_ir.specs.declared.names.ItemPlace.{ItemPlace}
use Rattle.naga_oil_ir.specs.declared.names.ItemPlace.TheVariants.{TypeItem}
use Rattle.naga_oil_ir.specs.declared.span.Span.{Span}
use Rattle.naga_oil_derive.specs.CopiedEntry.{module_of}
use Rattle.naga_oil_derive.specs.Derived.{Derived}
use Rattle.naga_oil_derive.specs.DerivedValue.{set_source}
use Rattle.naga_oil_derive.specs.Tree.{World, tree, reading, row_tree}
use Rattle.naga_oil_derive.specs.World.{goes, shifted, kept_of}
use Rattle.naga_oil_derive.specs.declared.special.SpecialKey.{SpecialKey}
use Rattle.naga_oil_derive.proofs.DerivedLaws.{placed_law}
use Rattle.naga_oil_form_laws.specs.EntryForm.{IsModuleFormed}
use Rattle.naga_oil_form_laws.proofs.SpecialLemmas.{at_key}
use Rattle.naga_oil_link.specs.BuiltModule.{BuiltModule, Builds}
use Rattle.naga_oil_link.proofs.GoodFormLemmas.{linked_made}
use Rattle.naga_oil_link.specs.Linked.{link_items, link_imports, nothing_linked, link_header, link_whole}
use Rattle.naga_oil_copy_laws.specs.Scope.{ReadAlike, scope_of, scope_by, scope_from}
use Rattle.naga_oil_copy_laws.proofs.EntryLaws.{placed_entry}
use Rattle.naga_oil_copy_laws.proofs.FrameLaws.{alike, item_alike}
use Rattle.naga_oil_link_laws.specs.ReadIn.{scope_in}
use Rattle.naga_oil_link_laws.specs.Headers.{HasNamed, HasDeclarations, HaveDeclarations, HaveOwnNames}
use Rattle.naga_oil_link_laws.specs.LinkedCopies.{IsOneOrLast, header_before, CopiesOfBuild, HeaderOf, CopiesFunctionOfOne, ReadsAsItemOf, IsBuildOf, ComesFromBuild, CopiesBuilds, AreFormedBuilds, LinkedCopiesLaw}
use Rattle.naga_oil_link_laws.proofs.Names.{named_stays}
use Rattle.naga_oil_link_laws.proofs.Asks.{Entry, AllAfter, imports_ask}
use Rattle.naga_oil_link_laws.proofs.Stages.{following, read_after}
use Rattle.naga_oil_link_laws.proofs.Scopes.{after_alike, alike_same, entries_world, entries_in, entries_of}
use Rattle.naga_oil_link_laws.proofs.Links.{HasBefore, LinkCopy, LinkItem, Linked, items_linked, can, source_begins, made_copies, each_function, each_item, each_special}
use Rattle.naga_oil_link_laws.proofs.Specials.{Carries, carried}
use Rattle.naga_oil_link_laws.proofs.Imports.{MayLink, not_back, gathered, imports_linked}
use Rattle.naga_oil_link_laws.proofs.Entries.{end, entries_come, made_with}
use Rattle.naga_oil_ir.specs.Spans.{span_stride}

module _ (t : ModuleValue) (es : List EntryValue) where
  abbrev u : ModuleValue
  u = record t { entry_points = es }

  with_entries : (b : BuiltModule) (f g : FunctionValue) → CopiesOfBuild b t f g → CopiesOfBuild b u f g
  with_entries b f g c = record {
    copies = alike (shifted (b.index * span_stride)) (λ n. n) (scope_in b.value t) (scope_of t) (scope_in b.value u) (scope_of u) f g (entries_in b.value t es) (entries_of t es) c.copies;
    earlier = c.earlier;
  }

  -- functions have distinct names, so none has the name of an earlier one
  not_before : (header : ModuleValue) (k : ℕ) (g : FunctionValue × Span) → IsModuleFormed u → slice_get t.functions k ≡ Some g → HasBefore header t k → HasNamed header g.0.name → ⊥
  not_before header k g form at before h =
      let o = before g.0.name h in
      let same = form.functions.distinct o.0 k o.1 g o.3 at o.4 in
      let l = o.2 in
      omega (arith, same, l)

  function_copy : (P : BuiltModule → Type 0) (H : HeaderOf P) (k : ℕ) (g : FunctionValue × Span) → IsModuleFormed u → slice_get t.functions k ≡ Some g → LinkCopy P H t k g → CopiesFunctionOfOne P H u g
  function_copy P H k g form at c = record {
    build = c.build;
    among = c.among;
    copies = record { keys = c.keys; place = c.place; function = c.function; at = c.at; copies = with_entries c.build c.function.0 g.0 c.copies; span = c.span };
    undeclared = not_before (H c.build c.among) k g form at c.before;
  }

  item_copy : (P : BuiltModule → Type 0) (q : ItemPlace) → LinkItem P t q → (c : BuiltModule) × P c × ReadsAsItemOf c u q
  item_copy P q c = (c.build, c.among, (c.item.0, c.item.1, item_alike (scope_in c.build.value t) (scope_of t) (scope_in c.build.value u) (scope_of u) c.item.0 q (entries_in c.build.value t es) (entries_of t es) c.item.2))

  -- special types come from the builds still
  build_with : (P : BuiltModule → Type 0) (q : ℕ) (w : World) (m : ModuleValue) → IsBuildOf P t w m → Carries (IsBuildOf P u) (scope_by t) (scope_by u) t u q q w m
  build_with P q w m c = record {
    reads = w;
    value = m;
    of = record { build = c.build; among = c.among; value = c.value; reads = c.reads; keys = c.keys };
    each = λ key k at. record {
      place = k;
      at = at;
      same = λ n. refl;
      copied = λ z. record {
        there = (z.there.0, ap (λ (v : World). v (TypeItem q)) (entries_world t es) ∙ z.there.1);
        reads = λ n.
            let below : (λ p. (scope_by u w m).reads p n) ≡ (λ p. (scope_by t w m).reads p n) = λ i p. ap (λ (v : World). reading n w v (kept_of m.special_types t.special_types) p) (entries_world t es) i in
            ap (λ (v : World). tree (suc n) v (TypeItem q)) (entries_world t es) ∙ z.reads n ∙ sym (ap (λ f. row_tree f (w (TypeItem k))) below);
      };
    };
  }

  special_with : (P : BuiltModule → Type 0) (key : SpecialKey) (q : ℕ) → ComesFromBuild P t key q → ComesFromBuild P u key q
  special_with P key q c = carried (IsBuildOf P t) (IsBuildOf P u) (scope_by t) (scope_by u) t u q q (build_with P q) (λ key at. at) key c

-- what is linked after what stood before, with the header of a build known there
module _ (P : BuiltModule → Type 0) (H : HeaderOf P) (b : BuiltModule) (among : P b) (form : IsModuleFormed b.value) (before : Derived) (l : Linked P H before) (known : (n : Text) → HasNamed (H b among) n → HasNamed before.target n) (shift : ℕ) (moved : shift ≡ b.index * span_stride) where
  abbrev made : ModuleValue
  made = module_of (end (following before b.value shift) (can P H b among form before l known shift moved) (read_after before b.value) (set_source before b.value shift))

  whole_copies : IsModuleFormed made → CopiesBuilds P H b made
  whole_copies distinct =
      let m = b.value in
      let x = following before m shift in
      let w = read_after before m in
      let c = can P H b among form before l known shift moved in
      let d = set_source before m shift in
      let en = entries_come x c w d (source_begins P H b among form before l known shift moved) in
      let st = end x c w d in
      let t = st.derived.target in
      record {
        keys = en.stage.keys;
        special = λ key q at. special_with t st.entries P key q (at_key (λ (e : SpecialKey × ℕ). ComesFromBuild P t e.0 e.1) t.special_types key q (each_special P H b among form before l known shift moved st.derived en.stage) at);
        functions = λ k g at. function_copy t st.entries P H k g distinct at (each_function P H b among form before l known shift moved st.derived en.stage k g at);
        items = λ q r at. item_copy t st.entries P q (each_item P H b among form before l known shift moved st.derived en.stage q r (sym (ap (λ (v : World). v q) (entries_world t st.entries)) ∙ at));
        entry_points = λ i y at.
            let e = en.each i y at in
            let s = en.stage.source in
            let u = record t { entry_points = st.entries } in
            let reads = λ (p q : ItemPlace) (z : goes s.places p ≡ Some q). (
            let now : ReadAlike (scope_from s t) (scope_of t) p q = (placed_law x.first st.derived s p q en.stage.derivation en.stage.is z).now in
            let here = item_alike (scope_from s t) (scope_of t) (scope_in m t) (scope_of t) p q (after_alike before m shift st.derived en.stage) (alike_same (scope_of t)) now in
            let r : ReadAlike (scope_in m u) (scope_of u) p q = item_alike (scope_in m t) (scope_of t) (scope_in m u) (scope_of u) p q (entries_in m t st.entries) (entries_of t st.entries) here in
            r) in
            record {
              entry = e.entry;
              at = e.at;
              copies = with_entries t st.entries b e.entry.function y.function (made_copies P H b among form before l known shift moved st.derived en.stage e.entry.function y.function (c.entry_points i e.entry e.at).0.copyable e.made_of);
              whole = placed_entry (scope_in m u) (scope_of u) s e.entry y reads (en.whole i y e.entry at e.at);
            };
        as_many = en.long;
      }

module _ (bs : Builds) (b : BuiltModule) (forms : AreFormedBuilds bs) (declare : HaveDeclarations bs) (names : HaveOwnNames bs) where
  abbrev P : BuiltModule → Type 0
  P = IsOneOrLast bs b

  abbrev H : HeaderOf P
  H = header_before bs b

  declares_of : (earlier : Builds) (e : Entry) → MayLink P H earlier e → HasDeclarations e.1
  declares_of earlier e m = m.declares

  -- each of the builds may be linked over those before it
  pub all_may_link : AllAfter (MayLink P H) (reverse bs)
  unfolding link_header
  all_may_link = gathered (MayLink P H) bs [] one tt
    where
      one : (k : ℕ) (e : Entry) → slice_get bs k ≡ Some e → AllAfter (MayLink P H) (reverse (take k bs)) → MayLink P H (reverse (take k bs)) e
      one k e at a = record {
        among = inl (k, e, at, refl);
        form = forms k e at;
        declares = declare k e at;
        apart = not_back (take k bs) e.0 (names k e at);
        header = λ n h. imports_ask (MayLink P H) declares_of (reverse (take k bs)) a e.1.imports n h;
      }

  -- what the header of the last build declares is there after its imports
  pub last_known : (n : Text) → HasNamed (H b (inr refl)) n → HasNamed (link_imports false bs b.imports nothing_linked).derived.target n
  unfolding link_header
  last_known n h = (imports_linked P H bs b.imports all_may_link).named n (imports_ask (MayLink P H) declares_of (reverse bs) all_may_link b.imports n h)

pub linked_copies : LinkedCopiesLaw
unfolding link_whole
linked_copies bs b zero_index forms declare names form =
    let P = IsOneOrLast bs b in
    let H = header_before bs b in
    let among : P b = inr refl in
    let imports = imports_linked P H bs b.imports (all_may_link bs b forms declare names) in
    let d = (link_imports false bs b.imports nothing_linked).derived in
    let known = last_known bs b forms declare names in
    let all = items_linked P H b None d among form imports.linked known in
    let before = link_items false b None d in
    let moved : 0 ≡ b.index * span_stride = ap (λ n. n * span_stride) (sym zero_index) in
    let x = following before b.value 0 in
    let w = read_after before b.value in
    let then = λ (n : Text) (h : HasNamed (H b among) n). named_stays d.target before.target n all.stay (known n h) in
    let c = can P H b among form before all.linked then 0 moved in
    let same = made_with x c w (set_source before b.value 0) (source_begins P H b among form before all.linked then 0 moved) in
    let formed = linked_made b.value 0 before form all.linked.formed in
    (subst (CopiesBuilds P H b) (sym same) (whole_copies P H b among form before all.linked then 0 moved (subst IsModuleFormed same formed)), formed)
