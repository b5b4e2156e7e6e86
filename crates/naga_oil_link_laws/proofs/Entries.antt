-- Entry points that are copied after what stood before.
use Rattle.std.proofs.Common.{◌≡◌, ⊎_elim, ◌⊎◌, ℕ, suc, ◌+◌, List, [], ◌∷◌, ◌++◌, length, Some, IfSome, slice_get, All, refl, ap, sym, ◌∙◌, subst, append-nil, append_assoc, length-append}
use Rattle.std.proofs.lemmas.Option.{none-some, same_Some}
use Rattle.naga_oil_ir.specs.ModuleValue.{ModuleValue, FunctionValue, EntryValue}
use Rattle.naga_oil_ir.specs.declared.span.Span.{Span}
use Rattle.naga_oil_derive.specs.CopiedEntry.{entry_names, import_items, place_entry, EntriesState, entries_state, copy_entry, copy_entries, module_of, module_by, make_module}
use Rattle.naga_oil_derive.specs.CopiedLaw.{HasAt}
use Rattle.naga_oil_derive.specs.Derived.{Derived}
use Rattle.naga_oil_derive.specs.DerivedFunctions.{requests_of}
use Rattle.naga_oil_derive.specs.DerivedValue.{answer_requests, localize_function}
use Rattle.naga_oil_derive.specs.Tree.{World}
use Rattle.naga_oil_copy_laws.specs.CopiedByTree.{IsAtHand}
use Rattle.naga_oil_copy_laws.specs.InTurn.{CanCopyWhole, CanCopyModule}
use Rattle.naga_oil_copy_laws.proofs.EntryLaws.{PlacedEntry}
use Rattle.naga_oil_copy_laws.proofs.HeldLemmas.{comes_there, later_again, later_same, made_later}
use Rattle.naga_oil_copy_laws.proofs.TurnLaws.{MadeEntry, last_entry, stays_entry, at_end, localized_at}
use Rattle.naga_oil_link_laws.proofs.Stages.{Setting, Stage, stage_answers, stage_named, named_went}

pub record Entries (x : Setting) (w : World) (vs : List EntryValue) (st : EntriesState) : Type 0 where
  pub stage : Stage x w st.derived
  pub each : (i : ℕ) (y : EntryValue) → slice_get st.entries i ≡ Some y → MadeEntry x.value stage.source st.derived.target vs i y
  pub whole : (i : ℕ) (y v : EntryValue) → slice_get st.entries i ≡ Some y → slice_get vs i ≡ Some v → PlacedEntry stage.source v y
  pub long : length st.entries ≡ length vs

module _ (x : Setting) (can : CanCopyModule x.value) (w : World) where
  abbrev m : ModuleValue
  m = x.value

  next_entry : (vs : List EntryValue) (st : EntriesState) (v : EntryValue) → CanCopyWhole m v.function → All (λ o. IfSome o (HasAt m)) (entry_names v) → Entries x w vs st → Entries x w (vs ++ v ∷ []) (copy_entry st v)
  next_entry vs st v own names en =
      let d = st.derived in
      let e = answer_requests d (requests_of v.function) in
      let a = stage_answers x can w d v.function en.stage own in
      let t = a.0.stage in
      let b = stage_named x can w (entry_names v) e t names in
      let f = import_items e (entry_names v) in
      let u = b.stage in
      let g = localize_function e.source e.function_names v.function in
      let y = place_entry f.source g v in
      let own_copy = localized_at t.source e.source e.function_names e.target v.function t.is t.holds.are_true own.copyable (comes_there e.source t.source (λ s. All (IsAtHand s e.function_names) (requests_of v.function)) t.is a.1) in
      let later = later_again en.stage.source t.source u.source a.0.later b.later in
      let stay = λ (k : ℕ) (z : FunctionValue × Span) (at : slice_get d.target.functions k ≡ Some z). b.stay k z (a.0.stay k z at) in
      let new : MadeEntry m u.source f.target (vs ++ v ∷ []) (length st.entries) y = record {
        entry = v;
        at = ap (slice_get (vs ++ v ∷ [])) en.long ∙ at_end vs v;
        made_of = made_later t.source u.source e.target f.target v.function g b.later b.stay own_copy;
      } in
      let placed : PlacedEntry u.source v y = record { before = u.source; later = later_same u.source; went = named_went x can w (entry_names v) e t names; is = ap (λ o. place_entry o g v) u.is } in
      let earlier = λ (i : ℕ) (z o : EntryValue) (q : slice_get st.entries i ≡ Some z) (there : slice_get (vs ++ v ∷ []) i ≡ Some o). (
      let k = en.each i z q in
      let p = en.whole i z k.entry q k.at in
      let now : PlacedEntry u.source k.entry z = record { before = p.before; later = later_again p.before en.stage.source u.source p.later later; went = p.went; is = p.is } in
      let same : k.entry ≡ o = same_Some k.entry o (sym (stays_entry vs v i k.entry k.at) ∙ there) in
      subst (λ c. PlacedEntry u.source c z) same now) in
      let last = λ (i : ℕ) (z o : EntryValue) (q : (i ≡ length st.entries) × (y ≡ z)) (there : slice_get (vs ++ v ∷ []) i ≡ Some o). (
      let same : v ≡ o = same_Some v o (sym (at_end vs v) ∙ ap (slice_get (vs ++ v ∷ [])) (sym (q.0 ∙ en.long)) ∙ there) in
      subst (λ c. PlacedEntry u.source c z) same (subst (PlacedEntry u.source v) q.1 placed)) in
      record {
        stage = u;
        whole = λ i z o at there. ⊎_elim (λ q. earlier i z o q there) (λ (q : (i ≡ length st.entries) × (y ≡ z)). last i z o q there) (last_entry st.entries y i z at);
        each = λ i z at. ⊎_elim
            (λ q. let k = en.each i z q in record { entry = k.entry; at = stays_entry vs v i k.entry k.at; made_of = made_later en.stage.source u.source d.target f.target k.entry.function z.function later stay k.made_of })
            (λ (q : (i ≡ length st.entries) × (y ≡ z)). subst (λ c. MadeEntry m u.source f.target (vs ++ v ∷ []) i c) q.1 (subst (λ j. MadeEntry m u.source f.target (vs ++ v ∷ []) j y) (sym q.0) new))
            (last_entry st.entries y i z at);
        long = length-append st.entries (y ∷ []) ∙ ap (λ n. n + 1) en.long ∙ sym (length-append vs (v ∷ []));
      }

  -- each of some entry points can be copied
  abbrev EntriesCan : List EntryValue → Type 0
  EntriesCan vs = (i : ℕ) (v : EntryValue) → slice_get vs i ≡ Some v → CanCopyWhole m v.function × All (λ o. IfSome o (HasAt m)) (entry_names v)

  all_entries : (ws vs : List EntryValue) (st : EntriesState) → EntriesCan ws → Entries x w vs st → Entries x w (vs ++ ws) (copy_entries st ws)
  all_entries [] vs st ok en = subst (λ xs. Entries x w xs st) (sym (append-nil vs)) en
  all_entries (v ∷ ws) vs st ok en =
      let own = ok 0 v refl in
      let next = next_entry vs st v own.0 own.1 en in
      subst (λ xs. Entries x w xs (copy_entries (copy_entry st v) ws)) (append_assoc vs (v ∷ []) ws) (all_entries ws (vs ++ v ∷ []) (copy_entry st v) (λ i z at. ok (suc i) z at) next)

  abbrev pub end : Derived → EntriesState
  end d = copy_entries (entries_state d []) m.entry_points

  -- the entry points of the source are added
  pub entries_come : (d : Derived) → Stage x w d → Entries x w m.entry_points (end d)
  entries_come d t =
      let start : Entries x w [] (entries_state d []) = record { stage = t; each = λ i y at. absurd (none-some y at); whole = λ i y v at there. absurd (none-some y at); long = refl } in
      all_entries m.entry_points [] (entries_state d []) can.entry_points start

  -- the module is finished
  pub made_with : (d : Derived) → Stage x w d → make_module d ≡ module_of (end d)
  made_with d t = ap (module_by d) t.is ∙ ap (λ (v : ModuleValue). module_of (copy_entries (entries_state d []) v.entry_points)) t.value
