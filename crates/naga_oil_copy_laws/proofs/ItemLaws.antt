-- Where the items of a derived module come from.
use Rattle.std.proofs.Common.{◌≡◌, ⊎_elim, ◌⊎◌, ℕ, zero, suc, ◌+◌, ◌*◌, ◌<◌, ◌≤◌, if◌then◌else◌, List, [], ◌∷◌, length, Option, Some, None, is_some, IfSome, All, inl, inr, Bool, true, false, slice_get, refl, ap, sym, ◌∙◌, subst, arith}
use Rattle.std.proofs.lemmas.Bool.{false≢true}
use Rattle.std.proofs.lemmas.List.Elements.{All-head, All-tail, All-weaker}
use Rattle.std.proofs.lemmas.Option.{none-some}
use Rattle.naga_oil_ir.specs.ModuleValue.{ModuleValue, FunctionValue}
use Rattle.naga_oil_ir.specs.Rows.{Row, Text}
use Rattle.naga_oil_ir.specs.declared.names.ItemPlace.{ItemPlace}
use Rattle.naga_oil_ir.specs.declared.names.ItemPlace.TheVariants.{TypeItem}
use Rattle.naga_oil_ir.specs.declared.span.Span.{Span}
use Rattle.naga_oil_walk.specs.declared.walk.Request.{Request}
use Rattle.naga_oil_walk.specs.declared.walk.Request.TheVariants.{Item, Call}
use Rattle.naga_oil_derive.specs.Answered.{ImportState, Caller, answer_one, answer_by, answer_all, import_copy_by, import_callee_by, import_callee, import_copy}
use Rattle.naga_oil_derive.specs.Copying.{special_names}
use Rattle.naga_oil_derive.specs.DerivedFunctions.{Meanings, meant, requests_of}
use Rattle.naga_oil_derive.proofs.AnsweredLaws.{derived_given}
use Rattle.naga_oil_derive.proofs.HavingLemmas.{given, world_given}
use Rattle.naga_oil_derive.proofs.SetLaws.{as_names, start, midway_first, world_having}
use Rattle.naga_oil_derive.specs.Collected.{depth, names_trail}
use Rattle.naga_oil_derive.specs.Copied.{CopyState, copy_each, copy_row_names, copy_item_by, copy_within, copy_item, copy_all, copy_named_type, put, put_type}
use Rattle.naga_oil_derive.specs.CopiedLaw.{HasAt, IsBelowIn, IsRankedBy, IsCopyable, IsMidway, PutsOne, reads_now, spans_by, trail_in}
use Rattle.naga_oil_derive.specs.Derived.{Source, Derived, type_under}
use Rattle.naga_oil_derive.specs.DerivedLaw.{IsDerivation, IsSourceOf}
use Rattle.naga_oil_derive.specs.DerivedValue.{by_source, copying_of, import_item, rename_type, answer_requests, import_function, importing_of, after_importing, after_copying}
use Rattle.naga_oil_derive.specs.Tree.{World, Kept}
use Rattle.naga_oil_derive.specs.World.{goes, world, kept_of, special_entries, with_specials}
use Rattle.naga_oil_rename.specs.Renames.{under_name}
use Rattle.naga_oil_derive.proofs.CollectLemmas.{Lowers}
use Rattle.naga_oil_derive.proofs.CopiedLaws.{type_again, copied_again, copied_all, copied_item, lower_names, lowers, not_among, still_nowhere}
use Rattle.naga_oil_derive.proofs.CopiedLemmas.{copied-enough}
use Rattle.naga_oil_derive.proofs.DerivedLaws.{placed_law}
use Rattle.naga_oil_derive.proofs.PutLaws.{put_item, put_named}
use Rattle.naga_oil_copy_laws.specs.Scope.{ReadAlike, scope_of, scope_from}
use Rattle.naga_oil_copy_laws.proofs.HeldLemmas.{comes_there}
use Rattle.naga_oil_copy_laws.specs.ItemsByTree.{HoldsItems, HoldsItemsOf, SourceItemsLaw, ImportedItemsLaw, RenamedItemsLaw, AsksThere, HaveItems, AnsweredItemsLaw, FunctionItemsLaw, EachItemReads, HeldItemsLaw}

-- each item of a state's target stood in b, or something maps to it
abbrev Only : World → CopyState → Type 0
Only b u = (q : ItemPlace) (r : Row) → world u.target q ≡ Some r → (b q ≡ Some r) ⊎ ((p : ItemPlace) × (goes u.places p ≡ Some q))

put_only : (b : World) (m : ModuleValue) (s u : CopyState) (p : ItemPlace) (row : Row) (span : Option Span) → PutsOne m s u p row span → goes s.places p ≡ None → Only b s → Only b u
put_only b m s u p row span c fresh h q r at =
    let went = λ (w : (x : ItemPlace) × (goes s.places x ≡ Some q)). (
    let other = λ (e : w.0 ≡ p). none-some q (sym (ap (goes s.places) e ∙ fresh) ∙ w.1) in
    let all : (x : ItemPlace) × (goes u.places x ≡ Some q) = (w.0, c.puts.others w.0 other ∙ w.1) in
    all) in
    ⊎_elim (λ old. ⊎_elim (λ i. inl i) (λ w. inr (went w)) (h q r old)) (λ new. inr (p, c.puts.at ∙ ap Some (sym new.0))) (c.fetches.only q r at)

names_only : (b : World) (m : ModuleValue) (shift : ℕ) (kept : Kept) (n : ℕ) (rank : ItemPlace → ℕ) → IsCopyable m → ((p : ItemPlace) → HasAt m p → rank p < n → (s : CopyState) → IsMidway m kept s → Only b s → Only b (copy_item m shift s p)) → (ps : List (Option ItemPlace)) → All (λ o. IfSome o (λ p. HasAt m p × (rank p < n))) ps → (s : CopyState) → IsMidway m kept s → Only b s → Only b (copy_all m shift s ps)
names_only b m shift kept n rank c h [] a s i o = o
names_only b m shift kept n rank c h (None ∷ ps) a s i o = names_only b m shift kept n rank c h ps (All-tail (λ o. IfSome o (λ p. HasAt m p × (rank p < n))) None ps a) s i o
names_only b m shift kept n rank c h (Some p ∷ ps) a s i o =
    let own : HasAt m p × (rank p < n) = All-head (λ o. IfSome o (λ p. HasAt m p × (rank p < n))) (Some p) ps a in
    let g = copied_item m shift kept s p c i own.0 in
    names_only b m shift kept n rank c h ps (All-tail (λ o. IfSome o (λ p. HasAt m p × (rank p < n))) (Some p) ps a) (copy_item m shift s p) g.0.midway (h p own.0 own.1 s i o)

-- ---- an item that isn't mapped is copied after what it names

lowers_here : (m : ModuleValue) (rank : ItemPlace → ℕ) → IsRankedBy m rank → Lowers (world m) rank
lowers_here m rank a p r e = lower_names m rank p r.names (a.names p r e)

each_same : (m : ModuleValue) (shift n : ℕ) (rank : ItemPlace → ℕ) → Lowers (world m) rank → (ps : List (Option ItemPlace)) → All (λ o. IfSome o (λ p. (rank p < n) × (rank p < depth m))) ps → (s : CopyState) → copy_each (copy_within n m shift) s ps ≡ copy_all m shift s ps
each_same m shift n rank l [] a s = refl
each_same m shift n rank l (None ∷ ps) a s = each_same m shift n rank l ps (All-tail (λ o. IfSome o (λ p. (rank p < n) × (rank p < depth m))) None ps a) s
each_same m shift n rank l (Some p ∷ ps) a s =
    let own : (rank p < n) × (rank p < depth m) = All-head (λ o. IfSome o (λ p. (rank p < n) × (rank p < depth m))) (Some p) ps a in
    ap (λ t. copy_each (copy_within n m shift) t ps) (copied-enough m shift rank l n (depth m) s p own.0 own.1) ∙ each_same m shift n rank l ps (All-tail (λ o. IfSome o (λ p. (rank p < n) × (rank p < depth m))) (Some p) ps a) (copy_item m shift s p)

within_step : (n : ℕ) (m : ModuleValue) (shift : ℕ) (s : CopyState) (p : ItemPlace) → copy_within (suc n) m shift s p ≡ copy_item_by (copy_within n m shift) m shift s p
unfolding copy_within
within_step n m shift s p = refl

depth_is : (m : ModuleValue) → (n : ℕ) × (depth m ≡ suc n)
depth_is m = (2 * length m.types + 2 * length m.global_expressions + 1, omega arith)

put_after : (m : ModuleValue) (shift : ℕ) (s : CopyState) (p : ItemPlace) (r : Row) → (c : IsCopyable m) → world m p ≡ Some r → goes s.places p ≡ None → copy_item m shift s p ≡ put m shift (copy_all m shift s r.names) p
put_after m shift s p r c at fresh =
    let d = depth_is m in
    let n = d.0 in
    let f = copy_within n m shift in
    let rank = c.rank in
    let l = lowers_here m rank c.ranked in
    let here = c.ranked.within p r at in
    let below = All-weaker (IsBelowIn m rank p) (λ o. IfSome o (λ q. (rank q < n) × (rank q < depth m))) (below_one n (omega (arith, here, d.1))) r.names (c.ranked.names p r at) in
    ap (λ k. copy_within k m shift s p) d.1 ∙ within_step n m shift s p ∙ ap (λ o. if is_some o then s else put m shift (copy_row_names f s (world m p)) p) fresh ∙ ap (λ o. put m shift (copy_row_names f s o) p) at ∙ ap (λ t. put m shift t p) (each_same m shift n rank l r.names below s)
  where
    below_one : (n : ℕ) → c.rank p ≤ n → (o : Option ItemPlace) → IsBelowIn m c.rank p o → IfSome o (λ q. (c.rank q < n) × (c.rank q < depth m))
    below_one n k None h = tt
    below_one n k (Some q) h = ((let l = h.1 in omega (arith, l, k)), c.ranked.within q h.0.0 h.0.1)

each_weaker : (P Q : ItemPlace → Type 0) → ((p : ItemPlace) → P p → Q p) → (ps : List (Option ItemPlace)) → All (λ o. IfSome o P) ps → All (λ o. IfSome o Q) ps
each_weaker P Q f ps a = All-weaker (λ o. IfSome o P) (λ o. IfSome o Q) (λ o h. one o h) ps a
  where
    one : (o : Option ItemPlace) → IfSome o P → IfSome o Q
    one None h = tt
    one (Some p) h = f p h

put_step : (b : World) (m : ModuleValue) (shift : ℕ) (kept : Kept) (c : IsCopyable m) (n : ℕ) (p : ItemPlace) (r : Row) → world m p ≡ Some r → c.rank p < suc n → (s : CopyState) → IsMidway m kept s → Only b s → ((q : ItemPlace) → HasAt m q → c.rank q < n → (s : CopyState) → IsMidway m kept s → Only b s → Only b (copy_item m shift s q)) → goes s.places p ≡ None → Only b (copy_item m shift s p)
put_step b m shift kept c n p r at l s i o below fresh =
    let t = copy_all m shift s r.names in
    let names = c.ranked.names p r at in
    let g = copied_all m shift kept s r.names c i (each_weaker (λ q. HasAt m q × (c.rank q < c.rank p)) (HasAt m) (λ q h. h.0) r.names names) in
    let only = names_only b m shift kept n c.rank c below r.names (each_weaker (λ q. HasAt m q × (c.rank q < c.rank p)) (λ q. HasAt m q × (c.rank q < n)) (λ q h. (h.0, (let k = h.1 in omega (arith, k, l)))) r.names names) s i o in
    let w = reads_now m s in
    let fresh_t = still_nowhere m shift kept w s t (names_trail (trail_in m kept w) r.names) p g.0 (not_among m kept w c.rank p r.names (lowers m c.rank s c.ranked) (lower_names m c.rank p r.names names)) fresh in
    let puts = put_item m shift t p r (record { source = c.kinds; target = g.0.midway.kinds; roomy = g.0.midway.roomy; at = at; names = g.1 }) in
    subst (Only b) (sym (put_after m shift s p r c at fresh)) (put_only b m t (put m shift t p) p r (spans_by m shift p) puts fresh_t only)

item_only : (b : World) (m : ModuleValue) (shift : ℕ) (kept : Kept) → (c : IsCopyable m) → (n : ℕ) (p : ItemPlace) → HasAt m p → c.rank p < n → (s : CopyState) → IsMidway m kept s → Only b s → Only b (copy_item m shift s p)
item_only b m shift kept c zero p h l s i o = absurd (omega (arith, l))
item_only b m shift kept c (suc n) p h l s i o = one (goes s.places p) refl (λ q g k. item_only b m shift kept c n q g k)
  where
    one : (a : Option ItemPlace) → goes s.places p ≡ a → ((q : ItemPlace) → HasAt m q → c.rank q < n → (s : CopyState) → IsMidway m kept s → Only b s → Only b (copy_item m shift s q)) → Only b (copy_item m shift s p)
    one None e below = put_step b m shift kept c n p h.0 h.1 l s i o below e
    one (Some q) e below = subst (Only b) (sym (copied_again m shift s p (q, e))) o

all_only : (b : World) (m : ModuleValue) (shift : ℕ) (kept : Kept) → (c : IsCopyable m) → (ps : List (Option ItemPlace)) → All (λ o. IfSome o (HasAt m)) ps → (s : CopyState) → IsMidway m kept s → Only b s → Only b (copy_all m shift s ps)
all_only b m shift kept c ps a s i o =
    names_only b m shift kept (depth m) c.rank c (λ q h l. item_only b m shift kept c (depth m) q h l) ps (each_weaker (HasAt m) (λ q. HasAt m q × (c.rank q < depth m)) (λ q h. (h, c.ranked.within q h.0 h.1)) ps a) s i o

-- ---- a derived module

into : (o : Option Source) (s : Source) (P : Source → Type 0) → o ≡ Some s → P s → IfSome o P
into o s P e p = subst (λ x. IfSome x P) (sym e) p

pub imported_items : ImportedItemsLaw
imported_items base first d p i has held = one d.source refl
  where
    one : (o : Option Source) → d.source ≡ o → HoldsItemsOf base (import_item d p)
    one None e = absurd (false≢true (sym (ap is_some e) ∙ has.0))
    one (Some s) e =
        let own : IsSourceOf first s d.target = comes_there d.source s (λ x. IsSourceOf first x d.target) e i.source in
        let c : CopyState = record { places = s.places; target = d.target } in
        let h = comes_there d.source s (λ x. HasAt x.value p) e has.1 in
        let only = item_only (world base) s.value s.offset first own.copyable (depth s.value) p h (own.copyable.ranked.within p h.0 h.1) c own.midway (comes_there d.source s (λ x. HoldsItems base x d) e held) in
        let is : import_item d p ≡ after_copying d s (copy_item s.value s.offset c p) = ap (by_source d (λ x. after_copying d x (copy_item x.value x.offset (copying_of d x) p))) e in
        subst (HoldsItemsOf base) (sym is) only

pub held_items : HeldItemsLaw
held_items base first d i held = one d.source refl
  where
    one : (o : Option Source) → d.source ≡ o → EachItemReads base d
    one None e = into_none d.source e
      where
        into_none : (o : Option Source) → o ≡ None → IfSome o (λ s. (q : ItemPlace) (r : Row) → world d.target q ≡ Some r → (world base q ≡ Some r) ⊎ ((p : ItemPlace) × ReadAlike (scope_from s d.target) (scope_of d.target) p q))
        into_none o e = subst (λ x. IfSome x (λ s. (q : ItemPlace) (r : Row) → world d.target q ≡ Some r → (world base q ≡ Some r) ⊎ ((p : ItemPlace) × ReadAlike (scope_from s d.target) (scope_of d.target) p q))) (sym e) tt
    one (Some s) e = into d.source s (λ s. (q : ItemPlace) (r : Row) → world d.target q ≡ Some r → (world base q ≡ Some r) ⊎ ((p : ItemPlace) × ReadAlike (scope_from s d.target) (scope_of d.target) p q)) e (λ q r at. ⊎_elim (λ x. inl x) (λ (x : (p : ItemPlace) × (goes s.places p ≡ Some q)). inr (x.0, (placed_law first d s x.0 q i e x.1).now)) (comes_there d.source s (λ x. HoldsItems base x d) e held q r at))

pub source_items : SourceItemsLaw
source_items first d m shift i c a =
    let names = special_names (special_entries m.special_types) in
    let u = copy_all m shift (start d m) names in
    let only = all_only (world d.target) m shift (kept_of m.special_types d.target.special_types) c names (as_names (HasAt m) (special_entries m.special_types) a.there) (start d m) (midway_first first d m i a) (λ q r at. inl at) in
    λ q r at. only q r (sym (ap (λ (w : World). w q) (world_having u.target (with_specials u.target.special_types (type_under u.places) (special_entries m.special_types)))) ∙ at)

-- a type under a name
type_only : (b : World) (m : ModuleValue) (shift : ℕ) (kept : Kept) (name : Option Text) → (c : IsCopyable m) → (k : ℕ) → HasAt m (TypeItem k) → (s : CopyState) → IsMidway m kept s → Only b s → Only b (copy_named_type m shift name s k)
type_only b m shift kept name c k h s i o = one (goes s.places (TypeItem k)) refl
  where
    one : (a : Option ItemPlace) → goes s.places (TypeItem k) ≡ a → Only b (copy_named_type m shift name s k)
    one (Some q) e = subst (Only b) (sym (type_again m shift s k name (q, e))) o
    one None fresh =
        let r = h.0 in
        let t = copy_all m shift s r.names in
        let names = c.ranked.names (TypeItem k) r h.1 in
        let there = each_weaker (λ q. HasAt m q × (c.rank q < c.rank (TypeItem k))) (HasAt m) (λ q h. h.0) r.names names in
        let g = copied_all m shift kept s r.names c i there in
        let only = all_only b m shift kept c r.names there s i o in
        let w = reads_now m s in
        let fresh_t = still_nowhere m shift kept w s t (names_trail (trail_in m kept w) r.names) (TypeItem k) g.0 (not_among m kept w c.rank (TypeItem k) r.names (lowers m c.rank s c.ranked) (lower_names m c.rank (TypeItem k) r.names names)) fresh in
        let puts = put_named m shift t k r name (record { source = c.kinds; target = g.0.midway.kinds; roomy = g.0.midway.roomy; at = h.1; names = g.1 }) in
        let is : copy_named_type m shift name s k ≡ put_type m shift name t k = ap (λ v. if is_some v then s else put_type m shift name (copy_row_names (copy_item m shift) s (world m (TypeItem k))) k) fresh ∙ ap (λ v. put_type m shift name (copy_row_names (copy_item m shift) s v) k) h.1 in
        subst (Only b) (sym is) (put_only b m t (put_type m shift name t k) (TypeItem k) (under_name name r) (spans_by m shift (TypeItem k)) puts fresh_t only)

pub renamed_items : RenamedItemsLaw
renamed_items base first d k name i has held = one d.source refl
  where
    one : (o : Option Source) → d.source ≡ o → HoldsItemsOf base (rename_type d k name)
    one None e = absurd (false≢true (sym (ap is_some e) ∙ has.0))
    one (Some s) e =
        let own : IsSourceOf first s d.target = comes_there d.source s (λ x. IsSourceOf first x d.target) e i.source in
        let c : CopyState = record { places = s.places; target = d.target } in
        let h = comes_there d.source s (λ x. HasAt x.value (TypeItem k)) e has.1 in
        let only = type_only (world base) s.value s.offset first name own.copyable k h c own.midway (comes_there d.source s (λ x. HoldsItems base x d) e held) in
        let is : rename_type d k name ≡ after_copying d s (copy_named_type s.value s.offset name c k) = ap (by_source d (λ x. after_copying d x (copy_named_type x.value x.offset name (copying_of d x) k))) e in
        subst (HoldsItemsOf base) (sym is) only

-- ---- where functions are copied

record IsGood (b : World) (m : ModuleValue) (kept : Kept) (c : CopyState) : Type 0 where
  midway : IsMidway m kept c
  only : Only b c

-- what a caller does keeps a good state
abbrev KeepsGood : World → ModuleValue → Kept → Caller → Type 0
KeepsGood b m kept f = (i : ImportState) (k : ℕ) → IsGood b m kept i.copying → IsGood b m kept (f i k).copying

good_answers : (b : World) (m : ModuleValue) (shift : ℕ) (kept : Kept) (f : Caller) → IsCopyable m → KeepsGood b m kept f → (rs : List Request) → All (AsksThere m) rs → (i : ImportState) → IsGood b m kept i.copying → IsGood b m kept (answer_by (answer_one f m shift) i rs).copying
good_answers b m shift kept f c w [] a i g = g
good_answers b m shift kept f c w (Item p ∷ rs) a i g =
    let h = All-head (AsksThere m) (Item p) rs a in
    let next : IsGood b m kept (copy_item m shift i.copying p) = record { midway = (copied_item m shift kept i.copying p c g.midway h).0.midway; only = item_only b m shift kept c (depth m) p h (c.ranked.within p h.0 h.1) i.copying g.midway g.only } in
    good_answers b m shift kept f c w rs (All-tail (AsksThere m) (Item p) rs a) (record i { copying = copy_item m shift i.copying p }) next
good_answers b m shift kept f c w (Call k ∷ rs) a i g = good_answers b m shift kept f c w rs (All-tail (AsksThere m) (Call k) rs a) (f i k) (w i k g)

abbrev AllAsk : ModuleValue → Type 0
AllAsk m = (k : ℕ) (x : FunctionValue × Span) → slice_get m.functions k ≡ Some x → All (AsksThere m) (requests_of x.0)

good_callee : (b : World) (m : ModuleValue) (shift : ℕ) (kept : Kept) (f : Caller) → IsCopyable m → KeepsGood b m kept f → (i : ImportState) (o : Option (FunctionValue × Span)) → ((x : FunctionValue × Span) → o ≡ Some x → All (AsksThere m) (requests_of x.0)) → IsGood b m kept i.copying → IsGood b m kept (import_callee_by f m shift i o).copying
good_callee b m shift kept f c w i None a g = g
good_callee b m shift kept f c w i (Some x) a g = one (is_some (meant i.names x.0.name))
  where
    one : (k : Bool) → IsGood b m kept (let s : ImportState = if k then i else import_copy_by f m shift i x.0 x.1 in s.copying)
    one true = g
    one false = good_answers b m shift kept f c w (requests_of x.0) (a x refl) i g

good_within : (b : World) (m : ModuleValue) (shift : ℕ) (kept : Kept) → IsCopyable m → AllAsk m → (n : ℕ) → KeepsGood b m kept (import_callee n m shift)
unfolding import_callee
good_within b m shift kept c a zero i k g = g
good_within b m shift kept c a (suc n) i k g = good_callee b m shift kept (import_callee n m shift) c (good_within b m shift kept c a n) i (slice_get m.functions k) (λ x at. a k x at) g

good_start : (base : ModuleValue) (first : Kept) (s : Source) (t : ModuleValue) (ns : Meanings) → IsDerivation first (record { source = Some s; target = t; function_names = ns }) → HoldsItems base s (record { source = Some s; target = t; function_names = ns }) → IsGood (world base) s.value first (record { places = s.places; target = given t [] })
good_start base first s t ns i h = record {
  midway = (derived_given first s t [] ns ns i).source.midway;
  only = λ q r at. h q r (sym (ap (λ (w : World). w q) (world_given t [])) ∙ at);
}

-- the items of a good state, with functions
good_end : (base : ModuleValue) (first : Kept) (s : Source) (i : ImportState) → IsGood (world base) s.value first i.copying → HoldsItemsOf base (after_importing s i)
good_end base first s i g = λ q r at. g.only q r (sym (ap (λ (w : World). w q) (world_given i.copying.target i.functions)) ∙ at)

answered_any : (base : ModuleValue) (first : Kept) (o : Option Source) (t : ModuleValue) (ns : Meanings) (rs : List Request) → IsDerivation first (record { source = o; target = t; function_names = ns }) → IfSome o (λ s. HaveItems s × All (AsksThere s.value) rs) → HoldsItemsOf base (record { source = o; target = t; function_names = ns }) → HoldsItemsOf base (answer_requests (record { source = o; target = t; function_names = ns }) rs)
answered_any base first None t ns rs i a h = tt
answered_any base first (Some s) t ns rs i a h =
    let d : Derived = record { source = Some s; target = t; function_names = ns } in
    let n = length s.value.functions in
    let c = i.source.copyable in
    good_end base first s (answer_all n s.value s.offset (importing_of d s) rs) (good_answers (world base) s.value s.offset first (import_callee n s.value s.offset) c (good_within (world base) s.value s.offset first c a.0 n) rs a.1 (importing_of d s) (good_start base first s t ns i h))

pub answered_items : AnsweredItemsLaw
answered_items base first d rs i a h = answered_any base first d.source d.target d.function_names rs i a h

function_any : (base : ModuleValue) (first : Kept) (o : Option Source) (t : ModuleValue) (ns : Meanings) (f : FunctionValue) (span : Span) → IsDerivation first (record { source = o; target = t; function_names = ns }) → IfSome o (λ s. HaveItems s × All (AsksThere s.value) (requests_of f)) → HoldsItemsOf base (record { source = o; target = t; function_names = ns }) → HoldsItemsOf base (import_function (record { source = o; target = t; function_names = ns }) f span)
function_any base first None t ns f span i a h = tt
function_any base first (Some s) t ns f span i a h =
    let d : Derived = record { source = Some s; target = t; function_names = ns } in
    let n = length s.value.functions in
    let c = i.source.copyable in
    good_end base first s (import_copy n s.value s.offset (importing_of d s) f span) (good_answers (world base) s.value s.offset first (import_callee n s.value s.offset) c (good_within (world base) s.value s.offset first c a.0 n) (requests_of f) a.1 (importing_of d s) (good_start base first s t ns i h))

pub function_items : FunctionItemsLaw
function_items base first d f span i a h = function_any base first d.source d.target d.function_names f span i a h
