-- An item that is copied after what it names is its trail, whose places come in order.
use Rattle.std.proofs.Common.{◌≡◌, ⊎_elim, ◌⊎◌, inl, inr, ℕ, zero, suc, ◌<◌, Bool, false, if◌then◌else◌, List, [], ◌∷◌, ◌++◌, Option, Some, None, is_some, IfSome, option_to_list, All, refl, ap, sym, ◌∙◌, subst, arith, append-nil, append_assoc}
use Rattle.std.specs.List.{AllZip, flat_map}
use Rattle.std.proofs.lemmas.List.Elements.{All-head, All-tail, All-weaker}
use Rattle.naga_oil_ir.specs.ModuleValue.{ModuleValue}
use Rattle.naga_oil_ir.specs.Rows.{Row, Text}
use Rattle.naga_oil_ir.specs.declared.names.ItemPlace.{ItemPlace}
use Rattle.naga_oil_ir.specs.declared.names.ItemPlace.TheVariants.{TypeItem}
use Rattle.naga_oil_ir.specs.declared.span.Span.{Span}
use Rattle.naga_oil_derive.specs.Collected.{depth, names_trail}
use Rattle.naga_oil_derive.specs.Copied.{CopyState, put, put_type, copy_row_names, copy_within, copy_item, copy_all, copy_named_type}
use Rattle.naga_oil_derive.specs.CopiedLaw.{HasAt, IsBelowIn, IsCopyable, reads_now, spans_by, IsMidway, PutsOne, trail_in}
use Rattle.naga_oil_derive.specs.Copying.{NameGoesTo, WentSomewhere}
use Rattle.naga_oil_derive.specs.Tree.{Kept}
use Rattle.naga_oil_derive.specs.World.{goes, world}
use Rattle.naga_oil_derive.proofs.CollectLemmas.{Lowers}
use Rattle.naga_oil_derive.proofs.CopiedLaws.{item_copies, copied_all, copied_named, copied_again, type_again, lowers, lower_names, not_among, still_nowhere}
use Rattle.naga_oil_derive.proofs.CopiedLemmas.{copied-enough}
use Rattle.naga_oil_derive.proofs.CopyLemmas.{free}
use Rattle.naga_oil_derive.proofs.PutLaws.{put_item, put_named}
use Rattle.naga_oil_derive.proofs.TreeLemmas.{puts_keeps}
use Rattle.naga_oil_derive.proofs.WorldLemmas.{named_names}
use Rattle.naga_oil_collected_laws.specs.ItemOrder.{AreAllOf}
use Rattle.naga_oil_collected_laws.specs.Trail.{named_by, items_from}
use Rattle.naga_oil_collected_laws.proofs.Firsts.{all_known, all_new}

-- ---- lists side by side

pub zip_more : {A B : Type 0} (R S : A → B → Type 0) → ((a : A) (b : B) → R a b → S a b) → (xs : List A) (ys : List B) → AllZip R xs ys → AllZip S xs ys
zip_more R S f [] [] z = tt
zip_more R S f [] (y ∷ ys) z = absurd z
zip_more R S f (x ∷ xs) [] z = absurd z
zip_more R S f (x ∷ xs) (y ∷ ys) z = (f x y z.0, zip_more R S f xs ys z.1)

pub zip_append : {A B : Type 0} (R : A → B → Type 0) (xs vs : List A) (ys ws : List B) → AllZip R xs ys → AllZip R vs ws → AllZip R (xs ++ vs) (ys ++ ws)
zip_append R [] vs [] ws z o = o
zip_append R [] vs (y ∷ ys) ws z o = absurd z
zip_append R (x ∷ xs) vs [] ws z o = absurd z
zip_append R (x ∷ xs) vs (y ∷ ys) ws z o = (z.0, zip_append R xs vs ys ws z.1 o)

-- mapped places stay mapped
abbrev pub Stay : CopyState → CopyState → Type 0
Stay s u = (p q : ItemPlace) → goes s.places p ≡ Some q → goes u.places p ≡ Some q

abbrev pub GoTo : CopyState → ItemPlace → ItemPlace → Type 0
GoTo s p q = goes s.places p ≡ Some q

-- s becomes u: some places are mapped then, and what they map to comes in order
pub record Traced (s u : CopyState) (ps : List ItemPlace) : Type 0 where
  pub places : List ItemPlace
  pub went : AllZip (GoTo u) ps places
  pub order : (xs : List ItemPlace) → AreAllOf s.target xs → AreAllOf u.target (xs ++ places)

pub traced_none : (s : CopyState) → Traced s s []
traced_none s = record { places = []; went = tt; order = λ xs a. subst (AreAllOf s.target) (sym (append-nil xs)) a }

pub traced_then : (s t u : CopyState) (ps qs : List ItemPlace) → Traced s t ps → Stay t u → Traced t u qs → Traced s u (ps ++ qs)
traced_then s t u ps qs a stay b = record {
  places = a.places ++ b.places;
  went = zip_append (GoTo u) ps qs a.places b.places (zip_more (GoTo t) (GoTo u) (λ p q h. stay p q h) ps a.places a.went) b.went;
  order = λ xs h. subst (AreAllOf u.target) (append_assoc xs a.places b.places) (b.order (xs ++ a.places) (a.order xs h));
}

module _ (m : ModuleValue) (shift : ℕ) (kept : Kept) (is_there : ItemPlace → Bool) (same : (p : ItemPlace) → is_there p ≡ is_some (kept p)) (can : IsCopyable m) where
  -- what an item reaches
  abbrev pub trail : ItemPlace → List ItemPlace
  trail p = items_from (depth m) m is_there p

  abbrev present : List (Option ItemPlace) → List ItemPlace
  present ps = flat_map option_to_list ps

  -- ---- an item that is mapped

  -- one place that is mapped
  traced_one : (s : CopyState) (p q : ItemPlace) → IsMidway m kept s → goes s.places p ≡ Some q → Traced s s (p ∷ [])
  traced_one s p q i g = record { places = q ∷ []; went = (g, tt); order = λ xs a. all_known s.target xs q (i.copied.there p q g) a }

  names_mapped : (s : CopyState) (f : ItemPlace → List ItemPlace) → ((p q : ItemPlace) → goes s.places p ≡ Some q → Traced s s (f p)) → (ps qs : List (Option ItemPlace)) → AllZip (NameGoesTo (goes s.places)) ps qs → Traced s s (flat_map f (present ps))
  names_mapped s f h [] [] z = traced_none s
  names_mapped s f h [] (q ∷ qs) z = absurd z
  names_mapped s f h (p ∷ ps) [] z = absurd z
  names_mapped s f h (None ∷ ps) (None ∷ qs) z = names_mapped s f h ps qs z.1
  names_mapped s f h (None ∷ ps) (Some q ∷ qs) z = absurd z.0
  names_mapped s f h (Some p ∷ ps) (None ∷ qs) z = absurd z.0
  names_mapped s f h (Some p ∷ ps) (Some q ∷ qs) z = traced_then s s s (f p) (flat_map f (present ps)) (h p q z.0) (λ x y e. e) (names_mapped s f h ps qs z.1)

  -- what a mapped item reaches is mapped
  pub mapped : (s : CopyState) → IsMidway m kept s → (n : ℕ) (p q : ItemPlace) → goes s.places p ≡ Some q → Traced s s (items_from n m is_there p)
  unfolding items_from
  mapped s i zero p q g = traced_none s
  mapped s i (suc n) p q g = subst (λ (b : Bool). Traced s s (if b then [] else flat_map (items_from n m is_there) (named_by (world m p)) ++ p ∷ [])) (sym (same p)) (by (mapped s i n) (kept p) refl)
    where
      by : ((x y : ItemPlace) → goes s.places x ≡ Some y → Traced s s (items_from n m is_there x)) → (o : Option ItemPlace) → kept p ≡ o → Traced s s (if is_some o then [] else flat_map (items_from n m is_there) (named_by (world m p)) ++ p ∷ [])
      by below (Some x) e = traced_none s
      by below None e =
          let k = i.copied.known p q g in
          let r = named_names (world m) (world s.target) (goes s.places) p k.0 k.1 in
          let c = i.copied.each p q k.0 g e k.1 in
          let zip : AllZip (NameGoesTo (goes s.places)) r.0.names c.0.names = subst (λ ns. AllZip (NameGoesTo (goes s.places)) ns c.0.names) r.2 c.2.names in
          let names : Traced s s (flat_map (items_from n m is_there) (present r.0.names)) = names_mapped s (items_from n m is_there) below r.0.names c.0.names zip in
          let row : Traced s s (flat_map (items_from n m is_there) (named_by (world m p))) = subst (λ (o : Option Row). Traced s s (flat_map (items_from n m is_there) (named_by o))) (sym r.1) names in
          traced_then s s s (flat_map (items_from n m is_there) (named_by (world m p))) (p ∷ []) row (λ x y h. h) (traced_one s p q i g)

  -- ---- the trail doesn't depend on the depth

  abbrev Below : ItemPlace → Option ItemPlace → Type 0
  Below p = IsBelowIn m can.rank p

  trails_same : (p : ItemPlace) (f g : ItemPlace → List ItemPlace) → ((q : ItemPlace) → can.rank q < can.rank p → f q ≡ g q) → (ps : List (Option ItemPlace)) → All (Below p) ps → flat_map f (present ps) ≡ flat_map g (present ps)
  trails_same p f g e [] a = refl
  trails_same p f g e (None ∷ ps) a = trails_same p f g e ps (All-tail (Below p) None ps a)
  trails_same p f g e (Some q ∷ ps) a =
      ap (λ xs. xs ++ flat_map f (present ps)) (e q (All-head (Below p) (Some q) ps a).1) ∙ ap (λ xs. g q ++ xs) (trails_same p f g e ps (All-tail (Below p) (Some q) ps a))

  row_same : (p : ItemPlace) (f g : ItemPlace → List ItemPlace) → ((q : ItemPlace) → can.rank q < can.rank p → f q ≡ g q) → (o : Option Row) → world m p ≡ o → flat_map f (named_by o) ≡ flat_map g (named_by o)
  row_same p f g e None at = refl
  row_same p f g e (Some r) at = trails_same p f g e r.names (can.ranked.names p r at)

  deep_enough : (n k : ℕ) (p : ItemPlace) → can.rank p < n → can.rank p < k → items_from n m is_there p ≡ items_from k m is_there p
  unfolding items_from
  deep_enough zero k p a b = absurd (omega (arith, a))
  deep_enough (suc n) zero p a b = absurd (omega (arith, b))
  deep_enough (suc n) (suc k) p a b = ap (λ xs. if is_there p then [] else xs ++ p ∷ []) (row_same p (items_from n m is_there) (items_from k m is_there) (λ q h. deep_enough n k q (omega (arith, h, a)) (omega (arith, h, b))) (world m p) refl)

  -- the trail of an item that isn't there already
  after_names : (p : ItemPlace) (r : Row) → world m p ≡ Some r → kept p ≡ None → flat_map trail (present r.names) ++ p ∷ [] ≡ trail p
  unfolding items_from
  after_names p r at none =
      let d = depth m in
      let not_there : is_there p ≡ false = same p ∙ ap is_some none in
      let open_one : items_from (suc d) m is_there p ≡ flat_map trail (named_by (world m p)) ++ p ∷ [] = ap (λ (b : Bool). if b then [] else flat_map trail (named_by (world m p)) ++ p ∷ []) not_there in
      let within = can.ranked.within p r at in
      ap (λ (o : Option Row). flat_map trail (named_by o) ++ p ∷ []) (sym at) ∙ sym open_one ∙ deep_enough (suc d) d p (omega (arith, within)) within

  -- ---- an item that is copied

  abbrev Copies : ItemPlace → Type 0
  Copies p = (s : CopyState) → IsMidway m kept s → Traced s (copy_item m shift s p) (trail p)

  there_below : (p : ItemPlace) (o : Option ItemPlace) → Below p o → IfSome o (HasAt m)
  there_below p None h = tt
  there_below p (Some q) h = h.0

  abbrev IfThere : Option ItemPlace → Type 0
  IfThere o = IfSome o (HasAt m)

  names_traced : (P : ItemPlace → Type 0) → ((q : ItemPlace) → P q → HasAt m q) → ((q : ItemPlace) → P q → Copies q) → (ps : List (Option ItemPlace)) → All (λ o. IfSome o P) ps → (s : CopyState) → IsMidway m kept s → Traced s (copy_all m shift s ps) (flat_map trail (present ps))
  names_traced P at h [] a s i = traced_none s
  names_traced P at h (None ∷ ps) a s i = names_traced P at h ps (All-tail (λ o. IfSome o P) None ps a) s i
  names_traced P at h (Some p ∷ ps) a s i =
      let own = All-head (λ o. IfSome o P) (Some p) ps a in
      let rest = All-tail (λ o. IfSome o P) (Some p) ps a in
      let t = copy_item m shift s p in
      let g = item_copies m shift kept (reads_now m s) p can (at p own) s i refl in
      let more = copied_all m shift kept t ps can g.0.midway (All-weaker (λ o. IfSome o P) IfThere if_there ps rest) in
      traced_then s t (copy_all m shift t ps) (trail p) (flat_map trail (present ps)) (h p own s i) more.0.went (names_traced P at h ps rest t g.0.midway)
    where
      if_there : (o : Option ItemPlace) → IfSome o P → IfSome o (HasAt m)
      if_there None x = tt
      if_there (Some q) x = at q x

  -- one copy is at the next place, or at that of an equal item
  traced_put : (t u : CopyState) (p : ItemPlace) (row : Row) (span : Option Span) → PutsOne m t u p row span → Traced t u (p ∷ [])
  traced_put t u p row span c = record {
    places = c.place ∷ [];
    went = (c.puts.at, tt);
    order = λ xs a. ⊎_elim
        (λ e. all_known u.target xs c.place (c.copy, c.fetches.at) (subst (λ v. AreAllOf v xs) (sym e) a))
        (λ e. all_new t.target u.target xs c.place c.extends (record {
          free = e.0;
          there = (c.copy, c.fetches.at);
          only = λ x r h. ⊎_elim inl (λ n. inr n.0) (c.fetches.only x r h);
        }) a)
        c.adds;
  }

  -- an item that wasn't mapped, after what it names
  put_traced : (s u : CopyState) (p : ItemPlace) (r row : Row) (span : Option Span) → world m p ≡ Some r → IsMidway m kept s → goes s.places p ≡ None → PutsOne m (copy_all m shift s r.names) u p row span → Traced s (copy_all m shift s r.names) (flat_map trail (present r.names)) → Traced s u (trail p)
  put_traced s u p r row span at i fresh c names =
      let t = copy_all m shift s r.names in
      let w = reads_now m s in
      let below = can.ranked.names p r at in
      let g = copied_all m shift kept s r.names can i (All-weaker (Below p) IfThere (there_below p) r.names below) in
      let fresh_t = still_nowhere m shift kept w s t (names_trail (trail_in m kept w) r.names) p g.0 (not_among m kept w can.rank p r.names (lowers m can.rank s can.ranked) (lower_names m can.rank p r.names below)) fresh in
      let none : kept p ≡ None = free kept (goes s.places) i.copied.stand p (kept p) refl fresh in
      subst (Traced s u) (after_names p r at none) (traced_then s t u (flat_map trail (present r.names)) (p ∷ []) names (puts_keeps (goes t.places) (goes u.places) p c.place fresh_t c.puts) (traced_put t u p row span c))

  -- what an item names is mapped then
  names_went : (s : CopyState) (p : ItemPlace) (r : Row) → world m p ≡ Some r → IsMidway m kept s → IsMidway m kept (copy_all m shift s r.names) × All (WentSomewhere (goes (copy_all m shift s r.names).places)) r.names
  names_went s p r at i =
      let g = copied_all m shift kept s r.names can i (All-weaker (Below p) IfThere (there_below p) r.names (can.ranked.names p r at)) in
      (g.0.midway, g.1)

  copied_step : (s : CopyState) (p : ItemPlace) (r : Row) → world m p ≡ Some r → goes s.places p ≡ None → copy_item m shift s p ≡ put m shift (copy_all m shift s r.names) p
  unfolding copy_within
  copied_step s p r at fresh =
      let d = depth m in
      let within = can.ranked.within p r at in
      let l : Lowers (world m) can.rank = λ q x e. lower_names m can.rank q x.names (can.ranked.names q x e) in
      copied-enough m shift can.rank l d (suc d) s p within (omega (arith, within))
      ∙ ap (λ (o : Option ItemPlace). if is_some o then s else put m shift (copy_row_names (copy_item m shift) s (world m p)) p) fresh
      ∙ ap (λ (o : Option Row). put m shift (copy_row_names (copy_item m shift) s o) p) at

  -- an item is its trail if what is of lower rank is
  copied_traced : (p : ItemPlace) → HasAt m p → ((q : ItemPlace) → HasAt m q × (can.rank q < can.rank p) → Copies q) → Copies p
  copied_traced p h below s i = by (goes s.places p) refl
    where
      r : Row
      r = h.0

      by : (o : Option ItemPlace) → goes s.places p ≡ o → Traced s (copy_item m shift s p) (trail p)
      by (Some q) at = subst (λ u. Traced s u (trail p)) (sym (copied_again m shift s p (q, at))) (mapped s i (depth m) p q at)
      by None at =
          let t = copy_all m shift s r.names in
          let n = names_went s p r h.1 i in
          let c = put_item m shift t p r (record { source = can.kinds; target = n.0.kinds; roomy = n.0.roomy; at = h.1; names = n.1 }) in
          let names = names_traced (λ q. HasAt m q × (can.rank q < can.rank p)) (λ q x. x.0) below r.names (can.ranked.names p r h.1) s i in
          subst (λ u. Traced s u (trail p)) (sym (copied_step s p r h.1 at)) (put_traced s (put m shift t p) p r r (spans_by m shift p) h.1 i at c names)

  -- items of ranks below a bound
  traces : (b : ℕ) (p : ItemPlace) → HasAt m p → can.rank p < b → Copies p
  traces zero p h l s i = absurd (omega (arith, l))
  traces (suc b) p h l s i = copied_traced p h (λ q x. traces b q x.0 (let y = x.1 in omega (arith, y, l))) s i

  -- an item that is copied is its trail
  pub item_traced : (p : ItemPlace) → HasAt m p → (s : CopyState) → IsMidway m kept s → Traced s (copy_item m shift s p) (trail p)
  item_traced p h s i = traces (suc (can.rank p)) p h (omega arith) s i

  -- the same for items one after another
  pub all_traced : (ps : List (Option ItemPlace)) → All IfThere ps → (s : CopyState) → IsMidway m kept s → Traced s (copy_all m shift s ps) (flat_map trail (present ps))
  all_traced ps a s i = names_traced (HasAt m) (λ q h. h) item_traced ps a s i

  -- the same for a type under a name
  pub named_traced : (k : ℕ) (name : Option Text) → HasAt m (TypeItem k) → (s : CopyState) → IsMidway m kept s → Traced s (copy_named_type m shift name s k) (trail (TypeItem k))
  named_traced k name h s i = by (goes s.places (TypeItem k)) refl
    where
      r : Row
      r = h.0

      by : (o : Option ItemPlace) → goes s.places (TypeItem k) ≡ o → Traced s (copy_named_type m shift name s k) (trail (TypeItem k))
      by (Some q) at = subst (λ u. Traced s u (trail (TypeItem k))) (sym (type_again m shift s k name (q, at))) (mapped s i (depth m) (TypeItem k) q at)
      by None at =
          let t = copy_all m shift s r.names in
          let n = names_went s (TypeItem k) r h.1 i in
          let c = put_named m shift t k r name (record { source = can.kinds; target = n.0.kinds; roomy = n.0.roomy; at = h.1; names = n.1 }) in
          let below = can.ranked.names (TypeItem k) r h.1 in
          let names = all_traced r.names (All-weaker (Below (TypeItem k)) IfThere (there_below (TypeItem k)) r.names below) s i in
          let step : copy_named_type m shift name s k ≡ put_type m shift name t k = ap (λ (o : Option ItemPlace). if is_some o then s else put_type m shift name (copy_row_names (copy_item m shift) s (world m (TypeItem k))) k) at ∙ ap (λ (o : Option Row). put_type m shift name (copy_row_names (copy_item m shift) s o) k) h.1 in
          subst (λ u. Traced s u (trail (TypeItem k))) (sym step) (put_traced s (put_type m shift name t k) (TypeItem k) r _ (spans_by m shift (TypeItem k)) h.1 i at c names)

  -- what holds after a type was copied under a name
  pub named_midway : (k : ℕ) (name : Option Text) → HasAt m (TypeItem k) → (s : CopyState) → IsMidway m kept s → IsMidway m kept (copy_named_type m shift name s k) × Stay s (copy_named_type m shift name s k)
  named_midway k name h s i = by (goes s.places (TypeItem k)) refl
    where
      by : (o : Option ItemPlace) → goes s.places (TypeItem k) ≡ o → IsMidway m kept (copy_named_type m shift name s k) × Stay s (copy_named_type m shift name s k)
      by (Some q) at = subst (λ u. IsMidway m kept u × Stay s u) (sym (type_again m shift s k name (q, at))) (i, λ x y e. e)
      by None at = let g = copied_named m shift kept s k name can i h at in (g.0.midway, g.0.went)
