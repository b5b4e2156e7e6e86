-- What copying an item after what it names does, over values alone.
use Rattle.std.proofs.Common.{◌≡◌, ◌⊎◌, inl, inr, ⊎_elim, ℕ, zero, suc, ◌<◌, ◌+◌, ◌*◌, List, [], ◌∷◌, ◌++◌, length, Option, Some, None, option_map, is_some, if◌then◌else◌, refl, ap, sym, ◌∙◌, subst, arith, All, IfSome, Contains}
use Rattle.std.proofs.lemmas.List.Elements.{All-head, All-tail, All-weaker, All-cons, All-nil, Contains-append_left, Contains-append_right, Contains-push, Contains-push_cases, Contains-append_cases}
use Rattle.naga_oil_ir.specs.Rows.{Row, Text}
use Rattle.naga_oil_ir.specs.ModuleValue.{ModuleValue}
use Rattle.naga_oil_ir.specs.declared.names.ItemPlace.{ItemPlace}
use Rattle.naga_oil_ir.specs.declared.names.ItemPlace.TheVariants.{TypeItem}
use Rattle.naga_oil_ir.specs.declared.span.Span.{Span}
use Rattle.naga_oil_derive.specs.Tree.{World, Kept, ReadsAs}
use Rattle.naga_oil_rename.specs.Renames.{under_name}
use Rattle.naga_oil_derive.specs.World.{goes, world, renamed_at}
use Rattle.naga_oil_derive.specs.Collected.{Collects, Done, Known, Fresh, depth, names_trail}
use Rattle.naga_oil_derive.specs.Copying.{Goes, IsSound, AreCopied, WentSomewhere}
use Rattle.naga_oil_derive.specs.Copied.{CopyState, Copier, put, put_type, copy_each, copy_row_names, copy_item_by, copy_within, copy_item, copy_all, copy_named_type}
use Rattle.naga_oil_derive.specs.CopiedLaw.{IsKinded, kind_number, place_number, HasAt, IsBelowIn, IsRankedBy, IsCopyable, reads_now, spans_by, IsMidway, PutsOne, PlacesAmong, GrowsBy, HasCopyNow, trail_in}
use Rattle.naga_oil_derive.proofs.TreeLemmas.{reads, same_or_not, puts_keeps, IsSound-copy, AreCopied-step, AreCopied-named}
use Rattle.naga_oil_derive.proofs.WorldLemmas.{named_none, named_names}
use Rattle.naga_oil_derive.proofs.CopyLemmas.{world_here, world_there, free, none_some, same_rows}
use Rattle.naga_oil_derive.proofs.CollectLemmas.{Collects-append, Collects-copied, Lowers, EachPlace, new_first, others_of, step_at, same_trails, below_names, reached_below, Collects-agrees, reading_agrees, reached_agrees, renamed_here, renamed_there}
use Rattle.naga_oil_derive.proofs.PutLaws.{put_named, put_item}

-- ---- how the source reads after one copy

-- the row is read at what the item maps to
here : (m : ModuleValue) (s u : CopyState) (p : ItemPlace) (o : Option Text) (r row : Row) (span : Option Span) → PutsOne m s u p row span → world m p ≡ Some r → row ≡ under_name o r → reads_now m u p ≡ Some row
here m s u p o r row span c is e = world_here (world m) (world u.target) (goes u.places) p c.place o r row c.copy c.puts.at c.fetches.at is e c.copies.label

-- and elsewhere nothing changes
there : (m : ModuleValue) (kept : Kept) (s u : CopyState) (p : ItemPlace) (row : Row) (span : Option Span) → IsMidway m kept s → PutsOne m s u p row span → (x : ItemPlace) → (x ≡ p → ⊥) → reads_now m u x ≡ reads_now m s x
there m kept s u p row span i c x d = world_there (world m) (world s.target) (world u.target) (goes s.places) (goes u.places) x (i.copied.there x) c.fetches.stays (c.puts.others x d)

-- a copy under its own name leaves the source as it reads
pub reads_step : (m : ModuleValue) (kept : Kept) (s u : CopyState) (p : ItemPlace) (r : Row) (span : Option Span) → IsMidway m kept s → goes s.places p ≡ None → PutsOne m s u p r span → world m p ≡ Some r → reads_now m u ≡ reads_now m s
reads_step m kept s u p r span i fresh c is =
    let same : (x : ItemPlace) → reads_now m u x ≡ reads_now m s x = λ x. ⊎_elim (λ e. subst (λ y. reads_now m u y ≡ reads_now m s y) (sym e) (here m s u p None r r span c is refl ∙ sym is ∙ sym (named_none (world m) (world s.target) (goes s.places) p fresh))) (λ d. there m kept s u p r span i c x d) (same_or_not x p) in
    λ i x. same x i

-- a copy under a name changes how the source reads only at that type
renamed_step : (m : ModuleValue) (kept : Kept) (s u : CopyState) (k : ℕ) (o : Option Text) (r : Row) (span : Option Span) → IsMidway m kept s → goes s.places (TypeItem k) ≡ None → PutsOne m s u (TypeItem k) (under_name o r) span → world m (TypeItem k) ≡ Some r → reads_now m u ≡ renamed_at (reads_now m s) k o
renamed_step m kept s u k o r span i fresh c is =
    let p = TypeItem k in
    let w = reads_now m s in
    let at : reads_now m u p ≡ renamed_at w k o p = here m s u p o r (under_name o r) span c is refl ∙ sym (ap (option_map (under_name o)) (named_none (world m) (world s.target) (goes s.places) p fresh ∙ is)) ∙ sym (renamed_here w k o) in
    let same : (x : ItemPlace) → reads_now m u x ≡ renamed_at w k o x = λ x. ⊎_elim (λ e. subst (λ y. reads_now m u y ≡ renamed_at w k o y) (sym e) at) (λ d. there m kept s u p (under_name o r) span i c x d ∙ sym (renamed_there w k o x d)) (same_or_not x p) in
    λ i x. same x i

-- ---- the state after one copy

under_kind : (o : Option Text) (r : Row) → kind_number (under_name o r).label.kind ≡ kind_number r.label.kind
under_kind None r = refl
under_kind (Some n) r = refl

kinds_step : (m : ModuleValue) (s u : CopyState) (p : ItemPlace) (row : Row) (span : Option Span) → IsKinded s.target → PutsOne m s u p row span → kind_number row.label.kind ≡ place_number p → IsKinded u.target
kinds_step m s u p row span k c e x r h =
    ⊎_elim (λ old. k x r old) (λ new. (let same : c.copy ≡ r = same_rows c.copy r (world u.target c.place) c.fetches.at (ap (world u.target) (sym new.0) ∙ h) in ap (λ (v : Row). kind_number v.label.kind) (sym same) ∙ ap (λ v. kind_number v.kind) c.copies.label ∙ e ∙ sym c.kind ∙ ap place_number (sym new.0))) (c.fetches.only x r h)

pub midway_step : (m : ModuleValue) (kept : Kept) (s u : CopyState) (p : ItemPlace) (o : Option Text) (r row : Row) (span : Option Span) → IsKinded m → IsMidway m kept s → goes s.places p ≡ None → PutsOne m s u p row span → world m p ≡ Some r → row ≡ under_name o r → IsMidway m kept u
midway_step m kept s u p o r row span k i fresh c is e =
    let w = reads_now m u in
    let nk : kept p ≡ None = free kept (goes s.places) i.copied.stand p (kept p) refl fresh in
    let named = AreCopied-named (reads_now m s) w (world s.target) kept (goes s.places) i.copied (λ x y g. there m kept s u p row span i c x (λ h. none_some y (sym fresh ∙ ap (goes s.places) (sym h) ∙ g))) in
    record {
      kinds = kinds_step m s u p row span i.kinds c (ap (λ (v : Row). kind_number v.label.kind) e ∙ under_kind o r ∙ k p r is);
      roomy = c.roomy;
      sound = IsSound-copy w (world s.target) (world u.target) kept (goes s.places) row c.copy c.place named i.sound c.copies c.fetches;
      copied = AreCopied-step w (world s.target) (world u.target) kept (goes s.places) (goes u.places) p c.place row c.copy named c.puts fresh nk (here m s u p o r row span c is e) c.copies c.fetches;
    }

-- one copy is one step of the collection
collects_step : (m : ModuleValue) (shift : ℕ) (kept : Kept) (w : World) (s u : CopyState) (p : ItemPlace) (row : Row) → AreCopied w (world s.target) kept (goes s.places) → IsSound (world s.target) → AreCopied w (world u.target) kept (goes u.places) → IsSound (world u.target) → PutsOne m s u p row (spans_by m shift p) → Collects w kept (spans_by m shift) s.target (p ∷ []) u.target
collects_step m shift kept w s u p row a i b j c =
    let reads_here = λ (k : ℕ). reads w (world u.target) kept (goes u.places) b k p c.place c.puts.at in
    ⊎_elim (λ e. subst (λ v. Collects w kept (spans_by m shift) v (p ∷ []) u.target) e (Known (c.place, (c.copy, c.fetches.at), reads_here) Done)) (λ l. Fresh (record { at = c.place; free = l.0; extends = c.extends; others = others_of (world s.target) (world u.target) c.copy c.place c.fetches; reads = reads_here; span = l.1; first = new_first w (world s.target) (world u.target) kept (goes s.places) (goes u.places) p c.place c.copy a i b j c.puts.at c.fetches l.0 }) Done) c.adds

-- ---- growth

pub grows_refl : (m : ModuleValue) (shift : ℕ) (kept : Kept) (w : World) (s : CopyState) → IsMidway m kept s → reads_now m s ≡ w → GrowsBy m shift kept w s s []
grows_refl m shift kept w s i e = record { midway = i; reads = e; went = λ p q g. g; places = λ p. inl refl; collects = Done }

pub places_both : (k m n : Goes) (xs ys zs : List ItemPlace) → xs ++ ys ≡ zs → PlacesAmong k m xs → PlacesAmong m n ys → PlacesAmong k n zs
places_both k m n xs ys zs e a b p =
    ⊎_elim (λ same. ⊎_elim (λ f. inl (same ∙ f)) (λ f. inr (subst (λ v. Contains v p) e (Contains-append_left xs ys p f.0), (f.1.0, same ∙ f.1.1))) (a p)) (λ f. inr (subst (λ v. Contains v p) e (Contains-append_right xs ys p f.0), f.1)) (b p)

pub grows_trans : (m : ModuleValue) (shift : ℕ) (kept : Kept) (w : World) (s t u : CopyState) (xs ys : List ItemPlace) → GrowsBy m shift kept w s t xs → GrowsBy m shift kept w t u ys → GrowsBy m shift kept w s u (xs ++ ys)
grows_trans m shift kept w s t u xs ys a b = record {
  midway = b.midway;
  reads = b.reads;
  went = λ p q g. b.went p q (a.went p q g);
  places = places_both (goes s.places) (goes t.places) (goes u.places) xs ys (xs ++ ys) refl a.places b.places;
  collects = Collects-append ys a.collects b.collects;
}

copied_as : (m : ModuleValue) (kept : Kept) (w : World) (s : CopyState) → IsMidway m kept s → reads_now m s ≡ w → AreCopied w (world s.target) kept (goes s.places)
copied_as m kept w s i e = subst (λ v. AreCopied v (world s.target) kept (goes s.places)) e i.copied

-- a mapped item adds nothing
grows_known : (m : ModuleValue) (shift : ℕ) (kept : Kept) (w : World) (s : CopyState) (p q : ItemPlace) → IsMidway m kept s → reads_now m s ≡ w → goes s.places p ≡ Some q → GrowsBy m shift kept w s s (trail_in m kept w p)
grows_known m shift kept w s p q i e g = record {
  midway = i;
  reads = e;
  went = λ x y h. h;
  places = λ x. inl refl;
  collects = Collects-copied w s.target kept (goes s.places) (spans_by m shift) (copied_as m kept w s i e) (depth m) p q g;
}

-- one copy adds itself
grows_one : (m : ModuleValue) (shift : ℕ) (kept : Kept) (w : World) (s u : CopyState) (p : ItemPlace) (row : Row) → AreCopied w (world s.target) kept (goes s.places) → IsSound (world s.target) → IsMidway m kept u → reads_now m u ≡ w → goes s.places p ≡ None → PutsOne m s u p row (spans_by m shift p) → GrowsBy m shift kept w s u (p ∷ [])
grows_one m shift kept w s u p row a i j e fresh c = record {
  midway = j;
  reads = e;
  went = puts_keeps (goes s.places) (goes u.places) p c.place fresh c.puts;
  places = λ x. ⊎_elim (λ h. inr (subst (Contains (p ∷ [])) (sym h) (Contains-push [] p), (c.place, ap (goes u.places) h ∙ c.puts.at))) (λ d. inl (c.puts.others x d)) (same_or_not x p);
  collects = collects_step m shift kept w s u p row a i (copied_as m kept w u j e) j.sound c;
}

-- ---- ranks

lower_name : (m : ModuleValue) (rank : ItemPlace → ℕ) (p : ItemPlace) (o : Option ItemPlace) → IsBelowIn m rank p o → IfSome o (λ q. rank q < rank p)
lower_name m rank p None h = tt
lower_name m rank p (Some q) h = h.1

pub lower_names : (m : ModuleValue) (rank : ItemPlace → ℕ) (p : ItemPlace) (ps : List (Option ItemPlace)) → All (IsBelowIn m rank p) ps → All (λ o. IfSome o (λ q. rank q < rank p)) ps
lower_names m rank p ps a = All-weaker (IsBelowIn m rank p) (λ o. IfSome o (λ q. rank q < rank p)) (lower_name m rank p) ps a

-- in a source as it reads, items name items of lower rank
pub lowers : (m : ModuleValue) (rank : ItemPlace → ℕ) (s : CopyState) → IsRankedBy m rank → Lowers (reads_now m s) rank
lowers m rank s a p r e =
    let n = named_names (world m) (world s.target) (goes s.places) p r e in
    subst (λ ns. All (λ o. IfSome o (λ q. rank q < rank p)) ns) (sym n.2) (lower_names m rank p n.0.names (a.names p n.0 n.1))

one_less : (m : ModuleValue) → depth m ≡ suc (2 * length m.types + 2 * length m.global_expressions + 1)
one_less m = omega arith

in_first : (x : ItemPlace) (xs : List ItemPlace) (p : ItemPlace) → Contains (x ∷ xs) p → (x ≡ p) ⊎ Contains xs p
in_first x xs p h = ⊎_elim (λ e. ⊎_elim (λ n. absurd (let l = n.1 in omega (arith, l))) inl (Contains-push_cases [] x p e)) inr (Contains-append_cases (x ∷ []) xs p h)

-- what each of some places has, a place among them has
of_each : (P : ItemPlace → Type 0) (p : ItemPlace) (xs : List ItemPlace) → EachPlace P xs → Contains xs p → P p
of_each P p [] a h = absurd (let l = h.1 in omega (arith, l))
of_each P p (x ∷ xs) a h = ⊎_elim (λ e. subst P e a.0) (λ e. of_each P p xs a.1 e) (in_first x xs p h)

-- ---- what is named

-- what copying the item at a place is to do, where the source reads as w
abbrev CopiesAt : ModuleValue → ℕ → Kept → World → (CopyState → CopyState) → ItemPlace → Type 0
CopiesAt m shift kept w f p = (s : CopyState) → IsMidway m kept s → reads_now m s ≡ w → GrowsBy m shift kept w s (f s) (trail_in m kept w p) × WentSomewhere (goes (f s).places) (Some p)

names_grow : (m : ModuleValue) (shift : ℕ) (kept : Kept) (w : World) (f : Copier) (P : ItemPlace → Type 0) → ((p : ItemPlace) → P p → CopiesAt m shift kept w (λ s. f s p) p) → (ps : List (Option ItemPlace)) → All (λ o. IfSome o P) ps → (s : CopyState) → IsMidway m kept s → reads_now m s ≡ w → GrowsBy m shift kept w s (copy_each f s ps) (names_trail (trail_in m kept w) ps) × All (WentSomewhere (goes (copy_each f s ps).places)) ps
names_grow m shift kept w f P h [] a s i e = (grows_refl m shift kept w s i e, All-nil (WentSomewhere (goes s.places)))
names_grow m shift kept w f P h (None ∷ ps) a s i e =
    let t = names_grow m shift kept w f P h ps (All-tail (λ o. IfSome o P) None ps a) s i e in
    (t.0, All-cons (WentSomewhere (goes (copy_each f s ps).places)) None ps tt t.1)
names_grow m shift kept w f P h (Some p ∷ ps) a s i e =
    let one = h p (All-head (λ o. IfSome o P) (Some p) ps a) s i e in
    let t = names_grow m shift kept w f P h ps (All-tail (λ o. IfSome o P) (Some p) ps a) (f s p) one.0.midway one.0.reads in
    (grows_trans m shift kept w s (f s p) (copy_each f (f s p) ps) (trail_in m kept w p) (names_trail (trail_in m kept w) ps) one.0 t.0, All-cons (WentSomewhere (goes (copy_each f (f s p) ps).places)) (Some p) ps (one.1.0, t.0.went p one.1.0 one.1.1) t.1)

-- ---- an item after what it names

-- a place that wasn't mapped, and isn't among those requested, isn't mapped
pub still_nowhere : (m : ModuleValue) (shift : ℕ) (kept : Kept) (w : World) (s t : CopyState) (xs : List ItemPlace) (p : ItemPlace) → GrowsBy m shift kept w s t xs → (Contains xs p → ⊥) → goes s.places p ≡ None → goes t.places p ≡ None
still_nowhere m shift kept w s t xs p g n e = ⊎_elim (λ h. h ∙ e) (λ h. absurd (n h.0)) (g.places p)

pub not_among : (m : ModuleValue) (kept : Kept) (w : World) (rank : ItemPlace → ℕ) (p : ItemPlace) (ps : List (Option ItemPlace)) → Lowers w rank → All (λ o. IfSome o (λ q. rank q < rank p)) ps → Contains (names_trail (trail_in m kept w) ps) p → ⊥
not_among m kept w rank p ps l a h =
    let below = below_names rank (rank p) (rank p) (trail_in m kept w) (omega arith) (reached_below w kept rank l (rank p) (depth m)) ps a in
    let self = of_each (λ y. rank y < rank p) p (names_trail (trail_in m kept w) ps) below h in
    omega (arith, self)

-- an item is copied after what it names
after_names : (m : ModuleValue) (shift : ℕ) (kept : Kept) (rank : ItemPlace → ℕ) (w : World) (s t : CopyState) (p : ItemPlace) (r : Row) → IsKinded m → IsRankedBy m rank → world m p ≡ Some r → IsMidway m kept s → reads_now m s ≡ w → goes s.places p ≡ None → GrowsBy m shift kept w s t (names_trail (trail_in m kept w) r.names) → All (WentSomewhere (goes t.places)) r.names → GrowsBy m shift kept w s (put m shift t p) (trail_in m kept w p) × WentSomewhere (goes (put m shift t p).places) (Some p)
after_names m shift kept rank w s t p r k a is i e fresh g went =
    let u = put m shift t p in
    let l : Lowers w rank = subst (λ v. Lowers v rank) e (lowers m rank s a) in
    let ns = lower_names m rank p r.names (a.names p r is) in
    let fresh_t = still_nowhere m shift kept w s t (names_trail (trail_in m kept w) r.names) p g (not_among m kept w rank p r.names l ns) fresh in
    let c = put_item m shift t p r (record { source = k; target = g.midway.kinds; roomy = g.midway.roomy; at = is; names = went }) in
    let j = midway_step m kept t u p None r r (spans_by m shift p) k g.midway fresh_t c is refl in
    let now = reads_step m kept t u p r (spans_by m shift p) g.midway fresh_t c is ∙ g.reads in
    let one = grows_one m shift kept w t u p r (copied_as m kept w t g.midway g.reads) g.midway.sound j now fresh_t c in
    let at : w p ≡ Some r = ap (λ v. v p) (sym e) ∙ named_none (world m) (world s.target) (goes s.places) p fresh ∙ is in
    let nk : kept p ≡ None = free kept (goes s.places) i.copied.stand p (kept p) refl fresh in
    let trail = step_at w kept rank l (depth m) _ (one_less m) p r (a.within p r is) at nk in
    (subst (λ xs. GrowsBy m shift kept w s u xs) trail (grows_trans m shift kept w s t u (names_trail (trail_in m kept w) r.names) (p ∷ []) g one), (c.place, c.puts.at))

-- a mapped item stays as it is; any other is copied
if_gone : (P : CopyState → Type 0) (o : Option ItemPlace) (s u : CopyState) → ((q : ItemPlace) → o ≡ Some q → P s) → (o ≡ None → P u) → P (if is_some o then s else u)
if_gone P None s u a b = b refl
if_gone P (Some q) s u a b = a q refl

copies_by : (m : ModuleValue) (shift : ℕ) (kept : Kept) (rank : ItemPlace → ℕ) (w : World) (f : Copier) (p : ItemPlace) (r : Row) → IsKinded m → IsRankedBy m rank → world m p ≡ Some r → ((q : ItemPlace) → HasAt m q × (rank q < rank p) → CopiesAt m shift kept w (λ s. f s q) q) → CopiesAt m shift kept w (λ s. copy_item_by f m shift s p) p
copies_by m shift kept rank w f p r k a is h s i e =
    let P = λ (u : CopyState). GrowsBy m shift kept w s u (trail_in m kept w p) × WentSomewhere (goes u.places) (Some p) in
    let t = copy_each f s r.names in
    let named = names_grow m shift kept w f (λ q. HasAt m q × (rank q < rank p)) h r.names (a.names p r is) s i e in
    let row : copy_row_names f s (world m p) ≡ t = ap (copy_row_names f s) is in
    if_gone P (goes s.places p) s (put m shift (copy_row_names f s (world m p)) p) (λ q g. (grows_known m shift kept w s p q i e g, (q, g))) (λ fresh. subst (λ v. P (put m shift v p)) (sym row) (after_names m shift kept rank w s t p r k a is i e fresh named.0 named.1))

within_copies : (m : ModuleValue) (shift : ℕ) (kept : Kept) (rank : ItemPlace → ℕ) (w : World) → IsKinded m → IsRankedBy m rank → (n : ℕ) (p : ItemPlace) → HasAt m p → rank p < n → CopiesAt m shift kept w (λ s. copy_within n m shift s p) p
unfolding copy_within
within_copies m shift kept rank w k a zero p r l s i e = absurd (omega arith)
within_copies m shift kept rank w k a (suc n) p r l s i e =
    copies_by m shift kept rank w (copy_within n m shift) p r.0 k a r.1 (λ q h. within_copies m shift kept rank w k a n q h.0 (let b = h.1 in omega (arith, b, l))) s i e

-- ---- the laws

pub item_copies : (m : ModuleValue) (shift : ℕ) (kept : Kept) (w : World) (p : ItemPlace) → IsCopyable m → HasAt m p → CopiesAt m shift kept w (λ s. copy_item m shift s p) p
item_copies m shift kept w p c r = within_copies m shift kept c.rank w c.kinds c.ranked (depth m) p r (c.ranked.within p r.0 r.1)

-- what is placed reads as its source
pub placed_reads : (m : ModuleValue) (kept : Kept) (w : World) (s : CopyState) (p q : ItemPlace) → IsMidway m kept s → reads_now m s ≡ w → goes s.places p ≡ Some q → ReadsAs w (world s.target) kept p q
placed_reads m kept w s p q i e g = λ n. reads w (world s.target) kept (goes s.places) (copied_as m kept w s i e) n p q g

has_copy : (m : ModuleValue) (shift : ℕ) (kept : Kept) (w : World) (s u : CopyState) (ps : List ItemPlace) (p : ItemPlace) → GrowsBy m shift kept w s u ps → WentSomewhere (goes u.places) (Some p) → HasCopyNow kept w u p
has_copy m shift kept w s u ps p g went = (went.0, went.1, placed_reads m kept w u p went.0 g.midway g.reads went.1)

pub copied_item : (m : ModuleValue) (shift : ℕ) (kept : Kept) (s : CopyState) (p : ItemPlace) → IsCopyable m → IsMidway m kept s → HasAt m p → GrowsBy m shift kept (reads_now m s) s (copy_item m shift s p) (trail_in m kept (reads_now m s) p) × HasCopyNow kept (reads_now m s) (copy_item m shift s p) p
copied_item m shift kept s p c i r =
    let g = item_copies m shift kept (reads_now m s) p c r s i refl in
    (g.0, has_copy m shift kept (reads_now m s) s (copy_item m shift s p) (trail_in m kept (reads_now m s) p) p g.0 g.1)

pub copied_all : (m : ModuleValue) (shift : ℕ) (kept : Kept) (s : CopyState) (ps : List (Option ItemPlace)) → IsCopyable m → IsMidway m kept s → All (λ o. IfSome o (HasAt m)) ps → GrowsBy m shift kept (reads_now m s) s (copy_all m shift s ps) (names_trail (trail_in m kept (reads_now m s)) ps) × All (WentSomewhere (goes (copy_all m shift s ps).places)) ps
copied_all m shift kept s ps c i a = names_grow m shift kept (reads_now m s) (copy_item m shift) (HasAt m) (λ p r. item_copies m shift kept (reads_now m s) p c r) ps a s i refl

gone_stays : (o : Option ItemPlace) (q : ItemPlace) (s u : CopyState) → o ≡ Some q → (if is_some o then s else u) ≡ s
gone_stays o q s u e = ap (λ v. if is_some v then s else u) e

within_again : (n : ℕ) (m : ModuleValue) (shift : ℕ) (s : CopyState) (p q : ItemPlace) → goes s.places p ≡ Some q → copy_within n m shift s p ≡ s
unfolding copy_within
within_again zero m shift s p q e = refl
within_again (suc n) m shift s p q e = gone_stays (goes s.places p) q s (put m shift (copy_row_names (copy_within n m shift) s (world m p)) p) e

pub copied_again : (m : ModuleValue) (shift : ℕ) (s : CopyState) (p : ItemPlace) → WentSomewhere (goes s.places) (Some p) → copy_item m shift s p ≡ s
copied_again m shift s p w = within_again (depth m) m shift s p w.0 w.1

pub type_again : (m : ModuleValue) (shift : ℕ) (s : CopyState) (k : ℕ) (name : Option Text) → WentSomewhere (goes s.places) (Some (TypeItem k)) → copy_named_type m shift name s k ≡ s
type_again m shift s k name w = gone_stays (goes s.places (TypeItem k)) w.0 s (put_type m shift name (copy_row_names (copy_item m shift) s (world m (TypeItem k))) k) w.1

-- ---- a type under a name

-- where the source reads otherwise, but not below a rank, names of lower rank reach the same
trails_agree : (m : ModuleValue) (kept : Kept) (rank : ItemPlace → ℕ) (old new : World) (b : ℕ) (ps : List (Option ItemPlace)) → Lowers old rank → ((y : ItemPlace) → rank y < b → new y ≡ old y) → All (λ o. IfSome o (λ q. rank q < b)) ps → names_trail (trail_in m kept old) ps ≡ names_trail (trail_in m kept new) ps
trails_agree m kept rank old new b ps l agrees a =
    same_trails rank b (trail_in m kept old) (trail_in m kept new) (λ y h. sym (reached_agrees old new kept rank l b agrees (depth m) y h)) ps a

-- and add the same
collects_agrees : (m : ModuleValue) (shift : ℕ) (kept : Kept) (rank : ItemPlace → ℕ) (old new : World) (b : ℕ) (s t : CopyState) (ps : List (Option ItemPlace)) → Lowers old rank → ((y : ItemPlace) → rank y < b → new y ≡ old y) → All (λ o. IfSome o (λ q. rank q < b)) ps → Collects old kept (spans_by m shift) s.target (names_trail (trail_in m kept old) ps) t.target → Collects new kept (spans_by m shift) s.target (names_trail (trail_in m kept new) ps) t.target
collects_agrees m shift kept rank old new b s t ps l agrees a c =
    let below = below_names rank b b (trail_in m kept old) (omega arith) (reached_below old kept rank l b (depth m)) ps a in
    let before = Collects-agrees old new kept (spans_by m shift) (λ y. rank y < b) (λ y h v e. reading_agrees old new v kept rank l b agrees e y h) below c in
    subst (λ xs. Collects new kept (spans_by m shift) s.target xs t.target) (trails_agree m kept rank old new b ps l agrees a) before

under_names : (o : Option Text) (r : Row) → (under_name o r).names ≡ r.names
under_names None r = refl
under_names (Some n) r = refl

type_after : (m : ModuleValue) (shift : ℕ) (kept : Kept) (rank : ItemPlace → ℕ) (s t : CopyState) (k : ℕ) (o : Option Text) (r : Row) → IsKinded m → IsRankedBy m rank → world m (TypeItem k) ≡ Some r → IsMidway m kept s → goes s.places (TypeItem k) ≡ None → GrowsBy m shift kept (reads_now m s) s t (names_trail (trail_in m kept (reads_now m s)) r.names) → All (WentSomewhere (goes t.places)) r.names → GrowsBy m shift kept (renamed_at (reads_now m s) k o) s (put_type m shift o t k) (trail_in m kept (renamed_at (reads_now m s) k o) (TypeItem k)) × WentSomewhere (goes (put_type m shift o t k).places) (Some (TypeItem k))
type_after m shift kept rank s t k o r kinds a is i fresh g went =
    let p = TypeItem k in
    let u = put_type m shift o t k in
    let row = under_name o r in
    let old = reads_now m s in
    let l = lowers m rank s a in
    let ns = lower_names m rank p r.names (a.names p r is) in
    let fresh_t = still_nowhere m shift kept old s t (names_trail (trail_in m kept old) r.names) p g (not_among m kept old rank p r.names l ns) fresh in
    let c = put_named m shift t k r o (record { source = kinds; target = g.midway.kinds; roomy = g.midway.roomy; at = is; names = went }) in
    let j = midway_step m kept t u p o r row (spans_by m shift p) kinds g.midway fresh_t c is refl in
    let now : reads_now m u ≡ renamed_at old k o = renamed_step m kept t u k o r (spans_by m shift p) g.midway fresh_t c is ∙ ap (λ v. renamed_at v k o) g.reads in
    let new = renamed_at old k o in
    let elsewhere : (y : ItemPlace) → (y ≡ p → ⊥) → new y ≡ old y = renamed_there old k o in
    let agrees : (y : ItemPlace) → rank y < rank p → new y ≡ old y = λ y h. elsewhere y (λ e. let q = ap rank e in absurd (omega (arith, h, q))) in
    let before = collects_agrees m shift kept rank old new (rank p) s t r.names l agrees ns g.collects in
    let among = trails_agree m kept rank old new (rank p) r.names l agrees ns in
    let unnamed : (x y : ItemPlace) → goes t.places x ≡ Some y → new x ≡ reads_now m t x = λ x y h. subst (λ w. new x ≡ w x) (sym g.reads) (elsewhere x (λ e. none_some y (sym fresh_t ∙ ap (goes t.places) (sym e) ∙ h))) in
    let copied_t = AreCopied-named (reads_now m t) new (world t.target) kept (goes t.places) g.midway.copied unnamed in
    let one = grows_one m shift kept new t u p row copied_t g.midway.sound j now fresh_t c in
    let l_new : Lowers new rank = subst (λ w. Lowers w rank) now (lowers m rank u a) in
    let at : new p ≡ Some row = ap (λ w. w p) (sym now) ∙ here m t u p o r row (spans_by m shift p) c is refl in
    let nk : kept p ≡ None = free kept (goes s.places) i.copied.stand p (kept p) refl fresh in
    let trail = step_at new kept rank l_new (depth m) _ (one_less m) p row (a.within p r is) at nk in
    let same : names_trail (trail_in m kept new) r.names ++ p ∷ [] ≡ trail_in m kept new p = ap (λ xs. names_trail (trail_in m kept new) xs ++ p ∷ []) (sym (under_names o r)) ∙ trail in (
      record {
        midway = j;
        reads = now;
        went = λ x y h. one.went x y (g.went x y h);
        places = places_both (goes s.places) (goes t.places) (goes u.places) (names_trail (trail_in m kept new) r.names) (p ∷ []) (trail_in m kept new p) same (subst (PlacesAmong (goes s.places) (goes t.places)) among g.places) one.places;
        collects = subst (λ xs. Collects new kept (spans_by m shift) s.target xs u.target) same (Collects-append (p ∷ []) before one.collects);
      },
      (c.place, c.puts.at),
    )

pub copied_named : (m : ModuleValue) (shift : ℕ) (kept : Kept) (s : CopyState) (k : ℕ) (o : Option Text) → IsCopyable m → IsMidway m kept s → HasAt m (TypeItem k) → goes s.places (TypeItem k) ≡ None → GrowsBy m shift kept (renamed_at (reads_now m s) k o) s (copy_named_type m shift o s k) (trail_in m kept (renamed_at (reads_now m s) k o) (TypeItem k)) × HasCopyNow kept (renamed_at (reads_now m s) k o) (copy_named_type m shift o s k) (TypeItem k)
copied_named m shift kept s k o c i r fresh =
    let p = TypeItem k in
    let w = reads_now m s in
    let new = renamed_at w k o in
    let t = copy_each (copy_item m shift) s r.0.names in
    let named = names_grow m shift kept w (copy_item m shift) (λ q. HasAt m q × (c.rank q < c.rank p)) (λ q h. item_copies m shift kept w q c h.0) r.0.names (c.ranked.names p r.0 r.1) s i refl in
    let g = type_after m shift kept c.rank s t k o r.0 c.kinds c.ranked r.1 i fresh named.0 named.1 in
    let is : copy_named_type m shift o s k ≡ put_type m shift o t k = ap (λ v. if is_some v then s else put_type m shift o (copy_row_names (copy_item m shift) s (world m p)) k) fresh ∙ ap (λ v. put_type m shift o (copy_row_names (copy_item m shift) s v) k) r.1 in
    subst (λ u. GrowsBy m shift kept new s u (trail_in m kept new p) × HasCopyNow kept new u p) (sym is) (g.0, has_copy m shift kept new s (put_type m shift o t k) (trail_in m kept new p) p g.0 g.1)
