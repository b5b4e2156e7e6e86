-- The result of listing the waiting places, and that the listing ends.
use Rattle.std.proofs.Common.{◌≡◌, ⊎_elim, ◌⊎◌, inl, inr, ℕ, ◌+◌, ◌*◌, ◌<◌, ◌≤◌, true, List, [], ◌∷◌, ◌++◌, length, drop, take, take_all, get_or, slice_get, Option, Some, None, drop_of_length-le, refl, ap, sym, ◌∙◌, subst, arith, All, append_assoc, Vec, Global}
use Rattle.std.specs.List.{flat_map, sum_by}
use Rattle.std.proofs.lemmas.Option.{none-some, same_Some}
use Rattle.std.proofs.lemmas.List.{drop_more, length-append, append-nil}
use Rattle.std.proofs.lemmas.List.Elements.{All-weaker, All-nil, All-more}
use Rattle.std.proofs.lemmas.List.Sums.{sum_by_push}
use Rattle.naga_oil_form.specs.Links.{Links, linked, lists, AreEarlier, has, added, trail}
use Rattle.naga_oil_form.specs.declared.form.ExpressionParts.{ExpressionParts}
use Rattle.naga_oil_ir.specs.declared.parts.Named.{Named}
use Rattle.naga_oil_form.proofs.LinkLemmas.{All-has, itself, linked-at, trail-step}
use Rattle.naga_oil_walk.specs.Walk.{IsReachOrder, Holds}
use Rattle.naga_oil_walk.specs.Naming.{item_of, requests_at, names_from, IsAmong, Adds}
use Rattle.naga_oil_walk.specs.Waiting.{next_place, Waits, AreWaiting, left, finish, finish_all, names_left, AsksOn, steps}
use Rattle.naga_oil_walk.specs.declared.function_walk.Waiting.{Waiting}
use Rattle.naga_oil_walk.specs.declared.walk.Request.{Request}
use Rattle.naga_oil_walk.specs.declared.walk.Request.TheVariants.{Item}
use Rattle.naga_oil_walk.proofs.WalkLemmas.{added-append, added-keeps, added-holds, trail-known}
use Rattle.naga_oil_walk.proofs.NamingLemmas.{Adds-append, names-step, among_left, request_among}
use Rattle.naga_oil_walk.proofs.ReachSteps.{adds_all}

-- ---- one more operand

abbrev pub next : Waiting → Waiting
next w = record w { done = w.done + 1 }

pub left_next : (ls : Links) (w : Waiting) (x : ℕ) → w.done < length (linked ls w.place) → x ≡ get_or (linked ls w.place) w.done x → left ls w ≡ x ∷ left ls (next w)
left_next ls w x l e = drop_more (linked ls w.place) w.done x l ∙ ap (λ y. y ∷ left ls (next w)) (sym e)

pub none_left : (ls : Links) (w : Waiting) → length (linked ls w.place) ≤ w.done → left ls w ≡ []
none_left ls w l = drop_of_length-le (linked ls w.place) l

pub all_left : (ls : Links) (w : Waiting) → w.done ≡ 0 → left ls w ≡ linked ls w.place
all_left ls w e = ap (λ n. drop n (linked ls w.place)) e

-- ---- what is listed

pub finish_last : (ls : Links) (o : List ℕ) (ws : List Waiting) (w : Waiting) → finish_all ls o (ws ++ w ∷ []) ≡ finish_all ls (finish ls o w) ws
finish_last ls o [] w = refl
finish_last ls o (v ∷ ws) w = ap (λ p. finish ls p v) (finish_last ls o ws w)

pub finish_none : (ls : Links) (o : List ℕ) (w : Waiting) → left ls w ≡ [] → finish ls o w ≡ added o (w.place ∷ [])
finish_none ls o w e = ap (λ xs. added o (flat_map (trail ls) xs ++ w.place ∷ [])) e

pub finish_next : (ls : Links) (o : List ℕ) (w : Waiting) (x : ℕ) → left ls w ≡ x ∷ left ls (next w) → finish ls o w ≡ finish ls (added o (trail ls x)) (next w)
finish_next ls o w x e =
    let rest = flat_map (trail ls) (left ls (next w)) in
    ap (λ xs. added o (flat_map (trail ls) xs ++ w.place ∷ [])) e ∙ ap (added o) (append_assoc (trail ls x) rest (w.place ∷ [])) ∙ added-append o (trail ls x) (rest ++ w.place ∷ [])

-- a place that begins to wait is listed after all places that it reaches
pub finish_new : (ls : Links) → AreEarlier ls → (o : List ℕ) (w : Waiting) → w.done ≡ 0 → finish ls o w ≡ added o (trail ls w.place)
finish_new ls a o w e = ap (λ xs. added o (flat_map (trail ls) xs ++ w.place ∷ [])) (all_left ls w e) ∙ ap (added o) (sym (trail-step ls a w.place))

pub listed_gone : (ls : Links) (o : List ℕ) (ws : List Waiting) (w : Waiting) (x : ℕ) → IsReachOrder ls o → left ls w ≡ x ∷ left ls (next w) → has o x ≡ true → finish_all ls o (ws ++ next w ∷ []) ≡ finish_all ls (finish ls o w) ws
listed_gone ls o ws w x r e h =
    finish_last ls o ws (next w) ∙ ap (λ p. finish_all ls p ws) (ap (λ p. finish ls p (next w)) (trail-known ls o x r h) ∙ sym (finish_next ls o w x e))

pub listed_more : (ls : Links) → AreEarlier ls → (o : List ℕ) (ws : List Waiting) (w v : Waiting) (x : ℕ) → left ls w ≡ x ∷ left ls (next w) → v.place ≡ x → v.done ≡ 0 → finish_all ls o ((ws ++ next w ∷ []) ++ v ∷ []) ≡ finish_all ls (finish ls o w) ws
listed_more ls a o ws w v x e is none =
    let new : finish ls o v ≡ added o (trail ls x) = finish_new ls a o v none ∙ ap (λ k. added o (trail ls k)) is in
    finish_last ls o (ws ++ next w ∷ []) v ∙ finish_last ls (finish ls o v) ws (next w) ∙ ap (λ p. finish_all ls p ws) (ap (λ p. finish ls p (next w)) new ∙ sym (finish_next ls o w x e))

-- ---- what is requested

pub names_last : (ns : List Named) (ls : Links) (ws : List Waiting) (w : Waiting) → names_left ns ls (ws ++ w ∷ []) ≡ flat_map (names_from ns ls) (left ls w) ++ names_left ns ls ws
names_last ns ls [] w = sym (append-nil (flat_map (names_from ns ls) (left ls w)))
names_last ns ls (v ∷ ws) w =
    let own = flat_map (names_from ns ls) (left ls v) in
    ap (λ xs. xs ++ own) (names_last ns ls ws w) ∙ append_assoc (flat_map (names_from ns ls) (left ls w)) (names_left ns ls ws) own

pub names_next : (ns : List Named) (ls : Links) (ws : List Waiting) (w : Waiting) (x : ℕ) → left ls w ≡ x ∷ left ls (next w) → names_left ns ls (ws ++ w ∷ []) ≡ names_from ns ls x ++ names_left ns ls (ws ++ next w ∷ [])
names_next ns ls ws w x e =
    let rest = flat_map (names_from ns ls) (left ls (next w)) in
    names_last ns ls ws w ∙ ap (λ xs. flat_map (names_from ns ls) xs ++ names_left ns ls ws) e ∙ append_assoc (names_from ns ls x) rest (names_left ns ls ws) ∙ ap (λ ys. names_from ns ls x ++ ys) (sym (names_last ns ls ws (next w)))

pub asks_none : (ns : List Named) (ls : Links) (ws : List Waiting) (w : Waiting) (s t : List Request) → left ls w ≡ [] → t ≡ s → AsksOn ns ls s (ws ++ w ∷ []) t ws
asks_none ns ls ws w s t e same us a =
    let all : names_left ns ls (ws ++ w ∷ []) ≡ names_left ns ls ws = names_last ns ls ws w ∙ ap (λ xs. flat_map (names_from ns ls) xs ++ names_left ns ls ws) e in
    subst (λ ys. Adds s ys us) (sym all) (subst (λ (q : List Request). Adds q (names_left ns ls ws) us) same a)

pub asks_gone : (ns : List Named) (ls : Links) (ws : List Waiting) (w : Waiting) (x : ℕ) (s t : List Request) → left ls w ≡ x ∷ left ls (next w) → Adds s (names_from ns ls x) s → t ≡ s → AsksOn ns ls s (ws ++ w ∷ []) t (ws ++ next w ∷ [])
asks_gone ns ls ws w x s t e known same us a =
    let rest = names_left ns ls (ws ++ next w ∷ []) in
    let b : Adds s rest us = subst (λ (q : List Request). Adds q rest us) same a in
    subst (λ ys. Adds s ys us) (sym (names_next ns ls ws w x e)) (Adds-append s s us (names_from ns ls x) rest known b)

pub asks_more : (ns : List Named) (ls : Links) → AreEarlier ls → (ws : List Waiting) (w v : Waiting) (x : ℕ) (s t : List Request) → left ls w ≡ x ∷ left ls (next w) → v.place ≡ x → v.done ≡ 0 → t ≡ s ++ requests_at ns x → AsksOn ns ls s (ws ++ w ∷ []) t ((ws ++ next w ∷ []) ++ v ∷ [])
asks_more ns ls a ws w v x s t e is none asked us b =
    let more = ws ++ next w ∷ [] in
    let rest = names_left ns ls more in
    let own = flat_map (names_from ns ls) (linked ls x) in
    let all : names_left ns ls (more ++ v ∷ []) ≡ own ++ rest = names_last ns ls more v ∙ ap (λ xs. flat_map (names_from ns ls) xs ++ rest) (all_left ls v none ∙ ap (linked ls) is) in
    let c : Adds t (own ++ rest) us = subst (λ ys. Adds t ys us) all b in
    let first : Adds s (requests_at ns x) t = adds_all s t (requests_at ns x) asked in
    let d : Adds s (requests_at ns x ++ (own ++ rest)) us = Adds-append s t us (requests_at ns x) (own ++ rest) first c in
    let whole : names_left ns ls (ws ++ w ∷ []) ≡ requests_at ns x ++ (own ++ rest) = names_next ns ls ws w x e ∙ ap (λ ys. ys ++ rest) (names-step ns ls a x) ∙ append_assoc (requests_at ns x) own rest in
    subst (λ ys. Adds s ys us) (sym whole) d

-- a place that begins to wait requests the items that it reaches
pub asks_new : (ns : List Named) (ls : Links) → AreEarlier ls → (w : Waiting) (k : ℕ) (s t us : List Request) → w.place ≡ k → w.done ≡ 0 → t ≡ s ++ requests_at ns k → Adds t (names_left ns ls (w ∷ [])) us → Adds s (names_from ns ls k) us
asks_new ns ls a w k s t us is none asked b =
    let own = flat_map (names_from ns ls) (linked ls k) in
    let c : Adds t own us = subst (λ xs. Adds t (flat_map (names_from ns ls) xs) us) (all_left ls w none ∙ ap (linked ls) is) b in
    subst (λ ys. Adds s ys us) (sym (names-step ns ls a k)) (Adds-append s t us (requests_at ns k) own (adds_all s t (requests_at ns k) asked) c)

-- ---- each place waits for those after it

pub waits_last : (of : ExpressionParts) (o : List ℕ) (rs : List Request) (ws : List Waiting) (w : Waiting) → AreWaiting of o rs (ws ++ w ∷ []) → Waits of o rs w []
waits_last of o rs [] w h = h.0
waits_last of o rs (v ∷ ws) w h = waits_last of o rs ws w h.1

first_same : (ws : List Waiting) (w v : Waiting) (vs : List Waiting) → w.place ≡ v.place → next_place (ws ++ w ∷ []) ≡ next_place (ws ++ v ∷ vs)
first_same [] w v vs e = ap Some e
first_same (u ∷ ws) w v vs e = refl

-- the last place is replaced by others, of which it is the first, and more is requested
pub waits_more : (of : ExpressionParts) (o : List ℕ) (rs ts : List Request) (ws : List Waiting) (w v : Waiting) (vs : List Waiting) → w.place ≡ v.place → ((y : Request) → IsAmong rs y → IsAmong ts y) → AreWaiting of o ts (v ∷ vs) → AreWaiting of o rs (ws ++ w ∷ []) → AreWaiting of o ts (ws ++ v ∷ vs)
waits_more of o rs ts [] w v vs e f a h = a
waits_more of o rs ts (x ∷ ws) w v vs e f a h =
    let i = h.0 in
    (record { there = i.there; asked = λ p q. f (Item p) (i.asked p q); done = subst (λ (n : Option ℕ). All (λ y. (has o y ≡ true) ⊎ (Some y ≡ n)) (take x.done (linked (lists of.links.items) x.place))) (first_same ws w v vs e) i.done }, waits_more of o rs ts ws w v vs e f a h.1)

-- the last one is listed
pub waits_listed : (of : ExpressionParts) (o p : List ℕ) (rs ts : List Request) (ws : List Waiting) (w : Waiting) → p ≡ added o (w.place ∷ []) → ts ≡ rs → AreWaiting of o rs (ws ++ w ∷ []) → AreWaiting of p ts ws
waits_listed of o p rs ts [] w e same h = tt
waits_listed of o p rs ts (x ∷ ws) w e same h =
    let i = h.0 in
    let P = λ (y : ℕ). (has o y ≡ true) ⊎ (Some y ≡ next_place (ws ++ w ∷ [])) in
    let Q = λ (y : ℕ). (has p y ≡ true) ⊎ (Some y ≡ next_place ws) in
    (record { there = i.there; asked = λ q j. subst (λ (r : List Request). IsAmong r (Item q)) (sym same) (i.asked q j); done = All-weaker P Q (λ y k. went_on ws y k) (take x.done (linked (lists of.links.items) x.place)) i.done }, waits_listed of o p rs ts ws w e same h.1)
  where
    stays : (y : ℕ) → has o y ≡ true → has p y ≡ true
    stays y k = subst (λ (q : List ℕ). has q y ≡ true) (sym e) (added-keeps o (w.place ∷ []) y k)

    went_on : (us : List Waiting) (y : ℕ) → (has o y ≡ true) ⊎ (Some y ≡ next_place (us ++ w ∷ [])) → (has p y ≡ true) ⊎ (Some y ≡ next_place us)
    went_on us y (inl k) = inl (stays y k)
    went_on [] y (inr k) = inl (subst (λ (q : List ℕ). has q y ≡ true) (sym e) (added-holds o (w.place ∷ []) y (ap (λ z. has (z ∷ []) y) (sym (same_Some y w.place k)) ∙ itself y)))
    went_on (u ∷ us) y (inr k) = inr k

-- one more operand is listed or waits next, and more is requested
pub waits_next : (of : ExpressionParts) (o : List ℕ) (rs ts : List Request) (w : Waiting) (x : ℕ) (vs : List Waiting) → Waits of o rs w [] → ((y : Request) → IsAmong rs y → IsAmong ts y) → w.done < length (linked (lists of.links.items) w.place) → x ≡ get_or (linked (lists of.links.items) w.place) w.done x → (has o x ≡ true) ⊎ (Some x ≡ next_place vs) → Waits of o ts (next w) vs
waits_next of o rs ts w x vs i f l e h =
    let xs = linked (lists of.links.items) w.place in
    let P = λ (y : ℕ). (has o y ≡ true) ⊎ (Some y ≡ next_place vs) in
    let before = All-weaker (λ y. (has o y ≡ true) ⊎ (Some y ≡ None)) P (λ y k. ⊎_elim inl (λ z. absurd (none-some y (sym z))) k) (take w.done xs) i.done in
    record { there = i.there; asked = λ p q. f (Item p) (i.asked p q); done = All-more P xs w.done x l before (subst P e h) }

-- all that a place names is listed once none is left
pub all_listed : (of : ExpressionParts) (o : List ℕ) (rs : List Request) (w : Waiting) → Waits of o rs w [] → length (linked (lists of.links.items) w.place) ≤ w.done → Holds o (linked (lists of.links.items) w.place)
all_listed of o rs w i l x h =
    let xs = linked (lists of.links.items) w.place in
    let all = subst (All (λ y. (has o y ≡ true) ⊎ (Some y ≡ None))) (take_all w.done xs l) i.done in
    ⊎_elim (λ k. k) (λ k. absurd (none-some x (sym k))) (All-has (λ y. (has o y ≡ true) ⊎ (Some y ≡ None)) xs x all h)

pub waits_new : (of : ExpressionParts) (o : List ℕ) (rs ts : List Request) (v : Waiting) (x : ℕ) → x < length of.links.items → v.place ≡ x → v.done ≡ 0 → ts ≡ rs ++ requests_at of.named.items x → Waits of o ts v []
waits_new of o rs ts v x there is none asked =
    let P = λ (y : ℕ). (has o y ≡ true) ⊎ (Some y ≡ None) in
    record {
      there = subst (λ n. n < length of.links.items) (sym is) there;
      asked = λ p q. request_among rs ts (item_of (slice_get of.named.items x)) p asked (ap (λ n. item_of (slice_get of.named.items n)) (sym is) ∙ q);
      done = subst (λ n. All P (take n (linked (lists of.links.items) v.place))) (sym none) (All-nil P);
    }

pub gone_waits : (of : ExpressionParts) (o : List ℕ) (rs ts : List Request) (ws : List Waiting) (w : Waiting) (x : ℕ) → AreWaiting of o rs (ws ++ w ∷ []) → ts ≡ rs → w.done < length (linked (lists of.links.items) w.place) → x ≡ get_or (linked (lists of.links.items) w.place) w.done x → has o x ≡ true → AreWaiting of o ts (ws ++ next w ∷ [])
gone_waits of o rs ts ws w x h same l e k =
    let f : (y : Request) → IsAmong rs y → IsAmong ts y = λ y a. subst (λ (q : List Request). IsAmong q y) (sym same) a in
    waits_more of o rs ts ws w (next w) [] refl f (waits_next of o rs ts w x [] (waits_last of o rs ws w h) f l e (inl k), tt) h

pub more_waits : (of : ExpressionParts) (o : List ℕ) (rs ts : List Request) (ws : List Waiting) (w v : Waiting) (x : ℕ) → AreWaiting of o rs (ws ++ w ∷ []) → w.done < length (linked (lists of.links.items) w.place) → x ≡ get_or (linked (lists of.links.items) w.place) w.done x → x < length of.links.items → v.place ≡ x → v.done ≡ 0 → ts ≡ rs ++ requests_at of.named.items x → AreWaiting of o ts ((ws ++ next w ∷ []) ++ v ∷ [])
more_waits of o rs ts ws w v x h l e there is none asked =
    let f : (y : Request) → IsAmong rs y → IsAmong ts y = λ y a. subst (λ (q : List Request). IsAmong q y) (sym asked) (among_left rs (requests_at of.named.items x) y a) in
    let own = waits_next of o rs ts w x (v ∷ []) (waits_last of o rs ws w h) f l e (inr (ap Some (sym is))) in
    subst (AreWaiting of o ts) (sym (append_assoc ws (next w ∷ []) (v ∷ []))) (waits_more of o rs ts ws w (next w) (v ∷ []) refl f (own, (waits_new of o rs ts v x there is none asked, tt)) h)

-- ---- steps

steps_next : (ls : Links) (w : Waiting) (x : ℕ) → left ls w ≡ x ∷ left ls (next w) → steps ls w ≡ steps ls (next w) + 2 * length (trail ls x)
steps_next ls w x e =
    let rest = flat_map (trail ls) (left ls (next w)) in
    let a : length (flat_map (trail ls) (left ls w)) ≡ length (trail ls x) + length rest = ap (λ xs. length (flat_map (trail ls) xs)) e ∙ length-append (trail ls x) rest in
    omega (arith, a)

-- a place is itself in its trail
trail_long : (ls : Links) → AreEarlier ls → (x : ℕ) → length (trail ls x) ≡ length (flat_map (trail ls) (linked ls x)) + 1
trail_long ls a x = ap length (trail-step ls a x) ∙ length-append (flat_map (trail ls) (linked ls x)) (x ∷ [])

pub gone_fewer : (ls : Links) → AreEarlier ls → (ws : List Waiting) (w : Waiting) (x : ℕ) → left ls w ≡ x ∷ left ls (next w) → sum_by (steps ls) (ws ++ next w ∷ []) < sum_by (steps ls) ws + steps ls w
gone_fewer ls a ws w x e =
    let b = sum_by_push (steps ls) ws (next w) in
    let c = steps_next ls w x e in
    let d = trail_long ls a x in
    omega (arith, b, c, d)

pub more_fewer : (ls : Links) → AreEarlier ls → (ws : List Waiting) (w v : Waiting) (x : ℕ) → left ls w ≡ x ∷ left ls (next w) → v.place ≡ x → v.done ≡ 0 → sum_by (steps ls) ((ws ++ next w ∷ []) ++ v ∷ []) < sum_by (steps ls) ws + steps ls w
more_fewer ls a ws w v x e is none =
    let b = sum_by_push (steps ls) (ws ++ next w ∷ []) v in
    let c = sum_by_push (steps ls) ws (next w) in
    let d = steps_next ls w x e in
    let f = trail_long ls a x in
    let g : steps ls v ≡ 1 + 2 * length (flat_map (trail ls) (linked ls x)) = ap (λ xs. 1 + 2 * length (flat_map (trail ls) xs)) (all_left ls v none ∙ ap (linked ls) is) in
    omega (arith, b, c, d, f, g)

-- ---- what is read of the operands

abbrev pub IsOperand : Links → Waiting → ℕ → Type 0
IsOperand ls w x = (w.done < length (linked ls w.place)) × (x ≡ get_or (linked ls w.place) w.done x)

pub operand_there : (of : ExpressionParts) (w : Waiting) (x : ℕ) → AreEarlier (lists of.links.items) → w.place < length of.links.items → IsOperand (lists of.links.items) w x → x < length of.links.items
operand_there of w x a t f =
    let below : get_or (linked (lists of.links.items) w.place) w.done x < w.place = a w.place w.done x f.0 in
    let is = f.1 in
    omega (arith, below, is, t)

pub operand_at : (of : ExpressionParts) (w : Waiting) (v : Vec ℕ Global) (xs : List ℕ) (x : ℕ) → w.place < length of.links.items → v ≡ get_or of.links.items w.place v → xs ≡ v.items → w.done < length xs → x ≡ get_or xs w.done x → IsOperand (lists of.links.items) w x
operand_at of w v xs x t e is l f =
    let here : xs ≡ linked (lists of.links.items) w.place = is ∙ sym (linked-at of.links.items w.place v t e) in
    subst (λ (ys : List ℕ). (w.done < length ys) × (x ≡ get_or ys w.done x)) here (l, f)

pub operands_past : (of : ExpressionParts) (w : Waiting) (v : Vec ℕ Global) (xs : List ℕ) → w.place < length of.links.items → v ≡ get_or of.links.items w.place v → xs ≡ v.items → length xs ≤ w.done → length (linked (lists of.links.items) w.place) ≤ w.done
operands_past of w v xs t e is l =
    let here : xs ≡ linked (lists of.links.items) w.place = is ∙ sym (linked-at of.links.items w.place v t e) in
    subst (λ (ys : List ℕ). length ys ≤ w.done) here l
