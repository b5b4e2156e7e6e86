-- Copies of the functions of a source, without handles.
use Rattle.std.proofs.Common.{◌≡◌, ⊎_elim, ◌⊎◌, ℕ, zero, suc, ◌+◌, ◌<◌, ◌≤◌, ◌==◌, ◌||◌, Bool, true, false, cond, List, [], ◌∷◌, ◌++◌, length, map, take, drop, Option, Some, None, is_some, option_map, option_to_list, unwrap_or, slice_get, nat_eq, IfSome, All, inl, inr, refl, ap, sym, ◌∙◌, subst, arith, take-append-drop}
use Rattle.std.specs.List.{flat_map, filter}
use Rattle.std.specs.Map.{keys_of}
use Rattle.std.specs.Option.{option_flatten}
use Rattle.std.proofs.lemmas.Bool.{cases_Bool, false≢true, or_cases, or_left, or_right, ne_eqb}
use Rattle.std.proofs.lemmas.List.{map-append, length-map}
use Rattle.std.proofs.lemmas.List.Elements.{All-head}
use Rattle.std.proofs.lemmas.Option.{none-some, same_Some, slice_get-map, slice_get_within}
use Rattle.indexmap.specs.IndexMap.{insert_entry}
use Rattle.naga_oil_form.specs.BodyForm.{run, places}
use Rattle.naga_oil_form.specs.Links.{linked, has, added}
use Rattle.naga_oil_ir.specs.ModuleValue.{ModuleValue, FunctionValue}
use Rattle.naga_oil_ir.specs.Parts.{Parts}
use Rattle.naga_oil_ir.specs.declared.names.ItemPlace.{ItemPlace}
use Rattle.naga_oil_ir.specs.declared.names.ItemPlace.TheVariants.{TypeItem, ConstantItem, OverrideItem, GlobalItem, ExpressionItem}
use Rattle.naga_oil_ir.specs.declared.parts.Named.{Named}
use Rattle.naga_oil_ir.specs.declared.parts.Named.TheVariants.{Nothing, TypeOf, ConstantAt, OverrideAt, GlobalAt, LocalAt, ArgumentAt, FunctionAt}
use Rattle.naga_oil_ir.specs.declared.span.Span.{Span}
use Rattle.naga_oil_ir.specs.declared.tokens.Token.{Token}
use Rattle.naga_oil_ir.specs.declared.tokens.Token.TheVariants.{Emitted, GiveCall, Callee}
use Rattle.naga_oil_form.proofs.LinkLemmas.{All-has, All-from_has, eqb_eq, eq_eqb, has-added}
use Rattle.naga_oil_walk.specs.declared.walk.Request.TheVariants.{Item, Call}
use Rattle.naga_oil_derive.specs.Copies.{Table, place_under, under_table}
use Rattle.naga_oil_derive.specs.CopiedFunctionLaw.{MayBeCopied, reached_in, named_copies}
use Rattle.naga_oil_derive.specs.Derived.{Source, Derived, IsLaterSource}
use Rattle.naga_oil_derive.specs.DerivedFunctions.{Meanings, meant, meant_at, going}
use Rattle.naga_oil_derive.specs.DerivedLaw.{IsDerivation}
use Rattle.naga_oil_derive.specs.Functions.{Copies, AreCovered, IsCovered, begun, order_of, name_put, names_under}
use Rattle.naga_oil_walk.specs.Naming.{asked}
use Rattle.naga_oil_rename.specs.Renames.{Renames, rename_place}
use Rattle.naga_oil_derive.specs.Tree.{Kept}
use Rattle.naga_oil_walk.specs.Walk.{others}
use Rattle.naga_oil_derive.specs.World.{goes, shifted}
use Rattle.naga_oil_derive.proofs.CopyLoops.{there}
use Rattle.naga_oil_derive.proofs.CopySteps.{has_copy}
use Rattle.naga_oil_derive.proofs.DerivedLaws.{placed_law}
use Rattle.naga_oil_derive.proofs.FunctionForm.{walk_of_value}
use Rattle.naga_oil_derive.proofs.ReachedLaws.{order_reached}
use Rattle.naga_oil_walk.proofs.WalkLemmas.{added-append, has_at}
use Rattle.naga_oil_walk.proofs.WalkNotes.{added-grows}
use Rattle.naga_oil_copy_laws.specs.Scope.{ReadAlike, CalledAlike, name_of_function, scope_of, scope_from}
use Rattle.naga_oil_copy_laws.specs.ByTree.{IsReached, HasCopy, HasSpan, NameComes, KeepNames, NamesAlike, HasNothingElse, callee_in, CopiesByTree}
use Rattle.naga_oil_copy_laws.specs.ByTreeLaw.{HasEarlierOperands}
use Rattle.naga_oil_copy_laws.specs.CopiedByTree.{AreTrueIn, IsAtHand, IsMade, MadeLaw}
use Rattle.naga_oil_copy_laws.proofs.NameLemmas.{added-map, added-twice}
use Rattle.naga_oil_copy_laws.proofs.ReachLemmas.{IsImage, links_of, operands_of, operands_image, linked_at, filter-has, has-map, mapped, reached_back, reached_on}

-- ---- where a copy first stands

pub first_at : (h : ℕ → ℕ) (o : List ℕ) (y : ℕ) → has (map h o) y ≡ true → (i : ℕ) × (k : ℕ) × (slice_get o i ≡ Some k) × (h k ≡ y) × (has (map h (take i o)) y ≡ false)
first_at h [] y w = absurd (false≢true w)
first_at h (x ∷ o) y w =
    ⊎_elim (λ (e : (h x == y) ≡ true). (zero, x, refl, eqb_eq (h x) y e, refl)) (λ (e : (h x == y) ≡ false). let rest : has (map h o) y ≡ true = rw e at w in let r = first_at h o y rest in (suc r.0, r.1, r.2, r.3, rw e r.4)) (cases_Bool (h x == y))

prefix_run : (p m : List ℕ) (a n : ℕ) → run a n ≡ p ++ m → p ≡ run a (length p)
prefix_run [] m a n e = refl
prefix_run (x ∷ p) m a zero e = absurd cc
prefix_run (x ∷ p) m a (suc n) e =
    let first : a ≡ x = cc in
    let rest : run (suc a) n ≡ p ++ m = cc in
    ap (λ y. y ∷ p) (sym first) ∙ ap (λ ys. a ∷ ys) (prefix_run p m (suc a) n rest)

run_above : (n a k : ℕ) → has (run a n) k ≡ true → k < a + n
run_above zero a k h = absurd (false≢true h)
run_above (suc n) a k h =
    ⊎_elim (λ i. let e = eqb_eq a k i in omega (arith, e)) (λ i. let l = run_above n (suc a) k i in omega (arith, l)) (or_cases (a == k) (has (run (suc a) n) k) h)

run_has : (n a k : ℕ) → a ≤ k → k < a + n → has (run a n) k ≡ true
run_has zero a k l m = absurd (omega (arith, l, m))
run_has (suc n) a k l m =
    ⊎_elim (λ (e : (a == k) ≡ true). or_left (a == k) (has (run (suc a) n) k) e) (λ (e : (a == k) ≡ false). or_right (a == k) (has (run (suc a) n) k) (run_has n (suc a) k (let d : a ≡ k → ⊥ = λ s. false≢true (sym e ∙ eq_eqb a k s) in omega (arith, l, m, d)) (omega (arith, m)))) (cases_Bool (a == k))

-- of the copies that stand in the order of what they copy first, those of its beginning are before the others
first_before : (h : ℕ → ℕ) (o : List ℕ) (n i x y : ℕ) → added [] (map h o) ≡ run 0 n → has (map h (take i o)) x ≡ true → has (map h (take i o)) y ≡ false → x < y
first_before h o n i x y e hx hy =
    let zs = map h (take i o) in
    let ws = map h (drop i o) in
    let g = added-grows ws (added [] zs) in
    let joined : run 0 n ≡ added [] zs ++ g.0 = sym e ∙ ap (λ xs. added [] (map h xs)) (sym (take-append-drop i o)) ∙ ap (added []) (map-append h (take i o) (drop i o)) ∙ added-append [] zs ws ∙ g.1 in
    let is_run = prefix_run (added [] zs) g.0 0 n joined in
    let m = length (added [] zs) in
    let below = run_above m 0 x (ap (λ xs. has xs x) (sym is_run) ∙ has-added [] zs x ∙ hx) in
    let above : y < m → ⊥ = λ l. false≢true (sym hy ∙ sym (has-added [] zs y) ∙ ap (λ xs. has xs y) is_run ∙ run_has m 0 y (omega arith) (omega (arith, l))) in
    omega (arith, below, above)

-- ---- what is copied

ordered : (f : FunctionValue) → MayBeCopied f → (k : ℕ) → IsReached f k → has (order_of f) k ≡ true
ordered f may k w = order_reached f may k ∙ w

entry_at : (f : FunctionValue) → MayBeCopied f → (k : ℕ) → has (order_of f) k ≡ true → (e : Parts × Span) × (slice_get f.expressions k ≡ Some e)
entry_at f may k w =
    let size : length (links_of f) ≡ length f.expressions = length-map f.expressions operands_of in
    let l = All-has (λ x. x < length (links_of f)) (order_of f) k (walk_of_value f may).within w in
    there f.expressions k (omega (arith, l, size))

-- where handles, expressions and ranges go by a copy
abbrev pub goes_by : (r : Renames) (f g : FunctionValue) → Copies r f g → Renames
goes_by r f g c = under_table r c.table c.range

copy_at : (r : Renames) (f g : FunctionValue) → MayBeCopied f → (c : Copies r f g) → (k : ℕ) → has (order_of f) k ≡ true → HasCopy (goes_by r f g c) f g k
copy_at r f g may c k w =
    let a = entry_at f may k w in
    let e = c.expressions.reads k a.0 w a.1 in
    record { source = a.0; copy = e.0; at_source = a.1; at_copy = e.1; reads = e.2 }

covered_at : (t : Table) (q : ℕ × ℕ → ℕ × ℕ) (s : List ℕ) (ts : List Token) (i : ℕ) (p : ℕ × ℕ) → AreCovered t q s ts → slice_get ts i ≡ Some (Emitted p) → places (q p) ≡ map (place_under t) (others s (places p))
covered_at t q s [] i p a e = absurd (none-some (Emitted p) e)
covered_at t q s (x ∷ ts) zero p a e = subst (IsCovered t q s) (same_Some x (Emitted p) e) a.0
covered_at t q s (x ∷ ts) (suc i) p a e = covered_at t q s ts i p a.1 e

pub image_of_copy : (r : Renames) (f g : FunctionValue) → MayBeCopied f → (c : Copies r f g) → IsImage (goes_by r f g c) f g
image_of_copy r f g may c = record {
  locals = c.locals;
  body = c.body;
  copies = λ k w. copy_at r f g may c k (ordered f may k w);
  emits = λ i p e. covered_at c.table c.range (begun f) f.body i p c.emits e;
}

linked_cases : (g : FunctionValue) (h x : ℕ) (o : Option (Parts × Span)) → slice_get g.expressions h ≡ o → has (linked (links_of g) h) x ≡ true → (e : Parts × Span) × (slice_get g.expressions h ≡ Some e) × (has (operands_of e) x ≡ true)
linked_cases g h x None at i = absurd (false≢true (ap (λ xs. has xs x) (sym (ap (λ (o : Option (List ℕ)). unwrap_or o []) (slice_get-map operands_of g.expressions h ∙ ap (option_map operands_of) at))) ∙ i))
linked_cases g h x (Some e) at i = (e, at, ap (λ xs. has xs x) (sym (linked_at g h e at)) ∙ i)

-- the operands of a copy stand before it
pub earlier_copy : (r : Renames) (f g : FunctionValue) → MayBeCopied f → Copies r f g → HasEarlierOperands g
earlier_copy r f g may c = λ h. All-from_has (λ x. x < h) (linked (links_of g) h) (λ x i. one h x i)
  where
    one : (h x : ℕ) → has (linked (links_of g) h) x ≡ true → x < h
    one h x i =
        let p = place_under c.table in
        let o = order_of f in
        let w = linked_cases g h x (slice_get g.expressions h) refl i in
        let l = slice_get_within g.expressions h w.0 w.1 in
        let k = first_at p o h (has_copy r f.expressions (begun f) o c.table g.expressions h c.expressions l) in
        let in_order = has_at o k.0 k.1 k.2 in
        let y = copy_at r f g may c k.1 in_order in
        let same : y.copy ≡ w.0 = same_Some y.copy w.0 (sym y.at_copy ∙ ap (slice_get g.expressions) k.3 ∙ w.1) in
        let operands : operands_of w.0 ≡ map p (linked (links_of f) k.1) = ap operands_of (sym same) ∙ ap (λ (z : Parts). flat_map option_to_list z.operands) y.reads ∙ operands_image p y.source.0.operands ∙ ap (map p) (sym (linked_at f k.1 y.source y.at_source)) in
        let z = mapped p (linked (links_of f) k.1) x (ap (λ xs. has xs x) (sym operands) ∙ w.2) in
        let before = (walk_of_value f may).ready.after k.0 k.1 z.0 k.2 z.1 in
        first_before p o (length g.expressions) k.0 x h c.expressions.order (ap (has (map p (take k.0 o))) (sym z.2) ∙ has-map p (take k.0 o) z.0 before) k.4

span_at_copy : (r : Renames) (f g : FunctionValue) → MayBeCopied f → (c : Copies r f g) → (k : ℕ) → IsReached f k → HasSpan r.span (goes_by r f g c) f g k
span_at_copy r f g may c k w =
    let p = place_under c.table in
    let o = order_of f in
    let j = first_at p o (p k) (has-map p o k (ordered f may k w)) in
    record {
      first = j.1;
      reached = sym (order_reached f may j.1) ∙ has_at o j.0 j.1 j.2;
      same = j.3;
      spans = λ x y from to. c.expressions.spans j.0 j.1 x y j.2 (ap (has (map p (take j.0 o))) j.3 ∙ j.4) from (ap (slice_get g.expressions) j.3 ∙ to);
    }

-- ---- names

keys_more : (k : ℕ) (n : List ℕ) (e : ℕ × List ℕ) (done : List (ℕ × List ℕ)) (b : Bool) → nat_eq k e.0 ≡ b → keys_of (insert_entry nat_eq done k n) ≡ added (keys_of done) (k ∷ []) → keys_of (cond b ((e.0, n) ∷ done) (e ∷ insert_entry nat_eq done k n)) ≡ added (keys_of (e ∷ done)) (k ∷ [])
keys_more k n e done true t i = sym (ap (λ b. cond (b || has (keys_of done) k) (keys_of (e ∷ done)) (keys_of (e ∷ done) ++ k ∷ [])) (eq_eqb e.0 k (sym (eqb_eq k e.0 t))))
keys_more k n e done false t i =
    let ks = keys_of done in
    ap (λ xs. e.0 ∷ xs) i ∙ cons_chosen (has ks k) e.0 ks (ks ++ k ∷ []) ∙ sym (ap (λ b. cond (b || has ks k) (e.0 ∷ ks) (e.0 ∷ (ks ++ k ∷ []))) (ne_eqb e.0 k (λ q. false≢true (sym t ∙ eq_eqb k e.0 (sym q)))))
  where
    cons_chosen : (b : Bool) (k : ℕ) (x y : List ℕ) → k ∷ cond b x y ≡ cond b (k ∷ x) (k ∷ y)
    cons_chosen true k x y = refl
    cons_chosen false k x y = refl

keys_put : (k : ℕ) (n : List ℕ) (done : List (ℕ × List ℕ)) → keys_of (insert_entry nat_eq done k n) ≡ added (keys_of done) (k ∷ [])
keys_put k n [] = refl
keys_put k n (e ∷ done) = keys_more k n e done (nat_eq k e.0) refl (keys_put k n done)

keys_name : (o : Option ℕ) (n : List ℕ) (done : List (ℕ × List ℕ)) → keys_of (name_put o n done) ≡ added (keys_of done) (option_to_list o)
keys_name None n done = refl
keys_name (Some k) n done = keys_put k n done

first_place : (t : Table) (ns done : List (ℕ × List ℕ)) → keys_of (names_under t done ns) ≡ added (keys_of done) (named_copies t ns)
first_place t [] done = refl
first_place t (e ∷ ns) done =
    let o = option_flatten (slice_get t e.0) in
    first_place t ns (name_put o e.1 done) ∙ ap (λ xs. added xs (named_copies t ns)) (keys_name o e.1 done) ∙ sym (added-append (keys_of done) (option_to_list o) (named_copies t ns))

-- the copies of what has names, where just what passes has copies
copies_named : (t : Table) (p : ℕ → Bool) → ((k : ℕ) → is_some (option_flatten (slice_get t k)) ≡ p k) → (ns : List (ℕ × List ℕ)) → named_copies t ns ≡ map (place_under t) (filter p (keys_of ns))
copies_named t p w [] = refl
copies_named t p w (e ∷ ns) = one (option_flatten (slice_get t e.0)) (p e.0) refl (w e.0) (copies_named t p w ns)
  where
    one : (o : Option ℕ) (b : Bool) → option_flatten (slice_get t e.0) ≡ o → is_some (option_flatten (slice_get t e.0)) ≡ b → named_copies t ns ≡ map (place_under t) (filter p (keys_of ns)) → option_to_list (option_flatten (slice_get t e.0)) ++ named_copies t ns ≡ map (place_under t) (cond b (e.0 ∷ filter p (keys_of ns)) (filter p (keys_of ns)))
    one None b at s i =
        let fs = filter p (keys_of ns) in
        ap (λ o. option_to_list o ++ named_copies t ns) at ∙ i ∙ ap (λ c. map (place_under t) (cond c (e.0 ∷ fs) fs)) (sym (ap is_some at) ∙ s)
    one (Some h) b at s i =
        let fs = filter p (keys_of ns) in
        ap (λ o. option_to_list o ++ named_copies t ns) at ∙ ap (λ xs. h ∷ xs) i ∙ ap (λ x. x ∷ map (place_under t) fs) (sym (ap (λ o. unwrap_or o e.0) at)) ∙ ap (λ c. map (place_under t) (cond c (e.0 ∷ fs) fs)) (sym (ap is_some at) ∙ s)

abbrev IsIn : List (ℕ × List ℕ) → ℕ → List ℕ → Type 0
IsIn es h n = (j : ℕ) × (slice_get es j ≡ Some (h, n))

put_more : (k : ℕ) (n : List ℕ) (e : ℕ × List ℕ) (done : List (ℕ × List ℕ)) (b : Bool) → nat_eq k e.0 ≡ b → (i h : ℕ) (m : List ℕ) → ((j : ℕ) → slice_get (insert_entry nat_eq done k n) j ≡ Some (h, m) → IsIn done h m ⊎ ((k ≡ h) × (n ≡ m))) → slice_get (cond b ((e.0, n) ∷ done) (e ∷ insert_entry nat_eq done k n)) i ≡ Some (h, m) → IsIn (e ∷ done) h m ⊎ ((k ≡ h) × (n ≡ m))
put_more k n e done true t zero h m f at = let q = same_Some (e.0, n) (h, m) at in inr (eqb_eq k e.0 t ∙ ap (λ (x : ℕ × List ℕ). x.0) q, ap (λ (x : ℕ × List ℕ). x.1) q)
put_more k n e done true t (suc i) h m f at = inl (suc i, at)
put_more k n e done false t zero h m f at = inl (zero, at)
put_more k n e done false t (suc i) h m f at = ⊎_elim (λ (w : IsIn done h m). inl (suc w.0, w.1)) (λ w. inr w) (f i at)

put_entry : (k : ℕ) (n : List ℕ) (done : List (ℕ × List ℕ)) (i h : ℕ) (m : List ℕ) → slice_get (insert_entry nat_eq done k n) i ≡ Some (h, m) → IsIn done h m ⊎ ((k ≡ h) × (n ≡ m))
put_entry k n [] zero h m at = let q = same_Some (k, n) (h, m) at in inr (ap (λ (x : ℕ × List ℕ). x.0) q, ap (λ (x : ℕ × List ℕ). x.1) q)
put_entry k n [] (suc i) h m at = absurd (none-some (h, m) at)
put_entry k n (e ∷ done) i h m at = put_more k n e done (nat_eq k e.0) refl i h m (λ j q. put_entry k n done j h m q) at

-- a name of a copy is one of what it copies
abbrev IsNameOf : Table → List (ℕ × List ℕ) → ℕ → List ℕ → Type 0
IsNameOf t ns h m = (j : ℕ) × (k : ℕ) × (slice_get ns j ≡ Some (k, m)) × (option_flatten (slice_get t k) ≡ Some h)

name_of_one : (t : Table) (e : ℕ × List ℕ) (ns done : List (ℕ × List ℕ)) (h : ℕ) (m : List ℕ) (o : Option ℕ) → option_flatten (slice_get t e.0) ≡ o → IsIn (name_put o e.1 done) h m → IsIn done h m ⊎ IsNameOf t (e ∷ ns) h m
name_of_one t e ns done h m None at w = inl w
name_of_one t e ns done h m (Some k) at w =
    ⊎_elim (λ q. inl q) (λ (q : (k ≡ h) × (e.1 ≡ m)). inr (zero, e.0, ap (λ (x : List ℕ). Some (e.0, x)) q.1, at ∙ ap Some q.0)) (put_entry k e.1 done w.0 h m w.1)

name_from : (t : Table) (ns done : List (ℕ × List ℕ)) (i h : ℕ) (m : List ℕ) → slice_get (names_under t done ns) i ≡ Some (h, m) → IsIn done h m ⊎ IsNameOf t ns h m
name_from t [] done i h m at = inl (i, at)
name_from t (e ∷ ns) done i h m at =
    let o = option_flatten (slice_get t e.0) in
    ⊎_elim (λ w. name_of_one t e ns done h m o refl w) (λ (w : IsNameOf t ns h m). inr (suc w.0, w.1, w.2, w.3)) (name_from t ns (name_put o e.1 done) i h m at)

filter_all : (p : ℕ → Bool) (xs : List ℕ) → ((x : ℕ) → has xs x ≡ true → p x ≡ true) → filter p xs ≡ xs
filter_all p [] w = refl
filter_all p (x ∷ xs) w = rw (w x (or_left (x == x) (has xs x) (eq_eqb x x refl))) (ap (λ ys. x ∷ ys) (filter_all p xs (λ y h. w y (or_right (x == y) (has xs y) h))))

name_comes : (r : Renames) (f g : FunctionValue) → MayBeCopied f → (c : Copies r f g) → (h : ℕ) (n : List ℕ) → IsNameOf c.table f.named_expressions h n → NameComes (goes_by r f g c) f h n
name_comes r f g may c h n x = record {
  place = x.1;
  reached = sym (order_reached f may x.1) ∙ sym (c.expressions.went x.1) ∙ ap is_some x.3;
  named = (x.0, x.2);
  goes = ap (λ o. unwrap_or o x.1) x.3;
}

names_kept : (r : Renames) (f g : FunctionValue) → MayBeCopied f → (c : Copies r f g) → KeepNames (goes_by r f g c) f g
names_kept r f g may c =
    let t = c.table in
    let p = place_under t in
    let fs = filter (λ k. has (reached_in f) k) (keys_of f.named_expressions) in
    let went = λ (k : ℕ). c.expressions.went k ∙ order_reached f may k in
    let keys : keys_of g.named_expressions ≡ added [] (map p fs) = ap keys_of c.named_expressions ∙ first_place t f.named_expressions [] ∙ ap (added []) (copies_named t (λ k. has (reached_in f) k) went f.named_expressions) in
    let all = λ (x : ℕ) (w : has (added [] (map p fs)) x ≡ true). (
    let k = mapped p fs x (sym (has-added [] (map p fs) x) ∙ w) in
    let q = filter-has (λ k. has (reached_in f) k) (keys_of f.named_expressions) k.0 k.1 in
    ap (has (reached_in g)) (sym k.2) ∙ reached_on (goes_by r f g c) f g may.form.earlier (earlier_copy r f g may c) (image_of_copy r f g may c) k.0 q.1) in
    record {
      order = ap (λ ks. added [] (filter (λ k. has (reached_in g) k) ks)) keys ∙ ap (added []) (filter_all (λ k. has (reached_in g) k) (added [] (map p fs)) all) ∙ added-twice (map p fs) ∙ sym (added-map p fs);
      each = λ h n w i. ⊎_elim (λ (x : IsIn [] h n). absurd (none-some (h, n) x.1)) (λ (x : IsNameOf t f.named_expressions h n). name_comes r f g may c h n x) (name_from t f.named_expressions [] i.0 h n (ap (λ es. slice_get es i.0) (sym c.named_expressions) ∙ i.1));
    }

-- ---- nothing else

nothing_else : (r : Renames) (f g : FunctionValue) → MayBeCopied f → Copies r f g → HasNothingElse g
nothing_else r f g may c =
    let p = place_under c.table in
    let o = order_of f in
    let reached = λ (k h : ℕ) (w : IsReached f k) (e : p k ≡ h). subst (IsReached g) e (reached_on (goes_by r f g c) f g may.form.earlier (earlier_copy r f g may c) (image_of_copy r f g may c) k w) in
    record {
      expressions = λ h l.
          let k = first_at p o h (has_copy r f.expressions (begun f) o c.table g.expressions h c.expressions l) in
          reached k.1 h (sym (order_reached f may k.1) ∙ has_at o k.0 k.1 k.2) k.3;
      names = λ i e at.
          ⊎_elim
          (λ (x : IsIn [] e.0 e.1). absurd (none-some (e.0, e.1) x.1))
          (λ (x : IsNameOf c.table f.named_expressions e.0 e.1). let n = name_comes r f g may c e.0 e.1 x in reached n.place e.0 n.reached n.goes)
          (name_from c.table f.named_expressions [] i e.0 e.1 (ap (λ es. slice_get es i) (sym c.named_expressions) ∙ at));
      leaf = c.leaf;
    }

-- ---- what is named

kind_went : (f : ℕ → ItemPlace) (o : Option ℕ) (k : ℕ) (q : ItemPlace) → option_map f o ≡ Some q → f (unwrap_or o k) ≡ q
kind_went f None k q e = absurd (none-some q e)
kind_went f (Some h) k q e = same_Some (f h) q e

-- a mapped place is renamed to what it maps to
pub went_there : (s : Source) (ns : Meanings) (p q : ItemPlace) → goes s.places p ≡ Some q → rename_place (going s ns) p ≡ q
unfolding goes
went_there s ns (TypeItem k) q e = kind_went TypeItem (option_flatten (slice_get s.places.types k)) k q e
went_there s ns (ConstantItem k) q e = kind_went ConstantItem (option_flatten (slice_get s.places.constants k)) k q e
went_there s ns (OverrideItem k) q e = kind_went OverrideItem (option_flatten (slice_get s.places.overrides k)) k q e
went_there s ns (GlobalItem k) q e = kind_went GlobalItem (option_flatten (slice_get s.places.global_variables k)) k q e
went_there s ns (ExpressionItem k) q e = kind_went ExpressionItem (option_flatten (slice_get s.places.global_expressions k)) k q e

-- what a place maps to at one time reads alike later
item_alike : (first : Kept) (d : Derived) (s b : Source) (ns : Meanings) (p : ItemPlace) → IsDerivation first d → d.source ≡ Some s → IsLaterSource b s → IsAtHand b ns (Item p) → ReadAlike (scope_from s d.target) (scope_of d.target) p (rename_place (going b ns) p)
item_alike first d s b ns p i at l w =
    subst (λ q. ReadAlike (scope_from s d.target) (scope_of d.target) p q) (sym (went_there b ns p w.0 w.1)) (placed_law first d s p w.0 i at (l.went p w.0 w.1)).now

pub called_name : (ns : Meanings) (o : Option (FunctionValue × Span)) (h : ℕ) → meant_at ns o ≡ Some h → meant ns (option_flatten (option_map (λ (f : FunctionValue × Span). f.0.name) o)) ≡ Some h
called_name ns None h e = absurd (none-some h e)
called_name ns (Some f) h e = e

call_alike : (t : ModuleValue) (s b : Source) (ns : Meanings) (k : ℕ) → IsLaterSource b s → AreTrueIn t ns → IsAtHand b ns (Call k) → CalledAlike (λ n. n) (scope_from s t) (scope_of t) k ((going b ns).function k)
call_alike t s b ns k l true_names w =
    ap (λ o. name_of_function t (unwrap_or o k)) w.1 ∙ true_names (name_of_function b.value k) w.0 (called_name ns (slice_get b.value.functions k) w.0 w.1) ∙ ap (λ v. name_of_function v k) (sym l.value)

named_alike : (first : Kept) (d : Derived) (s b : Source) (ns : Meanings) (u : Table) (v : ℕ × ℕ → ℕ × ℕ) (n : Named) → IsDerivation first d → d.source ≡ Some s → IsLaterSource b s → AreTrueIn d.target ns → All (IsAtHand b ns) (asked n) → NamesAlike (λ t. t) (scope_from s d.target) (scope_of d.target) (under_table (going b ns) u v) n
named_alike first d s b ns u v Nothing i at l t w = (tt, tt)
named_alike first d s b ns u v (TypeOf h) i at l t w = (item_alike first d s b ns (TypeItem h) i at l (All-head (IsAtHand b ns) (Item (TypeItem h)) [] w), tt)
named_alike first d s b ns u v (ConstantAt h) i at l t w = (item_alike first d s b ns (ConstantItem h) i at l (All-head (IsAtHand b ns) (Item (ConstantItem h)) [] w), tt)
named_alike first d s b ns u v (OverrideAt h) i at l t w = (item_alike first d s b ns (OverrideItem h) i at l (All-head (IsAtHand b ns) (Item (OverrideItem h)) [] w), tt)
named_alike first d s b ns u v (GlobalAt h) i at l t w = (item_alike first d s b ns (GlobalItem h) i at l (All-head (IsAtHand b ns) (Item (GlobalItem h)) [] w), tt)
named_alike first d s b ns u v (LocalAt h) i at l t w = (tt, tt)
named_alike first d s b ns u v (ArgumentAt h) i at l t w = (tt, tt)
named_alike first d s b ns u v (FunctionAt h) i at l t w = (tt, call_alike d.target s b ns h l t (All-head (IsAtHand b ns) (Call h) [] w))

callee_alike : (m : ModuleValue) (s b : Source) (ns : Meanings) (t : Token) → IsLaterSource b s → AreTrueIn m ns → IfSome (callee_in t) (λ h. IsAtHand b ns (Call h)) → IfSome (callee_in t) (λ h. CalledAlike (λ n. n) (scope_from s m) (scope_of m) h ((going b ns).function h))
callee_alike m s b ns (Callee f) l t w = call_alike m s b ns f l t w
callee_alike m s b ns (GiveCall f h) l t w = call_alike m s b ns f l t w
callee_alike m s b ns _ l t w = tt

-- ---- the law

made_by : (first : Kept) (d : Derived) (s : Source) (f g : FunctionValue) → IsDerivation first d → d.source ≡ Some s → MayBeCopied f → (w : IsMade s d.target f g) → CopiesByTree (shifted w.before.offset) (λ n. n) (scope_from s d.target) f (scope_of d.target) g
made_by first d s f g i at may w =
    let r = going w.before w.names in
    let c = w.copies in
    let m = image_of_copy r f g may c in
    record {
      goes = goes_by r f g c;
      name = c.name;
      arguments = c.arguments;
      outcome = c.outcome;
      locals = c.locals;
      body = c.body;
      spans = λ x. refl;
      expressions = record {
        copies = m.copies;
        spans = λ k q. span_at_copy r f g may c k q;
        onto = λ h q. reached_back (goes_by r f g c) f g may.form.earlier m h q;
        shared = λ j k x y e. c.expressions.shared j k (ordered f may j x) (ordered f may k y) e;
      };
      emits = m.emits;
      names = names_kept r f g may c;
      alike = record {
        types = λ k h. item_alike first d s w.before w.names (TypeItem k) i at w.later (w.at_hand.types k h);
        expressions = λ k e x q. named_alike first d s w.before w.names c.table c.range e.0.named i at w.later w.are_true (w.at_hand.expressions k e x q);
        callees = λ j t q. callee_alike d.target s w.before w.names t w.later w.are_true (w.at_hand.callees j t q);
      };
      nothing_else = nothing_else r f g may c;
    }

pub made : MadeLaw
made first d s f g i at may w =
    (subst (λ o. CopiesByTree (shifted o) (λ n. n) (scope_from s d.target) f (scope_of d.target) g) (sym w.later.offset) (made_by first d s f g i at may w), earlier_copy (going w.before w.names) f g may w.copies)
