-- Copies of the places of an order, one after another.
use Rattle.std.proofs.Common.{◌≡◌, inl, inr, ℕ, zero, suc, ◌+◌, ◌-◌, ◌<◌, ◌≤◌, Bool, true, false, List, [], ◌∷◌, ◌++◌, length, map, take, get_or, slice_get, slice_set, option_to_list, Some, refl, ap, sym, ◌∙◌, subst, arith}
use Rattle.std.specs.List.{flat_map}
use Rattle.std.proofs.lemmas.Bool.{false≢true, true≢false}
use Rattle.std.proofs.lemmas.List.{append-nil, append_assoc, map-append, length_push, take_more, take-take}
use Rattle.std.proofs.lemmas.Option.{slice_get-get_or, none-some}
use Rattle.naga_oil_ir.specs.Parts.{Parts, parts}
use Rattle.naga_oil_form.specs.Links.{Links, has}
use Rattle.naga_oil_form.specs.BodyForm.{run, operand_links}
use Rattle.naga_oil_ir.specs.ModuleValue.{expression_values}
use Rattle.naga_oil_ir.specs.declared.expression.Expression.{Expression}
use Rattle.naga_oil_ir.specs.declared.span.Span.{Span}
use Rattle.naga_oil_rename.specs.Renames.{Renames}
use Rattle.naga_oil_walk.specs.Walk.{IsReachOrder, Holds}
use Rattle.naga_oil_derive.specs.Copies.{Values, Table, place_under, copied, AreCopies, IsPut, IsStep, AreApart, Placed, value_links}
use Rattle.naga_oil_walk.proofs.WalkLemmas.{closed, has_take, run-last}
use Rattle.naga_oil_derive.proofs.CopySteps.{Meets, merge_one, append_one, apart_one, under_same, map_other}

-- ---- an order's beginning

get-take : (i : ℕ) (o : List ℕ) (m k : ℕ) → slice_get (take i o) m ≡ Some k → (m < i) × (slice_get o m ≡ Some k)
get-take zero o m k e = absurd (none-some k e)
get-take (suc i) [] m k e = absurd (none-some k e)
get-take (suc i) (x ∷ o) zero k e = (omega arith, e)
get-take (suc i) (x ∷ o) (suc m) k e = let r = get-take i o m k e in let l = r.0 in (omega arith, r.1)

pub IsReachOrder-take : (ls : Links) (o : List ℕ) (i : ℕ) → IsReachOrder ls o → IsReachOrder ls (take i o)
IsReachOrder-take ls o i r = record {
  once = λ m k e. let g = get-take i o m k e in let l = g.0 in ap (λ xs. has xs k) (take-take m i o (omega arith)) ∙ r.once m k g.1;
  after = λ m k x e h. let g = get-take i o m k e in let l = g.0 in ap (λ xs. has xs x) (take-take m i o (omega arith)) ∙ r.after m k x g.1 h;
}

pub links_of_values : (es : List (Expression × Span)) → value_links (expression_values es) ≡ operand_links es
links_of_values [] = refl
links_of_values (e ∷ es) = ap (λ (ls : Links). flat_map option_to_list (parts e.0).operands ∷ ls) (links_of_values es)

pub there : (es : Values) (k : ℕ) → k < length es → (a : Parts × Span) × (slice_get es k ≡ Some a)
there [] k h = absurd (omega arith)
there (e ∷ es) zero h = (e, refl)
there (e ∷ es) (suc k) h = there es k (omega arith)

meets : (r : Renames) (es : Values) (o : List ℕ) (i : ℕ) (s : List ℕ) (t : Table) (v : Values) (a : Parts × Span) → IsReachOrder (value_links es) o → i < length o → AreCopies r es s (take i o) t v → get_or o i 0 < length t → slice_get es (get_or o i 0) ≡ Some a → Meets r es s (take i o) t v (get_or o i 0) a
meets r es o i s t v a ready l c room at =
    let g : slice_get o i ≡ Some (get_or o i 0) = slice_get-get_or o i 0 l in
    record {
      copies = c;
      fresh = ready.once i (get_or o i 0) g;
      closed_links = λ j h. closed (value_links es) (take i o) (IsReachOrder-take (value_links es) o i ready) j h;
      after_links = λ x h. ready.after i (get_or o i 0) x g h;
      room = room;
      at_place = at;
    }

-- ---- what initialisers reach

pub record Merged (r : Renames) (es : Values) (o : List ℕ) (t : Table) (v : Values) : Type 0 where
  pub copies : AreCopies r es o o t v
  pub apart : AreApart v

pub merge_step : (r : Renames) (es : Values) (o : List ℕ) (i : ℕ) (t u : Table) (v w : Values) → IsReachOrder (value_links es) o → i < length o → get_or o i 0 < length es → length t ≡ length es → AreCopies r es (take i o) (take i o) t v → AreApart v → IsStep r es true (get_or o i 0) t v u w → Merged r es (take (i + 1) o) u w
merge_step r es o i t u v w ready l within room c a step =
    let k = get_or o i 0 in
    let at = there es k within in
    let lt : k < length t = omega arith in
    let m = meets r es o i (take i o) t v at.0 ready l c lt at.1 in
    let f = step at.0 at.1 in
    let q = merge_one r es (take i o) t v k at.0 f.0 w m a f.2 in
    record {
      copies = subst (λ xs. AreCopies r es xs xs u w) (sym (take_more o i 0 l)) (subst (λ (x : Table). AreCopies r es (take i o ++ k ∷ []) (take i o ++ k ∷ []) x w) (sym f.1) q);
      apart = apart_one v (copied r t at.0.0, r.span at.0.1) f.0 w a f.2;
    }

-- ---- the rest

pub record Appended (r : Renames) (es : Values) (s o : List ℕ) (t0 : Table) (m n : ℕ) (t : Table) (v : Values) : Type 0 where
  pub copies : AreCopies r es s o t v
  pub follow : map (place_under t) o ≡ map (place_under t0) s ++ run m n
  pub count : length v ≡ m + n

plus_next : (m a b : ℕ) → b ≡ suc a → m + a + 1 ≡ m + b
plus_next m a b e = omega arith

last_put : (v : Values) (c : Parts × Span) (h : ℕ) (w : Values) → IsPut false v c h w → (h ≡ length v) × (length w ≡ length v + 1)
last_put v c h w (inl (u, f, e)) = absurd (false≢true u)
last_put v c h w (inr (u, e, f)) = (e, ap length f ∙ length_push v c)

pub append_step : (r : Renames) (es : Values) (o : List ℕ) (b i : ℕ) (t0 t u : Table) (v w : Values) (m : ℕ) → IsReachOrder (value_links es) o → b ≤ i → i < length o → get_or o i 0 < length es → length t ≡ length es → AreCopies r es (take b o) (take i o) t v → map (place_under t) (take i o) ≡ map (place_under t0) (take b o) ++ run m (i - b) → length v ≡ m + (i - b) → IsStep r es false (get_or o i 0) t v u w → Appended r es (take b o) (take (i + 1) o) t0 m (i + 1 - b) u w
append_step r es o b i t0 t u v w m ready le l within room c follow count step =
    let k = get_or o i 0 in
    let at = there es k within in
    let lt : k < length t = omega arith in
    let q = meets r es o i (take b o) t v at.0 ready l c lt at.1 in
    let f = step at.0 at.1 in
    let h = f.0 in
    let held : Holds (take i o) (take b o) = λ x y. has_take b (take i o) x (ap (λ xs. has xs x) (take-take b i o le) ∙ y) in
    let last = last_put v (copied r t at.0.0, r.span at.0.1) h w f.2 in
    let new = append_one r es (take b o) (take i o) t v k at.0 h w q held f.2 in
    let more = take_more o i 0 l in
    let hm : m + (i - b) ≡ h = sym (last.0 ∙ count) in
    let n : i + 1 - b ≡ suc (i - b) = omega arith in
    record {
      copies = subst (λ xs. AreCopies r es (take b o) xs u w) (sym more) (subst (λ (x : Table). AreCopies r es (take b o) (take i o ++ k ∷ []) x w) (sym f.1) new);
      follow = ap (map (place_under u)) more ∙ ap (λ (x : Table). map (place_under x) (take i o ++ k ∷ [])) f.1 ∙ map-append (place_under (slice_set t k (Some h))) (take i o) (k ∷ []) ∙ ap (λ xs. xs ++ place_under (slice_set t k (Some h)) k ∷ []) (map_other t k h (take i o) q.fresh ∙ follow) ∙ ap (λ x. (map (place_under t0) (take b o) ++ run m (i - b)) ++ x ∷ []) (under_same t k h lt) ∙ append_assoc (map (place_under t0) (take b o)) (run m (i - b)) (h ∷ []) ∙ ap (λ xs. map (place_under t0) (take b o) ++ xs) (sym (ap (run m) n ∙ run-last m (i - b) h hm));
      count = last.1 ∙ ap (λ x. x + 1) count ∙ plus_next m (i - b) (i + 1 - b) n;
    }

-- ---- both

start_follow : (t : Table) (o : List ℕ) (b m : ℕ) → map (place_under t) (take b o) ≡ map (place_under t) (take b o) ++ run m (b - b)
start_follow t o b m = let e : b - b ≡ 0 = omega arith in sym (ap (λ n. map (place_under t) (take b o) ++ run m n) e ∙ append-nil (map (place_under t) (take b o)))

pub placed_start : (r : Renames) (es : Values) (o : List ℕ) (b : ℕ) (u : Bool) (t : Table) (v : Values) → AreCopies r es (take b o) (take b o) t v → AreApart v → Placed r es o b b u t (length v) t v
placed_start r es o b true t v c a = record { copies = c; apart = λ e. a; follow = λ e. absurd (true≢false e); count = λ e. absurd (true≢false e) }
placed_start r es o b false t v c a = record { copies = c; apart = λ e. a; follow = λ e. start_follow t o b (length v); count = λ e. omega arith }

pub place_step : (r : Renames) (es : Values) (o : List ℕ) (b i : ℕ) (u : Bool) (t0 : Table) (m : ℕ) (t x : Table) (v w : Values) → IsReachOrder (value_links es) o → b ≤ i → i < length o → get_or o i 0 < length es → length t ≡ length es → Placed r es o b i u t0 m t v → IsStep r es u (get_or o i 0) t v x w → Placed r es o b (i + 1) u t0 m x w
place_step r es o b i true t0 m t x v w ready le l within room p step =
    let q = merge_step r es o i t x v w ready l within room p.copies (p.apart refl) step in
    record { copies = q.copies; apart = λ e. q.apart; follow = λ e. absurd (true≢false e); count = λ e. absurd (true≢false e) }
place_step r es o b i false t0 m t x v w ready le l within room p step =
    let q = append_step r es o b i t0 t x v w m ready le l within room p.copies (p.follow refl) (p.count refl) step in
    record { copies = q.copies; apart = λ e. absurd (false≢true e); follow = λ e. q.follow; count = λ e. q.count }

-- ---- the order of a walk

-- the first i places of an order are copied, the first b of them with unique copies, each other one with a copy of its own
pub record PlacedSoFar (r : Renames) (es : Values) (o : List ℕ) (b i : ℕ) (t : Table) (v : Values) : Type 0 where
  pub merged : i ≤ b → Placed r es o 0 i true [] 0 t v
  pub single : b ≤ i → (t0 : Table) × (m : ℕ) × Placed r es o b i false t0 m t v

turned : (r : Renames) (es : Values) (o : List ℕ) (b i : ℕ) (t : Table) (v : Values) → i ≡ b → Placed r es o 0 i true [] 0 t v → (t0 : Table) × (m : ℕ) × Placed r es o b i false t0 m t v
turned r es o b i t v e p =
    let q : Placed r es o 0 b true [] 0 t v = subst (λ n. Placed r es o 0 n true [] 0 t v) e p in
    (t, length v, subst (λ n. Placed r es o b n false t (length v) t v) (sym e) (placed_start r es o b false t v q.copies (q.apart refl)))

pub so_far_start : (r : Renames) (es : Values) (o : List ℕ) (b : ℕ) (t : Table) (v : Values) → AreCopies r es [] [] t v → AreApart v → PlacedSoFar r es o b 0 t v
so_far_start r es o b t v c a =
    let p : Placed r es o 0 0 true [] 0 t v = record { copies = c; apart = λ e. a; follow = λ e. absurd (true≢false e); count = λ e. absurd (true≢false e) } in
    record { merged = λ h. p; single = λ h. turned r es o b 0 t v (omega (arith, h)) p }

pub so_far_step : (r : Renames) (es : Values) (o : List ℕ) (b i : ℕ) (u : Bool) (t x : Table) (v w : Values) → IsReachOrder (value_links es) o → i < length o → get_or o i 0 < length es → length t ≡ length es → (u ≡ true → i < b) → (u ≡ false → b ≤ i) → PlacedSoFar r es o b i t v → IsStep r es u (get_or o i 0) t v x w → PlacedSoFar r es o b (i + 1) x w
so_far_step r es o b i true t x v w ready l within room early late p step =
    let less = early refl in
    let q = place_step r es o 0 i true [] 0 t x v w ready (omega arith) l within room (p.merged (omega (arith, less))) step in
    record { merged = λ h. q; single = λ h. turned r es o b (i + 1) x w (omega (arith, h, less)) q }
so_far_step r es o b i false t x v w ready l within room early late p step =
    let more = late refl in
    let q = p.single more in
    record { merged = λ h. absurd (omega (arith, h, more)); single = λ h. (q.0, q.1, place_step r es o b i false q.0 q.1 t x v w ready more l within room q.2 step) }
