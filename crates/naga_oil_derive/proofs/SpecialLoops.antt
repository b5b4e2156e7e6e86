-- The loops over special types.
use Rattle.std.proofs.Common.{◌≡◌, ◌↔◌, IsTrue, Bool, true, false, not, ◌||◌, nat_eq, ℕ, zero, suc, ◌<◌, ◌+◌, List, [], ◌++◌, length, take, get_or, slice_set, Option, Some, None, refl, ap, sym, ◌∙◌, subst, arith, All, is_some, if◌then◌else◌}
use Rattle.std.proofs.lemmas.List.{length-map, length-append, get_or-map, append-nil}
use Rattle.std.proofs.lemmas.List.Elements.{All-get_or}
use Rattle.std.proofs.lemmas.Bool.{false≢true}
use Rattle.indexmap.specs.IndexMap.{insert_entry}
use Rattle.naga_oil_ir.specs.ModuleValue.{SpecialValue}
use Rattle.naga_oil_ir.specs.declared.names.ItemPlace.TheVariants.{TypeItem}
use Rattle.naga_oil_derive.specs.declared.special.SpecialKey.{SpecialKey}
use Rattle.naga_oil_derive.specs.declared.special.SpecialKey.TheVariants.{RayDesc, RayIntersection, RayVertexReturn, Predeclared}
use Rattle.naga_oil_derive.specs.World.{special_entry, special_entries, special_at, with_special, with_specials}
use Rattle.naga_oil_derive.specs.Copying.{put_kept, kept_over, special_names}
use Rattle.naga_oil_derive.proofs.SpecialLemmas.{Entry, coded, insert_absent, more, kept_over_more, with_specials_more}

-- ---- the entries one after another

pub entries_last : (es : List Entry) (left : List (ℕ × ℕ)) (all : List Entry) → es ++ coded left ≡ all → left ≡ [] → es ≡ all
entries_last es left all e f = sym (append-nil es) ∙ ap (λ (v : List (ℕ × ℕ)). es ++ coded v) (sym f) ∙ e

-- ---- the entries as names

pub names_length : (es : List Entry) → length (special_names es) ≡ length es
names_length es = length-map es (λ (e : Entry). Some (TypeItem e.1))

pub name_get : (es : List Entry) (i : ℕ) (e : Entry) → i < length es → e ≡ get_or es i e → Some (TypeItem e.1) ≡ get_or (special_names es) i (Some (TypeItem e.1))
name_get es i e l h = ap (λ (x : Entry). Some (TypeItem x.1)) h ∙ sym (get_or-map (λ (x : Entry). Some (TypeItem x.1)) es i e (Some (TypeItem e.1)) l)

-- ---- whether there are entries

entry_length : (key : SpecialKey) (o : Option ℕ) (b : Bool) → is_some o ≡ b → length (special_entry key o) ≡ (if b then 1 else 0)
entry_length key None true e = absurd (false≢true e)
entry_length key None false e = refl
entry_length key (Some h) true e = refl
entry_length key (Some h) false e = absurd (false≢true (sym e))

-- the number of entries
pub entries_length : (s : SpecialValue) (a b c : Bool) → is_some s.ray_desc ≡ a → is_some s.ray_intersection ≡ b → is_some s.ray_vertex_return ≡ c → length (special_entries s) ≡ (if a then 1 else 0) + (if b then 1 else 0) + (if c then 1 else 0) + length s.predeclared_types
entries_length s a b c ea eb ec =
    let x = special_entry RayDesc s.ray_desc in
    let y = special_entry RayIntersection s.ray_intersection in
    let z = special_entry RayVertexReturn s.ray_vertex_return in
    let lx = entry_length RayDesc s.ray_desc a ea in
    let ly = entry_length RayIntersection s.ray_intersection b eb in
    let lz = entry_length RayVertexReturn s.ray_vertex_return c ec in
    let all = length-append (x ++ y ++ z) (coded s.predeclared_types) in
    let three = length-append (x ++ y) z in
    let two = length-append x y in
    let last = length-map {B = Entry} s.predeclared_types (λ (e : ℕ × ℕ). (Predeclared e.0, e.1)) in
    all ∙ ap (λ n. n + length (coded s.predeclared_types)) (three ∙ ap (λ n. n + length z) (two ∙ ap (λ n. n + length y) lx ∙ ap (λ n. (if a then 1 else 0) + n) ly) ∙ ap (λ n. (if a then 1 else 0) + (if b then 1 else 0) + n) lz) ∙ ap (λ n. (if a then 1 else 0) + (if b then 1 else 0) + (if c then 1 else 0) + n) last

-- whether there is one, by what is there
pub any_entry : (e : Bool) (n : ℕ) (a b c : Bool) (k : ℕ) → k ≡ (if a then 1 else 0) + (if b then 1 else 0) + (if c then 1 else 0) + n → (IsTrue e ↔ (n ≡ 0)) → IsTrue (((not e || a) || b) || c) ↔ (0 < k)
any_entry false zero a b c k h he = (λ t. absurd (false≢true (he.1 refl)), λ t. absurd (false≢true (he.1 refl)))
any_entry false (suc n) a b c k h he = (λ t. omega arith, λ t. refl)
any_entry true n true b c k h he = (λ t. omega arith, λ t. refl)
any_entry true n false true c k h he = (λ t. omega arith, λ t. refl)
any_entry true n false false true k h he = (λ t. omega arith, λ t. refl)
any_entry true n false false false k h he = (λ t. absurd (false≢true t), λ t. absurd (let z : n ≡ 0 = he.0 refl in omega (arith, z)))

-- an entry of a list of which something holds
pub entry_at : (P : Entry → Type 0) (es : List Entry) (i : ℕ) (e : Entry) → i < length es → e ≡ get_or es i e → All P es → P e
entry_at P es i e l h a = subst P (sym h) (All-get_or P es i e l a)

-- a code that is set
pub set_coded : (s : SpecialValue) (es : List (ℕ × ℕ)) (key : SpecialKey) (code h : ℕ) → key ≡ Predeclared code → special_at s key ≡ None → es ≡ insert_entry nat_eq s.predeclared_types code h → ◌≡◌ {A = SpecialValue} (record s { predeclared_types = es }) (with_special s key h)
set_coded s es key code h is none e =
    subst (λ k. ◌≡◌ {A = SpecialValue} (record s { predeclared_types = es }) (with_special s k h)) (sym is) (ap (λ (xs : List (ℕ × ℕ)). record s { predeclared_types = xs }) (e ∙ insert_absent nat_eq s.predeclared_types code h (subst (λ k. special_at s k ≡ None) is none)))

-- ---- one entry more

no_place : (o : Option ℕ) → ((q : ℕ) → o ≡ Some q → ⊥) → o ≡ None
no_place None n = refl
no_place (Some q) n = absurd (n q refl)

pub keep_some : (f : SpecialKey → Option ℕ) (es : List Entry) (k : ℕ) (x : Entry) (ts now next : List (Option ℕ)) (q i : ℕ) → k < length es → x ≡ get_or es k x → now ≡ kept_over f (take k es) ts → f x.0 ≡ Some q → i ≡ x.1 → next ≡ slice_set now i (Some q) → next ≡ kept_over f (take (k + 1) es) ts
keep_some f es k x ts now next q i l h inv is at e =
    e ∙ ap (λ j. slice_set now j (Some q)) at ∙ ap (put_kept now x.1) (sym is) ∙ ap (λ (v : List (Option ℕ)). put_kept v x.1 (f x.0)) inv ∙ sym (kept_over_more f es k x ts l h)

pub keep_none : (f : SpecialKey → Option ℕ) (es : List Entry) (k : ℕ) (x : Entry) (ts now next : List (Option ℕ)) → k < length es → x ≡ get_or es k x → now ≡ kept_over f (take k es) ts → ((q : ℕ) → f x.0 ≡ Some q → ⊥) → next ≡ now → next ≡ kept_over f (take (k + 1) es) ts
keep_none f es k x ts now next l h inv none e =
    e ∙ ap (put_kept now x.1) (sym (no_place (f x.0) none)) ∙ ap (λ (v : List (Option ℕ)). put_kept v x.1 (f x.0)) inv ∙ sym (kept_over_more f es k x ts l h)

-- whether a key has none
lacks : (o a : Option ℕ) (b : Bool) → a ≡ o → is_some a ≡ not b → (c : Bool) → b ≡ c → is_some o ≡ not c
lacks o a b e h c g = ap is_some (sym e) ∙ h ∙ ap not g

pub set_some : (s : SpecialValue) (f : ℕ → ℕ) (es : List Entry) (k : ℕ) (x : Entry) (now next : SpecialValue) (a : Option ℕ) (b : Bool) (h : ℕ) → k < length es → x ≡ get_or es k x → now ≡ with_specials s f (take k es) → a ≡ special_at now x.0 → is_some a ≡ not b → b ≡ true → h ≡ f x.1 → next ≡ with_special now x.0 h → next ≡ with_specials s f (take (k + 1) es)
set_some s f es k x now next a b h l is inv e n t at g =
    let z = lacks (special_at now x.0) a b e n true t in
    g ∙ ap (with_special now x.0) at ∙ sym (ap (λ (c : Bool). if c then now else with_special now x.0 (f x.1)) z) ∙ ap (λ (v : SpecialValue). more v f x) inv ∙ sym (with_specials_more f es k x s l is)

pub set_none : (s : SpecialValue) (f : ℕ → ℕ) (es : List Entry) (k : ℕ) (x : Entry) (now next : SpecialValue) (a : Option ℕ) (b : Bool) → k < length es → x ≡ get_or es k x → now ≡ with_specials s f (take k es) → a ≡ special_at now x.0 → is_some a ≡ not b → b ≡ false → next ≡ now → next ≡ with_specials s f (take (k + 1) es)
set_none s f es k x now next a b l is inv e n t g =
    let z = lacks (special_at now x.0) a b e n false t in
    g ∙ sym (ap (λ (c : Bool). if c then now else with_special now x.0 (f x.1)) z) ∙ ap (λ (v : SpecialValue). more v f x) inv ∙ sym (with_specials_more f es k x s l is)
