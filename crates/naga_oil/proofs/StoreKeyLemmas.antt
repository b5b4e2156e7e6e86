-- Keys of builds, and the builds kept under them.
use Rattle.std.proofs.Common.{◌≡◌, ℕ, List, [], ◌∷◌, ◌++◌, Bool, true, false, ◌||◌, cond, filter, refl, sym, ap, ◌∙◌, Option, Some, None, unwrap_or, Decides, append_assoc, append-nil}
use Rattle.std.proofs.lemmas.Bool.{and_parts, and_from, true≢false}
use Rattle.std.proofs.lemmas.Bool.Decides.{Decides-eqb, Decides-int_eq}
use Rattle.std.proofs.lemmas.List.Folds.{list_any-append}
use Rattle.std.proofs.lemmas.List.Sums.{fold-append}
use Rattle.std.proofs.lemmas.Map.Text.{is_eq-slice_cmp}
use Rattle.std.proofs.lemmas.Slice.Eq.{bytes_eq-Decides, slice_eq-Decides}
use Rattle.std.specs.BTreeMap.{is_at}
use Rattle.std.specs.Cmp.{IsEquivalence, decided, booleans_Decides}
use Rattle.std.specs.Cmp.Lexicographic.{pointwise, slice_cmp}
use Rattle.std.specs.List.{list_any}
use Rattle.std.specs.Map.{lookup}
use Rattle.std.specs.Option.{IsSomeAnd, option_or}
use Rattle.std.specs.Ordering.{nat_cmp}
use Rattle.std.specs.Str.{bytes_eq}
use Rattle.indexmap.specs.IndexMap.{insert_entry}
use Rattle.naga_oil_words.specs.Texts.{is_among}
use Rattle.naga_oil_conditions.specs.declared.shader_def.ShaderDefValue.{ShaderDefValue}
use Rattle.naga_oil_conditions.specs.declared.shader_def.ShaderDefValue.TheVariants as def
use Rattle.naga_oil_registry.specs.Registered.{Registered, Defs}
use Rattle.naga_oil_registry.proofs.RegistryLemmas.{bytes_same}
use Rattle.naga_oil_link.specs.BuiltModule.{BuiltModule, Builds}
use Rattle.naga_oil.specs.Reach.{defined}
use Rattle.naga_oil.specs.ReachLaw.{HaveOneProjection}
use Rattle.naga_oil.specs.Shader.{same_value}
use Rattle.naga_oil.specs.Store.{project, Key, key_named, same_def, same_key, Kept, KeepsAll, kept_under, is_kept, keep_build, keep_named, keep_builds}

-- ---- equal keys

value-Decides : (a b : ShaderDefValue) → Decides (same_value a b) (a ≡ b)
value-Decides (def.Bool a) (def.Bool b) = (λ h. ap def.Bool ((booleans_Decides a b).0 h), λ e. (booleans_Decides a b).1 cc)
value-Decides (def.Bool a) (def.Int b) = (λ h. absurd cc, λ e. absurd cc)
value-Decides (def.Bool a) (def.UInt b) = (λ h. absurd cc, λ e. absurd cc)
value-Decides (def.Int a) (def.Bool b) = (λ h. absurd cc, λ e. absurd cc)
value-Decides (def.Int a) (def.Int b) = (λ h. ap def.Int ((Decides-int_eq a b).0 h), λ e. (Decides-int_eq a b).1 cc)
value-Decides (def.Int a) (def.UInt b) = (λ h. absurd cc, λ e. absurd cc)
value-Decides (def.UInt a) (def.Bool b) = (λ h. absurd cc, λ e. absurd cc)
value-Decides (def.UInt a) (def.Int b) = (λ h. absurd cc, λ e. absurd cc)
value-Decides (def.UInt a) (def.UInt b) = (λ h. ap def.UInt ((Decides-eqb a b).0 h), λ e. (Decides-eqb a b).1 cc)

def-Decides : (d e : List ℕ × ShaderDefValue) → Decides (same_def d e) (d ≡ e)
def-Decides d e = (λ h. from (and_parts (bytes_eq d.0 e.0) (same_value d.1 e.1) h), λ q. and_from (bytes_eq d.0 e.0) (same_value d.1 e.1) ((bytes_eq-Decides d.0 e.0).1 (ap (λ x. x.0) q)) ((value-Decides d.1 e.1).1 (ap (λ x. x.1) q)))
  where
    from : (bytes_eq d.0 e.0 ≡ true) × (same_value d.1 e.1 ≡ true) → d ≡ e
    from k = λ i. (bytes_same d.0 e.0 k.0 i, (value-Decides d.1 e.1).0 k.1 i)

defs-Decides : (ds es : Defs) → Decides (pointwise same_def ds es) (ds ≡ es)
defs-Decides ds es = slice_eq-Decides {E = same_def} def-Decides ds es (pointwise same_def ds es) refl

pub key-Decides : (k l : Key) → Decides (same_key k l) (k ≡ l)
key-Decides k l = (λ h. from (and_parts (bytes_eq k.name l.name) (pointwise same_def k.defs l.defs) h), λ q. and_from (bytes_eq k.name l.name) (pointwise same_def k.defs l.defs) ((bytes_eq-Decides k.name l.name).1 (ap (λ (x : Key). x.name) q)) ((defs-Decides k.defs l.defs).1 (ap (λ (x : Key). x.defs) q)))
  where
    from : (bytes_eq k.name l.name ≡ true) × (pointwise same_def k.defs l.defs ≡ true) → k ≡ l
    from h = λ i. record { name = bytes_same k.name l.name h.0 i; defs = (defs-Decides k.defs l.defs).0 h.1 i }

pub key_equiv : IsEquivalence same_key
key_equiv = decided same_key key-Decides

-- ---- entries with a key

module _ {K X : Type 0} (eq : K → K → Bool) where
  -- an entry that is there stays
  entry_there : (es : List (K × X)) (k : K) (v : X) → list_any (λ e. eq k e.0) es ≡ true → insert_entry eq es k (unwrap_or (lookup (eq k) es) v) ≡ es
  entry_there [] k v h = absurd (true≢false (sym h))
  entry_there (e ∷ es) k v h = by (eq k e.0) h (entry_there es k v)
    where
      by : (q : Bool) → (q || list_any (λ e. eq k e.0) es) ≡ true → (list_any (λ e. eq k e.0) es ≡ true → insert_entry eq es k (unwrap_or (lookup (eq k) es) v) ≡ es) → cond q ((e.0, unwrap_or (cond q (Some e.1) (lookup (eq k) es)) v) ∷ es) (e ∷ insert_entry eq es k (unwrap_or (cond q (Some e.1) (lookup (eq k) es)) v)) ≡ e ∷ es
      by true h known = refl
      by false h known = ap (λ xs. e ∷ xs) (known h)

  -- another entry comes last
  entry_last : (es : List (K × X)) (k : K) (v : X) → list_any (λ e. eq k e.0) es ≡ false → insert_entry eq es k (unwrap_or (lookup (eq k) es) v) ≡ es ++ (k, v) ∷ []
  entry_last [] k v h = refl
  entry_last (e ∷ es) k v h = by (eq k e.0) h (entry_last es k v)
    where
      by : (q : Bool) → (q || list_any (λ e. eq k e.0) es) ≡ false → (list_any (λ e. eq k e.0) es ≡ false → insert_entry eq es k (unwrap_or (lookup (eq k) es) v) ≡ es ++ (k, v) ∷ []) → cond q ((e.0, unwrap_or (cond q (Some e.1) (lookup (eq k) es)) v) ∷ es) (e ∷ insert_entry eq es k (unwrap_or (cond q (Some e.1) (lookup (eq k) es)) v)) ≡ e ∷ (es ++ (k, v) ∷ [])
      by true h known = absurd (true≢false h)
      by false h known = ap (λ xs. e ∷ xs) (known h)

module _ {K X : Type 0} (test : K → Bool) where
  -- what is found after one more entry
  pub lookup_last : (es : List (K × X)) (e : K × X) → lookup test (es ++ e ∷ []) ≡ option_or (lookup test es) (cond (test e.0) (Some e.1) None)
  lookup_last [] e = refl
  lookup_last (x ∷ es) e = by (test x.0) (lookup_last es e)
    where
      by : (q : Bool) → lookup test (es ++ e ∷ []) ≡ option_or (lookup test es) (cond (test e.0) (Some e.1) None) → cond q (Some x.1) (lookup test (es ++ e ∷ [])) ≡ option_or (cond q (Some x.1) (lookup test es)) (cond (test e.0) (Some e.1) None)
      by true known = refl
      by false known = known

  pub lookup_some : (es : List (K × X)) (v : X) → lookup test es ≡ Some v → list_any (λ e. test e.0) es ≡ true
  lookup_some [] v h = absurd cc
  lookup_some (e ∷ es) v h = by (test e.0) h (lookup_some es v)
    where
      by : (q : Bool) → cond q (Some e.1) (lookup test es) ≡ Some v → (lookup test es ≡ Some v → list_any (λ e. test e.0) es ≡ true) → (q || list_any (λ e. test e.0) es) ≡ true
      by true h known = refl
      by false h known = known h

  pub lookup_absent : (es : List (K × X)) → list_any (λ e. test e.0) es ≡ false → lookup test es ≡ None
  lookup_absent [] h = refl
  lookup_absent (e ∷ es) h = by (test e.0) h (lookup_absent es)
    where
      by : (q : Bool) → (q || list_any (λ e. test e.0) es) ≡ false → (list_any (λ e. test e.0) es ≡ false → lookup test es ≡ None) → cond q (Some e.1) (lookup test es) ≡ None
      by true h known = absurd (true≢false h)
      by false h known = known h

-- ---- one more build

-- a kept build isn't kept again
pub keep_there : (kept : Kept) (k : Key) (b : BuiltModule) → is_kept kept k ≡ true → keep_build kept k b ≡ kept
keep_there kept k b h = entry_there same_key kept k b h

-- a build that isn't kept is kept last
pub keep_last : (kept : Kept) (k : Key) (b : BuiltModule) → is_kept kept k ≡ false → keep_build kept k b ≡ kept ++ (k, b) ∷ []
keep_last kept k b h = entry_last same_key kept k b h

-- no kept build is lost
pub keep_all : (kept : Kept) (k : Key) (b : BuiltModule) → KeepsAll kept (keep_build kept k b)
keep_all kept k b = by (is_kept kept k) refl
  where
    by : (q : Bool) → is_kept kept k ≡ q → KeepsAll kept (keep_build kept k b)
    by true q = record { more = []; is = keep_there kept k b q ∙ sym (append-nil kept) }
    by false q = record { more = (k, b) ∷ []; is = keep_last kept k b q }

pub keeps_none : (kept : Kept) → KeepsAll kept kept
keeps_none kept = record { more = []; is = sym (append-nil kept) }

pub keeps_then : {old mid new : Kept} → KeepsAll old mid → KeepsAll mid new → KeepsAll old new
keeps_then {old} {mid} {new} g h = record { more = g.more ++ h.more; is = h.is ∙ ap (λ xs. xs ++ h.more) g.is ∙ append_assoc old g.more h.more }

pub kept_stays : {old new : Kept} → KeepsAll old new → (k : Key) → is_kept old k ≡ true → is_kept new k ≡ true
kept_stays {old} {new} g k h = ap (λ xs. is_kept xs k) g.is ∙ list_any-append (λ e. same_key k e.0) old g.more ∙ ap (λ b. b || is_kept g.more k) h

-- a build that was just kept is kept
pub kept_now : (kept : Kept) (k : Key) (b : BuiltModule) → is_kept (keep_build kept k b) k ≡ true
kept_now kept k b = by (is_kept kept k) refl
  where
    or_last : (p q : Bool) → q ≡ true → (p || (q || false)) ≡ true
    or_last true q e = refl
    or_last false true e = refl
    or_last false false e = absurd (true≢false (sym e))

    by : (q : Bool) → is_kept kept k ≡ q → is_kept (keep_build kept k b) k ≡ true
    by true q = ap (λ x. is_kept x k) (keep_there kept k b q) ∙ q
    by false q = ap (λ x. is_kept x k) (keep_last kept k b q) ∙ list_any-append (λ (e : Key × BuiltModule). same_key k e.0) kept ((k, b) ∷ []) ∙ or_last (is_kept kept k) (same_key k k) ((key-Decides k k).1 refl)

pub kept_found : (kept : Kept) (k : Key) (b : BuiltModule) → kept_under kept k ≡ Some b → is_kept kept k ≡ true
kept_found kept k b h = lookup_some (same_key k) kept b h

-- ---- the builds of a make

keep_named_all : (o : Option Key) (b : BuiltModule) (kept : Kept) → KeepsAll kept (keep_named o b kept)
keep_named_all None b kept = keeps_none kept
keep_named_all (Some k) b kept = keep_all kept k b

module _ (ds : List Registered) (defs : Defs) where
  -- no kept build is lost
  pub keep_builds_more : (kept : Kept) (builds : Builds) → KeepsAll kept (keep_builds ds defs kept builds)
  keep_builds_more kept [] = keeps_none kept
  keep_builds_more kept (e ∷ es) =
      let mid = keep_named (key_named ds defs e.0) e.1 kept in
      keeps_then (keep_named_all (key_named ds defs e.0) e.1 kept) (keep_builds_more mid es)

  -- builds in two rows are kept one row after the other
  pub keep_builds-append : (kept : Kept) (some more : Builds) → keep_builds ds defs kept (some ++ more) ≡ keep_builds ds defs (keep_builds ds defs kept some) more
  keep_builds-append kept some more = fold-append (λ kept e. keep_named (key_named ds defs e.0) e.1 kept) kept some more

  keep_named_there : (o : Option Key) (b : BuiltModule) (kept : Kept) → IsSomeAnd o (λ k. is_kept kept k ≡ true) → keep_named o b kept ≡ kept
  keep_named_there None b kept h = absurd h
  keep_named_there (Some k) b kept h = keep_there kept k b h

  -- a name whose build is kept already
  pub keep_named_kept : (kept : Kept) (name : List ℕ) (b : BuiltModule) → IsSomeAnd (key_named ds defs name) (λ k. is_kept kept k ≡ true) → keep_named (key_named ds defs name) b kept ≡ kept
  keep_named_kept kept name b h = keep_named_there (key_named ds defs name) b kept h

-- ---- projections

module _ (m : Registered) (name : List ℕ) (there : is_among m.effective name ≡ true) where
  abbrev at : List ℕ → Bool
  at = is_at (slice_cmp nat_cmp name)

  kept_or_other : (e : List ℕ × ShaderDefValue) (some more : Defs) (p a : Bool) → is_among m.effective e.0 ≡ p → at e.0 ≡ a → lookup at some ≡ lookup at more → lookup at (cond p (e ∷ some) some) ≡ cond a (Some e.1) (lookup at more)
  kept_or_other e some more true a is found h = λ i. cond (found i) (Some e.1) (h i)
  kept_or_other e some more false false is found h = h
  kept_or_other e some more false true is found h =
      let same : name ≡ e.0 = (bytes_eq-Decides name e.0).0 (sym (is_eq-slice_cmp name e.0) ∙ found) in
      absurd (true≢false (sym there ∙ ap (is_among m.effective) same ∙ is))

  -- a name on which the build may depend is defined alike in the projection
  projected_alike : (defs : Defs) → defined (project m defs) name ≡ defined defs name
  projected_alike [] = refl
  projected_alike (e ∷ es) = kept_or_other e (project m es) es (is_among m.effective e.0) (at e.0) refl refl (projected_alike es)

-- definitions and their projection have the same projection
pub projection_one : (m : Registered) (defs : Defs) → HaveOneProjection m (project m defs) defs
projection_one m defs name there = projected_alike m name there defs

pub one_projection : (m : Registered) (d e : Defs) → project m d ≡ project m e → HaveOneProjection m d e
one_projection m d e same name there = sym (projected_alike m name there d) ∙ ap (λ (ds : Defs). defined ds name) same ∙ projected_alike m name there e

filter_within : {X : Type 0} (p q : X → Bool) → ((x : X) → p x ≡ true → q x ≡ true) → (xs : List X) → filter p (filter q xs) ≡ filter p xs
filter_within p q h [] = refl
filter_within p q h (x ∷ xs) = by (q x) (p x) refl (h x) (filter_within p q h xs)
  where
    by : (b c : Bool) → p x ≡ c → (p x ≡ true → b ≡ true) → filter p (filter q xs) ≡ filter p xs → filter p (cond b (x ∷ filter q xs) (filter q xs)) ≡ cond c (x ∷ filter p xs) (filter p xs)
    by true c e k known = λ i. cond (e i) (x ∷ known i) (known i)
    by false true e k known = absurd (true≢false (sym (k e)))
    by false false e k known = known

-- a projection on fewer names is the projection of one on more names
pub project_within : (o d : Registered) (defs : Defs) → ((n : List ℕ) → is_among o.effective n ≡ true → is_among d.effective n ≡ true) → project o (project d defs) ≡ project o defs
project_within o d defs h = filter_within (λ e. is_among o.effective e.0) (λ e. is_among d.effective e.0) (λ e q. h e.0 q) defs

pub project_twice : (d : Registered) (defs : Defs) → project d (project d defs) ≡ project d defs
project_twice d defs = project_within d d defs (λ n q. q)
