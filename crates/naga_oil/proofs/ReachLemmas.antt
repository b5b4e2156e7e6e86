-- Builds by their names, and reaching modules of a list.
use Rattle.std.proofs.Common.{◌≡◌, ℕ, suc, ◌+◌, ◌-◌, ◌<◌, ◌≤◌, List, [], ◌∷◌, Bool, true, false, not, ◌||◌, is_some, cond, refl, ap, ◌∙◌, sym, subst, map, length, drop, get_or, String, Global, string_bytes, bytes_eq, nat_lt, Option, Some, None, unwrap_or, MatchOption, Result, Ok, Err, IsErrAnd, arith}
use Rattle.std.specs.Arc.{arc_value}
use Rattle.std.specs.BTreeMap.{BTreeMap, get_by_text, is_at}
use Rattle.std.specs.Cmp.Lexicographic.{slice_cmp}
use Rattle.std.specs.List.{position, position_or_len, list_any, slice_get}
use Rattle.std.specs.Map.{lookup}
use Rattle.std.specs.Ordering.{nat_cmp}
use Rattle.std.specs.String.{string_eq}
use Rattle.std.specs.declared.sync.Arc.{Arc}
use Rattle.std.proofs.lemmas.Bool.{ltb-true, ltb-false, true≢false}
use Rattle.std.proofs.lemmas.List.{drop_more}
use Rattle.std.proofs.lemmas.Option.{get_or_from_slice_get}
use Rattle.indexmap.specs.IndexMap.{insert_entry}
use Rattle.naga_oil_imports.specs.Uses.{Use, use_of}
use Rattle.naga_oil_imports.specs.declared.import_definition.ImportDefWithOffset.{ImportDefWithOffset}
use Rattle.naga_oil_conditions.specs.Fault.{Fault}
use Rattle.naga_oil_pre.specs.Preprocessed.{Output}
use Rattle.naga_oil_conditions.specs.declared.shader_def.ShaderDefValue.{ShaderDefValue}
use Rattle.naga_oil_registry.specs.Registered.{Registered, Defs, defs_of}
use Rattle.naga_oil_registry.specs.Registry.{place_named}
use Rattle.naga_oil_link.specs.BuiltModule.{BuiltModule, Builds, built_of}
use Rattle.naga_oil_link.specs.declared.module.ComposableModule.{ComposableModule}
use Rattle.naga_oil_build.specs.Build.{build}
use Rattle.naga_oil_build.specs.Built.{preprocessed_of}
use Rattle.naga_oil_build.specs.Held.{Settings}
use Rattle.naga_oil.specs.Answer.{as_merged}
use Rattle.naga_oil.specs.Shader.{may_use}
use Rattle.naga_oil.specs.Outcome.{Outcome, Doing, Does, given, done_with, ◌>>=◌}
use Rattle.naga_oil.specs.Reach.{Unreached, missing, unbuilt, Rule, Reaching, defined, is_built, builds_with, enter_build, unless_built, unless_refused, as_recorded, preprocess_module, reach_each, reach_module, reach}
use Rattle.naga_oil.specs.MakeView.{unbuilt_as, unreached_of, nothing_said}
use Rattle.naga_oil.specs.declared.compose.reach.Unreached.{Unreached as CodeUnreached}

-- ---- builds by their names

-- the builds, each after its name
abbrev Entries : Type 0
Entries = List (String Global × Arc ComposableModule Global)

abbrev shared_of : Arc ComposableModule Global → BuiltModule
shared_of a = built_of (arc_value a)

-- the builds of entries
abbrev pub seen : List (String Global × Arc ComposableModule Global) → Builds
seen es = map (λ e. (string_bytes e.0, built_of (arc_value e.1))) es

seen_cond : (b : Bool) (e : String Global × Arc ComposableModule Global) (v : Arc ComposableModule Global) (es rest : Entries) → seen (cond b ((e.0, v) ∷ es) (e ∷ rest)) ≡ cond b ((string_bytes e.0, shared_of v) ∷ seen es) ((string_bytes e.0, shared_of e.1) ∷ seen rest)
seen_cond true e v es rest = refl
seen_cond false e v es rest = refl

-- to enter a build under a name is to enter it under its bytes
seen_put : (es : Entries) (k : String Global) (v : Arc ComposableModule Global) → seen (insert_entry string_eq es k v) ≡ insert_entry bytes_eq (seen es) (string_bytes k) (shared_of v)
seen_put [] k v = refl
seen_put (e ∷ es) k v =
    seen_cond (string_eq k e.0) e v es (insert_entry string_eq es k v) ∙ ap (λ (xs : Builds). cond (string_eq k e.0) ((string_bytes e.0, shared_of v) ∷ seen es) ((string_bytes e.0, shared_of e.1) ∷ xs)) (seen_put es k v)

-- entries with a build that was just entered
pub from_entries : (new old : List (String Global × Arc ComposableModule Global)) (k : String Global) (a : Arc ComposableModule Global) (name : List ℕ) → is_built (seen old) name ≡ false → string_bytes k ≡ name → new ≡ insert_entry string_eq old k a → seen new ≡ builds_with (seen old) name (built_of (arc_value a))
from_entries new old k a name none same h =
    ap seen h ∙ seen_put old k a ∙ (λ i. insert_entry bytes_eq (seen old) (same i) (shared_of a)) ∙ ap (λ o. insert_entry bytes_eq (seen old) name (unwrap_or o (shared_of a))) (sym (absent (seen old) none))
  where
    absent : (bs : Builds) → is_built bs name ≡ false → lookup (bytes_eq name) bs ≡ None
    absent [] h = refl
    absent (e ∷ bs) h = by (bytes_eq name e.0) h (absent bs)
      where
        by : (q : Bool) → (q || is_built bs name) ≡ false → (is_built bs name ≡ false → lookup (bytes_eq name) bs ≡ None) → cond q (Some e.1) (lookup (bytes_eq name) bs) ≡ None
        by true h known = absurd (true≢false h)
        by false h known = known h

-- a name is built exactly if it is found
pub built_found : (E : String Global → Bool) (n : List ℕ) → ((a : String Global) → E a ≡ bytes_eq n (string_bytes a)) → (es : List (String Global × Arc ComposableModule Global)) → is_some (lookup E es) ≡ is_built (seen es) n
built_found E n f [] = refl
built_found E n f (e ∷ es) = some_cond (E e.0) ∙ ap (λ b. b || is_some (lookup E es)) (f e.0) ∙ ap (λ b. bytes_eq n (string_bytes e.0) || b) (built_found E n f es)
  where
    some_cond : (b : Bool) → is_some (cond b (Some e.1) (lookup E es)) ≡ (b || is_some (lookup E es))
    some_cond true = refl
    some_cond false = refl

-- ---- definitions

lookup_same : (P : List ℕ → Bool) (es : List (String Global × ShaderDefValue)) → lookup (λ k. P (string_bytes k)) es ≡ lookup P (map (λ e. (string_bytes e.0, e.1)) es)
lookup_same P [] = refl
lookup_same P (e ∷ es) = ap (λ o. cond (P (string_bytes e.0)) (Some e.1) o) (lookup_same P es)

-- a map's definitions are those of its entries
pub defined_same : (m : BTreeMap (String Global) ShaderDefValue) → get_by_text m ≡ defined (defs_of m)
defined_same m = λ i. λ name. lookup_same (is_at (slice_cmp nat_cmp name)) m.entries i

-- ---- steps, one after the other

pub bind_ok : {X Y F : Type 0} (a : Doing X F) (f : X → Doing Y F) (bs mid : Builds) (x : X) → a bs ≡ record { builds = mid; result = Ok x } → (a >>= f) bs ≡ f x mid
bind_ok a f bs mid x h = ap (λ o. done_with o f o.result) h

pub bind_err : {X Y F : Type 0} (a : Doing X F) (f : X → Doing Y F) (bs mid : Builds) (e : F) → a bs ≡ record { builds = mid; result = Err e } → (a >>= f) bs ≡ record { builds = mid; result = Err e }
bind_err a f bs mid e h = ap (λ o. done_with o f o.result) h

-- the fault of a call ends a longer one
pub ends : {X Y Z W E F : Type 0} (view : X → Y) (view' : Z → W) (told : E → Option F) (e : E) (r : Result Z E) (bs : Builds) (v : Outcome Y F) (w : Outcome W F) → ((f : F) → v ≡ record { builds = bs; result = Err f } → w ≡ record { builds = bs; result = Err f }) → Does view told nothing_said (Err e) bs v → IsErrAnd r (λ o. o ≡ e) → Does view' told nothing_said r bs w
ends view view' told e (Ok x) bs v w k h j = absurd j
ends view view' told e (Err o) bs v w k h j = subst (λ z. Does view' told nothing_said (Err z) bs w) (sym j) (go (told e) h)
  where
    go : (q : Option _) → MatchOption q (Unit {0}) (λ f. v ≡ record { builds = bs; result = Err f }) → MatchOption q (Unit {0}) (λ f. w ≡ record { builds = bs; result = Err f })
    go None h = tt
    go (Some f) h = k f h

-- ---- faults

-- a fault of a module ends a call
pub as_unbuilt : (e : CodeUnreached) (fault : Option Fault) (name : List ℕ) (offset : ℕ) (P : Unreached → Type 0) (Q : Fault → Type 0) → ((f : Fault) → Q f → P (unbuilt name (record { fault = f; offset = offset }))) → MatchOption (unreached_of e) (Unit {0}) (λ w. unbuilt_as name offset fault ≡ Some w) → MatchOption fault (Unit {0}) Q → MatchOption (unreached_of e) (Unit {0}) P
as_unbuilt e fault name offset P Q k h q = go (unreached_of e) fault h q
  where
    go : (o : Option Unreached) (fault : Option Fault) → MatchOption o (Unit {0}) (λ w. unbuilt_as name offset fault ≡ Some w) → MatchOption fault (Unit {0}) Q → MatchOption o (Unit {0}) P
    go None fault h q = tt
    go (Some w) None h q = cc
    go (Some w) (Some f) h q = let same : unbuilt name (record { fault = f; offset = offset }) ≡ w = cc in subst P same (k f q)

-- a module can't be imported
pub as_missing : (e : CodeUnreached) (name : List ℕ) (offset : ℕ) (P : Unreached → Type 0) → P (missing name offset) → MatchOption (unreached_of e) (Unit {0}) (λ w. w ≡ missing name offset) → MatchOption (unreached_of e) (Unit {0}) P
as_missing e name offset P p h = go (unreached_of e) h
  where
    go : (o : Option Unreached) → MatchOption o (Unit {0}) (λ w. w ≡ missing name offset) → MatchOption o (Unit {0}) P
    go None h = tt
    go (Some w) h = subst P (sym h) p

-- the test of a use, by the rule of recorded imports and by that of merged definitions
pub recorded_if : (d : Registered) (u : Use) (name : List ℕ) (b : Bool) → name ≡ u.import.import → b ≡ list_any (λ i. bytes_eq i.import.import name) d.imports → as_recorded d u ≡ cond b None (Some (missing name 0))
recorded_if d u name b called h = (λ i. cond (list_any (λ x. bytes_eq x.import.import (sym called i)) d.imports) None (Some (missing (sym called i) 0))) ∙ ap (λ b. cond b None (Some (missing name 0))) (sym h)

pub merged_if : (ds : List Registered) (defs : Defs) (u : Use) (name : List ℕ) (b : Bool) (offset : ℕ) → name ≡ u.import.import → b ≡ may_use ds defs u → offset ≡ u.offset → as_merged ds defs u ≡ cond b None (Some (missing name offset))
merged_if ds defs u name b offset called h at = λ i. cond (sym h i) None (Some (missing (sym called i) (sym at i)))

-- ---- preprocessing

pub preprocessed_as : (defs : BTreeMap (String Global) ShaderDefValue) (d : Registered) (bs : Builds) (r : Result Output Fault) → preprocessed_of (get_by_text defs) d ≡ r → preprocess_module (defs_of defs) d (preprocessed_of (defined (defs_of defs)) d) bs ≡ preprocess_module (defs_of defs) d r bs
preprocessed_as defs d bs r h = ap (λ p. preprocess_module (defs_of defs) d p bs) (sym (ap (λ n. preprocessed_of n d) (defined_same defs)) ∙ h)

-- ---- uses in order

module _ (rule : Rule) (f : Reaching) (u : Use) (us : List Use) (bs : Builds) where
  -- the next use isn't allowed
  pub each_refused : (w : Unreached) → rule u ≡ Some w → reach_each rule f (u ∷ us) bs ≡ record { builds = bs; result = Err w }
  unfolding reach_each
  each_refused w h = bind_err (unless_refused (rule u) (f u.import.import)) (λ done. reach_each rule f us) bs bs w (ap (λ r. unless_refused r (f u.import.import) bs) h)

  -- the next use can't be reached
  pub each_ended : (mid : Builds) (w : Unreached) → rule u ≡ None → f u.import.import bs ≡ record { builds = mid; result = Err w } → reach_each rule f (u ∷ us) bs ≡ record { builds = mid; result = Err w }
  unfolding reach_each
  each_ended mid w h r = bind_err (unless_refused (rule u) (f u.import.import)) (λ done. reach_each rule f us) bs mid w (ap (λ r. unless_refused r (f u.import.import) bs) h ∙ r)

  -- the next import is reached, and then the others
  pub each_more : (mid : Builds) → rule u ≡ None → f u.import.import bs ≡ record { builds = mid; result = Ok tt } → reach_each rule f (u ∷ us) bs ≡ reach_each rule f us mid
  unfolding reach_each
  each_more mid h r = bind_ok (unless_refused (rule u) (f u.import.import)) (λ done. reach_each rule f us) bs mid tt (ap (λ r. unless_refused r (f u.import.import) bs) h ∙ r)

-- nothing is left
pub each_none : (rule : Rule) (f : Reaching) (bs : Builds) → reach_each rule f [] bs ≡ record { builds = bs; result = Ok tt }
unfolding reach_each
each_none rule f bs = refl

-- ---- a module

module _ (s : Settings) (defs : Defs) (d : Registered) (f : Reaching) (bs : Builds) where
  abbrev after : Output → Doing (Unit {0}) Unreached
  after out = reach_each (as_recorded d) f out.uses >>= λ done. λ builds. enter_build d.name (build s d out builds) builds

  abbrev begin : Doing Output Unreached
  begin = preprocess_module defs d (preprocessed_of (defined defs) d)

  pub module_unread : (w : Unreached) → begin bs ≡ record { builds = bs; result = Err w } → reach_module s defs d f bs ≡ record { builds = bs; result = Err w }
  unfolding reach_module
  module_unread w h = bind_err begin after bs bs w h

  module _ (out : Output) (read : begin bs ≡ record { builds = bs; result = Ok out }) (mid : Builds) where
    pub module_ended : (w : Unreached) → reach_each (as_recorded d) f out.uses bs ≡ record { builds = mid; result = Err w } → reach_module s defs d f bs ≡ record { builds = mid; result = Err w }
    unfolding reach_module
    module_ended w h = bind_ok begin after bs bs out read ∙ bind_err (reach_each (as_recorded d) f out.uses) (λ done. λ builds. enter_build d.name (build s d out builds) builds) bs mid w h

    pub module_over : reach_each (as_recorded d) f out.uses bs ≡ record { builds = mid; result = Ok tt } → reach_module s defs d f bs ≡ enter_build d.name (build s d out mid) mid
    unfolding reach_module
    module_over h = bind_ok begin after bs bs out read ∙ bind_ok (reach_each (as_recorded d) f out.uses) (λ done. λ builds. enter_build d.name (build s d out builds) builds) bs mid tt h

-- ---- the first module with a name

module _ (s : Settings) (defs : Defs) (name : List ℕ) where
  reach_first : (ds : List Registered) (e : Registered) (k : ℕ) → k ≡ position_or_len (λ d. bytes_eq d.name name) ds → k < length ds → reach s defs ds name ≡ reach_module s defs (get_or ds k e) (unless_built (reach s defs (drop (k + 1) ds)))
  unfolding reach
  reach_first [] e k i l = absurd (omega (arith, l))
  reach_first (d ∷ ds) e k i l = go (bytes_eq d.name name) i (λ j a b. reach_first ds e at refl a)
    where
      at : ℕ
      at = position_or_len (λ d. bytes_eq d.name name) ds

      go : (b : Bool) → k ≡ cond (not b) (1 + at) 0 → (ℕ → at < length ds → Unit {0} → reach s defs ds name ≡ reach_module s defs (get_or ds at e) (unless_built (reach s defs (drop (at + 1) ds)))) → cond b (reach_module s defs d (unless_built (reach s defs ds))) (reach s defs ds name) ≡ reach_module s defs (get_or (d ∷ ds) k e) (unless_built (reach s defs (drop (k + 1) (d ∷ ds))))
      go true j next = ap (λ n. reach_module s defs (get_or (d ∷ ds) n e) (unless_built (reach s defs (drop (n + 1) (d ∷ ds))))) (sym j)
      go false j next =
          let here : suc at ≡ k = omega (arith, j) in
          let more : suc (at + 1) ≡ k + 1 = omega (arith, j) in
          next 0 (omega (arith, l, j)) tt ∙ (λ i. reach_module s defs (get_or (d ∷ ds) (here i) e) (unless_built (reach s defs (drop (more i) (d ∷ ds)))))

  reach_none : (ds : List Registered) → length ds ≤ position_or_len (λ d. bytes_eq d.name name) ds → reach s defs ds name ≡ given (Err (missing name 0))
  unfolding reach
  reach_none [] l = refl
  reach_none (d ∷ ds) l = go (bytes_eq d.name name) l (λ m. reach_none ds m)
    where
      at : ℕ
      at = position_or_len (λ d. bytes_eq d.name name) ds

      go : (b : Bool) → suc (length ds) ≤ cond (not b) (1 + at) 0 → (length ds ≤ at → reach s defs ds name ≡ given (Err (missing name 0))) → cond b (reach_module s defs d (unless_built (reach s defs ds))) (reach s defs ds name) ≡ given (Err (missing name 0))
      go true m next = absurd (omega (arith, m))
      go false m next = next (omega (arith, m))

-- ---- the place of a name

-- the place at which the first module with a name is found
position_facts : {A : Type 0} (p : A → Bool) (xs : List A) (o : Option ℕ) → position p xs ≡ o → MatchOption o (length xs ≤ position_or_len p xs) (λ k. (k ≡ position_or_len p xs) × (k < length xs))
position_facts {A} p xs o e = subst (λ (q : Option ℕ). MatchOption q (length xs ≤ position_or_len p xs) (λ k. (k ≡ position_or_len p xs) × (k < length xs))) e (go (nat_lt (position_or_len p xs) (length xs)) refl)
  where
    go : (b : Bool) → nat_lt (position_or_len p xs) (length xs) ≡ b → MatchOption (cond b (Some (position_or_len p xs)) None) (length xs ≤ position_or_len p xs) (λ k. (k ≡ position_or_len p xs) × (k < length xs))
    go true i = (refl, ltb-true _ _ i)
    go false i = ltb-false _ _ i

-- a module that is built isn't reached again
pub built_before : (f : Reaching) (name : List ℕ) (bs : Builds) → is_built bs name ≡ true → unless_built f name bs ≡ record { builds = bs; result = Ok tt }
built_before f name bs h = ap (λ b. cond b (given (Ok tt) bs) (f name bs)) h

-- a name that isn't built
module _ (s : Settings) (defs : Defs) (name : List ℕ) (bs : Builds) (absent : is_built bs name ≡ false) (ds : List Registered) where
  abbrev reaching : List Registered → Reaching
  reaching es = unless_built (reach s defs es)

  not_before : reaching ds name bs ≡ reach s defs ds name bs
  not_before = ap (λ b. cond b (given (Ok tt) bs) (reach s defs ds name bs)) absent

  -- no module has the name
  pub none_reached : place_named name ds ≡ None → reaching ds name bs ≡ record { builds = bs; result = Err (missing name 0) }
  none_reached e =
      let long : length ds ≤ position_or_len (λ d. bytes_eq d.name name) ds = position_facts (λ d. bytes_eq d.name name) ds None e in
      not_before ∙ ap (λ (f : Doing (Unit {0}) Unreached). f bs) (reach_none s defs name ds long)

  -- the first module that has the name is reached over the modules after it
  pub first_reached : (k : ℕ) (d : Registered) → place_named name ds ≡ Some k → slice_get ds k ≡ Some d → reaching ds name bs ≡ reach_module s defs d (reaching (drop (k + 1) ds)) bs
  first_reached k d e is =
      let at : (k ≡ position_or_len (λ d. bytes_eq d.name name) ds) × (k < length ds) = position_facts (λ d. bytes_eq d.name name) ds (Some k) e in
      not_before ∙ ap (λ (f : Doing (Unit {0}) Unreached). f bs) (reach_first s defs name ds d k at.0 at.1)
      ∙ ap (λ (x : Registered). reach_module s defs x (reaching (drop (k + 1) ds)) bs) (get_or_from_slice_get ds k d d is)

-- ---- the code's list of uses

-- a refusal of which more is known
pub told_more : (o : Option Unreached) (P Q : Unreached → Type 0) → ((w : Unreached) → P w → Q w) → MatchOption o (Unit {0}) P → MatchOption o (Unit {0}) Q
told_more None P Q k h = tt
told_more (Some w) P Q k h = k w h

-- the next of the remaining uses
pub next_use : (xs : List ImportDefWithOffset) (i : ℕ) (x : ImportDefWithOffset) → i < length xs → x ≡ get_or xs i x → drop i xs ≡ x ∷ drop (i + 1) xs
next_use xs i x within is = drop_more xs i x within ∙ ap (λ y. y ∷ drop (i + 1) xs) (sym is)

module _ (rule : Rule) (f : Reaching) (x : ImportDefWithOffset) (xs ys : List ImportDefWithOffset) (next : xs ≡ x ∷ ys) (bs : Builds) where
  first_of : reach_each rule f (map use_of xs) bs ≡ reach_each rule f (use_of x ∷ map use_of ys) bs
  first_of = ap (λ (zs : List ImportDefWithOffset). reach_each rule f (map use_of zs) bs) next

  -- the next use isn't allowed
  pub next_refused : (w : Unreached) → rule (use_of x) ≡ Some w → reach_each rule f (map use_of xs) bs ≡ record { builds = bs; result = Err w }
  next_refused w h = first_of ∙ each_refused rule f (use_of x) (map use_of ys) bs w h

  module _ (name : List ℕ) (called : name ≡ (use_of x).import.import) (mid : Builds) (may : rule (use_of x) ≡ None) where
    -- the next use can't be reached
    pub next_ended : (w : Unreached) → f name bs ≡ record { builds = mid; result = Err w } → reach_each rule f (map use_of xs) bs ≡ record { builds = mid; result = Err w }
    next_ended w h = first_of ∙ each_ended rule f (use_of x) (map use_of ys) bs mid w may (ap (λ n. f n bs) (sym called) ∙ h)

    -- the next import is reached, and then the others
    pub next_reached : f name bs ≡ record { builds = mid; result = Ok tt } → reach_each rule f (map use_of xs) bs ≡ reach_each rule f (map use_of ys) mid
    next_reached h = first_of ∙ each_more rule f (use_of x) (map use_of ys) bs mid may (ap (λ n. f n bs) (sym called) ∙ h)
