-- Law: reaching a module over builds gives what reaching it from no builds gives.
use Rattle.std.proofs.Common.{◌≡◌, ℕ, List, [], ◌∷◌, ◌++◌, map, reverse, Bool, true, false, ◌||◌, cond, refl, sym, ap, subst, ◌∙◌, Option, Some, None, unwrap_or, slice_index_or, Result, Ok, Err, append_assoc, append-nil}
use Rattle.std.proofs.lemmas.Bool.{true≢false}
use Rattle.std.proofs.lemmas.List.{reverse-append, map-append}
use Rattle.std.proofs.lemmas.List.Elements.{All-nil, All-cons, All-same, All-map}
use Rattle.std.proofs.lemmas.List.Folds.{list_any-append}
use Rattle.std.proofs.lemmas.Map.Keys.{IsDistinct-push}
use Rattle.std.proofs.lemmas.Slice.Eq.{bytes_eq-Decides}
use Rattle.std.specs.List.{list_any, All, IsDistinct}
use Rattle.std.specs.Map.{lookup, keys_of}
use Rattle.std.specs.Option.{IsSomeAnd}
use Rattle.std.specs.Str.{bytes_eq}
use Rattle.indexmap.specs.IndexMap.{insert_entry}
use Rattle.naga_oil_imports.specs.Uses.{Use}
use Rattle.naga_oil_conditions.specs.Fault.{Fault}
use Rattle.naga_oil_pre.specs.Preprocessed.{Output}
use Rattle.naga_oil_registry.specs.Registered.{Registered, Defs}
use Rattle.naga_oil_registry.specs.Registry.{registered, IsRegistry}
use Rattle.naga_oil_registry.proofs.RegistryLemmas.{bytes_same}
use Rattle.naga_oil_link.specs.BuiltModule.{BuiltModule, Builds}
use Rattle.naga_oil_build.specs.Build.{Unbuilt, build}
use Rattle.naga_oil_build.specs.Built.{preprocessed_of}
use Rattle.naga_oil_build.specs.Held.{Settings}
use Rattle.naga_oil.specs.AfreshLaw.{Grows, afresh, StandsAfresh, AllStandAfresh, IsBuiltAfresh, IsReachedAfresh, reach_new, AreReachedAfresh, AfreshLaw}
use Rattle.naga_oil.specs.LocalLaw.{newest, AreOne, AlikeIn, UsesAlike, BuildsDiffer}
use Rattle.naga_oil.specs.Outcome.{Outcome, Doing, given, done_with, ◌>>=◌}
use Rattle.naga_oil.specs.Reach.{Unreached, missing, unbuilt, defined, is_built, builds_with, enter_build, Rule, Reaching, unless_built, unless_refused, as_recorded, preprocess_module, reach_each, reach_module, reach}
use Rattle.naga_oil.proofs.BuildImportsLemmas.{build_imports}
use Rattle.naga_oil.proofs.ChainLemmas.{same_bytes}
use Rattle.naga_oil.proofs.LocalLemmas.{bytes_equiv, named_alike, build_alike}
use Rattle.naga_oil.proofs.ReachLawLemmas.{allowed, imported_registered, or_true, reach-first, reach-past}
use Rattle.naga_oil.proofs.ReachLemmas.{each_none, each_refused, each_ended, each_more, module_unread, module_ended, module_over}

-- ---- names that stand alike

-- by the newest build
abbrev NewestAlike : Option (BuiltModule × Builds) → Option (BuiltModule × Builds) → Type 0
NewestAlike None o = o ≡ None
NewestAlike (Some e) o = IsSomeAnd o (λ f. AreOne (AlikeIn e.1 f.1) e.0 f.0)

at_newest : (bs cs : Builds) (name : List ℕ) → AlikeIn bs cs name → NewestAlike (newest name bs) (newest name cs)
unfolding AlikeIn
at_newest [] cs name h = h
at_newest (e ∷ earlier) cs name h = by (bytes_eq name e.0) h (at_newest earlier cs name)
  where
    by : (b : Bool) → cond b (IsSomeAnd (newest name cs) (λ f. AreOne (AlikeIn earlier f.1) e.1 f.0)) (AlikeIn earlier cs name) → (AlikeIn earlier cs name → NewestAlike (newest name earlier) (newest name cs)) → NewestAlike (cond b (Some (e.1, earlier)) (newest name earlier)) (newest name cs)
    by true h known = h
    by false h known = known h

from_newest : (bs cs : Builds) (name : List ℕ) → NewestAlike (newest name bs) (newest name cs) → AlikeIn bs cs name
unfolding AlikeIn
from_newest [] cs name h = h
from_newest (e ∷ earlier) cs name h = by (bytes_eq name e.0) h (from_newest earlier cs name)
  where
    by : (b : Bool) → NewestAlike (cond b (Some (e.1, earlier)) (newest name earlier)) (newest name cs) → (NewestAlike (newest name earlier) (newest name cs) → AlikeIn earlier cs name) → cond b (IsSomeAnd (newest name cs) (λ f. AreOne (AlikeIn earlier f.1) e.1 f.0)) (AlikeIn earlier cs name)
    by true h known = h
    by false h known = known h

none_alike : (o q : Option (BuiltModule × Builds)) → q ≡ None → NewestAlike o q → o ≡ None
none_alike None q e h = refl
none_alike (Some x) q e h = absurd (subst (λ q. IsSomeAnd q (λ f. AreOne (AlikeIn x.1 f.1) x.0 f.0)) e h)

some_alike : (e : BuiltModule × Builds) (o q : Option (BuiltModule × Builds)) → IsSomeAnd q (λ f. AreOne (AlikeIn e.1 f.1) e.0 f.0) → NewestAlike o q → ((bs cs : Builds) (name : List ℕ) → AlikeIn e.1 cs name → AlikeIn bs cs name → AlikeIn e.1 bs name) → IsSomeAnd o (λ f. AreOne (AlikeIn e.1 f.1) e.0 f.0)
some_alike e None None one k known = one
some_alike e None (Some f) one k known = absurd cc
some_alike e (Some g) None one k known = absurd one
some_alike e (Some g) (Some f) one k known =
    let following : All (λ i. AlikeIn g.1 f.1 i.import) e.0.imports = subst (λ (b : BuiltModule). All (λ i. AlikeIn g.1 f.1 i.import) b.imports) (k.same ∙ sym one.same) k.imports in
    record { same = one.same ∙ sym k.same; imports = λ j d l. known g.1 f.1 (slice_index_or e.0.imports j d).import (one.imports j d l) (following j d l) }

-- names that stand in two rows as in a third stand alike
both_alike : (ps bs cs : Builds) (name : List ℕ) → AlikeIn ps cs name → AlikeIn bs cs name → AlikeIn ps bs name
unfolding AlikeIn
both_alike [] bs cs name h k = none_alike (newest name bs) (newest name cs) h (at_newest bs cs name k)
both_alike (e ∷ earlier) bs cs name h k = by (bytes_eq name e.0) h (λ b c n. both_alike earlier b c n)
  where
    by : (b : Bool) → cond b (IsSomeAnd (newest name cs) (λ f. AreOne (AlikeIn earlier f.1) e.1 f.0)) (AlikeIn earlier cs name) → ((b c : Builds) (n : List ℕ) → AlikeIn earlier c n → AlikeIn b c n → AlikeIn earlier b n) → cond b (IsSomeAnd (newest name bs) (λ f. AreOne (AlikeIn earlier f.1) e.1 f.0)) (AlikeIn earlier bs name)
    by true one known = some_alike (e.1, earlier) (newest name bs) (newest name cs) one (at_newest bs cs name k) known
    by false more known = known bs cs name more k

-- a build of another name before it changes nothing
alike_past : (e : List ℕ × BuiltModule) (bs cs : Builds) (name : List ℕ) → bytes_eq name e.0 ≡ false → AlikeIn bs cs name → AlikeIn (e ∷ bs) cs name
alike_past e bs cs name q h = from_newest (e ∷ bs) cs name (subst (λ b. NewestAlike (cond b (Some (e.1, bs)) (newest name bs)) (newest name cs)) (sym q) (at_newest bs cs name h))

-- one build over imports that stand alike stands alike
alike_first : (name : List ℕ) (b : BuiltModule) (bs cs : Builds) → All (λ i. AlikeIn bs cs i.import) b.imports → AlikeIn ((name, b) ∷ bs) ((name, b) ∷ cs) name
alike_first name b bs cs all = from_newest ((name, b) ∷ bs) ((name, b) ∷ cs) name (subst (λ q. NewestAlike (cond q (Some (b, bs)) (newest name bs)) (cond q (Some (b, cs)) (newest name cs))) (sym ((bytes_eq-Decides name name).1 refl)) (record { same = refl; imports = all }))

-- ---- one more build

pub with_there : (bs : Builds) (name : List ℕ) (b : BuiltModule) → is_built bs name ≡ true → builds_with bs name b ≡ bs
with_there [] name b h = absurd (true≢false (sym h))
with_there (e ∷ bs) name b h = by (bytes_eq name e.0) h (with_there bs name b)
  where
    by : (q : Bool) → (q || is_built bs name) ≡ true → (is_built bs name ≡ true → builds_with bs name b ≡ bs) → cond q ((e.0, unwrap_or (cond q (Some e.1) (lookup (bytes_eq name) bs)) b) ∷ bs) (e ∷ insert_entry bytes_eq bs name (unwrap_or (cond q (Some e.1) (lookup (bytes_eq name) bs)) b)) ≡ e ∷ bs
    by true h known = refl
    by false h known = ap (λ xs. e ∷ xs) (known h)

pub with_last : (bs : Builds) (name : List ℕ) (b : BuiltModule) → is_built bs name ≡ false → builds_with bs name b ≡ bs ++ (name, b) ∷ []
with_last [] name b h = refl
with_last (e ∷ bs) name b h = by (bytes_eq name e.0) h (with_last bs name b)
  where
    by : (q : Bool) → (q || is_built bs name) ≡ false → (is_built bs name ≡ false → builds_with bs name b ≡ bs ++ (name, b) ∷ []) → cond q ((e.0, unwrap_or (cond q (Some e.1) (lookup (bytes_eq name) bs)) b) ∷ bs) (e ∷ insert_entry bytes_eq bs name (unwrap_or (cond q (Some e.1) (lookup (bytes_eq name) bs)) b)) ≡ e ∷ (bs ++ (name, b) ∷ [])
    by true h known = absurd (true≢false h)
    by false h known = ap (λ xs. e ∷ xs) (known h)

pub built_last : (bs : Builds) (e : List ℕ × BuiltModule) (name : List ℕ) → is_built (bs ++ e ∷ []) name ≡ (is_built bs name || (bytes_eq name e.0 || false))
built_last bs e name = list_any-append (λ b. bytes_eq name b.0) bs (e ∷ [])

or_false : (b : Bool) → (b || false) ≡ b
or_false true = refl
or_false false = refl

reverse_last : (bs : Builds) (e : List ℕ × BuiltModule) → reverse (bs ++ e ∷ []) ≡ e ∷ reverse bs
reverse_last bs e = reverse-append bs (e ∷ [])

any_key : (bs : Builds) (name : List ℕ) → list_any (bytes_eq name) (keys_of bs) ≡ is_built bs name
any_key [] name = refl
any_key (e ∷ bs) name = ap (λ b. bytes_eq name e.0 || b) (any_key bs name)

differ_last : (bs : Builds) (name : List ℕ) (b : BuiltModule) → BuildsDiffer bs → is_built bs name ≡ false → BuildsDiffer (bs ++ (name, b) ∷ [])
differ_last bs name b d h = subst (IsDistinct bytes_eq) (sym (map-append (λ e. e.0) bs ((name, b) ∷ []))) (IsDistinct-push bytes_equiv (keys_of bs) name d (any_key bs name ∙ h))

differ_none : BuildsDiffer []
unfolding IsDistinct
differ_none = tt

-- ---- builds that grow

grows_none : (bs : Builds) → Grows bs bs
grows_none bs = record { more = []; is = sym (append-nil bs) }

grows_on : (ps bs cs : Builds) → Grows ps bs → Grows bs cs → Grows ps cs
grows_on ps bs cs g h = record { more = g.more ++ h.more; is = h.is ∙ ap (λ xs. xs ++ h.more) g.is ∙ append_assoc ps g.more h.more }

grows_with : (bs : Builds) (name : List ℕ) (b : BuiltModule) → Grows bs (builds_with bs name b)
grows_with bs name b = by (is_built bs name) refl
  where
    by : (q : Bool) → is_built bs name ≡ q → Grows bs (builds_with bs name b)
    by true q = subst (Grows bs) (sym (with_there bs name b q)) (grows_none bs)
    by false q = record { more = (name, b) ∷ []; is = with_last bs name b q }

-- a build stays
stays : (bs cs : Builds) (name : List ℕ) → Grows bs cs → is_built bs name ≡ true → is_built cs name ≡ true
stays bs cs name g h = ap (λ xs. is_built xs name) g.is ∙ list_any-append (λ b. bytes_eq name b.0) bs g.more ∙ ap (λ b. b || is_built g.more name) h

pub built_with : (bs : Builds) (name : List ℕ) (b : BuiltModule) → is_built (builds_with bs name b) name ≡ true
built_with bs name b = by (is_built bs name) refl
  where
    by : (q : Bool) → is_built bs name ≡ q → is_built (builds_with bs name b) name ≡ true
    by true q = ap (λ xs. is_built xs name) (with_there bs name b q) ∙ q
    by false q = ap (λ xs. is_built xs name) (with_last bs name b q) ∙ built_last bs (name, b) name ∙ ap (λ b. is_built bs name || (b || false)) ((bytes_eq-Decides name name).1 refl) ∙ or_true (is_built bs name)

pub outcome_is : {X F : Type 0} (o : Outcome X F) (r : Result X F) → o.result ≡ r → o ≡ record { builds = o.builds; result = r }
outcome_is o r e = λ i. record { builds = o.builds; result = e i }

-- ---- a module that isn't reached isn't built

module _ (n : List ℕ) where
  -- steps that don't build a name
  abbrev pub Leaves : {X F : Type 0} → Doing X F → Type 0
  Leaves doing = (bs : Builds) → is_built bs n ≡ false → is_built (doing bs).builds n ≡ false

  leaves_then : {X Y F : Type 0} (a : Doing X F) (k : X → Doing Y F) → Leaves a → ((x : X) → Leaves (k x)) → Leaves (a >>= k)
  leaves_then {X} {Y} {F} a k first then bs none = by (a bs).result
    where
      by : (r : Result X F) → is_built (done_with (a bs) k r).builds n ≡ false
      by (Ok x) = then x (a bs).builds (first bs none)
      by (Err e) = first bs none

  pub leaves_each : (rule : Rule) (f : Reaching) → ((name : List ℕ) → Leaves (f name)) → (us : List Use) → Leaves (reach_each rule f us)
  unfolding reach_each
  leaves_each rule f h [] = λ bs none. none
  leaves_each rule f h (u ∷ us) = leaves_then (unless_refused (rule u) (f u.import.import)) (λ done. reach_each rule f us) (λ bs none. by (rule u) bs none) (λ done. leaves_each rule f h us)
    where
      by : (o : Option Unreached) → Leaves (unless_refused o (f u.import.import))
      by None = h u.import.import
      by (Some w) = λ bs none. none

  pub leaves_unless : (f : Reaching) → ((name : List ℕ) → Leaves (f name)) → (name : List ℕ) → Leaves (unless_built f name)
  leaves_unless f h name bs none = by (is_built bs name)
    where
      by : (b : Bool) → is_built (cond b (given (Ok tt) bs) (f name bs)).builds n ≡ false
      by true = none
      by false = h name bs none

  leaves_enter : (name : List ℕ) (r : Result BuiltModule Unbuilt) → bytes_eq n name ≡ false → Leaves (enter_build name r)
  leaves_enter name (Ok b) other bs none = by (is_built bs name) refl
    where
      by : (q : Bool) → is_built bs name ≡ q → is_built (builds_with bs name b) n ≡ false
      by true q = ap (λ xs. is_built xs n) (with_there bs name b q) ∙ none
      by false q = ap (λ xs. is_built xs n) (with_last bs name b q) ∙ built_last bs (name, b) n ∙ ap (λ c. c || (bytes_eq n name || false)) none ∙ ap (λ c. c || false) other
  leaves_enter name (Err u) other bs none = none

  module _ (s : Settings) (defs : Defs) where
    leaves_read : (d : Registered) (r : Result Output Fault) → Leaves (preprocess_module defs d r)
    leaves_read d (Ok out) bs none = none
    leaves_read d (Err f) bs none = none

    leaves_module : (d : Registered) (f : Reaching) → bytes_eq n d.name ≡ false → ((name : List ℕ) → Leaves (f name)) → Leaves (reach_module s defs d f)
    unfolding reach_module
    leaves_module d f other h =
        leaves_then (preprocess_module defs d (preprocessed_of (defined defs) d)) (λ out. reach_each (as_recorded d) f out.uses >>= λ done. λ builds. enter_build d.name (build s d out builds) builds) (leaves_read d (preprocessed_of (defined defs) d))
        (λ out. leaves_then (reach_each (as_recorded d) f out.uses) (λ done. λ builds. enter_build d.name (build s d out builds) builds) (leaves_each (as_recorded d) f h out.uses) (λ done bs none. leaves_enter d.name (build s d out bs) other bs none))

    pub leaves_reach : (es : List Registered) → registered n es ≡ false → (name : List ℕ) → Leaves (reach s defs es name)
    unfolding reach
    leaves_reach [] r name = λ bs none. none
    leaves_reach (d ∷ earlier) r name = by (bytes_eq d.name n) refl r (leaves_reach earlier)
      where
        here : (q : Bool) → bytes_eq n d.name ≡ false → ((x : List ℕ) → Leaves (reach s defs earlier x)) → Leaves (cond q (reach_module s defs d (unless_built (reach s defs earlier))) (reach s defs earlier name))
        here true other known = leaves_module d (unless_built (reach s defs earlier)) other (leaves_unless (reach s defs earlier) known)
        here false other known = known name

        by : (q : Bool) → bytes_eq d.name n ≡ q → (q || registered n earlier) ≡ false → (registered n earlier ≡ false → (x : List ℕ) → Leaves (reach s defs earlier x)) → Leaves (cond (bytes_eq d.name name) (reach_module s defs d (unless_built (reach s defs earlier))) (reach s defs earlier name))
        by true q r known = absurd (true≢false r)
        by false q r known = here (bytes_eq d.name name) (same_bytes n d.name ∙ q) (known r)

-- a name that isn't registered can't be reached
unregistered_missing : (s : Settings) (defs : Defs) (ds : List Registered) (name : List ℕ) → registered name ds ≡ false → (bs : Builds) → reach s defs ds name bs ≡ record { builds = bs; result = Err (missing name 0) }
unfolding reach
unregistered_missing s defs [] name r bs = refl
unregistered_missing s defs (d ∷ earlier) name r bs = by (bytes_eq d.name name) r (unregistered_missing s defs earlier name)
  where
    by : (q : Bool) → (q || registered name earlier) ≡ false → (registered name earlier ≡ false → (bs : Builds) → reach s defs earlier name bs ≡ record { builds = bs; result = Err (missing name 0) }) → cond q (reach_module s defs d (unless_built (reach s defs earlier))) (reach s defs earlier name) bs ≡ record { builds = bs; result = Err (missing name 0) }
    by true r known = absurd (true≢false r)
    by false r known = known r bs

-- ---- builds as built afresh

module _ (s : Settings) (ds : List Registered) (defs : Defs) where
  abbrev Stand : Builds → Type 0
  Stand = AllStandAfresh s ds defs

  stand_none : Stand []
  stand_none = record { differ = differ_none; each = λ name h. absurd (true≢false (sym h)) }

  -- one more build that is as built afresh
  stand_last : (bs : Builds) (name : List ℕ) (b : BuiltModule) → Stand bs → is_built bs name ≡ false → StandsAfresh s ds defs (bs ++ (name, b) ∷ []) name → Stand (bs ++ (name, b) ∷ [])
  stand_last bs name b st none new = record { differ = differ_last bs name b st.differ none; each = λ n h. by n (bytes_eq n name) refl (sym (built_last bs (name, b) n) ∙ h) }
    where
      by : (n : List ℕ) (q : Bool) → bytes_eq n name ≡ q → (is_built bs n || (bytes_eq n name || false)) ≡ true → StandsAfresh s ds defs (bs ++ (name, b) ∷ []) n
      by n true q h = subst (StandsAfresh s ds defs (bs ++ (name, b) ∷ [])) (sym (bytes_same n name q)) new
      by n false q h =
          let old = st.each n (sym (or_false (is_built bs n)) ∙ ap (λ c. is_built bs n || (c || false)) (sym q) ∙ h) in
          record {
            reached = old.reached;
            alike = subst (λ xs. AlikeIn xs (reverse (afresh s ds defs n).builds) n) (sym (reverse_last bs (name, b))) (alike_past (name, b) (reverse bs) (reverse (afresh s ds defs n).builds) n q old.alike);
          }

  -- reaching a module over builds as it is reached from none
  record Goes (bs : Builds) (name : List ℕ) (o : Outcome (Unit {0}) Unreached) : Type 0 where
    result : o.result ≡ (afresh s ds defs name).result
    grows : Grows bs o.builds
    stand : Stand o.builds
    built : o.result ≡ Ok tt → is_built o.builds name ≡ true

  -- a step that enters no build
  ends_so : (bs mid : Builds) (name : List ℕ) (w : Unreached) → (afresh s ds defs name).result ≡ Err w → Grows bs mid → Stand mid → Goes bs name (record { builds = mid; result = Err w })
  ends_so bs mid name w e g st = record { result = sym e; grows = g; stand = st; built = λ k. absurd cc }

  unless_goes : (f : Reaching) (name : List ℕ) (bs : Builds) → Stand bs → Goes bs name (f name bs) → Goes bs name (unless_built f name bs)
  unless_goes f name bs st h = by (is_built bs name) refl
    where
      by : (b : Bool) → is_built bs name ≡ b → Goes bs name (cond b (given (Ok tt) bs) (f name bs))
      by true q = record { result = sym (st.each name q).reached; grows = grows_none bs; stand = st; built = λ _. q }
      by false q = h

  -- ---- uses, one after the other

  module _ (rule : Rule) (f : Reaching) (h : (u : Use) → rule u ≡ None → (bs : Builds) → Stand bs → Goes bs u.import.import (f u.import.import bs)) where
    first_of_two : Option Unreached → Result (Unit {0}) Unreached → Result (Unit {0}) Unreached → Result (Unit {0}) Unreached
    first_of_two (Some w) q r = Err w
    first_of_two None (Ok x) r = r
    first_of_two None (Err w) r = Err w

    -- the answer of reaching them one after the other, whatever was built before
    answers : List Use → Result (Unit {0}) Unreached
    answers [] = Ok tt
    answers (u ∷ us) = first_of_two (rule u) (afresh s ds defs u.import.import).result (answers us)

    record Each (us : List Use) (bs : Builds) (r : Result (Unit {0}) Unreached) (o : Outcome (Unit {0}) Unreached) : Type 0 where
      result : o.result ≡ r
      grows : Grows bs o.builds
      stand : Stand o.builds
      built : o.result ≡ Ok tt → All (λ u. is_built o.builds u.import.import ≡ true) us

    each_goes : (us : List Use) (bs : Builds) → Stand bs → Each us bs (answers us) (reach_each rule f us bs)
    unfolding answers first_of_two
    each_goes [] bs st = subst (Each [] bs (Ok tt)) (sym (each_none rule f bs)) (record { result = refl; grows = grows_none bs; stand = st; built = λ _. All-nil (λ (u : Use). is_built bs u.import.import ≡ true) })
    each_goes (u ∷ us) bs st = by (rule u) refl (λ m k. each_goes us m k)
      where
        Known : Type 0
        Known = (m : Builds) → Stand m → Each us m (answers us) (reach_each rule f us m)

        more : rule u ≡ None → Goes bs u.import.import (f u.import.import bs) → Known → (q : Result (Unit {0}) Unreached) → (f u.import.import bs).result ≡ q → Each (u ∷ us) bs (first_of_two None q (answers us)) (reach_each rule f (u ∷ us) bs)
        more e g known (Ok x) k =
            let m = (f u.import.import bs).builds in
            let rest = known m g.stand in
            let end = reach_each rule f us m in
            subst (Each (u ∷ us) bs (answers us)) (sym (each_more rule f u us bs m e (outcome_is (f u.import.import bs) (Ok tt) k))) (record {
              result = rest.result;
              grows = grows_on bs m end.builds g.grows rest.grows;
              stand = rest.stand;
              built = λ r. All-cons (λ (v : Use). is_built end.builds v.import.import ≡ true) u us (stays m end.builds u.import.import rest.grows (g.built k)) (rest.built r);
            })
        more e g known (Err w) k =
            subst (Each (u ∷ us) bs (Err w)) (sym (each_ended rule f u us bs (f u.import.import bs).builds w e (outcome_is (f u.import.import bs) (Err w) k))) (record { result = refl; grows = g.grows; stand = g.stand; built = λ r. absurd cc })

        by : (o : Option Unreached) → rule u ≡ o → Known → Each (u ∷ us) bs (first_of_two o (afresh s ds defs u.import.import).result (answers us)) (reach_each rule f (u ∷ us) bs)
        by (Some w) e known = subst (Each (u ∷ us) bs (Err w)) (sym (each_refused rule f u us bs w e)) (record { result = refl; grows = grows_none bs; stand = st; built = λ r. absurd cc })
        by None e known =
            let g = h u e bs st in
            more e g known (afresh s ds defs u.import.import).result g.result

  -- the used modules stand alike in two rows of builds that are all as built afresh
  uses_alike : (us : List Use) (bs cs : Builds) → Stand bs → Stand cs → All (λ u. is_built bs u.import.import ≡ true) us → All (λ u. is_built cs u.import.import ≡ true) us → UsesAlike bs cs us
  uses_alike us bs cs st st' all all' = λ k d l. one (slice_index_or us k d).import.import (all k d l) (all' k d l)
    where
      one : (x : List ℕ) → is_built bs x ≡ true → is_built cs x ≡ true → AlikeIn (reverse bs) (reverse cs) x
      one x q q' = both_alike (reverse bs) (reverse cs) (reverse (afresh s ds defs x).builds) x (st.each x q).alike (st'.each x q').alike

  -- ---- a module

  module _ (d : Registered) (f : Reaching) (first : afresh s ds defs d.name ≡ reach_module s defs d f []) (h : (u : Use) → as_recorded d u ≡ None → (bs : Builds) → Stand bs → Goes bs u.import.import (f u.import.import bs)) (leaves : (us : List Use) → is_built (reach_each (as_recorded d) f us []).builds d.name ≡ false) where
    -- a build entered over builds that are all as built afresh
    entered : (bs : Builds) (out : Output) (mid mid' : Builds) → Grows bs mid → Stand mid → Stand mid' → is_built mid' d.name ≡ false
        → UsesAlike mid mid' out.uses → (r : Result BuiltModule Unbuilt) → build s d out mid' ≡ r → afresh s ds defs d.name ≡ enter_build d.name r mid' → Goes bs d.name (enter_build d.name r mid)
    entered bs out mid mid' g st st' none uses (Err u) e at = ends_so bs mid d.name (unbuilt d.name u) (ap (λ o. o.result) at) g st
    entered bs out mid mid' g st st' none uses (Ok b) e at = record {
      result = ap (λ o. o.result) (sym at);
      grows = grows_on bs mid (builds_with mid d.name b) g (grows_with mid d.name b);
      stand = by (is_built mid d.name) refl;
      built = λ _. built_with mid d.name b;
    }
      where
        imports : All (λ i. AlikeIn (reverse mid) (reverse mid') i.import) b.imports
        imports = All-same (λ i. AlikeIn (reverse mid) (reverse mid') i.import) b.imports (map (λ u. u.import) out.uses) (build_imports s d out mid' b e) (All-map (λ i. AlikeIn (reverse mid) (reverse mid') i.import) (λ u. u.import) out.uses uses)

        afresh_is : (afresh s ds defs d.name).builds ≡ mid' ++ (d.name, b) ∷ []
        afresh_is = ap (λ o. o.builds) at ∙ with_last mid' d.name b none

        by : (q : Bool) → is_built mid d.name ≡ q → Stand (builds_with mid d.name b)
        by true q = subst Stand (sym (with_there mid d.name b q)) st
        by false q = subst Stand (sym (with_last mid d.name b q)) (stand_last mid d.name b st q (record {
          reached = ap (λ o. o.result) at;
          alike = subst (λ xs. AlikeIn xs (reverse (afresh s ds defs d.name).builds) d.name) (sym (reverse_last mid (d.name, b)))
              (subst (λ xs. AlikeIn ((d.name, b) ∷ reverse mid) xs d.name) (sym (ap reverse afresh_is ∙ reverse_last mid' (d.name, b))) (alike_first d.name b (reverse mid) (reverse mid') imports));
        }))

    module _ (bs : Builds) (st : Stand bs) where
      read_goes : (out : Output) → preprocessed_of (defined defs) d ≡ Ok out → Goes bs d.name (reach_module s defs d f bs)
      read_goes out read =
          let e = each_goes (as_recorded d) f h out.uses bs st in
          let e' = each_goes (as_recorded d) f h out.uses [] stand_none in
          by e e' (answers (as_recorded d) f h out.uses) e.result e'.result
        where
          begun : (cs : Builds) → preprocess_module defs d (preprocessed_of (defined defs) d) cs ≡ record { builds = cs; result = Ok out }
          begun cs = ap (λ r. preprocess_module defs d r cs) read

          mid : Builds
          mid = (reach_each (as_recorded d) f out.uses bs).builds

          mid' : Builds
          mid' = (reach_each (as_recorded d) f out.uses []).builds

          by : Each (as_recorded d) f h out.uses bs (answers (as_recorded d) f h out.uses) (reach_each (as_recorded d) f out.uses bs) → Each (as_recorded d) f h out.uses [] (answers (as_recorded d) f h out.uses) (reach_each (as_recorded d) f out.uses []) → (r : Result (Unit {0}) Unreached) → (reach_each (as_recorded d) f out.uses bs).result ≡ r → (reach_each (as_recorded d) f out.uses []).result ≡ r → Goes bs d.name (reach_module s defs d f bs)
          by e e' (Err w) k k' =
              let there : reach_module s defs d f [] ≡ record { builds = mid'; result = Err w } = module_ended s defs d f [] out (begun []) mid' w (outcome_is (reach_each (as_recorded d) f out.uses []) (Err w) k') in
              subst (Goes bs d.name) (sym (module_ended s defs d f bs out (begun bs) mid w (outcome_is (reach_each (as_recorded d) f out.uses bs) (Err w) k))) (ends_so bs mid d.name w (ap (λ o. o.result) (first ∙ there)) e.grows e.stand)
          by e e' (Ok x) k k' =
              let there : reach_module s defs d f [] ≡ enter_build d.name (build s d out mid') mid' = module_over s defs d f [] out (begun []) mid' (outcome_is (reach_each (as_recorded d) f out.uses []) (Ok tt) k') in
              let here : reach_module s defs d f bs ≡ enter_build d.name (build s d out mid) mid = module_over s defs d f bs out (begun bs) mid (outcome_is (reach_each (as_recorded d) f out.uses bs) (Ok tt) k) in
              let alike : UsesAlike mid mid' out.uses = uses_alike out.uses mid mid' e.stand e'.stand (e.built k) (e'.built k') in
              let same : build s d out mid ≡ build s d out mid' = build_alike s d out mid mid' e.stand.differ e'.stand.differ alike in
              subst (Goes bs d.name) (sym (here ∙ ap (λ r. enter_build d.name r mid) same)) (entered bs out mid mid' e.grows e.stand e'.stand (leaves out.uses) alike (build s d out mid') refl (first ∙ there))

      module_goes : Goes bs d.name (reach_module s defs d f bs)
      module_goes = by (preprocessed_of (defined defs) d) refl
        where
          by : (r : Result Output Fault) → preprocessed_of (defined defs) d ≡ r → Goes bs d.name (reach_module s defs d f bs)
          by (Ok out) read = read_goes out read
          by (Err fault) read =
              let w = unbuilt d.name (record { fault = fault; offset = 0 }) in
              let there : reach_module s defs d f [] ≡ record { builds = []; result = Err w } = module_unread s defs d f [] w (ap (λ r. preprocess_module defs d r []) read) in
              subst (Goes bs d.name) (sym (module_unread s defs d f bs w (ap (λ r. preprocess_module defs d r bs) read))) (ends_so bs bs d.name w (ap (λ o. o.result) (first ∙ there)) (grows_none bs) st)

  -- ---- registered modules

  -- the rest of a registry
  abbrev IsAfter : List Registered → Type 0
  IsAfter es = (x : List ℕ) → registered x es ≡ true → (cs : Builds) → reach s defs es x cs ≡ reach s defs ds x cs

  past_first : (d : Registered) (earlier : List Registered) → registered d.name earlier ≡ false → IsAfter (d ∷ earlier) → IsAfter earlier
  past_first d earlier fresh following x r cs = by (bytes_eq d.name x) refl
    where
      by : (q : Bool) → bytes_eq d.name x ≡ q → reach s defs earlier x cs ≡ reach s defs ds x cs
      by true q = absurd (true≢false (sym r ∙ ap (λ n. registered n earlier) (sym (bytes_same d.name x q)) ∙ fresh))
      by false q = sym (reach-past s defs d earlier x q cs) ∙ following x (ap (λ b. b || registered x earlier) q ∙ r) cs

  all_go : (es : List Registered) → IsRegistry es → IsAfter es → (name : List ℕ) → registered name es ≡ true → (bs : Builds) → Stand bs → Goes bs name (reach s defs es name bs)
  all_go [] all following name r bs st = absurd (true≢false (sym r))
  all_go (d ∷ earlier) all following name r bs st = by (bytes_eq d.name name) refl r (all_go earlier all.1 (past_first d earlier all.0.name following))
    where
      f : Reaching
      f = unless_built (reach s defs earlier)

      itself : bytes_eq d.name d.name ≡ true
      itself = (bytes_eq-Decides d.name d.name).1 refl

      here : ((x : List ℕ) → registered x earlier ≡ true → (cs : Builds) → Stand cs → Goes cs x (reach s defs earlier x cs)) → Goes bs d.name (reach s defs (d ∷ earlier) d.name bs)
      here known = subst (Goes bs d.name) (sym (reach-first s defs d earlier d.name itself bs)) (module_goes d (unless_built (reach s defs earlier)) (sym (following d.name (ap (λ b. b || registered d.name earlier) itself) []) ∙ reach-first s defs d earlier d.name itself []) (λ u may cs k. unless_goes (reach s defs earlier) u.import.import cs k (known u.import.import (imported_registered d earlier all.0 u.import.import (allowed d u may)) cs k)) (λ us. leaves_each d.name (as_recorded d) (unless_built (reach s defs earlier)) (leaves_unless d.name (reach s defs earlier) (leaves_reach d.name s defs earlier all.0.name)) us [] refl) bs st)

      by : (q : Bool) → bytes_eq d.name name ≡ q → (q || registered name earlier) ≡ true → ((x : List ℕ) → registered x earlier ≡ true → (cs : Builds) → Stand cs → Goes cs x (reach s defs earlier x cs)) → Goes bs name (reach s defs (d ∷ earlier) name bs)
      by true q r known = subst (λ n. Goes bs n (reach s defs (d ∷ earlier) n bs)) (bytes_same d.name name q) (here known)
      by false q r known = subst (Goes bs name) (sym (reach-past s defs d earlier name q bs)) (known name r bs st)

  module _ (all : IsRegistry ds) where
    goes : (name : List ℕ) (bs : Builds) → Stand bs → Goes bs name (reach s defs ds name bs)
    goes name bs st = by (registered name ds) refl
      where
        by : (q : Bool) → registered name ds ≡ q → Goes bs name (reach s defs ds name bs)
        by true q = all_go ds all (λ x r cs. refl) name q bs st
        by false q = subst (Goes bs name) (sym (unregistered_missing s defs ds name q bs)) (ends_so bs bs name (missing name 0) (ap (λ o. o.result) (unregistered_missing s defs ds name q [])) (grows_none bs) st)

    -- the build of a module among such builds is its build afresh
    built_afresh : (bs : Builds) (name : List ℕ) → Stand bs → is_built bs name ≡ true → IsBuiltAfresh s ds defs bs name
    built_afresh bs name st q = record { built = q; same = named_alike bs (afresh s ds defs name).builds name st.differ (goes name [] stand_none).stand.differ (st.each name q).alike }

    reached_afresh : (name : List ℕ) (bs : Builds) (o : Outcome (Unit {0}) Unreached) → Goes bs name o → IsReachedAfresh s ds defs bs name o
    reached_afresh name bs o g = record { result = g.result; grows = g.grows; stand = g.stand; built = λ r. built_afresh o.builds name g.stand (g.built r) }

    unless_reached : (u : Use) (bs : Builds) → Stand bs → Goes bs u.import.import (unless_built (reach s defs ds) u.import.import bs)
    unless_reached u bs st = unless_goes (reach s defs ds) u.import.import bs st (goes u.import.import bs st)

    each_reached : (rule : Rule) (us : List Use) (bs : Builds) → Stand bs → AreReachedAfresh s ds defs rule us bs (reach_new s ds defs rule us bs)
    each_reached rule us bs st =
        let e = each_goes rule (unless_built (reach s defs ds)) (λ u may. unless_reached u) us bs st in
        let e' = each_goes rule (unless_built (reach s defs ds)) (λ u may. unless_reached u) us [] stand_none in
        record {
          result = e.result ∙ sym e'.result;
          grows = e.grows;
          stand = e.stand;
          built = λ r k d l. built_afresh (reach_new s ds defs rule us bs).builds (slice_index_or us k d).import.import e.stand (e.built r k d l);
        }

pub afresh_law : AfreshLaw
afresh_law s ds defs all = record {
  nothing = stand_none s ds defs;
  one = λ name bs st. reached_afresh s ds defs all name bs (reach s defs ds name bs) (goes s ds defs all name bs st);
  unless = λ name bs st. reached_afresh s ds defs all name bs (unless_built (reach s defs ds) name bs) (unless_goes s ds defs (reach s defs ds) name bs st (goes s ds defs all name bs st));
  each = each_reached s ds defs all;
  alike = uses_alike s ds defs;
}
