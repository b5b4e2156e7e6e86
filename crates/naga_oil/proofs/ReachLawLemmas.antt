-- Laws: what the builds of a make depend on.
use Rattle.std.proofs.Common.{◌≡◌, ℕ, List, [], ◌∷◌, ◌++◌, Bool, true, false, ◌||◌, cond, refl, sym, ap, subst, ◌∙◌, Option, Some, None, option_map, unwrap_or, is_some, Result, Ok, Err}
use Rattle.std.proofs.lemmas.Bool.{and_parts, true≢false}
use Rattle.std.proofs.lemmas.List.Folds.{list_any-append}
use Rattle.std.proofs.lemmas.Slice.Eq.{bytes_eq-Decides}
use Rattle.std.specs.List.{list_any, list_all, flat_map}
use Rattle.std.specs.Str.{bytes_eq}
use Rattle.naga_oil_words.specs.Texts.{is_among}
use Rattle.naga_oil_imports.specs.Uses.{Use}
use Rattle.naga_oil_conditions.specs.Fault.{Fault}
use Rattle.naga_oil_pre.specs.Preprocessed.{Output}
use Rattle.naga_oil_pre.specs.Recorded.{is_recorded, AgreeOn}
use Rattle.naga_oil_pre.proofs.Agreement.{recorded_names_decide}
use Rattle.naga_oil_registry.specs.Registered.{Registered, Defs}
use Rattle.naga_oil_registry.specs.Merged.{recorded_names}
use Rattle.naga_oil_registry.specs.Registry.{registered, module_named, reaches, effective_names, MayFollow, IsRegistry}
use Rattle.naga_oil_registry.proofs.AddedLemmas.{named-registered}
use Rattle.naga_oil_registry.proofs.NamesLemmas.{among-in_order}
use Rattle.naga_oil_registry.proofs.RegistryLemmas.{bytes_same}
use Rattle.naga_oil_registry.proofs.RemovedLemmas.{reaches-unregistered}
use Rattle.naga_oil_link.specs.BuiltModule.{Builds}
use Rattle.naga_oil_build.specs.Build.{build}
use Rattle.naga_oil_build.specs.Built.{preprocessed_of}
use Rattle.naga_oil_build.specs.Held.{Settings}
use Rattle.naga_oil.specs.Outcome.{Outcome, Doing, given, done_with, ◌>>=◌}
use Rattle.naga_oil.specs.Reach.{Unreached, missing, defined, is_built, enter_build, Rule, Reaching, unless_built, unless_refused, as_recorded, preprocess_module, reach_each, reach_module, reach}
use Rattle.naga_oil.specs.ReachLaw.{ProjectionLaw, RegistryLaw}

-- ---- steps that are alike

-- what follows is alike
goes_on_alike : {X Y F : Type 0} (k l : X → Doing Y F) → ((x : X) (bs : Builds) → k x bs ≡ l x bs) → (o : Outcome X F) → done_with o k o.result ≡ done_with o l o.result
goes_on_alike {X = X} {F = F} k l h o = by o.result
  where
    by : (r : Result X F) → done_with o k r ≡ done_with o l r
    by (Ok x) = h x o.builds
    by (Err e) = refl

pub bind_alike : {X Y F : Type 0} (a b : Doing X F) (k l : X → Doing Y F) (bs : Builds) → a bs ≡ b bs → ((x : X) (bs : Builds) → k x bs ≡ l x bs) → (a >>= k) bs ≡ (b >>= l) bs
bind_alike a b k l bs e h = ap (λ o. done_with o k o.result) e ∙ goes_on_alike k l h (b bs)

pub built_alike : (f g : Reaching) (name : List ℕ) (bs : Builds) → f name bs ≡ g name bs → unless_built f name bs ≡ unless_built g name bs
built_alike f g name bs e = ap (λ o. cond (is_built bs name) (given (Ok tt) bs) o) e

-- a use that a rule allows is reached alike
pub each_alike : (rule : Rule) (f g : Reaching) → ((u : Use) → rule u ≡ None → (bs : Builds) → f u.import.import bs ≡ g u.import.import bs) → (us : List Use) (bs : Builds) → reach_each rule f us bs ≡ reach_each rule g us bs
unfolding reach_each
each_alike rule f g h [] bs = refl
each_alike rule f g h (u ∷ us) bs = bind_alike (unless_refused (rule u) (f u.import.import)) (unless_refused (rule u) (g u.import.import)) (λ _. reach_each rule f us) (λ _. reach_each rule g us) bs (by (rule u) refl) (λ _ cs. each_alike rule f g h us cs)
  where
    by : (o : Option Unreached) → rule u ≡ o → unless_refused o (f u.import.import) bs ≡ unless_refused o (g u.import.import) bs
    by None e = h u e bs
    by (Some w) e = refl

-- a module that is preprocessed alike is reached alike
module _ (s : Settings) (d e : Defs) (m : Registered) (f g : Reaching) (read : preprocessed_of (defined d) m ≡ preprocessed_of (defined e) m) (alike : (u : Use) → as_recorded m u ≡ None → (bs : Builds) → f u.import.import bs ≡ g u.import.import bs) where
  abbrev after : Reaching → Output → Doing (Unit {0}) Unreached
  after h out = reach_each (as_recorded m) h out.uses >>= λ done. λ builds. enter_build m.name (build s m out builds) builds

  begins : (r : Result Output Fault) (bs : Builds) → preprocess_module d m r bs ≡ preprocess_module e m r bs
  begins (Ok out) bs = refl
  begins (Err fault) bs = refl

  module_alike : (bs : Builds) → reach_module s d m f bs ≡ reach_module s e m g bs
  unfolding reach_module
  module_alike bs =
      bind_alike (preprocess_module d m (preprocessed_of (defined d) m)) (preprocess_module e m (preprocessed_of (defined e) m)) (after f) (after g) bs
      (begins (preprocessed_of (defined d) m) bs ∙ ap (λ r. preprocess_module e m r bs) read)
      (λ out cs. bind_alike (reach_each (as_recorded m) f out.uses) (reach_each (as_recorded m) g out.uses) (λ done. λ builds. enter_build m.name (build s m out builds) builds) (λ done. λ builds. enter_build m.name (build s m out builds) builds) cs (each_alike (as_recorded m) f g alike out.uses cs) (λ _ _. refl))

-- ---- what a module may import

abbrev pub imports_name : Registered → List ℕ → Bool
imports_name m x = list_any (λ i. bytes_eq i.import.import x) m.imports

pub allowed : (m : Registered) (u : Use) → as_recorded m u ≡ None → imports_name m u.import.import ≡ true
allowed m u = by (imports_name m u.import.import)
  where
    by : (b : Bool) → cond b None (Some (missing u.import.import 0)) ≡ None → b ≡ true
    by true e = refl
    by false e = absurd cc

pub or_true : (b : Bool) → (b || true) ≡ true
or_true true = refl
or_true false = refl

-- what holds of each import holds of an import with a name
of_each : (P : List ℕ → Bool) (us : List Use) (x : List ℕ) → list_any (λ i. bytes_eq i.import.import x) us ≡ true → list_all (λ u. P u.import.import) us ≡ true → P x ≡ true
of_each P [] x any all = absurd (true≢false (sym any))
of_each P (u ∷ us) x any all =
    let k = and_parts (P u.import.import) (list_all (λ u. P u.import.import) us) all in
    by (bytes_eq u.import.import x) refl any k.0 (λ more. of_each P us x more k.1)
  where
    by : (b : Bool) → bytes_eq u.import.import x ≡ b → (b || list_any (λ i. bytes_eq i.import.import x) us) ≡ true → P u.import.import ≡ true → (list_any (λ i. bytes_eq i.import.import x) us ≡ true → P x ≡ true) → P x ≡ true
    by true e more here there = ap P (sym (bytes_same u.import.import x e)) ∙ here
    by false e more here there = there more

-- what holds of an imported name holds of its import
pub of_one : (P : List ℕ → Bool) (us : List Use) (x : List ℕ) → list_any (λ i. bytes_eq i.import.import x) us ≡ true → P x ≡ true → list_any (λ u. P u.import.import) us ≡ true
of_one P [] x any holds = absurd (true≢false (sym any))
of_one P (u ∷ us) x any holds = by (bytes_eq u.import.import x) refl any (λ more. of_one P us x more holds)
  where
    by : (b : Bool) → bytes_eq u.import.import x ≡ b → (b || list_any (λ i. bytes_eq i.import.import x) us) ≡ true → (list_any (λ i. bytes_eq i.import.import x) us ≡ true → list_any (λ u. P u.import.import) us ≡ true) → (P u.import.import || list_any (λ u. P u.import.import) us) ≡ true
    by true e more there = ap (λ b. b || list_any (λ u. P u.import.import) us) (ap P (bytes_same u.import.import x e) ∙ holds)
    by false e more there = ap (λ b. P u.import.import || b) (there more) ∙ or_true (P u.import.import)

abbrev names_at : List Registered → List ℕ → List (List ℕ)
names_at ds name = unwrap_or (option_map (λ d. d.effective) (module_named name ds)) []

among-flat_map : {X : Type 0} (f : X → List (List ℕ)) (xs : List X) (n : List ℕ) → is_among (flat_map f xs) n ≡ list_any (λ x. is_among (f x) n) xs
among-flat_map f [] n = refl
among-flat_map f (x ∷ xs) n = list_any-append (bytes_eq n) (f x) (flat_map f xs) ∙ ap (λ b. is_among (f x) n || b) (among-flat_map f xs n)

module _ (m : Registered) (earlier : List Registered) (follows : MayFollow m earlier) where
  effective_is : (n : List ℕ) → is_among m.effective n ≡ (is_recorded m.source n || list_any (λ u. is_among (names_at earlier u.import.import) n) m.imports)
  effective_is n =
      ap (λ ns. is_among ns n) follows.effective
      ∙ among-in_order (recorded_names m.source ++ effective_names earlier m.imports) n
      ∙ list_any-append (bytes_eq n) (recorded_names m.source) (effective_names earlier m.imports)
      ∙ ap (λ b. is_recorded m.source n || b) (among-flat_map (λ u. names_at earlier u.import.import) m.imports n)

  -- the names that its text records are effective
  recorded_effective : (n : List ℕ) → is_recorded m.source n ≡ true → is_among m.effective n ≡ true
  recorded_effective n e = effective_is n ∙ ap (λ b. b || list_any (λ u. is_among (names_at earlier u.import.import) n) m.imports) e

  -- the effective names of the modules that it imports are effective
  pub imported_effective : (x : List ℕ) → imports_name m x ≡ true → (o : Registered) → module_named x earlier ≡ Some o → (n : List ℕ) → is_among o.effective n ≡ true → is_among m.effective n ≡ true
  imported_effective x may o at n e =
      effective_is n
      ∙ ap (λ b. is_recorded m.source n || b) (of_one (λ y. is_among (names_at earlier y) n) m.imports x may (ap (λ (q : Option Registered). is_among (unwrap_or (option_map (λ d. d.effective) q) []) n) at ∙ e))
      ∙ or_true (is_recorded m.source n)

  -- the modules that it imports are registered before it, that is, after it in the list
  pub imported_registered : (x : List ℕ) → imports_name m x ≡ true → registered x earlier ≡ true
  imported_registered x may = of_each (λ y. registered y earlier) m.imports x may follows.imports

-- the module with a registered name
pub named : (x : List ℕ) (ds : List Registered) → registered x ds ≡ true → (d : Registered) × (module_named x ds ≡ Some d)
named x ds r = by (module_named x ds) refl (named-registered x ds ∙ r)
  where
    by : (o : Option Registered) → module_named x ds ≡ o → is_some o ≡ true → (d : Registered) × (module_named x ds ≡ Some d)
    by None e s = absurd (true≢false (sym s))
    by (Some d) e s = (d, e)

-- ---- the definitions

read_alike : (d e : Defs) (m : Registered) → AgreeOn (is_recorded m.source) (defined d) (defined e) → preprocessed_of (defined d) m ≡ preprocessed_of (defined e) m
read_alike d e m agree = rw (recorded_names_decide m.source (defined d) (defined e) agree) refl

module _ (s : Settings) (d e : Defs) where
  abbrev Agrees : Registered → Type 0
  Agrees m = AgreeOn (is_among m.effective) (defined d) (defined e)

  -- a registered module is reached alike if its effective names are defined alike
  abbrev ReachedAlike : List Registered → Type 0
  ReachedAlike ds = (name : List ℕ) (m : Registered) → module_named name ds ≡ Some m → Agrees m → (bs : Builds) → reach s d ds name bs ≡ reach s e ds name bs

  first_alike : (m : Registered) (earlier : List Registered) → MayFollow m earlier → Agrees m → ReachedAlike earlier → (bs : Builds) → reach_module s d m (unless_built (reach s d earlier)) bs ≡ reach_module s e m (unless_built (reach s e earlier)) bs
  first_alike m earlier follows agree known = module_alike s d e m (unless_built (reach s d earlier)) (unless_built (reach s e earlier)) (read_alike d e m (λ n r. agree n (recorded_effective m earlier follows n r))) imported
    where
      imported : (u : Use) → as_recorded m u ≡ None → (bs : Builds) → unless_built (reach s d earlier) u.import.import bs ≡ unless_built (reach s e earlier) u.import.import bs
      imported u may bs =
          let x = u.import.import in
          let here = allowed m u may in
          let o = named x earlier (imported_registered m earlier follows x here) in
          built_alike (reach s d earlier) (reach s e earlier) x bs (known x o.0 o.1 (λ n r. agree n (imported_effective m earlier follows x here o.0 o.1 n r)) bs)

  all_alike : (ds : List Registered) → IsRegistry ds → ReachedAlike ds
  unfolding reach
  all_alike [] all name m at agree bs = refl
  all_alike (x ∷ earlier) all name m at agree bs = by (bytes_eq x.name name) at (all_alike earlier all.1)
    where
      by : (b : Bool) → cond b (Some x) (module_named name earlier) ≡ Some m → ReachedAlike earlier → cond b (reach_module s d x (unless_built (reach s d earlier))) (reach s d earlier name) bs ≡ cond b (reach_module s e x (unless_built (reach s e earlier))) (reach s e earlier name) bs
      by true here known =
          let same : x ≡ m = cc in
          first_alike x earlier all.0 (subst Agrees (sym same) agree) known bs
      by false there known = known name m there agree bs

pub projection : ProjectionLaw
projection s ds name m d e builds all at agree = all_alike s d e ds all name m at agree builds

-- ---- the registry

-- a registered module is found under its name
abbrev IsFoundBy : (List ℕ → Option Registered) → List Registered → Type 0
IsFoundBy look es = (x : List ℕ) → registered x es ≡ true → module_named x es ≡ look x

found_after : (look : List ℕ → Option Registered) (e : Registered) (es : List Registered) → registered e.name es ≡ false → IsFoundBy look (e ∷ es) → IsFoundBy look es
found_after look e es fresh found x r = by (bytes_eq e.name x) refl (found x)
  where
    by : (b : Bool) → bytes_eq e.name x ≡ b → ((b || registered x es) ≡ true → cond b (Some e) (module_named x es) ≡ look x) → module_named x es ≡ look x
    by true q k = absurd (true≢false (sym r ∙ ap (λ n. registered n es) (sym (bytes_same e.name x q)) ∙ fresh))
    by false q k = k r

-- a module reached from the rest of the registry is another one
found_past : (d : Registered) (earlier : List Registered) → registered d.name earlier ≡ false → (x other : List ℕ) → reaches earlier x other ≡ true → module_named other (d ∷ earlier) ≡ module_named other earlier
found_past d earlier fresh x other h = by (bytes_eq d.name other) refl
  where
    by : (b : Bool) → bytes_eq d.name other ≡ b → cond b (Some d) (module_named other earlier) ≡ module_named other earlier
    by true q = absurd (true≢false (sym h ∙ reaches-unregistered other earlier x (ap (λ n. registered n earlier) (sym (bytes_same d.name other q)) ∙ fresh)))
    by false q = refl

pub reaches-first : (d : Registered) (earlier : List Registered) (name other : List ℕ) → bytes_eq d.name name ≡ true → reaches (d ∷ earlier) name other ≡ (bytes_eq name other || list_any (λ u. reaches earlier u.import.import other) d.imports)
unfolding reaches
reaches-first d earlier name other q = ap (λ b. cond b (bytes_eq name other || list_any (λ u. reaches earlier u.import.import other) d.imports) (reaches earlier name other)) q

pub reaches-past : (d : Registered) (earlier : List Registered) (name other : List ℕ) → bytes_eq d.name name ≡ false → reaches (d ∷ earlier) name other ≡ reaches earlier name other
unfolding reaches
reaches-past d earlier name other q = ap (λ b. cond b (bytes_eq name other || list_any (λ u. reaches earlier u.import.import other) d.imports) (reaches earlier name other)) q

same_bytes : (xs : List ℕ) → bytes_eq xs xs ≡ true
same_bytes xs = (bytes_eq-Decides xs xs).1 refl

pub reaches-itself : (ds : List Registered) (name : List ℕ) → registered name ds ≡ true → reaches ds name name ≡ true
reaches-itself [] name r = absurd (true≢false (sym r))
reaches-itself (d ∷ earlier) name r = by (bytes_eq d.name name) refl r (reaches-itself earlier name)
  where
    by : (b : Bool) → bytes_eq d.name name ≡ b → (b || registered name earlier) ≡ true → (registered name earlier ≡ true → reaches earlier name name ≡ true) → reaches (d ∷ earlier) name name ≡ true
    by true q here known = reaches-first d earlier name name q ∙ ap (λ b. b || list_any (λ u. reaches earlier u.import.import name) d.imports) (same_bytes name)
    by false q there known = reaches-past d earlier name name q ∙ known there

module _ (s : Settings) (defs : Defs) where
  pub reach-first : (e : Registered) (es : List Registered) (name : List ℕ) → bytes_eq e.name name ≡ true → (bs : Builds) → reach s defs (e ∷ es) name bs ≡ reach_module s defs e (unless_built (reach s defs es)) bs
  unfolding reach
  reach-first e es name q bs = ap (λ b. cond b (reach_module s defs e (unless_built (reach s defs es))) (reach s defs es name) bs) q

  pub reach-past : (e : Registered) (es : List Registered) (name : List ℕ) → bytes_eq e.name name ≡ false → (bs : Builds) → reach s defs (e ∷ es) name bs ≡ reach s defs es name bs
  unfolding reach
  reach-past e es name q bs = ap (λ b. cond b (reach_module s defs e (unless_built (reach s defs es))) (reach s defs es name) bs) q

  -- a module of a registry, with the rest of the registry after it
  record Stands (look : List ℕ → Option Registered) (name : List ℕ) (d : Registered) (es : List Registered) : Type 0 where
    following : List Registered
    follows : MayFollow d following
    all : IsRegistry following
    found : IsFoundBy look following
    reached : (bs : Builds) → reach s defs es name bs ≡ reach_module s defs d (unless_built (reach s defs following)) bs

  stands : (look : List ℕ → Option Registered) (name : List ℕ) (d : Registered) (es : List Registered) → IsRegistry es → IsFoundBy look es → module_named name es ≡ Some d → Stands look name d es
  stands look name d [] all found at = absurd cc
  stands look name d (e ∷ es) all found at = by (bytes_eq e.name name) refl at (stands look name d es all.1 (found_after look e es all.0.name found))
    where
      by : (b : Bool) → bytes_eq e.name name ≡ b → cond b (Some e) (module_named name es) ≡ Some d → (module_named name es ≡ Some d → Stands look name d es) → Stands look name d (e ∷ es)
      by true q here known =
          let same : e ≡ d = cc in
          record {
            following = es;
            follows = subst (λ (x : Registered). MayFollow x es) same all.0;
            all = all.1;
            found = found_after look e es all.0.name found;
            reached = λ bs. reach-first e es name q bs ∙ ap (λ x. reach_module s defs x (unless_built (reach s defs es)) bs) same;
          }
      by false q there known =
          let k = known there in
          record { following = k.following; follows = k.follows; all = k.all; found = k.found; reached = λ bs. reach-past e es name q bs ∙ k.reached bs }

  -- from one registry to another, in which each reached module is found
  abbrev IsReachedAs : List Registered → Type 0
  IsReachedAs ds = (es : List Registered) (look : List ℕ → Option Registered) (name : List ℕ) → IsRegistry es → IsFoundBy look es → registered name es ≡ true → registered name ds ≡ true → ((other : List ℕ) → reaches ds name other ≡ true → look other ≡ module_named other ds) → (bs : Builds) → reach s defs ds name bs ≡ reach s defs es name bs

  reached_as : (ds : List Registered) → IsRegistry ds → IsReachedAs ds
  reached_as [] all es look name all' found r' r alike bs = absurd (true≢false (sym r))
  reached_as (d ∷ earlier) all es look name all' found r' r alike bs = by (bytes_eq d.name name) refl r (reached_as earlier all.1)
    where
      past : (x other : List ℕ) → reaches earlier x other ≡ true → module_named other (d ∷ earlier) ≡ module_named other earlier
      past = found_past d earlier all.0.name

      first : bytes_eq d.name name ≡ true → module_named name es ≡ Some d
      first q = found name r' ∙ alike name (reaches-itself (d ∷ earlier) name r) ∙ ap (λ b. cond b (Some d) (module_named name earlier)) q

      imported : bytes_eq d.name name ≡ true → IsReachedAs earlier → (k : Stands look name d es) (u : Use) → as_recorded d u ≡ None → (cs : Builds) → unless_built (reach s defs earlier) u.import.import cs ≡ unless_built (reach s defs k.following) u.import.import cs
      imported q known k u may cs =
          let x = u.import.import in
          let here = allowed d u may in
          built_alike (reach s defs earlier) (reach s defs k.following) x cs (known k.following look x k.all k.found (imported_registered d k.following k.follows x here) (imported_registered d earlier all.0 x here) (λ other h. alike other (reaches-first d earlier name other q ∙ ap (λ b. bytes_eq name other || b) (of_one (λ y. reaches earlier y other) d.imports x here h) ∙ or_true (bytes_eq name other)) ∙ past x other h) cs)

      by : (b : Bool) → bytes_eq d.name name ≡ b → (b || registered name earlier) ≡ true → IsReachedAs earlier → reach s defs (d ∷ earlier) name bs ≡ reach s defs es name bs
      by true q here known =
          let k = stands look name d es all' found (first q) in
          reach-first d earlier name q bs ∙ module_alike s defs defs d (unless_built (reach s defs earlier)) (unless_built (reach s defs k.following)) refl (imported q known k) bs ∙ sym (k.reached bs)
      by false q there known =
          reach-past d earlier name q bs ∙ known es look name all' found r' there (λ other h. alike other (reaches-past d earlier name other q ∙ h) ∙ past name other h) bs

pub what_is_reached : RegistryLaw
what_is_reached s defs ds es name builds all all' r alike =
    let there : module_named name es ≡ module_named name ds = alike name (reaches-itself ds name r) in
    let r' : registered name es ≡ true = sym (named-registered name es) ∙ ap is_some there ∙ named-registered name ds ∙ r in
    reached_as s defs ds all es (λ other. module_named other es) name all' (λ x _. refl) r' r alike builds
