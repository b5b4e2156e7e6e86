-- The builds that a make newly keeps.
use Rattle.std.proofs.Common.{◌≡◌, ℕ, List, [], ◌∷◌, ◌++◌, Bool, true, false, not, ◌||◌, cond, refl, sym, ap, subst, ◌∙◌, Option, Some, None, option_map, append_assoc, append-nil}
use Rattle.std.proofs.lemmas.Bool.{true≢false, false_from_ne_true}
use Rattle.std.proofs.lemmas.List.Folds.{list_any-append}
use Rattle.std.proofs.lemmas.Map.Keys.{IsDistinct-head, IsDistinct-tail}
use Rattle.std.specs.List.{AllByRecursion, cons_option}
use Rattle.std.proofs.lemmas.Slice.Eq.{bytes_eq-Decides}
use Rattle.std.specs.Map.{keys_of}
use Rattle.std.specs.Option.{IsSomeAnd}
use Rattle.std.specs.Str.{bytes_eq}
use Rattle.naga_oil_registry.specs.Registered.{Registered, Defs}
use Rattle.naga_oil_link.specs.BuiltModule.{BuiltModule, Builds}
use Rattle.naga_oil.specs.LocalLaw.{BuildsDiffer}
use Rattle.naga_oil.specs.NewlyKeptLaw.{with_keys, not_in, NewlyKeptLaw}
use Rattle.naga_oil.specs.Reach.{is_built}
use Rattle.naga_oil.specs.Store.{Key, Kept, key_named, same_key, is_kept, keep_build, keep_named, keep_builds}
use Rattle.naga_oil.proofs.ReachLawLemmas.{or_true}
use Rattle.naga_oil.proofs.StoreKeyLemmas.{key-Decides, keep_there, keep_last, keep_named_kept}
use Rattle.naga_oil.proofs.StoreReachLemmas.{key_name}

-- one build more is kept, and other builds are kept as before
not_other : (kept : Kept) (k : Key) (b : BuiltModule) (more : Kept) → AllByRecursion (λ e. same_key e.0 k ≡ false) more → not_in (kept ++ (k, b) ∷ []) more ≡ not_in kept more
not_other kept k b [] others = refl
not_other kept k b (e ∷ es) others = λ i. cond (not (as_before i)) (e ∷ not_other kept k b es others.1 i) (not_other kept k b es others.1 i)
  where
    or_none : (p q : Bool) → q ≡ false → (p || (q || false)) ≡ p
    or_none true q h = refl
    or_none false q h = ap (λ c. c || false) h

    as_before : is_kept (kept ++ (k, b) ∷ []) e.0 ≡ is_kept kept e.0
    as_before = list_any-append (λ (x : Key × BuiltModule). same_key e.0 x.0) kept ((k, b) ∷ []) ∙ or_none (is_kept kept e.0) (same_key e.0 k) others.0

module _ (ds : List Registered) (defs : Defs) where
  -- different names have different keys
  keys_apart : (k : Key) (builds : Builds) → AllByRecursion (λ n. bytes_eq k.name n ≡ false) (keys_of builds) → AllByRecursion (λ e. same_key e.0 k ≡ false) (with_keys ds defs builds)
  keys_apart k [] others = tt
  keys_apart k (e ∷ es) others = by (key_named ds defs e.0) refl (keys_apart k es others.1)
    where
      by : (o : Option Key) → key_named ds defs e.0 ≡ o → AllByRecursion (λ x. same_key x.0 k ≡ false) (with_keys ds defs es) → AllByRecursion (λ x. same_key x.0 k ≡ false) (cons_option (option_map (λ l. (l, e.1)) o) (with_keys ds defs es))
      by None h rest = rest
      by (Some l) h rest = (false_from_ne_true (same_key l k) (λ q. true≢false (sym ((bytes_eq-Decides k.name e.0).1 (ap (λ (x : Key). x.name) (sym ((key-Decides l k).0 q)) ∙ key_name ds e.0 defs l h)) ∙ others.0)), rest)

  newly_kept : (kept : Kept) (builds : Builds) → BuildsDiffer builds → keep_builds ds defs kept builds ≡ kept ++ not_in kept (with_keys ds defs builds)
  newly_kept kept [] differ = sym (append-nil kept)
  newly_kept kept (e ∷ es) differ = by (key_named ds defs e.0) refl (λ now. newly_kept now es (IsDistinct-tail bytes_eq e.0 (keys_of es) differ))
    where
      Known : Type 0
      Known = (now : Kept) → keep_builds ds defs now es ≡ now ++ not_in now (with_keys ds defs es)

      apart : (k : Key) → k.name ≡ e.0 → AllByRecursion (λ x. same_key x.0 k ≡ false) (with_keys ds defs es)
      apart k n = keys_apart k es (subst (λ x. AllByRecursion (λ m. bytes_eq x m ≡ false) (keys_of es)) (sym n) (IsDistinct-head bytes_eq e.0 (keys_of es) differ))

      one : (k : Key) → k.name ≡ e.0 → Known → (q : Bool) → is_kept kept k ≡ q → keep_builds ds defs (keep_build kept k e.1) es ≡ kept ++ cond (not q) ((k, e.1) ∷ not_in kept (with_keys ds defs es)) (not_in kept (with_keys ds defs es))
      one k n known true q = ap (λ now. keep_builds ds defs now es) (keep_there kept k e.1 q) ∙ known kept
      one k n known false q =
          ap (λ now. keep_builds ds defs now es) (keep_last kept k e.1 q)
          ∙ known (kept ++ (k, e.1) ∷ [])
          ∙ append_assoc kept ((k, e.1) ∷ []) (not_in (kept ++ (k, e.1) ∷ []) (with_keys ds defs es))
          ∙ ap (λ more. kept ++ (k, e.1) ∷ more) (not_other kept k e.1 (with_keys ds defs es) (apart k n))

      by : (o : Option Key) → key_named ds defs e.0 ≡ o → Known → keep_builds ds defs (keep_named o e.1 kept) es ≡ kept ++ not_in kept (cons_option (option_map (λ k. (k, e.1)) o) (with_keys ds defs es))
      by None h known = known kept
      by (Some k) h known = one k (key_name ds e.0 defs k h) known (is_kept kept k) refl

pub newly_kept_law : NewlyKeptLaw
newly_kept_law ds defs kept builds differ = newly_kept ds defs kept builds differ

-- builds that are all kept add nothing
pub keep_builds_kept : (ds : List Registered) (defs : Defs) (kept : Kept) (builds : Builds) → ((name : List ℕ) → is_built builds name ≡ true → IsSomeAnd (key_named ds defs name) (λ k. is_kept kept k ≡ true)) → keep_builds ds defs kept builds ≡ kept
keep_builds_kept ds defs kept [] all = refl
keep_builds_kept ds defs kept (e ∷ es) all =
    ap (λ now. keep_builds ds defs now es) (keep_named_kept ds defs kept e.0 e.1 (all e.0 (ap (λ b. b || is_built es e.0) ((bytes_eq-Decides e.0 e.0).1 refl))))
    ∙ keep_builds_kept ds defs kept es (λ name h. all name (ap (λ b. bytes_eq name e.0 || b) h ∙ or_true (bytes_eq name e.0)))
