-- Overridden functions.
use Rattle.std.proofs.Common.{◌≡◌, ℕ, List, [], ◌∷◌, ◌++◌, map, Bool, true, false, cond, ◌||◌, Option, Some, None, option_map, MatchOption, IsSomeAnd, Bor, refl, sym, ap, ◌∙◌, String, Global, Vec, string_bytes}
use Rattle.std.proofs.lemmas.Bool.Decides.{Decides-like, same_from_decides}
use Rattle.std.proofs.lemmas.Slice.Eq.{bytes_eq-Decides}
use Rattle.std.specs.Arc.{arc_value}
use Rattle.std.specs.List.{list_any}
use Rattle.std.specs.Map.{lookup, set_value}
use Rattle.std.specs.Option.{option_copied}
use Rattle.std.specs.Str.{bytes_eq}
use Rattle.std.specs.String.{string_eq}
use Rattle.std.specs.declared.sync.Arc.{Arc}
use Rattle.indexmap.specs.IndexMap.{insert_entry}
use Rattle.naga_oil_imports.specs.Uses.{Import, import_of}
use Rattle.naga_oil_imports.specs.declared.import_definition.ImportDefinition.{ImportDefinition}
use Rattle.naga_oil_conditions.specs.Fault.{not_virtual}
use Rattle.naga_oil_words.specs.Texts.{is_among, texts}
use Rattle.naga_oil_link.specs.BuiltModule.{BuiltModule, Builds, Overriding, built_of}
use Rattle.naga_oil_build.specs.Overriding.{with_new, overridden, build_named}
use Rattle.naga_oil_build.specs.Virtuals.{imported_build, unless_virtual}
use Rattle.naga_oil_link.specs.declared.module.ComposableModule.{ComposableModule}

-- builds by their names
abbrev pub builds_in : List (String Global × Arc ComposableModule Global) → Builds
builds_in es = map (λ e. (string_bytes e.0, built_of (arc_value e.1))) es

same_bytes : (a b : List ℕ) → bytes_eq a b ≡ bytes_eq b a
same_bytes a b = same_from_decides _ _ (Decides-like _ sym sym (bytes_eq-Decides a b)) (bytes_eq-Decides b a)

abbrev pub over : List (String Global × Vec (String Global) Global) → Overriding
over es = map (λ e. (string_bytes e.0, texts e.1.items)) es

module _ (base name : List ℕ) where
  -- the names that override a function are replaced
  pub over_known : (es : List (String Global × Vec (String Global) Global)) (old new : Vec (String Global) Global) → lookup (λ k. bytes_eq base (string_bytes k)) es ≡ Some old → texts new.items ≡ with_new (texts old.items) name
      → over (set_value (λ k. bytes_eq base (string_bytes k)) es new) ≡ overridden (over es) base name
  over_known [] old new e f = absurd cc
  over_known (x ∷ es) old new e f = by (bytes_eq base (string_bytes x.0)) e (λ e. over_known es old new e f)
    where
      by : (b : Bool) → cond b (Some x.1) (lookup (λ k. bytes_eq base (string_bytes k)) es) ≡ Some old → (lookup (λ k. bytes_eq base (string_bytes k)) es ≡ Some old → over (set_value (λ k. bytes_eq base (string_bytes k)) es new) ≡ overridden (over es) base name)
          → over (cond b ((x.0, new) ∷ es) (x ∷ set_value (λ k. bytes_eq base (string_bytes k)) es new)) ≡ cond b ((string_bytes x.0, with_new (texts x.1.items) name) ∷ over es) ((string_bytes x.0, texts x.1.items) ∷ overridden (over es) base name)
      by true e rest = let same : x.1 ≡ old = cc in ap (λ ns. (string_bytes x.0, ns) ∷ over es) (f ∙ ap (λ (v : Vec (String Global) Global). with_new (texts v.items) name) (sym same))
      by false e rest = ap (λ os. (string_bytes x.0, texts x.1.items) ∷ os) (rest e)

  -- one more function
  pub over_new : (es : List (String Global × Vec (String Global) Global)) (key : String Global) (names : Vec (String Global) Global) → lookup (λ k. bytes_eq base (string_bytes k)) es ≡ None → string_bytes key ≡ base → texts names.items ≡ name ∷ []
      → over (insert_entry string_eq es key names) ≡ overridden (over es) base name
  over_new [] key names e k n = ap (λ b. (b, texts names.items) ∷ []) k ∙ ap (λ ns. (base, ns) ∷ []) n
  over_new (x ∷ es) key names e k n =
      ap (λ (b : List ℕ). over (cond (bytes_eq b (string_bytes x.0)) ((x.0, names) ∷ es) (x ∷ insert_entry string_eq es key names))) k ∙ by (bytes_eq base (string_bytes x.0)) e (λ e. over_new es key names e k n)
    where
      by : (b : Bool) → cond b (Some x.1) (lookup (λ k. bytes_eq base (string_bytes k)) es) ≡ None → (lookup (λ k. bytes_eq base (string_bytes k)) es ≡ None → over (insert_entry string_eq es key names) ≡ overridden (over es) base name)
          → over (cond b ((x.0, names) ∷ es) (x ∷ insert_entry string_eq es key names)) ≡ cond b ((string_bytes x.0, with_new (texts x.1.items) name) ∷ over es) ((string_bytes x.0, texts x.1.items) ∷ overridden (over es) base name)
      by true e rest = absurd cc
      by false e rest = ap (λ os. (string_bytes x.0, texts x.1.items) ∷ os) (rest e)

-- a name that is there, and one that isn't
pub there : (names : List (List ℕ)) (name : List ℕ) → is_among names name ≡ true → names ≡ with_new names name
there names name e = rw e refl

pub not_there : (names : List (List ℕ)) (name : List ℕ) → is_among names name ≡ false → names ++ name ∷ [] ≡ with_new names name
not_there names name e = rw e refl

pub any_among : (ss : List (String Global)) (name : List ℕ) → list_any (λ n. bytes_eq (string_bytes n) name) ss ≡ is_among (texts ss) name
any_among [] name = refl
any_among (s ∷ ss) name = ap (λ b. b || list_any (λ n. bytes_eq (string_bytes n) name) ss) (same_bytes (string_bytes s) name) ∙ ap (λ b. bytes_eq name (string_bytes s) || b) (any_among ss name)

-- the build of a name
pub found_build : (es : List (String Global × Arc ComposableModule Global)) (name : List ℕ) → option_map (λ a. built_of (arc_value a)) (lookup (λ k. bytes_eq name (string_bytes k)) es) ≡ build_named (builds_in es) name
found_build [] name = refl
found_build (e ∷ es) name = by (bytes_eq name (string_bytes e.0)) (found_build es name)
  where
    by : (b : Bool) → option_map (λ a. built_of (arc_value a)) (lookup (λ k. bytes_eq name (string_bytes k)) es) ≡ build_named (builds_in es) name → option_map (λ a. built_of (arc_value a)) (cond b (Some e.1) (lookup (λ k. bytes_eq name (string_bytes k)) es)) ≡ cond b (Some (built_of (arc_value e.1))) (build_named (builds_in es) name)
    by true h = refl
    by false h = h

-- the build of a name, as a shared reference
pub shared_build : (R : Bor (Arc ComposableModule Global) → Bor ComposableModule → Type 0) (o : Option (Bor (Arc ComposableModule Global))) (r : Option (Bor ComposableModule)) → MatchOption o (r ≡ None) (λ a. IsSomeAnd r (R a)) → ((a : Bor (Arc ComposableModule Global)) (b : Bor ComposableModule) → R a b → b.now ≡ arc_value a.now)
    → option_map (λ b. built_of b.now) r ≡ option_map (λ a. built_of (arc_value a)) (option_copied o)
shared_build R None r h k = ap (option_map (λ b. built_of b.now)) h
shared_build R (Some a) None h k = elim h [ ]
shared_build R (Some a) (Some b) h k = ap (λ m. Some (built_of m)) (k a b h)

pub any_import : (name : List ℕ) (ds : List ImportDefinition) → list_any (λ d. bytes_eq (string_bytes d.import) name) ds ≡ list_any (λ i. bytes_eq i.import name) (map import_of ds)
any_import name [] = refl
any_import name (d ∷ ds) = ap (λ b. bytes_eq (string_bytes d.import) name || b) (any_import name ds)

pub imported_then : (builds : Builds) (imports : List Import) (name : List ℕ) → list_any (λ i. bytes_eq i.import name) imports ≡ true → build_named builds name ≡ imported_build builds imports name
imported_then builds imports name e = rw e refl

pub imported_else : (builds : Builds) (imports : List Import) (name : List ℕ) → list_any (λ i. bytes_eq i.import name) imports ≡ false → None ≡ imported_build builds imports name
imported_else builds imports name e = rw e refl

-- an item that may be overridden in a build, or may not
pub virtual_there : (any : Bool) (module_name item : List ℕ) (place : ℕ) (b : BuiltModule) → (any || is_among b.virtuals item) ≡ true → unless_virtual any module_name item place (Some b) ≡ None
virtual_there any module_name item place b e = rw e refl

pub not_virtual_there : (any : Bool) (module_name item : List ℕ) (place : ℕ) (b : BuiltModule) → (any || is_among b.virtuals item) ≡ false → unless_virtual any module_name item place (Some b) ≡ Some (not_virtual item place)
not_virtual_there any module_name item place b e = rw e refl
