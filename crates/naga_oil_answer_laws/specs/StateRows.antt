-- Worked rows: what calls change of a composer, and what they leave as it is.
use Rattle.std.proofs.Common.{◌≡◌, ◌⊎◌, inl, inr, refl, ap, ℕ, true, false, List, [], ◌∷◌, length, Some, None, Ok, Err}
use Rattle.std.specs.Prelude.{codes}
use Rattle.std.specs.declared.alloc.AllocError.{AllocError}
use Rattle.naga_oil_ir.specs.declared.language.ShaderLanguage.TheVariants.{Wgsl}
use Rattle.naga_oil_lines.specs.Directives.{no_directives}
use Rattle.naga_oil_imports.specs.Uses.{Use}
use Rattle.naga_oil_conditions.specs.Fault.{import_not_found, wrong_form}
use Rattle.naga_oil_conditions.specs.declared.shader_def.ShaderDefValue.TheVariants.{Bool}
use Rattle.naga_oil_registry.specs.Registered.{Registered, Defs}
use Rattle.naga_oil_registry.specs.Registry.{reaches}
use Rattle.naga_oil_link.specs.BuiltModule.{BuiltModule, nothing_built}
use Rattle.naga_oil_build.specs.Held.{Settings}
use Rattle.naga_oil_build.specs.declared.settings.Settings.{Settings as CodeSettings}
use Rattle.naga_oil.specs.Answer.{refusal}
use Rattle.naga_oil.specs.NewlyKeptLaw.{not_in, with_keys}
use Rattle.naga_oil.specs.Outcome.{given}
use Rattle.naga_oil.specs.Reach.{missing, unbuilt, builds_with, reach, unless_built}
use Rattle.naga_oil.specs.Refused.{UnlessMemory, in_module, in_read}
use Rattle.naga_oil.specs.State.{State, nothing_registered, forget_with, ForgetsFor, Counts, Removes}
use Rattle.naga_oil.specs.Store.{key_under, Kept, KeepsAll, kept_under}

-- a module whose build may depend on FAST
abbrev row : (name : List ℕ) → (imports : List Use) → (index : ℕ) → Registered
row name imports index = record {
  name = name;
  source = [];
  language = Wgsl;
  file_path = [];
  defs = [];
  effective = codes "FAST" ∷ [];
  imports = imports;
  additional = [];
  directives = no_directives;
  index = index;
}

-- b imports a, and c is on its own
abbrev a : Registered
a = row (codes "a") [] 1

abbrev b : Registered
b = row (codes "b") (record { import = record { import = codes "a"; items = [] }; offset = 0 } ∷ []) 2

abbrev c : Registered
c = row (codes "c") [] 3

abbrev modules : List Registered
modules = c ∷ b ∷ a ∷ []

abbrev fast : Defs
fast = (codes "FAST", Bool true) ∷ []

abbrev slow : Defs
slow = (codes "FAST", Bool false) ∷ []

abbrev leaf : ℕ → BuiltModule
leaf index = nothing_built [] index

abbrev kept_c : Kept
kept_c = (key_under c fast, leaf 3) ∷ []

abbrev kept : Kept
kept = (key_under a fast, leaf 1) ∷ (key_under b fast, leaf 2) ∷ kept_c

-- ---- kept builds

under_another_value : kept_under kept (key_under b slow) ≡ None
under_another_value = refl

-- the builds of a make under keys: one of a name that isn't registered has none
keyed : with_keys modules fast ((codes "x", leaf 9) ∷ (codes "a", leaf 1) ∷ []) ≡ (key_under a fast, leaf 1) ∷ []
keyed = refl

-- a build is new under another value
new_ones : not_in kept ((key_under a slow, leaf 4) ∷ (key_under a fast, leaf 1) ∷ []) ≡ (key_under a slow, leaf 4) ∷ []
new_ones = refl

keeps_more : KeepsAll kept_c ((key_under c fast, leaf 3) ∷ (key_under a fast, leaf 1) ∷ [])
keeps_more = record { more = (key_under a fast, leaf 1) ∷ []; is = refl }

keeps_less_is_refused : KeepsAll kept_c [] → ⊥
keeps_less_is_refused h = let e = h.is in absurd cc

-- ---- removals

forgotten_with_a : forget_with modules (codes "a") kept ≡ kept_c
unfolding reaches
forgotten_with_a = refl

forgotten_with_b : forget_with modules (codes "b") kept ≡ (key_under a fast, leaf 1) ∷ kept_c
unfolding reaches
forgotten_with_b = refl

module _ {B : Type 0} (settings : CodeSettings B) where
  abbrev state : List Registered → Kept → State B
  state ds kept = record { settings = settings; registry = ds; counter = 5; kept = kept; builds = 3 }

  -- with a, b goes too, and the builds of both; the number of builds ever kept stays
  removes_a : Removes (state modules kept) (codes "a") (Ok tt) (state (c ∷ []) kept_c)
  unfolding reaches
  removes_a = record { done = refl; refused = tt; unknown = λ h. refl }

  -- a removal that leaves all as it is isn't one
  removal_of_nothing_is_refused : Removes (state modules kept) (codes "a") (Ok tt) (state modules kept) → ⊥
  unfolding reaches
  removal_of_nothing_is_refused h = let e : ◌≡◌ {A = ℕ} 3 1 = ap (λ (s : State B). length s.registry) h.done in absurd cc

  -- a removal that keeps the builds isn't one either
  removal_that_keeps_is_refused : Removes (state modules kept) (codes "a") (Ok tt) (state (c ∷ []) kept) → ⊥
  unfolding reaches
  removal_that_keeps_is_refused h = let e : ◌≡◌ {A = ℕ} 3 1 = ap (λ (s : State B). length s.kept) h.done in absurd cc

  -- without memory nothing is removed
  removes_nothing : (e : AllocError) → Removes (state modules kept) (codes "a") (Err e) (state modules kept)
  unfolding reaches
  removes_nothing e = record { done = tt; refused = refl; unknown = λ h. absurd cc }

  -- the removal of an unknown name succeeds, and removes nothing
  removes_unknown : Removes (state modules kept) (codes "x") (Ok tt) (state modules kept)
  unfolding reaches
  removes_unknown = record { done = refl; refused = tt; unknown = λ h. refl }

  refusal_of_unknown_is_refused : (e : AllocError) → Removes (state modules kept) (codes "x") (Err e) (state modules kept) → ⊥
  unfolding reaches
  refusal_of_unknown_is_refused e h = let q = h.unknown refl in absurd cc

  -- ---- a new composer

  no_modules : (nothing_registered settings).registry ≡ []
  no_modules = refl

  none_kept : (nothing_registered settings).kept ≡ []
  none_kept = refl

  first_number : (nothing_registered settings).counter ≡ 0
  first_number = refl

  none_built : (nothing_registered settings).builds ≡ 0
  none_built = refl

-- ---- additions

-- a module of the name a is added again: the builds of a and b are forgotten
forgets_for : ForgetsFor {F = ℕ} modules (Ok (row (codes "a") [] 7)) kept kept_c
unfolding reaches
forgets_for = (row (codes "a") [] 7, refl, refl)

forgets_none_is_refused : ForgetsFor {F = ℕ} modules (Err 0) kept kept → ⊥
forgets_none_is_refused h = let e = h.1 in absurd cc

-- ---- numbers of automatic bindings

counted : Counts {X = ℕ} {E = ℕ} (λ e. Some e) (Ok 0) 5 4 5
counted = record { exact = refl; either = inr refl }

uncounted_is_refused : Counts {X = ℕ} {E = ℕ} (λ e. Some e) (Ok 0) 5 4 4 → ⊥
uncounted_is_refused h = let e = h.exact in absurd cc

-- without memory the counter may be the old one
uncounted_without_memory : Counts {X = ℕ} {E = ℕ} {F = ℕ} (λ e. None) (Err 0) 5 4 4
uncounted_without_memory = record { exact = tt; either = inl refl }

another_number_is_refused : Counts {X = ℕ} {E = ℕ} {F = ℕ} (λ e. None) (Err 0) 5 4 6 → ⊥
another_number_is_refused h = neither h.either
  where
    neither : (◌≡◌ {A = ℕ} 6 4) ⊎ (◌≡◌ {A = ℕ} 6 5) → ⊥
    neither (inl e) = absurd cc
    neither (inr e) = absurd cc

-- ---- out of memory

nothing_asked : UnlessMemory {X = ℕ} {E = ℕ} {F = ℕ} (λ e. None) (Err 0) ⊥
nothing_asked = tt

asked_of_faults : UnlessMemory {X = ℕ} {E = ℕ} (λ e. Some e) (Err 0) ⊥ → ⊥
asked_of_faults h = h

asked_of_values : UnlessMemory {X = ℕ} {E = ℕ} (λ e. Some e) (Ok 0) ⊥ → ⊥
asked_of_values h = h

-- ---- what is reached

-- a name has one build
entered_once : builds_with ((codes "a", leaf 1) ∷ []) (codes "a") (leaf 2) ≡ (codes "a", leaf 1) ∷ []
entered_once = refl

entered : builds_with ((codes "a", leaf 1) ∷ []) (codes "b") (leaf 2) ≡ (codes "a", leaf 1) ∷ (codes "b", leaf 2) ∷ []
entered = refl

-- nothing is registered
not_registered : (s : Settings) → reach s [] [] (codes "x") [] ≡ record { builds = []; result = Err (missing (codes "x") 0) }
unfolding reach
not_registered s = refl

-- what is built isn't reached again
built_already : unless_built (λ n. given (Err (missing n 0))) (codes "a") ((codes "a", leaf 1) ∷ []) ≡ given (Ok tt) ((codes "a", leaf 1) ∷ [])
built_already = refl

not_built_yet : unless_built (λ n. given (Err (missing n 0))) (codes "b") ((codes "a", leaf 1) ∷ []) ≡ given (Err (missing (codes "b") 0)) ((codes "a", leaf 1) ∷ [])
not_built_yet = refl

-- ---- refusals

-- a missing module is a fault of the shader's text
missing_in_shader : refusal (codes "p") (codes "t") fast (missing (codes "m") 8) ≡ record { fault = import_not_found (codes "m") 8; place = in_read (codes "p") (codes "t") }
missing_in_shader = refl

-- one that can't be built has a fault of its own text, with the definitions that it was given
unbuilt_in_module : refusal (codes "p") (codes "t") fast (unbuilt (codes "m") (record { fault = wrong_form; offset = 2 })) ≡ record { fault = wrong_form; place = in_module (codes "m") 2 fast }
unbuilt_in_module = refl
