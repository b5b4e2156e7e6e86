-- Worked rows: settings without capabilities, where a fault of a made module lies, and what an error reports.
use Rattle.std.proofs.Common.{◌≡◌, ℕ, List, [], ◌∷◌, true, false, Option, Some, None, Result, Ok, Err, MatchOption, refl, ap, sym, subst, ◌∙◌}
use Rattle.std.specs.Prelude.{codes}
use Rattle.naga_oil_ir.specs.Backend.{FrontEnd}
use Rattle.naga_oil_ir.specs.Spans.{undefined}
use Rattle.naga_oil_ir.specs.declared.span.Span.{Span}
use Rattle.naga_oil_conditions.specs.declared.shader_def.ShaderDefValue.TheVariants as def
use Rattle.naga_oil_registry.specs.Registered.{Defs}
use Rattle.naga_oil_link.specs.BuiltModule.{BuiltModule, Builds, nothing_built}
use Rattle.naga_oil_build.specs.BuildView.{bare_settings, settings_with}
use Rattle.naga_oil_build.specs.Held.{settings}
use Rattle.naga_oil_build.specs.declared.settings.Settings.{Settings as CodeSettings}
use Rattle.naga_oil.specs.Refused.{Answers, Place, Refused, Tells, in_module, in_text, nowhere, place_of, refused_of}
use Rattle.naga_oil.specs.Validate.{fault_place}
use Rattle.naga_oil.specs.declared.compose.error.ComposerError.{ComposerError}

-- ---- settings

module _ (front : FrontEnd) where
  validating : settings_with (λ f. f) (bare_settings front true) ≡ settings front (record { 0 = 0 }) true false
  validating = refl

  not_validating : settings_with (λ f. f) (bare_settings front false) ≡ settings front (record { 0 = 0 }) false false
  not_validating = refl

  abbrev any_overridden : CodeSettings FrontEnd
  any_overridden = record { front = front; capabilities = record { 0 = 0 }; validate = true; override_any = true }

  -- not each function may be overridden
  any_override_is_refused : bare_settings front true ≡ any_overridden → ⊥
  any_override_is_refused h = let e : false ≡ true = ap (λ (s : CodeSettings FrontEnd). s.override_any) h in absurd cc

-- ---- places of faults

-- a build of a module, whose text begins after a heading
abbrev built : (index offset : ℕ) → BuiltModule
built index offset = record (nothing_built [] index) { offset = offset }

abbrev pub builds : Builds
builds = (codes "a", built 1 30) ∷ (codes "b", built 2 40) ∷ []

abbrev defs : Defs
defs = (codes "FAST", def.Bool true) ∷ []

abbrev shader : Place
shader = in_text (codes "p") (codes "t") 9

-- the place of a fault with these spans
abbrev at : List Span → Place
at [] = fault_place builds defs shader (record { message = codes "no"; spans = []; notes = [] })
at (s ∷ []) = fault_place builds defs shader (record { message = codes "no"; spans = (s, []) ∷ []; notes = [] })
at (s ∷ t ∷ more) = fault_place builds defs shader (record { message = codes "no"; spans = (s, []) ∷ (t, codes "here") ∷ []; notes = [] })

-- spans in the texts of the shader and of the first three modules, whose bytes count from multiples of 2^21
abbrev in_shader : Span
in_shader = record { start = 5; end = 6 }

abbrev in_a : Span
in_a = record { start = 2097157; end = 2097158 }

abbrev in_b : Span
in_b = record { start = 4194304; end = 4194310 }

abbrev in_third : Span
in_third = record { start = 6291456; end = 6291457 }

in_module_b : at (in_b ∷ []) ≡ in_module (codes "b") 40 defs
in_module_b = refl

-- the last span counts
last_in_a : at (in_b ∷ in_a ∷ []) ≡ in_module (codes "a") 30 defs
last_in_a = refl

last_in_shader : at (in_a ∷ in_shader ∷ []) ≡ shader
last_in_shader = refl

-- a span without a place, and no span at all
without_place : at (undefined ∷ []) ≡ shader
without_place = refl

without_span : at [] ≡ shader
without_span = refl

-- this make didn't build the third module
not_built : at (in_third ∷ []) ≡ shader
not_built = refl

place_of_shader_is_refused : at (in_b ∷ []) ≡ shader → ⊥
place_of_shader_is_refused h = absurd cc

-- ---- what an error reports

-- the place of what a value is refused for
abbrev place_in : Place → Result ℕ Refused → Place
place_in other (Ok n) = other
place_in other (Err r) = r.place

-- an error that reports what some value is refused for
abbrev Reports : ComposerError → Result ℕ Refused → Option Refused → Type 0
Reports e value o = MatchOption o (place_of e.source ≡ nowhere) (λ (x : Refused). value ≡ Err x)

module _ (e : ComposerError) (r : Refused) (is : refused_of e ≡ Some r) where
  refusal_is_reported : Tells {Y = ℕ} e (Err r)
  refusal_is_reported = subst (Reports e (Err r)) (sym is) refl

  value_is_refused : (n : ℕ) → Tells e (Ok n) → ⊥
  value_is_refused n h = let same : ◌≡◌ {A = Result ℕ Refused} (Ok n) (Err r) = subst (Reports e (Ok n)) is h in absurd cc

  another_place_is_refused : (place : Place) → (place ≡ r.place → ⊥) → Tells {Y = ℕ} e (Err (record r { place = place })) → ⊥
  another_place_is_refused place other h =
      let same : ◌≡◌ {A = Result ℕ Refused} (Err (record r { place = place })) (Err r) = subst (Reports e (Err (record r { place = place }))) is h in
      other (ap (place_in place) same)

module _ (e : ComposerError) (memory : refused_of e ≡ None) where
  -- out of memory, which has no place, may come in place of any value
  out_of_memory : place_of e.source ≡ nowhere → (value : Result ℕ Refused) → Tells e value
  out_of_memory lies value = subst (Reports e value) (sym memory) lies

  memory_with_a_place_is_refused : place_of e.source ≡ in_text (codes "p") [] 0 → (value : Result ℕ Refused) → Tells e value → ⊥
  memory_with_a_place_is_refused lies value h =
      let there : place_of e.source ≡ nowhere = subst (Reports e value) memory h in
      let same : in_text (codes "p") [] 0 ≡ nowhere = sym lies ∙ there in
      absurd cc

-- ---- what a call answers

number_is_answered : Answers {X = ℕ} {Y = ℕ} (λ n. n) (Ok 3) (Ok 3)
number_is_answered = refl

another_number_is_refused : Answers {X = ℕ} {Y = ℕ} (λ n. n) (Ok 3) (Ok 4) → ⊥
another_number_is_refused h = let same : ◌≡◌ {A = Result ℕ Refused} (Ok 4) (Ok 3) = h in absurd cc
