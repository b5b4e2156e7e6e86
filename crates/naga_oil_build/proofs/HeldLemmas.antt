-- What a build holds of the module that its whole text is parsed to.
use Rattle.std.proofs.Common.{◌≡◌, ℕ, ◌<◌, ◌≤◌, Bool, true, false, not, nat_lt, cond, List, length, Option, Some, None, Result, Ok, Err, refl, sym, ap, ◌∙◌}
use Rattle.std.specs.Prelude.{◌&&◌}
use Rattle.std.proofs.lemmas.Bool.{lt-ltb, le-ltb}
use Rattle.naga_oil_ir.specs.Backend.{FrontEnd}
use Rattle.naga_oil_ir.specs.ModuleValue.{ModuleValue}
use Rattle.naga_oil_form.specs.declared.check_form.FormFault.{FormFault}
use Rattle.naga_oil_form.specs.declared.check_form.FormFault.TheVariants.{WrongForm, Memory}
use Rattle.naga_oil_ir.specs.declared.language.ShaderLanguage.{ShaderLanguage}
use Rattle.naga_oil_conditions.specs.Fault.{Fault, text_too_large, wrong_form}
use Rattle.naga_oil_conditions.specs.View.{Fails, Gives}
use Rattle.naga_oil_conditions.specs.declared.fault.ComposerErrorInner.{ComposerErrorInner}
use Rattle.naga_oil_words.specs.ResultSteps.{◌>>=◌}
use Rattle.naga_oil_registry.proofs.NewDefinitionLemmas.{fails-through}
use Rattle.naga_oil_link.specs.BuiltModule.{BuiltModule}
use Rattle.naga_oil_link.specs.CopiedBuild.{copy_build, copies_special}
use Rattle.naga_oil_form.specs.Form.{is_formed}
use Rattle.naga_oil_form_laws.specs.ShapeTest.{has_shape}
use Rattle.naga_oil_form.specs.FormView.{GivesFormed}
use Rattle.naga_oil_link.specs.OwnPlaces.{OwnPlaces}
use Rattle.naga_oil_link.specs.Owned.{own_places, owned_module, owned_build}
use Rattle.naga_oil_build.specs.Built.{parsed_text}
use Rattle.naga_oil_build.specs.Held.{Settings, parse_whole, is_tested, if_tested, names_back, copy_tested, hold}
use Rattle.naga_oil_build.specs.HeldView.{FormedAs}
use Rattle.naga_oil_build.specs.Writeback.{came_back}
use Rattle.naga_oil_ir.specs.Spans.{span_stride}

-- the fault of a part is that of the whole
pub fails_on : {Y Z : Type 0} (e : ComposerErrorInner) (v : Result Y Fault) (more : Y → Result Z Fault) → Fails e v → Fails e (v >>= more)
fails_on e v more h = fails-through e v (v >>= more) h (λ f p. ap (λ (r : Result _ Fault). r >>= more) p)

-- ---- forms
-- a value, or the fault of a wrong form
abbrev pub or_wrong_form : {X : Type 0} → Option X → Result X Fault
or_wrong_form (Some x) = Ok x
or_wrong_form None = Err wrong_form

-- a result of the test of form, as an error
pub given_form : {X Y : Type 0} (view : X → Y) (answer : Result X FormFault) (r : Result X ComposerErrorInner) (o : Option Y) → FormedAs answer r → GivesFormed view answer o → Gives view r (or_wrong_form o)
given_form view (Ok x) r o f g = rw (f, g) refl
given_form view (Err WrongForm) r o f g = rw (f, g) refl
given_form view (Err Memory) r o f g = rw f tt

-- what a test of the form says
abbrev pub passed : Bool → Result (Unit {0}) Fault
passed b = or_wrong_form (cond b (Some tt) None)

is_passed : (b : Bool) (m : ModuleValue) → passed b ≡ Ok tt → cond b (Ok m) (Err wrong_form) ≡ Ok m
is_passed true m e = refl
is_passed false m e = absurd cc

not_passed : (b : Bool) (m : ModuleValue) (f : Fault) → passed b ≡ Err f → cond b (Ok m) (Err wrong_form) ≡ Err f
not_passed true m f e = absurd cc
not_passed false m f e = cc

-- a test with one that passes
with_passed : {X : Type 0} (b c : Bool) (x y : X) → c ≡ true → cond (b && c) x y ≡ cond b x y
with_passed true c x y e = ap (λ t. cond t x y) e
with_passed false c x y e = refl

module _ (front : FrontEnd) (language : ShaderLanguage) (text decoration : List ℕ) where
  pub whole_too_large : span_stride ≤ length text → parse_whole front language text decoration ≡ Err text_too_large
  unfolding parse_whole
  whole_too_large le = rw (le-ltb (length text) span_stride le) refl

  pub whole_unparsed : length text < span_stride → (e : ComposerErrorInner) → Fails e (parsed_text front language text) → Fails e (parse_whole front language text decoration)
  unfolding parse_whole
  whole_unparsed lt e h = fails-through e (parsed_text front language text) _ h (λ f p. rw (lt-ltb (length text) span_stride lt, p) refl)

  pub whole_misformed : length text < span_stride → (m : ModuleValue) → has_shape m ≡ true → parsed_text front language text ≡ Ok m → (e : ComposerErrorInner) → Fails e (passed (is_formed m decoration (length text))) → Fails e (parse_whole front language text decoration)
  unfolding parse_whole
  whole_misformed lt m shape q e h =
      let formed = is_formed m decoration (length text) in
      fails-through e (passed formed) _ h (λ f p. rw (lt-ltb (length text) span_stride lt, q) (with_passed formed (has_shape m) (Ok m) (Err wrong_form) shape ∙ not_passed formed m f p))

  pub whole_parsed : length text < span_stride → (m : ModuleValue) → has_shape m ≡ true → parsed_text front language text ≡ Ok m → passed (is_formed m decoration (length text)) ≡ Ok tt → parse_whole front language text decoration ≡ Ok m
  unfolding parse_whole
  whole_parsed lt m shape q p =
      let formed = is_formed m decoration (length text) in
      rw (lt-ltb (length text) span_stride lt, q) (with_passed formed (has_shape m) (Ok m) (Err wrong_form) shape ∙ is_passed formed m p)

-- ---- copies

-- whether names must survive the round trip, as the code asks
pub is_asked : (index : ℕ) (validate special : Bool) → ((nat_lt 0 index && validate) && not special) ≡ true → is_tested index validate special ≡ true
is_asked index validate special e = by (nat_lt 0 index) validate (not special) e
  where
    by : (a b c : Bool) → ((a && b) && c) ≡ true → (a && b && c) ≡ true
    by true b c e = e
    by false b c e = e

pub is_unasked : (index : ℕ) (validate special : Bool) → ((nat_lt 0 index && validate) && not special) ≡ false → is_tested index validate special ≡ false
is_unasked index validate special e = by (nat_lt 0 index) validate (not special) e
  where
    by : (a b c : Bool) → ((a && b) && c) ≡ false → (a && b && c) ≡ false
    by true b c e = e
    by false b c e = refl

module _ (s : Settings) (m : ModuleValue) (own : OwnPlaces) (b : BuiltModule) (functions : ℕ) where
  module _ (c : BuiltModule) (special : Bool) (copied : c ≡ copy_build m own b) (knows : special ≡ copies_special m own b.decoration b.functions) where
    after_copy : copy_tested s m own b functions ≡ (names_back s special m own c functions >>= λ done. Ok c)
    after_copy = sym (λ i. names_back s (knows i) m own (copied i) functions >>= λ done. Ok (copied i))

    pub untested : is_tested c.index s.validate special ≡ false → copy_tested s m own b functions ≡ Ok c
    untested q = after_copy ∙ ap (λ (x : Bool). if_tested x (came_back s.front s.capabilities m own c functions) >>= λ done. Ok c) q

    pub tested : is_tested c.index s.validate special ≡ true → (r : Result (Unit {0}) ComposerErrorInner) → Gives (λ done. done) r (came_back s.front s.capabilities m own c functions) → Gives (λ done. c) r (copy_tested s m own b functions)
    tested q r g = by r g
      where
        whole : copy_tested s m own b functions ≡ (came_back s.front s.capabilities m own c functions >>= λ done. Ok c)
        whole = after_copy ∙ ap (λ (x : Bool). if_tested x (came_back s.front s.capabilities m own c functions) >>= λ done. Ok c) q

        by : (r : Result (Unit {0}) ComposerErrorInner) → Gives (λ done. done) r (came_back s.front s.capabilities m own c functions) → Gives (λ done. c) r (copy_tested s m own b functions)
        by (Ok x) g = whole ∙ ap (λ (v : Result (Unit {0}) Fault). v >>= λ done. Ok c) g
        by (Err e) g = rw whole (fails_on e (came_back s.front s.capabilities m own c functions) (λ done. Ok c) g)

-- ---- everything
module _ (s : Settings) (language : ShaderLanguage) (text : List ℕ) (b : BuiltModule) where
  pub hold_unparsed : (e : ComposerErrorInner) → Fails e (parse_whole s.front language text b.decoration) → Fails e (hold s language text b)
  unfolding hold
  hold_unparsed e h = fails_on e (parse_whole s.front language text b.decoration) _ h

  module _ (m : ModuleValue) (parsed : parse_whole s.front language text b.decoration ≡ Ok m) where
    pub held_by : (own : ModuleValue) (places : OwnPlaces) (c : BuiltModule) (functions : ℕ) → own ≡ owned_module b.index b.decoration m → places ≡ own_places m → c ≡ owned_build b.index m b → functions ≡ length m.functions
        → hold s language text b ≡ copy_tested s own places c functions
    unfolding hold
    held_by own places c functions p q r t = rw (parsed, p, q, r, t) refl
