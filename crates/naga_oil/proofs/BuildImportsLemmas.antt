-- The imports of a build.
use Rattle.std.proofs.Common.{◌≡◌, ℕ, List, [], ◌++◌, map, length, nat_lt, Bool, true, false, cond, refl, ap, ◌∙◌, Result, Ok, Err}
use Rattle.naga_oil_ir.specs.ModuleValue.{ModuleValue}
use Rattle.naga_oil_ir.specs.declared.language.ShaderLanguage.{ShaderLanguage}
use Rattle.naga_oil_imports.specs.Uses.{Import}
use Rattle.naga_oil_conditions.specs.Fault.{Fault}
use Rattle.naga_oil_pre.specs.Preprocessed.{Output}
use Rattle.naga_oil_words.specs.ResultSteps.{◌>>=◌}
use Rattle.naga_oil_registry.specs.Registered.{Registered}
use Rattle.naga_oil_link.specs.BuiltModule.{BuiltModule, Builds}
use Rattle.naga_oil_link.specs.CopiedBuild.{copy_build, copies_special}
use Rattle.naga_oil_link.specs.OwnPlaces.{OwnPlaces}
use Rattle.naga_oil_link.specs.Owned.{decorated_items, owning, demotable, owning_demoted, owned_module, owned_build, own_places}
use Rattle.naga_oil_build.specs.Build.{WholeText, begin_build, from_offset, write_heading, write_whole, build}
use Rattle.naga_oil_build.specs.Held.{Settings, parse_whole, names_back, copy_tested, hold}
use Rattle.naga_oil_build.specs.Virtuals.{Functions, functions_in}

-- what holds at the end of two steps
ends_with : {X Y F : Type 0} (r : Result X F) (f : X → Result Y F) (P : Y → Type 0) → ((x : X) → r ≡ Ok x → (y : Y) → f x ≡ Ok y → P y) → (y : Y) → (r >>= f) ≡ Ok y → P y
ends_with (Ok x) f P h y e = h x refl y e
ends_with (Err w) f P h y e = absurd cc

is_ok : {X F : Type 0} (x y : X) → ◌≡◌ {A = Result X F} (Ok x) (Ok y) → y ≡ x
is_ok x y e = cc

copied_imports : (m : ModuleValue) (own : OwnPlaces) (b : BuiltModule) → (copy_build m own b).imports ≡ b.imports
unfolding copy_build
copied_imports m own b = refl

owned_imports : (index : ℕ) (m : ModuleValue) (b : BuiltModule) → (owned_build index m b).imports ≡ b.imports
owned_imports index m b = by (nat_lt 0 index)
  where
    by : (q : Bool) → (cond q (owning_demoted (demotable b.decoration (decorated_items b.decoration m)) (owning m b)) (owning m b)).imports ≡ b.imports
    by true = refl
    by false = refl

tested_imports : (s : Settings) (m : ModuleValue) (own : OwnPlaces) (b : BuiltModule) (functions : ℕ) (c : BuiltModule) → copy_tested s m own b functions ≡ Ok c → c.imports ≡ b.imports
tested_imports s m own b functions c e =
    let x = copy_build m own b in
    ends_with (names_back s (copies_special m own b.decoration b.functions) m own x functions) (λ done. Ok x) (λ y. y.imports ≡ b.imports) (λ done _ y k. ap (λ (z : BuiltModule). z.imports) (is_ok x y k) ∙ copied_imports m own b) c e

held_imports : (s : Settings) (in_language : ShaderLanguage) (text : List ℕ) (b c : BuiltModule) → hold s in_language text b ≡ Ok c → c.imports ≡ b.imports
unfolding hold
held_imports s in_language text b c e =
    ends_with (parse_whole s.front in_language text b.decoration) (λ parse. copy_tested s (owned_module b.index b.decoration parse) (own_places parse) (owned_build b.index parse b) (length parse.functions)) (λ y. y.imports ≡ b.imports) (λ parse _ y k.
    tested_imports s (owned_module b.index b.decoration parse) (own_places parse) (owned_build b.index parse b) (length parse.functions) y k ∙ owned_imports b.index parse b) c e

whole_imports : (s : Settings) (d : Registered) (bs : Builds) (text : List ℕ) (b : BuiltModule) (w : WholeText) → write_whole s d bs text b ≡ Ok w → w.built.imports ≡ b.imports
unfolding write_whole
whole_imports s d bs text b w e =
    ends_with (functions_in s.override_any bs b.imports b.decoration b.overriding text) (λ functions. write_heading s d bs b.imports >>= λ heading. Ok (whole functions heading)) (λ y. y.built.imports ≡ b.imports) (λ functions _ y k.
    ends_with (write_heading s d bs b.imports) (λ heading. Ok (whole functions heading)) (λ y. y.built.imports ≡ b.imports) (λ heading _ y k. ap (λ (z : WholeText). z.built.imports) (is_ok (whole functions heading) y k)) y k) w e
  where
    whole : Functions → List ℕ → WholeText
    whole functions heading = record {
      text = heading ++ functions.text;
      built = record b { virtuals = functions.virtuals; overriding = functions.overriding; offset = length heading };
    }

offset_ok : {Y : Type 0} (offset : ℕ) (r : Result Y Fault) (y : Y) → from_offset offset r ≡ Ok y → r ≡ Ok y
offset_ok offset (Ok x) y e = cc
offset_ok offset (Err f) y e = absurd cc

-- a build imports the modules that its text uses
pub build_imports : (s : Settings) (d : Registered) (out : Output) (bs : Builds) (b : BuiltModule) → build s d out bs ≡ Ok b → b.imports ≡ map (λ u. u.import) out.uses
unfolding build
build_imports s d out bs b e =
    let begun = begin_build bs d out.uses in
    let written = write_whole s d bs out.text begun in
    ends_with (from_offset 0 written) (λ whole. from_offset whole.built.offset (hold s d.language whole.text whole.built)) (λ y. y.imports ≡ map (λ u. u.import) out.uses) (λ whole k y j.
    held_imports s d.language whole.text whole.built y (offset_ok whole.built.offset (hold s d.language whole.text whole.built) y j) ∙ whole_imports s d bs out.text begun whole (offset_ok 0 written whole k)) b e
