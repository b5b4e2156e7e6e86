-- A make of files, call by call.
use Rattle.std.proofs.Common.{◌≡◌, ◌∷◌, ℕ, Bool, true, false, List, [], map, drop, Option, Some, None, MatchOption, option_map, Result, Ok, Err, String, Global, Bor, refl, sym, ap, ◌∙◌, subst, string_bytes}
use Rattle.std.proofs.lemmas.Bool.{false≢true}
use Rattle.std.specs.Prelude.{is_none}
use Rattle.naga_oil_words.specs.ResultSteps.{◌>>=◌}
use Rattle.naga_oil_imports.specs.Uses.{import_of}
use Rattle.naga_oil_ir.specs.ModuleValue.{ModuleValue, module_value}
use Rattle.naga_oil_ir.specs.declared.module.Module.{Module}
use Rattle.naga_oil_conditions.specs.Fault.{Fault}
use Rattle.naga_oil_conditions.specs.View.{fault_of}
use Rattle.naga_oil_registry.specs.Added.{counter_after, registry_with, shown_by}
use Rattle.naga_oil_registry.specs.Descriptor.{ModuleSource, ShaderSource, module_source, shader_source, no_module}
use Rattle.naga_oil_registry.specs.declared.descriptor.ComposableModuleDescriptor.{ComposableModuleDescriptor}
use Rattle.naga_oil_registry.specs.declared.descriptor.NagaModuleDescriptor.{NagaModuleDescriptor}
use Rattle.naga_oil_registry.specs.declared.descriptor.ShaderType.TheVariants.{Wgsl}
use Rattle.naga_oil_build.specs.BuildView.{bare_settings, settings_with}
use Rattle.naga_oil_registry.specs.Registered.{Registered, Defs, defs_of}
use Rattle.naga_oil_registry.specs.Report.{report}
use Rattle.naga_oil.specs.Addition.{addition}
use Rattle.naga_oil.specs.Answer.{answer}
use Rattle.naga_oil.specs.Makes.{Makes}
use Rattle.naga_oil.specs.Refused.{Refused, Tells, nowhere, place_of, refused_of}
use Rattle.naga_oil.specs.Sources.{path_of, text_of, offset_of, report_of}
use Rattle.naga_oil.specs.State.{State, Adds, nothing_registered}
use Rattle.naga_oil.specs.declared.compose.error.ComposerError.{ComposerError}
use Rattle.naga_oil.proofs.ReportedLemmas.{reported}
use Rattle.naga_oil_mini_front.specs.Front.{mini}
use Rattle.naga_oil_mini.specs.Made as made
use Rattle.naga_oil_mini.specs.Made.{Failure, File, Modules, bare_import, made_module, made_over, made_text, module_of, no_modules, or_not_in_mini, or_report, settings_for, shader_of, with_file, with_files}
use Rattle.naga_oil_mini.specs.Words.{Asked}
use Rattle.naga_oil_mini_writer.specs.Writer.{module_text}
use Rattle.naga_oil_mini.specs.MadeView.{IsTold, mini_settings, modules_of}
use Rattle.naga_oil_mini.specs.Shown.{Fails, Gives}
use Rattle.naga_oil_mini.specs.declared.mini.refusal.Refusal.{Refusal}
use Rattle.naga_oil_mini.specs.declared.mini.refusal.Refusal.TheVariants as refusal

-- ---- refusals

-- the refusal of an error has its report
pub has_report : (ds : List Registered) (e : ComposerError) (text : List ℕ) → is_none (fault_of e.inner) ≡ false → text ≡ report (path_of ds e.source) (text_of ds e.source) (offset_of e.source) (fault_of e.inner) → (r : Refused) × (refused_of e ≡ Some r) × (text ≡ report_of ds r)
has_report ds e text some is = by (fault_of e.inner) refl some
  where
    by : (o : Option Fault) → fault_of e.inner ≡ o → is_none o ≡ false → (r : Refused) × (refused_of e ≡ Some r) × (text ≡ report_of ds r)
    by None same some = absurd (false≢true (sym some))
    by (Some f) same some =
        let r : Refused = record { fault = f; place = place_of e.source } in
        let told : refused_of e ≡ Some r = ap (option_map (λ f. record { fault = f; place = place_of e.source })) same in
        (r, told, is ∙ reported ds e r told)

-- the refusal of an error that a value is refused for
pub refused_value : {Y : Type 0} (ds : List Registered) (e : ComposerError) (r : Refusal) (value : Result Y Refused) → Tells e value → IsTold ds (refused_of e) r → Fails r (or_report ds value)
refused_value ds e (refusal.Fault report) value tells (r, told, is) =
    ap (or_report ds) (subst (λ (o : Option Refused). MatchOption o (place_of e.source ≡ nowhere) (λ r. value ≡ Err r)) told tells) ∙ ap (λ t. Err (made.reported t)) (sym is)
refused_value ds e refusal.Memory value tells h = h
refused_value ds e refusal.Usage value tells h = absurd h
refused_value ds e (refusal.BadDefinition word) value tells h = absurd h
refused_value ds e (refusal.CannotRead file) value tells h = absurd h
refused_value ds e refusal.NotInMini value tells h = absurd h
refused_value ds e refusal.Write value tells h = absurd h

-- a refusal ends what follows
pub fails_on : {X Y : Type 0} (r : Refusal) (value : Result X Failure) (f : X → Result Y Failure) → Fails r value → Fails r (value >>= f)
fails_on (refusal.Fault report) value f h = ap (λ v. v >>= f) h
fails_on refusal.Memory value f h = h
fails_on refusal.NotInMini value f h = ap (λ v. v >>= f) h
fails_on refusal.Usage value f h = absurd h
fails_on (refusal.BadDefinition word) value f h = absurd h
fails_on (refusal.CannotRead file) value f h = absurd h
fails_on refusal.Write value f h = absurd h

-- ---- an addition

module _ {B : Type 0} (old new : State B) (f : File) (m : ModuleSource) (is : m ≡ module_of f) where
  abbrev following : Registered → Result Modules Failure
  following d = Ok (record { registry = registry_with old.registry d; counter = counter_after old.counter f.text })

  pub added : (i : ℕ) → Adds (λ i. i) (λ d. d.index) old m (Ok i) new → with_file (modules_of old) f ≡ Ok (modules_of new)
  unfolding with_file
  added i h =
      let d = h.registry.0 in
      let registered : addition old.registry old.counter (module_of f) ≡ Ok d = ap (addition old.registry old.counter) (sym is) ∙ h.registry.1 in
      let counted : new.counter ≡ counter_after old.counter f.text = h.counter.exact ∙ ap (λ (m : ModuleSource). counter_after old.counter m.source) is in
      ap (λ v. or_report old.registry v >>= following) registered
      ∙ ap (λ (c : ℕ). Ok (record { registry = registry_with old.registry d; counter = c })) (sym counted)
      ∙ ap (λ ds. Ok (record { registry = ds; counter = new.counter })) (sym h.registry.2)

  pub added_kept : (r : Result ℕ ComposerError) → Adds (λ i. i) (λ d. d.index) old m r new → new.settings ≡ old.settings
  added_kept r h = ap (λ (s : State B). s.settings) h.rest

  unshown : (r : Refused) (v : Result Registered Refused) → shown_by (λ d. d.index) v ≡ Err r → v ≡ Err r
  unshown r (Ok d) k = absurd cc
  unshown r (Err f) k = let same : f ≡ r = cc in ap (λ r. Err r) same

  pub not_added : (e : ComposerError) → Adds (λ i. i) (λ d. d.index) old m (Err e) new → (r : Refusal) → IsTold new.registry (refused_of e) r → Fails r (with_file (modules_of old) f)
  unfolding with_file
  not_added e h r told =
      let same : new.registry ≡ old.registry = ap (λ (s : State B). s.registry) h.refused in
      let tells : Tells e (addition old.registry old.counter (module_of f)) = subst (λ m. Tells e (addition old.registry old.counter m)) is (by (refused_of e) h.reply) in
      fails_on r (or_report old.registry (addition old.registry old.counter (module_of f))) following
      (refused_value old.registry e r (addition old.registry old.counter (module_of f)) tells (subst (λ ds. IsTold ds (refused_of e) r) same told))
    where
      by : (o : Option Refused) → MatchOption o (place_of e.source ≡ nowhere) (λ r. shown_by (λ d. d.index) (addition old.registry old.counter m) ≡ Err r) → MatchOption o (place_of e.source ≡ nowhere) (λ r. addition old.registry old.counter m ≡ Err r)
      by None k = k
      by (Some r) k = unshown r (addition old.registry old.counter m) k

-- ---- additions, one after the other

pub more_added : (ms next : Modules) (f : File) (fs : List File) → with_file ms f ≡ Ok next → with_files ms (f ∷ fs) ≡ with_files next fs
unfolding with_files
more_added ms next f fs h = ap (λ v. v >>= λ more. with_files more fs) h

pub none_added : (ms : Modules) → with_files ms [] ≡ Ok ms
unfolding with_files
none_added ms = refl

pub not_all_added : (ms : Modules) (f : File) (fs : List File) (r : Refusal) → Fails r (with_file ms f) → Fails r (with_files ms (f ∷ fs))
unfolding with_files
not_all_added ms f fs r h = fails_on r (with_file ms f) (λ more. with_files more fs) h

-- ---- the shader

-- a shader over registered modules
module _ {B : Type 0} (old new : State B) (m expected : ShaderSource) (is : m ≡ expected) where
  pub made_value : (result : Module) → Makes (λ _. mini) old m (Ok result) new → made_over (mini_settings old) (modules_of old) expected ≡ Ok (module_value result)
  made_value result h = ap (made_over (mini_settings old) (modules_of old)) (sym is) ∙ ap (or_report old.registry) h.reply

  pub not_made : (e : ComposerError) → Makes (λ _. mini) old m (Err e) new → (r : Refusal) → IsTold new.registry (refused_of e) r → Fails r (made_over (mini_settings old) (modules_of old) expected)
  not_made e h r told =
      let same : new.registry ≡ old.registry = ap (λ (s : State B). s.registry) h.rest in
      subst (λ m. Fails r (made_over (mini_settings old) (modules_of old) m)) is
      (refused_value old.registry e r (answer (mini_settings old) old.registry old.counter m).result h.reply (subst (λ ds. IsTold ds (refused_of e) r) same told))

-- a descriptor of a file
pub as_module : (d : ComposableModuleDescriptor) (source path : Bor (List ℕ)) (f : File) → module_source d ≡ no_module → source.now ≡ f.text → path.now ≡ f.path → module_source (record d { source = source; file_path = path }) ≡ module_of f
as_module d source path f none text named = λ i. record { source = text i; file_path = named i; language = (none i).language; as_name = (none i).as_name; additional = (none i).additional; defs = (none i).defs }

pub as_shader : (d : NagaModuleDescriptor) (imports : List (List ℕ)) (f : File) → d.source.now ≡ f.text → d.file_path.now ≡ f.path → d.shader_type ≡ Wgsl → map import_of d.additional_imports.now ≡ map bare_import imports → shader_source d ≡ shader_of (defs_of d.shader_defs) imports f
as_shader d imports f text named wgsl additional = λ i. record { source = text i; file_path = named i; shader_type = wgsl i; defs = defs_of d.shader_defs; additional = additional i }

-- a composer with no modules, to which those of files are added
module _ {B : Type 0} (front : B) (begun more : State B) (a : Asked) (defs : Defs) (top : File) (others : List File) (begins : begun ≡ nothing_registered (record (bare_settings front true) { override_any = a.override_any })) where
  abbrev shader_over : Modules → Result ModuleValue Failure
  shader_over ms = made_over (settings_for a.override_any) ms (shader_of defs a.imports top)

  pub module_made : (imports : List (List ℕ)) → with_files (modules_of begun) others ≡ Ok (modules_of more) → more.settings ≡ begun.settings → imports ≡ a.imports → made_over (mini_settings more) (modules_of more) (shader_of defs imports top) ≡ made_module a defs top others
  unfolding made_module
  module_made imports all kept same =
      let settings : mini_settings more ≡ settings_for a.override_any = ap (settings_with (λ _. mini)) (kept ∙ ap (λ (s : State B). s.settings) begins) in
      let added : with_files no_modules others ≡ Ok (modules_of more) = ap (λ (s : State B). with_files (modules_of s) others) (sym begins) ∙ all in
      let one : made_over (mini_settings more) (modules_of more) (shader_of defs imports top) ≡ shader_over (modules_of more) = λ i. made_over (settings i) (modules_of more) (shader_of defs (same i) top) in
      one ∙ sym (ap (λ v. v >>= shader_over) added)

  pub module_not_made : (r : Refusal) → Fails r (with_files (modules_of begun) others) → Fails r (made_module a defs top others)
  unfolding made_module
  module_not_made r h = fails_on r (with_files no_modules others) shader_over (subst (λ (s : State B). Fails r (with_files (modules_of s) others)) begins h)

-- ---- its text

module _ (a : Asked) (defs : Defs) (top : File) (others : List File) where
  pub text_made : (m : ModuleValue) → made_module a defs top others ≡ Ok m → or_not_in_mini (module_text m) ≡ made_text a defs top others
  unfolding made_text
  text_made m h = sym (ap (λ v. v >>= λ m. or_not_in_mini (module_text m)) h)

  pub text_not_made : (r : Refusal) → Fails r (made_module a defs top others) → Fails r (made_text a defs top others)
  unfolding made_text
  text_not_made r h = fails_on r (made_module a defs top others) (λ m. or_not_in_mini (module_text m)) h
