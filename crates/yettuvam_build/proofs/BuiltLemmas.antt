-- A build of files, call by call.
use Rattle.std.proofs.Common.{◌≡◌, ◌∷◌, ◌++◌, ℕ, true, false, List, [], map, Option, Some, None, MatchOption, option_map, Result, Ok, Err, Bor, string_bytes, refl, sym, ap, ◌∙◌, subst}
use Rattle.std.proofs.lemmas.Bool.{false≢true}
use Rattle.std.specs.Prelude.{is_none}
use Rattle.naga_oil_words.specs.ResultSteps.{◌>>=◌}
use Rattle.naga_oil_imports.specs.Uses.{import_of}
use Rattle.naga_oil_ir.specs.Backend.{FrontEnd}
use Rattle.naga_oil_ir.specs.ModuleValue.{ModuleValue, module_value}
use Rattle.naga_oil_ir.specs.declared.module.Module.{Module}
use Rattle.naga_oil_conditions.specs.Fault.{Definitions, Fault}
use Rattle.naga_oil_conditions.specs.View.{fault_of}
use Rattle.naga_oil_registry.specs.Added.{counter_after, registry_with, shown_by}
use Rattle.naga_oil_registry.specs.Descriptor.{ModuleSource, ShaderSource, module_source, shader_source, no_module}
use Rattle.naga_oil_registry.specs.declared.descriptor.ComposableModuleDescriptor.{ComposableModuleDescriptor}
use Rattle.naga_oil_registry.specs.declared.descriptor.NagaModuleDescriptor.{NagaModuleDescriptor}
use Rattle.naga_oil_registry.specs.declared.descriptor.ShaderType.TheVariants.{Wgsl}
use Rattle.naga_oil_build.specs.BuildView.{bare_settings, settings_with}
use Rattle.naga_oil_registry.specs.Registered.{Registered, Defs, defs_of}
use Rattle.naga_oil_registry.specs.Registry.{module_named}
use Rattle.naga_oil.specs.Addition.{addition}
use Rattle.naga_oil.specs.Answer.{answer}
use Rattle.naga_oil.specs.Makes.{Makes, settings_of}
use Rattle.naga_oil.specs.Refused.{Refused, Tells, nowhere, place_of, refused_of}
use Rattle.naga_oil.specs.Sources.{text_under}
use Rattle.naga_oil.specs.State.{State, Adds, nothing_registered}
use Rattle.naga_oil.specs.declared.compose.error.ComposerError.{ComposerError}
use Rattle.naga_oil.specs.declared.compose.error.ErrSource.{ErrSource}
use Rattle.naga_oil.specs.declared.compose.error.ErrSource.TheVariants as code
use Rattle.naga_oil.proofs.ReachLemmas.{defined_same}
use Rattle.yettuvam_build.specs.Built.{Modules, bare_import, built_text, directives, made_module, made_ordered, made_over, module_of, no_modules, or_fault, or_report, own_directives, settings_for, shader_of, shader_text, with_file, with_place, with_places, written}
use Rattle.yettuvam_build.specs.BuiltView.{IsTold, modules_of, source_in}
use Rattle.yettuvam_build.specs.Files.{File}
use Rattle.yettuvam_build.specs.Order.{module_order}
use Rattle.yettuvam_build.specs.Refusals.{Fails}
use Rattle.yettuvam_build.specs.Reported.{file_report, report_of, source_at}
use Rattle.yettuvam_build.specs.Words.{Request}
use Rattle.yettuvam_build.specs.declared.refusal.Refusal.{Refusal}
use Rattle.yettuvam_build.specs.declared.refusal.Refusal.TheVariants as refusal
use Rattle.yettuvam_faults.specs.Reports.{fault_report}

-- ---- refusals

-- the texts of an error are those of its place
same_source : (files : List File) (counter : ℕ) (ds : List Registered) (at : ErrSource) → source_in files counter ds at ≡ source_at files counter ds (place_of at)
same_source files counter ds (code.Module name offset defs) =
    let at = code.Module name offset defs in
    ap (λ (d : Definitions). record (source_in files counter ds at) { parsed = text_under d (module_named (string_bytes name) ds) }) (defined_same defs)
same_source files counter ds (code.Constructing path source offset) = refl

-- the refusal of an error has its report
pub has_report : (files : List File) (counter : ℕ) (ds : List Registered) (e : ComposerError) (text : List ℕ) → is_none (fault_of e.inner) ≡ false → text ≡ fault_report (source_in files counter ds e.source) (fault_of e.inner)
    → (r : Refused) × (refused_of e ≡ Some r) × (text ≡ report_of files counter ds r)
unfolding report_of
has_report files counter ds e text some is = by (fault_of e.inner) refl some
  where
    by : (o : Option Fault) → fault_of e.inner ≡ o → is_none o ≡ false → (r : Refused) × (refused_of e ≡ Some r) × (text ≡ report_of files counter ds r)
    by None same some = absurd (false≢true (sym some))
    by (Some f) same some =
        let r : Refused = record { fault = f; place = place_of e.source } in
        let told : refused_of e ≡ Some r = ap (option_map (λ f. record { fault = f; place = place_of e.source })) same in
        (r, told, is ∙ (λ i. fault_report (same_source files counter ds e.source i) (same i)))

-- the refusal of an error that a value is refused for
pub refused_value : {Y : Type 0} (files : List File) (counter : ℕ) (ds : List Registered) (e : ComposerError) (r : Refusal) (value : Result Y Refused) → Tells e value → IsTold files counter ds (refused_of e) r → Fails r (or_report files counter ds value)
refused_value files counter ds e (refusal.Fault report) value tells (r, told, is) =
    ap (or_report files counter ds) (subst (λ (o : Option Refused). MatchOption o (place_of e.source ≡ nowhere) (λ r. value ≡ Err r)) told tells) ∙ ap (λ t. Err t) (sym is)
refused_value files counter ds e refusal.Memory value tells h = h
refused_value files counter ds e refusal.Usage value tells h = absurd h
refused_value files counter ds e (refusal.BadDefinition word) value tells h = absurd h
refused_value files counter ds e (refusal.CannotRead file) value tells h = absurd h
refused_value files counter ds e refusal.Write value tells h = absurd h

-- a refusal ends what follows
pub fails_on : {X Y : Type 0} (r : Refusal) (value : Result X (List ℕ)) (f : X → Result Y (List ℕ)) → Fails r value → Fails r (value >>= f)
fails_on (refusal.Fault report) value f h = ap (λ v. v >>= f) h
fails_on refusal.Memory value f h = h
fails_on refusal.Usage value f h = absurd h
fails_on (refusal.BadDefinition word) value f h = absurd h
fails_on (refusal.CannotRead file) value f h = absurd h
fails_on refusal.Write value f h = absurd h

-- ---- an addition

module _ {B : Type 0} (old new : State B) (f : File) (m : ModuleSource) (is : m ≡ module_of f) where
  abbrev following : Registered → Result Modules (List ℕ)
  following d = Ok (record { registry = registry_with old.registry d; counter = counter_after old.counter f.text })

  pub added : (i : ℕ) → Adds (λ i. i) (λ d. d.index) old m (Ok i) new → with_file (modules_of old) f ≡ Ok (modules_of new)
  unfolding with_file
  added i h =
      let d = h.registry.0 in
      let registered : addition old.registry old.counter (module_of f) ≡ Ok d = ap (addition old.registry old.counter) (sym is) ∙ h.registry.1 in
      let counted : new.counter ≡ counter_after old.counter f.text = h.counter.exact ∙ ap (λ (m : ModuleSource). counter_after old.counter m.source) is in
      ap (λ v. or_report (f ∷ []) old.counter old.registry v >>= following) registered
      ∙ ap (λ (c : ℕ). Ok (record { registry = registry_with old.registry d; counter = c })) (sym counted)
      ∙ ap (λ ds. Ok (record { registry = ds; counter = new.counter })) (sym h.registry.2)

  pub added_kept : (r : Result ℕ ComposerError) → Adds (λ i. i) (λ d. d.index) old m r new → new.settings ≡ old.settings
  added_kept r h = ap (λ (s : State B). s.settings) h.rest

  unshown : (r : Refused) (v : Result Registered Refused) → shown_by (λ d. d.index) v ≡ Err r → v ≡ Err r
  unshown r (Ok d) k = absurd cc
  unshown r (Err f) k = let same : f ≡ r = cc in ap (λ r. Err r) same

  pub not_added : (e : ComposerError) → Adds (λ i. i) (λ d. d.index) old m (Err e) new → (r : Refusal) (counter : ℕ) → counter ≡ old.counter → IsTold (f ∷ []) counter new.registry (refused_of e) r → Fails r (with_file (modules_of old) f)
  unfolding with_file
  not_added e h r counter before told =
      let same : new.registry ≡ old.registry = ap (λ (s : State B). s.registry) h.refused in
      let tells : Tells e (addition old.registry old.counter (module_of f)) = subst (λ m. Tells e (addition old.registry old.counter m)) is (by (refused_of e) h.reply) in
      fails_on r (or_report (f ∷ []) old.counter old.registry (addition old.registry old.counter (module_of f))) following
      (refused_value (f ∷ []) old.counter old.registry e r (addition old.registry old.counter (module_of f)) tells (subst (λ ds. IsTold (f ∷ []) old.counter ds (refused_of e) r) same (subst (λ n. IsTold (f ∷ []) n new.registry (refused_of e) r) before told)))
    where
      by : (o : Option Refused) → MatchOption o (place_of e.source ≡ nowhere) (λ r. shown_by (λ d. d.index) (addition old.registry old.counter m) ≡ Err r) → MatchOption o (place_of e.source ≡ nowhere) (λ r. addition old.registry old.counter m ≡ Err r)
      by None k = k
      by (Some r) k = unshown r (addition old.registry old.counter m) k

-- ---- additions, one after the other

pub more_added : (fs : List File) (ms next : Modules) (place : ℕ) (places : List ℕ) → with_place fs ms place ≡ Ok next → with_places fs ms (place ∷ places) ≡ with_places fs next places
unfolding with_places
more_added fs ms next place places h = ap (λ v. v >>= λ more. with_places fs more places) h

pub none_added : (fs : List File) (ms : Modules) → with_places fs ms [] ≡ Ok ms
unfolding with_places
none_added fs ms = refl

pub not_all_added : (fs : List File) (ms : Modules) (place : ℕ) (places : List ℕ) (r : Refusal) → Fails r (with_place fs ms place) → Fails r (with_places fs ms (place ∷ places))
unfolding with_places
not_all_added fs ms place places r h = fails_on r (with_place fs ms place) (λ more. with_places fs more places) h

-- ---- the shader

-- a shader over registered modules
module _ {B : Type 0} (front : B → FrontEnd) (files : List File) (old new : State B) (m expected : ShaderSource) (is : m ≡ expected) where
  pub made_value : (result : Module) → Makes front old m (Ok result) new → made_over (settings_of front old) files (modules_of old) expected ≡ Ok (module_value result)
  made_value result h = ap (made_over (settings_of front old) files (modules_of old)) (sym is) ∙ ap (or_report files old.counter old.registry) h.reply

  pub not_made : (e : ComposerError) → Makes front old m (Err e) new → (r : Refusal) (counter : ℕ) → counter ≡ old.counter → IsTold files counter new.registry (refused_of e) r → Fails r (made_over (settings_of front old) files (modules_of old) expected)
  not_made e h r counter before told =
      let same : new.registry ≡ old.registry = ap (λ (s : State B). s.registry) h.rest in
      subst (λ m. Fails r (made_over (settings_of front old) files (modules_of old) m)) is
      (refused_value files old.counter old.registry e r (answer (settings_of front old) old.registry old.counter m).result h.reply (subst (λ ds. IsTold files old.counter ds (refused_of e) r) same (subst (λ n. IsTold files n new.registry (refused_of e) r) before told)))

-- a descriptor of a file
pub as_module : (d : ComposableModuleDescriptor) (source path : Bor (List ℕ)) (f : File) → module_source d ≡ no_module → source.now ≡ f.text → path.now ≡ f.path → module_source (record d { source = source; file_path = path }) ≡ module_of f
as_module d source path f none text named = λ i. record { source = text i; file_path = named i; language = (none i).language; as_name = (none i).as_name; additional = (none i).additional; defs = (none i).defs }

pub as_shader : (d : NagaModuleDescriptor) (imports : List (List ℕ)) (f : File) → d.source.now ≡ f.text → d.file_path.now ≡ f.path → d.shader_type ≡ Wgsl → map import_of d.additional_imports.now ≡ map bare_import imports → shader_source d ≡ shader_of (defs_of d.shader_defs) imports f
as_shader d imports f text named wgsl additional = λ i. record { source = text i; file_path = named i; shader_type = wgsl i; defs = defs_of d.shader_defs; additional = additional i }

-- a composer with no modules, to which those of files are added
module _ {B : Type 0} (front : B → FrontEnd) (end : B) (begun more : State B) (r : Request) (defs : Defs) (top : File) (others : List File) (order : List ℕ) (begins : begun ≡ nothing_registered (record (bare_settings end true) { override_any = r.override_any })) where
  abbrev shader_over : Modules → Result ModuleValue (List ℕ)
  shader_over ms = made_over (settings_for (front end) r.override_any) (top ∷ others) ms (shader_of defs r.imports top)

  pub module_made : (imports : List (List ℕ)) → with_places others (modules_of begun) order ≡ Ok (modules_of more) → more.settings ≡ begun.settings → imports ≡ r.imports → made_over (settings_of front more) (top ∷ others) (modules_of more) (shader_of defs imports top) ≡ made_ordered (front end) r defs top others order
  unfolding made_ordered
  module_made imports all kept same =
      let settings : settings_of front more ≡ settings_for (front end) r.override_any = ap (settings_with front) (kept ∙ ap (λ (s : State B). s.settings) begins) in
      let added : with_places others no_modules order ≡ Ok (modules_of more) = ap (λ (s : State B). with_places others (modules_of s) order) (sym begins) ∙ all in
      let one : made_over (settings_of front more) (top ∷ others) (modules_of more) (shader_of defs imports top) ≡ shader_over (modules_of more) = λ i. made_over (settings i) (top ∷ others) (modules_of more) (shader_of defs (same i) top) in
      one ∙ sym (ap (λ v. v >>= shader_over) added)

  pub module_not_made : (e : Refusal) → Fails e (with_places others (modules_of begun) order) → Fails e (made_ordered (front end) r defs top others order)
  unfolding made_ordered
  module_not_made e h = fails_on e (with_places others no_modules order) shader_over (subst (λ (s : State B). Fails e (with_places others (modules_of s) order)) begins h)

-- ---- its text

module _ (front : FrontEnd) (r : Request) (defs : Defs) (top : File) (others : List File) where
  pub order_found : (order : List ℕ) → module_order others ≡ Ok order → made_ordered front r defs top others order ≡ made_module front r defs top others
  unfolding made_module
  order_found order h = sym (ap (λ v. v >>= made_ordered front r defs top others) h)

  pub order_not_found : (e : Refusal) → Fails e (module_order others) → Fails e (made_module front r defs top others)
  unfolding made_module
  order_not_found e h = fails_on e (module_order others) (made_ordered front r defs top others) h

  pub text_made : (m : ModuleValue) → made_module front r defs top others ≡ Ok m → shader_text front top m ≡ built_text front r defs top others
  unfolding built_text
  text_made m h = sym (ap (λ v. v >>= shader_text front top) h)

  pub text_not_made : (e : Refusal) → Fails e (made_module front r defs top others) → Fails e (built_text front r defs top others)
  unfolding built_text
  text_not_made e h = fails_on e (made_module front r defs top others) (shader_text front top) h

module _ (front : FrontEnd) (top : File) (m : ModuleValue) where
  abbrev body_after : List ℕ → Result (List ℕ) (List ℕ)
  body_after start = written front top.path m >>= λ body. Ok (start ++ body)

  pub whole_text : (start body : List ℕ) → own_directives top ≡ Ok start → written front top.path m ≡ Ok body → shader_text front top m ≡ Ok (start ++ body)
  unfolding shader_text
  whole_text start body first second = ap (λ v. v >>= body_after) first ∙ ap (λ v. v >>= λ body. Ok (start ++ body)) second

  pub no_start : (e : Refusal) → Fails e (own_directives top) → Fails e (shader_text front top m)
  unfolding shader_text
  no_start e h = fails_on e (own_directives top) body_after h

  pub no_body : (start : List ℕ) (e : Refusal) → own_directives top ≡ Ok start → Fails e (written front top.path m) → Fails e (shader_text front top m)
  unfolding shader_text
  no_body start e first h = subst (Fails e) (sym (ap (λ v. v >>= body_after) first)) (fails_on e (written front top.path m) (λ body. Ok (start ++ body)) h)

-- the report of a fault of the directives of a file
pub reported_file : (f : File) (text : List ℕ) (fault : Option Fault) (told : List ℕ) → text ≡ f.text → is_none fault ≡ false → MatchOption fault (Unit {0}) (λ k. directives text ≡ Err k) → told ≡ file_report (record f { text = text }) fault → own_directives f ≡ Err told
reported_file f text None told same some h is = absurd (false≢true (sym some))
reported_file f text (Some k) told same some h is =
    ap (λ t. or_fault f (directives t)) (sym same) ∙ ap (or_fault f) h ∙ ap (λ t. Err (file_report (record f { text = t }) (Some k))) (sym same) ∙ ap (λ t. Err t) (sym is)
