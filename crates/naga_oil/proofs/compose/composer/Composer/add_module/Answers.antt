use Rattle.std.proofs.Common.{◌≡◌, ℕ, Bool, List, Option, Ok, Err, Bor, String, Global, option_map, option_copied, string_bytes, Some, None, ap, ◌∙◌, sym, subst}
use Rattle.naga_oil_conditions.specs.View.{Fails}
use Rattle.std.specs.BTreeSet.{contains_text}
use Rattle.naga_oil_registry.specs.Added.{Described, described, new_definition, shown_by}
use Rattle.naga_oil_registry.specs.Registered.{Registered}
use Rattle.naga_oil_registry.specs.DescribedView.{described_of}
use Rattle.naga_oil_registry.specs.Descriptor.{module_source, ModuleSource}
use Rattle.naga_oil_registry.specs.Registry.{IsRegistry, reaches, removed}
use Rattle.naga_oil_build.specs.BuildView.{settings_with}
use Rattle.naga_oil.specs.Refused.{in_text}
use Rattle.naga_oil.specs.State.{State, Adds, forget_with}
use Rattle.naga_oil.specs.Store.{Kept, forget}
use Rattle.naga_oil.specs.StoreLaw.{IsStore}
use Rattle.naga_oil.specs.StoreView.{kept_of}
use Rattle.naga_oil_registry.proofs.AddedLemmas.{entered-registry, is_registered}
use Rattle.naga_oil.proofs.ForgetLemmas.{forget_same}
use Rattle.naga_oil.proofs.StoreForgetLemmas.{forget_law}
use Rattle.naga_oil.proofs.AddsLemmas.{IsRefusal, adds-unread, adds-undescribed, adds-unregistered, adds-registered}
use Rattle.naga_oil.proofs.compose.composer.Composer.add_module.Goals as goal

given_name : (r : Option (Bor (String Global))) (o : Option (String Global)) → option_copied r ≡ o → option_map (λ name. string_bytes name.now) r ≡ option_map string_bytes o
given_name None o e = ap (option_map string_bytes) e
given_name (Some x) o e = ap (option_map string_bytes) e

pub returns-in-Err : goal.returns-in-Err
returns-in-Err g c =
    let inside = c.self.inside in
    let old : State _ = record { settings = inside.settings; registry = inside.modules; counter = inside.counter; kept = kept_of inside.store; builds = inside.count } in
    let m = module_source c.args.desc in
    subst (λ (v : State _). Adds (λ (i : ℕ). i) (λ (d : Registered). d.index) v m (Err c.refused.result) v) c.self.view_is
    (adds-unread (λ (i : ℕ). i) (λ (d : Registered). d.index) old m c.in-Err.inner c.refused.result c.refused.ensures c.in-Err.ensures)

pub returns-in-Err-describe : goal.returns-in-Err-describe
returns-in-Err-describe g c =
    let inside = c.self.inside in
    let old : State _ = record { settings = inside.settings; registry = inside.modules; counter = inside.counter; kept = kept_of inside.store; builds = inside.count } in
    let m = module_source c.args.desc in
    let same : described (option_map (λ name. string_bytes name.now) c.as_ref.result) c.as_str.result.now ≡ described m.as_name (string_bytes c.in-Ok.read.0) =
    ap (λ n. described n c.as_str.result.now) (given_name c.as_ref.result c.args.desc.as_name c.as_ref.ensures.value) ∙ ap (described m.as_name) c.as_str.ensures.value in
    subst (λ (v : State _). Adds (λ (i : ℕ). i) (λ (d : Registered). d.index) v m (Err c.refused-in-Err-describe.result) (record old { counter = c.in-Ok.read.1 })) c.self.view_is
    (adds-undescribed (λ (i : ℕ). i) (λ (d : Registered). d.index) old m c.in-Err-describe.inner c.refused-in-Err-describe.result (string_bytes c.in-Ok.read.0) c.in-Ok.read.1 c.in-Ok.ensures c.refused-in-Err-describe.ensures (subst (λ v. Fails c.in-Err-describe.inner v) same c.in-Err-describe.ensures.value))

-- the forgotten builds are those removed with the name of the new module
left_by : (gone : List ℕ → Bool) (ds : List Registered) (m : ModuleSource) (d : Described) (new : Registered) (kept left : Kept) → IsRegistry ds → ((other : List ℕ) → gone other ≡ reaches ds other d.name) → new_definition (removed d.name ds) m d ≡ Ok new → left ≡ forget gone kept → left ≡ forget_with ds new.name kept
left_by gone ds m d new kept left all same added is =
    is ∙ forget_same gone (λ other. reaches ds other d.name) same kept ∙ ap (λ n. forget_with ds n kept) (sym (entered-registry ds m d new added all).0)

pub invariant_of-self-in-Ok-register : goal.invariant_of-self-in-Ok-register
invariant_of-self-in-Ok-register g c =
    let inside = c.self.inside in
    let ds = inside.modules in
    let m = module_source c.args.desc in
    let d = described_of c.in-Ok-describe.described in
    let s = settings_with g.B.Backend.front inside.settings in
    let added = c.in-Ok-register.ensures.registry in
    let left = left_by (contains_text c.in-Ok-register.gone) ds m d added.0 (kept_of inside.store) (kept_of c.forget.new.store) c.self.invariant.0 c.in-Ok-register.ensures.gone added.1 c.forget.ensures in
    let follows = is_registered ds c.register.new.registry m d added.0 added.1 added.2 c.self.invariant.0 in
    let store = forget_law.addition s ds added.0 (kept_of inside.store) c.self.invariant.0 (subst IsRegistry added.2 follows) c.self.invariant.1 in
    (follows, subst (λ (k : Kept). IsStore s c.register.new.registry k) (sym left) (subst (λ (es : List Registered). IsStore s es (forget_with ds added.0.name (kept_of inside.store))) (sym added.2) store))

pub returns-in-Ok-register : goal.returns-in-Ok-register
returns-in-Ok-register g c =
    let inside = c.self.inside in
    let old : State _ = record { settings = inside.settings; registry = inside.modules; counter = inside.counter; kept = kept_of inside.store; builds = inside.count } in
    let m = module_source c.args.desc in
    let d = described_of c.in-Ok-describe.described in
    let same : described (option_map (λ name. string_bytes name.now) c.as_ref.result) c.as_str.result.now ≡ described m.as_name (string_bytes c.in-Ok.read.0) =
    ap (λ n. described n c.as_str.result.now) (given_name c.as_ref.result c.args.desc.as_name c.as_ref.ensures.value) ∙ ap (described m.as_name) c.as_str.ensures.value in
    let added = c.in-Ok-register.ensures.registry in
    let new = added.0 in
    let left = left_by (contains_text c.in-Ok-register.gone) old.registry m d new (kept_of inside.store) (kept_of c.forget.new.store) c.self.invariant.0 c.in-Ok-register.ensures.gone added.1 c.forget.ensures in
    let index : c.in-Ok-register.index ≡ new.index = (let h = sym c.in-Ok-register.ensures.reply ∙ ap (shown_by (λ d. d.index)) added.1 in cc) in
    subst (λ (v : State _). Adds (λ (i : ℕ). i) (λ (d : Registered). d.index) v m (Ok c.in-Ok-register.index) (record old { counter = c.in-Ok.read.1; registry = c.register.new.registry; kept = kept_of c.forget.new.store })) c.self.view_is
    (subst (λ (k : Kept). Adds (λ (i : ℕ). i) (λ (d : Registered). d.index) old m (Ok c.in-Ok-register.index) (record old { counter = c.in-Ok.read.1; registry = c.register.new.registry; kept = k })) (sym left)
    (subst (λ (ds : List Registered). Adds (λ (i : ℕ). i) (λ (d : Registered). d.index) old m (Ok c.in-Ok-register.index) (record old { counter = c.in-Ok.read.1; registry = ds; kept = forget_with old.registry new.name (kept_of inside.store) })) (sym added.2)
    (adds-registered (λ (i : ℕ). i) (λ (d : Registered). d.index) old m (string_bytes c.in-Ok.read.0) c.in-Ok.read.1 d new c.in-Ok-register.index c.in-Ok.ensures (sym same ∙ c.in-Ok-describe.ensures.value) added.1 index)))

pub returns : goal.returns
returns g c =
    let inside = c.self.inside in
    let old : State _ = record { settings = inside.settings; registry = inside.modules; counter = inside.counter; kept = kept_of inside.store; builds = inside.count } in
    let m = module_source c.args.desc in
    let same : described (option_map (λ name. string_bytes name.now) c.as_ref.result) c.as_str.result.now ≡ described m.as_name (string_bytes c.in-Ok.read.0) =
    ap (λ n. described n c.as_str.result.now) (given_name c.as_ref.result c.args.desc.as_name c.as_ref.ensures.value) ∙ ap (described m.as_name) c.as_str.ensures.value in
    let refusal = subst (λ (text : List ℕ). IsRefusal c.in-Err-register.inner c.refused-in-Err-register.result (in_text m.file_path text 0)) c.as_str-in-Err-register.ensures.value c.refused-in-Err-register.ensures in
    subst (λ (v : State _). Adds (λ (i : ℕ). i) (λ (d : Registered). d.index) v m (Err c.refused-in-Err-register.result) (record old { counter = c.in-Ok.read.1; registry = c.register.new.registry })) c.self.view_is
    (subst (λ (ds : List Registered). Adds (λ (i : ℕ). i) (λ (d : Registered). d.index) old m (Err c.refused-in-Err-register.result) (record old { counter = c.in-Ok.read.1; registry = ds })) (sym c.in-Err-register.ensures.refused)
    (adds-unregistered (λ (i : ℕ). i) (λ (d : Registered). d.index) old m c.in-Err-register.inner c.refused-in-Err-register.result (string_bytes c.in-Ok.read.0) c.in-Ok.read.1 c.in-Ok.ensures (described_of c.in-Ok-describe.described) (sym same ∙ c.in-Ok-describe.ensures.value) refusal c.in-Err-register.ensures.reply))
