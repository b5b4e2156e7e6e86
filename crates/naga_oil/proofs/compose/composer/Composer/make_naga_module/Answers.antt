use Rattle.std.proofs.Common.{◌≡◌, ◌+◌, ◌-◌, ◌∙◌, [], Err, sym, ap, subst, string_bytes, arith}
use Rattle.std.proofs.Math.Path.{transport}
use Rattle.std.proofs.lemmas.List.{length-map}
use Rattle.naga_oil_ir.specs.ModuleValue.{module_value}
use Rattle.naga_oil_registry.specs.Registered.{defs_of}
use Rattle.naga_oil_registry.specs.Descriptor.{shader_source}
use Rattle.naga_oil_link.specs.BuiltModule.{builds_of}
use Rattle.naga_oil.specs.Answer.{module_of_text}
use Rattle.naga_oil.specs.MakeDefs.{defs_of_text}
use Rattle.naga_oil.specs.MakeView.{KeepsFirst, ends_with}
use Rattle.naga_oil.specs.Makes.{Makes, settings_of}
use Rattle.naga_oil.specs.Refused.{refused_of}
use Rattle.naga_oil.specs.State.{State}
use Rattle.naga_oil.specs.Store.{count_kept}
use Rattle.naga_oil.specs.StoreView.{kept_of}
use Rattle.naga_oil.proofs.DoesLemmas.{does_same}
use Rattle.naga_oil.proofs.MakesLemmas.{makes_unread, makes_read, same_make, counted}
use Rattle.naga_oil.proofs.ReachLemmas.{seen}
use Rattle.naga_oil.proofs.compose.composer.Composer.make_naga_module.Goals as goal

pub returns-in-Err : goal.returns-in-Err
returns-in-Err g c =
    let inside = c.self.inside in
    let old : State _ = record { settings = inside.settings; registry = inside.modules; counter = inside.counter; kept = kept_of inside.store; builds = inside.count } in
    let m = shader_source c.args.desc in
    subst (λ (v : State _). Makes g.B.Backend.front v m (Err c.refused.result) v) c.self.view_is (makes_unread g.B.Backend.front old m c.self.invariant.0 c.in-Err.inner c.refused.result (omega arith) c.refused.ensures c.in-Err.ensures)

pub returns : goal.returns
returns g c =
    let inside = c.self.inside in
    let old : State _ = record { settings = inside.settings; registry = inside.modules; counter = inside.counter; kept = kept_of inside.store; builds = inside.count } in
    let front = g.B.Backend.front in
    let m = shader_source c.args.desc in
    let text = string_bytes c.in-Ok.found.0 in
    let s = settings_of front old in
    let ds = inside.modules in
    let began = builds_of c.new.result in
    let maker = c.make-made.new.self in
    let built = builds_of maker.builder.builds in
    let more = kept_of maker.store in
    let same = same_make s ds m c.as_str.result.now text began c.as_str.ensures.value (ap seen c.new.ensures.empty) in
    let first = transport (λ i. KeepsFirst s ds refused_of (defs_of_text ds m (c.as_str.ensures.value i)) c.make-made.result (kept_of (c.replace.ensures.value i)) (ends_with (defs_of maker.defs) built more)) c.make-made.ensures.keeps in
    let count = c.saturating_add-self-inside.result in
    let counts : count ≡ count_kept old.builds old.kept more = counted old.builds count c.len-before.result c.len.result c.saturating_sub-more.result old.kept more (c.len-before.ensures.len ∙ sym (length-map inside.store.entries _)) (c.len.ensures.len ∙ sym (length-map maker.store.entries _)) c.saturating_sub-more.ensures c.saturating_add-self-inside.ensures in
    subst (λ (v : State _). Makes front v m c.make-made.result (record old { counter = c.in-Ok.found.1; kept = more; builds = count })) c.self.view_is
    (makes_read front old m c.self.invariant.0 c.make-made.result text c.in-Ok.found.1 built c.in-Ok.ensures
    (does_same module_value c.make-made.result built (module_of_text s ds m c.as_str.result.now began) (module_of_text s ds m text []) same c.make-made.ensures.made)
    (defs_of maker.defs) more count first counts)
