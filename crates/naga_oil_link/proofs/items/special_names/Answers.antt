use Rattle.std.proofs.Common.{[], ap, ◌∙◌, fold}
use Rattle.std.specs.List.{filter_map}
use Rattle.naga_oil_ir.specs.ModuleValue.{module_value}
use Rattle.naga_oil_words.specs.Texts.{with_name, texts}
use Rattle.naga_oil_link.specs.Owned.{special_names}
use Rattle.naga_oil_link.specs.Places.{name_in}
use Rattle.naga_oil_link.proofs.OwnedLemmas.{names-begin}
use Rattle.naga_oil_link.proofs.items.special_names.Goals as goal

pub loop-handle-init : goal.loop-handle-init
loop-handle-init c =
    ap (λ ks. fold with_name (texts ks) (filter_map (λ e. name_in (module_value c.args.of.now).types e.1) c.deref-handle-items.result.now)) c.new-names.ensures.empty
    ∙ ap (λ es. fold with_name [] (filter_map (λ e. name_in (module_value c.args.of.now).types e.1) es)) (c.deref-handle-items.ensures.value ∙ c.in_ok-entries.ensures.entries)
    ∙ names-begin (special_names (module_value c.args.of.now))
