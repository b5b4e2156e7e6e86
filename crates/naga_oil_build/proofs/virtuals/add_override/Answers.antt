use Rattle.std.proofs.Common.{◌≡◌, ◌∷◌, [], None, sym, ap, ◌∙◌}
use Rattle.std.proofs.lemmas.Result.{on_ok_weaker}
use Rattle.std.specs.Map.{lookup}
use Rattle.std.specs.Option.{option_copied_mut}
use Rattle.std.specs.Str.{bytes_eq}
use Rattle.std.specs.String.{string_bytes, string_eq}
use Rattle.indexmap.specs.IndexMap.{insert_entry}
use Rattle.naga_oil_words.specs.Texts.{texts}
use Rattle.naga_oil_build.proofs.OverridingLemmas.{over, over_known, over_new}
use Rattle.naga_oil_build.proofs.virtuals.add_override.Goals as goal

pub returns-in-Some : goal.returns-in-Some
returns-in-Some c =
    on_ok_weaker c.add_name.result (λ named. ap over (c.get_mut.follows.holds c.add_name.new.names).0 ∙ over_known c.args.base.now c.args.name.now c.args.all.now.entries c.in-Some.known.now c.add_name.new.names (sym c.get_mut.ensures.value ∙ ap option_copied_mut c.in-Some.is) named) c.add_name.ensures

pub returns : goal.returns
returns c =
    let none : lookup (λ k. bytes_eq c.args.base.now (string_bytes k)) c.args.all.now.entries ≡ None = sym c.get_mut.ensures.value ∙ ap option_copied_mut c.in_default.is in
    let names : texts c.in_ok-names.names.items ≡ c.args.name.now ∷ [] = ap texts c.in_ok-names.ensures.items ∙ ap (λ n. n ∷ []) c.in_ok-from_str.ensures.ok in
    ap over c.in_ok-insert.ensures.entries ∙ ap (λ m. over (insert_entry string_eq m.entries c.in_ok-from_str-2.field-0 c.in_ok-names.names)) c.get_mut.follows.holds-at-none
    ∙ over_new c.args.base.now c.args.name.now c.args.all.now.entries c.in_ok-from_str-2.field-0 c.in_ok-names.names none c.in_ok-from_str-2.ensures.ok names
