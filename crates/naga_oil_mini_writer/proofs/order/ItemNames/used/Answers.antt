use Rattle.std.proofs.Common.{◌≡◌, ◌≤◌, ℕ, List, None, Some, length, slice_get, sym, ap, ◌∙◌}
use Rattle.std.proofs.lemmas.Bool.{ltb-false}
use Rattle.std.proofs.lemmas.Option.{slice_get-get_or}
use Rattle.naga_oil_mini_symbols.specs.NameTable.{texts_of}
use Rattle.naga_oil_mini_writer.proofs.OrderLemmas.{unused, text_there, text_past}
use Rattle.naga_oil_mini_writer.proofs.order.ItemNames.used.Goals as goal

pub returns-in_err-name-clause-bounds : goal.returns-in_err-name-clause-bounds
returns-in_err-name-clause-bounds c =
    let ts = c.deref.result.now in
    let past : length ts ≤ c.args.place = ltb-false _ _ (sym c.in_err-name.ensures.lookup.0) in
    let none : slice_get c.args.self.now c.args.place ≡ None = ap (λ (ns : List (List ℕ)). slice_get ns c.args.place) (sym c.self.view_is ∙ ap texts_of (sym c.deref.ensures.value)) ∙ text_past ts c.args.place past in
    unused c.args.self.now c.args.place c.args.bounds.now none

pub next-requires : goal.next-requires
next-requires c =
    let ts = c.deref.result.now in
    let there : slice_get ts c.args.place ≡ Some c.in_ok-name.field-0.now = slice_get-get_or ts c.args.place _ c.in_ok-name.ensures.lookup.3.0 ∙ ap Some (sym c.in_ok-name.ensures.lookup.1) in
    ap (λ (ns : List (List ℕ)). slice_get ns c.args.place) (sym c.self.view_is ∙ ap texts_of (sym c.deref.ensures.value)) ∙ text_there ts c.args.place c.in_ok-name.field-0.now there

pub returns-clause-name : goal.returns-clause-name
returns-clause-name c =
    let ts = c.deref.result.now in
    let there : slice_get ts c.args.place ≡ Some c.in_ok-name.field-0.now = slice_get-get_or ts c.args.place _ c.in_ok-name.ensures.lookup.3.0 ∙ ap Some (sym c.in_ok-name.ensures.lookup.1) in
    sym (ap (λ (ns : List (List ℕ)). slice_get ns c.args.place) (sym c.self.view_is ∙ ap texts_of (sym c.deref.ensures.value)) ∙ text_there ts c.args.place c.in_ok-name.field-0.now there)
