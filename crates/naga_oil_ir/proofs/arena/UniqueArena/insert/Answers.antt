use Rattle.std.proofs.Common.{◌∙◌, sym}
use Rattle.indexmap.proofs.CallerLemmas.{insert_entry-new}
use Rattle.naga_oil_ir.proofs.PlaceLemmas.{position-keys, place_of-found, place_of-absent, with_element-found, with_element-absent, none_both}
use Rattle.naga_oil_ir.proofs.arena.UniqueArena.insert.Goals as goal

pub returns-in-Some-clause-place : goal.returns-in-Some-clause-place
returns-in-Some-clause-place g c =
    let found = position-keys (g.T.PartialEq.eq c.args.item) c.self.inside.0.entries ∙ sym c.get_index_of.ensures.index ∙ c.in-Some.is in
    let place = place_of-found (λ e. g.T.PartialEq.eq c.args.item e.0) c.self.inside.0.entries c.in-Some.index found in
    let same = c.self.view_is in
    cc

pub returns-in-Some-clause-items : goal.returns-in-Some-clause-items
returns-in-Some-clause-items g c =
    let found = position-keys (g.T.PartialEq.eq c.args.item) c.self.inside.0.entries ∙ sym c.get_index_of.ensures.index ∙ c.in-Some.is in
    let kept = with_element-found (λ e. g.T.PartialEq.eq c.args.item e.0) c.self.inside.0.entries (c.args.item, c.args.span) c.in-Some.index found in
    let same = c.self.view_is in
    cc

pub returns-in_ok-insert-in-None-clause-place : goal.returns-in_ok-insert-in-None-clause-place
returns-in_ok-insert-in-None-clause-place g c =
    let absent = position-keys (g.T.PartialEq.eq c.args.item) c.self.inside.0.entries ∙ sym c.get_index_of.ensures.index ∙ c.in-None.is in
    let place = place_of-absent (λ e. g.T.PartialEq.eq c.args.item e.0) c.self.inside.0.entries absent in
    let same = c.self.view_is in
    cc c.len-index.ensures

pub returns-in_ok-insert-in-None-clause-items : goal.returns-in_ok-insert-in-None-clause-items
returns-in_ok-insert-in-None-clause-items g c =
    let absent = position-keys (g.T.PartialEq.eq c.args.item) c.self.inside.0.entries ∙ sym c.get_index_of.ensures.index ∙ c.in-None.is in
    let last = with_element-absent (λ e. g.T.PartialEq.eq c.args.item e.0) c.self.inside.0.entries (c.args.item, c.args.span) absent in
    let none = none_both c.get_index_of.result _ c.get_index_of.ensures.found c.in-None.is in
    let new = insert_entry-new g.T.PartialEq.eq c.self.inside.0 c.args.item c.args.span none in
    let same = c.self.view_is in
    cc c.in_ok-insert-in-None.ensures.entries
