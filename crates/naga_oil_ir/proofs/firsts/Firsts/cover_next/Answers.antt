use Rattle.std.proofs.Common.{◌≡◌, ◌+◌, ◌∙◌, sym, ap, refl, arith, nat_eq, cond, min, length, Some}
use Rattle.std.specs.Map.{lookup}
use Rattle.std.specs.Option.{option_map_or}
use Rattle.std.proofs.lemmas.Option.{slice_get_read}
use Rattle.naga_oil_ir.proofs.FirstsLemmas.{covers-step}
use Rattle.naga_oil_ir.proofs.firsts.Firsts.cover_next.Goals as goal

pub returns-clause-covers : goal.returns-clause-covers
returns-clause-covers g c =
    let n = c.args.self.now.covered in
    let es = c.args.self.now.places.entries in
    let e = c.index-items-at.result in
    let f = c.place-first.result in
    let at = slice_get_read c.args.items.now (length c.args.items.now) n e refl c.requires.next c.index-items-at.is in
    let digest : c.digest-digest.result ≡ g.T.Item.digest e.0 = c.digest-digest.ensures ∙ ap (λ x. g.T.Item.digest x.0) (sym c.index-items-at.is) in
    let place = c.place-first.ensures ∙ ap (λ k. option_map_or (min n) (lookup (nat_eq k) es) n) digest in
    covers-step g.T.Item.digest c.args.items.now n (n + 1) es c.insert.new.self.entries e f (omega arith) c.requires.covers at place (λ q. c.in_ok-insert.ensures.updates.0 q ∙ ap (λ k. cond (nat_eq k q) (Some f) (lookup (nat_eq q) es)) digest)
