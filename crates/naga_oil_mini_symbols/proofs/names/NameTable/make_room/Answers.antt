use Rattle.std.proofs.Common.{ap, sym, ◌∙◌, subst}
use Rattle.naga_oil_mini_symbols.specs.NameTable.{last_place, texts_of, Finds}
use Rattle.naga_oil_mini_symbols.proofs.names.NameTable.make_room.Goals as goal
use Rattle.naga_oil_mini_symbols.proofs.names.NameTable.make_room.Goals.{in-Some, in_default}

pub invariant_of-self : goal.invariant_of-self
invariant_of-self c =
    let texts = c.self.inside.texts.items in
    elim c.match-self.branch [
      | in-Some w ↦
          let before = subst (λ o. Finds o (texts_of texts)) w.in-Some.is c.self.invariant in
          rw w.self-inside-is (λ q. w.reserve-in-Some.ensures.entries.2 (record { ref_ptr = (0, 0); now = q }) ∙ before q ∙ ap (λ ts. last_place q (texts_of ts)) (sym c.reserve.ensures.items))
      | in_default w ↦ rw w.self-inside-is (rw (w.in_default.is) tt)
    ]
