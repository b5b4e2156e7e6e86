use Rattle.std.proofs.Common.{◌≡◌, map, true, sym, ap, ◌∙◌, List, ℕ, Option}
use Rattle.naga_oil_ir.specs.ModuleValue.{function_value}
use Rattle.naga_oil_words.specs.Texts.{texts}
use Rattle.naga_oil_build.specs.Writeback.{NamedItem, have_come_back, last_named}
use Rattle.naga_oil_build.specs.WritebackView.{named_of}
use Rattle.naga_oil_build.proofs.WritebackLemmas.{functions_kept}
use Rattle.naga_oil_build.proofs.writeback.lost_among_functions.Goals as goal

pub returns-then-have_come_back : goal.returns-then-have_come_back
returns-then-have_come_back c =
    let owned = texts c.args.owned.now.keys in
    let all : have_come_back (last_named (map named_of c.args.back.now)) owned ≡ true = ap (λ (b : List ℕ → Option NamedItem). have_come_back b owned) (sym c.in_ok-back.ensures) ∙ sym c.have_come_back.ensures ∙ c.if-have_come_back.true in
    sym (functions_kept owned (last_named (map named_of c.args.back.now)) (map (λ e. (function_value e.0, e.1)) c.args.functions.now) all)
