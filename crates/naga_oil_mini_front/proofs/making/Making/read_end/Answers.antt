use Rattle.std.proofs.Common.{◌≡◌, ◌∷◌, suc, drop, get_or, Ok, rules, ap, sym, ◌∙◌, drop-cons}
use Rattle.std.proofs.lemmas.Result.{err_from_is_err_and}
use Rattle.naga_oil_mini_symbols.specs.Symbols.{line_of}
use Rattle.naga_oil_mini_symbols.specs.Refused.{◌>>◌}
use Rattle.naga_oil_mini_symbols.proofs.RefusedLemmas.{Refuses-then}
use Rattle.naga_oil_mini_front.specs.Making.{begun_by, made_of, read_end, read_symbols, returned}
use Rattle.naga_oil_mini_symbols.specs.Symbols.{symbol_of}
use Rattle.naga_oil_mini_front.proofs.making.Making.read_end.Goals as goal

pub returns-in_err-read : goal.returns-in_err-read
returns-in_err-read c =
    let rest = c.in-Some.rest.now in
    let i = c.loop-symbol.symbol-index in
    let m = made_of c.loop-symbol.self in
    let p = err_from_is_err_and c.from_residual-in_err-read.result c.from_residual-in_err-read.ensures.1 in
    let split : c.args.symbols.now ≡ c.in-Some.first.now ∷ rest = search rules in
    let begun : begun_by (symbol_of c.in-Some.first.now) (made_of c.args.self.now) ≡ Ok (made_of c.begin.new.self) = c.in_ok-begin.ensures in
    let first : drop i rest ≡ get_or rest i _ ∷ drop (suc i) rest = drop-cons rest i _ c.loop-symbol-test.true in
    let whole : read_end (line_of c.args.symbols.now) (made_of c.args.self.now) ≡ (read_symbols (line_of (drop i rest)) m >> returned) =
    ap (λ t. read_end (line_of t) (made_of c.args.self.now)) split ∙ ap (λ r. r >> λ n. read_symbols (line_of rest) n >> returned) begun ∙ ap (λ r. r >> returned) (sym c.loop-symbol.invariant) in
    rw (p.1, p.2, whole, first) (Refuses-then _ _ returned (Refuses-then _ _ (read_symbols (line_of (drop (suc i) rest))) c.in_err-read.ensures))
