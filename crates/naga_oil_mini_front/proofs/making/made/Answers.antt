use Rattle.std.proofs.Common.{◌≡◌, ap, sym, ◌∙◌, refl, Ok, None}
use Rattle.naga_oil_ir.proofs.BodyLemmas.{block_tokens-roll}
use Rattle.naga_oil_mini_symbols.specs.Symbols.{line_of}
use Rattle.naga_oil_mini_symbols.specs.Refused.{◌>>◌}
use Rattle.naga_oil_mini_front.specs.Making.{made_of, scope_of, nothing_made, read_end, inside}
use Rattle.naga_oil_mini_front.specs.declared.making.Making.{Making}
use Rattle.naga_oil_mini_front.specs.declared.making.Wanted.TheVariants as code
use Rattle.naga_oil_mini_front.proofs.making.made.Goals as goal

pub returns : goal.returns
returns c =
    let from : Making = record {
      alloc = c.args.alloc;
      scope = c.args.scope;
      span = c.args.span;
      names = c.new-2.result;
      locals = c.new-3.result;
      expressions = c.new-4.result;
      body = c.new-5.result;
      wanted = code.Sum;
      calls = c.new-6.result;
      left = None;
      sum = None;
      unknown = None;
    } in
    let ended = c.read_end.new.self in
    let start : made_of from ≡ nothing_made (scope_of c.args.scope) c.args.span = rw (c.new-2.ensures, c.new-3.ensures, c.new-4.ensures, c.new-5.ensures.items, c.new-6.ensures.items) refl in
    let read : read_end (line_of c.args.symbols.now) (made_of from) ≡ Ok (made_of ended) = c.in_ok-read_end.ensures in
    ap (λ m. read_end (line_of c.args.symbols.now) m >> λ n. Ok (inside n)) (sym start) ∙ ap (λ r. r >> λ n. Ok (inside n)) read ∙ ap (λ b. Ok (record (inside (made_of ended)) { body = b })) (sym (block_tokens-roll (record { body = ended.body })))
