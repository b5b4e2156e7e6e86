use Rattle.std.proofs.lemmas.Result.{err_from_is_err_and}
use Rattle.std.proofs.Common.{◌≡◌, ℕ, ◌+◌, ◌-◌, ◌<◌, length, Ok, ap, sym, ◌∙◌, rules, arith}
use Rattle.naga_oil_ir.specs.Backend.{parse_fault}
use Rattle.naga_oil_ir.specs.ModuleValue.{module_value}
use Rattle.naga_oil_mini_front.specs.Reader.{parsed, with_line, with_lines, span_at, placed_lines}
use Rattle.naga_oil_mini_front.proofs.LineLemmas.{first_begins, has_bytes}
use Rattle.naga_oil_mini_front.proofs.ReaderLemmas.{line_read, line_refused, answered}
use Rattle.naga_oil_mini_front.proofs.reader.parsed.Goals as goal

pub loop-rest-init : goal.loop-rest-init
loop-rest-init c =
    let text = c.args.text.now in
    let front : length text - length text ≡ 0 = omega arith in
    record {
      whole = (λ i. with_lines (placed_lines (front i) text) (c.in_ok-reader.ensures.value i));
      within = omega arith;
      utf8 = search rules;
      known = c.in_ok-reader.ensures.known;
    }

pub loop-rest-smaller : goal.loop-rest-smaller
loop-rest-smaller c =
    let some : 0 < length c.loop-rest.rest.now = has_bytes _ c.is_empty.result c.is_empty.ensures c.loop-rest-test.true in
    (first_begins 0 c.loop-rest.rest.now c.first_line.result.0.now c.first_line.result.1.now some c.first_line.ensures).shorter

pub loop-rest-preserved : goal.loop-rest-preserved
loop-rest-preserved c =
    let text = c.args.text.now in
    let rest = c.loop-rest.rest.now in
    let line = c.first_line.result.0.now in
    let following = c.first_line.result.1.now in
    let start : ℕ = length text - length rest in
    let m = module_value c.loop-rest.reader.module_ in
    let some : 0 < length rest = has_bytes _ c.is_empty.result c.is_empty.ensures c.loop-rest-test.true in
    let at : c.new-span.result ≡ span_at start line = search rules in
    let begins = first_begins start rest line following some c.first_line.ensures in
    let read : with_line line (span_at start line) m ≡ Ok (module_value c.read.new.self.module_) = ap (λ s. with_line line s m) (sym at) ∙ c.in_default.ensures.value in
    let next : length text - length following ≡ start + (length rest - length following) = omega (arith, begins.shorter, c.loop-rest.invariant.within) in
    record {
      whole = ap (λ k. with_lines (placed_lines k following) (module_value c.read.new.self.module_)) next
          ∙ sym (line_read start rest line following m (module_value c.read.new.self.module_) some c.first_line.ensures read)
          ∙ c.loop-rest.invariant.whole;
      within = omega (arith, begins.shorter, c.loop-rest.invariant.within);
      utf8 = search rules;
      known = c.in_default.ensures.known;
    }

pub returns-in-Err : goal.returns-in-Err
unfolding parsed
returns-in-Err c =
    let text = c.args.text.now in
    let rest = c.loop-rest.rest.now in
    let line = c.first_line.result.0.now in
    let start : ℕ = length text - length rest in
    let m = module_value c.loop-rest.reader.module_ in
    let some : 0 < length rest = has_bytes _ c.is_empty.result c.is_empty.ensures c.loop-rest-test.true in
    let at : c.new-span.result ≡ span_at start line = search rules in
    answered c.in-Err.refusal (with_line line c.new-span.result m) c.new-span.result (parse_fault c.in_ok-fault.fault) (parsed text) c.in-Err.ensures.value c.in_ok-fault.ensures
    (λ f e. sym c.loop-rest.invariant.whole ∙ rw at (line_refused start rest line c.first_line.result.1.now m f some c.first_line.ensures (ap (λ s. with_line line s m) (sym at) ∙ e)))

pub returns-in_err-fault : goal.returns-in_err-fault
returns-in_err-fault c =
    let p = err_from_is_err_and c.from_residual-in_err-fault.result c.from_residual-in_err-fault.ensures.1 in
    rw (p.1, p.2) tt
