use Rattle.std.proofs.Common.{true, false, sym, subst, ap, ◌∙◌, length, length-append, arith}
use Rattle.std.proofs.lemmas.List.{nil_from_length}
use Rattle.naga_oil_imports.specs.Sites.{Passes}
use Rattle.naga_oil_lines.specs.Text.{BeginsWithChar}
use Rattle.naga_oil_lines.proofs.TokenLemmas.{suffix_after_char}
use Rattle.naga_oil_lines.proofs.WordLemmas.{identifier_lacks_colon}
use Rattle.naga_oil_imports.proofs.PassLemmas.{passes_none, passes_more, kept_passes, identifier_first}
use Rattle.naga_oil_imports.proofs.GapLemmas.{ascii_starts, passes_gap, passes_after_gap}
use Rattle.naga_oil_imports.proofs.substitute.next_site.Goals as goal

pub loop-rest-init : goal.loop-rest-init
loop-rest-init c = record { text = c.utf8.text; passes = passes_none false c.args.text.now c.utf8.text }

pub returns-in_default : goal.returns-in_default
returns-in_default c =
    let s = c.split_gap.ensures in
    let before = passes_gap c.loop-rest.rest.now _ _ s.gap s.rest _ _ _ c.loop-rest.invariant.text c.gap_keeps-kept.ensures c.loop-rest.invariant.passes in
    (c.gap_keeps-kept.result, subst (λ l. Passes false c.args.text.now c.gap_keeps-kept.result l) (nil_from_length _ c.in_default.ensures) before)

pub loop-rest-preserved-then-not-starts_after_gap : goal.loop-rest-preserved-then-not-starts_after_gap
loop-rest-preserved-then-not-starts_after_gap c =
    let e = c.in-Some.ensures in
    let s = c.split_gap.ensures in
    let before = passes_gap c.loop-rest.rest.now _ _ s.gap s.rest _ _ _ c.loop-rest.invariant.text c.gap_keeps-kept.ensures c.loop-rest.invariant.passes in
    let one = passes_after_gap c.loop-rest.rest.now _ _ s.gap s.rest c.gap_keeps-kept.result _ _ e (sym c.starts_after_gap.ensures ∙ c.if-not-starts_after_gap.true) in
    record { text = e.utf8; passes = passes_more _ _ _ _ _ _ before one }

pub starts_after_gap-requires : goal.starts_after_gap-requires
starts_after_gap-requires c ascii = ascii_starts c.loop-rest.rest.now _ _ (subst (λ l. BeginsWithChar l c.in-Some.first c.in-Some.more.now) c.split_gap.ensures.rest c.in-Some.ensures) ascii

pub text_before-requires : goal.text_before-requires
text_before-requires c = suffix_after_char _ _ _ _ _ c.in-Some.ensures c.past_identifier-is_word.ensures.suffix.1

pub returns-then-not-kept : goal.returns-then-not-kept
returns-then-not-kept c =
    let b = c.past_identifier-is_word.ensures in
    let s = c.split_gap.ensures in
    let starts = sym c.starts_after_gap.ensures ∙ c.if-not-starts_after_gap.false in
    let before = passes_gap c.loop-rest.rest.now _ _ s.gap s.rest _ _ _ c.loop-rest.invariant.text c.gap_keeps-kept.ensures c.loop-rest.invariant.passes in
    record {
      before = subst (λ k. Passes false c.args.text.now k c.split_gap.result.1.now) c.if-not-kept.true before;
      cut = c.text_before.ensures;
      word = λ is. identifier_lacks_colon _ _ _ b.suffix.0 c.text_before.result.now c.past_identifier-is_word.result.0.now c.in-Some.ensures b.suffix.1 c.text_before.ensures starts (b.suffix.2 is);
      shorter = omega (arith, c.in-Some.ensures.shorter, ap length b.suffix.1, length-append b.suffix.0 c.past_identifier-is_word.result.0.now);
      utf8 = b.utf8;
      token = identifier_first _ _ _ _ _ c.in-Some.ensures starts c.text_before.ensures b.utf8 b.chars;
    }

pub loop-rest-preserved : goal.loop-rest-preserved
loop-rest-preserved c =
    let b = c.past_identifier-is_word.ensures in
    let s = c.split_gap.ensures in
    let name = suffix_after_char _ _ _ _ _ c.in-Some.ensures b.suffix.1 in
    let before = passes_gap c.loop-rest.rest.now _ _ s.gap s.rest _ _ _ c.loop-rest.invariant.text c.gap_keeps-kept.ensures c.loop-rest.invariant.passes in
    let one : Passes true c.split_gap.result.1.now false c.past_identifier-is_word.result.0.now =
    kept_passes _ _ _ _ _ c.in-Some.ensures (sym c.starts_after_gap.ensures ∙ c.if-not-starts_after_gap.false) name.1 b.utf8 b.chars in
    record {
      text = b.utf8;
      passes = passes_more _ _ _ _ _ _ (subst (λ k. Passes false c.args.text.now k c.split_gap.result.1.now) c.if-not-kept.false before) one;
    }
