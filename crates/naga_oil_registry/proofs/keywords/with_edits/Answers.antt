use Rattle.std.proofs.Common.{◌≡◌, ◌+◌, ◌-◌, ◌++◌, length, unwrap_or, ap, sym, ◌∙◌, append_assoc, append-nil, length-append, arith, rules}
use Rattle.std.specs.BTreeMap.{get}
use Rattle.std.specs.Char.{encode_utf8}
use Rattle.std.specs.List.{flat_map}
use Rattle.std.specs.Ordering.{nat_cmp}
use Rattle.std.specs.Str.{chars}
use Rattle.std.specs.String.{string_bytes}
use Rattle.naga_oil_registry.specs.Keywords.{edited}
use Rattle.naga_oil_registry.proofs.KeywordsLemmas.{no_chars, edited_step, edited_nothing}
use Rattle.naga_oil_registry.proofs.keywords.with_edits.Goals as goal

pub loop-first-preserved : goal.loop-first-preserved
loop-first-preserved c =
    let text = c.args.text.now in
    let rest = c.loop-first.rest.now in
    let more = c.in-Some.more.now in
    let first = c.in-Some.first in
    let other = get nat_cmp c.args.edits.now in
    let out = string_bytes c.loop-first.shown in
    let e = c.in-Some.ensures in
    let next : length text - length more ≡ length text - length rest + length (encode_utf8 first) = omega (arith, c.loop-first.invariant.within, ap length e.bytes, length-append (encode_utf8 first) more) in
    let chosen : c.unwrap_or.result ≡ unwrap_or (other (length text - length rest)) first = search rules in
    record {
      text = e.utf8;
      within = omega (arith, e.shorter, c.loop-first.invariant.within);
      shown = ap (λ l. l ++ flat_map encode_utf8 (edited other (length text - length more) (chars more))) c.in_ok-push.ensures.bytes
          ∙ append_assoc out (encode_utf8 c.unwrap_or.result) (flat_map encode_utf8 (edited other (length text - length more) (chars more)))
          ∙ ap (λ l. out ++ l) (edited_step other (length text - length rest) (length text - length more) first c.unwrap_or.result (chars rest) (chars more) e.spelled next chosen)
          ∙ c.loop-first.invariant.shown;
    }

pub returns : goal.returns
returns c =
    let rest = c.loop-first.rest.now in
    let out = string_bytes c.loop-first.shown in
    sym (append-nil out) ∙ ap (λ l. out ++ l) (sym (edited_nothing (get nat_cmp c.args.edits.now) (length c.args.text.now - length rest) (chars rest) (no_chars rest c.in_default.ensures))) ∙ c.loop-first.invariant.shown
