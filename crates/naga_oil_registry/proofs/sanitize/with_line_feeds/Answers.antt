use Rattle.std.proofs.Common.{◌≡◌, ◌++◌, ◌∷◌, [], Some, None, eqb, true, false, sym, ap, ◌∙◌, append_assoc, rules}
use Rattle.std.specs.List.{ends_with}
use Rattle.std.specs.String.{string_bytes}
use Rattle.std.proofs.lemmas.Str.Pattern.{split_parts, ends_text}
use Rattle.naga_oil_registry.specs.Sanitized.{line_feeds, end_last_line}
use Rattle.naga_oil_registry.proofs.SanitizedLemmas.{plain_front, plain_text, ended_already, ended_now}
use Rattle.naga_oil_registry.proofs.sanitize.with_line_feeds.Goals as goal

pub loop-before-preserved : goal.loop-before-preserved
loop-before-preserved c =
    let parts = split_parts 13 c.loop-before.rest.now (Some (c.in-Some.before, c.in-Some.following)) c.in-Some.ensures.cases (search rules) in
    let pushed : string_bytes c.push.new.self ≡ (string_bytes c.loop-before.text ++ c.in-Some.before.now) ++ 10 ∷ [] = search rules in
    let read : line_feeds c.loop-before.rest.now ≡ c.in-Some.before.now ++ 10 ∷ line_feeds c.past_line_feed-rest.result.now =
    ap line_feeds parts.0 ∙ plain_front c.in-Some.before.now (13 ∷ c.in-Some.following.now) parts.1 ∙ ap (λ l. c.in-Some.before.now ++ l) c.past_line_feed-rest.ensures.value in
    record {
      text = c.past_line_feed-rest.utf8;
      same =
          ap (λ t. t ++ line_feeds c.past_line_feed-rest.result.now) pushed
          ∙ append_assoc (string_bytes c.loop-before.text ++ c.in-Some.before.now) (10 ∷ []) (line_feeds c.past_line_feed-rest.result.now)
          ∙ append_assoc (string_bytes c.loop-before.text) c.in-Some.before.now (10 ∷ line_feeds c.past_line_feed-rest.result.now)
          ∙ ap (λ l. string_bytes c.loop-before.text ++ l) (sym read)
          ∙ c.loop-before.invariant.same;
    }

pub returns-then-ends_with : goal.returns-then-ends_with
returns-then-ends_with c =
    let plain = plain_text c.loop-before.rest.now (split_parts 13 c.loop-before.rest.now None c.in_default.ensures.cases (search rules)) in
    let pushed : string_bytes c.push_str-2.new.self ≡ string_bytes c.loop-before.text ++ c.loop-before.rest.now = search rules in
    let whole : string_bytes c.push_str-2.new.self ≡ line_feeds c.args.source.now = pushed ∙ ap (λ l. string_bytes c.loop-before.text ++ l) (sym plain) ∙ c.loop-before.invariant.same in
    let ends : ends_with eqb (string_bytes c.push_str-2.new.self) (10 ∷ []) ≡ true = ap (λ t. ends_with eqb t (10 ∷ [])) (sym c.as_str.ensures.value) ∙ sym (ends_text c.ends_with.result (10 ∷ []) c.as_str.result.now c.ends_with.ensures.cases) ∙ c.if-ends_with.true in
    ended_already (string_bytes c.push_str-2.new.self) ends ∙ ap end_last_line whole

pub returns : goal.returns
returns c =
    let plain = plain_text c.loop-before.rest.now (split_parts 13 c.loop-before.rest.now None c.in_default.ensures.cases (search rules)) in
    let pushed : string_bytes c.push_str-2.new.self ≡ string_bytes c.loop-before.text ++ c.loop-before.rest.now = search rules in
    let whole : string_bytes c.push_str-2.new.self ≡ line_feeds c.args.source.now = pushed ∙ ap (λ l. string_bytes c.loop-before.text ++ l) (sym plain) ∙ c.loop-before.invariant.same in
    let ends : ends_with eqb (string_bytes c.push_str-2.new.self) (10 ∷ []) ≡ false = ap (λ t. ends_with eqb t (10 ∷ [])) (sym c.as_str.ensures.value) ∙ sym (ends_text c.ends_with.result (10 ∷ []) c.as_str.result.now c.ends_with.ensures.cases) ∙ c.if-ends_with.false in
    let more : string_bytes c.push-2.new.self ≡ string_bytes c.push_str-2.new.self ++ 10 ∷ [] = search rules in
    more ∙ ended_now (string_bytes c.push_str-2.new.self) ends ∙ ap end_last_line whole
