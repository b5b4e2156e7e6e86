use Rattle.std.proofs.Common.{◌≡◌, ◌+◌, ◌++◌, length, Some, None, sym, ap, ◌∙◌, append_assoc, rules, arith}
use Rattle.std.specs.String.{string_bytes}
use Rattle.naga_oil_registry.specs.Sanitized.{parts_around, auto_binding, numbered, binding}
use Rattle.naga_oil_registry.proofs.SanitizedLemmas.{cut_around, some_parts, numbered_more, within_reach, out_of_reach}
use Rattle.naga_oil_registry.proofs.sanitize.with_bindings.Goals as goal

pub returns-then-next : goal.returns-then-next
returns-then-next c =
    let cut = cut_around auto_binding c.loop-before.rest.now (Some (c.in-Some.before, c.in-Some.following)) (search rules) c.in-Some.ensures.cases in
    let rest = some_parts auto_binding c.in-Some.following.now in
    out_of_reach c.args.counter (parts_around auto_binding c.args.text.now) (omega (arith, c.loop-before.invariant.count, ap length cut.0, rest)) (some_parts auto_binding c.args.text.now)

pub loop-before-preserved : goal.loop-before-preserved
loop-before-preserved c =
    let cut = cut_around auto_binding c.loop-before.rest.now (Some (c.in-Some.before, c.in-Some.following)) (search rules) c.in-Some.ensures.cases in
    let pushed : string_bytes c.write.new.self ≡ (string_bytes c.loop-before.numbered ++ c.in-Some.before.now) ++ binding c.loop-before.next = c.in_ok-write.ensures.bytes ∙ ap (λ t. t ++ binding c.loop-before.next) (let h : string_bytes c.push_str.new.self ≡ string_bytes c.loop-before.numbered ++ c.in-Some.before.now = search rules in h) in
    record {
      text = search rules;
      count = omega (arith, c.loop-before.invariant.count, ap length cut.0);
      same =
          ap (λ t. t ++ numbered (c.loop-before.next + 1) (parts_around auto_binding c.in-Some.following.now)) pushed
          ∙ append_assoc (string_bytes c.loop-before.numbered ++ c.in-Some.before.now) (binding c.loop-before.next) (numbered (c.loop-before.next + 1) (parts_around auto_binding c.in-Some.following.now))
          ∙ append_assoc (string_bytes c.loop-before.numbered) c.in-Some.before.now (binding c.loop-before.next ++ numbered (c.loop-before.next + 1) (parts_around auto_binding c.in-Some.following.now))
          ∙ ap (λ l. string_bytes c.loop-before.numbered ++ l) (sym (numbered_more auto_binding c.in-Some.following.now c.loop-before.next c.in-Some.before.now) ∙ ap (numbered c.loop-before.next) (sym cut.0))
          ∙ c.loop-before.invariant.same;
    }

pub returns : goal.returns
returns c =
    let none = cut_around auto_binding c.loop-before.rest.now None (search rules) c.in_default.ensures.cases in
    let pushed : string_bytes c.push_str-2.new.self ≡ string_bytes c.loop-before.numbered ++ c.loop-before.rest.now = search rules in
    within_reach c.args.counter c.loop-before.next (parts_around auto_binding c.args.text.now) (string_bytes c.push_str-2.new.self) (some_parts auto_binding c.args.text.now) (omega arith) (omega (arith, c.loop-before.invariant.count, ap length none))
    (pushed ∙ ap (λ ps. string_bytes c.loop-before.numbered ++ numbered c.loop-before.next ps) (sym none) ∙ c.loop-before.invariant.same)
