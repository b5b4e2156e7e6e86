use Rattle.std.proofs.Common.{◌≡◌, ◌++◌, Some, None, codes, ap, sym, ◌∙◌, append_assoc, rules}
use Rattle.std.specs.Char.{encode_utf8}
use Rattle.std.specs.Str.{chars}
use Rattle.std.specs.String.{string_bytes}
use Rattle.naga_oil_lines.specs.Decorate.{decoded}
use Rattle.naga_oil_lines.specs.Undecorate.{mark_code, with_overrides}
use Rattle.naga_oil_lines.proofs.UndecorateLemmas.{not_marked, not_decoded, overridden, spelled_override_mark}
use Rattle.naga_oil_lines.proofs.decorate.push_front.Goals as goal

pub returns-in_default-clause-value : goal.returns-in_default-clause-value
returns-in_default-clause-value c =
    let out = string_bytes c.args.out.now in
    let more = chars c.args.more.now in
    ap (λ l. l ++ with_overrides 0 more) c.in_ok-push.ensures.bytes
    ∙ append_assoc out (encode_utf8 c.args.first) (with_overrides 0 more)
    ∙ ap (λ l. out ++ l) (not_marked (chars c.args.text.now) c.args.first more c.requires.spelled (c.in_default.ensures.found ∙ ap (λ m. mark_code m (chars c.args.text.now)) spelled_override_mark))

pub returns-in_default-2-clause-value : goal.returns-in_default-2-clause-value
returns-in_default-2-clause-value c =
    let out = string_bytes c.args.out.now in
    let more = chars c.args.more.now in
    let none : None ≡ decoded c.in-Some.code.now = search rules in
    ap (λ l. l ++ with_overrides 0 more) c.in_ok-push-2.ensures.bytes
    ∙ append_assoc out (encode_utf8 c.args.first) (with_overrides 0 more)
    ∙ ap (λ l. out ++ l) (not_decoded (chars c.args.text.now) c.args.first more c.requires.spelled _ _ (c.in-Some.ensures.found ∙ ap (λ m. mark_code m (chars c.args.text.now)) spelled_override_mark) none)

pub returns-clause-value : goal.returns-clause-value
returns-clause-value c =
    let out = string_bytes c.args.out.now in
    let name = string_bytes c.in-Some-2.module_name in
    let following = with_overrides 0 (chars c.in-Some.following.now) in
    let some : Some name ≡ decoded c.in-Some.code.now = search rules in
    let pieces : string_bytes c.write.new.self ≡ out ++ (codes "override fn " ++ (name ++ codes "::")) = c.in_ok-write.ensures.bytes in
    let written : string_bytes c.write.new.self ≡ out ++ (codes "override fn " ++ name ++ codes "::") = pieces ∙ ap (λ l. out ++ l) (sym (append_assoc (codes "override fn ") name (codes "::"))) in
    ap (λ l. l ++ following) written ∙ append_assoc out (codes "override fn " ++ name ++ codes "::") following
    ∙ ap (λ l. out ++ l) (overridden (chars c.args.text.now) c.args.first (chars c.args.more.now) c.requires.spelled _ _ _ (c.in-Some.ensures.found ∙ ap (λ m. mark_code m (chars c.args.text.now)) spelled_override_mark) some)
