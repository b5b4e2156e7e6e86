use Rattle.std.proofs.Common.{◌≡◌, ℕ, List, ◌++◌, Some, None, codes, ap, sym, ◌∙◌, append_assoc, rules}
use Rattle.std.specs.Str.{chars}
use Rattle.std.specs.String.{string_bytes}
use Rattle.std.proofs.lemmas.Result.{on_ok_weaker}
use Rattle.std.proofs.lemmas.Str.{encodes-chars}
use Rattle.naga_oil_lines.specs.Decorate.{decoded}
use Rattle.naga_oil_lines.proofs.DirectiveLemmas.{last_piece}
use Rattle.naga_oil_lines.proofs.UndecorateLemmas.{unmarked, undecoded, named}
use Rattle.naga_oil_lines.proofs.decorate.push_run.Goals as goal

grouped : (a b c d : List ℕ) → a ++ (b ++ (c ++ d)) ≡ a ++ b ++ c ++ d
grouped a b c d = simp append_assoc

pub returns-in_default : goal.returns-in_default
returns-in_default c =
    last_piece c.push_str.result (string_bytes c.args.out.now) c.args.run.now _ _ c.push_str.ensures.bytes
    (ap (λ l. string_bytes c.args.out.now ++ l) (sym (encodes-chars c.args.run.now c.utf8.run) ∙ unmarked (chars c.args.run.now) c.in_default.ensures.parts))

pub returns-in-None : goal.returns-in-None
returns-in-None c =
    let none : None ≡ decoded c.in-Some.code.now = search rules in
    last_piece c.push_str-in-None.result (string_bytes c.args.out.now) c.args.run.now _ _ c.push_str-in-None.ensures.bytes
    (ap (λ l. string_bytes c.args.out.now ++ l) (sym (encodes-chars c.args.run.now c.utf8.run) ∙ undecoded (chars c.args.run.now) _ _ _ c.in-Some.ensures.parts none))

pub returns-in-Some-2 : goal.returns-in-Some-2
returns-in-Some-2 c =
    let out = string_bytes c.args.out.now in
    let name = string_bytes c.in-Some-2.module_name in
    let before = c.in-Some.before.now in
    let following = c.in-Some.following.now in
    let some : Some name ≡ decoded c.in-Some.code.now = search rules in
    on_ok_weaker c.write.result
    (λ (e : string_bytes c.write.new.self ≡ out ++ (name ++ (codes "::" ++ (before ++ following)))). e
    ∙ ap (λ l. out ++ l) (grouped name (codes "::") before following ∙ ap (λ l. name ++ codes "::" ++ before ++ l) (sym (encodes-chars following c.in-Some.ensures.utf8))
    ∙ named (chars c.args.run.now) before c.in-Some.code.now (chars following) name c.in-Some.ensures.parts some))
    c.write.ensures.bytes
