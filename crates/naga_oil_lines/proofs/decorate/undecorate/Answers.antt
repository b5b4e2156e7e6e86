use Rattle.std.proofs.Common.{◌≡◌, ◌++◌, [], ap, sym, ◌∙◌, append-nil}
use Rattle.std.specs.Str.{chars}
use Rattle.std.specs.String.{string_bytes}
use Rattle.std.proofs.lemmas.Str.{chars-nil}
use Rattle.std.proofs.lemmas.List.{nil_from_length}
use Rattle.naga_oil_lines.specs.Undecorate.{with_overrides}
use Rattle.naga_oil_lines.proofs.UndecorateLemmas.{no_overrides}
use Rattle.naga_oil_lines.proofs.decorate.undecorate.Goals as goal

pub loop-first-init : goal.loop-first-init
loop-first-init c =
    let shown = c.as_str-rest.result.now in
    record {
      text = c.as_str-rest.utf8;
      told = ap (λ l. l ++ with_overrides 0 (chars shown)) c.in_ok-out.ensures.bytes ∙ ap (λ l. with_overrides 0 (chars l)) (c.as_str-rest.ensures.value ∙ c.in_ok-named.ensures);
    }

pub loop-first-preserved : goal.loop-first-preserved
loop-first-preserved c = record { text = c.in_ok-rest.ensures.utf8; told = c.in_ok-rest.ensures.value ∙ c.loop-first.invariant.told }

pub returns : goal.returns
returns c =
    let none : chars c.loop-first.rest.now ≡ [] = ap chars (nil_from_length _ c.in_default.ensures) ∙ chars-nil in
    let out = string_bytes c.loop-first.out in
    sym (append-nil out) ∙ ap (λ l. out ++ l) (sym (no_overrides (chars c.loop-first.rest.now) none)) ∙ c.loop-first.invariant.told
