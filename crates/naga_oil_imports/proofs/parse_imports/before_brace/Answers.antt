use Rattle.std.proofs.Common.{◌≡◌, false, sym, ◌∙◌, nat_eq}
use Rattle.std.specs.Prelude.{codes}
use Rattle.std.specs.List.{ends_with}
use Rattle.std.proofs.lemmas.Str.Pattern.{ends_text}
use Rattle.naga_oil_imports.proofs.parse_imports.before_brace.Goals as goal

pub returns-else-ends_with : goal.returns-else-ends_with
returns-else-ends_with c =
    let not : ends_with nat_eq c.args.name.now (codes "::") ≡ false = sym (ends_text c.ends_with.result (codes "::") c.args.name.now c.ends_with.ensures.cases) ∙ c.if-ends_with.false in
    rw not
