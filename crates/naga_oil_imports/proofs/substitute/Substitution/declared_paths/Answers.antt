use Rattle.std.proofs.Common.{[], ap, sym, ◌∙◌, map, string_bytes}
use Rattle.std.specs.Option.{option_map_or}
use Rattle.naga_oil_imports.specs.Declarations.{declared_of}
use Rattle.naga_oil_imports.proofs.NameMarkLemmas.{not_declared}
use Rattle.naga_oil_imports.proofs.SettledLemmas.{paths_of_map}
use Rattle.naga_oil_imports.proofs.substitute.Substitution.declared_paths.Goals as goal

pub returns-in-Some : goal.returns-in-Some
returns-in-Some c =
    ap (map string_bytes) c.as_slice.ensures.value ∙ ap (λ r. option_map_or (λ v. map string_bytes v.items) r []) c.in-Some.ensures.value
    ∙ sym (paths_of_map c.args.name.now c.args.self.now.declared_imports.now.entries)

pub returns-in-None : goal.returns-in-None
returns-in-None c =
    ap (λ r. option_map_or (λ v. map string_bytes v.items) r []) c.in-None.ensures.value
    ∙ sym (paths_of_map c.args.name.now c.args.self.now.declared_imports.now.entries)

pub returns-then-not-may_have : goal.returns-then-not-may_have
returns-then-not-may_have c =
    sym (not_declared c.args.self.now.names.now (declared_of c.args.self.now.declared_imports.now) c.args.name.now c.requires (sym c.may_have.ensures ∙ c.if-not-may_have.true))
