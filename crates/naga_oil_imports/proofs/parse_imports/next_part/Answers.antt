use Rattle.naga_oil_imports.proofs.PartLemmas.{no_parts, unit_first, mark_first, white_first, seen_first}
use Rattle.naga_oil_imports.proofs.parse_imports.next_part.Goals as goal

pub returns-in_default-clause-parts : goal.returns-in_default-clause-parts
returns-in_default-clause-parts c = no_parts _ c.in_default.ensures.cases

pub returns-in-Identifier-clause-parts : goal.returns-in-Identifier-clause-parts
returns-in-Identifier-clause-parts c = unit_first _ _ _ _ _ _ (seen_first _ _ _ _ c.in-Some.ensures.cases.0 c.in-Identifier.is) c.unit.ensures.part c.unit.ensures.rest

pub returns-in-Other-clause-parts : goal.returns-in-Other-clause-parts
returns-in-Other-clause-parts c = mark_first _ _ _ _ _ (seen_first _ _ _ _ c.in-Some.ensures.cases.0 c.in-Other.is) c.mark_part.ensures

pub returns-in-Whitespace-clause-parts : goal.returns-in-Whitespace-clause-parts
returns-in-Whitespace-clause-parts c = white_first _ _ _ _ (seen_first _ _ _ _ c.in-Some.ensures.cases.0 c.in-Whitespace.is)
