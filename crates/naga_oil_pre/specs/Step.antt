-- Line by line under the levels of the open chains, as in the loop.
use Rattle.std.specs.Prelude.{ℕ, zero, suc, Bool, true, false, if◌then◌else◌, List, [], ◌∷◌, Result}
use Rattle.naga_oil_conditions.specs.declared.scope.ScopeLevel.{ScopeLevel}
use Rattle.naga_oil_conditions.specs.Line.{Line}
use Rattle.naga_oil_conditions.specs.Kind.{LineKind, version, condition, endif, imports, import_path, define, other, kind_of}
use Rattle.naga_oil_conditions.specs.Fault.{Fault, too_many_end_ifs, Definitions, evaluated, is_met}
use Rattle.naga_oil_pre.specs.Reading.{braces_after, taken}
use Rattle.naga_oil_pre.specs.Preprocessed.{Status, blanked, imported, noted, condition_status, stray_status, plain_status, end_status}
use Rattle.naga_oil_conditions.specs.Scope.{level, has_met, is_active, is_open}

-- one line under the levels: its status, and the levels after it
abbrev pub Step : Type 0
Step = Status × List ScopeLevel

-- an else under the levels
abbrev pub else_step : Line → Result Bool Fault → List ScopeLevel → Step
else_step l holds [] = (stray_status l holds, [])
else_step l holds (previous ∷ outer) = (condition_status l holds, level (is_active outer) (has_met previous) (is_met holds) ∷ outer)

abbrev pub end_step : Line → List ScopeLevel → Step
end_step l [] = (noted (too_many_end_ifs l.at), [])
end_step l (previous ∷ outer) = (blanked l, outer)

-- the step of a line, with more lines after it
abbrev pub step : Definitions → List ScopeLevel → Line → LineKind → (more : List Line) → Step
step defs levels l (version known) more = (plain_status defs (is_active levels) l (version known), levels)
step defs levels l (condition false c) more = (condition_status l (evaluated defs l.at c), level (is_active levels) false (is_met (evaluated defs l.at c)) ∷ levels)
step defs levels l (condition true c) more = else_step l (evaluated defs l.at c) levels
step defs levels l endif more = end_step l levels
step defs levels l imports more = (if is_active levels then imported l (taken (braces_after 0 l.covered) more) else blanked l, levels)
step defs levels l (import_path name) more = (blanked l, levels)
step defs levels l (define name value) more = (blanked l, levels)
step defs levels l other more = (plain_status defs (is_active levels) l other, levels)

-- the number of braces that a line leaves open for the lines after it
abbrev pub opened : List ScopeLevel → Line → LineKind → ℕ
opened levels l imports = if is_active levels then braces_after 0 l.covered else 0
opened levels l _ = 0

-- the statuses of the lines that are left, and of the end
abbrev pub scanned : Definitions → ℕ → List ScopeLevel → (braces : ℕ) → List Line → List Status
scanned defs end levels braces [] = end_status end (is_open levels)
scanned defs end levels zero (l ∷ more) = (step defs levels l (kind_of l.covered) more).0 ∷ scanned defs end (step defs levels l (kind_of l.covered) more).1 (opened levels l (kind_of l.covered)) more
scanned defs end levels (suc n) (l ∷ more) = blanked l ∷ scanned defs end levels (braces_after (suc n) l.covered) more
