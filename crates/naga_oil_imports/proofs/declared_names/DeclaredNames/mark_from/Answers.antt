use Rattle.std.proofs.Common.{◌+◌, ◌||◌, drop, ap, ◌∙◌}
use Rattle.naga_oil_imports.specs.Declarations.{declared_of}
use Rattle.naga_oil_imports.specs.NameMarks.{has_mark, shares_slot, keys_of}
use Rattle.naga_oil_imports.proofs.NameMarkLemmas.{marks_next, marks_past}
use Rattle.naga_oil_imports.proofs.declared_names.DeclaredNames.mark_from.Goals.{in-Some, in_default}
use Rattle.naga_oil_imports.proofs.declared_names.DeclaredNames.mark_from.Goals as goal

pub loop-at-preserved : goal.loop-at-preserved
loop-at-preserved c = λ other.
    elim c.match-get_index.branch [
      | in-Some w ↦
          marks_next c.args.declared.now.entries c.loop-at.at (w.in-Some.name.now, w.in-Some.field-0-1.now) w.as_str.result.now other (has_mark c.loop-at.self other) (has_mark c.match-get_index.self other) _
          w.in-Some.ensures.entry w.as_str.ensures.value (ap (λ n. has_mark n other) w.self-is ∙ w.mark.ensures other) (c.loop-at.invariant other)
      | in_default w ↦
          ap (λ n. has_mark n other || shares_slot (drop (c.loop-at.at + 1) (keys_of (declared_of c.args.declared.now))) other) w.self-is ∙ marks_past c.args.declared.now.entries c.loop-at.at other (has_mark c.loop-at.self other) _ w.in_default.ensures.entry (c.loop-at.invariant other)
    ]
