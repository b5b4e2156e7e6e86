-- How the expressions, results and local variables of a body are written.
use Rattle.std.specs.Prelude.{ℕ, Bool, List, length}
use Rattle.naga_oil_ir.specs.ModuleValue.{FunctionValue, ModuleValue}
use Rattle.yettuvam_wgsl_counts.specs.Locals.{locals_of}
use Rattle.yettuvam_wgsl_counts.specs.Times.{times_of}
use Rattle.yettuvam_wgsl_counts.specs.declared.locals.Declared.{Declared}
use Rattle.yettuvam_wgsl_counts.specs.declared.times.Times.{Times}
use Rattle.yettuvam_wgsl_lines.specs.Groups.{groups_of}
use Rattle.yettuvam_wgsl_lines.specs.Line.{Lines}
use Rattle.yettuvam_wgsl_lines.specs.Reader.{BodyValue}
use Rattle.yettuvam_wgsl_natures.specs.Natures.{natures_of}
use Rattle.yettuvam_wgsl_uses.specs.Choice.{lets_of, merged_of, spread_all}
use Rattle.yettuvam_wgsl_uses.specs.Facts.{facts_of}
use Rattle.yettuvam_wgsl_uses.specs.Order.{early_of}
use Rattle.yettuvam_wgsl_uses.specs.Texts.{last_of}
use Rattle.yettuvam_wgsl_uses.specs.declared.facts.Fact.{Fact}
use Rattle.yettuvam_wgsl_uses.specs.declared.uses.Uses.{Uses as UsesByCode}

-- by the places of expressions, lines and local variables
pub record Uses : Type 0 where
  pub texts : List Times
  pub last : List ℕ
  pub is_let : List Bool
  pub merged : List Bool
  pub groups : List ℕ
  pub locals : List Declared

abbrev pub uses_value : UsesByCode → Uses
uses_value u = record {
  texts = u.texts.items;
  last = u.last.items;
  is_let = u.is_let.items;
  merged = u.merged.items;
  groups = u.groups.items;
  locals = u.locals.items;
}

-- the expressions that must be evaluated early, where places pass this on to their operands
abbrev pub early_by : List Fact → Lines → List Bool
early_by fs ls = spread_all fs ls (early_of fs ls)

unfoldable pub chosen : List Fact → List Times → Lines → List Declared → Uses
chosen fs ts ls ds =
    let early = early_by fs ls in
    let lets = lets_of fs early ls in
    let merged = merged_of fs early ls in
    let groups = groups_of merged ls in
    record {
      texts = ts;
      last = last_of (length fs) lets groups ls;
      is_let = lets;
      merged = merged;
      groups = groups;
      locals = ds;
    }

-- how a body is written
unfoldable pub uses_of : ModuleValue → FunctionValue → BodyValue → Uses
uses_of m f b =
    let ts = times_of (length f.expressions) b.lines in
    chosen (facts_of (natures_of m f) ts f.expressions) ts b.lines (locals_of f b)
