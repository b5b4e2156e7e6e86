-- Modules whose calls can be redirected to other functions.
use Rattle.std.specs.Prelude.{[], length, All}
use Rattle.naga_oil_form.specs.NameForm.{NameForm}
use Rattle.naga_oil_form.specs.WellFormed.{FunctionForm, EntryForm}
use Rattle.naga_oil_ir.specs.declared.module.Module.{Module}
use Rattle.naga_oil_ir.specs.Spans.{u32_max}
use Rattle.naga_oil_derive.specs.Copyable.{CopyableItems}

-- the items of a module can be copied, its functions have names of their own, and each passes the test of form, except that it
-- may call any function; spans may end at the last place that a span can name
pub record Redirectable (m : Module) : Type 0 where
  pub items : CopyableItems m
  pub names : NameForm m []
  pub functions : All (λ e. FunctionForm m (length m.functions) u32_max e.0) m.functions
  pub entry_points : All (EntryForm m u32_max) m.entry_points.items
