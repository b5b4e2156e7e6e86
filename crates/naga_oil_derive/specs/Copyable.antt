-- When the items of a module can be copied.
use Rattle.std.specs.Prelude.{◌<◌, length, All}
use Rattle.naga_oil_form.specs.Links.{AreEarlier}
use Rattle.naga_oil_form.specs.ItemForm.{NamesForm, ExpressionForm, type_links, types_of, special_types}
use Rattle.naga_oil_ir.specs.declared.module.Module.{Module}

-- the items of a module can be copied: what they name is there, and no item depends on itself. Each module that passes the test
-- of form is copyable
pub record CopyableItems (m : Module) : Type 0 where
  pub earlier_types : AreEarlier (type_links (types_of m))
  pub names : NamesForm m
  pub expressions : ExpressionForm m
  pub special : All (λ k. k < length m.types) (special_types m.special_types)
