-- Plain data that passes the test of form.
use Rattle.std.specs.Prelude.{ℕ, ◌≡◌, ◌≤◌, true, List}
use Rattle.naga_oil_ir.specs.ModuleValue.{ModuleValue}
use Rattle.naga_oil_ir.specs.Spans.{u32_max}
use Rattle.naga_oil_form_laws.specs.EntryForm.{IsModuleFormed}
use Rattle.naga_oil_form_laws.specs.Shape.{HasModuleShape}
use Rattle.naga_oil_form.specs.Form.{is_formed}
use Rattle.naga_oil_link.specs.Owned.{owned_module}

-- LAW: what has the shape of a module and passes the test of form under a decoration, over a text that a span can name, is of
-- good form once what a build with this index owns of it is decorated
abbrev pub ParsedShapeLaw : Type 0
ParsedShapeLaw = (m : ModuleValue) (index : ℕ) (decoration : List ℕ) (n : ℕ) →
    HasModuleShape m → n ≤ u32_max → is_formed m decoration n ≡ true → IsModuleFormed (owned_module index decoration m)
