use Rattle.std.proofs.Common.{◌≡◌, Some, ap, sym, option_map, string_bytes}
use Rattle.naga_oil_ir.specs.ModuleValue.{module_value}
use Rattle.naga_oil_palette.proofs.PaletteLemmas.{own_line, other_line}
use Rattle.naga_oil_palette.proofs.writer.line.Goals as goal

pub returns-in_ok-format-in-Own : goal.returns-in_ok-format-in-Own
returns-in_ok-format-in-Own c =
    let named : option_map string_bytes c.args.constant.now.name ≡ Some (string_bytes c.in-Some.name) = ap (option_map string_bytes) c.in-Some.is in
    own_line (module_value c.args.of.now) c.args.constant.now (string_bytes c.in-Some.name) _ _ named c.shape_at.ensures c.in-Own.is c.in_ok-format-in-Own.ensures.ok

pub returns-in_ok-format-in-Some-name_at : goal.returns-in_ok-format-in-Some-name_at
returns-in_ok-format-in-Some-name_at c =
    let named : option_map string_bytes c.args.constant.now.name ≡ Some (string_bytes c.in-Some.name) = ap (option_map string_bytes) c.in-Some.is in
    other_line (module_value c.args.of.now) c.args.constant.now (string_bytes c.in-Some.name) c.in-Some-name_at.other.now _ _ _ named c.shape_at.ensures c.in-Constant.is (sym c.in-Some-name_at.ensures) c.in_ok-format-in-Some-name_at.ensures.ok
