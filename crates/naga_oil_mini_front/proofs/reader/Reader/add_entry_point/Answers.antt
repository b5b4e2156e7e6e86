use Rattle.std.proofs.Common.{◌≡◌, ◌∷◌, ◌-◌, [], length, take, drop, get_or, map, rules, Ok, ap, sym, ◌∙◌}
use Rattle.std.proofs.lemmas.List.{map-append}
use Rattle.naga_oil_ir.specs.ModuleValue.{entry_value, function_value, module_value}
use Rattle.naga_oil_mini_symbols.specs.Symbols.{line_of}
use Rattle.naga_oil_mini_symbols.specs.Refused.{◌>>◌}
use Rattle.naga_oil_mini_front.specs.Reader.{function, entry_line, with_entry_point, entry_of}
use Rattle.naga_oil_mini_symbols.specs.declared.symbol.Symbol.TheVariants.{Name}
use Rattle.naga_oil_mini_front.proofs.SliceLemmas.{first_and_more}
use Rattle.naga_oil_mini_front.proofs.reader.Reader.add_entry_point.Goals as goal

pub returns-clause-value : goal.returns-clause-value
returns-clause-value c =
    let ss = c.args.symbols.now in
    let n = c.in-Name.name.now in
    let at = c.args.self.now.span in
    let m = module_value c.args.self.now.module_ in
    let is : get_or ss 0 (Name c.in-Name.name) ≡ Name c.in-Name.name = search rules in
    let more = first_and_more ss (Name c.in-Name.name) c.in-Name.len_at_least is in
    let made : function n [] (line_of (more.0 ∷ more.1)) at m ≡ Ok (function_value c.in_ok-function.field-0) =
    ap (λ t. function n [] (line_of t) at m) (sym more.3) ∙ ap (λ ps. function n ps (line_of (take (length ss - 1) (drop 1 ss))) at m) (sym c.clear.ensures) ∙ c.in_ok-function.ensures in
    let pushed : record m { entry_points = map entry_value c.push.new.self.items } ≡ with_entry_point (entry_of n (function_value c.in_ok-function.field-0)) m =
    ap (λ es. record m { entry_points = map entry_value es }) c.in_ok-push.ensures.items ∙ ap (λ es. record m { entry_points = es }) (map-append entry_value c.args.self.now.module_.entry_points.items _) ∙ ap (λ t. with_entry_point (entry_of t (function_value c.in_ok-function.field-0)) m) c.in_ok-from_str.ensures.ok in
    ap (λ t. entry_line (line_of t) at m) more.2 ∙ ap (λ r. r >> λ f. Ok (with_entry_point (entry_of n f) m)) made ∙ ap Ok (sym pushed)
