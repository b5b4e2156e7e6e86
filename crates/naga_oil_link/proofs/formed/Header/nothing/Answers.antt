use Rattle.std.proofs.Common.{◌≡◌, [], ap, sym, subst, ◌∙◌, rules}
use Rattle.naga_oil_ir.specs.ModuleValue.{ModuleValue, no_items}
use Rattle.naga_oil_link.specs.ByName.{IsIndexOf, place_names, names_of_functions}
use Rattle.naga_oil_link.specs.Places.{places_of}
use Rattle.naga_oil_link.proofs.formed.Header.nothing.Goals as goal

pub invariant_of-result : goal.invariant_of-result
invariant_of-result c =
    let none : no_items ≡ c.nothing-formed.result = sym c.nothing-formed.ensures in
    let by_name : IsIndexOf [] c.new-by_name.result = search rules in
    let functions : IsIndexOf [] c.new-functions.result = search rules in
    record {
      places = c.new-places.ensures.items ∙ ap places_of none;
      by_name = subst (λ (v : ModuleValue). IsIndexOf (place_names v) c.new-by_name.result) none by_name;
      functions = subst (λ (v : ModuleValue). IsIndexOf (names_of_functions v) c.new-functions.result) none functions;
    }
