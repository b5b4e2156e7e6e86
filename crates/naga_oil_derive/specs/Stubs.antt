-- Functions that name only the types of their arguments and results.
use Rattle.std.specs.Prelude.{◌≡◌, ◌++◌, List, [], map, Option, Some, option_map, option_to_list}
use Rattle.naga_oil_ir.specs.declared.module.Function.{Function}
use Rattle.naga_oil_ir.specs.declared.module.FunctionArgument.{FunctionArgument}
use Rattle.naga_oil_ir.specs.declared.names.ItemPlace.{ItemPlace}
use Rattle.naga_oil_ir.specs.declared.names.ItemPlace.TheVariants.{TypeItem}

-- the types of arguments
abbrev pub argument_types : List FunctionArgument → List (Option ItemPlace)
argument_types arguments = map (λ a. Some (TypeItem a.ty)) arguments

-- the types of a function's arguments and its result
abbrev pub signature_types : Function → List (Option ItemPlace)
signature_types f = argument_types f.arguments.items ++ option_to_list (option_map (λ r. Some (TypeItem r.ty)) f.result)
