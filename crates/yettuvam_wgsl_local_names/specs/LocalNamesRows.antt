-- Names of arguments, locals and values, worked by hand.
use Rattle.std.specs.Prelude.{◌≡◌, refl, true, false, [], ◌∷◌, Some, None, codes}
use Rattle.std.specs.Fmt.{digits}
use Rattle.naga_oil_ir.specs.ModuleValue.{ArgumentValue}
use Rattle.yettuvam_wgsl_names.specs.declared.functions.TheConstants.{ABS}
use Rattle.yettuvam_wgsl_requests.specs.Calls.{Groups, predeclared}
use Rattle.yettuvam_wgsl_written_names.specs.Language.{is_in_language, is_built_in_function}
use Rattle.yettuvam_wgsl_written_names.specs.Taken.{Taken, none_taken, inside, free_from}
use Rattle.yettuvam_wgsl_local_names.specs.LocalNames.{Names, may_hide, fresh, with_local, with_value, add_argument, add_arguments}

-- an argument without a name
abbrev nameless : ArgumentValue
nameless = record { name = None; ty = 0; binding = None }

arguments_row : (add_arguments [] (nameless ∷ nameless ∷ []) record { names = []; taken = none_taken }).names ≡ codes "argument" ∷ codes "argument_1" ∷ []
unfolding free_from digits fresh add_argument add_arguments is_in_language is_built_in_function
arguments_row = refl

-- `abs` is called in the group 3, and is a name of the language
abbrev calls : Groups
calls = (ABS, 3) ∷ []

abbrev taken : Taken
taken = inside none_taken

hides_rows :
    (may_hide calls (Some (codes "abs")) 2 ≡ false)
    × (may_hide calls (Some (codes "abs")) 3 ≡ true)
    × (may_hide calls (Some (codes "x")) 0 ≡ true)
    × (may_hide calls None 3 ≡ false)
unfolding predeclared
hides_rows = (refl, refl, refl, refl)

-- what is declared before the last call of `abs` has another name, what is declared after it has the name
fresh_rows :
    ((fresh calls taken (Some (codes "abs")) (codes "local") 2).name ≡ codes "abs_1")
    × ((fresh calls taken (Some (codes "abs")) (codes "local") 3).name ≡ codes "abs")
    × ((fresh calls taken (Some (codes "x")) (codes "local") 0).name ≡ codes "x")
    × ((fresh calls taken None (codes "local") 0).name ≡ codes "local")
unfolding free_from digits fresh predeclared is_in_language is_built_in_function
fresh_rows = (refl, refl, refl, refl)

abbrev none_named : Names
none_named = record { arguments = []; locals = None ∷ None ∷ []; values = None ∷ None ∷ [] }

places_rows :
    ((with_local none_named 1 record { name = codes "x"; taken = taken }).names ≡ record { arguments = []; locals = None ∷ Some (codes "x") ∷ []; values = None ∷ None ∷ [] })
    × ((with_value none_named 0 record { name = codes "x"; taken = taken }).names ≡ record { arguments = []; locals = None ∷ None ∷ []; values = Some (codes "x") ∷ None ∷ [] })
places_rows = (refl, refl)
