-- Worked rows: bodies and how they end, jumps, calls, interfaces and bindings.
use Rattle.std.specs.Prelude.{◌≡◌, refl, ℕ, Bool, true, false, List, [], ◌∷◌, ◌++◌, Option, Some, None, Ok, Err}
use Rattle.naga_oil_ir.specs.Body.{Tokens}
use Rattle.naga_oil_ir.specs.ModuleValue.{FunctionValue}
use Rattle.naga_oil_ir.specs.Parts.{Parts, expr}
use Rattle.naga_oil_ir.specs.Rows.{Row, row, GlobalKind, TypeKind, Member}
use Rattle.naga_oil_ir.specs.declared.parts.Named.TheVariants.{Nothing}
use Rattle.naga_oil_ir.specs.declared.span.Span.{Span}
use Rattle.naga_oil_ir.specs.declared.tokens.Token.TheVariants.{At, Head, Plain, Flag, Absent, Use, Callee, Open, Close}
use Rattle.yettuvam_wgsl_valid.specs.Bindings.{Uses, reached_globals, visit_all, distinct_valid, distinct_from, space_valid}
use Rattle.yettuvam_wgsl_valid.specs.Calls.{wrong_call, given_count, math_valid, counts}
use Rattle.yettuvam_wgsl_valid_items.specs.Faults.{valid, fault}
use Rattle.yettuvam_wgsl_valid.specs.Flow.{flow_valid, run, step, head, jump, enter_block}
use Rattle.yettuvam_wgsl_valid.specs.Interfaces.{is_bound, is_position, is_bound_value, gives_position, output_valid}
use Rattle.yettuvam_wgsl_valid_items.specs.declared.faults.Reason.TheVariants as reason

-- `unfolding walk` lets `refl` compute the walk over a body
unfoldable walk : Unit {0}
unfolding run step head jump enter_block
walk = tt

abbrev here : Span
here = record { start = 5; end = 9 }

abbrev function_place : Span
function_place = record { start = 1; end = 2 }

abbrev returning : Tokens
returning = At here ∷ Head 10 ∷ Use 0 ∷ []

abbrev breaking : Tokens
breaking = At here ∷ Head 5 ∷ []

-- ---- how bodies end

return_at_the_end : flow_valid returning true function_place ≡ valid
unfolding walk
return_at_the_end = refl

no_statement_is_a_signature : flow_valid [] true function_place ≡ valid
unfolding walk
no_statement_is_a_signature = refl

store_at_the_end : flow_valid (At here ∷ Head 11 ∷ Use 0 ∷ Use 1 ∷ []) true function_place ≡ fault reason.NoReturn function_place
unfolding walk
store_at_the_end = refl

no_result_no_return : flow_valid (At here ∷ Head 11 ∷ Use 0 ∷ Use 1 ∷ []) false function_place ≡ valid
unfolding walk
no_result_no_return = refl

-- `if c { return x; } else { return x; }`
both_branches_return : flow_valid (At here ∷ Head 2 ∷ Use 3 ∷ Open ∷ At here ∷ Head 10 ∷ Use 0 ∷ Close ∷ Open ∷ At here ∷ Head 10 ∷ Use 0 ∷ Close ∷ []) true function_place ≡ valid
unfolding walk
both_branches_return = refl

-- `if c { return x; }`
one_branch_returns : flow_valid (At here ∷ Head 2 ∷ Use 3 ∷ Open ∷ At here ∷ Head 10 ∷ Use 0 ∷ Close ∷ Open ∷ Close ∷ []) true function_place ≡ fault reason.NoReturn function_place
unfolding walk
one_branch_returns = refl

-- `loop { }`
endless_loop : flow_valid (At here ∷ Head 4 ∷ Open ∷ Close ∷ Open ∷ Close ∷ Absent ∷ []) true function_place ≡ valid
unfolding walk
endless_loop = refl

-- `loop { if c { break; } }`
loop_with_a_break : flow_valid (At here ∷ Head 4 ∷ Open ∷ At here ∷ Head 2 ∷ Use 3 ∷ Open ∷ At here ∷ Head 5 ∷ Close ∷ Open ∷ Close ∷ Close ∷ Open ∷ Close ∷ Absent ∷ []) true function_place ≡ fault reason.NoReturn function_place
unfolding walk
loop_with_a_break = refl

-- `loop { continuing { break if c; } }`
loop_with_break_if : flow_valid (At here ∷ Head 4 ∷ Open ∷ Close ∷ Open ∷ Close ∷ Use 3 ∷ []) true function_place ≡ fault reason.NoReturn function_place
unfolding walk
loop_with_break_if = refl

-- `switch s { case 1: { return x; } default: { return x; } }`
each_arm_returns : flow_valid (At here ∷ Head 3 ∷ Use 3 ∷ Plain 4294967297 ∷ Flag false ∷ Open ∷ At here ∷ Head 10 ∷ Use 0 ∷ Close ∷ Plain 0 ∷ Flag false ∷ Open ∷ At here ∷ Head 10 ∷ Use 0 ∷ Close ∷ []) true function_place ≡ valid
unfolding walk
each_arm_returns = refl

-- `switch s { case 1, default: { return x; } }`
selectors_of_one_arm : flow_valid (At here ∷ Head 3 ∷ Use 3 ∷ Plain 4294967297 ∷ Flag true ∷ Open ∷ Close ∷ Plain 0 ∷ Flag false ∷ Open ∷ At here ∷ Head 10 ∷ Use 0 ∷ Close ∷ []) true function_place ≡ valid
unfolding walk
selectors_of_one_arm = refl

-- `switch s { case 1: { return x; } default: { break; } }`
an_arm_breaks : flow_valid (At here ∷ Head 3 ∷ Use 3 ∷ Plain 4294967297 ∷ Flag false ∷ Open ∷ At here ∷ Head 10 ∷ Use 0 ∷ Close ∷ Plain 0 ∷ Flag false ∷ Open ∷ At here ∷ Head 5 ∷ Close ∷ []) true function_place ≡ fault reason.NoReturn function_place
unfolding walk
an_arm_breaks = refl

-- ---- where jumps stand

break_outside : flow_valid breaking false function_place ≡ fault reason.NoLoop here
unfolding walk
break_outside = refl

-- `loop { continuing { break; } }`
break_in_continuing : flow_valid (At function_place ∷ Head 4 ∷ Open ∷ Close ∷ Open ∷ At here ∷ Head 5 ∷ Close ∷ Absent ∷ []) false function_place ≡ fault reason.NoLoop here
unfolding walk
break_in_continuing = refl

-- `loop { continuing { return; } }`
return_in_continuing : flow_valid (At function_place ∷ Head 4 ∷ Open ∷ Close ∷ Open ∷ At here ∷ Head 10 ∷ Absent ∷ Close ∷ Absent ∷ []) false function_place ≡ fault reason.ReturnInContinuing here
unfolding walk
return_in_continuing = refl

-- `switch s { default: { continue; } }`
continue_in_a_switch : flow_valid (At function_place ∷ Head 3 ∷ Use 3 ∷ Plain 0 ∷ Flag false ∷ Open ∷ At here ∷ Head 6 ∷ Close ∷ []) false function_place ≡ fault reason.NoLoop here
unfolding walk
continue_in_a_switch = refl

-- ---- numbers of arguments

no_function_to_call : wrong_call [] (At here ∷ Head 16 ∷ Callee 0 ∷ Absent ∷ []) ≡ Some here
no_function_to_call = refl

-- a function with one parameter
abbrev one_parameter : FunctionValue
one_parameter = record { name = None; arguments = record { name = None; ty = 0; binding = None } ∷ []; result = None; local_variables = []; expressions = []; named_expressions = []; body = []; diagnostic_filter_leaf = None }

one_argument_for_one_parameter : wrong_call ((one_parameter, function_place) ∷ []) (At here ∷ Head 16 ∷ Callee 0 ∷ Use 4 ∷ Absent ∷ []) ≡ None
one_argument_for_one_parameter = refl

two_arguments_for_one_parameter : wrong_call ((one_parameter, function_place) ∷ []) (At here ∷ Head 16 ∷ Callee 0 ∷ Use 4 ∷ Use 5 ∷ Absent ∷ []) ≡ Some here
two_arguments_for_one_parameter = refl

-- `abs(x, y)`
two_for_abs : math_valid (expr 27 (256 ∷ []) Nothing (Some 7 ∷ Some 8 ∷ None ∷ None ∷ []), here) ≡ fault reason.ArgumentCount here
unfolding counts
two_for_abs = refl

one_for_abs : math_valid (expr 27 (256 ∷ []) Nothing (Some 7 ∷ None ∷ None ∷ None ∷ []), here) ≡ valid
unfolding counts
one_for_abs = refl

two_given : given_count (Some 7 ∷ Some 8 ∷ None ∷ None ∷ []) ≡ 2
two_given = refl

-- ---- interfaces

-- `@location(2)`
location_is_bound : is_bound (Some 8589934594) ≡ true
location_is_bound = refl

-- `@align(4)` without `@location`
align_is_no_binding : is_bound (Some 50331648) ≡ false
align_is_no_binding = refl

-- `@builtin(position)`, also with `@invariant`
position : is_position (Some 1025) ≡ true
position = refl

invariant_position : is_position (Some 2098177) ≡ true
invariant_position = refl

-- `@location(4)` and `@builtin(front_facing)`
location_is_no_position : is_position (Some 17179869186) ≡ false
location_is_no_position = refl

front_facing_is_no_position : is_position (Some 1281) ≡ false
front_facing_is_no_position = refl

abbrev member : Option ℕ → Member
member b = record { name = None; binding = b; offset = 0 }

abbrev types : List (Row × Span)
types = (row (TypeKind 0) None (Some 4 ∷ []) [] [], here) ∷ (row (TypeKind 10) None (Some 8 ∷ []) (member (Some 1025) ∷ member None ∷ []) [], here) ∷ (row (TypeKind 10) None (Some 8 ∷ []) (member (Some 2) ∷ member (Some 1025) ∷ []) [], here) ∷ []

scalar_needs_a_binding : is_bound_value types 0 None ≡ false
scalar_needs_a_binding = refl

member_without_binding : is_bound_value types 1 None ≡ false
member_without_binding = refl

members_with_bindings : is_bound_value types 2 None ≡ true
members_with_bindings = refl

member_is_the_position : gives_position types 2 None ≡ true
member_is_the_position = refl

vertex_shader_without_result : output_valid types 0 None here ≡ fault reason.NoPosition here
vertex_shader_without_result = refl

compute_shader_with_result : output_valid types 2 (Some (record { ty = 2; binding = None })) here ≡ fault reason.ComputeResult here
compute_shader_with_result = refl

fragment_shader_with_bound_members : output_valid types 1 (Some (record { ty = 2; binding = None })) here ≡ valid
fragment_shader_with_bound_members = refl

-- ---- bindings

abbrev variable : ℕ → Option ℕ → Row
variable space b = row GlobalKind None (Some space ∷ b ∷ []) [] []

storage_without_binding : space_valid (variable 52 None, here) ≡ fault reason.SpaceBinding here
storage_without_binding = refl

workgroup_with_binding : space_valid (variable 2 (Some 3), here) ≡ fault reason.SpaceBinding here
workgroup_with_binding = refl

uniform_with_binding : space_valid (variable 3 (Some 3), here) ≡ valid
uniform_with_binding = refl

abbrev names : List ℕ → List ℕ → Uses
names gs fs = record { globals = gs; callees = fs }

-- an entry point calls the last function, which calls the first; the one between isn't reached
callees_of_callees : reached_globals 3 (names [] (0 ∷ []) ∷ names (1 ∷ []) [] ∷ names (0 ∷ []) [] ∷ []) (names (2 ∷ []) (2 ∷ [])) ≡ true ∷ false ∷ true ∷ []
unfolding visit_all
callees_of_callees = refl

abbrev two_of_one : List (Row × Span)
two_of_one = (variable 3 (Some 7), function_place) ∷ (variable 3 (Some 7), here) ∷ []

same_binding_twice : distinct_valid two_of_one (true ∷ true ∷ []) ≡ fault reason.BoundTwice here
unfolding distinct_from
same_binding_twice = refl

same_binding_not_reached : distinct_valid two_of_one (true ∷ false ∷ []) ≡ valid
unfolding distinct_from
same_binding_not_reached = refl
