-- Modules that are wrong in one thing each, in place of the one that the small make answers.
use Rattle.std.specs.Prelude.{[], ◌∷◌, ◌++◌, Some, None, codes}
use Rattle.naga_oil_ir.specs.ModuleValue.{ModuleValue, FunctionValue, EntryValue, no_items}
use Rattle.naga_oil_ir.specs.Spans.{undefined}
use Rattle.naga_oil_ir.specs.declared.module.MeshInfo.{MeshInfo}
use Rattle.naga_oil_ir.specs.declared.span.Span.{Span}
use Rattle.naga_oil_ir.specs.declared.tokens.Token.TheVariants.{At, Head, Absent, Emitted, Callee}
use Rattle.naga_oil_faithful_laws.specs.SmallMake.{span, number, struct, specials, helper_name, function, ray_of, zero_of, literal, negated, kill, override_of, base_copy, base_body_calling, first_entry, second_entry, call_with_first, made_with, right}

-- ---- whole modules

-- no function, item or entry point, and a special type at a place where no type is
abbrev pub nothing : ModuleValue
nothing = record no_items { special_types = record no_items.special_types { ray_desc = Some 7 } }

-- the special types aren't there
abbrev pub dangling : ModuleValue
dangling = record (made_with right) { special_types = record (made_with right).special_types { ray_desc = Some 9; ray_intersection = Some 8 } }

-- the right functions with other spans; entry points of another name, stage, depth test and size, with overrides and a payload
abbrev pub spoil : EntryValue → EntryValue
spoil e = record e { name = codes "x"; stage = 9; early_depth_test = Some 5; workgroup_size = 0 ∷ []; workgroup_size_overrides = Some (Some 99 ∷ []); task_payload = Some 99 }

abbrev pub spoiled : ModuleValue
spoiled = record (made_with right) {
  functions = (function helper_name [] [] [] kill, span 1 2) ∷ (base_copy right, undefined) ∷ (override_of 1, span 3 4) ∷ [];
  entry_points = spoil (first_entry (call_with_first 2)) ∷ spoil second_entry ∷ [];
  diagnostic_filters = 7 ∷ [];
}

-- the special types of a ray and of its hit are interchanged, an argument has the other one, and an expression that nothing reaches
-- names a type that isn't there
abbrev pub turned_base : FunctionValue
turned_base = record (base_copy right) {
  arguments = ray_of 2 ∷ [];
  expressions = zero_of 3 ∷ literal 7 ∷ negated 1 (span 2097157 2097160) ∷ zero_of 42 ∷ [];
}

abbrev pub turned : ModuleValue
turned = record (made_with right) {
  special_types = record (made_with right).special_types { ray_desc = Some 2; ray_intersection = Some 1 };
  functions = (function helper_name [] [] [] kill, undefined) ∷ (turned_base, span 2097152 2097161) ∷ (override_of 1, undefined) ∷ [];
}

-- ---- the function of the imported module

-- the module with another copy of that function
abbrev pub with_base : FunctionValue × Span → ModuleValue
with_base f = record (made_with right) { functions = (function helper_name [] [] [] kill, undefined) ∷ f ∷ (override_of 1, undefined) ∷ [] }

abbrev pub base_span : Span
base_span = span 2097152 2097161

-- its span counts over its own text alone
abbrev pub with_own_span : FunctionValue × Span
with_own_span = (base_copy right, span 0 9)

-- it calls a function that isn't there
abbrev pub calling_none : FunctionValue × Span
calling_none = (record (base_copy right) { body = base_body_calling 7 3 }, base_span)

-- it calls another function
abbrev pub calling_another : FunctionValue × Span
calling_another = (record (base_copy right) { body = base_body_calling 2 3 }, base_span)

-- an emitted range ends early
abbrev pub ending_early : FunctionValue × Span
ending_early = (record (base_copy right) { body = base_body_calling 0 2 }, base_span)

-- a statement has its span in its own text
abbrev pub with_statement_span : FunctionValue × Span
with_statement_span = (record (base_copy right) { body = At (span 1 3) ∷ Head 16 ∷ Callee 0 ∷ Absent ∷ At (span 2097156 2097160) ∷ Head 0 ∷ Emitted (2, 3) ∷ [] }, base_span)

-- an expression has its span in its own text
abbrev pub with_expression_span : FunctionValue × Span
with_expression_span = (record (base_copy right) { expressions = zero_of 3 ∷ literal 7 ∷ negated 1 (span 5 8) ∷ [] }, base_span)

-- a statement is left out
abbrev pub without_statement : FunctionValue × Span
without_statement = (record (base_copy right) { body = At (span 2097153 2097155) ∷ Head 16 ∷ Callee 0 ∷ Absent ∷ [] }, base_span)

-- there is an expression that nothing reaches
abbrev pub with_unreached : FunctionValue × Span
with_unreached = (record (base_copy right) { expressions = zero_of 3 ∷ literal 7 ∷ negated 1 (span 2097157 2097160) ∷ literal 1 ∷ [] }, base_span)

-- a name is that of no expression
abbrev pub with_name_of_none : FunctionValue × Span
with_name_of_none = (record (base_copy right) { named_expressions = (9, codes "n") ∷ [] }, base_span)

-- an expression has a name that its source lacks
abbrev pub with_another_name : FunctionValue × Span
with_another_name = (record (base_copy right) { named_expressions = (1, codes "n") ∷ [] }, base_span)

-- it has a leaf of diagnostic filters
abbrev pub with_leaf : FunctionValue × Span
with_leaf = (record (base_copy right) { diagnostic_filter_leaf = Some 0 }, base_span)

-- an argument is left out
abbrev pub without_argument : FunctionValue × Span
without_argument = (record (base_copy right) { arguments = [] }, base_span)

-- it has a result
abbrev pub with_result : FunctionValue × Span
with_result = (record (base_copy right) { result = Some (record { ty = 0; binding = None }) }, base_span)

-- an argument has another type
abbrev pub with_number_argument : FunctionValue × Span
with_number_argument = (record (base_copy right) { arguments = ray_of 0 ∷ [] }, base_span)

-- the local variable isn't initialised
abbrev pub without_initialiser : FunctionValue × Span
without_initialiser = (record (base_copy right) { local_variables = (record { name = Some (codes "s"); ty = 3; init = None }, undefined) ∷ [] }, base_span)

-- ---- functions and items

-- a function that others call is left out
abbrev pub without_helper : ModuleValue
without_helper = record (made_with right) { functions = (base_copy right, base_span) ∷ (override_of 0, undefined) ∷ []; entry_points = first_entry (call_with_first 1) ∷ second_entry ∷ [] }

-- two functions have the same name
abbrev pub with_two_bases : ModuleValue
with_two_bases = record (made_with right) { functions = (made_with right).functions ++ (base_copy right, base_span) ∷ [] }

-- there is a type that no parse has
abbrev pub with_other_type : ModuleValue
with_other_type = record (made_with right) { types = (made_with right).types ++ struct (codes "Other") ∷ [] }

-- the struct of the imported module has the name that it has in its own text
abbrev pub with_plain_struct : ModuleValue
with_plain_struct = record (made_with right) { types = number ∷ struct (codes "Ray") ∷ struct (codes "Hit") ∷ struct (codes "S") ∷ [] }

-- the special types of a ray and of its hit are interchanged, and nothing else
abbrev pub with_turned_special_types : ModuleValue
with_turned_special_types = record (made_with right) { special_types = specials (Some 2) (Some 1) }

-- ---- entry points

-- the module with another first entry point
abbrev pub with_first : EntryValue → ModuleValue
with_first e = record (made_with right) { entry_points = e ∷ second_entry ∷ [] }

abbrev pub right_first : EntryValue
right_first = first_entry (call_with_first 2)

abbrev pub of_another_name : EntryValue
of_another_name = record right_first { name = codes "x" }

abbrev pub of_another_stage : EntryValue
of_another_stage = record right_first { stage = 0 }

abbrev pub with_depth_test : EntryValue
with_depth_test = record right_first { early_depth_test = Some 5 }

abbrev pub of_another_size : EntryValue
of_another_size = record right_first { workgroup_size = 1 ∷ 1 ∷ 2 ∷ [] }

abbrev pub with_size_override : EntryValue
with_size_override = record right_first { workgroup_size_overrides = Some (None ∷ []) }

abbrev pub with_payload : EntryValue
with_payload = record right_first { task_payload = Some 0 }

-- it calls the function that is overridden
abbrev pub calling_base : EntryValue
calling_base = first_entry (call_with_first 1)

-- its zero is a number
abbrev pub of_number : EntryValue
of_number = record right_first { function = record right_first.function { expressions = zero_of 0 ∷ [] } }

-- the result of the second entry point is left out
abbrev pub without_result : ModuleValue
without_result = record (made_with right) { entry_points = right_first ∷ record second_entry { function = record second_entry.function { result = None } } ∷ [] }

-- it has the output of a mesh shader
abbrev pub with_mesh : MeshInfo → EntryValue
with_mesh mesh = record right_first { mesh_info = Some mesh }

-- the second entry point is left out
abbrev pub without_second : ModuleValue
without_second = record (made_with right) { entry_points = right_first ∷ [] }

-- the entry points are interchanged
abbrev pub in_another_order : ModuleValue
in_another_order = record (made_with right) { entry_points = second_entry ∷ right_first ∷ [] }
