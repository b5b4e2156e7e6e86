-- Worked rows: tables of names and codes, names that are taken, and the names that items get.
use denote.Ref.{Bor}
use Rattle.std.specs.Fmt.{digits}
use Rattle.std.specs.Ordering.{nat_cmp}
use Rattle.std.specs.Prelude.{◌≡◌, refl, ℕ, List, [], ◌∷◌, true, false, Option, Some, None, Result, Ok, Err, String, string_bytes, codes}
use Rattle.std.specs.declared.alloc.Global.{Global}
use Rattle.naga_oil_words.specs.Marks.{has_module_mark}
use Rattle.naga_oil_ir.specs.ModuleValue.{ModuleValue, FunctionValue, EntryValue, no_items}
use Rattle.naga_oil_ir.specs.Rows.{TypeKind, ConstantKind, OverrideKind, GlobalKind, row}
use Rattle.naga_oil_ir.specs.declared.span.Span.{Span}
use Rattle.yettuvam_wgsl_names.proofs.NameLaws.{operator_law}
use Rattle.yettuvam_wgsl_names.specs.Codes.{name_of, code_of}
use Rattle.yettuvam_wgsl_names.specs.Context.{built_in_value_rows, attribute_rows, unary_operator_rows, binary_operator_rows}
use Rattle.yettuvam_wgsl_names.specs.Functions.{Signature, function_rows, signature_with, function_name}
use Rattle.yettuvam_wgsl_names.specs.Laws.{IsInverse}
use Rattle.yettuvam_wgsl_names.specs.Table.{Name, rows, named, meaning, is_ordered, is_ordered_by}
use Rattle.yettuvam_wgsl_names.specs.Words.{keyword_rows}
use Rattle.yettuvam_wgsl_written.specs.declared.refusal.Refusal.TheVariants as refusal
use Rattle.yettuvam_wgsl_written_names.specs.Items.{Naming, Becomes, Gives, ItemNames, add_name, item_names, name_at, names_of, texts, two_names, four_names, each}
use Rattle.yettuvam_wgsl_written_names.specs.Language.{is_in_language, is_built_in_function}
use Rattle.yettuvam_wgsl_written_names.specs.Taken.{Taken, taken_of, number_of, none_taken, inside, has, take, is_built_in, count_of, fresh, fresh_for, free_from}
use Rattle.yettuvam_wgsl_written_names.specs.declared.items.ItemNames.{ItemNames as NamesByCode}
use Rattle.yettuvam_wgsl_written_names.specs.declared.taken.Taken.{Taken as TakenByCode}

-- ---- tables

module _ (fn : Bor Name) (is : fn.now ≡ codes "fn") where
  row_of_name : rows {V = ℕ} ((fn, 7) ∷ []) ≡ (codes "fn", 7) ∷ []
  row_of_name = λ i. (is i, 7) ∷ []

  row_of_code : named ((7, fn) ∷ []) ≡ (7, codes "fn") ∷ []
  row_of_code = λ i. (7, is i) ∷ []

  row_of_function : function_rows ((7, (fn, 1, 2)) ∷ []) ≡ (7, (codes "fn", 1, 2)) ∷ []
  row_of_function = λ i. (7, (is i, 1, 2)) ∷ []

abbrev colours : List (Name × ℕ)
colours = (codes "blue", 4) ∷ (codes "red", 2) ∷ []

abbrev turned : List (Name × ℕ)
turned = (codes "red", 2) ∷ (codes "blue", 4) ∷ []

abbrev twice : List (Name × ℕ)
twice = (codes "red", 2) ∷ (codes "red", 3) ∷ []

meaning_of_last : meaning colours (codes "red") ≡ Some 2
meaning_of_last = refl

first_meaning : meaning twice (codes "red") ≡ Some 2
first_meaning = refl

no_meaning : meaning colours (codes "re") ≡ None
no_meaning = refl

in_order : is_ordered colours ≡ true
in_order = refl

not_in_order : is_ordered turned ≡ false
not_in_order = refl

equal_names_are_refused : is_ordered twice ≡ false
equal_names_are_refused = refl

codes_in_order : is_ordered_by nat_cmp ((1, codes "b") ∷ (3, codes "a") ∷ []) ≡ true
codes_in_order = refl

equal_codes_are_refused : is_ordered_by nat_cmp ((3, codes "b") ∷ (3, codes "a") ∷ []) ≡ false
equal_codes_are_refused = refl

-- ---- names by their codes

keyword_of_code : name_of keyword_rows 13 ≡ Some (codes "fn")
keyword_of_code = refl

no_keyword : name_of keyword_rows 26 ≡ None
no_keyword = refl

unary_operator : code_of unary_operator_rows (codes "!") ≡ Some 2
unary_operator = refl

no_unary_operator : code_of unary_operator_rows (codes "+") ≡ None
no_unary_operator = refl

binary_operator : name_of binary_operator_rows 10 ≡ Some (codes ">>")
binary_operator = refl

built_in_value : name_of built_in_value_rows 4 ≡ Some (codes "position")
built_in_value = refl

no_attribute : name_of attribute_rows 0 ≡ None
no_attribute = refl

name_of_function : function_name 256 ≡ Some (codes "abs")
name_of_function = refl

no_function : function_name 255 ≡ None
no_function = refl

abbrev one_function : List (ℕ × Signature)
one_function = (9, (codes "f", 1, 2)) ∷ []

signature_of_function : signature_with one_function 9 ≡ Some (codes "f", 1, 2)
signature_of_function = refl

no_signature : signature_with one_function 8 ≡ None
no_signature = refl

-- ---- tables that can be read both ways

operators_are_inverse : IsInverse unary_operator_rows
operators_are_inverse = operator_law.unary

-- a name with two codes, and a code with two names
name_twice_is_refused : IsInverse ((1, codes "-") ∷ (2, codes "-") ∷ []) → ⊥
name_twice_is_refused h = let e : ◌≡◌ {A = Option ℕ} (Some 1) (Some 2) = (h (codes "-") 2).1 refl in absurd cc

code_twice_is_refused : IsInverse ((1, codes "-") ∷ (1, codes "!") ∷ []) → ⊥
code_twice_is_refused h = let e : Some (codes "-") ≡ Some (codes "!") = (h (codes "!") 1).0 refl in absurd cc

-- ---- taken names

-- a name of a module, and a name of a function's own
abbrev taken : Taken
taken = record { outer = (codes "f", 1) ∷ []; own = (codes "a", 3) ∷ [] }

has_outer : has taken (codes "f") ≡ true
has_outer = refl

has_own : has taken (codes "a") ≡ true
has_own = refl

keyword_is_taken : has taken (codes "fn") ≡ true
unfolding is_in_language
keyword_is_taken = refl

type_is_taken : has none_taken (codes "f32") ≡ true
unfolding is_in_language
type_is_taken = refl

has_no_other : has taken (codes "b") ≡ false
unfolding is_in_language
has_no_other = refl

nothing_taken : has none_taken (codes "a") ≡ false
unfolding is_in_language
nothing_taken = refl

count : count_of taken ≡ 439
count = refl

built_in : is_built_in taken (codes "abs") ≡ true
unfolding is_built_in_function
built_in = refl

hidden_is_not_built_in : is_built_in (take taken (codes "abs")) (codes "abs") ≡ false
unfolding is_built_in_function
hidden_is_not_built_in = refl

item_is_not_built_in : is_built_in taken (codes "f") ≡ false
unfolding is_built_in_function
item_is_not_built_in = refl

number : number_of taken.own (codes "a") ≡ Some 3
number = refl

no_number : number_of taken.own (codes "f") ≡ None
no_number = refl

takes : take none_taken (codes "a") ≡ record { outer = []; own = (codes "a", 1) ∷ [] }
takes = refl

takes_once : take taken (codes "a") ≡ taken
takes_once = refl

goes_inside : inside (take none_taken (codes "a")) ≡ record { outer = (codes "a", 1) ∷ []; own = [] }
goes_inside = refl

-- a free name stays, and is taken
stays : fresh taken (codes "b") ≡ record { name = codes "b"; taken = record taken { own = (codes "a", 3) ∷ (codes "b", 1) ∷ [] } }
unfolding free_from digits is_in_language
stays = refl

-- another gets its next number
gets_number : fresh taken (codes "a") ≡ record { name = codes "a_3"; taken = record taken { own = (codes "a", 4) ∷ (codes "a_3", 1) ∷ [] } }
unfolding free_from digits is_in_language
gets_number = refl

-- a name of the language gets a number too
keyword_gets_number : (fresh taken (codes "fn")).name ≡ codes "fn_1"
unfolding free_from digits is_in_language
keyword_gets_number = refl

-- a local without a name gets the other one
unnamed : (fresh_for taken None (codes "l") true).name ≡ codes "l"
unfolding free_from digits is_in_language
unnamed = refl

-- ---- items

module _ (a : String Global) (is : string_bytes a ≡ codes "a") where
  texts_of_code : texts (Some a ∷ None ∷ []) ≡ Some (codes "a") ∷ None ∷ []
  texts_of_code = λ i. Some (is i) ∷ None ∷ []

abbrev names : List (Option Name)
names = Some (codes "a") ∷ None ∷ []

name_there : name_at names 0 ≡ Some (codes "a")
name_there = refl

without_name : name_at names 1 ≡ None
without_name = refl

not_there : name_at names 2 ≡ None
not_there = refl

abbrev span : Span
span = record { start = 5; end = 8 }

-- after an item named `x`
abbrev x_named : Naming
x_named = record { names = Some (codes "x") ∷ []; taken = take none_taken (codes "x") }

free_name_stays : add_name x_named (Some (codes "y"), span) ≡
    Ok (record { names = Some (codes "x") ∷ Some (codes "y") ∷ []; taken = take (take none_taken (codes "x")) (codes "y") })
unfolding add_name free_from digits has_module_mark is_in_language
free_name_stays = refl

taken_name_gets_number : add_name x_named (Some (codes "x"), span) ≡
    Ok (record { names = Some (codes "x") ∷ Some (codes "x_1") ∷ []; taken = record { outer = []; own = (codes "x", 2) ∷ (codes "x_1", 1) ∷ [] } })
unfolding add_name free_from digits has_module_mark is_in_language
taken_name_gets_number = refl

no_name_stays : add_name x_named (None, span) ≡ Ok (record x_named { names = Some (codes "x") ∷ None ∷ [] })
unfolding add_name
no_name_stays = refl

-- a name that begins with a digit, and a decorated name that is taken
digit_first_is_refused : add_name x_named (Some (codes "1a"), span) ≡ Err span
unfolding add_name has_module_mark
digit_first_is_refused = refl

abbrev decorated : Name
decorated = codes "fX_naga_oil_mod_XNUX"

decorated_stays : add_name (record { names = []; taken = none_taken }) (Some decorated, span) ≡ Ok (record { names = Some decorated ∷ []; taken = take none_taken decorated })
unfolding add_name free_from digits has_module_mark is_in_language
decorated_stays = refl

decorated_twice_is_refused : add_name (record { names = []; taken = take none_taken decorated }) (Some decorated, span) ≡ Err span
unfolding add_name has_module_mark
decorated_twice_is_refused = refl

-- ---- modules

-- a module with one type
abbrev with_type : Option Name → ModuleValue
with_type name = record no_items { types = (row (TypeKind 0) name (Some 4 ∷ []) [] [], span) ∷ [] }

abbrev pub no_names : ItemNames
no_names = record { types = []; constants = []; overrides = []; globals = []; functions = []; entry_points = [] }

nothing_named : item_names no_items ≡ Ok (no_names, none_taken)
unfolding item_names two_names four_names each add_name
nothing_named = refl

type_without_name : item_names (with_type None) ≡ Ok (record no_names { types = None ∷ [] }, none_taken)
unfolding item_names two_names four_names each add_name
type_without_name = refl

type_with_wrong_name_is_refused : item_names (with_type (Some (codes "1a"))) ≡ Err span
unfolding item_names two_names four_names each add_name
type_with_wrong_name_is_refused = refl

-- a list after another, each with an item named `a`
abbrev one : List (Option Name × Span)
one = (Some (codes "a"), span) ∷ []

four_lists : four_names none_taken one one one one ≡ Ok (record {
  first = Some (codes "a") ∷ [];
  second = Some (codes "a_1") ∷ [];
  third = Some (codes "a_2") ∷ [];
  fourth = Some (codes "a_3") ∷ [];
  taken = record { outer = []; own = (codes "a", 4) ∷ (codes "a_1", 1) ∷ (codes "a_2", 1) ∷ (codes "a_3", 1) ∷ [] };
})
unfolding two_names four_names each add_name free_from digits has_module_mark is_in_language
four_lists = refl

-- a function with a name
abbrev function : Name → FunctionValue
function name = record {
  name = Some name;
  arguments = [];
  result = None;
  local_variables = [];
  expressions = [];
  named_expressions = [];
  body = [];
  diagnostic_filter_leaf = None;
}

abbrev entry_point : Name → EntryValue
entry_point name = record {
  name = name;
  stage = 0;
  early_depth_test = None;
  workgroup_size = [];
  workgroup_size_overrides = None;
  function = function (codes "main");
  mesh_info = None;
  task_payload = None;
}

-- a module with an item of each kind
abbrev one_of_each : ModuleValue
one_of_each = record (with_type (Some (codes "t"))) {
  constants = (row ConstantKind (Some (codes "c")) [] [] [], span) ∷ [];
  overrides = (row OverrideKind (Some (codes "o")) [] [] [], span) ∷ [];
  global_variables = (row GlobalKind (Some (codes "g")) [] [] [], span) ∷ [];
  functions = (function (codes "f"), span) ∷ (function (codes "e"), span) ∷ (function (codes "fn"), span) ∷ [];
  entry_points = entry_point (codes "e") ∷ [];
}

abbrev names_in : Result (ItemNames × Taken) Span → Option ItemNames
names_in (Ok r) = Some r.0
names_in (Err s) = None

-- a function with the name of an entry point gets another, and so does one with the name of a keyword
each_kind : names_in (item_names one_of_each) ≡ Some (record {
  types = Some (codes "t") ∷ [];
  constants = Some (codes "c") ∷ [];
  overrides = Some (codes "o") ∷ [];
  globals = Some (codes "g") ∷ [];
  functions = Some (codes "f") ∷ Some (codes "e_1") ∷ Some (codes "fn_1") ∷ [];
  entry_points = Some (codes "e") ∷ [];
})
unfolding item_names two_names four_names each add_name free_from digits has_module_mark is_in_language
each_kind = refl

-- ---- as the code returns them

becomes : Becomes {S = ℕ} (Ok 3) (Ok tt) 3
becomes = refl

another_is_refused : Becomes {S = ℕ} (Ok 3) (Ok tt) 4 → ⊥
another_is_refused h = absurd cc

becomes_refused : Becomes {S = ℕ} (Err span) (Err (refusal.NotInWgsl span)) 4
becomes_refused = refl

becomes_without_memory : Becomes {S = ℕ} (Ok 3) (Err refusal.Memory) 4
becomes_without_memory = tt

refusal_of_a_value_is_refused : Becomes {S = ℕ} (Ok 3) (Err (refusal.NotInWgsl span)) 4 → ⊥
refusal_of_a_value_is_refused h = absurd cc

value_of_a_refusal_is_refused : Becomes {S = ℕ} (Err span) (Ok tt) 4 → ⊥
value_of_a_refusal_is_refused h = absurd cc

module _ (n : NamesByCode) (t : TakenByCode) where
  gives : Gives (Ok (names_of n, taken_of t)) (Ok (n, t))
  gives = refl

  gives_refused : Gives (Err span) (Err (refusal.NotInWgsl span))
  gives_refused = refl

  names_of_a_refusal_are_refused : Gives (Err span) (Ok (n, t)) → ⊥
  names_of_a_refusal_are_refused h = absurd cc

  refusal_of_names_is_refused : Gives (Ok (names_of n, taken_of t)) (Err (refusal.NotInWgsl span)) → ⊥
  refusal_of_names_is_refused h = absurd cc
