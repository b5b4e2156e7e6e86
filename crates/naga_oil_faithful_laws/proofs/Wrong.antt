-- Modules that are wrong in one thing each aren't faithful.
use Rattle.std.proofs.Common.{◌≡◌, ℕ, List, [], ◌∷◌, length, Some, None, Option, slice_get, refl, ap, sym, ◌∙◌, arith}
use Rattle.std.specs.Option.{option_eq}
use Rattle.std.specs.Prelude.{codes, bytes_eq}
use Rattle.std.proofs.lemmas.Option.{none-some}
use Rattle.naga_oil_form.specs.BodyForm.{places}
use Rattle.naga_oil_form.specs.Links.{trail}
use Rattle.naga_oil_ir.specs.Body.{Tokens}
use Rattle.naga_oil_ir.specs.ModuleValue.{ModuleValue, FunctionValue, EntryValue, LocalValue}
use Rattle.naga_oil_ir.specs.Spans.{undefined}
use Rattle.naga_oil_ir.specs.declared.span.Span.{Span}
use Rattle.naga_oil_ir.specs.declared.tokens.Token.TheVariants.{At, Emitted, Callee}
use Rattle.naga_oil_words.specs.Marks.{has_module_mark}
use Rattle.naga_oil_derive.specs.Tree.{World}
use Rattle.naga_oil_derive.specs.World.{world}
use Rattle.naga_oil_derive.specs.declared.special.SpecialKey.TheVariants.{RayDesc}
use Rattle.naga_oil_copy_laws.specs.EntryByTree.{EntryAlike}
use Rattle.naga_oil_copy_laws.specs.Scope.{name_of_function, scope_of}
use Rattle.naga_oil_link_laws.specs.KeptAlike.{scope_alike}
use Rattle.naga_oil.specs.Faithful.{CopiesParsed, owned_parse}
use Rattle.naga_oil_faithful_laws.specs.SmallMake.{span, shader_parse, base_name, helper_name, first_entry, second_entry, call_with_first}
use Rattle.naga_oil_faithful_laws.specs.SmallMakeLaw.{IsUnfaithful, MeshLaw}
use Rattle.naga_oil_faithful_laws.specs.WrongModules.{nothing, dangling, spoiled, spoil, turned_base, turned, with_base, base_span, with_own_span, calling_none, calling_another, ending_early, with_statement_span, without_statement, with_unreached, with_name_of_none, with_leaf, without_argument, with_result, without_initialiser, with_first, of_another_name, of_another_stage, with_depth_test, of_another_size, with_size_override, with_mesh, with_payload, without_second, in_another_order}
use Rattle.naga_oil_faithful_laws.proofs.Builds.{module_build, shader_build}
use Rattle.naga_oil_faithful_laws.proofs.Comes.{Comes, OfHelper, OfBase, OfOverride, each_comes, entry_comes, entry_whole, entries_counted, own_base, calls_go}
use Rattle.naga_oil_faithful_laws.specs.SmallMake.{module_parse}
use Rattle.naga_oil_faithful_laws.proofs.Refused.{never, not_base, not_override, helper_overrides, first_callee}

-- ---- the function of the imported module

abbrev CopiesBase : ModuleValue → FunctionValue → Type 0
CopiesBase made f = CopiesParsed module_build module_parse (calls_go (Some base_name)) made own_base f

-- a module is refused whose second function has the name of that function and doesn't copy it
base_wrong : (made : ModuleValue) (f : FunctionValue × Span) → slice_get made.functions 1 ≡ Some f → f.0.name ≡ Some base_name → (CopiesBase made f.0 → f.1 ≡ base_span → ⊥) → IsUnfaithful made
base_wrong made f at name wrong c h = one (each_comes c made h 1 f at)
  where
    one : Comes made f → ⊥
    one (OfHelper k s) = not_base (sym k.copies.name ∙ name)
    one (OfBase k s) = wrong k s
    one (OfOverride k s) = not_override (sym k.copies.name ∙ name)

pub own_span_refused : IsUnfaithful (with_base with_own_span)
own_span_refused = base_wrong (with_base with_own_span) with_own_span refl refl (λ k s. let e : 9 ≡ 2097161 = ap (λ (x : Span). x.end) s in absurd (omega (arith, e)))

pub calling_none_refused : IsUnfaithful (with_base calling_none)
unfolding has_module_mark
calling_none_refused = base_wrong (with_base calling_none) calling_none refl refl (λ k s.
    let e : 7 ≡ k.copies.goes.function 0 = ap first_callee k.copies.body in
    let called : name_of_function (with_base calling_none) (k.copies.goes.function 0) ≡ Some helper_name = k.copies.alike.callees 2 (Callee 0) refl in
    none-some helper_name (ap (name_of_function (with_base calling_none)) e ∙ called))

pub calling_another_refused : IsUnfaithful (with_base calling_another)
unfolding has_module_mark
calling_another_refused = base_wrong (with_base calling_another) calling_another refl refl (λ k s.
    let e : 2 ≡ k.copies.goes.function 0 = ap first_callee k.copies.body in
    let called : name_of_function (with_base calling_another) (k.copies.goes.function 0) ≡ Some helper_name = k.copies.alike.callees 2 (Callee 0) refl in
    helper_overrides (sym (ap (name_of_function (with_base calling_another)) e ∙ called)))

-- the range that is emitted last
last_range : Tokens → ℕ × ℕ
last_range (a ∷ b ∷ c ∷ d ∷ e ∷ f ∷ Emitted r ∷ ts) = r
last_range _ = (0, 0)

pub ending_early_refused : IsUnfaithful (with_base ending_early)
unfolding trail last_range
ending_early_refused = base_wrong (with_base ending_early) ending_early refl refl (λ k s.
    let e : (2, 2) ≡ k.copies.goes.range (3, 4) = ap last_range k.copies.body in
    let size : 0 ≡ 1 = ap (λ (r : ℕ × ℕ). length (places r)) e ∙ ap (λ (xs : List ℕ). length xs) (k.copies.emits 6 (3, 4) refl) in
    absurd (omega (arith, size)))

first_place : Tokens → Span
first_place (At s ∷ ts) = s
first_place _ = undefined

pub statement_span_refused : IsUnfaithful (with_base with_statement_span)
unfolding first_place
statement_span_refused = base_wrong (with_base with_statement_span) with_statement_span refl refl (λ k s.
    let e : span 1 3 ≡ k.copies.goes.span (span 1 3) = ap first_place k.copies.body in
    let start : 1 ≡ 2097153 = ap (λ (x : Span). x.start) (e ∙ k.copies.spans (span 1 3)) in
    absurd (omega (arith, start)))

pub without_statement_refused : IsUnfaithful (with_base without_statement)
without_statement_refused = base_wrong (with_base without_statement) without_statement refl refl (λ k s. let size : 4 ≡ 7 = ap (λ (ts : Tokens). length ts) k.copies.body in absurd (omega (arith, size)))

pub unreached_refused : IsUnfaithful (with_base with_unreached)
unfolding trail
unreached_refused = base_wrong (with_base with_unreached) with_unreached refl refl (λ k s. never (k.copies.nothing_else.expressions 3 (omega arith)))

pub name_of_none_refused : IsUnfaithful (with_base with_name_of_none)
unfolding trail
name_of_none_refused = base_wrong (with_base with_name_of_none) with_name_of_none refl refl (λ k s. never (k.copies.nothing_else.names 0 (9, codes "n") refl))

pub leaf_refused : IsUnfaithful (with_base with_leaf)
leaf_refused = base_wrong (with_base with_leaf) with_leaf refl refl (λ k s. none-some 0 (sym k.copies.nothing_else.leaf))

pub without_argument_refused : IsUnfaithful (with_base without_argument)
without_argument_refused = base_wrong (with_base without_argument) without_argument refl refl (λ k s. let size : 0 ≡ 1 = ap (λ xs. length xs) k.copies.arguments in absurd (omega (arith, size)))

pub result_refused : IsUnfaithful (with_base with_result)
result_refused = base_wrong (with_base with_result) with_result refl refl (λ k s. none-some _ (sym k.copies.outcome))

first_init : List (LocalValue × Span) → Option ℕ
first_init [] = None
first_init (l ∷ more) = l.0.init

pub without_initialiser_refused : IsUnfaithful (with_base without_initialiser)
unfolding first_init
without_initialiser_refused = base_wrong (with_base without_initialiser) without_initialiser refl refl (λ k s. let e : None ≡ Some (k.copies.goes.expression 1) = ap first_init k.copies.locals in none-some (k.copies.goes.expression 1) e)

-- ---- entry points

abbrev source_entry : EntryValue
source_entry = first_entry (call_with_first 0)

abbrev Whole : ModuleValue → EntryValue → World → Type 0
Whole made e reads = EntryAlike (λ s. s) (scope_alike reads (owned_parse shader_build shader_parse) made) (scope_of made) source_entry e

-- a module is refused whose first entry point isn't the shader's
first_wrong : (made : ModuleValue) (e : EntryValue) → slice_get made.entry_points 0 ≡ Some e → ((reads : World) → Whole made e reads → ⊥) → IsUnfaithful made
unfolding has_module_mark
first_wrong made e at wrong c h = let w = entry_whole c made h 0 e source_entry at refl in wrong w.0 w.1

pub another_name_refused : IsUnfaithful (with_first of_another_name)
another_name_refused = first_wrong (with_first of_another_name) of_another_name refl (λ r w. never (ap (bytes_eq (codes "e")) w.name))

pub another_stage_refused : IsUnfaithful (with_first of_another_stage)
another_stage_refused = first_wrong (with_first of_another_stage) of_another_stage refl (λ r w. let e : 0 ≡ 2 = w.stage in absurd (omega (arith, e)))

pub depth_test_refused : IsUnfaithful (with_first with_depth_test)
depth_test_refused = first_wrong (with_first with_depth_test) with_depth_test refl (λ r w. none-some 5 (sym w.early_depth_test))

pub another_size_refused : IsUnfaithful (with_first of_another_size)
another_size_refused = first_wrong (with_first of_another_size) of_another_size refl (λ r w. let e : 1 ∷ 1 ∷ 2 ∷ [] ≡ 1 ∷ 1 ∷ 1 ∷ [] = w.workgroup_size in never (ap (bytes_eq (1 ∷ 1 ∷ 1 ∷ [])) e))

pub size_override_refused : IsUnfaithful (with_first with_size_override)
size_override_refused = first_wrong (with_first with_size_override) with_size_override refl (λ r w. w.sizes)

pub payload_refused : IsUnfaithful (with_first with_payload)
payload_refused = first_wrong (with_first with_payload) with_payload refl (λ r w. w.task_payload)

pub mesh_refused : MeshLaw
mesh_refused mesh = first_wrong (with_first (with_mesh mesh)) (with_mesh mesh) refl (λ r w. w.mesh_info)

pub without_second_refused : IsUnfaithful without_second
without_second_refused c h = let e : 1 ≡ 2 = entries_counted c without_second h in absurd (omega (arith, e))

pub another_order_refused : IsUnfaithful in_another_order
unfolding has_module_mark
another_order_refused c h = never (ap (option_eq bytes_eq (Some (codes "a"))) (entry_comes c in_another_order h 0 second_entry source_entry refl refl).copies.name)

-- ---- whole modules

pub nothing_refused : IsUnfaithful nothing
unfolding world
nothing_refused c h = let there = h.special_there RayDesc 7 refl in none-some there.0 there.1

pub dangling_refused : IsUnfaithful dangling
unfolding world
dangling_refused c h = let there = h.special_there RayDesc 9 refl in none-some there.0 there.1

pub spoiled_refused : IsUnfaithful spoiled
spoiled_refused = first_wrong spoiled (spoil (first_entry (call_with_first 2))) refl (λ r w. never (ap (bytes_eq (codes "e")) w.name))

pub turned_refused : IsUnfaithful turned
unfolding trail
turned_refused = base_wrong turned (turned_base, base_span) refl refl (λ k s. never (k.copies.nothing_else.expressions 3 (omega arith)))
