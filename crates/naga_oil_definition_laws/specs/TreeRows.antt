-- Worked rows: what copies name and have nothing besides, and entry points that read alike; and others that don't.
use Rattle.std.proofs.Common.{◌≡◌, ℕ, zero, suc, ◌<◌, List, [], ◌∷◌, true, false, Option, Some, None, IfSome, slice_get, refl, ap, sym, subst, ◌∙◌, arith}
use Rattle.std.proofs.lemmas.Option.{none-some, same_Some}
use Rattle.std.specs.Option.{option_eq}
use Rattle.std.specs.Prelude.{codes, bytes_eq}
use Rattle.naga_oil_form.specs.Links as links
use Rattle.naga_oil_form.specs.Links.{added, has}
use Rattle.naga_oil_ir.specs.ModuleValue.{ModuleValue, FunctionValue, no_items}
use Rattle.naga_oil_ir.specs.Parts.{Parts, expr}
use Rattle.naga_oil_ir.specs.Rows.{Text, GlobalKind, row}
use Rattle.naga_oil_ir.specs.Spans.{undefined}
use Rattle.naga_oil_ir.specs.declared.expression.Expression.TheVariants.{Literal}
use Rattle.naga_oil_ir.specs.declared.module.MeshInfo.{MeshInfo}
use Rattle.naga_oil_ir.specs.declared.names.ItemPlace.TheVariants.{TypeItem}
use Rattle.naga_oil_ir.specs.declared.parts.Named.TheVariants.{Nothing, FunctionAt}
use Rattle.naga_oil_ir.specs.declared.span.Span.{Span}
use Rattle.naga_oil_ir.specs.declared.tokens.Token.{Token}
use Rattle.naga_oil_ir.specs.declared.tokens.Token.TheVariants.{Head, Use, Callee}
use Rattle.naga_oil_derive.specs.Tree.{Tree, Cut, Absent, Missing, Item, tree}
use Rattle.naga_oil_derive.specs.World.{world}
use Rattle.naga_oil_redirect.specs.PutInOrderRows.{empty, calling, function_of, module_of}
use Rattle.naga_oil_rename.specs.Renames.{Renames}
use Rattle.naga_oil_copy_laws.specs.ByTree.{HasNothingElse, HasSpan, IsBegun, IsNamed, IsReached, KeepNames, NameAlike, NameComes, NamesAlike, callee_in}
use Rattle.naga_oil_copy_laws.specs.EntryByTree.{BothOrNone, ExpressionsAlike, MeshAlike, PlaceByPlace}
use Rattle.naga_oil_copy_laws.specs.Scope.{CalledAlike, Scope, scope_of}
use Rattle.naga_oil_faithful_laws.specs.SmallMake.{number, struct, literal, local_of}

-- a function that returns a number with a name
abbrev named : FunctionValue
named = record (function_of (codes "n") (Literal 0 7 ∷ []) (Head 10 ∷ Use 0 ∷ [])) { named_expressions = (0, codes "x") ∷ [] }

-- handles, ranges and spans stay
abbrev staying : Renames
staying = record {
  ty = λ k. k;
  constant = λ k. k;
  pipeline_override = λ k. k;
  global = λ k. k;
  function = λ k. k;
  expression = λ k. k;
  range = λ r. r;
  span = λ s. s;
}

-- ---- nothing else

number_is_reached : (h : ℕ) → h < 1 → IsReached named h
unfolding links.trail
number_is_reached zero l = refl
number_is_reached (suc h) l = absurd (omega (arith, l))

unused_isnt_reached : IsReached (record named { body = [] }) 0 → ⊥
unfolding links.trail
unused_isnt_reached e = let f : false ≡ true = e in absurd cc

-- a function whose local variable has the number as its initialiser
abbrev initialised : FunctionValue
initialised = record named { local_variables = local_of 0 0 ∷ []; body = [] }

initialiser_is_begun : IsBegun initialised 0
unfolding links.trail
initialiser_is_begun = refl

returned_isnt_begun : IsBegun named 0 → ⊥
returned_isnt_begun e = let f : false ≡ true = e in absurd cc

has_nothing_else : HasNothingElse named
has_nothing_else = record { expressions = number_is_reached; names = names; leaf = refl }
  where
    names : (i : ℕ) (e : ℕ × List ℕ) → slice_get named.named_expressions i ≡ Some e → IsReached named e.0
    names zero e at = subst (λ (x : ℕ × List ℕ). IsReached named x.0) (same_Some (0, codes "x") e at) (number_is_reached 0 (omega arith))
    names (suc i) e at = absurd (none-some e at)

unreached_number_is_refused : HasNothingElse (record named { body = [] }) → ⊥
unfolding links.trail
unreached_number_is_refused h = let e : false ≡ true = h.expressions 0 (omega arith) in absurd cc

diagnostic_filter_is_refused : HasNothingElse (record named { diagnostic_filter_leaf = Some 0 }) → ⊥
diagnostic_filter_is_refused h = let e : ◌≡◌ {A = Option ℕ} (Some 0) None = h.leaf in absurd cc

-- ---- spans of copies

has_its_span : HasSpan (λ s. s) staying named named 0
has_its_span = record { first = 0; reached = number_is_reached 0 (omega arith); same = refl; spans = λ x y i j. ap (λ (z : Parts × Span). z.1) (same_Some y x (sym j ∙ i)) }

-- the number with a span in a text
abbrev spanned : FunctionValue
spanned = record named { expressions = (expr 0 (0 ∷ 7 ∷ []) Nothing [], record { start = 4; end = 5 }) ∷ [] }

another_span_is_refused : HasSpan (λ s. s) staying named spanned 0 → ⊥
another_span_is_refused h = at h.first h.same h.spans
  where
    at : (k : ℕ) → k ≡ 0 → ((x y : Parts × Span) → slice_get named.expressions k ≡ Some x → slice_get spanned.expressions 0 ≡ Some y → y.1 ≡ x.1) → ⊥
    at zero same spans = let e : 4 ≡ 0 = ap (λ (s : Span). s.start) (spans _ _ refl refl) in absurd (omega (arith, e))
    at (suc k) same spans = absurd (omega (arith, same))

-- ---- names of expressions

number_is_named : IsNamed named 0 (codes "x")
number_is_named = (0, refl)

only_number_is_named : (k : ℕ) → IsNamed named k (codes "x") → 0 ≡ k
only_number_is_named k (zero, e) = ap (λ (x : ℕ × List ℕ). x.0) (same_Some (0, codes "x") (k, codes "x") e)
only_number_is_named k (suc i, e) = absurd (none-some (k, codes "x") e)

second_isnt_named : IsNamed named 1 (codes "x") → ⊥
second_isnt_named h = let e = only_number_is_named 1 h in absurd (omega (arith, e))

name_comes : NameComes staying named 0 (codes "x")
name_comes = record { place = 0; reached = number_is_reached 0 (omega arith); named = number_is_named; goes = refl }

name_of_another_is_refused : NameComes staying named 1 (codes "x") → ⊥
name_of_another_is_refused h = let e = only_number_is_named h.place h.named in let g = h.goes in absurd (omega (arith, e, g))

names_are_kept : KeepNames staying named named
unfolding links.trail
names_are_kept = record { order = refl; each = each }
  where
    each : (h : ℕ) (n : List ℕ) → IsReached named h → IsNamed named h n → NameComes staying named h n
    each h n w i = record { place = h; reached = w; named = i; goes = refl }

lost_name_is_refused : KeepNames staying named (record named { named_expressions = [] }) → ⊥
unfolding links.trail
lost_name_is_refused h = let e : ◌≡◌ {A = List ℕ} [] (0 ∷ []) = h.order in absurd cc

-- ---- callees

-- f, and g, which calls it
abbrev g : FunctionValue
g = calling (codes "g") 0

abbrev two : Scope
two = scope_of (module_of (empty (codes "f") ∷ g ∷ []) (empty (codes "main")))

f_is_called_alike : CalledAlike (λ n. n) two two 0 0
f_is_called_alike = refl

g_isnt_called_so : CalledAlike (λ n. n) two two 0 1 → ⊥
g_isnt_called_so e = let f : false ≡ true = ap (λ n. option_eq bytes_eq n (Some (codes "f"))) e in absurd cc

f_is_named_alike : NamesAlike (λ n. n) two two staying (FunctionAt 0)
f_is_named_alike = (tt, refl)

missing_name_is_refused : NamesAlike (λ n. None) two two staying (FunctionAt 0) → ⊥
missing_name_is_refused h = let e : Some (codes "f") ≡ None = h.1 in absurd cc

abbrev Called : (Text → Text) → Token → Type 0
Called sends t = IfSome (callee_in t) (λ h. CalledAlike sends two two h h)

abbrev Named : (Text → Text) → Parts × Span → Type 0
Named sends e = NamesAlike sends two two staying e.0.named

names_f_alike : NameAlike (λ n. n) two two staying g
names_f_alike = record { types = λ k e. absurd cc; expressions = expressions; callees = callees }
  where
    expressions : (k : ℕ) (e : Parts × Span) → IsReached g k → slice_get g.expressions k ≡ Some e → Named (λ n. n) e
    expressions zero e w at = subst (Named (λ n. n)) (same_Some _ e at) (tt, refl)
    expressions (suc k) e w at = absurd (none-some e at)

    callees : (i : ℕ) (t : Token) → slice_get g.body i ≡ Some t → Called (λ n. n) t
    callees zero t at = subst (Called (λ n. n)) (same_Some _ t at) tt
    callees (suc zero) t at = subst (Called (λ n. n)) (same_Some _ t at) refl
    callees (suc (suc zero)) t at = subst (Called (λ n. n)) (same_Some _ t at) refl
    callees (suc (suc (suc i))) t at = absurd (none-some t at)

another_name_is_refused : NameAlike (λ n. None) two two staying g → ⊥
another_name_is_refused h = let e : Some (codes "f") ≡ None = h.callees 1 (Callee 0) refl in absurd cc

-- ---- entry points

-- two numbers, and a global
abbrev global : Option ℕ → ModuleValue
global space = record no_items {
  types = number ∷ struct (codes "V") ∷ [];
  global_variables = (row GlobalKind None (space ∷ None ∷ []) [] (Some (TypeItem 0) ∷ None ∷ []), undefined) ∷ [];
  global_expressions = literal 7 ∷ literal 9 ∷ literal 7 ∷ [];
}

abbrev here : Scope
here = scope_of (global (Some 2))

both : BothOrNone (λ (j k : ℕ). j < k) (Some 1) (Some 2)
both = omega arith

only_one_is_refused : BothOrNone (λ (j k : ℕ). j < k) (Some 1) None → ⊥
only_one_is_refused h = h

each_is_less : PlaceByPlace (λ (j k : ℕ). j < k) (1 ∷ 3 ∷ []) (2 ∷ 4 ∷ [])
each_is_less = (omega arith, (omega arith, tt))

further_element_is_refused : PlaceByPlace (λ (j k : ℕ). j < k) (1 ∷ []) (2 ∷ 4 ∷ []) → ⊥
further_element_is_refused h = h.1

greater_element_is_refused : PlaceByPlace (λ (j k : ℕ). j < k) (1 ∷ 4 ∷ []) (2 ∷ 3 ∷ []) → ⊥
greater_element_is_refused h = let l = h.1.0 in absurd (omega (arith, l))

-- the plain values of an item that is read
abbrev plain_of : Tree → List (Option ℕ)
plain_of Cut = []
plain_of Absent = []
plain_of Missing = []
plain_of (Item l more) = l.plain

same_number : ExpressionsAlike here here (Some 0) (Some 2)
unfolding tree world
same_number zero = refl
same_number (suc n) = refl

another_number_is_refused : ExpressionsAlike here here (Some 0) (Some 1) → ⊥
unfolding tree world
another_number_is_refused h = let e : ◌≡◌ {A = List (Option ℕ)} (Some 0 ∷ Some 9 ∷ []) (Some 0 ∷ Some 7 ∷ []) = ap plain_of (h 1) in absurd cc

-- the output of a mesh shader, of structs
abbrev mesh : (topology : ℕ) → MeshInfo
mesh topology = record { vertex_output_type = 1; primitive_output_type = 1; output = 0; max_vertices = Some 0; max_primitives = None; topology = topology }

reads_itself : MeshAlike here here (mesh 3) (mesh 3)
reads_itself = record { vertex = λ n. refl; primitive = λ n. refl; output = λ n. refl; max_vertices = λ n. refl; max_primitives = tt; topology = refl }

another_topology_is_refused : MeshAlike here here (mesh 3) (mesh 2) → ⊥
another_topology_is_refused h = let e : 2 ≡ 3 = h.topology in absurd (omega (arith, e))

another_space_is_refused : MeshAlike here (scope_of (global (Some 1))) (mesh 3) (mesh 3) → ⊥
unfolding tree world
another_space_is_refused h = let e : ◌≡◌ {A = List (Option ℕ)} (Some 1 ∷ None ∷ []) (Some 2 ∷ None ∷ []) = ap plain_of (h.output 1) in absurd cc
