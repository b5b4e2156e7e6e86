-- One copy that was made, as a value.
use Rattle.std.proofs.Common.{◌≡◌, ℕ, ◌+◌, not, Bool, true, false, cond, nat_lt, List, [], ◌∷◌, ◌++◌, map, length, position, Option, Some, None, option_map, slice_get, slice_set, unwrap_or, is_some, refl, ap, sym, ◌∙◌, Decides, Vec, Global}
use Rattle.std.specs.List.{position_or_len}
use Rattle.std.proofs.lemmas.Bool.Decides.{same_from_decides}
use Rattle.std.proofs.lemmas.List.{length-map, map-append}
use Rattle.std.proofs.lemmas.Option.{slice_get-map}
use Rattle.naga_oil_ir.specs.Parts.{parts}
use Rattle.naga_oil_ir.specs.Places.{place_of, with_element}
use Rattle.naga_oil_ir.specs.Rows.{Text, type_row, constant_row, override_row, global_row}
use Rattle.naga_oil_ir.specs.ModuleValue.{expression_values}
use Rattle.naga_oil_ir.specs.Spans.{undefined}
use Rattle.naga_oil_ir.specs.declared.module.Module.{Module}
use Rattle.naga_oil_ir.specs.declared.span.Span.{Span}
use Rattle.naga_oil_ir.specs.declared.types.Type.{«Type» as TypeOfShader}
use Rattle.naga_oil_ir.specs.declared.types.Constant.{Constant as ConstantItself}
use Rattle.naga_oil_ir.specs.declared.types.Override.{Override as OverrideItself}
use Rattle.naga_oil_ir.specs.declared.types.GlobalVariable.{GlobalVariable as GlobalItself}
use Rattle.naga_oil_ir.specs.declared.expression.Expression.{Expression}
use Rattle.naga_oil_ir.specs.declared.names.ItemPlace.TheVariants.{ConstantItem, OverrideItem, GlobalItem, ExpressionItem}
use Rattle.naga_oil_ir.specs.contracts.types.TypePartialEq.TheImpl.{ghosts as type_ghosts}
use Rattle.naga_oil_ir.specs.contracts.types.ConstantPartialEq.TheImpl.{ghosts as constant_ghosts}
use Rattle.naga_oil_ir.specs.contracts.types.OverridePartialEq.TheImpl.{ghosts as override_ghosts}
use Rattle.naga_oil_ir.specs.contracts.types.GlobalVariablePartialEq.TheImpl.{ghosts as global_ghosts}
use Rattle.naga_oil_ir.specs.contracts.expression.ExpressionPartialEq.TheImpl.{ghosts as expression_ghosts}
use Rattle.naga_oil_ir.proofs.ItemEquality.{type_decides, constant_decides, override_decides, global_decides}
use Rattle.naga_oil_ir.proofs.ExpressionEquality.{same, back}
use Rattle.naga_oil_derive.specs.declared.maps.Maps.{Maps}
use Rattle.naga_oil_derive.specs.Equal.{row_eq, parts_eq}
use Rattle.naga_oil_rename.specs.Renames.{rename, rename_row, under_name}
use Rattle.naga_oil_derive.specs.World.{value_of, shifted}
use Rattle.naga_oil_derive.specs.Copying.{places_of, renames_under}
use Rattle.naga_oil_derive.specs.Copied.{CopyState, copy_state, place_in, with_item_in, of_item, put_type, put}
use Rattle.naga_oil_derive.proofs.EqualLemmas.{row_eq-decides, parts_eq-decides}

-- ---- a list, and its values

abbrev valued : {X A : Type 0} → (X → A) → List (X × Span) → List (A × Span)
valued f xs = map (λ e. (f e.0, e.1)) xs

first-valued : {X A : Type 0} (f : X → A) (p : X × Span → Bool) (q : A × Span → Bool) → ((e : X × Span) → p e ≡ q (f e.0, e.1)) → (xs : List (X × Span)) → position_or_len p xs ≡ position_or_len q (valued f xs)
first-valued f p q h [] = refl
first-valued f p q h (e ∷ xs) =
    ap (λ b. cond (not b) (1 + position_or_len p xs) 0) (h e) ∙ ap (λ n. cond (not (q (f e.0, e.1))) (1 + n) 0) (first-valued f p q h xs)

length-valued : {X A : Type 0} (f : X → A) (xs : List (X × Span)) → length xs ≡ length (valued f xs)
length-valued f xs = sym (length-map xs (λ e. (f e.0, e.1)))

position-valued : {X A : Type 0} (f : X → A) (p : X × Span → Bool) (q : A × Span → Bool) → ((e : X × Span) → p e ≡ q (f e.0, e.1)) → (xs : List (X × Span)) → position p xs ≡ position q (valued f xs)
position-valued f p q h xs =
    ap (λ n. cond (nat_lt n (length xs)) (Some n) None) (first-valued f p q h xs) ∙ ap (λ n. cond (nat_lt (position_or_len q (valued f xs)) n) (Some (position_or_len q (valued f xs))) None) (length-valued f xs)

place-valued : {X A : Type 0} (f : X → A) (p : X × Span → Bool) (q : A × Span → Bool) → ((e : X × Span) → p e ≡ q (f e.0, e.1)) → (xs : List (X × Span)) → place_of p xs ≡ place_of q (valued f xs)
place-valued f p q h xs = ap (λ o. unwrap_or o (length xs)) (position-valued f p q h xs) ∙ ap (unwrap_or (position q (valued f xs))) (length-valued f xs)

chosen : {X A : Type 0} (f : X → A) (b : Bool) (xs : List (X × Span)) (e : X × Span) → valued f (cond b xs (xs ++ e ∷ [])) ≡ cond b (valued f xs) (valued f xs ++ (f e.0, e.1) ∷ [])
chosen f true xs e = refl
chosen f false xs e = map-append (λ e. (f e.0, e.1)) xs (e ∷ [])

with_element-valued : {X A : Type 0} (f : X → A) (p : X × Span → Bool) (q : A × Span → Bool) → ((e : X × Span) → p e ≡ q (f e.0, e.1)) → (xs : List (X × Span)) (e : X × Span) → valued f (with_element p xs e) ≡ with_element q (valued f xs) (f e.0, e.1)
with_element-valued f p q h xs e = chosen f (is_some (position p xs)) xs e ∙ ap (λ o. cond (is_some o) (valued f xs) (valued f xs ++ (f e.0, e.1) ∷ [])) (position-valued f p q h xs)

-- ---- one copy

of_found : {X A : Type 0} (f : X → A) (s : CopyState) (g : A → Span → CopyState) (o : Option (X × Span)) (x : X) → option_map (λ e. e.0) o ≡ Some x → of_item s g (option_map (λ e. (f e.0, e.1)) o) ≡ g (f x) (unwrap_or (option_map (λ e. e.1) o) undefined)
of_found f s g None x e = cc
of_found f s g (Some y) x e = let q : y.0 ≡ x = cc in ap (λ v. g (f v) y.1) q

made_put : {X A : Type 0} (E : X → X → Bool) (G : A → A → Bool) (f : X → A) → ((a b : X) → Decides (E a b) (f a ≡ f b)) → ((a b : A) → Decides (G a b) (a ≡ b)) → (set : List (Option ℕ) → List (A × Span) → CopyState) (s : CopyState) (ns vs : List (Option ℕ)) (source xs ys : List (X × Span)) (g : A → A) (shift k h : ℕ) (x copy : X) (sp : Span) → option_map (λ e. e.0) (slice_get source k) ≡ Some x → f copy ≡ g (f x) → sp ≡ shifted shift (unwrap_or (option_map (λ e. e.1) (slice_get source k)) undefined) → h ≡ place_of (λ e. E copy e.0) xs → ys ≡ with_element (λ e. E copy e.0) xs (copy, sp) → vs ≡ slice_set ns k (Some h) → set vs (valued f ys) ≡ of_item s (λ r span. set (slice_set ns k (Some (place_in G (valued f xs) (g r)))) (with_item_in G (valued f xs) (g r) (shifted shift span))) (slice_get (valued f source) k)
made_put {X} {A} E G f d e set s ns vs source xs ys g shift k h x copy sp at is spanned placed added goes_to =
    let agree = λ (v : X × Span). same_from_decides (E copy v.0) (G (f copy) (f v.0)) (d copy v.0) (e (f copy) (f v.0)) in
    let place = placed ∙ place-valued f (λ v. E copy v.0) (λ v. G (f copy) v.0) agree xs ∙ ap (place_in G (valued f xs)) is in
    let arena = ap (valued f) added ∙ with_element-valued f (λ v. E copy v.0) (λ v. G (f copy) v.0) agree xs (copy, sp) ∙ ap (λ r. with_item_in G (valued f xs) r sp) is ∙ ap (with_item_in G (valued f xs) (g (f x))) spanned in
    let make = λ (r : A) (span : Span). set (slice_set ns k (Some (place_in G (valued f xs) (g r)))) (with_item_in G (valued f xs) (g r) (shifted shift span)) in
    ap (λ v. set v (valued f ys)) (goes_to ∙ ap (λ j. slice_set ns k (Some j)) place) ∙ ap (set (slice_set ns k (Some (place_in G (valued f xs) (g (f x)))))) arena ∙ sym (ap (of_item s make) (slice_get-map (λ e. (f e.0, e.1)) source k) ∙ of_found f s make (slice_get source k) x at)

pub type_put : (source t : Module) (m : Maps) (k : ℕ) (x copy : TypeOfShader) (o : Option Text) (sp : Span) (h : ℕ) (ys : List (TypeOfShader × Span)) (v : Vec (Option ℕ) Global) → option_map (λ e. e.0) (slice_get source.types k) ≡ Some x → type_row copy ≡ under_name o (rename_row (renames_under m) (type_row x)) → sp ≡ shifted m.offset (unwrap_or (option_map (λ e. e.1) (slice_get source.types k)) undefined) → h ≡ place_of (λ e. type_ghosts.eq copy e.0) t.types → ys ≡ with_element (λ e. type_ghosts.eq copy e.0) t.types (copy, sp) → v.items ≡ slice_set m.types.items k (Some h) → copy_state (record m { types = v }) (record t { types = ys }) ≡ put_type (value_of source) m.offset o (copy_state m t) k
unfolding value_of put_type
type_put source t m k x copy o sp h ys v at is spanned placed added goes_to =
    made_put type_ghosts.eq row_eq type_row type_decides row_eq-decides (λ ns xs. record { places = record (places_of m) { types = ns }; target = record (value_of t) { types = xs } }) (copy_state m t) m.types.items v.items source.types t.types ys (λ r. under_name o (rename_row (renames_under m) r)) m.offset k h x copy sp at is spanned placed added goes_to

pub constant_put : (source t : Module) (m : Maps) (k : ℕ) (x copy : ConstantItself) (sp : Span) (h : ℕ) (ys : List (ConstantItself × Span)) (v : Vec (Option ℕ) Global) → option_map (λ e. e.0) (slice_get source.constants k) ≡ Some x → constant_row copy ≡ rename_row (renames_under m) (constant_row x) → sp ≡ shifted m.offset (unwrap_or (option_map (λ e. e.1) (slice_get source.constants k)) undefined) → h ≡ place_of (λ e. constant_ghosts.eq copy e.0) t.constants → ys ≡ with_element (λ e. constant_ghosts.eq copy e.0) t.constants (copy, sp) → v.items ≡ slice_set m.constants.items k (Some h) → copy_state (record m { constants = v }) (record t { constants = ys }) ≡ put (value_of source) m.offset (copy_state m t) (ConstantItem k)
unfolding value_of put
constant_put source t m k x copy sp h ys v at is spanned placed added goes_to =
    made_put constant_ghosts.eq row_eq constant_row constant_decides row_eq-decides (λ ns xs. record { places = record (places_of m) { constants = ns }; target = record (value_of t) { constants = xs } }) (copy_state m t) m.constants.items v.items source.constants t.constants ys (rename_row (renames_under m)) m.offset k h x copy sp at is spanned placed added goes_to

pub override_put : (source t : Module) (m : Maps) (k : ℕ) (x copy : OverrideItself) (sp : Span) (h : ℕ) (ys : List (OverrideItself × Span)) (v : Vec (Option ℕ) Global) → option_map (λ e. e.0) (slice_get source.overrides k) ≡ Some x → override_row copy ≡ rename_row (renames_under m) (override_row x) → sp ≡ shifted m.offset (unwrap_or (option_map (λ e. e.1) (slice_get source.overrides k)) undefined) → h ≡ place_of (λ e. override_ghosts.eq copy e.0) t.overrides → ys ≡ with_element (λ e. override_ghosts.eq copy e.0) t.overrides (copy, sp) → v.items ≡ slice_set m.overrides.items k (Some h) → copy_state (record m { overrides = v }) (record t { overrides = ys }) ≡ put (value_of source) m.offset (copy_state m t) (OverrideItem k)
unfolding value_of put
override_put source t m k x copy sp h ys v at is spanned placed added goes_to =
    made_put override_ghosts.eq row_eq override_row override_decides row_eq-decides (λ ns xs. record { places = record (places_of m) { overrides = ns }; target = record (value_of t) { overrides = xs } }) (copy_state m t) m.overrides.items v.items source.overrides t.overrides ys (rename_row (renames_under m)) m.offset k h x copy sp at is spanned placed added goes_to

pub global_put : (source t : Module) (m : Maps) (k : ℕ) (x copy : GlobalItself) (sp : Span) (h : ℕ) (ys : List (GlobalItself × Span)) (v : Vec (Option ℕ) Global) → option_map (λ e. e.0) (slice_get source.global_variables k) ≡ Some x → global_row copy ≡ rename_row (renames_under m) (global_row x) → sp ≡ shifted m.offset (unwrap_or (option_map (λ e. e.1) (slice_get source.global_variables k)) undefined) → h ≡ place_of (λ e. global_ghosts.eq copy e.0) t.global_variables → ys ≡ with_element (λ e. global_ghosts.eq copy e.0) t.global_variables (copy, sp) → v.items ≡ slice_set m.global_variables.items k (Some h) → copy_state (record m { global_variables = v }) (record t { global_variables = ys }) ≡ put (value_of source) m.offset (copy_state m t) (GlobalItem k)
unfolding value_of put
global_put source t m k x copy sp h ys v at is spanned placed added goes_to =
    made_put global_ghosts.eq row_eq global_row global_decides row_eq-decides (λ ns xs. record { places = record (places_of m) { global_variables = ns }; target = record (value_of t) { global_variables = xs } }) (copy_state m t) m.global_variables.items v.items source.global_variables t.global_variables ys (rename_row (renames_under m)) m.offset k h x copy sp at is spanned placed added goes_to

pub expression_put : (source t : Module) (m : Maps) (k : ℕ) (x copy : Expression) (sp : Span) (h : ℕ) (ys : List (Expression × Span)) (v : Vec (Option ℕ) Global) → option_map (λ e. e.0) (slice_get source.global_expressions k) ≡ Some x → parts copy ≡ rename (renames_under m) (parts x) → sp ≡ shifted m.offset (unwrap_or (option_map (λ e. e.1) (slice_get source.global_expressions k)) undefined) → h ≡ place_of (λ e. expression_ghosts.eq copy e.0) t.global_expressions → ys ≡ with_element (λ e. expression_ghosts.eq copy e.0) t.global_expressions (copy, sp) → v.items ≡ slice_set m.global_expressions.items k (Some h) → copy_state (record m { global_expressions = v }) (record t { global_expressions = ys }) ≡ put (value_of source) m.offset (copy_state m t) (ExpressionItem k)
unfolding value_of put
expression_put source t m k x copy sp h ys v at is spanned placed added goes_to =
    made_put expression_ghosts.eq parts_eq parts (λ a b. (same a b, back a b)) parts_eq-decides (λ ns xs. record { places = record (places_of m) { global_expressions = ns }; target = record (value_of t) { global_expressions = xs } }) (copy_state m t) m.global_expressions.items v.items source.global_expressions t.global_expressions ys (rename (renames_under m)) m.offset k h x copy sp at is spanned placed added goes_to

-- ---- an expression of a function

same_parts : (x : Expression) (e : Expression × Span) → expression_ghosts.eq x e.0 ≡ parts_eq (parts x) (parts e.0)
same_parts x e = same_from_decides (expression_ghosts.eq x e.0) (parts_eq (parts x) (parts e.0)) (same x e.0, back x e.0) (parts_eq-decides (parts x) (parts e.0))

pub expression_place : (x : Expression) (es : List (Expression × Span)) → place_of (λ e. expression_ghosts.eq x e.0) es ≡ place_in parts_eq (expression_values es) (parts x)
expression_place x es = place-valued parts (λ e. expression_ghosts.eq x e.0) (λ e. parts_eq (parts x) e.0) (same_parts x) es

pub expression_with : (x : Expression) (s : Span) (es : List (Expression × Span)) → expression_values (with_element (λ e. expression_ghosts.eq x e.0) es (x, s)) ≡ with_item_in parts_eq (expression_values es) (parts x) s
expression_with x s es = with_element-valued parts (λ e. expression_ghosts.eq x e.0) (λ e. parts_eq (parts x) e.0) (same_parts x) es (x, s)
