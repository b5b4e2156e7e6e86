-- The test of shape decides whether plain data has the shape of a module.
use Rattle.std.proofs.Common.{◌≡◌, ⊎_elim, ℕ, zero, suc, ◌==◌, ◌&&◌, ◌||◌, ◌<◌, Bool, true, false, not, List, [], ◌∷◌, map, nat_eq, nat_lt, slice_get, Option, Some, None, option_map, option_to_list, IfSome, All, Decides, refl, ap, sym, ◌∙◌, subst}
use Rattle.std.specs.List.{flat_map, list_all, list_any}
use Rattle.std.proofs.lemmas.Bool.{false≢true, cases_Bool}
use Rattle.std.proofs.lemmas.Option.{none-some, same_Some}
use Rattle.naga_oil_form.specs.BodyForm.{result_kind}
use Rattle.naga_oil_form.proofs.DecisionLemmas.{both, like, itself, less, each_itself, if_there, number, distinct}
use Rattle.naga_oil_ir.specs.Body.{Tokens}
use Rattle.naga_oil_ir.specs.Kinds.{global_variable_kind, first_operation_kind}
use Rattle.naga_oil_ir.specs.ModuleValue.{ModuleValue, FunctionValue, EntryValue}
use Rattle.naga_oil_ir.specs.Parts.{Parts}
use Rattle.naga_oil_ir.specs.Rows.{Row, parts_row}
use Rattle.naga_oil_ir.specs.declared.names.ItemPlace.{ItemPlace}
use Rattle.naga_oil_ir.specs.declared.names.ItemPlace.TheVariants.{TypeItem, ConstantItem, OverrideItem, GlobalItem, ExpressionItem}
use Rattle.naga_oil_ir.specs.declared.parts.Named.{Named}
use Rattle.naga_oil_ir.specs.declared.parts.Named.TheVariants.{Nothing, TypeOf, ConstantAt, OverrideAt, GlobalAt, LocalAt, ArgumentAt, FunctionAt}
use Rattle.naga_oil_ir.specs.declared.span.Span.{Span}
use Rattle.naga_oil_ir.specs.declared.tokens.Token.{Token}
use Rattle.naga_oil_ir.specs.declared.tokens.Token.TheVariants.{At, Head, Plain, Flag, Absent, Use, Give, GiveCall, Emitted, Callee, Open, Close}
use Rattle.naga_oil_derive.specs.World.{world}
use Rattle.naga_oil_derive.specs.CopiedLaw.{place_number, kind_number, IsKinded}
use Rattle.naga_oil_derive.specs.CopiedFunctionLaw.{StandAlone}
use Rattle.naga_oil_form_laws.specs.FunctionForm.{NamesFunctionAsResult, AreResultsOfCalls}
use Rattle.naga_oil_form_laws.specs.ItemsStand.{may_name_kind}
use Rattle.naga_oil_form_laws.specs.Shape.{NamesAsType, NamesTypeAndValue, NamesGlobalAsGlobal, HasFunctionShape, HasModuleShape}
use Rattle.naga_oil_form_laws.specs.ShapeTest.{is_of_kind, are_of_their_kinds, names_as_type, is_type_place, is_expression_place, names_type_and_value, is_global_name, is_function_name, names_global_as_global, names_function_as_result, stands_alone, is_call_of, is_result_of_call, has_function_shape, has_shape, ShapeTestLaw}
use Rattle.naga_oil_form_laws.proofs.RequestLemmas.{all_at, from_at}

-- ---- kinds

-- each element of a list has a property by its row
at_row : {X : Type 0} (row : X → Row) (n : ℕ) (xs : List (X × Span)) (k : ℕ) (r : Row) → All (λ (e : X × Span). kind_number (row e.0).label.kind ≡ n) xs → option_map (λ (e : X × Span). row e.0) (slice_get xs k) ≡ Some r → kind_number r.label.kind ≡ n
at_row {X} row n xs k r a e = one (slice_get xs k) refl e
  where
    one : (o : Option (X × Span)) → slice_get xs k ≡ o → option_map (λ (e : X × Span). row e.0) o ≡ Some r → kind_number r.label.kind ≡ n
    one None f e = absurd cc
    one (Some x) f e = let g : row x.0 ≡ r = same_Some (row x.0) r e in subst (λ (s : Row). kind_number s.label.kind ≡ n) g (all_at (λ (e : X × Span). kind_number (row e.0).label.kind ≡ n) xs k x a f)

abbrev Kinded : {X : Type 0} → (X → Row) → ℕ → List (X × Span) → Type 0
Kinded {X} row n xs = All (λ (e : X × Span). kind_number (row e.0).label.kind ≡ n) xs

-- what each list of a module says of kinds
abbrev EachKinded : ModuleValue → Type 0
EachKinded m =
    (((Kinded (λ (r : Row). r) 0 m.types × Kinded (λ (r : Row). r) 1 m.constants) × Kinded (λ (r : Row). r) 2 m.overrides) × Kinded (λ (r : Row). r) 3 m.global_variables) × Kinded parts_row 4 m.global_expressions

of_kinds : (m : ModuleValue) → EachKinded m → IsKinded m
unfolding world
of_kinds m h (TypeItem k) r e = at_row (λ (r : Row). r) 0 m.types k r h.0.0.0.0 e
of_kinds m h (ConstantItem k) r e = at_row (λ (r : Row). r) 1 m.constants k r h.0.0.0.1 e
of_kinds m h (OverrideItem k) r e = at_row (λ (r : Row). r) 2 m.overrides k r h.0.0.1 e
of_kinds m h (GlobalItem k) r e = at_row (λ (r : Row). r) 3 m.global_variables k r h.0.1 e
of_kinds m h (ExpressionItem k) r e = at_row parts_row 4 m.global_expressions k r h.1 e

by_kinds : (m : ModuleValue) → IsKinded m → EachKinded m
unfolding world
by_kinds m h = (
  (
    (
      (
        from_at (λ (e : Row × Span). kind_number e.0.label.kind ≡ 0) m.types (λ k x at. h (TypeItem k) x.0 (ap (λ (o : Option (Row × Span)). option_map (λ (e : Row × Span). e.0) o) at)),
        from_at (λ (e : Row × Span). kind_number e.0.label.kind ≡ 1) m.constants (λ k x at. h (ConstantItem k) x.0 (ap (λ (o : Option (Row × Span)). option_map (λ (e : Row × Span). e.0) o) at)),
      ),
      from_at (λ (e : Row × Span). kind_number e.0.label.kind ≡ 2) m.overrides (λ k x at. h (OverrideItem k) x.0 (ap (λ (o : Option (Row × Span)). option_map (λ (e : Row × Span). e.0) o) at)),
    ),
    from_at (λ (e : Row × Span). kind_number e.0.label.kind ≡ 3) m.global_variables (λ k x at. h (GlobalItem k) x.0 (ap (λ (o : Option (Row × Span)). option_map (λ (e : Row × Span). e.0) o) at)),
  ),
  from_at (λ (e : Parts × Span). kind_number (parts_row e.0).label.kind ≡ 4) m.global_expressions (λ k x at. h (ExpressionItem k) (parts_row x.0) (ap (λ (o : Option (Parts × Span)). option_map (λ (e : Parts × Span). parts_row e.0) o) at)),
)

kind_test : {X : Type 0} (row : X → Row) (n : ℕ) (xs : List (X × Span)) → Decides (list_all (λ (e : X × Span). is_of_kind n (row e.0)) xs) (Kinded row n xs)
kind_test {X} row n xs = each_itself (λ (e : X × Span). is_of_kind n (row e.0)) (λ (e : X × Span). kind_number (row e.0).label.kind ≡ n) (λ (e : X × Span). number (kind_number (row e.0).label.kind) n) xs

kinds : (m : ModuleValue) → Decides (are_of_their_kinds m) (IsKinded m)
kinds m = like _ (of_kinds m) (by_kinds m) (both _ _ (both _ _ (both _ _ (both _ _ (kind_test (λ (r : Row). r) 0 m.types) (kind_test (λ (r : Row). r) 1 m.constants)) (kind_test (λ (r : Row). r) 2 m.overrides)) (kind_test (λ (r : Row). r) 3 m.global_variables)) (kind_test parts_row 4 m.global_expressions))

-- ---- names

as_type : (names : List (Option ItemPlace)) → Decides (names_as_type names) (NamesAsType names)
as_type names = each_itself _ (λ o. IfSome o (λ q. may_name_kind 0 (place_number q) ≡ true)) (λ o. if_there _ (λ q. may_name_kind 0 (place_number q) ≡ true) (λ q. itself (may_name_kind 0 (place_number q))) o) names

-- the type that is named
type_back : (t v : Option ItemPlace) → is_type_place t ≡ true → (o : Option ℕ) → v ≡ option_map ExpressionItem o → NamesTypeAndValue (t ∷ v ∷ [])
type_back (Some (TypeItem k)) v h o e = record { ty = k; value = o; are = ap (λ w. Some (TypeItem k) ∷ w ∷ []) e }
type_back None v h o e = absurd cc
type_back (Some (ConstantItem k)) v h o e = absurd cc
type_back (Some (OverrideItem k)) v h o e = absurd cc
type_back (Some (GlobalItem k)) v h o e = absurd cc
type_back (Some (ExpressionItem k)) v h o e = absurd cc

value_back : (t v : Option ItemPlace) → is_type_place t ≡ true → IfSome v (λ q. is_expression_place q ≡ true) → NamesTypeAndValue (t ∷ v ∷ [])
value_back t None h i = type_back t None h None refl
value_back t (Some (ExpressionItem k)) h i = type_back t (Some (ExpressionItem k)) h (Some k) refl
value_back t (Some (TypeItem k)) h i = absurd cc
value_back t (Some (ConstantItem k)) h i = absurd cc
value_back t (Some (OverrideItem k)) h i = absurd cc
value_back t (Some (GlobalItem k)) h i = absurd cc

value_told : (ty : ℕ) (o : Option ℕ) → names_type_and_value (Some (TypeItem ty) ∷ option_map ExpressionItem o ∷ []) ≡ true
value_told ty None = refl
value_told ty (Some k) = refl

type_and_value : (names : List (Option ItemPlace)) → Decides (names_type_and_value names) (NamesTypeAndValue names)
type_and_value names = (from names, λ h. ap names_type_and_value h.are ∙ value_told h.ty h.value)
  where
    from : (names : List (Option ItemPlace)) → names_type_and_value names ≡ true → NamesTypeAndValue names
    from [] h = absurd cc
    from (t ∷ []) h = absurd cc
    from (t ∷ v ∷ []) h = let p = (both _ _ (itself (is_type_place t)) (if_there is_expression_place (λ q. is_expression_place q ≡ true) (λ q. itself (is_expression_place q)) v)).0 h in value_back t v p.0 p.1
    from (t ∷ v ∷ x ∷ names) h = absurd cc

-- ---- expressions

-- a test that is asked of some
if_so : {P Q : Type 0} (x y : Bool) → Decides x P → Decides y Q → Decides (not x || y) (P → Q)
if_so true y d e = (λ h p. e.0 h, λ f. e.1 (f (d.0 refl)))
if_so false y d e = (λ h p. absurd (false≢true (d.1 p)), λ f. refl)

global_name : (n : Named) → Decides (is_global_name n) ((g : ℕ) × (n ≡ GlobalAt g))
global_name (GlobalAt g) = (λ h. (g, refl), λ p. refl)
global_name Nothing = (λ h. absurd (false≢true h), λ p. absurd (false≢true (ap is_global_name p.1)))
global_name (TypeOf k) = (λ h. absurd (false≢true h), λ p. absurd (false≢true (ap is_global_name p.1)))
global_name (ConstantAt k) = (λ h. absurd (false≢true h), λ p. absurd (false≢true (ap is_global_name p.1)))
global_name (OverrideAt k) = (λ h. absurd (false≢true h), λ p. absurd (false≢true (ap is_global_name p.1)))
global_name (LocalAt k) = (λ h. absurd (false≢true h), λ p. absurd (false≢true (ap is_global_name p.1)))
global_name (ArgumentAt k) = (λ h. absurd (false≢true h), λ p. absurd (false≢true (ap is_global_name p.1)))
global_name (FunctionAt k) = (λ h. absurd (false≢true h), λ p. absurd (false≢true (ap is_global_name p.1)))

function_name : (n : Named) → Decides (is_function_name n) ((f : ℕ) × (n ≡ FunctionAt f))
function_name (FunctionAt f) = (λ h. (f, refl), λ p. refl)
function_name Nothing = (λ h. absurd (false≢true h), λ p. absurd (false≢true (ap is_function_name p.1)))
function_name (TypeOf k) = (λ h. absurd (false≢true h), λ p. absurd (false≢true (ap is_function_name p.1)))
function_name (ConstantAt k) = (λ h. absurd (false≢true h), λ p. absurd (false≢true (ap is_function_name p.1)))
function_name (OverrideAt k) = (λ h. absurd (false≢true h), λ p. absurd (false≢true (ap is_function_name p.1)))
function_name (GlobalAt k) = (λ h. absurd (false≢true h), λ p. absurd (false≢true (ap is_function_name p.1)))
function_name (LocalAt k) = (λ h. absurd (false≢true h), λ p. absurd (false≢true (ap is_function_name p.1)))
function_name (ArgumentAt k) = (λ h. absurd (false≢true h), λ p. absurd (false≢true (ap is_function_name p.1)))

global_as_global : (p : Parts) → Decides (names_global_as_global p) (NamesGlobalAsGlobal p)
global_as_global p = like _ (λ f g e. f (g, e)) (λ f x. f x.0 x.1) (if_so (is_global_name p.named) (p.kind == global_variable_kind) (global_name p.named) (number p.kind global_variable_kind))

function_as_result : (p : Parts) → Decides (names_function_as_result p) (NamesFunctionAsResult p)
function_as_result p = like _ (λ f g e. f (g, e)) (λ f x. f x.0 x.1) (if_so (is_function_name p.named) (result_kind (Some p.kind)) (function_name p.named) (itself (result_kind (Some p.kind))))

abbrev IsAlone : Parts → Type 0
IsAlone p = p.kind < first_operation_kind → flat_map option_to_list p.operands ≡ []

alone_part : (p : Parts) → Decides (stands_alone p) (IsAlone p)
alone_part p = if_so _ _ (less p.kind first_operation_kind) (none (flat_map option_to_list p.operands))
  where
    has_none : List ℕ → Bool
    has_none [] = true
    has_none (x ∷ xs) = false

    none : (xs : List ℕ) → Decides (has_none xs) (xs ≡ [])
    none [] = (λ h. refl, λ h. refl)
    none (x ∷ xs) = (λ h. absurd (false≢true h), λ h. absurd cc)

-- ---- bodies

call_of : (f : ℕ) (t : Token) → Decides (is_call_of f t) (t ≡ Callee f)
call_of f (Callee g) = like _ (ap Callee) (λ e. (let i : g ≡ f = cc in i)) (number g f)
call_of f (At s) = (λ h. absurd (false≢true h), λ h. absurd cc)
call_of f (Head k) = (λ h. absurd (false≢true h), λ h. absurd cc)
call_of f (Plain k) = (λ h. absurd (false≢true h), λ h. absurd cc)
call_of f (Flag b) = (λ h. absurd (false≢true h), λ h. absurd cc)
call_of f Absent = (λ h. absurd (false≢true h), λ h. absurd cc)
call_of f (Use k) = (λ h. absurd (false≢true h), λ h. absurd cc)
call_of f (Give k) = (λ h. absurd (false≢true h), λ h. absurd cc)
call_of f (GiveCall g k) = (λ h. absurd (false≢true h), λ h. absurd cc)
call_of f (Emitted r) = (λ h. absurd (false≢true h), λ h. absurd cc)
call_of f Open = (λ h. absurd (false≢true h), λ h. absurd cc)
call_of f Close = (λ h. absurd (false≢true h), λ h. absurd cc)

-- an element of which a property holds
pub record Found {A : Type 0} (P : A → Type 0) (xs : List A) : Type 0 where
  pub place : ℕ
  pub element : A
  pub at : slice_get xs place ≡ Some element
  pub holds : P element

or_true : (b : Bool) → (b || true) ≡ true
or_true true = refl
or_true false = refl

found : {A : Type 0} (p : A → Bool) (P : A → Type 0) → ((x : A) → Decides (p x) (P x)) → (xs : List A) → Decides (list_any p xs) (Found P xs)
found p P d [] = (λ h. absurd (false≢true h), λ h. absurd (none-some h.element h.at))
found {A} p P d (x ∷ xs) =
    let more = found p P d xs in
    (λ h. ⊎_elim (λ e. record { place = 0; element = x; at = refl; holds = (d x).0 e }) (λ e. let f = more.0 (sym (ap (λ b. b || list_any p xs) e) ∙ h) in record { place = suc f.place; element = f.element; at = f.at; holds = f.holds }) (cases_Bool (p x)), λ h. back more.1 h.place h.element h.at h.holds)
  where
    back : (Found P xs → list_any p xs ≡ true) → (j : ℕ) (y : A) → slice_get (x ∷ xs) j ≡ Some y → P y → (p x || list_any p xs) ≡ true
    back more zero y at h = ap (λ b. b || list_any p xs) ((d x).1 (subst P (sym (same_Some x y at)) h))
    back more (suc j) y at h = ap (λ b. p x || b) (more (record { place = j; element = y; at = at; holds = h })) ∙ or_true (p x)

abbrev HasCall : Tokens → Token → Type 0
HasCall ts t = (f h : ℕ) → t ≡ GiveCall f h → (j : ℕ) × (slice_get ts j ≡ Some (Callee f))

has_call : (ts : Tokens) (t : Token) → Decides (is_result_of_call ts t) (HasCall ts t)
has_call ts (GiveCall g k) =
    like _ (λ x f h e. (x.place, x.at ∙ ap Some (x.holds ∙ (let i : g ≡ f = cc in ap Callee i)))) (λ c. let x = c g k refl in record { place = x.0; element = Callee g; at = x.1; holds = refl }) (found (is_call_of g) (λ t. t ≡ Callee g) (call_of g) ts)
has_call ts (Callee g) = (λ h f k e. absurd cc, λ c. refl)
has_call ts (At s) = (λ h f k e. absurd cc, λ c. refl)
has_call ts (Head x) = (λ h f k e. absurd cc, λ c. refl)
has_call ts (Plain x) = (λ h f k e. absurd cc, λ c. refl)
has_call ts (Flag b) = (λ h f k e. absurd cc, λ c. refl)
has_call ts Absent = (λ h f k e. absurd cc, λ c. refl)
has_call ts (Use x) = (λ h f k e. absurd cc, λ c. refl)
has_call ts (Give x) = (λ h f k e. absurd cc, λ c. refl)
has_call ts (Emitted r) = (λ h f k e. absurd cc, λ c. refl)
has_call ts Open = (λ h f k e. absurd cc, λ c. refl)
has_call ts Close = (λ h f k e. absurd cc, λ c. refl)

results : (ts : Tokens) → Decides (list_all (is_result_of_call ts) ts) (AreResultsOfCalls ts)
results ts = like _ (λ a i f h e. all_at (HasCall ts) ts i (GiveCall f h) a e f h refl) (λ r. from_at (HasCall ts) ts (λ k t at f h e. r k f h (at ∙ ap Some e))) (each_itself (is_result_of_call ts) (HasCall ts) (has_call ts) ts)

-- ---- modules

alone : (es : List (Parts × Span)) → Decides (list_all (λ (e : Parts × Span). stands_alone e.0) es) (StandAlone es)
alone es = like _ (λ a k e at l. all_at (λ (e : Parts × Span). IsAlone e.0) es k e a at l) (λ s. from_at (λ (e : Parts × Span). IsAlone e.0) es (λ k e at l. s k e at l)) (each_itself (λ (e : Parts × Span). stands_alone e.0) (λ (e : Parts × Span). IsAlone e.0) (λ (e : Parts × Span). alone_part e.0) es)

function_shape : (f : FunctionValue) → Decides (has_function_shape f) (HasFunctionShape f)
function_shape f =
    like _ (λ h. record { callees = h.0.0; results = h.0.1; alone = h.1 }) (λ r. ((r.callees, r.results), r.alone))
    (both _ _ (both _ _ (each_itself _ (λ (e : Parts × Span). NamesFunctionAsResult e.0) (λ (e : Parts × Span). function_as_result e.0) f.expressions) (results f.body)) (alone f.expressions))

pub shape_test : ShapeTestLaw
unfolding has_shape
shape_test m =
    like _
    (λ h. record { kinds = h.0.0.0.0.0.0.0.0; keys = h.0.0.0.0.0.0.0.1; types = h.0.0.0.0.0.0.1; constants = h.0.0.0.0.0.1; overrides = h.0.0.0.0.1; globals = h.0.0.0.1; global_expressions = h.0.0.1; functions = h.0.1; entry_points = h.1 })
    (λ r. ((((((((r.kinds, r.keys), r.types), r.constants), r.overrides), r.globals), r.global_expressions), r.functions), r.entry_points))
    (both _ _ (both _ _ (both _ _ (both _ _ (both _ _ (both _ _ (both _ _ (both _ _
    (kinds m)
    (distinct nat_eq (map (λ e. e.0) m.special_types.predeclared_types)))
    (each_itself _ (λ (e : Row × Span). NamesAsType e.0.names) (λ (e : Row × Span). as_type e.0.names) m.types))
    (each_itself _ (λ (e : Row × Span). NamesTypeAndValue e.0.names) (λ (e : Row × Span). type_and_value e.0.names) m.constants))
    (each_itself _ (λ (e : Row × Span). NamesTypeAndValue e.0.names) (λ (e : Row × Span). type_and_value e.0.names) m.overrides))
    (each_itself _ (λ (e : Row × Span). NamesTypeAndValue e.0.names) (λ (e : Row × Span). type_and_value e.0.names) m.global_variables))
    (each_itself _ (λ (e : Parts × Span). NamesGlobalAsGlobal e.0) (λ (e : Parts × Span). global_as_global e.0) m.global_expressions))
    (each_itself _ (λ (e : FunctionValue × Span). HasFunctionShape e.0) (λ (e : FunctionValue × Span). function_shape e.0) m.functions))
    (each_itself _ (λ (e : EntryValue). HasFunctionShape e.function) (λ (e : EntryValue). function_shape e.function) m.entry_points))
