-- What copying one item does, over values alone.
use Rattle.std.proofs.Common.{◌≡◌, ◌⊎◌, inl, inr, ⊎_elim, ℕ, ◌<◌, Bool, List, [], ◌∷◌, ◌++◌, length, Option, Some, None, option_map, slice_get, slice_set, refl, ap, sym, ◌∙◌, subst, arith, All, unwrap_or, map, Decides}
use Rattle.std.specs.Option.{option_flatten}
use Rattle.std.specs.List.{AllZip}
use Rattle.std.proofs.lemmas.List.{length-set}
use Rattle.std.proofs.lemmas.List.Elements.{All-head, All-tail}
use Rattle.std.proofs.lemmas.Option.{slice_get_within}
use Rattle.naga_oil_ir.specs.Parts.{Parts}
use Rattle.naga_oil_ir.specs.Rows.{Row, Text, ExpressionKind, named_place, named_rest, parts_row}
use Rattle.naga_oil_ir.specs.ModuleValue.{ModuleValue}
use Rattle.naga_oil_ir.specs.declared.parts.Named.{Named}
use Rattle.naga_oil_ir.specs.declared.parts.Named.TheVariants.{Nothing, TypeOf, ConstantAt, OverrideAt, GlobalAt, LocalAt, ArgumentAt, FunctionAt}
use Rattle.naga_oil_ir.specs.declared.names.ItemPlace.{ItemPlace}
use Rattle.naga_oil_ir.specs.declared.names.ItemPlace.TheVariants.{TypeItem, ConstantItem, OverrideItem, GlobalItem, ExpressionItem}
use Rattle.naga_oil_ir.specs.declared.span.Span.{Span}
use Rattle.naga_oil_form.proofs.LinkLemmas.{slice_get-set_same, slice_get-set_other, slice_get-append_at}
use Rattle.naga_oil_derive.specs.Equal.{row_eq, parts_eq}
use Rattle.naga_oil_rename.specs.Renames.{rename, rename_place, rename_row, under_name}
use Rattle.naga_oil_derive.specs.World.{ItemMap, goes, world, span_at, shifted, Extends}
use Rattle.naga_oil_derive.specs.Copying.{NameGoesTo, IsCopyOf, Puts, Fetches, WentSomewhere}
use Rattle.naga_oil_derive.specs.Copied.{CopyState, renames_by, place_in, with_item_in, of_item, with_type, with_constant, with_override, with_global, with_expression, put_type, put}
use Rattle.naga_oil_derive.specs.CopiedLaw.{IsKinded, place_number, kind_number, spans_by, AreRoomy, AddsWith, PutsOne, IsReady}
use Rattle.naga_oil_derive.proofs.EqualLemmas.{row_eq-decides, parts_eq-decides}
use Rattle.naga_oil_derive.proofs.WorldLemmas.{rows, spans, Begins-refl, Extends-refl}
use Rattle.naga_oil_derive.proofs.FetchLemmas.{FetchesList, IsNew, fetches_list}
use Rattle.naga_oil_derive.proofs.CopyOneLemmas.{parts_row-rename}

-- ---- an arena of a value, and the places of its items

-- its items are at the places C, where f reads them; the other arenas and places stay as it changes
pub record IsArenaOf {X : Type 0} (C : ℕ → ItemPlace) (f : X → Row) (arena : List (X × Span) → ModuleValue) (places : List (Option ℕ) → ItemMap) : Type 0 where
  pub at : (xs : List (X × Span)) (k : ℕ) → world (arena xs) (C k) ≡ rows f xs k
  pub spans : (xs : List (X × Span)) (k : ℕ) → span_at (arena xs) (C k) ≡ spans xs k
  pub more : (xs zs : List (X × Span)) → Extends (arena xs) (arena (xs ++ zs))
  pub goes_at : (ns : List (Option ℕ)) (k : ℕ) → goes (places ns) (C k) ≡ option_map C (option_flatten (slice_get ns k))
  pub number : (k : ℕ) → place_number (C k) ≡ place_number (C 0)
  pub split : (p : ItemPlace) → ((k : ℕ) × (p ≡ C k)) ⊎ (((xs ys : List (X × Span)) → world (arena ys) p ≡ world (arena xs) p) × ((ns ms : List (Option ℕ)) → goes (places ms) p ≡ goes (places ns) p) × (place_number p ≡ place_number (C 0) → ⊥))

-- an item that is fetched in its arena is fetched in the module
fetched : {X : Type 0} (C : ℕ → ItemPlace) (f : X → Row) (arena : List (X × Span) → ModuleValue) (places : List (Option ℕ) → ItemMap) → IsArenaOf C f arena places → (xs ys : List (X × Span)) (s : Row) (h : ℕ) → IsKinded (arena xs) → kind_number s.label.kind ≡ place_number (C 0) → FetchesList f xs ys s h → Fetches (world (arena xs)) (world (arena ys)) s (C h)
fetched C f arena places a xs ys s h kinds kind l = record {
  at = a.at ys h ∙ l.at;
  stays = λ p r e. ⊎_elim (λ w. ap (world (arena ys)) w.1 ∙ a.at ys w.0 ∙ l.stays w.0 r (sym (a.at xs w.0) ∙ sym (ap (world (arena xs)) w.1) ∙ e)) (λ w. w.0 xs ys ∙ e) (a.split p);
  only = λ p r e. ⊎_elim (λ w. ⊎_elim (λ old. inl (ap (world (arena xs)) w.1 ∙ a.at xs w.0 ∙ old)) (λ new. inr (w.1 ∙ ap C new.0, λ y g. ⊎_elim (λ z. new.1 z.0 (sym (a.at xs z.0) ∙ sym (ap (world (arena xs)) z.1) ∙ g)) (λ z. z.2 (sym (kinds y s g) ∙ kind)) (a.split y))) (l.only w.0 r (sym (a.at ys w.0) ∙ sym (ap (world (arena ys)) w.1) ∙ e))) (λ w. inl (sym (w.0 xs ys) ∙ e)) (a.split p);
}

after_end : {X : Type 0} (xs : List X) → slice_get xs (length xs) ≡ None
after_end [] = refl
after_end (x ∷ xs) = after_end xs

added : {X : Type 0} (C : ℕ → ItemPlace) (f : X → Row) (arena : List (X × Span) → ModuleValue) (places : List (Option ℕ) → ItemMap) → IsArenaOf C f arena places → (xs ys : List (X × Span)) (x : X) (sp : Span) (h : ℕ) → IsNew xs ys (x, sp) h → AddsWith (arena xs) (arena ys) (C h) (Some sp)
added C f arena places a xs ys x sp h (inl e) = inl (ap arena e)
added C f arena places a xs ys x sp h (inr e) =
    inr (a.at xs h ∙ ap (rows f xs) e.0 ∙ ap (option_map (λ v. f v.0)) (after_end xs), a.spans ys h ∙ ap (λ v. spans v h) e.1 ∙ ap (spans (xs ++ (x, sp) ∷ [])) e.0 ∙ ap (option_map (λ v. v.1)) (slice_get-append_at xs (x, sp)))

extended : {X : Type 0} (C : ℕ → ItemPlace) (f : X → Row) (arena : List (X × Span) → ModuleValue) (places : List (Option ℕ) → ItemMap) → IsArenaOf C f arena places → (xs ys : List (X × Span)) (e : X × Span) (h : ℕ) → IsNew xs ys e h → Extends (arena xs) (arena ys)
extended C f arena places a xs ys x h (inl e) = subst (λ v. Extends (arena xs) (arena v)) (sym e) (Extends-refl (arena xs))
extended C f arena places a xs ys x h (inr e) = subst (λ v. Extends (arena xs) (arena v)) (sym e.1) (a.more xs (x ∷ []))

placed : {X : Type 0} (C : ℕ → ItemPlace) (f : X → Row) (arena : List (X × Span) → ModuleValue) (places : List (Option ℕ) → ItemMap) → IsArenaOf C f arena places → (ns : List (Option ℕ)) (k h : ℕ) → k < length ns → Puts (goes (places ns)) (goes (places (slice_set ns k (Some h)))) (C k) (C h)
placed C f arena places a ns k h l =
    let ms = slice_set ns k (Some h) in
    let read = λ (o : Option (Option ℕ)). option_map C (option_flatten o) in
    record {
      at = a.goes_at ms k ∙ ap read (slice_get-set_same ns k (Some h) l);
      others = λ p d. ⊎_elim (λ w. ap (goes (places ms)) w.1 ∙ a.goes_at ms w.0 ∙ ap read (slice_get-set_other ns k w.0 (Some h) (λ q. d (w.1 ∙ ap C q))) ∙ sym (a.goes_at ns w.0) ∙ sym (ap (goes (places ns)) w.1)) (λ w. w.1 ns ms) (a.split p);
    }

-- one item is put into its arena
put_one : {X : Type 0} (E : X → X → Bool) (C : ℕ → ItemPlace) (f : X → Row) (arena : List (X × Span) → ModuleValue) (places : List (Option ℕ) → ItemMap) → IsArenaOf C f arena places → ((a b : X) → Decides (E a b) (f a ≡ f b)) → (m : ModuleValue) (xs : List (X × Span)) (ns : List (Option ℕ)) (k : ℕ) (x : X) (sp : Span) (row : Row) → IsKinded (arena xs) → kind_number (f x).label.kind ≡ place_number (C 0) → IsCopyOf (goes (places ns)) row (f x) → k < length ns → AreRoomy m (places (slice_set ns k (Some (place_in E xs x)))) → PutsOne m (record { places = places ns; target = arena xs }) (record { places = places (slice_set ns k (Some (place_in E xs x))); target = arena (with_item_in E xs x sp) }) (C k) row (Some sp)
put_one E C f arena places a d m xs ns k x sp row kinds kind copies l roomy =
    let h = place_in E xs x in
    let ys = with_item_in E xs x sp in
    let w = fetches_list E f d xs ys x sp h refl refl in
    record {
      copy = f x;
      place = C h;
      kind = a.number h ∙ sym (a.number k);
      copies = copies;
      puts = placed C f arena places a ns k h l;
      fetches = fetched C f arena places a xs ys (f x) h kinds kind w.0;
      adds = added C f arena places a xs ys x sp h w.1;
      extends = extended C f arena places a xs ys (x, sp) h w.1;
      roomy = roomy;
    }

-- ---- a mapped item maps to what it is renamed to

under : (C : ℕ → ItemPlace) (o : Option ℕ) (k : ℕ) (q : ItemPlace) → option_map C o ≡ Some q → option_map C o ≡ Some (C (unwrap_or o k))
under C None k q e = cc
under C (Some h) k q e = refl

pub goes_renamed : (shift : ℕ) (m : ItemMap) (p q : ItemPlace) → goes m p ≡ Some q → goes m p ≡ Some (rename_place (renames_by shift m) p)
unfolding goes
goes_renamed d m (TypeItem k) q e = under TypeItem (option_flatten (slice_get m.types k)) k q e
goes_renamed d m (ConstantItem k) q e = under ConstantItem (option_flatten (slice_get m.constants k)) k q e
goes_renamed d m (OverrideItem k) q e = under OverrideItem (option_flatten (slice_get m.overrides k)) k q e
goes_renamed d m (GlobalItem k) q e = under GlobalItem (option_flatten (slice_get m.global_variables k)) k q e
goes_renamed d m (ExpressionItem k) q e = under ExpressionItem (option_flatten (slice_get m.global_expressions k)) k q e

name_goes : (shift : ℕ) (m : ItemMap) (o : Option ItemPlace) → WentSomewhere (goes m) o → NameGoesTo (goes m) o (option_map (rename_place (renames_by shift m)) o)
name_goes d m None w = tt
name_goes d m (Some p) w = goes_renamed d m p w.0 w.1

names_go : (shift : ℕ) (m : ItemMap) (ps : List (Option ItemPlace)) → All (WentSomewhere (goes m)) ps → AllZip (NameGoesTo (goes m)) ps (map (option_map (rename_place (renames_by shift m))) ps)
names_go d m [] a = tt
names_go d m (p ∷ ps) a = (name_goes d m p (All-head (WentSomewhere (goes m)) p ps a), names_go d m ps (All-tail (WentSomewhere (goes m)) p ps a))

-- a renamed row, under a name, is a copy of the row under that name
renamed : (shift : ℕ) (m : ItemMap) (name : Option Text) (r : Row) → All (WentSomewhere (goes m)) r.names → IsCopyOf (goes m) (under_name name r) (under_name name (rename_row (renames_by shift m) r))
renamed d m None r a = record { label = refl; names = names_go d m r.names a }
renamed d m (Some n) r a = record { label = refl; names = names_go d m r.names a }

-- ---- the arenas

type_split : (t : ModuleValue) (m : ItemMap) (p : ItemPlace) → ((k : ℕ) × (p ≡ TypeItem k)) ⊎ (((xs ys : List (Row × Span)) → world (record t { types = ys }) p ≡ world (record t { types = xs }) p) × ((ns ms : List (Option ℕ)) → goes (record m { types = ms }) p ≡ goes (record m { types = ns }) p) × (place_number p ≡ 0 → ⊥))
unfolding world goes
type_split t m (TypeItem k) = inl (k, refl)
type_split t m (ConstantItem k) = inr (λ xs ys. refl, λ ns ms. refl, λ e. omega (arith, e))
type_split t m (OverrideItem k) = inr (λ xs ys. refl, λ ns ms. refl, λ e. omega (arith, e))
type_split t m (GlobalItem k) = inr (λ xs ys. refl, λ ns ms. refl, λ e. omega (arith, e))
type_split t m (ExpressionItem k) = inr (λ xs ys. refl, λ ns ms. refl, λ e. omega (arith, e))

type_more : (t : ModuleValue) (xs zs : List (Row × Span)) → Extends (record t { types = xs }) (record t { types = xs ++ zs })
type_more t xs zs = record { types = (zs, refl); constants = Begins-refl _; overrides = Begins-refl _; global_variables = Begins-refl _; global_expressions = Begins-refl _; rest = refl }

type_arena : (t : ModuleValue) (m : ItemMap) → IsArenaOf TypeItem (λ (r : Row). r) (λ xs. record t { types = xs }) (λ ns. record m { types = ns })
unfolding world span_at goes
type_arena t m = record { at = λ xs k. refl; spans = λ xs k. refl; more = type_more t; goes_at = λ ns k. refl; number = λ k. refl; split = type_split t m }

constant_split : (t : ModuleValue) (m : ItemMap) (p : ItemPlace) → ((k : ℕ) × (p ≡ ConstantItem k)) ⊎ (((xs ys : List (Row × Span)) → world (record t { constants = ys }) p ≡ world (record t { constants = xs }) p) × ((ns ms : List (Option ℕ)) → goes (record m { constants = ms }) p ≡ goes (record m { constants = ns }) p) × (place_number p ≡ 1 → ⊥))
unfolding world goes
constant_split t m (TypeItem k) = inr (λ xs ys. refl, λ ns ms. refl, λ e. omega (arith, e))
constant_split t m (ConstantItem k) = inl (k, refl)
constant_split t m (OverrideItem k) = inr (λ xs ys. refl, λ ns ms. refl, λ e. omega (arith, e))
constant_split t m (GlobalItem k) = inr (λ xs ys. refl, λ ns ms. refl, λ e. omega (arith, e))
constant_split t m (ExpressionItem k) = inr (λ xs ys. refl, λ ns ms. refl, λ e. omega (arith, e))

constant_more : (t : ModuleValue) (xs zs : List (Row × Span)) → Extends (record t { constants = xs }) (record t { constants = xs ++ zs })
constant_more t xs zs = record { types = Begins-refl _; constants = (zs, refl); overrides = Begins-refl _; global_variables = Begins-refl _; global_expressions = Begins-refl _; rest = refl }

constant_arena : (t : ModuleValue) (m : ItemMap) → IsArenaOf ConstantItem (λ (r : Row). r) (λ xs. record t { constants = xs }) (λ ns. record m { constants = ns })
unfolding world span_at goes
constant_arena t m = record { at = λ xs k. refl; spans = λ xs k. refl; more = constant_more t; goes_at = λ ns k. refl; number = λ k. refl; split = constant_split t m }

override_split : (t : ModuleValue) (m : ItemMap) (p : ItemPlace) → ((k : ℕ) × (p ≡ OverrideItem k)) ⊎ (((xs ys : List (Row × Span)) → world (record t { overrides = ys }) p ≡ world (record t { overrides = xs }) p) × ((ns ms : List (Option ℕ)) → goes (record m { overrides = ms }) p ≡ goes (record m { overrides = ns }) p) × (place_number p ≡ 2 → ⊥))
unfolding world goes
override_split t m (TypeItem k) = inr (λ xs ys. refl, λ ns ms. refl, λ e. omega (arith, e))
override_split t m (ConstantItem k) = inr (λ xs ys. refl, λ ns ms. refl, λ e. omega (arith, e))
override_split t m (OverrideItem k) = inl (k, refl)
override_split t m (GlobalItem k) = inr (λ xs ys. refl, λ ns ms. refl, λ e. omega (arith, e))
override_split t m (ExpressionItem k) = inr (λ xs ys. refl, λ ns ms. refl, λ e. omega (arith, e))

override_more : (t : ModuleValue) (xs zs : List (Row × Span)) → Extends (record t { overrides = xs }) (record t { overrides = xs ++ zs })
override_more t xs zs = record { types = Begins-refl _; constants = Begins-refl _; overrides = (zs, refl); global_variables = Begins-refl _; global_expressions = Begins-refl _; rest = refl }

override_arena : (t : ModuleValue) (m : ItemMap) → IsArenaOf OverrideItem (λ (r : Row). r) (λ xs. record t { overrides = xs }) (λ ns. record m { overrides = ns })
unfolding world span_at goes
override_arena t m = record { at = λ xs k. refl; spans = λ xs k. refl; more = override_more t; goes_at = λ ns k. refl; number = λ k. refl; split = override_split t m }

global_split : (t : ModuleValue) (m : ItemMap) (p : ItemPlace) → ((k : ℕ) × (p ≡ GlobalItem k)) ⊎ (((xs ys : List (Row × Span)) → world (record t { global_variables = ys }) p ≡ world (record t { global_variables = xs }) p) × ((ns ms : List (Option ℕ)) → goes (record m { global_variables = ms }) p ≡ goes (record m { global_variables = ns }) p) × (place_number p ≡ 3 → ⊥))
unfolding world goes
global_split t m (TypeItem k) = inr (λ xs ys. refl, λ ns ms. refl, λ e. omega (arith, e))
global_split t m (ConstantItem k) = inr (λ xs ys. refl, λ ns ms. refl, λ e. omega (arith, e))
global_split t m (OverrideItem k) = inr (λ xs ys. refl, λ ns ms. refl, λ e. omega (arith, e))
global_split t m (GlobalItem k) = inl (k, refl)
global_split t m (ExpressionItem k) = inr (λ xs ys. refl, λ ns ms. refl, λ e. omega (arith, e))

global_more : (t : ModuleValue) (xs zs : List (Row × Span)) → Extends (record t { global_variables = xs }) (record t { global_variables = xs ++ zs })
global_more t xs zs = record { types = Begins-refl _; constants = Begins-refl _; overrides = Begins-refl _; global_variables = (zs, refl); global_expressions = Begins-refl _; rest = refl }

global_arena : (t : ModuleValue) (m : ItemMap) → IsArenaOf GlobalItem (λ (r : Row). r) (λ xs. record t { global_variables = xs }) (λ ns. record m { global_variables = ns })
unfolding world span_at goes
global_arena t m = record { at = λ xs k. refl; spans = λ xs k. refl; more = global_more t; goes_at = λ ns k. refl; number = λ k. refl; split = global_split t m }

expression_split : (t : ModuleValue) (m : ItemMap) (p : ItemPlace) → ((k : ℕ) × (p ≡ ExpressionItem k)) ⊎ (((xs ys : List (Parts × Span)) → world (record t { global_expressions = ys }) p ≡ world (record t { global_expressions = xs }) p) × ((ns ms : List (Option ℕ)) → goes (record m { global_expressions = ms }) p ≡ goes (record m { global_expressions = ns }) p) × (place_number p ≡ 4 → ⊥))
unfolding world goes
expression_split t m (TypeItem k) = inr (λ xs ys. refl, λ ns ms. refl, λ e. omega (arith, e))
expression_split t m (ConstantItem k) = inr (λ xs ys. refl, λ ns ms. refl, λ e. omega (arith, e))
expression_split t m (OverrideItem k) = inr (λ xs ys. refl, λ ns ms. refl, λ e. omega (arith, e))
expression_split t m (GlobalItem k) = inr (λ xs ys. refl, λ ns ms. refl, λ e. omega (arith, e))
expression_split t m (ExpressionItem k) = inl (k, refl)

expression_more : (t : ModuleValue) (xs zs : List (Parts × Span)) → Extends (record t { global_expressions = xs }) (record t { global_expressions = xs ++ zs })
expression_more t xs zs = record { types = Begins-refl _; constants = Begins-refl _; overrides = Begins-refl _; global_variables = Begins-refl _; global_expressions = (zs, refl); rest = refl }

expression_arena : (t : ModuleValue) (m : ItemMap) → IsArenaOf ExpressionItem parts_row (λ xs. record t { global_expressions = xs }) (λ ns. record m { global_expressions = ns })
unfolding world span_at goes
expression_arena t m = record { at = λ xs k. refl; spans = λ xs k. refl; more = expression_more t; goes_at = λ ns k. refl; number = λ k. refl; split = expression_split t m }

-- ---- the parts of an expression are known from its row

somes : (xs ys : List ℕ) → map Some xs ≡ map Some ys → xs ≡ ys
somes [] [] e = refl
somes [] (y ∷ ys) e = cc
somes (x ∷ xs) [] e = cc
somes (x ∷ xs) (y ∷ ys) e =
    let h : x ≡ y = cc in
    let g : map Some xs ≡ map Some ys = cc in
    let t = somes xs ys g in
    cc

operand : (x y : Option ℕ) → option_map ExpressionItem x ≡ option_map ExpressionItem y → x ≡ y
operand None None e = refl
operand None (Some y) e = cc
operand (Some x) None e = cc
operand (Some x) (Some y) e = let h : x ≡ y = cc in ap Some h

operands : (xs ys : List (Option ℕ)) → map (option_map ExpressionItem) xs ≡ map (option_map ExpressionItem) ys → xs ≡ ys
operands [] [] e = refl
operands [] (y ∷ ys) e = cc
operands (x ∷ xs) [] e = cc
operands (x ∷ xs) (y ∷ ys) e =
    let h : option_map ExpressionItem x ≡ option_map ExpressionItem y = cc in
    let g : map (option_map ExpressionItem) xs ≡ map (option_map ExpressionItem) ys = cc in
    let k = operand x y h in
    let t = operands xs ys g in
    cc

names_one : (n m : Named) → named_rest n ≡ named_rest m → named_place n ≡ named_place m → n ≡ m
names_one Nothing Nothing e f = refl
names_one (TypeOf h) (TypeOf k) e f = cc
names_one (ConstantAt h) (ConstantAt k) e f = cc
names_one (OverrideAt h) (OverrideAt k) e f = cc
names_one (GlobalAt h) (GlobalAt k) e f = cc
names_one (LocalAt h) (LocalAt k) e f = cc
names_one (ArgumentAt h) (ArgumentAt k) e f = cc
names_one (FunctionAt h) (FunctionAt k) e f = cc
names_one _ _ e f = cc

kinds_of : (n m : ℕ) (r s : Named) → ExpressionKind n r ≡ ExpressionKind m s → (n ≡ m) × (r ≡ s)
kinds_of n m r s e = (cc, cc)

first_name : (a b : Option ItemPlace) (xs ys : List (Option ItemPlace)) → a ∷ xs ≡ b ∷ ys → (a ≡ b) × (xs ≡ ys)
first_name a b xs ys e = (cc, cc)

abbrev parts_with : ℕ → List ℕ → Named → List (Option ℕ) → Parts
parts_with k p n os = record { kind = k; plain = p; named = n; operands = os }

parts_known : (p q : Parts) → parts_row p ≡ parts_row q → p ≡ q
parts_known p q e =
    let k = kinds_of _ _ _ _ (ap (λ (r : Row). r.label.kind) e) in
    let n = first_name _ _ _ _ (ap (λ (r : Row). r.names) e) in
    let m = names_one p.named q.named k.1 n.0 in
    let o = operands p.operands q.operands n.1 in
    let l = somes p.plain q.plain (ap (λ (r : Row). r.label.plain) e) in
    ap (λ v. parts_with v p.plain p.named p.operands) k.0 ∙ ap (λ v. parts_with q.kind v p.named p.operands) l ∙ ap (λ v. parts_with q.kind q.plain v p.operands) m ∙ ap (λ v. parts_with q.kind q.plain q.named v) o

parts_decides : (a b : Parts) → Decides (parts_eq a b) (parts_row a ≡ parts_row b)
parts_decides a b = (λ h. ap parts_row ((parts_eq-decides a b).0 h), λ h. (parts_eq-decides a b).1 (parts_known a b h))

-- ---- the item of a source

-- what stands in an arena of the source
found : {X : Type 0} (f : X → Row) (xs : List (X × Span)) (k : ℕ) (o : Option (X × Span)) (r : Row) → slice_get xs k ≡ o → option_map (λ e. f e.0) o ≡ Some r → (e : X × Span) × (slice_get xs k ≡ Some e) × (f e.0 ≡ r) × (k < length xs)
found f xs k None r h e = cc
found f xs k (Some x) r h e = (x, h, (let q : f x.0 ≡ r = cc in q), slice_get_within xs k x h)

-- the state after the copy
put_found : {A : Type 0} (m : ModuleValue) (s : CopyState) (p : ItemPlace) (f : A → Row) (g : A → Span → CopyState) (shift : ℕ) (o : Option (A × Span)) (e : A × Span) (r : Row) → o ≡ Some e → f e.0 ≡ r → PutsOne m s (g e.0 e.1) p (f e.0) (Some (shifted shift e.1)) → PutsOne m s (of_item s g o) p r (option_map (shifted shift) (option_map (λ (v : A × Span). v.1) o))
put_found {A} m s p f g shift o e r at is one =
    subst (λ (v : Row). PutsOne m s (of_item s g o) p v (option_map (shifted shift) (option_map (λ (y : A × Span). y.1) o))) is (subst (λ (v : Option (A × Span)). PutsOne m s (of_item s g v) p (f e.0) (option_map (shifted shift) (option_map (λ (y : A × Span). y.1) v))) (sym at) one)

under_kind : (name : Option Text) (r : Row) → kind_number (under_name name r).label.kind ≡ kind_number r.label.kind
under_kind None r = refl
under_kind (Some n) r = refl

-- ---- each kind of item

went_there : (s : CopyState) (v r : Row) → v ≡ r → All (WentSomewhere (goes s.places)) r.names → All (WentSomewhere (goes s.places)) v.names
went_there s v r e a = subst (λ (x : Row). All (WentSomewhere (goes s.places)) x.names) (sym e) a

-- a type, under a name if one is given
pub put_named : (m : ModuleValue) (shift : ℕ) (s : CopyState) (k : ℕ) (r : Row) (name : Option Text) → IsReady m s (TypeItem k) r → PutsOne m s (put_type m shift name s k) (TypeItem k) (under_name name r) (spans_by m shift (TypeItem k))
unfolding put_type world span_at
put_named m shift s k r name ready =
    let x = found (λ (v : Row). v) m.types k (slice_get m.types k) r refl ready.at in
    let inside = x.3 in
    let room = ready.roomy in
    let long = room.types in
    let l : k < length s.places.types = omega (arith, inside, long) in
    let copy = under_name name (rename_row (renames_by shift s.places) x.0.0) in
    let roomy : AreRoomy m (record s.places { types = slice_set s.places.types k (Some (place_in row_eq s.target.types copy)) }) = record { types = length-set s.places.types k _ ∙ room.types; constants = room.constants; overrides = room.overrides; globals = room.globals; expressions = room.expressions } in
    let kind = under_kind name (rename_row (renames_by shift s.places) x.0.0) ∙ ap (λ (v : Row). kind_number v.label.kind) x.2 ∙ ready.source (TypeItem k) r ready.at in
    let one = put_one row_eq TypeItem (λ (v : Row). v) (λ xs. record s.target { types = xs }) (λ ns. record s.places { types = ns }) (type_arena s.target s.places) row_eq-decides m s.target.types s.places.types k copy (shifted shift x.0.1) (under_name name x.0.0) ready.target kind (renamed shift s.places name x.0.0 (went_there s x.0.0 r x.2 ready.names)) l roomy in
    put_found m s (TypeItem k) (under_name name) (λ v span. with_type s k (under_name name (rename_row (renames_by shift s.places) v)) (shifted shift span)) shift (slice_get m.types k) x.0 (under_name name r) x.1 (ap (under_name name) x.2) one

put_constant : (m : ModuleValue) (shift : ℕ) (s : CopyState) (k : ℕ) (r : Row) → IsReady m s (ConstantItem k) r → PutsOne m s (put m shift s (ConstantItem k)) (ConstantItem k) r (spans_by m shift (ConstantItem k))
unfolding put world span_at
put_constant m shift s k r ready =
    let x = found (λ (v : Row). v) m.constants k (slice_get m.constants k) r refl ready.at in
    let inside = x.3 in
    let room = ready.roomy in
    let long = room.constants in
    let l : k < length s.places.constants = omega (arith, inside, long) in
    let copy = rename_row (renames_by shift s.places) x.0.0 in
    let roomy : AreRoomy m (record s.places { constants = slice_set s.places.constants k (Some (place_in row_eq s.target.constants copy)) }) = record { types = room.types; constants = length-set s.places.constants k _ ∙ room.constants; overrides = room.overrides; globals = room.globals; expressions = room.expressions } in
    let kind = ap (λ (v : Row). kind_number v.label.kind) x.2 ∙ ready.source (ConstantItem k) r ready.at in
    let one = put_one row_eq ConstantItem (λ (v : Row). v) (λ xs. record s.target { constants = xs }) (λ ns. record s.places { constants = ns }) (constant_arena s.target s.places) row_eq-decides m s.target.constants s.places.constants k copy (shifted shift x.0.1) x.0.0 ready.target kind (renamed shift s.places None x.0.0 (went_there s x.0.0 r x.2 ready.names)) l roomy in
    put_found m s (ConstantItem k) (λ (v : Row). v) (λ v span. with_constant s k (rename_row (renames_by shift s.places) v) (shifted shift span)) shift (slice_get m.constants k) x.0 r x.1 x.2 one

put_override : (m : ModuleValue) (shift : ℕ) (s : CopyState) (k : ℕ) (r : Row) → IsReady m s (OverrideItem k) r → PutsOne m s (put m shift s (OverrideItem k)) (OverrideItem k) r (spans_by m shift (OverrideItem k))
unfolding put world span_at
put_override m shift s k r ready =
    let x = found (λ (v : Row). v) m.overrides k (slice_get m.overrides k) r refl ready.at in
    let inside = x.3 in
    let room = ready.roomy in
    let long = room.overrides in
    let l : k < length s.places.overrides = omega (arith, inside, long) in
    let copy = rename_row (renames_by shift s.places) x.0.0 in
    let roomy : AreRoomy m (record s.places { overrides = slice_set s.places.overrides k (Some (place_in row_eq s.target.overrides copy)) }) = record { types = room.types; constants = room.constants; overrides = length-set s.places.overrides k _ ∙ room.overrides; globals = room.globals; expressions = room.expressions } in
    let kind = ap (λ (v : Row). kind_number v.label.kind) x.2 ∙ ready.source (OverrideItem k) r ready.at in
    let one = put_one row_eq OverrideItem (λ (v : Row). v) (λ xs. record s.target { overrides = xs }) (λ ns. record s.places { overrides = ns }) (override_arena s.target s.places) row_eq-decides m s.target.overrides s.places.overrides k copy (shifted shift x.0.1) x.0.0 ready.target kind (renamed shift s.places None x.0.0 (went_there s x.0.0 r x.2 ready.names)) l roomy in
    put_found m s (OverrideItem k) (λ (v : Row). v) (λ v span. with_override s k (rename_row (renames_by shift s.places) v) (shifted shift span)) shift (slice_get m.overrides k) x.0 r x.1 x.2 one

put_global : (m : ModuleValue) (shift : ℕ) (s : CopyState) (k : ℕ) (r : Row) → IsReady m s (GlobalItem k) r → PutsOne m s (put m shift s (GlobalItem k)) (GlobalItem k) r (spans_by m shift (GlobalItem k))
unfolding put world span_at
put_global m shift s k r ready =
    let x = found (λ (v : Row). v) m.global_variables k (slice_get m.global_variables k) r refl ready.at in
    let inside = x.3 in
    let room = ready.roomy in
    let long = room.globals in
    let l : k < length s.places.global_variables = omega (arith, inside, long) in
    let copy = rename_row (renames_by shift s.places) x.0.0 in
    let roomy : AreRoomy m (record s.places { global_variables = slice_set s.places.global_variables k (Some (place_in row_eq s.target.global_variables copy)) }) = record { types = room.types; constants = room.constants; overrides = room.overrides; globals = length-set s.places.global_variables k _ ∙ room.globals; expressions = room.expressions } in
    let kind = ap (λ (v : Row). kind_number v.label.kind) x.2 ∙ ready.source (GlobalItem k) r ready.at in
    let one = put_one row_eq GlobalItem (λ (v : Row). v) (λ xs. record s.target { global_variables = xs }) (λ ns. record s.places { global_variables = ns }) (global_arena s.target s.places) row_eq-decides m s.target.global_variables s.places.global_variables k copy (shifted shift x.0.1) x.0.0 ready.target kind (renamed shift s.places None x.0.0 (went_there s x.0.0 r x.2 ready.names)) l roomy in
    put_found m s (GlobalItem k) (λ (v : Row). v) (λ v span. with_global s k (rename_row (renames_by shift s.places) v) (shifted shift span)) shift (slice_get m.global_variables k) x.0 r x.1 x.2 one

put_expression : (m : ModuleValue) (shift : ℕ) (s : CopyState) (k : ℕ) (r : Row) → IsReady m s (ExpressionItem k) r → PutsOne m s (put m shift s (ExpressionItem k)) (ExpressionItem k) r (spans_by m shift (ExpressionItem k))
unfolding put world span_at
put_expression m shift s k r ready =
    let x = found parts_row m.global_expressions k (slice_get m.global_expressions k) r refl ready.at in
    let inside = x.3 in
    let room = ready.roomy in
    let long = room.expressions in
    let l : k < length s.places.global_expressions = omega (arith, inside, long) in
    let by = renames_by shift s.places in
    let copy = rename by x.0.0 in
    let roomy : AreRoomy m (record s.places { global_expressions = slice_set s.places.global_expressions k (Some (place_in parts_eq s.target.global_expressions copy)) }) = record { types = room.types; constants = room.constants; overrides = room.overrides; globals = room.globals; expressions = length-set s.places.global_expressions k _ ∙ room.expressions } in
    let copies = subst (IsCopyOf (goes s.places) (parts_row x.0.0)) (sym (parts_row-rename by x.0.0 (λ h. refl))) (renamed shift s.places None (parts_row x.0.0) (went_there s (parts_row x.0.0) r x.2 ready.names)) in
    let one = put_one parts_eq ExpressionItem parts_row (λ xs. record s.target { global_expressions = xs }) (λ ns. record s.places { global_expressions = ns }) (expression_arena s.target s.places) parts_decides m s.target.global_expressions s.places.global_expressions k copy (shifted shift x.0.1) (parts_row x.0.0) ready.target refl copies l roomy in
    put_found m s (ExpressionItem k) parts_row (λ v span. with_expression s k (rename by v) (shifted shift span)) shift (slice_get m.global_expressions k) x.0 r x.1 x.2 one

type_put : (m : ModuleValue) (shift : ℕ) (s : CopyState) (k : ℕ) (r : Row) → IsReady m s (TypeItem k) r → PutsOne m s (put m shift s (TypeItem k)) (TypeItem k) r (spans_by m shift (TypeItem k))
unfolding put
type_put m shift s k r ready = put_named m shift s k r None ready

-- an item of any kind
pub put_item : (m : ModuleValue) (shift : ℕ) (s : CopyState) (p : ItemPlace) (r : Row) → IsReady m s p r → PutsOne m s (put m shift s p) p r (spans_by m shift p)
put_item m shift s (TypeItem k) r ready = type_put m shift s k r ready
put_item m shift s (ConstantItem k) r ready = put_constant m shift s k r ready
put_item m shift s (OverrideItem k) r ready = put_override m shift s k r ready
put_item m shift s (GlobalItem k) r ready = put_global m shift s k r ready
put_item m shift s (ExpressionItem k) r ready = put_expression m shift s k r ready
