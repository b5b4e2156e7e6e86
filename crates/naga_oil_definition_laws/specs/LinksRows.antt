-- Worked rows: copies of what builds have, in linked modules; and copies of something else.
use Rattle.std.proofs.Common.{◌≡◌, ◌⊎◌, inl, inr, ℕ, zero, suc, ◌<◌, List, [], ◌∷◌, length, true, false, is_some, Option, Some, None, option_map, slice_get, refl, ap, sym, ◌∙◌, arith}
use Rattle.std.proofs.lemmas.List.Elements.{All-nil, All-head}
use Rattle.std.proofs.lemmas.Option.{none-some, same_Some}
use Rattle.std.specs.Option.{option_eq}
use Rattle.std.specs.Prelude.{codes, bytes_eq}
use Rattle.naga_oil_words.specs.Texts.{in_order}
use Rattle.naga_oil_ir.specs.ModuleValue.{ModuleValue, FunctionValue, EntryValue, no_items}
use Rattle.naga_oil_ir.specs.Rows.{Row, Text, Kind, TypeKind, ConstantKind, OverrideKind, GlobalKind, ExpressionKind, row}
use Rattle.naga_oil_ir.specs.Spans.{undefined, span_stride}
use Rattle.naga_oil_ir.specs.declared.names.ItemPlace.{ItemPlace}
use Rattle.naga_oil_ir.specs.declared.names.ItemPlace.TheVariants.{TypeItem, ConstantItem, OverrideItem, GlobalItem, ExpressionItem}
use Rattle.naga_oil_ir.specs.declared.span.Span.{Span}
use Rattle.naga_oil_rename.specs.Renames.{Renames}
use Rattle.naga_oil_derive.proofs.DeriveLemmas.{world_empty, nothing_some}
use Rattle.naga_oil_derive.specs.CopiedLaw.{HasAt}
use Rattle.naga_oil_derive.specs.Tree.{Tree, Cut, Absent, Missing, Item, tree, reading}
use Rattle.naga_oil_derive.specs.World.{kept_of, shifted, special_at, world}
use Rattle.naga_oil_derive.specs.declared.special.SpecialKey.{SpecialKey}
use Rattle.naga_oil_derive.specs.declared.special.SpecialKey.TheVariants.{RayDesc, RayIntersection, RayVertexReturn, Predeclared}
use Rattle.naga_oil_redirect.specs.PutInOrderRows.{empty}
use Rattle.naga_oil_copy_laws.specs.ByTree.{CopiesByTree}
use Rattle.naga_oil_copy_laws.specs.ByTreeLaw.{HasEarlierOperands}
use Rattle.naga_oil_copy_laws.specs.EntryByTree.{EntryAlike}
use Rattle.naga_oil_copy_laws.specs.Scope.{ReadAlike, Scope, scope_by, scope_of}
use Rattle.naga_oil_imports.specs.Uses.{Import}
use Rattle.naga_oil_link.specs.BuiltModule.{BuiltModule, Builds, nothing_built}
use Rattle.naga_oil_link.specs.OwnPlaces.{OwnPlaces, nothing_own}
use Rattle.naga_oil_link_laws.specs.Headers.{HasNamed}
use Rattle.naga_oil_link_laws.specs.HeldBuild.{CopiesEntryAt, CopiesOneOf, CopiesPlainly, DecoratesTypes, HasDecoratedName, IsReachedBefore, scope_reading}
use Rattle.naga_oil_link_laws.specs.KeptAlike.{kept_alike, scope_alike}
use Rattle.naga_oil_link_laws.specs.LinkedCopies.{ComesFromBuild, CopiesBuilds, CopiesEntryOf, CopiesFunctionOf, CopiesFunctionOfOne, CopiesOfBuild, IsBuildOf, IsOneOf, IsOneOrLast, ReadsAsItemOf}
use Rattle.naga_oil_link_laws.specs.OrderedCopies.{KeepsSpecialTypes}
use Rattle.naga_oil_link_laws.specs.ReadIn.{HasKeysOf, scope_in}
use Rattle.naga_oil_link_laws.specs.Requested.{AnyAsks, Asks, Chosen, HasPassing}
use Rattle.naga_oil_link_laws.specs.SpecialComes.{AreSameTypes, IsTypeFrom, SpecialComes, Copied, Shared}
use Rattle.naga_oil_link_laws.specs.ThroughBuilds.{CopiesHeld, CopiesHeldEntry, CopiesHeldFunction, ReadsAsHeld}
use Rattle.naga_oil_faithful_laws.specs.SmallMake.{number, specials, span, entry}
use Rattle.naga_oil_definition_laws.specs.BodiesRows.{each_of_one}
use Rattle.naga_oil_definition_laws.specs.DerivedRows.{vector}

-- ---- modules

-- functions without bodies
abbrev f : FunctionValue
f = empty (codes "f")

abbrev g : FunctionValue
g = empty (codes "g")

g_is_not_f : g.name ≡ f.name → ⊥
g_is_not_f e = let o : false ≡ true = ap (λ n. option_eq bytes_eq n f.name) e in absurd cc

-- a module with a type, f, and an entry point
abbrev holding : Row × Span → ModuleValue
holding ty = record no_items { types = ty ∷ []; functions = (f, undefined) ∷ []; entry_points = entry (empty (codes "main")) ∷ [] }

abbrev m : ModuleValue
m = holding number

-- its build, whose header declares f, with an index
abbrev build : ℕ → BuiltModule
build index = record (nothing_built [] index) { functions = codes "f" ∷ []; value = m; header = record no_items { functions = (f, undefined) ∷ [] } }

abbrev builds : Builds
builds = (codes "m", build 1) ∷ []

-- ---- a function without a body copies itself, in any scopes and with any moves of spans

abbrev moving : (Span → Span) → Renames
moving moves = record {
  ty = λ k. k;
  constant = λ k. k;
  pipeline_override = λ k. k;
  global = λ k. k;
  function = λ k. k;
  expression = λ k. k;
  range = λ r. r;
  span = moves;
}

empty_copies : (moves : Span → Span) (sends : Text → Text) (a b : Scope) (name : List ℕ) → CopiesByTree moves sends a (empty name) b (empty name)
empty_copies moves sends a b name = record {
  goes = moving moves;
  name = refl;
  arguments = refl;
  outcome = refl;
  locals = refl;
  body = refl;
  spans = λ s. refl;
  expressions = record { copies = λ k w. absurd cc; spans = λ k w. absurd cc; onto = λ h w. absurd cc; shared = λ j k v w e. absurd cc };
  emits = λ i p e. absurd (none-some _ e);
  names = record { order = refl; each = λ h n w i. absurd cc };
  alike = record { types = λ k e. absurd cc; expressions = λ k e w at. absurd (none-some e at); callees = λ i t at. absurd (none-some t at) };
  nothing_else = record { expressions = λ h l. absurd (omega (arith, l)); names = λ i e at. absurd (none-some e at); leaf = refl };
}

empty_earlier : (name : List ℕ) → HasEarlierOperands (empty name)
empty_earlier name k = All-nil (λ x. x < k)

entry_alike : (a b : Scope) → EntryAlike (λ s. s) a b (entry (empty (codes "main"))) (entry (empty (codes "main")))
entry_alike a b = record { name = refl; stage = refl; early_depth_test = refl; workgroup_size = refl; sizes = tt; mesh_info = tt; task_payload = tt }

-- the entry point in another stage
abbrev fragment : EntryValue
fragment = record (entry (empty (codes "main"))) { stage = 1 }

only_entry : (i : ℕ) (e : EntryValue) → slice_get m.entry_points i ≡ Some e → 2 ≡ e.stage
only_entry zero e at = ap (λ (x : EntryValue). x.stage) (same_Some (entry (empty (codes "main"))) e at)
only_entry (suc i) e at = absurd (none-some e at)

only_f : (k : ℕ) (x : FunctionValue × Span) → slice_get m.functions k ≡ Some x → (f, undefined) ≡ x
only_f zero x at = same_Some (f, undefined) x at
only_f (suc k) x at = absurd (none-some x at)

-- ---- copies of a build's functions

f_copies_build : CopiesOfBuild (build 1) m f f
f_copies_build = record { copies = empty_copies (shifted span_stride) (λ n. n) (scope_in m m) (scope_of m) (codes "f"); earlier = empty_earlier (codes "f") }

g_doesnt_copy_build : CopiesOfBuild (build 1) m f g → ⊥
g_doesnt_copy_build h = g_is_not_f h.copies.name

f_copies_function : CopiesFunctionOf (build 1) m (f, undefined)
f_copies_function = record { keys = All-nil _; place = 0; function = (f, undefined); at = refl; copies = f_copies_build; span = refl }

another_span_is_refused : CopiesFunctionOf (build 1) m (f, span 1 2) → ⊥
another_span_is_refused h =
    let there = ap (λ (x : FunctionValue × Span). shifted span_stride x.1) (only_f h.place h.function h.at) in
    let e : 1 ≡ 0 = ap (λ (s : Span). s.start) (h.span ∙ sym there) in
    absurd (omega (arith, e))

entry_copies : CopiesEntryOf (build 1) m 0 (entry (empty (codes "main")))
entry_copies = record {
  entry = _;
  at = refl;
  copies = record { copies = empty_copies (shifted span_stride) (λ n. n) (scope_in m m) (scope_of m) (codes "main"); earlier = empty_earlier (codes "main") };
  whole = entry_alike (scope_in m m) (scope_of m);
}

another_stage_is_refused : CopiesEntryOf (build 1) m 0 fragment → ⊥
another_stage_is_refused h = let e : 1 ≡ 2 = h.whole.stage ∙ sym (only_entry 0 h.entry h.at) in absurd (omega (arith, e))

is_one : IsOneOf builds (build 1)
is_one = (0, (codes "m", build 1), refl, refl)

another_build_is_refused : IsOneOf builds (build 2) → ⊥
another_build_is_refused (zero, e, at, same) =
    let there = ap (λ (x : List ℕ × BuiltModule). x.1.index) (same_Some (codes "m", build 1) e at) in
    let i : ◌≡◌ {A = ℕ} 1 2 = there ∙ ap (λ (b : BuiltModule). b.index) same in
    absurd (omega (arith, i))
another_build_is_refused (suc i, e, at, same) = none-some e at

is_last : IsOneOrLast builds (build 0) (build 0)
is_last = inr refl

neither_one_nor_last : IsOneOrLast builds (build 0) (build 2) → ⊥
neither_one_nor_last (inl h) = another_build_is_refused h
neither_one_nor_last (inr e) = let i : ◌≡◌ {A = ℕ} 2 0 = ap (λ (b : BuiltModule). b.index) e in absurd (omega (arith, i))

lost_entry_point_is_refused : CopiesBuilds (IsOneOf builds) (λ b among. no_items) (build 1) no_items → ⊥
lost_entry_point_is_refused h = let e : 0 ≡ 1 = h.as_many in absurd (omega (arith, e))

f_copies_one : CopiesFunctionOfOne (IsOneOf builds) (λ b among. no_items) m (f, undefined)
f_copies_one = record { build = build 1; among = is_one; copies = f_copies_function; undeclared = undeclared }
  where
    undeclared : HasNamed no_items f.name → ⊥
    undeclared h = none-some h.1 h.2

-- f is declared in the header of each
declared_function_is_refused : CopiesFunctionOfOne (IsOneOf builds) (λ b among. m) m (f, undefined) → ⊥
declared_function_is_refused h = h.undeclared (0, (f, undefined), refl, refl)

-- ---- items that read as a build's

number_reads : ReadsAsItemOf (build 1) m (TypeItem 0)
unfolding tree reading world kept_of
number_reads = (TypeItem 0, (number.0, refl), reads)
  where
    reads : ReadAlike (scope_in m m) (scope_of m) (TypeItem 0) (TypeItem 0)
    reads zero = refl
    reads (suc n) = refl

abbrev text_length : Text → ℕ
text_length None = 0
text_length (Some n) = length n

-- the length of the name of an item
abbrev name_length : Option Row → ℕ
name_length None = 0
name_length (Some r) = text_length r.label.name

-- the kind of an item that is read
abbrev number_of : Kind → ℕ
number_of (TypeKind n) = n
number_of ConstantKind = 99
number_of OverrideKind = 99
number_of GlobalKind = 99
number_of (ExpressionKind n named) = 99

abbrev kind_of : Tree → ℕ
kind_of Cut = 99
kind_of Absent = 99
kind_of Missing = 99
kind_of (Item l more) = number_of l.kind

no_vector : (p : ItemPlace) → HasAt m p → ReadAlike (scope_in m (holding vector)) (scope_of (holding vector)) p (TypeItem 0) → ⊥
unfolding tree reading world kept_of
no_vector (TypeItem zero) h r = let e : 1 ≡ 0 = ap kind_of (r 1) in absurd (omega (arith, e))
no_vector (TypeItem (suc k)) h r = none-some h.0 h.1
no_vector (ConstantItem k) h r = none-some h.0 h.1
no_vector (OverrideItem k) h r = none-some h.0 h.1
no_vector (GlobalItem k) h r = none-some h.0 h.1
no_vector (ExpressionItem k) h r = none-some h.0 h.1

vector_is_refused : ReadsAsItemOf (build 1) (holding vector) (TypeItem 0) → ⊥
vector_is_refused h = no_vector h.0 h.1 h.2

-- ---- special types of builds

-- the module with the number as a special type
abbrev special : ModuleValue
special = record m { special_types = specials (Some 0) None }

abbrev special_build : BuiltModule
special_build = record (build 1) { value = special }

abbrev Among : BuiltModule → Type 0
Among b = b ≡ special_build

abbrev HasKey : ModuleValue → SpecialKey × ℕ → Type 0
HasKey t e = is_some (special_at t.special_types e.0) ≡ true

has_key : HasKeysOf special special
has_key = each_of_one (HasKey special) (RayDesc, 0) refl

missing_key_is_refused : HasKeysOf special m → ⊥
missing_key_is_refused h = let e : false ≡ true = All-head (HasKey m) (RayDesc, 0) [] h in absurd cc

is_build : IsBuildOf Among special (world special) special
is_build = record { build = special_build; among = refl; value = refl; reads = refl; keys = has_key }

build_of_no_items_is_refused : IsBuildOf Among special (world special) no_items → ⊥
build_of_no_items_is_refused h =
    let types = ap (λ (b : BuiltModule). length b.value.types) (sym h.among) in
    let e : ◌≡◌ {A = ℕ} 1 0 = types ∙ ap (λ (v : ModuleValue). length v.types) h.value in
    absurd (omega (arith, e))

number_is_from : IsTypeFrom (world special) (scope_by special (world special) special) special 0 0
unfolding tree world
number_is_from = record { there = (number.0, refl); reads = λ n. refl }

missing_copy_is_refused : IsTypeFrom (world special) (scope_by special (world special) special) special 0 1 → ⊥
unfolding world
missing_copy_is_refused h = none-some h.there.0 h.there.1

number_comes : ComesFromBuild Among special RayDesc 0
number_comes = Copied (world special) special 0 is_build refl number_is_from

number_comes_as_special : SpecialComes (IsBuildOf Among special) (scope_by special) special RayDesc 0
number_comes_as_special = number_comes

missing_type_is_refused : (key : SpecialKey) → ComesFromBuild Among special key 1 → ⊥
unfolding world
missing_type_is_refused key (Copied w v k of at from) = none-some from.there.0 from.there.1
missing_type_is_refused key (Shared {other = other} w v j k of at also same is rest) = missing_type_is_refused other rest

missing_special_type_is_refused : SpecialComes (IsBuildOf Among special) (scope_by special) special RayDesc 1 → ⊥
missing_special_type_is_refused h = missing_type_is_refused RayDesc h

special_type_is_kept : KeepsSpecialTypes special special
special_type_is_kept = record { places = λ k. k; keys = keys; alike = λ key k e n. refl }
  where
    keys : (key : SpecialKey) → special_at special.special_types key ≡ option_map (λ k. k) (special_at special.special_types key)
    keys RayDesc = refl
    keys RayIntersection = refl
    keys RayVertexReturn = refl
    keys (Predeclared c) = refl

lost_special_type_is_refused : KeepsSpecialTypes special m → ⊥
lost_special_type_is_refused h = absurd (none-some (h.places 0) (h.keys RayDesc))

abbrev twice : ModuleValue
twice = record no_items { types = number ∷ number ∷ vector ∷ [] }

numbers_are_same : AreSameTypes (world twice) 0 1
unfolding tree world
numbers_are_same zero = refl
numbers_are_same (suc n) = refl

vector_isnt_same : AreSameTypes (world twice) 0 2 → ⊥
unfolding tree world
vector_isnt_same h = let e : 0 ≡ 1 = ap kind_of (h 1) in absurd (omega (arith, e))

-- ---- copies of what a build holds

f_is_plain : CopiesPlainly (world m) m m f f
f_is_plain = record { copies = empty_copies (shifted 0) (λ n. n) (scope_reading (world m) m) (scope_of m) (codes "f"); earlier = empty_earlier (codes "f") }

g_isnt_plain : CopiesPlainly (world m) m m f g → ⊥
g_isnt_plain h = g_is_not_f h.copies.name

f_is_one : CopiesOneOf (world m) m m (f, undefined)
f_is_one = record { place = 0; function = (f, undefined); at = refl; copies = f_is_plain; span = refl }

g_isnt_one : CopiesOneOf (world m) m m (g, undefined) → ⊥
g_isnt_one h = g_is_not_f (h.copies.copies.name ∙ sym (ap (λ (x : FunctionValue × Span). x.0.name) (only_f h.place h.function h.at)))

entry_is_at : CopiesEntryAt (world m) m m 0 (entry (empty (codes "main")))
entry_is_at = record {
  entry = _;
  at = refl;
  copies = record { copies = empty_copies (shifted 0) (λ n. n) (scope_reading (world m) m) (scope_of m) (codes "main"); earlier = empty_earlier (codes "main") };
  whole = entry_alike (scope_reading (world m) m) (scope_of m);
}

entry_of_another_stage_is_refused : CopiesEntryAt (world m) m m 0 fragment → ⊥
entry_of_another_stage_is_refused h = let e : 1 ≡ 2 = h.whole.stage ∙ sym (only_entry 0 h.entry h.at) in absurd (omega (arith, e))

-- a struct of its own, as it stands and under its decorated name
abbrev named : List ℕ → ModuleValue
named name = record no_items { types = (row (TypeKind 10) (Some name) (Some 4 ∷ []) [] [], undefined) ∷ [] }

abbrev own : OwnPlaces
own = record nothing_own { types = 0 ∷ [] }

has_decorated_name : HasDecoratedName (named (codes "S")) own (codes "X") (world (named (codes "SX"))) (TypeItem 0)
unfolding world
has_decorated_name = record { own_item = refl; ty = refl; row = refl }

plain_name_is_refused : HasDecoratedName (named (codes "S")) own (codes "X") (world (named (codes "S"))) (TypeItem 0) → ⊥
unfolding world
plain_name_is_refused h = let e : ◌≡◌ {A = ℕ} 1 2 = ap name_length h.row in absurd (omega (arith, e))

not_reached_before : IsReachedBefore (named (codes "S")) 0 0 → ⊥
not_reached_before (j, inl l, reaches) = absurd (omega (arith, l))
not_reached_before (j, inr e, reaches) = absurd cc

undecorated_type_is_refused : DecoratesTypes (named (codes "S")) own (codes "X") (world (named (codes "S"))) → ⊥
undecorated_type_is_refused h = either (h.all 0 (omega arith) refl)
  where
    either : HasDecoratedName (named (codes "S")) own (codes "X") (world (named (codes "S"))) (TypeItem 0) ⊎ IsReachedBefore (named (codes "S")) 0 0 → ⊥
    either (inl d) = plain_name_is_refused d
    either (inr r) = not_reached_before r

-- no type is the build's own
none_decorated : DecoratesTypes m nothing_own [] (world m)
none_decorated = record { each = λ p. inl refl; all = λ k l own. absurd cc }

f_is_held : CopiesHeld (build 1) m nothing_own m f f
f_is_held = record {
  reads = world m;
  decorated = none_decorated;
  copies = empty_copies (shifted span_stride) (λ n. n) (scope_alike (world m) m m) (scope_of m) (codes "f");
  source_earlier = empty_earlier (codes "f");
  earlier = empty_earlier (codes "f");
}

g_isnt_held : CopiesHeld (build 1) m nothing_own m f g → ⊥
g_isnt_held h = g_is_not_f h.copies.name

f_copies_held : CopiesHeldFunction (build 1) m nothing_own m (f, undefined)
f_copies_held = record { keys = All-nil _; place = 0; function = (f, undefined); at = refl; copies = f_is_held; span = refl }

g_copies_none_held : CopiesHeldFunction (build 1) m nothing_own m (g, undefined) → ⊥
g_copies_none_held h = g_is_not_f (h.copies.copies.name ∙ sym (ap (λ (x : FunctionValue × Span). x.0.name) (only_f h.place h.function h.at)))

entry_copies_held : CopiesHeldEntry (build 1) m nothing_own m 0 (entry (empty (codes "main")))
entry_copies_held = record { entry = _; at = refl; copies = main_is_held; whole = entry_alike (scope_alike (world m) m m) (scope_of m) }
  where
    main_is_held : CopiesHeld (build 1) m nothing_own m (empty (codes "main")) (empty (codes "main"))
    main_is_held = record {
      reads = world m;
      decorated = none_decorated;
      copies = empty_copies (shifted span_stride) (λ n. n) (scope_alike (world m) m m) (scope_of m) (codes "main");
      source_earlier = empty_earlier (codes "main");
      earlier = empty_earlier (codes "main");
    }

held_entry_of_another_stage_is_refused : CopiesHeldEntry (build 1) m nothing_own m 0 fragment → ⊥
held_entry_of_another_stage_is_refused h = let e : 1 ≡ 2 = h.whole.stage ∙ sym (only_entry 0 h.entry h.at) in absurd (omega (arith, e))

number_reads_as_held : ReadsAsHeld (build 1) m nothing_own m (TypeItem 0)
unfolding tree reading world kept_alike
number_reads_as_held = record { reads = world m; decorated = none_decorated; place = TypeItem 0; stands = (number.0, refl); alike = alike }
  where
    alike : ReadAlike (scope_alike (world m) m m) (scope_of m) (TypeItem 0) (TypeItem 0)
    alike zero = refl
    alike (suc n) = refl

nothing_there : (p : ItemPlace) → HasAt no_items p → ⊥
nothing_there p h = nothing_some (world no_items p) h.0 (world_empty p) h.1

-- the number is none of a module without items
item_of_none_is_refused : ReadsAsHeld (build 1) no_items nothing_own m (TypeItem 0) → ⊥
item_of_none_is_refused h = nothing_there h.place h.stands

-- ---- what imports request

f_passes : HasPassing (λ x. true) ((f, undefined) ∷ []) f.name
f_passes = (0, (f, undefined), refl, refl, refl)

none_passes : HasPassing (λ x. false) ((f, undefined) ∷ []) f.name → ⊥
none_passes h = let e : false ≡ true = h.3 in absurd cc

first_is_chosen : Chosen true (0 < 1) (1 < 0)
first_is_chosen = omega arith

second_is_refused : Chosen false (0 < 1) (1 < 0) → ⊥
second_is_refused l = absurd (omega (arith, l))

abbrev of : List ℕ → List (List ℕ) → Import
of name items = record { import = name; items = items }

f_is_requested : Asks builds (of (codes "m") (codes "f" ∷ [])) f.name
unfolding in_order
f_is_requested = inl (0, (f, undefined), refl, refl, refl)

request_of_no_build_is_refused : Asks builds (of (codes "n") (codes "f" ∷ [])) f.name → ⊥
request_of_no_build_is_refused h = h

second_import_asks : AnyAsks (Asks builds) (of (codes "n") (codes "f" ∷ []) ∷ of (codes "m") (codes "f" ∷ []) ∷ []) f.name
second_import_asks = inr (inl f_is_requested)

no_import_asks : AnyAsks (Asks builds) (of (codes "n") (codes "f" ∷ []) ∷ []) f.name → ⊥
no_import_asks (inl h) = request_of_no_build_is_refused h
no_import_asks (inr h) = h
