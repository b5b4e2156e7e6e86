-- A module stays of good form while functions and items of one source are imported one after another.
use Rattle.std.specs.Prelude.{◌≡◌, ◌⊎◌, ◌<◌, ℕ, Bool, List, [], ◌∷◌, fold, map, slice_get, Option, Some, None, All, IfSome, IsSome}
use Rattle.std.specs.List.{filter}
use Rattle.naga_oil_ir.specs.ModuleValue.{ModuleValue, FunctionValue}
use Rattle.naga_oil_ir.specs.Rows.{Text}
use Rattle.naga_oil_ir.specs.declared.names.ItemPlace.{ItemPlace}
use Rattle.naga_oil_ir.specs.declared.names.ItemPlace.TheVariants.{TypeItem}
use Rattle.naga_oil_ir.specs.declared.span.Span.{Span}
use Rattle.naga_oil_derive.specs.Tree.{Kept}
use Rattle.naga_oil_derive.specs.Derived.{Derived}
use Rattle.naga_oil_derive.specs.DerivedFunctions.{meant}
use Rattle.naga_oil_derive.specs.DerivedValue.{import_item, rename_type, import_function, import_function_if_new, set_source}
use Rattle.naga_oil_derive.specs.CopiedEntry.{make_module}
use Rattle.naga_oil_derive.specs.World.{kept_of}
use Rattle.naga_oil_derive.specs.CopiedLaw.{HasAt}
use Rattle.naga_oil_form_laws.specs.DerivedForm.{IsFormed, MayCome}
use Rattle.naga_oil_form_laws.specs.EntryForm.{IsModuleFormed}

-- m is the source
pub record HasSource (m : ModuleValue) (d : Derived) : Type 0 where
  pub set : IsSome d.source
  pub value : IfSome d.source (λ s. s.value ≡ m)

-- a module of good form whose source is m
pub record IsFormedOf (first : Kept) (m : ModuleValue) (d : Derived) : Type 0 where
  pub formed : IsFormed first d
  pub source : HasSource m d

-- a function of m before its place c has the name
abbrev pub IsNameBefore : ModuleValue → ℕ → Text → Type 0
IsNameBefore m c x =
    (j : ℕ) × (e : FunctionValue × Span) × (j < c) × (slice_get m.functions j ≡ Some e) ×
    (e.0.name ≡ x)

-- a module of good form whose source is m, which knows the same functions as d
pub record KeepsFormed (first : Kept) (m : ModuleValue) (d e : Derived) : Type 0 where
  pub formed : IsFormedOf first m e
  pub names : e.function_names ≡ d.function_names

-- LAW: a derived module of good form stays one, with the functions it knows, after a module of good form is set as its source
abbrev pub SourceFormLaw : Type 0
SourceFormLaw =
    (first : Kept) (d : Derived) (m : ModuleValue) (shift : ℕ) → IsFormed first d → IsModuleFormed m →
    KeepsFormed (kept_of m.special_types d.target.special_types) m d (set_source d m shift)

-- LAW: a derived module of good form stays one, with the functions it knows, after an item is imported
abbrev pub ItemLaw : Type 0
ItemLaw =
    (first : Kept) (m : ModuleValue) (d : Derived) (p : ItemPlace) → IsFormedOf first m d → HasAt m p →
    KeepsFormed first m d (import_item d p)

-- LAW: a derived module of good form stays one, with the functions it knows, after a type is imported under a name
abbrev pub TypeLaw : Type 0
TypeLaw =
    (first : Kept) (m : ModuleValue) (d : Derived) (k : ℕ) (name : Option Text) → IsFormedOf first m d →
    HasAt m (TypeItem k) → KeepsFormed first m d (rename_type d k name)

-- LAW: the module that it becomes, with copies of the entry points of m, is of good form
abbrev pub MadeFormLaw : Type 0
MadeFormLaw =
    (first : Kept) (m : ModuleValue) (d : Derived) → IsFormedOf first m d → IsModuleFormed m →
    IsModuleFormed (make_module d)

-- LAW: the module built so far is of good form
abbrev pub TargetFormLaw : Type 0
TargetFormLaw = (first : Kept) (d : Derived) → IsFormed first d → IsModuleFormed d.target

-- functions may be imported one after another, where the names of K are known: each calls only functions before a place, and its
-- name isn't known by then, neither as an imported function's nor as a callee's
abbrev pub MayComeInTurn : ModuleValue → (Text → Type 0) → List (FunctionValue × Span) → Type 0
MayComeInTurn m K [] = Unit {0}
MayComeInTurn m K (v ∷ vs) =
    (c : ℕ) × MayCome m c v.0 v.1 × (K v.0.name → ⊥) ×
    MayComeInTurn m (λ x. K x ⊎ (IsNameBefore m c x ⊎ (x ≡ v.0.name))) vs

abbrev pub no_name : Text → Type 0
no_name x = ⊥

-- the names that a derived module knows
abbrev pub IsKnownIn : Derived → Text → Type 0
IsKnownIn d x = (h : ℕ) × (meant d.function_names x ≡ Some h)

-- functions are imported one after another; functions are imported one after another if they are new
abbrev pub import_functions : Derived → List (FunctionValue × Span) → Derived
import_functions d vs = fold (λ e v. import_function e v.0 v.1) d vs

abbrev pub import_new_functions : Derived → List (FunctionValue × Span) → Derived
import_new_functions d vs = fold (λ e v. import_function_if_new e v.0 v.1) d vs

-- LAW: functions that may be imported one after another leave a module of good form
abbrev pub InTurnFormLaw : Type 0
InTurnFormLaw =
    (first : Kept) (m : ModuleValue) (d : Derived) (vs : List (FunctionValue × Span)) → IsFormedOf first m d →
    MayComeInTurn m (IsKnownIn d) vs → IsFormedOf first m (import_functions d vs)

-- LAW: all functions of a module may be imported one after another, where no name is known
abbrev pub AllInTurnLaw : Type 0
AllInTurnLaw = (m : ModuleValue) → IsModuleFormed m → MayComeInTurn m no_name m.functions

-- LAW: the functions of a module that pass a test may be imported one after another, where no name is known
abbrev pub PassingInTurnLaw : Type 0
PassingInTurnLaw =
    (m : ModuleValue) (test : FunctionValue × Span → Bool) → IsModuleFormed m →
    MayComeInTurn m no_name (filter test m.functions)

-- LAW: functions that may be imported where no name is known leave a module of good form
abbrev pub FromNothingLaw : Type 0
FromNothingLaw =
    (first : Kept) (m : ModuleValue) (d : Derived) (vs : List (FunctionValue × Span)) → IsFormedOf first m d →
    ((name : Text) → IsKnownIn d name → ⊥) → MayComeInTurn m no_name vs →
    IsFormedOf first m (import_functions d vs)

-- a function's name, arguments and result, with its span
abbrev pub stub : FunctionValue × Span → FunctionValue × Span
stub f = (
  record {
    name = f.0.name;
    arguments = f.0.arguments;
    result = f.0.result;
    local_variables = [];
    expressions = [];
    named_expressions = [];
    body = [];
    diagnostic_filter_leaf = None;
  },
  f.1,
)

-- LAW: stubs of the functions of a module that pass a test may be imported one after another
abbrev pub StubsInTurnLaw : Type 0
StubsInTurnLaw =
    (m : ModuleValue) (test : FunctionValue × Span → Bool) → IsModuleFormed m →
    MayComeInTurn m no_name (map stub (filter test m.functions))

-- LAW: functions that may be imported leave a module of good form if they are imported if new
abbrev pub NewInTurnLaw : Type 0
NewInTurnLaw =
    (first : Kept) (m : ModuleValue) (d : Derived) (vs : List (FunctionValue × Span)) → IsFormedOf first m d →
    All (λ v. (c : ℕ) × MayCome m c v.0 v.1) vs → IsFormedOf first m (import_new_functions d vs)

-- LAW: items that are imported one after another leave a module of good form
abbrev pub ItemsInTurnLaw : Type 0
ItemsInTurnLaw =
    (first : Kept) (m : ModuleValue) (d : Derived) (ps : List ItemPlace) → IsFormedOf first m d → All (HasAt m) ps →
    IsFormedOf first m (fold import_item d ps)

-- ---- builds

-- LAW: items of a module, then all its functions, then its entry points, where no name is known, make a module of good form
abbrev pub WholeLaw : Type 0
WholeLaw =
    (first : Kept) (m : ModuleValue) (d : Derived) → IsFormedOf first m d →
    ((name : Text) → IsKnownIn d name → ⊥) → IsModuleFormed m →
    IsModuleFormed (make_module (import_functions d m.functions))

-- LAW: items of a module, then stubs of the functions that pass a test, make a module of good form
abbrev pub HeaderLaw : Type 0
HeaderLaw =
    (first : Kept) (m : ModuleValue) (d : Derived) (test : FunctionValue × Span → Bool) → IsFormedOf first m d →
    ((name : Text) → IsKnownIn d name → ⊥) → IsModuleFormed m →
    IsModuleFormed (import_functions d (map stub (filter test m.functions))).target
