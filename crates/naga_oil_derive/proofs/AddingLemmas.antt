-- What stays while items and functions are added.
use Rattle.std.proofs.Common.{ℕ, length, Option, IsSome, is_some, option_map, string_bytes, String, Global, refl, ap, sym, ◌∙◌, subst}
use Rattle.naga_oil_ir.specs.Rows.{Text}
use Rattle.naga_oil_ir.specs.ModuleValue.{ModuleValue}
use Rattle.naga_oil_ir.specs.declared.module.Module.{Module}
use Rattle.naga_oil_derive.specs.declared.maps.Maps.{Maps}
use Rattle.naga_oil_derive.specs.declared.import.Functions.{Functions}
use Rattle.naga_oil_derive.specs.Tree.{Kept}
use Rattle.naga_oil_derive.specs.World.{Begins, value_of}
use Rattle.naga_oil_derive.specs.Copying.{IsCopying, kept_between}
use Rattle.naga_oil_derive.specs.Callees.{known_as}
use Rattle.naga_oil_derive.specs.Copied.{CopyState, copy_state}
use Rattle.naga_oil_derive.specs.CopiedLaw.{IsKinded, IsMidway}
use Rattle.naga_oil_derive.specs.DerivedFunctions.{meant}
use Rattle.naga_oil_derive.specs.Answered.{ImportState, import_state, with_function}
use Rattle.naga_oil_derive.specs.Putting.{Putting, Adding, NothingAdded, ItemsAdded, FunctionAdded, CopyAdded}
use Rattle.naga_oil_derive.proofs.WorldLemmas.{Begins-refl, Begins-trans, Extends-refl, Extends-trans}
use Rattle.naga_oil_derive.proofs.KindLaws.{value_kinds}
use Rattle.naga_oil_derive.proofs.CopyLemmas.{kept_same}
use Rattle.naga_oil_derive.proofs.PuttingLemmas.{IsLater, putting_later, midway_of, copying_of, special_kept}
use Rattle.naga_oil_derive.proofs.FunctionValues.{known_same}
use Rattle.naga_oil_derive.proofs.MeaningLemmas.{meaning_more}

-- what came before stays, functions come after those that are there, and each known name stays known
pub record Added (m : ModuleValue) (kept : Kept) (s u : ImportState) : Type 0 where
  pub items : IsLater m kept s.copying u.copying
  pub functions : Begins s.functions u.functions
  pub names : (n : Text) → IsSome (meant s.names n) → IsSome (meant u.names n)

pub adding_adds : {m : ModuleValue} {shift : ℕ} {s u : ImportState} (kept : Kept) → IsKinded m → Adding m shift s u → IsMidway m kept s.copying → Added m kept s u
adding_adds {s = s} kept k NothingAdded i = record { items = record { midway = i; went = λ p q g. g; extends = Extends-refl s.copying.target }; functions = Begins-refl s.functions; names = λ n h. h }
adding_adds {m} {shift} {s} {u} kept k (ItemsAdded {c = c} p rest) i =
    let g = putting_later m shift kept s.copying c k i p in
    let a = adding_adds kept k rest g.midway in
    record { items = record { midway = a.items.midway; went = λ x y h. a.items.went x y (g.went x y h); extends = Extends-trans s.copying.target c.target u.copying.target g.extends a.items.extends }; functions = a.functions; names = a.names }
adding_adds {m} {shift} {s} {u} kept k (FunctionAdded v span rest) i =
    let a = adding_adds kept k rest i in
    record { items = a.items; functions = Begins-trans s.functions (with_function m shift s v span).functions u.functions (_, refl) a.functions; names = λ n h. a.names n (meaning_more s.names v.name (length s.functions) n h) }
adding_adds {m} {shift} {s} {u} kept k (CopyAdded v span rest) i =
    let a = adding_adds kept k rest i in
    record { items = a.items; functions = Begins-trans s.functions (with_function m shift s v span).functions u.functions (_, refl) a.functions; names = a.names }

pub Adding-append : {m : ModuleValue} {shift : ℕ} {s t u : ImportState} → Adding m shift s t → Adding m shift t u → Adding m shift s u
Adding-append NothingAdded b = b
Adding-append (ItemsAdded p a) b = ItemsAdded p (Adding-append a b)
Adding-append (FunctionAdded v span a) b = FunctionAdded v span (Adding-append a b)
Adding-append (CopyAdded v span a) b = CopyAdded v span (Adding-append a b)

pub items_added : {m : ModuleValue} {shift : ℕ} {s : ImportState} {c : CopyState} → Putting m shift s.copying c → Adding m shift s (record s { copying = c })
items_added p = ItemsAdded p NothingAdded

-- ---- functions of the code

pub copying_added : (source t u : Module) (m n : Maps) (f g : Functions) (shift : ℕ) → IsCopying source t m → Adding (value_of source) shift (import_state m t f) (import_state n u g) → IsCopying source u n
copying_added source t u m n f g shift i a =
    let b = adding_adds (kept_between source t) (value_kinds source) a (midway_of source t m i) in
    copying_of source u n (subst (λ (k : Kept). IsMidway (value_of source) k (copy_state n u)) (sym (kept_same source t u (special_kept t u b.items.extends))) b.items.midway)

-- each known name is known
abbrev pub KnowsNames : Functions → Functions → Type 0
KnowsNames f g = (o : Option (String Global)) → IsSome (known_as f.names o) → IsSome (known_as g.names o)

pub names_added : (source t u : Module) (m n : Maps) (f g : Functions) (shift : ℕ) → IsCopying source t m → Adding (value_of source) shift (import_state m t f) (import_state n u g) → KnowsNames f g
names_added source t u m n f g shift i a o h =
    let b = adding_adds (kept_between source t) (value_kinds source) a (midway_of source t m i) in
    ap is_some (known_same g.names o) ∙ b.names (option_map string_bytes o) (ap is_some (sym (known_same f.names o)) ∙ h)
