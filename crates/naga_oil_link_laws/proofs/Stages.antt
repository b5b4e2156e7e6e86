-- A source whose items and functions are copied after what stood before.
use Rattle.std.proofs.Common.{◌≡◌, ℕ, ◌≤◌, if◌then◌else◌, List, [], ◌∷◌, length, Option, Some, None, is_some, IsSome, IfSome, Bool, true, false, slice_get, All, refl, ap, sym, ◌∙◌, subst}
use Rattle.std.proofs.lemmas.List.Elements.{All-nil, All-cons, All-head, All-tail, All-weaker}
use Rattle.std.proofs.lemmas.Option.{same_Some}
use Rattle.naga_oil_ir.specs.ModuleValue.{ModuleValue, FunctionValue, SpecialValue}
use Rattle.naga_oil_ir.specs.declared.names.ItemPlace.{ItemPlace}
use Rattle.naga_oil_ir.specs.declared.span.Span.{Span}
use Rattle.naga_oil_walk.specs.declared.walk.Request.{Request}
use Rattle.naga_oil_walk.specs.declared.walk.Request.TheVariants.{Item, Call}
use Rattle.naga_oil_derive.specs.declared.special.SpecialKey.{SpecialKey}
use Rattle.naga_oil_derive.specs.AnsweredLaw.{HaveCopies, HasCopies, CanAnswer}
use Rattle.naga_oil_derive.specs.CopiedEntry.{import_items}
use Rattle.naga_oil_derive.specs.CopiedLaw.{HasAt}
use Rattle.naga_oil_derive.specs.Derived.{Source, Derived, as_read, HasItem, Imports, IsLaterSource, KeepsItems, Sets, with_special_types}
use Rattle.naga_oil_derive.specs.DerivedFunctions.{meant, MayAsk, MayCall, MayCopy, CanCopy, CanImport, KeepsFunctions, Answers, FunctionStands, requests_of, with_functions}
use Rattle.naga_oil_derive.specs.DerivedLaw.{IsDerivation}
use Rattle.naga_oil_derive.specs.DerivedValue.{import_item, import_function, import_function_if_new, answer_requests, set_source}
use Rattle.naga_oil_derive.specs.Tree.{World, Kept}
use Rattle.naga_oil_derive.specs.World.{goes, shifted, world, named_world, kept_of, special_at, special_entries}
use Rattle.naga_oil_derive.proofs.AnsweredLaws.{answer_law, function_law}
use Rattle.naga_oil_derive.proofs.DerivedLaws.{import_law, special_same}
use Rattle.naga_oil_derive.proofs.EntrySteps.{kept_functions}
use Rattle.naga_oil_derive.proofs.HavingLemmas.{world_given_at}
use Rattle.naga_oil_derive.proofs.SetLaws.{set_law, world_at}
use Rattle.naga_oil_derive.proofs.WorldLemmas.{Extends-stays}
use Rattle.naga_oil_copy_laws.specs.CopiedByTree.{AreTrueIn, IsMade}
use Rattle.naga_oil_copy_laws.specs.Frame.{HasMore}
use Rattle.naga_oil_copy_laws.specs.HeldCopies.{HaveSource, HoldsCopies, AreAtHand}
use Rattle.naga_oil_copy_laws.specs.InTurn.{CanCopyWhole, CanCopyModule}
use Rattle.naga_oil_copy_laws.specs.ItemsByTree.{HoldsItems, HoldsItemsOf, AsksThere, HaveItems}
use Rattle.naga_oil_copy_laws.proofs.EntryLaws.{IsWent, AreWent}
use Rattle.naga_oil_copy_laws.proofs.FrameLaws.{key_stays, keys}
use Rattle.naga_oil_copy_laws.proofs.HeldLaws.{answers_hold, function_holds, items_hold, source_holds}
use Rattle.naga_oil_copy_laws.proofs.HeldLemmas.{FunctionsStay, comes_there, later_again, later_same, source_is}
use Rattle.naga_oil_copy_laws.proofs.ItemLaws.{source_items, imported_items, answered_items, function_items}
use Rattle.naga_oil_copy_laws.proofs.TurnLaws.{ReadsThen, if_both, reads_last, reads_then, functions_in, begins_with, copy_any, has_copies, into, of_value}
use Rattle.naga_oil_link_laws.specs.ReadIn.{HasKeysOf}

-- ---- modules that grow

special_stays : (d e : Derived) → KeepsFunctions d e → e.target.special_types ≡ d.target.special_types
special_stays d e k = special_same d.target (with_functions e.target d.target) k.items

pub more_functions : (d e : Derived) → KeepsFunctions d e → HasMore d.target e.target
more_functions d e k =
    record {
      items = λ p r at. sym (world_given_at e.target d.target.functions p) ∙ Extends-stays d.target (with_functions e.target d.target) k.items p r at;
      functions = begins_with d.target.functions e.target.functions k.functions;
      special = λ key q at. ap (λ (v : SpecialValue). special_at v key) (special_stays d e k) ∙ at;
    }

more_items : (d e : Derived) → KeepsItems d e → HasMore d.target e.target
more_items d e k =
    let functions : e.target.functions ≡ d.target.functions = ap (λ (v : ModuleValue). v.functions) k.items.rest in
    record {
      items = λ p r at. sym (world_at e.target d.target.special_types p) ∙ Extends-stays d.target (with_special_types e.target d.target) k.items p r at;
      functions = λ n x at. ap (λ xs. slice_get xs n) functions ∙ at;
      special = k.special;
    }

pub more_again : (t u v : ModuleValue) → HasMore t u → HasMore u v → HasMore t v
more_again t u v a b = record {
  items = λ p r at. b.items p r (a.items p r at);
  functions = λ k x at. b.functions k x (a.functions k x at);
  special = λ k q at. b.special k q (a.special k q at);
}

pub more_same : (t : ModuleValue) → HasMore t t
more_same t = record { items = λ p r at. at; functions = λ k x at. at; special = λ k q at. at }

pub keys_stay : (m t u : ModuleValue) → HasMore t u → HasKeysOf m t → HasKeysOf m u
keys_stay m t u w a = All-weaker (λ (e : SpecialKey × ℕ). IsSome (special_at t.special_types e.0)) (λ (e : SpecialKey × ℕ). IsSome (special_at u.special_types e.0)) (λ e h. ap is_some (key_stays t u w e.0 h) ∙ h) (special_entries m.special_types) a

-- ---- stages

-- a source, how far its spans are moved, what stood before it was set, the special types that were kept then, and those that were
-- added since
pub record Setting : Type 0 where
  pub value : ModuleValue
  pub shift : ℕ
  pub before : ModuleValue
  pub first : Kept
  pub special : SpecialValue

-- the copies of the source so far
pub record Stage (x : Setting) (w : World) (d : Derived) : Type 0 where
  pub source : Source
  pub is : d.source ≡ Some source
  pub value : source.value ≡ x.value
  pub offset : source.offset ≡ x.shift
  pub derivation : IsDerivation x.first d
  pub holds : HoldsCopies (functions_in x.value) (length x.before.functions) source d
  pub items : HoldsItems x.before source d
  pub reads : as_read source d.target ≡ w
  pub more : HasMore x.before d.target
  pub keys : HasKeysOf x.value d.target
  pub special : d.target.special_types ≡ x.special

-- d becomes e, and all that was made stays
pub record Stages (x : Setting) (w : World) (d e : Derived) (s : Source) : Type 0 where
  pub stage : Stage x w e
  pub later : IsLaterSource s stage.source
  pub stay : FunctionsStay d.target e.target

-- a module is the source, after what d has
abbrev pub following : Derived → ModuleValue → ℕ → Setting
following d m shift = record {
  value = m;
  shift = shift;
  before = d.target;
  first = kept_of m.special_types d.target.special_types;
  special = (set_source d m shift).target.special_types;
}

-- the module also reads as the source
abbrev pub read_after : Derived → ModuleValue → World
read_after d m = named_world (world m) (world d.target) (kept_of m.special_types d.target.special_types)

pub stage_begins : (first : Kept) (d : Derived) (m : ModuleValue) (shift : ℕ) → CanCopyModule m → IsDerivation first d → AreTrueIn d.target d.function_names → Stage (following d m shift) (read_after d m) (set_source d m shift)
stage_begins first d m shift can i names =
    let e = set_source d m shift in
    let law = set_law first d m shift i can.items can.special in
    let set : Sets m shift d e _ = law.set.1 in
    record {
      source = _;
      is = refl;
      value = set.value;
      offset = set.offset;
      derivation = law.derivation;
      holds = source_holds (functions_in m) first d m shift i can.items can.special names;
      items = source_items first d m shift i can.items can.special;
      reads = set.reads;
      more = more_items d e law.keeps;
      keys = keys first d m shift i can.items can.special;
      special = refl;
    }

-- ---- what can be copied

asks_there : (m : ModuleValue) (P : ℕ → Type 0) (r : Request) → MayAsk m P r → AsksThere m r
asks_there m P (Item p) h = h
asks_there m P (Call k) h = tt

-- what a function requests is there
pub all_asked : (m : ModuleValue) (f : FunctionValue) → CanCopyWhole m f → All (AsksThere m) (requests_of f)
all_asked m f c =
    let P = MayCall m [] (length m.functions) in
    All-weaker (MayAsk m P) (AsksThere m) (asks_there m P) (requests_of f) c.reaches.requests

have_items : (m : ModuleValue) (s : Source) → s.value ≡ m → CanCopyModule m → HaveItems s
have_items m s e can k y at = subst (λ v. All (AsksThere v) (requests_of y.0)) (sym e) (all_asked m y.0 (can.functions k y (ap (λ (v : ModuleValue). slice_get v.functions k) (sym e) ∙ at)).0)

module _ (x : Setting) (can : CanCopyModule x.value) where
  abbrev m : ModuleValue
  m = x.value

  abbrev fs : List (FunctionValue × Span)
  fs = functions_in m

  abbrev base : ℕ
  base = length x.before.functions

  stage_copies : (w : World) (d : Derived) → Stage x w d → HaveCopies d
  stage_copies w d t = into d.source t.source (λ s. (k : ℕ) (y : FunctionValue × Span) → slice_get s.value.functions k ≡ Some y → HasCopies y.0) t.is (λ k y at. has_copies y.0 (can.functions k y (ap (λ (v : ModuleValue). slice_get v.functions k) (sym t.value) ∙ at)).0.copyable)

  stage_can : (w : World) (d : Derived) (f : FunctionValue) → CanCopyWhole m f → Stage x w d → CanCopy d f
  stage_can w d f c t = (ap is_some t.is, into d.source t.source (λ s. MayCopy s.value (MayCall s.value d.function_names (length s.value.functions)) f) t.is (of_value m t.source.value (λ v. MayCopy v (MayCall v d.function_names (length v.functions)) f) t.value (copy_any m d.function_names f c.reaches)))

  stage_source : (w : World) (d : Derived) (t : Stage x w d) → HaveSource fs t.source
  stage_source w d t = record {
    copyable = λ f z. (can.functions z.0 f z.1).0.copyable;
    functions = λ k y at. (k, ap (λ (v : ModuleValue). slice_get v.functions k) (sym t.value) ∙ at);
  }

  stage_have : (w : World) (d : Derived) (t : Stage x w d) → IfSome d.source (HaveSource fs)
  stage_have w d t = into d.source t.source (HaveSource fs) t.is (stage_source w d t)

  pub stage_held : (w : World) (d : Derived) (t : Stage x w d) → IfSome d.source (λ s. HoldsCopies fs base s d)
  stage_held w d t = into d.source t.source (λ s. HoldsCopies fs base s d) t.is t.holds

  pub stage_items : (w : World) (d : Derived) (t : Stage x w d) → HoldsItemsOf x.before d
  stage_items w d t = into d.source t.source (λ s. HoldsItems x.before s d) t.is t.items

  stage_asks : (w : World) (d : Derived) (f : FunctionValue) (t : Stage x w d) → CanCopyWhole m f → IfSome d.source (λ s. HaveItems s × All (AsksThere s.value) (requests_of f))
  stage_asks w d f t c = into d.source t.source (λ s. HaveItems s × All (AsksThere s.value) (requests_of f)) t.is (have_items m t.source t.value can, subst (λ v. All (AsksThere v) (requests_of f)) (sym t.value) (all_asked m f c))

  stage_reads : (w : World) (d : Derived) (t : Stage x w d) → ReadsThen d w
  stage_reads w d t = λ s at. ap (λ (y : Source). as_read y d.target) (same_Some s t.source (sym at ∙ t.is)) ∙ t.reads

  -- ---- steps

  pub stage_same : (w : World) (d : Derived) (t : Stage x w d) → Stages x w d d t.source
  stage_same w d t = record { stage = t; later = later_same t.source; stay = λ k y at. at }

  pub stage_then : (u v w : World) (d e f : Derived) (t : Stage x u d) (a : Stages x v d e t.source) → Stages x w e f a.stage.source → Stages x w d f t.source
  stage_then u v w d e f t a b = record { stage = b.stage; later = later_again t.source a.stage.source b.stage.source a.later b.later; stay = λ k y at. b.stay k y (a.stay k y at) }

  pub stage_by : (w v : World) (d e : Derived) (t : Stage x w d) → IsDerivation x.first e → KeepsFunctions d e → IfSome e.source (λ s. HoldsCopies fs base s e) → HoldsItemsOf x.before e → ReadsThen e v → Stages x v d e t.source
  stage_by w v d e t i k h a r =
      let s = source_is d.source e.source t.source t.is k.source in
      let more = more_functions d e k in
      record {
        stage = record {
          source = s.0;
          is = s.1;
          value = s.2.value ∙ t.value;
          offset = s.2.offset ∙ t.offset;
          derivation = i;
          holds = comes_there e.source s.0 (λ y. HoldsCopies fs base y e) s.1 h;
          items = comes_there e.source s.0 (λ y. HoldsItems x.before y e) s.1 a;
          reads = r s.0 s.1;
          more = more_again x.before d.target e.target t.more more;
          keys = keys_stay m d.target e.target more t.keys;
          special = special_stays d e k ∙ t.special;
        };
        later = s.2;
        stay = more.functions;
      }

  -- a function of the source is imported
  pub stage_function : (w : World) (d : Derived) (k : ℕ) (y : FunctionValue × Span) (t : Stage x w d) → slice_get m.functions k ≡ Some y → Stages x w d (import_function d y.0 y.1) t.source
  stage_function w d k y t at =
      let e = import_function d y.0 y.1 in
      let own = can.functions k y at in
      let c = stage_copies w d t in
      let z = has_copies y.0 own.0.copyable in
      let may : CanImport d y.0 = (stage_can w d y.0 own.0 t, own.1) in
      let law = function_law x.first d y.0 y.1 t.derivation c z may in
      let s = source_is d.source e.source t.source t.is law.keeps.source in
      let stands : FunctionStands d e y.0 y.1 law.place s.0 = comes_there e.source s.0 (FunctionStands d e y.0 y.1 law.place) s.1 law.imported in
      let r = reads_then s.0.value w stands.answered (ap is_some t.is) (stage_reads w d t) in
      stage_by w w d e t law.derivation law.keeps (function_holds fs base x.first d y.0 y.1 t.derivation c z may (stage_have w d t) (k, at) (stage_held w d t)) (function_items x.before x.first d y.0 y.1 t.derivation (stage_asks w d y.0 t own.0) (stage_items w d t)) (reads_last s.0 y.0 y.1 stands.between e law.place w (sym stands.last.source ∙ s.1) stands.last r.1)

  -- a function of the source is imported, unless its name is known
  pub stage_new : (w : World) (d : Derived) (k : ℕ) (y : FunctionValue × Span) (t : Stage x w d) → slice_get m.functions k ≡ Some y → Stages x w d (import_function_if_new d y.0 y.1) t.source
  stage_new w d k y t at = one (is_some (meant d.function_names y.0.name))
    where
      one : (b : Bool) → Stages x w d (if b then d else import_function d y.0 y.1) t.source
      one true = stage_same w d t
      one false = stage_function w d k y t at

  -- an item is imported
  pub stage_item : (w : World) (d : Derived) (p : ItemPlace) (t : Stage x w d) → HasAt m p → Stages x w d (import_item d p) t.source
  stage_item w d p t h =
      let e = import_item d p in
      let there : HasItem d p = (ap is_some t.is, into d.source t.source (λ s. HasAt s.value p) t.is (of_value m t.source.value (λ v. HasAt v p) t.value h)) in
      let law = import_law x.first d p t.derivation there in
      let s = source_is d.source e.source t.source t.is law.keeps.source in
      stage_by w w d e t law.derivation (kept_functions d e law.keeps) (items_hold fs base d e law.keeps (stage_held w d t)) (imported_items x.before x.first d p t.derivation there (stage_items w d t)) (λ y at. ap (λ (z : Source). as_read z e.target) (same_Some y s.0 (sym at ∙ s.1)) ∙ if_both d.source e.source (λ a b. as_read b e.target ≡ as_read a d.target) t.source s.0 t.is s.1 law.reads ∙ t.reads)

  -- an imported item is mapped
  item_went : (w : World) (d : Derived) (p : ItemPlace) (t : Stage x w d) (h : HasAt m p) → IsWent (stage_item w d p t h).stage.source p
  item_went w d p t h =
      let e = import_item d p in
      let there : HasItem d p = (ap is_some t.is, into d.source t.source (λ s. HasAt s.value p) t.is (of_value m t.source.value (λ v. HasAt v p) t.value h)) in
      let law = import_law x.first d p t.derivation there in
      let one = stage_item w d p t h in
      let q = law.imported.0 in
      let i : Imports t.source (as_read t.source d.target) d e p q = comes_there d.source t.source (λ s. Imports s (as_read s d.target) d e p q) t.is law.imported.1 in
      (q, comes_there e.source one.stage.source (λ s. goes s.places p ≡ Some q) one.stage.is i.goes)

  -- requests are fulfilled
  pub stage_answers : (w : World) (d : Derived) (f : FunctionValue) (t : Stage x w d) → CanCopyWhole m f → Stages x w d (answer_requests d (requests_of f)) t.source × AreAtHand (answer_requests d (requests_of f)) (requests_of f)
  stage_answers w d f t own =
      let rs = requests_of f in
      let e = answer_requests d rs in
      let c = stage_copies w d t in
      let may = stage_can w d f own t in
      let asks : CanAnswer d rs = (may.0, into d.source t.source (λ s. All (MayAsk s.value (MayCall s.value d.function_names (length s.value.functions))) rs) t.is (comes_there d.source t.source (λ s. MayCopy s.value (MayCall s.value d.function_names (length s.value.functions)) f) t.is may.1).requests) in
      let law = answer_law x.first d rs t.derivation c asks in
      let held = answers_hold fs base x.first d rs t.derivation c asks (stage_have w d t) (stage_held w d t) in
      let a = comes_there d.source t.source (λ s. Answers s.value d rs e) t.is law.answered in
      let r = reads_then t.source.value w a (ap is_some t.is) (stage_reads w d t) in
      (stage_by w w d e t law.derivation law.keeps held.0 (answered_items x.before x.first d rs t.derivation (stage_asks w d f t own) (stage_items w d t)) r.1, held.1)

  -- optional items are imported one after another
  pub stage_named : (w : World) (ps : List (Option ItemPlace)) (d : Derived) (t : Stage x w d) → All (λ o. IfSome o (HasAt m)) ps → Stages x w d (import_items d ps) t.source
  stage_named w [] d t a = stage_same w d t
  stage_named w (None ∷ ps) d t a = stage_named w ps d t (All-tail (λ o. IfSome o (HasAt m)) None ps a)
  stage_named w (Some p ∷ ps) d t a =
      let e = import_item d p in
      let one = stage_item w d p t (All-head (λ o. IfSome o (HasAt m)) (Some p) ps a) in
      stage_then w w w d e (import_items e ps) t one (stage_named w ps e one.stage (All-tail (λ o. IfSome o (HasAt m)) (Some p) ps a))

  -- they are mapped then
  pub named_went : (w : World) (ps : List (Option ItemPlace)) (d : Derived) (t : Stage x w d) (a : All (λ o. IfSome o (HasAt m)) ps) → AreWent (stage_named w ps d t a).stage.source ps
  unfolding stage_named stage_then stage_same
  named_went w [] d t a = All-nil (λ o. IfSome o (IsWent t.source))
  named_went w (None ∷ ps) d t a =
      let s = (stage_named w (None ∷ ps) d t a).stage.source in
      All-cons (λ o. IfSome o (IsWent s)) None ps tt (named_went w ps d t (All-tail (λ o. IfSome o (HasAt m)) None ps a))
  named_went w (Some p ∷ ps) d t a =
      let e = import_item d p in
      let h = All-head (λ o. IfSome o (HasAt m)) (Some p) ps a in
      let more = All-tail (λ o. IfSome o (HasAt m)) (Some p) ps a in
      let one = stage_item w d p t h in
      let rest = stage_named w ps e one.stage more in
      let q = item_went w d p t h in
      All-cons (λ o. IfSome o (IsWent rest.stage.source)) (Some p) ps (q.0, rest.later.went p q.0 q.1) (named_went w ps e one.stage more)

  -- ---- functions that were made

  -- g was made of a function of the source, and has its span, moved
  pub record MadeOfOne (s : Source) (t : ModuleValue) (g : FunctionValue × Span) : Type 0 where
    pub place : ℕ
    pub function : FunctionValue × Span
    pub at : slice_get m.functions place ≡ Some function
    pub made : IsMade s t function.0 g.0
    pub span : g.1 ≡ shifted s.offset function.1

  pub stage_made : (w : World) (d : Derived) (t : Stage x w d) (k : ℕ) (g : FunctionValue × Span) → base ≤ k → slice_get d.target.functions k ≡ Some g → MadeOfOne t.source d.target g
  stage_made w d t k g l at =
      let z = t.holds.made k g l at in
      record { place = z.among.0; function = z.function; at = z.among.1; made = z.made; span = z.span }
