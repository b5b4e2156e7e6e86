-- Functions that are sorted.
use Rattle.std.proofs.Common.{◌≡◌, ⊎_elim, ◌⊎◌, ℕ, zero, suc, ◌+◌, ◌==◌, if◌then◌else◌, List, [], ◌∷◌, ◌++◌, length, map, Option, Some, None, Ok, Err, Result, is_some, IsSome, IfSome, Bool, true, false, option_map, slice_get, All, inl, inr, refl, ap, sym, ◌∙◌, subst, append-nil, append_assoc, length-append, zero-le}
use Rattle.std.proofs.lemmas.Bool.{false≢true}
use Rattle.std.proofs.lemmas.List.Elements.{All-head, All-tail, All-weaker}
use Rattle.std.proofs.lemmas.Option.{none-some, same_Some, slice_get-map}
use Rattle.naga_oil_ir.specs.ModuleValue.{ModuleValue, FunctionValue, EntryValue, no_items}
use Rattle.naga_oil_ir.specs.Rows.{Row, Text}
use Rattle.naga_oil_ir.specs.RedirectFault.{RedirectFault}
use Rattle.naga_oil_ir.specs.declared.names.ItemPlace.{ItemPlace}
use Rattle.naga_oil_ir.specs.declared.names.ItemPlace.TheVariants.{TypeItem, ConstantItem, OverrideItem, GlobalItem, ExpressionItem}
use Rattle.naga_oil_ir.specs.declared.span.Span.{Span}
use Rattle.naga_oil_derive.specs.declared.special.SpecialKey.{SpecialKey}
use Rattle.naga_oil_derive.specs.declared.special.SpecialKey.TheVariants.{RayDesc, RayIntersection, RayVertexReturn, Predeclared}
use Rattle.naga_oil_walk.specs.declared.walk.Request.{Request}
use Rattle.naga_oil_derive.specs.AnsweredLaw.{HasCopies, HaveCopies, CanAnswer}
use Rattle.naga_oil_derive.specs.CopiedEntry.{entry_names, import_items, place_entry, EntriesState, entries_state, copy_entry, copy_entries, module_of, module_by, make_module}
use Rattle.naga_oil_derive.specs.CopiedLaw.{HasAt}
use Rattle.naga_oil_derive.specs.Derived.{Source, Derived, nothing, as_read, kept, HasItem, IsLaterSource, Sets}
use Rattle.naga_oil_derive.specs.DerivedFunctions.{Meanings, meant, MayAsk, MayCall, MayCopy, CanCopy, CanImport, KeepsFunctions, Answers, AllAnswered, ItemCopied, NameKnown, FunctionCopied, FunctionStands, ComesLast, going, requests_of}
use Rattle.naga_oil_derive.specs.DerivedLaw.{IsDerivation, IsSourceOf}
use Rattle.naga_oil_derive.specs.DerivedValue.{import_item, import_function, answer_requests, localize_function, set_source}
use Rattle.naga_oil_derive.specs.Tree.{World, Kept, tree, reading, kept_tree, row_tree}
use Rattle.naga_oil_derive.specs.World.{Begins, goes, world, shifted, named_world, name_at, kept_of, kept_in, or_option, special_at, special_entries}
use Rattle.naga_oil_rename.specs.Renames.{under_name}
use Rattle.naga_oil_derive.proofs.AnsweredLaws.{answer_law, function_law}
use Rattle.naga_oil_derive.proofs.DerivedLaws.{import_law, nothing_derived, placed_law}
use Rattle.naga_oil_derive.proofs.EntrySteps.{KnowsMore, ask_weaker, call_later, kept_functions}
use Rattle.naga_oil_derive.proofs.FunctionLaws.{copies}
use Rattle.naga_oil_derive.proofs.HavingLemmas.{world_given}
use Rattle.naga_oil_derive.proofs.SetLaws.{set_law}
use Rattle.naga_oil_redirect.specs.PutInOrder.{import_one, import_in_turn, in_turn, in_turn_if}
use Rattle.naga_oil_redirect.specs.Ordered.{ordered}
use Rattle.naga_oil_copy_laws.specs.ByTree.{CopiesByTree}
use Rattle.naga_oil_copy_laws.specs.Scope.{name_of_function, scope_of, scope_from}
use Rattle.naga_oil_copy_laws.specs.CopiedByTree.{AreTrueIn, IsAtHand, IsMade}
use Rattle.naga_oil_copy_laws.specs.Frame.{AreAlike}
use Rattle.naga_oil_copy_laws.specs.HeldCopies.{IsCopyableFunction, IsOneOf, HaveSource, HoldsCopies, AreAtHand}
use Rattle.naga_oil_copy_laws.specs.InTurn.{CanCopyWhole, CanCopyModule, CopiesInto, CopiesModule, InTurnLaw, InOrderLaw}
use Rattle.naga_oil_copy_laws.proofs.AtHand.{at_hand}
use Rattle.naga_oil_copy_laws.proofs.FrameLaws.{alike}
use Rattle.naga_oil_copy_laws.proofs.HeldLaws.{answers_hold, function_holds, items_hold, source_holds}
use Rattle.naga_oil_copy_laws.proofs.HeldLemmas.{FunctionsStay, comes_there, later_again, later_same, made_later, source_is}
use Rattle.naga_oil_copy_laws.proofs.TreeCopies.{made}

-- ---- a source reads the same while its functions are copied

pub reads_from : (s t : Source) (d e : Derived) → s ≡ t → world e.target ≡ world d.target → as_read t e.target ≡ as_read s d.target
reads_from s t d e p w = ap (λ (x : Source). as_read x e.target) (sym p) ∙ ap (λ v. named_world (world s.value) v (goes s.places)) w

pub world_last : (s : Source) (x : FunctionValue) (span : Span) (d e : Derived) (h : ℕ) → ComesLast s x span d e h → world e.target ≡ world d.target
world_last s x span d e h l = ap world l.target ∙ world_given d.target (d.target.functions ++ (l.copy, shifted s.offset span) ∷ [])

pub if_both : (a b : Option Source) (P : Source → Source → Type 0) (s t : Source) → a ≡ Some s → b ≡ Some t → IfSome a (λ x. IfSome b (λ y. P x y)) → P s t
if_both a b P s t e f i = comes_there b t (P s) f (comes_there a s (λ x. IfSome b (P x)) e i)

-- what a source reads as, if one is set
abbrev pub ReadsThen : Derived → World → Type 0
ReadsThen e w = (t : Source) → e.source ≡ Some t → as_read t e.target ≡ w

pub some_source : (o : Option Source) → IsSome o → (s : Source) × (o ≡ Some s)
some_source None h = absurd (false≢true h)
some_source (Some s) h = (s, refl)

-- where the copy of a function comes last
pub reads_last : (s : Source) (x : FunctionValue) (span : Span) (d e : Derived) (h : ℕ) (w : World) → d.source ≡ Some s → ComesLast s x span d e h → ReadsThen d w → ReadsThen e w
reads_last s x span d e h w at l r = λ t q. let same : s ≡ t = same_Some s t (sym at ∙ sym l.source ∙ q) in reads_from s t d e same (world_last s x span d e h l) ∙ r s at

pub reads_then : (v : ModuleValue) {d e : Derived} {rs : List Request} (w : World) → Answers v d rs e → IsSome d.source → ReadsThen d w → IsSome e.source × ReadsThen e w
reads_then v w AllAnswered i r = (i, r)
reads_then v {d} w (ItemCopied {e = e} q i r k a) o h =
    let s = some_source d.source o in
    let t = source_is d.source e.source s.0 s.1 k.source in
    reads_then v w a (ap is_some t.1) (λ x at. ap (λ (y : Source). as_read y e.target) (same_Some x t.0 (sym at ∙ t.1)) ∙ if_both d.source e.source (λ x y. as_read y e.target ≡ as_read x d.target) s.0 t.0 s.1 t.1 r ∙ h s.0 s.1)
reads_then v w (NameKnown m a) o h = reads_then v w a o h
reads_then v {d} w (FunctionCopied {e = e} {f = f} {x = x} k n m a c z) o h =
    let r = reads_then v w a o h in
    let s = some_source e.source r.0 in
    let l : ComesLast s.0 x.0 x.1 e f k = comes_there e.source s.0 (λ y. ComesLast y x.0 x.1 e f k) s.1 c in
    reads_then v w z (ap is_some (l.source ∙ s.1)) (reads_last s.0 x.0 x.1 e f k w s.1 l r.1)

-- ---- a module that is copied into nothing

abbrev pub nowhere : Kept
nowhere = λ p. None

pub no_key : (k : SpecialKey) → special_at no_items.special_types k ≡ None
no_key RayDesc = refl
no_key RayIntersection = refl
no_key RayVertexReturn = refl
no_key (Predeclared c) = refl

pub none_in : (f : SpecialKey → Option ℕ) → ((k : SpecialKey) → f k ≡ None) → (es : List (SpecialKey × ℕ)) (k : ℕ) → kept_in f es k ≡ None
none_in f h [] k = refl
none_in f h (e ∷ es) k =
    ap (λ o. or_option o (if e.1 == k then f e.0 else None)) (none_in f h es k) ∙ ap (λ o. if e.1 == k then o else None) (h e.0) ∙ either (e.1 == k)
  where
    either : (b : Bool) → (let o : Option ℕ = if b then None else None in o) ≡ None
    either true = refl
    either false = refl

pub none_kept : (m : ModuleValue) (p : ItemPlace) → kept_of m.special_types no_items.special_types p ≡ None
unfolding kept_of
none_kept m (TypeItem k) = ap (option_map TypeItem) (none_in (special_at no_items.special_types) no_key (special_entries m.special_types) k)
none_kept m (ConstantItem k) = refl
none_kept m (OverrideItem k) = refl
none_kept m (GlobalItem k) = refl
none_kept m (ExpressionItem k) = refl

pub unnamed : (o : Option Row) → option_map (under_name None) o ≡ o
unnamed None = refl
unnamed (Some r) = refl

pub own_names : (w v : World) (m : Kept) (p : ItemPlace) → m p ≡ None → named_world w v m p ≡ w p
unfolding named_world
own_names w v m p e = ap (λ o. option_map (under_name (name_at v o)) (w p)) e ∙ unnamed (w p)

-- ---- how the copies stand while they come

pub record Turn (m : ModuleValue) (fs : List (FunctionValue × Span)) (d : Derived) : Type 0 where
  pub source : Source
  pub is : d.source ≡ Some source
  pub value : source.value ≡ m
  pub offset : source.offset ≡ 0
  pub derivation : IsDerivation (λ p. None) d
  pub holds : HoldsCopies fs 0 source d
  pub reads : as_read source d.target ≡ world m

-- the functions of a module, with their spans
abbrev pub functions_in : ModuleValue → List (FunctionValue × Span)
functions_in m = m.functions

pub no_meaning : (n : Text) (h : ℕ) → meant [] n ≡ Some h → ⊥
no_meaning None h e = none-some h e
no_meaning (Some n) h e = none-some h e

pub begins : (m : ModuleValue) → CanCopyModule m → Turn m (functions_in m) (set_source nothing m 0)
begins m can =
    let e = set_source nothing m 0 in
    let law = set_law nowhere nothing m 0 (nothing_derived nowhere) can.items can.special in
    let set : Sets m 0 nothing e _ = law.set.1 in
    let none : kept_of m.special_types no_items.special_types ≡ nowhere = λ i p. none_kept m p i in
    record {
      source = _;
      is = refl;
      value = set.value;
      offset = set.offset;
      derivation = subst (λ k. IsDerivation k e) none law.derivation;
      holds = source_holds (functions_in m) nowhere nothing m 0 (nothing_derived nowhere) can.items can.special (λ n h q. absurd (no_meaning n h q));
      reads = set.reads ∙ (λ i p. own_names (world m) (world no_items) (kept_of m.special_types no_items.special_types) p (none_kept m p) i);
    }

-- ---- what can be copied

pub more_names : (ns : Meanings) → KnowsMore [] ns
more_names ns None k = absurd (false≢true k)
more_names ns (Some n) k = absurd (false≢true k)

-- what can be copied where no name is known can be copied where some are
pub copy_any : (m : ModuleValue) (ns : Meanings) (f : FunctionValue) → MayCopy m (MayCall m [] (length m.functions)) f → MayCopy m (MayCall m ns (length m.functions)) f
copy_any m ns f c = record {
  form = c.form;
  requests = All-weaker (MayAsk m (MayCall m [] (length m.functions))) (MayAsk m (MayCall m ns (length m.functions))) (ask_weaker m (MayCall m [] (length m.functions)) (MayCall m ns (length m.functions)) (λ k h. call_later m [] ns (more_names ns) (length m.functions) k h)) (requests_of f) c.requests;
}

pub has_copies : (f : FunctionValue) → IsCopyableFunction f → HasCopies f
has_copies f c = λ r form. copies r f c.may

pub into : (o : Option Source) (s : Source) (P : Source → Type 0) → o ≡ Some s → P s → IfSome o P
into o s P e p = subst (λ x. IfSome x P) (sym e) p

-- a fact of a module is one of a source that has its value
pub of_value : (m v : ModuleValue) (P : ModuleValue → Type 0) → v ≡ m → P m → P v
of_value m v P e p = subst P (sym e) p

pub turn_copies : (m : ModuleValue) (fs : List (FunctionValue × Span)) (d : Derived) → CanCopyModule m → Turn m fs d → HaveCopies d
turn_copies m fs d can t = into d.source t.source (λ s. (k : ℕ) (x : FunctionValue × Span) → slice_get s.value.functions k ≡ Some x → HasCopies x.0) t.is (λ k x at. has_copies x.0 (can.functions k x (ap (λ (v : ModuleValue). slice_get v.functions k) (sym t.value) ∙ at)).0.copyable)

pub turn_can : (m : ModuleValue) (fs : List (FunctionValue × Span)) (d : Derived) (f : FunctionValue) → CanCopyWhole m f → Turn m fs d → CanCopy d f
turn_can m fs d f c t = (ap is_some t.is, into d.source t.source (λ s. MayCopy s.value (MayCall s.value d.function_names (length s.value.functions)) f) t.is (of_value m t.source.value (λ v. MayCopy v (MayCall v d.function_names (length v.functions)) f) t.value (copy_any m d.function_names f c.reaches)))

pub turn_source : (m : ModuleValue) (d : Derived) → CanCopyModule m → (t : Turn m (functions_in m) d) → HaveSource (functions_in m) t.source
turn_source m d can t = record {
  copyable = λ f w. (can.functions w.0 f w.1).0.copyable;
  functions = λ k x at. (k, ap (λ (v : ModuleValue). slice_get v.functions k) (sym t.value) ∙ at);
}

-- ---- steps

-- d becomes e, where all that was made stays
pub record Turns (m : ModuleValue) (d e : Derived) (s : Source) : Type 0 where
  pub turn : Turn m (functions_in m) e
  pub later : IsLaterSource s turn.source
  pub stay : FunctionsStay d.target e.target

pub begins_with : (xs ys : List (FunctionValue × Span)) → Begins xs ys → (k : ℕ) (x : FunctionValue × Span) → slice_get xs k ≡ Some x → slice_get ys k ≡ Some x
begins_with xs ys b k x at = ap (λ zs. slice_get zs k) b.1 ∙ within xs b.0 k x at
  where
    within : (xs zs : List (FunctionValue × Span)) (k : ℕ) (x : FunctionValue × Span) → slice_get xs k ≡ Some x → slice_get (xs ++ zs) k ≡ Some x
    within [] zs k x at = absurd (none-some x at)
    within (y ∷ xs) zs zero x at = at
    within (y ∷ xs) zs (suc k) x at = within xs zs k x at

pub turn_by : (m : ModuleValue) (d e : Derived) → (t : Turn m (functions_in m) d) → IsDerivation nowhere e → KeepsFunctions d e → IfSome e.source (λ s. HoldsCopies (functions_in m) 0 s e) → ReadsThen e (world m) → Turns m d e t.source
turn_by m d e t i k h r =
    let s = source_is d.source e.source t.source t.is k.source in
    record {
      turn = record {
        source = s.0;
        is = s.1;
        value = s.2.value ∙ t.value;
        offset = s.2.offset ∙ t.offset;
        derivation = i;
        holds = comes_there e.source s.0 (λ y. HoldsCopies (functions_in m) 0 y e) s.1 h;
        reads = r s.0 s.1;
      };
      later = s.2;
      stay = begins_with d.target.functions e.target.functions k.functions;
    }

pub turn_reads : (m : ModuleValue) (d : Derived) (t : Turn m (functions_in m) d) → ReadsThen d (world m)
turn_reads m d t = λ s at. ap (λ (x : Source). as_read x d.target) (same_Some s t.source (sym at ∙ t.is)) ∙ t.reads

pub turn_held : (m : ModuleValue) (d : Derived) (t : Turn m (functions_in m) d) → IfSome d.source (λ s. HoldsCopies (functions_in m) 0 s d)
turn_held m d t = into d.source t.source (λ s. HoldsCopies (functions_in m) 0 s d) t.is t.holds

pub turn_have : (m : ModuleValue) (d : Derived) → CanCopyModule m → (t : Turn m (functions_in m) d) → IfSome d.source (HaveSource (functions_in m))
turn_have m d can t = into d.source t.source (HaveSource (functions_in m)) t.is (turn_source m d can t)

-- a function of the module is imported
pub turn_function : (m : ModuleValue) (d : Derived) (k : ℕ) (x : FunctionValue × Span) → CanCopyModule m → (t : Turn m (functions_in m) d) → slice_get m.functions k ≡ Some x → Turns m d (import_function d x.0 x.1) t.source
turn_function m d k x can t at =
    let e = import_function d x.0 x.1 in
    let own = can.functions k x at in
    let c = turn_copies m (functions_in m) d can t in
    let w = has_copies x.0 own.0.copyable in
    let may : CanImport d x.0 = (turn_can m (functions_in m) d x.0 own.0 t, own.1) in
    let law = function_law nowhere d x.0 x.1 t.derivation c w may in
    let s = source_is d.source e.source t.source t.is law.keeps.source in
    let stands : FunctionStands d e x.0 x.1 law.place s.0 = comes_there e.source s.0 (FunctionStands d e x.0 x.1 law.place) s.1 law.imported in
    let r = reads_then s.0.value (world m) stands.answered (ap is_some t.is) (turn_reads m d t) in
    turn_by m d e t law.derivation law.keeps (function_holds (functions_in m) 0 nowhere d x.0 x.1 t.derivation c w may (turn_have m d can t) (k, at) (turn_held m d t)) (reads_last s.0 x.0 x.1 stands.between e law.place (world m) (sym stands.last.source ∙ s.1) stands.last r.1)

-- requests are answered
pub turn_answers : (m : ModuleValue) (d : Derived) (f : FunctionValue) → CanCopyModule m → CanCopyWhole m f → (t : Turn m (functions_in m) d) → Turns m d (answer_requests d (requests_of f)) t.source × AreAtHand (answer_requests d (requests_of f)) (requests_of f)
turn_answers m d f can own t =
    let rs = requests_of f in
    let e = answer_requests d rs in
    let c = turn_copies m (functions_in m) d can t in
    let may = turn_can m (functions_in m) d f own t in
    let asks : CanAnswer d rs = (may.0, into d.source t.source (λ s. All (MayAsk s.value (MayCall s.value d.function_names (length s.value.functions))) rs) t.is (comes_there d.source t.source (λ s. MayCopy s.value (MayCall s.value d.function_names (length s.value.functions)) f) t.is may.1).requests) in
    let law = answer_law nowhere d rs t.derivation c asks in
    let held = answers_hold (functions_in m) 0 nowhere d rs t.derivation c asks (turn_have m d can t) (turn_held m d t) in
    let a = comes_there d.source t.source (λ s. Answers s.value d rs e) t.is law.answered in
    let r = reads_then t.source.value (world m) a (ap is_some t.is) (turn_reads m d t) in
    (turn_by m d e t law.derivation law.keeps held.0 r.1, held.1)

-- an item is imported
pub turn_item : (m : ModuleValue) (d : Derived) (p : ItemPlace) → (t : Turn m (functions_in m) d) → HasAt m p → Turns m d (import_item d p) t.source
turn_item m d p t h =
    let e = import_item d p in
    let there : HasItem d p = (ap is_some t.is, into d.source t.source (λ s. HasAt s.value p) t.is (of_value m t.source.value (λ v. HasAt v p) t.value h)) in
    let law = import_law nowhere d p t.derivation there in
    let s = source_is d.source e.source t.source t.is law.keeps.source in
    turn_by m d e t law.derivation (kept_functions d e law.keeps) (items_hold (functions_in m) 0 d e law.keeps (turn_held m d t)) (λ x at. ap (λ (y : Source). as_read y e.target) (same_Some x s.0 (sym at ∙ s.1)) ∙ if_both d.source e.source (λ x y. as_read y e.target ≡ as_read x d.target) t.source s.0 t.is s.1 law.reads ∙ t.reads)

-- items are imported one after another
pub turn_items : (m : ModuleValue) (ps : List (Option ItemPlace)) (d : Derived) → (t : Turn m (functions_in m) d) → All (λ o. IfSome o (HasAt m)) ps → Turns m d (import_items d ps) t.source
turn_items m [] d t a = record { turn = t; later = later_same t.source; stay = λ k x at. at }
turn_items m (None ∷ ps) d t a = turn_items m ps d t (All-tail (λ o. IfSome o (HasAt m)) None ps a)
turn_items m (Some p ∷ ps) d t a =
    let one = turn_item m d p t (All-head (λ o. IfSome o (HasAt m)) (Some p) ps a) in
    let rest = turn_items m ps (import_item d p) one.turn (All-tail (λ o. IfSome o (HasAt m)) (Some p) ps a) in
    record { turn = rest.turn; later = later_again t.source one.turn.source rest.turn.source one.later rest.later; stay = λ k x at. rest.stay k x (one.stay k x at) }

-- functions are imported one after another
pub turn_one : (m : ModuleValue) (d : Derived) (k : ℕ) (o : Option (FunctionValue × Span)) → CanCopyModule m → Turn m (functions_in m) d → slice_get m.functions k ≡ o → Turn m (functions_in m) (import_one d o)
turn_one m d k None can t at = t
turn_one m d k (Some x) can t at = (turn_function m d k x can t at).turn

pub turn_all : (m : ModuleValue) (ks : List ℕ) (d : Derived) → CanCopyModule m → Turn m (functions_in m) d → Turn m (functions_in m) (import_in_turn m d ks)
turn_all m [] d can t = t
turn_all m (k ∷ ks) d can t = turn_all m ks (import_one d (slice_get m.functions k)) can (turn_one m d k (slice_get m.functions k) can t refl)

-- ---- what a source reads as

-- what no special type is kept of reads as it stands
pub plain_reading : (w v : World) (n : ℕ) (p : ItemPlace) → reading n w v nowhere p ≡ tree n w p
unfolding reading tree
plain_reading w v zero p = refl
plain_reading w v (suc n) p = let below : reading n w v nowhere ≡ tree n w = λ i q. plain_reading w v n q i in ap (λ f. row_tree f (w p)) below

pub kept_step : (w v : World) (m : Kept) → ((p q : ItemPlace) (n : ℕ) → m p ≡ Some q → tree n v q ≡ tree n w p) → (n : ℕ) (p : ItemPlace) → reading n w v m ≡ tree n w → (o : Option ItemPlace) → m p ≡ o → kept_tree (tree (suc n) v) (m p) (row_tree (reading n w v m) (w p)) ≡ tree (suc n) w p
unfolding tree
kept_step w v m f n p below None e = ap (λ o. kept_tree (tree (suc n) v) o (row_tree (reading n w v m) (w p))) e ∙ ap (λ g. row_tree g (w p)) below
kept_step w v m f n p below (Some q) e = ap (λ o. kept_tree (tree (suc n) v) o (row_tree (reading n w v m) (w p))) e ∙ f p q (suc n) e

-- nor what special types are kept of that read as they stand
pub kept_reading : (w v : World) (m : Kept) → ((p q : ItemPlace) (n : ℕ) → m p ≡ Some q → tree n v q ≡ tree n w p) → (n : ℕ) (p : ItemPlace) → reading n w v m p ≡ tree n w p
unfolding reading tree
kept_reading w v m f zero p = refl
kept_reading w v m f (suc n) p = kept_step w v m f n p (λ i q. kept_reading w v m f n q i) (m p) refl

pub stands_there : (a : Option Source) (s : Source) (t : ModuleValue) → a ≡ Some s → IfSome a (λ x. IsSourceOf nowhere x t) → (p q : ItemPlace) → kept s t p ≡ Some q → goes s.places p ≡ Some q
stands_there a s t e i p q k = (comes_there a s (λ x. IsSourceOf nowhere x t) e i).stand p q k

pub source_alike : (m : ModuleValue) (d : Derived) → (t : Turn m (functions_in m) d) → AreAlike (scope_from t.source d.target) (scope_of m)
source_alike m d t =
    let s = t.source in
    let w = as_read s d.target in
    let v = world d.target in
    let stays = λ (p q : ItemPlace) (n : ℕ) (e : kept s d.target p ≡ Some q). (let r = placed_law nowhere d s p q t.derivation t.is (stands_there d.source s d.target t.is t.derivation.source p q e) in let all : tree n v q ≡ tree n w p = r.at_first n ∙ plain_reading w v n p in all) in
    record {
      reads = λ p n. sym (kept_reading w v (kept s d.target) stays n p ∙ ap (λ (x : World). tree n x p) t.reads);
      names = λ k. ap (λ x. name_of_function x k) (sym t.value);
    }

-- what was made of a function of the module copies it
pub turn_made : (m : ModuleValue) (d : Derived) (n : ModuleValue) (f g : FunctionValue) → (t : Turn m (functions_in m) d) → AreAlike (scope_of d.target) (scope_of n) → IsCopyableFunction f → IsMade t.source d.target f g → CopiesInto m n f g
turn_made m d n f g t same can w =
    let c = made nowhere d t.source f g t.derivation t.is can.may w in
    record {
      copies = subst (λ o. CopiesByTree (shifted o) (λ x. x) (scope_of m) f (scope_of n) g) t.offset (alike (shifted t.source.offset) (λ x. x) (scope_from t.source d.target) (scope_of d.target) (scope_of m) (scope_of n) f g (source_alike m d t) same c.0);
      earlier = c.1;
    }

-- ---- entry points

-- the function of y was made of that of the entry point at i
pub record MadeEntry (m : ModuleValue) (s : Source) (t : ModuleValue) (vs : List EntryValue) (i : ℕ) (y : EntryValue) : Type 0 where
  pub entry : EntryValue
  pub at : slice_get vs i ≡ Some entry
  pub made_of : IsMade s t entry.function y.function

pub record Entries (m : ModuleValue) (vs : List EntryValue) (st : EntriesState) : Type 0 where
  pub turn : Turn m (functions_in m) st.derived
  pub each : (i : ℕ) (y : EntryValue) → slice_get st.entries i ≡ Some y → MadeEntry m turn.source st.derived.target vs i y
  pub long : length st.entries ≡ length vs

pub last_entry : (ys : List EntryValue) (y : EntryValue) (i : ℕ) (x : EntryValue) → slice_get (ys ++ y ∷ []) i ≡ Some x → (slice_get ys i ≡ Some x) ⊎ ((i ≡ length ys) × (y ≡ x))
last_entry [] y zero x e = inr (refl, same_Some y x e)
last_entry [] y (suc i) x e = absurd (none-some x e)
last_entry (z ∷ ys) y zero x e = inl e
last_entry (z ∷ ys) y (suc i) x e = ⊎_elim (λ q. inl q) (λ (q : (i ≡ length ys) × (y ≡ x)). inr (ap suc q.0, q.1)) (last_entry ys y i x e)

pub stays_entry : (ys : List EntryValue) (y : EntryValue) (i : ℕ) (x : EntryValue) → slice_get ys i ≡ Some x → slice_get (ys ++ y ∷ []) i ≡ Some x
stays_entry [] y i x e = absurd (none-some x e)
stays_entry (z ∷ ys) y zero x e = e
stays_entry (z ∷ ys) y (suc i) x e = stays_entry ys y i x e

pub at_end : (ys : List EntryValue) (y : EntryValue) → slice_get (ys ++ y ∷ []) (length ys) ≡ Some y
at_end [] y = refl
at_end (z ∷ ys) y = at_end ys y

pub localized_at : (s : Source) (o : Option Source) (ns : Meanings) (t : ModuleValue) (f : FunctionValue) → o ≡ Some s → AreTrueIn t ns → IsCopyableFunction f → All (IsAtHand s ns) (requests_of f) → IsMade s t f (localize_function o ns f)
localized_at s o ns t f e names can hand = subst (λ x. IsMade s t f (localize_function x ns f)) (sym e) (record {
  before = s;
  names = ns;
  later = later_same s;
  are_true = names;
  at_hand = at_hand s ns f can.may can.calls hand;
  copies = copies (going s ns) f can.may;
})

pub next_entry : (m : ModuleValue) (vs : List EntryValue) (st : EntriesState) (v : EntryValue) → CanCopyModule m → CanCopyWhole m v.function → All (λ o. IfSome o (HasAt m)) (entry_names v) → Entries m vs st → Entries m (vs ++ v ∷ []) (copy_entry st v)
next_entry m vs st v can own names en =
    let d = st.derived in
    let e = answer_requests d (requests_of v.function) in
    let a = turn_answers m d v.function can own en.turn in
    let t = a.0.turn in
    let b = turn_items m (entry_names v) e t names in
    let f = import_items e (entry_names v) in
    let u = b.turn in
    let g = localize_function e.source e.function_names v.function in
    let y = place_entry f.source g v in
    let own_copy = localized_at t.source e.source e.function_names e.target v.function t.is t.holds.are_true own.copyable (comes_there e.source t.source (λ s. All (IsAtHand s e.function_names) (requests_of v.function)) t.is a.1) in
    let later = later_again en.turn.source t.source u.source a.0.later b.later in
    let stay = λ (k : ℕ) (x : FunctionValue × Span) (at : slice_get d.target.functions k ≡ Some x). b.stay k x (a.0.stay k x at) in
    let new : MadeEntry m u.source f.target (vs ++ v ∷ []) (length st.entries) y = record {
      entry = v;
      at = ap (slice_get (vs ++ v ∷ [])) en.long ∙ at_end vs v;
      made_of = made_later t.source u.source e.target f.target v.function g b.later b.stay own_copy;
    } in
    record {
      turn = u;
      each = λ i x at. ⊎_elim
          (λ q. let w = en.each i x q in record { entry = w.entry; at = stays_entry vs v i w.entry w.at; made_of = made_later en.turn.source u.source d.target f.target w.entry.function x.function later stay w.made_of })
          (λ (q : (i ≡ length st.entries) × (y ≡ x)). subst (λ z. MadeEntry m u.source f.target (vs ++ v ∷ []) i z) q.1 (subst (λ j. MadeEntry m u.source f.target (vs ++ v ∷ []) j y) (sym q.0) new))
          (last_entry st.entries y i x at);
      long = length_push st.entries y ∙ ap (λ n. n + 1) en.long ∙ sym (length_push vs v);
    }
  where
    length_push : (xs : List EntryValue) (x : EntryValue) → length (xs ++ x ∷ []) ≡ length xs + 1
    length_push xs x = length-append xs (x ∷ [])

-- each of the entry points can be copied
abbrev pub EntriesCan : ModuleValue → List EntryValue → Type 0
EntriesCan m vs = (i : ℕ) (v : EntryValue) → slice_get vs i ≡ Some v → CanCopyWhole m v.function × All (λ o. IfSome o (HasAt m)) (entry_names v)

pub all_entries : (m : ModuleValue) (ws vs : List EntryValue) (st : EntriesState) → CanCopyModule m → EntriesCan m ws → Entries m vs st → Entries m (vs ++ ws) (copy_entries st ws)
all_entries m [] vs st can ok en = subst (λ xs. Entries m xs st) (sym (append-nil vs)) en
all_entries m (w ∷ ws) vs st can ok en =
    let own = ok 0 w refl in
    let next = next_entry m vs st w can own.0 own.1 en in
    subst (λ xs. Entries m xs (copy_entries (copy_entry st w) ws)) (append_assoc vs (w ∷ []) ws) (all_entries m ws (vs ++ w ∷ []) (copy_entry st w) can (λ i v at. ok (suc i) v at) next)

-- ---- the whole

pub with_entries : (t : ModuleValue) (es : List EntryValue) (p : ItemPlace) → world (record t { entry_points = es }) p ≡ world t p
unfolding world
with_entries t es (TypeItem k) = refl
with_entries t es (ConstantItem k) = refl
with_entries t es (OverrideItem k) = refl
with_entries t es (GlobalItem k) = refl
with_entries t es (ExpressionItem k) = refl

pub entries_alike : (t : ModuleValue) (es : List EntryValue) → AreAlike (scope_of t) (scope_of (record t { entry_points = es }))
entries_alike t es =
    let worlds : world (record t { entry_points = es }) ≡ world t = λ i p. with_entries t es p i in
    record { reads = λ p n. ap (λ (w : World). tree n w p) worlds; names = λ k. refl }

pub whole : (m : ModuleValue) (st : EntriesState) → CanCopyModule m → Entries m m.entry_points st → CopiesModule m (module_of st)
whole m st can en =
    let t = en.turn in
    let n = module_of st in
    let same = entries_alike st.derived.target st.entries in
    record {
      functions = λ k g at.
          let w = t.holds.made k g zero-le at in
          let b = w.among in
          record { place = b.0; function = w.function; at = b.1; copies = turn_made m st.derived n w.function.0 g.0 t same (can.functions b.0 w.function b.1).0.copyable w.made };
      entry_points = λ i y at.
          let w = en.each i y at in
          record { entry = w.entry; at = w.at; copies = turn_made m st.derived n w.entry.function y.function t same (can.entry_points i w.entry w.at).0.copyable w.made_of };
    }

pub in_turn_law : InTurnLaw
unfolding in_turn
in_turn_law m places can =
    let d = import_in_turn m (set_source nothing m 0) places in
    let t = turn_all m places (set_source nothing m 0) can (begins m can) in
    let start : Entries m [] (entries_state d []) = record { turn = t; each = λ i y at. absurd (none-some y at); long = refl } in
    let st = copy_entries (entries_state d []) m.entry_points in
    let en = all_entries m m.entry_points [] (entries_state d []) can can.entry_points start in
    let is : make_module d ≡ module_of st = ap (module_by d) t.is ∙ ap (λ (v : ModuleValue). module_of (copy_entries (entries_state d []) v.entry_points)) t.value in
    subst (CopiesModule m) (sym is) (whole m st can en)

pub ok_is : (m n : ModuleValue) (r : Result (List ℕ) RedirectFault) → in_turn_if m r ≡ Ok n → (places : List ℕ) × (in_turn m places ≡ n)
ok_is m n (Ok places) e = (places, (let q : in_turn m places ≡ n = cc in q))
ok_is m n (Err f) e = absurd cc

pub in_order_law : InOrderLaw
in_order_law m n can e = let w = ok_is m n (ordered m.functions) e in subst (CopiesModule m) w.1 (in_turn_law m w.0 can)
