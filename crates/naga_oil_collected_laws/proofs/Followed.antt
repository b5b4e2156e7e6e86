-- A source whose items and functions are copied follows a trail.
use Rattle.std.proofs.Common.{◌≡◌, ℕ, zero, suc, Bool, true, false, if◌then◌else◌, List, [], ◌∷◌, ◌++◌, fold, map, length, Option, Some, None, is_some, IfSome, option_to_list, slice_get, All, refl, ap, sym, ◌∙◌, subst, append-nil, append_assoc}
use Rattle.std.specs.List.{AllZip, flat_map}
use Rattle.std.proofs.lemmas.List.Elements.{All-head, All-tail}
use Rattle.naga_oil_ir.specs.ModuleValue.{ModuleValue, FunctionValue, EntryValue}
use Rattle.naga_oil_ir.specs.Rows.{Text}
use Rattle.naga_oil_ir.specs.declared.names.ItemPlace.{ItemPlace}
use Rattle.naga_oil_ir.specs.declared.names.ItemPlace.TheVariants.{TypeItem}
use Rattle.naga_oil_walk.specs.declared.walk.Request.{Request}
use Rattle.naga_oil_walk.specs.declared.walk.Request.TheVariants.{Item, Call}
use Rattle.naga_oil_derive.specs.declared.special.SpecialKey.{SpecialKey}
use Rattle.naga_oil_derive.specs.Answered.{ImportState, Caller as Answering, answer_one, answer_by, answer_all, import_copy, import_copy_by, import_callee_by, import_callee}
use Rattle.naga_oil_derive.specs.Copied.{CopyState, copy_item, copy_named_type}
use Rattle.naga_oil_derive.specs.CopiedEntry.{EntriesState, import_items, entry_names, copy_entry, copy_entries}
use Rattle.naga_oil_derive.specs.CopiedLaw.{HasAt, IsCopyable, IsMidway}
use Rattle.naga_oil_derive.specs.Copying.{AreCopied, IsSound}
use Rattle.naga_oil_derive.specs.Derived.{Source, Derived}
use Rattle.naga_oil_derive.specs.DerivedFunctions.{meant, requests_of}
use Rattle.naga_oil_derive.specs.DerivedValue.{by_source, copying_of, after_copying, importing_of, after_importing, import_item, rename_type, import_function, answer_requests}
use Rattle.naga_oil_derive.specs.Tree.{World, Kept}
use Rattle.naga_oil_derive.specs.World.{ItemMap, goes, world, named_world}
use Rattle.naga_oil_derive.proofs.CopiedLaws.{copied_item}
use Rattle.naga_oil_derive.proofs.HavingLemmas.{given, world_given, world_given_at}
use Rattle.naga_oil_copy_laws.specs.ItemsByTree.{AsksThere}
use Rattle.naga_oil_link.specs.Linked.{link_function}
use Rattle.naga_oil_collected_laws.specs.FirstReach.{from, has_name}
use Rattle.naga_oil_collected_laws.specs.ItemOrder.{AreAllOf}
use Rattle.naga_oil_collected_laws.specs.Trail.{PlaceIn, Trail, Caller, is_special_for, reached_by, with_item, with_request, with_reached, with_new, with_found, with_call, with_function, with_entry}
use Rattle.naga_oil_collected_laws.proofs.Follows.{Function, named_one}
use Rattle.naga_oil_collected_laws.proofs.Imported.{source_with}
use Rattle.naga_oil_collected_laws.proofs.Traces.{Stay, GoTo, Traced, traced_none, traced_then, item_traced, named_midway, named_traced, zip_append, zip_more}

-- the places of a module
abbrev pub places_in : ModuleValue → List ItemPlace → List PlaceIn
places_in m ps = map (λ p. (m, p)) ps

pub places_both : (m : ModuleValue) (ps qs : List ItemPlace) → places_in m (ps ++ qs) ≡ places_in m ps ++ places_in m qs
places_both m [] qs = refl
places_both m (p ∷ ps) qs = ap (λ xs. (m, p) ∷ xs) (places_both m ps qs)

-- functions change no items
pub all_given : (u : ModuleValue) (fs : List Function) (xs : List ItemPlace) → AreAllOf u xs → AreAllOf (given u fs) xs
all_given u fs xs a = record { types = a.types; constants = a.constants; overrides = a.overrides; globals = a.globals; expressions = a.expressions }

pub midway_given : (m : ModuleValue) (kept : Kept) (places : ItemMap) (u : ModuleValue) (fs : List Function) → IsMidway m kept (record { places = places; target = u }) → IsMidway m kept (record { places = places; target = given u fs })
midway_given m kept places u fs i = record {
  kinds = λ p r e. i.kinds p r (sym (world_given_at u fs p) ∙ e);
  roomy = i.roomy;
  sound = subst IsSound (sym (world_given u fs)) i.sound;
  copied = subst (λ (v : World). AreCopied (named_world (world m) v (goes places)) v kept (goes places)) (sym (world_given u fs)) i.copied;
}

-- all items that the functions of a module name are there
abbrev pub AskThere : ModuleValue → Type 0
AskThere m = (k : ℕ) (e : Function) → slice_get m.functions k ≡ Some e → All (AsksThere m) (requests_of e.0)

-- m is a source that is copied, whose special types with these keys stand already
module _ (m : ModuleValue) (shift : ℕ) (kept : Kept) (keys : SpecialKey → Bool) (same : (p : ItemPlace) → is_special_for keys m p ≡ is_some (kept p)) (can : IsCopyable m) (asks : AskThere m) where
  -- ---- functions apart from items

  -- what holds of a trail and a state between requests
  pub record Ready (t : Trail) (i : ImportState) : Type 0 where
    pub known_keys : t.keys ≡ keys
    pub midway : IsMidway m kept i.copying
    pub names : (n : Text) → is_some (meant i.names n) ≡ has_name t.functions n

  -- a trail goes on as a state does
  pub record GoesOn (t v : Trail) (i j : ImportState) : Type 0 where
    pub ready : Ready v j
    pub reached : List ItemPlace
    pub items : v.items ≡ t.items ++ places_in m reached
    pub traced : Traced i.copying j.copying reached
    pub stay : Stay i.copying j.copying

  on_none : (t : Trail) (i : ImportState) → Ready t i → GoesOn t t i i
  on_none t i r = record { ready = r; reached = []; items = sym (append-nil t.items); traced = traced_none i.copying; stay = λ p q h. h }

  on_then : (t v w : Trail) (i j k : ImportState) → GoesOn t v i j → GoesOn v w j k → GoesOn t w i k
  on_then t v w i j k a b = record {
    ready = b.ready;
    reached = a.reached ++ b.reached;
    items = b.items ∙ ap (λ xs. xs ++ places_in m b.reached) a.items ∙ append_assoc t.items (places_in m a.reached) (places_in m b.reached) ∙ ap (λ xs. t.items ++ xs) (sym (places_both m a.reached b.reached));
    traced = traced_then i.copying j.copying k.copying a.reached b.reached a.traced b.stay b.traced;
    stay = λ p q h. b.stay p q (a.stay p q h);
  }

  on_item : (t : Trail) (i : ImportState) (p : ItemPlace) → HasAt m p → Ready t i → GoesOn t (with_item m t p) i (record i { copying = copy_item m shift i.copying p })
  on_item t i p h r =
      let g = copied_item m shift kept i.copying p can r.midway h in
      record {
        ready = record { known_keys = r.known_keys; midway = g.0.midway; names = r.names };
        reached = reached_by keys m p;
        items = ap (λ (ks : SpecialKey → Bool). t.items ++ places_in m (reached_by ks m p)) r.known_keys;
        traced = item_traced m shift kept (is_special_for keys m) same can p h i.copying r.midway;
        stay = g.0.went;
      }

  abbrev GoOn : Answering → Caller → Type 0
  GoOn call f = (t : Trail) (i : ImportState) (k : ℕ) → Ready t i → GoesOn t (f t k) i (call i k)

  on_requests : (call : Answering) (f : Caller) → GoOn call f → (rs : List Request) → All (AsksThere m) rs → (t : Trail) (i : ImportState) → Ready t i → GoesOn t (fold (with_request m f) t rs) i (answer_by (answer_one call m shift) i rs)
  on_requests call f h [] a t i r = on_none t i r
  on_requests call f h (Item p ∷ rs) a t i r =
      let v = with_item m t p in
      let j : ImportState = record i { copying = copy_item m shift i.copying p } in
      let one = on_item t i p (All-head (AsksThere m) (Item p) rs a) r in
      on_then t v (fold (with_request m f) v rs) i j (answer_by (answer_one call m shift) j rs) one (on_requests call f h rs (All-tail (AsksThere m) (Item p) rs a) v j one.ready)
  on_requests call f h (Call k ∷ rs) a t i r =
      let v = f t k in
      let j = call i k in
      let one = h t i k r in
      on_then t v (fold (with_request m f) v rs) i j (answer_by (answer_one call m shift) j rs) one (on_requests call f h rs (All-tail (AsksThere m) (Call k) rs a) v j one.ready)

  on_copy : (call : Answering) (f : Caller) → GoOn call f → (e : Function) → All (AsksThere m) (requests_of e.0) → (t : Trail) (i : ImportState) → Ready t i → GoesOn t (with_reached (from m shift e) (fold (with_request m f) t (requests_of e.0))) i (import_copy_by call m shift i e.0 e.1)
  on_copy call f h e there t i r =
      let a = on_requests call f h (requests_of e.0) there t i r in
      let v = fold (with_request m f) t (requests_of e.0) in
      let j = answer_by (answer_one call m shift) i (requests_of e.0) in
      record {
        ready = record { known_keys = a.ready.known_keys; midway = a.ready.midway; names = named_one j.names v.functions (from m shift e) (length j.functions) a.ready.names };
        reached = a.reached;
        items = a.items;
        traced = a.traced;
        stay = a.stay;
      }

  on_found : (call : Answering) (f : Caller) → GoOn call f → (k : ℕ) (o : Option Function) → slice_get m.functions k ≡ o → (t : Trail) (i : ImportState) → Ready t i → GoesOn t (with_found f m shift t o) i (import_callee_by call m shift i o)
  on_found call f h k None at t i r = on_none t i r
  on_found call f h k (Some e) at t i r = subst (λ (b : Bool). GoesOn t (with_new f t (from m shift e)) i (if b then i else import_copy_by call m shift i e.0 e.1)) (sym (r.names e.0.name)) (one (has_name t.functions e.0.name))
    where
      one : (b : Bool) → GoesOn t (if b then t else with_reached (from m shift e) (fold (with_request m f) t (requests_of e.0))) i (if b then i else import_copy_by call m shift i e.0 e.1)
      one true = on_none t i r
      one false = on_copy call f h e (asks k e at) t i r

  on_call : (n : ℕ) → GoOn (import_callee n m shift) (with_call n m shift)
  unfolding import_callee with_call
  on_call zero t i k r = on_none t i r
  on_call (suc n) t i k r = on_found (import_callee n m shift) (with_call n m shift) (on_call n) k (slice_get m.functions k) refl t i r

  -- ---- a derived module

  abbrev Size : ℕ
  Size = length m.functions

  abbrev caller : Caller
  caller = with_call Size m shift

  -- m is the source of d, whose copies follow a trail from where it began
  pub record Along (begun : Trail) (before : List ItemPlace) (t : Trail) (d : Derived) : Type 0 where
    pub maps : ItemMap
    pub is : d.source ≡ Some (source_with m shift maps)
    pub known_keys : t.keys ≡ keys
    pub midway : IsMidway m kept (record { places = maps; target = d.target })
    pub names : (n : Text) → is_some (meant d.function_names n) ≡ has_name t.functions n
    pub reached : List ItemPlace
    pub items : t.items ≡ begun.items ++ places_in m reached
    pub places : List ItemPlace
    pub went : AllZip (λ p q. goes maps p ≡ Some q) reached places
    pub order : AreAllOf d.target (before ++ places)

  -- the state of functions apart from items
  abbrev apart : Derived → ItemMap → ImportState
  apart d maps = importing_of d (source_with m shift maps)

  ready_apart : (begun : Trail) (before : List ItemPlace) (t : Trail) (d : Derived) (h : Along begun before t d) → Ready t (apart d h.maps)
  ready_apart begun before t d h = record { known_keys = h.known_keys; midway = midway_given m kept h.maps d.target [] h.midway; names = h.names }

  -- what is done apart goes on
  along_apart : (begun : Trail) (before : List ItemPlace) (t v : Trail) (d : Derived) (h : Along begun before t d) (j : ImportState) → GoesOn t v (apart d h.maps) j → Along begun before v (after_importing (source_with m shift h.maps) j)
  along_apart begun before t v d h j g = record {
    maps = j.copying.places;
    is = refl;
    known_keys = g.ready.known_keys;
    midway = midway_given m kept j.copying.places j.copying.target j.functions g.ready.midway;
    names = g.ready.names;
    reached = h.reached ++ g.reached;
    items = g.items ∙ ap (λ xs. xs ++ places_in m g.reached) h.items ∙ append_assoc begun.items (places_in m h.reached) (places_in m g.reached) ∙ ap (λ xs. begun.items ++ xs) (sym (places_both m h.reached g.reached));
    places = h.places ++ g.traced.places;
    went = zip_append (GoTo j.copying) h.reached g.reached h.places g.traced.places (zip_more (λ p q. goes h.maps p ≡ Some q) (GoTo j.copying) (λ p q e. g.stay p q e) h.reached h.places h.went) g.traced.went;
    order = all_given j.copying.target j.functions (before ++ (h.places ++ g.traced.places)) (subst (AreAllOf j.copying.target) (append_assoc before h.places g.traced.places) (g.traced.order (before ++ h.places) (all_given d.target [] (before ++ h.places) h.order)));
  }

  -- the state of items alone
  abbrev alone : Derived → ItemMap → ImportState
  alone d maps = record { copying = copying_of d (source_with m shift maps); functions = []; names = d.function_names }

  ready_alone : (begun : Trail) (before : List ItemPlace) (t : Trail) (d : Derived) (h : Along begun before t d) → Ready t (alone d h.maps)
  ready_alone begun before t d h = record { known_keys = h.known_keys; midway = h.midway; names = h.names }

  along_alone : (begun : Trail) (before : List ItemPlace) (t v : Trail) (d : Derived) (h : Along begun before t d) (c : CopyState) → (let i : ImportState = alone d h.maps in GoesOn t v i (record i { copying = c })) → Along begun before v (after_copying d (source_with m shift h.maps) c)
  along_alone begun before t v d h c g = record {
    maps = c.places;
    is = refl;
    known_keys = g.ready.known_keys;
    midway = g.ready.midway;
    names = g.ready.names;
    reached = h.reached ++ g.reached;
    items = g.items ∙ ap (λ xs. xs ++ places_in m g.reached) h.items ∙ append_assoc begun.items (places_in m h.reached) (places_in m g.reached) ∙ ap (λ xs. begun.items ++ xs) (sym (places_both m h.reached g.reached));
    places = h.places ++ g.traced.places;
    went = zip_append (GoTo c) h.reached g.reached h.places g.traced.places (zip_more (λ p q. goes h.maps p ≡ Some q) (GoTo c) (λ p q e. g.stay p q e) h.reached h.places h.went) g.traced.went;
    order = subst (AreAllOf c.target) (append_assoc before h.places g.traced.places) (g.traced.order (before ++ h.places) h.order);
  }

  pub along_item : (begun : Trail) (before : List ItemPlace) (t : Trail) (d : Derived) (p : ItemPlace) → HasAt m p → Along begun before t d → Along begun before (with_item m t p) (import_item d p)
  along_item begun before t d p there h =
      let next = λ (s : Source). after_copying d s (copy_item s.value s.offset (copying_of d s) p) in
      let c = copy_item m shift (copying_of d (source_with m shift h.maps)) p in
      subst (λ (o : Option Source). Along begun before (with_item m t p) (by_source d next o)) (sym h.is)
      (along_alone begun before t (with_item m t p) d h c (on_item t (alone d h.maps) p there (ready_alone begun before t d h)))

  -- a type under a name
  pub along_renamed : (begun : Trail) (before : List ItemPlace) (t : Trail) (d : Derived) (k : ℕ) (name : Option Text) → HasAt m (TypeItem k) → Along begun before t d → Along begun before (with_item m t (TypeItem k)) (rename_type d k name)
  along_renamed begun before t d k name there h =
      let next = λ (s : Source). after_copying d s (copy_named_type s.value s.offset name (copying_of d s) k) in
      let s = copying_of d (source_with m shift h.maps) in
      let c = copy_named_type m shift name s k in
      let v = with_item m t (TypeItem k) in
      let mid = named_midway m shift kept (is_special_for keys m) same can k name there s h.midway in
      let i = alone d h.maps in
      let g : GoesOn t v i (record i { copying = c }) = record {
        ready = record { known_keys = h.known_keys; midway = mid.0; names = h.names };
        reached = reached_by keys m (TypeItem k);
        items = ap (λ (ks : SpecialKey → Bool). t.items ++ places_in m (reached_by ks m (TypeItem k))) h.known_keys;
        traced = named_traced m shift kept (is_special_for keys m) same can k name there s h.midway;
        stay = mid.1;
      } in
      subst (λ (o : Option Source). Along begun before v (by_source d next o)) (sym h.is) (along_alone begun before t v d h c g)

  pub along_items : (begun : Trail) (before : List ItemPlace) (ps : List ItemPlace) → All (HasAt m) ps → (t : Trail) (d : Derived) → Along begun before t d → Along begun before (fold (with_item m) t ps) (fold import_item d ps)
  along_items begun before [] a t d h = h
  along_items begun before (p ∷ ps) a t d h = along_items begun before ps (All-tail (HasAt m) p ps a) (with_item m t p) (import_item d p) (along_item begun before t d p (All-head (HasAt m) p ps a) h)

  abbrev present : List (Option ItemPlace) → List ItemPlace
  present ps = flat_map option_to_list ps

  along_named : (begun : Trail) (before : List ItemPlace) (ps : List (Option ItemPlace)) → All (λ o. IfSome o (HasAt m)) ps → (t : Trail) (d : Derived) → Along begun before t d → Along begun before (fold (with_item m) t (present ps)) (import_items d ps)
  along_named begun before [] a t d h = h
  along_named begun before (None ∷ ps) a t d h = along_named begun before ps (All-tail (λ o. IfSome o (HasAt m)) None ps a) t d h
  along_named begun before (Some p ∷ ps) a t d h = along_named begun before ps (All-tail (λ o. IfSome o (HasAt m)) (Some p) ps a) (with_item m t p) (import_item d p) (along_item begun before t d p (All-head (λ o. IfSome o (HasAt m)) (Some p) ps a) h)

  -- a function after what it names
  pub along_function : (begun : Trail) (before : List ItemPlace) (e : Function) → All (AsksThere m) (requests_of e.0) → (t : Trail) (d : Derived) → Along begun before t d → Along begun before (with_reached (from m shift e) (fold (with_request m caller) t (requests_of e.0))) (import_function d e.0 e.1)
  along_function begun before e there t d h =
      let next = λ (s : Source). after_importing s (import_copy (length s.value.functions) s.value s.offset (importing_of d s) e.0 e.1) in
      let v = with_reached (from m shift e) (fold (with_request m caller) t (requests_of e.0)) in
      let j = import_copy Size m shift (apart d h.maps) e.0 e.1 in
      subst (λ (o : Option Source). Along begun before v (by_source d next o)) (sym h.is)
      (along_apart begun before t v d h j (on_copy (import_callee Size m shift) caller (on_call Size) e there t (apart d h.maps) (ready_apart begun before t d h)))

  -- the same unless its name is known
  pub along_linked : (begun : Trail) (before : List ItemPlace) (e : Function) → All (AsksThere m) (requests_of e.0) → (t : Trail) (d : Derived) → Along begun before t d → Along begun before (with_function t (from m shift e)) (link_function d e)
  along_linked begun before e there t d h = subst (λ (b : Bool). Along begun before (with_function t (from m shift e)) (if b then d else import_function d e.0 e.1)) (sym (h.names e.0.name)) (one (has_name t.functions e.0.name))
    where
      one : (b : Bool) → Along begun before (if b then t else with_reached (from m shift e) (fold (with_request m caller) t (requests_of e.0))) (if b then d else import_function d e.0 e.1)
      one true = h
      one false = along_function begun before e there t d h

  abbrev pub StandsIn : Function → Type 0
  StandsIn e = (k : ℕ) × (slice_get m.functions k ≡ Some e)

  pub along_functions : (begun : Trail) (before : List ItemPlace) (es : List Function) → All StandsIn es → (t : Trail) (d : Derived) → Along begun before t d → Along begun before (fold with_function t (map (from m shift) es)) (fold link_function d es)
  along_functions begun before [] a t d h = h
  along_functions begun before (e ∷ es) a t d h =
      let at = All-head StandsIn e es a in
      along_functions begun before es (All-tail StandsIn e es a) (with_function t (from m shift e)) (link_function d e) (along_linked begun before e (asks at.0 e at.1) t d h)

  along_requests : (begun : Trail) (before : List ItemPlace) (v : FunctionValue) → All (AsksThere m) (requests_of v) → (t : Trail) (d : Derived) → Along begun before t d → Along begun before (fold (with_request m caller) t (requests_of v)) (answer_requests d (requests_of v))
  along_requests begun before v there t d h =
      let next = λ (s : Source). after_importing s (answer_all (length s.value.functions) s.value s.offset (importing_of d s) (requests_of v)) in
      let w = fold (with_request m caller) t (requests_of v) in
      let j = answer_all Size m shift (apart d h.maps) (requests_of v) in
      subst (λ (o : Option Source). Along begun before w (by_source d next o)) (sym h.is)
      (along_apart begun before t w d h j (on_requests (import_callee Size m shift) caller (on_call Size) (requests_of v) there t (apart d h.maps) (ready_apart begun before t d h)))

  -- what an entry point names
  pub along_entry : (begun : Trail) (before : List ItemPlace) (v : EntryValue) → All (AsksThere m) (requests_of v.function) → All (λ o. IfSome o (HasAt m)) (entry_names v) → (t : Trail) (st : EntriesState) → Along begun before t st.derived → Along begun before (fold (with_item m) (fold (with_request m caller) t (requests_of v.function)) (present (entry_names v))) (copy_entry st v).derived
  along_entry begun before v there names t st h =
      along_named begun before (entry_names v) names (fold (with_request m caller) t (requests_of v.function)) (answer_requests st.derived (requests_of v.function)) (along_requests begun before v.function there t st.derived h)

-- what entry points name, one after another
pub along_entries : (m : ModuleValue) (kept : Kept) (keys : SpecialKey → Bool) (same : (p : ItemPlace) → is_special_for keys m p ≡ is_some (kept p)) (can : IsCopyable m) (asks : AskThere m) (begun : Trail) (before : List ItemPlace) (vs : List EntryValue) → ((i : ℕ) (v : EntryValue) → slice_get vs i ≡ Some v → All (AsksThere m) (requests_of v.function) × All (λ o. IfSome o (HasAt m)) (entry_names v)) → (t : Trail) (st : EntriesState) → Along m 0 kept keys same can asks begun before t st.derived → Along m 0 kept keys same can asks begun before (fold (with_entry m) t vs) (copy_entries st vs).derived
along_entries m kept keys same can asks begun before [] ok t st h = h
along_entries m kept keys same can asks begun before (v ∷ vs) ok t st h =
    let own = ok 0 v refl in
    along_entries m kept keys same can asks begun before vs (λ i y at. ok (suc i) y at) (with_entry m t v) (copy_entry st v) (along_entry m 0 kept keys same can asks begun before v own.0 own.1 t st h)
