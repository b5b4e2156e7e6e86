-- A build's header has the items that it reaches, and a linked header those that the link reaches, each once, in the order of first reach.
use Rattle.std.proofs.Common.{◌≡◌, ℕ, ◌<◌, Bool, true, false, if◌then◌else◌, List, [], ◌∷◌, ◌++◌, fold, map, length, reverse, Some, is_some, slice_get, All, refl, ap, sym, ◌∙◌, subst, append-nil}
use Rattle.std.specs.List.{AllZip, filter}
use Rattle.std.proofs.lemmas.List.Elements.{All-nil, All-cons, All-head, All-tail, All-filter, All-same}
use Rattle.std.proofs.lemmas.Option.{none-some, same_Some}
use Rattle.naga_oil_words.specs.Texts.{is_among}
use Rattle.naga_oil_ir.specs.ModuleValue.{ModuleValue, FunctionValue}
use Rattle.naga_oil_ir.specs.declared.names.ItemPlace.{ItemPlace}
use Rattle.naga_oil_ir.specs.declared.names.ItemPlace.TheVariants.{TypeItem, ConstantItem, OverrideItem, GlobalItem, ExpressionItem}
use Rattle.naga_oil_form.specs.BodyForm.{is_result}
use Rattle.naga_oil_walk.specs.declared.walk.Request.{Request}
use Rattle.naga_oil_derive.specs.declared.special.SpecialKey.{SpecialKey}
use Rattle.naga_oil_derive.specs.AnsweredLaw.{HaveCopies, HasCopies}
use Rattle.naga_oil_derive.specs.CopiedFunctionLaw.{MayBeCopied}
use Rattle.naga_oil_derive.specs.CopiedLaw.{HasAt}
use Rattle.naga_oil_derive.specs.Derived.{Source, Derived, nothing, as_read}
use Rattle.naga_oil_derive.specs.DerivedFunctions.{MayAsk, MayCall, MayCopy, CanImport, FunctionStands, requests_of, signature_requests}
use Rattle.naga_oil_derive.specs.DerivedLaw.{IsDerivation, IsSourceOf}
use Rattle.naga_oil_derive.specs.DerivedValue.{import_function, import_item}
use Rattle.naga_oil_derive.specs.Tree.{World, Kept, tree}
use Rattle.naga_oil_derive.specs.World.{goes, world}
use Rattle.naga_oil_derive.proofs.AnsweredLaws.{function_law}
use Rattle.naga_oil_derive.proofs.DerivedLaws.{nothing_derived, placed_law}
use Rattle.naga_oil_derive.proofs.FunctionLaws.{copies}
use Rattle.naga_oil_form_laws.specs.FunctionForm.{AreFunctionsFormed}
use Rattle.naga_oil_form_laws.specs.TurnForm.{MayComeInTurn, import_functions, no_name, stub}
use Rattle.naga_oil_form_laws.proofs.RequestLemmas.{from_at}
use Rattle.naga_oil_form_laws.proofs.TurnLemmas.{stubs_in_turn}
use Rattle.naga_oil_link.specs.CopiedBuild.{OwnCopies, copy_own, copy_other, copy_at, nothing_copied, copy_places, copy_stub}
use Rattle.naga_oil_link.specs.CopySources.{stub_of}
use Rattle.naga_oil_link.specs.Linked.{link_import, nothing_linked}
use Rattle.naga_oil_link.specs.OwnPlaces.{OwnPlaces, is_own}
use Rattle.naga_oil_link.specs.Places.{places_of}
use Rattle.naga_oil_link.proofs.GoodFormLemmas.{has_places}
use Rattle.naga_oil_copy_laws.specs.InTurn.{CanCopyModule}
use Rattle.naga_oil_copy_laws.specs.ItemsByTree.{AsksThere}
use Rattle.naga_oil_copy_laws.proofs.HeldLemmas.{comes_there, source_is}
use Rattle.naga_oil_copy_laws.proofs.TurnLaws.{ReadsThen, copy_any, has_copies, into, nowhere, of_value, plain_reading, reads_last, reads_then}
use Rattle.naga_oil_link_laws.proofs.Decorates.{first_source, hold_begins}
use Rattle.naga_oil_link_laws.proofs.FormedSources.{can_copy}
use Rattle.naga_oil_link_laws.proofs.Stages.{Stage}
use Rattle.naga_oil_collected_laws.specs.FirstReach.{Reached, from, has_name, is_named_so}
use Rattle.naga_oil_collected_laws.specs.HeaderItems.{own_items, held_header_trail, DeclaresInOrder, HeldHeaderLaw, header_trail, LinkedHeaderLaw}
use Rattle.naga_oil_collected_laws.specs.HeaderRequests.{headers_of}
use Rattle.naga_oil_collected_laws.specs.ItemOrder.{AreCopiesOf, IsHeldCopy, IsLinkedCopy}
use Rattle.naga_oil_collected_laws.specs.Trail.{Trail, no_trail, is_special_for, with_item, with_source, with_function, with_reached, with_request, with_call, import_visits}
use Rattle.naga_oil_collected_laws.proofs.Followed.{Along, AskThere, places_in, along_item, along_renamed, along_function}
use Rattle.naga_oil_collected_laws.proofs.Follows.{Function}
use Rattle.naga_oil_collected_laws.proofs.HeaderFunctions.{stubs_from, stubs_imported}
use Rattle.naga_oil_collected_laws.proofs.HeaderLinks.{header_linked, headers_named}
use Rattle.naga_oil_collected_laws.proofs.HeaderTypes.{header_held}
use Rattle.naga_oil_collected_laws.proofs.Held.{Named, among, begun, fewer, is_fresh, no_name_yet, turn_after}
use Rattle.naga_oil_collected_laws.proofs.HeldOrder.{all_there, none_made, zip_placed}
use Rattle.naga_oil_collected_laws.proofs.Imported.{HasFrom, after_calls, function_imported, source_with}
use Rattle.naga_oil_collected_laws.proofs.Items.{all_may, nothing_good}
use Rattle.naga_oil_collected_laws.proofs.LinkOrder.{each_comes, import_comes, nothing_entered, nothing_has}
use Rattle.naga_oil_collected_laws.proofs.Requests.{filter_same, names_taken}
use Rattle.naga_oil_collected_laws.proofs.Sources.{kept_now, keys_now, now, source_along}

-- ---- stubs

front : {X : Type 0} (P : X → Type 0) (xs ys : List X) → All P (xs ++ ys) → All P xs
front P [] ys h = All-nil P
front P (x ∷ xs) ys h = All-cons P x xs (All-head P x (xs ++ ys) h) (front P xs ys (All-tail P x (xs ++ ys) h))

-- a stub names what the signature names
stub_requests : (P : Request → Type 0) (f : FunctionValue) → All P (requests_of f) → All P (requests_of (stub_of f))
stub_requests P f h =
    let own : All P (signature_requests f) = front P (signature_requests f) _ (front P _ _ h) in
    All-same P (requests_of (stub_of f)) (signature_requests f) (append-nil (signature_requests f ++ []) ∙ append-nil (signature_requests f)) own

stub_may : (m : ModuleValue) (P : ℕ → Type 0) (f : FunctionValue) → MayCopy m P f → MayCopy m P (stub_of f)
stub_may m P f h = record {
  form = record { earlier = λ k. All-nil (λ x. x < k); there = All-nil (λ x. x < 0); no_results = All-nil (λ x. is_result [] x ≡ false); body = tt };
  requests = stub_requests (MayAsk m P) f h.requests;
}

stub_copies : (f : FunctionValue) → HasCopies (stub_of f)
stub_copies f =
    let may : MayBeCopied (stub_of f) = record {
      form = record { earlier = λ k. All-nil (λ x. x < k); there = All-nil (λ x. x < 0); no_results = All-nil (λ x. is_result [] x ≡ false); body = tt };
      alone = λ k x at l. absurd (none-some x at);
    } in
    λ r form. copies r (stub_of f) may

-- ---- how a source reads while stubs are imported

module _ (m : ModuleValue) (can : CanCopyModule m) (w : World) where
  -- m is the source, and reads as w
  record Reading (d : Derived) : Type 0 where
    source : Source
    is : d.source ≡ Some source
    value : source.value ≡ m
    derivation : IsDerivation nowhere d
    reads : as_read source d.target ≡ w

  abbrev StandsIn : Function → Type 0
  StandsIn y = (k : ℕ) × (slice_get m.functions k ≡ Some y)

  of_stage : (d : Derived) → Stage (first_source m) w d → Reading d
  of_stage d t = record { source = t.source; is = t.is; value = t.value; derivation = t.derivation; reads = t.reads }

  have_copies : (d : Derived) → Reading d → HaveCopies d
  have_copies d t = into d.source t.source (λ s. (k : ℕ) (y : Function) → slice_get s.value.functions k ≡ Some y → HasCopies y.0) t.is (λ k y at. has_copies y.0 (can.functions k y (ap (λ (v : ModuleValue). slice_get v.functions k) (sym t.value) ∙ at)).0.copyable)

  reads_here : (d : Derived) → Reading d → ReadsThen d w
  reads_here d t = λ s at. ap (λ (y : Source). as_read y d.target) (same_Some s t.source (sym at ∙ t.is)) ∙ t.reads

  may_import : (d : Derived) (y : Function) → Reading d → StandsIn y → CanImport d (stub_of y.0)
  may_import d y t at =
      let own = can.functions at.0 y at.1 in
      let may = copy_any m d.function_names (stub_of y.0) (stub_may m (MayCall m [] (length m.functions)) y.0 own.0.reaches) in
      ((ap is_some t.is, into d.source t.source (λ s. MayCopy s.value (MayCall s.value d.function_names (length s.value.functions)) (stub_of y.0)) t.is (of_value m t.source.value (λ v. MayCopy v (MayCall v d.function_names (length v.functions)) (stub_of y.0)) t.value may)), own.1)

  stub_read : (d : Derived) (y : Function) → Reading d → StandsIn y → Reading (import_function d (stub_of y.0) y.1)
  stub_read d y t at =
      let f = stub_of y.0 in
      let e = import_function d f y.1 in
      let law = function_law nowhere d f y.1 t.derivation (have_copies d t) (stub_copies y.0) (may_import d y t at) in
      let s = source_is d.source e.source t.source t.is law.keeps.source in
      let stands : FunctionStands d e f y.1 law.place s.0 = comes_there e.source s.0 (FunctionStands d e f y.1 law.place) s.1 law.imported in
      let r = reads_then s.0.value w stands.answered (ap is_some t.is) (reads_here d t) in
      let reads = reads_last s.0 f y.1 stands.between e law.place w (sym stands.last.source ∙ s.1) stands.last r.1 in
      record { source = s.0; is = s.1; value = s.2.value ∙ t.value; derivation = law.derivation; reads = reads s.0 s.1 }

  stubs_read : (fs : List Function) (d : Derived) → Reading d → All StandsIn fs → Reading (import_functions d (map stub fs))
  stubs_read [] d t a = t
  stubs_read (y ∷ fs) d t a = stubs_read fs (import_function d (stub_of y.0) y.1) (stub_read d y t (All-head StandsIn y fs a)) (All-tail StandsIn y fs a)

  -- what is mapped reads at its place as it does in the source
  placed : (d : Derived) (t : Reading d) (p q : ItemPlace) → goes t.source.places p ≡ Some q → IsHeldCopy w d.target (m, p) q
  placed d t p q e =
      let r = placed_law nowhere d t.source p q t.derivation t.is e in
      record {
        there = (comes_there d.source t.source (λ y. IsSourceOf nowhere y d.target) t.is t.derivation.source).midway.copied.there p q e;
        alike = λ n. r.at_first n ∙ plain_reading (as_read t.source d.target) (world d.target) n p ∙ ap (λ (v : World). tree n v p) t.reads;
      }

-- ---- what a build holds

module _ (m : ModuleValue) (own : OwnPlaces) (decoration : List ℕ) (can : CanCopyModule m) where
  abbrev there : AskThere m
  there = all_there m can

  abbrev kept : Kept
  kept = now nowhere nothing m 0 (nothing_derived nowhere) can.items can.special there no_trail [] none_made

  abbrev keys : SpecialKey → Bool
  keys = keys_now nowhere nothing m 0 (nothing_derived nowhere) can.items can.special there no_trail [] none_made

  abbrev same : (p : ItemPlace) → is_special_for keys m p ≡ is_some (kept p)
  same = kept_now nowhere nothing m 0 (nothing_derived nowhere) can.items can.special there no_trail [] none_made

  -- copies of the module follow a trail
  abbrev Follows : Trail → Derived → Type 0
  Follows t d = Along m 0 kept keys same can.items there no_trail [] t d

  begins : Follows (with_source m no_trail) (nothing_copied m).derived
  begins = source_along nowhere nothing m 0 (nothing_derived nowhere) can.items can.special there no_trail [] none_made

  item_follows : (t : Trail) (d : Derived) (p : ItemPlace) → HasAt m p → Follows t d → Follows (with_item m t p) (import_item d p)
  item_follows t d p h a = along_item m 0 kept keys same can.items there no_trail [] t d p h a

  place_follows : (t : Trail) (c : OwnCopies) (p : ItemPlace) → HasAt m p → Follows t c.derived → (b : Bool) → Follows (if b then with_item m t p else t) (if b then copy_own m decoration c p else copy_other false c p).derived
  place_follows t c (TypeItem k) h a true = along_renamed m 0 kept keys same can.items there no_trail [] t c.derived k _ h a
  place_follows t c (ConstantItem k) h a true = item_follows t c.derived (ConstantItem k) h a
  place_follows t c (OverrideItem k) h a true = item_follows t c.derived (OverrideItem k) h a
  place_follows t c (GlobalItem k) h a true = item_follows t c.derived (GlobalItem k) h a
  place_follows t c (ExpressionItem k) h a true = item_follows t c.derived (ExpressionItem k) h a
  place_follows t c p h a false = a

  places_follow : (ps : List ItemPlace) → All (HasAt m) ps → (t : Trail) (c : OwnCopies) → Follows t c.derived → Follows (fold (with_item m) t (filter (is_own own) ps)) (fold (copy_at false m own decoration) c ps).derived
  places_follow [] h t c a = a
  places_follow (p ∷ ps) h t c a =
      let e = copy_at false m own decoration c p in
      let v = if is_own own p then with_item m t p else t in
      let one : Follows v e.derived = place_follows t c p (All-head (HasAt m) p ps h) a (is_own own p) in
      subst (λ u. Follows u (fold (copy_at false m own decoration) e ps).derived) (choose (is_own own p)) (places_follow ps (All-tail (HasAt m) p ps h) v e one)
    where
      choose : (b : Bool) → fold (with_item m) (if b then with_item m t p else t) (filter (is_own own) ps) ≡ fold (with_item m) t (if b then p ∷ filter (is_own own) ps else filter (is_own own) ps)
      choose true = refl
      choose false = refl

  abbrev AsksAll : Function → Type 0
  AsksAll v = All (AsksThere m) (requests_of v.0)

  functions_follow : (form : AreFunctionsFormed m 4294967295) (vs : List Function) → All AsksAll vs → (rs : List Reached) (t : Trail) (d : Derived) → MayComeInTurn m (Named m form rs) vs → HasFrom m 0 rs d → Follows t d → Follows (fold with_function t (map (from m 0) vs)) (import_functions d vs)
  functions_follow form [] all rs t d turn h a = a
  functions_follow form (v ∷ vs) all rs t d turn h a =
      let fresh : has_name t.functions v.0.name ≡ false = sym (a.names v.0.name) ∙ h.has.names v.0.name ∙ is_fresh m form v vs rs turn in
      let w = with_reached (from m 0 v) (fold (with_request m (with_call (length m.functions) m 0)) t (requests_of v.0)) in
      let new : with_function t (from m 0 v) ≡ w = ap (λ (b : Bool). if b then t else w) fresh in
      let e = import_function d v.0 v.1 in
      let one : Follows w e = along_function m 0 kept keys same can.items there no_trail [] v (All-head AsksAll v vs all) t d a in
      subst (λ u. Follows (fold with_function u (map (from m 0) vs)) (import_functions e vs)) (sym new)
      (functions_follow form vs (All-tail AsksAll v vs all) (after_calls m 0 rs v) w e (turn_after m form v vs rs turn) (function_imported m 0 rs d v h) one)

  -- what stubs name is there
  stubs_ask : (fs : List Function) → All (λ (y : Function). (k : ℕ) × (slice_get m.functions k ≡ Some y)) fs → All AsksAll (map stub fs)
  stubs_ask [] a = All-nil AsksAll
  stubs_ask (y ∷ fs) a =
      let Stands = λ (z : Function). (k : ℕ) × (slice_get m.functions k ≡ Some z) in
      let at = All-head Stands y fs a in
      All-cons AsksAll (stub y) (map stub fs) (stub_requests (AsksThere m) y.0 (there at.0 y at.1)) (stubs_ask fs (All-tail Stands y fs a))

pub held_header : HeldHeaderLaw
unfolding copy_places
held_header m own decoration names form =
    let can = can_copy m form in
    let held = header_held m own decoration can (hold_begins m can) in
    let w = held.reads in
    let c = copy_places false m own decoration in
    let Stands = λ (y : Function). (k : ℕ) × (slice_get m.functions k ≡ Some y) in
    let standing : All Stands m.functions = from_at Stands m.functions (λ k y at. (k, at)) in
    let test = λ (f : Function). is_named_so (is_among names) f.0.name in
    let fs = filter test m.functions in
    let stood : All Stands fs = All-filter test Stands m.functions standing in
    let vs = map stub fs in
    let d = import_functions c.derived vs in
    let last = stubs_read m can w fs c.derived (of_stage m can w c.derived held.stages.stage) stood in
    let turn : MayComeInTurn m (Named m form.functions []) vs = fewer m form.functions no_name (λ y. has_name [] y ≡ true) vs no_name_yet (stubs_in_turn m test form) in
    let t = fold (with_item m) (with_source m no_trail) (own_items m own) in
    let items : Follows m own decoration can t c.derived = places_follow m own decoration can (places_of m) (has_places m) (with_source m no_trail) (nothing_copied m) (begins m own decoration can) in
    let functions : Follows m own decoration can (fold with_function t (map (from m 0) vs)) d = functions_follow m own decoration can form.functions vs (stubs_ask m own decoration can fs stood) [] t c.derived turn (begun m false own decoration) items in
    let all : Follows m own decoration can (held_header_trail m own names) d = subst (λ rs. Follows m own decoration can (fold with_function t rs) d) (sym (stubs_from m fs)) functions in
    let s = last.source in
    let same_source : source_with m 0 all.maps ≡ s = same_Some (source_with m 0 all.maps) s (sym all.is ∙ last.is) in
    let went : AllZip (λ p q. goes s.places p ≡ Some q) all.reached all.places = subst (λ (y : Source). AllZip (λ p q. goes y.places p ≡ Some q) all.reached all.places) same_source all.went in
    let copies : AllZip (IsHeldCopy w d.target) (places_in m all.reached) all.places = zip_placed m (λ p q. goes s.places p ≡ Some q) (IsHeldCopy w d.target) (placed m can w d last) all.reached all.places went in
    let collected : AreCopiesOf (IsHeldCopy w d.target) d.target (held_header_trail m own names).items = record {
      places = all.places;
      copies = subst (λ rs. AllZip (IsHeldCopy w d.target) rs all.places) (sym all.items) copies;
      order = all.order;
    } in
    let result : DeclaresInOrder m own decoration names d.target = record { reads = w; decorated = held.decorated; items = collected } in
    let same_d : fold (copy_stub names) c.derived m.functions ≡ d = stubs_imported names m.functions c.derived ∙ ap (λ (ys : List Function). import_functions c.derived (map stub ys)) (filter_same (among names) test (names_taken names) m.functions) in
    subst (λ (e : Derived). DeclaresInOrder m own decoration names e.target) (sym same_d) result

-- ---- a linked header

pub linked_header : LinkedHeaderLaw
linked_header bs imports forms names =
    let hs = headers_of bs in
    let rev = reverse hs in
    let own = headers_named bs names in
    let comes = each_comes rev (link_import false rev) (import_visits rev) (import_comes rev (all_may hs forms own)) imports nothing_linked no_trail nothing_good nothing_has (nothing_entered rev) in
    let u = (fold (link_import false rev) nothing_linked imports).derived.target in
    let all : AreCopiesOf (IsLinkedCopy u) u (header_trail bs imports).items = record { places = comes.has.places; copies = comes.has.copies; order = comes.has.made.order } in
    subst (λ (v : ModuleValue). AreCopiesOf (IsLinkedCopy v) v (header_trail bs imports).items) (sym (header_linked bs imports)) all
