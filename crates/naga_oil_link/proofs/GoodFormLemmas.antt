-- Copies and linked modules of modules of good form are of good form.
use Rattle.std.proofs.Common.{◌≡◌, ℕ, zero, suc, ◌<◌, ◌+◌, ◌*◌, Bool, true, false, List, [], ◌∷◌, ◌++◌, length, map, fold, Some, None, Result, Ok, Err, IfOk, option_map, if◌then◌else◌, refl, sym, ap, ◌∙◌, subst, arith, All}
use Rattle.std.specs.List.{filter, range_with_len}
use Rattle.std.proofs.lemmas.List.Elements.{All-nil, All-cons, All-append, All-filter, All-head, All-tail}
use Rattle.naga_oil_ir.specs.ModuleValue.{ModuleValue, FunctionValue, module_value}
use Rattle.naga_oil_ir.specs.Rows.{Text}
use Rattle.naga_oil_ir.specs.declared.module.Module.{Module}
use Rattle.naga_oil_ir.specs.declared.names.ItemPlace.{ItemPlace}
use Rattle.naga_oil_ir.specs.declared.names.ItemPlace.TheVariants.{TypeItem, ConstantItem, OverrideItem, GlobalItem, ExpressionItem}
use Rattle.naga_oil_ir.specs.declared.span.Span.{Span}
use Rattle.naga_oil_derive.specs.CopiedEntry.{make_module}
use Rattle.naga_oil_derive.specs.CopiedLaw.{HasAt}
use Rattle.naga_oil_derive.specs.Derived.{Derived, nothing}
use Rattle.naga_oil_derive.specs.DerivedFunctions.{Meanings, meant}
use Rattle.naga_oil_derive.specs.DerivedValue.{import_function, set_source}
use Rattle.naga_oil_derive.specs.Tree.{Kept}
use Rattle.naga_oil_derive.specs.World.{kept_of, value_of}
use Rattle.naga_oil_form_laws.specs.DerivedForm.{MayCome}
use Rattle.naga_oil_form_laws.specs.EntryForm.{IsModuleFormed}
use Rattle.naga_oil_form_laws.specs.TurnForm.{IsFormedOf, KeepsFormed, IsKnownIn, import_functions, stub}
use Rattle.naga_oil_form_laws.proofs.FormedLemmas.{nothing_is, source_cleared}
use Rattle.naga_oil_form_laws.proofs.ImportLemmas.{each_comes}
use Rattle.naga_oil_form_laws.proofs.RequestLemmas.{type_there, constant_there, override_there, global_there, from_at}
use Rattle.naga_oil_form_laws.proofs.TurnLemmas.{source_of, item_of, type_of, made_of, target_of, functions_from_nothing, passing_in_turn, stubs_in_turn, new_in_turn, items_in_turn}
use Rattle.naga_oil_link.specs.BuiltModule.{BuiltModule}
use Rattle.naga_oil_link.specs.CopiedBuild.{OwnCopies, decorated_type, import_own, copy_own, copy_other, copy_at, nothing_copied, copy_places, has_name_among, copy_with_body, copy_stub, copy_whole, copy_header}
use Rattle.naga_oil_link.specs.Linked.{Asked, links_place, links_function, link_source}
use Rattle.naga_oil_link.specs.LinkView.{IsLinkFormed}
use Rattle.naga_oil_link.specs.OwnPlaces.{OwnPlaces, is_own}
use Rattle.naga_oil_link.specs.Places.{places_from_first, places_of}
use Rattle.naga_oil_ir.specs.Spans.{span_stride}

-- ---- the places of a module's items

each_place : (m : ModuleValue) (place : ℕ → ItemPlace) (n a : ℕ) → ((k : ℕ) → k < a + n → HasAt m (place k)) → All (HasAt m) (map place (range_with_len a n))
each_place m place zero a h = All-nil (HasAt m)
each_place m place (suc n) a h = All-cons (HasAt m) (place a) (map place (range_with_len (a + 1) n)) (h a (omega arith)) (each_place m place n (a + 1) (λ k l. h k (omega (arith, l))))

kind_places : (m : ModuleValue) (place : ℕ → ItemPlace) (n : ℕ) → ((k : ℕ) → k < n → HasAt m (place k)) → All (HasAt m) (places_from_first place n)
kind_places m place n h = each_place m place n 0 (λ k l. h k (omega (arith, l)))

-- an item stands at each of these places
pub has_places : (m : ModuleValue) → All (HasAt m) (places_of m)
has_places m =
    let P = HasAt m in
    let ts = places_from_first TypeItem (length m.types) in
    let cs = places_from_first ConstantItem (length m.constants) in
    let os = places_from_first OverrideItem (length m.overrides) in
    let gs = places_from_first GlobalItem (length m.global_variables) in
    All-append P (ts ++ cs ++ os) gs (All-append P (ts ++ cs) os (All-append P ts cs
    (kind_places m TypeItem (length m.types) (type_there m)) (kind_places m ConstantItem (length m.constants) (constant_there m)))
    (kind_places m OverrideItem (length m.overrides) (override_there m))) (kind_places m GlobalItem (length m.global_variables) (global_there m))

-- ---- copies of items

module _ (first : Kept) (m : ModuleValue) where
  stays : (d : Derived) → IsFormedOf first m d → KeepsFormed first m d d
  stays d f = record { formed = f; names = refl }

  following : (d e g : Derived) → KeepsFormed first m d e → KeepsFormed first m e g → KeepsFormed first m d g
  following d e g a b = record { formed = b.formed; names = b.names ∙ a.names }

  own_keeps : (decoration : List ℕ) (d : Derived) (p : ItemPlace) → HasAt m p → IsFormedOf first m d → KeepsFormed first m d (import_own m decoration d p)
  own_keeps n d (TypeItem k) h f = type_of first m d k (option_map Some (decorated_type m n (TypeItem k))) f h
  own_keeps n d (ConstantItem k) h f = item_of first m d (ConstantItem k) f h
  own_keeps n d (OverrideItem k) h f = item_of first m d (OverrideItem k) f h
  own_keeps n d (GlobalItem k) h f = item_of first m d (GlobalItem k) f h
  own_keeps n d (ExpressionItem k) h f = item_of first m d (ExpressionItem k) f h

  other_keeps : (all : Bool) (c : OwnCopies) (p : ItemPlace) → HasAt m p → IsFormedOf first m c.derived → KeepsFormed first m c.derived (copy_other all c p).derived
  other_keeps false c p h f = stays c.derived f
  other_keeps true c (TypeItem k) h f = item_of first m c.derived (TypeItem k) f h
  other_keeps true c (ConstantItem k) h f = stays c.derived f
  other_keeps true c (OverrideItem k) h f = stays c.derived f
  other_keeps true c (GlobalItem k) h f = stays c.derived f
  other_keeps true c (ExpressionItem k) h f = stays c.derived f

  one_keeps : (all : Bool) (decoration : List ℕ) (c : OwnCopies) (p : ItemPlace) → HasAt m p → IsFormedOf first m c.derived → (own : Bool) → KeepsFormed first m c.derived (if own then copy_own m decoration c p else copy_other all c p).derived
  one_keeps all n c p h f true = own_keeps n c.derived p h f
  one_keeps all n c p h f false = other_keeps all c p h f

  all_keep : (all : Bool) (own : OwnPlaces) (decoration : List ℕ) (ps : List ItemPlace) (c : OwnCopies) → All (HasAt m) ps → IsFormedOf first m c.derived → KeepsFormed first m c.derived (fold (copy_at all m own decoration) c ps).derived
  all_keep all own n [] c h f = stays c.derived f
  all_keep all own n (p ∷ ps) c h f =
      let one = one_keeps all n c p (All-head (HasAt m) p ps h) f (is_own own p) in
      let e = copy_at all m own n c p in
      following c.derived e.derived (fold (copy_at all m own n) e ps).derived one (all_keep all own n ps e (All-tail (HasAt m) p ps h) one.formed)

-- for a module for which nothing was kept
abbrev begun : ModuleValue → Kept
begun m = kept_of m.special_types nothing.target.special_types

begins : (m : ModuleValue) → IsModuleFormed m → KeepsFormed (begun m) m nothing (nothing_copied m).derived
begins m f = source_of (begun m) nothing m 0 (nothing_is (begun m)) f

-- items that were copied of a module are of good form, and no function is known yet
places_keep : (all : Bool) (m : ModuleValue) (own : OwnPlaces) (decoration : List ℕ) → IsModuleFormed m → KeepsFormed (begun m) m nothing (copy_places all m own decoration).derived
unfolding copy_places
places_keep all m own n f =
    let b = begins m f in
    following (begun m) m nothing (nothing_copied m).derived (fold (copy_at all m own n) (nothing_copied m) (places_of m)).derived b (all_keep (begun m) m all own n (places_of m) (nothing_copied m) (has_places m) b.formed)

no_meaning : (x : Text) (h : ℕ) → meant [] x ≡ Some h → ⊥
no_meaning None h e = absurd cc
no_meaning (Some x) h e = absurd cc

nothing_known : (d : Derived) → d.function_names ≡ [] → (x : Text) → IsKnownIn d x → ⊥
nothing_known d e x k = no_meaning x k.0 (ap (λ (ns : Meanings). meant ns x) (sym e) ∙ k.1)

-- ---- copies of functions

abbrev Functions : Type 0
Functions = List (FunctionValue × Span)

abbrev among : List (List ℕ) → FunctionValue × Span → Bool
among names f = has_name_among names f.0.name

stub_imports : (names : List (List ℕ)) (f : FunctionValue × Span) (fs : Functions) (d : Derived) → ((e : Derived) → fold (copy_stub names) e fs ≡ import_functions e (map stub (filter (among names) fs))) → (b : Bool) → fold (copy_stub names) (if b then import_function d (stub f).0 f.1 else d) fs ≡ import_functions d (map stub (if b then f ∷ filter (among names) fs else filter (among names) fs))
stub_imports names f fs d h true = h (import_function d (stub f).0 f.1)
stub_imports names f fs d h false = h d

stubs_import : (names : List (List ℕ)) (fs : Functions) (d : Derived) → fold (copy_stub names) d fs ≡ import_functions d (map stub (filter (among names) fs))
stubs_import names [] d = refl
stubs_import names (f ∷ fs) d = stub_imports names f fs d (stubs_import names fs) (among names f)

body_imports : (names : List (List ℕ)) (f : FunctionValue × Span) (fs : Functions) (d : Derived) → ((e : Derived) → fold (copy_with_body names) e fs ≡ import_functions e (filter (among names) fs)) → (b : Bool) → fold (copy_with_body names) (if b then import_function d f.0 f.1 else d) fs ≡ import_functions d (if b then f ∷ filter (among names) fs else filter (among names) fs)
body_imports names f fs d h true = h (import_function d f.0 f.1)
body_imports names f fs d h false = h d

bodies_import : (names : List (List ℕ)) (fs : Functions) (d : Derived) → fold (copy_with_body names) d fs ≡ import_functions d (filter (among names) fs)
bodies_import names [] d = refl
bodies_import names (f ∷ fs) d = body_imports names f fs d (bodies_import names fs) (among names f)

module _ (m : ModuleValue) (own : OwnPlaces) (decoration : List ℕ) (names : List (List ℕ)) (f : IsModuleFormed m) where
  -- the header that is copied of a module of good form
  pub header_formed : IsModuleFormed (copy_header m own decoration names).derived.target
  header_formed =
      let d = (copy_places false m own decoration).derived in
      let k = places_keep false m own decoration f in
      let vs = map stub (filter (among names) m.functions) in
      let all = functions_from_nothing (begun m) m d vs k.formed (nothing_known d k.names) (stubs_in_turn m (among names) f) in
      subst (λ (e : Derived). IsModuleFormed e.target) (sym (stubs_import names m.functions d)) (target_of (begun m) (import_functions d vs) all.formed)

  -- and the whole
  pub whole_formed : IsModuleFormed (make_module (copy_whole m own decoration names).derived)
  whole_formed =
      let d = (copy_places true m own decoration).derived in
      let k = places_keep true m own decoration f in
      let vs = filter (among names) m.functions in
      let all = functions_from_nothing (begun m) m d vs k.formed (nothing_known d k.names) (passing_in_turn m (among names) f) in
      subst (λ (e : Derived). IsModuleFormed (make_module e)) (sym (bodies_import names m.functions d)) (made_of (begun m) m (import_functions d vs) all f)

-- ---- what is linked

pub nothing_formed_yet : IsLinkFormed nothing
unfolding IsLinkFormed
nothing_formed_yet = nothing_is

-- after what is linked of a module of good form
pub source_formed : (b : BuiltModule) (own : OwnPlaces) (m : ModuleValue) (asked : Asked) (d : Derived) → IsModuleFormed m → IsLinkFormed d → IsLinkFormed (link_source b own m asked d)
unfolding IsLinkFormed
source_formed b own m asked d f l first =
    let kept = kept_of m.special_types d.target.special_types in
    let set = source_of kept d m (b.index * span_stride) (l kept) f in
    let ps = filter (links_place own m asked) (places_of m) in
    let items = items_in_turn kept m (set_source d m (b.index * span_stride)) ps set.formed (All-filter (links_place own m asked) (HasAt m) (places_of m) (has_places m)) in
    let Comes = λ (v : FunctionValue × Span). (c : ℕ) × MayCome m c v.0 v.1 in
    let comes : All Comes m.functions = from_at Comes m.functions (λ k v at. (k, each_comes m k v f.functions at)) in
    let functions = new_in_turn kept m _ (filter (links_function b asked) m.functions) items (All-filter (links_function b asked) Comes m.functions comes) in
    source_cleared kept first _ functions.formed

-- what was linked, with the entry points of a module of good form and without
pub linked_made : (m : ModuleValue) (shift : ℕ) (d : Derived) → IsModuleFormed m → IsLinkFormed d → IsModuleFormed (make_module (set_source d m shift))
unfolding IsLinkFormed
linked_made m shift d f l =
    let kept = kept_of m.special_types d.target.special_types in
    made_of kept m (set_source d m shift) (source_of kept d m shift (l kept) f).formed f

pub linked_target : (d : Derived) → IsLinkFormed d → IsModuleFormed d.target
unfolding IsLinkFormed
linked_target d l = let kept = begun d.target in target_of kept d (l kept)

-- the whole that the code makes
pub whole_form : {E : Type 0} (r : Result Module E) (m : Module) (d e : Derived) → IsModuleFormed (module_value m) → IsLinkFormed d → e ≡ set_source d (value_of m) 0 → IfOk r (λ w. value_of w ≡ make_module e) → IfOk r (λ w. IsModuleFormed (module_value w))
unfolding value_of
whole_form (Ok w) m d e f l set made = subst IsModuleFormed (sym (made ∙ ap make_module set)) (linked_made (value_of m) 0 d f l)
whole_form (Err x) m d e f l set made = tt
