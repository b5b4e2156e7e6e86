-- Headers have the functions that are requested of them, without bodies.
use Rattle.std.proofs.Common.{◌≡◌, ℕ, Bool, true, false, ◌*◌, ◌++◌, ◌&&◌, if◌then◌else◌, List, [], ◌∷◌, fold, map, length, reverse, slice_get, Some, All, refl, ap, sym, ◌∙◌, subst, append-nil, append_assoc, zero, suc, bytes_eq}
use Rattle.std.specs.List.{AllZip, filter, flat_map}
use Rattle.std.proofs.lemmas.List.Elements.{All-nil, All-cons, All-append, All-head, All-tail, All-filter, All-map}
use Rattle.std.proofs.lemmas.Option.{none-some, same_Some}
use Rattle.naga_oil_ir.specs.Body.{Tokens}
use Rattle.naga_oil_ir.specs.ModuleValue.{ModuleValue}
use Rattle.naga_oil_ir.specs.Spans.{span_stride}
use Rattle.naga_oil_ir.specs.declared.tokens.Token.{Token}
use Rattle.naga_oil_words.specs.Texts.{is_among}
use Rattle.naga_oil_imports.specs.Uses.{Import}
use Rattle.naga_oil_redirect.specs.Ordered.{callees_of}
use Rattle.naga_oil_derive.specs.CopiedFunction.{copy_function}
use Rattle.naga_oil_derive.specs.Derived.{Derived}
use Rattle.naga_oil_derive.specs.DerivedValue.{import_function}
use Rattle.naga_oil_form_laws.specs.TurnForm.{import_functions, stub}
use Rattle.naga_oil_form_laws.proofs.RequestLemmas.{from_at}
use Rattle.naga_oil_link.specs.BuiltModule.{BuiltModule, Builds}
use Rattle.naga_oil_link.specs.CopiedBuild.{copy_stub, copy_places}
use Rattle.naga_oil_link.specs.Linked.{nothing_linked, link_import}
use Rattle.naga_oil_link_laws.specs.Headers.{HaveDeclarations}
use Rattle.naga_oil_link_laws.proofs.Asks.{Entry, AllAfter}
use Rattle.naga_oil_link_laws.proofs.Imports.{gathered}
use Rattle.naga_oil_collected_laws.specs.CollectedLaw.{IsCopyOf}
use Rattle.naga_oil_collected_laws.specs.FirstReach.{Reached, from, has_name, follow, reach, is_named_so, requested_of, import_names, import_requests}
use Rattle.naga_oil_collected_laws.specs.HeaderRequests.{declared, IsStubOf, HeldStubsLaw, header_of, headers_of, header_requests, with_new_name, once, IsDeclarationOf, LinkedStubsLaw}
use Rattle.naga_oil_collected_laws.proofs.Follows.{Function}
use Rattle.naga_oil_collected_laws.proofs.HeaderLinks.{header_linked, headers_named}
use Rattle.naga_oil_collected_laws.proofs.Held.{among, begun}
use Rattle.naga_oil_collected_laws.proofs.Imported.{HasFrom, function_imported}
use Rattle.naga_oil_collected_laws.proofs.Linked.{each_comes, import_comes, none_has, none_entered, all_apart}
use Rattle.naga_oil_collected_laws.proofs.Requests.{filter_same, names_taken}

-- ---- the header that a build holds

pub stubs_imported : (names : List (List ℕ)) (fs : List Function) (d : Derived) → fold (copy_stub names) d fs ≡ import_functions d (map stub (filter (among names) fs))
stubs_imported names [] d = refl
stubs_imported names (f ∷ fs) d = one (stubs_imported names fs) (among names f)
  where
    one : ((e : Derived) → fold (copy_stub names) e fs ≡ import_functions e (map stub (filter (among names) fs))) → (b : Bool) → fold (copy_stub names) (if b then import_function d (stub f).0 (stub f).1 else d) fs ≡ import_functions d (map stub (if b then f ∷ filter (among names) fs else filter (among names) fs))
    one rest true = rest (import_function d (stub f).0 (stub f).1)
    one rest false = rest d

-- the stubs of functions of a module
pub stubs_from : (m : ModuleValue) (fs : List Function) → map declared (map (from m 0) fs) ≡ map (from m 0) (map stub fs)
stubs_from m [] = refl
stubs_from m (f ∷ fs) = ap (λ rs. from m 0 (stub f) ∷ rs) (stubs_from m fs)

-- a stub calls nothing
one_after_another : (m : ModuleValue) (fs : List Function) (rs : List Reached) (d : Derived) → HasFrom m 0 rs d → HasFrom m 0 (rs ++ map (from m 0) (map stub fs)) (import_functions d (map stub fs))
one_after_another m [] rs d h = subst (λ qs. HasFrom m 0 qs d) (sym (append-nil rs)) h
one_after_another m (f ∷ fs) rs d h =
    let r = from m 0 (stub f) in
    let e = import_function d (stub f).0 (stub f).1 in
    subst (λ qs. HasFrom m 0 qs (import_functions e (map stub fs))) (append_assoc rs (r ∷ []) (map (from m 0) (map stub fs)))
    (one_after_another m fs (rs ++ r ∷ []) e (function_imported m 0 rs d (stub f) h))

pub held_stubs : HeldStubsLaw
held_stubs m own decoration names =
    let d = (copy_places false m own decoration).derived in
    let test = λ (f : Function). is_named_so (is_among names) f.0.name in
    let vs = filter test m.functions in
    let all = one_after_another m vs [] d (begun m false own decoration) in
    let same : fold (copy_stub names) d m.functions ≡ import_functions d (map stub vs) = stubs_imported names m.functions d ∙ ap (λ (fs : List Function). import_functions d (map stub fs)) (filter_same (among names) test (names_taken names) m.functions) in
    let now : HasFrom m 0 (map (from m 0) (map stub vs)) (fold (copy_stub names) d m.functions) = subst (HasFrom m 0 (map (from m 0) (map stub vs))) (sym same) all in
    zip_mapped (map (from m 0) vs) (fold (copy_stub names) d m.functions).target.functions (subst (λ rs. AllZip IsCopyOf rs (fold (copy_stub names) d m.functions).target.functions) (sym (stubs_from m vs)) now.has.copies)
  where
    zip_mapped : (rs : List Reached) (gs : List Function) → AllZip IsCopyOf (map declared rs) gs → AllZip IsStubOf rs gs
    zip_mapped [] [] z = tt
    zip_mapped [] (g ∷ gs) z = absurd z
    zip_mapped (r ∷ rs) [] z = absurd z
    zip_mapped (r ∷ rs) (g ∷ gs) z = (z.0, zip_mapped rs gs z.1)

-- ---- requests of headers

abbrev HasNoBody : Reached → Type 0
HasNoBody r = r.function.0.body ≡ []

abbrev AreBodiless : BuiltModule → Type 0
AreBodiless b = All (λ (f : Function). f.0.body ≡ []) b.value.functions

requested_bodiless : (requests : List ℕ → Bool) (b : BuiltModule) → AreBodiless b → All HasNoBody (requested_of requests b)
requested_bodiless requests b a =
    let test = λ (f : Function). is_named_so (λ n. requests n && is_among b.functions n) f.0.name in
    All-map HasNoBody (from b.value (b.index * span_stride)) (filter test b.value.functions) (All-filter test (λ (f : Function). f.0.body ≡ []) b.value.functions a)

flat_bodiless : (f : Import → List Reached) → ((i : Import) → All HasNoBody (f i)) → (is : List Import) → All HasNoBody (flat_map f is)
flat_bodiless f h [] = All-nil HasNoBody
flat_bodiless f h (i ∷ is) = All-append HasNoBody (f i) (flat_map f is) (h i) (flat_bodiless f h is)

abbrev EntryBodiless : Builds → Entry → Type 0
EntryBodiless earlier e = AreBodiless e.1

import_bodiless : (bs : Builds) → AllAfter EntryBodiless bs → (i : Import) → All HasNoBody (import_requests bs i)
unfolding import_requests
import_bodiless [] a i = All-nil HasNoBody
import_bodiless (e ∷ bs) a i = one (import_bodiless bs a.1) (bytes_eq i.import e.0)
  where
    one : ((i : Import) → All HasNoBody (import_requests bs i)) → (b : Bool) → All HasNoBody (if b then flat_map (import_requests bs) e.1.imports ++ requested_of (import_names i e.1) e.1 else import_requests bs i)
    one earlier true = All-append HasNoBody (flat_map (import_requests bs) e.1.imports) (requested_of (import_names i e.1) e.1) (flat_bodiless (import_requests bs) earlier e.1.imports) (requested_bodiless (import_names i e.1) e.1 a.0)
    one earlier false = earlier i

-- a header declares functions
headers_bodiless : (bs : Builds) → HaveDeclarations bs → (i : ℕ) (e : Entry) → slice_get (headers_of bs) i ≡ Some e → AreBodiless e.1
headers_bodiless [] h i e at = absurd (none-some e at)
headers_bodiless (x ∷ bs) h zero e at = subst (λ (y : Entry). AreBodiless y.1) (same_Some (x.0, header_of x.1) e at) (from_at (λ (f : Function). f.0.body ≡ []) x.1.header.functions (h 0 x refl).without_bodies)
headers_bodiless (x ∷ bs) h (suc i) e at = headers_bodiless bs (λ k y q. h (suc k) y q) i e at

all_bodiless : (bs : Builds) (imports : List Import) → HaveDeclarations bs → All HasNoBody (header_requests bs imports)
all_bodiless bs imports h =
    let hs = headers_of bs in
    flat_bodiless (import_requests (reverse hs)) (import_bodiless (reverse hs) (gathered EntryBodiless hs [] (λ k e at a. headers_bodiless bs h k e at) tt)) imports

-- ---- what calls nothing is reached as it is requested

reached_once : (qs rs : List Reached) → All HasNoBody qs → fold reach rs qs ≡ fold with_new_name rs qs
reached_once [] rs a = refl
reached_once (q ∷ qs) rs a =
    let one : reach rs q ≡ with_new_name rs q = ap (λ (ts : Tokens). if has_name rs q.function.0.name then rs else fold (follow (length q.source.functions) q.source q.offset) rs (callees_of ts) ++ q ∷ []) (All-head HasNoBody q qs a) in
    ap (λ ps. fold reach ps qs) one ∙ reached_once qs (with_new_name rs q) (All-tail HasNoBody q qs a)

once_bodiless : (qs rs : List Reached) → All HasNoBody qs → All HasNoBody rs → All HasNoBody (fold with_new_name rs qs)
once_bodiless [] rs a b = b
once_bodiless (q ∷ qs) rs a b = once_bodiless qs (with_new_name rs q) (All-tail HasNoBody q qs a) (one (has_name rs q.function.0.name))
  where
    one : (c : Bool) → All HasNoBody (if c then rs else rs ++ q ∷ [])
    one true = b
    one false = All-append HasNoBody rs (q ∷ []) b (All-cons HasNoBody q [] (All-head HasNoBody q qs a) (All-nil HasNoBody))

no_tokens : (f : Token → Token) (ts : Tokens) → ts ≡ [] → map f ts ≡ []
no_tokens f ts e = ap (map f) e

declaration : (r : Reached) (g : Function) → IsCopyOf r g → HasNoBody r → IsDeclarationOf r g
unfolding copy_function
declaration r g c h = record {
  declares = h;
  copies = c;
  without_body = ap (λ (x : Function). x.0.body) c.1 ∙ no_tokens _ r.function.0.body h;
}

declarations : (rs : List Reached) (gs : List Function) → AllZip IsCopyOf rs gs → All HasNoBody rs → AllZip IsDeclarationOf rs gs
declarations [] [] z a = tt
declarations [] (g ∷ gs) z a = absurd z
declarations (r ∷ rs) [] z a = absurd z
declarations (r ∷ rs) (g ∷ gs) z a = (declaration r g z.0 (All-head HasNoBody r rs a), declarations rs gs z.1 (All-tail HasNoBody r rs a))

-- ---- a linked header

pub linked_stubs : LinkedStubsLaw
linked_stubs bs imports declare names =
    let hs = headers_of bs in
    let rev = reverse hs in
    let wants = header_requests bs imports in
    let comes = each_comes rev (link_import false rev) (import_requests rev) (import_comes rev (all_apart hs (headers_named bs names))) imports nothing_linked [] none_has (none_entered rev) in
    let bodiless = all_bodiless bs imports declare in
    let t = (fold (link_import false rev) nothing_linked imports).derived.target in
    let copies : AllZip IsCopyOf (once wants) t.functions = subst (λ rs. AllZip IsCopyOf rs t.functions) (reached_once wants [] bodiless) comes.has.copies in
    subst (λ (u : ModuleValue). AllZip IsDeclarationOf (once wants) u.functions) (sym (header_linked bs imports)) (declarations (once wants) t.functions copies (once_bodiless wants [] bodiless (All-nil HasNoBody)))
