-- A linked header is what is linked of builds whose modules are the headers.
use mathlib.Core.List.{reverse_aux}
use Rattle.std.proofs.Common.{◌≡◌, ℕ, zero, suc, true, false, ◌||◌, if◌then◌else◌, List, [], ◌∷◌, fold, reverse, take, Some, slice_get, bytes_eq, refl, ap, sym, ◌∙◌}
use Rattle.std.proofs.lemmas.List.{take-map}
use Rattle.std.proofs.lemmas.Option.{none-some, same_Some}
use Rattle.naga_oil_imports.specs.Uses.{Import}
use Rattle.naga_oil_link.specs.BuiltModule.{Builds}
use Rattle.naga_oil_link.specs.Linked.{LinkState, link_items, link_asked, link_within, link_import, link_header, nothing_linked}
use Rattle.naga_oil_link_laws.specs.Headers.{HaveOwnNames, has_build}
use Rattle.naga_oil_link_laws.proofs.Asks.{Entry}
use Rattle.naga_oil_collected_laws.specs.HeaderRequests.{header_of, headers_of}

-- ---- links

import_same : (bs : Builds) (s : LinkState) (i : Import) → link_import true bs s i ≡ link_import false (headers_of bs) s i
unfolding link_import link_items
import_same [] s i = refl
import_same (e ∷ bs) s i =
    let same : link_import true bs ≡ link_import false (headers_of bs) = λ k s i. import_same bs s i k in
    ap (λ (f : LinkState → Import → LinkState). if bytes_eq i.import e.0 then link_asked true i e.1 (link_within f e s) else f s i) same

-- ---- lists

turned : (bs cs : Builds) → headers_of (reverse_aux bs cs) ≡ reverse_aux (headers_of bs) (headers_of cs)
turned [] cs = refl
turned (b ∷ bs) cs = turned bs (b ∷ cs)

pub header_linked : (bs : Builds) (imports : List Import) → link_header bs imports ≡ (fold (link_import false (reverse (headers_of bs))) nothing_linked imports).derived.target
unfolding link_header
header_linked bs imports =
    let same : link_import true (reverse bs) ≡ link_import false (headers_of (reverse bs)) = λ k s i. import_same (reverse bs) s i k in
    let all : link_import true (reverse bs) ≡ link_import false (reverse (headers_of bs)) = same ∙ ap (link_import false) (turned bs []) in
    ap (λ (f : LinkState → Import → LinkState). (fold f nothing_linked imports).derived.target) all

-- ---- names

build_same : (bs : Builds) (n : List ℕ) → has_build (headers_of bs) n ≡ has_build bs n
build_same [] n = refl
build_same (b ∷ bs) n = ap (λ c. bytes_eq n b.0 || c) (build_same bs n)

at_name : (bs : Builds) (i : ℕ) (e : Entry) → slice_get (headers_of bs) i ≡ Some e → (x : Entry) × (slice_get bs i ≡ Some x) × (x.0 ≡ e.0)
at_name [] i e at = absurd (none-some e at)
at_name (b ∷ bs) zero e at = (b, refl, ap (λ (y : Entry). y.0) (same_Some (b.0, header_of b.1) e at))
at_name (b ∷ bs) (suc i) e at = at_name bs i e at

pub headers_named : (bs : Builds) → HaveOwnNames bs → HaveOwnNames (headers_of bs)
headers_named bs names i e at =
    let x = at_name bs i e at in
    ap (λ (es : Builds). has_build es e.0) (take-map (λ (b : Entry). (b.0, header_of b.1)) i bs)
    ∙ build_same (take i bs) e.0 ∙ ap (has_build (take i bs)) (sym x.2) ∙ names i x.0 x.1
