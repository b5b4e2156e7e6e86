-- What imports link copies what builds hold, after all that their headers declare.
use Rattle.std.proofs.Common.{◌≡◌, ⊎_elim, ◌⊎◌, ℕ, zero, suc, ◌||◌, ◌&&◌, if◌then◌else◌, List, [], ◌∷◌, fold, take, reverse, Some, Bool, true, false, slice_get, bytes_eq, inl, inr, refl, sym, ◌∙◌, subst}
use mathlib.Core.List.{reverse_aux}
use Rattle.std.proofs.lemmas.Bool.{false≢true}
use Rattle.std.proofs.lemmas.List.Elements.{All-nil}
use Rattle.std.proofs.lemmas.Option.{none-some}
use Rattle.std.proofs.lemmas.Slice.Eq.{bytes_eq-Decides}
use Rattle.naga_oil_ir.specs.Rows.{Row, Text}
use Rattle.naga_oil_ir.specs.declared.names.ItemPlace.{ItemPlace}
use Rattle.naga_oil_ir.specs.declared.names.ItemPlace.TheVariants.{TypeItem, ConstantItem, OverrideItem, GlobalItem, ExpressionItem}
use Rattle.naga_oil_words.specs.Texts.{is_among}
use Rattle.naga_oil_imports.specs.Uses.{Import}
use Rattle.naga_oil_derive.specs.Derived.{Derived, nothing}
use Rattle.naga_oil_derive.specs.World.{world}
use Rattle.naga_oil_derive.specs.declared.special.SpecialKey.{SpecialKey}
use Rattle.naga_oil_form_laws.specs.EntryForm.{IsModuleFormed}
use Rattle.naga_oil_link.specs.BuiltModule.{BuiltModule, Builds}
use Rattle.naga_oil_link.specs.Linked.{LinkState, passes, is_wanted_function, links_function, link_asked, asked_of, enter, link_within, link_import, link_imports, nothing_linked}
use Rattle.naga_oil_link.proofs.GoodFormLemmas.{nothing_formed_yet}
use Rattle.naga_oil_copy_laws.proofs.HeldLemmas.{FunctionsStay}
use Rattle.naga_oil_copy_laws.proofs.TurnLaws.{no_meaning}
use Rattle.naga_oil_link_laws.specs.Headers.{HasNamed, HasDeclarations, has_build}
use Rattle.naga_oil_link_laws.specs.LinkedCopies.{HeaderOf, ComesFromBuild}
use Rattle.naga_oil_link_laws.proofs.Names.{named_stays}
use Rattle.naga_oil_link_laws.specs.Requested.{HasPassing, AnyAsks, Chosen, Asks}
use Rattle.naga_oil_link_laws.proofs.Asks.{Entry, AllAfter}
use Rattle.naga_oil_link_laws.proofs.Links.{Linked, Links, items_linked}

-- ---- names of builds

-- one of some builds has a name
abbrev pub HasBuild : Builds → List ℕ → Type 0
HasBuild [] n = ⊥
HasBuild (e ∷ es) n = (e.0 ≡ n) ⊎ HasBuild es n

or_split : (a b : Bool) → (a || b) ≡ true → (a ≡ true) ⊎ (b ≡ true)
or_split true b h = inl refl
or_split false b h = inr h

or_first : (a b : Bool) → a ≡ true → (a || b) ≡ true
or_first true b h = refl
or_first false b h = absurd (false≢true h)

or_second : (a b : Bool) → b ≡ true → (a || b) ≡ true
or_second true b h = refl
or_second false b h = h

found : (es : Builds) (n : List ℕ) → HasBuild es n → has_build es n ≡ true
found [] n h = absurd h
found (e ∷ es) n (inl same) = or_first (bytes_eq n e.0) (has_build es n) ((bytes_eq-Decides n e.0).1 (sym same))
found (e ∷ es) n (inr h) = or_second (bytes_eq n e.0) (has_build es n) (found es n h)

back : (xs ys : Builds) (n : List ℕ) → HasBuild (reverse_aux xs ys) n → HasBuild xs n ⊎ HasBuild ys n
back [] ys n h = inr h
back (x ∷ xs) ys n h = one (back xs (x ∷ ys) n h)
  where
    one : HasBuild xs n ⊎ HasBuild (x ∷ ys) n → HasBuild (x ∷ xs) n ⊎ HasBuild ys n
    one (inl a) = inl (inr a)
    one (inr (inl same)) = inl (inl same)
    one (inr (inr a)) = inr a

-- a name that no build has, none has in the reverse order
pub not_back : (xs : Builds) (n : List ℕ) → has_build xs n ≡ false → HasBuild (reverse xs) n → ⊥
not_back xs n none h = ⊎_elim (λ a. false≢true (sym none ∙ found xs n a)) (λ (a : HasBuild [] n). a) (back xs [] n h)

-- ---- what may be linked

-- a build may be linked over those before it: its name is new, and its imports request what its header declares
pub record MayLink (P : BuiltModule → Type 0) (H : HeaderOf P) (earlier : Builds) (e : Entry) : Type 0 where
  pub among : P e.1
  pub form : IsModuleFormed e.1.value
  pub declares : HasDeclarations e.1
  pub apart : HasBuild earlier e.0 → ⊥
  pub header : (n : Text) → HasNamed (H e.1 among) n → AnyAsks (Asks earlier) e.1.imports n

-- if the imports of a build were entered, all that they request is there
abbrev Closed : Builds → LinkState → Type 0
Closed [] s = Unit {0}
Closed (e ∷ earlier) s = (is_among s.entered e.0 ≡ true → (n : Text) → AnyAsks (Asks earlier) e.1.imports n → HasNamed s.derived.target n) × Closed earlier s

-- this stays true if functions stay, and no build is entered
closed_later : (bs : Builds) (s u : LinkState) → FunctionsStay s.derived.target u.derived.target → ((n : List ℕ) → HasBuild bs n → is_among u.entered n ≡ true → is_among s.entered n ≡ true) → Closed bs s → Closed bs u
closed_later [] s u stay entered c = tt
closed_later (e ∷ bs) s u stay entered c = (
  λ is n asks. named_stays s.derived.target u.derived.target n stay (c.0 (entered e.0 (inl refl) is) n asks),
  closed_later bs s u stay (λ n h. entered n (inr h)) c.1,
)

module _ (P : BuiltModule → Type 0) (H : HeaderOf P) where
  -- what is requested is added, and all else stays
  record Comes (bs : Builds) (s u : LinkState) (asks : Text → Type 0) : Type 0 where
    linked : Linked P H u.derived
    stay : FunctionsStay s.derived.target u.derived.target
    entered : (n : List ℕ) → is_among u.entered n ≡ true → (is_among s.entered n ≡ true) ⊎ HasBuild bs n
    closed : Closed bs u
    named : (n : Text) → asks n → HasNamed u.derived.target n

  -- the same for each import
  abbrev ComesSo : Builds → (LinkState → Import → LinkState) → (Import → Text → Type 0) → Type 0
  ComesSo bs f asks = (s : LinkState) (i : Import) → Linked P H s.derived → Closed bs s → Comes bs s (f s i) (asks i)

  each_comes : (bs : Builds) (f : LinkState → Import → LinkState) (asks : Import → Text → Type 0) → ComesSo bs f asks → (is : List Import) (s : LinkState) → Linked P H s.derived → Closed bs s → Comes bs s (fold f s is) (AnyAsks asks is)
  each_comes bs f asks h [] s l c = record { linked = l; stay = λ k y at. at; entered = λ n is. inl is; closed = c; named = λ n none. absurd none }
  each_comes bs f asks h (i ∷ is) s l c =
      let one = h s i l c in
      let t = f s i in
      let more = each_comes bs f asks h is t one.linked one.closed in
      let u = fold f t is in
      record {
        linked = more.linked;
        stay = λ k y at. more.stay k y (one.stay k y at);
        entered = λ n is. ⊎_elim (one.entered n) (λ (x : HasBuild bs n). inr x) (more.entered n is);
        closed = more.closed;
        named = λ n a. ⊎_elim (λ (x : asks i n). named_stays t.derived.target u.derived.target n more.stay (one.named n x)) (more.named n) a;
      }

  -- the imports of a build are entered
  module _ (bs : Builds) (e : Entry) (may : MayLink P H bs e) (rest : ComesSo bs (link_import false bs) (Asks bs)) where
    -- then what they request is there
    record Within (s u : LinkState) : Type 0 where
      linked : Linked P H u.derived
      stay : FunctionsStay s.derived.target u.derived.target
      entered : (n : List ℕ) → is_among u.entered n ≡ true → (is_among s.entered n ≡ true) ⊎ HasBuild (e ∷ bs) n
      closed : Closed bs u
      named : (n : Text) → AnyAsks (Asks bs) e.1.imports n → HasNamed u.derived.target n

    entering : (s : LinkState) (n : List ℕ) → is_among (enter e.0 s).entered n ≡ true → (is_among s.entered n ≡ true) ⊎ HasBuild (e ∷ bs) n
    entering s n is = ⊎_elim (λ (own : bytes_eq n e.0 ≡ true). inr (inl (sym ((bytes_eq-Decides n e.0).0 own)))) (λ (old : is_among s.entered n ≡ true). inl old) (or_split (bytes_eq n e.0) (is_among s.entered n) is)

    entered_other : (s : LinkState) (n : List ℕ) → HasBuild bs n → is_among (enter e.0 s).entered n ≡ true → is_among s.entered n ≡ true
    entered_other s n h is = ⊎_elim (λ (own : bytes_eq n e.0 ≡ true). absurd (may.apart (subst (HasBuild bs) ((bytes_eq-Decides n e.0).0 own) h))) (λ (old : is_among s.entered n ≡ true). old) (or_split (bytes_eq n e.0) (is_among s.entered n) is)

    within_comes : (s : LinkState) → Linked P H s.derived → Closed (e ∷ bs) s → Within s (link_within (link_import false bs) e s)
    within_comes s l c = one (is_among s.entered e.0) refl
      where
        one : (b : Bool) → is_among s.entered e.0 ≡ b → Within s (if b then s else fold (link_import false bs) (enter e.0 s) e.1.imports)
        one true q = record { linked = l; stay = λ k y at. at; entered = λ n is. inl is; closed = c.1; named = c.0 q }
        one false q =
            let start = enter e.0 s in
            let all = each_comes bs (link_import false bs) (Asks bs) rest e.1.imports start l (closed_later bs s start (λ k y at. at) (entered_other s) c.1) in
            record {
              linked = all.linked;
              stay = all.stay;
              entered = λ n is. ⊎_elim (entering s n) (λ (x : HasBuild bs n). inr (inr x)) (all.entered n is);
              closed = all.closed;
              named = all.named;
            }

    -- and what the import requests from the build
    asked_comes : (s : LinkState) (i : Import) → Linked P H s.derived → Closed (e ∷ bs) s → Comes (e ∷ bs) s (link_asked false i e.1 (link_within (link_import false bs) e s)) (λ n. HasPassing (links_function e.1 (asked_of i e.1)) e.1.header.functions n ⊎ AnyAsks (Asks bs) e.1.imports n)
    asked_comes s i l c =
        let w = link_within (link_import false bs) e s in
        let a = within_comes s l c in
        let asked = asked_of i e.1 in
        let k = items_linked P H e.1 asked w.derived may.among may.form a.linked (λ n h. a.named n (may.header n h)) in
        let u = link_asked false i e.1 w in
        let known = λ (n : Text) (x : AnyAsks (Asks bs) e.1.imports n). named_stays w.derived.target u.derived.target n k.stay (a.named n x) in
        record {
          linked = k.linked;
          stay = λ j y at. k.stay j y (a.stay j y at);
          entered = a.entered;
          closed = (λ is. known, closed_later bs w u k.stay (λ n h is. is) a.closed);
          named = λ n x. ⊎_elim (own_named k) (known n) x;
        }
      where
        links_named : Text → Bool
        links_named t = is_wanted_function e.1 (asked_of i e.1) t && passes (is_among e.1.functions) t

        own_named : {n : Text} {d f : Derived} → Links P H e.1 (asked_of i e.1) d f → HasPassing (links_function e.1 (asked_of i e.1)) e.1.header.functions n → HasNamed f.target n
        own_named {n} {d} {f} k x =
            let own : HasNamed e.1.value x.1.0.name = may.declares.named x.0 x.1 x.2 in
            let wanted : links_function e.1 (asked_of i e.1) own.1 ≡ true = subst (λ (t : Text). links_named t ≡ true) (sym own.3) x.3 in
            subst (HasNamed f.target) (own.3 ∙ x.4) (k.named own.0 own.1 own.2 wanted)

    -- another import leaves the build unchanged
    other_comes : (s : LinkState) (i : Import) → Linked P H s.derived → Closed (e ∷ bs) s → Comes (e ∷ bs) s (link_import false bs s i) (Asks bs i)
    other_comes s i l c =
        let u = link_import false bs s i in
        let a = rest s i l c.1 in
        record {
          linked = a.linked;
          stay = a.stay;
          entered = λ n is. ⊎_elim (λ (x : is_among s.entered n ≡ true). inl x) (λ (x : HasBuild bs n). inr (inr x)) (a.entered n is);
          closed = (λ is n x. ⊎_elim (λ (old : is_among s.entered e.0 ≡ true). named_stays s.derived.target u.derived.target n a.stay (c.0 old n x)) (λ (y : HasBuild bs e.0). absurd (may.apart y)) (a.entered e.0 is), a.closed);
          named = a.named;
        }

  import_comes : (bs : Builds) → AllAfter (MayLink P H) bs → ComesSo bs (link_import false bs) (Asks bs)
  unfolding link_import
  import_comes [] a s i l c = record { linked = l; stay = λ k y at. at; entered = λ n is. inl is; closed = tt; named = λ n none. absurd none }
  import_comes (e ∷ bs) a s i l c = one (import_comes bs a.1) (bytes_eq i.import e.0)
    where
      one : ComesSo bs (link_import false bs) (Asks bs) → (b : Bool) → Comes (e ∷ bs) s (if b then link_asked false i e.1 (link_within (link_import false bs) e s) else link_import false bs s i) (λ n. Chosen b (HasPassing (links_function e.1 (asked_of i e.1)) e.1.header.functions n ⊎ AnyAsks (Asks bs) e.1.imports n) (Asks bs i n))
      one rest true = asked_comes bs e a.0 rest s i l c
      one rest false = other_comes bs e a.0 rest s i l c

-- ---- imports

nothing_there : (q : ItemPlace) (r : Row) → world nothing.target q ≡ Some r → ⊥
unfolding world
nothing_there (TypeItem k) r e = none-some r e
nothing_there (ConstantItem k) r e = none-some r e
nothing_there (OverrideItem k) r e = none-some r e
nothing_there (GlobalItem k) r e = none-some r e
nothing_there (ExpressionItem k) r e = none-some r e

nothing_is_linked : (P : BuiltModule → Type 0) (H : HeaderOf P) → Linked P H nothing
nothing_is_linked P H = record {
  formed = nothing_formed_yet;
  are_true = λ n h e. absurd (no_meaning n h e);
  functions = λ k g at. absurd (none-some g at);
  items = λ q r at. absurd (nothing_there q r at);
  special = All-nil (λ (e : SpecialKey × ℕ). ComesFromBuild P nothing.target e.0 e.1);
}

nothing_entered : (bs : Builds) → Closed bs nothing_linked
nothing_entered [] = tt
nothing_entered (e ∷ bs) = ((λ is. absurd (false≢true is)), nothing_entered bs)

-- each build over those before it, in reverse order
pub gathered : (Q : Builds → Entry → Type 0) (xs done : Builds) → ((k : ℕ) (e : Entry) → slice_get xs k ≡ Some e → AllAfter Q (reverse_aux (take k xs) done) → Q (reverse_aux (take k xs) done) e) → AllAfter Q done → AllAfter Q (reverse_aux xs done)
gathered Q [] done h a = a
gathered Q (x ∷ xs) done h a = gathered Q xs (x ∷ done) (λ k e at b. h (suc k) e at b) (h zero x refl a, a)

-- after what imports request
pub record LinksImports (P : BuiltModule → Type 0) (H : HeaderOf P) (bs : Builds) (is : List Import) : Type 0 where
  pub linked : Linked P H (link_imports false bs is nothing_linked).derived
  pub named : (n : Text) → AnyAsks (Asks (reverse bs)) is n → HasNamed (link_imports false bs is nothing_linked).derived.target n

pub imports_linked : (P : BuiltModule → Type 0) (H : HeaderOf P) (bs : Builds) (is : List Import) → AllAfter (MayLink P H) (reverse bs) → LinksImports P H bs is
imports_linked P H bs is a =
    let c = each_comes P H (reverse bs) (link_import false (reverse bs)) (Asks (reverse bs)) (import_comes P H (reverse bs) a) is nothing_linked (nothing_is_linked P H) (nothing_entered (reverse bs)) in
    record { linked = c.linked; named = c.named }
