-- Identifiers that are substituted one after another, up to an error.
use Rattle.std.proofs.Common.{◌≡◌, ℕ, IsErrAnd, ◌<◌, nat_lt, Bool, true, false, cond, not, ◌&&◌, eqb, List, [], ◌∷◌, ◌++◌, length, map, Option, Some, None, Vec, String, string_bytes, bytes_eq, Result, Ok, Err, IfErr, refl, sym, ap, subst, ◌∙◌, arith, append_assoc, append-nil}
use Rattle.std.specs.declared.alloc.Global.{Global}
use Rattle.std.specs.List.{flat_map}
use Rattle.std.specs.Map.{lookup}
use Rattle.std.specs.Option.{option_map, option_map_or}
use borrow.Author.Tests.{eqb-true}
use Rattle.std.proofs.lemmas.Cmp.{nat_list_eq_equiv}
use Rattle.std.proofs.lemmas.Grind.{flat_map-append}
use Rattle.std.proofs.lemmas.List.{length-map}
use Rattle.naga_oil_imports.specs.declared.substitute.SubstituteFault.{SubstituteFault}
use Rattle.naga_oil_imports.specs.declared.substitute.SubstituteFault.TheVariants.{Ambiguous, Memory}
use Rattle.naga_oil_imports.specs.Declarations.{Declared, paths_of}
use Rattle.naga_oil_imports.specs.SubstituteFault.{RefusesUses}
use Rattle.naga_oil_imports.specs.Substituted.{cut_at_first, first_part, past_first, longer_path, longer_paths, paths_or, paths_for, mentions_at, Mention, with_mentions, Site, mentions_of, mentions_in, is_refused, first_ambiguous, before_ambiguous, BeginsUses}
use Rattle.naga_oil_imports.specs.Uses.{Uses}
use Rattle.naga_oil_imports.proofs.SiteLemmas.{with_mentions-append, begins_later}

-- ---- the paths of an identifier
-- the value of the code's map at a key
pub paths_of_map : (key : List ℕ) (es : List (String Global × Vec (String Global) Global))
    → paths_of (map (λ e. (string_bytes e.0, map string_bytes e.1.items)) es) key ≡ option_map_or (λ v. map string_bytes v.items) (lookup (λ k. bytes_eq key (string_bytes k)) es) []
paths_of_map key [] = refl
paths_of_map key (e ∷ es) =
    let turn : bytes_eq (string_bytes e.0) key ≡ bytes_eq key (string_bytes e.0) = nat_list_eq_equiv.symm (string_bytes e.0) key in
    ap (λ b. cond b (map string_bytes e.1.items) (paths_of (map (λ e. (string_bytes e.0, map string_bytes e.1.items)) es) key)) turn
    ∙ elim (bytes_eq key (string_bytes e.0)) as (λ b. cond b (map string_bytes e.1.items) (paths_of (map (λ e. (string_bytes e.0, map string_bytes e.1.items)) es) key)
    ≡ option_map_or (λ v. map string_bytes v.items) (cond b (Some e.1) (lookup (λ k. bytes_eq key (string_bytes k)) es)) []) [
      | true ↦ refl
      | false ↦ paths_of_map key es
    ]

-- the path of an identifier that is not declared
abbrev pub own_path : List ℕ → List ℕ
own_path name = longer_path (first_part name) (past_first name)

-- an identifier is its first part, `::` and the rest
abbrev pub Parts : List ℕ → Option (List ℕ × List ℕ) → Type 0
Parts s None = Unit {0}
Parts s (Some p) = s ≡ p.0 ++ 58 ∷ 58 ∷ p.1

parts_of : (s : List ℕ) → Parts s (cut_at_first s)
parts_of [] = tt
parts_of (a ∷ []) = tt
parts_of (a ∷ b ∷ more) = by (eqb a 58) (eqb b 58) refl refl (cut_at_first (b ∷ more)) (parts_of (b ∷ more))
  where
    later : (r : Option (List ℕ × List ℕ)) → Parts (b ∷ more) r → Parts (a ∷ b ∷ more) (option_map (λ p. (a ∷ p.0, p.1)) r)
    later None h = tt
    later (Some p) h = ap (λ l. a ∷ l) h

    by : (x y : Bool) → eqb a 58 ≡ x → eqb b 58 ≡ y → (r : Option (List ℕ × List ℕ)) → Parts (b ∷ more) r → Parts (a ∷ b ∷ more) (cond (x && y) (Some ([], more)) (option_map (λ p. (a ∷ p.0, p.1)) r))
    by false y p q r h = later r h
    by true false p q r h = later r h
    by true true p q r h = (λ i. eqb-true a 58 p i ∷ eqb-true b 58 q i ∷ more)

-- the path is the identifier if there is a rest, and else its first part
pub own_whole : (name : List ℕ) → 0 < length (past_first name) → name ≡ own_path name
own_whole name h = by (cut_at_first name) (parts_of name) h
  where
    by : (r : Option (List ℕ × List ℕ)) → Parts name r → 0 < length (option_map_or (λ p. p.1) r []) → name ≡ longer_path (option_map_or (λ p. p.0) r name) (option_map_or (λ p. p.1) r [])
    by None g k = absurd (omega (arith, k))
    by (Some (front, [])) g k = absurd (omega (arith, k))
    by (Some (front, c ∷ following)) g k = g

pub own_first : (name : List ℕ) → past_first name ≡ [] → first_part name ≡ own_path name
own_first name e = ap (longer_path (first_part name)) (sym e)

pub paths_for_own : (declared : Declared) (name : List ℕ) → paths_of declared (first_part name) ≡ [] → paths_for declared name ≡ own_path name ∷ []
unfolding paths_for
paths_for_own declared name e = ap (λ ps. longer_paths (paths_or ps (first_part name)) (past_first name)) e

pub paths_for_declared : (declared : Declared) (name : List ℕ) (paths : List (List ℕ)) → paths ≡ paths_of declared (first_part name) → 0 < length paths
    → paths_for declared name ≡ longer_paths paths (past_first name)
unfolding paths_for
paths_for_declared declared name [] e h = absurd (omega arith)
paths_for_declared declared name (p ∷ ps) e h = ap (λ qs. longer_paths (paths_or qs (first_part name)) (past_first name)) (sym e)

-- ---- one identifier
pub one_path : (declared : Declared) (allowed : Bool) (s : Site) (path : List ℕ) → paths_for declared s.name ≡ path ∷ [] → is_refused declared allowed s ≡ false
one_path declared allowed s path e =
    ap (λ ps. not allowed && nat_lt 1 (length ps)) e
    ∙ elim allowed as (λ a. (not a && nat_lt 1 (length (path ∷ []))) ≡ false) [ true ↦ refl | false ↦ refl ]

pub refused_one : (declared : Declared) (allowed : Bool) (s : Site) → is_refused declared allowed s ≡ true → first_ambiguous declared allowed (s ∷ []) ≡ Some s.place
refused_one declared allowed s e = ap (λ b. cond b (Some s.place) None) e

pub refused_none : (declared : Declared) (allowed : Bool) (s : Site) → is_refused declared allowed s ≡ true → mentions_in declared (before_ambiguous declared allowed (s ∷ [])) ≡ []
refused_none declared allowed s e = ap (λ b. mentions_in declared (cond b [] (s ∷ []))) e

pub settled_one : (declared : Declared) (allowed : Bool) (s : Site) → is_refused declared allowed s ≡ false → first_ambiguous declared allowed (s ∷ []) ≡ None
settled_one declared allowed s e = ap (λ b. cond b (Some s.place) None) e

-- out of memory at an identifier that is not ambiguous
pub memory_one : (declared : Declared) (allowed : Bool) (s : Site) (mentions : List Mention) (old new : Uses) → is_refused declared allowed s ≡ false → mentions_in declared (s ∷ []) ≡ mentions
    → BeginsUses mentions old new → RefusesUses declared allowed (s ∷ []) old new Memory
memory_one declared allowed s mentions old new e m b = record {
  done = b.done;
  left = b.left;
  whole = b.whole ∙ sym m ∙ ap (λ x. mentions_in declared (cond x [] (s ∷ []))) (sym e);
  now = b.now;
}

-- the uses of one identifier are those of its paths
pub mentions_one : (declared : Declared) (s : Site) (paths : List (List ℕ)) → paths_for declared s.name ≡ paths → mentions_in declared (s ∷ []) ≡ flat_map (mentions_at s.place) paths
mentions_one declared s paths e = append-nil (mentions_of declared s) ∙ ap (flat_map (mentions_at s.place)) e

-- ---- one after another
pub none_after : (declared : Declared) (allowed : Bool) (xs ys : List Site) → first_ambiguous declared allowed xs ≡ None
    → (first_ambiguous declared allowed (xs ++ ys) ≡ first_ambiguous declared allowed ys) × (before_ambiguous declared allowed (xs ++ ys) ≡ xs ++ before_ambiguous declared allowed ys)
none_after declared allowed [] ys e = (refl, refl)
none_after declared allowed (s ∷ xs) ys e =
    elim (is_refused declared allowed s) as (λ b. cond b (Some s.place) (first_ambiguous declared allowed xs) ≡ None
    → (cond b (Some s.place) (first_ambiguous declared allowed (xs ++ ys)) ≡ first_ambiguous declared allowed ys)
    × (cond b [] (s ∷ before_ambiguous declared allowed (xs ++ ys)) ≡ s ∷ (xs ++ before_ambiguous declared allowed ys))) [
      | true ↦ λ g. absurd (cc)
      | false ↦ λ g. (let more = none_after declared allowed xs ys g in (more.0, ap (λ l. s ∷ l) more.1))
    ] e

some_first : (declared : Declared) (allowed : Bool) (xs ys : List Site) (place : ℕ) → first_ambiguous declared allowed xs ≡ Some place
    → (first_ambiguous declared allowed (xs ++ ys) ≡ Some place) × (before_ambiguous declared allowed (xs ++ ys) ≡ before_ambiguous declared allowed xs)
some_first declared allowed [] ys place e = absurd (cc)
some_first declared allowed (s ∷ xs) ys place e =
    elim (is_refused declared allowed s) as (λ b. cond b (Some s.place) (first_ambiguous declared allowed xs) ≡ Some place
    → (cond b (Some s.place) (first_ambiguous declared allowed (xs ++ ys)) ≡ Some place)
    × (cond b [] (s ∷ before_ambiguous declared allowed (xs ++ ys)) ≡ cond b [] (s ∷ before_ambiguous declared allowed xs))) [
      | true ↦ λ g. (g, refl)
      | false ↦ λ g. (let more = some_first declared allowed xs ys place g in (more.0, ap (λ l. s ∷ l) more.1))
    ] e

-- more identifiers only append to those before the first ambiguous one
before_more : (declared : Declared) (allowed : Bool) (xs ys : List Site) → (zs : List Site) × (before_ambiguous declared allowed (xs ++ ys) ≡ before_ambiguous declared allowed xs ++ zs)
before_more declared allowed [] ys = (before_ambiguous declared allowed ys, refl)
before_more declared allowed (s ∷ xs) ys =
    let more = before_more declared allowed xs ys in
    elim (is_refused declared allowed s) as (λ b. (zs : List Site) × (cond b [] (s ∷ before_ambiguous declared allowed (xs ++ ys)) ≡ cond b [] (s ∷ before_ambiguous declared allowed xs) ++ zs)) [
      | true ↦ ([], refl)
      | false ↦ (more.0, ap (λ l. s ∷ l) more.1)
    ]

before_none : (declared : Declared) (allowed : Bool) (xs : List Site) → first_ambiguous declared allowed xs ≡ None → before_ambiguous declared allowed xs ≡ xs
before_none declared allowed xs e =
    ap (before_ambiguous declared allowed) (sym (append-nil xs)) ∙ (none_after declared allowed xs [] e).1 ∙ append-nil xs

-- everything but what is left is substituted
pub record Settled (declared : Declared) (allowed : Bool) (all : List Site) (old now : Uses) (left : List Site) : Type 0 where
  pub done : List Site
  pub none : first_ambiguous declared allowed done ≡ None
  pub uses : now ≡ with_mentions old (mentions_in declared done)
  pub whole : done ++ left ≡ all

pub settled_start : (declared : Declared) (allowed : Bool) (all : List Site) (old now : Uses) → now ≡ old → Settled declared allowed all old now all
settled_start declared allowed all old now e = record { done = []; none = refl; uses = e; whole = refl }

pub settled_more : (declared : Declared) (allowed : Bool) (all : List Site) (old mid new : Uses) (one rest : List Site) → Settled declared allowed all old mid (one ++ rest)
    → first_ambiguous declared allowed one ≡ None → new ≡ with_mentions mid (mentions_in declared one) → Settled declared allowed all old new rest
settled_more declared allowed all old mid new one rest s none now = record {
  done = s.done ++ one;
  none = (none_after declared allowed s.done one s.none).0 ∙ none;
  uses =
      now ∙ ap (λ u. with_mentions u (mentions_in declared one)) s.uses ∙ sym (with_mentions-append old (mentions_in declared s.done) (mentions_in declared one))
      ∙ ap (with_mentions old) (sym (flat_map-append (mentions_of declared) s.done one));
  whole = append_assoc s.done one rest ∙ s.whole;
}

pub settled_none : (declared : Declared) (allowed : Bool) (all : List Site) (old now : Uses) → Settled declared allowed all old now [] → first_ambiguous declared allowed all ≡ None
settled_none declared allowed all old now s = ap (first_ambiguous declared allowed) (sym s.whole ∙ append-nil s.done) ∙ s.none

pub settled_uses : (declared : Declared) (allowed : Bool) (all : List Site) (old now : Uses) → Settled declared allowed all old now [] → now ≡ with_mentions old (mentions_in declared all)
settled_uses declared allowed all old now s = s.uses ∙ ap (λ ss. with_mentions old (mentions_in declared ss)) (sym (append-nil s.done) ∙ s.whole)

-- an error at the next identifier
pub settled_refused : (declared : Declared) (allowed : Bool) (all : List Site) (old mid new : Uses) (one rest : List Site) (fault : SubstituteFault) → Settled declared allowed all old mid (one ++ rest)
    → RefusesUses declared allowed one mid new fault → RefusesUses declared allowed all old new fault
settled_refused declared allowed all old mid new one rest (Ambiguous place) s r =
    let first = some_first declared allowed one rest place r.0 in
    let following = none_after declared allowed s.done (one ++ rest) s.none in
    let before : before_ambiguous declared allowed all ≡ s.done ++ before_ambiguous declared allowed one =
    ap (before_ambiguous declared allowed) (sym s.whole) ∙ following.1 ∙ ap (λ l. s.done ++ l) first.1 in (
      ap (first_ambiguous declared allowed) (sym s.whole) ∙ following.0 ∙ first.0,
      r.1 ∙ ap (λ u. with_mentions u (mentions_in declared (before_ambiguous declared allowed one))) s.uses
          ∙ sym (with_mentions-append old (mentions_in declared s.done) (mentions_in declared (before_ambiguous declared allowed one)))
          ∙ ap (with_mentions old) (sym (flat_map-append (mentions_of declared) s.done (before_ambiguous declared allowed one)))
          ∙ ap (λ ss. with_mentions old (mentions_in declared ss)) (sym before),
    )
settled_refused declared allowed all old mid new one rest Memory s r =
    let following = none_after declared allowed s.done (one ++ rest) s.none in
    let more = before_more declared allowed one rest in
    let before : before_ambiguous declared allowed all ≡ s.done ++ (before_ambiguous declared allowed one ++ more.0) =
    ap (before_ambiguous declared allowed) (sym s.whole) ∙ following.1 ∙ ap (λ l. s.done ++ l) more.1 in
    begins_later (mentions_in declared s.done) (mentions_in declared (before_ambiguous declared allowed one)) (mentions_in declared more.0) (mentions_in declared (before_ambiguous declared allowed all)) old mid new s.uses
    (ap (mentions_in declared) before ∙ flat_map-append (mentions_of declared) s.done (before_ambiguous declared allowed one ++ more.0)
    ∙ ap (λ l. mentions_in declared s.done ++ l) (flat_map-append (mentions_of declared) (before_ambiguous declared allowed one) more.0)) r

-- ---- a number of paths
pub refused_is : (declared : Declared) (allowed : Bool) (s : Site) (xs : List (String Global)) (following : List ℕ) → paths_for declared s.name ≡ longer_paths (map string_bytes xs) following
    → is_refused declared allowed s ≡ (not allowed && nat_lt 1 (length xs))
refused_is declared allowed s xs following e =
    ap (λ n. not allowed && nat_lt 1 n) (ap length e ∙ length-map (map string_bytes xs) (λ path. longer_path path following) ∙ length-map xs string_bytes)

-- an error as the result
pub fault_answer : {T : Type 0} (r : Result T SubstituteFault) (P : SubstituteFault → Type 0) (fault : SubstituteFault) → IsErrAnd r (λ e. e ≡ fault) → P fault → IfErr r P
fault_answer (Ok u) P fault h p = tt
fault_answer (Err e) P fault h p = subst P (sym h) p
