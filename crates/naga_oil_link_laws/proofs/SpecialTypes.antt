-- The special types that a module begins with, where it has none yet.
use Rattle.std.proofs.Common.{◌≡◌, ℕ, Bool, true, false, cond, nat_eq, List, [], ◌∷◌, ◌++◌, map, Option, Some, None, option_map, is_some, if◌then◌else◌, refl, ap, sym, ◌∙◌, subst, append_assoc, append-nil}
use Rattle.std.specs.Map.{lookup}
use Rattle.naga_oil_ir.specs.ModuleValue.{SpecialValue, no_items}
use Rattle.naga_oil_derive.specs.declared.special.SpecialKey.{SpecialKey}
use Rattle.naga_oil_derive.specs.declared.special.SpecialKey.TheVariants.{RayDesc, RayIntersection, RayVertexReturn, Predeclared}
use Rattle.naga_oil_derive.specs.World.{LacksKey, HaveDistinctKeys, special_entry, special_entries, special_at, with_special, with_specials}
use Rattle.naga_oil_derive.proofs.SpecialLemmas.{Entry, coded, entries_nested, special_others}

abbrev Pair : Type 0
Pair = ℕ × ℕ

abbrev special : Option ℕ → Option ℕ → Option ℕ → List Pair → SpecialValue
special a b c es = record { ray_desc = a; ray_intersection = b; ray_vertex_return = c; predeclared_types = es }

abbrev parts_in : Option ℕ → Option ℕ → Option ℕ → List Entry → List Entry
parts_in a b c es = special_entry RayDesc a ++ (special_entry RayIntersection b ++ (special_entry RayVertexReturn c ++ es))

-- ---- predeclared types

-- no special type has one of these keys
abbrev Lacks : SpecialValue → List Entry → Type 0
Lacks s [] = Unit {0}
Lacks s (e ∷ es) = (special_at s e.0 ≡ None) × Lacks s es

lacks_still : (s : SpecialValue) (key : SpecialKey) (h : ℕ) (es : List Entry) → LacksKey key es → Lacks s es → Lacks (with_special s key h) es
lacks_still s key h [] l a = tt
lacks_still s key h (e ∷ es) l a = (special_others s key e.0 h l.0 ∙ a.0, lacks_still s key h es l.1 a.1)

module _ (f : ℕ → ℕ) where
  abbrev placed : Pair → Pair
  placed e = (e.0, f e.1)

  abbrev entry_placed : Entry → Entry
  entry_placed e = (e.0, f e.1)

  -- they are added one after another
  coded_come : (es done : List Pair) (a b c : Option ℕ) → HaveDistinctKeys (coded es) → Lacks (special a b c done) (coded es) → with_specials (special a b c done) f (coded es) ≡ special a b c (done ++ map placed es)
  coded_come [] done a b c d l = ap (special a b c) (sym (append-nil done))
  coded_come (e ∷ es) done a b c d l =
      let s = special a b c done in
      let key = Predeclared e.0 in
      ap (λ o. with_specials (if is_some o then s else with_special s key (f e.1)) f (coded es)) l.0
      ∙ coded_come es (done ++ (e.0, f e.1) ∷ []) a b c d.1 (lacks_still s key (f e.1) (coded es) d.0 l.1)
      ∙ ap (special a b c) (append_assoc done ((e.0, f e.1) ∷ []) (map placed es))

  lacks_coded : (a b c : Option ℕ) (es : List Pair) → Lacks (special a b c []) (coded es)
  lacks_coded a b c [] = tt
  lacks_coded a b c (e ∷ es) = (refl, lacks_coded a b c es)

  -- ---- everything

  abbrev empty : SpecialValue
  empty = no_items.special_types

  named_come : (a b c : Option ℕ) (es : List Entry) → with_specials empty f (parts_in a b c es) ≡ with_specials (special (option_map f a) (option_map f b) (option_map f c) []) f es
  named_come None None None es = refl
  named_come None None (Some c) es = refl
  named_come None (Some b) None es = refl
  named_come None (Some b) (Some c) es = refl
  named_come (Some a) None None es = refl
  named_come (Some a) None (Some c) es = refl
  named_come (Some a) (Some b) None es = refl
  named_come (Some a) (Some b) (Some c) es = refl

  coded_placed : (es : List Pair) → map entry_placed (coded es) ≡ coded (map placed es)
  coded_placed [] = refl
  coded_placed (e ∷ es) = ap (λ xs. (Predeclared e.0, f e.1) ∷ xs) (coded_placed es)

  parts_placed : (a b c : Option ℕ) (es xs : List Entry) → map entry_placed es ≡ xs → map entry_placed (parts_in a b c es) ≡ parts_in (option_map f a) (option_map f b) (option_map f c) xs
  parts_placed None None None es xs e = e
  parts_placed None None (Some c) es xs e = ap (parts_in None None (Some (f c))) e
  parts_placed None (Some b) None es xs e = ap (parts_in None (Some (f b)) None) e
  parts_placed None (Some b) (Some c) es xs e = ap (parts_in None (Some (f b)) (Some (f c))) e
  parts_placed (Some a) None None es xs e = ap (parts_in (Some (f a)) None None) e
  parts_placed (Some a) None (Some c) es xs e = ap (parts_in (Some (f a)) None (Some (f c))) e
  parts_placed (Some a) (Some b) None es xs e = ap (parts_in (Some (f a)) (Some (f b)) None) e
  parts_placed (Some a) (Some b) (Some c) es xs e = ap (parts_in (Some (f a)) (Some (f b)) (Some (f c))) e

  distinct_coded : (a b c : Option ℕ) (es : List Entry) → HaveDistinctKeys (parts_in a b c es) → HaveDistinctKeys es
  distinct_coded None None None es d = d
  distinct_coded None None (Some c) es d = d.1
  distinct_coded None (Some b) None es d = d.1
  distinct_coded None (Some b) (Some c) es d = d.1.1
  distinct_coded (Some a) None None es d = d.1
  distinct_coded (Some a) None (Some c) es d = d.1.1
  distinct_coded (Some a) (Some b) None es d = d.1.1
  distinct_coded (Some a) (Some b) (Some c) es d = d.1.1.1

  specials_come : (s : SpecialValue) → HaveDistinctKeys (special_entries s) → with_specials empty f (special_entries s) ≡ special (option_map f s.ray_desc) (option_map f s.ray_intersection) (option_map f s.ray_vertex_return) (map placed s.predeclared_types)
  specials_come s d =
      let a = s.ray_desc in
      let b = s.ray_intersection in
      let c = s.ray_vertex_return in
      let es = s.predeclared_types in
      let x = option_map f a in
      let y = option_map f b in
      let z = option_map f c in
      let own = distinct_coded a b c (coded es) (subst HaveDistinctKeys (entries_nested s) d) in
      ap (with_specials empty f) (entries_nested s) ∙ named_come a b c (coded es) ∙ coded_come es [] x y z own (lacks_coded x y z es)

  code_placed : (c : ℕ) (es : List Pair) → lookup (nat_eq c) (map placed es) ≡ option_map f (lookup (nat_eq c) es)
  code_placed c [] = refl
  code_placed c (e ∷ es) = one (nat_eq c e.0) (code_placed c es)
    where
      one : (b : Bool) → lookup (nat_eq c) (map placed es) ≡ option_map f (lookup (nat_eq c) es) → cond b (Some (f e.1)) (lookup (nat_eq c) (map placed es)) ≡ option_map f (cond b (Some e.1) (lookup (nat_eq c) es))
      one true h = refl
      one false h = h

  key_placed : (s : SpecialValue) (key : SpecialKey) → special_at (special (option_map f s.ray_desc) (option_map f s.ray_intersection) (option_map f s.ray_vertex_return) (map placed s.predeclared_types)) key ≡ option_map f (special_at s key)
  key_placed s RayDesc = refl
  key_placed s RayIntersection = refl
  key_placed s RayVertexReturn = refl
  key_placed s (Predeclared c) = code_placed c s.predeclared_types

  -- the special type for a key is what the source's maps to
  pub special_placed : (s : SpecialValue) → HaveDistinctKeys (special_entries s) → (key : SpecialKey) → special_at (with_specials empty f (special_entries s)) key ≡ option_map f (special_at s key)
  special_placed s d key = ap (λ v. special_at v key) (specials_come s d) ∙ key_placed s key

  -- a module without special types gets those of a source, each at the place it maps to
  pub specials_placed : (s : SpecialValue) → HaveDistinctKeys (special_entries s) → special_entries (with_specials empty f (special_entries s)) ≡ map entry_placed (special_entries s)
  specials_placed s d =
      let a = s.ray_desc in
      let b = s.ray_intersection in
      let c = s.ray_vertex_return in
      let es = s.predeclared_types in
      let x = option_map f a in
      let y = option_map f b in
      let z = option_map f c in
      let nested = entries_nested s in
      ap special_entries (specials_come s d) ∙ entries_nested (special x y z (map placed es)) ∙ sym (ap (map entry_placed) nested ∙ parts_placed a b c (coded es) (coded (map placed es)) (coded_placed es))
