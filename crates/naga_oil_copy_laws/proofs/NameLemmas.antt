-- The names of copies, and lists of places without repeats.
use Rattle.std.proofs.Common.{◌≡◌, ⊎_elim, ℕ, true, List, [], ◌∷◌, ◌++◌, map, refl, ap, sym, ◌∙◌}
use Rattle.std.specs.List.{filter}
use Rattle.std.specs.Map.{keys_of}
use Rattle.std.proofs.lemmas.Bool.{cases_Bool}
use Rattle.std.proofs.lemmas.List.{map-append}
use Rattle.naga_oil_form.specs.Links.{has, added}
use Rattle.naga_oil_ir.specs.ModuleValue.{FunctionValue}
use Rattle.naga_oil_form.proofs.LinkLemmas.{only}
use Rattle.naga_oil_derive.specs.CopiedFunctionLaw.{reached_in}
use Rattle.naga_oil_rename.specs.Renames.{Renames}
use Rattle.naga_oil_walk.proofs.WalkLemmas.{added-append, added-holds, added-known}
use Rattle.naga_oil_copy_laws.specs.ByTree.{named_places, KeepNames}
use Rattle.naga_oil_copy_laws.proofs.ReachLemmas.{has-map}
use Rattle.naga_oil_copy_laws.proofs.RenameLemmas.{after, unchanged, map-after, map-same}

-- what was added once adds nothing more
added_again : (h : ℕ → ℕ) (o p : List ℕ) (x : ℕ) → has p x ≡ true → added (added o (map h p)) (h x ∷ []) ≡ added o (map h p)
added_again h o p x w =
    let q = added o (map h p) in
    let there : has q (h x) ≡ true = added-holds o (map h p) (h x) (has-map h p x w) in
    added-known q (h x ∷ []) (λ y i. ap (has q) (sym (only (h x) y i)) ∙ there)

-- repeats that are taken out before a mapping are taken out after it
added-mapped : (h : ℕ → ℕ) (o p xs : List ℕ) → added o (map h (added p xs)) ≡ added (added o (map h p)) (map h xs)
added-mapped h o p [] = refl
added-mapped h o p (x ∷ xs) =
    ⊎_elim
    (λ e. rw e (added-mapped h o p xs ∙ ap (λ q. added q (map h xs)) (sym (added_again h o p x e)) ∙ sym (added-append (added o (map h p)) (h x ∷ []) (map h xs))))
    (λ e. rw e (added-mapped h o (p ++ x ∷ []) xs ∙ ap (λ q. added q (map h xs)) (ap (added o) (map-append h p (x ∷ [])) ∙ added-append o (map h p) (h x ∷ [])) ∙ sym (added-append (added o (map h p)) (h x ∷ []) (map h xs))))
    (cases_Bool (has p x))

pub added-map : (h : ℕ → ℕ) (xs : List ℕ) → added [] (map h (added [] xs)) ≡ added [] (map h xs)
added-map h xs = added-mapped h [] [] xs

pub added-twice : (xs : List ℕ) → added [] (added [] xs) ≡ added [] xs
added-twice xs =
    let same = map-same (λ (x : ℕ). x) (λ x. refl) in
    ap (added []) (sym (same (added [] xs))) ∙ added-map (λ x. x) xs ∙ ap (added []) (same xs)

pub names-after : (c d : Renames) (f g h : FunctionValue) → KeepNames c f g → KeepNames d g h → KeepNames (after d c) f h
names-after c d f g h x y = record {
  order = y.order ∙ ap (λ ns. added [] (map d.expression ns)) x.order ∙ added-map d.expression (map c.expression (named_places f)) ∙ ap (added []) (map-after d.expression c.expression (λ k. d.expression (c.expression k)) (λ k. refl) (named_places f));
  each = λ k n w e. let s = y.each k n w e in let r = x.each s.place n s.reached s.named in record { place = r.place; reached = r.reached; named = r.named; goes = ap d.expression r.goes ∙ s.goes };
}

pub names-same : (f : FunctionValue) → KeepNames unchanged f f
names-same f = record {
  order = sym (ap (added []) (map-same (λ (k : ℕ). k) (λ k. refl) (named_places f)) ∙ added-twice (filter (λ k. has (reached_in f) k) (keys_of f.named_expressions)));
  each = λ h n w e. record { place = h; reached = w; named = e; goes = refl };
}
