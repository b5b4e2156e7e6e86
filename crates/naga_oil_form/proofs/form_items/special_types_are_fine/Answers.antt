use Rattle.std.proofs.Common.{◌≡◌, ◌∙◌, ◌<◌, ℕ, Bool, true, false, List, All, Decides, length, nat_eq, sym}
use Rattle.std.specs.List.{IsDistinct}
use Rattle.std.proofs.lemmas.Bool.{false≢true}
use Rattle.naga_oil_form.specs.Links.{Links, lists, is_marked, trail, started, AreMarks}
use Rattle.naga_oil_form.specs.ItemForm.{special_types, type_links, types_of, is_sized, is_plain}
use Rattle.naga_oil_ir.specs.declared.module.Module.{Module}
use Rattle.naga_oil_form.proofs.LinkLemmas.{reached_each, each_reached}
use Rattle.naga_oil_form.proofs.FormLemmas.{and_decides, decides_by, decides_same, none_decides, types_long}
use Rattle.naga_oil_form.proofs.form_items.special_types_are_fine.Goals as goal

-- places below one length are the named places below another
there : (b : Bool) (n m : ℕ) (xs ys zs : List ℕ) → n ≡ m → xs ≡ ys → ys ≡ zs → Decides b (All (λ x. x < n) xs) → Decides b (All (λ x. x < m) zs)
there b n m xs ys zs e f g d =
    let N : ℕ → Type 0 = λ i. All (λ x. x < i) zs in
    decides_by N n m b e (decides_by (All (λ x. x < n)) xs zs b (f ∙ g) d)

-- that marked types are plain decides that all that places reach is plain
plain : (m : Module) (b : Bool) (ls ks : Links) (ps qs : List ℕ) (fs gs : List Bool) → ls ≡ ks → ps ≡ qs → gs ≡ fs → AreMarks fs (started ls ps) → Decides b ((k : ℕ) → is_marked gs k ≡ true → is_plain m k ≡ true) → Decides b (All (λ k. All (λ j. is_plain m j ≡ true) (trail ks k)) qs)
plain m b ls ks ps qs fs gs e f g marks d =
    let P : ℕ → Type 0 = λ j. is_plain m j ≡ true in
    let M : List Bool → Type 0 = λ ms. (k : ℕ) → is_marked ms k ≡ true → P k in
    let L : Links → Type 0 = λ xs. All (λ k. All P (trail xs k)) qs in
    let R : List ℕ → Type 0 = λ rs. All (λ k. All P (trail ls k)) rs in
    let each = decides_same {Q = R ps} b (reached_each ls ps fs P marks) (each_reached ls ps fs P marks) (decides_by M gs fs b g d) in
    decides_by L ls ks b e (decides_by R ps qs b f each)

pub returns-then-not-are_below : goal.returns-then-not-are_below
returns-then-not-are_below c =
    let m = c.args.of.now in
    let below = there c.are_below.result _ (length m.types) _ _ (special_types m.special_types) (types_long c.args.links.now m c.requires.links) c.deref.ensures.value c.in_ok-places.ensures c.are_below.ensures in
    (λ h. absurd (false≢true h), λ r. sym c.if-not-are_below.true ∙ below.1 r.there)

pub returns : goal.returns
returns c =
    let m = c.args.of.now in
    let special = special_types m.special_types in
    let named = c.in_ok-places.ensures in
    let below = there c.are_below.result _ (length m.types) _ _ special (types_long c.args.links.now m c.requires.links) c.deref.ensures.value named c.are_below.ensures in
    let distinct = decides_by (IsDistinct nat_eq) _ special _ (c.deref-2.ensures.value ∙ named) c.in_ok-distinct.ensures in
    let unsized = decides_by (All (λ k. is_sized m k ≡ false)) _ special _ (c.deref-5.ensures.value ∙ named) (none_decides (is_marked c.args.sized.now) (is_sized m) c.requires.sized _ c.any_marked.result c.any_marked.ensures) in
    let reach = plain m c.are_plain.result (lists c.args.links.now) (type_links (types_of m)) _ special c.in_ok-reached.reached.items _ c.requires.links (c.deref-4.ensures.value ∙ named) c.deref-7.ensures.value c.in_ok-reached.ensures c.are_plain.ensures in
    let all = and_decides _ _ (and_decides _ _ distinct unsized) reach in
    (λ h. let f = all.0 h in record { there = below.0 c.if-not-are_below.false; distinct = f.0.0; unsized = f.0.1; plain = f.1 }, λ r. all.1 ((r.distinct, r.unsized), r.plain))
