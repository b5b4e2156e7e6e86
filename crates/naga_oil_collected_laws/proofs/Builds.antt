-- Builds that aren't reached give nothing to a link.
use Rattle.std.proofs.Common.{◌≡◌, ℕ, Bool, true, false, ◌||◌, if◌then◌else◌, List, [], ◌∷◌, fold, reverse, bytes_eq, All, None, refl, ap, sym, ◌∙◌}
use mathlib.Core.List.{reverse_aux}
use Rattle.std.specs.List.{filter, list_any}
use Rattle.std.proofs.lemmas.List.Elements.{All-nil, All-cons, All-head, All-tail}
use Rattle.std.proofs.lemmas.Slice.Eq.{bytes_eq-Decides}
use Rattle.naga_oil_form.proofs.LinkLemmas.{or_left, or_right}
use Rattle.naga_oil_words.specs.Texts.{is_among}
use Rattle.naga_oil_imports.specs.Uses.{Import}
use Rattle.naga_oil_derive.specs.CopiedEntry.{make_module}
use Rattle.naga_oil_derive.specs.DerivedValue.{set_source}
use Rattle.naga_oil_link.specs.BuiltModule.{BuiltModule, Builds}
use Rattle.naga_oil_link.specs.Linked.{LinkState, enter, link_asked, link_within, link_import, link_imports, link_items, link_header, link_whole, nothing_linked}
use Rattle.naga_oil_collected_laws.specs.ReachedBuilds.{reaches, reached_builds, ReachedBuildsLaw}

abbrev Entry : Type 0
Entry = List ℕ × BuiltModule

-- ---- filtered lists

filter_back : (keep : Entry → Bool) (xs ys : Builds) → filter keep (reverse_aux xs ys) ≡ reverse_aux (filter keep xs) (filter keep ys)
filter_back keep [] ys = refl
filter_back keep (x ∷ xs) ys = filter_back keep xs (x ∷ ys) ∙ one (keep x)
  where
    one : (b : Bool) → reverse_aux (filter keep xs) (if b then x ∷ filter keep ys else filter keep ys) ≡ reverse_aux (if b then x ∷ filter keep xs else filter keep xs) (filter keep ys)
    one true = refl
    one false = refl

-- ---- one import

module _ (of_headers : Bool) (keep : Entry → Bool) where
  -- builds that an import reaches are kept
  abbrev Kept : Builds → Import → Type 0
  Kept bs i = (e : Entry) → reaches bs e.0 i ≡ true → keep e ≡ true

  abbrev Same : Builds → Type 0
  Same bs = (s : LinkState) (i : Import) → Kept bs i → link_import of_headers bs s i ≡ link_import of_headers (filter keep bs) s i

  -- two steps do the same for an import
  abbrev DoSame : (f g : LinkState → Import → LinkState) → Import → Type 0
  DoSame f g i = (s : LinkState) → f s i ≡ g s i

  each_same : (f g : LinkState → Import → LinkState) (is : List Import) (s : LinkState) → All (DoSame f g) is → fold f s is ≡ fold g s is
  each_same f g [] s a = refl
  each_same f g (i ∷ is) s a = ap (λ t. fold f t is) (All-head (DoSame f g) i is a s) ∙ each_same f g is (g s i) (All-tail (DoSame f g) i is a)

  -- what imports reach together is kept, so what each reaches is
  all_kept : (bs : Builds) → Same bs → (is : List Import) → ((e : Entry) → list_any (reaches bs e.0) is ≡ true → keep e ≡ true) → All (DoSame (link_import of_headers bs) (link_import of_headers (filter keep bs))) is
  all_kept bs h [] k = All-nil (DoSame (link_import of_headers bs) (link_import of_headers (filter keep bs)))
  all_kept bs h (i ∷ is) k =
      All-cons (DoSame (link_import of_headers bs) (link_import of_headers (filter keep bs))) i is
      (λ s. h s i (λ e r. k e (or_left (reaches bs e.0 i) (list_any (reaches bs e.0) is) r)))
      (all_kept bs h is (λ e r. k e (or_right (reaches bs e.0 i) (list_any (reaches bs e.0) is) r)))

  -- what an import reaches in builds of which the newest is this one, and what it links of it, by whether it is that import's
  abbrev reaches_by : Builds → Import → Entry → Bool → Entry → Bool
  reaches_by bs i e b x = if b then bytes_eq x.0 e.0 || list_any (reaches bs x.0) e.1.imports else reaches bs x.0 i

  abbrev linked_by : LinkState → Import → Entry → Bool → Builds → LinkState
  linked_by s i e b cs = if b then link_asked of_headers i e.1 (link_within (link_import of_headers cs) e s) else link_import of_headers cs s i

  pub import_same : (bs : Builds) → Same bs
  unfolding link_import reaches
  import_same [] s i k = refl
  import_same (e ∷ bs) s i k = at_name (bytes_eq i.import e.0) refl (import_same bs) k
    where
      within : Same bs → ((x : Entry) → reaches_by bs i e true x ≡ true → keep x ≡ true) → (b : Bool) → (if b then s else fold (link_import of_headers bs) (enter e.0 s) e.1.imports) ≡ (if b then s else fold (link_import of_headers (filter keep bs)) (enter e.0 s) e.1.imports)
      within h k true = refl
      within h k false = each_same (link_import of_headers bs) (link_import of_headers (filter keep bs)) e.1.imports (enter e.0 s) (all_kept bs h e.1.imports (λ x r. k x (or_right (bytes_eq x.0 e.0) (list_any (reaches bs x.0) e.1.imports) r)))

      at_name : (b : Bool) → bytes_eq i.import e.0 ≡ b → Same bs → ((x : Entry) → reaches_by bs i e b x ≡ true → keep x ≡ true) → linked_by s i e b bs ≡ link_import of_headers (if keep e then e ∷ filter keep bs else filter keep bs) s i
      at_name true q h k =
          let is : keep e ≡ true = k e (or_left (bytes_eq e.0 e.0) (list_any (reaches bs e.0) e.1.imports) ((bytes_eq-Decides e.0 e.0).1 refl)) in
          let there : linked_by s i e true bs ≡ linked_by s i e true (filter keep bs) = ap (link_asked of_headers i e.1) (within h k (is_among s.entered e.0)) in
          there ∙ ap (λ b. linked_by s i e b (filter keep bs)) (sym q) ∙ ap (λ b. link_import of_headers (if b then e ∷ filter keep bs else filter keep bs) s i) (sym is)
      at_name false q h k = h s i k ∙ kept_or_not (keep e)
        where
          kept_or_not : (c : Bool) → link_import of_headers (filter keep bs) s i ≡ link_import of_headers (if c then e ∷ filter keep bs else filter keep bs) s i
          kept_or_not true = ap (λ b. linked_by s i e b (filter keep bs)) (sym q)
          kept_or_not false = refl

-- ---- imports

imports_same : (of_headers : Bool) (bs : Builds) (is : List Import) (s : LinkState) → link_imports of_headers bs is s ≡ link_imports of_headers (reached_builds bs is) is s
imports_same of_headers bs is s =
    let keep = λ (e : Entry). list_any (reaches (reverse bs) e.0) is in
    each_same of_headers keep (link_import of_headers (reverse bs)) (link_import of_headers (filter keep (reverse bs))) is s (all_kept of_headers keep (reverse bs) (import_same of_headers keep (reverse bs)) is (λ e r. r))
    ∙ ap (λ cs. fold (link_import of_headers cs) s is) (filter_back keep bs [])

header_same : (bs : Builds) (is : List Import) → link_header bs is ≡ link_header (reached_builds bs is) is
unfolding link_header
header_same bs is = ap (λ (s : LinkState). s.derived.target) (imports_same true bs is nothing_linked)

whole_same : (bs : Builds) (b : BuiltModule) → link_whole bs b ≡ link_whole (reached_builds bs b.imports) b
unfolding link_whole
whole_same bs b = ap (λ (s : LinkState). make_module (set_source (link_items false b None s.derived) b.value 0)) (imports_same false bs b.imports nothing_linked)

pub reached_give : ReachedBuildsLaw
reached_give = record { header = header_same; whole = whole_same }
