-- What headers declare is what imports request.
use Rattle.std.proofs.Common.{◌≡◌, ◌⊎◌, inl, inr, ⊎_elim, ℕ, zero, suc, ◌*◌, Bool, true, false, if◌then◌else◌, List, [], ◌∷◌, fold, Some, is_some, slice_get, bytes_eq, refl, ap, sym, ◌∙◌}
use Rattle.std.specs.List.{filter}
use Rattle.naga_oil_ir.specs.ModuleValue.{ModuleValue}
use Rattle.naga_oil_ir.specs.Rows.{Text}
use Rattle.naga_oil_words.specs.Texts.{is_among}
use Rattle.naga_oil_imports.specs.Uses.{Import}
use Rattle.naga_oil_derive.specs.Derived.{Derived}
use Rattle.naga_oil_derive.specs.DerivedFunctions.{meant}
use Rattle.naga_oil_derive.specs.DerivedValue.{import_item, import_function, set_source}
use Rattle.naga_oil_link.specs.BuiltModule.{BuiltModule, Builds}
use Rattle.naga_oil_link.specs.Linked.{LinkState, Asked, links_place, links_function, link_function, link_source, link_items, link_asked, asked_of, enter, link_within, link_import, nothing_linked}
use Rattle.naga_oil_link.specs.OwnPlaces.{OwnPlaces}
use Rattle.naga_oil_link.specs.Places.{places_of}
use Rattle.naga_oil_link_laws.specs.Headers.{HasNamed, HasDeclarations}
use Rattle.naga_oil_link_laws.specs.Requested.{HasPassing, AnyAsks, Chosen, Asks}
use Rattle.naga_oil_link_laws.proofs.Names.{Function, Quiet, declared, items_quiet, set_functions}
use Rattle.naga_oil_ir.specs.Spans.{span_stride}

abbrev pub Entry : Type 0
Entry = List ℕ × BuiltModule

-- each of some builds has the property over those before it, the newest first
abbrev pub AllAfter : (Builds → Entry → Type 0) → Builds → Type 0
AllAfter Q [] = Unit {0}
AllAfter Q (e ∷ earlier) = Q earlier e × AllAfter Q earlier

-- ---- what is declared

pub passing_after : (test : Function → Bool) (f : Function) (fs : List Function) (n : Text) → HasPassing test fs n → HasPassing test (f ∷ fs) n
passing_after test f fs n h = (suc h.0, h.1, h.2, h.3, h.4)

-- functions without bodies
abbrev pub AreBodiless : List Function → Type 0
AreBodiless fs = (k : ℕ) (f : Function) → slice_get fs k ≡ Some f → f.0.body ≡ []

one_declared : (d : Derived) (f : Function) → f.0.body ≡ [] → (n : Text) → HasNamed (link_function d f).target n → HasNamed d.target n ⊎ (f.0.name ≡ n)
one_declared d f none n h = one (is_some (meant d.function_names f.0.name)) h
  where
    one : (b : Bool) → HasNamed (let r : Derived = if b then d else import_function d f.0 f.1 in r.target) n → HasNamed d.target n ⊎ (f.0.name ≡ n)
    one true h = inl h
    one false h =
        ⊎_elim
        (λ (old : slice_get d.target.functions h.0 ≡ Some h.1). inl (h.0, h.1, old, h.3))
        (λ (new : (f.0.name ≡ h.1.0.name) × (h.1.0.body ≡ [])). inr (new.0 ∙ h.3))
        (declared d f.0 f.1 none h.0 h.1 h.2)

functions_declared : (test : Function → Bool) (fs : List Function) (d : Derived) → AreBodiless fs → (n : Text) → HasNamed (fold link_function d (filter test fs)).target n → HasNamed d.target n ⊎ HasPassing test fs n
functions_declared test [] d none n h = inl h
functions_declared test (f ∷ fs) d none n h = one (test f) refl (λ e. functions_declared test fs e (λ k g at. none (suc k) g at) n) h
  where
    one : (b : Bool) → test f ≡ b → ((e : Derived) → HasNamed (fold link_function e (filter test fs)).target n → HasNamed e.target n ⊎ HasPassing test fs n) → HasNamed (let r : Derived = fold link_function d (if b then f ∷ filter test fs else filter test fs) in r.target) n → HasNamed d.target n ⊎ HasPassing test (f ∷ fs) n
    one true q rest h =
        ⊎_elim
        (λ (old : HasNamed (link_function d f).target n). ⊎_elim (λ x. inl x) (λ (same : f.0.name ≡ n). inr (zero, f, refl, q, same)) (one_declared d f (none zero f refl) n old))
        (λ (new : HasPassing test fs n). inr (passing_after test f fs n new))
        (rest (link_function d f) h)
    one false q rest h = ⊎_elim (λ x. inl x) (λ (new : HasPassing test fs n). inr (passing_after test f fs n new)) (rest d h)

-- what is linked of a module without bodies
source_declared : (b : BuiltModule) (own : OwnPlaces) (m : ModuleValue) (asked : Asked) (d : Derived) → AreBodiless m.functions → (n : Text) → HasNamed (link_source b own m asked d).target n → HasNamed d.target n ⊎ HasPassing (links_function b asked) m.functions n
source_declared b own m asked d none n h =
    let e = set_source d m (b.index * span_stride) in
    let ps = filter (links_place own m asked) (places_of m) in
    let f = fold import_item e ps in
    let quiet : Quiet e f = items_quiet ps e in
    let same : f.target.functions ≡ d.target.functions = quiet.functions ∙ set_functions d m (b.index * span_stride) in
    ⊎_elim
    (λ (old : HasNamed f.target n). inl (old.0, old.1, ap (λ (xs : List Function). slice_get xs old.0) (sym same) ∙ old.2, old.3))
    (λ (new : HasPassing (links_function b asked) m.functions n). inr new)
    (functions_declared (links_function b asked) m.functions f none n h)

-- ---- headers

module _ (Q : Builds → Entry → Type 0) (declarations : (earlier : Builds) (e : Entry) → Q earlier e → HasDeclarations e.1) where
  fold_asks : (f : LinkState → Import → LinkState) (asks : Import → Text → Type 0) → ((s : LinkState) (i : Import) (n : Text) → HasNamed (f s i).derived.target n → HasNamed s.derived.target n ⊎ asks i n) → (is : List Import) (s : LinkState) (n : Text) → HasNamed (fold f s is).derived.target n → HasNamed s.derived.target n ⊎ AnyAsks asks is n
  fold_asks f asks h [] s n x = inl x
  fold_asks f asks h (i ∷ is) s n x =
      ⊎_elim
      (λ (old : HasNamed (f s i).derived.target n). ⊎_elim (λ y. inl y) (λ (y : asks i n). inr (inl y)) (h s i n old))
      (λ (new : AnyAsks asks is n). inr (inr new))
      (fold_asks f asks h is (f s i) n x)

  -- what an import brings is requested by it
  abbrev OnlyAsked : Builds → Type 0
  OnlyAsked bs = (s : LinkState) (i : Import) (n : Text) → HasNamed (link_import true bs s i).derived.target n → HasNamed s.derived.target n ⊎ Asks bs i n

  header_asks : (bs : Builds) → AllAfter Q bs → OnlyAsked bs
  unfolding link_import link_items
  header_asks [] a s i n h = inl h
  header_asks (e ∷ bs) a s i n h = one (header_asks bs a.1) (bytes_eq i.import e.0) h
    where
      within : OnlyAsked bs → (b : Bool) → HasNamed (let r : LinkState = if b then s else fold (link_import true bs) (enter e.0 s) e.1.imports in r.derived.target) n → HasNamed s.derived.target n ⊎ AnyAsks (Asks bs) e.1.imports n
      within rest true h = inl h
      within rest false h = fold_asks (link_import true bs) (Asks bs) rest e.1.imports (enter e.0 s) n h

      one : OnlyAsked bs → (b : Bool) → HasNamed (let r : LinkState = if b then link_asked true i e.1 (link_within (link_import true bs) e s) else link_import true bs s i in r.derived.target) n → HasNamed s.derived.target n ⊎ Chosen b (HasPassing (links_function e.1 (asked_of i e.1)) e.1.header.functions n ⊎ AnyAsks (Asks bs) e.1.imports n) (Asks bs i n)
      one rest true h =
          ⊎_elim
          (λ (old : HasNamed (link_within (link_import true bs) e s).derived.target n). ⊎_elim (λ y. inl y) (λ (y : AnyAsks (Asks bs) e.1.imports n). inr (inr y)) (within rest (is_among s.entered e.0) old))
          (λ (new : HasPassing (links_function e.1 (asked_of i e.1)) e.1.header.functions n). inr (inl new))
          (source_declared e.1 e.1.own_in_header e.1.header (asked_of i e.1) (link_within (link_import true bs) e s).derived (declarations bs e a.0).without_bodies n h)
      one rest false h = rest s i n h

  -- what the header of imports declares is requested by one of them
  pub imports_ask : (bs : Builds) → AllAfter Q bs → (is : List Import) (n : Text) → HasNamed (fold (link_import true bs) nothing_linked is).derived.target n → AnyAsks (Asks bs) is n
  imports_ask bs a is n h = ⊎_elim (λ (old : HasNamed nothing_linked.derived.target n). absurd cc) (λ y. y) (fold_asks (link_import true bs) (Asks bs) (header_asks bs a) is nothing_linked n h)
