-- In the builds of a make each overridden function is listed once, and no function overrides two.
use Rattle.std.proofs.Common.{◌≡◌, ℕ, zero, suc, ◌<◌, ◌||◌, nat_lt, if◌then◌else◌, Bool, true, false, List, [], ◌∷◌, take, Some, Ok, slice_get, bytes_eq, refl, ap, sym, ◌∙◌, subst, arith}
use Rattle.std.proofs.lemmas.Bool.{false≢true}
use Rattle.std.proofs.lemmas.Option.{none-some}
use Rattle.std.proofs.lemmas.Slice.Eq.{bytes_eq-Decides}
use Rattle.naga_oil_ir.specs.ModuleValue.{ModuleValue}
use Rattle.naga_oil_words.specs.Texts.{is_among}
use Rattle.naga_oil_pre.specs.Preprocessed.{Output}
use Rattle.naga_oil_registry.specs.Registered.{Registered, Defs}
use Rattle.naga_oil_link.specs.BuiltModule.{BuiltModule, Builds, Overriding}
use Rattle.naga_oil_link.specs.CopiedBuild.{copy_build}
use Rattle.naga_oil_link.specs.OwnPlaces.{OwnPlaces}
use Rattle.naga_oil_link.specs.Owned.{own_places, owned_module, owned_build, owning, owning_demoted, demotable, decorated_items}
use Rattle.naga_oil_redirect.specs.ChainLaw.{is_in_chain}
use Rattle.naga_oil_build.specs.Build.{build}
use Rattle.naga_oil_build.specs.Held.{Settings}
use Rattle.naga_oil_build.specs.OverridingForm.{OverridesEachOnce, BuildsOverrideOnce, ShareNoName, NoNameShared, BasesLackMark, BuildsLackMark, OverridesOriginals}
use Rattle.naga_oil_build.proofs.OverridingFormLemmas.{no_name_shared}
use Rattle.naga_oil_build.proofs.OriginalsLemmas.{originals}
use Rattle.naga_oil_build.proofs.WholeTextLemmas.{whole_text}
use Rattle.naga_oil.specs.ChainsLaw.{IsApart, StandsApart, NoneIsBoth, MadeOverridingLaw}
use Rattle.naga_oil.specs.Faithful.{made_builds}
use Rattle.naga_oil.specs.MakeDefs.{make_defs}
use Rattle.naga_oil.proofs.BuiltOfLemmas.{Comes, build_back}
use Rattle.naga_oil.proofs.EachBuiltLemmas.{AllBuilt, answer_made}

-- ---- one build

-- an overridden function stays so while a build gets the parse of its text
owned_overriding : (index : ℕ) (m : ModuleValue) (b : BuiltModule) → (owned_build index m b).overriding ≡ b.overriding
owned_overriding index m b = one (nat_lt 0 index)
  where
    one : (k : Bool) → (let x : BuiltModule = if k then owning_demoted (demotable b.decoration (decorated_items b.decoration m)) (owning m b) else owning m b in x.overriding) ≡ b.overriding
    one true = refl
    one false = refl

copied_overriding : (m : ModuleValue) (own : OwnPlaces) (b : BuiltModule) → (copy_build m own b).overriding ≡ b.overriding
unfolding copy_build
copied_overriding m own b = refl

held_overriding : (s : Settings) (d : Registered) (out : Output) (before : Builds) (b : BuiltModule) → (c : Comes s d out before b) → b.overriding ≡ c.whole.built.overriding
held_overriding s d out before b c =
    let x = c.whole.built in
    let p = c.holding.parse in
    ap (λ (y : BuiltModule). y.overriding) (sym c.holding.copies) ∙ copied_overriding (owned_module x.index x.decoration p) (own_places p) (owned_build x.index p x) ∙ owned_overriding x.index p x

pub built_once : (s : Settings) (d : Registered) (out : Output) (before : Builds) (b : BuiltModule) → BuildsOverrideOnce before → build s d out before ≡ Ok b → OverridesEachOnce b.overriding
built_once s d out before b h e =
    let c = build_back s d out before b e in
    subst OverridesEachOnce (sym (held_overriding s d out before b c)) (whole_text s d before out.uses out.text c.whole h c.written)

-- ---- all builds

there_before : (bs : Builds) (i j : ℕ) (e : List ℕ × BuiltModule) → slice_get (take i bs) j ≡ Some e → (j < i) × (slice_get bs j ≡ Some e)
there_before bs zero j e at = absurd (none-some e at)
there_before [] (suc i) j e at = absurd (none-some e at)
there_before (x ∷ xs) (suc i) zero e at = (omega arith, at)
there_before (x ∷ xs) (suc i) (suc j) e at = let q = there_before xs i j e at in let lt = q.0 in (omega (arith, lt), q.1)

module _ (s : Settings) (ds : List Registered) (defs : Defs) (bs : Builds) (all : AllBuilt s ds defs bs) where
  first_once : (n i : ℕ) (e : List ℕ × BuiltModule) → i < n → slice_get bs i ≡ Some e → OverridesEachOnce e.1.overriding
  first_once zero i e lt at = absurd (omega (arith, lt))
  first_once (suc n) i e lt at =
      let b = all i e at in
      let before : BuildsOverrideOnce (take i bs) = λ j x there. (let q = there_before bs i j x there in let less = q.0 in first_once n j x (omega (arith, lt, less)) q.1) in
      built_once s b.definition b.output (take i bs) e.1 before b.built

  all_once : BuildsOverrideOnce bs
  all_once i e at = first_once (suc i) i e (omega arith) at

pub shader_once : (s : Settings) (ds : List Registered) (defs : Defs) (bs : Builds) (d : Registered) (out : Output) (b : BuiltModule) → AllBuilt s ds defs bs → build s d out bs ≡ Ok b → OverridesEachOnce b.overriding
shader_once s ds defs bs d out b all e = built_once s d out bs b (all_once s ds defs bs all) e

-- ---- texts that override no overriding function

built_lacks : (s : Settings) (d : Registered) (out : Output) (before : Builds) (b : BuiltModule) → BuildsLackMark before → OverridesOriginals out.text → build s d out before ≡ Ok b → BasesLackMark b.overriding
built_lacks s d out before b h l e =
    let c = build_back s d out before b e in
    subst BasesLackMark (sym (held_overriding s d out before b c)) (originals s d before out.uses out.text c.whole h l c.written)

module _ (s : Settings) (ds : List Registered) (defs : Defs) (bs : Builds) (all : AllBuilt s ds defs bs) (texts : (i : ℕ) (e : List ℕ × BuiltModule) (at : slice_get bs i ≡ Some e) → OverridesOriginals (all i e at).output.text) where
  first_lack : (n i : ℕ) (e : List ℕ × BuiltModule) → i < n → slice_get bs i ≡ Some e → BasesLackMark e.1.overriding
  first_lack zero i e lt at = absurd (omega (arith, lt))
  first_lack (suc n) i e lt at =
      let b = all i e at in
      let before : BuildsLackMark (take i bs) = λ j x there. (let q = there_before bs i j x there in let less = q.0 in first_lack n j x (omega (arith, lt, less)) q.1) in
      built_lacks s b.definition b.output (take i bs) e.1 before (texts i e at) b.built

  all_lack : BuildsLackMark bs
  all_lack i e at = first_lack (suc i) i e (omega arith) at

pub shader_lacks : (s : Settings) (ds : List Registered) (defs : Defs) (bs : Builds) (d : Registered) (out : Output) (b : BuiltModule) (all : AllBuilt s ds defs bs) → ((i : ℕ) (e : List ℕ × BuiltModule) (at : slice_get bs i ≡ Some e) → OverridesOriginals (all i e at).output.text) → OverridesOriginals out.text → build s d out bs ≡ Ok b → BasesLackMark b.overriding
shader_lacks s ds defs bs d out b all texts text e = built_lacks s d out bs b (all_lack s ds defs bs all texts) text e

pub shader_shares : (s : Settings) (ds : List Registered) (defs : Defs) (bs : Builds) (d : Registered) (out : Output) (b : BuiltModule) → AllBuilt s ds defs bs → build s d out bs ≡ Ok b → NoNameShared b.overriding
shader_shares s ds defs bs d out b all e = no_name_shared b.overriding (built_once s d out bs b (all_once s ds defs bs all) e)

pub made_overriding : MadeOverridingLaw
made_overriding s ds counter m made shader parse e is =
    let once = all_once s ds (make_defs ds counter m) (made_builds s ds counter m) (answer_made s ds counter m made e).all in
    (once, built_once s is.definition is.is.output (made_builds s ds counter m) shader once is.is.built)

-- ---- chains

none_else : (a b : List ℕ × List (List ℕ)) → ShareNoName a b → (is_among a.1 b.0 ≡ false) × (is_among b.1 a.0 ≡ false) → IsApart a b
none_else a b share both n e = one (bytes_eq n b.0) refl e
  where
    two : (t : Bool) → bytes_eq n a.0 ≡ t → is_among b.1 n ≡ true → (t || is_among a.1 n) ≡ false
    two true q e = absurd (false≢true (sym both.1 ∙ ap (is_among b.1) (sym ((bytes_eq-Decides n a.0).0 q)) ∙ e))
    two false q e = share.names n e

    one : (t : Bool) → bytes_eq n b.0 ≡ t → (t || is_among b.1 n) ≡ true → is_in_chain a.0 a.1 n ≡ false
    one true q e = ap (is_in_chain a.0 a.1) ((bytes_eq-Decides n b.0).0 q) ∙ ap (λ t. t || is_among a.1 b.0) share.base ∙ both.0
    one false q e = two (bytes_eq n a.0) refl e

-- chains of which no function both overrides and is overridden stand apart
pub stands_apart : (all : Overriding) (i : ℕ) (a : List ℕ × List (List ℕ)) → NoNameShared all → slice_get all i ≡ Some a → NoneIsBoth all a → StandsApart all i a
stands_apart all i a share at both j b there other = none_else a b (share i j a b at there other) (both j b there)
