-- Law: what is linked and built depends only on the builds that it imports.
use Rattle.std.proofs.Common.{◌≡◌, ℕ, List, [], ◌∷◌, ◌++◌, fold, map, reverse, Bool, true, false, ◌||◌, cond, refl, sym, ap, subst, ◌∙◌, Option, Some, None, option_map, Result, Ok}
use Rattle.std.proofs.lemmas.Bool.{true≢false}
use Rattle.std.proofs.lemmas.List.{reverse-append}
use Rattle.std.proofs.lemmas.List.Elements.{All-head, All-tail, All-map}
use Rattle.std.proofs.lemmas.Map.{lookup-none}
use Rattle.std.proofs.lemmas.Map.Entries.{none_past_head}
use Rattle.std.proofs.lemmas.Map.Keys.{IsDistinct-tail}
use Rattle.std.proofs.lemmas.Slice.Eq.{bytes_eq-Decides}
use Rattle.std.specs.Cmp.{IsEquivalence}
use Rattle.std.specs.List.{list_any, All}
use Rattle.std.specs.Map.{keys_of}
use Rattle.std.specs.Option.{IsSomeAnd, option_or}
use Rattle.std.specs.Str.{bytes_eq}
use Rattle.naga_oil_imports.specs.Uses.{Import, Use}
use Rattle.naga_oil_conditions.specs.Fault.{Fault}
use Rattle.naga_oil_pre.specs.Preprocessed.{Output}
use Rattle.naga_oil_words.specs.ResultSteps.{◌>>=◌}
use Rattle.naga_oil_registry.specs.Registered.{Registered}
use Rattle.naga_oil_registry.specs.Keywords.{MarkedFunction}
use Rattle.naga_oil_registry.proofs.RegistryLemmas.{bytes_same}
use Rattle.naga_oil_link.specs.BuiltModule.{BuiltModule, Builds, Overriding, nothing_built}
use Rattle.naga_oil_link.specs.Linked.{LinkState, enter, link_asked, link_items, link_within, link_import, link_imports, nothing_linked, link_header, link_whole}
use Rattle.naga_oil_derive.specs.CopiedEntry.{make_module}
use Rattle.naga_oil_derive.specs.DerivedValue.{set_source}
use Rattle.naga_oil_build.specs.Build.{WholeText, decoration_of, begin_build, first_lines, write_heading, write_whole, Unbuilt, from_offset, build}
use Rattle.naga_oil_build.specs.Built.{header_text}
use Rattle.naga_oil_build.specs.Held.{Settings, hold}
use Rattle.naga_oil_build.specs.Overriding.{build_named, overridden, with_build, imported_overriding}
use Rattle.naga_oil_build.specs.Virtuals.{Overrides, imported_build, unless_virtual, override_name, marked_override, item_and_module, noted, with_override, with_overrides, virtual_edits, overrides_in, functions_told, functions_in}
use Rattle.naga_oil.proofs.ChainLemmas.{same_bytes}
use Rattle.naga_oil.specs.LocalLaw.{newest, AreOne, AlikeIn, ImportsAlike, UsesAlike, BuildsDiffer, ImportLaw, LinkLaw, BuildLaw}

-- steps that are alike at each item lead to one end
pub fold_alike : {X Y : Type 0} (f g : Y → X → Y) (P : X → Type 0) → ((y : Y) (x : X) → P x → f y x ≡ g y x) → (xs : List X) (y : Y) → All P xs → fold f y xs ≡ fold g y xs
fold_alike f g P h [] y all = refl
fold_alike f g P h (x ∷ xs) y all = ap (λ z. fold f z xs) (h y x (All-head P x xs all)) ∙ fold_alike f g P h xs (g y x) (All-tail P x xs all)

-- ---- linking

module _ (of_headers : Bool) (i : Import) where
  -- what an import links of the newest build of its name
  abbrev link_found : Option (BuiltModule × Builds) → LinkState → LinkState
  link_found None s = s
  link_found (Some f) s = link_asked of_headers i f.0 (link_within (link_import of_headers f.1) (i.import, f.0) s)

  links_newest : (bs : Builds) (s : LinkState) → link_import of_headers bs s i ≡ link_found (newest i.import bs) s
  unfolding link_import
  links_newest [] s = refl
  links_newest (e ∷ earlier) s = by (bytes_eq i.import e.0) refl (links_newest earlier s)
    where
      by : (b : Bool) → bytes_eq i.import e.0 ≡ b → link_import of_headers earlier s i ≡ link_found (newest i.import earlier) s → cond b (link_asked of_headers i e.1 (link_within (link_import of_headers earlier) e s)) (link_import of_headers earlier s i) ≡ link_found (cond b (Some (e.1, earlier)) (newest i.import earlier)) s
      by true q known = ap (λ n. link_asked of_headers i e.1 (link_within (link_import of_headers earlier) (n, e.1) s)) (sym (bytes_same i.import e.0 q))
      by false q known = known

  module _ (bs cs : Builds) (known : (s : LinkState) (x : Import) → AlikeIn bs cs x.import → link_import of_headers bs s x ≡ link_import of_headers cs s x) where
    found_alike : (b c : BuiltModule) → AreOne (AlikeIn bs cs) b c → (s : LinkState) → link_found (Some (b, bs)) s ≡ link_found (Some (c, cs)) s
    found_alike b c one s =
        ap (λ t. link_asked of_headers i b (cond (list_any (bytes_eq i.import) s.entered) s t)) (fold_alike (link_import of_headers bs) (link_import of_headers cs) (λ x. AlikeIn bs cs x.import) known b.imports (enter i.import s) one.imports)
        ∙ ap (λ x. link_found (Some (x, cs)) s) one.same

-- an import links alike out of two rows of builds in which its name stands alike
pub import_alike : ImportLaw
unfolding AlikeIn
import_alike of_headers [] cs s i h = links_newest of_headers i [] s ∙ ap (λ o. link_found of_headers i o s) (sym h) ∙ sym (links_newest of_headers i cs s)
import_alike of_headers (e ∷ earlier) cs s i h = links_newest of_headers i (e ∷ earlier) s ∙ by (bytes_eq i.import e.0) h (λ c t x. import_alike of_headers earlier c t x)
  where
    Known : Type 0
    Known = (c : Builds) (t : LinkState) (x : Import) → AlikeIn earlier c x.import → link_import of_headers earlier t x ≡ link_import of_headers c t x

    here : (o : Option (BuiltModule × Builds)) → newest i.import cs ≡ o → IsSomeAnd o (λ f. AreOne (AlikeIn earlier f.1) e.1 f.0) → Known → link_found of_headers i (Some (e.1, earlier)) s ≡ link_import of_headers cs s i
    here None at one known = absurd one
    here (Some f) at one known =
        found_alike of_headers i earlier f.1 (known f.1) e.1 f.0 one s
        ∙ ap (λ o. link_found of_headers i o s) (sym at) ∙ sym (links_newest of_headers i cs s)

    by : (b : Bool) → cond b (IsSomeAnd (newest i.import cs) (λ f. AreOne (AlikeIn earlier f.1) e.1 f.0)) (AlikeIn earlier cs i.import) → Known → link_found of_headers i (cond b (Some (e.1, earlier)) (newest i.import earlier)) s ≡ link_import of_headers cs s i
    by true one known = here (newest i.import cs) refl one known
    by false more known = sym (links_newest of_headers i earlier s) ∙ known cs s i more

imports_alike : (of_headers : Bool) (bs cs : Builds) (is : List Import) (s : LinkState) → ImportsAlike bs cs is → link_imports of_headers bs is s ≡ link_imports of_headers cs is s
imports_alike of_headers bs cs is s all = fold_alike (link_import of_headers (reverse bs)) (link_import of_headers (reverse cs)) (λ i. AlikeIn (reverse bs) (reverse cs) i.import) (λ t i. import_alike of_headers (reverse bs) (reverse cs) t i) is s all

header_alike : (bs cs : Builds) (is : List Import) → ImportsAlike bs cs is → link_header bs is ≡ link_header cs is
unfolding link_header
header_alike bs cs is all = ap (λ (t : LinkState). t.derived.target) (imports_alike true bs cs is nothing_linked all)

whole_alike : (bs cs : Builds) (b : BuiltModule) → ImportsAlike bs cs b.imports → link_whole bs b ≡ link_whole cs b
unfolding link_whole
whole_alike bs cs b all = ap (λ (t : LinkState). make_module (set_source (link_items false b None t.derived) b.value 0)) (imports_alike false bs cs b.imports nothing_linked all)

pub links_alike : LinkLaw
links_alike = record { imports = imports_alike; header = header_alike; whole = whole_alike }

-- ---- the build of a name

pub bytes_equiv : IsEquivalence bytes_eq
bytes_equiv = record {
  refl = λ x. (bytes_eq-Decides x x).1 refl;
  symm = same_bytes;
  congr = λ x y z e. ap (λ n. bytes_eq n z) (bytes_same x y e);
}

-- the newest build of a name, without the builds before it
pub newest_is : (name : List ℕ) (bs : Builds) → option_map (λ f. f.0) (newest name bs) ≡ build_named bs name
newest_is name [] = refl
newest_is name (e ∷ earlier) = by (bytes_eq name e.0) (newest_is name earlier)
  where
    by : (b : Bool) → option_map (λ f. f.0) (newest name earlier) ≡ build_named earlier name → option_map (λ f. f.0) (cond b (Some (e.1, earlier)) (newest name earlier)) ≡ cond b (Some e.1) (build_named earlier name)
    by true known = refl
    by false known = known

named_last : (name : List ℕ) (bs : Builds) (e : List ℕ × BuiltModule) → build_named (bs ++ e ∷ []) name ≡ option_or (build_named bs name) (cond (bytes_eq name e.0) (Some e.1) None)
named_last name [] e = or_itself (cond (bytes_eq name e.0) (Some e.1) None)
  where
    or_itself : (o : Option BuiltModule) → o ≡ option_or None o
    or_itself o = refl
named_last name (x ∷ bs) e = by (bytes_eq name x.0) (named_last name bs e)
  where
    by : (b : Bool) → build_named (bs ++ e ∷ []) name ≡ option_or (build_named bs name) (cond (bytes_eq name e.0) (Some e.1) None) → cond b (Some x.1) (build_named (bs ++ e ∷ []) name) ≡ option_or (cond b (Some x.1) (build_named bs name)) (cond (bytes_eq name e.0) (Some e.1) None)
    by true known = refl
    by false known = known

-- if no name is built twice, a name can be looked for from either end
pub named_reverse : (name : List ℕ) (bs : Builds) → BuildsDiffer bs → build_named (reverse bs) name ≡ build_named bs name
named_reverse name [] d = refl
named_reverse name (e ∷ bs) d =
    ap (λ (xs : Builds). build_named xs name) (reverse-append (e ∷ []) bs) ∙ named_last name (reverse bs) e
    ∙ ap (λ o. option_or o (cond (bytes_eq name e.0) (Some e.1) None)) (named_reverse name bs (IsDistinct-tail bytes_eq e.0 (keys_of bs) d))
    ∙ by (bytes_eq name e.0) refl
  where
    or_none : (o : Option BuiltModule) → option_or o None ≡ o
    or_none None = refl
    or_none (Some b) = refl

    by : (b : Bool) → bytes_eq name e.0 ≡ b → option_or (build_named bs name) (cond b (Some e.1) None) ≡ cond b (Some e.1) (build_named bs name)
    by true q = ap (λ o. option_or o (Some e.1)) (lookup-none (bytes_eq name) bs (none_past_head bytes_equiv name e bs d q))
    by false q = or_none (build_named bs name)

-- a name that stands alike has the same build
pub newest_alike : (bs cs : Builds) (name : List ℕ) → AlikeIn bs cs name → build_named bs name ≡ build_named cs name
unfolding AlikeIn
newest_alike [] cs name h = sym (ap (option_map (λ f. f.0)) h) ∙ newest_is name cs
newest_alike (e ∷ earlier) cs name h = by (bytes_eq name e.0) h (newest_alike earlier cs name)
  where
    here : (o : Option (BuiltModule × Builds)) → newest name cs ≡ o → IsSomeAnd o (λ f. AreOne (AlikeIn earlier f.1) e.1 f.0) → Some e.1 ≡ build_named cs name
    here None at one = absurd one
    here (Some f) at one = ap (λ b. Some b) one.same ∙ ap (option_map (λ f. f.0)) (sym at) ∙ newest_is name cs

    by : (b : Bool) → cond b (IsSomeAnd (newest name cs) (λ f. AreOne (AlikeIn earlier f.1) e.1 f.0)) (AlikeIn earlier cs name) → (AlikeIn earlier cs name → build_named earlier name ≡ build_named cs name) → cond b (Some e.1) (build_named earlier name) ≡ build_named cs name
    by true one known = here (newest name cs) refl one
    by false more known = known more

pub named_alike : (bs cs : Builds) (name : List ℕ) → BuildsDiffer bs → BuildsDiffer cs → AlikeIn (reverse bs) (reverse cs) name → build_named bs name ≡ build_named cs name
named_alike bs cs name b c h = sym (named_reverse name bs b) ∙ newest_alike (reverse bs) (reverse cs) name h ∙ named_reverse name cs c

-- ---- a build

module _ (bs cs : Builds) (differ : BuildsDiffer bs) (differ' : BuildsDiffer cs) where
  module _ (is : List Import) (all : ImportsAlike bs cs is) where
    overriding_alike : (known : Overriding) → imported_overriding bs known is ≡ imported_overriding cs known is
    overriding_alike known = fold_alike (λ o i. with_build o (build_named bs i.import)) (λ o i. with_build o (build_named cs i.import)) (λ i. AlikeIn (reverse bs) (reverse cs) i.import) (λ o i h. ap (with_build o) (named_alike bs cs i.import differ differ' h)) is known all

  -- a module that is among imports is built alike
  among_alike : (name : List ℕ) (is : List Import) → ImportsAlike bs cs is → list_any (λ i. bytes_eq i.import name) is ≡ true → build_named bs name ≡ build_named cs name
  among_alike name [] all any = absurd (true≢false (sym any))
  among_alike name (i ∷ is) all any = by (bytes_eq i.import name) refl any (among_alike name is (All-tail (λ i. AlikeIn (reverse bs) (reverse cs) i.import) i is all))
    where
      by : (b : Bool) → bytes_eq i.import name ≡ b → (b || list_any (λ i. bytes_eq i.import name) is) ≡ true → (list_any (λ i. bytes_eq i.import name) is ≡ true → build_named bs name ≡ build_named cs name) → build_named bs name ≡ build_named cs name
      by true q any known = subst (λ n. build_named bs n ≡ build_named cs n) (bytes_same i.import name q) (named_alike bs cs i.import differ differ' (All-head (λ i. AlikeIn (reverse bs) (reverse cs) i.import) i is all))
      by false q any known = known any

  module _ (is : List Import) (all : ImportsAlike bs cs is) where
    imported_alike : (name : List ℕ) → imported_build bs is name ≡ imported_build cs is name
    imported_alike name = by (list_any (λ i. bytes_eq i.import name) is) (among_alike name is all)
      where
        by : (b : Bool) → (b ≡ true → build_named bs name ≡ build_named cs name) → cond b (build_named bs name) None ≡ cond b (build_named cs name) None
        by true h = h refl
        by false h = refl

    override_alike : (any : Bool) (decoration : List ℕ) (o : Overrides) (f : MarkedFunction) → with_override any bs is decoration o f ≡ with_override any cs is decoration o f
    override_alike any decoration o f = by (item_and_module f.name)
      where
        told : List ℕ × List ℕ × List ℕ → Option BuiltModule → Overrides
        told p b = record {
          edits = marked_override o.edits f p.0;
          overriding = overridden o.overriding f.name (override_name p.0 p.1 decoration);
          fault = option_or (unless_virtual any p.2 p.0 f.place b) o.fault;
        }

        by : (q : Option (List ℕ × List ℕ × List ℕ)) → noted any bs is decoration o f q ≡ noted any cs is decoration o f q
        by None = refl
        by (Some p) = ap (λ (b : Option BuiltModule). told p b) (imported_alike p.2)

    functions_alike : (any : Bool) (decoration : List ℕ) (overriding : Overriding) (text : List ℕ) → functions_in any bs is decoration overriding text ≡ functions_in any cs is decoration overriding text
    unfolding functions_in
    functions_alike any decoration overriding text = ap (functions_told text) (each_alike (overrides_in text) (record { edits = virtual_edits text; overriding = overriding; fault = None }))
      where
        each_alike : (fs : List MarkedFunction) (o : Overrides) → with_overrides any bs is decoration o fs ≡ with_overrides any cs is decoration o fs
        each_alike [] o = refl
        each_alike (f ∷ fs) o = ap (λ x. with_overrides any bs is decoration x fs) (override_alike any decoration o f) ∙ each_alike fs (with_override any cs is decoration o f)

    heading_alike : (s : Settings) (d : Registered) → write_heading s d bs is ≡ write_heading s d cs is
    heading_alike s d = ap (λ h. header_text s.front s.capabilities d.language h >>= λ header. Ok (first_lines d.language d.directives ++ header)) (links_alike.header bs cs is all)

  written_alike : (s : Settings) (d : Registered) (text : List ℕ) (b : BuiltModule) → ImportsAlike bs cs b.imports → write_whole s d bs text b ≡ write_whole s d cs text b
  unfolding write_whole
  written_alike s d text b all = rw (functions_alike b.imports all s.override_any b.decoration b.overriding text, heading_alike b.imports all s d) refl

  begun_alike : (d : Registered) (us : List Use) → UsesAlike bs cs us → begin_build bs d us ≡ begin_build cs d us
  begun_alike d us all = ap (λ (o : Overriding). record (nothing_built (decoration_of d) d.index) { imports = map (λ u. u.import) us; overriding = o }) (overriding_alike (map (λ u. u.import) us) (All-map (λ i. AlikeIn (reverse bs) (reverse cs) i.import) (λ u. u.import) us all) [])

  built_alike : (s : Settings) (d : Registered) (out : Output) → UsesAlike bs cs out.uses → build s d out bs ≡ build s d out cs
  unfolding build
  built_alike s d out all =
      ap (λ b. from_whole (write_whole s d bs out.text b)) (begun_alike d out.uses all)
      ∙ ap from_whole (written_alike s d out.text (begin_build cs d out.uses) (All-map (λ i. AlikeIn (reverse bs) (reverse cs) i.import) (λ u. u.import) out.uses all))
    where
      from_whole : Result WholeText Fault → Result BuiltModule Unbuilt
      from_whole w = from_offset 0 w >>= λ whole. from_offset whole.built.offset (hold s d.language whole.text whole.built)

-- the build of a module depends only on the builds that it uses
pub build_alike : BuildLaw
build_alike s d out bs cs differ differ' all = built_alike bs cs differ differ' s d out all
