-- Modules whose functions are sorted.
use Rattle.std.proofs.Common.{◌≡◌, ⊎_elim, inl, inr, ℕ, zero, suc, ◌<◌, ◌==◌, is_none, true, false, List, [], ◌∷◌, length, get_or, unwrap_or, Option, Some, None, Result, Ok, Err, IsSome, IfSome, option_map, slice_get, All, refl, ap, sym, ◌∙◌, subst, arith}
use Rattle.std.specs.List.{cons_option}
use Rattle.std.proofs.lemmas.Bool.{false≢true, or_cases}
use Rattle.std.proofs.lemmas.List.{length-map}
use Rattle.std.proofs.lemmas.List.Elements.{All-head, All-tail}
use Rattle.std.proofs.lemmas.Option.{none-some, slice_get-map}
use Rattle.naga_oil_ir.specs.Body.{Tokens}
use Rattle.naga_oil_form.specs.BodyForm.{IsTokenFine}
use Rattle.naga_oil_form.specs.Links.{Links, linked, has}
use Rattle.naga_oil_ir.specs.ModuleValue.{ModuleValue, FunctionValue}
use Rattle.naga_oil_ir.specs.RedirectFault.{RedirectFault}
use Rattle.naga_oil_ir.specs.declared.span.Span.{Span}
use Rattle.naga_oil_ir.specs.declared.tokens.Token.{Token}
use Rattle.naga_oil_ir.specs.declared.tokens.Token.TheVariants.{At, Head, Plain, Flag, Absent, Open, Close, Use, Give, GiveCall, Emitted, Callee}
use Rattle.naga_oil_form.proofs.LinkLemmas.{eqb_eq}
use Rattle.naga_oil_walk.specs.declared.walk.Request.{Request}
use Rattle.naga_oil_walk.specs.declared.walk.Request.TheVariants.{Item, Call}
use Rattle.naga_oil_derive.specs.Derived.{Derived, nothing}
use Rattle.naga_oil_derive.specs.DerivedFunctions.{MayAsk, MayCopy, MayCall, requests_of}
use Rattle.naga_oil_derive.specs.DerivedValue.{set_source}
use Rattle.naga_oil_derive.specs.World.{world}
use Rattle.naga_oil_form_laws.specs.FunctionForm.{IsFunctionFormed}
use Rattle.naga_oil_form_laws.proofs.RequestLemmas.{function_there}
use Rattle.naga_oil_redirect.specs.Level.{level_below, level, levels, without_level}
use Rattle.naga_oil_redirect.specs.Ordered.{callee_of, callees_of, calls_of, ordering, ordered}
use Rattle.naga_oil_redirect.specs.PutInOrder.{import_one, import_in_turn, in_turn, in_turn_if}
use Rattle.naga_oil_redirect.proofs.CycleLemmas.{passing_none, levels_at}
use Rattle.naga_oil_redirect.proofs.LevelLemmas.{above_each}
use Rattle.naga_oil_copy_laws.specs.InTurn.{CanCopyWhole, CanCopyModule}
use Rattle.naga_oil_link.specs.OwnPlaces.{nothing_own}
use Rattle.naga_oil_link_laws.specs.HeldBuild.{DecoratesTypes, CopiesAs}
use Rattle.naga_oil_link_laws.specs.OrderedCopies.{CallsAnywhere, KeepsSpecialTypes, OrderedCopiesLaw}
use Rattle.naga_oil_link_laws.proofs.Asked.{asked_each}
use Rattle.naga_oil_link_laws.proofs.FormedSources.{copyable_function, may_copy, entry_named}
use Rattle.naga_oil_link_laws.proofs.Stages.{Stage, Stages, stage_same, stage_function}
use Rattle.naga_oil_link_laws.proofs.Decorates.{first_source, hold_begins}
use Rattle.naga_oil_link_laws.proofs.Holds.{made_copies_as}

abbrev Functions : Type 0
Functions = List (FunctionValue × Span)

-- ---- levels

none_without : (fs : Functions) (ls : List (Option ℕ)) (ks os : List ℕ) → ordering fs ls ks ≡ Ok os → ks ≡ []
none_without fs ls [] os e = refl
none_without fs ls (k ∷ ks) os e = cc

is_there : (o : Option ℕ) → is_none o ≡ false → (l : ℕ) × (o ≡ Some l)
is_there None e = absurd (false≢true (sym e))
is_there (Some l) e = (l, refl)

-- in functions that can be sorted each has a level
level_there : (fs : Functions) (os : List ℕ) (k : ℕ) → ordered fs ≡ Ok os → k < length (calls_of fs) → (l : ℕ) × (level (calls_of fs) k ≡ Some l)
level_there fs os k e i =
    let calls = calls_of fs in
    is_there (level calls k) (passing_none 0 is_none (levels calls) (none_without fs (levels calls) (without_level (levels calls)) os e) k (level calls k) (levels_at calls k i))

-- ---- calls

callee_within : (c n : ℕ) (ts : Tokens) (g : ℕ) → All (IsTokenFine c n) ts → has (callees_of ts) g ≡ true → g < c
callee_within c n [] g a h = absurd (false≢true h)
callee_within c n (t ∷ ts) g a h = one (λ i. callee_within c n ts g (All-tail (IsTokenFine c n) t ts a) i) t (All-head (IsTokenFine c n) t ts a) h
  where
    one : (has (callees_of ts) g ≡ true → g < c) → (t : Token) → IsTokenFine c n t → has (cons_option (callee_of t) (callees_of ts)) g ≡ true → g < c
    one rest (Callee k) f i = ⊎_elim (λ e. subst (λ x. x < c) (eqb_eq k g e) f) rest (or_cases (k == g) (has (callees_of ts) g) i)
    one rest (At s) f i = rest i
    one rest (Head k) f i = rest i
    one rest (Plain k) f i = rest i
    one rest (Flag b) f i = rest i
    one rest Absent f i = rest i
    one rest Open f i = rest i
    one rest Close f i = rest i
    one rest (Use k) f i = rest i
    one rest (Give k) f i = rest i
    one rest (GiveCall k j) f i = rest i
    one rest (Emitted r) f i = rest i

calls_at : (m : ModuleValue) (k : ℕ) (e : FunctionValue × Span) → slice_get m.functions k ≡ Some e → linked (calls_of m.functions) k ≡ callees_of e.0.body
calls_at m k e at = ap (λ (o : Option (List ℕ)). unwrap_or o []) (slice_get-map (λ (f : FunctionValue × Span). callees_of f.0.body) m.functions k ∙ ap (option_map (λ (f : FunctionValue × Span). callees_of f.0.body)) at)

module _ (m : ModuleValue) (h : CallsAnywhere m) where
  abbrev count : ℕ
  count = length m.functions

  abbrev calls : Links
  calls = calls_of m.functions

  abbrev AskedWith : (ℕ → Type 0) → Request → Type 0
  AskedWith P (Item p) = Unit {0}
  AskedWith P (Call g) = P g

  both : (P : ℕ → Type 0) (r : Request) → MayAsk m (λ g. Unit {0}) r → AskedWith P r → MayAsk m P r
  both P (Item p) a b = a
  both P (Call g) a b = (a.0, b)

  -- a function can be copied if those that it calls can be called
  copy_called : (P : ℕ → Type 0) (f : FunctionValue) → IsFunctionFormed m count 4294967295 f → ((g : ℕ) → g < count → has (callees_of f.body) g ≡ true → P g) → MayCopy m P f
  copy_called P f form p =
      let there = function_there m (λ g. Unit {0}) count 4294967295 f (λ g i. (i, tt)) form in
      let called = asked_each (AskedWith P) (λ q. tt) f (λ g c. p g (callee_within count 4294967295 f.body g form.statements c) c) in
      record { form = form.body.form; requests = λ k d l. both P (get_or (requests_of f) k d) (there k d l) (called k d l) }

  may_call : (n k l : ℕ) → k < count → level_below n calls k ≡ Some l → MayCall m [] n k
  unfolding level_below
  may_call zero k l i e = absurd (none-some l e)
  may_call (suc n) k l i e = inr (one (λ g j c. let below = above_each (level_below n calls) (linked calls k) l g e c in may_call n g below.0 j below.1) (slice_get m.functions k) refl)
    where
      one : ((g : ℕ) → g < count → has (linked calls k) g ≡ true → MayCall m [] n g) → (o : Option (FunctionValue × Span)) → slice_get m.functions k ≡ o → IfSome o (λ y. IsSome y.0.name × MayCopy m (MayCall m [] n) y.0)
      one below None at = tt
      one below (Some y) at = (h.named k y at, copy_called (MayCall m [] n) y.0 (h.forms k y at) (λ g j c. below g j (ap (λ xs. has xs g) (calls_at m k y at) ∙ c)))

  module _ (os : List ℕ) (order : ordered m.functions ≡ Ok os) where
    any_called : (g : ℕ) → g < count → MayCall m [] count g
    any_called g i =
        let long : length calls ≡ count = length-map m.functions (λ (f : FunctionValue × Span). callees_of f.0.body) in
        let l = level_there m.functions os g order (omega (arith, i, long)) in
        may_call count g l.0 i (ap (λ n. level_below n calls g) (sym long) ∙ l.1)

    copy_whole_function : (f : FunctionValue) → IsFunctionFormed m count 4294967295 f → CanCopyWhole m f
    copy_whole_function f form = record { copyable = copyable_function m count 4294967295 f form; reaches = may_copy m (MayCall m [] count) count f (omega arith) any_called form }

    -- the whole module can be copied
    pub can_order : CanCopyModule m
    can_order = record {
      items = h.items;
      special = h.special;
      functions = λ k y at. (copy_whole_function y.0 (h.forms k y at), h.named k y at);
      entry_points = λ i v at. (copy_whole_function v.function (h.entry_points i v at).function, entry_named m v (h.entry_points i v at));
    }

-- ---- one after another

module _ (m : ModuleValue) (can : CanCopyModule m) where
  turned_one : (d : Derived) (k : ℕ) (o : Option (FunctionValue × Span)) (t : Stage (first_source m) (world m) d) → slice_get m.functions k ≡ o → Stages (first_source m) (world m) d (import_one d o) t.source
  turned_one d k None t at = stage_same (first_source m) can (world m) d t
  turned_one d k (Some y) t at = stage_function (first_source m) can (world m) d k y t at

  turned_all : (ks : List ℕ) (d : Derived) → Stage (first_source m) (world m) d → Stage (first_source m) (world m) (import_in_turn m d ks)
  turned_all [] d t = t
  turned_all (k ∷ ks) d t = turned_all ks (import_one d (slice_get m.functions k)) (turned_one d k (slice_get m.functions k) t refl).stage

  plain : DecoratesTypes m nothing_own [] (world m)
  plain = record { each = λ p. inl refl; all = λ k l o. absurd (false≢true o) }

  turned : (os : List ℕ) → CopiesAs (world m) m (in_turn m os) × KeepsSpecialTypes m (in_turn m os)
  unfolding in_turn
  turned os =
      let d = set_source nothing m 0 in
      let r = made_copies_as m can (world m) (import_in_turn m d os) (turned_all os d (hold_begins m can)) plain in
      (r.0, record { places = r.1.places; keys = r.1.keys; alike = r.1.alike })

pub ordered_copies : OrderedCopiesLaw
ordered_copies m n h e = one (ordered m.functions) refl e
  where
    one : (r : Result (List ℕ) RedirectFault) → ordered m.functions ≡ r → in_turn_if m r ≡ Ok n → CopiesAs (world m) m n × KeepsSpecialTypes m n
    one (Ok os) order q = let same : in_turn m os ≡ n = cc in subst (λ u. CopiesAs (world m) m u × KeepsSpecialTypes m u) same (turned m (can_order m h os order) os)
    one (Err f) order q = absurd cc
