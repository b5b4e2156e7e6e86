-- What answering requests and importing functions do, over values alone.
use Rattle.std.proofs.Common.{◌≡◌, ⊎_elim, ℕ, zero, suc, ◌<◌, Bool, true, false, List, [], ◌∷◌, ◌++◌, length, slice_get, Option, Some, None, IsSome, is_some, if◌then◌else◌, refl, ap, sym, ◌∙◌, subst, arith, All, IfSome}
use Rattle.std.proofs.lemmas.Bool.{false≢true}
use Rattle.std.proofs.lemmas.List.Elements.{All-head, All-tail, All-weaker}
use Rattle.std.proofs.lemmas.Option.{slice_get_cases}
use Rattle.naga_oil_ir.specs.Rows.{Row}
use Rattle.naga_oil_ir.specs.ModuleValue.{ModuleValue, FunctionValue}
use Rattle.naga_oil_ir.specs.declared.names.ItemPlace.{ItemPlace}
use Rattle.naga_oil_ir.specs.declared.names.ItemPlace.TheVariants.{TypeItem, ConstantItem, OverrideItem, GlobalItem, ExpressionItem}
use Rattle.naga_oil_ir.specs.declared.span.Span.{Span}
use Rattle.naga_oil_walk.specs.declared.walk.Request.{Request}
use Rattle.naga_oil_walk.specs.declared.walk.Request.TheVariants.{Item, Call}
use Rattle.naga_oil_derive.specs.Tree.{Kept}
use Rattle.naga_oil_derive.specs.World.{goes, world, shifted, named_world}
use Rattle.naga_oil_derive.specs.Copying.{IsSound, AreCopied}
use Rattle.naga_oil_derive.specs.Copied.{CopyState, Copier, of_item, put_type, put, copy_each, copy_row_names, copy_within, copy_item, with_type, with_constant, with_override, with_global, with_expression, renames_by}
use Rattle.naga_oil_derive.specs.CopiedFunction.{copy_function}
use Rattle.naga_oil_derive.specs.CopiedLaw.{HasAt}
use Rattle.naga_oil_derive.specs.Collected.{depth}
use Rattle.naga_oil_derive.specs.Derived.{Source, Derived}
use Rattle.naga_oil_derive.specs.DerivedFunctions.{Meanings, meant, meant_at, requests_of, MayAsk, MayCopy, MayCall, CanImport, CanCall, KeepsFunctions, ComesLast, Answers, AllAnswered, ItemCopied, NameKnown, FunctionCopied, MeansAt, IsLocalized, going}
use Rattle.naga_oil_derive.specs.DerivedValue.{import_item, importing_of, after_copying, after_importing, answer_requests, import_function, call_function, localize_function}
use Rattle.naga_oil_derive.specs.DerivedLaw.{IsDerivation}
use Rattle.naga_oil_derive.specs.Answered.{ImportState, Caller, goes_by, answer_one, answer_by, with_function, import_copy_by, import_callee_by, import_callee}
use Rattle.naga_oil_derive.specs.AnsweredLaw.{HasForm, HasCopies, HaveCopies, CanAnswer, AnswersOnly, ImportsFunction}
use Rattle.naga_oil_rename.specs.Renames.{rename, rename_row}
use Rattle.naga_oil_derive.proofs.WorldLemmas.{Extends-refl}
use Rattle.naga_oil_derive.proofs.HavingLemmas.{given, world_given_at, world_given}
use Rattle.naga_oil_derive.proofs.EntrySteps.{KnowsMore, call_later, ask_weaker, kept_functions, functions_trans, functions_same}
use Rattle.naga_oil_derive.proofs.MeaningLemmas.{meaning_other, meaning_same, meaning_more}
use Rattle.naga_oil_derive.proofs.DerivedLaws.{import_law}

-- ---- copying doesn't look at functions

abbrev Functions : Type 0
Functions = List (FunctionValue × Span)

-- a state of copying with other functions
abbrev beside : Functions → CopyState → CopyState
beside fs c = record { places = c.places; target = given c.target fs }

item_beside : {A : Type 0} (fs : Functions) (c : CopyState) (f g : A → Span → CopyState) → ((x : A) (s : Span) → g x s ≡ beside fs (f x s)) → (o : Option (A × Span)) → of_item (beside fs c) g o ≡ beside fs (of_item c f o)
item_beside fs c f g h None = refl
item_beside fs c f g h (Some e) = h e.0 e.1

put_beside : (m : ModuleValue) (shift : ℕ) (fs : Functions) (c : CopyState) (p : ItemPlace) → put m shift (beside fs c) p ≡ beside fs (put m shift c p)
unfolding put put_type
put_beside m shift fs c (TypeItem k) = item_beside fs c (λ r span. with_type c k (rename_row (renames_by shift c.places) r) _) (λ r span. with_type (beside fs c) k (rename_row (renames_by shift c.places) r) _) (λ x s. refl) (slice_get m.types k)
put_beside m shift fs c (ConstantItem k) = item_beside fs c (λ r span. with_constant c k (rename_row (renames_by shift c.places) r) _) (λ r span. with_constant (beside fs c) k (rename_row (renames_by shift c.places) r) _) (λ x s. refl) (slice_get m.constants k)
put_beside m shift fs c (OverrideItem k) = item_beside fs c (λ r span. with_override c k (rename_row (renames_by shift c.places) r) _) (λ r span. with_override (beside fs c) k (rename_row (renames_by shift c.places) r) _) (λ x s. refl) (slice_get m.overrides k)
put_beside m shift fs c (GlobalItem k) = item_beside fs c (λ r span. with_global c k (rename_row (renames_by shift c.places) r) _) (λ r span. with_global (beside fs c) k (rename_row (renames_by shift c.places) r) _) (λ x s. refl) (slice_get m.global_variables k)
put_beside m shift fs c (ExpressionItem k) = item_beside fs c (λ p span. with_expression c k (rename (renames_by shift c.places) p) _) (λ p span. with_expression (beside fs c) k (rename (renames_by shift c.places) p) _) (λ x s. refl) (slice_get m.global_expressions k)

names_beside : (fs : Functions) (f : Copier) → ((c : CopyState) (p : ItemPlace) → f (beside fs c) p ≡ beside fs (f c p)) → (ps : List (Option ItemPlace)) (c : CopyState) → copy_each f (beside fs c) ps ≡ beside fs (copy_each f c ps)
names_beside fs f h [] c = refl
names_beside fs f h (None ∷ ps) c = names_beside fs f h ps c
names_beside fs f h (Some p ∷ ps) c = ap (λ s. copy_each f s ps) (h c p) ∙ names_beside fs f h ps (f c p)

row_beside : (fs : Functions) (f : Copier) → ((c : CopyState) (p : ItemPlace) → f (beside fs c) p ≡ beside fs (f c p)) → (o : Option Row) (c : CopyState) → copy_row_names f (beside fs c) o ≡ beside fs (copy_row_names f c o)
row_beside fs f h None c = refl
row_beside fs f h (Some r) c = names_beside fs f h r.names c

if_beside : (fs : Functions) (b : Bool) (x y z : CopyState) → z ≡ beside fs y → (if b then beside fs x else z) ≡ beside fs (if b then x else y)
if_beside fs true x y z e = refl
if_beside fs false x y z e = e

within_beside : (n : ℕ) (m : ModuleValue) (shift : ℕ) (fs : Functions) (c : CopyState) (p : ItemPlace) → copy_within n m shift (beside fs c) p ≡ beside fs (copy_within n m shift c p)
unfolding copy_within
within_beside zero m shift fs c p = refl
within_beside (suc n) m shift fs c p =
    let f = copy_within n m shift in
    if_beside fs (is_some (goes c.places p)) c (put m shift (copy_row_names f c (world m p)) p) (put m shift (copy_row_names f (beside fs c) (world m p)) p) (ap (λ s. put m shift s p) (row_beside fs f (within_beside n m shift fs) (world m p) c) ∙ put_beside m shift fs (copy_row_names f c (world m p)) p)

-- ---- a state of import, as a derived module

-- s has the value of the source, and the offset of its spans
abbrev seen : Source → ImportState → Derived
seen s i = after_importing s i

abbrev source_in : Source → ImportState → Source
source_in s i = record { value = s.value; offset = s.offset; places = i.copying.places }

-- an item that is copied meanwhile is imported
item_seen : (s : Source) (i : ImportState) (p : ItemPlace) → import_item (seen s i) p ≡ seen s (record i { copying = copy_item s.value s.offset i.copying p })
item_seen s i p = ap (after_copying (seen s i) (source_in s i)) (within_beside (depth s.value) s.value s.offset i.functions i.copying p)

-- functions leave a derivation
pub derived_given : (first : Kept) (s : Source) (t : ModuleValue) (fs : Functions) (ns qs : Meanings) → IsDerivation first (record { source = Some s; target = t; function_names = ns }) → IsDerivation first (record { source = Some s; target = given t fs; function_names = qs })
derived_given first s t fs ns qs i =
    let m = i.source.midway in
    let w = world_given t fs in
    let sound = subst IsSound (sym w) i.sound in
    record {
      kinds = λ p r e. i.kinds p r (sym (world_given_at t fs p) ∙ e);
      sound = sound;
      special = λ k q e. (let r = i.special k q e in (r.0, world_given_at t fs (TypeItem q) ∙ r.1));
      source = record {
        copyable = i.source.copyable;
        midway = record { kinds = λ p r e. m.kinds p r (sym (world_given_at t fs p) ∙ e); roomy = m.roomy; sound = sound; copied = subst (λ v. AreCopied (named_world (world s.value) v (goes s.places)) v first (goes s.places)) (sym w) m.copied };
        stand = i.source.stand;
        still = i.source.still;
      };
    }

-- ---- answers, one after another

Answers-append : {v : ModuleValue} {d e f : Derived} {xs : List Request} (ys : List Request) → Answers v d xs e → Answers v e ys f → Answers v d (xs ++ ys) f
Answers-append ys AllAnswered b = b
Answers-append ys (ItemCopied q i r k a) b = ItemCopied q i r k (Answers-append ys a b)
Answers-append ys (NameKnown h a) b = NameKnown h (Answers-append ys a b)
Answers-append ys (FunctionCopied h n at x c a) b = FunctionCopied h n at x c (Answers-append ys a b)

answers_none : (first : Kept) (s : Source) (i : ImportState) → IsDerivation first (seen s i) → AnswersOnly first (seen s i) (seen s i) []
answers_none first s i d = record { derivation = d; answered = AllAnswered; meanings = λ n h e. e; keeps = functions_same (seen s i) }

answers_both : (first : Kept) (s : Source) (i j k : ImportState) (xs ys : List Request) → AnswersOnly first (seen s i) (seen s j) xs → AnswersOnly first (seen s j) (seen s k) ys → AnswersOnly first (seen s i) (seen s k) (xs ++ ys)
answers_both first s i j k xs ys a b = record {
  derivation = b.derivation;
  answered = Answers-append ys a.answered b.answered;
  meanings = λ n h e. b.meanings n h (a.meanings n h e);
  keeps = functions_trans (seen s i) (seen s j) (seen s k) a.keeps b.keeps;
}

-- an item
answers_item : (first : Kept) (s : Source) (i : ImportState) (p : ItemPlace) → IsDerivation first (seen s i) → HasAt s.value p → AnswersOnly first (seen s i) (seen s (record i { copying = copy_item s.value s.offset i.copying p })) (Item p ∷ [])
answers_item first s i p d r =
    let g = import_law first (seen s i) p d (refl, r) in
    subst (λ (e : Derived). AnswersOnly first (seen s i) e (Item p ∷ [])) (item_seen s i p) (record {
      derivation = g.derivation;
      answered = ItemCopied g.imported.0 g.imported.1 g.reads g.keeps AllAnswered;
      meanings = λ n h e. ap (λ (ns : Meanings). meant ns n) g.keeps.names ∙ e;
      keeps = kept_functions (seen s i) (import_item (seen s i) p) g.keeps;
    })

-- ---- a call

-- what the call of a function is to do, and its name means one then
abbrev CallsAt : Kept → Source → Caller → (ImportState → ℕ → Type 0) → Type 0
CallsAt first s f P = (i : ImportState) (k : ℕ) → IsDerivation first (seen s i) → k < length s.value.functions → P i k → AnswersOnly first (seen s i) (seen s (f i k)) (Call k ∷ []) × ((h : ℕ) × (meant_at (f i k).names (slice_get s.value.functions k) ≡ Some h))

-- what can be called at most n deep
abbrev MayCallIn : ModuleValue → ℕ → ImportState → ℕ → Type 0
MayCallIn m n i k = MayCall m i.names n k

requests_later : (m : ModuleValue) (n : ℕ) (i j : ImportState) (rs : List Request) → KnowsMore i.names j.names → All (MayAsk m (MayCallIn m n i)) rs → All (MayAsk m (MayCallIn m n j)) rs
requests_later m n i j rs w a = All-weaker (MayAsk m (MayCallIn m n i)) (MayAsk m (MayCallIn m n j)) (ask_weaker m (MayCallIn m n i) (MayCallIn m n j) (λ k h. call_later m i.names j.names w n k h)) rs a

answers_one : (first : Kept) (s : Source) (n : ℕ) (f : Caller) → CallsAt first s f (MayCallIn s.value n) → (i : ImportState) (r : Request) → IsDerivation first (seen s i) → MayAsk s.value (MayCallIn s.value n i) r → AnswersOnly first (seen s i) (seen s (answer_one f s.value s.offset i r)) (r ∷ [])
answers_one first s n f h i (Item p) d a = answers_item first s i p d a
answers_one first s n f h i (Call k) d a = (h i k d a.0 a.1).0

answers_each : (first : Kept) (s : Source) (n : ℕ) (f : Caller) → CallsAt first s f (MayCallIn s.value n) → (rs : List Request) (i : ImportState) → IsDerivation first (seen s i) → All (MayAsk s.value (MayCallIn s.value n i)) rs → AnswersOnly first (seen s i) (seen s (answer_by (answer_one f s.value s.offset) i rs)) rs
answers_each first s n f h [] i d a = answers_none first s i d
answers_each first s n f h (r ∷ rs) i d a =
    let P = MayAsk s.value (MayCallIn s.value n i) in
    let j = answer_one f s.value s.offset i r in
    let one = answers_one first s n f h i r d (All-head P r rs a) in
    let rest = answers_each first s n f h rs j one.derivation (requests_later s.value n i j rs one.keeps.names (All-tail P r rs a)) in
    answers_both first s i j (answer_by (answer_one f s.value s.offset) j rs) (r ∷ []) rs one rest

-- a function comes last
comes_last : (s : Source) (j : ImportState) (v : FunctionValue) (span : Span) → HasCopies v → HasForm v → IsSome v.name → ComesLast (source_in s j) v span (seen s j) (seen s (with_function s.value s.offset j v span)) (length j.functions)
comes_last s j v span c form named = record {
  copy = copy_function (goes_by s.value s.offset j) v;
  copies = c (goes_by s.value s.offset j) form;
  target = refl;
  place = refl;
  names = refl;
  means = meaning_same j.names v.name (length j.functions) named;
  source = refl;
}

keeps_last : (s : Source) (j : ImportState) (v : FunctionValue) (span : Span) → KeepsFunctions (seen s j) (seen s (with_function s.value s.offset j v span))
keeps_last s j v span = record {
  items = Extends-refl (seen s j).target;
  functions = ((copy_function (goes_by s.value s.offset j) v, shifted s.offset span) ∷ [], refl);
  names = meaning_more j.names v.name (length j.functions);
  source = record { value = refl; offset = refl; went = λ p q g. g };
}

derived_last : (first : Kept) (s : Source) (j : ImportState) (v : FunctionValue) (span : Span) → IsDerivation first (seen s j) → IsDerivation first (seen s (with_function s.value s.offset j v span))
derived_last first s j v span d =
    let u = with_function s.value s.offset j v span in
    derived_given first (source_in s j) (seen s j).target u.functions j.names u.names d

some_there : (o : Option ℕ) → IsSome o → (h : ℕ) × (o ≡ Some h)
some_there None h = absurd (false≢true h)
some_there (Some x) h = (x, refl)

-- what is known after a call
abbrev AfterCall : Kept → Source → ImportState → ℕ → ImportState → Type 0
AfterCall first s i k u = AnswersOnly first (seen s i) (seen s u) (Call k ∷ []) × ((h : ℕ) × (meant_at u.names (slice_get s.value.functions k) ≡ Some h))

call_known : (first : Kept) (s : Source) (i : ImportState) (k h : ℕ) → IsDerivation first (seen s i) → meant_at i.names (slice_get s.value.functions k) ≡ Some h → AfterCall first s i k i
call_known first s i k h d e = (record { derivation = d; answered = NameKnown e AllAnswered; meanings = λ n x g. g; keeps = functions_same (seen s i) }, (h, e))

call_fresh : (first : Kept) (s : Source) (i j : ImportState) (k : ℕ) (x : FunctionValue × Span) → HasCopies x.0 → HasForm x.0 → IsSome x.0.name → slice_get s.value.functions k ≡ Some x → meant i.names x.0.name ≡ None → AnswersOnly first (seen s i) (seen s j) (requests_of x.0) → AfterCall first s i k (with_function s.value s.offset j x.0 x.1)
call_fresh first s i j k x c form named at unknown a =
    let h = length j.functions in
    let u = with_function s.value s.offset j x.0 x.1 in
    let last = comes_last s j x.0 x.1 c form named in
    let unknown_at : meant_at i.names (slice_get s.value.functions k) ≡ None = ap (meant_at i.names) at ∙ unknown in (
      record {
        derivation = derived_last first s j x.0 x.1 a.derivation;
        answered = FunctionCopied {e = seen s j} h unknown_at at a.answered last AllAnswered;
        meanings = λ n y e. meaning_other i.names j.names x.0.name n h y unknown e (a.meanings n y e);
        keeps = functions_trans (seen s i) (seen s j) (seen s u) a.keeps (keeps_last s j x.0 x.1);
      },
      (h, ap (meant_at u.names) at ∙ last.means),
    )

-- a function that stands in the source is called
call_entry : (first : Kept) (s : Source) (n : ℕ) (f : Caller) → CallsAt first s f (MayCallIn s.value n) → (i : ImportState) (k : ℕ) (x : FunctionValue × Span) → HasCopies x.0 → IsDerivation first (seen s i) → slice_get s.value.functions k ≡ Some x → MayCall s.value i.names (suc n) k → (o : Option ℕ) → meant i.names x.0.name ≡ o → AfterCall first s i k (import_callee_by f s.value s.offset i (Some x))
call_entry first s n f calls i k x c d at may (Some h) e = subst (AfterCall first s i k) (sym (ap (λ v. if is_some v then i else import_copy_by f s.value s.offset i x.0 x.1) e)) (call_known first s i k h d (ap (meant_at i.names) at ∙ e))
call_entry first s n f calls i k x c d at may None e =
    let j = answer_by (answer_one f s.value s.offset) i (requests_of x.0) in
    let unknown_at : meant_at i.names (slice_get s.value.functions k) ≡ None = ap (meant_at i.names) at ∙ e in
    let can : IsSome x.0.name × MayCopy s.value (MayCall s.value i.names n) x.0 = ⊎_elim (λ w. absurd (false≢true (sym (ap is_some unknown_at) ∙ w))) (λ w. subst (λ (o : Option (FunctionValue × Span)). IfSome o (λ y. IsSome y.0.name × MayCopy s.value (MayCall s.value i.names n) y.0)) at w) may in
    let a = answers_each first s n f calls (requests_of x.0) i d can.1.requests in
    subst (AfterCall first s i k) (sym (ap (λ v. if is_some v then i else import_copy_by f s.value s.offset i x.0 x.1) e)) (call_fresh first s i j k x c can.1.form can.0 at e a)

-- each function of the source has copies
abbrev EachHasCopies : Source → Type 0
EachHasCopies s = (k : ℕ) (x : FunctionValue × Span) → slice_get s.value.functions k ≡ Some x → HasCopies x.0

call_by : (first : Kept) (s : Source) (n : ℕ) (f : Caller) → EachHasCopies s → CallsAt first s f (MayCallIn s.value n) → (i : ImportState) (k : ℕ) → IsDerivation first (seen s i) → k < length s.value.functions → MayCall s.value i.names (suc n) k → (o : Option (FunctionValue × Span)) → slice_get s.value.functions k ≡ o → AfterCall first s i k (import_callee_by f s.value s.offset i o)
call_by first s n f c calls i k d l may None at =
    ⊎_elim (λ w. absurd (let g : None ≡ Some w.0 = sym at ∙ w.2 in cc)) (λ w. absurd (let past = w.0 in omega (arith, l, past))) (slice_get_cases s.value.functions k).1
call_by first s n f c calls i k d l may (Some x) at = call_entry first s n f calls i k x (c k x at) d at may (meant i.names x.0.name) refl

calls_at : (first : Kept) (s : Source) → EachHasCopies s → (n : ℕ) → CallsAt first s (import_callee n s.value s.offset) (MayCallIn s.value n)
unfolding import_callee
calls_at first s c zero i k d l may = let h = some_there (meant_at i.names (slice_get s.value.functions k)) may in call_known first s i k h.0 d h.1
calls_at first s c (suc n) i k d l may = call_by first s n (import_callee n s.value s.offset) c (calls_at first s c n) i k d l may (slice_get s.value.functions k) refl

-- ---- the laws

abbrev derivation : Option Source → ModuleValue → Meanings → Derived
derivation o t ns = record { source = o; target = t; function_names = ns }

answer_any : (first : Kept) (o : Option Source) (t : ModuleValue) (ns : Meanings) (rs : List Request) → IsDerivation first (derivation o t ns) → HaveCopies (derivation o t ns) → CanAnswer (derivation o t ns) rs → AnswersOnly first (derivation o t ns) (answer_requests (derivation o t ns) rs) rs
answer_any first None t ns rs d c a = absurd (false≢true a.0)
answer_any first (Some s) t ns rs d c a =
    let n = length s.value.functions in
    answers_each first s n (import_callee n s.value s.offset) (calls_at first s c n) rs (importing_of (derivation (Some s) t ns) s) d a.1

pub answer_law : (first : Kept) (d : Derived) (rs : List Request) → IsDerivation first d → HaveCopies d → CanAnswer d rs → AnswersOnly first d (answer_requests d rs) rs
answer_law first d rs i c a = answer_any first d.source d.target d.function_names rs i c a

call_any : (first : Kept) (o : Option Source) (t : ModuleValue) (ns : Meanings) (k : ℕ) → IsDerivation first (derivation o t ns) → HaveCopies (derivation o t ns) → CanCall (derivation o t ns) k → AnswersOnly first (derivation o t ns) (call_function (derivation o t ns) k) (Call k ∷ []) × ((h : ℕ) × MeansAt (call_function (derivation o t ns) k) k h)
call_any first None t ns k d c a = absurd (false≢true a.0)
call_any first (Some s) t ns k d c a =
    let n = length s.value.functions in
    calls_at first s c n (importing_of (derivation (Some s) t ns) s) k d a.1.0 a.1.1

pub call_law : (first : Kept) (d : Derived) (k : ℕ) → IsDerivation first d → HaveCopies d → CanCall d k → AnswersOnly first d (call_function d k) (Call k ∷ []) × ((h : ℕ) × MeansAt (call_function d k) k h)
call_law first d k i c a = call_any first d.source d.target d.function_names k i c a

function_any : (first : Kept) (o : Option Source) (t : ModuleValue) (ns : Meanings) (v : FunctionValue) (span : Span) → IsDerivation first (derivation o t ns) → HaveCopies (derivation o t ns) → HasCopies v → CanImport (derivation o t ns) v → ImportsFunction first (derivation o t ns) (import_function (derivation o t ns) v span) v span
function_any first None t ns v span d c w a = absurd (false≢true a.0.0)
function_any first (Some s) t ns v span d c w a =
    let n = length s.value.functions in
    let i = importing_of (derivation (Some s) t ns) s in
    let f = import_callee n s.value s.offset in
    let j = answer_by (answer_one f s.value s.offset) i (requests_of v) in
    let can = a.0.1 in
    let g = answers_each first s n f (calls_at first s c n) (requests_of v) i d can.requests in
    record {
      derivation = derived_last first s j v span g.derivation;
      place = length j.functions;
      imported = record { between = seen s j; answered = g.answered; known = g.meanings; last = comes_last s j v span w can.form a.1 };
      keeps = functions_trans (seen s i) (seen s j) (seen s (with_function s.value s.offset j v span)) g.keeps (keeps_last s j v span);
    }

pub function_law : (first : Kept) (d : Derived) (v : FunctionValue) (span : Span) → IsDerivation first d → HaveCopies d → HasCopies v → CanImport d v → ImportsFunction first d (import_function d v span) v span
function_law first d v span i c w a = function_any first d.source d.target d.function_names v span i c w a

localized_any : (o : Option Source) (t : ModuleValue) (ns : Meanings) (v : FunctionValue) → HasCopies v → HasForm v → IsLocalized (derivation o t ns) v (localize_function o ns v)
localized_any None t ns v c f = tt
localized_any (Some s) t ns v c f = c (going s ns) f

pub localized_law : (d : Derived) (v : FunctionValue) → HasCopies v → HasForm v → IsLocalized d v (localize_function d.source d.function_names v)
localized_law d v c f = localized_any d.source d.target d.function_names v c f
