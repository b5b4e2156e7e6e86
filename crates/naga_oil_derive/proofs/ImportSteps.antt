-- One more function.
use Rattle.std.proofs.Common.{◌≡◌, ⊎_elim, inl, inr, ℕ, zero, suc, ◌<◌, Bool, nat_eq, List, [], ◌∷◌, ◌++◌, length, map, get_or, slice_get, Option, Some, None, IsSome, IfSome, is_some, option_map, unwrap_or, refl, ap, sym, ◌∙◌, subst, All, String, string_bytes, Global, Result, Ok, Err, OnOk, IfOk}
use Rattle.std.specs.Cow.{cow_str_bytes}
use Rattle.std.specs.Cmp.Lexicographic.{pointwise}
use Rattle.std.specs.declared.borrow.CowStr.{CowStr}
use Rattle.std.proofs.lemmas.Bool.{false≢true}
use Rattle.std.proofs.lemmas.List.{map-append, length-map}
use Rattle.std.proofs.lemmas.List.Elements.{All-cons, All-head, All-tail, All-weaker}
use Rattle.std.proofs.lemmas.Option.{none-some, same_Some}
use Rattle.indexmap.specs.IndexMap.{IndexMap, insert_entry}
use Rattle.naga_oil_ir.specs.Spans.{undefined}
use Rattle.naga_oil_ir.specs.ModuleValue.{ModuleValue, FunctionValue, function_value}
use Rattle.naga_oil_ir.specs.declared.module.Module.{Module}
use Rattle.naga_oil_ir.specs.declared.module.Function.{Function}
use Rattle.naga_oil_ir.specs.declared.span.Span.{Span}
use Rattle.naga_oil_ir.specs.declared.names.ItemPlace.{ItemPlace}
use Rattle.naga_oil_derive.specs.World.{goes, value_of, shifted}
use Rattle.naga_oil_derive.specs.Copying.{IsThere, AreRanked, IsCopying, WentSomewhere, places_of, goes_under}
use Rattle.naga_oil_derive.specs.Callees.{known_as, known_at, callee_at}
use Rattle.naga_oil_derive.specs.Copied.{CopyState, copy_state, copy_item}
use Rattle.naga_oil_derive.specs.CopiedFunction.{copy_function}
use Rattle.naga_oil_walk.specs.Naming.{Thins, Ends, Keeps, Drops, function_names}
use Rattle.naga_oil_derive.specs.Imported.{meanings, Asks, MayImport, IsCallable, IsAnswerable, IsImportable}
use Rattle.naga_oil_derive.specs.DerivedFunctions.{Meanings, meant, meaning}
use Rattle.naga_oil_derive.specs.Answered.{ImportState, import_state, with_function}
use Rattle.naga_oil_derive.specs.Putting.{Adding, NothingAdded, FunctionAdded, CopyAdded}
use Rattle.naga_oil_derive.specs.Went.{went_by}
use Rattle.naga_oil_derive.specs.declared.maps.Maps.{Maps}
use Rattle.naga_oil_derive.specs.declared.import.Functions.{Functions}
use Rattle.naga_oil_walk.specs.declared.walk.Request.{Request}
use Rattle.naga_oil_walk.specs.declared.walk.Request.TheVariants.{Item, Call}
use Rattle.naga_oil_derive.proofs.PuttingLemmas.{copied_went}
use Rattle.naga_oil_derive.proofs.AddingLemmas.{KnowsNames, names_added}
use Rattle.naga_oil_derive.proofs.FunctionValues.{known_same}
use Rattle.naga_oil_derive.proofs.HavingLemmas.{going_same}
use Rattle.naga_oil_derive.proofs.MeaningLemmas.{meaning_put, meaning_same}

-- ---- what can be copied later

known_later : (a b : Functions) → KnowsNames a b → (o : Option (Function × Span)) → IsSome (known_at a.names o) → IsSome (known_at b.names o)
known_later a b f None h = h
known_later a b f (Some e) h = f e.0.name h

-- a weaker test
asks_weaker : (source : Module) (P Q : ℕ → Type 0) → ((k : ℕ) → P k → Q k) → (r : Request) → Asks source P r → Asks source Q r
asks_weaker source P Q w (Item p) h = h
asks_weaker source P Q w (Call f) h = (h.0, w f h.1)

pub import_weaker : (source : Module) (P Q : ℕ → Type 0) → ((k : ℕ) → P k → Q k) → (f : Function) → MayImport source P f → MayImport source Q f
import_weaker source P Q w f h = record { form = h.form; requests = All-weaker (Asks source P) (Asks source Q) (asks_weaker source P Q w) (function_names f) h.requests }

entry_weaker : (source : Module) (P Q : ℕ → Type 0) → ((k : ℕ) → P k → Q k) → (o : Option (Function × Span)) → IfSome o (λ e. IsSome e.0.name × MayImport source P e.0) → IfSome o (λ e. IsSome e.0.name × MayImport source Q e.0)
entry_weaker source P Q w None h = tt
entry_weaker source P Q w (Some e) h = (h.0, import_weaker source P Q w e.0 h.1)

-- what can be called can be called later
pub callable_later : (source : Module) (a b : Functions) → KnowsNames a b → (n k : ℕ) → IsCallable source a n k → IsCallable source b n k
callable_later source a b g zero k h = known_later a b g (slice_get source.functions k) h
callable_later source a b g (suc n) k h =
    ⊎_elim (λ l. inl (known_later a b g (slice_get source.functions k) l)) (λ l. inr (entry_weaker source (IsCallable source a n) (IsCallable source b n) (callable_later source a b g n) (slice_get source.functions k) l)) h

answerable_later : (source : Module) (a b : Functions) (n : ℕ) → KnowsNames a b → (r : Request) → IsAnswerable source a n r → IsAnswerable source b n r
answerable_later source a b n g r h = asks_weaker source (IsCallable source a n) (IsCallable source b n) (callable_later source a b g n) r h

-- ---- requests

-- what holds of all requests holds of those that are left
pub thins_kept : {s xs ys : List Request} (P : Request → Type 0) → Thins s xs ys → All P xs → All P ys
thins_kept P Ends a = a
thins_kept P (Keeps {xs = xs} {ys = ys} {x = x} th) a = All-cons P x ys (All-head P x xs a) (thins_kept P th (All-tail P x xs a))
thins_kept P (Drops {xs = xs} {x = x} i th) a = thins_kept P th (All-tail P x xs a)

request_at : (source : Module) (a b : Functions) (n : ℕ) (fs rs : List Request) (i : ℕ) (r : Request) → Thins [] fs rs → All (IsAnswerable source a n) fs → KnowsNames a b → i < length rs → r ≡ get_or rs i r → IsAnswerable source b n r
request_at source a b n fs rs i r th al g l e = answerable_later source a b n g r (subst (IsAnswerable source a n) (sym e) (thins_kept (IsAnswerable source a n) th al i r l))

-- a request at hand can be answered by what was added so far
pub request_added : (source t u : Module) (m n : Maps) (a b : Functions) (shift depth : ℕ) (ns xs ys : List Request) (i : ℕ) (r : Request) → IsCopying source t m → Adding (value_of source) shift (import_state m t a) (import_state n u b) → All (IsAnswerable source a depth) ns → Thins [] ns ys → xs ≡ ys → i < length xs → r ≡ get_or xs i r → IsAnswerable source b depth r
request_added source t u m n a b shift depth ns xs ys i r copying adding may th e l is =
    request_at source a b depth ns xs i r (subst (Thins [] ns) (sym e) th) may (names_added source t u m n a b shift copying adding) l is

-- an item that is copied is mapped
pub item_went : (source t u : Module) (m n : Maps) (p : ItemPlace) → AreRanked source → IsCopying source t m → IsThere source p → copy_state n u ≡ copy_item (value_of source) m.offset (copy_state m t) p → WentSomewhere (goes (places_of n)) (Some p)
unfolding goes_under
item_went source t u m n p ranked i there e = copied_went source t u m n p ranked i there e

-- ---- functions of a source

entry_from : (o : Option (Function × Span)) (f : Function) (span : Span) → Some f ≡ option_map (λ (e : Function × Span). e.0) o → span ≡ unwrap_or (option_map (λ (e : Function × Span). e.1) o) undefined → o ≡ Some (f, span)
entry_from None f span e g = absurd (none-some f (sym e))
entry_from (Some x) f span e g = let h : f ≡ x.0 = same_Some f x.0 e in ap (λ (y : Function). Some (let p : Function × Span = (y, x.1) in p)) (sym h) ∙ ap (λ (y : Span). Some (let p : Function × Span = (f, y) in p)) (sym g)

-- what stands at a place, with its span
pub entry_at : (fs : List (Function × Span)) (h : ℕ) (f : Function) (span : Span) → Some f ≡ option_map (λ (e : Function × Span). e.0) (slice_get fs h) → span ≡ unwrap_or (option_map (λ (e : Function × Span). e.1) (slice_get fs h)) undefined → slice_get fs h ≡ Some (f, span)
entry_at fs h f span e g = entry_from (slice_get fs h) f span e g

abbrev pub entry_of : FunctionValue → Span → FunctionValue × Span
entry_of v s = (v, s)

-- ---- a copy that was put last

abbrev state_with : CopyState → List (FunctionValue × Span) → Meanings → ImportState
state_with c f n = record { copying = c; functions = f; names = n }

-- the copy of a function, after the others
put_after : (source : Module) (f g : Function) (span : Span) (m : Maps) (a b : Functions) → function_value g ≡ copy_function (went_by m source a.names) (function_value f) → b.copies ≡ a.copies ++ (g, shifted m.offset span) ∷ [] → (t : Module) → (import_state m t b).functions ≡ (with_function (value_of source) m.offset (import_state m t a) (function_value f) span).functions
put_after source f g span m a b made e t =
    let see = λ (x : Function × Span). (let y : FunctionValue × Span = (function_value x.0, x.1) in y) in
    let fs = map see a.copies in
    ap (map see) e ∙ map-append see a.copies ((g, shifted m.offset span) ∷ []) ∙ ap (λ (v : FunctionValue). fs ++ entry_of v (shifted m.offset span) ∷ []) (made ∙ ap (λ r. copy_function r (function_value f)) (going_same source m a))

-- names differ by their bytes
abbrev pub cow_eq : CowStr Global → CowStr Global → Bool
cow_eq a b = pointwise nat_eq (cow_str_bytes a) (cow_str_bytes b)

-- the name of a function means its copy
pub name_put : (f : Function) (a b : Functions) (h : ℕ) (n : CowStr Global) → Some (cow_str_bytes n) ≡ option_map string_bytes f.name → b.names.entries ≡ insert_entry cow_eq a.names.entries n h → meanings b.names.entries ≡ meaning (meanings a.names.entries) (function_value f).name h
name_put f a b h n is e = ap meanings e ∙ meaning_put cow_eq (λ x y. refl) a.names.entries n h ∙ ap (λ o. meaning (meanings a.names.entries) o h) is

pub name_means : (f : Function) (a b : Functions) (h : ℕ) (n : CowStr Global) → Some (cow_str_bytes n) ≡ option_map string_bytes f.name → b.names.entries ≡ insert_entry cow_eq a.names.entries n h → known_as b.names f.name ≡ Some h
name_means f a b h n is e =
    known_same b.names f.name ∙ ap (λ (ms : Meanings). meant ms (function_value f).name) (name_put f a b h n is e) ∙ meaning_same (meanings a.names.entries) (function_value f).name h (ap is_some (sym is))

pub put_value : (source : Module) (f g : Function) (span : Span) (m : Maps) (t : Module) (a b : Functions) (h : ℕ) (n : CowStr Global) → function_value g ≡ copy_function (went_by m source a.names) (function_value f) → b.copies ≡ a.copies ++ (g, shifted m.offset span) ∷ [] → h ≡ length a.copies → Some (cow_str_bytes n) ≡ option_map string_bytes f.name → b.names.entries ≡ insert_entry cow_eq a.names.entries n h → import_state m t b ≡ with_function (value_of source) m.offset (import_state m t a) (function_value f) span
put_value source f g span m t a b h n made e l is i =
    let s = import_state m t a in
    let u = with_function (value_of source) m.offset s (function_value f) span in
    let see = λ (x : Function × Span). (let y : FunctionValue × Span = (function_value x.0, x.1) in y) in
    ap (λ x. state_with s.copying x (meanings b.names.entries)) (put_after source f g span m a b made e t) ∙ ap (state_with s.copying u.functions) (name_put f a b h n is i ∙ ap (meaning s.names (function_value f).name) (l ∙ sym (length-map a.copies see)))

-- where its name finds no room
pub copy_value : (source : Module) (f g : Function) (span : Span) (m : Maps) (t : Module) (a b : Functions) → function_value g ≡ copy_function (went_by m source a.names) (function_value f) → b.copies ≡ a.copies ++ (g, shifted m.offset span) ∷ [] → b.names.entries ≡ a.names.entries → import_state m t b ≡ record (with_function (value_of source) m.offset (import_state m t a) (function_value f) span) { names = (import_state m t a).names }
copy_value source f g span m t a b made e i =
    let s = import_state m t a in
    let u = with_function (value_of source) m.offset s (function_value f) span in
    ap (λ x. state_with s.copying x (meanings b.names.entries)) (put_after source f g span m a b made e t) ∙ ap (λ x. state_with s.copying u.functions (meanings x)) i

pub function_added : {m : ModuleValue} {shift : ℕ} {s u : ImportState} (v : FunctionValue) (span : Span) → u ≡ with_function m shift s v span → Adding m shift s u
function_added {m} {shift} {s} {u} v span e = FunctionAdded v span (subst (λ w. Adding m shift (with_function m shift s v span) w) (sym e) NothingAdded)

pub copy_added : {m : ModuleValue} {shift : ℕ} {s u : ImportState} (v : FunctionValue) (span : Span) → u ≡ record (with_function m shift s v span) { names = s.names } → Adding m shift s u
copy_added {m} {shift} {s} {u} v span e = CopyAdded v span (subst (λ w. Adding m shift (record (with_function m shift s v span) { names = s.names }) w) (sym e) NothingAdded)

pub on_ok : {A B : Type 0} (r : Result A B) (P : Type 0) → P → OnOk r P
on_ok (Ok x) P p = p
on_ok (Err x) P p = tt

pub if_ok_same : {A B : Type 0} (r : Result A B) (P Q : A → Type 0) → ((x : A) → P x → Q x) → IfOk r P → IfOk r Q
if_ok_same (Ok x) P Q w p = w x p
if_ok_same (Err x) P Q w p = tt

-- ---- what is known of a callee

known_at_from : {S : Type 0} (m : IndexMap (CowStr Global) ℕ S) (o : Option (Function × Span)) (f : Function) → Some f ≡ option_map (λ (e : Function × Span). e.0) o → known_at m o ≡ known_as m f.name
known_at_from m None f e = absurd (none-some f (sym e))
known_at_from m (Some x) f e = ap (λ (g : Function). known_as m g.name) (sym (same_Some f x.0 e))

pub callee_from : {S : Type 0} (m : IndexMap (CowStr Global) ℕ S) (fs : List (Function × Span)) (h : ℕ) (f : Function) → Some f ≡ option_map (λ (e : Function × Span). e.0) (slice_get fs h) → callee_at m fs h ≡ known_as m f.name
callee_from m fs h f e = known_at_from m (slice_get fs h) f e

-- a callable function whose name isn't known can be copied, where calls nest less deep
pub unknown_callee : (source : Module) (fs : Functions) (n h : ℕ) (e : Function × Span) → callee_at fs.names source.functions h ≡ None → slice_get source.functions h ≡ Some e → IsCallable source fs n h → (m : ℕ) × (n ≡ suc m) × IsSome e.0.name × IsImportable source fs m e.0
unknown_callee source fs zero h e u at c = absurd (false≢true (sym (ap is_some u) ∙ c))
unknown_callee source fs (suc m) h e u at c =
    let own = ⊎_elim (λ s. absurd (false≢true (sym (ap is_some u) ∙ s))) (λ l. subst (λ (o : Option (Function × Span)). IfSome o (λ x. IsSome x.0.name × IsImportable source fs m x.0)) at l) c in
    (m, refl, own.0, own.1)
