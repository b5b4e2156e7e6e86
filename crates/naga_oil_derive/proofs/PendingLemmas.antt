-- The result of copying the pending functions, and that it ends.
use Rattle.std.proofs.Common.{◌≡◌, ⊎_elim, ℕ, zero, suc, ◌+◌, ◌<◌, ◌≤◌, List, [], ◌∷◌, ◌++◌, length, drop, get_or, slice_get, Option, Some, None, IsSome, IfSome, is_some, option_map, if◌then◌else◌, String, string_bytes, Global, drop_of_length-le, refl, ap, sym, ◌∙◌, subst, arith, All}
use Rattle.std.specs.List.{sum_by}
use Rattle.std.proofs.lemmas.Bool.{false≢true}
use Rattle.std.proofs.lemmas.List.{drop_more, length-map, length_push}
use Rattle.std.proofs.lemmas.List.Elements.{All-head, All-tail}
use Rattle.std.proofs.lemmas.List.Sums.{sum_by-cons}
use Rattle.std.proofs.lemmas.Option.{none-some, slice_get_cases}
use Rattle.naga_oil_ir.specs.ModuleValue.{ModuleValue, FunctionValue, function_value}
use Rattle.naga_oil_ir.specs.declared.module.Module.{Module}
use Rattle.naga_oil_ir.specs.declared.module.Function.{Function}
use Rattle.naga_oil_ir.specs.declared.span.Span.{Span}
use Rattle.naga_oil_ir.specs.declared.names.ItemPlace.{ItemPlace}
use Rattle.naga_oil_walk.specs.declared.walk.Request.{Request}
use Rattle.naga_oil_walk.specs.declared.walk.Request.TheVariants.{Item, Call}
use Rattle.naga_oil_walk.specs.declared.walk.Walk.{Walk}
use Rattle.naga_oil_walk.specs.Naming.{Thins, Ends, Keeps, Drops, function_names}
use Rattle.naga_oil_walk.specs.Walks.{Walks}
use Rattle.naga_oil_derive.specs.Tree.{Kept}
use Rattle.naga_oil_derive.specs.World.{value_of}
use Rattle.naga_oil_derive.specs.declared.maps.Maps.{Maps}
use Rattle.naga_oil_derive.specs.Copying.{IsThere, AreRanked, IsCopying, kept_between}
use Rattle.naga_oil_derive.specs.Callees.{known_as, callee_at}
use Rattle.naga_oil_derive.specs.Copied.{copy_item}
use Rattle.naga_oil_derive.specs.CopiedLaw.{IsMidway}
use Rattle.naga_oil_derive.specs.DerivedFunctions.{meant, meant_at, requests_of}
use Rattle.naga_oil_derive.specs.Imported.{meanings, Asks, IsCallable, IsAnswerable, IsImportable}
use Rattle.naga_oil_derive.specs.Answered.{ImportState, import_state, Caller, answer_one, answer_by, answer_all, with_function, import_callee_by, import_callee, import_copy}
use Rattle.naga_oil_derive.specs.Pending.{IsNew, IsPending, left_requests, complete, complete_all, steps_of_request, steps_of_function, call_steps, pending_steps}
use Rattle.naga_oil_derive.specs.declared.import.Functions.{Functions}
use Rattle.naga_oil_derive.specs.declared.import.Pending.{Pending}
use Rattle.naga_oil_derive.proofs.WorldLemmas.{Begins-refl, Begins-trans, Extends-refl, Extends-trans}
use Rattle.naga_oil_derive.proofs.KindLaws.{value_kinds, ranked_copyable}
use Rattle.naga_oil_derive.proofs.PuttingLemmas.{midway_of}
use Rattle.naga_oil_derive.proofs.CopiedLaws.{copied_item}
use Rattle.naga_oil_derive.proofs.DerivedLaws.{Collects-extends}
use Rattle.naga_oil_derive.proofs.EntrySteps.{KnowsMore, meant_later}
use Rattle.naga_oil_derive.proofs.MeaningLemmas.{meaning_same}
use Rattle.naga_oil_derive.proofs.AddingLemmas.{Added, KnowsNames, adding_adds}
use Rattle.naga_oil_derive.proofs.FunctionValues.{requests_same, known_same, callee_value, functions_at, seen}
use Rattle.naga_oil_derive.proofs.ImportSteps.{function_added, import_weaker, callable_later, thins_kept}
use Rattle.naga_oil_derive.proofs.AnsweredValues.{Trail, Still, Step, Was, was_later, thin_answered}

-- ---- what an answer does

added_none : (m : ModuleValue) (kept : Kept) (s : ImportState) → IsMidway m kept s.copying → Added m kept s s
added_none m kept s i = record { items = record { midway = i; went = λ p q g. g; extends = Extends-refl s.copying.target }; functions = Begins-refl s.functions; names = λ n h. h }

added_both : (m : ModuleValue) (kept : Kept) (s t u : ImportState) → Added m kept s t → Added m kept t u → Added m kept s u
added_both m kept s t u a b = record {
  items = record { midway = b.items.midway; went = λ p q g. b.items.went p q (a.items.went p q g); extends = Extends-trans s.copying.target t.copying.target u.copying.target a.items.extends b.items.extends };
  functions = Begins-trans s.functions t.functions u.functions a.functions b.functions;
  names = λ n h. b.names n (a.names n h);
}

-- what came before stays, and what was requested is there
abbrev Does : Module → Kept → ImportState → Request → ImportState → Type 0
Does source kept s r u = Added (value_of source) kept s u × Was (value_of source) u r

-- a state between answers, in which the names of some functions are known
record Between (source : Module) (kept : Kept) (own : Functions) (s : ImportState) : Type 0 where
  midway : IsMidway (value_of source) kept s.copying
  knows : KnowsMore (meanings own.names.entries) s.names

later : (source : Module) (kept : Kept) (own : Functions) (s t : ImportState) → Between source kept own s → Added (value_of source) kept s t → Between source kept own t
later source kept own s t b a = record { midway = a.items.midway; knows = λ n h. a.names n (b.knows n h) }

item_does : (source : Module) (kept : Kept) (shift : ℕ) (s : ImportState) (p : ItemPlace) → AreRanked source → IsMidway (value_of source) kept s.copying → IsThere source p → Does source kept s (Item p) (record s { copying = copy_item (value_of source) shift s.copying p })
item_does source kept shift s p a i h =
    let g = copied_item (value_of source) shift kept s.copying p (ranked_copyable source a) i h in
    (record { items = record { midway = g.0.midway; went = g.0.went; extends = Collects-extends g.0.collects }; functions = Begins-refl s.functions; names = λ n x. x }, (g.1.0, g.1.1))

-- what a call is to do, where it can be made
abbrev CallsTo : Module → Kept → Functions → Caller → (ℕ → Type 0) → Type 0
CallsTo source kept own f P = (s : ImportState) → Between source kept own s → (k : ℕ) → k < length source.functions → P k → Does source kept s (Call k) (f s k)

one_does : (source : Module) (kept : Kept) (own : Functions) (shift : ℕ) (f : Caller) (P : ℕ → Type 0) → AreRanked source → CallsTo source kept own f P → (s : ImportState) → Between source kept own s → (r : Request) → Asks source P r → Does source kept s r (answer_one f (value_of source) shift s r)
one_does source kept own shift f P a c s b (Item p) h = item_does source kept shift s p a b.midway h
one_does source kept own shift f P a c s b (Call k) h = c s b k h.0 h.1

-- answers one after another
each_does : (source : Module) (kept : Kept) (own : Functions) (shift : ℕ) (f : Caller) (P : ℕ → Type 0) → AreRanked source → CallsTo source kept own f P → (s : ImportState) → Between source kept own s → (rs : List Request) → All (Asks source P) rs → (let u = answer_by (answer_one f (value_of source) shift) s rs in Added (value_of source) kept s u × Trail (value_of source) (answer_one f (value_of source) shift) s rs u)
each_does source kept own shift f P a c s b [] h = (added_none (value_of source) kept s b.midway, Still)
each_does source kept own shift f P a c s b (r ∷ rs) h =
    let m = value_of source in
    let F = answer_one f m shift in
    let t = F s r in
    let one = one_does source kept own shift f P a c s b r (All-head (Asks source P) r rs h) in
    let rest = each_does source kept own shift f P a c t (later source kept own s t b one.0) rs (All-tail (Asks source P) r rs h) in
    (added_both m kept s t (answer_by F t rs) one.0 rest.0, Step refl (was_later m kept s t one.0) one.1 rest.1)

-- ---- what a call does

call_known : (source : Module) (kept : Kept) (own : Functions) (s : ImportState) (k : ℕ) → Between source kept own s → IsSome (callee_at own.names source.functions k) → IsSome (meant_at s.names (slice_get (value_of source).functions k))
call_known source kept own s k b h = meant_later (meanings own.names.entries) s.names (slice_get (value_of source).functions k) b.knows (ap is_some (callee_value source own k) ∙ h)

named_value : (o : Option (String Global)) → IsSome o → IsSome (option_map string_bytes o)
named_value None h = h
named_value (Some n) h = refl

-- the call of a function whose name isn't known
fresh_does : (source : Module) (kept : Kept) (own : Functions) (shift n : ℕ) (s : ImportState) (x : Function × Span) → AreRanked source → CallsTo source kept own (import_callee n (value_of source) shift) (IsCallable source own n) → Between source kept own s → IsImportable source own n x.0 → IsSome x.0.name → (let u = import_copy n (value_of source) shift s (function_value x.0) x.1 in Added (value_of source) kept s u × IsSome (meant u.names (function_value x.0).name))
fresh_does source kept own shift n s x a c b form named =
    let m = value_of source in
    let v = function_value x.0 in
    let t = answer_all n m shift s (requests_of v) in
    let u = import_copy n m shift s v x.1 in
    let asks : All (Asks source (IsCallable source own n)) (requests_of v) = subst (All (Asks source (IsCallable source own n))) (sym (requests_same x.0)) form.requests in
    let each = each_does source kept own shift (import_callee n m shift) (IsCallable source own n) a c s b (requests_of v) asks in
    let last : Added m kept t u = adding_adds kept (value_kinds source) (function_added v x.1 refl) each.0.items.midway in
    (added_both m kept s t u each.0 last, ap is_some (meaning_same t.names v.name (length t.functions) (named_value x.0.name named)))

-- the call of a function that stands in the source
entry_does : (source : Module) (kept : Kept) (own : Functions) (shift n : ℕ) (s : ImportState) (k : ℕ) (x : Function × Span) → AreRanked source → CallsTo source kept own (import_callee n (value_of source) shift) (IsCallable source own n) → Between source kept own s → slice_get source.functions k ≡ Some x → IsCallable source own (suc n) k → (o : Option ℕ) → meant s.names (function_value x.0).name ≡ o → Does source kept s (Call k) (import_callee_by (import_callee n (value_of source) shift) (value_of source) shift s (Some (seen x)))
entry_does source kept own shift n s k x a c b at may (Some h) e =
    let m = value_of source in
    let is : meant_at s.names (slice_get m.functions k) ≡ Some h = ap (meant_at s.names) (functions_at source k ∙ ap (option_map seen) at) ∙ e in
    subst (Does source kept s (Call k)) (sym (ap (λ v. if is_some v then s else import_copy n m shift s (function_value x.0) x.1) e)) (added_none m kept s b.midway, ap is_some is)
entry_does source kept own shift n s k x a c b at may None e =
    let m = value_of source in
    let v = function_value x.0 in
    let there : slice_get m.functions k ≡ Some (seen x) = functions_at source k ∙ ap (option_map seen) at in
    let none : meant_at s.names (slice_get m.functions k) ≡ None = ap (meant_at s.names) there ∙ e in
    let can : IsSome x.0.name × IsImportable source own n x.0 = ⊎_elim (λ w. absurd (false≢true (sym (ap is_some none) ∙ call_known source kept own s k b w))) (λ w. subst (λ (o : Option (Function × Span)). IfSome o (λ y. IsSome y.0.name × IsImportable source own n y.0)) at w) may in
    let u = import_copy n m shift s v x.1 in
    let fresh = fresh_does source kept own shift n s x a c b can.1 can.0 in
    let does : Does source kept s (Call k) u = (fresh.0, ap (λ o. is_some (meant_at u.names o)) there ∙ fresh.1) in
    subst (Does source kept s (Call k)) (sym (ap (λ v. if is_some v then s else u) e)) does

place_does : (source : Module) (kept : Kept) (own : Functions) (shift n : ℕ) (s : ImportState) (k : ℕ) → AreRanked source → CallsTo source kept own (import_callee n (value_of source) shift) (IsCallable source own n) → Between source kept own s → k < length source.functions → IsCallable source own (suc n) k → (o : Option (Function × Span)) → slice_get source.functions k ≡ o → Does source kept s (Call k) (import_callee_by (import_callee n (value_of source) shift) (value_of source) shift s (slice_get (value_of source).functions k))
place_does source kept own shift n s k a c b l may None at =
    ⊎_elim (λ w. absurd (let g : None ≡ Some w.0 = sym at ∙ w.2 in cc)) (λ w. absurd (let past = w.0 in omega (arith, l, past))) (slice_get_cases source.functions k).1
place_does source kept own shift n s k a c b l may (Some x) at =
    let m = value_of source in
    subst (λ o. Does source kept s (Call k) (import_callee_by (import_callee n m shift) m shift s o)) (sym (functions_at source k ∙ ap (option_map seen) at)) (entry_does source kept own shift n s k x a c b at may (meant s.names (function_value x.0).name) refl)

calls_to : (source : Module) (kept : Kept) (own : Functions) (shift : ℕ) → AreRanked source → (n : ℕ) → CallsTo source kept own (import_callee n (value_of source) shift) (IsCallable source own n)
unfolding import_callee
calls_to source kept own shift a zero s b k l may = (added_none (value_of source) kept s b.midway, call_known source kept own s k b may)
calls_to source kept own shift a (suc n) s b k l may = place_does source kept own shift n s k a (calls_to source kept own shift a n) b l may (slice_get source.functions k) refl

-- ---- pending functions of the code

starts : (source t : Module) (m : Maps) (own : Functions) → IsCopying source t m → Between source (kept_between source t) own (import_state m t own)
starts source t m own i = record { midway = midway_of source t m i; knows = λ n h. h }

-- after a call its name means a function
call_means : (source t : Module) (m : Maps) (own : Functions) (shift n k : ℕ) → AreRanked source → IsCopying source t m → IsAnswerable source own n (Call k) → IsSome (meant_at (import_callee n (value_of source) shift (import_state m t own) k).names (slice_get (value_of source).functions k))
call_means source t m own shift n k a i h =
    (calls_to source (kept_between source t) own shift a n (import_state m t own) (starts source t m own i) k h.0 h.1).1

-- the requests of a walk are answered as all that the function names
walk_answered : (source t : Module) (m : Maps) (own : Functions) (shift n : ℕ) (f : Function) (w : Walk) → AreRanked source → IsCopying source t m → IsImportable source own n f → Walks f w → answer_all n (value_of source) shift (import_state m t own) w.requests.items ≡ answer_all n (value_of source) shift (import_state m t own) (requests_of (function_value f))
walk_answered source t m own shift n f w a i form walks =
    let v = value_of source in
    let s = import_state m t own in
    let C = import_callee n v shift in
    let kept = kept_between source t in
    let rs = w.requests.items in
    let asks : All (Asks source (IsCallable source own n)) rs = thins_kept (Asks source (IsCallable source own n)) walks.requests form.requests in
    let each = each_does source kept own shift C (IsCallable source own n) a (calls_to source kept own shift a n) s (starts source t m own i) rs asks in
    thin_answered v n shift s (answer_all n v shift s rs) (function_names f) rs walks.requests (λ r x. absurd (none-some r x.1)) each.1 ∙ ap (answer_all n v shift s) (sym (requests_same f))

-- a function that is added to the pending ones is to be imported
pub new_finish : (source t : Module) (m : Maps) (own : Functions) (shift n : ℕ) (f : Function) (span : Span) (p : Pending) → AreRanked source → IsCopying source t m → IsImportable source own n f → IsNew f span n p → complete (value_of source) shift (import_state m t own) p ≡ import_copy n (value_of source) shift (import_state m t own) (function_value f) span
new_finish source t m own shift n f span p a i form new =
    let v = value_of source in
    let s = import_state m t own in
    let rs = p.walk.requests.items in
    let g = function_value f in
    ap (λ x. with_function v shift (answer_all x v shift s (left_requests p)) (function_value p.function.now) p.span) new.depth ∙ ap (λ x. with_function v shift (answer_all n v shift s (drop x rs)) (function_value p.function.now) p.span) new.answered ∙ ap (λ x. with_function v shift (answer_all n v shift s rs) (function_value x) p.span) new.function ∙ ap (λ x. with_function v shift (answer_all n v shift s rs) g x) new.span ∙ ap (λ x. with_function v shift x g span) (walk_answered source t m own shift n f p.walk a i form new.walks)

pub new_pending : (source : Module) (own : Functions) (n : ℕ) (f : Function) (span : Span) (p : Pending) → IsNew f span n p → IsImportable source own n f → IsSome f.name → IsPending source own p
new_pending source own n f span p new form named =
    let back = sym new.function in
    record { walks = subst (λ x. Walks x p.walk) back new.walks; form = subst (λ x. IsImportable source own x p.function.now) (sym new.depth) (subst (IsImportable source own n) back form); named = subst (λ (x : Function). IsSome x.name) back named }

-- ---- one after another

pub finish_last : (m : ModuleValue) (shift : ℕ) (s : ImportState) (ps : List Pending) (p : Pending) → complete_all m shift s (ps ++ p ∷ []) ≡ complete_all m shift (complete m shift s p) ps
finish_last m shift s [] p = refl
finish_last m shift s (q ∷ ps) p = ap (λ u. complete m shift u q) (finish_last m shift s ps p)

-- with one answer more
abbrev pub next : Pending → Pending
next p = record p { answered = p.answered + 1 }

pub left_next : (p : Pending) (r : Request) → p.answered < length p.walk.requests.items → r ≡ get_or p.walk.requests.items p.answered r → left_requests p ≡ r ∷ left_requests (next p)
left_next p r l e = drop_more p.walk.requests.items p.answered r l ∙ ap (λ x. x ∷ left_requests (next p)) (sym e)

pub finish_next : (m : ModuleValue) (shift : ℕ) (s : ImportState) (p : Pending) (r : Request) → left_requests p ≡ r ∷ left_requests (next p) → complete m shift s p ≡ complete m shift (answer_one (import_callee p.depth m shift) m shift s r) (next p)
finish_next m shift s p r e = ap (λ rs. with_function m shift (answer_all p.depth m shift s rs) (function_value p.function.now) p.span) e

pub finish_none : (m : ModuleValue) (shift : ℕ) (s : ImportState) (p : Pending) → length p.walk.requests.items ≤ p.answered → complete m shift s p ≡ with_function m shift s (function_value p.function.now) p.span
finish_none m shift s p l = ap (λ rs. with_function m shift (answer_all p.depth m shift s rs) (function_value p.function.now) p.span) (drop_of_length-le p.walk.requests.items l)

pub request_asks : (source : Module) (own : Functions) (p : Pending) (r : Request) → IsPending source own p → p.answered < length p.walk.requests.items → r ≡ get_or p.walk.requests.items p.answered r → IsAnswerable source own p.depth r
request_asks source own p r i l e = subst (IsAnswerable source own p.depth) (sym e) (thins_kept (IsAnswerable source own p.depth) i.walks.requests i.form.requests p.answered r l)

pub pending_later : (source : Module) (a b : Functions) → KnowsNames a b → (p : Pending) → IsPending source a p → IsPending source b p
pending_later source a b g p i = record { walks = i.walks; form = import_weaker source (IsCallable source a p.depth) (IsCallable source b p.depth) (callable_later source a b g p.depth) p.function.now i.form; named = i.named }

pub next_pending : (source : Module) (own : Functions) (p : Pending) → IsPending source own p → IsPending source own (next p)
next_pending source own p i = record { walks = i.walks; form = i.form; named = i.named }

-- ---- steps

thins_steps : (f : Request → ℕ) {s xs ys : List Request} → Thins s xs ys → sum_by f ys ≤ sum_by f xs
thins_steps f Ends = omega arith
thins_steps f (Keeps {xs = xs} {ys = ys} {x = x} th) = let i = thins_steps f th in omega (arith, i, sum_by-cons f x xs, sum_by-cons f x ys)
thins_steps f (Drops {xs = xs} {ys = ys} {x = x} a th) = let i = thins_steps f th in omega (arith, i, sum_by-cons f x xs)

steps_some : (f : ℕ → ℕ) (o : Option (FunctionValue × Span)) → 0 < steps_of_function f o
steps_some f None = omega arith
steps_some f (Some e) = omega arith

pub call_some : (n : ℕ) (m : ModuleValue) (k : ℕ) → 0 < call_steps n m k
unfolding call_steps
call_some zero m k = omega arith
call_some (suc n) m k = steps_some (call_steps n m) (slice_get m.functions k)

pub steps_next : (m : ModuleValue) (p : Pending) (r : Request) → left_requests p ≡ r ∷ left_requests (next p) → pending_steps m p ≡ pending_steps m (next p) + steps_of_request (call_steps p.depth m) r
steps_next m p r e =
    let g = steps_of_request (call_steps p.depth m) in
    let a : sum_by g (left_requests p) ≡ g r + sum_by g (left_requests (next p)) = ap (sum_by g) e ∙ sum_by-cons g r (left_requests (next p)) in
    omega (arith, a)

pub new_steps : (source : Module) (n d k : ℕ) (f : Function) (span : Span) (p : Pending) → IsNew f span n p → d ≡ suc n → slice_get source.functions k ≡ Some (f, span) → pending_steps (value_of source) p < call_steps d (value_of source) k
unfolding call_steps
new_steps source n d k f span p new e at =
    let m = value_of source in
    let g = steps_of_request (call_steps n m) in
    let own : pending_steps m p ≡ 1 + sum_by g p.walk.requests.items = ap (λ x. 1 + sum_by (steps_of_request (call_steps x m)) (left_requests p)) new.depth ∙ ap (λ x. 1 + sum_by g (drop x p.walk.requests.items)) new.answered in
    let less : sum_by g p.walk.requests.items ≤ sum_by g (function_names f) = thins_steps g new.walks.requests in
    let all : call_steps d m k ≡ 2 + sum_by g (function_names f) = ap (λ x. call_steps x m k) e ∙ ap (steps_of_function (call_steps n m)) (functions_at source k ∙ ap (option_map seen) at) ∙ ap (λ rs. 2 + sum_by g rs) (requests_same f) in
    omega (arith, own, less, all)

-- ---- what names mean in the end

pub callee_known : (source t x : Module) (m k : Maps) (own u : Functions) (shift n h : ℕ) → AreRanked source → IsCopying source t m → IsAnswerable source own n (Call h) → import_state k x u ≡ import_callee n (value_of source) shift (import_state m t own) h → IsSome (callee_at u.names source.functions h)
callee_known source t x m k own u shift n h a i may e =
    ap is_some (sym (callee_value source u h) ∙ ap (λ (y : ImportState). meant_at y.names (slice_get (value_of source).functions h)) e) ∙ call_means source t m own shift n h a i may
