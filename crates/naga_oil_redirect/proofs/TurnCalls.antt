-- After functions are sorted, each calls what it called, by name.
use Rattle.std.proofs.Common.{◌≡◌, ◌∙◌, ⊎_elim, ◌⊎◌, inl, inr, ℕ, zero, suc, ◌+◌, ◌<◌, ◌==◌, true, unwrap_or, List, [], ◌∷◌, ◌++◌, map, length, take, get_or, bytes_eq, slice_get, Option, Some, None, option_map, is_some, IsSome, Result, Ok, Err, All, refl, ap, sym, subst, arith, append_assoc, append-nil, length-append}
use Rattle.std.specs.Option.{option_flatten}
use Rattle.std.proofs.lemmas.Bool.{cases_Bool, or_cases, false≢true}
use Rattle.std.proofs.lemmas.List.{length-map}
use Rattle.std.proofs.lemmas.List.Elements.{All-nil, All-head, All-tail}
use Rattle.std.proofs.lemmas.Option.{none-some, same_Some, slice_get_within}
use Rattle.std.proofs.lemmas.Slice.Eq.{bytes_eq-Decides}
use Rattle.naga_oil_form.specs.Links.{linked, has}
use Rattle.naga_oil_ir.specs.ModuleValue.{ModuleValue, FunctionValue, EntryValue}
use Rattle.naga_oil_form.specs.NameForm.{Name}
use Rattle.naga_oil_ir.specs.RedirectFault.{RedirectFault}
use Rattle.naga_oil_ir.specs.Rows.{Text}
use Rattle.naga_oil_ir.specs.declared.names.ItemPlace.{ItemPlace}
use Rattle.naga_oil_ir.specs.declared.span.Span.{Span}
use Rattle.naga_oil_form.proofs.LinkLemmas.{All-has, has-append, only, linked-map, or_left, or_right, eq_eqb}
use Rattle.naga_oil_rename.specs.Renames.{Renames}
use Rattle.naga_oil_derive.specs.Answered.{ImportState, goes_by, answer_all, with_function}
use Rattle.naga_oil_derive.specs.CopiedEntry.{entry_names, import_items, place_entry, EntriesState, entries_state, copy_entry, copy_entries, module_of, module_by, make_module}
use Rattle.naga_oil_derive.specs.Copied.{copy_item}
use Rattle.naga_oil_derive.specs.CopiedFunction.{copy_expressions, body_renames, notes_in, copy_function}
use Rattle.naga_oil_derive.specs.Functions.{begun, order_of}
use Rattle.naga_oil_derive.specs.Copying.{special_names}
use Rattle.naga_oil_derive.specs.World.{special_entries}
use Rattle.naga_oil_derive.specs.Derived.{Source, Derived, nothing}
use Rattle.naga_oil_derive.specs.DerivedFunctions.{Meanings, meant, meant_at, meaning, going, requests_of}
use Rattle.naga_oil_derive.specs.DerivedValue.{by_source, copying_of, after_copying, importing_of, after_importing, import_item, import_function, answer_requests, localize_function, set_source, first_places}
use Rattle.naga_oil_derive.proofs.MeaningLemmas.{lookup_other, meaning_same, meaning_more}
use Rattle.naga_oil_redirect.specs.Chain.{last_of, destination, called, AreSent, IsSentDown, CallsWithin, HasNamedCalls}
use Rattle.naga_oil_redirect.specs.ChainLaw.{KeepsSent, OrderLaw}
use Rattle.naga_oil_redirect.specs.Level.{StayWithin}
use Rattle.naga_oil_redirect.specs.Ordered.{callees_of, calls_of, function_name_at, ordered}
use Rattle.naga_oil_redirect.specs.PutInOrder.{import_one, import_in_turn, in_turn, in_turn_if}
use Rattle.naga_oil_redirect.proofs.ChainNames.{name_at, callees-renamed}
use Rattle.naga_oil_redirect.proofs.TurnLemmas.{callees_before, each_in_order, order_within}
use Rattle.naga_oil_redirect.proofs.TurnNames.{answered, item_keeps, all_keeps}

-- ---- copies of functions, by what they call

copied_calls : (r : Renames) (f : FunctionValue) → callees_of (copy_function r f).body ≡ map r.function (callees_of f.body)
unfolding copy_function
copied_calls r f =
    let o = order_of f in
    let n = length (begun f) in
    callees-renamed (body_renames r (copy_expressions r f.expressions o n) o n (notes_in f)) f.body

copied_name : (r : Renames) (f : FunctionValue) → (copy_function r f).name ≡ f.name
unfolding copy_function
copied_name r f = refl

-- g, where functions stand as fs, calls what f calls in m, by name
record CallsAs (m : ModuleValue) (f : FunctionValue) (fs : List (FunctionValue × Span)) (g : FunctionValue) : Type 0 where
  goes : ℕ → ℕ
  calls : callees_of g.body ≡ map goes (callees_of f.body)
  names : (c : ℕ) → has (callees_of f.body) c ≡ true → name_at fs (goes c) ≡ name_at m.functions c

-- and it has the name of one function of m and calls what that calls
record IsCallCopy (m : ModuleValue) (fs : List (FunctionValue × Span)) (g : FunctionValue) : Type 0 where
  place : ℕ
  source : FunctionValue × Span
  at : slice_get m.functions place ≡ Some source
  name : source.0.name ≡ g.name
  calls : CallsAs m source.0 fs g

name_later : (fs ys : List (FunctionValue × Span)) (k : ℕ) (n : Name) → name_at fs k ≡ Some n → name_at (fs ++ ys) k ≡ Some n
name_later [] ys k n h = absurd (none-some n h)
name_later (f ∷ fs) ys zero n h = h
name_later (f ∷ fs) ys (suc k) n h = name_later fs ys k n h

name_last : (fs : List (FunctionValue × Span)) (g : FunctionValue × Span) → name_at (fs ++ g ∷ []) (length fs) ≡ g.0.name
name_last [] g = refl
name_last (f ∷ fs) g = name_last fs g

-- a function of a list with one more is of the list, or that one
last_of_list : (fs : List (FunctionValue × Span)) (g : FunctionValue × Span) (k : ℕ) (x : FunctionValue × Span) → slice_get (fs ++ g ∷ []) k ≡ Some x → (slice_get fs k ≡ Some x) ⊎ (g ≡ x)
last_of_list [] g zero x h = inr (same_Some g x h)
last_of_list [] g (suc k) x h = absurd (none-some x h)
last_of_list (f ∷ fs) g zero x h = inl h
last_of_list (f ∷ fs) g (suc k) x h = last_of_list fs g k x h

some_text : (t : Text) → IsSome t → (n : Name) × (t ≡ Some n)
some_text None h = absurd (false≢true h)
some_text (Some n) h = (n, refl)

something : (fs : List (FunctionValue × Span)) (k : ℕ) → k < length fs → (e : FunctionValue × Span) × (slice_get fs k ≡ Some e)
something [] k l = absurd (omega (arith, l))
something (e ∷ fs) zero l = (e, refl)
something (e ∷ fs) (suc k) l = something fs k (omega (arith, l))

module _ (m : ModuleValue) (h : HasNamedCalls m) where
  -- a function that is there has a name
  named : (c : ℕ) → c < length m.functions → (n : Name) × (name_at m.functions c ≡ Some n)
  named c l =
      let e = something m.functions c l in
      let n = some_text e.0.0.name (h.named c e.0 e.1) in
      (n.0, ap (λ (o : Option (FunctionValue × Span)). option_flatten (option_map (λ f. f.0.name) o)) e.1 ∙ n.1)

  -- what one calls it calls where there are more functions
  calls_later : (f g : FunctionValue) (fs ys : List (FunctionValue × Span)) → CallsWithin m f → CallsAs m f fs g → CallsAs m f (fs ++ ys) g
  calls_later f g fs ys within w = record {
    goes = w.goes;
    calls = w.calls;
    names = λ c i. (let n = named c (All-has (λ c. c < length m.functions) (callees_of f.body) c within i) in name_later fs ys (w.goes c) n.0 (w.names c i ∙ n.1) ∙ sym n.1);
  }

  copy_later : (fs ys : List (FunctionValue × Span)) (g : FunctionValue) → IsCallCopy m fs g → IsCallCopy m (fs ++ ys) g
  copy_later fs ys g w = record { place = w.place; source = w.source; at = w.at; name = w.name; calls = calls_later w.source.0 g fs ys (h.functions w.place w.source w.at) w.calls }

  -- names mean functions of these names
  abbrev AreTrue : List (FunctionValue × Span) → Meanings → Type 0
  AreTrue fs ns = (n : Text) (i : ℕ) → meant ns n ≡ Some i → name_at fs i ≡ n

  -- what a function calls is known
  abbrev CallsKnown : Meanings → FunctionValue → Type 0
  CallsKnown ns f = (c : ℕ) → has (callees_of f.body) c ≡ true → IsSome (meant_at ns (slice_get m.functions c))

  meant_name : (ns : Meanings) (fs : List (FunctionValue × Span)) → AreTrue fs ns → (o : Option (FunctionValue × Span)) (d : ℕ) → IsSome (meant_at ns o) → name_at fs (unwrap_or (meant_at ns o) d) ≡ option_flatten (option_map (λ f. f.0.name) o)
  meant_name ns fs true_names None d k = absurd (false≢true k)
  meant_name ns fs true_names (Some e) d k = by (meant ns e.0.name) refl k
    where
      by : (o : Option ℕ) → meant ns e.0.name ≡ o → IsSome o → name_at fs (unwrap_or o d) ≡ e.0.name
      by None at k = absurd (false≢true k)
      by (Some i) at k = true_names e.0.name i at

  -- a copy calls what its source calls
  copy_calls : (s : Source) (ns : Meanings) (fs : List (FunctionValue × Span)) (f : FunctionValue) → s.value ≡ m → AreTrue fs ns → CallsKnown ns f → CallsAs m f fs (copy_function (going s ns) f)
  copy_calls s ns fs f e true_names known = record {
    goes = (going s ns).function;
    calls = copied_calls (going s ns) f;
    names = λ c i. ap (λ (v : ModuleValue). name_at fs (unwrap_or (meant_at ns (slice_get v.functions c)) c)) e ∙ meant_name ns fs true_names (slice_get m.functions c) c (known c i);
  }

  -- ---- how functions stand while they come

  record Turned (d : Derived) (ks : List ℕ) : Type 0 where
    source : Source
    is : d.source ≡ Some source
    value : source.value ≡ m
    known : (k : ℕ) → has ks k ≡ true → IsSome (meant_at d.function_names (slice_get m.functions k))
    are_true : AreTrue d.target.functions d.function_names
    copies : (k : ℕ) (g : FunctionValue × Span) → slice_get d.target.functions k ≡ Some g → IsCallCopy m d.target.functions g.0

  true_more : (fs : List (FunctionValue × Span)) (ns : Meanings) (g : FunctionValue × Span) (t : Text) → IsSome t → g.0.name ≡ t → AreTrue fs ns → AreTrue (fs ++ g ∷ []) (meaning ns t (length fs))
  true_more fs ns g None i e a n k at = absurd (false≢true i)
  true_more fs ns g (Some bs) i e a None k at = absurd (none-some k at)
  true_more fs ns g (Some bs) i e a (Some cs) k at =
      ⊎_elim
      (λ y.
      let same : cs ≡ bs = (bytes_eq-Decides cs bs).0 y in
      let place : length fs ≡ k = same_Some (length fs) k (sym (meaning_same ns (Some bs) (length fs) refl) ∙ ap (λ x. meant (meaning ns (Some bs) (length fs)) (Some x)) (sym same) ∙ at) in
      ap (name_at (fs ++ g ∷ [])) (sym place) ∙ name_last fs g ∙ e ∙ ap Some (sym same))
      (λ y. name_later fs (g ∷ []) k cs (a (Some cs) k (sym (lookup_other ns bs cs (length fs) y) ∙ at)))
      (cases_Bool (bytes_eq cs bs))

  -- after requests were answered, or a function came
  turn_of : (s : Source) (i : ImportState) (ks : List ℕ) → s.value ≡ m → ((k : ℕ) → has ks k ≡ true → IsSome (meant_at i.names (slice_get m.functions k))) → AreTrue i.functions i.names → ((k : ℕ) (g : FunctionValue × Span) → slice_get i.functions k ≡ Some g → IsCallCopy m i.functions g.0) → Turned (after_importing s i) ks
  turn_of s i ks e known true_names copies = record { source = _; is = refl; value = e; known = known; are_true = true_names; copies = copies }

  known_more : (ns : Meanings) (ks : List ℕ) (k : ℕ) (f : FunctionValue × Span) (n : ℕ) → slice_get m.functions k ≡ Some f → ((j : ℕ) → has ks j ≡ true → IsSome (meant_at ns (slice_get m.functions j))) → (j : ℕ) → has (ks ++ k ∷ []) j ≡ true → IsSome (meant_at (meaning ns f.0.name n) (slice_get m.functions j))
  known_more ns ks k f n at known j among =
      ⊎_elim
      (λ a. later (slice_get m.functions j) (known j a))
      (λ a. subst (λ (o : Option (FunctionValue × Span)). IsSome (meant_at (meaning ns f.0.name n) o)) (sym at ∙ ap (slice_get m.functions) (only k j a)) (ap is_some (meaning_same ns f.0.name n (h.named k f at))))
      (or_cases (has ks j) (has (k ∷ []) j) (sym (has-append ks (k ∷ []) j) ∙ among))
    where
      later : (o : Option (FunctionValue × Span)) → IsSome (meant_at ns o) → IsSome (meant_at (meaning ns f.0.name n) o)
      later None i = absurd (false≢true i)
      later (Some e) i = meaning_more ns f.0.name n e.0.name i

  -- one function more
  turn_with : (s : Source) (i : ImportState) (ks : List ℕ) (k : ℕ) (f : FunctionValue × Span) → s.value ≡ m → slice_get m.functions k ≡ Some f → CallsKnown i.names f.0 → ((k : ℕ) → has ks k ≡ true → IsSome (meant_at i.names (slice_get m.functions k))) → AreTrue i.functions i.names → ((k : ℕ) (g : FunctionValue × Span) → slice_get i.functions k ≡ Some g → IsCallCopy m i.functions g.0) → Turned (after_importing s (with_function s.value s.offset i f.0 f.1)) (ks ++ k ∷ [])
  turn_with s i ks k f e at calls known true_names copies =
      let r = goes_by s.value s.offset i in
      let src : Source = record { value = s.value; offset = s.offset; places = i.copying.places } in
      let last = (with_function s.value s.offset i f.0 f.1).functions in
      let own : CallsAs m f.0 i.functions (copy_function r f.0) = copy_calls src i.names i.functions f.0 e true_names calls in
      turn_of s (with_function s.value s.offset i f.0 f.1) (ks ++ k ∷ []) e (known_more i.names ks k f (length i.functions) at known) (true_more i.functions i.names (copy_function r f.0, _) f.0.name (h.named k f at) (copied_name r f.0) true_names) (λ j g there. ⊎_elim (λ y. copy_later i.functions _ g.0 (copies j g y)) (λ y. subst (λ (x : FunctionValue × Span). IsCallCopy m last x.0) y (record { place = k; source = f; at = at; name = sym (copied_name r f.0); calls = calls_later f.0 (copy_function r f.0) i.functions _ (h.functions k f at) own })) (last_of_list i.functions _ j g there))

  turn_more : (d : Derived) (ks : List ℕ) (k : ℕ) (f : FunctionValue × Span) → slice_get m.functions k ≡ Some f → CallsKnown d.function_names f.0 → Turned d ks → Turned (import_function d f.0 f.1) (ks ++ k ∷ [])
  turn_more d ks k f at calls t =
      let s = t.source in
      let i = answer_all (length s.value.functions) s.value s.offset (importing_of d s) (requests_of f.0) in
      let by_value = λ (c : ℕ) (a : has (callees_of f.0.body) c ≡ true). subst (λ (v : ModuleValue). IsSome (meant_at d.function_names (slice_get v.functions c))) (sym t.value) (calls c a) in
      let w = answered (length s.value.functions) s.value s.offset f.0 (importing_of d s) by_value in
      let names : d.function_names ≡ i.names = sym w.names in
      let functions : d.target.functions ≡ i.functions = sym w.functions in
      let made = turn_with s i ks k f t.value at (subst (λ ns. CallsKnown ns f.0) names calls) (subst (λ ns. (k : ℕ) → has ks k ≡ true → IsSome (meant_at ns (slice_get m.functions k))) names t.known) (subst (λ fs. AreTrue fs i.names) functions (subst (AreTrue d.target.functions) names t.are_true)) (subst (λ fs. (k : ℕ) (g : FunctionValue × Span) → slice_get fs k ≡ Some g → IsCallCopy m fs g.0) functions t.copies) in
      subst (λ e. Turned e (ks ++ k ∷ [])) (sym (ap (by_source d (λ s. after_importing s (with_function s.value s.offset (answer_all (length s.value.functions) s.value s.offset (importing_of d s) (requests_of f.0)) f.0 f.1))) t.is)) made

  -- ---- one function after another

  within_calls : (k : ℕ) (o : Option (FunctionValue × Span)) (fs : List (FunctionValue × Span)) → ((k : ℕ) (e : FunctionValue × Span) → slice_get fs k ≡ Some e → CallsWithin m e.0) → All (λ c. c < length m.functions) (linked (calls_of fs) k)
  within_calls k o [] all = All-nil (λ c. c < length m.functions)
  within_calls zero o (f ∷ fs) all = all 0 f refl
  within_calls (suc k) o (f ∷ fs) all = within_calls k o fs (λ j e at. all (suc j) e at)

  as_many_calls : length (calls_of m.functions) ≡ length m.functions
  as_many_calls = length-map m.functions (λ (f : FunctionValue × Span). callees_of f.0.body)

  stay_within : StayWithin (calls_of m.functions)
  stay_within k = subst (λ n. All (λ c. c < n) (linked (calls_of m.functions) k)) (sym as_many_calls) (within_calls k None m.functions h.functions)

  module _ (os : List ℕ) (order : ordered m.functions ≡ Ok os) where
    split_at : (done rest : List ℕ) (k : ℕ) → (get_or (done ++ k ∷ rest) (length done) 0 ≡ k) × (take (length done) (done ++ k ∷ rest) ≡ done) × (length done < length (done ++ k ∷ rest))
    split_at [] rest k = (refl, refl, omega arith)
    split_at (x ∷ done) rest k = let w = split_at done rest k in (w.0, ap (λ xs. x ∷ xs) w.1, (let l = w.2 in omega (arith, l)))

    -- what a function calls stands before it
    called_before : (done rest : List ℕ) (k : ℕ) (f : FunctionValue × Span) → os ≡ done ++ k ∷ rest → slice_get m.functions k ≡ Some f → (c : ℕ) → has (callees_of f.0.body) c ≡ true → has done c ≡ true
    called_before done rest k f e at c i =
        let w = split_at done rest k in
        let place : get_or os (length done) 0 ≡ k = ap (λ xs. get_or xs (length done) 0) e ∙ w.0 in
        let front : take (length done) os ≡ done = ap (take (length done)) e ∙ w.1 in
        let calls : linked (calls_of m.functions) k ≡ callees_of f.0.body = linked-map (λ (x : FunctionValue × Span). callees_of x.0.body) m.functions k f at in
        ap (λ xs. has xs c) (sym front) ∙ callees_before m.functions stay_within os (length done) order (subst (λ xs. length done < length xs) (sym e) w.2) c (ap (λ j. has (linked (calls_of m.functions) j) c) place ∙ ap (λ xs. has xs c) calls ∙ i)

    turn_all : (rest done : List ℕ) (d : Derived) → os ≡ done ++ rest → All (λ k. k < length m.functions) rest → Turned d done → Turned (import_in_turn m d rest) os
    turn_all [] done d e a t = subst (Turned d) (sym (append-nil done) ∙ sym e) t
    turn_all (k ∷ rest) done d e a t =
        let f = something m.functions k (All-head (λ k. k < length m.functions) k rest a) in
        let more = turn_more d done k f.0 f.1 (λ c i. t.known c (called_before done rest k f.0 e f.1 c i)) t in
        let next = subst (λ x. Turned x (done ++ k ∷ [])) (sym (ap (import_one d) f.1)) more in
        turn_all rest (done ++ k ∷ []) (import_one d (slice_get m.functions k)) (e ∙ sym (append_assoc done (k ∷ []) rest)) (All-tail (λ k. k < length m.functions) k rest a) next

    begins : Turned (set_source nothing m 0) []
    begins =
        let none : (set_source nothing m 0).target.functions ≡ [] = all_keeps m 0 (record { places = first_places nothing m; target = nothing.target }) (special_names (special_entries m.special_types)) in
        record {
          source = _;
          is = refl;
          value = refl;
          known = λ k i. absurd (false≢true i);
          are_true = λ n i at. absurd (no_meaning n i at);
          copies = λ k g at. absurd (none-some g (ap (λ fs. slice_get fs k) (sym none) ∙ at));
        }
      where
        no_meaning : (n : Text) (i : ℕ) → meant [] n ≡ Some i → ⊥
        no_meaning None i e = none-some i e
        no_meaning (Some n) i e = none-some i e

    -- ---- entry points

    record IsSame (d e : Derived) : Type 0 where
      source : Source
      is : e.source ≡ Some source
      value : source.value ≡ m
      functions : e.target.functions ≡ d.target.functions
      names : e.function_names ≡ d.function_names

    turn_same : (d e : Derived) → IsSame d e → Turned d os → Turned e os
    turn_same d e w t = record {
      source = w.source;
      is = w.is;
      value = w.value;
      known = subst (λ ns. (k : ℕ) → has os k ≡ true → IsSome (meant_at ns (slice_get m.functions k))) (sym w.names) t.known;
      are_true = subst (λ fs. AreTrue fs e.function_names) (sym w.functions) (subst (AreTrue d.target.functions) (sym w.names) t.are_true);
      copies = subst (λ fs. (k : ℕ) (g : FunctionValue × Span) → slice_get fs k ≡ Some g → IsCallCopy m fs g.0) (sym w.functions) t.copies;
    }

    same_answered : (d : Derived) (f : FunctionValue) → CallsKnown d.function_names f → Turned d os → IsSame d (answer_requests d (requests_of f))
    same_answered d f calls t =
        let s = t.source in
        let by_value = λ (c : ℕ) (a : has (callees_of f.body) c ≡ true). subst (λ (v : ModuleValue). IsSome (meant_at d.function_names (slice_get v.functions c))) (sym t.value) (calls c a) in
        let w = answered (length s.value.functions) s.value s.offset f (importing_of d s) by_value in
        let i = answer_all (length s.value.functions) s.value s.offset (importing_of d s) (requests_of f) in
        let own : IsSame d (after_importing s i) = record { source = _; is = refl; value = t.value; functions = w.functions; names = w.names } in
        subst (IsSame d) (sym (ap (by_source d (λ s. after_importing s (answer_all (length s.value.functions) s.value s.offset (importing_of d s) (requests_of f)))) t.is)) own

    same_item : (d : Derived) (p : ItemPlace) → Turned d os → IsSame d (import_item d p)
    same_item d p t =
        let s = t.source in
        let c = copy_item s.value s.offset (copying_of d s) p in
        let own : IsSame d (after_copying d s c) = record { source = _; is = refl; value = t.value; functions = item_keeps s.value s.offset (copying_of d s) p; names = refl } in
        subst (IsSame d) (sym (ap (by_source d (λ s. after_copying d s (copy_item s.value s.offset (copying_of d s) p))) t.is)) own

    same_again : (d e f : Derived) → IsSame d e → IsSame e f → IsSame d f
    same_again d e f a b = record { source = b.source; is = b.is; value = b.value; functions = b.functions ∙ a.functions; names = b.names ∙ a.names }

    same_items : (ps : List (Option ItemPlace)) (d : Derived) → Turned d os → IsSame d (import_items d ps)
    same_items [] d t = record { source = t.source; is = t.is; value = t.value; functions = refl; names = refl }
    same_items (None ∷ ps) d t = same_items ps d t
    same_items (Some p ∷ ps) d t = let w = same_item d p t in same_again d (import_item d p) (import_items (import_item d p) ps) w (same_items ps (import_item d p) (turn_same d (import_item d p) w t))

    -- y calls what the entry point at i calls
    record IsEntryCopy (vs : List EntryValue) (fs : List (FunctionValue × Span)) (i : ℕ) (y : EntryValue) : Type 0 where
      source : EntryValue
      at : slice_get vs i ≡ Some source
      calls : CallsAs m source.function fs y.function

    record Entries (vs : List EntryValue) (st : EntriesState) : Type 0 where
      turned : Turned st.derived os
      each : (i : ℕ) (y : EntryValue) → slice_get st.entries i ≡ Some y → IsEntryCopy vs st.derived.target.functions i y
      long : length st.entries ≡ length vs

    all_known : (d : Derived) (f : FunctionValue) → Turned d os → CallsWithin m f → CallsKnown d.function_names f
    all_known d f t within c i = t.known c (each_in_order m.functions os order c (All-has (λ c. c < length m.functions) (callees_of f.body) c within i))

    entry_at_end : (vs : List EntryValue) (v : EntryValue) → slice_get (vs ++ v ∷ []) (length vs) ≡ Some v
    entry_at_end [] v = refl
    entry_at_end (x ∷ vs) v = entry_at_end vs v

    entry_stays : (vs : List EntryValue) (v : EntryValue) (i : ℕ) (x : EntryValue) → slice_get vs i ≡ Some x → slice_get (vs ++ v ∷ []) i ≡ Some x
    entry_stays [] v i x h = absurd (none-some x h)
    entry_stays (y ∷ vs) v zero x h = h
    entry_stays (y ∷ vs) v (suc i) x h = entry_stays vs v i x h

    entry_is : (ys : List EntryValue) (y : EntryValue) (i : ℕ) (x : EntryValue) → slice_get (ys ++ y ∷ []) i ≡ Some x → (slice_get ys i ≡ Some x) ⊎ ((i ≡ length ys) × (y ≡ x))
    entry_is [] y zero x h = inr (refl, same_Some y x h)
    entry_is [] y (suc i) x h = absurd (none-some x h)
    entry_is (z ∷ ys) y zero x h = inl h
    entry_is (z ∷ ys) y (suc i) x h = ⊎_elim (λ a. inl a) (λ (a : (i ≡ length ys) × (y ≡ x)). inr ((let l = a.0 in omega (arith, l)), a.1)) (entry_is ys y i x h)

    next_entry : (vs : List EntryValue) (st : EntriesState) (v : EntryValue) → CallsWithin m v.function → Entries vs st → Entries (vs ++ v ∷ []) (copy_entry st v)
    next_entry vs st v within en =
        let d = st.derived in
        let e = answer_requests d (requests_of v.function) in
        let a = same_answered d v.function (all_known d v.function en.turned within) en.turned in
        let t = turn_same d e a en.turned in
        let f = import_items e (entry_names v) in
        let b = same_items (entry_names v) e t in
        let u = turn_same e f b t in
        let g = localize_function e.source e.function_names v.function in
        let y = place_entry f.source g v in
        let own : CallsAs m v.function e.target.functions g = subst (λ (o : Option Source). CallsAs m v.function e.target.functions (localize_function o e.function_names v.function)) (sym a.is) (copy_calls a.source e.function_names e.target.functions v.function a.value t.are_true (all_known e v.function t within)) in
        let made : CallsAs m v.function f.target.functions g = subst (λ fs. CallsAs m v.function fs g) (sym b.functions) own in
        let stay : f.target.functions ≡ d.target.functions = b.functions ∙ a.functions in
        record {
          turned = u;
          each = λ i x at. ⊎_elim
              (λ q. let w = en.each i x q in record { source = w.source; at = entry_stays vs v i w.source w.at; calls = subst (λ fs. CallsAs m w.source.function fs x.function) (sym stay) w.calls })
              (λ (q : (i ≡ length st.entries) × (y ≡ x)). record { source = v; at = ap (slice_get (vs ++ v ∷ [])) (q.0 ∙ en.long) ∙ entry_at_end vs v; calls = subst (λ (z : EntryValue). CallsAs m v.function f.target.functions z.function) q.1 made })
              (entry_is st.entries y i x at);
          long = length-append st.entries (y ∷ []) ∙ ap (λ n. n + 1) en.long ∙ sym (length-append vs (v ∷ []));
        }

    all_entries : (ws vs : List EntryValue) (st : EntriesState) → ((i : ℕ) (v : EntryValue) → slice_get ws i ≡ Some v → CallsWithin m v.function) → Entries vs st → Entries (vs ++ ws) (copy_entries st ws)
    all_entries [] vs st ok en = subst (λ xs. Entries xs st) (sym (append-nil vs)) en
    all_entries (w ∷ ws) vs st ok en = subst (λ xs. Entries xs (copy_entries (copy_entry st w) ws)) (append_assoc vs (w ∷ []) ws) (all_entries ws (vs ++ w ∷ []) (copy_entry st w) (λ i v at. ok (suc i) v at) (next_entry vs st w (ok 0 w refl) en))

    -- ---- the whole

    called_as : (f : FunctionValue) (fs : List (FunctionValue × Span)) (g : FunctionValue) → CallsAs m f fs g → called fs g ≡ called m.functions f
    called_as f fs g w = ap (map (function_name_at fs)) w.calls ∙ all (callees_of f.body) w.names
      where
        all : (cs : List ℕ) → ((c : ℕ) → has cs c ≡ true → name_at fs (w.goes c) ≡ name_at m.functions c) → map (function_name_at fs) (map w.goes cs) ≡ map (function_name_at m.functions) cs
        all [] names = refl
        all (c ∷ cs) names =
            ap (λ n. n ∷ map (function_name_at fs) (map w.goes cs)) (ap (λ t. unwrap_or t []) (names c (or_left (c == c) (has cs c) (eq_eqb c c refl)))) ∙ ap (λ ns. function_name_at m.functions c ∷ ns) (all cs (λ x i. names x (or_right (c == x) (has cs x) i)))

    named_there : (fs : List (FunctionValue × Span)) (i : ℕ) (n : Name) → name_at fs i ≡ Some n → (g : FunctionValue × Span) × (slice_get fs i ≡ Some g) × (g.0.name ≡ Some n)
    named_there [] i n e = absurd (none-some n e)
    named_there (f ∷ fs) zero n e = (f, refl, e)
    named_there (f ∷ fs) (suc i) n e = named_there fs i n e

    some_place : (o : Option ℕ) → IsSome o → (i : ℕ) × (o ≡ Some i)
    some_place None i = absurd (false≢true i)
    some_place (Some i) k = (i, refl)

    kept_sent : KeepsSent m (in_turn m os)
    unfolding in_turn
    kept_sent base rs w s =
        let d = import_in_turn m (set_source nothing m 0) os in
        let t = turn_all os [] (set_source nothing m 0) refl (order_within m.functions os (length m.functions) order refl) begins in
        let st = copy_entries (entries_state d []) m.entry_points in
        let start : Entries [] (entries_state d []) = record { turned = t; each = λ i y at. absurd (none-some y at); long = refl } in
        let en = all_entries m.entry_points [] (entries_state d []) h.entry_points start in
        let made : make_module d ≡ module_of st = ap (module_by d) t.is ∙ ap (λ (v : ModuleValue). module_of (copy_entries (entries_state d []) v.entry_points)) t.value in
        subst (IsSentDown base rs w) (sym made) (record {
          functions = λ k g at.
              let c = en.turned.copies k g at in
              let f = s.functions c.place c.source c.at in
              record {
                place = f.place;
                source = f.source;
                at = f.at;
                name = f.name ∙ c.name;
                calls = subst (λ n. AreSent base (destination rs n base) (called w.functions f.source.0) (called st.derived.target.functions g.0)) c.name (subst (AreSent base (destination rs c.source.0.name base) (called w.functions f.source.0)) (sym (called_as c.source.0 st.derived.target.functions g.0 c.calls)) f.calls);
              };
          all = λ k f at.
              let x = s.all k f at in
              let n = some_text x.1.0.name (h.named x.0 x.1 x.2) in
              let known = subst (λ (o : Option (FunctionValue × Span)). IsSome (meant_at st.derived.function_names o)) x.2 (en.turned.known x.0 (each_in_order m.functions os order x.0 (slice_get_within m.functions x.0 x.1 x.2))) in
              let i = some_place (meant st.derived.function_names x.1.0.name) known in
              let there = named_there st.derived.target.functions i.0 n.0 (en.turned.are_true x.1.0.name i.0 i.1 ∙ n.1) in
              (i.0, there.0, there.1, there.2 ∙ sym n.1 ∙ x.3);
          entry_points = λ i y at.
              let c = en.each i y at in
              let f = s.entry_points i c.source c.at in
              record { source = f.source; at = f.at; calls = subst (AreSent base (last_of rs base) (called w.functions f.source.function)) (sym (called_as c.source.function st.derived.target.functions y.function c.calls)) f.calls };
          as_many = en.long ∙ s.as_many;
        })

order_is : (m n : ModuleValue) (r : Result (List ℕ) RedirectFault) → in_turn_if m r ≡ Ok n → (os : List ℕ) × (r ≡ Ok os) × (in_turn m os ≡ n)
order_is m n (Ok os) e = (os, refl, (let q : in_turn m os ≡ n = cc in q))
order_is m n (Err f) e = absurd cc

pub order_law : OrderLaw
order_law m n h e = let w = order_is m n (ordered m.functions) e in subst (KeepsSent m) w.2 (kept_sent m h w.0 w.1)
