-- Functions that are imported with those that they call are the functions that these reach, in the order of first reach.
use Rattle.std.proofs.Common.{◌≡◌, ℕ, zero, suc, Bool, true, false, ◌||◌, if◌then◌else◌, List, [], ◌∷◌, ◌++◌, fold, length, Option, Some, None, is_some, slice_get, bytes_eq, refl, ap, sym, ◌∙◌, subst}
use Rattle.std.specs.List.{AllZip, list_any}
use Rattle.std.proofs.lemmas.List.Folds.{list_any-append}
use Rattle.std.proofs.lemmas.Slice.Eq.{bytes_eq-Decides}
use Rattle.naga_oil_ir.specs.ModuleValue.{ModuleValue, FunctionValue}
use Rattle.naga_oil_ir.specs.Rows.{Text}
use Rattle.naga_oil_ir.specs.declared.span.Span.{Span}
use Rattle.naga_oil_walk.specs.declared.walk.Request.{Request}
use Rattle.naga_oil_walk.specs.declared.walk.Request.TheVariants.{Item, Call}
use Rattle.naga_oil_derive.specs.Answered.{ImportState, Caller, goes_by, answer_one, answer_by, import_copy_by, import_callee_by, import_callee}
use Rattle.naga_oil_derive.specs.CopiedFunction.{copy_function}
use Rattle.naga_oil_derive.specs.DerivedFunctions.{Meanings, meant, meaning, requests_of}
use Rattle.naga_oil_derive.specs.World.{shifted}
use Rattle.naga_oil_derive.proofs.MeaningLemmas.{meaning_same, lookup_other}
use Rattle.naga_oil_redirect.specs.Ordered.{callees_of}
use Rattle.naga_oil_collected_laws.specs.CollectedLaw.{IsCopyOf}
use Rattle.naga_oil_collected_laws.specs.FirstReach.{Reached, from, is_named, has_name, Follow, follow_new, follow_by, follow}
use Rattle.naga_oil_collected_laws.proofs.Calls.{calls_in, calls_requested}

abbrev pub Function : Type 0
Function = FunctionValue × Span

-- functions copy those that were reached, and just their names have meanings
pub record Are (rs : List Reached) (fs : List Function) (ns : Meanings) : Type 0 where
  pub copies : AllZip IsCopyOf rs fs
  pub names : (n : Text) → is_some (meant ns n) ≡ has_name rs n

-- ---- one function more

zip_one : (rs : List Reached) (fs : List Function) (r : Reached) (g : Function) → AllZip IsCopyOf rs fs → IsCopyOf r g → AllZip IsCopyOf (rs ++ r ∷ []) (fs ++ g ∷ [])
zip_one [] [] r g a h = (h, tt)
zip_one [] (f ∷ fs) r g a h = absurd a
zip_one (x ∷ rs) [] r g a h = absurd a
zip_one (x ∷ rs) (f ∷ fs) r g a h = (a.0, zip_one rs fs r g a.1 h)

or_none : (a : Bool) → a ≡ (a || false)
or_none true = refl
or_none false = refl

or_last : (a : Bool) → true ≡ (a || true)
or_last true = refl
or_last false = refl

abbrev of_name : List ℕ → Reached → Bool
of_name n = λ r. is_named n r.function.0.name

-- a name is known after another one is if it was before, or is that one
pub named_one : (ns : Meanings) (rs : List Reached) (r : Reached) (h : ℕ) → ((n : Text) → is_some (meant ns n) ≡ has_name rs n) → (n : Text) → is_some (meant (meaning ns r.function.0.name h) n) ≡ has_name (rs ++ r ∷ []) n
named_one ns rs r h known None = refl
named_one ns rs r h known (Some n) = one r.function.0.name refl
  where
    one : (t : Text) → t ≡ r.function.0.name → is_some (meant (meaning ns t h) (Some n)) ≡ list_any (of_name n) (rs ++ r ∷ [])
    one None e = known (Some n) ∙ or_none (list_any (of_name n) rs) ∙ ap (λ (t : Text). list_any (of_name n) rs || (is_named n t || false)) e ∙ sym (list_any-append (of_name n) rs (r ∷ []))
    one (Some t) e = other (bytes_eq n t) refl ∙ ap (λ (u : Text). list_any (of_name n) rs || (is_named n u || false)) e ∙ sym (list_any-append (of_name n) rs (r ∷ []))
      where
        other : (b : Bool) → bytes_eq n t ≡ b → is_some (meant (meaning ns (Some t) h) (Some n)) ≡ (list_any (of_name n) rs || (bytes_eq n t || false))
        other true q =
            let same : n ≡ t = (bytes_eq-Decides n t).0 q in
            ap (λ x. is_some (meant (meaning ns (Some t) h) (Some x))) same ∙ ap is_some (meaning_same ns (Some t) h refl) ∙ or_last (list_any (of_name n) rs) ∙ ap (λ b. list_any (of_name n) rs || (b || false)) (sym q)
        other false q = ap is_some (lookup_other ns t n h q) ∙ known (Some n) ∙ or_none (list_any (of_name n) rs) ∙ ap (λ b. list_any (of_name n) rs || (b || false)) (sym q)

-- ---- functions with those that they call

abbrev Reaches : Caller → Follow → Type 0
Reaches call f = (s : ImportState) (rs : List Reached) (k : ℕ) → Are rs s.functions s.names → Are (f rs k) (call s k).functions (call s k).names

answers_reach : (call : Caller) (f : Follow) (m : ModuleValue) (shift : ℕ) → Reaches call f → (qs : List Request) (s : ImportState) (rs : List Reached) → Are rs s.functions s.names → (let t : ImportState = answer_by (answer_one call m shift) s qs in Are (fold f rs (calls_in qs)) t.functions t.names)
answers_reach call f m shift h [] s rs a = a
answers_reach call f m shift h (Item p ∷ qs) s rs a = answers_reach call f m shift h qs (answer_one call m shift s (Item p)) rs a
answers_reach call f m shift h (Call k ∷ qs) s rs a = answers_reach call f m shift h qs (call s k) (f rs k) (h s rs k a)

-- the requests of a function are answered
pub requests_reach : (call : Caller) (f : Follow) (m : ModuleValue) (shift : ℕ) → Reaches call f → (v : FunctionValue) (s : ImportState) (rs : List Reached) → Are rs s.functions s.names → (let t : ImportState = answer_by (answer_one call m shift) s (requests_of v) in Are (fold f rs (callees_of v.body)) t.functions t.names)
requests_reach call f m shift h v s rs a =
    let t = answer_by (answer_one call m shift) s (requests_of v) in
    subst (λ ks. Are (fold f rs ks) t.functions t.names) (calls_requested v) (answers_reach call f m shift h (requests_of v) s rs a)

-- a function is copied
pub copy_reaches : (call : Caller) (f : Follow) (m : ModuleValue) (shift : ℕ) → Reaches call f → (e : Function) (s : ImportState) (rs : List Reached) → Are rs s.functions s.names → (let t : ImportState = import_copy_by call m shift s e.0 e.1 in Are (fold f rs (callees_of e.0.body) ++ from m shift e ∷ []) t.functions t.names)
copy_reaches call f m shift h e s rs a =
    let t = answer_by (answer_one call m shift) s (requests_of e.0) in
    let now = fold f rs (callees_of e.0.body) in
    let b : Are now t.functions t.names = requests_reach call f m shift h e.0 s rs a in
    let u = goes_by m shift t in
    record {
      copies = zip_one now t.functions (from m shift e) (copy_function u e.0, shifted shift e.1) b.copies (u, refl);
      names = named_one t.names now (from m shift e) (length t.functions) b.names;
    }

callee_reaches : (call : Caller) (f : Follow) (m : ModuleValue) (shift : ℕ) → Reaches call f → (s : ImportState) (rs : List Reached) (o : Option Function) → Are rs s.functions s.names → (let t : ImportState = import_callee_by call m shift s o in Are (follow_by f m shift rs o) t.functions t.names)
callee_reaches call f m shift h s rs None a = a
callee_reaches call f m shift h s rs (Some e) a = subst (λ b. (let t : ImportState = if b then s else import_copy_by call m shift s e.0 e.1 in Are (follow_new f rs (from m shift e)) t.functions t.names)) (sym (a.names e.0.name)) (one (has_name rs e.0.name))
  where
    one : (b : Bool) → (let t : ImportState = if b then s else import_copy_by call m shift s e.0 e.1 in Are (if b then rs else fold f rs (callees_of e.0.body) ++ from m shift e ∷ []) t.functions t.names)
    one true = a
    one false = copy_reaches call f m shift h e s rs a

pub call_reaches : (n : ℕ) (m : ModuleValue) (shift : ℕ) → Reaches (import_callee n m shift) (follow n m shift)
unfolding import_callee follow
call_reaches zero m shift s rs k a = a
call_reaches (suc n) m shift s rs k a = callee_reaches (import_callee n m shift) (follow n m shift) m shift (call_reaches n m shift) s rs (slice_get m.functions k) a
