-- Functions that stay while modules are put together, and the names of those that are added, as values.
use Rattle.std.proofs.Common.{◌≡◌, ◌⊎◌, inl, inr, ⊎_elim, ℕ, zero, suc, Bool, true, false, if◌then◌else◌, List, [], ◌∷◌, ◌++◌, length, fold, Option, Some, None, is_some, IsSome, slice_get, refl, ap, sym, ◌∙◌}
use Rattle.std.proofs.lemmas.Bool.{false≢true}
use Rattle.std.proofs.lemmas.Option.{none-some, same_Some}
use Rattle.naga_oil_form.specs.Links.{has}
use Rattle.naga_oil_ir.specs.ModuleValue.{ModuleValue, FunctionValue, EntryValue}
use Rattle.naga_oil_ir.specs.Rows.{Row, Text}
use Rattle.naga_oil_ir.specs.declared.names.ItemPlace.{ItemPlace}
use Rattle.naga_oil_ir.specs.declared.names.ItemPlace.TheVariants.{TypeItem}
use Rattle.naga_oil_ir.specs.declared.span.Span.{Span}
use Rattle.naga_oil_form.proofs.LinkLemmas.{slice_get-append_at}
use Rattle.naga_oil_rename.specs.Renames.{Renames, rename_tokens}
use Rattle.naga_oil_walk.specs.declared.walk.Request.{Request}
use Rattle.naga_oil_walk.specs.declared.walk.Request.TheVariants.{Item, Call}
use Rattle.naga_oil_derive.specs.Answered.{ImportState, Caller, goes_by, answer_one, answer_by, import_copy_by, import_callee_by, import_callee, answer_all, import_copy}
use Rattle.naga_oil_derive.specs.Copied.{CopyState, copy_row_names, copy_item, copy_named_type, put_type, of_item}
use Rattle.naga_oil_derive.specs.CopiedEntry.{EntriesState, import_items, entry_names, copy_entry, copy_entries, entries_state, module_by, make_module}
use Rattle.naga_oil_derive.specs.CopiedFunction.{copy_expressions, body_renames, notes_in, copy_function}
use Rattle.naga_oil_derive.specs.Derived.{Source, Derived}
use Rattle.naga_oil_derive.specs.DerivedFunctions.{meant, requests_of}
use Rattle.naga_oil_derive.specs.DerivedValue.{by_source, copying_of, after_copying, import_item, rename_type, importing_of, after_importing, import_function, answer_requests, first_places, set_source}
use Rattle.naga_oil_derive.specs.Functions.{begun, order_of}
use Rattle.naga_oil_derive.specs.World.{goes, world, shifted, special_entries}
use Rattle.naga_oil_derive.specs.Copying.{special_names}
use Rattle.naga_oil_redirect.specs.Ordered.{callees_of}
use Rattle.naga_oil_redirect.proofs.TurnNames.{Stays, answered, item_keeps, all_keeps}
use Rattle.naga_oil_link_laws.specs.Headers.{HasNamed}

abbrev pub Function : Type 0
Function = FunctionValue × Span

-- ---- lists that get longer

-- what stands in one list stands at the same place in another
abbrev pub Stay : List Function → List Function → Type 0
Stay xs ys = (k : ℕ) (y : Function) → slice_get xs k ≡ Some y → slice_get ys k ≡ Some y

pub last_function : (xs : List Function) (x : Function) (k : ℕ) (y : Function) → slice_get (xs ++ x ∷ []) k ≡ Some y → (slice_get xs k ≡ Some y) ⊎ (x ≡ y)
last_function [] x zero y e = inr (same_Some x y e)
last_function [] x (suc k) y e = absurd (none-some y e)
last_function (z ∷ xs) x zero y e = inl e
last_function (z ∷ xs) x (suc k) y e = last_function xs x k y e

stay_before : (xs : List Function) (x : Function) → Stay xs (xs ++ x ∷ [])
stay_before [] x k y e = absurd (none-some y e)
stay_before (z ∷ xs) x zero y e = e
stay_before (z ∷ xs) x (suc k) y e = stay_before xs x k y e

-- a name stays with its function
pub named_stays : (t u : ModuleValue) (n : Text) → Stay t.functions u.functions → HasNamed t n → HasNamed u n
named_stays t u n s h = (h.0, h.1, s h.0 h.1 h.2, h.3)

-- ---- items

-- the functions are the same, and the source stays set
pub record Quiet (d e : Derived) : Type 0 where
  pub functions : e.target.functions ≡ d.target.functions
  pub source : IsSome d.source → IsSome e.source

pub quiet_then : (d e f : Derived) → Quiet d e → Quiet e f → Quiet d f
quiet_then d e f a b = record { functions = b.functions ∙ a.functions; source = λ s. b.source (a.source s) }

pub quiet_same : (d : Derived) → Quiet d d
quiet_same d = record { functions = refl; source = λ s. s }

pub item_quiet : (d : Derived) (p : ItemPlace) → Quiet d (import_item d p)
item_quiet d p = one d.source
  where
    one : (o : Option Source) → Quiet d (by_source d (λ (s : Source). after_copying d s (copy_item s.value s.offset (copying_of d s) p)) o)
    one None = quiet_same d
    one (Some s) = record { functions = item_keeps s.value s.offset (copying_of d s) p; source = λ h. refl }

row_keeps : (m : ModuleValue) (shift : ℕ) (s : CopyState) (o : Option Row) → (copy_row_names (copy_item m shift) s o).target.functions ≡ s.target.functions
row_keeps m shift s None = refl
row_keeps m shift s (Some r) = all_keeps m shift s r.names

of_row : (s : CopyState) (f : Row → Span → CopyState) (o : Option (Row × Span)) → ((r : Row) (span : Span) → (f r span).target.functions ≡ s.target.functions) → (of_item s f o).target.functions ≡ s.target.functions
of_row s f None h = refl
of_row s f (Some e) h = h e.0 e.1

put_keeps : (m : ModuleValue) (shift : ℕ) (name : Option Text) (s : CopyState) (k : ℕ) → (put_type m shift name s k).target.functions ≡ s.target.functions
unfolding put_type
put_keeps m shift name s k = of_row s _ (slice_get m.types k) (λ r span. refl)

named_keeps : (m : ModuleValue) (shift : ℕ) (name : Option Text) (s : CopyState) (k : ℕ) → (copy_named_type m shift name s k).target.functions ≡ s.target.functions
named_keeps m shift name s k = one (is_some (goes s.places (TypeItem k)))
  where
    one : (b : Bool) → (let r : CopyState = if b then s else put_type m shift name (copy_row_names (copy_item m shift) s (world m (TypeItem k))) k in r.target.functions) ≡ s.target.functions
    one true = refl
    one false = put_keeps m shift name (copy_row_names (copy_item m shift) s (world m (TypeItem k))) k ∙ row_keeps m shift s (world m (TypeItem k))

pub rename_quiet : (d : Derived) (k : ℕ) (name : Option Text) → Quiet d (rename_type d k name)
rename_quiet d k name = one d.source
  where
    one : (o : Option Source) → Quiet d (by_source d (λ (s : Source). after_copying d s (copy_named_type s.value s.offset name (copying_of d s) k)) o)
    one None = quiet_same d
    one (Some s) = record { functions = named_keeps s.value s.offset name (copying_of d s) k; source = λ h. refl }

pub items_quiet : (ps : List ItemPlace) (d : Derived) → Quiet d (fold import_item d ps)
items_quiet [] d = quiet_same d
items_quiet (p ∷ ps) d = quiet_then d (import_item d p) (fold import_item (import_item d p) ps) (item_quiet d p) (items_quiet ps (import_item d p))

-- optional items
named_quiet : (ps : List (Option ItemPlace)) (d : Derived) → Quiet d (import_items d ps)
named_quiet [] d = quiet_same d
named_quiet (None ∷ ps) d = named_quiet ps d
named_quiet (Some p ∷ ps) d = quiet_then d (import_item d p) (import_items (import_item d p) ps) (item_quiet d p) (named_quiet ps (import_item d p))

pub set_functions : (d : Derived) (m : ModuleValue) (shift : ℕ) → (set_source d m shift).target.functions ≡ d.target.functions
set_functions d m shift = all_keeps m shift (record { places = first_places d m; target = d.target }) (special_names (special_entries m.special_types))

-- ---- functions that are imported with those that they call

abbrev More : ImportState → ImportState → Type 0
More s t = Stay s.functions t.functions

answers_more : (call : Caller) (m : ModuleValue) (shift : ℕ) → ((s : ImportState) (k : ℕ) → More s (call s k)) → (rs : List Request) (s : ImportState) → More s (answer_by (answer_one call m shift) s rs)
answers_more call m shift h [] s k y at = at
answers_more call m shift h (Item p ∷ rs) s k y at = answers_more call m shift h rs (answer_one call m shift s (Item p)) k y at
answers_more call m shift h (Call c ∷ rs) s k y at = answers_more call m shift h rs (call s c) k y (h s c k y at)

copy_more : (call : Caller) (m : ModuleValue) (shift : ℕ) → ((s : ImportState) (k : ℕ) → More s (call s k)) → (s : ImportState) (v : FunctionValue) (span : Span) → More s (import_copy_by call m shift s v span)
copy_more call m shift h s v span k y at =
    let e = answer_by (answer_one call m shift) s (requests_of v) in
    stay_before e.functions (copy_function (goes_by m shift e) v, shifted shift span) k y (answers_more call m shift h (requests_of v) s k y at)

callee_by : (call : Caller) (m : ModuleValue) (shift : ℕ) → ((s : ImportState) (k : ℕ) → More s (call s k)) → (s : ImportState) (o : Option Function) → More s (import_callee_by call m shift s o)
callee_by call m shift h s None = λ k y at. at
callee_by call m shift h s (Some e) = one (is_some (meant s.names e.0.name))
  where
    one : (b : Bool) → More s (if b then s else import_copy_by call m shift s e.0 e.1)
    one true = λ k y at. at
    one false = copy_more call m shift h s e.0 e.1

callee_more : (n : ℕ) (m : ModuleValue) (shift : ℕ) (s : ImportState) (k : ℕ) → More s (import_callee n m shift s k)
unfolding import_callee
callee_more zero m shift s k = λ j y at. at
callee_more (suc n) m shift s k = callee_by (import_callee n m shift) m shift (callee_more n m shift) s (slice_get m.functions k)

-- functions stay, and the source stays set
pub record Grows (d e : Derived) : Type 0 where
  pub functions : Stay d.target.functions e.target.functions
  pub source : IsSome d.source → IsSome e.source

pub grows_same : (d : Derived) → Grows d d
grows_same d = record { functions = λ k y at. at; source = λ s. s }

pub grows_then : (d e f : Derived) → Grows d e → Grows e f → Grows d f
grows_then d e f a b = record { functions = λ k y at. b.functions k y (a.functions k y at); source = λ s. b.source (a.source s) }

pub grows_quiet : (d e : Derived) → Quiet d e → Grows d e
grows_quiet d e q = record { functions = λ k y at. ap (λ (xs : List Function). slice_get xs k) q.functions ∙ at; source = q.source }

pub function_grows : (d : Derived) (v : FunctionValue) (span : Span) → Grows d (import_function d v span)
function_grows d v span = one d.source
  where
    one : (o : Option Source) → Grows d (by_source d (λ (s : Source). after_importing s (import_copy (length s.value.functions) s.value s.offset (importing_of d s) v span)) o)
    one None = grows_same d
    one (Some s) = record {
      functions = copy_more (import_callee (length s.value.functions) s.value s.offset) s.value s.offset (callee_more (length s.value.functions) s.value s.offset) (importing_of d s) v span;
      source = λ h. refl;
    }

answers_grow : (d : Derived) (rs : List Request) → Grows d (answer_requests d rs)
answers_grow d rs = one d.source
  where
    one : (o : Option Source) → Grows d (by_source d (λ (s : Source). after_importing s (answer_all (length s.value.functions) s.value s.offset (importing_of d s) rs)) o)
    one None = grows_same d
    one (Some s) = record {
      functions = answers_more (import_callee (length s.value.functions) s.value s.offset) s.value s.offset (callee_more (length s.value.functions) s.value s.offset) rs (importing_of d s);
      source = λ h. refl;
    }

-- functions stay while entry points are copied
entries_grow : (vs : List EntryValue) (st : EntriesState) → Grows st.derived (copy_entries st vs).derived
entries_grow [] st = grows_same st.derived
entries_grow (v ∷ vs) st =
    let e = answer_requests st.derived (requests_of v.function) in
    let f = import_items e (entry_names v) in
    let next = copy_entry st v in
    grows_then st.derived f (copy_entries next vs).derived (grows_then st.derived e f (answers_grow st.derived (requests_of v.function)) (grows_quiet e f (named_quiet (entry_names v) e))) (entries_grow vs next)

-- a name of a function is one in the finished module
pub make_named : (d : Derived) (n : Text) → HasNamed d.target n → HasNamed (make_module d) n
make_named d n h = one d.source
  where
    one : (o : Option Source) → HasNamed (module_by d o) n
    one None = h
    one (Some s) = (h.0, h.1, (entries_grow s.value.entry_points (entries_state d [])).functions h.0 h.1 h.2, h.3)

-- ---- the function that was imported

-- the copy of a function has its name
copy_name : (r : Renames) (v : FunctionValue) → (copy_function r v).name ≡ v.name
unfolding copy_function
copy_name r v = refl

-- the copy of a function without a body has none
copy_body : (r : Renames) (v : FunctionValue) → v.body ≡ [] → (copy_function r v).body ≡ []
unfolding copy_function
copy_body r v e =
    let o = order_of v in
    let n = length (begun v) in
    ap (rename_tokens (body_renames r (copy_expressions r v.expressions o n) o n (notes_in v))) e

pub function_named : (d : Derived) (v : FunctionValue) (span : Span) → IsSome d.source → HasNamed (import_function d v span).target v.name
function_named d v span h = one d.source h
  where
    one : (o : Option Source) → IsSome o → HasNamed (let r : Derived = by_source d (λ (s : Source). after_importing s (import_copy (length s.value.functions) s.value s.offset (importing_of d s) v span)) o in r.target) v.name
    one None h = absurd (false≢true h)
    one (Some s) h =
        let e = answer_all (length s.value.functions) s.value s.offset (importing_of d s) (requests_of v) in
        let r = goes_by s.value s.offset e in
        (length e.functions, (copy_function r v, shifted s.offset span), slice_get-append_at e.functions (copy_function r v, shifted s.offset span), copy_name r v)

calls_nothing : (v : FunctionValue) → v.body ≡ [] → (c : ℕ) → has (callees_of v.body) c ≡ true → ⊥
calls_nothing v e c h = false≢true (sym (ap (λ b. has (callees_of b) c) e) ∙ h)

-- of a function without a body only the copy is added
pub declared : (d : Derived) (v : FunctionValue) (span : Span) → v.body ≡ [] → (k : ℕ) (y : Function) → slice_get (import_function d v span).target.functions k ≡ Some y → (slice_get d.target.functions k ≡ Some y) ⊎ ((v.name ≡ y.0.name) × (y.0.body ≡ []))
declared d v span none k y at = one d.source at
  where
    one : (o : Option Source) → slice_get (let r : Derived = by_source d (λ (s : Source). after_importing s (import_copy (length s.value.functions) s.value s.offset (importing_of d s) v span)) o in r.target.functions) k ≡ Some y → (slice_get d.target.functions k ≡ Some y) ⊎ ((v.name ≡ y.0.name) × (y.0.body ≡ []))
    one None e = inl e
    one (Some s) e =
        let i = importing_of d s in
        let m = s.value in
        let size = length m.functions in
        let j = answer_all size m s.offset i (requests_of v) in
        let stays : Stays i j = answered size m s.offset v i (λ c h. absurd (calls_nothing v none c h)) in
        let r = goes_by m s.offset j in
        ⊎_elim
        (λ (old : slice_get j.functions k ≡ Some y). inl (ap (λ (xs : List Function). slice_get xs k) (sym stays.functions) ∙ old))
        (λ (new : (copy_function r v, shifted s.offset span) ≡ y). inr (sym (copy_name r v) ∙ ap (λ (z : Function). z.0.name) new, sym (ap (λ (z : Function). z.0.body) new) ∙ copy_body r v none))
        (last_function j.functions (copy_function r v, shifted s.offset span) k y e)
