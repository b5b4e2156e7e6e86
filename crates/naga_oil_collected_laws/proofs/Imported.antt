-- A module that a source's functions are imported into has the functions that were reached.
use Rattle.std.proofs.Common.{◌≡◌, ℕ, Bool, true, false, if◌then◌else◌, List, [], ◌∷◌, ◌++◌, fold, map, length, Option, Some, None, refl, sym, subst}
use Rattle.std.specs.List.{AllZip}
use Rattle.naga_oil_ir.specs.ModuleValue.{ModuleValue, FunctionValue, EntryValue}
use Rattle.naga_oil_ir.specs.Rows.{Text}
use Rattle.naga_oil_ir.specs.declared.names.ItemPlace.{ItemPlace}
use Rattle.naga_oil_derive.specs.Answered.{import_callee, import_copy, answer_all}
use Rattle.naga_oil_derive.specs.Copied.{copy_item, copy_named_type}
use Rattle.naga_oil_derive.specs.CopiedEntry.{EntriesState, import_items, entry_names, copy_entry, copy_entries, entries_state, module_by, make_module}
use Rattle.naga_oil_derive.specs.Derived.{Source, Derived}
use Rattle.naga_oil_derive.specs.DerivedFunctions.{requests_of}
use Rattle.naga_oil_derive.specs.DerivedValue.{by_source, copying_of, after_copying, importing_of, after_importing, import_item, rename_type, import_function, answer_requests, copy_special, set_source}
use Rattle.naga_oil_derive.specs.World.{ItemMap}
use Rattle.naga_oil_link.specs.Linked.{link_function}
use Rattle.naga_oil_link_laws.proofs.Names.{item_quiet, rename_quiet, set_functions}
use Rattle.naga_oil_collected_laws.specs.CollectedLaw.{IsCopyOf}
use Rattle.naga_oil_collected_laws.specs.FirstReach.{Reached, from, has_name, follow, follow_calls, reach, with_called}
use Rattle.naga_oil_collected_laws.proofs.Follows.{Function, Are, requests_reach, copy_reaches, call_reaches}

-- a derived module has copies of what was reached
abbrev pub Has : List Reached → Derived → Type 0
Has rs d = Are rs d.target.functions d.function_names

abbrev pub source_with : ModuleValue → ℕ → ItemMap → Source
source_with m shift places = record { value = m; offset = shift; places = places }

-- and a module is its source
pub record HasFrom (m : ModuleValue) (shift : ℕ) (rs : List Reached) (d : Derived) : Type 0 where
  pub places : ItemMap
  pub is : d.source ≡ Some (source_with m shift places)
  pub has : Has rs d

module _ (m : ModuleValue) (shift : ℕ) where
  pub source_set : (rs : List Reached) (d : Derived) → Has rs d → HasFrom m shift rs (set_source d m shift)
  source_set rs d h = record {
    places = (copy_special d m shift).places;
    is = refl;
    has = record { copies = subst (AllZip IsCopyOf rs) (sym (set_functions d m shift)) h.copies; names = h.names };
  }

  -- ---- items

  pub item_imported : (rs : List Reached) (d : Derived) (p : ItemPlace) → HasFrom m shift rs d → HasFrom m shift rs (import_item d p)
  item_imported rs d p h =
      let next = λ (s : Source). after_copying d s (copy_item s.value s.offset (copying_of d s) p) in
      subst (λ o. (by_source d next o).target.functions ≡ d.target.functions → HasFrom m shift rs (by_source d next o)) (sym h.is)
      (λ same. record { places = _; is = refl; has = record { copies = subst (AllZip IsCopyOf rs) (sym same) h.has.copies; names = h.has.names } })
      (item_quiet d p).functions

  pub type_renamed : (rs : List Reached) (d : Derived) (k : ℕ) (name : Option Text) → HasFrom m shift rs d → HasFrom m shift rs (rename_type d k name)
  type_renamed rs d k name h =
      let next = λ (s : Source). after_copying d s (copy_named_type s.value s.offset name (copying_of d s) k) in
      subst (λ o. (by_source d next o).target.functions ≡ d.target.functions → HasFrom m shift rs (by_source d next o)) (sym h.is)
      (λ same. record { places = _; is = refl; has = record { copies = subst (AllZip IsCopyOf rs) (sym same) h.has.copies; names = h.has.names } })
      (rename_quiet d k name).functions

  pub items_imported : (rs : List Reached) (ps : List ItemPlace) (d : Derived) → HasFrom m shift rs d → HasFrom m shift rs (fold import_item d ps)
  items_imported rs [] d h = h
  items_imported rs (p ∷ ps) d h = items_imported rs ps (import_item d p) (item_imported rs d p h)

  named_imported : (rs : List Reached) (ps : List (Option ItemPlace)) (d : Derived) → HasFrom m shift rs d → HasFrom m shift rs (import_items d ps)
  named_imported rs [] d h = h
  named_imported rs (None ∷ ps) d h = named_imported rs ps d h
  named_imported rs (Some p ∷ ps) d h = named_imported rs ps (import_item d p) (item_imported rs d p h)

  -- ---- functions

  abbrev Size : ℕ
  Size = length m.functions

  -- a function with those before it that it calls
  abbrev pub after_calls : List Reached → Function → List Reached
  after_calls rs f = follow_calls m shift rs f.0.body ++ from m shift f ∷ []

  pub function_imported : (rs : List Reached) (d : Derived) (f : Function) → HasFrom m shift rs d → HasFrom m shift (after_calls rs f) (import_function d f.0 f.1)
  function_imported rs d f h =
      let next = λ (s : Source). after_importing s (import_copy (length s.value.functions) s.value s.offset (importing_of d s) f.0 f.1) in
      let s = source_with m shift h.places in
      subst (λ o. HasFrom m shift (after_calls rs f) (by_source d next o)) (sym h.is)
      (record { places = _; is = refl; has = copy_reaches (import_callee Size m shift) (follow Size m shift) m shift (call_reaches Size m shift) f (importing_of d s) rs h.has })

  pub function_linked : (rs : List Reached) (d : Derived) (f : Function) → HasFrom m shift rs d → HasFrom m shift (reach rs (from m shift f)) (link_function d f)
  function_linked rs d f h = subst (λ (b : Bool). HasFrom m shift (reach rs (from m shift f)) (if b then d else import_function d f.0 f.1)) (sym (h.has.names f.0.name)) (one (has_name rs f.0.name))
    where
      one : (b : Bool) → HasFrom m shift (if b then rs else after_calls rs f) (if b then d else import_function d f.0 f.1)
      one true = h
      one false = function_imported rs d f h

  pub functions_linked : (fs : List Function) (rs : List Reached) (d : Derived) → HasFrom m shift rs d → HasFrom m shift (fold reach rs (map (from m shift) fs)) (fold link_function d fs)
  functions_linked [] rs d h = h
  functions_linked (f ∷ fs) rs d h = functions_linked fs (reach rs (from m shift f)) (link_function d f) (function_linked rs d f h)

  calls_answered : (rs : List Reached) (d : Derived) (v : FunctionValue) → HasFrom m shift rs d → HasFrom m shift (follow_calls m shift rs v.body) (answer_requests d (requests_of v))
  calls_answered rs d v h =
      let next = λ (s : Source). after_importing s (answer_all (length s.value.functions) s.value s.offset (importing_of d s) (requests_of v)) in
      let s = source_with m shift h.places in
      subst (λ o. HasFrom m shift (follow_calls m shift rs v.body) (by_source d next o)) (sym h.is)
      (record { places = _; is = refl; has = requests_reach (import_callee Size m shift) (follow Size m shift) m shift (call_reaches Size m shift) v (importing_of d s) rs h.has })

  pub entry_copied : (rs : List Reached) (st : EntriesState) (v : EntryValue) → HasFrom m shift rs st.derived → HasFrom m shift (follow_calls m shift rs v.function.body) (copy_entry st v).derived
  entry_copied rs st v h = named_imported (follow_calls m shift rs v.function.body) (entry_names v) (answer_requests st.derived (requests_of v.function)) (calls_answered rs st.derived v.function h)

-- ---- entry points

entries_copied : (m : ModuleValue) (vs : List EntryValue) (rs : List Reached) (st : EntriesState) → HasFrom m 0 rs st.derived → HasFrom m 0 (fold (λ rs (v : EntryValue). follow_calls m 0 rs v.function.body) rs vs) (copy_entries st vs).derived
entries_copied m [] rs st h = h
entries_copied m (v ∷ vs) rs st h = entries_copied m vs (follow_calls m 0 rs v.function.body) (copy_entry st v) (entry_copied m 0 rs st v h)

-- the functions of the finished module
pub made_functions : (m : ModuleValue) (rs : List Reached) (d : Derived) → HasFrom m 0 rs d → AllZip IsCopyOf (with_called m rs) (make_module d).functions
made_functions m rs d h =
    subst (λ (o : Option Source). AllZip IsCopyOf (with_called m rs) (module_by d o).functions) (sym h.is) (entries_copied m m.entry_points rs (entries_state d []) h).has.copies
