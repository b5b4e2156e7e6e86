-- What answering the requests of functions leaves, where all that they call is known.
use Rattle.std.proofs.Common.{◌≡◌, ◌∙◌, ℕ, zero, suc, ◌==◌, Bool, true, false, if◌then◌else◌, List, [], ◌∷◌, ◌++◌, map, slice_get, Option, Some, None, is_some, IsSome, option_map, option_to_list, All, refl, ap}
use Rattle.std.specs.List.{flat_map}
use Rattle.std.proofs.lemmas.List.Elements.{All-nil, All-cons, All-head, All-tail, All-append}
use Rattle.naga_oil_ir.specs.Body.{Tokens}
use Rattle.naga_oil_form.specs.Links.{Links, linked, has}
use Rattle.naga_oil_ir.specs.ModuleValue.{ModuleValue, FunctionValue, ArgumentValue, LocalValue}
use Rattle.naga_oil_ir.specs.Rows.{Row}
use Rattle.naga_oil_ir.specs.Parts.{Parts}
use Rattle.naga_oil_ir.specs.declared.module.FunctionResult.{FunctionResult}
use Rattle.naga_oil_ir.specs.declared.names.ItemPlace.{ItemPlace}
use Rattle.naga_oil_ir.specs.declared.names.ItemPlace.TheVariants.{TypeItem, ConstantItem, OverrideItem, GlobalItem, ExpressionItem}
use Rattle.naga_oil_ir.specs.declared.parts.Named.{Named}
use Rattle.naga_oil_ir.specs.declared.span.Span.{Span}
use Rattle.naga_oil_ir.specs.declared.tokens.Token.TheVariants.{Callee}
use Rattle.naga_oil_form.proofs.LinkLemmas.{or_left, or_right, eq_eqb}
use Rattle.naga_oil_walk.specs.Naming.{item_of, requested, requests_at, naming, names_from, token_names}
use Rattle.naga_oil_walk.specs.Walk.{brief}
use Rattle.naga_oil_walk.specs.declared.walk.Request.{Request}
use Rattle.naga_oil_walk.specs.declared.walk.Request.TheVariants.{Item, Call}
use Rattle.naga_oil_derive.specs.Answered.{ImportState, answer_one, answer_by, answer_all, import_callee, import_callee_by, import_copy_by}
use Rattle.naga_oil_derive.specs.Copied.{CopyState, Copier, of_item, put, put_type, copy_each, copy_row_names, copy_within, copy_item, copy_all}
use Rattle.naga_oil_derive.specs.Copies.{value_links}
use Rattle.naga_oil_derive.specs.DerivedFunctions.{Meanings, meant_at, kinds_in, named_in, local_requests, signature_requests, requests_of}
use Rattle.naga_oil_derive.specs.World.{goes, world}
use Rattle.naga_oil_redirect.specs.Ordered.{callees_of}

-- ---- what functions ask for: items, and what they call

module _ (P : Request → Type 0) (items : (p : ItemPlace) → P (Item p)) where
  flat_each : {X : Type 0} (f : X → List Request) → ((x : X) → All P (f x)) → (xs : List X) → All P (flat_map f xs)
  flat_each f h [] = All-nil P
  flat_each f h (x ∷ xs) = All-append P (f x) (flat_map f xs) (h x) (flat_each f h xs)

  item_asked : (o : Option ItemPlace) → All P (requested o)
  item_asked None = All-nil P
  item_asked (Some p) = All-cons P (Item p) [] (items p) (All-nil P)

  naming_asked : (ns : List Named) (ls : Links) (n k : ℕ) → All P (naming n ns ls k)
  naming_asked ns ls zero k = All-nil P
  naming_asked ns ls (suc n) k = All-append P (requests_at ns k) (flat_map (naming n ns ls) (linked ls k)) (item_asked (item_of (slice_get ns k))) (flat_each (naming n ns ls) (naming_asked ns ls n) (linked ls k))

  names_asked : (ns : List Named) (ls : Links) (k : ℕ) → All P (names_from ns ls k)
  unfolding names_from
  names_asked ns ls k = naming_asked ns ls (suc k) k

  local_asked : (ns : List Named) (ls : Links) (l : LocalValue × Span) → All P (local_requests ns ls l)
  local_asked ns ls l = All-cons P (Item (TypeItem l.0.ty)) (flat_map (names_from ns ls) (option_to_list l.0.init)) (items (TypeItem l.0.ty)) (flat_each (names_from ns ls) (names_asked ns ls) (option_to_list l.0.init))

  arguments_asked : (xs : List ArgumentValue) → All P (map (λ (a : ArgumentValue). Item (TypeItem a.ty)) xs)
  arguments_asked [] = All-nil P
  arguments_asked (x ∷ xs) = All-cons P (Item (TypeItem x.ty)) (map (λ (a : ArgumentValue). Item (TypeItem a.ty)) xs) (items (TypeItem x.ty)) (arguments_asked xs)

  result_asked : (o : Option FunctionResult) → All P (option_to_list (option_map (λ (r : FunctionResult). Item (TypeItem r.ty)) o))
  result_asked None = All-nil P
  result_asked (Some r) = All-cons P (Item (TypeItem r.ty)) [] (items (TypeItem r.ty)) (All-nil P)

  brief_asked : (ns : List Named) (ks : List ℕ) → All P (flat_map (requests_at ns) ks)
  brief_asked ns ks = flat_each (requests_at ns) (λ k. item_asked (item_of (slice_get ns k))) ks

  body_asked : (ks : List ℕ) (ns : List Named) (ls : Links) (ts : Tokens) → ((c : ℕ) → has (callees_of ts) c ≡ true → P (Call c)) → All P (flat_map (token_names ks ns ls) ts)
  body_asked ks ns ls [] calls = All-nil P
  body_asked ks ns ls (Callee f ∷ ts) calls = All-append P (Call f ∷ []) (flat_map (token_names ks ns ls) ts) (All-cons P (Call f) [] (calls f (or_left (f == f) (has (callees_of ts) f) (eq_eqb f f refl))) (All-nil P)) (body_asked ks ns ls ts (λ c h. calls c (or_right (f == c) (has (callees_of ts) c) h)))
  body_asked ks ns ls (t ∷ ts) calls = All-append P (flat_map (requests_at ns) (brief ks ls t)) (flat_map (token_names ks ns ls) ts) (brief_asked ns (brief ks ls t)) (body_asked ks ns ls ts calls)

  pub all_asked : (f : FunctionValue) → ((c : ℕ) → has (callees_of f.body) c ≡ true → P (Call c)) → All P (requests_of f)
  all_asked f calls =
      let ns = named_in f in
      let ls = value_links f.expressions in
      let sig = All-append P (map (λ (a : ArgumentValue). Item (TypeItem a.ty)) f.arguments) (option_to_list (option_map (λ (r : FunctionResult). Item (TypeItem r.ty)) f.result)) (arguments_asked f.arguments) (result_asked f.result) in
      All-append P (signature_requests f ++ flat_map (local_requests ns ls) f.local_variables) (flat_map (token_names (kinds_in f) ns ls) f.body) (All-append P (signature_requests f) (flat_map (local_requests ns ls) f.local_variables) sig (flat_each (local_requests ns ls) (local_asked ns ls) f.local_variables)) (body_asked (kinds_in f) ns ls f.body calls)

-- ---- requests whose calls are known add items alone

abbrev pub IsKnownCall : ModuleValue → Meanings → Request → Type 0
IsKnownCall m ns (Item p) = Unit {0}
IsKnownCall m ns (Call k) = IsSome (meant_at ns (slice_get m.functions k))

known_by : (f : ImportState → ℕ → ImportState) (m : ModuleValue) (shift : ℕ) (s : ImportState) (o : Option (FunctionValue × Span)) → IsSome (meant_at s.names o) → import_callee_by f m shift s o ≡ s
known_by f m shift s None h = refl
known_by f m shift s (Some e) h = ap (λ b. if b then s else import_copy_by f m shift s e.0 e.1) h

known_callee : (n : ℕ) (m : ModuleValue) (shift : ℕ) (s : ImportState) (k : ℕ) → IsSome (meant_at s.names (slice_get m.functions k)) → import_callee n m shift s k ≡ s
unfolding import_callee
known_callee zero m shift s k h = refl
known_callee (suc n) m shift s k h = known_by (import_callee n m shift) m shift s (slice_get m.functions k) h

-- the functions and their names stay
pub record Stays (s t : ImportState) : Type 0 where
  pub functions : t.functions ≡ s.functions
  pub names : t.names ≡ s.names

answered_by : (n : ℕ) (m : ModuleValue) (shift : ℕ) (rs : List Request) (s : ImportState) → All (IsKnownCall m s.names) rs → Stays s (answer_by (answer_one (import_callee n m shift) m shift) s rs)
answered_by n m shift [] s a = record { functions = refl; names = refl }
answered_by n m shift (Item p ∷ rs) s a =
    let next = record s { copying = copy_item m shift s.copying p } in
    let w = answered_by n m shift rs next (All-tail (IsKnownCall m s.names) (Item p) rs a) in
    record { functions = w.functions; names = w.names }
answered_by n m shift (Call k ∷ rs) s a =
    let same = known_callee n m shift s k (All-head (IsKnownCall m s.names) (Call k) rs a) in
    let w = answered_by n m shift rs s (All-tail (IsKnownCall m s.names) (Call k) rs a) in
    record {
      functions = ap (λ (t : ImportState). (answer_by (answer_one (import_callee n m shift) m shift) t rs).functions) same ∙ w.functions;
      names = ap (λ (t : ImportState). (answer_by (answer_one (import_callee n m shift) m shift) t rs).names) same ∙ w.names;
    }

-- if everything that a function calls is known, answering its requests leaves functions and names
pub answered : (n : ℕ) (m : ModuleValue) (shift : ℕ) (f : FunctionValue) (s : ImportState) → ((c : ℕ) → has (callees_of f.body) c ≡ true → IsSome (meant_at s.names (slice_get m.functions c))) → Stays s (answer_all n m shift s (requests_of f))
answered n m shift f s known = answered_by n m shift (requests_of f) s (all_asked (IsKnownCall m s.names) (λ p. tt) f known)

-- ---- copies of items leave functions

abbrev KeepsAll : Copier → Type 0
KeepsAll f = (s : CopyState) (p : ItemPlace) → (f s p).target.functions ≡ s.target.functions

module _ (m : ModuleValue) (shift : ℕ) where
  of_type : (s : CopyState) (f : Row → Span → CopyState) (o : Option (Row × Span)) → ((r : Row) (span : Span) → (f r span).target.functions ≡ s.target.functions) → (of_item s f o).target.functions ≡ s.target.functions
  of_type s f None h = refl
  of_type s f (Some e) h = h e.0 e.1

  of_parts : (s : CopyState) (f : Parts → Span → CopyState) (o : Option (Parts × Span)) → ((r : Parts) (span : Span) → (f r span).target.functions ≡ s.target.functions) → (of_item s f o).target.functions ≡ s.target.functions
  of_parts s f None h = refl
  of_parts s f (Some e) h = h e.0 e.1

  put_keeps : KeepsAll (put m shift)
  unfolding put put_type
  put_keeps s (TypeItem k) = of_type s _ (slice_get m.types k) (λ r span. refl)
  put_keeps s (ConstantItem k) = of_type s _ (slice_get m.constants k) (λ r span. refl)
  put_keeps s (OverrideItem k) = of_type s _ (slice_get m.overrides k) (λ r span. refl)
  put_keeps s (GlobalItem k) = of_type s _ (slice_get m.global_variables k) (λ r span. refl)
  put_keeps s (ExpressionItem k) = of_parts s _ (slice_get m.global_expressions k) (λ r span. refl)

  each_keeps : (f : Copier) → KeepsAll f → (ps : List (Option ItemPlace)) (s : CopyState) → (copy_each f s ps).target.functions ≡ s.target.functions
  each_keeps f h [] s = refl
  each_keeps f h (None ∷ ps) s = each_keeps f h ps s
  each_keeps f h (Some p ∷ ps) s = each_keeps f h ps (f s p) ∙ h s p

  row_keeps : (f : Copier) → KeepsAll f → (o : Option Row) (s : CopyState) → (copy_row_names f s o).target.functions ≡ s.target.functions
  row_keeps f h None s = refl
  row_keeps f h (Some r) s = each_keeps f h r.names s

  either : (f : Copier) → KeepsAll f → (s : CopyState) (p : ItemPlace) (b : Bool) → (if b then s else put m shift (copy_row_names f s (world m p)) p).target.functions ≡ s.target.functions
  either f h s p true = refl
  either f h s p false = put_keeps (copy_row_names f s (world m p)) p ∙ row_keeps f h (world m p) s

  within_keeps : (n : ℕ) → KeepsAll (copy_within n m shift)
  unfolding copy_within
  within_keeps zero s p = refl
  within_keeps (suc n) s p = either (copy_within n m shift) (within_keeps n) s p (is_some (goes s.places p))

  pub item_keeps : (s : CopyState) (p : ItemPlace) → (copy_item m shift s p).target.functions ≡ s.target.functions
  item_keeps s p = within_keeps _ s p

  pub all_keeps : (s : CopyState) (ps : List (Option ItemPlace)) → (copy_all m shift s ps).target.functions ≡ s.target.functions
  all_keeps s ps = each_keeps (copy_item m shift) item_keeps ps s
