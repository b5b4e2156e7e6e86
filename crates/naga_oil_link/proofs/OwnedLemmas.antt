-- The names that a parsed module's own items get, and its entry points as functions.
use Rattle.std.proofs.Common.{◌≡◌, ℕ, zero, suc, ◌+◌, ◌<◌, Bool, true, false, not, ◌||◌, List, [], ◌∷◌, ◌++◌, length, map, fold, cond, append_assoc, append-nil, take, drop, get_or, set, refl, sym, ap, ◌∙◌, Option, Some, None, option_map, String, Global, string_bytes, add-one, arith}
use Rattle.std.proofs.lemmas.Bool.{false≢true}
use Rattle.std.specs.BTreeMap.{is_at}
use Rattle.std.specs.BTreeSet.{insert_key}
use Rattle.std.specs.Cmp.Lexicographic.{slice_cmp}
use Rattle.std.specs.Ordering.{nat_cmp}
use Rattle.std.proofs.lemmas.List.Elements.{filter_map-append}
use Rattle.std.proofs.lemmas.List.Sums.{fold-append}
use Rattle.std.specs.List.{flat_map, cons_option, list_any}
use Rattle.std.specs.String.{string_cmp}
use Rattle.naga_oil_ir.specs.ModuleValue.{ModuleValue, FunctionValue, EntryValue, function_value}
use Rattle.naga_oil_ir.specs.Rows.{Text, ConstantKind, OverrideKind, GlobalKind, row, constant_row, override_row, global_row}
use Rattle.naga_oil_ir.specs.Spans.{undefined}
use Rattle.naga_oil_ir.specs.declared.module.Function.{Function}
use Rattle.naga_oil_ir.specs.declared.span.Span.{Span}
use Rattle.naga_oil_ir.specs.declared.types.Constant.{Constant}
use Rattle.naga_oil_ir.specs.declared.types.GlobalVariable.{GlobalVariable}
use Rattle.naga_oil_ir.specs.declared.types.Override.{Override}
use Rattle.naga_oil_words.specs.Marks.{has_module_mark, with_decoration}
use Rattle.naga_oil_words.specs.Texts.{with_name, in_order, is_among, texts}
use Rattle.naga_oil_link.specs.Owned.{special_names, is_own_type, with_owned_name, owned_row, owned_function, with_text, function_names, demoted_name, demoted_function, demoted}
use Rattle.naga_oil_link.proofs.NamesLemmas.{among-in_order, among_texts, bytes-insert}

-- the result for a name without a mark
pub of_not : (b c : Bool) → c ≡ not b → c ≡ true → b ≡ false
of_not true c e h = absurd (false≢true (sym e ∙ h))
of_not false c e h = refl

-- an owned name is noted
pub owned-noted : (d n : List ℕ) (keys more : List (String Global)) (s : String Global) → has_module_mark n ≡ false → string_bytes s ≡ n ++ d → more ≡ insert_key string_cmp keys s → texts more ≡ with_owned_name d (texts keys) n
owned-noted d n keys more s u e k = rw u (ap texts k ∙ bytes-insert keys s ∙ ap (with_name (texts keys)) e)

-- whether a type with this name is owned, as the code asks
pub type-own : (m : ModuleValue) (special : List (List ℕ)) (n : List ℕ) (b : Bool) → special ≡ in_order (special_names m) → (is_among special n || has_module_mark n) ≡ b → is_own_type m (Some n) ≡ not b
type-own m special n b h e = sym (ap (λ a. not (a || has_module_mark n)) (ap (λ ns. is_among ns n) h ∙ among-in_order (special_names m) n)) ∙ ap not e

-- ---- each item of a list is changed

module _ {T V : Type 0} (v : T → V) (g : V → V) where
  changed-at : (xs : List T) (i : ℕ) (d y : T) → i < length xs → v y ≡ g (v (get_or xs i d)) → map v (take (suc i) (set xs i y)) ++ map g (map v (drop (suc i) (set xs i y))) ≡ map v (take i xs) ++ map g (map v (drop i xs))
  changed-at [] i d y l e = absurd (omega arith)
  changed-at (x ∷ xs) zero d y l e = ap (λ z. z ∷ map g (map v xs)) e
  changed-at (x ∷ xs) (suc i) d y l e = ap (λ zs. v x ∷ zs) (changed-at xs i d y (omega arith) e)

  -- one more item of a walk
  pub changed-more : (xs : List T) (i : ℕ) (d y : T) → i < length xs → v y ≡ g (v (get_or xs i d)) → map v (take (i + 1) (set xs i y)) ++ map g (map v (drop (i + 1) (set xs i y))) ≡ map v (take i xs) ++ map g (map v (drop i xs))
  changed-more xs i d y l e = rw add-one (changed-at xs i d y l e)

-- a fold over the rest, after one more
module _ {T V N A : Type 0} (v : T → V) (n : V → N) (f : A → N → A) where
  folded-at : (xs : List T) (i : ℕ) (d y : T) (a b : A) → i < length xs → b ≡ f a (n (v (get_or xs i d))) → fold f b (map n (map v (drop (suc i) (set xs i y)))) ≡ fold f a (map n (map v (drop i xs)))
  folded-at [] i d y a b l e = absurd (omega arith)
  folded-at (x ∷ xs) zero d y a b l e = ap (λ c. fold f c (map n (map v xs))) e
  folded-at (x ∷ xs) (suc i) d y a b l e = folded-at xs i d y a b (omega arith) e

  pub folded-more : (xs : List T) (i : ℕ) (d y : T) (a b : A) → i < length xs → b ≡ f a (n (v (get_or xs i d))) → fold f b (map n (map v (drop (i + 1) (set xs i y)))) ≡ fold f a (map n (map v (drop i xs)))
  folded-more xs i d y a b l e = rw add-one (folded-at xs i d y a b l e)

-- ---- an item with a name

abbrev IsOwned : (d : List ℕ) → (old new : Option (String Global)) → Type 0
IsOwned d old new = option_map string_bytes new ≡ option_map (with_decoration d) (option_map string_bytes old)

pub constant_owned : (d : List ℕ) (x : Constant) (n : Option (String Global)) → IsOwned d x.name n → constant_row (record x { name = n }) ≡ owned_row d (constant_row x)
constant_owned d x n e = ap (λ t. row ConstantKind t [] [] (constant_row x).names) e

pub override_owned : (d : List ℕ) (x : Override) (n : Option (String Global)) → IsOwned d x.name n → override_row (record x { name = n }) ≡ owned_row d (override_row x)
override_owned d x n e = ap (λ t. row OverrideKind t (x.id ∷ []) [] (override_row x).names) e

pub global_owned : (d : List ℕ) (x : GlobalVariable) (n : Option (String Global)) → IsOwned d x.name n → global_row (record x { name = n }) ≡ owned_row d (global_row x)
global_owned d x n e = ap (λ t. row GlobalKind t (Some x.space ∷ x.binding ∷ []) [] (global_row x).names) e

pub function_owned : (d : List ℕ) (x : Function × Span) (n : Option (String Global)) → IsOwned d x.0.name n → (function_value (record x.0 { name = n }), x.1) ≡ owned_function d (function_value x.0, x.1)
function_owned d x n e = ap (λ t. (record (function_value x.0) { name = t }, x.1)) e

-- ---- the names of functions

-- the names of the rest, after one more
module _ {T : Type 0} (v : T → FunctionValue × Span) where
  named-at : (xs : List T) (i : ℕ) (d : T) (a b : List (List ℕ)) → i < length xs → b ≡ with_text a (v (get_or xs i d)).0.name → fold with_name b (function_names (map v (drop (suc i) xs))) ≡ fold with_name a (function_names (map v (drop i xs)))
  named-at [] i d a b l e = absurd (omega arith)
  named-at (x ∷ xs) zero d a b l e = by (v x).0.name e
    where
      by : (t : Text) → b ≡ with_text a t → fold with_name b (function_names (map v xs)) ≡ fold with_name a (cons_option t (function_names (map v xs)))
      by None e = ap (λ c. fold with_name c (function_names (map v xs))) e
      by (Some n) e = ap (λ c. fold with_name c (function_names (map v xs))) e
  named-at (x ∷ xs) (suc i) d a b l e = named-at xs i d a b (omega arith) e

  pub named-more : (xs : List T) (i : ℕ) (d : T) (a b : List (List ℕ)) → i < length xs → b ≡ with_text a (v (get_or xs i d)).0.name → fold with_name b (function_names (map v (drop (i + 1) xs))) ≡ fold with_name a (function_names (map v (drop i xs)))
  named-more xs i d a b l e = rw add-one (named-at xs i d a b l e)

pub names-begin : (names : List (List ℕ)) → fold with_name [] names ≡ in_order names
unfolding in_order
names-begin names = refl

-- whether a set of names has a name
pub is_known : (keys : List (String Global)) (asked n : List ℕ) (r : Bool) → r ≡ list_any (is_at (λ k. slice_cmp nat_cmp asked (string_bytes k))) keys → asked ≡ n → is_among (texts keys) n ≡ r
is_known keys asked n r e same = ap (is_among (texts keys)) (sym same) ∙ sym (e ∙ among_texts keys asked)

-- ---- entry points as functions

pub demoted-none : (d : List ℕ) (names : List (List ℕ)) (e : EntryValue) → is_among names (demoted_name d e) ≡ true → demoted d names e ≡ []
demoted-none d names e h = rw h refl

pub demoted-one : (d : List ℕ) (names : List (List ℕ)) (e : EntryValue) → is_among names (demoted_name d e) ≡ false → demoted d names e ≡ (demoted_function d e, undefined) ∷ []
demoted-one d names e h = rw h refl

-- sorted names are the same names
pub demoted-in_order : (d : List ℕ) (names : List (List ℕ)) (es : List EntryValue) → flat_map (demoted d (in_order names)) es ≡ flat_map (demoted d names) es
demoted-in_order d names [] = refl
demoted-in_order d names (e ∷ es) =
    ap (λ b. cond b [] ((demoted_function d e, undefined) ∷ []) ++ flat_map (demoted d (in_order names)) es) (among-in_order names (demoted_name d e))
    ∙ ap (λ fs. demoted d names e ++ fs) (demoted-in_order d names es)

-- one more entry point
pub demoted-more : {X : Type 0} (f : X → List (FunctionValue × Span)) (before more : List (FunctionValue × Span)) (left rest : List X) (x : X) → left ≡ x ∷ rest → more ≡ before ++ f x → more ++ flat_map f rest ≡ before ++ flat_map f left
demoted-more f before more left rest x e h = ap (λ fs. fs ++ flat_map f rest) h ∙ append_assoc before (f x) (flat_map f rest) ∙ ap (λ xs. before ++ flat_map f xs) (sym e)

pub demoted-noted : {X : Type 0} (f : X → List (FunctionValue × Span)) (before more : List (List ℕ)) (left rest : List X) (x : X) → left ≡ x ∷ rest → more ≡ fold with_name before (function_names (f x)) → fold with_name more (function_names (flat_map f rest)) ≡ fold with_name before (function_names (flat_map f left))
demoted-noted f before more left rest x e h =
    ap (λ ns. fold with_name ns (function_names (flat_map f rest))) h
    ∙ sym (fold-append with_name before (function_names (f x)) (function_names (flat_map f rest)))
    ∙ ap (fold with_name before) (sym (filter_map-append (λ (g : FunctionValue × Span). g.0.name) (f x) (flat_map f rest)))
    ∙ ap (λ xs. fold with_name before (function_names (flat_map f xs))) (sym e)

-- no entry point is left
pub demoted-last : {X : Type 0} (f : X → List (FunctionValue × Span)) (all : List (FunctionValue × Span)) (left : List X) → left ≡ [] → all ≡ all ++ flat_map f left
demoted-last f all left e = sym (append-nil all) ∙ ap (λ xs. all ++ flat_map f xs) (sym e)
