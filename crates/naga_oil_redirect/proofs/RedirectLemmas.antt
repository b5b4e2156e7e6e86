-- Functions that are found by their names, and functions whose calls are redirected one after another.
use Rattle.std.proofs.Common.{◌≡◌, ◌≢◌, ◌∙◌, ◌==◌, ◌||◌, ℕ, zero, suc, ◌+◌, ◌<◌, ◌≤◌, Bool, true, false, not, if◌then◌else◌, List, [], ◌∷◌, ◌++◌, map, take, drop, length, get_or, nat_eq, Result, Ok, Err, refl, ap, sym, arith}
use Rattle.std.specs.List.{enumerate_from}
use Rattle.std.proofs.lemmas.Simd.{map-map}
use Rattle.std.specs.Cmp.Lexicographic.{pointwise}
use Rattle.std.proofs.lemmas.List.{map-append, length-map, take_more, length-take-le, drop_more, drop_all, get_or-map}
use Rattle.naga_oil_form.specs.NameForm.{Name}
use Rattle.naga_oil_ir.specs.ModuleValue.{ArgumentValue, argument_value, FunctionValue, function_value}
use Rattle.naga_oil_ir.specs.declared.module.Function.{Function}
use Rattle.naga_oil_ir.specs.declared.module.FunctionArgument.{FunctionArgument}
use Rattle.naga_oil_ir.specs.declared.span.Span.{Span}
use Rattle.naga_oil_ir.specs.RedirectFault.{RedirectFault, not_found, argument_mismatch, return_type_mismatch}
use Rattle.naga_oil_redirect.specs.Redirected.{function_values, is_named, found, found_from, matched, matching, compared, same_arguments, same_results, send, send_at}
use Rattle.naga_oil_redirect.proofs.CountLemmas.{differs}
use Rattle.naga_oil_form.proofs.LinkLemmas.{eq_eqb}

-- ---- found by name

at_front : (n : Name) (i : ℕ) (v : FunctionValue × Span) (vs : List (FunctionValue × Span)) (b : Bool) → is_named (pointwise nat_eq n) v.0.name ≡ b → found_from i n (v ∷ vs) ≡ (if b then Ok (i, v.0) else found_from (i + 1) n vs)
at_front n i v vs b e = ap (λ t. if t then Ok (i, v.0) else found_from (i + 1) n vs) e

front_of : (fs : List (Function × Span)) (i : ℕ) (x : Function × Span) → i < length fs → x ≡ get_or fs i x → drop i (function_values fs) ≡ (function_value x.0, x.1) ∷ drop (i + 1) (function_values fs)
front_of fs i x h e =
    let value : Function × Span → FunctionValue × Span = λ f. (function_value f.0, f.1) in
    drop_more (function_values fs) i (value x) (omega (arith, h, length-map fs value)) ∙ ap (λ v. v ∷ drop (i + 1) (function_values fs)) (get_or-map value fs i x (value x) h ∙ ap value (sym e))

pub found_more : (n : Name) (fs : List (Function × Span)) (i : ℕ) (x : Function × Span) → i < length fs → x ≡ get_or fs i x → is_named (pointwise nat_eq n) (function_value x.0).name ≡ false → found_from i n (drop i (function_values fs)) ≡ found n (function_values fs) → found_from (i + 1) n (drop (i + 1) (function_values fs)) ≡ found n (function_values fs)
found_more n fs i x h e other so_far =
    sym (at_front n i (function_value x.0, x.1) (drop (i + 1) (function_values fs)) false other) ∙ ap (found_from i n) (sym (front_of fs i x h e)) ∙ so_far

pub found_here : (n : Name) (fs : List (Function × Span)) (i : ℕ) (x : Function × Span) → i < length fs → x ≡ get_or fs i x → is_named (pointwise nat_eq n) (function_value x.0).name ≡ true → found_from i n (drop i (function_values fs)) ≡ found n (function_values fs) → found n (function_values fs) ≡ Ok (i, function_value x.0)
found_here n fs i x h e here so_far =
    sym so_far ∙ ap (found_from i n) (front_of fs i x h e) ∙ at_front n i (function_value x.0, x.1) (drop (i + 1) (function_values fs)) true here

pub found_none : (n : Name) (fs : List (Function × Span)) (i : ℕ) → length fs ≤ i → found_from i n (drop i (function_values fs)) ≡ found n (function_values fs) → found n (function_values fs) ≡ Err (not_found n)
found_none n fs i h so_far =
    let value : Function × Span → FunctionValue × Span = λ f. (function_value f.0, f.1) in
    sym so_far ∙ ap (found_from i n) (drop_all i (function_values fs) (omega (arith, h, length-map fs value)))

-- ---- redirected by their places

enumerate-push : {X : Type 0} (a : ℕ) (xs : List X) (x : X) → enumerate_from a (xs ++ x ∷ []) ≡ enumerate_from a xs ++ (a + length xs, x) ∷ []
enumerate-push a [] x = ap (λ n. (n, x) ∷ []) (omega arith)
enumerate-push a (y ∷ xs) x = ap (λ es. (a, y) ∷ es) (enumerate-push (a + 1) xs x ∙ ap (λ n. enumerate_from (a + 1) xs ++ (n, x) ∷ []) (omega arith))

-- one element more, which is what is made of the old one at its place
pub placed_more : {X Y : Type 0} (f : X → Y) (g : ℕ × Y → Y) (old now next : List X) (i : ℕ) (x d : X) → i < length now → length now ≡ length old → take (i + 1) next ≡ take i now ++ x ∷ [] → f x ≡ g (i, f (get_or old i d)) → map f (take i now) ≡ map g (enumerate_from 0 (map f (take i old))) → map f (take (i + 1) next) ≡ map g (enumerate_from 0 (map f (take (i + 1) old)))
placed_more f g old now next i x d h long front e so_far =
    let joined = ap (map f) front ∙ map-append f (take i now) (x ∷ []) ∙ ap (λ ys. ys ++ f x ∷ []) so_far ∙ ap (λ y. map g (enumerate_from 0 (map f (take i old))) ++ y ∷ []) e in
    let place : i ≡ 0 + length (map f (take i old)) = omega (arith, length-map (take i old) f, length-take-le i old (omega (arith, h, long))) in
    let last = ap (λ n. map g (enumerate_from 0 (map f (take i old))) ++ g (n, f (get_or old i d)) ∷ []) place ∙ sym (map-append g (enumerate_from 0 (map f (take i old))) ((0 + length (map f (take i old)), f (get_or old i d)) ∷ [])) in
    let listed = sym (enumerate-push 0 (map f (take i old)) (f (get_or old i d))) in
    let whole = sym (map-append f (take i old) (get_or old i d ∷ [])) ∙ ap (map f) (sym (take_more old i d (omega (arith, h, long)))) in
    joined ∙ last ∙ ap (map g) (listed ∙ ap (enumerate_from 0) whole)

-- ---- what stands at a place

-- an element that is there, whatever stands for one that is not
pub element_at : {X : Type 0} (xs : List X) (i : ℕ) → i < length xs → (x : X) × ((d : X) → get_or xs i d ≡ x)
element_at [] i h = absurd (omega arith)
element_at (x ∷ xs) zero h = (x, λ d. refl)
element_at (x ∷ xs) (suc i) h = element_at xs i (omega (arith, h))

pub same_element : {X : Type 0} (xs : List X) (i : ℕ) (d e : X) → i < length xs → get_or xs i d ≡ get_or xs i e
same_element xs i d e h = let x = element_at xs i h in x.1 d ∙ sym (x.1 e)

-- the same, where the old one stays
pub placed_kept : {X Y : Type 0} (f : X → Y) (g : ℕ × Y → Y) (old now : List X) (i : ℕ) → i < length now → length now ≡ length old → ((k : ℕ) (d : X) → i ≤ k → get_or now k d ≡ get_or old k d) → ((x : X) → x ≡ get_or now i x → f x ≡ g (i, f x)) → map f (take i now) ≡ map g (enumerate_from 0 (map f (take i old))) → map f (take (i + 1) now) ≡ map g (enumerate_from 0 (map f (take (i + 1) old)))
placed_kept f g old now i h long same stays so_far =
    let x = element_at now i h in
    let here = x.1 x.0 in
    placed_more f g old now now i (get_or now i x.0) x.0 h long (take_more now i x.0 h) (ap f here ∙ stays x.0 (sym here) ∙ ap (λ y. g (i, f y)) (sym here ∙ same i x.0 (omega arith))) so_far

pub stays_at : (from to i : ℕ) (o : Name → Bool) (v : FunctionValue × Span) → i ≡ to → v ≡ send_at from to o (i, v)
stays_at from to i o v e = sym (ap (λ b. if b || is_named o v.0.name then v else (send from to v.0, v.1)) (eq_eqb i to e))

if_either : (v w : FunctionValue × Span) (b : Bool) → v ≡ (if b || true then v else w)
if_either v w true = refl
if_either v w false = refl

pub omitted_at : (from to i : ℕ) (o : Name → Bool) (v : FunctionValue × Span) → is_named o v.0.name ≡ true → v ≡ send_at from to o (i, v)
omitted_at from to i o v e = if_either v (send from to v.0, v.1) (i == to) ∙ sym (ap (λ c. if (i == to) || c then v else (send from to v.0, v.1)) e)

pub sent_at : (from to i : ℕ) (o : Name → Bool) (v : FunctionValue × Span) → i ≢ to → is_named o v.0.name ≡ false → (send from to v.0, v.1) ≡ send_at from to o (i, v)
sent_at from to i o v d e =
    sym (ap (λ b. if b || is_named o v.0.name then v else (send from to v.0, v.1)) (differs i to d) ∙ ap (λ c. if c then v else (send from to v.0, v.1)) e)

-- ---- which function may stand for another

pub matched_found : (vs : List (FunctionValue × Span)) (original replacement : Name) (f g : ℕ × FunctionValue) → found original vs ≡ Ok f → found replacement vs ≡ Ok g → matched vs original replacement ≡ compared original replacement f g
matched_found vs original replacement f g a b =
    ap (λ x. matching original replacement x (found replacement vs)) a ∙ ap (matching original replacement (Ok f)) b

pub arguments_of : (f g : Function) → same_arguments (function_value f) (function_value g) ≡ pointwise nat_eq (map (λ a. a.ty) f.arguments.items) (map (λ a. a.ty) g.arguments.items)
arguments_of f g =
    let ty = λ (a : ArgumentValue). a.ty in
    ap (λ xs. pointwise nat_eq xs (map ty (map argument_value g.arguments.items))) (map-map ty argument_value f.arguments.items) ∙ ap (pointwise nat_eq (map (λ (a : FunctionArgument). a.ty) f.arguments.items)) (map-map ty argument_value g.arguments.items)

abbrev by_tests : (original replacement : Name) → ℕ → ℕ → Bool → Bool → Result (ℕ × ℕ) RedirectFault
by_tests original replacement i k a b = if not a then Err (argument_mismatch replacement original) else if not b then Err (return_type_mismatch replacement original) else Ok (i, k)

pub compared_as : (original replacement : Name) (f g : ℕ × FunctionValue) (a b : Bool) → same_arguments f.1 g.1 ≡ a → same_results f.1 g.1 ≡ b → compared original replacement f g ≡ by_tests original replacement f.0 g.0 a b
compared_as original replacement f g a b d e =
    ap (λ x. by_tests original replacement f.0 g.0 x (same_results f.1 g.1)) d ∙ ap (by_tests original replacement f.0 g.0 a) e
