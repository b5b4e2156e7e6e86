-- Worked rows: replacements of one name, refused redirections, and two chains in one module.
use Rattle.std.proofs.Common.{◌≡◌, ℕ, ◌<◌, zero, suc, List, [], ◌∷◌, map, Bool, true, false, ◌||◌, Option, Some, None, Result, Ok, Err, slice_get, refl, ap, sym, subst, ◌∙◌, arith}
use Rattle.std.proofs.lemmas.List.Elements.{All-nil, All-cons, All-head}
use Rattle.std.proofs.lemmas.Option.{none-some, same_Some}
use Rattle.std.proofs.lemmas.Slice.Eq.{bytes_eq-Decides}
use Rattle.std.specs.Prelude.{codes, bytes_eq}
use Rattle.naga_oil_words.specs.Marks.{has_module_mark}
use Rattle.naga_oil_form.specs.Form.{is_formed}
use Rattle.naga_oil_form.specs.Links as links
use Rattle.naga_oil_form.specs.NameForm.{Name}
use Rattle.naga_oil_ir.specs.ModuleValue.{ModuleValue, FunctionValue, EntryValue}
use Rattle.naga_oil_ir.specs.RedirectFault.{argument_mismatch, not_found}
use Rattle.naga_oil_ir.specs.Spans.{undefined}
use Rattle.naga_oil_ir.specs.declared.span.Span.{Span}
use Rattle.naga_oil_derive.specs.Answered.{import_callee}
use Rattle.naga_oil_derive.specs.CopiedFunction.{copy_function, expressions_upto}
use Rattle.naga_oil_derive.specs.Equal.{parts_eq}
use Rattle.naga_oil_form_laws.specs.EntryForm.{IsModuleFormed}
use Rattle.naga_oil_form_laws.specs.Shape.{HasModuleShape}
use Rattle.naga_oil_form_laws.specs.ShapeTest.{has_shape}
use Rattle.naga_oil_form_laws.proofs.ShapeTests.{shape_test}
use Rattle.naga_oil_redirect.specs.Chain.{destination, last_of, SentInTurn, NoMore, OneMore, none_omitted, called, AreSent, CallsWithin, HasFunction, IsSentDown, IsSentEntry, IsSentFunction}
use Rattle.naga_oil_redirect.specs.ChainLaw.{PassesJust, is_in_chain}
use Rattle.naga_oil_redirect.specs.Level.{level_below}
use Rattle.naga_oil_redirect.specs.PutInOrder.{in_turn}
use Rattle.naga_oil_redirect.specs.PutInOrderRows.{calling, empty, module_of}
use Rattle.naga_oil_redirect.specs.Redirected.{matched, redirected}
use Rattle.naga_oil_link.specs.BuiltModule.{Overriding}
use Rattle.naga_oil_link_laws.proofs.ParsedShapes.{parsed_shape}
use Rattle.naga_oil_build.specs.OverridingForm.{NeitherOverrides}
use Rattle.naga_oil.specs.Chain.{chain, chain_all, all_sent_down, sent_down}
use Rattle.naga_oil.specs.ChainsLaw.{NoneIsBoth, IsApart, StandsApart, GoDownChains}
use Rattle.naga_oil.proofs.ChainsLaws.{chains_law}
use Rattle.naga_oil_definition_laws.specs.BodiesRows.{each_of_one}

abbrev a : Name
a = codes "a"

abbrev b : Name
b = codes "b"

abbrev c : Name
c = codes "c"

abbrev d : Name
d = codes "d"

-- ---- replacements with equal names: the first counts

abbrev b_twice : List Name
b_twice = b ∷ c ∷ b ∷ []

first_of_two : destination b_twice (Some b) a ≡ a
first_of_two = refl

between_them : destination b_twice (Some c) a ≡ b
between_them = refl

by_others : destination b_twice (Some d) a ≡ b
by_others = refl

second_of_two_is_refused : destination b_twice (Some b) a ≡ c → ⊥
second_of_two_is_refused h = let e : a ≡ c = h in absurd cc

-- the base as a replacement of itself
base_again : destination (a ∷ b ∷ []) (Some a) a ≡ a
base_again = refl

-- a module in which b, c, d and the entry point call a
abbrev calling_a : ModuleValue
calling_a = module_of (empty a ∷ calling b 0 ∷ calling c 0 ∷ calling d 0 ∷ []) (calling (codes "main") 0)

-- its calls of a redirected to b, those of b to c, and those of c to b again
abbrev first : ModuleValue
first = redirected calling_a 0 1 none_omitted

abbrev second : ModuleValue
second = redirected first 1 2 (λ name. bytes_eq name b || none_omitted name)

abbrev third : ModuleValue
third = redirected second 2 1 (λ name. bytes_eq name c || (bytes_eq name b || none_omitted name))

b_again : SentInTurn calling_a a b_twice none_omitted third
b_again = OneMore (0, 1) refl (OneMore (1, 2) refl (OneMore (2, 1) refl NoMore))

-- each function calls its destination
they_call : map (λ f. called third.functions f.0) third.functions ≡ [] ∷ (a ∷ []) ∷ (b ∷ []) ∷ (b ∷ []) ∷ []
they_call = refl

entry_points_call : map (λ e. called third.functions e.function) third.entry_points ≡ (last_of b_twice a ∷ []) ∷ []
entry_points_call = refl

-- ---- refused redirections

abbrev taking : FunctionValue
taking = record (empty b) { arguments = record { name = None; ty = 0; binding = None } ∷ [] }

-- b takes an argument, a doesn't
abbrev unlike : ModuleValue
unlike = module_of (empty a ∷ taking ∷ []) (calling (codes "main") 0)

no_match : matched unlike.functions a b ≡ Err (argument_mismatch b a)
no_match = refl

not_there : matched unlike.functions a c ≡ Err (not_found c)
not_there = refl

-- the first of others can be matched
first_matched : {m n : ModuleValue} {original : Name} {others : List Name} {omitted : Name → Bool} (other : Name) (more : List Name) →
    SentInTurn m original others omitted n → others ≡ other ∷ more → (pair : ℕ × ℕ) × (matched m.functions original other ≡ Ok pair)
first_matched other more NoMore e = absurd cc
first_matched {m} {original = original} other more (OneMore {other = own} pair is next) e = (pair, ap (matched m.functions original) (let same : other ≡ own = cc in same) ∙ is)

never : {X F : Type 0} (f : F) (x : X) → ◌≡◌ {A = Result X F} (Err f) (Ok x) → ⊥
never f x e = absurd cc

mismatch_is_refused : (n : ModuleValue) → SentInTurn unlike a (b ∷ []) none_omitted n → ⊥
mismatch_is_refused n h = let p = first_matched b [] h refl in never (argument_mismatch b a) p.0 p.1

missing_is_refused : (n : ModuleValue) → SentInTurn unlike a (c ∷ b ∷ []) none_omitted n → ⊥
missing_is_refused n h = let p = first_matched c (b ∷ []) h refl in never (not_found c) p.0 p.1

-- ---- two chains in one module

-- b overrides a, and d overrides c
abbrev a_b : List ℕ × List (List ℕ)
a_b = (a, b ∷ [])

abbrev c_d : List ℕ × List (List ℕ)
c_d = (c, d ∷ [])

abbrev pub two_chains : Overriding
two_chains = a_b ∷ c_d ∷ []

-- each of the overriding functions calls what it overrides; e calls a, and the entry point calls c
abbrev whole : ModuleValue
whole = module_of (empty a ∷ calling b 0 ∷ empty c ∷ calling d 2 ∷ calling (codes "e") 0 ∷ []) (calling (codes "main") 2)

-- then e calls b, and the entry point d; e comes after b
abbrev made : ModuleValue
made = module_of (empty a ∷ empty c ∷ calling b 0 ∷ calling d 1 ∷ calling (codes "e") 2 ∷ []) (calling (codes "main") 3)

both_chains : chain two_chains whole ≡ Ok made
unfolding chain_all all_sent_down sent_down in_turn level_below import_callee copy_function expressions_upto links.trail parts_eq
both_chains = refl

-- the two share no name
differ_from_a_b : (n : List ℕ) (p q : Bool) → bytes_eq n c ≡ p → bytes_eq n d ≡ q → (p || (q || false)) ≡ true → is_in_chain a (b ∷ []) n ≡ false
differ_from_a_b n true q f g is = subst (λ (x : List ℕ). is_in_chain a (b ∷ []) x ≡ false) (sym ((bytes_eq-Decides n c).0 f)) refl
differ_from_a_b n false true f g is = subst (λ (x : List ℕ). is_in_chain a (b ∷ []) x ≡ false) (sym ((bytes_eq-Decides n d).0 g)) refl
differ_from_a_b n false false f g is = absurd cc

differ_from_c_d : (n : List ℕ) (p q : Bool) → bytes_eq n a ≡ p → bytes_eq n b ≡ q → (p || (q || false)) ≡ true → is_in_chain c (d ∷ []) n ≡ false
differ_from_c_d n true q f g is = subst (λ (x : List ℕ). is_in_chain c (d ∷ []) x ≡ false) (sym ((bytes_eq-Decides n a).0 f)) refl
differ_from_c_d n false true f g is = subst (λ (x : List ℕ). is_in_chain c (d ∷ []) x ≡ false) (sym ((bytes_eq-Decides n b).0 g)) refl
differ_from_c_d n false false f g is = absurd cc

chains_are_apart : IsApart a_b c_d
chains_are_apart n is = differ_from_a_b n (bytes_eq n c) (bytes_eq n d) refl refl is

chain_from_b_is_refused : IsApart a_b (b, c ∷ []) → ⊥
chain_from_b_is_refused h = let f : true ≡ false = h b refl in absurd cc

a_b_apart : StandsApart two_chains 0 a_b
a_b_apart zero x at other = absurd (other refl)
a_b_apart (suc zero) x at other = subst (IsApart a_b) (same_Some c_d x at) chains_are_apart
a_b_apart (suc (suc j)) x at other = absurd (none-some x at)

c_d_apart : StandsApart two_chains 1 c_d
c_d_apart zero x at other = subst (IsApart c_d) (same_Some a_b x at) (λ n is. differ_from_c_d n (bytes_eq n a) (bytes_eq n b) refl refl is)
c_d_apart (suc zero) x at other = absurd (other refl)
c_d_apart (suc (suc j)) x at other = absurd (none-some x at)

-- a chain that begins where the other ends doesn't stand apart
chain_of_its_end_is_refused : StandsApart (a_b ∷ (b, c ∷ []) ∷ []) 0 a_b → ⊥
chain_of_its_end_is_refused h = let f : true ≡ false = h 1 (b, c ∷ []) refl (λ q. absurd cc) b refl in absurd cc

-- none both overrides and is overridden
a_b_none : NoneIsBoth two_chains a_b
a_b_none zero x at = subst (NeitherOverrides a_b) (same_Some a_b x at) (refl, refl)
a_b_none (suc zero) x at = subst (NeitherOverrides a_b) (same_Some c_d x at) (refl, refl)
a_b_none (suc (suc j)) x at = absurd (none-some x at)

-- b does
both_is_refused : NoneIsBoth (a_b ∷ (b, c ∷ []) ∷ []) a_b → ⊥
both_is_refused h = let f : true ≡ false = (h 1 (b, c ∷ []) refl).0 in absurd cc

-- calls go down both chains
has_the_shape : HasModuleShape whole
unfolding has_shape
has_the_shape = (shape_test whole).0 refl

is_tested : is_formed whole [] 9 ≡ true
unfolding is_formed links.trail has_module_mark
is_tested = refl

formed : IsModuleFormed whole
unfolding has_module_mark
formed = parsed_shape whole 0 [] 9 has_the_shape (omega arith) is_tested

go_down : GoDownChains two_chains whole made
go_down = chains_law two_chains whole made formed both_chains

a_b_sent : IsSentDown a (b ∷ []) whole made
a_b_sent = go_down 0 a_b refl a_b_apart

c_d_sent : IsSentDown c (d ∷ []) whole made
c_d_sent = go_down 1 c_d refl c_d_apart

-- ---- single functions and entry points

abbrev main : EntryValue
main = record {
  name = codes "main";
  stage = 0;
  early_depth_test = None;
  workgroup_size = [];
  workgroup_size_overrides = None;
  function = calling (codes "main") 2;
  mesh_info = None;
  task_payload = None;
}

b_is_sent : IsSentFunction a (b ∷ []) whole made (calling b 0)
b_is_sent = a_b_sent.functions 2 (calling b 0, undefined) refl

-- a function that calls a, as it did before
abbrev caller : Name
caller = codes "e"

abbrev unsent : ModuleValue
unsent = module_of (empty a ∷ calling caller 0 ∷ []) (empty (codes "main"))

abbrev is_a : Option Name → Bool
is_a None = false
is_a (Some n) = bytes_eq n a

is_no_a : ◌≡◌ {A = Option Name} (Some c) (Some a) → ⊥
is_no_a e = let f : false ≡ true = ap is_a e in absurd cc

calls_are_sent : AreSent a b (a ∷ c ∷ []) (b ∷ c ∷ [])
calls_are_sent zero is = refl
calls_are_sent (suc zero) is = absurd (is_no_a is)
calls_are_sent (suc (suc i)) is = absurd (none-some a is)

calls_are_within : CallsWithin unsent (calling caller 0)
calls_are_within = each_of_one (λ (k : ℕ). k < 2) 0 (omega arith)

call_of_none_is_refused : CallsWithin unsent (calling caller 2) → ⊥
call_of_none_is_refused h = let l : 2 < 2 = All-head (λ (k : ℕ). k < 2) 2 [] h in absurd (omega (arith, l))

call_of_a_is_refused : IsSentFunction a (b ∷ []) unsent unsent (calling caller 0) → ⊥
call_of_a_is_refused h = at h.place h.source h.at h.name h.calls
  where
    at : (k : ℕ) (x : FunctionValue × Span) → slice_get unsent.functions k ≡ Some x → x.0.name ≡ Some caller → AreSent a b (called unsent.functions x.0) (a ∷ []) → ⊥
    at zero x is name calls = let f : true ≡ false = ap is_a (ap (λ (y : FunctionValue × Span). y.0.name) (same_Some (empty a, undefined) x is) ∙ name) in absurd cc
    at (suc zero) x is name calls =
        let before = subst (λ (y : FunctionValue × Span). slice_get (called unsent.functions y.0) 0 ≡ Some a) (same_Some (calling caller 0, undefined) x is) refl in
        let f : true ≡ false = ap is_a (calls 0 before) in
        absurd cc
    at (suc (suc k)) x is name calls = none-some x is

entry_is_sent : IsSentEntry c (d ∷ []) whole made 0 (record main { function = calling (codes "main") 3 })
entry_is_sent = c_d_sent.entry_points 0 (record main { function = calling (codes "main") 3 }) refl

caller_is_there : HasFunction made (Some caller)
caller_is_there = (4, (calling caller 2, undefined), refl, refl)

missing_function_is_refused : HasFunction (module_of (empty a ∷ []) (empty (codes "main"))) (Some b) → ⊥
missing_function_is_refused (zero, x, at, name) = let f : true ≡ false = ap is_a (ap (λ (y : FunctionValue × Span). y.0.name) (same_Some (empty a, undefined) x at) ∙ name) in absurd cc
missing_function_is_refused (suc k, x, at, name) = none-some x at

passes_b : PassesJust (b ∷ []) (λ n. bytes_eq n b)
passes_b n = either (bytes_eq n b)
  where
    either : (q : Bool) → q ≡ (q || false)
    either true = refl
    either false = refl

passing_another_is_refused : PassesJust (b ∷ []) (λ n. bytes_eq n b || bytes_eq n c) → ⊥
passing_another_is_refused h = let f : true ≡ false = h c in absurd cc

abbrev is_c : Option Name → Bool
is_c None = false
is_c (Some n) = bytes_eq n c

c_differs : ◌≡◌ {A = Option Name} (Some c) (Some d) → ⊥
c_differs h = let f : true ≡ false = ap is_c h in absurd cc

-- the module with its calls as they were
unsent_entry_is_refused : IsSentEntry c (d ∷ []) whole whole 0 main → ⊥
unsent_entry_is_refused y =
    let before = subst (λ (x : EntryValue). slice_get (called whole.functions x.function) 0 ≡ Some c) (same_Some main y.source y.at) refl in
    c_differs (y.calls 0 before)

unsent_module_is_refused : IsSentDown c (d ∷ []) whole whole → ⊥
unsent_module_is_refused h = unsent_entry_is_refused (h.entry_points 0 main refl)

unsent_is_refused : GoDownChains two_chains whole whole → ⊥
unsent_is_refused h = unsent_module_is_refused (h 1 c_d refl c_d_apart)
