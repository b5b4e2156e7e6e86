-- Worked rows: an order, a cycle, a shadowed name.
use Rattle.std.specs.Prelude.{◌≡◌, ℕ, [], ◌∷◌, Some, None, Ok, Err, codes, refl}
use Rattle.yettuvam_wgsl_words.specs.declared.token.Span.{Span}
use Rattle.yettuvam_wgsl_scope.specs.Names.{Local, find, find_from}
use Rattle.yettuvam_wgsl_scope.specs.Order.{sorted, run_from, root, enter, push, finish_all, step, visit, used, finish}
use Rattle.yettuvam_wgsl_scope.specs.Refused.{fault_after}
use Rattle.yettuvam_wgsl_scope.specs.declared.refusal.Reason.TheVariants as reason

abbrev first_span : Span
first_span = record { start = 3; end = 4 }

abbrev second_span : Span
second_span = record { start = 13; end = 14 }

-- the first item names the second, which is sorted before it
a_used_item_is_first : sorted (first_span ∷ second_span ∷ []) ((1 ∷ []) ∷ [] ∷ []) 4 ≡ Ok (1 ∷ 0 ∷ [], 1 ∷ 0 ∷ [])
unfolding run_from root enter push finish_all step visit used finish
a_used_item_is_first = refl

each_uses_the_other : sorted (first_span ∷ second_span ∷ []) ((1 ∷ []) ∷ (0 ∷ []) ∷ []) 5 ≡ Err (fault_after reason.Cycle second_span first_span)
unfolding run_from root enter push finish_all step visit used finish
each_uses_the_other = refl

abbrev named_x : ℕ → Local
named_x number = record { name = record { text = codes "x"; span = first_span }; number = number }

the_inner_name_hides_the_outer : find (named_x 0 ∷ named_x 1 ∷ []) (codes "x") ≡ Some (named_x 1)
unfolding find_from
the_inner_name_hides_the_outer = refl

another_name_is_not_found : find (named_x 0 ∷ []) (codes "y") ≡ None
unfolding find_from
another_name_is_not_found = refl
