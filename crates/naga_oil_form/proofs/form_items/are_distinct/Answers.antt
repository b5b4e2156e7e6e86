use Rattle.std.proofs.Common.{◌≡◌, ◌∙◌, sym, subst, nat_eq, IfOk, rules}
use Rattle.std.specs.HashSet as bag
use Rattle.std.specs.Set.{distinct_count}
use Rattle.std.proofs.lemmas.Cmp.{nat_eq_equiv}
use Rattle.std.proofs.lemmas.Map.Made.{hash_set_len-from_list, IsDistinct-from_count, distinct_count-from_IsDistinct}
use Rattle.naga_oil_form.proofs.LinkLemmas.{eqb_eq, eq_eqb}
use Rattle.naga_oil_form.proofs.form_items.are_distinct.Goals as goal

pub returns : goal.returns
returns c =
    let xs = c.args.places.now in
    let made : IfOk c.collect.result (bag.IsFromIterResult nat_eq xs) = search rules in
    let found : bag.IsFromIterResult nat_eq xs c.in_ok-set.set = subst (λ r. IfOk r (bag.IsFromIterResult nat_eq xs)) c.in_ok-set.was made in
    let count : c.len.result ≡ distinct_count nat_eq xs = c.len.ensures.len ∙ hash_set_len-from_list nat_eq_equiv xs c.in_ok-set.set found in
    (λ h. IsDistinct-from_count nat_eq_equiv xs (sym count ∙ eqb_eq _ _ h), λ d. eq_eqb _ _ (count ∙ distinct_count-from_IsDistinct nat_eq_equiv xs d))
