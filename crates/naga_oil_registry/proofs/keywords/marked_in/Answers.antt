use Rattle.std.proofs.Common.{◌≡◌, ◌+◌, ◌-◌, ◌∷◌, ◌++◌, [], List, length, map, refl, sym, ap, ◌∙◌, append-nil, append_assoc, length-append, arith, rules}
use Rattle.std.proofs.lemmas.List.{map-append}
use Rattle.naga_oil_registry.specs.Keywords.{MarkedFunction, marked_after}
use Rattle.naga_oil_registry.specs.KeywordsView.{marked_of}
use Rattle.naga_oil_registry.proofs.MarkedLemmas.{cut_sizes, step_end, step_past, step_marked, name_by_bytes, no_name}
use Rattle.naga_oil_registry.proofs.keywords.marked_in.Goals as goal

pub loop-before-preserved : goal.loop-before-preserved
loop-before-preserved c =
    let keyword = c.args.keyword.now in
    let text = c.args.text.now in
    let rest = c.loop-before.rest.now in
    let before = c.in-Some.before.now in
    let following = c.in-Some.following.now in
    let name = c.in-Some-marked_name.name.now in
    let onwards = c.in-Some-marked_name.onwards.now in
    let arguments = c.in-Some-marked_name.arguments.now in
    let known = map marked_of c.loop-before.found.items in
    let e = c.in-Some-marked_name.ensures in
    let front = e.suffix in
    let sizes = cut_sizes keyword rest before following c.in-Some.ensures.cases in
    let found = name_by_bytes following name onwards arguments e.chars e.utf8.0 e.utf8.1 e.utf8.2 in
    let m : MarkedFunction = record { keyword = length text - length rest + length before; name = name; place = length text - length onwards } in
    let more : map marked_of c.push.new.self.items ≡ known ++ m ∷ [] = ap (map marked_of) c.in_ok-push.ensures.items ∙ map-append marked_of c.loop-before.found.items _ in
    let size : length following ≡ length front.0 + length arguments = ap length front.1 ∙ length-append front.0 arguments in
    let next : length text - length arguments ≡ length text - length rest + length before + length keyword + length front.0 = omega (arith, size, sizes, c.loop-before.invariant.within) in
    let place : length text - length onwards ≡ length text - length rest + length before + (length keyword + length following - length onwards) = omega (arith, sizes, e.within, c.loop-before.invariant.within) in
    record {
      text = e.utf8.2;
      within = omega (arith, e.shorter, sizes, c.loop-before.invariant.within);
      found = ap (λ ms. ms ++ marked_after 0 keyword (length text - length arguments) arguments) more
          ∙ append_assoc known (m ∷ []) (marked_after 0 keyword (length text - length arguments) arguments)
          ∙ ap (λ ms. known ++ ms) (step_marked keyword rest before following name front.0 arguments (length onwards) (length text - length rest) (length text - length arguments) m c.requires c.in-Some.ensures.cases found front.1 next refl refl place)
          ∙ c.loop-before.invariant.found;
    }

pub loop-before-preserved-in_default-marked_name : goal.loop-before-preserved-in_default-marked_name
loop-before-preserved-in_default-marked_name c =
    let keyword = c.args.keyword.now in
    let text = c.args.text.now in
    let rest = c.loop-before.rest.now in
    let before = c.in-Some.before.now in
    let following = c.in-Some.following.now in
    let sizes = cut_sizes keyword rest before following c.in-Some.ensures.cases in
    let next : length text - length following ≡ length text - length rest + length before + length keyword = omega (arith, sizes, c.loop-before.invariant.within) in
    record {
      text = search rules;
      within = omega (arith, sizes, c.loop-before.invariant.within);
      found = ap (λ ms. map marked_of c.loop-before.found.items ++ ms) (step_past keyword rest before following (length text - length rest) (length text - length following) c.requires c.in-Some.ensures.cases (no_name following c.in_default-marked_name.ensures.chars) next) ∙ c.loop-before.invariant.found;
    }

pub returns : goal.returns
returns c =
    let found = map marked_of c.loop-before.found.items in
    sym (append-nil found) ∙ ap (λ ms. found ++ ms) (sym (step_end c.args.keyword.now c.loop-before.rest.now (length c.args.text.now - length c.loop-before.rest.now) c.requires c.in_default.ensures.cases)) ∙ c.loop-before.invariant.found
