use Rattle.std.proofs.Common.{◌≡◌, ℕ, Bool, Option, List, [], ap, refl, sym, ◌∙◌}
use denote.Ref.{Bor}
use Rattle.std.specs.Option.{option_map, is_some}
use Rattle.std.specs.Str.{chars}
use Rattle.std.proofs.lemmas.Str.{chars-nil}
use Rattle.std.proofs.lemmas.List.{nil_from_length}
use Rattle.naga_oil_lines.proofs.TokenLemmas.{suffix_more}
use Rattle.naga_oil_lines.proofs.UndecorateLemmas.{mark_here, no_mark_here, none_marked, from_last_mark-first, read_is_some, spelled_module_mark}
use Rattle.naga_oil_words.specs.Marks.{module_mark}
use Rattle.naga_oil_lines.specs.Undecorate.{mark_code}
use Rattle.naga_oil_lines.proofs.decorate.from_last_mark.Goals as goal

-- whether the mark was found
seen : (found : Option (Bor (List ℕ) × Bor (List ℕ))) (more : List ℕ) (is : Bool) → option_map (λ r. (r.0.now, chars r.1.now)) found ≡ mark_code (chars module_mark) more → is_some found ≡ is → is_some (mark_code module_mark more) ≡ is
seen found more is e h = ap (λ m. is_some (mark_code m more)) (sym spelled_module_mark) ∙ read_is_some _ found _ e ∙ h

pub loop-more-init : goal.loop-more-init
loop-more-init c = record { text = c.utf8.run; same = from_last_mark-first (chars c.args.run.now); left = ([], refl); suffix = tt; utf8 = tt }

pub loop-more-preserved-then-is_some : goal.loop-more-preserved-then-is_some
loop-more-preserved-then-is_some c =
    let before = c.loop-more.invariant in
    let e = c.in-Some.ensures in
    let left = suffix_more _ _ _ _ _ before.left.1 e.bytes in
    record {
      text = e.utf8;
      same = mark_here (chars c.loop-more.rest.now) c.in-Some.field-0-0 (chars c.in-Some.more.now) _ e.spelled (seen c.mark_code.result _ _ c.mark_code.ensures.found (sym c.is_some.ensures ∙ c.if-is_some.true)) ∙ before.same;
      left = left;
      suffix = left;
      utf8 = e.utf8;
    }

pub loop-more-preserved : goal.loop-more-preserved
loop-more-preserved c =
    let before = c.loop-more.invariant in
    let e = c.in-Some.ensures in
    record {
      text = e.utf8;
      same = no_mark_here (chars c.loop-more.rest.now) c.in-Some.field-0-0 (chars c.in-Some.more.now) _ e.spelled (seen c.mark_code.result _ _ c.mark_code.ensures.found (sym c.is_some.ensures ∙ c.if-is_some.false)) ∙ before.same;
      left = suffix_more _ _ _ _ _ before.left.1 e.bytes;
      suffix = before.suffix;
      utf8 = before.utf8;
    }

pub returns-clause-chars : goal.returns-clause-chars
returns-clause-chars c =
    let none : chars c.loop-more.rest.now ≡ [] = ap chars (nil_from_length _ c.in_default.ensures) ∙ chars-nil in
    none_marked (chars c.loop-more.rest.now) _ none ∙ c.loop-more.invariant.same
