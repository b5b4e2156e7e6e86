use Rattle.std.proofs.Common.{◌≡◌, [], map, ap, ◌∙◌, ◌++◌, sym, rules}
use Rattle.std.proofs.lemmas.List.{nil_from_length}
use Rattle.naga_oil_imports.specs.Substituted.{with_mentions}
use Rattle.std.specs.String.{string_bytes}
use Rattle.naga_oil_imports.specs.declared.substitute.SubstituteFault.TheVariants.{Memory}
use Rattle.naga_oil_imports.specs.Declarations.{declared_of}
use Rattle.naga_oil_imports.specs.Uses.{uses_of}
use Rattle.naga_oil_imports.proofs.SettledLemmas.{fault_answer}
use Rattle.naga_oil_imports.proofs.WritingLemmas.{writing_refused, written_allowed, written_uses, unwritten_before, site_refused}
use Rattle.naga_oil_imports.proofs.WalkLemmas.{walk_start, walked_text, own_passed, site_passed}
use Rattle.naga_oil_imports.proofs.PlainLemmas.{plain_text}
use Rattle.naga_oil_imports.proofs.substitute.Substitution.walk.Goals as goal

pub loop-site-init : goal.loop-site-init
loop-site-init c = record { unwritten = c.utf8.input; rest = c.utf8.input; walk = walk_start _ _ _ _ _ _ _ }

pub text_before-requires : goal.text_before-requires
text_before-requires c = unwritten_before _ _ _ _ _ _ _ _ _ _ c.loop-site.invariant.walk.writing _ _ _ _ c.in-Some.ensures

pub loop-site-preserved-then-is_own : goal.loop-site-preserved-then-is_own
loop-site-preserved-then-is_own c = record {
  unwritten = c.loop-site.invariant.unwritten;
  rest = c.in-Some.ensures.utf8;
  walk = own_passed _ _ _ _ _ _ _ _ _ _ _ c.loop-site.invariant.walk _ _ _ _ c.in-Some.ensures (sym c.is_own.ensures ∙ c.if-is_own.true);
}

pub returns-in_err-write-2-clause-fault : goal.returns-in_err-write-2-clause-fault
returns-in_err-write-2-clause-fault c =
    fault_answer c.from_residual-in_err-write-2.result _ Memory c.from_residual-in_err-write-2.ensures.1 (writing_refused _ _ _ _ _ _ _ _ _ _ c.loop-site.invariant.walk.writing)

pub returns-in_err-write_identifier-clause-fault : goal.returns-in_err-write_identifier-clause-fault
returns-in_err-write_identifier-clause-fault c =
    fault_answer c.from_residual-in_err-write_identifier.result _ c.in_err-write_identifier.field-0.0 c.from_residual-in_err-write_identifier.ensures.1
    (site_refused _ _ _ _ _ _ _ _ _ _ c.loop-site.invariant.walk.writing _ _ _ _ c.in-Some.ensures c.saturating_add-place.result c.saturating_add-place.ensures (uses_of c.write_identifier.new.used_imports) c.in_err-write_identifier.field-0.0
    c.in_err-write_identifier.ensures.fault)

pub loop-site-preserved : goal.loop-site-preserved
loop-site-preserved c = record {
  unwritten = c.in-Some.ensures.utf8;
  rest = c.in-Some.ensures.utf8;
  walk =
      site_passed _ _ _ _ _ _ _ _ _ _ _ c.loop-site.invariant.walk _ _ _ _ c.in-Some.ensures c.saturating_add-place.result c.saturating_add-place.ensures (uses_of c.write_identifier.new.used_imports) _ (string_bytes c.write-in-Some.new.output)
      (string_bytes c.write_identifier.new.output) c.text_before.ensures c.in_ok-write-2.ensures.text c.in_ok-write_identifier.ensures.text c.in_ok-write-2.ensures.unwritten c.in_ok-write_identifier.ensures.unwritten c.in_ok-write_identifier.ensures.allowed
      c.in_ok-write_identifier.ensures.used;
}

pub returns-in_err-write-3-clause-fault : goal.returns-in_err-write-3-clause-fault
returns-in_err-write-3-clause-fault c =
    fault_answer c.from_residual-in_err-write-3.result _ Memory c.from_residual-in_err-write-3.ensures.1 (writing_refused _ _ _ _ _ _ _ _ _ _ c.loop-site.invariant.walk.writing)

pub returns-clause-text : goal.returns-clause-text
returns-clause-text c = walked_text _ _ _ _ _ _ _ _ _ _ _ c.loop-site.invariant.walk c.in_default.ensures _ c.in_ok-write-3.ensures.text

pub returns-clause-unwritten : goal.returns-clause-unwritten
returns-clause-unwritten c = λ w. c.in_ok-write-3.ensures.unwritten w ∙ c.loop-site.invariant.walk.untouched w

pub returns-clause-used : goal.returns-clause-used
returns-clause-used c = written_uses _ _ _ _ _ _ _ _ _ _ c.loop-site.invariant.walk.writing c.in_default.ensures

pub returns-clause-allowed : goal.returns-clause-allowed
returns-clause-allowed c = written_allowed _ _ _ _ _ _ _ _ _ _ c.loop-site.invariant.walk.writing c.in_default.ensures

pub returns-then-lacks_colons-clause-text : goal.returns-then-lacks_colons-clause-text
returns-then-lacks_colons-clause-text c =
    let nothing : declared_of c.args.self.now.declared_imports.now ≡ [] = ap (map _) (nil_from_length c.args.self.now.declared_imports.now.entries (c.is_empty.ensures.0 (search rules))) in
    rw nothing (λ w. c.in_ok-write.ensures.text w ∙ ap (λ l. string_bytes c.args.output.now ++ l) (sym (plain_text c.args.input.now c.utf8.input (c.lacks_colons.ensures c.if-lacks_colons.true)).written))

pub returns-then-lacks_colons-clause-used : goal.returns-then-lacks_colons-clause-used
returns-then-lacks_colons-clause-used c =
    let nothing : declared_of c.args.self.now.declared_imports.now ≡ [] = ap (map _) (nil_from_length c.args.self.now.declared_imports.now.entries (c.is_empty.ensures.0 (search rules))) in
    rw nothing (ap (with_mentions (uses_of c.args.used_imports.now)) (sym ((plain_text c.args.input.now c.utf8.input (c.lacks_colons.ensures c.if-lacks_colons.true)).unused c.args.self.now.offset)))

pub returns-then-lacks_colons-clause-allowed : goal.returns-then-lacks_colons-clause-allowed
returns-then-lacks_colons-clause-allowed c =
    let nothing : declared_of c.args.self.now.declared_imports.now ≡ [] = ap (map _) (nil_from_length c.args.self.now.declared_imports.now.entries (c.is_empty.ensures.0 (search rules))) in
    rw nothing ((plain_text c.args.input.now c.utf8.input (c.lacks_colons.ensures c.if-lacks_colons.true)).allowed c.args.self.now.allow_ambiguous c.args.self.now.offset)
