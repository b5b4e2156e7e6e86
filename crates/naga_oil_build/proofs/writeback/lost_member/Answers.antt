use Rattle.std.proofs.Common.{◌≡◌, ◌∙◌, option_map, unwrap_or, Option, Some, None, [], ap, sym, List, ℕ, refl, rules}
use borrow.Author.Tests.{tests}
use denote.Ref.{Bor}
use Rattle.std.specs.String.{string_bytes}
use Rattle.std.proofs.lemmas.Iterator.{YieldsList-from_slice, YieldsList-from_zip}
use Rattle.std.proofs.lemmas.Iterator.Search.{find_from_yields_List}
use Rattle.naga_oil_ir.specs.declared.types.StructMember.{StructMember}
use Rattle.naga_oil_build.proofs.WritebackLemmas.{differs, name_of, members_lost}
use Rattle.naga_oil_build.proofs.writeback.lost_member.Goals as goal

abbrev shown : Bor StructMember × Bor StructMember → StructMember × StructMember
shown p = (p.0.now, p.1.now)

unwrapped : (o : Option (Bor (List ℕ))) (d : Bor (List ℕ)) → (unwrap_or o d).now ≡ unwrap_or (option_map (λ n. n.now) o) d.now
unwrapped (Some x) d = refl
unwrapped None d = refl

pub returns-in_err-our : goal.returns-in_err-our
returns-in_err-our c =
    let found = find_from_yields_List differs c.find.new.self _ c.find.result c.find.ensures.ran (YieldsList-from_zip (YieldsList-from_slice c.args.ours.now (search rules)) (YieldsList-from_slice {s = c.zip-pairs.result.b} c.args.theirs.now (search rules))) (λ x b q k. search (rules, tests)) in
    let none = ap (option_map shown) c.in_err-our.was in
    rw c.from_residual.ensures (ap (option_map name_of) (sym none ∙ found) ∙ members_lost c.args.ours.now c.args.theirs.now)

pub returns : goal.returns
returns c =
    let found = find_from_yields_List differs c.find.new.self _ c.find.result c.find.ensures.ran (YieldsList-from_zip (YieldsList-from_slice c.args.ours.now (search rules)) (YieldsList-from_slice {s = c.zip-pairs.result.b} c.args.theirs.now (search rules))) (λ x b q k. search (rules, tests)) in
    let some = ap (option_map shown) c.in_ok-our.was in
    let name : c.unwrap_or.result.now ≡ unwrap_or (option_map string_bytes c.in_ok-our.our.now.name) [] =
    ap (λ r. r.now) c.unwrap_or.ensures ∙ unwrapped c.named.result _ ∙ ap (λ o. unwrap_or o []) c.named.ensures in
    ap Some name ∙ ap (option_map name_of) (sym some ∙ found) ∙ members_lost c.args.ours.now c.args.theirs.now
