use Rattle.std.proofs.Common.{◌∙◌, nat_eq, arith, rules, tests}
use Rattle.std.proofs.lemmas.Iterator.{YieldsList-from_slice, YieldsList-from_zip}
use Rattle.std.proofs.lemmas.Iterator.Search.{all_from_yields_List}
use Rattle.naga_oil_ir.specs.declared.module.FunctionArgument.{FunctionArgument}
use Rattle.naga_oil_redirect.proofs.ArgumentLemmas.{zip_alike}
use Rattle.naga_oil_redirect.proofs.redirect.same_arguments.Goals as goal

pub returns-then-a-b : goal.returns-then-a-b
returns-then-a-b c =
    all_from_yields_List (λ (p : FunctionArgument × FunctionArgument). nat_eq p.0.ty p.1.ty) c.all.new.self _ c.all.result c.all.ensures.ran (YieldsList-from_zip {s = c.zip.result} (YieldsList-from_slice c.args.a.now cc) (YieldsList-from_slice c.args.b.now cc)) (λ x b q k. search (rules, tests)) ∙ zip_alike c.args.a.now c.args.b.now (omega arith)
