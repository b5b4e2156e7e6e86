use Rattle.std.proofs.Common.{◌≡◌, ◌∷◌, ◌++◌, [], List, ap, sym, subst, refl}
use Rattle.naga_oil_form.specs.Links.{lists, added}
use Rattle.naga_oil_walk.specs.Naming.{token_names, Adds}
use Rattle.naga_oil_walk.specs.Walks.{IsOver}
use Rattle.naga_oil_walk.specs.declared.walk.Request.{Request}
use Rattle.naga_oil_walk.specs.declared.walk.Request.TheVariants.{Call}
use Rattle.naga_oil_ir.specs.declared.tokens.Token.{Token}
use Rattle.naga_oil_walk.proofs.NamingLemmas.{Adds-none}
use Rattle.naga_oil_walk.proofs.ReachSteps.{names_nothing, adds_all, ok_then, over_asked}
use Rattle.naga_oil_walk.proofs.function_walk.add_token.Goals as goal

pub returns-in-Callee-clause-requests : goal.returns-in-Callee-clause-requests
returns-in-Callee-clause-requests c =
    let s = c.args.walk.now.requests.items in
    let t = c.ask.new.requests.items in
    let names = token_names c.args.of.now.kinds.items c.args.of.now.named.items (lists c.args.of.now.links.items) in
    ok_then c.ask.result (t ≡ s ++ Call c.in-Callee.function ∷ []) (Adds s (names c.args.token) t) (λ e. subst (λ (k : Token). Adds s (names k) t) (sym c.in-Callee.is) (adds_all s t (Call c.in-Callee.function ∷ []) e)) c.ask.ensures

pub returns-in-Callee-clause-over : goal.returns-in-Callee-clause-over
returns-in-Callee-clause-over c =
    let t = c.ask.new.requests.items in
    ok_then c.ask.result (t ≡ c.args.walk.now.requests.items ++ Call c.in-Callee.function ∷ []) (IsOver c.args.of.now _) (λ e. over_asked c.args.of.now c.args.walk.now _ (Call c.in-Callee.function ∷ []) c.requires.over refl refl e) c.ask.ensures

pub returns-in_default : goal.returns-in_default
returns-in_default c =
    let w = c.args.walk.now in
    let n = names_nothing c.args.of.now.kinds.items c.args.of.now.named.items (lists c.args.of.now.links.items) w.places.items w.emitted.items c.args.token c.in_default.not-Use c.in_default.not-Give c.in_default.not-GiveCall c.in_default.not-Emitted c.in_default.not-Callee in
    record {
      order = sym (ap (added w.places.items) n.listed_none);
      emitted = sym n.noted_none;
      requests = subst (λ (rs : List Request). Adds w.requests.items rs w.requests.items) (sym n.named_none) (Adds-none w.requests.items);
      over = c.requires.over;
    }
