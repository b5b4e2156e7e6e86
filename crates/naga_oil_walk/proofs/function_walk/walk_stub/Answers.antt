use Rattle.std.proofs.Common.{◌≡◌, ◌∙◌, ap, sym, ℕ, List, [], None, replicate, length}
use Rattle.naga_oil_form.specs.BodyForm.{kinds, operand_links}
use Rattle.naga_oil_form.specs.Links.{Links, started}
use Rattle.naga_oil_form.specs.WellFormed.{initialisers, initialisers_of}
use Rattle.naga_oil_ir.specs.Body.{Tokens, block_tokens}
use Rattle.naga_oil_ir.specs.declared.types.LocalVariable.{LocalVariable}
use Rattle.naga_oil_ir.specs.declared.span.Span.{Span}
use Rattle.naga_oil_walk.specs.Walk.{notes_after}
use Rattle.naga_oil_walk.proofs.FunctionWalk.{walk_none}
use Rattle.naga_oil_walk.proofs.ReachSteps.{stub_requests}
use Rattle.naga_oil_walk.proofs.function_walk.walk_stub.Goals as goal

pub returns : goal.returns
returns c =
    let f = c.args.function.now in
    let w = c.in_ok-walk.walk in
    let ks : List ℕ = kinds f.expressions in
    let ls : Links = operand_links f.expressions in
    let no_places : initialisers f ≡ [] = ap (λ (vs : List (LocalVariable × Span)). initialisers_of vs) c.requires.0 in
    let long : w.emitted.items ≡ replicate (length f.expressions) None = c.in_ok-walk.ensures.emitted ∙ ap (λ n. replicate n None) c.len.ensures in
    record {
      listed = walk_none ks ls (initialisers f) (block_tokens f.body) no_places c.requires.1 w.places.items w.began (length f.expressions) w.emitted.items c.in_ok-walk.ensures.empty.0 c.in_ok-walk.ensures.began long;
      requests = stub_requests f c.requires.0 c.requires.1 w.requests.items c.request_types.new.requests.items c.in_ok-walk.ensures.empty.1 c.in_ok-request_types.ensures;
      emits = long ∙ sym (ap (λ (ts : Tokens). notes_after ks ls (started ls (initialisers f)) (replicate (length f.expressions) None) ts) c.requires.1);
    }
