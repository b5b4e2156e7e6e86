use Rattle.std.proofs.Common.{◌≡◌, ◌∙◌, ap, sym, subst, length, All, List, [], ◌++◌, ℕ, Vec, Global, Option, None, replicate}
use Rattle.std.specs.List.{flat_map}
use Rattle.std.proofs.lemmas.List.{length-map}
use Rattle.naga_oil_form.specs.Links.{lists, trail, added, started}
use Rattle.naga_oil_ir.specs.Body.{Tokens, block_tokens}
use Rattle.naga_oil_form.specs.BodyForm.{callees, operand_links}
use Rattle.naga_oil_form.specs.WellFormed.{initialisers, initialisers_of}
use Rattle.naga_oil_ir.specs.declared.types.LocalVariable.{LocalVariable}
use Rattle.naga_oil_ir.specs.declared.span.Span.{Span}
use Rattle.naga_oil_walk.specs.Walk.{IsWithin, brief, notes_after}
use Rattle.naga_oil_walk.proofs.FunctionWalk.{ReadOf, read_of, may_read, plain_read, walk_read, tokens_within, walk_of}
use Rattle.naga_oil_walk.proofs.ReachSteps.{walk_requests}
use Rattle.naga_oil_walk.proofs.function_walk.walk_function.Goals as goal

pub add_tokens-requires-clause-within : goal.add_tokens-requires-clause-within
add_tokens-requires-clause-within c =
    let f = c.args.function.now in
    let rd = c.in_ok-read.read in
    let r : ReadOf f.expressions rd = read_of f.expressions c.as_slice.result.now rd c.as_slice.ensures c.in_ok-read.ensures in
    let m = may_read f.expressions rd (initialisers f) (block_tokens f.body) r c.requires in
    let e : c.deref.result.now ≡ block_tokens f.body = c.deref.ensures.value ∙ c.in_ok-push_block.ensures ∙ ap (λ (ts : Tokens). ts ++ block_tokens f.body) c.new-tokens.ensures.items in
    let n : length (lists rd.links.items) ≡ length rd.links.items = length-map rd.links.items (λ v. v.items) in
    subst (λ k. All (IsWithin k) c.deref.result.now) n (subst (λ (ts : Tokens). All (IsWithin (length (lists rd.links.items))) ts) (sym e) (tokens_within (length (lists rd.links.items)) rd.kinds.items (callees f.expressions) (lists rd.links.items) (started (lists rd.links.items) (initialisers f)) (block_tokens f.body) [] m.body))

pub returns : goal.returns
returns c =
    let f = c.args.function.now in
    let rd = c.in_ok-read.read in
    let ls = lists rd.links.items in
    let ks = rd.kinds.items in
    let ts = block_tokens f.body in
    let w = c.add_tokens.new.walk in
    let r : ReadOf f.expressions rd = read_of f.expressions c.as_slice.result.now rd c.as_slice.ensures c.in_ok-read.ensures in
    let m = may_read f.expressions rd (initialisers f) ts r c.requires in
    let e : c.deref.result.now ≡ ts = c.deref.ensures.value ∙ c.in_ok-push_block.ensures ∙ ap (λ (us : Tokens). us ++ ts) c.new-tokens.ensures.items in
    let began = c.reach_locals.new.walk.places.items in
    let none = c.reach_locals.new.walk.emitted.items in
    let n : length ls ≡ length rd.links.items = length-map rd.links.items (λ v. v.items) in
    let start : began ≡ started ls (initialisers f) = c.in_ok-reach_locals.ensures.order ∙ ap (λ o. added o (flat_map (trail ls) (initialisers_of c.as_slice-2.result.now))) c.in_ok-walk.ensures.empty.0 ∙ ap (λ (vs : List (LocalVariable × Span)). added [] (flat_map (trail ls) (initialisers_of vs))) c.as_slice-2.ensures in
    let count : c.len-began.result ≡ length began = c.len-began.ensures ∙ c.reach_locals.new.walk.places.ok.0 in
    let long : c.len.result ≡ length ls = c.len.ensures ∙ sym (n ∙ r.long) in
    let empty : none ≡ replicate c.len.result None = ap (λ (v : Vec (Option (ℕ × ℕ)) Global). v.items) c.reach_locals.ensures.emitted ∙ c.in_ok-walk.ensures.emitted in
    let order : w.places.items ≡ added began (flat_map (brief ks ls) ts) = c.in_ok-add_tokens.ensures.order ∙ ap (λ (us : Tokens). added began (flat_map (brief ks ls) us)) e in
    let emitted : w.emitted.items ≡ notes_after ks ls began none ts = c.in_ok-add_tokens.ensures.emitted ∙ ap (λ (us : Tokens). notes_after ks ls began none us) e in
    record {
      listed = walk_read f.expressions rd (initialisers f) ts w.places.items c.len-began.result w.emitted.items r (walk_of ks (callees f.expressions) ls (initialisers f) ts (plain_read f.expressions rd r) m began w.places.items c.len-began.result c.len.result none w.emitted.items w.marks.items start c.in_ok-reach_locals.ensures.ready count long empty order emitted w.marked (c.in_ok-add_tokens.ensures.over.marks ∙ sym n));
      emits = emitted ∙ ap (λ b. notes_after ks ls b none ts) start ∙ ap (λ e. notes_after ks ls (started ls (initialisers f)) e ts) (empty ∙ ap (λ m. replicate m None) (long ∙ n ∙ r.long)) ∙ ap (λ l. notes_after ks l (started l (initialisers f)) (replicate (length f.expressions) None) ts) r.same_links ∙ ap (λ k. notes_after k (operand_links f.expressions) (started (operand_links f.expressions) (initialisers f)) (replicate (length f.expressions) None) ts) r.same_kinds;
      requests = walk_requests f rd c.as_slice.result.now c.as_slice-2.result.now c.deref.result.now c.as_slice.ensures c.in_ok-read.ensures c.as_slice-2.ensures e c.in_ok-walk.walk.requests.items c.request_types.new.requests.items c.reach_locals.new.walk.requests.items w.requests.items c.in_ok-walk.ensures.empty.1 c.in_ok-request_types.ensures c.in_ok-reach_locals.ensures.requests c.in_ok-add_tokens.ensures.requests;
    }
