-- What a walk over a function lists.
use Rattle.std.proofs.Common.{◌≡◌, Bool, ℕ, zero, suc, ◌+◌, ◌<◌, true, List, [], ◌∷◌, ◌++◌, length, take, get_or, slice_get, option_to_list, option_map, unwrap_or, Option, Some, None, nat_lt, replicate, All, refl, ap, sym, ◌∙◌, subst, arith}
use Rattle.std.specs.List.{flat_map}
use Rattle.std.proofs.lemmas.Bool.{false≢true, and_parts, or_left, or_right}
use Rattle.std.proofs.lemmas.Option.{slice_get-map}
use Rattle.std.proofs.lemmas.List.{take_more, append-nil, length-replicate, length-map}
use Rattle.std.proofs.lemmas.List.Concat.{flat_map-append}
use Rattle.std.proofs.lemmas.List.Elements.{All-nil, All-cons}
use Rattle.naga_oil_ir.specs.Parts.{parts}
use Rattle.naga_oil_ir.specs.Body.{Tokens}
use Rattle.naga_oil_form.specs.BodyForm.{callees, IsReading, made, kinds, operand_links, external_kind, result_kind, IsFine, AreFine, MayStand}
use Rattle.naga_oil_form.specs.Links.{lists, Links, started, has, added, AreMarks}
use Rattle.naga_oil_form.specs.WellFormed.{initialisers_of, init_of}
use Rattle.naga_oil_ir.specs.declared.expression.Expression.{Expression}
use Rattle.naga_oil_ir.specs.declared.expression.Expression.TheVariants.{Literal, ZeroValue, Constant, Override, GlobalVariable, LocalVariable, FunctionArgument, CallResult, AtomicResult, WorkGroupUniformLoadResult, RayQueryProceedResult, SubgroupBallotResult, SubgroupOperationResult}
use Rattle.naga_oil_form.specs.declared.form.ExpressionParts.{ExpressionParts}
use Rattle.naga_oil_ir.specs.declared.types.LocalVariable.{LocalVariable as Local}
use Rattle.naga_oil_ir.specs.declared.span.Span.{Span}
use Rattle.naga_oil_ir.specs.declared.tokens.Token.{Token}
use Rattle.naga_oil_ir.specs.declared.tokens.Token.TheVariants.{Use, Give, GiveCall, Emitted}
use Rattle.naga_oil_form.proofs.LinkLemmas.{All-from_has, All-has, has-append, marked_within}
use Rattle.naga_oil_walk.specs.Walk.{IsReachOrder, IsWithin, brief, Notes, notes_after, AreWithin, AreNoted}
use Rattle.naga_oil_walk.specs.Walks.{IsWalkOf}
use Rattle.naga_oil_walk.proofs.WalkLemmas.{added-append, IsReachOrder-nil}
use Rattle.naga_oil_walk.proofs.WalkForm.{IsPlain, IsUnder, Follows, follows, under_start}
use Rattle.naga_oil_walk.proofs.WalkNotes.{BodyAt, body_at, no_notes}

-- ---- external expressions and results have no operands

ext_plain : (e : Expression) → nat_lt (parts e).kind 7 ≡ true → flat_map option_to_list (parts e).operands ≡ []
ext_plain (Literal k b) h = refl
ext_plain (ZeroValue t) h = refl
ext_plain (Constant c) h = refl
ext_plain (Override c) h = refl
ext_plain (GlobalVariable g) h = refl
ext_plain (LocalVariable l) h = refl
ext_plain (FunctionArgument n) h = refl
ext_plain _ h = absurd (false≢true h)

pub res_plain : (e : Expression) → nat_lt (parts e).kind 13 ≡ true → flat_map option_to_list (parts e).operands ≡ []
res_plain (Literal k b) h = refl
res_plain (ZeroValue t) h = refl
res_plain (Constant c) h = refl
res_plain (Override c) h = refl
res_plain (GlobalVariable g) h = refl
res_plain (LocalVariable l) h = refl
res_plain (FunctionArgument n) h = refl
res_plain (CallResult f) h = refl
res_plain (AtomicResult t c) h = refl
res_plain (WorkGroupUniformLoadResult t) h = refl
res_plain RayQueryProceedResult h = refl
res_plain SubgroupBallotResult h = refl
res_plain (SubgroupOperationResult t) h = refl
res_plain _ h = absurd (false≢true h)

abbrev pub links_at : Option (Expression × Span) → List ℕ
links_at o = unwrap_or (option_map (λ e. flat_map option_to_list (parts e.0).operands) o) []

ext_at : (o : Option (Expression × Span)) → external_kind (option_map (λ e. (parts e.0).kind) o) ≡ true → links_at o ≡ []
ext_at None h = refl
ext_at (Some e) h = ext_plain e.0 h

res_at : (o : Option (Expression × Span)) → result_kind (option_map (λ e. (parts e.0).kind) o) ≡ true → links_at o ≡ []
res_at None h = refl
res_at (Some e) h = res_plain e.0 (and_parts (nat_lt 6 (parts e.0).kind) (nat_lt (parts e.0).kind 13) h).1

pub plain : (es : List (Expression × Span)) → IsPlain (kinds es) (operand_links es)
plain es = record {
  externals_name = λ k h. ap (λ o. unwrap_or o []) (slice_get-map (λ (e : Expression × Span). flat_map option_to_list (parts e.0).operands) es k) ∙ ext_at (slice_get es k) (ap external_kind (sym (slice_get-map (λ (e : Expression × Span). (parts e.0).kind) es k)) ∙ h);
  results_name = λ k h. ap (λ o. unwrap_or o []) (slice_get-map (λ (e : Expression × Span). flat_map option_to_list (parts e.0).operands) es k) ∙ res_at (slice_get es k) (ap result_kind (sym (slice_get-map (λ (e : Expression × Span). (parts e.0).kind) es k)) ∙ h);
}

-- ---- a body that may stand names existing places

token_within : (n : ℕ) (ks : List ℕ) (fs : List (Option ℕ)) (ls : Links) (s d : List ℕ) (t : Token) → IsFine n ks fs ls s d t → IsWithin n t
token_within n ks fs ls s d (Use h) f = f.0
token_within n ks fs ls s d (Give h) f = f.0
token_within n ks fs ls s d (GiveCall g h) f = f.0
token_within n ks fs ls s d (Emitted r) f = (f.0, f.1)
token_within n ks fs ls s d _ f = tt

pub tokens_within : (n : ℕ) (ks : List ℕ) (fs : List (Option ℕ)) (ls : Links) (s : List ℕ) (ts : Tokens) (d : List ℕ) → AreFine n ks fs ls s d ts → All (IsWithin n) ts
tokens_within n ks fs ls s [] d f = All-nil (IsWithin n)
tokens_within n ks fs ls s (t ∷ ts) d f = All-cons (IsWithin n) t ts (token_within n ks fs ls s d t f.0) (tokens_within n ks fs ls s ts (d ++ made t) f.1)

-- ---- the initialisers of local variables

pub inits-more : (f : ℕ → List ℕ) (o : List ℕ) (ls : List (Local × Span)) (i : ℕ) (l : Local × Span) → i < length ls → l ≡ get_or ls i l → added (added o (flat_map f (initialisers_of (take i ls)))) (flat_map f (option_to_list l.0.init)) ≡ added o (flat_map f (initialisers_of (take (i + 1) ls)))
inits-more f o ls i l h is =
    let more : initialisers_of (take (i + 1) ls) ≡ initialisers_of (take i ls) ++ option_to_list l.0.init = ap initialisers_of (take_more ls i l h ∙ ap (λ y. take i ls ++ y ∷ []) (sym is)) ∙ flat_map-append init_of (take i ls) (l ∷ []) ∙ ap (λ t. initialisers_of (take i ls) ++ t) (append-nil (option_to_list l.0.init)) in
    sym (added-append o (flat_map f (initialisers_of (take i ls))) (flat_map f (option_to_list l.0.init))) ∙ ap (added o) (sym (ap (flat_map f) more ∙ flat_map-append f (initialisers_of (take i ls)) (option_to_list l.0.init)))

has_local : (ls : List (Local × Span)) (i : ℕ) (l : Local × Span) (k : ℕ) → i < length ls → l ≡ get_or ls i l → has (option_to_list l.0.init) k ≡ true → has (initialisers_of ls) k ≡ true
has_local [] i l k h is e = absurd (omega arith)
has_local (m ∷ ls) zero l k h is e = has-append (init_of m) (initialisers_of ls) k ∙ or_left (has (init_of m) k) (has (initialisers_of ls) k) (subst (λ (v : Local × Span). has (option_to_list v.0.init) k ≡ true) is e)
has_local (m ∷ ls) (suc i) l k h is e = has-append (init_of m) (initialisers_of ls) k ∙ or_right (has (init_of m) k) (has (initialisers_of ls) k) (has_local ls i l k (omega arith) is e)

-- what holds of all initialisers holds of one
pub init_at : (P : ℕ → Type 0) (ls : List (Local × Span)) (i : ℕ) (l : Local × Span) → i < length ls → l ≡ get_or ls i l → All P (initialisers_of ls) → All P (option_to_list l.0.init)
init_at P ls i l h is a = All-from_has P (option_to_list l.0.init) (λ k e. All-has P (initialisers_of ls) k a (has_local ls i l k h is e))

-- ---- the whole

pub walk_of : (ks : List ℕ) (fs : List (Option ℕ)) (ls : Links) (is : List ℕ) (ts : Tokens) → IsPlain ks ls → MayStand ks fs ls is ts → (began o : List ℕ) (n m : ℕ) (none es : Notes) (marks : List Bool) → began ≡ started ls is → IsReachOrder ls began → n ≡ length began → m ≡ length ls → none ≡ replicate m None → o ≡ added began (flat_map (brief ks ls) ts) → es ≡ notes_after ks ls began none ts → AreMarks marks o → length marks ≡ length ls → IsWalkOf ks ls is ts o n es
walk_of ks fs ls is ts p f began o n m none es marks start ready count long empty order emitted marked room =
    let s = started ls is in
    let r : IsReachOrder ls s = subst (IsReachOrder ls) start ready in
    let u : IsUnder ks ls s [] s = under_start ks ls s r in
    let h : Follows ks ls s [] s ts = follows ks ls p f.earlier (length ls) fs s ts [] s u f.body in
    let le : length none ≡ length ls = ap length empty ∙ length-replicate m None ∙ long in
    let b : BodyAt ks ls s [] s none ts = body_at ks ls p f.earlier (length ls) fs s ts [] s none (omega arith) u (no_notes m (length s) s none empty) le f.body in
    let eo : added s (flat_map (brief ks ls) ts) ≡ o = sym (order ∙ ap (λ q. added q (flat_map (brief ks ls) ts)) start) in
    let ee : notes_after ks ls s none ts ≡ es = sym (emitted ∙ ap (λ q. notes_after ks ls q none ts) start) in
    record {
      order = sym eo ∙ h.same;
      began = count ∙ ap length start;
      within = All-from_has (λ k. k < length ls) o (λ k i. let q : k < length marks = marked_within marks k (marked k ∙ i) in omega arith);
      ready = subst (IsReachOrder ls) eo h.under.ready;
      noted = subst (λ q. AreNoted s q es ts) eo (subst (λ (q : Notes). AreNoted s (added s (flat_map (brief ks ls) ts)) q ts) ee b.stand);
      notes = subst (λ q. AreWithin (length s) q es) eo (subst (λ (q : Notes). AreWithin (length s) (added s (flat_map (brief ks ls) ts)) q) ee b.at.within);
    }

-- where no place is an initialiser and there is no body, nothing is listed
pub walk_none : (ks : List ℕ) (ls : Links) (is : List ℕ) (ts : Tokens) → is ≡ [] → ts ≡ [] → (o : List ℕ) (n m : ℕ) (es : Notes) → o ≡ [] → n ≡ 0 → es ≡ replicate m None → IsWalkOf ks ls is ts o n es
walk_none ks ls is ts no_places no_tokens o n m es none count empty =
    let bare : IsWalkOf ks ls [] [] [] 0 es = record {
      order = refl;
      began = refl;
      within = All-nil (λ k. k < length ls);
      ready = IsReachOrder-nil ls;
      noted = tt;
      notes = no_notes m 0 [] es empty;
    } in
    let listed : IsWalkOf ks ls [] [] o n es = subst (λ (q : List ℕ). IsWalkOf ks ls [] [] q n es) (sym none) (subst (λ q. IsWalkOf ks ls [] [] [] q es) (sym count) bare) in
    subst (λ (q : List ℕ). IsWalkOf ks ls q ts o n es) (sym no_places) (subst (λ (q : Tokens). IsWalkOf ks ls [] q o n es) (sym no_tokens) listed)

-- ---- what was read of expressions

-- the facts of expressions are those of what was read of them
pub record ReadOf (es : List (Expression × Span)) (r : ExpressionParts) : Type 0 where
  pub same_kinds : r.kinds.items ≡ kinds es
  pub same_links : lists r.links.items ≡ operand_links es
  pub long : length r.links.items ≡ length es

pub read_of : (es xs : List (Expression × Span)) (r : ExpressionParts) → xs ≡ es → IsReading xs r → ReadOf es r
read_of es xs r e i = record {
  same_kinds = i.kinds ∙ ap kinds e;
  same_links = i.links ∙ ap operand_links e;
  long = sym (length-map r.links.items (λ v. v.items)) ∙ ap length i.links ∙ length-map xs (λ (x : Expression × Span). flat_map option_to_list (parts x.0).operands) ∙ ap length e;
}

pub may_read : (es : List (Expression × Span)) (r : ExpressionParts) (is : List ℕ) (ts : Tokens) → ReadOf es r → MayStand (kinds es) (callees es) (operand_links es) is ts → MayStand r.kinds.items (callees es) (lists r.links.items) is ts
may_read es r is ts f m =
    subst (λ ls. MayStand r.kinds.items (callees es) ls is ts) (sym f.same_links) (subst (λ ks. MayStand ks (callees es) (operand_links es) is ts) (sym f.same_kinds) m)

pub plain_read : (es : List (Expression × Span)) (r : ExpressionParts) → ReadOf es r → IsPlain r.kinds.items (lists r.links.items)
plain_read es r f =
    subst (λ ls. IsPlain r.kinds.items ls) (sym f.same_links) (subst (λ ks. IsPlain ks (operand_links es)) (sym f.same_kinds) (plain es))

pub walk_read : (es : List (Expression × Span)) (r : ExpressionParts) (is : List ℕ) (ts : Tokens) (o : List ℕ) (n : ℕ) (ns : Notes) → ReadOf es r → IsWalkOf r.kinds.items (lists r.links.items) is ts o n ns → IsWalkOf (kinds es) (operand_links es) is ts o n ns
walk_read es r is ts o n ns f m =
    subst (λ ls. IsWalkOf (kinds es) ls is ts o n ns) f.same_links (subst (λ ks. IsWalkOf ks (lists r.links.items) is ts o n ns) f.same_kinds m)
