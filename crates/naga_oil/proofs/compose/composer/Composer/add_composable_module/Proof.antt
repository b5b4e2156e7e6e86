-- `self` is lent to `add_module`, and then shared until its end. Assumes `Logic`.
use Rattle.std.proofs.Common.{◌≡◌, ◌<◌, ℕ, List, [], ◌∷◌, refl, sym, subst, length, MutBor, Err, OnOk, IsOk, MatchResult, Some, slice_get}
use Rattle.std.proofs.raw_atomic.Walks.{proved_at}
use Rattle.std.proofs.result.Result.TheLaws as outcome
use Rattle.std.specs.Io.BufRead.{Rests}
use Rattle.std.specs.contracts.alloc.Global as heap
use Rattle.std.specs.contracts.impls.GlobalAllocator.TheImpl as heap-impl
use Rattle.std.specs.contracts.option.Option as option
use Rattle.std.specs.contracts.string.String as text
use base.Fml.{Lft, Share, ftrue, flft, fres, fdead}
use base.Logic.{id⊢, emp, ent}
use base.Share
use borrow.Within.Token.{Rest, within_token, within_end}
use contract.BorrowLft.{◌⊑◌, ⊑_trans, meet_⊑_right}
use contract.Monad.{fact, fact_i}
use contract.Running.{tables}
use denote.Builtin.{usize}
use denote.Enum.Declared.{variants}
use denote.Exit.{yes, no, rest}
use denote.Laws.{Is, shows}
use denote.Lend.{lends_again, comes_back, LentAgain}
use denote.Param.{bounded, param}
use denote.Param.Laws.{Laws, of_field, param_laws}
use denote.Param.Mute.{struct-Mute, Mute-still, Mute-variants, Mute-flat}
use denote.Param.Shared.{copy_shared}
use denote.RattleType.{RattleType}
use denote.Ref.{MutRef, ShrRef, mut_Tells}
use denote.Signature.{Slot, plain, mut_ref_to, type_at, named_lft}
use denote.Steps.{nothing, heard, peeks}
use denote.Struct.Field.{usize-field, shr_ref_field}
use denote.Struct.Laws.{usize-laws, usize-copy, shr_ref_laws, shr_ref_copy}
use denote.Struct.Members.{Lone}
use denote.Triple.Call.{calls_at}
use denote.Triple.Clauses.{Clauses, Ended, Lasts, lasts}
use denote.Triple.Entry.{Vals}
use denote.Triple.Spec.{triple_of}
use denote.Triple.Table.{framed}
use denote.Triple.Walked.{Stays, walk_of, stay_dropped, Goes-spent_ref, ends_at}
use mir.MapTy.{inst_fn}
use mir.Syntax.{Fn, a_type, dcons, dnil, named}
use mir.Val.{Val, vptr}
use prog.Wp.{WpFn}
use types.ByLocal.{alloc_all, pass_all, free_all, look_at, get, through, sets, lands_as}
use types.Kit.{‵, raw, ◌⊛◌, some, later, ◌$◌, ◌∵◌, !, qed, done, move, keep, drop, use0, use1, use2, use3, split, join, fsplit, pick, await, suffices}
use types.Run.{enter, of_opd, addr, stop, no_more, and_then, returns}
use types.Tokens.{lft_new}
use Rattle.naga_oil.proofs.AnswerLemmas.{adds-first, adds-answered, adds-reply}
use Rattle.naga_oil.proofs.HandedLemmas.{ends, shared, goes}
use Rattle.naga_oil.proofs.compose.composer.Composer.TheLaws as composer-laws
use Rattle.naga_oil.proofs.compose.composer.Composer.add_composable_module.Code as code
use Rattle.naga_oil.proofs.compose.composer.Composer.add_composable_module.Statement.{statement}
use Rattle.naga_oil.proofs.compose.composer.Composer.add_module.Met as g'
use Rattle.naga_oil.proofs.compose.composer.Composer.newest.Met as h'
use Rattle.naga_oil_registry.proofs.definition.ComposableModuleDefinition.TheLaws as definition-laws
use Rattle.naga_oil_registry.proofs.descriptor.ComposableModuleDescriptor.TheLaws as descriptor-laws
use Rattle.naga_oil.proofs.compose.error.ComposerError.TheLaws as error-laws
use Rattle.naga_oil.specs.Addition.{addition}
use Rattle.naga_oil_registry.specs.Registered.{definition_of}
use Rattle.naga_oil_registry.specs.Descriptor.{module_source}
use Rattle.naga_oil.specs.Refused.{Answers}
use Rattle.naga_oil.specs.State.{Adds}
use Rattle.naga_oil.specs.contracts.compose.composer.Composer as composer
use Rattle.naga_oil.specs.contracts.compose.composer.Composer.add_composable_module as f
use Rattle.naga_oil.specs.contracts.compose.composer.Composer.add_module as g
use Rattle.naga_oil.specs.contracts.compose.composer.Composer.newest as h
use Rattle.naga_oil_registry.specs.contracts.definition.ComposableModuleDefinition as definition
use Rattle.naga_oil_registry.specs.contracts.descriptor.ComposableModuleDescriptor as descriptor
use Rattle.naga_oil.specs.contracts.compose.error.ComposerError as error

-- two values with one machine value are one
alone : (vs : List Val) → Lone vs → (v : Val) × (vs ≡ v ∷ [])
alone [] bad = absurd bad
alone (v ∷ []) one = (v, refl)
alone (v ∷ w ∷ vs) bad = absurd bad

-- `κ` is the lifetime of `self`, `κ₁` that of the texts, `κ₂` that of the front end, and `β` that of the loan.
pub add_composable_module_spec : {M : Type 1} → statement M
add_composable_module_spec 𝓤 𝓛 𝓜 𝓡 wired B LB gs d met =
    let E : Ended = f.ended B gs d in
    let c : Clauses 𝓤 E = f.clauses B gs d 𝓛 𝓜.mem 𝓡.returns in
    let fn : Fn = inst_fn (bounded (a_type ∷ []) (B, tt) (dcons d dnil)) code.function in
    let R : RattleType = composer.the_row (param 0 B) gs in
    let L : Laws R = composer-laws.the_row_laws (param 0 B) gs (param_laws 0 B LB) in
    let of-desc : Slot 3 = plain (λ κs. descriptor.the_row (named_lft 3 1 tt κs)) in
    let hs : Stays E.signature.params E.kept = (stay_dropped (mut_ref_to (0 ∷ []) tt (plain (λ _. R))) no, (stay_dropped of-desc yes, tt)) in
    let 𝓣 = tables 𝓤 𝓛.H 𝓜 𝓡 𝓡.env in let W = walk_of 𝓛 E hs c in
    proved_at 𝓛 E hs c 𝓜 𝓡 (Goes-spent_ref 𝓛 3 (0 ∷ []) tt (plain (λ _. R)), (goes 𝓛 3 of-desc yes (λ κs. struct-Mute (descriptor.the_type (named_lft 3 1 tt κs)) yes (Mute-still, (Mute-still, (Mute-still, (Mute-variants yes (variants (option.the_type (text.the_row heap.the_row heap-impl.ghosts))) (tt, ((Mute-flat (λ x w. refl) (λ x. tt), tt), tt)), (Mute-still, (Mute-flat (λ x w. refl) (λ x. tt), tt))))))), tt))
    (f.Key.name (bounded (a_type ∷ []) (B, tt) (dcons d dnil))) fn (code.unfolded 𝓤 𝓛.H 𝓜 𝓡 wired (B, tt) d) (λ y are.
    let κs = y.0.0 in let qs = y.0.1 in let bounds = y.0.2 in let a = y.0.3 in let vss = y.0.4 in
    let κ : Lft = κs.0 in let κ₁ : Lft = κs.1.0 in let κ₂ : Lft = κs.1.1.0 in
    let q : Share = qs.0 in let q₁ : Share = qs.1.0 in let q₂ : Share = qs.1.1.0 in let s : Share = Share.right q₂ in
    let r = a.0 in let b = r.ref_ptr.0 in let o = r.ref_ptr.1 in let vs = vptr b o ∷ [] in let x = a.1.0 in let m = module_source x in
    let D : RattleType = descriptor.the_row (named_lft 3 1 tt κs) in let DL = descriptor-laws.the_row_laws (named_lft 3 1 tt κs) in
    let one = alone vss.1.0 (DL.single x vss.1.0 are.1.0) in let v₀ : Val = one.0 in
    let is₀ : Is D x (v₀ ∷ []) = subst (Is D x) one.1 are.1.0 in
    let typed₀ = ((DL.lawful 𝓛).typed x (v₀ ∷ []) is₀).0 in
    let same : vss ≡ (vs, (v₀ ∷ [], tt)) = λ i. (mut_Tells (named 0) κ R r vss.0 are.0 i, (one.1 i, tt)) in
    subst (λ (ws : Vals E.signature κs). ent 𝓤 (W.pre ((κs, qs, bounds, a, ws), tt)) (WpFn 𝓤 𝓛.H 𝓣.C 𝓣.Λ fn (W.args ((κs, qs, bounds, a, ws), tt)) (W.post ((κs, qs, bounds, a, ws), tt)))) (sym same) (
    let Ref = λ (κ' : Lft) (r' : MutBor R.Denot). (MutRef (named 0) κ' R).own_val r' vs in
    let Gv = type_at (g.signature B gs d).result κs in let Tr = type_at E.signature.result κs in
    let Gv-laws = outcome.the_row_laws usize error.the_row (of_field usize-field usize-laws refl (copy_shared usize-field usize-copy)) error-laws.the_row_laws in
    let Tr-laws = outcome.the_row_laws _ error.the_row (of_field (shr_ref_field (record { mir = named 0; lft = κ }) definition.the_row tt) (shr_ref_laws (record { mir = named 0; lft = κ }) definition.the_row tt) refl (copy_shared (shr_ref_field (record { mir = named 0; lft = κ }) definition.the_row tt) (shr_ref_copy (record { mir = named 0; lft = κ }) definition.the_row tt definition-laws.the_row_laws.shr_laws))) error-laws.the_row_laws in
    let X = D.own_val x (v₀ ∷ []) in
    qed 𝓛 (((‵ (flft κ q) ⊛ ‵ (flft κ₁ q₁) ⊛ ‵ (flft κ₂ q₂) ⊛ ‵ ftrue) ⊛ ‵ (Ref κ r) ⊛ ‵ X ⊛ ‵ ftrue) ∷ (raw (fact 𝓤 (κ₂ ⊑ B.lives)) ⊛ ‵ ftrue) ∷ []) ∵
    split ! $ move ! (2 ∷ []) $ split ! $ heard ! _ (λ lives. move ! (1 ∷ []) $ split ! $ move ! (1 ∷ []) $ split ! $ move ! (1 ∷ []) $ split ! $
    move ! (5 ∷ []) $ split ! $ move ! (1 ∷ []) $ split ! $ keep ! (2 ∷ 0 ∷ 6 ∷ 5 ∷ 3 ∷ []) $
    -- [self; the descriptor; the tokens of κ, κ₁ and κ₂]
    enter ! _ _ _ _ _ $ alloc_all ! (λ l. pass_all ! refl ((tt, tt), (typed₀, tt)) $
    sets ! (addr ! (through ! refl (stop !))) refl (tt, tt) $
    sets ! (of_opd ! (get ! refl)) refl typed₀ $
    lft_new ! tt (λ α. let β : Lft = α ∷ κ₂ in move ! (5 ∷ []) $
    use1 𝓛 (‵ (flft κ₂ (Share.left q₂)) ⊛ ‵ (flft κ₂ s)) (𝓛.lfts.lft_split κ₂ q₂) $ split ! $ move ! (2 ∷ 1 ∷ []) $
    use2 𝓛 (‵ (flft β s) ⊛ raw (Rest 𝓛 α s)) (within_token 𝓛 α κ₂ s) $ split ! $ move ! (3 ∷ 5 ∷ []) $
    use2 𝓛 (later (some (λ (δ : ℕ). ‵ (Ref β (record r { ghost_name = δ })) ⊛ ‵ (LentAgain R κ β q r.ghost_name b o δ r.now))))
    (lends_again 𝓛 R (named 0) κ β q r.ghost_name b o (named 0) r.now) $ await ! tt $ pick ! (λ δ. split ! $
    -- [the loan; what the lender keeps; the token of β; what is left of α's; half of κ₂'s; the descriptor; the token of κ₁]
    let G = triple_of 𝓛 (g.signature B gs d) (g.spec B gs d 𝓛 𝓜.mem 𝓡.returns) in
    let z : G.Ghost = (((β, (κ₁, (κ₂, tt))), (s, (q₁, (Share.left q₂, tt))), (meet_⊑_right (α ∷ []) κ₂, tt), (record r { ghost_name = δ }, (x, tt)), (vs, (v₀ ∷ [], tt))), tt) in
    nothing ! $ move ! (6 ∷ 0 ∷ []) $ join ! $ move ! (1 ∷ 0 ∷ []) $ join ! $
    nothing ! $ move ! (5 ∷ 0 ∷ []) $ join ! $ move ! (5 ∷ 0 ∷ []) $ join ! $ move ! (3 ∷ 0 ∷ []) $ join ! $ join ! $
    nothing ! $ use0 𝓛 (raw (fact 𝓤 (κ₂ ⊑ B.lives))) (fact_i 𝓤 _ (emp 𝓤) lives) $ join ! $ move ! (1 ∷ 0 ∷ []) $ use2 𝓛 (raw (G.pre z)) (id⊢ 𝓤 _) $
    calls_at ! (framed 𝓤 𝓛.H 𝓜 𝓣) G (g'.met 𝓤 𝓛 𝓜 𝓡 (code.calls-naga_oil::compose::composer::Composer::add_module 𝓡.env wired) B LB gs d met) z
    (and_then ! (get ! refl) (and_then ! (get ! refl) (no_more !))) (λ v.
    use1 𝓛 (later (some (λ (u : Gv.Denot). ((‵ (flft β s) ⊛ ‵ (flft κ₁ q₁) ⊛ ‵ (flft κ₂ (Share.left q₂)) ⊛ ‵ ftrue) ⊛ ‵ (Gv.own_val u (v ∷ []))) ⊛
    some (λ (ws : Lasts (g.ended B gs d) z.0.0 z.0.3). ‵ (lasts (g.ended B gs d) z.0.0 z.0.3 ws) ⊛ raw (fact 𝓤 (Adds (λ i. i) (λ d. d.index) r.now m u ws.0)))))) (id⊢ 𝓤 _) $
    await ! tt $ pick ! (λ u. split ! $ split ! $ split ! $ move ! (1 ∷ []) $ split ! $ move ! (1 ∷ []) $ split ! $
    -- [half of κ₂'s token; nothing; the token of κ₁; the token of β; the result; the last value; what the lender keeps; what is left of α's]
    move ! (3 ∷ 7 ∷ []) $ use2 𝓛 (later (‵ (fdead β) ⊛ ‵ (flft κ₂ s))) (within_end 𝓛 α κ₂ s) $ await ! tt $ split ! $
    move ! (2 ∷ 1 ∷ []) $ use2 𝓛 (‵ (flft κ₂ q₂)) (𝓛.lfts.lft_join κ₂ q₂) $ move ! (4 ∷ []) $
    peeks ! Gv (Is Gv) (shows 𝓛 Gv) u (v ∷ []) (λ is. let typed = ((Gv-laws.lawful 𝓛).typed u (v ∷ []) is).0 in lands_as ! refl refl typed $
    move ! (5 ∷ []) $ pick ! (λ ws. let n = ws.0 in split ! $ move ! (1 ∷ []) $ heard ! _ (λ adds. fsplit ! $ fsplit ! $
    -- [the loan's last value; its borrow; nothing; the result; the token of κ₂; β is over; nothing; the token of κ₁; what the lender keeps]
    move ! (5 ∷ 8 ∷ 0 ∷ []) $ use3 𝓛 (later (‵ (Ref κ (record r { now = n })) ⊛ ‵ (flft κ q)))
    (comes_back 𝓛 R (named 0) κ β q r.ghost_name b o δ r.now n) $ await ! tt $ split ! $
    use2 𝓛 (later (‵ ((ShrRef (named 0) κ R).own_val (record { ref_ptr = (b, o); now = n }) vs) ⊛ ‵ (fres r.ghost_name (R.coded.code n)) ⊛ ‵ (flft κ q)))
    (shared 𝓛 R L (named 0) κ q b o r.ghost_name n (composer-laws.the_within (param 0 B) gs κ (⊑_trans κ κ₂ B.lives bounds.0 lives))) $ await ! tt $ split ! $ move ! (1 ∷ []) $ split ! $
    -- [the last value of self; the token of κ; self, shared; its borrow; nothing; the result; the token of κ₂; nothing; the token of κ₁]
    sets ! (addr ! (through ! refl (stop !))) refl (tt, tt) $
    sets ! (of_opd ! (get ! refl)) refl typed $
    let K = triple_of 𝓛 (h.signature B gs d) (h.spec B gs d 𝓛 𝓜.mem 𝓡.returns) in
    let z' : K.Ghost = (((κ, (κ₂, tt)), (q, (q₂, tt)), (bounds.0, tt), (record { ref_ptr = (b, o); now = n }, (u, tt)), (vs, (v ∷ [], tt))), tt) in
    nothing ! $ move ! (6 ∷ 0 ∷ []) $ join ! $ move ! (3 ∷ 0 ∷ []) $ join ! $
    nothing ! $ move ! (6 ∷ 0 ∷ []) $ join ! $ move ! (3 ∷ 0 ∷ []) $ join ! $ join ! $
    use0 𝓛 (raw (fact 𝓤 (OnOk u (0 < length n.registry)))) (fact_i 𝓤 _ (emp 𝓤) (adds-first r.now m u n adds)) $
    use0 𝓛 (raw (fact 𝓤 (κ₂ ⊑ B.lives))) (fact_i 𝓤 _ (emp 𝓤) lives) $ join ! $ move ! (1 ∷ 0 ∷ []) $ use2 𝓛 (raw (K.pre z')) (id⊢ 𝓤 _) $
    calls_at ! (framed 𝓤 𝓛.H 𝓜 𝓣) K (h'.met 𝓤 𝓛 𝓜 𝓡 (code.calls-naga_oil::compose::composer::Composer::newest 𝓡.env wired) B LB gs d met) z'
    (and_then ! (get ! refl) (and_then ! (get ! refl) (no_more !))) (λ w.
    use1 𝓛 (later (some (λ (t : Tr.Denot). ((‵ (flft κ q) ⊛ ‵ (flft κ₂ q₂) ⊛ ‵ ftrue) ⊛ ‵ (Tr.own_val t (w ∷ []))) ⊛
    some (λ (us : Lasts (h.ended B gs d) z'.0.0 z'.0.3). ‵ (lasts (h.ended B gs d) z'.0.0 z'.0.3 us) ⊛ raw (fact 𝓤 (MatchResult t (λ d. IsOk u × (slice_get n.registry 0 ≡ Some (definition_of d.now))) (λ e. u ≡ Err e))))))) (id⊢ 𝓤 _) $
    await ! tt $ pick ! (λ t. split ! $ split ! $ split ! $ move ! (2 ∷ []) $
    peeks ! Tr (Is Tr) (shows 𝓛 Tr) t (w ∷ []) (λ is'. lands_as ! refl refl ((Tr-laws.lawful 𝓛).typed t (w ∷ []) is').0 $
    move ! (3 ∷ []) $ pick ! (λ us. split ! $ drop ! $ heard ! _ (λ first. let stands = adds-answered r.now m u t n first adds in
    returns ! (look_at ! 0 refl) $ free_all ! refl $ keep ! (3 ∷ 1 ∷ 7 ∷ 2 ∷ 0 ∷ []) $
    use1 𝓛 (‵ (Rests R r (Adds (λ d. definition_of d.now) (λ d. d) r.now m t))) (ends 𝓛 R r.ghost_name n (Adds (λ d. definition_of d.now) (λ d. d) r.now m t) stands) $
    suffices ! _ (ends_at 𝓛 E hs c ((κs, qs, bounds, a, (vs, (v₀ ∷ [], tt))), tt) w t (tt, (rest (D.exit yes) x, tt)) (tt, (tt, tt))) $
    move ! (2 ∷ 3 ∷ []) $ join ! $ move ! (2 ∷ 0 ∷ []) $ join ! $ move ! (2 ∷ []) $ nothing ! $ nothing ! $ join ! $ nothing ! $ join ! $ join ! $ move ! (1 ∷ 0 ∷ []) $ join ! $
    use0 𝓛 (raw (fact 𝓤 (Answers (λ d. definition_of d.now) t (addition r.now.registry r.now.counter m)))) (fact_i 𝓤 _ (emp 𝓤) (adds-reply r.now m t n stands)) $ move ! (2 ∷ 0 ∷ []) $ join ! $ move ! (1 ∷ 0 ∷ []) $ join ! $ done !))))))))))))))))
