-- A `&mut` that is shared until its end, and the fact that says so. Assumes `Logic`.
use Rattle.std.specs.Prelude.{⊤}
use Prim.Native.Nat.{ℕ}
use base.Fml.{Lft, GName, Share, flft, fres}
use base.Logic.{ent, sep, emp, via}
use borrow.Rule.Reshare.{ref_Share}
use contract.BorrowLft.{◌⊑◌}
use contract.Lifetimes.{Lfts}
use denote.Exit.{Kept, Last, left}
use denote.Follow.{follows_so, follows_by, such_by}
use denote.Memory.{hidden_shr}
use denote.Param.Laws.{Laws}
use denote.Param.Mute.{Mute}
use denote.RattleType.{RattleType}
use denote.Ref.{MutRef, ShrRef}
use denote.Shares.{Shares-less}
use denote.Signature.{Slot}
use denote.Triple.Walked.{Goes, stay_dropped}
use mathlib.Core.List.{List, [], ◌∷◌}
use mathlib.Core.Option.{none}
use mathlib.Core.Path.{refl, subst, sym}
use mir.Syntax.{Lifetime}
use mir.Val.{Val, vptr}
use seplogic.Ra.Ura.{Ura}
use types.Kit.{‵, ◌⊛◌, later, ◌$◌, ◌∵◌, !, qed, done, drop, use2, split, fsplit, fjoin, feq_i, await, updating, now, fpack, join}
use types.Logic.{Logic, sem}

module _ {M : Type 1} {𝓤 : Ura M} (𝓛 : Logic 𝓤) (R : RattleType) where
  open 𝓛 use {H, A}

  -- the last value of the lender is known
  pub ends : (γ : GName) (n : R.Denot) (P : R.Denot → Type 0) → P n → ent 𝓤 (A.res γ (R.coded.code n)) (sem 𝓛 (follows_so R R γ none (λ _ _. ⊤) P))
  unfolding such_by follows_by
  ends γ n P p =
      qed 𝓛 (‵ (fres γ (R.coded.code n)) ∷ []) ∵ fpack ! ((s : (R.Denot → R.Denot) × R.Denot) × ((w : R.Denot) → ⊤) × P s.1) (λ s. fres γ (R.coded.code s.0.1)) ((λ w. w, n), (λ w. tt), p) $ done !

  -- the `&mut` is a `&` for the rest of its lifetime
  pub shared : (L : Laws R) (ℓ : Lifetime) (κ : Lft) (q : Share) (b o : ℕ) (γ : GName) (n : R.Denot) → κ ⊑ R.lives
      → ent 𝓤 (sep 𝓤 (sem 𝓛 ((MutRef ℓ κ R).own_val (record { ref_ptr = (b, o); ghost_name = γ; now = n }) (vptr b o ∷ []))) (A.lft κ q))
      (H.⇛ (sep 𝓤 (sem 𝓛 ((ShrRef ℓ κ R).own_val (record { ref_ptr = (b, o); now = n }) (vptr b o ∷ []))) (sep 𝓤 (A.res γ (R.coded.code n)) (A.lft κ q))))
  shared L ℓ κ q b o γ n within =
      qed 𝓛 (‵ ((MutRef ℓ κ R).own_val (record { ref_ptr = (b, o); ghost_name = γ; now = n }) (vptr b o ∷ [])) ∷ ‵ (flft κ q) ∷ []) ∵ updating ! $ fsplit ! $ drop ! $
      use2 𝓛 (later (‵ (hidden_shr R κ n b o) ⊛ (‵ (fres γ (R.coded.code n)) ⊛ ‵ (flft κ q)))) (ref_Share 𝓛 R b o γ n L.shr_laws κ q (Shares-less 𝓛 R R.lives κ within (L.shares 𝓛))) $ await ! tt $
      split ! $ feq_i ! (List Val) (vptr b o ∷ []) (vptr b o ∷ []) refl $ fjoin ! $ now ! $ join ! $ done !

module _ {M : Type 1} {𝓤 : Ura M} (𝓛 : Logic 𝓤) where
  open 𝓛 use {H}

  -- nothing is said of what was passed on
  pub goes : (n : ℕ) (s : Slot n) (k : Kept) → ((κs : Lfts n) → Mute ((s.row κs).exit k)) → Goes 𝓛 n s k (stay_dropped s k)
  goes n s k m κs x f vs ok =
      subst (λ (w : Last ((s.row κs).exit k) x). ent 𝓤 (emp 𝓤) (H.⇛ (sem 𝓛 (left ((s.row κs).exit k) x w)))) (sym ((m κs).once x f)) (via 𝓤 _ ((m κs).quiet M 𝓤 𝓛 x) (𝓛.laws.⇛_intro _))
