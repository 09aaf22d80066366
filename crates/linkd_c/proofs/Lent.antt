-- What the walks of the exports share: what lies at a pointer is lent to a method for the time of a call, and taken back.
--     all_give, all_go     of every parameter there is at exit what its contract says of it, as where it was passed on, and the law of that
--     lends        what lies at (b, o) is lent: the reference, what the lender keeps, and the token of its lifetime
--     answers      a call has returned: the tokens, the result and the last values, with what the callee's one plain clause says
--     takes_back   the value lies there again, as the method left it
--     packs        what lies there, with what is known of it, as an `ensures*` says both
use Prim.Native.Nat.{ℕ}
use mathlib.Core.List.{List, [], ◌∷◌}
use seplogic.Ra.Ura.{Ura}
use base.Logic.{ent, ex, sep, id⊢}
use base.Fraction.{full_share}
use base.Fml.{Fml, ftrue, fsep, fex, flft, flent, fres, fbor}
use mir.Syntax.{Lifetime}
use mir.Val.{Val, vptr}
use contract.Monad.{fact}
use types.Logic.{Logic, sem}
use types.SemTy.{Body}
use types.Tokens.{lft_new, lft_end}
use types.Kit.{Item, Goal, Soaks, Seq, Step, step, ‵, raw, ◌⊛◌, some, later, ◌$◌, use1, use3, move, await, pick, split, fsplit, drop, fjoin, fpack}
use denote.Steps.{nothing, heard}
use denote.Exit.{Kept, left}
use denote.Lend.{lends_ref, ref_back}
use denote.Memory.{part_at, mem}
use denote.RattleType.{RattleType}
use denote.Ref.{MutRef}
use denote.Signature.{Slot, Signature, type_at}
use denote.Triple.Entry.{Res, alive}
use denote.Triple.Spec.{Spec, triple_of}
use denote.Triple.End.{Kepts}
use denote.Triple.Walked.{Stay, Stays, AllGo}

abbrev pub gives : {n : ℕ} (s : Slot n) (k : Kept) → Stay s k
gives s k = record { fit = λ κs x w. Unit {0}; has = λ κs x w vs. left ((s.row κs).exit k) x w }

abbrev pub all_give : {n : ℕ} (ss : List (Slot n)) (ks : Kepts ss) → Stays ss ks
all_give [] ks = tt
all_give (s ∷ ss) ks = (gives s ks.0, all_give ss ks.1)

module _ {M : Type 1} {𝓤 : Ura M} (𝓛 : Logic 𝓤) where
  pub all_go : {n : ℕ} (ss : List (Slot n)) (ks : Kepts ss) → AllGo 𝓛 n ss ks (all_give ss ks)
  all_go [] ks = tt
  all_go (s ∷ ss) ks = ((λ κs x w vs fits. 𝓛.laws.⇛_intro _), all_go ss ks.1)

module _ {M : Type 1} {𝓤 : Ura M} {𝓛 : Logic 𝓤} {K : Type 0} {Γ : List (Item 𝓤)} {G : Goal 𝓤 𝓛.H} where
  pub lends : K → Soaks G → (R : RattleType) (ℓ : Lifetime) (x : R.Denot) (b o : ℕ)
      → ((α δ : ℕ) → Seq K 𝓛 (‵ ((MutRef ℓ (α ∷ []) R).own_val (record { ref_ptr = (b, o); ghost_name = δ; now = x }) (vptr b o ∷ []))
      ∷ ‵ (flent (α ∷ []) (Body (mem R) b o δ)) ∷ ‵ (flft (α ∷ []) full_share) ∷ Γ) G)
      → Seq K 𝓛 (‵ (part_at R full_share x b o) ∷ Γ) G
  lends t z R ℓ x b o k = lft_new t z (λ α. move t (1 ∷ []) $
      use1 𝓛 (later (some (λ (δ : ℕ). ‵ ((MutRef ℓ (α ∷ []) R).own_val (record { ref_ptr = (b, o); ghost_name = δ; now = x }) (vptr b o ∷ [])) ⊛ ‵
      (flent (α ∷ []) (Body (mem R) b o δ)))))
      (lends_ref 𝓛 R ℓ (α ∷ []) x b o) $ await t z $ pick t (λ δ. split t $ k α δ))

  pub answers : K → Soaks G → (S : Signature) (c : Spec 𝓤 S) (z : (triple_of 𝓛 S c).Ghost) (v : Val) {X : Type 0} (last : X → Fml) (P : Res S z.0.0 → X
      → Type 0)
      → ((u : Res S z.0.0) → ent 𝓤 ((c z.0.0 z.0.3).ensures z.1 u) (ex 𝓤 (λ ws. sep 𝓤 (sem 𝓛 (last ws)) (fact 𝓤 (P u ws)))))
      → ((u : Res S z.0.0) (ws : X) → P u ws → Seq K 𝓛 (raw (alive 𝓛 S z.0.0 z.0.1) ∷ ‵ ((type_at S.result z.0.0).own_val u (v ∷ [])) ∷ ‵ (last ws) ∷ Γ) G)
      → Seq K 𝓛 (raw ((triple_of 𝓛 S c).post z v) ∷ Γ) G
  answers t s S c z v {X} last P says k =
      use1 𝓛 (later (some (λ (u : Res S z.0.0). (raw (alive 𝓛 S z.0.0 z.0.1) ⊛ ‵ ((type_at S.result z.0.0).own_val u (v ∷ []))) ⊛ raw
      ((c z.0.0 z.0.3).ensures z.1 u)))) (id⊢ 𝓤 _) $
      await t s $ pick t (λ u. split t $ move t (1 ∷ []) $ use1 𝓛 (some (λ (ws : X). ‵ (last ws) ⊛ raw (fact 𝓤 (P u ws)))) (says u) $ pick t
      (λ ws. split t $ move t (1 ∷ []) $
      heard t (P u ws) (λ told. move t (1 ∷ []) $ split t $ k u ws told)))

  pub takes_back : K → Soaks G → (R : RattleType) (α δ : ℕ) (w : R.Denot) (b o : ℕ)
      → Step K 𝓛 (‵ (part_at R full_share w b o) ∷ Γ) G
      (‵ (fsep (fres δ (R.coded.code w)) (fbor (α ∷ []) (Body (mem R) b o δ))) ∷ ‵ (flft (α ∷ []) full_share) ∷ ‵ (flent (α ∷ []) (Body (mem R) b o δ)) ∷ Γ) G
  takes_back t z R α δ w b o = step (λ s. fsplit t $ move t (2 ∷ []) $ lft_end t z $ move t (0 ∷ 3 ∷ 1 ∷ []) $
      use3 𝓛 (later (‵ (part_at R full_share w b o))) (ref_back 𝓛 R (α ∷ []) δ w b o) $ await t z $ move t (1 ∷ []) $ drop t $ s)

  -- what lies there is left with what is known of it
  pub packs : K → {X : Type 0} (at : X → Fml) (P : X → Type 0) (w : X) → P w
      → Step K 𝓛 (‵ (fex X (λ s. fsep (at s) (fex (P s) (λ _. ftrue)))) ∷ Γ) G (‵ (at w) ∷ Γ) G
  packs t {X} at P w p = step (λ s. nothing t $ fpack t (P w) (λ _. ftrue) p $ move t (1 ∷ 0 ∷ []) $ fjoin t $ fpack t X
      (λ s. fsep (at s) (fex (P s) (λ _. ftrue))) w $ s)
