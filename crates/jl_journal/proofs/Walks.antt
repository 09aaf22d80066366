-- What the three walks of `Past` cite, and the step that they share. Assumes `Logic`.
use Rattle.std.proofs.Common.{List, [], ◌∷◌, refl}
use seplogic.Ra.Ura.{Ura}
use mir.Syntax.{Args, a_type}
use mir.Val.{Val, vstruct, vcons, vnil}
use types.Logic.{Logic}
use types.Kit.{Goal, Step, step, Item, ‵, ◌$◌, move, fjoin, fpack, feq_i}
use denote.RattleType.{RattleType, Valss}
use denote.Laws.{Is}
use denote.Param.{param, layouts}
use denote.Steps.{nothing, owned}
use denote.Struct.Laws.{makes}
use denote.Struct.Struct.{within}
use Rattle.std.specs.contracts.marker.PhantomData as Mark
use Rattle.jl_journal.specs.contracts.past.Past as Past

-- a type parameter as the functions have it
abbrev pub given : RattleType → Args
given A = layouts (a_type ∷ []) (A, tt)

-- the machine's value of a mark, which has no fields, and of what is past, whose one field is a mark
abbrev pub mark : Val
mark = vstruct vnil

abbrev pub bare : Val
bare = vstruct (vcons mark vnil)

module _ {M : Type 1} {𝓤 : Ura M} {𝓛 : Logic 𝓤} {K : Type 0} {Γ : List (Item 𝓤)} {G : Goal 𝓤 𝓛.H} where
  -- what is past owns nothing, so it is had whatever its items are
  pub past_made : K → (A : RattleType) (items : List A.Denot)
      → Step K 𝓛 (‵ ((Past.the_row (param 0 A)).own_val (record { of = record {}; items = items }) (bare ∷ [])) ∷ Γ) G Γ G
  past_made t A items =
      let Marked : RattleType = Mark.the_row (param 0 A) in
      let inside = within (record { name = []; args = []; types = []; fields = Marked ∷ [] }) (record {}, tt) (bare ∷ []) in
      step (λ s.
      nothing t $ owned t Marked (Is Marked) (makes (Mark.the_type (param 0 A)) tt 𝓛) (record {}) (mark ∷ []) (tt, (refl, tt)) $
      nothing t $ move t (1 ∷ 0 ∷ []) $ fjoin t $ feq_i t (List Val) (bare ∷ []) (bare ∷ []) refl $ fjoin t $
      fpack t (Valss (Marked ∷ [])) inside (mark ∷ [], tt) $ fjoin t $ s)
