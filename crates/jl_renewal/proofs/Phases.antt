-- Events that are accepted one after another, part by part.
use Rattle.std.specs.Prelude.{◌≡◌, ◌<◌, ◌+◌, ℕ, zero, suc, List, [], ◌∷◌, ◌++◌, fold, filter_map, Option, Some, None, IsOk}
use Rattle.std.specs.List.{cons_option, range_with_len}
use Rattle.std.proofs.Common.{refl, sym, ap, subst, ◌∙◌, arith, append_assoc, append-nil}
use Rattle.std.proofs.lemmas.List.Sums.{fold-append}
use Rattle.jl_types.specs.declared.limits.Limits.{Limits}
use Rattle.jl_types.specs.Values.World.{World}
use Rattle.jl_types.specs.Events.Event.{Event}
use Rattle.jl_types.specs.Events.Verdict.{verdict, step}
use Rattle.jl_renewal.specs.Adds.{Follow}

-- each of the events is accepted from w on, and they lead to v
pub record Leads (limits : Limits) (w : World) (es : List Event) (v : World) : Type 0 where
  pub follow : Follow limits w es
  pub after : fold step w es ≡ v

-- no event leaves the world, and one is accepted and leads to v
abbrev pub OneStep : Limits → World → Option Event → World → Type 0
OneStep limits w None v = v ≡ w
OneStep limits w (Some e) v = IsOk (verdict limits w e) × (step w e ≡ v)

module _ (limits : Limits) where
  -- events that are accepted after others that are
  pub follow_both : (w : World) (a b : List Event) → Follow limits w a → Follow limits (fold step w a) b → Follow limits w (a ++ b)
  follow_both w [] b h k = k
  follow_both w (e ∷ a) b h k = (h.0, follow_both (step w e) a b h.1 k)

  -- no events lead nowhere else
  pub leads_nowhere : (w : World) → Leads limits w [] w
  leads_nowhere w = record { follow = tt; after = refl }

  -- what leads from w to u and from there to v leads from w to v
  pub leads_on : (w u v : World) (a b : List Event) → Leads limits w a u → Leads limits u b v → Leads limits w (a ++ b) v
  leads_on w u v a b h k = record {
    follow = follow_both w a b h.follow (subst (λ (x : World). Follow limits x b) (sym h.after) k.follow);
    after = fold-append step w a b ∙ ap (λ (x : World). fold step x b) h.after ∙ k.after;
  }

  -- one step more in front
  pub leads_first : (w u v : World) (o : Option Event) (es : List Event) → OneStep limits w o u → Leads limits u es v
      → Leads limits w (cons_option o es) v
  leads_first w u v None es h k = subst (λ (x : World). Leads limits x es v) h k
  leads_first w u v (Some e) es h k = record {
    follow = (h.0, subst (λ (x : World). Follow limits x es) (sym h.1) k.follow);
    after = ap (λ (x : World). fold step x es) h.1 ∙ k.after;
  }

  -- The events of the elements of a list, some of which have none: G is the world once the elements of a front are treated.
  module _ {X : Type 0} (f : X → Option Event) (G : List X → World) (all : List X)
      (each : (front : List X) (x : X) (rest : List X) → all ≡ front ++ x ∷ rest → OneStep limits (G front) (f x) (G (front ++ x ∷ []))) where
    leads_from : (front rest : List X) → all ≡ front ++ rest → Leads limits (G front) (filter_map f rest) (G all)
    leads_from front [] e = subst (λ xs. Leads limits (G front) [] (G xs)) (sym (e ∙ append-nil front)) (leads_nowhere (G front))
    leads_from front (x ∷ rest) e = leads_first (G front) (G (front ++ x ∷ [])) (G all) (f x) (filter_map f rest) (each front x rest e)
        (leads_from (front ++ x ∷ []) rest (e ∙ sym (append_assoc front (x ∷ []) rest)))

    pub leads_through : Leads limits (G []) (filter_map f all) (G all)
    leads_through = leads_from [] all refl

  -- for a range of numbers: G is the world once the numbers below are treated
  module _ (f : ℕ → Option Event) (G : ℕ → World) (all : ℕ) (each : (k : ℕ) → k < all → OneStep limits (G k) (f k) (G (k + 1))) where
    leads_in_range : (k n : ℕ) → k + n ≡ all → Leads limits (G k) (filter_map f (range_with_len k n)) (G all)
    leads_in_range k zero e = subst (λ j. Leads limits (G k) [] (G j)) (omega (arith, e)) (leads_nowhere (G k))
    leads_in_range k (suc n) e = leads_first (G k) (G (k + 1)) (G all) (f k) (filter_map f (range_with_len (k + 1) n)) (each k (omega (arith, e)))
        (leads_in_range (k + 1) n (omega (arith, e)))

    pub leads_over : Leads limits (G 0) (filter_map f (range_with_len 0 all)) (G all)
    leads_over = leads_in_range 0 all (omega arith)
