-- Installs alone leave what there is to link as it is.
use Rattle.std.specs.Prelude.{◌≡◌, ◌⊎◌, ◌<◌, ◌≤◌, ℕ, Bool, true, false, if◌then◌else◌, List, [], ◌∷◌, ◌++◌, fold, drop, length}
use Rattle.std.specs.List.{list_all}
use Rattle.std.proofs.Common.{refl, ap, sym, ◌∙◌, arith, inl, inr, length-append}
use Rattle.std.proofs.lemmas.Bool.{and_parts, and_from, cases_lt}
use Rattle.std.proofs.lemmas.List.{map-append, drop-append-le, drop_all}
use Rattle.std.proofs.lemmas.List.Folds.{list_all-append}
use Rattle.std.proofs.lemmas.List.Sums.{fold-append}
use mathlib.Core.List.{IsPrefix}
use Rattle.jl_types.specs.Events.Event.{Event}
use Rattle.jl_types.specs.declared.event.EventOf.TheVariants as event
use Rattle.jl_types.specs.Values.World.{World}
use Rattle.jl_types.specs.Events.Entries.{Entry, events_of}
use Rattle.jl_types.specs.Events.Verdict.{step}
use Rattle.jl_types.specs.Events.History.{world_after}
use Rattle.jl_types.specs.Values.World.{nothing_yet}
use Rattle.jl_server.specs.History.{is_install, installs_alone}

-- an entry is an install
abbrev of_install : Entry → Bool
of_install entry = is_install entry.event

install_leaves : (w : World) (e : Event) → is_install e ≡ true → step w e ≡ w
install_leaves w event.NewLoader is = absurd cc
install_leaves w (event.Define loader file) is = absurd cc
install_leaves w (event.Delegate loader name to) is = absurd cc
install_leaves w (event.Request place) is = absurd cc
install_leaves w (event.NewCallSite kind ty t) is = absurd cc
install_leaves w (event.SetTarget c t) is = absurd cc
install_leaves w event.NewSwitch is = absurd cc
install_leaves w (event.Invalidate points) is = absurd cc
install_leaves w (event.Bind s c) is = absurd cc
install_leaves w (event.Install rows) is = refl
install_leaves w (event.Retire loader) is = absurd cc
install_leaves w (event.RetireAll loaders) is = absurd cc
install_leaves w (event.Release call_sites points) is = absurd cc

installs_leave : (w : World) (entries : List Entry) → list_all of_install entries ≡ true → fold step w (events_of entries) ≡ w
installs_leave w [] all = refl
installs_leave w (entry ∷ entries) all =
    let both = and_parts (is_install entry.event) (list_all of_install entries) all in
    ap (λ (v : World). fold step v (events_of entries)) (install_leaves w entry.event both.0) ∙ installs_leave w entries both.1

-- what goes on a list with installs alone has its world
pub same_world : (before after : List Entry) (n : ℕ) → IsPrefix before after → n ≤ length before → installs_alone n after ≡ true
    → world_after (events_of after) ≡ world_after (events_of before)
same_world before after n p le alone =
    let more = p.0 in
    let split : list_all of_install (drop n before ++ more) ≡ true =
    ap (list_all of_install) (sym (drop-append-le n before more le)) ∙ (ap (λ (es : List Entry). list_all of_install (drop n es)) p.1 ∙ alone) in
    let rest : list_all of_install more ≡ true =
    (and_parts (list_all of_install (drop n before)) (list_all of_install more) (sym (list_all-append of_install (drop n before) more) ∙ split)).1 in
    ap (λ (es : List Entry). world_after (events_of es)) (sym p.1)
    ∙ (ap world_after (map-append (λ (entry : Entry). entry.event) before more)
    ∙ (fold-append step nothing_yet (events_of before) (events_of more) ∙ installs_leave (world_after (events_of before)) more rest))

-- one more entry, where an install leaves since when there were installs alone, and any other event is the last but installs
alone_more : (b : Bool) (n : ℕ) (entries : List Entry) (entry : Entry) → b ≡ is_install entry.event → installs_alone n entries ≡ true
    → installs_alone (if b then n else length (entries ++ entry ∷ [])) (entries ++ entry ∷ []) ≡ true
alone_more false n entries entry is alone =
    ap (list_all of_install) (drop_all (length (entries ++ entry ∷ [])) (entries ++ entry ∷ []) (omega arith))
alone_more true n entries entry is alone = by_length (cases_lt (length entries) n)
  where
    by_length : (length entries < n) ⊎ (n ≤ length entries) → installs_alone n (entries ++ entry ∷ []) ≡ true
    by_length (inl lt) = ap (list_all of_install) (drop_all n (entries ++ entry ∷ []) (omega (arith, length-append entries (entry ∷ []))))
    by_length (inr le) =
        ap (list_all of_install) (drop-append-le n entries (entry ∷ []) le)
        ∙ (list_all-append of_install (drop n entries) (entry ∷ []) ∙ and_from (list_all of_install (drop n entries)) (list_all of_install (entry ∷ [])) alone
        (and_from (is_install entry.event) true (sym is) refl))

-- as the book comes by it
pub alone_next : (installs : Bool) (since after : ℕ) (entries next : List Entry) (entry : Entry) → next ≡ entries ++ entry ∷ []
    → installs ≡ is_install entry.event
    → after ≡ (if installs then since else length next) → installs_alone since entries ≡ true → installs_alone after next ≡ true
alone_next installs since after entries next entry grown is now alone =
    (λ i. installs_alone ((now ∙ ap (λ (es : List Entry). if installs then since else length es) grown) i) (grown i))
    ∙ alone_more installs since entries entry is alone
