-- A new value is written into the room.
use Rattle.linkd_c.proofs.Steps.{◌≡◌, [], ◌∷◌, refl, None, proved, leaves, full_share, id⊢, vunit, tables, ‵, raw, ◌⊛◌, prop, ◌$◌, ◌∵◌, !, qed, done, move}
use Rattle.linkd_c.proofs.Steps.{keep, drop, use2, split, join, fjoin, feq_i, rewrite, regoal, suffices, enter, of_opd, stop, no_more, returns, unit_lit}
use Rattle.linkd_c.proofs.Steps.{init, assigns, alloc_all, pass_all, free_all, look_at, get, through, sets, lands_as, WpFn, shows, Is, part_at, Ptr}
use Rattle.linkd_c.proofs.Steps.{block_ptr, in_a_block, rawptr_vals, rawptr_Tells, types_at, nothing, peeks, calls_at, lasts, alive, owns, all_give, all_go}
use Rattle.linkd_c.proofs.Steps.{answers, triple_of, framed, walk_of, part_in}
use Rattle.linkd_c.specs.Handle.{renewal_room}
use Rattle.jl_host.specs.contracts.renewal.Renewal.{the_row as R}
use Rattle.jl_host.proofs.renewal.Renewal.TheLaws.{the_row_laws}
use Rattle.linkd_c.specs.contracts.renewals.linkd_renewal_blank as f
use Rattle.linkd_c.proofs.renewals.linkd_renewal_blank.Statement.{statement}
use Rattle.linkd_c.proofs.renewals.linkd_renewal_blank.Code as code
use Rattle.jl_host.specs.contracts.renewal.Renewal.blank as g
use Rattle.jl_host.proofs.renewal.Renewal.blank.Met.{met}

pub linkd_renewal_blank_spec : {M : Type 1} → statement M
linkd_renewal_blank_spec 𝓤 𝓛 𝓜 𝓡 wired =
    let c = f.clauses 𝓛 𝓜.mem 𝓡.returns in let S = f.signature in let stayed = all_give S.params f.ended.kept in let W = walk_of 𝓛 f.ended stayed c in
    let 𝓣 = tables 𝓤 𝓛.H 𝓜 𝓡 𝓡.env in let G = triple_of 𝓛 g.signature (g.spec 𝓛 𝓜.mem 𝓡.returns) in
    proved 𝓛 f.ended stayed c 𝓜 𝓡 (all_go 𝓛 S.params f.ended.kept) f.Key.name code.function (code.unfolded 𝓤 𝓛.H 𝓜 𝓡 wired)
    (λ κs. (rawptr_vals, tt)) (λ κs. (rawptr_Tells, tt)) (λ κs qs bounds a x are.
    let y : Ptr → W.Ghost = λ p. ((κs, qs, bounds, (p, tt), (rawptr_vals p, tt)), x) in
    qed 𝓛 ((raw (alive 𝓛 S κs qs) ⊛ ‵ (owns (types_at S.params κs) a (y a.0).0.4)) ∷ ‵ (renewal_room a.0) ∷ []) ∵
    split ! $ move ! (1 ∷ []) $ drop ! $ move ! (1 ∷ []) $
    in_a_block ! a.0 (λ p. renewal_room p) (id⊢ 𝓤 _) (λ b o e.
    regoal ! (λ p. prop (WpFn 𝓤 𝓛.H 𝓣.C 𝓣.Λ code.function (W.args (y p)) (W.post (y p)))) e refl $
    enter ! _ _ _ _ _ $ alloc_all ! (λ l. pass_all ! refl ((tt, tt), tt) $
    sets ! (of_opd ! (get ! refl)) refl (tt, tt) $
    let z : G.Ghost = ((tt, tt, tt, tt, tt), tt) in
    nothing ! $ nothing ! $ join ! $ nothing ! $ move ! (1 ∷ 0 ∷ []) $ use2 𝓛 (raw (G.pre z)) (id⊢ 𝓤 _) $
    calls_at ! (framed 𝓤 𝓛.H 𝓜 𝓣) G (met 𝓤 𝓛 𝓜 𝓡 (code.calls-jl_host::renewal::Renewal::blank 𝓡.env wired)) z (no_more !) (λ v.
    answers ! tt g.signature (g.spec 𝓛 𝓜.mem 𝓡.returns) z v (λ (ws : Unit {0}). lasts g.ended z.0.0 z.0.3 ws) (λ h ws. h ≡ None) (λ h. id⊢ 𝓤 _) (λ h ws new.
    -- [nothing; the new value; nothing; the room; the tokens]
    drop ! $ peeks ! R (Is R) (shows 𝓛 R) h (v ∷ []) (λ is.
    let typed = ((the_row_laws.lawful 𝓛).typed h (v ∷ []) is).0 in lands_as ! refl refl typed $
    assigns ! (of_opd ! (get ! refl)) (through ! refl (stop !)) (init ! 2 refl typed) $
    move ! (2 ∷ 0 ∷ []) $ use2 𝓛 (‵ (part_at R full_share h b o)) (part_in 𝓛 R refl full_share h b o v) $
    rewrite ! 0 (λ (s : R.Denot). ‵ (part_at R full_share s b o)) new refl $
    sets ! (of_opd ! (unit_lit !)) refl (tt, tt) $
    feq_i ! _ (vunit ∷ []) _ refl $ nothing ! $ nothing ! $ fjoin ! $
    returns ! (look_at ! 0 refl) $ free_all ! refl $ keep ! (4 ∷ 0 ∷ 1 ∷ 2 ∷ []) $
    suffices ! _ (leaves 𝓛 f.ended stayed c (y (block_ptr b o)) vunit tt (tt, tt) (tt, tt)) $ done !))))))
