use Rattle.std.proofs.Common.{◌≡◌, sym, subst, refl, rules, length}
use Rattle.jl_report.proofs.GatherLaws.{HavePlaces, one_placed}
use Rattle.jl_report.proofs.defining.every_file.Goals as goal

pub loop-file-preserved : goal.loop-file-preserved
loop-file-preserved c =
    let files = c.args.files.items in
    let front = c.pop.new.self.items in
    let all = c.loop-file.all.items in
    let place : c.len-in-Some.result ≡ length front = search rules in
    subst (HavePlaces files front) (sym c.in_ok-push.ensures.items)
    (one_placed files front c.in-Some.file all (record { place = c.len-in-Some.result; file = c.in-Some.file })
    (subst (λ xs. HavePlaces files xs all) c.in-Some.ensures.items c.loop-file.invariant) place refl)
