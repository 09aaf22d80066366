use Rattle.std.specs.Prelude.{◌++◌, ℕ, map}
use Rattle.std.proofs.Common.{sym, ap, ◌∙◌}
use Rattle.jl_types.specs.declared.link.Link.{Link}
use Rattle.jl_core.specs.ForProofs.Touched.{has}
use Rattle.jl_core.proofs.ReplayLaws.{install_untouched}
use Rattle.jl_core.proofs.catch_up.changed_sites.Goals as goal

pub returns-in_ok-sites-in-Install : goal.returns-in_ok-sites-in-Install
returns-in_ok-sites-in-Install c = λ e tells s none.
    install_untouched c.args.world.now c.args.ahead.now.classes.rows c.args.index.now e c.args.event.now c.in-Install.rows c.in-Install.is tells s
    (sym
    (ap (has s)
    (c.in_ok-sites-in-Install.ensures
    ∙ (λ i. c.new.ensures.items i ++ map (λ (row : ℕ × Link). row.0) (c.as_slice.ensures i))))
    ∙ none)
