use Rattle.std.proofs.Common.{◌≡◌, ◌==◌, ◌&&◌, ◌||◌, ℕ, take}
use Rattle.jl_types.specs.declared.key.Key.{Key}
use Rattle.jl_types.specs.Events.Footprints.{has_key}
use Rattle.jl_deps.specs.Indexes.{form_eq}
use Rattle.jl_deps.specs.ForProofs.Lists.{listed}
use Rattle.jl_deps.specs.declared.form.Form.{Form}
use Rattle.jl_deps.proofs.lists.list_all.Given as goal

-- the site is listed under the keys so far, too
abbrev pub invariant-loop-key : goal.invariant-loop-key
invariant-loop-key l =
    (k : Key) (f : Form) (s : ℕ)
    → listed l.lists k f s ≡ ((((l.site == s) && form_eq l.form f) && has_key (take l.key-index l.keys) k) || listed l.fn.lists k f s)
