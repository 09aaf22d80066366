use Rattle.std.proofs.Common.{◌≡◌, ◌≤◌, ◌-◌, ◌||◌, ℕ, true, take, length}
use Rattle.jl_deps.specs.declared.form.Form.{Form}
use Rattle.jl_deps.specs.Ways.{has}
use Rattle.jl_deps.specs.ForProofs.Lists.{any_listed, stands_for}
use Rattle.jl_deps.proofs.GroupLaws.{in_group}
use Rattle.jl_deps.proofs.index.push_firsts.Given as goal

-- of the groups so far each is asked
abbrev pub invariant-loop-form : goal.invariant-loop-form
invariant-loop-form l = record {
  within : l.place ≤ length l.groups.entries;
  touched : (s : ℕ) → has s l.sites.items ≡ true → (has s l.fn.sites.items || any_listed (take l.place l.groups.entries) s) ≡ true;
  kept : (s : ℕ) → has s l.fn.sites.items ≡ true → has s l.sites.items ≡ true;
  all : (f : Form) (s : ℕ) → in_group (take l.place l.groups.entries) f s ≡ true → stands_for l.groups l.sites.items f s ≡ true;
}

abbrev pub decreases-loop-form : goal.decreases-loop-form
decreases-loop-form l = length l.groups.entries - l.place
