-- What a counting reader or writer holds.
use Rattle.std.specs.Prelude.{ℕ}
use Rattle.jl_lines.specs.declared.counted.Counted.{Counted}

-- the reader or writer itself
abbrev pub inner_of : {T : Type 0} → Counted T → T
inner_of c = c.inner

-- how many reads there were
abbrev pub reads_of : {T : Type 0} → Counted T → ℕ
reads_of c = c.reads

-- how many calls failed
abbrev pub failures_of : {T : Type 0} → Counted T → ℕ
failures_of c = c.failures
