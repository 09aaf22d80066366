-- The elements of pages.
use Rattle.std.specs.Prelude.{◌≡◌, ◌++◌, ◌-◌, ℕ, List, length, replicate}
use Rattle.std.specs.List.{AllByRecursion}

-- each page has 256 elements
abbrev pub AreWhole : {T : Type 0} → List (List T) → Type 0
AreWhole pages = AllByRecursion (λ page. length page ≡ 256) pages

-- the listed pages, and after them the blank one, up to so many in all
abbrev pub all_pages : {T : Type 0} → List (List T) → List T → ℕ → List (List T)
all_pages pages blank count = pages ++ replicate (count - length pages) blank
