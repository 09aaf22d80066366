-- The elements of pages.
use Rattle.std.specs.Prelude.{◌≡◌, List, length}
use Rattle.std.specs.List.{AllByRecursion, flat_map}

-- page by page
abbrev pub elements : {T : Type 0} → List (List T) → List T
elements pages = flat_map (λ page. page) pages

-- each page has 64
abbrev pub AreFull : {T : Type 0} → List (List T) → Type 0
AreFull pages = AllByRecursion (λ page. length page ≡ 64) pages
