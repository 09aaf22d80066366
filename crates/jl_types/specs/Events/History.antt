-- Which links a list of accepted events leaves installed.
use Rattle.std.specs.Prelude.{◌≡◌, ℕ, zero, suc, Bool, true, false, ◌&&◌, ◌||◌, nat_le, ◌+◌, ◌<◌, ◌≤◌, ◌==◌, List, [], ◌∷◌, ◌++◌, take, length}
use Rattle.std.specs.Prelude.{filter, filter_map, slice_get, fold, Option, Some, None, option_map, Result, Ok, Err, is_some, is_none, if◌then◌else◌}
use Rattle.std.specs.Option.{option_map_or}
use Rattle.std.specs.List.{list_any, range_with_len}
use Rattle.jl_types.specs.declared.limits.Limits.{Limits}
use Rattle.jl_types.specs.declared.link.Link.{Link}
use Rattle.jl_types.specs.declared.answer.Unlinked.{Unlinked}
use Rattle.jl_types.specs.declared.event.Made.{Made}
use Rattle.jl_types.specs.declared.event.Reply.{Reply}
use Rattle.jl_types.specs.declared.refusal.Refusal.{Refusal}
use Rattle.jl_types.specs.Events.Event.{Event}
use Rattle.jl_types.specs.declared.event.EventOf.TheVariants as event
use Rattle.jl_types.specs.Linkage.Links.{same_link}
use Rattle.jl_types.specs.Values.World.{World, nothing_yet}
use Rattle.jl_types.specs.Linkage.Links.{scratch}
use Rattle.jl_types.specs.Events.Verdict.{verdict, step}

abbrev pub world_after : List Event → World
world_after h = fold step nothing_yet h

-- the site's link from scratch after the first n events
abbrev pub scratch_after : List Event → ℕ → ℕ → Result Link Unlinked
scratch_after h n s = scratch (world_after (take n h)) s

-- the event is an install with a row for the site
abbrev pub installs : ℕ → Event → Bool
installs s (event.Install rows) = list_any (λ row. row.0 == s) rows
installs s _ = false

abbrev pub installed_at : List Event → ℕ → ℕ → Bool
installed_at h k s = option_map_or (installs s) (slice_get h k) false

-- Some event installed the site, and in every world since then, to the last, the site's link from scratch is l.
pub record Settled (h : List Event) (s : ℕ) (l : Link) : Type 0 where
  pub since : ℕ
  pub installed : installed_at h since s ≡ true
  pub stayed : (n : ℕ) → since < n → n ≤ length h → scratch_after h n s ≡ Ok l

-- ---- whether a site is settled, as a test over every place of the list

abbrev pub is_link : Result Link Unlinked → Link → Bool
is_link (Ok now) l = same_link now l
is_link (Err reason) l = false

abbrev pub all_below : (ℕ → Bool) → ℕ → Bool
all_below p zero = true
all_below p (suc n) = p n && all_below p n

abbrev pub any_below : (ℕ → Bool) → ℕ → Bool
any_below p zero = false
any_below p (suc n) = p n || any_below p n

abbrev pub settled_since : List Event → ℕ → Link → ℕ → Bool
settled_since h s l since =
    installed_at h since s && all_below (λ n. nat_le n since || is_link (scratch_after h n s) l) (length h + 1)

abbrev pub settled : List Event → ℕ → Link → Bool
settled h s l = any_below (settled_since h s l) (length h)

-- ---- what is installed

abbrev pub installed_of : List Event → ℕ → Result Link Unlinked → Option Link
installed_of h s (Ok l) = if settled h s l then Some l else None
installed_of h s (Err reason) = None

-- the site's installed link: its link from scratch now, if it is settled with that
abbrev pub installed : List Event → ℕ → Option Link
installed h s = installed_of h s (scratch (world_after h) s)

-- the numbers of the requested sites, rising
abbrev pub site_numbers : List Event → List ℕ
site_numbers h = range_with_len 0 (length (world_after h).places)

-- each site that has an installed link, with it, by rising number
abbrev pub installed_links : List Event → List (ℕ × Link)
installed_links h = filter_map (λ s. option_map (λ l. (s, l)) (installed h s)) (site_numbers h)

abbrev pub replied : List ℕ → Result Made Refusal → Result Reply Refusal
replied dropped (Ok made) = Ok (record { made = made; dropped = dropped })
replied dropped (Err refusal) = Err refusal

-- what the event e drops after h, rising
abbrev pub dropped : List Event → Event → List ℕ
dropped h e = filter (λ s. is_some (installed h s) && is_none (installed (h ++ e ∷ []) s)) (site_numbers h)

-- the answer to the event after h: the first refusal, or what it gives a number to and what it drops
abbrev pub reply : Limits → List Event → Event → Result Reply Refusal
reply limits h e = replied (dropped h e) (verdict limits (world_after h) e)

-- ---- one event more

abbrev pub has_link : Option Link → Link → Bool
has_link None l = false
has_link (Some m) l = same_link m l

-- the link that one event more leaves, by whether the event installs the site, its link before, and its link from scratch afterwards
abbrev pub kept : Bool → Option Link → Result Link Unlinked → Option Link
kept installs_it before (Err reason) = None
kept installs_it before (Ok l) = if installs_it || has_link before l then Some l else None
