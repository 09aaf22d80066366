-- Worked cores: what a log comes to, and which cores some events lead to.
use Rattle.std.specs.Prelude.{◌≡◌, ◌&&◌, ℕ, zero, suc, nat_lt, true, false, [], ◌∷◌, length, Some, None, Ok, Err}
use Rattle.std.proofs.Common.{refl, ap, sym, inl}
use Rattle.std.proofs.lemmas.Bool.{and_right}
use Rattle.std.proofs.lemmas.Option.{same_Some}
use Rattle.jl_types.specs.Events.Limits.{fixed}
use Rattle.jl_class.specs.Class.{ClassFile}
use Rattle.jl_class.specs.Flags.{extends_object}
use Rattle.jl_types.specs.declared.event.EventOf.TheVariants as event
use Rattle.jl_types.specs.declared.event.Made.TheVariants as made
use Rattle.jl_types.specs.Events.Event.{Event}
use Rattle.jl_types.specs.declared.event.Reply.{Reply}
use Rattle.jl_types.specs.declared.refusal.Refusal.TheVariants.{CallSite}
use Rattle.jl_types.specs.declared.refusal.CallSiteFault.TheVariants.{UnknownSwitch}
use Rattle.jl_types.specs.declared.refusal.PrepareFault.{PrepareFault}
use Rattle.jl_types.specs.declared.refusal.PrepareFault.TheVariants.{UnknownSite, BatchSize}
use Rattle.jl_types.specs.Events.Footprints.{bound}
use Rattle.jl_types.specs.Values.World.{Class, nothing_yet}
use Rattle.jl_types.specs.Events.History.{world_after}
use Rattle.jl_select.proofs.Constancy.{constant_itself}
use Rattle.jl_relink.specs.Laws.{has_read_file}
use Rattle.jl_relink.proofs.Loaders.{loader_constant}
use Rattle.jl_core.specs.State.{State, empty_core, events, world_of, links_of}
use Rattle.jl_core.specs.Installs.{HasInstalled}
use Rattle.jl_core.specs.Logs.{Entry, told, are_told, shown, AreToldThen}
use Rattle.jl_core.specs.Headline.{AreApplied}
use Rattle.jl_core.specs.WorkBounds.{most_of_last}

-- ---- no events

nothing_is_there : world_of (empty_core (fixed 9)) ≡ nothing_yet
nothing_is_there = refl

nothing_is_installed : links_of (empty_core (fixed 9)) ≡ []
nothing_is_installed = refl

-- ---- a loader, and then a switch point

abbrev loader_made : Reply
loader_made = record { made = made.Loader 1; dropped = [] }

abbrev switch_made : Reply
switch_made = record { made = made.Switch 0; dropped = [] }

abbrev first : State
first = record { limits = fixed 9; log = (event.NewLoader, loader_made) ∷ [] }

abbrev both : State
both = record { limits = fixed 9; log = (event.NewLoader, loader_made) ∷ (event.NewSwitch, switch_made) ∷ [] }

in_order : AreApplied (empty_core (fixed 9)) (event.NewLoader ∷ event.NewSwitch ∷ []) both
in_order = (
  first,
  Ok loader_made,
  record { answered = refl; logged = refl; constant = loader_constant nothing_yet.classes },
  (both, Ok switch_made, record { answered = refl; logged = refl; constant = constant_itself (world_of first).classes }, refl),
)

-- there is no switch point 1
refused_in_between : AreApplied both (event.Invalidate (1 ∷ []) ∷ []) both
refused_in_between = (both, Err (CallSite UnknownSwitch), (inl refl, refl), refl)

both_happened : events both ≡ event.NewLoader ∷ event.NewSwitch ∷ []
both_happened = refl

one_switch : (world_of both).sites.switches ≡ Some true ∷ []
one_switch = refl

two_loaders : (world_of both).classes.loaders ≡ [] ∷ [] ∷ []
two_loaders = refl

-- ---- links that are looked up and installed at once

some_none : (f : PrepareFault) → Some f ≡ None → ⊥
some_none f e = cc

module _ (after : State) (reply : Reply) where
  no_site_is_no_install : HasInstalled both [] after reply → ⊥
  no_site_is_no_install h = some_none BatchSize h.fine

  unknown_site_is_no_install : HasInstalled both (0 ∷ []) after reply → ⊥
  unknown_site_is_no_install h = some_none (UnknownSite 0) h.fine

-- ---- entries

module _ (row : Class) where
  abbrev defined : Entry
  defined = record { event = event.Define 3 0; reply = record { made = made.Class 0; dropped = [] } }

  shown_with_its_reply : shown (row ∷ []) (defined ∷ []) ≡ (event.Define 3 row.file, defined.reply) ∷ []
  shown_with_its_reply = refl

  each_has_to_tell : are_told [] (defined ∷ []) ≡ false
  each_has_to_tell = refl

-- the entry of a definition names the class that the event made, and none that came later
module _ (file : ClassFile) (reply : Reply) where
  abbrev of_class : ℕ → Entry
  of_class c = record { event = event.Define 0 c; reply = reply }

  abbrev twice : State
  twice = record { limits = fixed 9; log = (event.Define 0 file, reply) ∷ (event.Define 0 file, reply) ∷ [] }

  own_classes_are_told : AreToldThen twice (of_class 0 ∷ of_class 1 ∷ [])
  own_classes_are_told zero entry at =
      ap (told (world_after (event.Define 0 file ∷ [])).classes.rows) (sym (same_Some (of_class 0) entry at))
  own_classes_are_told (suc zero) entry at =
      ap (told (world_after (event.Define 0 file ∷ event.Define 0 file ∷ [])).classes.rows) (sym (same_Some (of_class 1) entry at))
  own_classes_are_told (suc (suc n)) entry at = cc

  later_class_is_not_there : told (world_after (event.Define 0 file ∷ [])).classes.rows (of_class 1) ≡ None
  later_class_is_not_there = refl

  later_class_is_not_told : AreToldThen twice (of_class 1 ∷ of_class 1 ∷ []) → ⊥
  later_class_is_not_told all = none_some (event.Define 0 file, reply) (all zero (of_class 1) refl)
    where
      none_some : (x : Event × Reply) → None ≡ Some x → ⊥
      none_some x e = cc

-- a file that was read has at most 65,535 methods, and where it is an interface's it extends java/lang/Object
module _ (file : ClassFile) (loader : ℕ) where
  files_of_too_many_methods : length file.methods ≡ 65536 → has_read_file (event.Define loader file) ≡ false
  files_of_too_many_methods many =
      and_right (extends_object file.flags file.superclass) (nat_lt (length file.methods) 65536) (ap (λ n. nat_lt n 65536) many)

  files_of_many_methods : extends_object file.flags file.superclass ≡ true → length file.methods ≡ 65535
      → has_read_file (event.Define loader file) ≡ true
  files_of_many_methods extends many = λ i. extends i && nat_lt (many i) 65536

  interfaces_of_another_superclass : extends_object file.flags file.superclass ≡ false → has_read_file (event.Define loader file) ≡ false
  interfaces_of_another_superclass other = λ i. other i && nat_lt (length file.methods) 65536

other_events_have_no_file : has_read_file event.NewLoader ≡ true
other_events_have_no_file = refl

-- ---- how many evaluations the last event may take

nothing_takes_nothing : most_of_last [] ≡ 0
nothing_takes_nothing = refl

module _ (e f g : Event) where
  first_takes_its_bound : most_of_last (e ∷ []) ≡ bound [] e
  first_takes_its_bound = refl

  last_takes_its_bound : most_of_last (e ∷ f ∷ g ∷ []) ≡ bound (e ∷ f ∷ []) g
  last_takes_its_bound = refl

-- of a point on which no link rests
point_takes_nothing : most_of_last (event.NewSwitch ∷ event.Invalidate (0 ∷ []) ∷ []) ≡ 0
point_takes_nothing = refl
