-- The retirement of loaders with all that they have defined (JLS 12.7, JVMS 5.3): a class goes only with its defining loader. Loaders
-- that go at once may need each other.
use Rattle.std.specs.Prelude.{◌≡◌, ℕ, Bool, true, false, not, ◌&&◌, ◌||◌, ◌==◌, List, [], ◌∷◌, ◌++◌, find, filter, fold, position, length}
use Rattle.std.specs.Prelude.{slice_get, slice_set, Option, None, option_map, if◌then◌else◌}
use Rattle.std.specs.Option.{option_map_or}
use Rattle.std.specs.List.{list_any, range_with_len}
use Rattle.std.specs.Bool.{then_some}
use Rattle.jl_types.specs.declared.refusal.RetireFault.{RetireFault}
use Rattle.jl_types.specs.declared.refusal.RetireFault.TheVariants.{UnknownLoader, FirstLoader, Inherited, Recorded, Targeted}
use Rattle.jl_types.specs.Values.Target.{Target, Method, Guard, Invoker}
use Rattle.jl_types.specs.Values.World.{World, Classes, CallSite}
use Rattle.jl_types.specs.Values.Members.{class_test, is_present, numbers}
use Rattle.jl_types.specs.Values.Ancestry.{ancestors, receivers}
use Rattle.jl_types.specs.Linkage.Resolution.{first_of}
use Rattle.jl_types.specs.Events.Definitions.{is_unknown}

-- the loader is one of these
abbrev pub is_listed : List ℕ → ℕ → Bool
is_listed loaders loader = list_any (λ l. l == loader) loaders

-- the loader has defined the class
abbrev pub is_of : Classes → ℕ → ℕ → Bool
is_of cs loader c = class_test (λ row. row.loader == loader) cs c

-- one of the loaders has defined the class
abbrev pub is_of_any : Classes → List ℕ → ℕ → Bool
is_of_any cs loaders c = class_test (λ row. is_listed loaders row.loader) cs c

-- ---- why a loader isn't retired, if all of these go at once

-- x is a present class of a loader that stays, and has an ancestor in this loader
abbrev pub inherits_from : Classes → List ℕ → ℕ → ℕ → Bool
inherits_from cs loaders loader x =
    is_present cs x && (not (is_of_any cs loaders x) && list_any (is_of cs loader) (ancestors cs.rows x))

-- k is a loader that stays, and records a class of this loader; a retired loader records none
abbrev pub records_from : Classes → List ℕ → ℕ → ℕ → Bool
records_from cs loaders loader k =
    not (is_listed loaders k) && option_map_or (list_any (λ r. is_of cs loader r.1)) (slice_get cs.loaders k) false

-- the call site isn't released, and the test holds of its target
abbrev pub has_target : (Target → Bool) → Option CallSite → Bool
has_target test row = option_map_or (λ site. test site.target) row false

-- the target names a method of a class of the loader, even if only on a side that isn't taken
abbrev pub names_from : Classes → ℕ → Target → Bool
names_from cs loader (Method m) = is_of cs loader m.class
names_from cs loader (Guard p first fallback) = names_from cs loader first || names_from cs loader fallback
names_from cs loader (Invoker c) = false

-- the first fault of the classes alone; of one kind, that of the least class or loader
abbrev pub classes_fault : Classes → List ℕ → ℕ → Option RetireFault
classes_fault cs loaders loader = first_of (
    then_some (is_unknown cs loader) UnknownLoader
    ∷ then_some (loader == 0) FirstLoader
    ∷ option_map Inherited (find (inherits_from cs loaders loader) (numbers cs))
    ∷ option_map Recorded (find (records_from cs loaders loader) (range_with_len 0 (length cs.loaders)))
    ∷ [])

-- the least call site whose target names a method of a class of the loader
abbrev pub targeted : Classes → List (Option CallSite) → ℕ → Option ℕ
targeted cs call_sites loader = position (has_target (names_from cs loader)) call_sites

-- the first fault of a retirement: the classes come before the targets
abbrev pub retire_fault : World → List ℕ → ℕ → Option RetireFault
retire_fault w loaders loader = first_of (
    classes_fault w.classes loaders loader
    ∷ option_map Targeted (targeted w.classes w.sites.call_sites loader)
    ∷ [])

-- by the classes alone, nothing speaks against a retirement of all of these at once
abbrev pub MayRetire : Classes → List ℕ → Type 0
MayRetire cs loaders = (l : ℕ) → is_listed loaders l ≡ true → classes_fault cs loaders l ≡ None

-- ---- what is left

-- these loaders find nothing any more
abbrev pub emptied : List (List (List ℕ × ℕ)) → List ℕ → List (List (List ℕ × ℕ))
emptied found loaders = fold (λ left l. slice_set left l []) found loaders

-- each of the loaders is among the retired ones, once
abbrev pub gone_with : List ℕ → List ℕ → List ℕ
gone_with gone loaders = fold (λ gone l. if is_listed gone l then gone else gone ++ l ∷ []) gone loaders

-- the loaders find nothing any more, and are gone with their classes
abbrev pub retired : Classes → List ℕ → Classes
retired cs loaders = record cs { loaders = emptied cs.loaders loaders; retired = gone_with cs.retired loaders }

-- the classes that lose a receiver, by rising number: the ancestors of the loaders' classes that objects may be of
abbrev pub losing_receivers : Classes → List ℕ → List ℕ
losing_receivers cs loaders = filter (λ c. list_any (is_of_any cs loaders) (receivers cs c)) (numbers cs)

-- the class of site s is one of the loaders'
abbrev pub retires_site : World → List ℕ → ℕ → Bool
retires_site w loaders s = option_map_or (λ place. is_of_any w.classes loaders place.class) (slice_get w.places s) false
