-- What stays of a world, under new numbers.
use Rattle.std.specs.Prelude.{◌≡◌, ◌&&◌, ℕ, nat_le, Bool, true, not, ⊤, List, [], map, filter, filter_map, length, Option, option_map, Result, Ok, Err}
use Rattle.jl_types.specs.declared.ids.MethodId.{MethodId}
use Rattle.jl_types.specs.declared.ids.Place.{Place}
use Rattle.jl_types.specs.declared.answer.Answer.{Answer}
use Rattle.jl_types.specs.declared.answer.Answer.TheVariants as answer
use Rattle.jl_types.specs.declared.answer.Outcome.{Outcome}
use Rattle.jl_types.specs.declared.answer.Outcome.TheVariants.{Run, Throws}
use Rattle.jl_types.specs.declared.answer.Recv.{Recv}
use Rattle.jl_types.specs.declared.answer.Recv.TheVariants.{Null, Of}
use Rattle.jl_types.specs.declared.answer.Unlinked.{Unlinked}
use Rattle.jl_types.specs.declared.link.Link.{Link}
use Rattle.jl_types.specs.declared.link.Link.TheVariants.{Fault, Plain, Direct, Table, Mega}
use Rattle.jl_types.specs.Values.World.{World, Class, Classes, CallSite, is_missing}
use Rattle.jl_types.specs.Values.Members.{is_present}
use Rattle.jl_renewal.specs.declared.released.Released.{Released}
use Rattle.jl_renewal.specs.Numbers.{Numbers, staying, new_number, renumbered, renumbered_target}
use Rattle.jl_renewal.specs.Staying.{numbers_of, staying_loaders, staying_classes, staying_sites, is_in_staying_class, staying_call_sites, staying_switches}

-- ---- the world

abbrev pub renumbered_record : Numbers → List ℕ × ℕ → List ℕ × ℕ
renumbered_record n r = (r.0, renumbered n.classes r.1)

abbrev pub renumbered_class : Numbers → Class → Class
renumbered_class n row = record row {
  loader = renumbered n.loaders row.loader;
  superclass = option_map (renumbered n.classes) row.superclass;
  interfaces = map (renumbered n.classes) row.interfaces;
}

abbrev pub renumbered_place : Numbers → Place → Place
renumbered_place n place = record place { class = renumbered n.classes place.class }

abbrev pub renumbered_binding : Numbers → ℕ × ℕ → ℕ × ℕ
renumbered_binding n b = (renumbered n.sites b.0, renumbered n.call_sites b.1)

abbrev pub renumbered_call_site : Numbers → CallSite → CallSite
renumbered_call_site n site = record site { target = renumbered_target n site.target }

-- What stays of the world, under new numbers: what the loaders that stay find, their classes, the sites in these with their bindings, and
-- the call sites and switch points that stay. A site that was bound to a released call site is no longer bound.
abbrev pub renewed_by : Numbers → World → Released → World
renewed_by n w released = record {
  classes = record {
    loaders = map (map (renumbered_record n)) (staying (staying_loaders w.classes) w.classes.loaders);
    rows = map (renumbered_class n) (staying (staying_classes w.classes) w.classes.rows);
    retired = [];
  };
  places = map (renumbered_place n) (staying (staying_sites w.classes w.places) w.places);
  bindings = map (renumbered_binding n) (filter (λ b. is_in_staying_class w b.0 && not (is_missing w.sites.call_sites b.1)) w.bindings);
  sites = record {
    call_sites = map (option_map (renumbered_call_site n)) (staying (staying_call_sites w released) w.sites.call_sites);
    switches = staying (staying_switches w released) w.sites.switches;
  };
}

abbrev pub renewed : World → Released → World
renewed w released = renewed_by (numbers_of w released) w released

-- ---- links

abbrev pub renumbered_method : Numbers → MethodId → MethodId
renumbered_method n m = record m { class = renumbered n.classes m.class }

abbrev pub renumbered_outcome : Numbers → Outcome → Outcome
renumbered_outcome n (Run m) = Run (renumbered_method n m)
renumbered_outcome n (Throws throwable) = Throws throwable

abbrev pub renumbered_row : Numbers → ℕ × Outcome → ℕ × Outcome
renumbered_row n row = (renumbered n.classes row.0, renumbered_outcome n row.1)

abbrev pub renumbered_link : Numbers → Link → Link
renumbered_link n (Fault throwable) = Fault throwable
renumbered_link n (Plain m) = Plain (renumbered_method n m)
renumbered_link n (Direct outcome) = Direct (renumbered_outcome n outcome)
renumbered_link n (Table kind rows) = Table kind (map (renumbered_row n) rows)
renumbered_link n Mega = Mega

abbrev pub renumbered_result : Numbers → Result Link Unlinked → Result Link Unlinked
renumbered_result n (Ok l) = Ok (renumbered_link n l)
renumbered_result n (Err reason) = Err reason

-- the site with its link, both under new numbers, if the site stays
abbrev pub renumbered_at : Numbers → ℕ × Link → Option (ℕ × Link)
renumbered_at n row = option_map (λ s. (s, renumbered_link n row.1)) (new_number n.sites row.0)

-- the links of the sites that stay, under new numbers
abbrev pub renumbered_links : Numbers → List (ℕ × Link) → List (ℕ × Link)
renumbered_links n rows = filter_map (renumbered_at n) rows

-- a table has at most eight rows, like the table of each link from scratch
abbrev pub has_few_rows : Link → Bool
has_few_rows (Fault throwable) = true
has_few_rows (Plain m) = true
has_few_rows (Direct outcome) = true
has_few_rows (Table kind rows) = nat_le (length rows) 8
has_few_rows Mega = true

-- ---- calls

abbrev pub renumbered_answer : Numbers → Answer → Answer
renumbered_answer n (answer.Run m) = answer.Run (renumbered_method n m)
renumbered_answer n (answer.Throws throwable) = answer.Throws throwable
renumbered_answer n answer.BadReceiver = answer.BadReceiver
renumbered_answer n (answer.Unlinked reason) = answer.Unlinked reason

abbrev pub renumbered_receiver : Numbers → Recv → Recv
renumbered_receiver n Null = Null
renumbered_receiver n (Of x) = Of (renumbered n.classes x)

-- null, or an object of a present class
abbrev pub IsPresentReceiver : Classes → Recv → Type 0
IsPresentReceiver cs Null = ⊤
IsPresentReceiver cs (Of x) = is_present cs x ≡ true
