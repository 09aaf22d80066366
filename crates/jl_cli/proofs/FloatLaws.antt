-- No answer of a farm has a float, so its text is stated.
use Rattle.std.proofs.Common.{◌≡◌, ap, ℕ, List, [], ◌∷◌, Bool, true, false, ◌||◌, map, refl}
use Rattle.jl_types.specs.declared.limits.Limits.{Limits}
use Rattle.serde_json.specs.Data.{Data}
use Rattle.serde_json.specs.Written.{has_float, items_have_float}
use Rattle.serde_json.specs.View.{items_of}
use Rattle.jl_types.specs.Events.Entries.{Entry, events_of}
use Rattle.jl_types.specs.Events.History.{installed_links}
use Rattle.jl_json.specs.LinkAnswers.{site_links_data}
use Rattle.jl_json.specs.declared.command.Command.{Command}
use Rattle.jl_json.specs.declared.command.Command.TheVariants as command
use Rattle.jl_json.proofs.FloatLaws.{links_floats}
use Rattle.jl_session.proofs.FloatLaws.{event_floats, obeyed_floats}
use Rattle.jl_session.proofs.ObeyLaws.{line_so}
use Rattle.jl_farm.specs.declared.report.Report.{Report}
use Rattle.jl_cli.specs.Farms.{IsServed, IsNoInstall, IsCommandServed, IsLineServed}
use Rattle.jl_cli.specs.Farms.{report_data, reports_data, last_data}

-- ---- what a line is answered

module _ (limits : Limits) (old : List Entry) where
  command_floats : (asked : Command) (answer : Data) (new : List Entry) → IsCommandServed limits old asked answer new → has_float answer ≡ false
  command_floats (command.Apply asked) answer new is =
      obeyed_floats (IsServed limits) IsNoInstall old (λ e said _ so. event_floats so.outcome said so.said) (λ batch said _ so. ap has_float so.0)
      asked answer new is
  command_floats (command.Prepare sites) answer new is = ap has_float is.0
  command_floats (command.Call site recv) answer new is = ap has_float is.0
  command_floats command.Links answer new is = ap has_float is.0

  pub line_floats : (line : List ℕ) (answer : Data) (new : List Entry) → IsLineServed limits old line answer new → has_float answer ≡ false
  line_floats line answer new is =
      line_so (IsCommandServed limits) old (λ said _. has_float said ≡ false) command_floats (λ _ same. refl) answer new line is

-- ---- the last line

in_front : (b : Bool) → (b || false) ≡ false → b ≡ false
in_front true e = e
in_front false e = refl

names_floats : {K : Type 0} (reports : List (Report K)) → items_have_float (items_of (map report_data reports)) ≡ false
names_floats [] = refl
names_floats (report ∷ reports) = names_floats reports

reports_floats : {K : Type 0} (reports : List (Report K)) → has_float (reports_data reports) ≡ false
unfolding reports_data
reports_floats reports = names_floats reports

pub last_floats : {K : Type 0} (list : List Entry) (reports : List (Report K)) → has_float (last_data list reports) ≡ false
last_floats list reports =
    let links = in_front (has_float (site_links_data (installed_links (events_of list)))) (links_floats (installed_links (events_of list))) in
    rw (links, reports_floats reports) refl
