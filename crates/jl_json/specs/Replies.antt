-- The answer to an accepted event, as JSON: what it gave a number to, and the sites that lost their link.
use Rattle.std.specs.Prelude.{ℕ, List, map, codes}
use Rattle.serde_json.specs.Data.{Data, array, object, no_members, member}
use Rattle.serde_json.specs.View.{items_of}
use Rattle.jl_types.specs.declared.event.Made.{Made}
use Rattle.jl_types.specs.declared.event.Made.TheVariants.{Nothing, Loader, Class, Site, CallSite, Switch}
use Rattle.jl_types.specs.declared.event.Reply.{Reply}
use Rattle.jl_json.specs.ClassAnswers.{number_data}
use Rattle.jl_json.specs.LinkAnswers.{single}

abbrev pub numbers_data : List ℕ → Data
numbers_data numbers = array (items_of (map number_data numbers))

-- keys stand in byte order
abbrev pub made_data : Made → Data → Data
made_data Nothing dropped = single (codes "dropped") dropped
made_data (Loader n) dropped =
    object (member (codes "dropped") dropped (member (codes "loader") (number_data n) no_members))
made_data (Class n) dropped =
    object (member (codes "class") (number_data n) (member (codes "dropped") dropped no_members))
made_data (Site n) dropped =
    object (member (codes "dropped") dropped (member (codes "site") (number_data n) no_members))
made_data (CallSite n) dropped =
    object (member (codes "callsite") (number_data n) (member (codes "dropped") dropped no_members))
made_data (Switch n) dropped =
    object (member (codes "dropped") dropped (member (codes "switch") (number_data n) no_members))

unfoldable pub reply_data : Reply → Data
reply_data reply = made_data reply.made (numbers_data reply.dropped)
