use Rattle.std.proofs.Common.{◌∙◌, ap, Some, option_map}
use Rattle.jl_json.specs.Members.{member_count}
use Rattle.jl_json.proofs.CommandLaws.{members_counted}
use Rattle.jl_json.proofs.command.member_count.Goals as goal

pub returns : goal.returns
returns c =
    ap Some (c.len.ensures.len ∙ members_counted c.in_ok-members.members.now.entries)
    ∙ ap (option_map member_count) c.in_ok-members.ensures
