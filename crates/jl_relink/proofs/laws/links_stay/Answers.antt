use Rattle.jl_relink.proofs.Staying.{new_loader_keeps, delegate_keeps, request_keeps, new_call_site_keeps, new_switch_keeps, bind_keeps, install_keeps}
use Rattle.jl_relink.proofs.laws.links_stay.Goals as goal

pub returns-clause-new_loader : goal.returns-clause-new_loader
returns-clause-new_loader c = new_loader_keeps

pub returns-clause-delegate : goal.returns-clause-delegate
returns-clause-delegate c = delegate_keeps

pub returns-clause-request : goal.returns-clause-request
returns-clause-request c = request_keeps

pub returns-clause-new_call_site : goal.returns-clause-new_call_site
returns-clause-new_call_site c = new_call_site_keeps

pub returns-clause-new_switch : goal.returns-clause-new_switch
returns-clause-new_switch c = new_switch_keeps

pub returns-clause-bind : goal.returns-clause-bind
returns-clause-bind c = bind_keeps

pub returns-clause-install : goal.returns-clause-install
returns-clause-install c = install_keeps
