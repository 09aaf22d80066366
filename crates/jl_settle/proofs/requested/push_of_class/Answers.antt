use Rattle.std.specs.Prelude.{◌≡◌, List, slice_get, option_copied}
use Rattle.std.proofs.Common.{sym, ap, ◌∙◌}
use Rattle.jl_class.specs.Class.{Method}
use Rattle.jl_types.specs.Values.Members.{methods_of}
use Rattle.jl_hierarchy.proofs.Rising.{has}
use Rattle.jl_settle.proofs.RequestedLaws.{no_method, class_methods, method_listed, all_methods}
use Rattle.jl_settle.proofs.requested.push_of_class.Goals as goal

pub loop-method-init : goal.loop-method-init
loop-method-init c = λ s. no_method c.args.classes.now c.args.class (has s c.args.sites.now.items) c.args.places.now s

pub loop-method-preserved : goal.loop-method-preserved
loop-method-preserved c = λ s.
    let methods : methods_of c.args.classes.now c.args.class ≡ c.methods-methods.result =
    class_methods c.args.classes.now c.args.class c.in-Some.row.now (sym c.class_at.ensures.found ∙ ap option_copied c.in-Some.is)
    ∙ sym (c.methods-methods.ensures.methods ∙ ap (λ f. f.methods) c.file.ensures) in
    method_listed (has s c.args.sites.now.items) (has s c.loop-method.sites.items) (has s c.push_of_method.new.sites.items)
    c.args.classes.now c.args.class c.loop-method.number c.in-Some-at.method c.args.places.now s
    (ap (λ (ms : List Method). slice_get ms c.loop-method.number) methods ∙ sym c.at.ensures ∙ c.in-Some-at.is)
    (c.in_ok-push_of_method.ensures s) (c.loop-method.invariant s)

pub returns : goal.returns
returns c = λ s.
    let methods : methods_of c.args.classes.now c.args.class ≡ c.methods-methods.result =
    class_methods c.args.classes.now c.args.class c.in-Some.row.now (sym c.class_at.ensures.found ∙ ap option_copied c.in-Some.is)
    ∙ sym (c.methods-methods.ensures.methods ∙ ap (λ f. f.methods) c.file.ensures) in
    all_methods c.args.classes.now c.args.class (has s c.args.sites.now.items) (has s c.loop-method.sites.items) c.loop-method.number
    c.args.places.now s
    (ap (λ (ms : List Method). slice_get ms c.loop-method.number) methods ∙ sym c.at.ensures ∙ c.in_default-at.is)
    (c.loop-method.invariant s)
