use Rattle.std.proofs.Common.{◌≡◌, ◌∙◌, sym, false, List, ℕ, ◌∷◌, ◌&&◌, Global, String, string_bytes, ap, Bool, Bor}
use Rattle.std.specs.List.{list_any}
use Rattle.std.specs.Str.{bytes_eq}
use Rattle.std.specs.Map.Iter.{deref}
use Rattle.std.proofs.lemmas.Map.Iter.{rest_more, rest_all}
use Rattle.jl_json.proofs.SketchLaws.{fit, entries_fit}
use Rattle.jl_json.proofs.sketch.are_among.Goals as goal

-- a key that is none of those named is the next
stops : (named : List (Bor (List ℕ))) (s t : List (String Global)) (key : String Global) (text : List ℕ)
    → s ≡ key ∷ t → text ≡ string_bytes key → list_any (λ n. bytes_eq text n.now) named ≡ false
    → fit named s ≡ false
stops named s t key text e same other =
    ap (fit named) e
    ∙ ap (λ (x : List ℕ). list_any (λ n. bytes_eq x n.now) named && fit named t) (sym same)
    ∙ ap (λ (b : Bool). b && fit named t) other

pub returns-then-not-is_among : goal.returns-then-not-is_among
returns-then-not-is_among c =
    sym (entries_fit c.args.named.now c.args.members.now.entries
    ∙ sym c.loop-key.invariant
    ∙ stops c.args.named.now c.loop-key.key-iterator c.next.new.self c.in-Some.key.now c.deref.result.now
    (rest_more deref c.loop-key.key-iterator c.next.new.self c.next.result c.in-Some.key c.in-Some.is c.next.ensures.steps)
    c.deref.ensures (sym c.is_among.ensures ∙ c.if-not-is_among.true))

pub returns : goal.returns
returns c =
    sym (entries_fit c.args.named.now c.args.members.now.entries
    ∙ sym c.loop-key.invariant
    ∙ ap (fit c.args.named.now)
    (rest_all deref c.loop-key.key-iterator c.next.new.self c.next.result c.in-None.is c.next.ensures.steps))
