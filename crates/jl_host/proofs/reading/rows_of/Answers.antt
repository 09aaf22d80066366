use Rattle.std.specs.Prelude.{◌≡◌, ℕ, take, Some, None}
use Rattle.std.proofs.Common.{rules, of_calls}
use Rattle.jl_types.specs.declared.link.Link.{Link}
use Rattle.jl_relink.proofs.BatchLaws.{zip_each}
use Rattle.jl_host.specs.declared.reading.LinkRow.{LinkRow}
use Rattle.jl_host.specs.Reading.{row_of}
use Rattle.jl_host.proofs.ReadingLaws.{all_read, first_is_none}
use Rattle.jl_host.proofs.reading.rows_of.Goals as goal

pub returns-in-Ok : goal.returns-in-Ok
returns-in-Ok c =
    all_read row_of c.args.rows.now c.fill.new.made.items
    (zip_each _ (λ (row : LinkRow) (read : ℕ × Link). row_of row ≡ Some read) (λ row read k. search (rules, of_calls)) c.args.rows.now c.fill.new.made.items
    c.in-Ok.ensures.made)

pub returns-in-Err : goal.returns-in-Err
returns-in-Err c =
    let first = c.in-Err.ensures.first in
    let none : row_of first.item ≡ None =
    let k = first.fails in
    search (rules, of_calls)
    in
    first_is_none row_of c.args.rows.now first.count first.made first.item
    (zip_each _ (λ (row : LinkRow) (read : ℕ × Link). row_of row ≡ Some read) (λ row read k. search (rules, of_calls)) (take first.count c.args.rows.now)
    first.made first.fine) first.next none
