-- The link of a site from scratch: what is installed is one of these (polymorphic inline caches: Hölzle, Chambers and
-- Ungar 1991).
use Rattle.std.specs.Prelude.{ℕ, Bool, false, ◌&&◌, ◌==◌, nat_le, List, [], ◌∷◌, map, length, Result, Ok, Err, if◌then◌else◌}
use Rattle.std.specs.List.{list_all}
use Rattle.jl_types.specs.declared.ids.MethodId.{MethodId}
use Rattle.jl_types.specs.declared.answer.Outcome.{Outcome}
use Rattle.jl_types.specs.declared.answer.Outcome.TheVariants.{Run, Throws}
use Rattle.jl_types.specs.declared.answer.Unlinked.{Unlinked}
use Rattle.jl_types.specs.declared.link.Link.{Link}
use Rattle.jl_types.specs.declared.link.Link.TheVariants.{Fault, Plain, Direct, Table, Mega}
use Rattle.jl_types.specs.declared.link.TableKind.{TableKind}
use Rattle.jl_types.specs.declared.link.TableKind.TheVariants as table
use Rattle.jl_types.specs.contracts.link.LinkPartialEq.TheImpl as equal_links
use Rattle.jl_types.specs.Values.World.{World, Classes}
use Rattle.jl_types.specs.Values.Members.{is_private}
use Rattle.jl_types.specs.Values.Ancestry.{receivers}
use Rattle.jl_types.specs.Linkage.Selection.{virtual_outcome, interface_outcome, special_outcome}
use Rattle.jl_types.specs.Linkage.Stages.{Selector, ByVirtual, ByInterface, BySpecial, ResolvedCall, Stage, Waits, Fails, Calls, Selects, stage}

-- ---- the outcome of an invocation for a receiver of class x

abbrev pub outcome_by : Classes → ResolvedCall → Selector → ℕ → Outcome
outcome_by cs i ByVirtual x = virtual_outcome cs x i.method
outcome_by cs i ByInterface x = interface_outcome cs x i.named i.method
outcome_by cs i BySpecial x = special_outcome cs i.caller i.named i.ref

abbrev pub outcome : Classes → ResolvedCall → ℕ → Outcome
outcome cs i x = outcome_by cs i i.selector x

-- ---- links

-- every receiver of the named class with its outcome
abbrev pub table_rows : Classes → ResolvedCall → List (ℕ × Outcome)
table_rows cs i = map (λ x. (x, outcome cs i x)) (receivers cs i.named)

abbrev pub table_or_mega : TableKind → List (ℕ × Outcome) → Link
table_or_mega kind rows = if nat_le (length rows) 8 then Table kind rows else Mega

abbrev pub runs : MethodId → Outcome → Bool
runs m (Run n) = (m.class == n.class) && (m.index == n.index)
runs m (Throws throwable) = false

-- at invokevirtual: if there are receivers and all run one method, the link is that method
abbrev pub virtual_link : List (ℕ × Outcome) → Link
virtual_link [] = Table table.Virtual []
virtual_link ((x, Throws throwable) ∷ rows) = table_or_mega table.Virtual ((x, Throws throwable) ∷ rows)
virtual_link ((x, Run m) ∷ rows) =
    if list_all (λ row. runs m row.1) rows then Direct (Run m) else table_or_mega table.Virtual ((x, Run m) ∷ rows)

abbrev pub link_by : Classes → ResolvedCall → Selector → Link
link_by cs i ByVirtual =
    if is_private cs i.method then Direct (virtual_outcome cs i.named i.method) else virtual_link (table_rows cs i)
link_by cs i ByInterface = table_or_mega table.Interface (table_rows cs i)
link_by cs i BySpecial = Direct (special_outcome cs i.caller i.named i.ref)

abbrev pub link_of : Classes → Stage → Result Link Unlinked
link_of cs (Waits reason) = Err reason
link_of cs (Fails throwable) = Ok (Fault throwable)
link_of cs (Calls m) = Ok (Plain m)
link_of cs (Selects i) = Ok (link_by cs i i.selector)

-- the link of site s from scratch, or why it has none
abbrev pub scratch : World → ℕ → Result Link Unlinked
scratch w s = link_of w.classes (stage w s)

-- whether two links are equal: the derived `==`
abbrev pub same_link : Link → Link → Bool
same_link = (equal_links.ghosts).eq
