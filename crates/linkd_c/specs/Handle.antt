-- What lies at a handle.
use base.Fml.{Fml, ftrue, fsep, fex}
use prog.Memory.{size, align}
use denote.Memory.{lone}
use Rattle.std.specs.Prelude.{ℕ, List, Option}
use Rattle.std.specs.Ptr.{Ptr, points_to, uninit_at}
use Rattle.jl_host.specs.Linkers.{Opened}
use Rattle.jl_host.specs.Seats.{SeatView}
use Rattle.jl_host.specs.contracts.linker.Linker.{the_row}
use Rattle.jl_host.specs.contracts.seat.Seat.{the_row as seat_row}
use Rattle.jl_host.specs.contracts.memo.Memo.{the_row as memo_row}
use Rattle.jl_host.specs.contracts.view.View.{the_row as view_row}
use Rattle.jl_host.specs.contracts.renewal.Renewal.{the_row as renewal_row}
use Rattle.jl_host.specs.Renewing.{Renewing}
use Rattle.jl_relink.specs.Preparations.{Snapshot}
use Rattle.jl_memo.specs.declared.set.Set.{Set}

-- ---- linkers

-- a linker at p that is open with this, or isn't open
abbrev pub linker_at : Ptr → Option Opened → Fml
linker_at p linker = points_to the_row p linker

-- a linker at p of which P holds
abbrev pub linker_left : Ptr → (Option Opened → Type 0) → Fml
linker_left p P = fex (Option Opened) (λ linker. fsep (linker_at p linker) (fex (P linker) (λ _. ftrue)))

-- two linkers of which P holds
abbrev pub renewed_left : Ptr → Ptr → (Option Opened × Option Opened → Type 0) → Fml
renewed_left p q P = fex (Option Opened × Option Opened) (λ s. fsep (fsep (linker_at p s.0) (linker_at q s.1)) (fex (P s) (λ _. ftrue)))

-- room for a linker at p
abbrev pub linker_room : Ptr → Fml
linker_room p = uninit_at the_row p

-- the bytes of a linker, and the number that its address is a multiple of
abbrev pub linker_bytes : ℕ
linker_bytes = size (lone the_row.mir)

abbrev pub linker_multiple : ℕ
linker_multiple = align (lone the_row.mir)

-- ---- seats

-- a seat at p that has seen this, or nothing
abbrev pub seat_at : Ptr → Option SeatView → Fml
seat_at p seat = points_to seat_row p seat

-- a seat at p of which P holds
abbrev pub seat_left : Ptr → (Option SeatView → Type 0) → Fml
seat_left p P = fex (Option SeatView) (λ seat. fsep (seat_at p seat) (fex (P seat) (λ _. ftrue)))

-- a seat and a linker of which P holds
abbrev pub both_left : Ptr → Ptr → (Option SeatView × Option Opened → Type 0) → Fml
both_left p q P = fex (Option SeatView × Option Opened) (λ s. fsep (fsep (seat_at p s.0) (linker_at q s.1)) (fex (P s) (λ _. ftrue)))

-- room for a seat at p
abbrev pub seat_room : Ptr → Fml
seat_room p = uninit_at seat_row p

-- the bytes of a seat, and the number that its address is a multiple of
abbrev pub seat_bytes : ℕ
seat_bytes = size (lone seat_row.mir)

abbrev pub seat_multiple : ℕ
seat_multiple = align (lone seat_row.mir)

-- ---- memos

-- a memo at p that remembers this, or isn't open
abbrev pub memo_at : Ptr → Option (List Set) → Fml
memo_at p memo = points_to memo_row p memo

-- a memo at p of which P holds
abbrev pub memo_left : Ptr → (Option (List Set) → Type 0) → Fml
memo_left p P = fex (Option (List Set)) (λ memo. fsep (memo_at p memo) (fex (P memo) (λ _. ftrue)))

-- a memo and a linker of which P holds
abbrev pub asked_left : Ptr → Ptr → (Option (List Set) × Option Opened → Type 0) → Fml
asked_left p q P = fex (Option (List Set) × Option Opened) (λ s. fsep (fsep (memo_at p s.0) (linker_at q s.1)) (fex (P s) (λ _. ftrue)))

-- a seat and a memo of which P holds
abbrev pub called_left : Ptr → Ptr → (Option SeatView × Option (List Set) → Type 0) → Fml
called_left p q P = fex (Option SeatView × Option (List Set)) (λ s. fsep (fsep (seat_at p s.0) (memo_at q s.1)) (fex (P s) (λ _. ftrue)))

-- room for a memo at p
abbrev pub memo_room : Ptr → Fml
memo_room p = uninit_at memo_row p

-- the bytes of a memo, and the number that its address is a multiple of
abbrev pub memo_bytes : ℕ
memo_bytes = size (lone memo_row.mir)

abbrev pub memo_multiple : ℕ
memo_multiple = align (lone memo_row.mir)

-- ---- views

-- a view at p that has seen this, or nothing
abbrev pub view_at : Ptr → Option Snapshot → Fml
view_at p view = points_to view_row p view

-- a view at p of which P holds
abbrev pub view_left : Ptr → (Option Snapshot → Type 0) → Fml
view_left p P = fex (Option Snapshot) (λ view. fsep (view_at p view) (fex (P view) (λ _. ftrue)))

-- a view and a linker of which P holds
abbrev pub taken_left : Ptr → Ptr → (Option Snapshot × Option Opened → Type 0) → Fml
taken_left p q P = fex (Option Snapshot × Option Opened) (λ s. fsep (fsep (view_at p s.0) (linker_at q s.1)) (fex (P s) (λ _. ftrue)))

-- room for a view at p
abbrev pub view_room : Ptr → Fml
view_room p = uninit_at view_row p

-- the bytes of a view, and the number that its address is a multiple of
abbrev pub view_bytes : ℕ
view_bytes = size (lone view_row.mir)

abbrev pub view_multiple : ℕ
view_multiple = align (lone view_row.mir)

-- ---- renewals

-- a renewal at p that has this, or hasn't begun
abbrev pub renewal_at : Ptr → Option Renewing → Fml
renewal_at p renewal = points_to renewal_row p renewal

-- a renewal at p of which P holds
abbrev pub renewal_left : Ptr → (Option Renewing → Type 0) → Fml
renewal_left p P = fex (Option Renewing) (λ renewal. fsep (renewal_at p renewal) (fex (P renewal) (λ _. ftrue)))

-- a renewal and a linker of which P holds
abbrev pub begun_left : Ptr → Ptr → (Option Renewing × Option Opened → Type 0) → Fml
begun_left p q P = fex (Option Renewing × Option Opened) (λ s. fsep (fsep (renewal_at p s.0) (linker_at q s.1)) (fex (P s) (λ _. ftrue)))

-- a renewal and two linkers of which P holds
abbrev pub finished_left : Ptr → Ptr → Ptr → (Option Renewing × Option Opened × Option Opened → Type 0) → Fml
finished_left p q r P = fex (Option Renewing × Option Opened × Option Opened)
    (λ s. fsep (fsep (fsep (renewal_at p s.0) (linker_at q s.1)) (linker_at r s.2)) (fex (P s) (λ _. ftrue)))

-- room for a renewal at p
abbrev pub renewal_room : Ptr → Fml
renewal_room p = uninit_at renewal_row p

-- the bytes of a renewal, and the number that its address is a multiple of
abbrev pub renewal_bytes : ℕ
renewal_bytes = size (lone renewal_row.mir)

abbrev pub renewal_multiple : ℕ
renewal_multiple = align (lone renewal_row.mir)
