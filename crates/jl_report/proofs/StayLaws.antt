-- Rows whose links a further class doesn't drop.
use Rattle.std.proofs.Common.{◌≡◌, ◌∙◌, sym, ap, subst, refl, ◌&&◌, List, length, if◌then◌else◌}
use Rattle.std.specs.Prelude.{Bool, true, false, Option, Some, None, option_map, Result, Ok, Err, IsOk, is_ok}
use Rattle.std.specs.List.{list_any}
use Rattle.jl_class.specs.Class.{ClassFile}
use Rattle.jl_types.specs.declared.ids.Place.{Place}
use Rattle.jl_types.specs.declared.key.Key.{Key}
use Rattle.jl_types.specs.declared.link.Link.{Link}
use Rattle.jl_types.specs.declared.link.Link.TheVariants.{Fault, Plain, Direct, Table, Mega}
use Rattle.jl_types.specs.declared.answer.Unlinked.{Unlinked}
use Rattle.jl_types.specs.declared.refusal.NotLinkable.{NotLinkable}
use Rattle.jl_types.specs.declared.refusal.DefineFault.{DefineFault}
use Rattle.jl_types.specs.declared.refusal.Refusal.TheVariants as refusal
use Rattle.jl_types.specs.declared.event.EventOf.TheVariants as event
use Rattle.jl_types.specs.declared.event.Made.TheVariants as made
use Rattle.jl_types.specs.Values.World.{World, Classes}
use Rattle.jl_types.specs.Linkage.Links.{scratch}
use Rattle.jl_types.specs.Events.Definitions.{define_fault, defined}
use Rattle.jl_types.specs.Events.Limits.{fixed}
use Rattle.jl_types.specs.Events.Verdict.{verdict, unless}
use Rattle.jl_types.specs.Events.Footprints.{footprint, meets}
use Rattle.jl_types.specs.Events.History.{is_link}
use Rattle.jl_types.proofs.Installed.{is_link_decides}
use Rattle.jl_hierarchy.specs.Constancy.{AreInOrder, MayDefine}
use Rattle.jl_relink.specs.Laws.{IsInOrder, SiteStays}
use Rattle.jl_relink.specs.Placed.{asking}
use Rattle.jl_relink.proofs.KeyLaws.{untouched_stays}
use Rattle.jl_relink.proofs.OneReceiver.{one_more}
use Rattle.jl_report.specs.declared.row.Row.{Row}
use Rattle.jl_report.specs.declared.row.Finding.{Finding}
use Rattle.jl_report.specs.declared.row.Finding.TheVariants as finding
use Rattle.jl_report.specs.declared.invocation.Invocation.{Invocation}
use Rattle.jl_report.specs.Reports.{found, finding_in, rests_on, row_of}
use Rattle.jl_report.specs.Drops.{keys_of, row_now, now_without, now_changed, has_changing_link, may_grow, is_open}
use Rattle.jl_report.specs.Gathering.{most_classes}
use Rattle.jl_report.proofs.FinalLaws.{none_met, closed_keys}

found_is : (r : Result Link Unlinked) (l : Link) → found r ≡ finding.Linked l → r ≡ Ok l
found_is (Ok m) l e = cc
found_is (Err reason) l e = cc

module _ (cs : Classes) (file : ClassFile) (order : AreInOrder cs) (accepted : define_fault most_classes cs 0 file ≡ None) where
  abbrev after : Classes
  after = defined cs 0 file

  may_define : MayDefine cs 0 file
  may_define = record { most_classes = most_classes; accepted = accepted }

  in_order : (place : Place) → IsInOrder (asking cs place)
  in_order place = record { classes = order; points = refl }

  is_accepted : (place : Place) → IsOk (verdict (fixed 0) (asking cs place) (event.Define 0 file))
  is_accepted place =
      ap (λ (o : Option DefineFault). is_ok (unless (option_map refusal.Define o) (made.Class (length cs.rows)))) accepted

  module _ (place : Place) where
    abbrev old : World
    old = asking cs place

    abbrev new : World
    new = asking after place

    untouched : (l : Link) → meets (footprint old 0) (keys_of cs file) ≡ false → scratch old 0 ≡ Ok l → SiteStays old new 0 l
    untouched l none is = untouched_stays (fixed 0) old (in_order place) (event.Define 0 file) 0 l (is_accepted place) refl none is

    kept : (l : Link) → meets (footprint old 0) (keys_of cs file) ≡ true → scratch old 0 ≡ Ok l → is_link (scratch new 0) l ≡ true → SiteStays old new 0 l
    kept l met is same =
        let more = one_more old (in_order place) 0 file 0 l met is in
        record { link = (is_link_decides (scratch new 0) l).0 same; selects = more.selects ∙ sym more.before; rests_on = more.rests_on }

  module _ (invocation : Invocation) where
    abbrev place : Place
    place = invocation.place

    abbrev row : Row
    row = row_of cs invocation

    -- a row with a link
    linked : (never : Option NotLinkable) (l : Link) → finding_in (old place) never ≡ finding.Linked l → scratch (old place) 0 ≡ Ok l
    linked (Some reason) l e = cc
    linked None l e = found_is (scratch (old place) 0) l e

    same_finding : (never : Option NotLinkable) (l : Link) → finding_in (old place) never ≡ finding.Linked l → scratch (new place) 0 ≡ Ok l
        → finding_in (new place) never ≡ finding_in (old place) never
    same_finding (Some reason) l e is = cc
    same_finding None l e is = ap found (is ∙ sym (found_is (scratch (old place) 0) l e))

    -- with a link it rests on what its link rests on
    rests : (w : World) (f : Finding) (l : Link) → f ≡ finding.Linked l → rests_on w f ≡ footprint w 0
    rests w f l e = ap (rests_on w) e

    same_row : (l : Link) → row.finding ≡ finding.Linked l → SiteStays (old place) (new place) 0 l → row_of after invocation ≡ row
    same_row l e stays =
        let f = same_finding invocation.never l e stays.link in
        let r =
        rests (new place) (finding_in (new place) invocation.never) l (f ∙ e)
        ∙ stays.rests_on
        ∙ sym (rests (old place) (finding_in (old place) invocation.never) l e) in
        λ i. record { place = invocation.place; kind = invocation.kind; finding = f i; rests_on = r i }

    met_alike : (l : Link) → row.finding ≡ finding.Linked l → meets (footprint (old place) 0) (keys_of cs file) ≡ meets row.rests_on (keys_of cs file)
    met_alike l e = ap (λ (ks : List Key). meets ks (keys_of cs file)) (sym (rests (old place) row.finding l e))

    pub untouched_row : (l : Link) → row.finding ≡ finding.Linked l → meets row.rests_on (keys_of cs file) ≡ false → row_of after invocation ≡ row
    untouched_row l e none = same_row l e (untouched place l (met_alike l e ∙ none) (linked invocation.never l e))

    -- a row whose link isn't dropped
    pub undropped_row : (l : Link) → row.finding ≡ finding.Linked l → now_changed after (keys_of cs file) row ≡ None → row_of after invocation ≡ row
    undropped_row l e none = by_met (meets row.rests_on (keys_of cs file)) refl none
      where
        by_link : (b : Bool) → is_link (scratch (new place) 0) l ≡ b → (if b then None else Some (row_now after row)) ≡ None
            → is_link (scratch (new place) 0) l ≡ true
        by_link true is same = is
        by_link false is same = cc

        by_met : (b : Bool) → meets row.rests_on (keys_of cs file) ≡ b → (if b then now_without after row row.finding else None) ≡ None
            → row_of after invocation ≡ row
        by_met false is same = untouched_row l e is
        by_met true is same =
            let with_link : now_without after row (finding.Linked l) ≡ None = subst (λ f. now_without after row f ≡ None) e same in
            same_row l e
            (kept place l (met_alike l e ∙ is) (linked invocation.never l e) (by_link (is_link (scratch (new place) 0) l) refl with_link))

    -- ---- a row that isn't open

    if_none : (b : Bool) → (o : Option Row) → o ≡ None → (if b then o else None) ≡ None
    if_none true o e = e
    if_none false o e = refl

    mega : row.finding ≡ finding.Linked Mega → meets row.rests_on (keys_of cs file) ≡ true → now_without after row (finding.Linked Mega) ≡ None
    mega e met =
        ap (λ (b : Bool). if b then None else Some (row_now after row))
        (one_more (old place) (in_order place) 0 file 0 Mega (met_alike Mega e ∙ met) (linked invocation.never Mega e)).link

    by_meeting : row.finding ≡ finding.Linked Mega → (b : Bool) → meets row.rests_on (keys_of cs file) ≡ b
        → (if b then now_without after row (finding.Linked Mega) else None) ≡ None
    by_meeting e true met = mega e met
    by_meeting e false met = refl

    -- no link, or a megamorphic one
    unchanging : (f : Finding) → row.finding ≡ f → has_changing_link f ≡ false
        → (if meets row.rests_on (keys_of cs file) then now_without after row f else None) ≡ None
    unchanging (finding.Unlinked reason) is e = if_none (meets row.rests_on (keys_of cs file)) None refl
    unchanging (finding.NotLinkable reason) is e = if_none (meets row.rests_on (keys_of cs file)) None refl
    unchanging (finding.Linked Mega) is e = by_meeting is (meets row.rests_on (keys_of cs file)) refl
    unchanging (finding.Linked (Fault throwable)) is e = cc
    unchanging (finding.Linked (Plain m)) is e = cc
    unchanging (finding.Linked (Direct outcome)) is e = cc
    unchanging (finding.Linked (Table kind rows)) is e = cc

    pub unchanging_row : has_changing_link row.finding ≡ false → now_changed after (keys_of cs file) row ≡ None
    unchanging_row e = unchanging row.finding refl e

    unmet : (f : Finding) (ks : List Key) → list_any (may_grow cs) ks ≡ false
        → (if meets ks (keys_of cs file) then now_without after row f else None) ≡ None
    unmet f ks e =
        ap (λ (b : Bool). if b then now_without after row f else None)
        (none_met cs order 0 file may_define ks e)

    by_finding : (f : Finding) (ks : List Key) → row.finding ≡ f → row.rests_on ≡ ks → (has_changing_link f && list_any (may_grow cs) ks) ≡ false
        → (if meets ks (keys_of cs file) then now_without after row f else None) ≡ None
    by_finding (finding.Unlinked reason) ks is keys e = if_none (meets ks (keys_of cs file)) None refl
    by_finding (finding.NotLinkable reason) ks is keys e = if_none (meets ks (keys_of cs file)) None refl
    by_finding (finding.Linked Mega) ks is keys e =
        by_meeting is (meets ks (keys_of cs file)) (ap (λ (xs : List Key). meets xs (keys_of cs file)) keys)
    by_finding (finding.Linked (Fault throwable)) ks is keys e = unmet (finding.Linked (Fault throwable)) ks e
    by_finding (finding.Linked (Plain m)) ks is keys e = unmet (finding.Linked (Plain m)) ks e
    by_finding (finding.Linked (Direct outcome)) ks is keys e = unmet (finding.Linked (Direct outcome)) ks e
    by_finding (finding.Linked (Table kind rows)) ks is keys e = unmet (finding.Linked (Table kind rows)) ks e

    pub closed_row : is_open cs row ≡ false → now_changed after (keys_of cs file) row ≡ None
    closed_row e = by_finding row.finding row.rests_on refl refl e

    pub closed_stays : (l : Link) → row.finding ≡ finding.Linked l → is_open cs row ≡ false → row_of after invocation ≡ row
    closed_stays l linked e = undropped_row l linked (closed_row e)

    still_closed : (b : Bool) (ks : List Key) → (b && list_any (may_grow cs) ks) ≡ false → (b && list_any (may_grow after) ks) ≡ false
    still_closed true ks e = closed_keys cs order 0 file may_define ks e
    still_closed false ks e = refl

    pub remains_closed : (l : Link) → row.finding ≡ finding.Linked l → is_open cs row ≡ false → is_open after (row_of after invocation) ≡ false
    remains_closed l linked e = ap (is_open after) (closed_stays l linked e) ∙ still_closed (has_changing_link row.finding) row.rests_on e
