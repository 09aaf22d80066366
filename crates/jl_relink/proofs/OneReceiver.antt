-- Whether a link stays once there is one receiver more is told by the link and by what the new receiver comes to.
use Rattle.std.specs.Prelude.{◌≡◌, ◌≢◌, ℕ, ◌&&◌, ◌||◌, nat_le, Bool, true, false, cond, List, [], ◌∷◌, ◌++◌, length, map, Ok, if◌then◌else◌}
use Rattle.std.specs.List.{list_all}
use Rattle.std.proofs.Common.{refl, ap, sym, subst, ◌∙◌, arith, length-append, inl, inr}
use Rattle.std.proofs.lemmas.Bool.{leb-true, leb-false, or_cases, or_left, or_right}
use Rattle.std.proofs.lemmas.Cmp.{nat_eq_equiv}
use Rattle.std.proofs.lemmas.List.Folds.{list_all-append}
use Rattle.jl_class.specs.Class.{ClassFile}
use Rattle.jl_types.specs.declared.answer.Outcome.{Outcome}
use Rattle.jl_types.specs.declared.answer.Outcome.TheVariants.{Run, Throws}
use Rattle.jl_types.specs.declared.event.EventOf.TheVariants as event
use Rattle.jl_types.specs.declared.link.Link.{Link}
use Rattle.jl_types.specs.declared.link.Link.TheVariants.{Fault, Plain, Direct, Table, Mega}
use Rattle.jl_types.specs.declared.link.TableKind.{TableKind}
use Rattle.jl_types.specs.declared.link.TableKind.TheVariants as table
use Rattle.jl_types.specs.Linkage.Links.{same_link}
use Rattle.jl_types.specs.ForProofs.SameLink.{link_decides}
use Rattle.jl_types.specs.Values.World.{World}
use Rattle.jl_types.specs.Values.Members.{is_concrete, is_private}
use Rattle.jl_types.specs.Values.Ancestry.{ancestors, is_ancestor, receivers}
use Rattle.jl_types.specs.Events.Verdict.{step}
use Rattle.jl_types.specs.Events.History.{is_link}
use Rattle.jl_types.specs.Linkage.Selection.{virtual_outcome}
use Rattle.jl_types.specs.Linkage.Stages.{Selector, ByVirtual, ByInterface, BySpecial, ResolvedCall, Stage, Waits, Fails, Calls, Selects, stage}
use Rattle.jl_types.specs.Linkage.Links.{runs, outcome, outcome_by, table_rows, table_or_mega, virtual_link, link_by, link_of, scratch}
use Rattle.jl_types.proofs.Bools.{any-map}
use Rattle.jl_types.proofs.Grown.{among_ancestors, receivers_after}
use Rattle.jl_types.proofs.Orders.{defined_good}
use Rattle.jl_resolve.proofs.Unchanged.{IsThere, private_stays}
use Rattle.jl_types.specs.declared.key.Key.{Key}
use Rattle.jl_types.specs.declared.key.Key.TheVariants as key
use Rattle.jl_types.specs.Events.Footprints.{same_key, has_key, meets, of_selector, of_stage, of_class, footprint, touches, stays_with}
use Rattle.jl_relink.specs.Laws.{IsInOrder, OneMore}
use Rattle.jl_relink.proofs.Untouched.{same_key_is, IsLater, AreThere, SiteKeeps, map_same, site_stays, outcome_same, receivers_there}
use Rattle.jl_resolve.proofs.Later.{step_stays}
use Rattle.jl_hierarchy.proofs.Closed.{closed_defined, present_still}
use Rattle.jl_relink.proofs.KeyLaws.{good, constant}

-- ---- links of rows

same_told : (a b : Link) → a ≡ b → same_link a b ≡ true
same_told a b e = (link_decides a b).1 e

others_told : (a b : Link) → a ≢ b → same_link a b ≡ false
others_told a b ne = by_test (same_link a b) refl
  where
    by_test : (t : Bool) → same_link a b ≡ t → t ≡ false
    by_test true is = absurd (ne ((link_decides a b).0 is))
    by_test false is = refl

rows_of : Link → List (ℕ × Outcome) → List (ℕ × Outcome)
rows_of (Table kind rows) other = rows
rows_of (Fault throwable) other = other
rows_of (Plain m) other = other
rows_of (Direct o) other = other
rows_of Mega other = other

-- a table with another number of rows is another link
not_longer : (kind : TableKind) (rows : List (ℕ × Outcome)) (row : ℕ × Outcome) → Table kind (rows ++ row ∷ []) ≢ Table kind rows
not_longer kind rows row e =
    let same : rows ++ row ∷ [] ≡ rows = cc in
    let sizes : length (rows ++ row ∷ []) ≡ length rows = ap length same in
    absurd (omega (arith, sizes, length-append rows (row ∷ [])))

of_rows : (kind : TableKind) (rows : List (ℕ × Outcome)) (x : ℕ) (o : Outcome)
    → same_link (table_or_mega kind (rows ++ (x, o) ∷ [])) (table_or_mega kind rows) ≡ stays_with (table_or_mega kind rows) o
of_rows kind rows x o = by_sizes (nat_le (length rows) 8) (nat_le (length (rows ++ (x, o) ∷ [])) 8) refl refl
  where
    by_sizes : (few still : Bool) → nat_le (length rows) 8 ≡ few → nat_le (length (rows ++ (x, o) ∷ [])) 8 ≡ still
        → same_link (if still then Table kind (rows ++ (x, o) ∷ []) else Mega) (if few then Table kind rows else Mega) ≡ stays_with
        (if few then Table kind rows else Mega) o
    by_sizes true true a b = others_told (Table kind (rows ++ (x, o) ∷ [])) (Table kind rows) (not_longer kind rows (x, o))
    by_sizes true false a b = others_told Mega (Table kind rows) (λ e. cc)
    by_sizes false true a b =
        let many = leb-false (length rows) 8 a in
        let few = leb-true (length (rows ++ (x, o) ∷ [])) 8 b in
        absurd (omega (arith, many, few, length-append rows ((x, o) ∷ [])))
    by_sizes false false a b = same_told Mega Mega refl

not_direct : (kind : TableKind) (rows : List (ℕ × Outcome)) (o : Outcome) → table_or_mega kind rows ≢ Direct o
not_direct kind rows o = by_size (nat_le (length rows) 8)
  where
    by_size : (few : Bool) → (if few then Table kind rows else Mega) ≢ Direct o
    by_size true e = cc
    by_size false e = cc

virtual_more : (rows : List (ℕ × Outcome)) (x : ℕ) (o : Outcome) → same_link (virtual_link (rows ++ (x, o) ∷ [])) (virtual_link rows) ≡ stays_with
    (virtual_link rows) o
virtual_more [] x (Throws throwable) = others_told (Table table.Virtual ((x, Throws throwable) ∷ [])) (Table table.Virtual [])
    (λ e. not_longer table.Virtual [] (x, Throws throwable) e)
virtual_more [] x (Run m) = others_told (Direct (Run m)) (Table table.Virtual []) (λ e. cc)
virtual_more ((y, Throws throwable) ∷ rows) x o = of_rows table.Virtual ((y, Throws throwable) ∷ rows) x o
virtual_more ((y, Run m) ∷ rows) x o =
    ap (λ (b : Bool). same_link (if b then Direct (Run m) else table_or_mega table.Virtual ((y, Run m) ∷ (rows ++ (x, o) ∷ [])))
    (virtual_link ((y, Run m) ∷ rows)))
    (list_all-append (λ (row : ℕ × Outcome). runs m row.1) rows ((x, o) ∷ []))
    ∙ by_all (list_all (λ row. runs m row.1) rows) (runs m o) refl
  where
    by_all : (all last : Bool) → runs m o ≡ last
        → same_link (if all && (last && true) then Direct (Run m) else table_or_mega table.Virtual ((y, Run m) ∷ (rows ++ (x, o) ∷ [])))
        (if all then Direct (Run m) else table_or_mega table.Virtual ((y, Run m) ∷ rows))
        ≡ stays_with (if all then Direct (Run m) else table_or_mega table.Virtual ((y, Run m) ∷ rows)) o
    by_all true true is = same_told (Direct (Run m)) (Direct (Run m)) refl ∙ sym is
    by_all true false is = others_told (table_or_mega table.Virtual ((y, Run m) ∷ (rows ++ (x, o) ∷ []))) (Direct (Run m))
        (not_direct table.Virtual ((y, Run m) ∷ (rows ++ (x, o) ∷ [])) (Run m)) ∙ sym is
    by_all false last is = of_rows table.Virtual ((y, Run m) ∷ rows) x o

map_append : {A B : Type 0} (f : A → B) (xs ys : List A) → map f (xs ++ ys) ≡ map f xs ++ map f ys
map_append f [] ys = refl
map_append f (x ∷ xs) ys = λ i. f x ∷ map_append f xs ys i

-- ---- a site that the new class touches

module _ (w : World) (order : IsInOrder w) (loader : ℕ) (file : ClassFile) (s : ℕ) where
  abbrev after : World
  after = step w (event.Define loader file)

  abbrev n : ℕ
  n = length w.classes.rows

  later : IsLater w after s
  later = record {
    good = good w order;
    stays = step_stays w (good w order) (event.Define loader file);
    constant = constant w order (event.Define loader file) (closed_defined w.classes (good w order) loader file order.classes.closed);
    present = λ place at is. present_still w.classes (good w order) loader file place.class is;
    places = λ place e. e;
    bindings = λ c e. e;
    runs = λ c listed m run. (run, refl);
  }

  -- the new class is the last receiver of the class that is named
  receiver_more : (c : ℕ) → has_key (of_class after.classes n) (key.Receivers c) ≡ true → receivers after.classes c ≡ receivers w.classes c ++ n ∷ []
  receiver_more c has =
      receivers_after w.classes (good w order).ordered loader file c
      ∙ ap (λ (b : Bool). receivers w.classes c ++ cond b (n ∷ []) []) (by_concrete (is_concrete after.classes n) refl has)
    where
      by_concrete : (b : Bool) → is_concrete after.classes n ≡ b → has_key (if b then map key.Receivers (ancestors after.classes.rows n) else [])
          (key.Receivers c) ≡ true
          → (is_concrete after.classes n && is_ancestor after.classes c n) ≡ true
      by_concrete false is h = cc
      by_concrete true is h =
          ap (λ (b : Bool). b && is_ancestor after.classes c n) is
          ∙ among_ancestors after.classes (defined_good w.classes (good w order) loader file).ordered c n
          ∙ sym (any-map (λ other. same_key other (key.Receivers c)) key.Receivers (ancestors after.classes.rows n))
          ∙ h

  module _ (i : ResolvedCall) (there : AreThere w.classes i) where
    rows_more : has_key (of_class after.classes n) (key.Receivers i.named) ≡ true
        → table_rows after.classes i ≡ table_rows w.classes i ++ (n, outcome after.classes i n) ∷ []
    rows_more has =
        ap (map (λ x. (x, outcome_by after.classes i i.selector x))) (receiver_more i.named has)
        ∙ map_append (λ x. (x, outcome_by after.classes i i.selector x)) (receivers w.classes i.named) (n ∷ [])
        ∙ ap (λ (rows : List (ℕ × Outcome)). rows ++ (n, outcome after.classes i n) ∷ [])
        (map_same (IsThere w.classes) (λ x. (x, outcome_by after.classes i i.selector x)) (λ x. (x, outcome_by w.classes i i.selector x))
        (λ x at. λ j. (x, outcome_same w after s later i there i.selector x at j)) (receivers w.classes i.named) (receivers_there w after s later i there))

    one : (b : Bool) → (b || false) ≡ true → b ≡ true
    one true h = refl
    one false h = cc

    by_selector : (selector : Selector) → meets (of_selector w.classes i selector) (of_class after.classes n) ≡ true
        → same_link (link_by after.classes i selector) (link_by w.classes i selector) ≡ stays_with (link_by w.classes i selector) (outcome after.classes i n)
    by_selector ByVirtual met =
        ap (λ (b : Bool). same_link (if b then Direct (virtual_outcome after.classes i.named i.method) else virtual_link (table_rows after.classes i))
        (link_by w.classes i ByVirtual))
        (private_stays w.classes after.classes later.stays later.good i.method there.method)
        ∙ by_flag (is_private w.classes i.method) met
      where
        by_flag : (b : Bool) → meets (if b then [] else key.Receivers i.named ∷ []) (of_class after.classes n) ≡ true
            → same_link (if b then Direct (virtual_outcome after.classes i.named i.method) else virtual_link (table_rows after.classes i))
            (if b then Direct (virtual_outcome w.classes i.named i.method) else virtual_link (table_rows w.classes i))
            ≡ stays_with (if b then Direct (virtual_outcome w.classes i.named i.method) else virtual_link (table_rows w.classes i)) (outcome after.classes i n)
        by_flag true met = cc
        by_flag false met =
            ap (λ (rows : List (ℕ × Outcome)). same_link (virtual_link rows) (virtual_link (table_rows w.classes i)))
            (rows_more (one (has_key (of_class after.classes n) (key.Receivers i.named)) met))
            ∙ virtual_more (table_rows w.classes i) n (outcome after.classes i n)
    by_selector ByInterface met =
        ap (λ (rows : List (ℕ × Outcome)). same_link (table_or_mega table.Interface rows) (table_or_mega table.Interface (table_rows w.classes i)))
        (rows_more (one (has_key (of_class after.classes n) (key.Receivers i.named)) met))
        ∙ of_rows table.Interface (table_rows w.classes i) n (outcome after.classes i n)
    by_selector BySpecial met = cc

  -- ---- its stage

  met_key : (footprint ks : List Key) → meets footprint ks ≡ true → (k : Key) × (has_key footprint k ≡ true) × (has_key ks k ≡ true)
  met_key [] ks h = cc
  met_key (first ∷ rest) ks h = elim (or_cases (has_key ks first) (meets rest ks) h) [
    | inl here ↦ (first, or_left (same_key first first) (has_key rest first) (same_itself first), here)
    | inr more ↦ (let r = met_key rest ks more in (r.0, or_right (same_key first r.0) (has_key rest r.0) r.1, r.2))
  ]
    where
      same_itself : (k : Key) → same_key k k ≡ true
      same_itself (key.Receivers c) = nat_eq_equiv.refl c
      same_itself (key.Target c) = nat_eq_equiv.refl c
      same_itself (key.Valid p) = nat_eq_equiv.refl p

  -- the keys of a new class are of receivers
  are_receivers : (k : Key) → has_key (of_class after.classes n) k ≡ true → (c : ℕ) × (k ≡ key.Receivers c)
  are_receivers k = by_concrete (is_concrete after.classes n)
    where
      by_list : (cs : List ℕ) → has_key (map key.Receivers cs) k ≡ true → (c : ℕ) × (k ≡ key.Receivers c)
      by_list [] h = cc
      by_list (c ∷ cs) h = elim (or_cases (same_key (key.Receivers c) k) (has_key (map key.Receivers cs) k) h) [
        | inl is ↦ (c, sym (same_key_is (key.Receivers c) k is))
        | inr more ↦ by_list cs more
      ]

      by_concrete : (b : Bool) → has_key (if b then map key.Receivers (ancestors after.classes.rows n) else []) k ≡ true → (c : ℕ) × (k ≡ key.Receivers c)
      by_concrete true h = by_list (ancestors after.classes.rows n) h
      by_concrete false h = cc

  -- the site looks at the receivers of some class
  looks : touches w (event.Define loader file) s ≡ true → (c : ℕ) × (has_key (of_stage w.classes (stage w s)) (key.Receivers c) ≡ true)
  looks touched =
      let r = met_key (footprint w s) (of_class after.classes n) touched in
      let c = are_receivers r.0 r.2 in
      (c.0, (site_stays w after s later).looks c.0 (ap (has_key (footprint w s)) (sym c.1) ∙ r.1))

  pub one_more : (l : Link) → touches w (event.Define loader file) s ≡ true → scratch w s ≡ Ok l → OneMore w loader file s l
  one_more l touched e =
      let at = looks touched in
      by_stage (stage w s) refl at.0 at.1 (site_stays w after s later) e
    where
      not_special : (i : ResolvedCall) (c : ℕ) (selector : Selector) → has_key (of_selector w.classes i selector) (key.Receivers c) ≡ true
          → selector ≢ BySpecial
      not_special i c ByVirtual h = λ e. cc
      not_special i c ByInterface h = λ e. cc
      not_special i c BySpecial h = cc

      by_stage : (t : Stage) → stage w s ≡ t → (c : ℕ) → has_key (of_stage w.classes t) (key.Receivers c) ≡ true
          → SiteKeeps w after t (stage after s) (footprint w s) (footprint after s) → link_of w.classes t ≡ Ok l → OneMore w loader file s l
      by_stage (Waits reason) is c h keeps linked = cc
      by_stage (Fails throwable) is c h keeps linked = cc
      by_stage (Calls m) is c h keeps linked = cc
      by_stage (Selects i) is c h keeps linked =
          let same : link_by w.classes i i.selector ≡ l = cc in
          let met : meets (of_selector w.classes i i.selector) (of_class after.classes n) ≡ true =
          ap (λ ks. meets ks (of_class after.classes n)) (sym (keeps.chosen i refl)) ∙ touched in
          record {
            invocation = i;
            before = is;
            selects = keeps.same refl;
            selector = not_special i c i.selector h;
            link =
                ap (λ (t : Stage). is_link (link_of after.classes t) l) (keeps.same refl)
                ∙ subst (λ (l : Link). same_link (link_by after.classes i i.selector) l ≡ stays_with l (outcome after.classes i n)) same
                (by_selector i keeps.there i.selector met);
            rests_on = keeps.keys refl;
          }
