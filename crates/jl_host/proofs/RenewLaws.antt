-- How many numbers of what stays there are.
use Rattle.std.specs.Prelude.{◌≡◌, ◌+◌, ℕ, suc, Bool, true, false, List, [], ◌∷◌, length}
use Rattle.std.proofs.Common.{refl, ap, ◌∙◌}
use Rattle.std.proofs.lemmas.List.{length-map}
use Rattle.std.proofs.lemmas.List.FromFn.{length-map-range_with_len}
use Rattle.jl_types.specs.Values.World.{World}
use Rattle.jl_renewal.specs.declared.released.Released.{Released}
use Rattle.jl_renewal.specs.Numbers.{Numbers, numbered_from}
use Rattle.jl_renewal.specs.Staying.{numbers_of, staying_loaders, staying_classes, staying_sites, staying_call_sites, staying_switches}
use Rattle.jl_renewal.proofs.StayLaws.{call_sites_length, switches_length}
use Rattle.jl_host.specs.Renewals.{counts_of, counts_in}

-- ---- how many there are

-- there is a number, or none, for each
all_numbered : (k : ℕ) (stays : List Bool) → length (numbered_from k stays) ≡ length stays
all_numbered k [] = refl
all_numbered k (true ∷ stays) = ap suc (all_numbered (k + 1) stays)
all_numbered k (false ∷ stays) = ap suc (all_numbered k stays)

module _ (w : World) (released : Released) where
  all_counted : counts_in (numbers_of w released) ≡ counts_of w
  all_counted =
      let loaders = all_numbered 0 (staying_loaders w.classes) ∙ length-map-range_with_len _ 0 (length w.classes.loaders) in
      let classes = all_numbered 0 (staying_classes w.classes) ∙ length-map-range_with_len _ 0 (length w.classes.rows) in
      let sites = all_numbered 0 (staying_sites w.classes w.places) ∙ length-map w.places _ in
      let call_sites = all_numbered 0 (staying_call_sites w released) ∙ call_sites_length w released in
      let switches = all_numbered 0 (staying_switches w released) ∙ switches_length w released in
      λ i. record { loaders = loaders i; classes = classes i; sites = sites i; call_sites = call_sites i; switches = switches i }

  -- of numbers that are those of what stays
  pub counted : (n : Numbers) → n ≡ numbers_of w released → counts_in n ≡ counts_of w
  counted n is = ap counts_in is ∙ all_counted
